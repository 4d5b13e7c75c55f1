-- A step that sends or cancels: what its sends and cancels leave of the clock record, and how it is judged with it (R-9). And how any step is shown.
use Rattle.std.proofs.Math.Path.{◌≡◌, sym}
use Rattle.std.specs.Prelude.{refl, Bool, true, false, ◌||◌, List, [], ◌∷◌, ◌++◌, ℕ, ◌+◌, ◌-◌, ◌*◌, ◌≤◌, ◌<◌, min, ltb, length, get_or, take, drop, set}
use Rattle.std.proofs.Common.{ap, subst, ◌∙◌, append-nil, arith, length-set, length-take-le, get_or-set_same, le-ltb}
use Rattle.std.proofs.Math.Seq.{drop-length}
use Rattle.definition.specs.declared.Mode.TheVariants.{Running}
use Rattle.definition.specs.declared.Answer.TheVariants.{Full}
use Rattle.definition.specs.Rows.{all}
use Rattle.definition.specs.Tables.{transition_count, chart_of}
use Rattle.follower.specs.Blocks.{Effect}
use Rattle.follower.specs.Clock.{Table}
use Rattle.follower.specs.Follower.{refusal_if}
use Rattle.laws.specs.Bools.{or_false, or_right}
use Rattle.matching.specs.Chosen.{ChosenIn}
use Rattle.paths.specs.Timing.{timers_of, all_times, effects_in}
use Rattle.clock.specs.Records.{clock_bytes, clock_in, ClockHolds, timer_known, Applied}
use Rattle.clock.specs.Spelled.{clock_length, holds_length}
use Rattle.effects.specs.declared.Tally.{Tally}
use Rattle.effects.specs.Trace.{times_few, Places, places, Wrote, wrote_length, wrote_joins}
use Rattle.effects.specs.Notes.{window_noted}
use Rattle.microstep.specs.Plan.{PlanReady, plan_effects, plan_few}
use Rattle.state.specs.State.{trace_with}
use Rattle.events.specs.Timers.{TimersStand}
use Rattle.rounds.specs.declared.Outcome.{Outcome}
use Rattle.rounds.specs.declared.Outcome.TheVariants.{Refused, Did}
use Rattle.rounds.specs.declared.Shown.{Shown}
use Rattle.rounds.specs.declared.Step.{Step}
use Rattle.rounds.specs.Turns.{judged, Hushed}
use Rattle.rounds.specs.Calls.{quiet_room, room_in, shown_of}
use Rattle.rounds.specs.Traces.{nothing, Filled, Unskipped, Noted, wrote_trace, wrote_noted, wrote_drafted, draft_copied}
use Rattle.rounds.specs.Judging.{Counted, wrote_counted, did_roomy}
use Rattle.rounds.specs.Taking.{step_takes, by_in, lent_taken}
use Rattle.rounds.specs.Windows.{table_left, clock_left, table_none, Reaches, reaches_none, reaches_all, window_known, reaches_full, reaches_next}

-- the effects of a step
abbrev pub step_effects : List ℕ → List ℕ → Step → List Effect
step_effects chart items step = plan_effects (chart_of chart) step.plan (by_in items) (step_takes items step)

-- ---- sends and cancels are applied

-- they were noted, as far as there was room, and the record is that of a running session
pub record TimersReady (names : List ℕ) (es : List Effect) (t : Tally) (notes clock : List ℕ) : Type 0 where
  pub stand : TimersStand names es
  pub noted : Noted notes t es
  pub few : all_times es ≤ 4294967295
  pub holds : ClockHolds Running clock

-- whether one has found no place; and if none, the record is the one that the definition leaves
pub record AppliedAll (names : List ℕ) (es : List Effect) (old new : List ℕ) (b : Bool) : Type 0 where
  pub full : b ≡ (table_left names old es).full
  pub left : b ≡ false → new ≡ clock_bytes (clock_left names old es)

-- a place for notes from number done on
pub record NoteRoom (notes : List ℕ) (done : ℕ) : Type 0 where
  pub size : 33 ≤ length notes
  pub fits : done ≤ 4294967295

pub record NotedFrom (es : List Effect) (done : ℕ) (old new : List ℕ) : Type 0 where
  pub size : length new ≡ length old
  pub window : (w : ℕ) → done + w ≤ all_times es → 33 + w * 2 ≤ length old → take (w * 2) (drop 33 new) ≡ take (w * 2) (drop (done * 2) (timers_of es))

pub noted_from : (es : List Effect) (done : ℕ) (old trace trace_now new : List ℕ) (t : Tally) → NoteRoom old done →
    Wrote (places trace (set old 32 done)) (places trace_now new) nothing t es → NotedFrom es done old new
noted_from es done old trace trace_now new t r w =
    let s : get_or (set old 32 done) 32 0 ≡ done = get_or-set_same old 32 done 0 (let l = r.size in omega arith) in
    record {
      size = wrote_joins _ _ nothing t es w ∙ length-set old 32 done;
      window = λ k l m.
          let n = length-set old 32 done in
          let q = r.size in
          window_noted _ _ t es w (omega arith) k (omega arith) (omega arith) ∙ ap (λ (d : ℕ). take (k * 2) (drop (d * 2) (timers_of es))) s;
    }

module _ (names : List ℕ) (es : List Effect) (t : Tally) (notes clock : List ℕ) (r : TimersReady names es t notes clock) where
  abbrev begun : Reaches names es clock clock 0
  begun = reaches_none names es r.stand clock r.holds

  -- the first window
  module _ (n : ℕ) (e : n ≡ min t.timers 8) where
    first_low : 0 + n ≤ all_times es
    first_low = let m = r.noted.timers in omega arith

    abbrev window : List ℕ
    window = take (33 + n * 2 - 33) (drop 33 notes)

    first_is : window ≡ take (n * 2) (drop (0 * 2) (timers_of es))
    first_is =
        let m = r.noted.timers in
        let z : 33 + n * 2 - 33 ≡ n * 2 = omega arith in
        ap (λ (k : ℕ). take k (drop 33 notes)) z ∙ r.noted.window n (omega arith) (omega arith)

    pub first_known : all (timer_known names) (effects_in window) ≡ true
    first_known = window_known names es r.stand clock r.holds clock 0 begun n first_low window first_is

    module _ (new : List ℕ) (b : Bool) (a : Applied names window clock new b) where
      pub first_full : b ≡ true → AppliedAll names es clock new true
      first_full e =
          record { full = sym (reaches_full names es r.stand clock r.holds clock 0 begun n first_low window first_is new b a e); left = λ z. let q : ◌≡◌ {A = ℕ} 0 1 = cc in absurd (omega arith) }

      pub first_next : b ≡ false → Reaches names es clock new n
      first_next e = subst (Reaches names es clock new) (let z : 0 + n ≡ n = omega arith in z) (reaches_next names es r.stand clock r.holds clock 0 begun n first_low window first_is new b a e)

      pub first_only : b ≡ false → t.timers ≤ 8 → AppliedAll names es clock new false
      first_only f l =
          let m = r.noted.timers in
          let k = reaches_all names es r.stand clock r.holds new n (first_next f) (omega arith) in
          record { full = sym k.0; left = λ z. k.1 }

  -- the others
  module _ (now : List ℕ) (done : ℕ) (g : Reaches names es clock now done) where
    pub others_done : t.timers ≤ done → AppliedAll names es clock now false
    others_done l =
        let m = r.noted.timers in
        let k = reaches_all names es r.stand clock r.holds now done g (omega arith) in
        record { full = sym k.0; left = λ z. k.1 }

    pub others_fit : done ≤ 4294967295
    others_fit = let a = g.low in let b = r.few in omega arith

    module _ (old more : List ℕ) (v : NotedFrom es done old more) (size : length old ≡ 2081) (n : ℕ) (e : n ≡ min (t.timers - done) 1024) (low : done < t.timers) where
      next_low : done + n ≤ all_times es
      next_low = let m = r.noted.timers in omega arith

      abbrev next : List ℕ
      next = take (33 + n * 2 - 33) (drop 33 more)

      next_is : next ≡ take (n * 2) (drop (done * 2) (timers_of es))
      next_is =
          let z : 33 + n * 2 - 33 ≡ n * 2 = omega arith in
          ap (λ (k : ℕ). take k (drop 33 more)) z ∙ v.window n next_low (omega arith)

      pub next_known : all (timer_known names) (effects_in next) ≡ true
      next_known = window_known names es r.stand clock r.holds now done g n next_low next next_is

      module _ (new : List ℕ) (b : Bool) (a : Applied names next now new b) where
        pub others_full : b ≡ true → AppliedAll names es clock new true
        others_full f =
            record { full = sym (reaches_full names es r.stand clock r.holds now done g n next_low next next_is new b a f); left = λ z. let q : ◌≡◌ {A = ℕ} 0 1 = cc in absurd (omega arith) }

        pub others_next : b ≡ false → Reaches names es clock new (done + n)
        others_next f = reaches_next names es r.stand clock r.holds now done g n next_low next next_is new b a f

-- ---- 7 and 10, judged with the record

pub record JudgesTimed (names : List ℕ) (es : List Effect) (kept : ℕ) (t : Tally) (clock clock_now : List ℕ) (room : ℕ) (o : Outcome) : Type 0 where
  pub judges : o ≡ judged (refusal_if (ltb 32 (kept + t.names) || (table_left names clock es).full) (ltb room t.entries))
  pub stays : (o ≡ Did → ⊥) → clock_now ≡ clock
  pub left : o ≡ Did → clock_now ≡ clock_bytes (clock_left names clock es)

-- a copy of the same length
pub copied : (from place new : List ℕ) → length from ≡ length place → new ≡ from ++ drop (length from) place → new ≡ from
copied from place new e q = q ∙ ap (λ (k : ℕ). from ++ drop k place) e ∙ ap (λ (xs : List ℕ). from ++ xs) (drop-length place) ∙ append-nil from

-- the record is drafted in a place of its length
module _ (clock place draft : List ℕ) (e : length clock ≡ length place) (q : draft ≡ clock ++ drop (length clock) place) where
  pub drafted_size : length draft ≡ length clock
  drafted_size = ap {B = ℕ} length (copied clock place draft e q)

  module _ (names : List ℕ) (es : List Effect) where
    pub drafted_ready : (t : Tally) (notes : List ℕ) → TimersReady names es t notes clock → TimersReady names es t notes draft
    drafted_ready t notes r = subst (TimersReady names es t notes) (sym (copied clock place draft e q)) r

    pub drafted_applied : (now : List ℕ) (b : Bool) → AppliedAll names es draft now b → AppliedAll names es clock now b
    drafted_applied now b a = subst (λ (xs : List ℕ). AppliedAll names es xs now b) (copied clock place draft e q) a

pub draft_length : (names : List ℕ) (es : List Effect) (clock : List ℕ) → ClockHolds Running clock → (draft : List ℕ) (b : Bool) → AppliedAll names es clock draft b → b ≡ false → length draft ≡ length clock
draft_length names es clock h draft b a e = ap {B = ℕ} length (a.left e) ∙ clock_length (clock_left names clock es) ∙ sym (holds_length Running clock h)

-- the same of what is equal
pub judged_as : (names : List ℕ) (es : List Effect) (kept : ℕ) (t : Tally) (clock clock_then clock_now : List ℕ) (room other : ℕ) (o p : Outcome) → clock_now ≡ clock_then → p ≡ o → room ≡ other →
    JudgesTimed names es kept t clock clock_then room o → JudgesTimed names es kept t clock clock_now other p
judged_as names es kept t clock clock_then clock_now room other o p a b e j = rw (a, b, ← e) j

module _ (names : List ℕ) (es : List Effect) (kept : ℕ) (t : Tally) (clock : List ℕ) (h : ClockHolds Running clock) (room : ℕ) where
  abbrev seven : Bool
  seven = ltb 32 (kept + t.names)

  abbrev ten : Bool
  ten = ltb room t.entries

  spare_judged : (o : Outcome) → o ≡ judged (refusal_if seven ten) → (table_left names clock es).full ≡ false → o ≡ judged (refusal_if (seven || (table_left names clock es).full) ten)
  spare_judged o j e = j ∙ ap (λ (b : Bool). judged (refusal_if b ten)) (sym (ap (λ (b : Bool). seven || b) e ∙ or_false seven))

  -- nothing is sent or cancelled
  pub untimed : all_times es ≡ 0 → (o : Outcome) → o ≡ judged (refusal_if seven ten) → JudgesTimed names es kept t clock clock room o
  untimed z o j =
      let e = table_none names clock es z in
      record {
        judges = spare_judged o j (ap (λ (x : Table). x.full) e);
        stays = λ n. refl;
        left = λ d. h.spells ∙ ap (λ (x : Table). clock_bytes (record { ticks = (clock_in clock).ticks; pending = x.pending })) (sym e);
      }

  module _ (draft : List ℕ) (b : Bool) (a : AppliedAll names es clock draft b) where
    pub timed_full : b ≡ true → JudgesTimed names es kept t clock clock room (Refused Full)
    unfolding judged refusal_if
    timed_full e = record {
      judges = sym (ap (λ (x : Bool). judged (refusal_if x ten)) (or_right seven (table_left names clock es).full (sym a.full ∙ e)));
      stays = λ n. refl;
      left = λ d. let q : ◌≡◌ {A = ℕ} 0 1 = cc in absurd (omega arith);
    }

    module _ (e : b ≡ false) (o : Outcome) (j : o ≡ judged (refusal_if seven ten)) where
      pub timed_refused : (o ≡ Did → ⊥) → JudgesTimed names es kept t clock clock room o
      timed_refused n = record { judges = spare_judged o j (sym a.full ∙ e); stays = λ z. refl; left = λ d. absurd (n d) }

      pub timed_did : o ≡ Did → (new : List ℕ) → new ≡ draft ++ drop (length draft) clock → JudgesTimed names es kept t clock new room o
      timed_did d new q = record {
        judges = spare_judged o j (sym a.full ∙ e);
        stays = λ n. absurd (n d);
        left = λ z. copied draft clock new (draft_length names es clock h draft b a e) q ∙ a.left e;
      }

-- ---- a step that was drafted and judged, and is shown unless it is refused or quiet

pub record Shows (names : List ℕ) (es : List Effect) (kept : ℕ) (quiet : Bool) (clock clock_now old new notes : List ℕ) (s : Shown) : Type 0 where
  pub counted : Counted s.tally es
  pub noted : Noted notes s.tally es
  pub judges : JudgesTimed names es kept s.tally clock clock_now (room_in quiet (length old)) s.outcome
  pub stays : (s.outcome ≡ Did → ⊥) → new ≡ old
  pub count : s.outcome ≡ Did → s.count ≡ length (shown_of quiet es)
  pub written : s.outcome ≡ Did → new ≡ trace_with old (shown_of quiet es)

-- where a quiet one has none, all effects are shown
all_shown : (quiet : Bool) (es : List Effect) → (quiet ≡ true → length es ≡ 0) → shown_of quiet es ≡ es
all_shown false es h = refl
all_shown true [] h = refl
all_shown true (e ∷ es) h = absurd (let n = h refl in omega arith)

-- what fits the room also fits that of a quiet one
fits_quiet : (quiet : Bool) (n room : ℕ) → n ≤ room → (quiet ≡ true → room ≡ 0) → n ≤ room_in quiet room
fits_quiet true n room l h = let z = h refl in omega arith
fits_quiet false n room l h = l

-- what is done in this room is done in every room that its entries fit
judged_roomy : (names : List ℕ) (es : List Effect) (kept : ℕ) (t : Tally) (clock clock_now : List ℕ) (room other : ℕ) → t.entries ≤ room → t.entries ≤ other →
    JudgesTimed names es kept t clock clock_now room Did → JudgesTimed names es kept t clock clock_now other Did
judged_roomy names es kept t clock clock_now room other l m j = record {
  judges = j.judges ∙ ap (λ (b : Bool). judged (refusal_if (ltb 32 (kept + t.names) || (table_left names clock es).full) b)) (le-ltb room t.entries l ∙ sym (le-ltb other t.entries m));
  stays = j.stays;
  left = j.left;
}

module _ (names : List ℕ) (es : List Effect) (kept : ℕ) (quiet : Bool) (clock clock_now old : List ℕ) (before after : Places) (t : Tally) (u : Unskipped before.joins) (w : Wrote before after nothing t es)
    (o : Outcome) where
  -- a quiet one, refused or done: nothing is shown
  pub shows_quiet : quiet ≡ true → JudgesTimed names es kept t clock clock_now quiet_room o → (s : Shown) → s ≡ record { outcome = o; count = 0; tally = t } →
      Shows names es kept quiet clock clock_now old old after.joins s
  unfolding trace_with
  shows_quiet q j s e =
      rw (e, q) (record {
        counted = wrote_counted before after t es w;
        noted = wrote_noted before after t es w u;
        judges = j;
        stays = λ z. refl;
        count = λ d. refl;
        written = λ d. refl;
      })

  -- the room of those that are shown
  module _ (j : JudgesTimed names es kept t clock clock_now (length old) o) where
    pub shows_refused : quiet ≡ false → (o ≡ Did → ⊥) → (s : Shown) → s ≡ record { outcome = o; count = 0; tally = t } → Shows names es kept quiet clock clock_now old old after.joins s
    shows_refused q z s e =
        rw (e, q) (record {
          counted = wrote_counted before after t es w;
          noted = wrote_noted before after t es w u;
          judges = j;
          stays = λ d. refl;
          count = λ d. absurd (z d);
          written = λ d. absurd (z d);
        })

    module _ (e : o ≡ Did) (h : Hushed quiet old) where
      roomy : t.entries ≤ length old
      roomy = did_roomy o (ltb 32 (kept + t.names) || (table_left names clock es).full) (length old) t j.judges e

      entries_are : t.entries ≡ length es
      entries_are = (wrote_counted before after t es w).entries

      all_are : shown_of quiet es ≡ es
      all_are = all_shown quiet es (λ q. let z = h.none q in let l = roomy in let n = entries_are in omega arith)

      pub shows_did : (new : List ℕ) → Filled old new t es → Shows names es kept quiet clock clock_now old new after.joins (record { outcome = Did; count = t.entries; tally = t })
      shows_did new f =
          let n = entries_are in
          let l = roomy in
          record {
            counted = wrote_counted before after t es w;
            noted = wrote_noted before after t es w u;
            judges =
                judged_roomy names es kept t clock clock_now (length old) (room_in quiet (length old)) l (fits_quiet quiet t.entries (length old) l h.none)
                (subst (JudgesTimed names es kept t clock clock_now (length old)) e j);
            stays = λ z. absurd (z refl);
            count = λ d. n ∙ sym (ap {B = ℕ} length all_are);
            written = λ d. wrote_trace old new t es (omega arith) f ∙ sym (ap (trace_with old) all_are);
          }

      -- where the draft is whole, it is copied
      module _ (l : t.entries ≤ length before.trace) where
        draft_whole : t.entries ≤ length after.trace
        draft_whole = let n = wrote_length before after nothing t es w in omega arith

        draft_part : length (take t.entries after.trace) ≡ t.entries
        draft_part = length-take-le t.entries after.trace draft_whole

        pub part_fits : length (take t.entries after.trace) ≤ length old
        part_fits = rw draft_part roomy

        pub shows_drafted : (new : List ℕ) → new ≡ take t.entries after.trace ++ drop (length (take t.entries after.trace)) old →
            Shows names es kept quiet clock clock_now old new after.joins (record { outcome = Did; count = t.entries; tally = t })
        shows_drafted new p =
            shows_did new
            (draft_copied after.trace old new t es (wrote_drafted before after t es w) draft_whole roomy (p ∙ ap (λ (k : ℕ). take t.entries after.trace ++ drop k old) draft_part))

-- ---- a step has few effects

pub step_few : (chart items : List ℕ) (step : Step) → PlanReady chart step.plan → ChosenIn (transition_count chart) items step.len → all_times (step_effects chart items step) ≤ 4294967295
step_few chart items step p ch =
    let a = plan_few chart step.plan (by_in items) (step_takes items step) p (lent_taken (transition_count chart) items step.len ch) in
    let b = times_few (step_effects chart items step) in
    omega arith

pub step_timers : (chart names items : List ℕ) (step : Step) (t : Tally) (before after : Places) (clock : List ℕ) → PlanReady chart step.plan → ChosenIn (transition_count chart) items step.len →
    TimersStand names (step_effects chart items step) → Unskipped before.joins → Wrote before after nothing t (step_effects chart items step) → ClockHolds Running clock →
    TimersReady names (step_effects chart items step) t after.joins clock
step_timers chart names items step t before after clock p ch s u w h =
    record { stand = s; noted = wrote_noted before after t (step_effects chart items step) w u; few = step_few chart items step p ch; holds = h }
