-- A run: rounds one after the other, each behind the entries of those before it.
use Rattle.std.proofs.Math.Path.{◌≡◌, refl, sym, ap, ap₂, subst}
use Rattle.std.proofs.Common.{◌∙◌, length-take, length-drop, take-append-drop, get_or-set_same}
use Rattle.std.specs.Prelude.{Bool, true, false, ℕ, suc, ◌+◌, ◌-◌, ◌*◌, ◌≤◌, ◌<◌, ltb, drop, set, replicate}
use mathlib.Core.List.{List, [], ◌++◌}
use Rattle.std.proofs.Math.Option.{Option, none, some}
use native.Mathlib.Omega.{arith}
use Rattle.std.proofs.Math.ListN.{length, take, length-append}
use Rattle.std.proofs.lemmas.List.{length-replicate}
use Rattle.definition.specs.declared.Mode.{Mode}
use Rattle.definition.specs.declared.Answer.{Answer}
use Rattle.definition.specs.declared.Status.{Status}
use Rattle.definition.specs.Tables.{name_at, chart_of}
use Rattle.definition.specs.Chart.{Chart, Names}
use Rattle.follower.specs.Blocks.{Effect}
use Rattle.follower.specs.Follower.{Follower, Round, idle, over, did, round, Timed, table_in, timed, Ran, stopped, counted, rest_status, run}
use Rattle.follower.specs.Legal.{clock_fits}
use Rattle.laws.specs.Bools.{no}
use Rattle.theory.specs.Runs.{not_refused, next_of, refused_by, run_zero, run_idle, run_over, run_refused, run_round}
use Rattle.room.specs.Room.{most_room}
use Rattle.room.specs.Entries.{round_few}
use Rattle.room.specs.Most.{tables_most}
use Rattle.chart.specs.Ready.{CompiledWith}
use Rattle.lookup.specs.Lookup.{quiet_in}
use Rattle.clock.specs.Records.{clock_in, ClockHolds}
use Rattle.clock.specs.Spelled.{clock_again, bytes_hold, holds_length}
use Rattle.state.specs.State.{Holds, trace_with, mode_in, state_at, HoldsAt}
use Rattle.state.specs.Found.{configuration_set}
use Rattle.state.specs.Places.{numbers_size, internal_size, external_size, reads_mode, state_again}
use Rattle.rounds.specs.declared.Outcome.TheVariants.{Did}
use Rattle.rounds.specs.declared.Turn.{Turn}
use Rattle.rounds.specs.declared.Progress.{Progress}
use Rattle.rounds.specs.Calls.{timed_at, SpellsTimed, quiet_room, room_in, shown_of, place_in, RunDone}
use Rattle.rounds.specs.Turns.{judged, judged_none, next_unless, shown_unless, outcome_of, state_after, effects_of, status_of, Turned, Hushed, trace_stays, turned_roomy}
use Rattle.rounds.specs.Traces.{part_behind, part_length, part_back, back_length, written_both, trace_length}
use Rattle.rounds.specs.Keeping.{round_formed, round_clock}

-- ---- a round that was done, and one that was not

module _ (c : Chart) (names : Names) where
  pub record DidRound (room : ℕ) (s : Timed) (r : Round) : Type 0 where
    pub next : Follower
    pub effects : List Effect
    pub is : r ≡ did next effects
    pub goes : refused_by c names room s next effects ≡ none

  did_round : (room : ℕ) (s : Timed) (r : Round) → outcome_of c names room s r ≡ Did → DidRound room s r
  unfolding outcome_of
  did_round room s idle e = absurd (let z : ◌≡◌ {A = ℕ} 0 1 = cc in omega arith)
  did_round room s over e = absurd (let z : ◌≡◌ {A = ℕ} 0 1 = cc in omega arith)
  did_round room s (did next es) e = record { next = next; effects = es; is = refl; goes = judged_none (refused_by c names room s next es) e }

  module _ (room : ℕ) (s : Timed) (r : Round) (d : DidRound room s r) where
    did_state : state_after c names room s r ≡ next_of c names s d.next d.effects
    unfolding state_after next_unless
    did_state = rw (d.is, d.goes)

    did_effects : effects_of c names room s r ≡ d.effects
    unfolding effects_of shown_unless
    did_effects = rw (d.is, d.goes)

  -- what a round wrote had room
  effects_room : (room : ℕ) (s : Timed) (r : Round) → length (effects_of c names room s r) ≤ room
  unfolding effects_of shown_unless
  effects_room room s idle = omega arith
  effects_room room s over = omega arith
  effects_room room s (did next es) = go (refused_by c names room s next es) refl
    where
      go : (o : Option Answer) → refused_by c names room s next es ≡ o → length (shown_unless o es) ≤ room
      go none e = (not_refused room next (table_in s.follower.mode names s.clock es).full es (unfold refused_by in e)).roomy
      go (some a) e = omega arith

  -- how many entries it takes; count entries were made before it
  pub record Few (count : ℕ) (r : Round) : Type 0 where
    pub few : (next : Follower) (es : List Effect) → r ≡ did next es → length es ≤ most_room
    pub low : count + most_room ≤ quiet_room

  effects_few : (room : ℕ) (s : Timed) (r : Round) → ((next : Follower) (es : List Effect) → r ≡ did next es → length es ≤ most_room) → length (effects_of c names room s r) ≤ most_room
  unfolding effects_of shown_unless
  effects_few room s idle h = omega arith
  effects_few room s over h = omega arith
  effects_few room s (did next es) h = go (refused_by c names room s next es) refl
    where
      go : (o : Option Answer) → refused_by c names room s next es ≡ o → length (shown_unless o es) ≤ most_room
      go none e = h next es refl
      go (some a) e = omega arith

  pub record Stops (k : ℕ) (s : Timed) (room : ℕ) (r : Round) : Type 0 where
    pub stops : run c names (suc k) s room ≡ stopped (status_of (outcome_of c names room s r)) s
    pub state : state_after c names room s r ≡ s
    pub effects : effects_of c names room s r ≡ []

  stops_at : (k : ℕ) (s : Timed) (room : ℕ) (r : Round) → round c names s.follower ≡ r → (outcome_of c names room s r ≡ Did → ⊥) → Stops k s room r
  unfolding outcome_of status_of state_after effects_of judged next_unless shown_unless
  stops_at k s room idle e z = record { stops = run_idle c names (suc k) s room e; state = refl; effects = refl }
  stops_at k s room over e z = record { stops = run_over c names (suc k) s room e; state = refl; effects = refl }
  stops_at k s room (did next es) e z = go (refused_by c names room s next es) refl
    where
      go : (o : Option Answer) → refused_by c names room s next es ≡ o → Stops k s room (did next es)
      go none q = absurd (z (ap judged q))
      go (some a) q = record { stops = rw q (run_refused c names k s room next es a e q); state = rw q; effects = rw q }

  -- the room that a run has left behind count entries: a quiet one never too little
  turned_here : (quiet : Bool) (count place : ℕ) (trace : List ℕ) (s : Timed) (r : Round) → Few count r → place ≡ place_in quiet count (length trace) →
      (t : Turn) (numbers internal external clock old new : List ℕ) →
      Turned c names quiet (room_in quiet (length (drop place trace))) r s t numbers internal external clock old new →
      Turned c names quiet (room_in quiet (length trace) - count) r s t numbers internal external clock old new
  turned_here true count place trace s r f e t numbers internal external clock old new w =
      turned_roomy c names true quiet_room r s (quiet_room - count) (λ next es e. let m = f.few next es e in let l = f.low in (omega arith, omega arith)) t numbers internal external clock old new w
  turned_here false count place trace s r f e t numbers internal external clock old new w =
      subst (λ (n : ℕ). Turned c names false n r s t numbers internal external clock old new) (length-drop place trace ∙ ap (λ (n : ℕ). length trace - n) e) w

  -- what is shown of a round fits the trace from that place on
  shown_fits : (quiet : Bool) (count place : ℕ) (trace : List ℕ) (s : Timed) (r : Round) → place ≡ place_in quiet count (length trace) → place ≤ length trace →
      length (shown_of quiet (effects_of c names (room_in quiet (length trace) - count) s r)) + place ≤ length trace
  shown_fits true count place trace s r e l = omega arith
  shown_fits false count place trace s r e l = let m = effects_room (length trace - count) s r in omega arith

-- ---- what is shown of some effects and of more, and where

shown_both : (quiet : Bool) (es fs : List Effect) → shown_of quiet (es ++ fs) ≡ shown_of quiet es ++ shown_of quiet fs
shown_both true es fs = refl
shown_both false es fs = refl

begin_written : (quiet : Bool) (old : List ℕ) (place : ℕ) (es : List Effect) → place ≡ place_in quiet 0 (length old) →
    trace_with old (shown_of quiet es) ≡ take place old ++ trace_with (drop place old) (shown_of quiet es)
unfolding trace_with
begin_written true old place es e = sym (take-append-drop place old)
begin_written false old place es e = rw e

place_next : (quiet : Bool) (place count n : ℕ) (es : List Effect) → place ≡ place_in quiet count n → place + length (shown_of quiet es) ≡ place_in quiet (count + length es) n
place_next true place count n es e = omega arith
place_next false place count n es e = omega arith

place_low : (quiet : Bool) (place n : ℕ) → place ≡ place_in quiet 0 n → place ≤ n
place_low true place n e = omega arith
place_low false place n e = omega arith

-- a quiet round is lent nothing
place_hushed : (quiet : Bool) (place count : ℕ) (trace : List ℕ) → place ≡ place_in quiet count (length trace) → place ≤ length trace → Hushed quiet (take (length trace - place) (drop place trace))
place_hushed true place count trace e l = record { none = λ q. omega (arith, length-take (length trace - place) (drop place trace)) }
place_hushed false place count trace e l = record { none = λ q. absurd (no q) }

-- the mark of a quiet run is found behind its index
pub marked : (n : ℕ) (quiet : Bool) → ltb 0 n ≡ quiet → quiet_in (set (replicate 818 0) 817 n) ≡ quiet
marked n quiet e = ap (ltb 0) (get_or-set_same (replicate 818 0) 817 n 0 (let l = length-replicate {A = ℕ} 818 0 in omega arith)) ∙ e

-- ---- so far

-- of the whole run r, the rest is still to be done: done rounds are counted, and count entries; the trace has those that are shown, up to that place
pub record Reached (quiet : Bool) (r rest : Ran) (old trace : List ℕ) (done count place : ℕ) : Type 0 where
  pub status : r.status ≡ rest.status
  pub rounds : r.rounds ≡ done + rest.rounds
  pub state : r.state ≡ rest.state
  pub effects : length r.effects ≡ count + length rest.effects
  pub written : trace_with old (shown_of quiet r.effects) ≡ take place trace ++ trace_with (drop place trace) (shown_of quiet rest.effects)

pub record RunsOn (chart names numbers₀ internal₀ external₀ clock₀ : List ℕ) (asked : ℕ) (quiet : Bool) (old numbers internal external clock trace : List ℕ) (done count place : ℕ) : Type 0 where
  pub holds : HoldsAt chart numbers internal external
  pub ticks : ClockHolds (mode_in numbers) clock
  pub low : done ≤ asked
  pub few : count ≤ done * most_room
  pub placed : place ≡ place_in quiet count (length trace)
  pub room : place ≤ length trace
  pub size : length trace ≡ length old
  pub reached : Reached quiet (run (chart_of chart) (name_at names) asked (timed_at chart numbers₀ internal₀ external₀ clock₀) (room_in quiet (length old)))
      (run (chart_of chart) (name_at names) (asked - done) (timed_at chart numbers internal external clock) (room_in quiet (length trace) - count)) old trace done count place

pub runs_begin : (chart names : List ℕ) (numbers internal external clock : List ℕ) (asked : ℕ) (quiet : Bool) (old : List ℕ) (place : ℕ) → HoldsAt chart numbers internal external → ClockHolds (mode_in numbers) clock →
    place ≡ place_in quiet 0 (length old) → RunsOn chart names numbers internal external clock asked quiet old numbers internal external clock old 0 0 place
runs_begin chart names numbers internal external clock asked quiet old place h k e =
    let a : asked - 0 ≡ asked = omega arith in
    let b : room_in quiet (length old) - 0 ≡ room_in quiet (length old) = omega arith in
    record {
      holds = h;
      ticks = k;
      low = omega arith;
      few = omega arith;
      placed = e;
      room = place_low quiet place (length old) e;
      size = refl;
      reached = rw (a, b) (record { status = refl; rounds = omega arith; state = refl; effects = omega arith; written = begin_written quiet old place _ e });
    }

module _ (chart names : List ℕ) (k : CompiledWith chart names) (numbers₀ internal₀ external₀ clock₀ : List ℕ) (asked : ℕ) (quiet : Bool) (old numbers internal external clock trace : List ℕ) (done count place : ℕ)
    (g : RunsOn chart names numbers₀ internal₀ external₀ clock₀ asked quiet old numbers internal external clock trace done count place) where
  abbrev f : Timed
  f = timed_at chart numbers internal external clock

  abbrev whole : Ran
  whole = run (chart_of chart) (name_at names) asked (timed_at chart numbers₀ internal₀ external₀ clock₀) (room_in quiet (length old))

  -- the room that is left
  abbrev here : ℕ
  here = room_in quiet (length trace) - count

  pub same_sizes : HoldsAt chart numbers₀ internal₀ external₀ → ClockHolds (mode_in numbers₀) clock₀ →
      (length numbers ≡ length numbers₀) × (length internal ≡ length internal₀) × (length external ≡ length external₀) × (length clock ≡ length clock₀)
  same_sizes h c =
      let f₀ = state_at chart numbers₀ internal₀ external₀ in (
        numbers_size f.follower numbers internal external g.holds.spells ∙ sym (numbers_size f₀ numbers₀ internal₀ external₀ h.spells),
        internal_size f.follower numbers internal external g.holds.spells ∙ sym (internal_size f₀ numbers₀ internal₀ external₀ h.spells),
        external_size f.follower numbers internal external g.holds.spells ∙ sym (external_size f₀ numbers₀ internal₀ external₀ h.spells),
        holds_length (mode_in numbers) clock g.ticks ∙ sym (holds_length (mode_in numbers₀) clock₀ c),
      )

  pub hushed : (b : Bool) → b ≡ quiet → Hushed b (take (length trace - place) (drop place trace))
  hushed b e = rw e (place_hushed quiet place count trace g.placed g.room)

  nothing_more : take place trace ++ trace_with (drop place trace) (shown_of quiet []) ≡ trace
  nothing_more = ap (λ (xs : List ℕ). take place trace ++ xs) (sym (trace_stays quiet (drop place trace))) ∙ take-append-drop place trace

  -- the rest of the run does nothing
  finish : (st : Status) → run (chart_of chart) (name_at names) (asked - done) f here ≡ stopped st f → (p : Progress) (stored inner outer ticked new : List ℕ) →
      p.status ≡ st → p.rounds ≡ done → p.count ≡ count → SpellsTimed f stored inner outer ticked → new ≡ trace → RunDone quiet whole p stored inner outer ticked old new
  unfolding stopped
  finish st e p stored inner outer ticked new a b n w q =
      let r : Reached quiet whole (stopped st f) old trace done count place = rw e at g.reached in
      let x = r.rounds in
      let y = r.effects in
      record {
        status = a ∙ sym r.status;
        rounds = omega arith;
        count = omega arith;
        state = subst (λ (z : Timed). SpellsTimed z stored inner outer ticked) (sym r.state) w;
        written = q ∙ sym (r.written ∙ nothing_more);
      }

  -- all rounds are done
  pub run_ended : asked ≤ done → (st : Status) → st ≡ rest_status (round (chart_of chart) (name_at names) f.follower) →
      RunDone quiet whole (record { status = st; rounds = done; count = count }) numbers internal external clock old trace
  run_ended l st e =
      let n : asked - done ≡ 0 = omega arith in
      finish (rest_status (round (chart_of chart) (name_at names) f.follower)) (rw n (run_zero (chart_of chart) (name_at names) f here))
      (record { status = st; rounds = done; count = count }) numbers internal external clock trace e refl refl (g.holds.spells, g.ticks.spells) refl

  -- the number that was asked for is the number done
  pub run_asked : asked ≡ done → (st : Status) → st ≡ rest_status (round (chart_of chart) (name_at names) f.follower) →
      RunDone quiet whole (record { status = st; rounds = asked; count = count }) numbers internal external clock old trace
  run_asked l st e =
      let n : asked - done ≡ 0 = omega arith in
      finish (rest_status (round (chart_of chart) (name_at names) f.follower)) (rw n (run_zero (chart_of chart) (name_at names) f here))
      (record { status = st; rounds = asked; count = count }) numbers internal external clock trace e l refl (g.holds.spells, g.ticks.spells) refl

  abbrev this : Round
  this = round (chart_of chart) (name_at names) f.follower

  this_few : (next : Follower) (es : List Effect) → this ≡ did next es → length es ≤ most_room
  this_few next es e =
      let tree = k.ready.sound.tree in
      let a = round_few (chart_of chart) tree (name_at names) f.follower (λ m. configuration_set (chart_of chart) tree f.follower g.holds.formed) next es e in
      let b = tables_most chart k.ready.tables in
      omega arith

  -- one round more, into the part of the trace from that place on; asked is a number of 32 bits
  module _ (l : done < asked) (most : asked ≤ 4294967295) (b : Bool) (same : b ≡ quiet) (t : Turn) (stored inner outer ticked part : List ℕ)
      (w : Turned (chart_of chart) (name_at names) b (room_in b (length (take (length trace - place) (drop place trace)))) this f t stored inner outer ticked (take (length trace - place) (drop place trace)) part) where
    -- the trace with the part put back
    abbrev new : List ℕ
    new = take place trace ++ (part ++ drop (length trace - place) (drop place trace))

    few : Few (chart_of chart) (name_at names) count this
    few = record { few = this_few; low = let m = g.few in omega arith }

    abbrev behind : List ℕ
    behind = take (length trace - place) (drop place trace)

    behind_is : behind ≡ drop place trace
    behind_is = part_behind trace place g.room

    turned : Turned (chart_of chart) (name_at names) quiet here this f t stored inner outer ticked (drop place trace) part
    turned =
        turned_here (chart_of chart) (name_at names) quiet count place trace f this few g.placed t stored inner outer ticked (drop place trace) part
        (subst (λ (xs : List ℕ). Turned (chart_of chart) (name_at names) quiet (room_in quiet (length xs)) this f t stored inner outer ticked xs part) behind_is
        (subst (λ (q : Bool). Turned (chart_of chart) (name_at names) q (room_in q (length behind)) this f t stored inner outer ticked behind part) same w))

    abbrev shown : List Effect
    shown = shown_of quiet (effects_of (chart_of chart) (name_at names) here f this)

    shown_low : length shown + place ≤ length trace
    shown_low = shown_fits (chart_of chart) (name_at names) quiet count place trace f this g.placed g.room

    shown_room : length shown ≤ length (drop place trace)
    shown_room = let a = shown_low in let b = part_length trace place g.room in omega arith

    -- at most so many in so many rounds, which 64 bits count
    pub count_few : count + t.entries ≤ (done + 1) * most_room
    count_few = let a = turned.entries in let b = effects_few (chart_of chart) (name_at names) here f this this_few in let m = g.few in omega arith

    pub place_fits_lem : place + t.count ≤ length trace
    place_fits_lem = let a = shown_low in let b = turned.count in omega arith

    part_size : length part ≡ length trace - place
    part_size = ap length turned.written ∙ trace_length (drop place trace) shown shown_room ∙ part_length trace place g.room

    pub new_length : length new ≡ length trace
    new_length = ap length (part_back trace place g.room part) ∙ back_length trace place g.room part part_size

    more : asked - done ≡ suc (asked - (done + 1))
    more = omega arith

    pub run_stops : (t.outcome ≡ Did → ⊥) → (p : Progress) → p ≡ record { status = status_of t.outcome; rounds = done; count = count + t.entries } → RunDone quiet whole p stored inner outer ticked old new
    run_stops z p e =
        let x : Stops (chart_of chart) (name_at names) (asked - (done + 1)) f here this = stops_at (chart_of chart) (name_at names) (asked - (done + 1)) f here this refl (λ q. z (turned.outcome ∙ q)) in
        let none : t.entries ≡ 0 = turned.entries ∙ ap {B = ℕ} length x.effects in
        let same : part ≡ drop place trace = turned.written ∙ ap (λ (es : List Effect). trace_with (drop place trace) (shown_of quiet es)) x.effects ∙ sym (trace_stays quiet (drop place trace)) in
        let stop : run (chart_of chart) (name_at names) (asked - done) f here ≡ stopped (status_of (outcome_of (chart_of chart) (name_at names) here f this)) f = rw more x.stops in
        finish (status_of (outcome_of (chart_of chart) (name_at names) here f this)) stop
        p stored inner outer ticked new (ap (λ (x : Progress). x.status) e ∙ ap status_of turned.outcome) (ap (λ (x : Progress). x.rounds) e) (let n = ap {B = ℕ} (λ (x : Progress). x.count) e in omega arith)
        (subst (λ (y : Timed). SpellsTimed y stored inner outer ticked) x.state turned.state)
        (part_back trace place g.room part ∙ ap (λ (xs : List ℕ). take place trace ++ xs) same ∙ take-append-drop place trace)

    module _ (o : t.outcome ≡ Did) where
      d : DidRound (chart_of chart) (name_at names) here f this
      d = did_round (chart_of chart) (name_at names) here f this (sym turned.outcome ∙ o)

      abbrev after : Timed
      after = next_of (chart_of chart) (name_at names) f d.next d.effects

      count_is : t.entries ≡ length d.effects
      count_is = turned.entries ∙ ap {B = ℕ} length (did_effects (chart_of chart) (name_at names) here f this d)

      spells_next : SpellsTimed after stored inner outer ticked
      spells_next = subst (λ (y : Timed). SpellsTimed y stored inner outer ticked) (did_state (chart_of chart) (name_at names) here f this d) turned.state

      holds_next : Holds (chart_of chart) d.next stored inner outer
      unfolding next_of timed
      holds_next = record {
        spells = spells_next.0;
        formed = round_formed chart names k f.follower d.next (table_in f.follower.mode (name_at names) f.clock d.effects).full d.effects here g.holds.formed d.is (unfold refused_by in d.goes);
      }

      again : state_at chart stored inner outer ≡ d.next
      again = state_again (chart_of chart) k.ready.sound.tree (let n = k.ready.tables.sized.counts.rows in omega arith) d.next stored inner outer holds_next

      -- the record fits the next session
      fits_now : clock_fits f.follower.mode f.clock ≡ true
      fits_now = subst (λ (m : Mode). clock_fits m (clock_in clock) ≡ true) (reads_mode f.follower numbers internal external g.holds.spells) g.ticks.fits

      fits_next : clock_fits d.next.mode after.clock ≡ true
      fits_next = round_clock chart names k f fits_now d.next d.effects d.is

      ticks_next : ClockHolds (mode_in stored) ticked
      ticks_next =
          subst (λ (m : Mode). ClockHolds m ticked) (sym (reads_mode d.next stored inner outer holds_next.spells))
          (bytes_hold d.next.mode after.clock fits_next ticked spells_next.1)

      timed_again : timed_at chart stored inner outer ticked ≡ after
      unfolding next_of timed
      timed_again =
          let a = again in
          let b : clock_in ticked ≡ after.clock = ap clock_in spells_next.1 ∙ clock_again d.next.mode after.clock fits_next in
          λ i. record { follower = a i; clock = b i }

      new_is : new ≡ take place trace ++ trace_with (drop place trace) (shown_of quiet d.effects)
      new_is =
          part_back trace place g.room part ∙
          ap (λ (xs : List ℕ). take place trace ++ xs)
          (turned.written ∙ ap (λ (es : List Effect). trace_with (drop place trace) (shown_of quiet es)) (did_effects (chart_of chart) (name_at names) here f this d))

      shown_is : t.count ≡ length (shown_of quiet d.effects)
      shown_is = turned.count ∙ ap {B = ℕ} (λ (es : List Effect). length (shown_of quiet es)) (did_effects (chart_of chart) (name_at names) here f this d)

      abbrev rest : Ran
      rest = run (chart_of chart) (name_at names) (asked - (done + 1)) after (here - length d.effects)

      goes_on : run (chart_of chart) (name_at names) (asked - done) f here ≡ counted d.effects rest
      goes_on = rw more (run_round (chart_of chart) (name_at names) (asked - (done + 1)) f here d.next d.effects d.is d.goes)

      reached_next : Reached quiet whole rest old new (done + 1) (count + t.entries) (place + t.count)
      unfolding counted
      reached_next =
          let r : Reached quiet whole (counted d.effects rest) old trace done count place = rw goes_on at g.reached in
          let x = r.rounds in
          let y = r.effects in
          let n = count_is in
          record {
            status = r.status;
            rounds = omega arith;
            state = r.state;
            effects = omega (arith, length-append d.effects rest.effects);
            written =
                r.written ∙ ap (λ (es : List Effect). take place trace ++ trace_with (drop place trace) es) (shown_both quiet d.effects rest.effects) ∙
                written_both trace place g.room (shown_of quiet d.effects) (shown_of quiet rest.effects) ∙
                ap₂ {C = List ℕ} (λ (m : ℕ) (xs : List ℕ). take m xs ++ trace_with (drop m xs) (shown_of quiet rest.effects)) (ap (λ (n : ℕ). place + n) (sym shown_is)) (sym new_is);
          }

      pub runs_again : RunsOn chart names numbers₀ internal₀ external₀ clock₀ asked quiet old stored inner outer ticked new (done + 1) (count + t.entries) (place + t.count)
      runs_again =
          let m = new_length in
          let left : room_in quiet (length new) - (count + t.entries) ≡ here - length d.effects = ap (λ (n : ℕ). room_in quiet n - (count + t.entries)) m ∙ (let n = count_is in omega arith) in
          record {
            holds = subst (λ (y : Follower). Holds (chart_of chart) y stored inner outer) (sym again) holds_next;
            ticks = ticks_next;
            low = omega arith;
            few = count_few;
            placed = ap (λ (n : ℕ). place + n) shown_is ∙ place_next quiet place count (length trace) d.effects g.placed ∙ ap₂ {C = ℕ} (λ (n m : ℕ). place_in quiet (count + n) m) (sym count_is) (sym m);
            room = let q = place_fits_lem in omega arith;
            size = m ∙ g.size;
            reached = rw (timed_again, left) reached_next;
          }
