-- A start: what is judged and written is the definition's.
use Rattle.std.proofs.Math.Path.{◌≡◌, refl, sym, ap}
use Rattle.std.proofs.Common.{ap₂, subst, ◌∙◌}
use Rattle.std.specs.Prelude.{Bool, ℕ, ◌+◌, ◌≤◌, take, replicate, drop}
use mathlib.Core.List.{List, [], ◌∷◌, ◌++◌}
use Rattle.std.proofs.Math.Option.{Option, none, some}
use Rattle.std.proofs.Math.Nat.{zero-add}
use native.Mathlib.Omega.{arith}
use Rattle.std.proofs.Math.ListN.{length}
use Rattle.std.proofs.lemmas.List.{length-replicate}
use Rattle.definition.specs.declared.Answer.{Answer}
use Rattle.definition.specs.declared.Answer.TheVariants.{Done}
use Rattle.definition.specs.declared.Mode.{Mode}
use Rattle.definition.specs.declared.Mode.TheVariants.{Running, Ended}
use Rattle.definition.specs.Rows.{from, flat, onto, backwards}
use Rattle.definition.specs.Names.{Name}
use Rattle.definition.specs.Chart.{Chart}
use Rattle.definition.specs.Tables.{row_count, transition_count, name_at, chart_of}
use Rattle.follower.specs.Blocks.{Effect, queued}
use Rattle.follower.specs.Microstep.{exiting, Entry}
use Rattle.definition.specs.Answers.{mode_no}
use Rattle.definition.specs.Compiled.{words}
use Rattle.follower.specs.Clock.{Clock, new_clock, Table}
use Rattle.follower.specs.Follower.{Follower, no_history, ended_follower, mode_of, refusal, table_in, timed, first_entry, first_effects, first_follower, first_table, start_or, start}
use Rattle.theory.specs.Runs.{Fits, not_refused}
use Rattle.rowset.specs.Member.{rows_of}
use Rattle.chart.specs.Ready.{CompiledWith}
use Rattle.effects.specs.declared.Tally.{Tally}
use Rattle.effects.specs.Trace.{joins_of, queues_all, times_few, Places, Wrote}
use Rattle.microstep.specs.declared.Plan.{Plan}
use Rattle.microstep.specs.Plan.{PlanReady, StartPlanned, plan_effects, start_effects, start_effects_lem, start_few}
use Rattle.matching.specs.Chosen.{ChosenIn, within_none, list_begin}
use Rattle.clock.specs.Records.{clock_bytes, clock_in}
use Rattle.clock.specs.Spelled.{zeros_are_new, zeros_hold, zeros_spell}
use Rattle.legality.specs.Rows.{RowsReady}
use Rattle.queue.specs.Queues.{queue_bytes, queue_of, queue_none}
use Rattle.state.specs.State.{history_words, numbers_of, history_in}
use Rattle.state.specs.Words.{words_none, history_none}
use Rattle.events.specs.Rounds.{queued_names, JoinsIn}
use Rattle.events.specs.Entries.{JoinsStand, start_joins}
use Rattle.events.specs.Timers.{TimersStand, start_timers}
use Rattle.rounds.specs.declared.Outcome.{Outcome}
use Rattle.rounds.specs.declared.Outcome.TheVariants.{Refused, Did}
use Rattle.rounds.specs.declared.Step.{Step}
use Rattle.rounds.specs.Calls.{room_in, shown_count, StartDone}
use Rattle.rounds.specs.Turns.{judged, judged_some, trace_stays}
use Rattle.rounds.specs.Traces.{nothing, Filled, Noted, filled_again, joined_all, joined_in, joined_size, part_shown}
use Rattle.rounds.specs.Judging.{Counted, refusal_judged}
use Rattle.rounds.specs.Windows.{table_left}
use Rattle.rounds.specs.Timing.{step_effects, TimersReady, JudgesTimed}

-- a session of zeros stores nothing
pub zeros_none : (c : Chart) → replicate 1024 0 ≡ history_words (no_history c)
unfolding no_history
zeros_none c = history_none c.rows

pub zeros_length : (numbers : List ℕ) → numbers ≡ replicate 1031 0 → length numbers ≡ 1031
zeros_length numbers e = ap length e ∙ length-replicate {A = ℕ} 1031 0

pub zeros_history : (numbers : List ℕ) → numbers ≡ replicate 1031 0 → history_in numbers ≡ replicate 1024 0
zeros_history numbers e = ap history_in e

-- zeros are the numbers of an ended session
zeros_ended : (c : Chart) → replicate 1031 0 ≡ numbers_of (words []) (history_words (no_history c)) 0 0 (mode_no Ended)
unfolding numbers_of mode_no
zeros_ended c = let w = sym words_none in let h = zeros_none c in λ j. w j ++ (h j ++ (0 ∷ 0 ∷ 0 ∷ []))

-- ---- the start as a step

pub record FirstStep (plan : Plan) (s : Step) : Type 0 where
  pub len : s.len ≡ 0
  pub out : rows_of s.plan.out ≡ []
  pub stay : s.plan.stay ≡ plan.stay
  pub set : s.plan.set ≡ plan.set
  pub entered_by_default : s.plan.by_default ≡ plan.by_default
  pub fallen : s.plan.fallen ≡ plan.fallen

module _ (chart : List ℕ) (plan : Plan) (s : Step) (h : FirstStep plan s) where
  pub first_ready_step : PlanReady chart plan → PlanReady chart s.plan
  first_ready_step p = record { ready = p.ready; out = rw h.out (within_none (row_count chart)); set = rw h.set p.set; fallen = rw h.fallen p.fallen }

  module _ (items : List ℕ) (e : items ≡ replicate 768 0) where
    pub first_chosen : ChosenIn (transition_count chart) items s.len
    first_chosen = record { room = ap length e ∙ length-replicate {A = ℕ} 768 0; most = let n = h.len in omega arith; inside = rw (h.len, list_begin items) (within_none (transition_count chart)) }

    first_same : step_effects chart items s ≡ start_effects (chart_of chart) plan
    unfolding plan_effects start_effects exiting flat backwards onto
    first_same = rw (h.len, list_begin items, h.out, h.stay, h.set, h.entered_by_default, h.fallen)

    pub first_timers : (names : List ℕ) (t : Tally) (notes clock : List ℕ) → TimersReady names (start_effects (chart_of chart) plan) t notes clock → TimersReady names (step_effects chart items s) t notes clock
    first_timers names t notes clock r = subst (λ (xs : List Effect). TimersReady names xs t notes clock) (sym first_same) r

    pub first_judged : (names : List ℕ) (t : Tally) (clock clock_now : List ℕ) (room : ℕ) (o : Outcome) → JudgesTimed names (step_effects chart items s) 0 t clock clock_now room o →
        JudgesTimed names (start_effects (chart_of chart) plan) 0 t clock clock_now room o
    first_judged names t clock clock_now room o j = subst (λ (xs : List Effect). JudgesTimed names xs 0 t clock clock_now room o) first_same j

module _ (chart names : List ℕ) (k : CompiledWith chart names) (numbers internal clock old : List ℕ) (y : numbers ≡ replicate 1031 0) (z : internal ≡ replicate 2048 0) (x : clock ≡ replicate 4368 0) (e : Plan)
    (q : StartPlanned (chart_of chart) e × PlanReady chart e) where
  abbrev es : List Effect
  es = first_effects (chart_of chart)

  abbrev first : Follower
  first = first_follower (chart_of chart) (name_at names)

  abbrev table : Table
  table = first_table (chart_of chart) (name_at names)

  shown : start_effects (chart_of chart) e ≡ es
  shown = start_effects_lem (chart_of chart) e q.0

  pub start_timers_ready : (t : Tally) (notes : List ℕ) → Noted notes t (start_effects (chart_of chart) e) → TimersReady names (start_effects (chart_of chart) e) t notes clock
  start_timers_ready t notes v = record {
    stand = subst (TimersStand names) (sym shown) (start_timers chart names k);
    noted = v;
    few = let a = start_few chart e q.1 in let b = times_few (start_effects (chart_of chart) e) in omega arith;
    holds = rw x (zeros_hold Running);
  }

  clock_new : clock_in clock ≡ new_clock
  clock_new = ap clock_in x ∙ zeros_spell

  table_is : table_left names clock es ≡ table
  unfolding table_in first_table
  table_is = ap (λ (r : Clock). table_in Running (name_at names) r es) clock_new

  module _ (quiet : Bool) (t : Tally) (n : Counted t (start_effects (chart_of chart) e)) (clock_now : List ℕ) (o : Outcome)
      (j : JudgesTimed names (start_effects (chart_of chart) e) 0 t clock clock_now (room_in quiet (length old)) o) where
    abbrev room : ℕ
    room = room_in quiet (length old)

    judges : JudgesTimed names es 0 t clock clock_now room o
    judges = subst (λ (xs : List Effect). JudgesTimed names xs 0 t clock clock_now room o) shown j

    is_judged : o ≡ judged (refusal room first table.full es)
    unfolding first_follower
    is_judged =
        judges.judges ∙
        ap judged (refusal_judged (chart_of chart) (name_at names) room 0 t (table_left names clock es).full [] first es (subst (Counted t) shown n) refl refl ∙
        ap (λ (r : Table). refusal room first r.full es) table_is)

    -- refused: an ended session with a new clock record, and nothing changed
    pub start_refused : (a : Answer) → o ≡ Refused a → StartDone quiet (start (chart_of chart) (name_at names) room) (record { answer = a; count = 0 }) numbers internal (replicate 2048 0) clock_now old old
    unfolding start start_or ended_follower
    start_refused a r =
        let w : refusal room first table.full es ≡ some a = judged_some (refusal room first table.full es) a (sym is_judged ∙ r) in
        let same : clock_now ≡ clock = judges.stays (λ d. let c : Refused a ≡ Did = sym r ∙ d in let z : ◌≡◌ {A = ℕ} 0 1 = cc in omega arith) in
        rw w (record {
          answer = refl;
          count = refl;
          state = (record { numbers_are = y ∙ zeros_ended (chart_of chart); internal_is = z ∙ sym queue_none; external_is = sym queue_none }, same ∙ x ∙ sym zeros_are_new);
          written = trace_stays quiet old;
        })

    pub zeros_size : length numbers ≡ 1031
    zeros_size = rw y

    pub first_ready : RowsReady chart (rows_of e.set)
    first_ready = record { ready = k.ready; inside = q.1.set.at }

    module _ (some-other : (a : Answer) → o ≡ Refused a → ⊥) where
      goes : refusal room first table.full es ≡ none
      goes = go (refusal room first table.full es) refl
        where
          go : (x : Option Answer) → refusal room first table.full es ≡ x → refusal room first table.full es ≡ none
          go none h = h
          go (some a) h = absurd (some-other a (is_judged ∙ ap judged h ∙ unfold judged in refl))

      is_done_lem : o ≡ Did
      unfolding judged
      is_done_lem = is_judged ∙ ap judged goes

      fits : Fits room first table.full es
      fits = not_refused room first table.full es goes

      entered : JoinsStand chart names es
      entered = start_joins chart names k

      clock_after : clock_now ≡ clock_bytes (record { ticks = 0; pending = table.pending })
      clock_after =
          let a = clock_new in
          let b = table_is in
          judges.left is_done_lem ∙ (λ i. clock_bytes (record { ticks = (a i).ticks; pending = (b i).pending }))

      module _ (end : ℕ) (en : end ≡ shown_count quiet (length old)) (before after : Places) (r : Tally) (same : before.trace ≡ take end old) (w : Wrote before after nothing r (start_effects (chart_of chart) e)) (notes : List ℕ)
          (v : Noted notes t (start_effects (chart_of chart) e)) where
        wrote : Filled (take end old) after.trace t es
        wrote = subst (Filled (take end old) after.trace t) shown (rw (← same) (filled_again before after t r (start_effects (chart_of chart) e) w (n.entries ∙ sym (zero-add _))))

        noted_es : Noted notes t es
        noted_es = subst (Noted notes t) shown v

        pub few_join : t.names ≤ 32
        unfolding first_follower
        few_join =
            let a = fits.short in
            let b = noted_es.names in
            let d = queues_all (chart_of chart) (name_at names) es in
            omega arith

        front : take t.names notes ≡ joins_of es
        front = joined_all notes t es noted_es few_join

        pub first_fit : t.names ≤ length notes
        first_fit = joined_in notes t es noted_es few_join

        pub first_size : t.names ≡ length (take t.names notes)
        first_size = joined_size notes t es noted_es few_join

        names_now : queued_names (chart_of chart) (name_at names) (take t.names notes) ≡ flat (queued (chart_of chart) (name_at names)) es
        names_now = ap (queued_names (chart_of chart) (name_at names)) front ∙ entered.queues

        none_yet : queue_of internal 0 ≡ []
        unfolding queue_of from
        none_yet = refl

        pub first_join : CompiledWith chart names × JoinsIn chart (take t.names notes) × (internal ≡ queue_bytes (queue_of internal 0)) × (0 + length (queued_names (chart_of chart) (name_at names) (take t.names notes)) ≤ 32)
        unfolding first_follower
        first_join = (k, rw front entered.inside, z ∙ sym (ap queue_bytes none_yet ∙ queue_none), let l = fits.short in let m = ap {B = ℕ} length names_now in omega arith)

        pub start_done : (inner : List ℕ) (waiting : ℕ) (mode : Mode) (cells : List ℕ) →
            (inner ≡ queue_bytes (queue_of internal 0 ++ queued_names (chart_of chart) (name_at names) (take t.names notes))) × (waiting ≡ 0 + length (queued_names (chart_of chart) (name_at names) (take t.names notes))) →
            mode ≡ mode_of (chart_of chart) (rows_of e.set) → cells ≡ numbers_of (words (rows_of e.set)) (history_in numbers) waiting 0 (mode_no mode) →
            StartDone quiet (start (chart_of chart) (name_at names) room) (record { answer = Done; count = t.entries }) cells inner (replicate 2048 0) clock_now old (after.trace ++ drop end old)
        unfolding start start_or first_follower timed
        start_done inner waiting mode cells joined m w =
            let conf : rows_of e.set ≡ (first_entry (chart_of chart)).set = ap (λ (i : Entry). i.set) q.0.entry in
            let hist : history_in numbers ≡ history_words (no_history (chart_of chart)) = ap (λ (ws : List ℕ). history_in ws) y ∙ zeros_none (chart_of chart) in
            let count : waiting ≡ length (flat (queued (chart_of chart) (name_at names)) es) = joined.1 ∙ zero-add _ ∙ ap {B = ℕ} length names_now in
            let mode_is = m ∙ ap (mode_of (chart_of chart)) conf in
            rw goes (record {
              answer = refl;
              count = wrote.entries ∙ zero-add (length es);
              state = (
                record {
                  numbers_are = w ∙ (λ j. numbers_of (words (conf j)) (hist j) (count j) 0 (mode_no (mode_is j)));
                  internal_is = joined.0 ∙ ap queue_bytes (ap₂ {C = List Name} (λ a b. a ++ b) none_yet names_now);
                  external_is = sym queue_none;
                },
                clock_after,
              );
              written = part_shown quiet old after.trace t es end en fits.roomy wrote;
            })
