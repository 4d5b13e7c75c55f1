-- A round of a running session: what is decided is kept, in the queues, the stored history and the next state.
use Rattle.std.specs.Prelude.{◌≡◌, true, false, ℕ, ◌+◌, ◌≤◌, take}
use Rattle.std.proofs.Math.Path.{ap, subst}
use Rattle.std.proofs.Common.{ap₂, ◌∙◌, arith}
use mathlib.Core.List.{List, ◌++◌}
use Rattle.std.proofs.Math.ListN.{length, drop, length-append}
use Rattle.definition.specs.declared.Mode.{Mode}
use Rattle.definition.specs.declared.Mode.TheVariants.{Running, Closing}
use Rattle.definition.specs.Rows.{flat, any, union}
use Rattle.definition.specs.Names.{Name}
use Rattle.definition.specs.Chart.{Chart}
use Rattle.definition.specs.Tables.{name_at, chart_of}
use Rattle.follower.specs.Blocks.{queued}
use Rattle.follower.specs.Microstep.{stored_in, history_after, configuration_after}
use Rattle.definition.specs.Answers.{mode_no}
use Rattle.definition.specs.Compiled.{words}
use Rattle.follower.specs.Follower.{Follower, is_final_under_root, mode_of}
use Rattle.rowset.specs.declared.RowSet.{RowSet}
use Rattle.rowset.specs.Member.{rows_of}
use Rattle.chart.specs.Ready.{CompiledWith}
use Rattle.lookup.specs.Lookup.{atomic_in}
use Rattle.microstep.specs.Plan.{plan_next}
use Rattle.microstep.specs.Words.{HistoryStored}
use Rattle.queue.specs.Queues.{queue_bytes, queue_of}
use Rattle.state.specs.State.{history_words, numbers_of, configuration_in, history_in, internal_in, external_in, Spells, state_at}
use Rattle.state.specs.Words as state
use Rattle.state.specs.Numbers.{back_history}
use Rattle.state.specs.Places.{numbers_size, history_size}
use Rattle.events.specs.Rounds.{internal_after, internal_bytes, external_bytes, queued_names, JoinsIn}
use Rattle.events.specs.Left.{internal_left, external_left, QueueIs}
use Rattle.rounds.specs.declared.Step.{Step}
use Rattle.rounds.specs.Taking.{round_effects, next_by, step_takes, by_in, StepReady, Decided, entered, planned, left, history_next}

-- ---- what is decided is kept

module _ (chart names index numbers internal external : List ℕ) (step : Step) (joins : List ℕ) (d : Decided chart names index numbers internal external step joins) where
  abbrev g : StepReady chart names index numbers internal external step d.items
  g = d.made

  abbrev chosen : List ℕ
  chosen = step_takes d.items step

  abbrev who : ℕ → ℕ
  who = by_in d.items

  abbrev here : Follower
  here = state_at chart numbers internal external

  abbrev after : Follower
  after = next_by step.source (chart_of chart) (name_at names) here who chosen

  names_now : queued_names (chart_of chart) (name_at names) joins ≡ flat (queued (chart_of chart) (name_at names)) (round_effects (chart_of chart) here who chosen)
  names_now = ap (queued_names (chart_of chart) (name_at names)) d.joined ∙ (entered chart names index numbers internal external step d.items g).queues

  module _ (inner : List ℕ) (kept : ℕ) (i : inner ≡ internal_bytes step.source internal) (n : kept ≡ internal_left step.source (internal_in numbers)) where
    queue_now_lem : QueueIs (internal_after step.source here) inner kept
    queue_now_lem = rw (i, n) (left chart names index numbers internal external step d.items g).internal

    next_length : kept + length (queued_names (chart_of chart) (name_at names) joins) ≡ length after.internal
    unfolding next_by
    next_length =
        let a = queue_now_lem.count in
        let b = ap {B = ℕ} length names_now in
        omega (arith, length-append (internal_after step.source here) (flat (queued (chart_of chart) (name_at names)) (round_effects (chart_of chart) here who chosen)))

    pub names_join : CompiledWith chart names × JoinsIn chart joins × (inner ≡ queue_bytes (queue_of inner kept)) × (kept + length (queued_names (chart_of chart) (name_at names) joins) ≤ 32)
    names_join = (
      g.compiled,
      rw d.joined (entered chart names index numbers internal external step d.items g).inside,
      queue_now_lem.again,
      let l = d.short in
          let m = next_length in
          omega arith,
    )

    -- all of it: the history lent and put back, then the state
    pub committed : (stored inner2 outer : List ℕ) (waiting others : ℕ) (conf : RowSet) (mode : Mode) (cells : List ℕ) →
        (inner2 ≡ queue_bytes (queue_of inner kept ++ queued_names (chart_of chart) (name_at names) joins)) × (waiting ≡ kept + length (queued_names (chart_of chart) (name_at names) joins)) →
        outer ≡ external_bytes step.source external → others ≡ external_left step.source (external_in numbers) →
        HistoryStored chart (rows_of step.plan.conf) (rows_of step.plan.out) (history_in numbers) stored → state.Fits (take 4 numbers ++ (stored ++ drop 1024 (drop 4 numbers))) →
        rows_of conf ≡ union (rows_of step.plan.stay) (rows_of step.plan.set) → mode ≡ mode_of (chart_of chart) (rows_of conf) →
        cells ≡ numbers_of (words (rows_of conf)) (history_in (take 4 numbers ++ (stored ++ drop 1024 (drop 4 numbers)))) waiting others (mode_no mode) →
        Spells after cells inner2 outer
    unfolding next_by
    committed stored inner2 outer waiting others conf mode cells joined x y h k r m e =
        let p = planned chart names index numbers internal external step d.items g in
        let b = left chart names index numbers internal external step d.items g in
        let is : rows_of conf ≡ configuration_after (chart_of chart) here.configuration (stored_in here.history) chosen =
        r ∙ plan_next (chart_of chart) here.configuration (stored_in here.history) chosen step.plan p in
        let w : HistoryStored chart (rows_of (configuration_in numbers)) (rows_of step.plan.out) (history_in numbers) stored = rw g.planned.from at h in
        let size : length stored ≡ 1024 = w.room ∙ history_size here numbers internal external g.holds.spells in
        let back : history_in (take 4 numbers ++ (stored ++ drop 1024 (drop 4 numbers))) ≡ stored = back_history numbers stored (numbers_size here numbers internal external g.holds.spells) size in
        let fit : state.Fits stored = subst state.Fits back (state.fits_part (take 4 numbers ++ (stored ++ drop 1024 (drop 4 numbers))) 4 1024 k) in
        let hist : history_in (take 4 numbers ++ (stored ++ drop 1024 (drop 4 numbers))) ≡ history_words (history_after (chart_of chart) here.configuration (stored_in here.history) chosen) =
        back ∙
        history_next chart names g.compiled here numbers internal external g.holds (atomic_in index) step.plan.out chosen stored g.indexed.atomic g.planned.out w fit in
        let inside = joined.1 ∙ next_length in
        let outside = y ∙ b.external.count in
        let mode_is = m ∙ ap (mode_of (chart_of chart)) is in
        record {
          numbers_are = e ∙ (λ j. numbers_of (words (is j)) (hist j) (inside j) (outside j) (mode_no (mode_is j)));
          internal_is = joined.0 ∙ ap queue_bytes (ap₂ {C = List Name} (λ a b. a ++ b) queue_now_lem.names names_now);
          external_is = x ∙ b.external.bytes;
        }

-- ---- "A final under root sets closing."

module _ (c : Chart) (conf : List ℕ) where
  pub mode_closing : any (is_final_under_root c) conf ≡ true → Closing ≡ mode_of c conf
  unfolding mode_of
  mode_closing e = rw e

  pub mode_running : any (is_final_under_root c) conf ≡ false → Running ≡ mode_of c conf
  unfolding mode_of
  mode_running e = rw e
