-- A completed round leaves a well-formed session and a clock record that fits it, for a chart that is compiled with its names.
use Rattle.std.specs.Prelude.{◌≡◌, Bool, not, ◌||◌, ℕ, ◌+◌, ◌*◌, ◌≤◌, take}
use Rattle.std.proofs.Math.Path.{refl, sym, subst}
use Rattle.std.proofs.Common.{ap, ◌∙◌, le_refl, arith}
use Rattle.std.proofs.Math.Bool.{true, false}
use mathlib.Core.List.{List, []}
use Rattle.std.proofs.Math.Option.{none}
use Rattle.std.proofs.Math.ListN.{length}
use Rattle.std.proofs.Math.Seq.{take-take, length-take-le}
use borrow.Author.Tests.{le-leb, eq-eqb}
use Rattle.definition.specs.declared.Mode.{Mode}
use Rattle.definition.specs.declared.Mode.TheVariants.{Running, Closing, Ended}
use Rattle.definition.specs.Rows.{all, is_empty}
use Rattle.definition.specs.Chart.{Chart}
use Rattle.definition.specs.Tables.{most_rows, most_transitions, most_names, most_descriptors, most_targets, most_actions, slot_size, row_count, transition_count, reference_count, descriptor_count, action_count, name_count, tables_size, name_at, chart_of}
use Rattle.definition.specs.Rules.{compiled_size, counts_fit, sizes_fit, row_in_range, transition_in_range, reference_in_range, descriptor_in_range, action_in_range, rule1}
use Rattle.definition.specs.Compiled.{own_numbers}
use Rattle.follower.specs.Blocks.{Effect}
use Rattle.follower.specs.Clock.{Timer, most_pending, most_ticks}
use Rattle.follower.specs.Follower.{Follower, Round, idle, over, did, taking, closing_round, round, refusal, is_ended, Timed, table_in, timed}
use Rattle.follower.specs.Legal.{WellFormed, clock_fits}
use Rattle.laws.specs.Bools.{or_left, or_right}
use Rattle.laws.specs.Loops.{below_each}
use Rattle.accepted.specs.Tree.{Tree}
use Rattle.theory.specs.Queues.{sends_well, Queued, round_queued, round_sends}
use Rattle.theory.specs.Keeps.{FitAfter, round_fits}
use Rattle.theory.specs.WellFormed.{running_closing, mode_lives, parts_well_formed, well_formed_queues, well_formed_fit}
use Rattle.theory.specs.Runs.{round_cases, next_of}
use Rattle.theory.specs.Timers.{Timely, none_timely, table_timely}
use Rattle.clock.specs.Spelled.{fits_ticks, fits_few, fits_timers}
use Rattle.tables.specs.Ranges.{InTables}
use Rattle.chart.specs.Ready.{CompiledWith}
use Rattle.chart.specs.Agree.{agree_names, agree_tables}
use Rattle.chart.specs.Own.{own_size, own_chart}

module _ (chart names : List ℕ) (k : CompiledWith chart names) where
  abbrev own : List ℕ
  own = own_numbers chart

  same_tables : take (tables_size chart) own ≡ take (tables_size chart) chart
  unfolding own_numbers
  same_tables = take-take (tables_size chart) (tables_size chart) chart (le_refl (tables_size chart))

  own_length : length own ≡ tables_size chart
  unfolding own_numbers
  own_length = length-take-le (tables_size chart) chart k.ready.tables.sized.size

  own_tables : InTables own
  own_tables = agree_tables own chart same_tables k.ready.tables (let n = own_length in omega arith)

  counts_fit_lem : counts_fit own ≡ true
  unfolding counts_fit
  counts_fit_lem =
      let n = own_tables.sized.counts in
      rw (
        le-leb 1 (row_count own) n.some,
        le-leb (row_count own) most_rows n.rows,
        le-leb (transition_count own) most_transitions n.transitions,
        le-leb (name_count own) most_names n.names,
        le-leb (reference_count own) (most_rows * most_rows + most_transitions * most_targets) n.references,
        le-leb (descriptor_count own) (most_transitions * most_descriptors) n.descriptors,
        le-leb (action_count own) ((most_rows * 3 + most_transitions) * most_actions) n.actions,
      )

  sizes_fit_lem : sizes_fit own names (compiled_size own) (length names) ≡ true
  unfolding sizes_fit
  sizes_fit_lem =
      let n : length own ≡ tables_size own = own_length ∙ sym (own_size chart) in
      let m : length names ≡ name_count own * slot_size = k.names_size ∙ sym (ap (λ (x : ℕ). x * slot_size) (agree_names own chart same_tables)) in
      rw (eq-eqb (length own) (tables_size own) n, eq-eqb (length names) (name_count own * slot_size) m, eq-eqb (compiled_size own) (compiled_size own) refl, eq-eqb (length names) (length names) refl)

  -- the tables of a compiled chart keep rule 1
  own_rule1 : rule1 own names (compiled_size own) (length names) ≡ true
  unfolding rule1
  own_rule1 =
      rw (
        counts_fit_lem,
        sizes_fit_lem,
        below_each (row_in_range own) (row_count own) own_tables.row,
        below_each (transition_in_range own) (transition_count own) own_tables.transition,
        below_each (reference_in_range own) (reference_count own) own_tables.reference,
        below_each (descriptor_in_range own) (descriptor_count own) own_tables.descriptor,
        below_each (action_in_range own) (action_count own) own_tables.action,
      )

  -- what own numbers give holds of the chart
  by_own : (P : Chart → Type 0) → P (chart_of own) → P (chart_of chart)
  by_own P = subst P (own_chart chart k.ready.tables)

  queued_after : (f next : Follower) (full : Bool) (es : List Effect) (room : ℕ) → Queued f → round (chart_of chart) (name_at names) f ≡ did next es → refusal room next full es ≡ none → Queued next
  queued_after f next full es room q e r =
      by_own (λ (c : Chart). Tree c → round c (name_at names) f ≡ did next es → Queued next)
      (λ t d. round_queued own names own_rule1 k.rule2 t f next full es room q d r) k.ready.sound.tree e

  pub round_formed : (f next : Follower) (full : Bool) (es : List Effect) (room : ℕ) → WellFormed (chart_of chart) f → round (chart_of chart) (name_at names) f ≡ did next es → refusal room next full es ≡ none →
      WellFormed (chart_of chart) next
  round_formed f next full es room w e r =
      let c = chart_of chart in
      let g = k.ready.sound in
      parts_well_formed c g next (queued_after f next full es room (well_formed_queues c g f w) e r) (subst (FitAfter c) e (round_fits c g (name_at names) f (well_formed_fit c g f w)))

  -- ---- and its clock record (R-9)

  sent_well : (f next : Follower) (es : List Effect) → round (chart_of chart) (name_at names) f ≡ did next es → all (sends_well (name_at names)) es ≡ true
  sent_well f next es e =
      by_own (λ (c : Chart). Tree c → round c (name_at names) f ≡ did next es → all (sends_well (name_at names)) es ≡ true)
      (λ t d. round_sends own names own_rule1 k.rule2 t f next es d) k.ready.sound.tree e

  -- a running session's round does not end it
  abbrev Lives : Round → Type 0
  Lives idle = Unit {0}
  Lives over = Unit {0}
  Lives (did s es) = s.mode ≡ Ended → ⊥

  round_lives : (f next : Follower) (es : List Effect) → f.mode ≡ Running → round (chart_of chart) (name_at names) f ≡ did next es → next.mode ≡ Ended → ⊥
  unfolding taking closing_round
  round_lives f next es m e =
      subst Lives e (round_cases (chart_of chart) (name_at names) f Lives (λ q. tt) (λ q. tt) (λ q. absurd (running_closing f.mode m q))
      (λ q internal external event h. mode_lives (chart_of chart) _))

  record_fits_lem : (m : Mode) (ticks : ℕ) (ss : List Timer) → ticks ≤ most_ticks → Timely ticks ss → (not (is_ended m) || is_empty ss) ≡ true → clock_fits m (record { ticks = ticks; pending = ss }) ≡ true
  unfolding clock_fits
  record_fits_lem m ticks ss l t e = rw (le-leb ticks most_ticks l, le-leb (length ss) most_pending t.few, t.fit) e

  emptied_fits : (m : Mode) (ticks : ℕ) → ticks ≤ most_ticks → clock_fits m (record { ticks = ticks; pending = [] }) ≡ true
  unfolding is_empty
  emptied_fits m ticks l = record_fits_lem m ticks [] l (none_timely ticks) (or_right (not (is_ended m)) true refl)

  alive : (m : Mode) → (m ≡ Ended → ⊥) → not (is_ended m) ≡ true
  unfolding is_ended
  alive Running n = refl
  alive Closing n = refl
  alive Ended n = absurd (n refl)

  module _ (s : Timed) (h : clock_fits s.follower.mode s.clock ≡ true) (next : Follower) (es : List Effect) (e : round (chart_of chart) (name_at names) s.follower ≡ did next es) where
    ticks_low : s.clock.ticks ≤ most_ticks
    ticks_low = fits_ticks s.follower.mode s.clock h

    table_fits : (m : Mode) → s.follower.mode ≡ m → clock_fits next.mode (record { ticks = s.clock.ticks; pending = (table_in m (name_at names) s.clock es).pending }) ≡ true
    unfolding table_in
    table_fits Running q =
        record_fits_lem next.mode s.clock.ticks _ ticks_low
        (table_timely (name_at names) s.clock.ticks (record { pending = s.clock.pending; full = false }) es (sent_well s.follower next es e)
        (record { few = fits_few s.follower.mode s.clock h; fit = fits_timers s.follower.mode s.clock h }))
        (or_left (not (is_ended next.mode)) _ (alive next.mode (round_lives s.follower next es q e)))
    table_fits Closing q = emptied_fits next.mode s.clock.ticks ticks_low
    table_fits Ended q = emptied_fits next.mode s.clock.ticks ticks_low

    -- the next record is one beside the next session
    pub round_clock : clock_fits next.mode (next_of (chart_of chart) (name_at names) s next es).clock ≡ true
    unfolding next_of timed
    round_clock = table_fits s.follower.mode refl
