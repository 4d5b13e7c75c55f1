-- A round of a running session: what is given to it, what is decided before anything is written, and that what is written is the next state.
use Rattle.std.specs.Prelude.{◌≡◌, refl, ℕ, ◌+◌, ◌*◌, ◌/◌, ◌≤◌, ◌<◌, ltb, length, get_or, take, drop}
use Rattle.std.proofs.Math.Path.{sym, ap}
use Rattle.std.proofs.Common.{subst, ◌∙◌, arith, length-drop, take_all}
use mathlib.Core.List.{List, [], ◌∷◌, ◌++◌}
use Rattle.std.proofs.Math.ListN.{get_or-eq_default}
use borrow.Author.Tests.{ltb-true, ltb-false, le-ltb}
use Rattle.definition.specs.declared.Mode.TheVariants.{Running}
use Rattle.definition.specs.Rows.{flat, mem, union}
use Rattle.definition.specs.Names.{Name}
use Rattle.definition.specs.Chart.{Chart, Names}
use Rattle.definition.specs.Tables.{row_count, transition_count, name_at, chart_of}
use Rattle.follower.specs.Selection.{History}
use Rattle.follower.specs.Blocks.{Effect, queued}
use Rattle.follower.specs.Microstep.{exits, storing, stored_in, history_after, configuration_after, effects}
use Rattle.follower.specs.Follower.{Follower, did, round_in, mode_of}
use Rattle.laws.specs.Bools.{bool_case}
use Rattle.laws.specs.Lists.{set_below}
use Rattle.laws.specs.Maps.{map_length}
use Rattle.accepted.specs.Tree.{Tree}
use Rattle.rowset.specs.declared.RowSet.{RowSet}
use Rattle.rowset.specs.Member.{rows_of}
use Rattle.chart.specs.Ready.{row_set_at, CompiledWith}
use Rattle.matching.specs.Chosen.{list_of, Within, Taken, ChosenIn, chosen_length, atomic_rows}
use Rattle.matching.specs.Choosers.{choosers_in}
use Rattle.selection.specs.History.{stored_at}
use Rattle.effects.specs.Trace.{joins_of}
use Rattle.effects.specs.Choosers.{chooser_in}
use Rattle.lookup.specs.Lookup.{atomic_in, histories_in, IndexOf}
use Rattle.microstep.specs.declared.Plan.{Plan}
use Rattle.microstep.specs.Stored.{StoreReady, RoundReady}
use Rattle.microstep.specs.Plan.{Planned, PlanReady, plan_effects, plan_effects_lem, next_within}
use Rattle.matching.specs.Histories.{history_rows}
use Rattle.microstep.specs.Words.{is_storing, HistoryStored, words_after}
use Rattle.legality.specs.Rows.{RowsReady}
use Rattle.queue.specs.Queues.{queue_waits}
use Rattle.state.specs.State.{history_words, configuration_in, history_in, internal_in, external_in, Spells, Holds, state_at, HoldsAt}
use Rattle.state.specs.Words as state
use Rattle.state.specs.Found.{stored_set}
use Rattle.state.specs.Places.{history_size, reads_internal, reads_external}
use Rattle.events.specs.declared.Source.{Source}
use Rattle.events.specs.declared.Source.TheVariants.{Nothing, Eventless, Internal, External}
use Rattle.events.specs.Rounds.{Waits, internal_after, external_after, round_by}
use Rattle.events.specs.Choosers.{taking_by}
use Rattle.events.specs.Left.{EventLeft, event_left}
use Rattle.events.specs.Entries.{JoinsStand, round_joins}
use Rattle.events.specs.Timers.{TimersStand, round_timers}
use Rattle.events.specs.Choosing.{conf_read, conf_within, history_read}
use Rattle.rounds.specs.declared.Step.{Step}
use Rattle.rounds.specs.Judging.{LeavesInternal, LeavesExternal}

-- ---- the definition's round that takes these transitions

abbrev pub round_effects : Chart → Follower → (ℕ → ℕ) → List ℕ → List Effect
round_effects c f by ts = effects c f.configuration (stored_in f.history) by ts

unfoldable pub next_by : Source → Chart → Names → Follower → (ℕ → ℕ) → List ℕ → Follower
next_by source c names f by ts = record {
  configuration = configuration_after c f.configuration (stored_in f.history) ts;
  history = history_after c f.configuration (stored_in f.history) ts;
  internal = internal_after source f ++ flat (queued c names) (round_effects c f by ts);
  external = external_after source f;
  mode = mode_of c (configuration_after c f.configuration (stored_in f.history) ts);
}

pub round_did : (source : Source) (c : Chart) (names : Names) (f : Follower) (by : ℕ → ℕ) (ts : List ℕ) → (source ≡ Nothing → ⊥) →
    round_by source c names f by ts ≡ did (next_by source c names f by ts) (round_effects c f by ts)
unfolding round_by next_by taking_by
round_did Nothing c names f by ts n = absurd (n refl)
round_did Eventless c names f by ts n = refl
round_did Internal c names f by ts n = refl
round_did External c names f by ts n = refl

-- ---- a round that is to be done

-- the transitions of a step, which are the first of the items, and who chose each: the places behind those say it (R-6)
abbrev pub step_takes : List ℕ → Step → List ℕ
step_takes items step = list_of items step.len

abbrev pub by_in : List ℕ → ℕ → ℕ
by_in items = chooser_in (choosers_in items)

-- the part that is lent of them
pub choosers_part : (items : List ℕ) → length items ≡ 768 → take 512 (drop 256 items) ≡ choosers_in items
choosers_part items e = take_all 512 (drop 256 items) (omega (arith, length-drop 256 items))

pub choosers_size : (items : List ℕ) → length items ≡ 768 → length (take 512 (drop 256 items)) ≡ 512
choosers_size items e = ap {B = ℕ} length (choosers_part items e) ∙ omega (arith, length-drop 256 items)

pub lent_taken : (k : ℕ) (items : List ℕ) (n : ℕ) → ChosenIn k items n → Taken k (list_of items n)
lent_taken k items n h = record { most = let e = chosen_length k items n h in let m = h.most in omega arith; inside = h.inside }

-- these transitions were chosen, for an event from there, and planned
pub record StepReady (chart names index numbers internal external : List ℕ) (step : Step) (items : List ℕ) : Type 0 where
  pub compiled : CompiledWith chart names
  pub indexed : IndexOf (chart_of chart) index
  pub holds : HoldsAt chart numbers internal external
  pub is : round_in Running (chart_of chart) (name_at names) (state_at chart numbers internal external) ≡
      round_by step.source (chart_of chart) (name_at names) (state_at chart numbers internal external) (by_in items) (step_takes items step)
  pub lent : ChosenIn (transition_count chart) items step.len
  pub inner : step.source ≡ Internal → (state_at chart numbers internal external).internal ≡ [] → ⊥
  pub outer : step.source ≡ External → (state_at chart numbers internal external).external ≡ [] → ⊥
  pub some : step.source ≡ Nothing → ⊥
  pub planned : Planned (chart_of chart) (rows_of (configuration_in numbers)) (stored_at (history_in numbers)) (step_takes items step) step.plan
  pub ready : PlanReady chart step.plan

-- and not refused: these join the internal queue
pub record Decided (chart names index numbers internal external : List ℕ) (step : Step) (joins : List ℕ) : Type 0 where
  pub items : List ℕ
  pub made : StepReady chart names index numbers internal external step items
  pub joined : joins ≡ joins_of (round_effects (chart_of chart) (state_at chart numbers internal external) (by_in items) (step_takes items step))
  pub short : length (next_by step.source (chart_of chart) (name_at names) (state_at chart numbers internal external) (by_in items) (step_takes items step)).internal ≤ 32

-- the places then spell the next state
pub record Commits (chart names index numbers internal external : List ℕ) (step : Step) (joins numbers_now internal_now external_now : List ℕ) : Type 0 where
  pub next : (d : Decided chart names index numbers internal external step joins) →
      Spells (next_by step.source (chart_of chart) (name_at names) (state_at chart numbers internal external) (by_in d.items) (step_takes d.items step)) numbers_now internal_now external_now

some_name : (queue : List Name) (n : ℕ) → n ≡ length queue → (queue ≡ [] → ⊥) → 0 < n
some_name [] n e z = absurd (z refl)
some_name (name ∷ names) n e z = omega arith

-- ---- what a state that is spelled gives

module _ (chart names : List ℕ) (k : CompiledWith chart names) (f : Follower) (numbers internal external : List ℕ) (h : Holds (chart_of chart) f numbers internal external) where
  abbrev tree : Tree (chart_of chart)
  tree = k.ready.sound.tree

  abbrev history : List ℕ
  history = history_in numbers

  conf_is : rows_of (configuration_in numbers) ≡ f.configuration
  conf_is = conf_read chart names k f numbers internal external h

  stored_reads : stored_at history ≡ stored_in f.history
  stored_reads = history_read chart names k f numbers internal external h

  pub round_ready : (atoms : RowSet) → rows_of atoms ≡ atomic_rows (chart_of chart) → RoundReady chart history atoms (configuration_in numbers)
  round_ready atoms e = record {
    store = record { ready = k.ready; atomic = e; inside = conf_within chart names k f numbers internal external h };
    room = history_size f numbers internal external h.spells;
    kept = λ i l. record {
      at = λ x m. set_below (row_count chart) (stored_in f.history i) (stored_set (chart_of chart) tree f h.formed i) x
          (sym (ap (λ (hist : History). mem x (hist i)) stored_reads) ∙ m);
    };
  }

  pub leaves_internal : (source : Source) → (source ≡ Internal → f.internal ≡ [] → ⊥) → LeavesInternal source (internal_in numbers)
  leaves_internal source z = record { some = λ e. some_name f.internal (internal_in numbers) (reads_internal f numbers internal external h.spells) (z e) }

  pub leaves_external : (source : Source) → (source ≡ External → f.external ≡ [] → ⊥) → LeavesExternal source (external_in numbers)
  leaves_external source z = record { some = λ e. some_name f.external (external_in numbers) (reads_external f numbers internal external h.spells) (z e) }

  -- a plan from the parts is one from the state
  pub planned_from : (ts : List ℕ) (plan : Plan) → Planned (chart_of chart) (rows_of (configuration_in numbers)) (stored_at history) ts plan → Planned (chart_of chart) f.configuration (stored_in f.history) ts plan
  planned_from ts plan p =
      subst (λ (hist : History). Planned (chart_of chart) f.configuration hist ts plan) stored_reads
      (subst (λ (conf : List ℕ). Planned (chart_of chart) conf (stored_at history) ts plan) (conf_is) p)

  -- ---- stored history after the round

  module _ (atoms out : RowSet) (ts new : List ℕ) (e : rows_of atoms ≡ atomic_rows (chart_of chart)) (q : rows_of out ≡ exits (chart_of chart) (rows_of (configuration_in numbers)) (stored_at history) ts)
      (w : HistoryStored chart (rows_of (configuration_in numbers)) (rows_of out) history new) where
    stored_inside : (i : ℕ) → i < row_count chart → stored_at new i ≡ stored_in (history_after (chart_of chart) f.configuration (stored_in f.history) ts) i
    stored_inside i l =
        words_after chart atoms (configuration_in numbers) out history new (round_ready atoms e) w ts q i l ∙
        rw (conf_is, stored_reads)

    -- a word past the rows' stays
    same_word : (i v : ℕ) → row_count chart ≤ i → v / 4 ≡ i → get_or new v 0 ≡ get_or history v 0
    unfolding is_storing
    same_word i v g d = w.rest v (rw (d, le-ltb i (row_count chart) g))

    same_past : (i : ℕ) → row_count chart ≤ i → stored_at new i ≡ stored_at history i
    unfolding stored_at row_set_at
    same_past i g =
        rw (same_word i (i * 4) g (omega arith), same_word i (i * 4 + 1) g (omega arith), same_word i (i * 4 + 2) g (omega arith), same_word i (i * 4 + 3) g (omega arith))

    stored_past : (i : ℕ) → row_count chart ≤ i → stored_at new i ≡ stored_in (history_after (chart_of chart) f.configuration (stored_in f.history) ts) i
    unfolding history_after storing
    stored_past i g =
        same_past i g ∙ ap (λ (hist : History). hist i) stored_reads ∙ get_or-eq_default f.history [] (let n = h.formed.places in omega arith) ∙
        sym (get_or-eq_default (history_after (chart_of chart) f.configuration (stored_in f.history) ts) [] (rw (map_length _ (row_count chart) 0) g))

    pub history_next : state.Fits new → new ≡ history_words (history_after (chart_of chart) f.configuration (stored_in f.history) ts)
    history_next fits =
        state.history_written new (history_after (chart_of chart) f.configuration (stored_in f.history) ts) fits (w.room ∙ history_size f numbers internal external h.spells)
        (λ i l. bool_case (ltb i (row_count chart)) (λ b. stored_inside i (ltb-true _ _ b)) (λ b. stored_past i (ltb-false _ _ b)))

-- ---- a step that is ready

module _ (chart names index numbers internal external : List ℕ) (step : Step) (items : List ℕ) (g : StepReady chart names index numbers internal external step items) where
  abbrev ts : List ℕ
  ts = step_takes items step

  abbrev by : ℕ → ℕ
  by = by_in items

  abbrev source : Source
  source = step.source

  abbrev plan : Plan
  plan = step.plan

  abbrev f : Follower
  f = state_at chart numbers internal external

  abbrev es : List Effect
  es = round_effects (chart_of chart) f by ts

  abbrev next : Follower
  next = next_by source (chart_of chart) (name_at names) f by ts

  pub planned : Planned (chart_of chart) f.configuration (stored_in f.history) ts plan
  planned = planned_from chart names g.compiled f numbers internal external g.holds ts plan g.planned

  pub shown : plan_effects (chart_of chart) plan by ts ≡ es
  shown = plan_effects_lem (chart_of chart) f.configuration (stored_in f.history) by ts plan planned

  pub left : EventLeft source f numbers internal external
  left = event_left (chart_of chart) f numbers internal external source g.holds g.inner g.outer

  pub within : Within (row_count chart) (rows_of (configuration_in numbers))
  within = conf_within chart names g.compiled f numbers internal external g.holds

  pub plan_within : Within (row_count chart) (rows_of plan.conf)
  plan_within = rw g.planned.from within

  conf_inside : Within (row_count chart) f.configuration
  conf_inside = subst (Within (row_count chart)) (conf_read chart names g.compiled f numbers internal external g.holds) within

  pub entered : JoinsStand chart names es
  entered = round_joins chart names g.compiled f.configuration (stored_in f.history) by ts conf_inside g.lent.inside

  pub sent : TimersStand names es
  sent = round_timers chart names g.compiled f.configuration (stored_in f.history) by ts conf_inside g.lent.inside

  pub internal_leaves : LeavesInternal source (internal_in numbers)
  internal_leaves = leaves_internal chart names g.compiled f numbers internal external g.holds source g.inner

  pub external_leaves : LeavesExternal source (external_in numbers)
  external_leaves = leaves_external chart names g.compiled f numbers internal external g.holds source g.outer

  -- a queue that the event comes from has a name
  pub event_waits : Waits source internal external (internal_in numbers) (external_in numbers)
  event_waits =
      let h = g.holds in
      let a = h.formed.internal_short in
      let b = h.formed.external_short in
      let n = reads_internal f numbers internal external h.spells in
      let m = reads_external f numbers internal external h.spells in
      record {
        inner = λ e. queue_waits internal f.internal (internal_in numbers) h.spells.internal_is n (internal_leaves.some e) (omega arith);
        outer = λ e. queue_waits external f.external (external_in numbers) h.spells.external_is m (external_leaves.some e) (omega arith);
      }

  pub stores_ready : StoreReady chart (atomic_in index) plan.conf × (rows_of (histories_in index) ≡ history_rows (chart_of chart)) × (length (history_in numbers) ≡ 1024)
  stores_ready =
      (record { ready = g.compiled.ready; atomic = g.indexed.atomic; inside = plan_within }, g.indexed.histories, history_size f numbers internal external g.holds.spells)

  pub next_ready : (r : RowSet) → rows_of r ≡ union (rows_of plan.stay) (rows_of plan.set) → RowsReady chart (rows_of r)
  next_ready r e =
      let w : Within (row_count chart) (rows_of r) = rw e (next_within chart (rows_of (configuration_in numbers)) (stored_at (history_in numbers)) ts plan within g.planned g.ready) in
      record { ready = g.compiled.ready; inside = w.at }
