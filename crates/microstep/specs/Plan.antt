-- The plan of a round: what stays, what is left, what is entered; and that its effects are the definition's.
use Rattle.std.specs.Prelude.{◌≡◌, refl, Bool, true, false, cond, ltb, length, replicate}
use Rattle.std.proofs.Math.Path.{ap, sym}
use Rattle.std.proofs.Common.{◌∙◌, arith, lt-ltb}
use mathlib.Core.List.{List, [], ◌∷◌, ◌++◌}
use Prim.Native.Nat.{ℕ, ◌^◌, ◌<◌, ◌≤◌}
use Rattle.definition.specs.Rows.{nothing_at, keep, mem, is_empty, flat, union, minus, intersection}
use Rattle.definition.specs.Chart.{Chart, is_history}
use Rattle.definition.specs.Tables.{row_count, transition_count, kind_at, chart_of}
use Rattle.definition.specs.Tree.{descendants}
use Rattle.follower.specs.Selection.{History, effective_targets, initial_targets, domain, exit_set}
use Rattle.follower.specs.Blocks.{Effect}
use Rattle.follower.specs.Microstep.{stored, add_exits, exits, history_after, stored_in, staying, exiting, transition_effects, paths_below, add_targets, targeted, Entry, entry_set, entry_of, fell_to_default, add_fallen, fallen, with_initial, fallen_of, entering, configuration_after, effects}
use Rattle.follower.specs.Follower.{first_entry, first_fallen, first_effects}
use Rattle.laws.specs.Bools.{no, clash, and_left, and_true, or_elim}
use Rattle.laws.specs.Sets.{mem_those, mem_head, mem_union, mem_intersection, mem_minus, empty_some}
use Rattle.laws.specs.Lists.{keep_mem}
use Rattle.laws.specs.Passes.{fold_keeps}
use Rattle.accepted.specs.Sound.{Sound}
use Rattle.theory.specs.Entry.{path_inside, entry_inside}
use Rattle.rowset.specs.declared.RowSet.{RowSet}
use Rattle.rowset.specs.Member.{rows_of}
use Rattle.chart.specs.Ready.{Ready}
use Rattle.chart.specs.Within.{Within, Taken, within_none}
use Rattle.paths.specs.History.{stored_at}
use Rattle.effects.specs.declared.Tally.{Tally}
use Rattle.effects.specs.Trace.{Places, Wrote, Room}
use Rattle.effects.specs.Writing.{wrote_both, room_first, room_next}
use Rattle.effects.specs.Entering.{entry_is, HistoryRows}
use Rattle.effects.specs.Bounds.{round_few, start_few as entries_few, round_room, entering_room}
use Rattle.microstep.specs.declared.Plan.{Plan}
use Rattle.microstep.specs.Stored.{after_stored}
use Rattle.matching.specs.Histories.{is_history_row, history_rows}
use Rattle.microstep.specs.Targets.{targeted_same, fallen_same}
use Rattle.microstep.specs.Initial.{initial_same, with_initial_same, defaults_within, start_stored}

-- the plan is the definition's for these transitions, taken together from a configuration with its stored history
pub record Planned (c : Chart) (conf : List ℕ) (hist : History) (ts : List ℕ) (p : Plan) : Type 0 where
  pub from : rows_of p.conf ≡ conf
  pub stay : rows_of p.stay ≡ staying c conf hist ts
  pub out : rows_of p.out ≡ exits c conf hist ts
  pub entry : entry_is p.set p.by_default ≡ entry_of c conf hist ts
  pub fallen : rows_of p.fallen ≡ fallen_of c conf hist ts

-- its rows are the chart's
pub record PlanReady (chart : List ℕ) (p : Plan) : Type 0 where
  pub ready : Ready chart
  pub out : Within (row_count chart) (rows_of p.out)
  pub set : Within (row_count chart) (rows_of p.set)
  pub fallen : HistoryRows chart (rows_of p.fallen)

-- the plan is the definition's for a start
pub record StartPlanned (c : Chart) (p : Plan) : Type 0 where
  pub stay : rows_of p.stay ≡ []
  pub entry : entry_is p.set p.by_default ≡ first_entry c
  pub fallen : rows_of p.fallen ≡ first_fallen c

-- counts so far that leave room for a round
pub record Small (t : Tally) : Type 0 where
  pub entries : t.entries ≤ 2 ^ 61
  pub names : t.names ≤ 2 ^ 61
  pub timers : t.timers ≤ 2 ^ 61

-- ---- the history after the exits, as a function of the row

module _ (c : Chart) (g : Sound c) (conf : List ℕ) (hist : History) (ts : List ℕ) (w : Within c.transitions ts) (out : List ℕ) (e : out ≡ exits c conf hist ts) where
  agree : (h : ℕ) → h < c.rows → stored_in (history_after c conf hist ts) h ≡ stored c conf hist out h
  agree h l = after_stored c conf hist ts h l ∙ ap (λ (xs : List ℕ). stored c conf hist xs h) (sym e)

  agree_targets : (t x : ℕ) → mem t ts ≡ true → mem x (c.transition t).targets ≡ true → stored_in (history_after c conf hist ts) x ≡ stored c conf hist out x
  agree_targets t x m n = agree x (g.target_inside t (w.at t m) x n)

  pub plan_entry : (aim : List ℕ) (i : Entry) → i ≡ entry_set c (initial_targets c (stored c conf hist out)) aim → aim ≡ targeted c hist (stored c conf hist out) ts → i ≡ entry_of c conf hist ts
  unfolding entry_of
  plan_entry aim i f h =
      f ∙ ap (entry_set c (initial_targets c (stored c conf hist out))) (h ∙ sym (targeted_same c hist (stored_in (history_after c conf hist ts)) (stored c conf hist out) ts agree_targets)) ∙
      ap (λ (targets : ℕ → List ℕ). entry_set c targets (targeted c hist (stored_in (history_after c conf hist ts)) ts))
      (sym (initial_same c g (stored_in (history_after c conf hist ts)) (stored c conf hist out) agree))

  pub plan_fallen : (aimed fell : List ℕ) (i : Entry) → i ≡ entry_of c conf hist ts → aimed ≡ fallen c (stored c conf hist out) ts → fell ≡ with_initial c (stored c conf hist out) aimed i.entered_by_default →
      fell ≡ fallen_of c conf hist ts
  unfolding fallen_of
  plan_fallen aimed fell i q h k =
      k ∙ sym (with_initial_same c g (stored_in (history_after c conf hist ts)) (stored c conf hist out) agree aimed i.entered_by_default) ∙
      ap (λ (xs : List ℕ). with_initial c (stored_in (history_after c conf hist ts)) xs i.entered_by_default)
      (h ∙ sym (fallen_same c hist (stored_in (history_after c conf hist ts)) (stored c conf hist out) ts agree_targets)) ∙
      ap (λ (x : Entry). with_initial c (stored_in (history_after c conf hist ts)) (fallen c (stored_in (history_after c conf hist ts)) ts) x.entered_by_default) q

  pub plan_stay : (stay : List ℕ) → stay ≡ minus conf out → stay ≡ staying c conf hist ts
  unfolding staying
  plan_stay stay h = h ∙ ap (minus conf) e

-- ---- the plan's rows are the chart's

union_within : (n : ℕ) (xs ys : List ℕ) → Within n xs → Within n ys → Within n (union xs ys)
union_within n xs ys v w = record { at = λ i m. or_elim (mem i xs) (mem i ys) (v.at i) (w.at i) (sym (mem_union i xs ys) ∙ m) }

exit_set_within : (c : Chart) (n : ℕ) (conf : List ℕ) (hist : History) (t : ℕ) → Within n conf → Within n (exit_set c conf hist (c.transition t))
unfolding exit_set
exit_set_within c n conf hist t w = go (is_empty (c.transition t).targets)
  where
    go : (b : Bool) → Within n (cond b [] (intersection conf (descendants c (domain c hist (c.transition t)))))
    go true = within_none n
    go false = record { at = λ i m. w.at i (and_left (mem i conf) _ (sym (mem_intersection i conf (descendants c (domain c hist (c.transition t)))) ∙ m)) }

pub exits_within : (c : Chart) (n : ℕ) (conf : List ℕ) (hist : History) (ts out : List ℕ) → Within n conf → out ≡ exits c conf hist ts → Within n out
unfolding exits add_exits
exits_within c n conf hist ts out w e =
    rw e (fold_keeps (add_exits c conf hist) (Within n) ts [] (λ t set m v. union_within n set (exit_set c conf hist (c.transition t)) v (exit_set_within c n conf hist t w)) (within_none n))

pub targeted_within : (c : Chart) (before after : History) (ts aim : List ℕ) → aim ≡ targeted c before after ts → Within c.rows aim
unfolding targeted add_targets
targeted_within c before after ts aim e =
    rw e (fold_keeps (add_targets c before after) (Within c.rows) ts []
    (λ t set m v. union_within c.rows set _ v (record { at = path_inside c (domain c before (c.transition t)) (effective_targets c after (c.transition t)) })) (within_none c.rows))

pub entry_within : (c : Chart) (targets : ℕ → List ℕ) (aim : List ℕ) (i : Entry) → i ≡ entry_set c targets aim → Within c.rows aim → Within c.rows i.set
entry_within c targets aim i e w = rw e (record { at = entry_inside c targets aim w.at })

-- the fallen are histories among the targets
pub fallen_histories : (chart : List ℕ) → Ready chart → (after : History) (ts fell : List ℕ) → Within (transition_count chart) ts → fell ≡ fallen (chart_of chart) after ts → HistoryRows chart fell
unfolding fallen add_fallen
fallen_histories chart g after ts fell w e = record {
  ready = g;
  at = rw e (fold_keeps (add_fallen (chart_of chart) after) (λ xs. (h : ℕ) → mem h xs ≡ true → (h < row_count chart) × (is_history (kind_at chart h) ≡ true)) ts []
      (λ t set m v h k. or_elim (mem h set) (mem h (keep (fell_to_default (chart_of chart) after) ((chart_of chart).transition t).targets)) (v h) (λ n. target t m h n)
      (sym (mem_union h set (keep (fell_to_default (chart_of chart) after) ((chart_of chart).transition t).targets)) ∙ k))
      (λ h k. absurd (no (unfold mem in k))));
}
  where
    target : (t : ℕ) → mem t ts ≡ true → (h : ℕ) → mem h (keep (fell_to_default (chart_of chart) after) ((chart_of chart).transition t).targets) ≡ true → (h < row_count chart) × (is_history (kind_at chart h) ≡ true)
    target t m h n =
        let f = keep_mem (fell_to_default (chart_of chart) after) ((chart_of chart).transition t).targets h n in
        (g.sound.target_inside t (w.at t m) h f.0, unfold fell_to_default in and_left (is_history (kind_at chart h)) _ f.1)

pub fallen_then : (c : Chart) (after : History) (ts aimed fell rows : List ℕ) → aimed ≡ fallen c after ts → fell ≡ with_initial c after aimed rows → fell ≡ with_initial c after (fallen c after ts) rows
fallen_then c after ts aimed fell rows e f = f ∙ ap (λ (xs : List ℕ). with_initial c after xs rows) e

-- a chart without histories has none that fall
pub none_fall : (chart : List ℕ) (histories fell none : List ℕ) → histories ≡ history_rows (chart_of chart) → is_empty histories ≡ true → HistoryRows chart fell → none ≡ [] → none ≡ fell
unfolding history_rows is_history_row
none_fall chart histories fell none e n h q =
    q ∙ sym (no_member fell (λ x m.
    clash (is_empty histories) n
    (empty_some histories x (ap (mem x) e ∙ mem_those (row_count chart) (is_history_row (chart_of chart)) x ∙ and_true (ltb x (row_count chart)) _ (lt-ltb x (row_count chart) (h.at x m).0) (h.at x m).1))))
  where
    no_member : (xs : List ℕ) → ((x : ℕ) → mem x xs ≡ true → ⊥) → xs ≡ []
    no_member [] f = refl
    no_member (x ∷ xs) f = absurd (f x (mem_head x xs))

-- ---- effects

-- what is written for a plan; by says which row chose a transition
unfoldable pub plan_effects : Chart → Plan → (ℕ → ℕ) → List ℕ → List Effect
plan_effects c p by ts =
    exiting c (rows_of p.conf) (rows_of p.out) ++ flat (transition_effects c (rows_of p.stay) by) ts ++
    entering c (rows_of p.stay) (entry_is p.set p.by_default) (rows_of p.fallen)

pub plan_effects_lem : (c : Chart) (conf : List ℕ) (hist : History) (by : ℕ → ℕ) (ts : List ℕ) (p : Plan) → Planned c conf hist ts p → plan_effects c p by ts ≡ effects c conf hist by ts
unfolding plan_effects effects
plan_effects_lem c conf hist by ts p h = rw (h.from, h.out, h.stay, h.entry, h.fallen)

pub plan_next : (c : Chart) (conf : List ℕ) (hist : History) (ts : List ℕ) (p : Plan) → Planned c conf hist ts p → union (rows_of p.stay) (rows_of p.set) ≡ configuration_after c conf hist ts
unfolding configuration_after
plan_next c conf hist ts p h = rw h.stay (ap (λ (e : Entry). union (staying c conf hist ts) e.set) h.entry)

-- the pieces have room, one after the other, and together are the plan's effects
module _ (chart : List ℕ) (p : Plan) (by : ℕ → ℕ) (chosen : List ℕ) (old : Places) (t : Tally) (h : PlanReady chart p) (w : Taken (transition_count chart) chosen) (s : Small t) where
  whole : Room t (exiting (chart_of chart) (rows_of p.conf) (rows_of p.out) ++ flat (transition_effects (chart_of chart) (rows_of p.stay) by) chosen ++ entering (chart_of chart) (rows_of p.stay) (entry_is p.set p.by_default) (rows_of p.fallen))
  whole =
      round_room chart h.ready.tables t (rows_of p.conf) p.out by chosen (rows_of p.stay) p.set p.by_default p.fallen s.entries s.names s.timers h.out w.most w.inside h.set h.fallen

  before_entries : Room t (exiting (chart_of chart) (rows_of p.conf) (rows_of p.out) ++ flat (transition_effects (chart_of chart) (rows_of p.stay) by) chosen)
  before_entries = room_first t (exiting (chart_of chart) (rows_of p.conf) (rows_of p.out) ++ flat (transition_effects (chart_of chart) (rows_of p.stay) by) chosen) _ whole

  pub exits_room : Room t (exiting (chart_of chart) (rows_of p.conf) (rows_of p.out))
  exits_room = room_first t (exiting (chart_of chart) (rows_of p.conf) (rows_of p.out)) (flat (transition_effects (chart_of chart) (rows_of p.stay) by) chosen) before_entries

  module _ (old1 : Places) (t1 : Tally) (w1 : Wrote old old1 t t1 (exiting (chart_of chart) (rows_of p.conf) (rows_of p.out))) where
    pub taken_room : Room t1 (flat (transition_effects (chart_of chart) (rows_of p.stay) by) chosen)
    taken_room = room_next old old1 t t1 (exiting (chart_of chart) (rows_of p.conf) (rows_of p.out)) (flat (transition_effects (chart_of chart) (rows_of p.stay) by) chosen) before_entries w1

    module _ (old2 : Places) (t2 : Tally) (w2 : Wrote old1 old2 t1 t2 (flat (transition_effects (chart_of chart) (rows_of p.stay) by) chosen)) where
      both : Wrote old old2 t t2 (exiting (chart_of chart) (rows_of p.conf) (rows_of p.out) ++ flat (transition_effects (chart_of chart) (rows_of p.stay) by) chosen)
      both = wrote_both old old1 old2 t t1 t2 (exiting (chart_of chart) (rows_of p.conf) (rows_of p.out)) (flat (transition_effects (chart_of chart) (rows_of p.stay) by) chosen) w1 w2

      pub entries_room : Room t2 (entering (chart_of chart) (rows_of p.stay) (entry_is p.set p.by_default) (rows_of p.fallen))
      entries_room = room_next old old2 t t2 (exiting (chart_of chart) (rows_of p.conf) (rows_of p.out) ++ flat (transition_effects (chart_of chart) (rows_of p.stay) by) chosen) _ whole both

      pub plan_wrote : (old3 : Places) (t3 : Tally) → Wrote old2 old3 t2 t3 (entering (chart_of chart) (rows_of p.stay) (entry_is p.set p.by_default) (rows_of p.fallen)) →
          Wrote old old3 t t3 (plan_effects (chart_of chart) p by chosen)
      unfolding plan_effects
      plan_wrote old3 t3 w3 = wrote_both old old2 old3 t t2 t3 (exiting (chart_of chart) (rows_of p.conf) (rows_of p.out) ++ flat (transition_effects (chart_of chart) (rows_of p.stay) by) chosen) _ both w3

-- ---- a start

pub paths_within : (c : Chart) (d : ℕ) (to xs : List ℕ) → xs ≡ paths_below c d to → Within c.rows xs
paths_within c d to xs e = rw e (record { at = path_inside c d to })

-- by a history that has nothing stored for the chart's rows
pub first_is : (c : Chart) → Sound c → (hist : History) → ((h : ℕ) → h < c.rows → hist h ≡ nothing_at h) → (aim : List ℕ) (i : Entry) → i ≡ entry_set c (initial_targets c hist) aim →
    aim ≡ paths_below c 0 (initial_targets c hist 0) → i ≡ first_entry c
unfolding first_entry
first_is c g hist n aim i e f =
    e ∙ ap (entry_set c (initial_targets c hist)) f ∙ ap (λ (targets : ℕ → List ℕ). entry_set c targets (paths_below c 0 (targets 0))) (initial_same c g hist nothing_at n)

-- by zeros, where nothing is exited
pub first_by_zeros : (chart : List ℕ) → Ready chart → (history : List ℕ) → history ≡ replicate 1024 0 → (conf out : RowSet) → rows_of out ≡ [] → (aim : List ℕ) (i : Entry) →
    i ≡ entry_set (chart_of chart) (initial_targets (chart_of chart) (stored (chart_of chart) (rows_of conf) (stored_at history) (rows_of out))) aim →
    (to : List ℕ) → aim ≡ paths_below (chart_of chart) 0 to → to ≡ initial_targets (chart_of chart) (stored (chart_of chart) (rows_of conf) (stored_at history) (rows_of out)) 0 → i ≡ first_entry (chart_of chart)
first_by_zeros chart g history z conf out e aim i f to p q =
    first_is (chart_of chart) g.sound (stored (chart_of chart) (rows_of conf) (stored_at history) (rows_of out))
    (λ h l. ap (λ (xs : List ℕ). stored (chart_of chart) (rows_of conf) (stored_at xs) (rows_of out) h) z ∙ start_stored (chart_of chart) (rows_of conf) (rows_of out) g.tables.sized.counts.rows e h l)
    aim i f (p ∙ ap (paths_below (chart_of chart) 0) q)

pub first_defaults : (c : Chart) (i : Entry) → i ≡ first_entry c → Within c.rows i.entered_by_default
unfolding first_entry
first_defaults c i e = defaults_within c (initial_targets c nothing_at) (paths_below c 0 (initial_targets c nothing_at 0)) i e

pub first_fallen_lem : (c : Chart) (i : Entry) (fell : List ℕ) → i ≡ first_entry c → fell ≡ with_initial c nothing_at [] (0 ∷ i.entered_by_default) → fell ≡ first_fallen c
unfolding first_fallen
first_fallen_lem c i fell e f = f ∙ ap (λ (x : Entry). with_initial c nothing_at [] (0 ∷ x.entered_by_default)) e

-- what is written for the plan of a start
unfoldable pub start_effects : Chart → Plan → List Effect
start_effects c p = entering c (rows_of p.stay) (entry_is p.set p.by_default) (rows_of p.fallen)

pub start_effects_lem : (c : Chart) (p : Plan) → StartPlanned c p → start_effects c p ≡ first_effects c
unfolding start_effects first_effects
start_effects_lem c p h = rw (h.stay, h.entry, h.fallen)

-- a round and a start have fewer effects than 32 bits count
pub plan_few : (chart : List ℕ) (p : Plan) (by : ℕ → ℕ) (chosen : List ℕ) → PlanReady chart p → Taken (transition_count chart) chosen → length (plan_effects (chart_of chart) p by chosen) ≤ 4294967295
unfolding plan_effects
plan_few chart p by chosen h w =
    let l = round_few chart h.ready.tables (rows_of p.conf) p.out by chosen (rows_of p.stay) p.set p.by_default p.fallen h.out w.most w.inside h.set h.fallen in
    omega arith

pub start_few : (chart : List ℕ) (p : Plan) → PlanReady chart p → length (start_effects (chart_of chart) p) ≤ 4294967295
unfolding start_effects
start_few chart p h = let l = entries_few chart h.ready.tables (rows_of p.stay) p.set p.by_default p.fallen h.set h.fallen in omega arith

pub start_room : (chart : List ℕ) (p : Plan) (t : Tally) → PlanReady chart p → Small t → Room t (start_effects (chart_of chart) p)
unfolding start_effects
start_room chart p t h s = entering_room chart h.ready.tables t (rows_of p.stay) p.set p.by_default p.fallen s.entries s.names s.timers h.set h.fallen

pub no_histories : (chart xs : List ℕ) → Ready chart → xs ≡ [] → HistoryRows chart xs
unfolding mem
no_histories chart xs g e = record { ready = g; at = λ h m. absurd (no (rw e at m)) }

-- ---- after the round

-- the next configuration is inside the chart
pub next_within : (chart : List ℕ) (conf : List ℕ) (hist : History) (ts : List ℕ) (p : Plan) → Within (row_count chart) conf → Planned (chart_of chart) conf hist ts p → PlanReady chart p →
    Within (row_count chart) (union (rows_of p.stay) (rows_of p.set))
unfolding staying
next_within chart conf hist ts p w q h =
    union_within (row_count chart) (rows_of p.stay) (rows_of p.set)
    (record { at = λ i m. w.at i (and_left (mem i conf) _ (sym (ap (mem i) q.stay ∙ mem_minus i conf (exits (chart_of chart) conf hist ts)) ∙ m)) }) h.set
