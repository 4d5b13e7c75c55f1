-- Default entry targets with what stands in for the histories among them, and which of these histories fall to their default lists (R-3).
use Rattle.std.specs.Prelude.{◌≡◌, refl, Bool, ◌&&◌, ◌||◌, cond, ℕ, ◌+◌, ◌*◌, ◌<◌, ◌≤◌, eqb, leb, ltb, get_or, replicate}
use Rattle.std.proofs.Math.Path.{ap, sym, fun_ext}
use Rattle.std.proofs.Common.{◌∙◌, arith, eqb-true, ltb-true}
use Rattle.std.proofs.Math.Bool.{true, false, not}
use mathlib.Core.List.{List, [], ◌∷◌}
use Rattle.std.proofs.lemmas.List.{length-replicate, get_or-replicate}
use Rattle.definition.specs.Rows.{nothing_at, fold, from, keep, mem, is_empty, insert, with, union, minus}
use Rattle.definition.specs.Chart.{Chart, kind, parent, is_parallel, is_history}
use Rattle.definition.specs.Tables.{row_count, kind_at, chart_of}
use Rattle.definition.specs.Tree.{children, descendants, default_targets}
use Rattle.follower.specs.Selection.{History, stand_ins, add_stand_ins, resolved, initial_targets}
use Rattle.follower.specs.Microstep.{stored, would_store, Entry, has_no_child_in, complete, entry_set, paths_below, fell_to_default, add_fallen_initial, with_initial}
use Rattle.laws.specs.Bools.{clash, not_so, no, and_left, and_right, and_true, or_elim, both_ways, bool_case}
use Rattle.laws.specs.Sets.{Ascends, ascends_ext, ascends_minus, ascends_union, mem_insert, mem_keep, mem_minus, mem_union, mem_from, empty_some}
use Rattle.laws.specs.Lists.{keep_cong, keep_mem}
use Rattle.laws.specs.Folds.{fold_same, fold_kept}
use Rattle.laws.specs.Passes.{fold_keeps}
use Rattle.laws.specs.Orders.{union_none}
use Rattle.accepted.specs.Tree.{under_plain, below_under}
use Rattle.accepted.specs.Sound.{Sound, mem_descendants, descendants_mem}
use Rattle.theory.specs.Entry.{aimed_at}
use Rattle.theory.specs.Resolved.{resolved_of, resolved_in, resolved_ascends, default_below}
use Rattle.rowset.specs.declared.RowSet.{RowSet}
use Rattle.rowset.specs.Member.{rows_of}
use Rattle.rowset.specs.Rows.{ascends_rows, rows_empty}
use Rattle.chart.specs.Ready.{Ready, row_set_at}
use Rattle.chart.specs.Within.{Within, within_none}
use Rattle.paths.specs.History.{stored_at}
use Rattle.matching.specs.Chosen.{atomic_rows}
use Rattle.matching.specs.Histories.{is_history_row}
use Rattle.effects.specs.Entering.{HistoryRows}
use Rattle.microstep.specs.Stored.{RoundReady, stored_within}
use Rattle.microstep.specs.Targets.{add_fell, stand_ins_within}

-- ---- two histories that agree on the chart's rows

module _ (c : Chart) (g : Sound c) (before after : History) (agree : (h : ℕ) → h < c.rows → before h ≡ after h) where
  pub initial_same : initial_targets c before ≡ initial_targets c after
  unfolding initial_targets resolved add_stand_ins stand_ins
  initial_same =
      fun_ext (λ i. fold_same (add_stand_ins c before) (add_stand_ins c after) (default_targets c i) [] (λ x set m. rw (agree x (default_below c g i x m).0)))

  pub with_initial_same : (set rows : List ℕ) → with_initial c before set rows ≡ with_initial c after set rows
  unfolding with_initial add_fallen_initial fell_to_default
  with_initial_same set rows =
      fold_same (add_fallen_initial c before) (add_fallen_initial c after) rows set
      (λ i s m. ap (union s) (keep_cong (fell_to_default c before) (fell_to_default c after) (default_targets c i) (λ x n. rw (agree x (default_below c g i x n).0))))

-- ---- the order of the list does not matter

module _ (c : Chart) (hist : History) where
  resolved_part : (xs ys : List ℕ) → ((a : ℕ) → mem a xs ≡ true → mem a ys ≡ true) → (e : ℕ) → mem e (resolved c hist xs) ≡ true → mem e (resolved c hist ys) ≡ true
  resolved_part xs ys f e m = let x = resolved_of c hist xs e m in resolved_in c hist ys x.0 e (f x.0 x.1) x.2

  resolved_same : (xs ys : List ℕ) → ((a : ℕ) → mem a xs ≡ mem a ys) → resolved c hist xs ≡ resolved c hist ys
  resolved_same xs ys f =
      ascends_ext 0 0 (resolved c hist xs) (resolved c hist ys) (resolved_ascends c hist xs) (resolved_ascends c hist ys)
      (λ e. both_ways (mem e (resolved c hist xs)) (mem e (resolved c hist ys)) (resolved_part xs ys (λ a m. sym (f a) ∙ m) e) (resolved_part ys xs (λ a m. f a ∙ m) e))

  -- the set of the default entry targets, resolved
  pub resolved_is : (i : ℕ) (set targets : List ℕ) → targets ≡ union [] (default_targets c i) → set ≡ resolved c hist targets → set ≡ initial_targets c hist i
  unfolding initial_targets mem
  resolved_is i set targets e f = f ∙ ap (resolved c hist) e ∙ resolved_same (union [] (default_targets c i)) (default_targets c i) (λ a. mem_union a [] (default_targets c i))

  pub resolved_pass : (set xs : List ℕ) → set ≡ fold (add_stand_ins c hist) [] xs → set ≡ resolved c hist xs
  unfolding resolved
  resolved_pass set xs e = e

-- ---- the histories among the default entry targets of row i

unfoldable pub listed_histories : Chart → ℕ → List ℕ
listed_histories c i = union [] (keep (is_history_row c) (default_targets c i))

mem_listed : (c : Chart) (i a : ℕ) → mem a (listed_histories c i) ≡ (mem a (default_targets c i) && is_history_row c a)
unfolding listed_histories mem
mem_listed c i a = mem_union a [] (keep (is_history_row c) (default_targets c i)) ∙ mem_keep (is_history_row c) a (default_targets c i)

ascends_listed : (c : Chart) (i : ℕ) → Ascends 0 (listed_histories c i)
unfolding listed_histories
ascends_listed c i = ascends_union [] (keep (is_history_row c) (default_targets c i)) tt

and_same : (b x y : Bool) → (b ≡ true → x ≡ y) → (b && x) ≡ (b && y)
and_same true x y f = f refl
and_same false x y f = refl

module _ (c : Chart) (g : Sound c) (i : ℕ) where
  -- a default entry target is no descendant exactly if it is a history
  not_below : (a : ℕ) → mem a (default_targets c i) ≡ true → not (mem a (descendants c i)) ≡ is_history_row c a
  unfolding is_history_row
  not_below a m =
      let f = default_below c g i a m in
      bool_case (is_history (kind c a))
      (λ h. ap not (not_so (mem a (descendants c i)) (λ d. clash (is_history (kind c a)) h (under_plain c g.tree i a (mem_descendants c i a d).1))) ∙ sym h)
      (λ h. ap not (descendants_mem c i a f.0 (below_under c g.tree i a h f.1)) ∙ sym h)

  pub listed_are : (targets below set : List ℕ) → targets ≡ union [] (default_targets c i) → below ≡ descendants c i → set ≡ minus targets below → set ≡ listed_histories c i
  unfolding mem
  listed_are targets below set e f h =
      h ∙ rw (e, f)
      (ascends_ext 0 0 (minus (union [] (default_targets c i)) (descendants c i)) (listed_histories c i)
      (ascends_minus (union [] (default_targets c i)) (descendants c i) (ascends_union [] (default_targets c i) tt)) (ascends_listed c i) members)
    where
      members : (a : ℕ) → mem a (minus (union [] (default_targets c i)) (descendants c i)) ≡ mem a (listed_histories c i)
      members a =
          mem_minus a (union [] (default_targets c i)) (descendants c i) ∙
          ap (λ (b : Bool). b && not (mem a (descendants c i))) (mem_union a [] (default_targets c i)) ∙
          and_same (mem a (default_targets c i)) (not (mem a (descendants c i))) (is_history_row c a) (not_below a) ∙ sym (mem_listed c i a)

  pub listed_row : (listed : List ℕ) (x : ℕ) → listed ≡ listed_histories c i → mem x listed ≡ true → x < c.rows
  listed_row listed x e m = (default_below c g i x (and_left (mem x (default_targets c i)) _ (sym (mem_listed c i x) ∙ sym (ap (mem x) e) ∙ m))).0

  mem_defaults : (x : ℕ) → mem x (union [] (default_targets c i)) ≡ mem x (default_targets c i)
  unfolding mem
  mem_defaults x = mem_union x [] (default_targets c i)

  -- none: the default entry targets stand for themselves
  pub plain_initial : (hist : History) (targets : List ℕ) → targets ≡ union [] (default_targets c i) → ((x : ℕ) → mem x targets ≡ true → is_history (kind c x) ≡ false) → targets ≡ initial_targets c hist i
  unfolding initial_targets resolved add_stand_ins stand_ins union with fold
  plain_initial hist targets e plain =
      e ∙ sym (fold_same (add_stand_ins c hist) with (default_targets c i) [] (λ x set m. rw (plain x (ap (mem x) e ∙ mem_defaults x ∙ m))))

  pub initial_plain : (hist : History) (targets listed : List ℕ) → targets ≡ union [] (default_targets c i) → listed ≡ listed_histories c i → is_empty listed ≡ true → targets ≡ initial_targets c hist i
  unfolding is_history_row
  initial_plain hist targets listed e f n = plain_initial hist targets e plain
    where
      plain : (x : ℕ) → mem x targets ≡ true → is_history (kind c x) ≡ false
      plain x m =
          not_so (is_history (kind c x))
          (λ h. clash (is_empty (listed_histories c i)) (ap is_empty (sym f) ∙ n)
          (empty_some (listed_histories c i) x
          (mem_listed c i x ∙ and_true (mem x (default_targets c i)) (is_history_row c x) (sym (mem_defaults x) ∙ sym (ap (mem x) e) ∙ m) h)))

-- what stands in lies inside the chart
pub initial_within : (chart history : List ℕ) (atoms conf out : RowSet) → RoundReady chart history atoms conf → (i : ℕ) (to : List ℕ) →
    to ≡ initial_targets (chart_of chart) (stored (chart_of chart) (rows_of conf) (stored_at history) (rows_of out)) i → Within (row_count chart) to
unfolding initial_targets
initial_within chart history atoms conf out w i to q = record {
  at = λ e m.
      let x = resolved_of (chart_of chart) (stored (chart_of chart) (rows_of conf) (stored_at history) (rows_of out)) (default_targets (chart_of chart) i) e (sym (ap (mem e) q) ∙ m) in
      stand_ins_within (chart_of chart) w.store.ready.sound (stored (chart_of chart) (rows_of conf) (stored_at history) (rows_of out)) (stored_within chart history atoms conf out w)
      x.0 (default_below (chart_of chart) w.store.ready.sound i x.0 x.1).0 e x.2;
}

-- ---- those that fall

union_same : (set xs ys : List ℕ) → Ascends 0 set → ((a : ℕ) → mem a xs ≡ mem a ys) → union set xs ≡ union set ys
union_same set xs ys h f =
    ascends_ext 0 0 (union set xs) (union set ys) (ascends_union set xs h) (ascends_union set ys h)
    (λ a. mem_union a set xs ∙ ap (λ (b : Bool). mem a set || b) (f a) ∙ sym (mem_union a set ys))

-- one history of the list after the other
pub fallen_pass : (c : Chart) (after : History) (set : RowSet) (i : ℕ) (all listed : List ℕ) → listed ≡ listed_histories c i → all ≡ fold (add_fell c after) (rows_of set) listed →
    all ≡ add_fallen_initial c after (rows_of set) i
unfolding add_fallen_initial add_fell fell_to_default is_history_row
fallen_pass c after set i all listed e f =
    f ∙ ap (fold (add_fell c after) (rows_of set)) e ∙ fold_kept (fell_to_default c after) (add_fell c after) (λ s x. refl) (rows_of set) (listed_histories c i) ∙
    union_same (rows_of set) (keep (fell_to_default c after) (listed_histories c i)) (keep (fell_to_default c after) (default_targets c i)) (ascends_rows set) members
  where
    once : (m h e : Bool) → ((m && h) && (h && e)) ≡ (m && (h && e))
    once true true e = refl
    once true false e = refl
    once false h e = refl

    members : (a : ℕ) → mem a (keep (fell_to_default c after) (listed_histories c i)) ≡ mem a (keep (fell_to_default c after) (default_targets c i))
    members a =
        mem_keep (fell_to_default c after) a (listed_histories c i) ∙ ap (λ (b : Bool). b && fell_to_default c after a) (mem_listed c i a) ∙
        once (mem a (default_targets c i)) (is_history (kind c a)) (is_empty (after a)) ∙ sym (mem_keep (fell_to_default c after) a (default_targets c i))

-- at a start all of them do
all_fall : (c : Chart) (set : List ℕ) (i : ℕ) → Ascends 0 set → union set (listed_histories c i) ≡ add_fallen_initial c nothing_at set i
unfolding add_fallen_initial fell_to_default is_history_row is_empty
all_fall c set i h =
    union_same set (listed_histories c i) (keep (fell_to_default c nothing_at) (default_targets c i)) h
    (λ a. mem_listed c i a ∙ ap (λ (b : Bool). mem a (default_targets c i) && b) (and_yes (is_history (kind c a))) ∙ sym (mem_keep (fell_to_default c nothing_at) a (default_targets c i)))
  where
    and_yes : (b : Bool) → b ≡ (b && true)
    and_yes true = refl
    and_yes false = refl

pub first_added : (c : Chart) (set : RowSet) (i : ℕ) (all listed : List ℕ) → listed ≡ listed_histories c i → all ≡ union (rows_of set) listed → all ≡ add_fallen_initial c nothing_at (rows_of set) i
first_added c set i all listed e f = f ∙ ap (union (rows_of set)) e ∙ all_fall c (rows_of set) i (ascends_rows set)

pub first_one : (c : Chart) (listed : List ℕ) (i : ℕ) → listed ≡ listed_histories c i → listed ≡ add_fallen_initial c nothing_at [] i
first_one c listed i e = e ∙ sym (union_none 0 (listed_histories c i) (ascends_listed c i)) ∙ all_fall c [] i tt

pub first_pass : (c : Chart) (first set rows : List ℕ) → first ≡ add_fallen_initial c nothing_at [] 0 → set ≡ fold (add_fallen_initial c nothing_at) first rows → set ≡ with_initial c nothing_at [] (0 ∷ rows)
unfolding with_initial fold
first_pass c first set rows e f = f ∙ ap (λ (s : List ℕ). fold (add_fallen_initial c nothing_at) s rows) e

pub with_initial_pass : (c : Chart) (after : History) (before set rows : List ℕ) → set ≡ fold (add_fallen_initial c after) before rows → set ≡ with_initial c after before rows
unfolding with_initial
with_initial_pass c after before set rows e = e

-- they are histories of the chart
pub initial_histories : (chart : List ℕ) → Ready chart → (after : History) (set rows fell : List ℕ) → HistoryRows chart set → fell ≡ with_initial (chart_of chart) after set rows → HistoryRows chart fell
unfolding with_initial add_fallen_initial
initial_histories chart g after set rows fell h e = record {
  ready = g;
  at = rw e (fold_keeps (add_fallen_initial (chart_of chart) after) (λ xs. (x : ℕ) → mem x xs ≡ true → (x < row_count chart) × (is_history (kind_at chart x) ≡ true)) rows set
      (λ i s m v x k. or_elim (mem x s) (mem x (keep (fell_to_default (chart_of chart) after) (default_targets (chart_of chart) i))) (v x) (added i x)
      (sym (mem_union x s (keep (fell_to_default (chart_of chart) after) (default_targets (chart_of chart) i))) ∙ k))
      h.at);
}
  where
    added : (i x : ℕ) → mem x (keep (fell_to_default (chart_of chart) after) (default_targets (chart_of chart) i)) ≡ true → (x < row_count chart) × (is_history (kind_at chart x) ≡ true)
    added i x n =
        let f = keep_mem (fell_to_default (chart_of chart) after) (default_targets (chart_of chart) i) x n in
        ((default_below (chart_of chart) g.sound i x f.0).0, unfold fell_to_default in and_left (is_history (kind_at chart x)) _ f.1)

-- ---- the rows whose child came by default are rows of the chart

pub defaults_within : (c : Chart) (targets : ℕ → List ℕ) (aim : List ℕ) (e : Entry) → e ≡ entry_set c targets aim → Within c.rows e.entered_by_default
unfolding entry_set complete
defaults_within c targets aim e q =
    rw q (fold_keeps (complete c targets) (λ (x : Entry). Within c.rows x.entered_by_default) (from c.rows 0) (aimed_at aim) step (within_none c.rows))
  where
    step : (i : ℕ) (b : Entry) → mem i (from c.rows 0) ≡ true → Within c.rows b.entered_by_default → Within c.rows (complete c targets b i).entered_by_default
    step i b m w = go (mem i b.set) (is_parallel (kind c i)) (has_no_child_in c b.set i)
      where
        below : i < c.rows
        below = let l = ltb-true i (0 + c.rows) (and_right (leb 0 i) (ltb i (0 + c.rows)) (sym (mem_from i c.rows 0) ∙ m)) in omega arith

        more : Within c.rows (insert i b.entered_by_default)
        more = record { at = λ a n. or_elim (eqb a i) (mem a b.entered_by_default) (λ h. rw (eqb-true a i h) below) (w.at a) (sym (mem_insert a i b.entered_by_default) ∙ n) }

        go : (x y z : Bool) → Within c.rows (cond x
            (cond y (record { set = union b.set (children c i); entered_by_default = b.entered_by_default })
            (cond z (record { set = union b.set (paths_below c i (targets i)); entered_by_default = insert i b.entered_by_default }) b)) b).entered_by_default
        go true true z = w
        go true false true = more
        go true false false = w
        go false y z = w

-- ---- a start: nothing is stored or exited

zeros_stored : (history : List ℕ) → ((v : ℕ) → v < 1024 → get_or history v 0 ≡ 0) → (h : ℕ) → h < 256 → stored_at history h ≡ []
unfolding stored_at row_set_at
zeros_stored history z h l =
    let e0 : get_or history (h * 4) 0 ≡ 0 = z (h * 4) (omega arith) in
    let e1 : get_or history (h * 4 + 1) 0 ≡ 0 = z (h * 4 + 1) (omega arith) in
    let e2 : get_or history (h * 4 + 2) 0 ≡ 0 = z (h * 4 + 2) (omega arith) in
    let e3 : get_or history (h * 4 + 3) 0 ≡ 0 = z (h * 4 + 3) (omega arith) in
    rw (e0, e1, e2, e3) rows_empty

zeros_nothing : (h : ℕ) → h < 256 → stored_at (replicate 1024 0) h ≡ []
zeros_nothing = zeros_stored (replicate 1024 0) (λ v l. get_or-replicate 1024 v 0 0 l)

pub empty_within : (n : ℕ) (xs : List ℕ) → xs ≡ [] → Within n xs
empty_within n xs e = rw e (within_none n)

pub start_ready : (chart history : List ℕ) (atoms conf : RowSet) → Ready chart → history ≡ replicate 1024 0 → rows_of atoms ≡ atomic_rows (chart_of chart) → rows_of conf ≡ [] → RoundReady chart history atoms conf
start_ready chart history atoms conf g z a e = rw z (record {
  store = record { ready = g; atomic = a; inside = empty_within (row_count chart) (rows_of conf) e };
  room = length-replicate {A = ℕ} 1024 0;
  kept = λ h l. let few : row_count chart ≤ 256 = g.tables.sized.counts.rows in empty_within (row_count chart) (stored_at (replicate 1024 0) h) (zeros_nothing h (omega arith));
})

kept_where : (b : Bool) (xs ys : List ℕ) → b ≡ false → cond b xs ys ≡ ys
kept_where b xs ys e = rw e

pub start_stored : (c : Chart) (conf out : List ℕ) → c.rows ≤ 256 → out ≡ [] → (h : ℕ) → h < c.rows → stored c conf (stored_at (replicate 1024 0)) out h ≡ nothing_at h
unfolding stored mem
start_stored c conf out few e h l =
    kept_where (is_history (kind c h) && mem (parent c h) out) (would_store c conf h) (stored_at (replicate 1024 0) h)
    (not_so (is_history (kind c h) && mem (parent c h) out) (λ q. no (sym (ap (mem (parent c h)) e) ∙ and_right (is_history (kind c h)) (mem (parent c h) out) q))) ∙
    zeros_nothing h (omega arith)
