-- The tests of a stored set, as the definition has them.
use Rattle.std.specs.Prelude.{◌≡◌, Bool, true, false, not, List, [], ℕ, ◌<◌}
use Rattle.std.proofs.Common.{sym, ap, ◌∙◌}
use borrow.Author.Tests.{not-true, not-false}
use Rattle.definition.specs.Rows.{mem, all, is_set, is_single, subset, fold}
use Rattle.definition.specs.Chart.{Chart, kind, parent, is_parallel, is_shallow}
use Rattle.definition.specs.Tables.{row_count, chart_of}
use Rattle.definition.specs.Tree.{is_descendant, is_child, children, descendants, is_atomic}
use Rattle.follower.specs.Microstep.{add_path, paths_below}
use Rattle.follower.specs.Legal.{children_fit, shallow_fits, is_atomic_below, deep_fits, is_storable}
use Rattle.laws.specs.Bools.{both_ways, and_right}
use Rattle.laws.specs.Sets.{mem_intersection}
use Rattle.laws.specs.Lists.{all_mem, mem_all, subset_mem, mem_subset}
use Rattle.accepted.specs.Tree.{Tree, children_mem, mem_children}
use Rattle.accepted.specs.Sound.{mem_descendants, descendants_mem}
use Rattle.chart.specs.Ready.{Ready}
use Rattle.legality.specs.Rows.{RowsReady}

-- ---- shallow

-- the rows of the set are children exactly if they are among the children
children_all : (c : Chart) → Tree c → (p : ℕ) (set : List ℕ) → ((i : ℕ) → mem i set ≡ true → i < c.rows) → subset set (children c p) ≡ all (is_child c p) set
children_all c t p set low =
    both_ways (subset set (children c p)) (all (is_child c p) set)
    (λ h. mem_all (is_child c p) set (λ i m. (mem_children c t p i (subset_mem set (children c p) h i m)).1))
    (λ h. mem_subset set (children c p) (λ i m. children_mem c t p i (low i m) (all_mem (is_child c p) set h i m)))

module _ (chart set : List ℕ) (p : ℕ) (r : RowsReady chart set) (kids : List ℕ) (e : kids ≡ children (chart_of chart) p) (a : Bool) (f : a ≡ subset set kids) where
  all_kids : a ≡ all (is_child (chart_of chart) p) set
  all_kids = f ∙ ap (subset set) e ∙ children_all (chart_of chart) r.ready.sound.tree p set r.inside

  pub shallow_not : not a ≡ true → false ≡ shallow_fits (chart_of chart) p set
  unfolding shallow_fits
  shallow_not n = rw (← all_kids, not-true a n)

  pub shallow_parallel : (b : Bool) → not a ≡ false → is_parallel (kind (chart_of chart) p) ≡ true → b ≡ subset kids set → b ≡ shallow_fits (chart_of chart) p set
  unfolding shallow_fits
  shallow_parallel b n k h = rw (← all_kids, not-false a n, k, ← e) h

  pub shallow_single : (b : Bool) → not a ≡ false → is_parallel (kind (chart_of chart) p) ≡ false → b ≡ is_single set → b ≡ shallow_fits (chart_of chart) p set
  unfolding shallow_fits
  shallow_single b n k h = rw (← all_kids, not-false a n, k) h

-- ---- deep

module _ (chart : List ℕ) (p i : ℕ) (l : i < row_count chart) (below : List ℕ) (e : below ≡ descendants (chart_of chart) p) (a : Bool) (f : a ≡ mem i below) where
  is_below : a ≡ is_descendant (chart_of chart) p i
  is_below =
      f ∙ ap (mem i) e ∙
      both_ways (mem i (descendants (chart_of chart) p)) (is_descendant (chart_of chart) p i) (λ m. (mem_descendants (chart_of chart) p i m).1) (λ d. descendants_mem (chart_of chart) p i l d)

  pub below_not : not a ≡ true → false ≡ is_atomic_below (chart_of chart) p i
  unfolding is_atomic_below
  below_not n = rw (← is_below, not-true a n)

  pub below_atomic : (b : Bool) → not a ≡ false → b ≡ is_atomic (chart_of chart) i → b ≡ is_atomic_below (chart_of chart) p i
  unfolding is_atomic_below
  below_atomic b n h = rw (← is_below, not-false a n) h

-- the rows on the way are rows of the chart
pub paths_ready : (chart xs paths : List ℕ) (p : ℕ) → Ready chart → paths ≡ paths_below (chart_of chart) p xs → RowsReady chart paths
unfolding paths_below
paths_ready chart xs paths p h e =
    let c = chart_of chart in
    record {
      ready = h;
      inside = λ i m. (mem_descendants c p i
          (and_right (mem i (fold (add_path c) [] xs)) _ (sym (mem_intersection i (fold (add_path c) [] xs) (descendants c p)) ∙ sym (ap (mem i) e) ∙ m))).0;
    }

module _ (c : Chart) (p : ℕ) (set : List ℕ) where
  pub deep_not : (a : Bool) → a ≡ all (is_atomic_below c p) set → not a ≡ true → false ≡ deep_fits c p set
  unfolding deep_fits
  deep_not a e n = rw (← e, not-true a n)

  module _ (a : Bool) (e : a ≡ all (is_atomic_below c p) set) (n : not a ≡ false) (paths : List ℕ) (q : paths ≡ paths_below c p set) (d : Bool) (f : d ≡ children_fit c paths p) where
    pub deep_apart : not d ≡ true → false ≡ deep_fits c p set
    unfolding deep_fits
    deep_apart m = rw (← e, not-false a n, ← q, ← f, not-true d m)

    pub deep_is : (b : Bool) → not d ≡ false → b ≡ all (children_fit c paths) paths → b ≡ deep_fits c p set
    unfolding deep_fits
    deep_is b m h = rw (← e, not-false a n, ← q, ← f, not-false d m) h

-- ---- either

module _ (c : Chart) (h : ℕ) (set : List ℕ) where
  pub storable_outside : is_set c.rows set ≡ false → false ≡ is_storable c h set
  unfolding is_storable
  storable_outside e = rw e

  pub storable_shallow : (p : ℕ) (b : Bool) → is_set c.rows set ≡ true → p ≡ parent c h → is_shallow (kind c h) ≡ true → b ≡ shallow_fits c p set → b ≡ is_storable c h set
  unfolding is_storable
  storable_shallow p b e q k f = rw (e, k, ← q) f

  pub storable_deep : (p : ℕ) (b : Bool) → is_set c.rows set ≡ true → p ≡ parent c h → is_shallow (kind c h) ≡ false → b ≡ deep_fits c p set → b ≡ is_storable c h set
  unfolding is_storable
  storable_deep p b e q k f = rw (e, k, ← q) f
