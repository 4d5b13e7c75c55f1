-- The tests of the code over one row and over a set of rows, as the definition has them.
use Rattle.std.specs.Prelude.{◌≡◌, Bool, not, ◌&&◌, ◌||◌, ℕ, zero, suc, ◌+◌, ◌≤◌, ◌<◌, min, leb}
use Rattle.std.proofs.Math.Path.{refl, sym}
use Rattle.std.proofs.Common.{ap, ◌∙◌, arith}
use Rattle.std.proofs.Math.Bool.{true, false, cond}
use mathlib.Core.List.{List, []}
use borrow.Author.Tests.{not-true, not-false, ltb-true}
use Rattle.definition.specs.declared.Kind.{Kind}
use Rattle.definition.specs.declared.Kind.TheVariants.{Root, State, Parallel, Final, Shallow, Deep}
use Rattle.definition.specs.Rows.{from, mem, any, all, is_empty, is_set, is_single, intersection, minus, subset}
use Rattle.definition.specs.Chart.{Chart, kind, parent, is_root, is_state, is_parallel, is_final, is_history}
use Rattle.definition.specs.Tables.{row_count, kind_at, chart_of}
use Rattle.definition.specs.Tree.{children, is_compound, is_domain_kind}
use Rattle.follower.specs.Follower.{is_final_under_root}
use Rattle.follower.specs.Legal.{children_fit, fits_row, is_legal}
use Rattle.laws.specs.Bools.{no, both_ways, clash, and_true, and_left, and_right}
use Rattle.laws.specs.Sets.{Ascends, mem_below, mem_from, mem_intersection}
use Rattle.laws.specs.Lists.{any_true, any_mem, empty_list, subset_mem, mem_subset, ascends_set, set_below}
use Rattle.accepted.specs.Tree.{Tree, root_kind, root_zero, child_of, children_mem}
use Rattle.chart.specs.Ready.{Ready, RowReady}
use Rattle.rowset.specs.declared.RowSet.{RowSet}
use Rattle.rowset.specs.Member.{rows_of}
use Rattle.rowset.specs.Rows.{ascends_rows}

-- a set of the chart's rows
pub record RowsReady (chart set : List ℕ) : Type 0 where
  pub ready : Ready chart
  pub inside : (i : ℕ) → mem i set ≡ true → i < row_count chart

-- a history of the chart
pub record HistoryReady (chart : List ℕ) (h : ℕ) : Type 0 where
  pub row : RowReady chart h
  pub history : is_history (kind_at chart h) ≡ true

pub row_ready : (chart set : List ℕ) (i : ℕ) → RowsReady chart set → mem i set ≡ true → RowReady chart i
row_ready chart set i h m = record { ready = h.ready; inside = h.inside i m }

-- the parent is active; the root always is
unfoldable pub is_held : Chart → List ℕ → ℕ → Bool
is_held c set i = is_root (kind c (parent c i)) || mem (parent c i) set

-- ---- one row

module _ (c : Chart) (set : List ℕ) (i : ℕ) where
  pub fit_parallel : (kids : List ℕ) (b : Bool) → is_parallel (kind c i) ≡ true → kids ≡ children c i → b ≡ subset kids set → b ≡ children_fit c set i
  unfolding children_fit
  fit_parallel kids b p e h = rw (p, ← e) h

  pub fit_none : (d : Bool) → is_parallel (kind c i) ≡ false → d ≡ is_domain_kind c i → not d ≡ true → true ≡ children_fit c set i
  unfolding children_fit
  fit_none d p e n = rw (p, ← e, not-true d n)

  pub fit_single : (kids both : List ℕ) (d b : Bool) → is_parallel (kind c i) ≡ false → d ≡ is_domain_kind c i → not d ≡ false → kids ≡ children c i →
      both ≡ intersection kids set → b ≡ is_single both → b ≡ children_fit c set i
  unfolding children_fit
  fit_single kids both d b p e n k q h = rw (p, ← e, not-false d n, ← k, ← q) h

  -- a row without children, which is not the root
  pub fit_empty : (kids : List ℕ) (b : Bool) → is_root (kind c i) ≡ false → kids ≡ children c i → b ≡ is_empty kids → b ≡ true → true ≡ children_fit c set i
  unfolding children_fit is_domain_kind is_compound subset minus is_empty
  fit_empty kids b r e f h =
      let none : children c i ≡ [] = sym e ∙ empty_list kids (sym f ∙ h) in
      sym (rw (r, none) (go (is_parallel (kind c i)) (is_state (kind c i)) _))
    where
      go : (p s x : Bool) → cond p true (not (false || (s && false)) || x) ≡ true
      go true s x = refl
      go false true x = refl
      go false false x = refl

  pub row_root : is_root (kind c i) ≡ true → false ≡ fits_row c set i
  unfolding fits_row
  row_root h = rw h

  pub row_history : is_root (kind c i) ≡ false → is_history (kind c i) ≡ true → false ≡ fits_row c set i
  unfolding fits_row
  row_history r h = rw (r, h)

  pub held_root : (p : ℕ) (k : Kind) → p ≡ parent c i → k ≡ kind c p → is_root k ≡ true → true ≡ is_held c set i
  unfolding is_held
  held_root p k e q r = rw (← e, ← q, r)

  pub held_mem : (p : ℕ) (k : Kind) (b : Bool) → p ≡ parent c i → k ≡ kind c p → is_root k ≡ false → b ≡ mem p set → b ≡ is_held c set i
  unfolding is_held
  held_mem p k b e q r m = rw (← e, ← q, r) m

  pub row_alone : is_root (kind c i) ≡ false → is_history (kind c i) ≡ false → is_held c set i ≡ false → false ≡ fits_row c set i
  unfolding fits_row is_held
  row_alone r h n = rw (r, h, n)

  pub row_held : (b : Bool) → is_root (kind c i) ≡ false → is_history (kind c i) ≡ false → is_held c set i ≡ true → b ≡ children_fit c set i → b ≡ fits_row c set i
  unfolding fits_row is_held
  row_held b r h k m = rw (r, h, k) m

module _ (c : Chart) (i : ℕ) where
  pub final_not : is_final (kind c i) ≡ false → false ≡ is_final_under_root c i
  unfolding is_final_under_root
  final_not h = rw h

  pub final_under : (p : ℕ) (k : Kind) (b : Bool) → is_final (kind c i) ≡ true → p ≡ parent c i → k ≡ kind c p → b ≡ is_root k → b ≡ is_final_under_root c i
  unfolding is_final_under_root
  final_under p k b h e q m = rw (h, ← e, ← q) m

-- only row 0 is the root
pub not_first : (chart : List ℕ) (i : ℕ) → Ready chart → is_root (kind (chart_of chart) i) ≡ false → 0 < i
not_first chart zero h n = absurd (clash _ (root_kind (chart_of chart) h.sound.tree) n)
not_first chart (suc i) h n = omega arith

final_kind : (k : Kind) → is_final k ≡ true → k ≡ Final
final_kind Root h = absurd (no h)
final_kind State h = absurd (no h)
final_kind Parallel h = absurd (no h)
final_kind Final h = refl
final_kind Shallow h = absurd (no h)
final_kind Deep h = absurd (no h)

history_no_root : (k : Kind) → is_history k ≡ true → is_root k ≡ false
history_no_root Root h = absurd (no h)
history_no_root State h = refl
history_no_root Parallel h = refl
history_no_root Final h = refl
history_no_root Shallow h = refl
history_no_root Deep h = refl

pub final_after : (chart : List ℕ) (i : ℕ) → Ready chart → is_final (kind (chart_of chart) i) ≡ true → 0 < i
final_after chart i h f = not_first chart i h (ap is_root (final_kind (kind (chart_of chart) i) f))

pub history_after_lem : (chart : List ℕ) (i : ℕ) → Ready chart → is_history (kind (chart_of chart) i) ≡ true → 0 < i
history_after_lem chart i h f = not_first chart i h (history_no_root (kind (chart_of chart) i) f)

-- ---- a set of rows

-- a test that passes only in ys may be tried on what xs has of them
any_within : (p : ℕ → Bool) (xs ys : List ℕ) → ((x : ℕ) → mem x xs ≡ true → p x ≡ true → mem x ys ≡ true) → any p (intersection xs ys) ≡ any p xs
any_within p xs ys f =
    both_ways (any p (intersection xs ys)) (any p xs)
    (λ h. let r = any_true p (intersection xs ys) h in any_mem p xs r.0 (and_left _ (mem r.0 ys) (sym (mem_intersection r.0 xs ys) ∙ r.1)) r.2)
    (λ h. let r = any_true p xs h in any_mem p (intersection xs ys) r.0 (mem_intersection r.0 xs ys ∙ and_true _ _ r.1 (f r.0 r.1 r.2)) r.2)

-- a final under the root is a child of row 0
final_child : (c : Chart) (t : Tree c) (i : ℕ) → i < c.rows → is_final_under_root c i ≡ true → mem i (children c 0) ≡ true
unfolding is_final_under_root
final_child c t zero l h = absurd (clash _ (root_kind c t) (ap is_root (final_kind (kind c 0) (and_left _ _ h))))
final_child c t (suc i) l h =
    let f = final_kind (kind c (suc i)) (and_left _ _ h) in
    let e : parent c (suc i) ≡ 0 = root_zero c t (parent c (suc i)) (and_right (is_final (kind c (suc i))) _ h) in
    children_mem c t 0 (suc i) l (rw e at (child_of c t i (ap is_history f)))

pub final_children : (chart conf kids top : List ℕ) (b : Bool) → RowsReady chart conf → kids ≡ children (chart_of chart) 0 → top ≡ intersection conf kids →
    b ≡ any (is_final_under_root (chart_of chart)) top → b ≡ any (is_final_under_root (chart_of chart)) conf
final_children chart conf kids top b h k t e =
    e ∙ ap (any (is_final_under_root (chart_of chart))) (t ∙ ap (intersection conf) k) ∙
    any_within (is_final_under_root (chart_of chart)) conf (children (chart_of chart) 0) (λ i m f. final_child (chart_of chart) h.ready.sound.tree i (h.inside i m) f)

-- a part of a set of the chart's rows is one
pub part_ready : (chart conf kids top : List ℕ) → RowsReady chart conf → top ≡ intersection conf kids → RowsReady chart top
part_ready chart conf kids top h t = record {
  ready = h.ready;
  inside = λ i m. h.inside i (and_left (mem i conf) (mem i kids) (sym (mem_intersection i conf kids) ∙ ap (mem i) (sym t) ∙ m));
}

-- the rows below n are a set of them
below_set : (n : ℕ) (xs : List ℕ) → Ascends 0 xs → subset xs (from n 0) ≡ is_set n xs
below_set n xs a =
    both_ways (subset xs (from n 0)) (is_set n xs)
    (λ h. ascends_set n xs a (λ k m. let l : k < 0 + n = ltb-true _ _ (and_right (leb 0 k) _ (sym (mem_from k n 0) ∙ subset_mem xs (from n 0) h k m)) in omega arith))
    (λ h. mem_subset xs (from n 0) (λ k m. mem_below n k (set_below n xs h k m)))

pub set_inside : (s : RowSet) (below : List ℕ) (k n : ℕ) (b : Bool) → n ≤ 256 → k ≡ n → below ≡ from (min k 256) 0 → b ≡ subset (rows_of s) below → b ≡ is_set n (rows_of s)
set_inside s below k n b l q e h =
    let m : min k 256 ≡ n = omega arith in
    h ∙ ap (subset (rows_of s)) (e ∙ ap (λ (i : ℕ). from i 0) m) ∙ below_set n (rows_of s) (ascends_rows s)

module _ (c : Chart) (set : List ℕ) where
  pub legal_outside : is_set c.rows set ≡ false → false ≡ is_legal c set
  unfolding is_legal
  legal_outside h = rw h

  pub legal_not : is_set c.rows set ≡ true → false ≡ all (fits_row c set) set → false ≡ is_legal c set
  unfolding is_legal
  legal_not h e = rw (h, ← e)

  pub legal_is : (b : Bool) → is_set c.rows set ≡ true → true ≡ all (fits_row c set) set → b ≡ children_fit c set 0 → b ≡ is_legal c set
  unfolding is_legal
  legal_is b h e f = rw (h, ← e) f

-- a set that passed
pub rows_ready : (chart set : List ℕ) → Ready chart → is_set (row_count chart) set ≡ true → RowsReady chart set
rows_ready chart set h s = record { ready = h; inside = set_below (row_count chart) set s }

-- the root is a row
pub root_ready : (chart : List ℕ) → Ready chart → RowReady chart 0
root_ready chart h = let s = h.tables.sized.counts.some in record { ready = h; inside = omega arith }
