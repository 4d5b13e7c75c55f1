-- Rule 3, row by row: the climb to a parent, what the parents that fit give of a chart, and the rows that have children or histories.
use Rattle.std.specs.Prelude.{◌≡◌, Bool, not, ◌&&◌, ◌||◌, eqb}
use Rattle.std.proofs.Math.Path.{refl, sym, ap}
use Rattle.std.proofs.Common.{◌∙◌}
use Rattle.std.proofs.Math.Bool.{true, false}
use mathlib.Core.List.{List, [], ◌∷◌}
use Prim.Native.Nat.{ℕ, zero, suc, ◌+◌, ◌-◌, ◌<◌, ◌≤◌}
use native.Mathlib.Omega.{arith}
use borrow.Author.Tests.{eq-eqb, ne_eqb, lt-ltb, le-ltb}
use Rattle.definition.specs.Rows.{from, keep, those, mem, any, all, is_empty, insert}
use Rattle.definition.specs.Chart.{Chart, kind, parent, is_root, is_parallel, is_history}
use Rattle.definition.specs.Tables.{no_number, row_count, row_cell, kind_at, parent_at, chart_of}
use Rattle.definition.specs.Tree.{ancestors, is_child, children}
use Rattle.definition.specs.Rules.{may_stand, parent_fits, is_history_of, needs_child, stands_well, rule3}
use Rattle.laws.specs.Bools.{clash, both_ways, bool_case, or_false, and_false, and_left, and_right, and_true, and3}
use Rattle.laws.specs.Sets.{mem_insert}
use Rattle.laws.specs.Lists.{mem_cases}
use Rattle.laws.specs.Loops.{from_last, any_append, each_below, below_each}
use Rattle.accepted.specs.Tree.{Tree, ancestors_on, ancestors_top, ancestor_low}
use Rattle.rowset.specs.declared.RowSet.{RowSet}
use Rattle.rowset.specs.Member.{rows_of}
use Rattle.kinds.specs.Stands.{root_no_history}
use Rattle.tables.specs.Ranges.{InTables, RowIn}

-- ---- the climb from row i to p, by the number in the parent's column, q

module _ (numbers : List ℕ) (i p : ℕ) where
  abbrev on_path : ℕ → Bool
  on_path k = mem p (k ∷ ancestors (chart_of numbers) k)

  pub path_here : i ≡ p → true ≡ on_path i
  unfolding mem
  path_here e = sym (rw (eq-eqb p i (sym e)))

  pub path_top : (q : ℕ) → (i ≡ p → ⊥) → q ≡ parent_at numbers i → i ≤ q → false ≡ on_path i
  unfolding mem
  path_top q d e l = sym (rw (ne_eqb p i (λ z. d (sym z)), ancestors_top (chart_of numbers) i (rw (← e) l)))

  pub path_up : (q : ℕ) → (i ≡ p → ⊥) → q ≡ parent_at numbers i → q < i → on_path i ≡ on_path q
  unfolding mem
  path_up q d e l =
      let m : parent_at numbers i < i = rw (← e) l in
      rw (ne_eqb p i (λ z. d (sym z)), ancestors_on (chart_of numbers) i m, e)

-- the path of the row before i was climbed to the number in the parent's column, q
pub path_said : (numbers : List ℕ) (i q : ℕ) (b t : Bool) → q ≡ parent_at numbers i → b ≡ mem q ((i - 1) ∷ ancestors (chart_of numbers) (i - 1)) → b ≡ t →
    mem (parent_at numbers i) ((i - 1) ∷ ancestors (chart_of numbers) (i - 1)) ≡ t
path_said numbers i q b t e f h = rw (← e, ← f) h

-- ---- does the parent fit

module _ (c : Chart) (i : ℕ) where
  pub fits_root : i ≡ 0 → (is_root (kind c i) && eqb (parent c i) no_number) ≡ parent_fits c i
  unfolding parent_fits
  fits_root e = rw e

  -- the row is not the first
  fits_other : (i ≡ 0 → ⊥) →
      parent_fits c i ≡ (not (is_root (kind c i)) && mem (parent c i) ((i - 1) ∷ ancestors c (i - 1)) && may_stand (kind c (parent c i)) (kind c i))
  unfolding parent_fits
  fits_other d = go i d
    where
      go : (i : ℕ) → (i ≡ 0 → ⊥) →
          parent_fits c i ≡ (not (is_root (kind c i)) && mem (parent c i) ((i - 1) ∷ ancestors c (i - 1)) && may_stand (kind c (parent c i)) (kind c i))
      go zero d = absurd (d refl)
      go (suc j) d = let e : suc j - 1 ≡ j = omega arith in rw e

  module _ (d : i ≡ 0 → ⊥) where
    pub fits_no_root : is_root (kind c i) ≡ true → false ≡ parent_fits c i
    fits_no_root h = sym (fits_other d ∙ rw h)

    module _ (h : is_root (kind c i) ≡ false) where
      pub fits_off_path : mem (parent c i) ((i - 1) ∷ ancestors c (i - 1)) ≡ false → false ≡ parent_fits c i
      fits_off_path m = sym (fits_other d ∙ rw (h, m))

      pub fits_stand : mem (parent c i) ((i - 1) ∷ ancestors c (i - 1)) ≡ true → may_stand (kind c (parent c i)) (kind c i) ≡ parent_fits c i
      fits_stand m = sym (fits_other d ∙ rw (h, m))

  -- a row on the path of the row before it
  pub path_low : (i ≡ 0 → ⊥) → mem (parent c i) ((i - 1) ∷ ancestors c (i - 1)) ≡ true → parent c i < i
  path_low d m =
      mem_cases (parent c i) (i - 1) (ancestors c (i - 1)) (λ e. omega arith) (λ k. let l = ancestor_low c (i - 1) (parent c i) k in omega arith) m

  fits_low : (i ≡ 0 → ⊥) → parent_fits c i ≡ true → parent c i < i
  fits_low d h =
      path_low d (and3 (not (is_root (kind c i))) (mem (parent c i) ((i - 1) ∷ ancestors c (i - 1))) (may_stand (kind c (parent c i)) (kind c i)) (sym (fits_other d) ∙ h)).1

-- ---- tables whose every parent fits

pub record TreeIn (numbers : List ℕ) : Type 0 where
  pub tables : InTables numbers
  pub fits : (i : ℕ) → i < row_count numbers → parent_fits (chart_of numbers) i ≡ true

module _ (numbers : List ℕ) (t : TreeIn numbers) where
  pub tree_parent : (i : ℕ) → 0 < i → i < row_count numbers → parent_at numbers i < i
  tree_parent i p l = fits_low (chart_of numbers) i (λ e. omega arith) (t.fits i l)

  tree_root : is_root (kind_at numbers 0) ≡ true
  unfolding parent_fits
  tree_root = and_left (is_root (kind_at numbers 0)) _ (t.fits 0 t.tables.sized.counts.some)

  pub root_plain : is_history (kind_at numbers 0) ≡ false
  root_plain = root_no_history (kind_at numbers 0) tree_root

  -- a history is not the first row, so it has a parent
  pub history_parent : (i : ℕ) → RowIn numbers i → is_history (kind_at numbers i) ≡ true → parent_at numbers i < i
  history_parent zero r h = absurd (clash _ h root_plain)
  history_parent (suc i) r h = tree_parent (suc i) (omega arith) r.below

-- ---- the rows that have a row of one kind or another under them

-- s has row a if one of the first n rows stands to a as p says
pub record Marks (p : ℕ → ℕ → Bool) (n : ℕ) (s : RowSet) : Type 0 where
  pub at : (a : ℕ) → mem a (rows_of s) ≡ any (p a) (from n 0)

module _ (p : ℕ → ℕ → Bool) where
  any_more : (a i : ℕ) → any (p a) (from (i + 1) 0) ≡ (any (p a) (from i 0) || p a i)
  unfolding any
  any_more a i = ap (any (p a)) (from_last i) ∙ any_append (p a) (from i 0) (i ∷ []) ∙ rw (or_false (p a i))

  pub marks_begin : (s : RowSet) → rows_of s ≡ [] → ((a : ℕ) → p a 0 ≡ false) → Marks p 1 s
  unfolding any from mem
  marks_begin s e f = record { at = λ a. rw (e, f a) }

  pub marks_skip : (i : ℕ) (s : RowSet) → Marks p i s → ((a : ℕ) → p a i ≡ false) → Marks p (i + 1) s
  marks_skip i s m f = record { at = λ a. m.at a ∙ sym (any_more a i ∙ rw (f a) (or_false (any (p a) (from i 0)))) }

  pub marks_add : (i q : ℕ) (s t : RowSet) → Marks p i s → rows_of t ≡ insert q (rows_of s) → ((a : ℕ) → p a i ≡ eqb a q) → Marks p (i + 1) t
  marks_add i q s t m e f = record { at = λ a. rw (e, mem_insert a q (rows_of s), m.at a) (sym (any_more a i ∙ rw (f a) (swap (any (p a) (from i 0)) (eqb a q)))) }
    where
      swap : (x y : Bool) → (x || y) ≡ (y || x)
      swap true true = refl
      swap true false = refl
      swap false true = refl
      swap false false = refl

  pub marks_end : (i m n : ℕ) (s : RowSet) → i ≤ m → m ≤ i → m ≡ n → Marks p i s → Marks p n s
  marks_end i m n s l g e h = let z : i ≡ n = omega arith in rw (← z) h

module _ (c : Chart) where
  pub first_no_child : (a : ℕ) → is_child c a 0 ≡ false
  unfolding is_child
  first_no_child a = rw (le-ltb (parent c 0) 0 (omega arith)) (and_false (not (is_history (kind c 0))))

  module _ (i : ℕ) where
    pub plain_no_history : is_history (kind c i) ≡ false → (a : ℕ) → is_history_of c a i ≡ false
    unfolding is_history_of
    plain_no_history h a = rw h

    pub history_no_child : is_history (kind c i) ≡ true → (a : ℕ) → is_child c a i ≡ false
    unfolding is_child
    history_no_child h a = rw h

    pub plain_child : (q : ℕ) → is_history (kind c i) ≡ false → parent c i < i → q ≡ parent c i → (a : ℕ) → is_child c a i ≡ eqb a q
    unfolding is_child
    plain_child q h l e a = rw (h, lt-ltb (parent c i) i l, e)

    pub history_of : (q : ℕ) → is_history (kind c i) ≡ true → q ≡ parent c i → (a : ℕ) → is_history_of c a i ≡ eqb a q
    unfolding is_history_of
    history_of q h e a = rw (h, e)

  -- ---- a row that needs a child has one

  empty_keep : (p : ℕ → Bool) (xs : List ℕ) → any p xs ≡ not (is_empty (keep p xs))
  unfolding any is_empty
  empty_keep p [] = refl
  empty_keep p (x ∷ xs) = bool_case (p x) (λ e. rw e) (λ e. rw e (empty_keep p xs))

  pub marks_children : (s : RowSet) → Marks (is_child c) c.rows s → (a : ℕ) → mem a (rows_of s) ≡ not (is_empty (children c a))
  unfolding children those
  marks_children s m a = m.at a ∙ empty_keep (is_child c a) (from c.rows 0)

unfoldable pub is_filled : Chart → ℕ → Bool
is_filled c i = not (needs_child c i) || not (is_empty (children c i))

module _ (c : Chart) (s t : RowSet) (i : ℕ) (ms : Marks (is_child c) c.rows s) (mt : Marks (is_history_of c) c.rows t) where
  needs_child_lem : (h n : Bool) → h ≡ mem i (rows_of t) → (is_root (kind c i) || is_parallel (kind c i) || h) ≡ n → needs_child c i ≡ n
  unfolding needs_child
  needs_child_lem h n e q = rw (← mt.at i, ← e) q

  pub filled_child : (h b : Bool) → h ≡ mem i (rows_of t) → (is_root (kind c i) || is_parallel (kind c i) || h) ≡ true → b ≡ mem i (rows_of s) → b ≡ is_filled c i
  unfolding is_filled
  filled_child h b e q f = f ∙ marks_children c s ms i ∙ sym (rw (needs_child_lem h true e q))

  pub filled_other : (h : Bool) → h ≡ mem i (rows_of t) → (is_root (kind c i) || is_parallel (kind c i) || h) ≡ false → true ≡ is_filled c i
  unfolding is_filled
  filled_other h e q = sym (rw (needs_child_lem h false e q))

-- ---- rule 3: every parent fits, and every row is filled

module _ (c : Chart) where
  stands_parts : all (stands_well c) (from c.rows 0) ≡ (all (parent_fits c) (from c.rows 0) && all (is_filled c) (from c.rows 0))
  unfolding stands_well is_filled
  stands_parts =
      both_ways _ _
      (λ e. let f = each_below (stands_well c) c.rows e in
      and_true _ _ (below_each (parent_fits c) c.rows (λ i l. and_left (parent_fits c i) _ (f i l))) (below_each (is_filled c) c.rows (λ i l. and_right (parent_fits c i) _ (f i l))))
      (λ e. below_each (stands_well c) c.rows (λ i l. and_true (parent_fits c i) _
      (each_below (parent_fits c) c.rows (and_left _ _ e) i l) (each_below (is_filled c) c.rows (and_right (all (parent_fits c) (from c.rows 0)) _ e) i l)))

  pub parents_decide : all (parent_fits c) (from c.rows 0) ≡ false → false ≡ rule3 c
  unfolding rule3
  parents_decide h = sym (stands_parts ∙ rw h)

  pub filled_decide : (b : Bool) → all (parent_fits c) (from c.rows 0) ≡ true → b ≡ all (is_filled c) (from c.rows 0) → b ≡ rule3 c
  unfolding rule3
  filled_decide b h e = e ∙ sym (stands_parts ∙ rw h)

  pub parents_kept : rule3 c ≡ true → (i : ℕ) → i < c.rows → parent_fits c i ≡ true
  unfolding rule3
  parents_kept h = each_below (parent_fits c) c.rows (and_left (all (parent_fits c) (from c.rows 0)) _ (sym stands_parts ∙ h))

pub tree_fits : (numbers : List ℕ) → InTables numbers → all (parent_fits (chart_of numbers)) (from (row_count numbers) 0) ≡ true → TreeIn numbers
tree_fits numbers t h = record { tables = t; fits = each_below (parent_fits (chart_of numbers)) (row_count numbers) h }

pub parent_in : (numbers : List ℕ) (i q : ℕ) → RowIn numbers i → q ≡ parent_at numbers i → parent_at numbers i < i → RowIn numbers q
parent_in numbers i q r e l = let b = r.below in record { tables = r.tables; below = omega arith }

pub tree_kept : (numbers : List ℕ) → InTables numbers → rule3 (chart_of numbers) ≡ true → TreeIn numbers
tree_kept numbers t h = record { tables = t; fits = parents_kept (chart_of numbers) h }

-- what accepted charts are shown of stands on rule 3 too
pub tree_of : (numbers : List ℕ) → InTables numbers → rule3 (chart_of numbers) ≡ true → Tree (chart_of numbers)
unfolding kind_at parent_at row_cell
tree_of numbers t h =
    record { rule = h; some = t.sized.counts.some; beyond_kind = λ i l. rw (le-ltb i (row_count numbers) l); beyond_parent = λ i l. rw (le-ltb i (row_count numbers) l) }
