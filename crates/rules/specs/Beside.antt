-- One more row beside rows that stand apart: held against all of them at once, by the set of their anchors and the set of what is above these.
-- Of the rows where its path leaves theirs the last alone is looked at. Where it leaves the path of an anchor further up, that anchor and one
-- that is under the last of these rows part there too, and those two were held against each other before.
use Rattle.std.specs.Prelude.{◌≡◌, refl, Bool, true, not, ◌&&◌, ◌||◌, ℕ, ◌+◌, ◌<◌, ◌≤◌, eqb, length, get_or, take}
use Rattle.std.proofs.Math.Path.{sym, ap}
use Rattle.std.proofs.Common.{◌∙◌, arith}
use Rattle.std.proofs.Math.Bool.{false}
use mathlib.Core.List.{List, [], ◌∷◌, ◌++◌, append-nil}
use borrow.Author.Tests.{eqb-false, ne_eqb, not-true}
use Rattle.definition.specs.Rows.{all, mem, is_empty, meets, flat, insert, union}
use Rattle.definition.specs.Chart.{Chart, kind, is_parallel}
use Rattle.definition.specs.Tables.{chart_of}
use Rattle.definition.specs.Tree.{ancestors, anchor}
use Rattle.definition.specs.Rules.{nearest_common, is_apart, are_apart}
use Rattle.laws.specs.Bools.{clash, both_ways, bool_case, not_so, and4, and_left, and_right, or_elim}
use Rattle.laws.specs.Sets.{mem_head, mem_one, mem_insert_one, mem_union, empty_some}
use Rattle.laws.specs.Lists.{Pairs, pairs_both, all_mem, mem_all, mem_app, flat_app, flat_mem, mem_flat, full_mem, meets_none, none_meets}
use Rattle.laws.specs.Orders.{lt_case}
use Rattle.accepted.specs.Tree.{ancestor_low}
use Rattle.rowset.specs.declared.RowSet.{RowSet}
use Rattle.rowset.specs.Member.{rows_of}
use Rattle.tables.specs.Ranges.{RowIn}
use Rattle.rules3.specs.Ancestry.{set_of, Climbed, set_mem}
use Rattle.rules.specs.Apart.{is_apart_from, take_more}
use Rattle.rules.specs.Nearest.{Last, common, nothing, last_one, last_same, last_swap, nearest_last, highest, highest_last, ancestor_over, ancestor_between}

-- ---- the test

-- row a, under the rows over, stands apart from the anchors held, which are under the rows above
unfoldable pub is_beside : Chart → List ℕ → List ℕ → List ℕ → ℕ → Bool
is_beside c held above over a =
    is_empty held || (not (mem a held) && not (mem a above) && not (meets held over) && is_parallel (kind c (highest over above)))

module _ (c : Chart) (held above over : List ℕ) (a : ℕ) where
  pub beside_none : is_empty held ≡ true → true ≡ is_beside c held above over a
  unfolding is_beside
  beside_none h = sym (rw h)

  module _ (f : is_empty held ≡ false) where
    pub beside_held : mem a held ≡ true → false ≡ is_beside c held above over a
    unfolding is_beside
    beside_held h = sym (rw (f, h))

    module _ (n : mem a held ≡ false) where
      pub beside_above : mem a above ≡ true → false ≡ is_beside c held above over a
      unfolding is_beside
      beside_above h = sym (rw (f, n, h))

      module _ (u : mem a above ≡ false) where
        pub beside_under : meets held over ≡ true → false ≡ is_beside c held above over a
        unfolding is_beside
        beside_under h = sym (rw (f, n, u, h))

        pub beside_nearest : (r : ℕ) → meets held over ≡ false → r ≡ highest over above → is_parallel (kind c r) ≡ is_beside c held above over a
        unfolding is_beside
        beside_nearest r h e = rw e (sym (rw (f, n, u, h)))

-- ---- a pair that stands apart

pub record Parted (c : Chart) (a b : ℕ) : Type 0 where
  pub differ : a ≡ b → ⊥
  pub under : mem a (ancestors c b) ≡ false
  pub over : mem b (ancestors c a) ≡ false
  pub parallel : is_parallel (kind c (nearest_common c a b)) ≡ true

module _ (c : Chart) (x y : ℕ) where
  abbrev nearest : ℕ
  nearest = nearest_common c (anchor c x) (anchor c y)

  apart_parted : is_apart c x y ≡ true → Parted c (anchor c x) (anchor c y)
  unfolding is_apart
  apart_parted h =
      let k = and4 (not (eqb (anchor c x) (anchor c y))) (not (mem (anchor c x) (ancestors c (anchor c y)))) (not (mem (anchor c y) (ancestors c (anchor c x)))) (is_parallel (kind c nearest)) h in
      record { differ = eqb-false _ _ (not-true _ k.0); under = not-true _ k.1; over = not-true _ k.2; parallel = k.3 }

  parted_apart : Parted c (anchor c x) (anchor c y) → is_apart c x y ≡ true
  unfolding is_apart
  parted_apart p = rw (ne_eqb (anchor c x) (anchor c y) p.differ, p.under, p.over, p.parallel)

module _ (c : Chart) where
  abbrev Parallel : ℕ → ℕ → Type 0
  Parallel x y = is_parallel (kind c (nearest c x y)) ≡ true

  parallel_swap : (x y : ℕ) → Parallel x y → Parallel y x
  parallel_swap x y h =
      let e : nearest c y x ≡ nearest c x y =
      last_one (ancestors c (anchor c y)) (ancestors c (anchor c x)) _ _ (nearest_last c (anchor c y) (anchor c x))
      (last_swap (ancestors c (anchor c x)) (ancestors c (anchor c y)) _ (nearest_last c (anchor c x) (anchor c y))) in
      rw e h

  parallel_pairs : (xs : List ℕ) → are_apart c xs ≡ true → Pairs Parallel xs
  unfolding are_apart
  parallel_pairs [] h = tt
  parallel_pairs (x ∷ xs) h = (
    (λ y m. (apart_parted c x y (all_mem (is_apart c x) xs (and_left (all (is_apart c x) xs) _ h) y m)).parallel),
    parallel_pairs xs (and_right (all (is_apart c x) xs) _ h),
  )

  -- two rows under r have the same ancestors in common with a row that is not under r
  beside_path : (a b r z x : ℕ) → mem r (ancestors c a) ≡ true → mem r (ancestors c b) ≡ true → mem r (ancestors c x) ≡ false →
      mem z (ancestors c x) ≡ true → mem z (ancestors c a) ≡ true → mem z (ancestors c b) ≡ true
  beside_path a b r z x ra rb rx zx za =
      lt_case z r (λ l. ancestor_over c z r b (ancestor_between c z r a l za ra) rb)
      (λ l. lt_case r z (λ g. absurd (clash _ (ancestor_over c r z x (ancestor_between c r z a g ra za) zx) rx))
      (λ g. let e : z ≡ r = omega arith in absurd (clash _ (rw e at zx) rx)))

-- ---- all of them at once

-- the anchor of row x, and what is above it
abbrev pub anchor_only : Chart → ℕ → List ℕ
anchor_only c x = anchor c x ∷ []

abbrev pub over_anchor : Chart → ℕ → List ℕ
over_anchor c x = ancestors c (anchor c x)

module _ (c : Chart) (xs : List ℕ) (apart : are_apart c xs ≡ true) (held above over : List ℕ) (y a : ℕ) (is : a ≡ anchor c y)
    (hold : (z : ℕ) → mem z held ≡ mem z (flat (anchor_only c) xs)) (top : (z : ℕ) → mem z above ≡ mem z (flat (over_anchor c) xs))
    (own : (z : ℕ) → mem z over ≡ mem z (ancestors c a)) where
  anchor_held : (x : ℕ) → mem x xs ≡ true → mem (anchor c x) held ≡ true
  anchor_held x m = hold (anchor c x) ∙ mem_flat (anchor_only c) xs x (anchor c x) m (mem_head (anchor c x) [])

  over_above : (x z : ℕ) → mem x xs ≡ true → mem z (ancestors c (anchor c x)) ≡ true → mem z above ≡ true
  over_above x z m k = top z ∙ mem_flat (over_anchor c) xs x z m k

  held_anchor : (z : ℕ) → mem z held ≡ true → (x : ℕ) × (mem x xs ≡ true) × (z ≡ anchor c x)
  held_anchor z m =
      let r = flat_mem (anchor_only c) xs z (sym (hold z) ∙ m) in
      (r.0, r.1, mem_one z (anchor c r.0) r.2)

  above_over : (z : ℕ) → mem z above ≡ true → (x : ℕ) × (mem x xs ≡ true) × (mem z (ancestors c (anchor c x)) ≡ true)
  above_over z m = flat_mem (over_anchor c) xs z (sym (top z) ∙ m)

  near_common : (x r : ℕ) → mem x xs ≡ true → mem r over ≡ true → ((z : ℕ) → r < z → mem z over ≡ true → mem z above ≡ true → ⊥) →
      mem r (ancestors c (anchor c x)) ≡ true → nearest_common c (anchor c x) a ≡ r
  near_common x r m o f k =
      last_one (ancestors c (anchor c x)) (ancestors c a) _ r (nearest_last c (anchor c x) a)
      (common k (sym (own r) ∙ o) (λ z l i j. f z l (own z ∙ j) (over_above x z m i)))

  near_nothing : (x : ℕ) → mem x xs ≡ true → ((z : ℕ) → mem z over ≡ true → mem z above ≡ true → ⊥) → nearest_common c (anchor c x) a ≡ 0
  near_nothing x m f =
      last_one (ancestors c (anchor c x)) (ancestors c a) _ 0 (nearest_last c (anchor c x) a)
      (nothing refl (λ z i j. f z (own z ∙ j) (over_above x z m i)))

  -- an anchor that is not under r parts from a where it parts from one that is
  near_other : (x w r : ℕ) → mem r (ancestors c (anchor c x)) ≡ false → mem r (ancestors c (anchor c w)) ≡ true → mem r (ancestors c a) ≡ true →
      nearest_common c (anchor c x) a ≡ nearest_common c (anchor c x) (anchor c w)
  near_other x w r n k o =
      last_one (ancestors c (anchor c x)) (ancestors c (anchor c w)) _ _
      (last_same (ancestors c (anchor c x)) (ancestors c a) (ancestors c (anchor c x)) (ancestors c (anchor c w)) _
      (λ z i j. (i, beside_path c a (anchor c w) r z (anchor c x) o k n i j)) (λ z i j. (i, beside_path c (anchor c w) a r z (anchor c x) k o n i j))
      (nearest_last c (anchor c x) a))
      (nearest_last c (anchor c x) (anchor c w))

  all_parallel : (r x : ℕ) → Last over above r → mem x xs ≡ true → is_parallel (kind c r) ≡ true → is_parallel (kind c (nearest_common c (anchor c x) a)) ≡ true
  all_parallel r x (nothing e f) m p = rw (near_nothing x m f ∙ sym e) p
  all_parallel r x (common o u f) m p =
      let w = above_over r u in
      bool_case (mem r (ancestors c (anchor c x))) (λ k. rw (near_common x r m o f k) p)
      (λ n. rw (near_other x w.0 r n w.2 (sym (own r) ∙ o))
      (pairs_both (Parallel c) (parallel_swap c) xs (parallel_pairs c xs apart) x w.0 m w.1
      (λ e. clash _ w.2 (ap (λ (v : ℕ). mem r (ancestors c (anchor c v))) (sym e) ∙ n))))

  some_parallel : (r v : ℕ) → Last over above r → mem v xs ≡ true → ((x : ℕ) → mem x xs ≡ true → is_parallel (kind c (nearest_common c (anchor c x) a)) ≡ true) →
      is_parallel (kind c r) ≡ true
  some_parallel r v (nothing e f) m p = rw (e ∙ sym (near_nothing v m f)) (p v m)
  some_parallel r v (common o u f) m p = let w = above_over r u in rw (sym (near_common w.0 r w.1 o f w.2)) (p w.0 w.1)

  module _ (last : Last over above (highest over above)) where
    beside_all : is_beside c held above over a ≡ true → (x : ℕ) → mem x xs ≡ true → Parted c (anchor c x) a
    unfolding is_beside
    beside_all h x m =
        or_elim (is_empty held) _ (λ e. absurd (clash _ e (empty_some held (anchor c x) (anchor_held x m))))
        (λ e. let k = and4 (not (mem a held)) (not (mem a above)) (not (meets held over)) (is_parallel (kind c (highest over above))) e in
        record {
          differ = λ q. clash _ (rw q at (anchor_held x m)) (not-true _ k.0);
          under = not_so _ (λ i. meets_none held over (not-true _ k.2) (anchor c x) (anchor_held x m) (own (anchor c x) ∙ i));
          over = not_so _ (λ i. clash _ (over_above x a m i) (not-true _ k.1));
          parallel = all_parallel (highest over above) x last m k.3;
        }) h

    all_beside : ((x : ℕ) → mem x xs ≡ true → Parted c (anchor c x) a) → is_beside c held above over a ≡ true
    unfolding is_beside
    all_beside p =
        bool_case (is_empty held) (λ e. rw e)
        (λ e. let v = full_mem held e in
        let w = held_anchor v.0 v.1 in
        let n : mem a held ≡ false = not_so _ (λ i. let x = held_anchor a i in (p x.0 x.1).differ (sym x.2)) in
        let u : mem a above ≡ false = not_so _ (λ i. let x = above_over a i in clash _ x.2 (p x.0 x.1).over) in
        let b : meets held over ≡ false =
        none_meets held over (λ z i j. let x = held_anchor z i in clash _ (rw x.2 at (sym (own z) ∙ j)) (p x.0 x.1).under) in
        rw (e, n, u, b, some_parallel (highest over above) w.0 last w.1 (λ x m. (p x m).parallel)))

    pub beside_is : is_beside c held above over a ≡ all (is_apart_from c y) xs
    unfolding is_apart_from
    beside_is =
        both_ways _ _
        (λ h. mem_all (is_apart_from c y) xs (λ x m. parted_apart c x y (rw is at (beside_all h x m))))
        (λ h. all_beside (λ x m. rw is (apart_parted c x y (all_mem (is_apart_from c y) xs h x m))))

-- ---- the sets, row by row

-- what f says of each of the rows, as one set
pub record Gathered (f : ℕ → List ℕ) (xs : List ℕ) (s : RowSet) : Type 0 where
  pub is : (z : ℕ) → mem z (rows_of s) ≡ mem z (flat f xs)

module _ (f : ℕ → List ℕ) (xs : List ℕ) where
  pub gathered_begin : (s : RowSet) → rows_of s ≡ [] → Gathered f (take 0 xs) s
  unfolding flat
  gathered_begin s e = record { is = λ z. rw e }

  gathered_turn : (s t : RowSet) (k : ℕ) → k < length xs → Gathered f (take k xs) s →
      ((z : ℕ) → mem z (rows_of t) ≡ (mem z (rows_of s) || mem z (f (get_or xs k 0)))) → Gathered f (take (k + 1) xs) t
  unfolding flat
  gathered_turn s t k l g e =
      record {
        is = λ z. e z ∙ rw (g.is z) (sym (ap (λ (ys : List ℕ). mem z (flat f ys)) (take_more xs k l) ∙ ap (mem z) (flat_app f (take k xs) (get_or xs k 0 ∷ [])) ∙
            mem_app z (flat f (take k xs)) (f (get_or xs k 0) ++ []) ∙ rw append-nil));
      }

-- row a of the tables, and the set of its ancestors
pub record UnderSet (numbers : List ℕ) (a : ℕ) (s : RowSet) : Type 0 where
  pub row : RowIn numbers a
  pub is : (z : ℕ) → mem z (rows_of s) ≡ mem z (ancestors (chart_of numbers) a)

pub under_set : (numbers sets : List ℕ) (a : ℕ) (s : RowSet) → Climbed numbers sets → RowIn numbers a → s ≡ set_of sets a → UnderSet numbers a s
under_set numbers sets a s h r e = record { row = r; is = set_mem numbers sets a s h r.below e }

pub highest_row : (numbers : List ℕ) (a r : ℕ) (s : RowSet) (ys : List ℕ) → UnderSet numbers a s → r ≡ highest (rows_of s) ys → RowIn numbers r
highest_row numbers a r s ys h e =
    let l = go (highest (rows_of s) ys) (highest_last s ys) in
    let m = h.row.below in
    record { tables = h.row.tables; below = rw e (omega arith) }
  where
    go : (r : ℕ) → Last (rows_of s) ys r → r ≤ a
    go r (common i j f) = let l = ancestor_low (chart_of numbers) a r (sym (h.is r) ∙ i) in omega arith
    go r (nothing q f) = omega arith

module _ (numbers xs : List ℕ) (k y a : ℕ) (l : k < length xs) (at : y ≡ get_or xs k 0) (is : a ≡ anchor (chart_of numbers) y) where
  pub anchors_turn : (s t : RowSet) → Gathered (anchor_only (chart_of numbers)) (take k xs) s → rows_of t ≡ insert a (rows_of s) →
      Gathered (anchor_only (chart_of numbers)) (take (k + 1) xs) t
  anchors_turn s t g e =
      gathered_turn (anchor_only (chart_of numbers)) xs s t k l g (λ z. rw (e, ← at, ← is) (mem_insert_one z a (rows_of s)))

  module _ (over : RowSet) (own : UnderSet numbers a over) where
    pub above_turn : (s t : RowSet) → Gathered (over_anchor (chart_of numbers)) (take k xs) s → rows_of t ≡ union (rows_of s) (rows_of over) →
        Gathered (over_anchor (chart_of numbers)) (take (k + 1) xs) t
    above_turn s t g e =
        gathered_turn (over_anchor (chart_of numbers)) xs s t k l g (λ z. rw (e, ← at, ← is, ← own.is z) (mem_union z (rows_of s) (rows_of over)))

    pub beside_rows : (held above : RowSet) → are_apart (chart_of numbers) (take k xs) ≡ true → Gathered (anchor_only (chart_of numbers)) (take k xs) held →
        Gathered (over_anchor (chart_of numbers)) (take k xs) above →
        is_beside (chart_of numbers) (rows_of held) (rows_of above) (rows_of over) a ≡ all (is_apart_from (chart_of numbers) y) (take k xs)
    beside_rows held above h g u =
        beside_is (chart_of numbers) (take k xs) h (rows_of held) (rows_of above) (rows_of over) y a is g.is u.is own.is (highest_last over (rows_of above))
