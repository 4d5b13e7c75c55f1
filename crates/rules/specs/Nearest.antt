-- The nearest common ancestor: the last row of two sets, and of the ancestors of two rows. It holds in every chart that the ancestors of a row
-- stand on one path, whatever rule 3 says of it.
use Rattle.std.specs.Prelude.{◌≡◌, true, List, ℕ, zero, suc, ◌<◌, ◌≤◌}
use Rattle.std.proofs.Math.Path.{refl, sym}
use Rattle.std.proofs.Common.{◌∙◌, arith}
use Rattle.std.proofs.Math.Option.{Option, none, some}
use Rattle.definition.specs.Rows.{mem, is_in, first, or_else, intersection}
use Rattle.definition.specs.Chart.{Chart, parent}
use Rattle.definition.specs.Tree.{ancestors}
use Rattle.definition.specs.Rules.{nearest_common}
use Rattle.laws.specs.Bools.{no, clash, and_left, and_right, and_true}
use Rattle.laws.specs.Sets.{ascends_intersection, mem_intersection}
use Rattle.laws.specs.Lists.{Pairs, mem_cases, mem_tail}
use Rattle.laws.specs.Orders.{lt_case, first_leads, missing_first}
use Rattle.accepted.specs.Tree.{ancestors_on, ancestors_top, ancestor_low}
use Rattle.numbers.specs.declared.Row.{Row}
use Rattle.rowset.specs.declared.RowSet.{RowSet}
use Rattle.std.specs.declared.option.Option as program
use Rattle.std.specs.declared.option.Option.TheVariants.{Some, None}
use Rattle.rowset.specs.Member.{rows_of, prev_in}
use Rattle.rowset.specs.Rows.{ascends_rows, rows_low}
use Rattle.rowset.specs.Search.{PrevAt, prev_at, none_prev}

-- ---- the ancestors of a row stand on one path

module _ (c : Chart) where
  -- an ancestor is the parent, or an ancestor of it
  ancestor-cases {ℓ} : {A : Type ℓ} (z b : ℕ) → mem b (ancestors c z) ≡ true →
      (parent c z < z → b ≡ parent c z → A) → (parent c z < z → mem b (ancestors c (parent c z)) ≡ true → A) → A
  unfolding mem
  ancestor-cases z b m f g =
      lt_case (parent c z) z (λ l. mem_cases b (parent c z) (ancestors c (parent c z)) (f l) (g l) (rw (ancestors_on c z l) at m))
      (λ l. absurd (no (rw (ancestors_top c z l) at m)))

  parent_over : (z a : ℕ) → parent c z < z → mem a (ancestors c (parent c z)) ≡ true → mem a (ancestors c z) ≡ true
  parent_over z a l m = rw (ancestors_on c z l) (mem_tail (parent c z) a (ancestors c (parent c z)) m)

  -- an ancestor of an ancestor is one
  pub ancestor_over : (a b z : ℕ) → mem a (ancestors c b) ≡ true → mem b (ancestors c z) ≡ true → mem a (ancestors c z) ≡ true
  ancestor_over a b z h = go z z (omega arith)
    where
      go : (n z : ℕ) → z ≤ n → mem b (ancestors c z) ≡ true → mem a (ancestors c z) ≡ true
      go zero z l m = absurd (omega (arith, ancestor_low c z b m))
      go (suc n) z l m =
          ancestor-cases z b m (λ g e. parent_over z a g (rw (← e) h)) (λ g k. parent_over z a g (go n (parent c z) (omega arith) k))

  -- of two ancestors the first is one of the second
  pub ancestor_between : (a b z : ℕ) → a < b → mem a (ancestors c z) ≡ true → mem b (ancestors c z) ≡ true → mem a (ancestors c b) ≡ true
  ancestor_between a b z d = go z z (omega arith)
    where
      go : (n z : ℕ) → z ≤ n → mem a (ancestors c z) ≡ true → mem b (ancestors c z) ≡ true → mem a (ancestors c b) ≡ true
      go zero z l m k = absurd (omega (arith, ancestor_low c z b k))
      go (suc n) z l m k =
          ancestor-cases z b k
          (λ g e. ancestor-cases z a m (λ g' e'. absurd (omega arith)) (λ g' m'. rw e m'))
          (λ g k'. ancestor-cases z a m (λ g' e'. absurd (omega (arith, ancestor_low c (parent c z) b k'))) (λ g' m'. go n (parent c z) (omega arith) m' k'))

  -- they go down
  ancestors_down : (i : ℕ) → Pairs (λ x y. y < x) (ancestors c i)
  ancestors_down i = go i i (omega arith)
    where
      go : (n i : ℕ) → i ≤ n → Pairs (λ x y. y < x) (ancestors c i)
      go zero i l = rw (ancestors_top c i (omega arith)) tt
      go (suc n) i l =
          lt_case (parent c i) i (λ h. rw (ancestors_on c i h) ((λ y m. ancestor_low c (parent c i) y m), go n (parent c i) (omega arith)))
          (λ h. rw (ancestors_top c i h) tt)

-- ---- the last number of two lists

-- r is the last number of both, or 0 where there is none
pub data Last (xs ys : List ℕ) (r : ℕ) : Type 0 where
  common : mem r xs ≡ true → mem r ys ≡ true → ((z : ℕ) → r < z → mem z xs ≡ true → mem z ys ≡ true → ⊥) → Last xs ys r
  nothing : r ≡ 0 → ((z : ℕ) → mem z xs ≡ true → mem z ys ≡ true → ⊥) → Last xs ys r

module _ (xs ys : List ℕ) where
  pub last_one : (r s : ℕ) → Last xs ys r → Last xs ys s → r ≡ s
  last_one r s (common a b f) (common d e g) =
      lt_case r s (λ l. absurd (f s l d e)) (λ l. lt_case s r (λ m. absurd (g r m a b)) (λ m. omega arith))
  last_one r s (common a b f) (nothing e g) = absurd (g r a b)
  last_one r s (nothing e f) (common a b g) = absurd (f s a b)
  last_one r s (nothing e f) (nothing d g) = omega arith

  -- the same of two lists that have the same numbers in common
  pub last_same : (us vs : List ℕ) (r : ℕ) → ((z : ℕ) → mem z xs ≡ true → mem z ys ≡ true → (mem z us ≡ true) × (mem z vs ≡ true)) →
      ((z : ℕ) → mem z us ≡ true → mem z vs ≡ true → (mem z xs ≡ true) × (mem z ys ≡ true)) → Last xs ys r → Last us vs r
  last_same us vs r f g (common a b h) = common (f r a b).0 (f r a b).1 (λ z l m n. h z l (g z m n).0 (g z m n).1)
  last_same us vs r f g (nothing e h) = nothing e (λ z m n. h z (g z m n).0 (g z m n).1)

pub last_swap : (xs ys : List ℕ) (r : ℕ) → Last xs ys r → Last ys xs r
last_swap xs ys r = last_same xs ys ys xs r (λ z m n. (n, m)) (λ z m n. (n, m))

-- ---- as it is defined

pub nearest_last : (c : Chart) (a b : ℕ) → Last (ancestors c a) (ancestors c b) (nearest_common c a b)
unfolding nearest_common or_else
nearest_last c a b = go (first (is_in (ancestors c b)) (ancestors c a)) refl
  where
    go : (o : Option ℕ) → first (is_in (ancestors c b)) (ancestors c a) ≡ o → Last (ancestors c a) (ancestors c b) (or_else o 0)
    go none e = nothing refl (λ z m n. clash _ n (missing_first (is_in (ancestors c b)) (ancestors c a) e z m))
    go (some r) e =
        let l = first_leads (λ x y. y < x) (is_in (ancestors c b)) (λ x y p q. omega arith) (ancestors c a) r (ancestors_down c a) e in
        common l.isin l.passes (λ z g m n. clash _ n (l.before z m g))

-- ---- as it is computed

abbrev row_in : program.Option Row → ℕ
row_in (Some r) = r.0
row_in None = 0

-- the last row of both, and 0 where there is none
unfoldable pub highest : List ℕ → List ℕ → ℕ
highest xs ys = row_in (prev_in (intersection xs ys) 256)

module _ (xs ys zs : List ℕ) (o : program.Option Row) (e : zs ≡ intersection xs ys) (f : o ≡ prev_in zs 256) where
  pub highest_at : (r : Row) → o ≡ Some r → r.0 ≡ highest xs ys
  unfolding highest
  highest_at r h = sym (rw (← e, ← f, h))

  pub highest_none : o ≡ None → 0 ≡ highest xs ys
  unfolding highest
  highest_none h = sym (rw (← e, ← f, h))

module _ (s : RowSet) (ys : List ℕ) where
  abbrev both : List ℕ
  both = intersection (rows_of s) ys

  in_both : (z : ℕ) → mem z (rows_of s) ≡ true → mem z ys ≡ true → mem z both ≡ true
  in_both z m n = mem_intersection z (rows_of s) ys ∙ and_true _ _ m n

  pub highest_last : Last (rows_of s) ys (highest (rows_of s) ys)
  unfolding highest
  highest_last = go (prev_in both 256) refl
    where
      go : (o : program.Option Row) → prev_in both 256 ≡ o → Last (rows_of s) ys (row_in o)
      go (Some r) e =
          let p : PrevAt both 256 r.0 = prev_at both (ascends_intersection (rows_of s) ys (ascends_rows s)) 256 r e in
          let m = sym (mem_intersection r.0 (rows_of s) ys) ∙ p.here in
          common (and_left (mem r.0 (rows_of s)) _ m) (and_right (mem r.0 (rows_of s)) _ m)
          (λ z l a b. clash _ (in_both z a b) (p.none z l (rows_low s z a)))
      go None e = nothing refl (λ z a b. clash _ (in_both z a b) (none_prev both 256 e z (rows_low s z a)))
