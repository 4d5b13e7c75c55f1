-- A test of each number of a range, as a chain answers it, is the definition's test of the numbers below n.
use Rattle.std.specs.Prelude.{◌≡◌, refl, Bool, true, false, List, [], ◌∷◌, Option, ℕ, zero, suc, ◌-◌, ◌<◌, length}
use Rattle.std.specs.Bool.{MatchBool}
use Rattle.std.specs.Fn.{Called}
use Rattle.std.specs.Iterator.{YieldsThen}
use Rattle.std.specs.List.{range_with_len, AllWithin, HoldsAt, FoldsTo}
use Rattle.std.specs.Option.{MatchOption}
use Rattle.std.specs.declared.ops.Range.{Range}
use Rattle.std.proofs.iter.Yields.{nat_range_steps}
use Rattle.std.proofs.lemmas.Iterator.{cases_from_all, YieldsList-from_range}
use Rattle.std.proofs.Common.{sym, ap, ◌∙◌, add-one, arith}
use denote.Param.Members.{Mut}
use Rattle.definition.specs.Rows.{all, from}
use Rattle.laws.specs.Bools.{and_false}

ranged_from : (n a : ℕ) → range_with_len a n ≡ from n a
unfolding from
ranged_from zero a = refl
ranged_from (suc n) a = ap {B = List ℕ} (λ r. a ∷ r) (ap (λ (b : ℕ). range_with_len b n) (add-one a) ∙ ranged_from n (suc a))

module _ (p : ℕ → Bool) where
  all_pass : (xs : List ℕ) → AllWithin (λ (x : ℕ). p x ≡ true) xs 0 (length xs) → true ≡ all p xs
  unfolding all
  all_pass [] h = refl
  all_pass (x ∷ xs) h = let e : p x ≡ true = h 0 0 (omega arith) (omega arith) in rw e (all_pass xs (λ k d l m. h (suc k) d (omega arith) (omega arith)))

  one_fails : (xs : List ℕ) (k : ℕ) → k < length xs → HoldsAt (λ (x : ℕ). p x ≡ false) xs k → false ≡ all p xs
  unfolding all
  one_fails [] k l h = absurd (omega arith)
  one_fails (x ∷ xs) zero l h = rw (h 0)
  one_fails (x ∷ xs) (suc k) l h = rw (← one_fails xs k (omega arith) (λ d. h d)) (sym (and_false (p x)))

  pub judged : (xs : List ℕ) (r : Bool) → MatchBool r (AllWithin (λ (x : ℕ). p x ≡ true) xs 0 (length xs)) ((k : ℕ) × (k < length xs) × HoldsAt (λ (x : ℕ). p x ≡ false) xs k) → r ≡ all p xs
  judged xs true h = all_pass xs h
  judged xs false h = one_fails xs h.0 h.1 h.2

  -- `(a..b).all(f)`, where f answers as p does
  pub all_ranged : {F : Type 0} {g : Mut F (ℕ × Unit {0}) Bool} (s u : Range ℕ) (f : F) (r : Bool) (a b : ℕ) →
      (xs : List ℕ) × (o : Option ℕ) × (j : F) × YieldsThen nat_range_steps s xs o u × FoldsTo (λ q x t. Called g q (x, tt) true t) f xs j ×
      MatchOption o (r ≡ true) (λ x. (r ≡ false) × ((h : F) × Called g j (x, tt) false h)) →
      s ≡ record { start = a; end = b } → ((x : ℕ) (q : F) → Called g f (x, tt) true q → (q ≡ f) × (p x ≡ true)) → ((x : ℕ) (q : F) → Called g f (x, tt) false q → p x ≡ false) →
      r ≡ all p (from (b - a) a)
  all_ranged s u f r a b h e y n =
      judged (range_with_len a (b - a)) r (cases_from_all u f r (λ (x : ℕ). p x ≡ true) (λ (x : ℕ). p x ≡ false) h (YieldsList-from_range a b (b - a) e refl) y n) ∙
      ap (all p) (ranged_from (b - a) a)

  -- from 0 on, where the count is known by another name
  pub all_below : {F : Type 0} {g : Mut F (ℕ × Unit {0}) Bool} (s u : Range ℕ) (f : F) (r : Bool) (m n : ℕ) →
      (xs : List ℕ) × (o : Option ℕ) × (j : F) × YieldsThen nat_range_steps s xs o u × FoldsTo (λ q x t. Called g q (x, tt) true t) f xs j ×
      MatchOption o (r ≡ true) (λ x. (r ≡ false) × ((h : F) × Called g j (x, tt) false h)) →
      s ≡ record { start = 0; end = m } → m ≡ n → ((x : ℕ) (q : F) → Called g f (x, tt) true q → (q ≡ f) × (p x ≡ true)) → ((x : ℕ) (q : F) → Called g f (x, tt) false q → p x ≡ false) →
      r ≡ all p (from n 0)
  all_below s u f r m n h e w y o = let k : m - 0 ≡ n = omega arith in all_ranged s u f r 0 m h e y o ∙ ap (λ (i : ℕ). all p (from i 0)) k
