-- What the library's `all` and `contains` answer over a range and a list, in the words of the definition.
use Rattle.std.proofs.Common.{ℕ, zero, suc, ◌<◌, ◌≡◌, refl, sym, Bool, true, false, List, [], ◌∷◌, ◌&&◌, length, arith, add-one}
use Rattle.std.specs.List.{AllWithin, HoldsAt, range_with_len, list_any}
use Rattle.std.proofs.lemmas.List.{get_or_default}
use lib.Dec.{eqb}
use Rattle.std.proofs.lemmas.Bool.Decides.{nat_tests}
use Rattle.std.specs.Bool.{MatchBool}
use Rattle.std.specs.List.{FoldsTo}
use denote.Param.Members.{Mut}
use Rattle.std.specs.Iterator.{YieldsThen}
use Rattle.std.specs.Fn.{Called}
use Rattle.std.proofs.iter.Yields.{nat_range_steps}
use Rattle.std.specs.Option.{MatchOption}
use Rattle.std.proofs.lemmas.Iterator.{cases_from_all, YieldsList-from_range, YieldsList-from_slice}
use Rattle.std.specs.declared.option.Option.{Option}
use Rattle.std.specs.declared.ops.Range.{Range}
use Rattle.std.proofs.Common.{Iter, Bor, get_or}
use Rattle.std.specs.Slice.Iter.{iter_rest, iter_steps}
use Rattle.rules1.specs.Ranged as ranged
use Rattle.definition.specs.Rows.{all, from, mem}

-- what `all` answers over the numbers below n, where the closure answers p
pub all_below : {F : Type 0} {g : Mut F (ℕ × Unit {0}) Bool} {s : Range ℕ} (p : ℕ → Bool) (n : ℕ) (u : Range ℕ) (f : F) (r : Bool) → (xs : List ℕ) × (o : Option ℕ) × (j : F) × YieldsThen nat_range_steps s xs o u × FoldsTo (λ a x q. Called g a (x, tt) true q) f xs j × MatchOption o (r ≡ true) (λ x. (r ≡ false) × ((h : F) × Called g j (x, tt) false h)) → s ≡ record { start = 0; end = n } → ((x : ℕ) (b : Bool) (q : F) → Called g f (x, tt) b q → (q ≡ f) × (b ≡ p x)) → r ≡ all p (from n 0)
all_below p n u f r ran e turn = ranged.all_below p _ u f r n n ran e refl (λ x q k. ((turn x true q k).0, sym (turn x true q k).1)) (λ x q k. sym (turn x false q k).1)

-- rows that are all below n are so whatever stands for a missing one
pub each_of : (l : List ℕ) (n : ℕ) → ((k : ℕ) → k < length l → get_or l k 0 < n) → (k d : ℕ) → k < length l → get_or l k d < n
each_of l n h k d e = rw (get_or_default l k d 0 e) (h k e)

-- what `all` answers over a list, where the closure answers p
pub all_in : {F : Type 0} {g : Mut F (Bor ℕ × Unit {0}) Bool} {s : Iter ℕ} (p : ℕ → Bool) (l : List ℕ) (u : Iter ℕ) (f : F) (r : Bool) → (xs : List (Bor ℕ)) × (o : Option (Bor ℕ)) × (j : F) × YieldsThen iter_steps s xs o u × FoldsTo (λ a x q. Called g a (x, tt) true q) f xs j × MatchOption o (r ≡ true) (λ x. (r ≡ false) × ((h : F) × Called g j (x, tt) false h)) → iter_rest s ≡ l → ((x : Bor ℕ) (b : Bool) (q : F) → Called g f (x, tt) b q → (q ≡ f) × (b ≡ p x.now)) → r ≡ all p l
all_in p l u f r ran e turn =
    ranged.judged p l r (cases_from_all u f r (λ x. p x ≡ true) (λ x. p x ≡ false) ran (YieldsList-from_slice l e) (λ x q k. ((turn x true q k).0, sym (turn x true q k).1)) (λ x q k. sym (turn x false q k).1))

eqb_turned : (a b : ℕ) → eqb a b ≡ eqb b a
eqb_turned a b = grind (arith, nat_tests)

-- what `contains` answers
pub contains_mem : (a : ℕ) (xs : List ℕ) → list_any (λ y. eqb y a) xs ≡ mem a xs
unfolding mem
contains_mem a [] = refl
contains_mem a (x ∷ xs) = rw (eqb_turned x a, contains_mem a xs)
