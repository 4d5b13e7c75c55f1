-- How long the lists and blocks of an accepted chart are.
use Rattle.std.specs.Prelude.{◌≡◌, refl, Bool, true, false, not, ◌&&◌, List, [], ◌∷◌, map, ℕ, zero, suc, ◌≤◌, ◌*◌, eqb, length, take}
use Rattle.std.proofs.Common.{sym, ap, ◌∙◌, subst, zero-add, arith, length-append, eq-eqb}
use Rattle.definition.specs.Rows.{from, flat, all, mem, same}
use Rattle.definition.specs.Chart.{Chart, is_parallel, kind}
use Rattle.definition.specs.Tree.{ancestors, anchor}
use Rattle.definition.specs.Rules.{is_apart, are_apart, nearest_common}
use Rattle.reading.specs.Faults.{is_among}
use Rattle.laws.specs.Bools.{and_left, and_right, and4, no, clash, not_so}
use Rattle.laws.specs.Lists.{same_eq}
use Rattle.laws.specs.Maps.{map_length}
use Rattle.written.specs.Sound.{AllOf, no_more, more, Ref}
use Rattle.written.specs.Slots.{In, Apart, alone, apart, no_more_than, among_mapped}

-- the lists that f gives, each of at most b, one behind the other
pub record Most {A B : Type 0} (f : A → List B) (b : ℕ) (x : A) : Type 0 where
  pub most : length (f x) ≤ b

pub flat_most : {A B : Type 0} (f : A → List B) (b : ℕ) (xs : List A) → AllOf (Most f b) xs → length (flat f xs) ≤ length xs * b
unfolding flat
flat_most f b [] no_more = omega arith
flat_most f b (x ∷ xs) (more g h) =
    let p = length-append (f x) (flat f xs) in
    let q = g.most in
    let r = flat_most f b xs h in
    omega arith

pub take_most : {A : Type 0} (n : ℕ) (xs : List A) → length (take n xs) ≤ n
take_most zero xs = omega arith
take_most (suc n) [] = omega arith
take_most (suc n) (x ∷ xs) = let r = take_most n xs in omega arith

pub map_most : {A B : Type 0} (f : A → B) (xs : List A) → length (map f xs) ≡ length xs
map_most f [] = refl
map_most f (x ∷ xs) = ap suc (map_most f xs)

-- ---- a list whose rows stand apart has no row twice

abbrev single : ℕ → List ℕ
single x = x ∷ []

apart_other : (c : Chart) (x y : ℕ) → is_apart c x y ≡ true → same (single x) (single y) ≡ false
unfolding is_apart
apart_other c x y h = not_so (same (single x) (single y)) (λ e. clash (eqb (anchor c x) (anchor c y)) (eq-eqb (anchor c x) (anchor c y) (ap (anchor c) (ap head_of (same_eq (single x) (single y) e)))) (not_true_of h))
  where
    head_of : List ℕ → ℕ
    head_of [] = 0
    head_of (z ∷ zs) = z

    not_true_of : (not (eqb (anchor c x) (anchor c y)) && not (mem (anchor c x) (ancestors c (anchor c y))) && not (mem (anchor c y) (ancestors c (anchor c x))) && is_parallel (kind c (nearest_common c (anchor c x) (anchor c y)))) ≡ true →
        eqb (anchor c x) (anchor c y) ≡ false
    not_true_of g = by (eqb (anchor c x) (anchor c y)) (and4 (not (eqb (anchor c x) (anchor c y))) _ _ _ g).0
      where
        by : (z : Bool) → not z ≡ true → z ≡ false
        by true q = absurd (no q)
        by false q = refl

not_among : (c : Chart) (x : ℕ) (xs : List ℕ) → all (is_apart c x) xs ≡ true → is_among (single x) (map single xs) ≡ false
unfolding all is_among
not_among c x [] h = refl
not_among c x (y ∷ ys) h = rw (apart_other c x y (and_left (is_apart c x y) (all (is_apart c x) ys) h)) (not_among c x ys (and_right (is_apart c x y) (all (is_apart c x) ys) h))

singles_apart : (c : Chart) (xs : List ℕ) → are_apart c xs ≡ true → Apart (map single xs)
unfolding are_apart
singles_apart c [] h = alone
singles_apart c (x ∷ xs) h = apart (not_among c x xs (and_left (all (is_apart c x) xs) (are_apart c xs) h)) (singles_apart c xs (and_right (all (is_apart c x) xs) (are_apart c xs) h))

singles_in : (n : ℕ) (xs : List ℕ) → AllOf (Ref n) xs → AllOf (In (map single (from n 0))) (map single xs)
singles_in n [] no_more = no_more
singles_in n (x ∷ xs) (more f g) = more (record { among = ap (λ (k : ℕ). is_among (single k) (map single (from n 0))) (sym (zero-add x)) ∙ among_mapped single n 0 x f.below }) (singles_in n xs g)

-- so it is no longer than the chart has rows
pub list_most : (c : Chart) (n : ℕ) (xs : List ℕ) → are_apart c xs ≡ true → AllOf (Ref n) xs → length xs ≤ n
list_most c n xs h f =
    subst (λ (k : ℕ). k ≤ n) (map_most single xs) (subst (λ (k : ℕ). length (map single xs) ≤ k) (map_length single n 0) (no_more_than (map single xs) (map single (from n 0)) (singles_apart c xs h) (singles_in n xs f)))
