-- Bytes put together by "or": zero exactly if all are. And bytes counted: those behind a name are zeros exactly if no more are filled than it has.
use Rattle.std.specs.Prelude.{◌≡◌, Bool, true, false, ◌&&◌, cond, List, [], ◌∷◌, ℕ, suc, ◌+◌, ◌≤◌, ◌<◌, eqb, length, get_or, drop}
use Rattle.std.proofs.Math.Path.{refl}
use Rattle.std.proofs.Common.{sym, ◌∙◌, add-one, arith, eqb-true, eq-eqb, ne_eqb, drop-cons}
use Rattle.std.proofs.lemmas.Bool.{eqb-false}
use Rattle.std.specs.Int.Bits.{bit_or, or_add_and}
use Rattle.std.proofs.lemmas.Nat.{and_le_l, and_le_r}
use Rattle.definition.specs.Rows.{all}
use Rattle.definition.specs.Names.{before_zero, from_zero, zeros_after}
use Rattle.laws.specs.Bools.{both_ways, bool_case, and_left, and_right, and_true}
use Rattle.laws.specs.Passes.{drop_end}

or_blank : (a x : ℕ) → eqb (bit_or a x) 0 ≡ (eqb a 0 && eqb 0 x)
or_blank a x =
    both_ways (eqb (bit_or a x) 0) (eqb a 0 && eqb 0 x)
    (λ h. let e : bit_or a x ≡ 0 = eqb-true (bit_or a x) 0 h in
    and_true (eqb a 0) (eqb 0 x) (eq-eqb a 0 (omega (arith, or_add_and a x, and_le_l a x, and_le_r a x))) (eq-eqb 0 x (omega (arith, or_add_and a x, and_le_l a x, and_le_r a x))))
    (λ h. let p : a ≡ 0 = eqb-true a 0 (and_left (eqb a 0) (eqb 0 x) h) in
    let q : 0 ≡ x = eqb-true 0 x (and_right (eqb a 0) (eqb 0 x) h) in
    rw (p, ← q))

group : (p q r : Bool) → (p && (q && r)) ≡ ((p && q) && r)
group true q r = refl
group false q r = refl

pub blank_turn : (s : List ℕ) (any i : ℕ) → i < length s → all (eqb 0) s ≡ (eqb any 0 && all (eqb 0) (drop i s)) →
    all (eqb 0) s ≡ (eqb (bit_or any (get_or s i 0)) 0 && all (eqb 0) (drop (i + 1) s))
unfolding all
blank_turn s any i l h = h ∙ rw (drop-cons s i 0 l, add-one i, or_blank any (get_or s i 0)) (group (eqb any 0) (eqb 0 (get_or s i 0)) (all (eqb 0) (drop (suc i) s)))

pub blank_end : (s : List ℕ) (any i : ℕ) → length s ≤ i → all (eqb 0) s ≡ (eqb any 0 && all (eqb 0) (drop i s)) → eqb any 0 ≡ all (eqb 0) s
unfolding all
blank_end s any i l h = sym (h ∙ rw (drop_end i s l) (alone (eqb any 0)))
  where
    alone : (b : Bool) → (b && true) ≡ b
    alone true = refl
    alone false = refl

-- ---- how many are not zero

unfoldable pub filled_in : List ℕ → ℕ
filled_in [] = 0
filled_in (b ∷ bs) = cond (eqb b 0) (filled_in bs) (suc (filled_in bs))

pub filled_turn : (s : List ℕ) (i : ℕ) → i < length s → filled_in (drop i s) ≡ cond (eqb (get_or s i 0) 0) 0 1 + filled_in (drop (i + 1) s)
unfolding filled_in
filled_turn s i l = rw (drop-cons s i 0 l, add-one i) (step (eqb (get_or s i 0) 0) (filled_in (drop (suc i) s)))
  where
    step : (z : Bool) (n : ℕ) → cond z n (suc n) ≡ cond z 0 1 + n
    step true n = omega arith
    step false n = omega arith

pub filled_end : (s : List ℕ) (i : ℕ) → length s ≤ i → filled_in (drop i s) ≡ 0
unfolding filled_in
filled_end s i l = rw (drop_end i s l)

none_filled : (s : List ℕ) → eqb (filled_in s) 0 ≡ all (eqb 0) s
unfolding filled_in all
none_filled [] = refl
none_filled (b ∷ bs) =
    bool_case (eqb b 0)
    (λ e. rw (e, eq-eqb 0 b (sym (eqb-true b 0 e))) (none_filled bs))
    (λ e. rw (e, ne_eqb 0 b (λ q. eqb-false b 0 e (sym q)), ne_eqb (suc (filled_in bs)) 0 (λ q. omega arith)))

eqb_suc : (x y : ℕ) → eqb (suc x) (suc y) ≡ eqb x y
eqb_suc x y =
    both_ways (eqb (suc x) (suc y)) (eqb x y)
    (λ h. let e : suc x ≡ suc y = eqb-true (suc x) (suc y) h in eq-eqb x y (omega arith))
    (λ h. let e : x ≡ y = eqb-true x y h in eq-eqb (suc x) (suc y) (omega arith))

-- no more bytes are filled than stand before the first zero
pub filled_blank : (s : List ℕ) → eqb (filled_in s) (length (before_zero s)) ≡ zeros_after s
unfolding filled_in before_zero zeros_after from_zero
filled_blank [] = unfold all in refl
filled_blank (b ∷ bs) =
    bool_case (eqb b 0)
    (λ e. rw e (unfold all in rw (eq-eqb 0 b (sym (eqb-true b 0 e))) (none_filled bs)))
    (λ e. rw e (eqb_suc (filled_in bs) (length (before_zero bs)) ∙ filled_blank bs))

-- n bytes stand before the first zero, and r are filled
pub filled_ends : (s : List ℕ) (n r : ℕ) → n ≡ length (before_zero s) → r ≡ filled_in s → eqb r n ≡ zeros_after s
filled_ends s n r e f = rw (f, e) (filled_blank s)
