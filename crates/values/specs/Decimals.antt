-- Decimals, digit by digit.
use Rattle.std.specs.Prelude.{◌≡◌, refl, Bool, true, false, not, ◌&&◌, cond, ℕ, ◌+◌, ◌*◌, ◌-◌, ◌≤◌, ◌<◌, eqb, length, get_or, drop}
use Rattle.std.proofs.Math.Path.{sym, ap}
use Rattle.std.proofs.Common.{◌∙◌, arith, add-one, drop_of_length-le, drop-cons}
use mathlib.Core.List.{List, [], ◌∷◌, ◌++◌}
use Rattle.std.proofs.Math.Option.{none, some}
use Rattle.std.proofs.Math.Dec.{leb}
use borrow.Author.Tests.{eqb-true, leb-true, le-leb, lt-leb, not-true, not-false}
use Rattle.definition.specs.Rows.{same, all, is_empty}
use Rattle.reading.specs.Faults.{entity_byte, decoded, plain, is_decimal_digit, decimal_from, decimal, is_decimal}

-- ---- no digit is read of an entity

no_digit : (a b c d : Bool) → is_decimal_digit (cond a 38 (cond b 60 (cond c 62 (cond d 34 39)))) ≡ false
no_digit true b c d = refl
no_digit false true c d = refl
no_digit false false true d = refl
no_digit false false false true = refl
no_digit false false false false = refl

entity_no_digit : (w : List ℕ) → is_decimal_digit (entity_byte w) ≡ false
entity_no_digit w =
    no_digit (same w (97 ∷ 109 ∷ 112 ∷ [])) (same w (108 ∷ 116 ∷ [])) (same w (103 ∷ 116 ∷ [])) (same w (113 ∷ 117 ∷ 111 ∷ 116 ∷ []))

entity_no_digits : (bs w : List ℕ) → all is_decimal_digit (decoded (some w) bs) ≡ false
unfolding decoded all
entity_no_digits [] w = rw (entity_no_digit w) refl
entity_no_digits (b ∷ bs) w = by (eqb b 59) (entity_no_digits bs (w ++ b ∷ []))
  where
    by : (z : Bool) → all is_decimal_digit (decoded (some (w ++ b ∷ [])) bs) ≡ false →
        all is_decimal_digit (cond z (entity_byte w ∷ decoded none bs) (decoded (some (w ++ b ∷ [])) bs)) ≡ false
    by true h = rw (entity_no_digit w) refl
    by false h = h

digits_kept : (v : List ℕ) → all is_decimal_digit (plain v) ≡ all is_decimal_digit v
unfolding decoded all
digits_kept [] = refl
digits_kept (b ∷ bs) = by (eqb b 38) refl (digits_kept bs)
  where
    by : (z : Bool) → eqb b 38 ≡ z → all is_decimal_digit (plain bs) ≡ all is_decimal_digit bs → all is_decimal_digit (cond z (decoded (some []) bs) (b ∷ decoded none bs)) ≡ (is_decimal_digit b && all is_decimal_digit bs)
    by true e h = entity_no_digits bs [] ∙ sym (ap (λ (x : ℕ). is_decimal_digit x && all is_decimal_digit bs) (eqb-true b 38 e))
    by false e h = ap (λ (z : Bool). is_decimal_digit b && z) h

and_left : (a b : Bool) → (a && b) ≡ true → a ≡ true
and_left true b e = refl
and_left false b e = e

and_right : (a b : Bool) → (a && b) ≡ true → b ≡ true
and_right true b e = e
and_right false b e = absurd (let z : ◌≡◌ {A = ℕ} 0 1 = cc in omega arith)

pub digit_low : (b : ℕ) → is_decimal_digit b ≡ true → 48 ≤ b
digit_low b e = leb-true 48 b (and_left (leb 48 b) (leb b 57) e)

digits_plain : (v : List ℕ) → all is_decimal_digit v ≡ true → plain v ≡ v
unfolding decoded all
digits_plain [] e = refl
digits_plain (b ∷ bs) e = by (eqb b 38) refl (digits_plain bs (and_right (is_decimal_digit b) (all is_decimal_digit bs) e))
  where
    by : (z : Bool) → eqb b 38 ≡ z → plain bs ≡ bs → cond z (decoded (some []) bs) (b ∷ decoded none bs) ≡ b ∷ bs
    by true q h =
        let low = digit_low b (and_left (is_decimal_digit b) (all is_decimal_digit bs) e) in
        let is : b ≡ 38 = eqb-true b 38 q in
        absurd (omega arith)
    by false q h = ap (λ (l : List ℕ). b ∷ l) h

middle : (a b c : Bool) → b ≡ false → (a && b && c) ≡ false
middle true true c e = absurd (let z : ◌≡◌ {A = ℕ} 0 1 = cc in omega arith)
middle true false c e = refl
middle false b c e = refl

-- a decimal is itself with its entities read
pub plain_decimal : (most : ℕ) (v : List ℕ) → is_decimal most (plain v) ≡ is_decimal most v
plain_decimal most v = by (all is_decimal_digit v) refl
  where
    by : (z : Bool) → all is_decimal_digit v ≡ z → is_decimal most (plain v) ≡ is_decimal most v
    by true e = ap (λ (l : List ℕ). is_decimal most l) (digits_plain v e)
    by false e =
        middle (not (is_empty (plain v))) (all is_decimal_digit (plain v)) (leb (decimal (plain v)) most) (digits_kept v ∙ e) ∙
        sym (middle (not (is_empty v)) (all is_decimal_digit v) (leb (decimal v) most) e)

-- ---- the loop

pub record Counting (most : ℕ) (v : List ℕ) (n i : ℕ) : Type 0 where
  pub small : n ≤ most
  pub inside : i ≤ length v
  pub whole : is_decimal most v ≡ (all is_decimal_digit (drop i v) && leb (decimal_from n (drop i v)) most)

pub decimal_none : (most : ℕ) (v : List ℕ) → length v < 1 → false ≡ is_decimal most (plain v)
unfolding decoded is_empty
decimal_none most [] e = refl
decimal_none most (x ∷ xs) e = absurd (omega arith)

not_empty : (most : ℕ) (v : List ℕ) → 1 ≤ length v → is_decimal most v ≡ (all is_decimal_digit v && leb (decimal_from 0 v) most)
unfolding is_empty
not_empty most [] e = absurd (omega arith)
not_empty most (x ∷ xs) e = refl

pub count_start : (most : ℕ) (v : List ℕ) → 1 ≤ length v → Counting most v 0 0
count_start most v e = record { small = omega arith; inside = omega arith; whole = not_empty most v e }

-- a number grows by each digit
grows : (ds : List ℕ) (n : ℕ) → n ≤ decimal_from n ds
unfolding decimal_from
grows [] n = omega arith
grows (d ∷ ds) n = let h = grows ds (n * 10 + (d - 48)) in omega arith

module _ (most : ℕ) (v : List ℕ) (n i : ℕ) (k : Counting most v n i) where
  at_i : i < length v → drop i v ≡ get_or v i 0 ∷ drop (i + 1) v
  at_i h = drop-cons v i 0 h ∙ ap (λ (j : ℕ). get_or v i 0 ∷ drop j v) (sym (add-one i))

  here : i < length v → is_decimal most v ≡ (is_decimal_digit (get_or v i 0) && all is_decimal_digit (drop (i + 1) v) && leb (decimal_from (n * 10 + (get_or v i 0 - 48)) (drop (i + 1) v)) most)
  unfolding all decimal_from
  here h = k.whole ∙ ap (λ (l : List ℕ). all is_decimal_digit l && leb (decimal_from n l) most) (at_i h)

  pub digit_ready : (digit : Bool) → most ≤ 4294967295 → digit ≡ is_decimal_digit (get_or v i 0) → not digit ≡ false → (n ≤ 4294967295) × (is_decimal_digit (get_or v i 0) ≡ true)
  digit_ready digit m e q = let s = k.small in (omega arith, sym e ∙ not-false digit q)

  pub count_bad : (digit : Bool) → i < length v → digit ≡ is_decimal_digit (get_or v i 0) → not digit ≡ true → false ≡ is_decimal most (plain v)
  count_bad digit h e q = sym (plain_decimal most v ∙ here h ∙ rw (sym e ∙ not-true digit q) refl)

  pub count_over : (m : ℕ) → i < length v → m ≡ n * 10 + (get_or v i 0 - 48) → most < m → false ≡ is_decimal most (plain v)
  count_over m h e q =
      let rest = drop (i + 1) v in
      let up : m ≤ decimal_from m rest = grows rest m in
      let too : leb (decimal_from m rest) most ≡ false = lt-leb (decimal_from m rest) most (omega arith) in
      sym (plain_decimal most v ∙ here h ∙ rw (← e, too) (both (is_decimal_digit (get_or v i 0) && all is_decimal_digit rest)))
    where
      both : (a : Bool) → (a && false) ≡ false
      both true = refl
      both false = refl

  pub count_more : (digit : Bool) (m : ℕ) → i < length v → digit ≡ is_decimal_digit (get_or v i 0) → not digit ≡ false → m ≡ n * 10 + (get_or v i 0 - 48) → m ≤ most → Counting most v m (i + 1)
  count_more digit m h d q e s = record { small = s; inside = omega arith; whole = here h ∙ rw (sym d ∙ not-false digit q, ← e) refl }

  pub count_end : length v ≤ i → true ≡ is_decimal most (plain v)
  unfolding all decimal_from
  count_end h =
      sym (plain_decimal most v ∙ k.whole ∙ ap (λ (l : List ℕ). all is_decimal_digit l && leb (decimal_from n l) most) (drop_of_length-le v h) ∙ le-leb n most k.small)
