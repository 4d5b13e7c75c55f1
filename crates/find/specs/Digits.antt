-- The number of a decimal, digit by digit.
use Rattle.std.specs.Prelude.{◌≡◌, Bool, ◌&&◌, List, ◌∷◌, ℕ, ◌+◌, ◌*◌, ◌-◌, ◌≤◌, ◌<◌, leb, length}
use Rattle.std.proofs.Math.Path.{refl, ap}
use Rattle.std.proofs.Common.{sym, ◌∙◌, arith, add-one, drop_of_length-le, drop-cons}
use Rattle.std.proofs.Math.Bool.{true, false, not}
use Rattle.std.proofs.Math.Dec.{ltb}
use Rattle.std.proofs.Math.ListN.{get_or, drop}
use borrow.Author.Tests.{leb-true, le-leb, ltb-true, ltb-false}
use Rattle.definition.specs.Rows.{all, is_empty}
use Rattle.reading.specs.Faults.{plain, is_decimal_digit, decimal, decimal_from, is_decimal}
use Rattle.values.specs.Decimals.{digit_low, plain_decimal, Counting, decimal_none, count_start, count_bad, count_over, count_more}

and_left : (a b : Bool) → (a && b) ≡ true → a ≡ true
and_left true b e = refl
and_left false b e = e

and_right : (a b : Bool) → (a && b) ≡ true → b ≡ true
and_right true b e = e
and_right false b e = absurd (let z : ◌≡◌ {A = ℕ} 0 1 = cc in omega arith)

clash : false ≡ true → ⊥
clash e = let z : ◌≡◌ {A = ℕ} 0 1 = cc in omega arith

-- a decimal says as much with its entities read
same_decimal : (most : ℕ) (v : List ℕ) → is_decimal most (plain v) ≡ true → decimal (plain v) ≡ decimal v
same_decimal most v e =
    let front-plain : (not (is_empty (plain v)) && all is_decimal_digit (plain v)) ≡ true = and_left (not (is_empty (plain v)) && all is_decimal_digit (plain v)) (leb (decimal (plain v)) most) e in
    let front : (not (is_empty v) && all is_decimal_digit v) ≡ true = and_left (not (is_empty v) && all is_decimal_digit v) (leb (decimal v) most) (sym (plain_decimal most v) ∙ e) in
    let own : is_decimal (decimal v) v ≡ true = ap (λ (z : Bool). z && leb (decimal v) (decimal v)) front ∙ le-leb (decimal v) (decimal v) (omega arith) in
    let own-plain : is_decimal (decimal (plain v)) (plain v) ≡ true =
    ap (λ (z : Bool). z && leb (decimal (plain v)) (decimal (plain v))) front-plain ∙ le-leb (decimal (plain v)) (decimal (plain v)) (omega arith) in
    let low = leb-true (decimal (plain v)) (decimal v) (and_right (not (is_empty (plain v)) && all is_decimal_digit (plain v)) (leb (decimal (plain v)) (decimal v)) (plain_decimal (decimal v) v ∙ own)) in
    let high = leb-true (decimal v) (decimal (plain v)) (and_right (not (is_empty v) && all is_decimal_digit v) (leb (decimal v) (decimal (plain v))) (sym (plain_decimal (decimal (plain v)) v) ∙ own-plain)) in
    omega arith

-- the number so far, and what the digits that are left make of it
pub record Reading (most : ℕ) (v : List ℕ) (n i : ℕ) : Type 0 where
  pub limit : most ≤ 4294967295
  pub valid : is_decimal most (plain v) ≡ true
  pub counting : Counting most v n i
  pub left : decimal v ≡ decimal_from n (drop i v)

pub read_start : (most : ℕ) (v : List ℕ) → most ≤ 4294967295 → is_decimal most (plain v) ≡ true → Reading most v 0 0
read_start most v m e = record { limit = m; valid = e; counting = count_start most v some_byte; left = refl }
  where
    some_byte : 1 ≤ length v
    some_byte = by (ltb (length v) 1) refl
      where
        by : (z : Bool) → ltb (length v) 1 ≡ z → 1 ≤ length v
        by true q = absurd (clash (decimal_none most v (ltb-true (length v) 1 q) ∙ e))
        by false q = ltb-false (length v) 1 q

module _ (most : ℕ) (v : List ℕ) (n i : ℕ) (k : Reading most v n i) (h : i < length v) where
  is_digit : is_decimal_digit (get_or v i 0) ≡ true
  is_digit = by (is_decimal_digit (get_or v i 0)) refl
    where
      by : (z : Bool) → is_decimal_digit (get_or v i 0) ≡ z → is_decimal_digit (get_or v i 0) ≡ true
      by true q = q
      by false q = absurd (clash (count_bad most v n i k.counting (is_decimal_digit (get_or v i 0)) h refl (ap not q) ∙ k.valid))

  pub read_low : 48 ≤ get_or v i 0
  read_low = digit_low (get_or v i 0) is_digit

  pub read_more : (d : ℕ) → d ≡ get_or v i 0 - 48 → Reading most v (n * 10 + d) (i + 1)
  unfolding decimal_from
  read_more d f =
      let m : ℕ = n * 10 + d in
      let e : m ≡ n * 10 + (get_or v i 0 - 48) = ap (λ (x : ℕ). n * 10 + x) f in
      record {
        limit = k.limit;
        valid = k.valid;
        counting = count_more most v n i k.counting (is_decimal_digit (get_or v i 0)) m h refl (ap not is_digit) e small;
        left =
            k.left ∙ ap (decimal_from n) (drop-cons v i 0 h ∙ ap (λ (j : ℕ). get_or v i 0 ∷ drop j v) (sym (add-one i))) ∙ ap (λ (x : ℕ). decimal_from x (drop (i + 1) v)) (sym e);
      }
    where
      small : n * 10 + d ≤ most
      small = by (ltb most (n * 10 + d)) refl
        where
          by : (z : Bool) → ltb most (n * 10 + d) ≡ z → n * 10 + d ≤ most
          by true q = absurd (clash (count_over most v n i k.counting (n * 10 + d) h (ap (λ (x : ℕ). n * 10 + x) f) (ltb-true most (n * 10 + d) q) ∙ k.valid))
          by false q = ltb-false most (n * 10 + d) q

pub read_end : (most : ℕ) (v : List ℕ) (n i : ℕ) → Reading most v n i → length v ≤ i → n ≡ decimal (plain v)
unfolding decimal_from
read_end most v n i k h = sym (same_decimal most v k.valid ∙ k.left ∙ ap (decimal_from n) (drop_of_length-le v h))
