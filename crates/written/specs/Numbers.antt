-- Numbers in decimal as they are written, and what they read as.
use Rattle.std.specs.Prelude.{◌≡◌, Bool, true, not, ◌&&◌, cond, List, [], ◌∷◌, ◌++◌, ℕ, zero, suc, ◌≤◌, ◌<◌, ◌+◌, ◌*◌, ◌-◌, ◌/◌, ◌%◌, leb}
use Rattle.std.proofs.Math.Path.{refl, sym}
use Rattle.std.proofs.Common.{ap, ◌∙◌, mod-lt, div-add-mod', zero-lt-suc, leb-true, le-leb}
use Rattle.std.proofs.Math.Bool.{false}
use native.Mathlib.Omega.{arith}
use Rattle.definition.specs.Rows.{all, is_empty}
use Rattle.reading.specs.Faults.{decoded, plain, is_decimal_digit, decimal_from, decimal, is_decimal}
use Rattle.reading.specs.Print.{digits, number}
use Rattle.laws.specs.Bools.{and_true}
use Rattle.laws.specs.Lists.{all_both as every-both}
use Rattle.written.specs.Sound.{AllOf, no_more, more}
use Rattle.written.specs.Spelt.{Plain, plain_byte}
use Rattle.written.specs.Values.{all_both}

-- ---- digits

digit_plain : (d : ℕ) → d ≤ 9 → Plain (48 + d)
digit_plain d h = plain_byte (48 + d) (omega arith) (omega arith) (λ e. omega arith)

pub digits_plain : (k n : ℕ) → AllOf Plain (digits k n)
unfolding digits
digits_plain zero n = no_more
digits_plain (suc k) n = by (leb n 9) refl (digits_plain k (n / 10))
  where
    by : (z : Bool) → leb n 9 ≡ z → AllOf Plain (digits k (n / 10)) → AllOf Plain (cond z ((48 + n) ∷ []) (digits k (n / 10) ++ (48 + n % 10) ∷ []))
    by true e m = more (digit_plain n (leb-true n 9 e)) no_more
    by false e m = all_both m (more (digit_plain (n % 10) (let l = mod-lt n (zero-lt-suc 9) in omega arith)) no_more)

digit_is : (d : ℕ) → d ≤ 9 → is_decimal_digit (48 + d) ≡ true
digit_is d h = and_true (leb 48 (48 + d)) (leb (48 + d) 57) (le-leb 48 (48 + d) (omega arith)) (le-leb (48 + d) 57 (omega arith))

one_digit : (d : ℕ) → d ≤ 9 → all is_decimal_digit ((48 + d) ∷ []) ≡ true
unfolding all
one_digit d h = rw (digit_is d h)

digits_all : (k n : ℕ) → all is_decimal_digit (digits k n) ≡ true
unfolding digits
digits_all zero n = unfold all in refl
digits_all (suc k) n = by (leb n 9) refl (digits_all k (n / 10))
  where
    by : (z : Bool) → leb n 9 ≡ z → all is_decimal_digit (digits k (n / 10)) ≡ true → all is_decimal_digit (cond z ((48 + n) ∷ []) (digits k (n / 10) ++ (48 + n % 10) ∷ [])) ≡ true
    by true e m = one_digit n (leb-true n 9 e)
    by false e m = every-both is_decimal_digit (digits k (n / 10)) ((48 + n % 10) ∷ []) m (one_digit (n % 10) (let l = mod-lt n (zero-lt-suc 9) in omega arith))

full_end : (xs : List ℕ) (y : ℕ) → is_empty (xs ++ y ∷ []) ≡ false
unfolding is_empty
full_end [] y = refl
full_end (x ∷ xs) y = refl

digits_full : (k n : ℕ) → is_empty (digits (suc k) n) ≡ false
unfolding digits
digits_full k n = by (leb n 9)
  where
    by : (z : Bool) → is_empty (cond z ((48 + n) ∷ []) (digits k (n / 10) ++ (48 + n % 10) ∷ [])) ≡ false
    by true = unfold is_empty in refl
    by false = full_end (digits k (n / 10)) (48 + n % 10)

-- ---- what they read as

abbrev ten : ℕ → ℕ
ten zero = 1
ten (suc k) = ten k * 10

decimal_last : (m : ℕ) (xs : List ℕ) (y : ℕ) → decimal_from m (xs ++ y ∷ []) ≡ decimal_from m xs * 10 + (y - 48)
unfolding decimal_from
decimal_last m [] y = refl
decimal_last m (x ∷ xs) y = decimal_last (m * 10 + (x - 48)) xs y

first_digit : (n : ℕ) → decimal_from 0 ((48 + n) ∷ []) ≡ n
unfolding decimal_from
first_digit n = omega arith

digits_decimal : (k n : ℕ) → n < ten k → decimal (digits k n) ≡ n
unfolding digits
digits_decimal zero n h = none_left h
  where
    none_left : n < 1 → decimal_from 0 [] ≡ n
    none_left l = unfold decimal_from in (let z : n ≡ 0 = omega arith in sym z)
digits_decimal (suc k) n h = by (leb n 9) h (digits_decimal k (n / 10))
  where
    by : (z : Bool) → n < ten k * 10 → (n / 10 < ten k → decimal (digits k (n / 10)) ≡ n / 10) → decimal (cond z ((48 + n) ∷ []) (digits k (n / 10) ++ (48 + n % 10) ∷ [])) ≡ n
    by true l m = first_digit n
    by false l m =
        let d = div-add-mod' n 10 in
        let r = mod-lt n (zero-lt-suc 9) in
        let below : n / 10 < ten k = omega arith in
        let i = m below in
        decimal_last 0 (digits k (n / 10)) (48 + n % 10) ∙ (let j : decimal_from 0 (digits k (n / 10)) ≡ n / 10 = i in omega arith)

-- a number of at most ten digits reads as itself
pub number_decimal : (n most : ℕ) → most ≤ 4294967295 → n ≤ most → decimal (number n) ≡ n
number_decimal n most h l = digits_decimal 10 n (small (omega arith))
  where
    small : n < 10000000000 → n < ten 10
    small l = l

pub number_fits : (n most : ℕ) → most ≤ 4294967295 → n ≤ most → is_decimal most (number n) ≡ true
number_fits n most h l =
    and_true (not (is_empty (number n)) && all is_decimal_digit (number n)) (leb (decimal (number n)) most)
    (and_true (not (is_empty (number n))) (all is_decimal_digit (number n)) (ap not (digits_full 9 n)) (digits_all 10 n))
    (ap (λ (k : ℕ). leb k most) (number_decimal n most h l) ∙ le-leb n most l)

-- ---- entities: a value without "&" stands for itself

pub plain_itself : (v : List ℕ) → AllOf Plain v → plain v ≡ v
unfolding decoded
plain_itself [] no_more = refl
plain_itself (b ∷ bs) (more p m) = rw p.entity (ap (λ (l : List ℕ). b ∷ l) (plain_itself bs m))
