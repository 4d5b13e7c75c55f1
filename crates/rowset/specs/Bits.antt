-- The bits of a number: of sums, of one power of two, of what is above or below a place, and the lowest and the highest that is set.
use Rattle.std.specs.Prelude.{◌≡◌, refl, Bool, true, false, not, ◌&&◌, ◌||◌, ℕ, zero, suc, ◌+◌, ◌-◌, ◌*◌, ◌/◌, ◌%◌, ◌^◌, ◌≤◌, ◌<◌, ltb}
use Rattle.std.proofs.Common.{sym, ap₂, ◌∙◌, subst, true≢false, not-suc-le-zero, le_of_suc-le-suc, mod-lt, div-add-mod', zero-lt-suc, div-lt_iff_lt-mul, le-div_iff_mul-le, div-one, lt_of_lt_of_le, one-mul, pow-suc, arith, add-one, one-add, eqb-true, ne_eqb, lt-ltb, le-ltb, ltb-true, lit<, shl_exact, pow_pos, pow_mono, shr_lt, shr-shr}
use Rattle.std.proofs.Math.Path.{ap}
use Rattle.std.proofs.lemmas.Bool.{false≢true}
use Prim.Native.Nat.compare
use Rattle.std.proofs.Math.Nat.{div-eq_of_lt}
use Rattle.std.proofs.Math.Dec.{eqb}
use Rattle.std.proofs.Math.Arith.{lt-one}
use Rattle.std.specs.Int.Bits.{bit_and, bit_or, bit_xor, or_add_and}
use Rattle.std.proofs.lemmas.Nat.{and_shr, or_shr, xor_shr, and_mod, or_mod, xor_mod, or_disjoint, and_le_l, and_le_r, leading_top}
use Rattle.std.specs.Int.Count.{count_trailing_zeros, count_leading_zeros, under}
use Rattle.laws.specs.Bools.{and_right}
use Rattle.rowset.specs.Member.{bit, LowFrom, HighBelow}

-- a digit is 0 or 1
digit : (P : ℕ → Type 0) → P 0 → P 1 → (d : ℕ) → d < 2 → P d
digit P p q zero h = p
digit P p q (suc zero) h = q
digit P p q (suc (suc d)) h = absurd (not-suc-le-zero (le_of_suc-le-suc (le_of_suc-le-suc h)))

-- an operation that works on each bit apart does to the bits at each place what it does to two digits
module _ (op : ℕ → ℕ → ℕ) (f : Bool → Bool → Bool)
    (shr : (a b k : ℕ) → op a b / 2 ^ k ≡ op (a / 2 ^ k) (b / 2 ^ k))
    (low : (a b k : ℕ) → op a b % 2 ^ k ≡ op (a % 2 ^ k) (b % 2 ^ k))
    (t00 : eqb (op 0 0) 1 ≡ f false false) (t01 : eqb (op 0 1) 1 ≡ f false true)
    (t10 : eqb (op 1 0) 1 ≡ f true false) (t11 : eqb (op 1 1) 1 ≡ f true true) where
  digits : (d e : ℕ) → d < 2 → e < 2 → eqb (op d e) 1 ≡ f (eqb d 1) (eqb e 1)
  digits d e hd he =
      digit (λ (x : ℕ). eqb (op x e) 1 ≡ f (eqb x 1) (eqb e 1))
      (digit (λ (y : ℕ). eqb (op 0 y) 1 ≡ f (eqb 0 1) (eqb y 1)) t00 t01 e he)
      (digit (λ (y : ℕ). eqb (op 1 y) 1 ≡ f (eqb 1 1) (eqb y 1)) t10 t11 e he) d hd

  bit_op : (a b j : ℕ) → bit (op a b) j ≡ f (bit a j) (bit b j)
  unfolding bit
  bit_op a b j =
      ap (λ (x : ℕ). eqb (x % 2) 1) (shr a b j) ∙ ap (λ (x : ℕ). eqb x 1) (low (a / 2 ^ j) (b / 2 ^ j) 1)
      ∙ digits (a / 2 ^ j % 2) (b / 2 ^ j % 2) (mod-lt (a / 2 ^ j) (zero-lt-suc 1)) (mod-lt (b / 2 ^ j) (zero-lt-suc 1))

pub bit_and_lem : (a b j : ℕ) → bit (bit_and a b) j ≡ (bit a j && bit b j)
bit_and_lem = bit_op bit_and ◌&&◌ and_shr and_mod refl refl refl refl

pub bit_or_lem : (a b j : ℕ) → bit (bit_or a b) j ≡ (bit a j || bit b j)
bit_or_lem = bit_op bit_or ◌||◌ or_shr or_mod refl refl refl refl

abbrev differ : Bool → Bool → Bool
differ true b = not b
differ false b = b

bit_xor_lem : (a b j : ℕ) → bit (bit_xor a b) j ≡ differ (bit a j) (bit b j)
bit_xor_lem = bit_op bit_xor differ xor_shr xor_mod refl refl refl refl

-- `a & (a ^ b)` is what a has and b has not
pub bit_minus : (a b j : ℕ) → bit (bit_and a (bit_xor a b)) j ≡ (bit a j && not (bit b j))
bit_minus a b j = bit_and_lem a (bit_xor a b) j ∙ ap (λ (x : Bool). bit a j && x) (bit_xor_lem a b j) ∙ pick (bit a j) (bit b j)
  where
    pick : (p q : Bool) → (p && differ p q) ≡ (p && not q)
    pick true q = refl
    pick false q = refl

pub bit_zero : (j : ℕ) → bit 0 j ≡ false
unfolding bit
bit_zero j = ap (λ (x : ℕ). eqb (x % 2) 1) (div-eq_of_lt (pow_pos j))

bit_low : (n : ℕ) → bit n 0 ≡ eqb (n % 2) 1
unfolding bit
bit_low n = ap (λ (x : ℕ). eqb (x % 2) 1) (div-one n)

-- the bits from i on are those of the number shifted down by i
bit_shr : (n i j : ℕ) → bit (n / 2 ^ i) j ≡ bit n (i + j)
unfolding bit
bit_shr n i j = ap (λ (x : ℕ). eqb (x % 2) 1) (shr-shr n i j)

bit_half : (n j : ℕ) → bit (n / 2) j ≡ bit n (suc j)
bit_half n j = bit_shr n 1 j ∙ ap (bit n) (one-add j)

-- no bit is set from b on in a number below 2 ^ b
pub bit_past : (n b j : ℕ) → n < 2 ^ b → b ≤ j → bit n j ≡ false
unfolding bit
bit_past n b j h l = ap (λ (x : ℕ). eqb (x % 2) 1) (div-eq_of_lt (lt_of_lt_of_le h (pow_mono l)))

-- ---- numbers with the same bits are equal

digit_eq : (d e : ℕ) → d < 2 → e < 2 → eqb d 1 ≡ eqb e 1 → d ≡ e
digit_eq d e hd he =
    digit (λ (x : ℕ). eqb x 1 ≡ eqb e 1 → x ≡ e)
    (digit (λ (y : ℕ). eqb 0 1 ≡ eqb y 1 → 0 ≡ y) (λ h. refl) (λ h. absurd (false≢true h)) e he)
    (digit (λ (y : ℕ). eqb 1 1 ≡ eqb y 1 → 1 ≡ y) (λ h. absurd (true≢false h)) (λ h. refl) e he) d hd

half_lt : (k n : ℕ) → n < 2 ^ suc k → n / 2 < 2 ^ k
half_lt k n h = shr_lt k 1 (subst (λ (x : ℕ). n < 2 ^ x) (sym (add-one k)) h)

bits_below : (k a b : ℕ) → a < 2 ^ k → b < 2 ^ k → ((j : ℕ) → bit a j ≡ bit b j) → a ≡ b
bits_below zero a b ha hb h = lt-one ha ∙ sym (lt-one hb)
bits_below (suc k) a b ha hb h =
    let low : a % 2 ≡ b % 2 = digit_eq (a % 2) (b % 2) (mod-lt a (zero-lt-suc 1)) (mod-lt b (zero-lt-suc 1)) (sym (bit_low a) ∙ h 0 ∙ bit_low b) in
    let high : a / 2 ≡ b / 2 = bits_below k (a / 2) (b / 2) (half_lt k a ha) (half_lt k b hb) (λ j. bit_half a j ∙ h (suc j) ∙ sym (bit_half b j)) in
    sym (div-add-mod' a 2) ∙ ap₂ (λ (x y : ℕ). x * 2 + y) high low ∙ div-add-mod' b 2

below_power : (n : ℕ) → n < 2 ^ n
below_power zero = zero-lt-suc 0
below_power (suc n) = let h : n < 2 ^ n = below_power n in rw (pow-suc 2 n) (omega arith)

pub bits_same : (a b : ℕ) → ((j : ℕ) → bit a j ≡ bit b j) → a ≡ b
bits_same a b h =
    let ha : a < 2 ^ (a + b) = lt_of_lt_of_le (below_power a) (pow_mono (omega arith)) in
    let hb : b < 2 ^ (a + b) = lt_of_lt_of_le (below_power b) (pow_mono (omega arith)) in
    bits_below (a + b) a b ha hb h

pub or_none_lem : (a b : ℕ) → bit_or a b ≡ 0 → (a ≡ 0) × (b ≡ 0)
or_none_lem a b h = (omega (arith, or_add_and a b, and_le_l a b, and_le_r a b), omega (arith, or_add_and a b, and_le_l a b, and_le_r a b))

-- ---- powers of two

-- the highest set bit
top_set : (a j : ℕ) → 2 ^ j ≤ a → a < 2 ^ suc j → bit a j ≡ true
unfolding bit
top_set a j l h =
    let one : a / 2 ^ j ≡ 1 =
    omega (arith, (le-div_iff_mul-le {k = 2 ^ j} {x = 1} {y = a} (pow_pos j)).1 (omega arith), (div-lt_iff_lt-mul {k = 2 ^ j} {x = a} {y = 2} (pow_pos j)).1 (omega arith)) in
    ap (λ (x : ℕ). eqb (x % 2) 1) one

-- a number by its half and its last digit
bit_first : (n h d : ℕ) → n ≡ h * 2 + d → d < 2 → bit n 0 ≡ eqb d 1
bit_first n h d e l = let m : n % 2 ≡ d = omega arith in bit_low n ∙ ap (λ (x : ℕ). eqb x 1) m

bit_next : (n h d i : ℕ) → n ≡ h * 2 + d → d < 2 → bit n (suc i) ≡ bit h i
bit_next n h d i e l = let m : n / 2 ≡ h = omega arith in sym (bit_half n i) ∙ ap (λ (x : ℕ). bit x i) m

-- 2 ^ j has one bit
pub bit_power : (j i : ℕ) → bit (2 ^ j) i ≡ eqb i j
bit_power zero zero = bit_first 1 0 1 refl (lit< tt)
bit_power zero (suc i) = bit_next 1 0 1 i refl (lit< tt) ∙ bit_zero i ∙ sym (ne_eqb (suc i) 0 (omega arith))
bit_power (suc j) zero = bit_first (2 ^ suc j) (2 ^ j) 0 (rw (pow-suc 2 j) (omega arith)) (lit< tt) ∙ sym (ne_eqb 0 (suc j) (omega arith))
bit_power (suc j) (suc i) = bit_next (2 ^ suc j) (2 ^ j) 0 i (rw (pow-suc 2 j) (omega arith)) (lit< tt) ∙ bit_power j i ∙ rw compare.suc-suc

halved : (j : ℕ) → 2 ^ suc j - 1 ≡ (2 ^ j - 1) * 2 + 1
halved j = rw (pow-suc 2 j) (omega (arith, pow_pos j))

-- 2 ^ j - 1 has all the bits below j
pub bit_ones : (j i : ℕ) → bit (2 ^ j - 1) i ≡ ltb i j
bit_ones zero i = bit_zero i ∙ sym (le-ltb i 0 (omega arith))
bit_ones (suc j) zero = bit_first (2 ^ suc j - 1) (2 ^ j - 1) 1 (halved j) (lit< tt) ∙ sym (lt-ltb 0 (suc j) (omega arith))
bit_ones (suc j) (suc i) = bit_next (2 ^ suc j - 1) (2 ^ j - 1) 1 i (halved j) (lit< tt) ∙ bit_ones j i ∙ rw compare.suc-suc

-- a bit is set that was not
pub bit_add : (w j i : ℕ) → bit w j ≡ false → bit (2 ^ j + w) i ≡ (eqb i j || bit w i)
bit_add w j i h =
    ap (λ (x : ℕ). bit x i) (sym (or_disjoint (2 ^ j) w (bits_same (bit_and (2 ^ j) w) 0 none))) ∙ bit_or_lem (2 ^ j) w i ∙
    ap (λ (x : Bool). x || bit w i) (bit_power j i)
  where
    pick : (m : ℕ) (b : Bool) → eqb m j ≡ b → (b && bit w m) ≡ false
    pick m true e = ap (bit w) (eqb-true m j e) ∙ h
    pick m false e = refl

    none : (m : ℕ) → bit (bit_and (2 ^ j) w) m ≡ bit 0 m
    none m = bit_and_lem (2 ^ j) w m ∙ ap (λ (x : Bool). x && bit w m) (bit_power j m) ∙ pick m (eqb m j) refl ∙ sym (bit_zero m)

pub one_shl : (k : ℕ) → k < 64 → (1 * 2 ^ k) % 2 ^ 64 ≡ 2 ^ k
one_shl k h = shl_exact {a = 1} 1 k 64 (lit< tt) (omega arith) ∙ one-mul (2 ^ k)

-- ---- the lowest set bit

-- no bit is set below it
trailing_below : (k n j : ℕ) → j < count_trailing_zeros k n → bit n j ≡ false
unfolding count_trailing_zeros
trailing_below zero n j h = absurd (not-suc-le-zero h)
trailing_below (suc k) n j h = go (n % 2) j refl h (λ i l. sym (bit_half n i) ∙ trailing_below k (n / 2) i l)
  where
    go : (d j : ℕ) → n % 2 ≡ d → j < under d (count_trailing_zeros k (n / 2)) → ((i : ℕ) → i < count_trailing_zeros k (n / 2) → bit n (suc i) ≡ false) → bit n j ≡ false
    go zero zero e h ih = bit_low n ∙ ap (λ (x : ℕ). eqb x 1) e
    go zero (suc i) e h ih = ih i (le_of_suc-le-suc h)
    go (suc d) j e h ih = absurd (not-suc-le-zero h)

-- it is set, if it is one of the k
trailing_at : (k n : ℕ) → count_trailing_zeros k n < k → bit n (count_trailing_zeros k n) ≡ true
unfolding count_trailing_zeros
trailing_at zero n h = absurd (not-suc-le-zero h)
trailing_at (suc k) n h = go (n % 2) refl h (λ l. sym (bit_half n (count_trailing_zeros k (n / 2))) ∙ trailing_at k (n / 2) l)
  where
    go : (d : ℕ) → n % 2 ≡ d → under d (count_trailing_zeros k (n / 2)) < suc k →
        (count_trailing_zeros k (n / 2) < k → bit n (suc (count_trailing_zeros k (n / 2))) ≡ true) → bit n (under d (count_trailing_zeros k (n / 2))) ≡ true
    go zero e h ih = ih (le_of_suc-le-suc h)
    go (suc zero) e h ih = bit_low n ∙ ap (λ (x : ℕ). eqb x 1) e
    go (suc (suc d)) e h ih = absurd (omega arith)

-- what `low_from` finds: the lowest set bit of w shifted down by k, or 64 where that lies past the word
pub low_from : (w k r t : ℕ) → t ≡ count_trailing_zeros 64 (w / 2 ^ k) → k ≤ r → r ≤ 64 → r ≤ k + t → (r < 64 → r ≡ k + t) → LowFrom w k r
low_from w k r t e l m u at = record {
  most = m;
  least = l;
  set = λ h. let f : r ≡ k + t = at h in
      ap (bit w) f ∙ sym (bit_shr w k t) ∙ ap (bit (w / 2 ^ k)) e ∙ trailing_at 64 (w / 2 ^ k) (omega arith);
  clear = λ j g h.
      let s : k + (j - k) ≡ j = omega arith in
      ap (bit w) (sym s) ∙ sym (bit_shr w k (j - k)) ∙ trailing_below 64 (w / 2 ^ k) (j - k) (omega arith);
}

-- a word of no bits
pub none_set : (w k : ℕ) → w ≡ 0 → k < 64 → LowFrom w k 64
none_set w k e h = record {
  most = omega arith;
  least = omega arith;
  set = λ l. absurd (omega arith);
  clear = λ j a b. ap (λ (x : ℕ). bit x j) e ∙ bit_zero j;
}

-- ---- the highest set bit

pub leading_small : (v : ℕ) → 0 < v → v < 2 ^ 64 → count_leading_zeros 64 v ≤ 63
leading_small v p h = omega (arith, (leading_top 64 v p h).1)

-- what `high_below` finds: the highest bit of those of w below b
module _ (w b v : ℕ) (e : v ≡ bit_and w (2 ^ b - 1)) where
  masked : (i : ℕ) → bit v i ≡ (bit w i && ltb i b)
  masked i = ap (λ (x : ℕ). bit x i) e ∙ bit_and_lem w (2 ^ b - 1) i ∙ ap (λ (x : Bool). bit w i && x) (bit_ones b i)

  below : (i : ℕ) → i < b → bit v i ≡ bit w i
  below i l = masked i ∙ ap (λ (x : Bool). bit w i && x) (lt-ltb i b l) ∙ and_one (bit w i)
    where
      and_one : (p : Bool) → (p && true) ≡ p
      and_one true = refl
      and_one false = refl

  pub high_missing : v ≡ 0 → HighBelow w b 64
  high_missing z = record {
    most = omega arith;
    set = λ l. absurd (omega arith);
    clear = λ s j l. sym (below j l) ∙ ap (λ (x : ℕ). bit x j) z ∙ bit_zero j;
  }

  pub high_found : (r : ℕ) → 0 < v → v < 2 ^ 64 → r ≡ 63 - count_leading_zeros 64 v → HighBelow w b r
  high_found r p fits er =
      let t = leading_top 64 v p fits in
      let rj : r ≡ t.0 = omega (arith, t.1) in
      let top : bit v t.0 ≡ true = top_set v t.0 t.2 t.3 in
      let inside : t.0 < b = ltb-true t.0 b (and_right (bit w t.0) (ltb t.0 b) (sym (masked t.0) ∙ top)) in
      record {
        most = omega arith;
        set = λ l. (
          omega arith,
          ap (bit w) rj ∙ sym (below t.0 inside) ∙ top,
          λ j g u. sym (below j u) ∙ bit_past v (suc t.0) j t.3 (omega arith),
        );
        clear = λ z. absurd (omega (arith, t.1));
      }
