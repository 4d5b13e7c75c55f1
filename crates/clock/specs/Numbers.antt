-- Numbers in eight bytes, the lowest first: read back as they were written, and written as they were read.
use Rattle.std.specs.Prelude.{◌≡◌, refl, List, [], ◌∷◌, ◌++◌, ℕ, ◌+◌, ◌-◌, ◌*◌, ◌/◌, ◌%◌, ◌≤◌, ◌<◌, length, take, drop}
use Rattle.std.proofs.Math.Path.{sym, ap}
use Rattle.std.specs.Int.{w64, from_le_bytes, to_le_bytes}
use Rattle.std.proofs.Common.{◌∙◌, get_or-take}
use Rattle.std.proofs.Math.Nat.{add-zero, div-div-eq-div-mul}
use native.Mathlib.Omega.{arith}
use Rattle.std.proofs.Math.ListN.{get_or, length-drop}
use Rattle.std.proofs.Math.Seq.{get_or-drop}
use Rattle.clock.specs.Records.{bytes_of, number_at}

pub bytes_length : (n : ℕ) → length (bytes_of n) ≡ 8
unfolding bytes_of
bytes_length n = refl

pub bytes_zero : bytes_of 0 ≡ 0 ∷ 0 ∷ 0 ∷ 0 ∷ 0 ∷ 0 ∷ 0 ∷ 0 ∷ []
unfolding bytes_of
bytes_zero = refl

-- ---- the number of a part

pub number_part : (bytes : List ℕ) (i : ℕ) → number_at (take 8 (drop i bytes)) 0 ≡ number_at bytes i
unfolding number_at
number_part bytes i =
    let at = part in
    rw (at 0 (omega arith), at 1 (omega arith), at 2 (omega arith), at 3 (omega arith), at 4 (omega arith), at 5 (omega arith), at 6 (omega arith), at 7 (omega arith), add-zero i)
  where
    part : (k : ℕ) → k < 8 → get_or (take 8 (drop i bytes)) k 0 ≡ get_or bytes (i + k) 0
    part k l = get_or-take 8 (drop i bytes) k 0 l ∙ get_or-drop i bytes k 0

-- ---- written, then read

digit : (q rest : ℕ) → rest ≡ q / 256 → q % 256 + 256 * rest ≡ q
digit q rest e = omega arith

top : (q : ℕ) → q < 256 → q % 256 ≡ q
top q l = omega arith

pub number_again : (n : ℕ) → n < 18446744073709551616 → number_at (bytes_of n) 0 ≡ n
unfolding number_at bytes_of
number_again n l =
    digit n _
    (digit (n / 256) _
    (digit (n / 65536) _
    (digit (n / 16777216) _
    (digit (n / 4294967296) _
    (digit (n / 1099511627776) _
    (digit (n / 281474976710656) _
    (top (n / 72057594037927936) (omega arith) ∙ sym (div-div-eq-div-mul n 281474976710656 256)) ∙ sym (div-div-eq-div-mul n 1099511627776 256)) ∙
    sym (div-div-eq-div-mul n 4294967296 256)) ∙
    sym (div-div-eq-div-mul n 16777216 256)) ∙
    sym (div-div-eq-div-mul n 65536 256)) ∙
    sym (div-div-eq-div-mul n 256 256)))

-- ---- read, then written: eight bytes, each below 256

low : (x y : ℕ) → x < 256 → (x + 256 * y) % 256 ≡ x
low x y l = omega arith

high : (x y : ℕ) → x < 256 → (x + 256 * y) / 256 ≡ y
high x y l = omega arith

further : (n d x r : ℕ) → n / d ≡ x + 256 * r → x < 256 → n / (d * 256) ≡ r
further n d x r e l = sym (div-div-eq-div-mul n d 256) ∙ ap (λ (q : ℕ). q / 256) e ∙ high x r l

module _ (a b c d e f g h : ℕ) (la : a < 256) (lb : b < 256) (lc : c < 256) (ld : d < 256) (le : e < 256) (lf : f < 256) (lg : g < 256) (lh : h < 256) where
  abbrev whole : ℕ
  whole = a + 256 * (b + 256 * (c + 256 * (d + 256 * (e + 256 * (f + 256 * (g + 256 * h))))))

  abbrev eight : List ℕ
  eight = a ∷ b ∷ c ∷ d ∷ e ∷ f ∷ g ∷ h ∷ []

  q₁ : whole / 256 ≡ b + 256 * (c + 256 * (d + 256 * (e + 256 * (f + 256 * (g + 256 * h)))))
  q₁ = high a _ la

  q₂ : whole / 65536 ≡ c + 256 * (d + 256 * (e + 256 * (f + 256 * (g + 256 * h))))
  q₂ = further whole 256 b _ q₁ lb

  q₃ : whole / 16777216 ≡ d + 256 * (e + 256 * (f + 256 * (g + 256 * h)))
  q₃ = further whole 65536 c _ q₂ lc

  q₄ : whole / 4294967296 ≡ e + 256 * (f + 256 * (g + 256 * h))
  q₄ = further whole 16777216 d _ q₃ ld

  q₅ : whole / 1099511627776 ≡ f + 256 * (g + 256 * h)
  q₅ = further whole 4294967296 e _ q₄ le

  q₆ : whole / 281474976710656 ≡ g + 256 * h
  q₆ = further whole 1099511627776 f _ q₅ lf

  q₇ : whole / 72057594037927936 ≡ h
  q₇ = further whole 281474976710656 g _ q₆ lg

  pub eight_again : bytes_of whole ≡ eight
  unfolding bytes_of
  eight_again =
      let z : h % 256 ≡ h = omega arith in
      rw (q₁, q₂, q₃, q₄, q₅, q₆, q₇, low a _ la, low b _ lb, low c _ lc, low d _ ld, low e _ le, low f _ lf, low g _ lg, z)

-- ---- what reading gives

-- the number, and its bytes are those that stand there
pub record Number (bytes : List ℕ) (i n : ℕ) : Type 0 where
  pub is : n ≡ number_at bytes i
  pub again : bytes_of n ≡ take 8 (drop i bytes)

pub first_eight : (q : List ℕ) → 8 ≤ length q → take 8 q ≡ get_or q 0 0 ∷ get_or q 1 0 ∷ get_or q 2 0 ∷ get_or q 3 0 ∷ get_or q 4 0 ∷ get_or q 5 0 ∷ get_or q 6 0 ∷ get_or q 7 0 ∷ []
first_eight (a ∷ b ∷ c ∷ d ∷ e ∷ f ∷ g ∷ h ∷ q) l = refl
first_eight [] l = absurd (omega arith)
first_eight (a ∷ []) l = absurd (omega arith)
first_eight (a ∷ b ∷ []) l = absurd (omega arith)
first_eight (a ∷ b ∷ c ∷ []) l = absurd (omega arith)
first_eight (a ∷ b ∷ c ∷ d ∷ []) l = absurd (omega arith)
first_eight (a ∷ b ∷ c ∷ d ∷ e ∷ []) l = absurd (omega arith)
first_eight (a ∷ b ∷ c ∷ d ∷ e ∷ f ∷ []) l = absurd (omega arith)
first_eight (a ∷ b ∷ c ∷ d ∷ e ∷ f ∷ g ∷ []) l = absurd (omega arith)

-- a part of bytes, each below 256, is spelled again by its number
pub number_back : (bytes : List ℕ) (i : ℕ) → ((k : ℕ) → get_or bytes k 0 < 256) → i + 8 ≤ length bytes → bytes_of (number_at bytes i) ≡ take 8 (drop i bytes)
unfolding number_at
number_back bytes i small l =
    let at = reads in
    eight_again _ _ _ _ _ _ _ _ (small i) (small (i + 1)) (small (i + 2)) (small (i + 3)) (small (i + 4)) (small (i + 5)) (small (i + 6)) (small (i + 7)) ∙
    sym (first_eight (drop i bytes) (omega (arith, length-drop i bytes)) ∙ rw (at 0, at 1, at 2, at 3, at 4, at 5, at 6, at 7, add-zero i))
  where
    reads : (k : ℕ) → get_or (drop i bytes) k 0 ≡ get_or bytes (i + k) 0
    reads k = get_or-drop i bytes k 0

-- ---- as std reads and writes them

number_sum : (q : List ℕ) → from_le_bytes w64 q ≡ number_at q 0
unfolding number_at
number_sum q = omega arith

pub number_read : (bytes part : List ℕ) (i n : ℕ) → ((k : ℕ) → get_or bytes k 0 < 256) → i + 8 ≤ length bytes → part ≡ take (i + 8 - i) (drop i bytes) → n ≡ from_le_bytes w64 part → Number bytes i n
number_read bytes part i n small l e h =
    let w : i + 8 - i ≡ 8 = omega arith in
    let p : part ≡ take 8 (drop i bytes) = e ∙ rw w in
    let is : n ≡ number_at bytes i = h ∙ number_sum part ∙ ap (λ (q : List ℕ). number_at q 0) p ∙ number_part bytes i in
    record { is = is; again = ap bytes_of is ∙ number_back bytes i small l }

pub bytes_written : (n : ℕ) → to_le_bytes w64 n ≡ bytes_of n
unfolding bytes_of
bytes_written n = refl

-- the eight bytes at a place, as they are lent
pub number_put : (q : List ℕ) (i : ℕ) (part new : List ℕ) → part ≡ new → take i q ++ (part ++ drop (i + 8 - i) (drop i q)) ≡ take i q ++ (new ++ drop 8 (drop i q))
number_put q i part new e = let w : i + 8 - i ≡ 8 = omega arith in rw (w, e)
