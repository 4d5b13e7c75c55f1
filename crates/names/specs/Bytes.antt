-- The name bytes as two words, a bit for each of the first 128 bytes; and a slot that begins with a name and has no other byte filled.
use Rattle.std.specs.Prelude.{◌≡◌, refl, Bool, true, false, not, ◌&&◌, List, [], ◌∷◌, ℕ, zero, suc, ◌+◌, ◌-◌, ◌/◌, ◌%◌, ◌^◌, ◌≤◌, ◌<◌, eqb, leb, length, take}
use Rattle.std.proofs.Common.{sym, ◌∙◌, arith, eqb-true, eq-eqb, ne_eqb, le-leb, length-take}
use Rattle.std.proofs.Math.Path.{ap}
use Rattle.std.proofs.lemmas.Bool.{eqb-false, lt-leb}
use Rattle.definition.specs.Rows.{all, from, mem, same}
use Rattle.definition.specs.Names.{Name, is_letter, is_name_byte, is_full, tokens, between, is_name, star, dot_star, bare, is_descriptor, before_zero, zeros_after}
use Rattle.laws.specs.Bools.{no, bool_case, not_so, and_true, and3, or_left, or_right, clash}
use Rattle.laws.specs.Lists.{same_eq, all_mem}
use Rattle.laws.specs.Loops.{each_below}
use Rattle.names.specs.Spelling.{name_short, name_no_zero}
use Rattle.names.specs.Blank.{filled_in, filled_blank}

-- ---- one bit for each byte

abbrev agree : Bool → Bool → Bool
agree true b = b
agree false b = not b

agreed : (a b : Bool) → agree a b ≡ true → a ≡ b
agreed true true h = refl
agreed true false h = absurd (no h)
agreed false true h = absurd (no h)
agreed false false h = refl

low_agrees : ℕ → Bool
low_agrees b = agree (eqb (288054454291267584 / 2 ^ b % 2) 1) (is_name_byte b)

high_agrees : ℕ → Bool
high_agrees b = agree (eqb (576460745995190270 / 2 ^ b % 2) 1) (is_name_byte (64 + b))

all_low : all low_agrees (from 64 0) ≡ true
unfolding low_agrees all from is_name_byte is_letter
all_low = refl

all_high : all high_agrees (from 64 0) ≡ true
unfolding high_agrees all from is_name_byte is_letter
all_high = refl

pub low_byte : (b : ℕ) → b < 64 → eqb (288054454291267584 / 2 ^ b % 2) 1 ≡ is_name_byte b
unfolding low_agrees
low_byte b l = agreed _ _ (each_below low_agrees 64 all_low b l)

pub high_byte : (b : ℕ) → 64 ≤ b → b < 128 → eqb (576460745995190270 / 2 ^ (b - 64) % 2) 1 ≡ is_name_byte b
unfolding high_agrees
high_byte b m l = agreed _ _ (each_below high_agrees 64 all_high (b - 64) (omega arith)) ∙ ap is_name_byte (omega arith)

pub no_byte : (b : ℕ) → 128 ≤ b → false ≡ is_name_byte b
unfolding is_name_byte is_letter
no_byte b l =
    rw (le-leb 65 b (omega arith), lt-leb b 90 (omega arith), le-leb 97 b (omega arith), lt-leb b 122 (omega arith), le-leb 48 b (omega arith), lt-leb b 57 (omega arith))
    (rw (ne_eqb b 45 (λ e. omega arith), ne_eqb b 95 (λ e. omega arith), ne_eqb b 46 (λ e. omega arith)))

-- ---- a name is a descriptor

head_not : (a x : ℕ) (xs : List ℕ) → mem a (x ∷ xs) ≡ false → eqb a x ≡ false
unfolding mem
head_not a x xs h = not_so (eqb a x) (λ e. clash _ (or_left (eqb a x) (mem a xs) e) h)

tail_not : (a x : ℕ) (xs : List ℕ) → mem a (x ∷ xs) ≡ false → mem a xs ≡ false
unfolding mem
tail_not a x xs h = not_so (mem a xs) (λ e. clash _ (or_right (eqb a x) (mem a xs) e) h)

bare_name : (n : Name) → mem 42 n ≡ false → bare n ≡ n
unfolding bare
bare_name [] h = refl
bare_name (b ∷ bs) h =
    bool_case (same (b ∷ bs) dot_star) (λ e. absurd (clash _ (ends (same_eq (b ∷ bs) dot_star e)) h))
    (λ e. rw e (ap {B = Name} (λ r. b ∷ r) (bare_name bs (tail_not 42 b bs h))))
  where
    ends : b ∷ bs ≡ dot_star → mem 42 (b ∷ bs) ≡ true
    ends e = unfold mem in ap (mem 42) e

no_star : (n : Name) → is_name n ≡ true → mem 42 n ≡ false
unfolding is_name is_name_byte is_letter
no_star n h =
    let k = and3 (between 1 63 (length n)) (all is_name_byte n) (all is_full (tokens n)) h in
    not_so (mem 42 n) (λ m. no (all_mem is_name_byte n k.1 42 m))

pub name_descriptor : (n : Name) → is_name n ≡ true → is_descriptor n ≡ true
unfolding is_descriptor
name_descriptor n h =
    and_true (leb (length n) 63) _ (le-leb _ _ (name_short n h)) (or_right (same n star) _ (ap is_name (bare_name n (no_star n h)) ∙ h))

-- ---- the first n bytes have no zero, and n are filled

filled_most : (s : List ℕ) → filled_in s ≤ length s
unfolding filled_in
filled_most [] = omega arith
filled_most (b ∷ bs) =
    let h = filled_most bs in
    bool_case (eqb b 0) (λ e. rw e (omega arith)) (λ e. rw e (omega arith))

pub filled_front : (s : List ℕ) (n : ℕ) → n ≡ filled_in s → n ≡ length (take n s)
filled_front s n e = let h = filled_most s in let l : n ≤ length s = omega arith in sym (length-take n s ∙ omega arith)

front_filled : (s : List ℕ) (n : ℕ) → n ≡ filled_in s → mem 0 (take n s) ≡ false → before_zero s ≡ take n s
unfolding filled_in before_zero
front_filled [] zero e h = refl
front_filled [] (suc n) e h = absurd (omega arith)
front_filled (b ∷ bs) zero e h = bool_case (eqb b 0) (λ z. rw z) (λ z. absurd (more (filled_in bs) (e ∙ rw z)))
  where
    more : (m : ℕ) → 0 ≡ suc m → ⊥
    more m q = omega arith
front_filled (b ∷ bs) (suc n) e h =
    bool_case (eqb b 0) (λ z. absurd (eqb-false 0 b (head_not 0 b (take n bs) h) (sym (eqb-true b 0 z))))
    (λ z. rw z (ap {B = List ℕ} (λ r. b ∷ r) (front_filled bs n (less (filled_in bs) (e ∙ rw z)) (tail_not 0 b (take n bs) h))))
  where
    less : (m : ℕ) → suc n ≡ suc m → n ≡ m
    less m q = omega arith

pub name_fills : (s : List ℕ) (n : ℕ) → n ≡ filled_in s → is_name (take n s) ≡ true → true ≡ (zeros_after s && is_descriptor (before_zero s))
name_fills s n e h =
    let f : before_zero s ≡ take n s = front_filled s n e (name_no_zero (take n s) h) in
    let z : zeros_after s ≡ true = sym (filled_blank s) ∙ eq-eqb _ _ (sym e ∙ filled_front s n e ∙ ap length (sym f)) in
    sym (and_true (zeros_after s) (is_descriptor (before_zero s)) z (ap is_descriptor f ∙ name_descriptor (take n s) h))
