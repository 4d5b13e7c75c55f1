-- A name in a slot: its bytes, then zeros.
use Rattle.std.specs.Prelude.{◌≡◌, refl, Bool, true, false, ◌||◌, cond, List, [], ◌∷◌, ◌++◌, ℕ, zero, suc, ◌-◌, ◌≤◌, eqb, min, length, take, replicate}
use Rattle.std.proofs.Math.Path.{ap, sym}
use Rattle.std.proofs.Common.{◌∙◌, le_refl, arith, length-append, length-take-le, ne_eqb}
use Rattle.std.proofs.Math.Nat.{sub-zero, suc-sub-suc}
use Rattle.std.proofs.Math.ListN.{drop}
use Rattle.std.proofs.Math.Seq.{take-append_seam, drop-append_seam}
use Rattle.std.proofs.lemmas.Bool.{eqb-false}
use Rattle.definition.specs.Rows.{all, same, mem}
use Rattle.definition.specs.Names.{Name, before_zero, from_zero, zeros_after, is_name, is_id, done_name, done_state}
use Rattle.definition.specs.Tables.{slot_of}
use Rattle.laws.specs.Bools.{both_ways, no}
use Rattle.laws.specs.Cells.{zeros_blank, blank_zeros}
use Rattle.laws.specs.Lists.{same_eq, same_self}
use Rattle.laws.specs.Parts.{laid, part_end}
use Rattle.names.specs.Spelling.{name_short, name_no_zero, id_name, id_short}

-- ---- a slot of any size: the name's bytes as far as they go in, zeros behind them

unfoldable pub padded : ℕ → Name → List ℕ
padded zero n = []
padded (suc k) [] = 0 ∷ padded k []
padded (suc k) (b ∷ bs) = b ∷ padded k bs

padded_cut : (k m : ℕ) (n : Name) → k ≤ m → padded k n ≡ take k (n ++ replicate m 0)
unfolding padded
padded_cut zero m n h = refl
padded_cut (suc k) zero n h = absurd (omega arith)
padded_cut (suc k) (suc m) [] h = ap {B = List ℕ} (λ r. 0 ∷ r) (padded_cut k m [] (omega arith))
padded_cut (suc k) (suc m) (b ∷ bs) h = ap {B = List ℕ} (λ r. b ∷ r) (padded_cut k (suc m) bs (omega arith))

pub padded_take : (k : ℕ) (n : Name) → padded k n ≡ take k (n ++ replicate k 0)
padded_take k n = padded_cut k k n (le_refl k)

-- a slot of a table has 64 bytes
pub slot_padded : (n : Name) → slot_of n ≡ padded 64 n
unfolding slot_of
slot_padded n = sym (padded_take 64 n)

pub padded_length : (k : ℕ) (n : Name) → length (padded k n) ≡ k
unfolding padded
padded_length zero n = refl
padded_length (suc k) [] = ap suc (padded_length k [])
padded_length (suc k) (b ∷ bs) = ap suc (padded_length k bs)

pub padded_blank : (k : ℕ) → padded k [] ≡ replicate k 0
unfolding padded
padded_blank zero = refl
padded_blank (suc k) = ap {B = List ℕ} (λ r. 0 ∷ r) (padded_blank k)

-- a name that goes in whole
pub padded_whole : (n : Name) (k : ℕ) → length n ≤ k → padded k n ≡ n ++ replicate (k - length n) 0
unfolding padded
padded_whole [] k h = rw (sub-zero k) (padded_blank k)
padded_whole (b ∷ bs) zero h = absurd (omega arith)
padded_whole (b ∷ bs) (suc k) h = rw (suc-sub-suc k (length bs)) (ap {B = List ℕ} (λ r. b ∷ r) (padded_whole bs k (omega arith)))

-- more bytes laid behind those that are in
pub laid_padded : (k : ℕ) (a b : Name) → laid (padded k a) (length a) b ≡ padded k (a ++ b)
unfolding padded laid
laid_padded zero a b = refl
laid_padded (suc k) [] [] = refl
laid_padded (suc k) [] (y ∷ b) = ap {B = List ℕ} (λ r. y ∷ r) (laid_padded k [] b)
laid_padded (suc k) (x ∷ a) b = ap {B = List ℕ} (λ r. x ∷ r) (laid_padded k a b)

-- n bytes of s over those of d from `at` on: as many as s has and d has room for
pub laid_part : (d : List ℕ) (at : ℕ) (s : List ℕ) (n : ℕ) → at ≤ length d → n ≡ min (length s) (length d - at) →
    take at d ++ (take n s ++ drop n (drop at d)) ≡ laid d at s
unfolding laid
laid_part [] zero s n h e = let z : n ≡ 0 = omega arith in rw z
laid_part [] (suc at) s n h e = absurd (omega arith)
laid_part (x ∷ d) zero [] n h e = let z : n ≡ 0 = omega arith in rw z
laid_part (x ∷ d) zero (y ∷ s) zero h e = absurd (omega arith)
laid_part (x ∷ d) zero (y ∷ s) (suc n) h e = ap {B = List ℕ} (λ r. y ∷ r) (laid_part d zero s n (omega arith) (omega arith))
laid_part (x ∷ d) (suc at) s n h e = ap {B = List ℕ} (λ r. x ∷ r) (laid_part d at s n (omega arith) (omega arith))

-- a name laid over zeros: z is the place cleared, p the place with the name
pub name_laid : (k : ℕ) (n z p : List ℕ) → z ≡ replicate k 0 → p ≡ laid z 0 n → p ≡ padded k n
name_laid k n z p e f = f ∙ ap (λ (x : List ℕ). laid x 0 n) (e ∙ sym (padded_blank k)) ∙ laid_padded k [] n

-- "done.state." laid over zeros, then the id behind it
pub done_laid : (k : ℕ) (n z p q : List ℕ) → z ≡ replicate k 0 → p ≡ laid z 0 done_state → q ≡ laid p 11 n → q ≡ padded k (done_name n)
unfolding done_name
done_laid k n z p q e f g = g ∙ ap (λ (x : List ℕ). laid x 11 n) (name_laid k done_state z p e f) ∙ laid_padded k done_state n

-- ---- what stands before the first zero, and from it on

pub zero_parts : (s : List ℕ) → before_zero s ++ from_zero s ≡ s
unfolding before_zero from_zero
zero_parts [] = refl
zero_parts (b ∷ bs) = step (eqb b 0) (zero_parts bs)
  where
    step : (z : Bool) → before_zero bs ++ from_zero bs ≡ bs → cond z [] (b ∷ before_zero bs) ++ cond z (b ∷ bs) (from_zero bs) ≡ b ∷ bs
    step true e = refl
    step false e = ap {B = List ℕ} (λ r. b ∷ r) e

pub before_front : (s : List ℕ) → before_zero s ≡ take (length (before_zero s)) s
before_front s =
    sym (take-append_seam (before_zero s) (from_zero s)) ∙ ap (λ (r : List ℕ). take (length (before_zero s)) r) (zero_parts s)

pub from_rest : (s : List ℕ) → from_zero s ≡ drop (length (before_zero s)) s
from_rest s =
    sym (drop-append_seam (before_zero s) (from_zero s)) ∙ ap (λ (r : List ℕ). drop (length (before_zero s)) r) (zero_parts s)

pub before_short : (s : List ℕ) → length (before_zero s) ≤ length s
before_short s = omega (arith, simp length-append at (ap length (zero_parts s)))

-- n bytes stand before the first zero: they are the slot's front, and what is behind them begins with it
module _ (s : List ℕ) (n : ℕ) (e : n ≡ length (before_zero s)) where
  pub before_inside : n ≤ length s
  before_inside = omega (arith, before_short s)

  pub front_length : n ≡ length (take n s)
  front_length = sym (length-take-le n s before_inside)

  pub front_before : take n s ≡ before_zero s
  front_before = ap (λ (k : ℕ). take k s) e ∙ sym (before_front s)

  pub rest_zeros : (b : Bool) → b ≡ all (eqb 0) (take (length s - n) (drop n s)) → b ≡ zeros_after s
  unfolding zeros_after
  rest_zeros b q = q ∙ ap (all (eqb 0)) (part_end n s ∙ ap (λ (k : ℕ). drop k s) e ∙ sym (from_rest s))

-- ---- a name in a slot is found again

no_zero : (b : ℕ) (bs : List ℕ) → mem 0 (b ∷ bs) ≡ false → (b ≡ 0 → ⊥) × (mem 0 bs ≡ false)
unfolding mem
no_zero b bs h = step (eqb 0 b) refl h
  where
    step : (z : Bool) → eqb 0 b ≡ z → (z || mem 0 bs) ≡ false → (b ≡ 0 → ⊥) × (mem 0 bs ≡ false)
    step true e g = absurd (no (sym g))
    step false e g = ((λ d. eqb-false 0 b e (sym d)), g)

pub before_padded : (k : ℕ) (n : Name) → mem 0 n ≡ false → length n ≤ k → before_zero (padded k n) ≡ n
unfolding before_zero padded
before_padded zero [] m h = refl
before_padded zero (b ∷ bs) m h = absurd (omega arith)
before_padded (suc k) [] m h = refl
before_padded (suc k) (b ∷ bs) m h =
    let z = no_zero b bs m in
    rw (ne_eqb b 0 z.0) (ap {B = List ℕ} (λ r. b ∷ r) (before_padded k bs z.1 (omega arith)))

pub zeros_padded : (k : ℕ) (n : Name) → mem 0 n ≡ false → zeros_after (padded k n) ≡ true
unfolding zeros_after from_zero padded all
zeros_padded zero n m = refl
zeros_padded (suc k) [] m = rw (padded_blank k) (blank_zeros k)
zeros_padded (suc k) (b ∷ bs) m = let z = no_zero b bs m in rw (ne_eqb b 0 z.0) (zeros_padded k bs z.1)

-- two names in slots are alike exactly if the names are
pub padded_same : (k : ℕ) (a b : Name) → mem 0 a ≡ false → mem 0 b ≡ false → length a ≤ k → length b ≤ k →
    same (padded k a) (padded k b) ≡ same a b
padded_same k a b ma mb ha hb =
    both_ways (same (padded k a) (padded k b)) (same a b)
    (λ h. let e : a ≡ b = sym (before_padded k a ma ha) ∙ ap before_zero (same_eq (padded k a) (padded k b) h) ∙ before_padded k b mb hb in
    rw e (same_self b))
    (λ h. rw (same_eq a b h) (same_self (padded k b)))

-- ---- a slot that is zeros after its name is that name, padded

pub before_no_zero : (s : List ℕ) → mem 0 (before_zero s) ≡ false
unfolding before_zero mem
before_no_zero [] = refl
before_no_zero (b ∷ bs) = step (eqb b 0) refl (before_no_zero bs)
  where
    step : (z : Bool) → eqb b 0 ≡ z → mem 0 (before_zero bs) ≡ false → mem 0 (cond z [] (b ∷ before_zero bs)) ≡ false
    step true e h = refl
    step false e h = rw (ne_eqb 0 b (λ d. eqb-false b 0 e (sym d))) h

pub padded_before : (s : List ℕ) → zeros_after s ≡ true → padded (length s) (before_zero s) ≡ s
unfolding zeros_after from_zero before_zero padded
padded_before [] h = refl
padded_before (b ∷ bs) h = step (eqb b 0) h (padded_before bs)
  where
    step : (z : Bool) → all (eqb 0) (cond z (b ∷ bs) (from_zero bs)) ≡ true → (all (eqb 0) (from_zero bs) ≡ true → padded (length bs) (before_zero bs) ≡ bs) →
        padded (suc (length bs)) (cond z [] (b ∷ before_zero bs)) ≡ b ∷ bs
    step true g ih = padded_blank (suc (length bs)) ∙ sym (zeros_blank (b ∷ bs) g)
    step false g ih = ap {B = List ℕ} (λ r. b ∷ r) (ih g)

-- ---- names in the 64 bytes of a slot

pub slot_length : (n : Name) → length (slot_of n) ≡ 64
slot_length n = ap length (slot_padded n) ∙ padded_length 64 n

-- what is padded to 64 bytes is a slot, with its size
pub in_slot : (n r : List ℕ) → r ≡ padded 64 n → (r ≡ slot_of n) × (64 ≡ length r)
in_slot n r e = (e ∙ sym (slot_padded n), sym (ap length e ∙ padded_length 64 n))

module _ (n : Name) (h : is_name n ≡ true) where
  pub name_in_slot : before_zero (slot_of n) ≡ n
  name_in_slot = let l = name_short n h in ap before_zero (slot_padded n) ∙ before_padded 64 n (name_no_zero n h) (omega arith)

  pub zeros_in_slot : zeros_after (slot_of n) ≡ true
  zeros_in_slot = ap zeros_after (slot_padded n) ∙ zeros_padded 64 n (name_no_zero n h)

pub slots_same : (a b : Name) → is_name a ≡ true → is_name b ≡ true → same (slot_of a) (slot_of b) ≡ same a b
slots_same a b ha hb =
    let la = name_short a ha in
    let lb = name_short b hb in
    rw (slot_padded a, slot_padded b) (padded_same 64 a b (name_no_zero a ha) (name_no_zero b hb) (omega arith) (omega arith))

-- a slot of zeros after its name is the name's slot: copying the slot copies the name
pub slot_of_name : (s : List ℕ) → length s ≡ 64 → zeros_after s ≡ true → slot_of (before_zero s) ≡ s
slot_of_name s l h = slot_padded (before_zero s) ∙ ap (λ (k : ℕ). padded k (before_zero s)) (sym l) ∙ padded_before s h

-- ---- the done name of an id in its slot. An id without a zero byte and of at most 53 bytes is found again; every accepted id has at most 52

done_no_zero : (n : Name) → mem 0 n ≡ false → mem 0 (done_name n) ≡ false
unfolding done_name mem
done_no_zero n h = h

pub done_in_slot : (n : Name) → mem 0 n ≡ false → length (done_name n) ≤ 64 → before_zero (slot_of (done_name n)) ≡ done_name n
done_in_slot n m l = ap before_zero (slot_padded (done_name n)) ∙ before_padded 64 (done_name n) (done_no_zero n m) l

pub done_zeros : (n : Name) → mem 0 n ≡ false → zeros_after (slot_of (done_name n)) ≡ true
done_zeros n m = ap zeros_after (slot_padded (done_name n)) ∙ zeros_padded 64 (done_name n) (done_no_zero n m)

pub id_in_slot : (n : Name) → is_id n ≡ true → before_zero (slot_of (done_name n)) ≡ done_name n
id_in_slot n h = let l = id_short n h in done_in_slot n (name_no_zero n (id_name n h)) (omega arith)
