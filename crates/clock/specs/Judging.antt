-- The test of lent bytes, part by part.
use Rattle.std.specs.Prelude.{◌≡◌, refl, Bool, true, false, not, ◌&&◌, ◌||◌, List, [], ◌∷◌, ℕ, zero, suc, ◌+◌, ◌-◌, ◌*◌, ◌≤◌, ◌<◌, eqb, leb, length, get_or, take, drop}
use Rattle.std.proofs.Common.{sym, ap, ◌∙◌, arith, length-drop, drop-drop, leb-true, leb-false, le-leb}
use Rattle.std.proofs.lemmas.Bool.{lt-leb}
use Rattle.definition.specs.declared.Mode.{Mode}
use Rattle.definition.specs.Rows.{from, all, is_empty}
use Rattle.definition.specs.Names.{Name, is_name, before_zero, zeros_after}
use Rattle.definition.specs.Tables.{slot_at, slot_of}
use Rattle.follower.specs.Clock.{Timer}
use Rattle.follower.specs.Follower.{is_ended}
use Rattle.laws.specs.Bools.{and_left, and_right, and_true, bool_case, or_elim, or_left, or_right}
use Rattle.laws.specs.Cells.{blank, cells, cells_ext, cells_length, cell_in, cell_behind, zeros_blank, blank_zeros}
use Rattle.laws.specs.Lists.{empty_list}
use Rattle.names.specs.Slots.{name_in_slot, zeros_in_slot, slot_of_name, slot_padded, padded_blank}
use Rattle.clock.specs.Records.{number_at}
use Rattle.clock.specs.Numbers.{Number}
use Rattle.clock.specs.Spelled.{no_timer}
use Rattle.clock.specs.Closing.{cells_behind}

-- ---- what the code tests

unfoldable pub due_fits : List ℕ → ℕ → ℕ → Bool
due_fits dues most i = leb (number_at dues (i * 8)) most

unfoldable pub dues_fit : List ℕ → ℕ → ℕ → Bool
dues_fit dues n most = all (eqb 0) (drop (n * 8) dues) && all (due_fits dues most) (from n 0)

unfoldable pub slot_fits : Bool → List ℕ → Bool
slot_fits blanks slot = (blanks && all (eqb 0) slot) || (zeros_after slot && is_name (before_zero slot))

unfoldable pub slot_fits_at : Bool → List ℕ → ℕ → Bool
slot_fits_at blanks slots i = slot_fits blanks (slot_at slots i)

unfoldable pub slots_fit : Bool → List ℕ → ℕ → Bool
slots_fit blanks slots n = all (eqb 0) (drop (n * 64) slots) && all (slot_fits_at blanks slots) (from n 0)

-- ---- what each way out of the code's tests says

pub dues_filled : (dues : List ℕ) (n most : ℕ) → all (eqb 0) (drop (n * 8) dues) ≡ false → false ≡ dues_fit dues n most
unfolding dues_fit
dues_filled dues n most h = rw h

pub dues_tested : (dues : List ℕ) (n most : ℕ) (t : Bool) → all (eqb 0) (drop (n * 8) dues) ≡ true → t ≡ all (due_fits dues most) (from n 0) → t ≡ dues_fit dues n most
unfolding dues_fit
dues_tested dues n most t h e = rw h e

pub due_late : (dues : List ℕ) (most i d : ℕ) → Number dues (i * 8) d → most < d → due_fits dues most i ≡ false
unfolding due_fits
due_late dues most i d h l = lt-leb (number_at dues (i * 8)) most (rw (← h.is) l)

pub due_good : (dues : List ℕ) (most i d : ℕ) → Number dues (i * 8) d → d ≤ most → due_fits dues most i ≡ true
unfolding due_fits
due_good dues most i d h l = le-leb (number_at dues (i * 8)) most (rw (← h.is) l)

pub slots_filled : (blanks : Bool) (slots : List ℕ) (n : ℕ) → all (eqb 0) (drop (n * 64) slots) ≡ false → false ≡ slots_fit blanks slots n
unfolding slots_fit
slots_filled blanks slots n h = rw h

pub slots_tested : (blanks : Bool) (slots : List ℕ) (n : ℕ) (t : Bool) → all (eqb 0) (drop (n * 64) slots) ≡ true → t ≡ all (slot_fits_at blanks slots) (from n 0) → t ≡ slots_fit blanks slots n
unfolding slots_fit
slots_tested blanks slots n t h e = rw h e

pub slot_tested : (blanks : Bool) (slots : List ℕ) (i : ℕ) (slot : List ℕ) (b : Bool) → slot ≡ slot_at slots i → b ≡ slot_fits blanks slot → b ≡ slot_fits_at blanks slots i
unfolding slot_fits_at
slot_tested blanks slots i slot b e h = h ∙ rw e

pub blank_fits : (blanks : Bool) (slot : List ℕ) (b : Bool) → b ≡ all (eqb 0) slot → (blanks && b) ≡ true → true ≡ slot_fits blanks slot
unfolding slot_fits
blank_fits blanks slot b e h = sym (or_left (blanks && all (eqb 0) slot) _ (rw e at h))

pub name_tested : (blanks : Bool) (slot : List ℕ) (b t : Bool) → b ≡ all (eqb 0) slot → (blanks && b) ≡ false → t ≡ (zeros_after slot && is_name (before_zero slot)) → t ≡ slot_fits blanks slot
unfolding slot_fits
name_tested blanks slot b t e h q = let g : (blanks && all (eqb 0) slot) ≡ false = rw e at h in rw g q

pub pend_ended : (m : Mode) (n : ℕ) (b : Bool) → b ≡ is_ended m → b ≡ true → eqb n 0 ≡ (not (is_ended m) || eqb n 0)
pend_ended m n b e h = let g : is_ended m ≡ true = sym e ∙ h in rw g

pub pend_any : (m : Mode) (n : ℕ) (b : Bool) → b ≡ is_ended m → b ≡ false → true ≡ (not (is_ended m) || eqb n 0)
pend_any m n b e h = let g : is_ended m ≡ false = sym e ∙ h in rw g

-- ---- a slot

before_blank : (w : ℕ) → before_zero (blank w) ≡ []
unfolding before_zero
before_blank zero = refl
before_blank (suc w) = refl

blank_slot : slot_of [] ≡ blank 64
blank_slot = slot_padded [] ∙ padded_blank 64

-- a slot that fits is that of what stands in it
pub fits_again : (blanks : Bool) (slot : List ℕ) → length slot ≡ 64 → slot_fits blanks slot ≡ true → slot_of (before_zero slot) ≡ slot
unfolding slot_fits
fits_again blanks slot n h =
    or_elim (blanks && all (eqb 0) slot) (zeros_after slot && is_name (before_zero slot))
    (λ e. let z : slot ≡ blank 64 = zeros_blank slot (and_right blanks _ e) ∙ ap blank n in ap (λ (s : List ℕ). slot_of (before_zero s)) z ∙ ap slot_of (before_blank 64) ∙ blank_slot ∙ sym z)
    (λ e. slot_of_name slot n (and_left (zeros_after slot) _ e)) h

pub fits_named : (slot : List ℕ) → slot_fits false slot ≡ true → is_name (before_zero slot) ≡ true
unfolding slot_fits
fits_named slot h = and_right (zeros_after slot) _ h

pub fits_named_or_blank : (slot : List ℕ) → length slot ≡ 64 → slot_fits true slot ≡ true → (is_empty (before_zero slot) || is_name (before_zero slot)) ≡ true
unfolding slot_fits
fits_named_or_blank slot n h =
    or_elim (all (eqb 0) slot) (zeros_after slot && is_name (before_zero slot))
    (λ e. let z : slot ≡ blank 64 = zeros_blank slot e ∙ ap blank n in or_left (is_empty (before_zero slot)) _ (ap (λ (s : List ℕ). is_empty (before_zero s)) z ∙ ap is_empty (before_blank 64) ∙ (unfold is_empty in refl)))
    (λ e. or_right (is_empty (before_zero slot)) _ (and_right (zeros_after slot) _ e)) h

pub name_fits : (blanks : Bool) (n : Name) → is_name n ≡ true → slot_fits blanks (slot_of n) ≡ true
unfolding slot_fits
name_fits blanks n h = or_right (blanks && all (eqb 0) (slot_of n)) _ (and_true (zeros_after (slot_of n)) _ (zeros_in_slot n h) (ap is_name (name_in_slot n h) ∙ h))

pub id_fits_lem : (n : Name) → (is_empty n || is_name n) ≡ true → slot_fits true (slot_of n) ≡ true
unfolding slot_fits
id_fits_lem n h =
    or_elim (is_empty n) (is_name n)
    (λ e. or_left (all (eqb 0) (slot_of n)) _ (ap (λ (x : Name). all (eqb 0) (slot_of x)) (empty_list n e) ∙ ap (all (eqb 0)) blank_slot ∙ blank_zeros 64))
    (λ e. name_fits true n e) h

-- ---- cells of which those in use are known and the others are zeros

module _ (f : Timer → List ℕ) (w : ℕ) (size : (x : Timer) → length (f x) ≡ w) (part : List ℕ) (ss : List Timer) (n : ℕ) (e : n ≡ length ss) (few : n ≤ 32) where
  zeros_at : length part ≡ 32 * w → all (eqb 0) (drop (n * w) part) ≡ true → (i : ℕ) → i < 32 → n ≤ i → take w (drop (i * w) part) ≡ blank w
  zeros_at s z i l m =
      let d : drop (n * w) part ≡ blank (length (drop (n * w) part)) = zeros_blank (drop (n * w) part) z in
      let k : i * w ≡ n * w + (i - n) * w = pieces i n m in
      let a : drop (i * w) part ≡ drop ((i - n) * w) (drop (n * w) part) = ap (λ (j : ℕ). drop j part) k ∙ sym (drop-drop ((i - n) * w) (n * w) part) in
      ap (take w) (a ∙ ap (drop ((i - n) * w)) d) ∙ take_blank w ((i - n) * w) (length (drop (n * w) part)) (room i l m)
    where
      pieces : (i n : ℕ) → n ≤ i → i * w ≡ n * w + (i - n) * w
      pieces i n l = let h : i ≡ n + (i - n) = omega arith in ap (λ (j : ℕ). j * w) h ∙ omega arith

      room : (i : ℕ) → i < 32 → n ≤ i → (i - n) * w + w ≤ length (drop (n * w) part)
      room i l m = let h : (32 - n) * w ≡ (31 - i) * w + ((i - n) * w + w) = ap (λ (j : ℕ). j * w) (split i l m) ∙ omega arith in omega (arith, length-drop (n * w) part, pieces 32 n few)
        where
          split : (i : ℕ) → i < 32 → n ≤ i → 32 - n ≡ (31 - i) + ((i - n) + 1)
          split i l m = omega arith

      take_blank : (a b m : ℕ) → b + a ≤ m → take a (drop b (blank m)) ≡ blank a
      take_blank zero b m l = refl
      take_blank (suc a) zero zero l = absurd (omega arith)
      take_blank (suc a) zero (suc m) l = ap {B = List ℕ} (λ r. 0 ∷ r) (take_blank a zero m (omega arith))
      take_blank (suc a) (suc b) zero l = absurd (omega arith)
      take_blank (suc a) (suc b) (suc m) l = take_blank (suc a) b m (omega arith)

  pub cells_known : length part ≡ 32 * w → all (eqb 0) (drop (n * w) part) ≡ true → ((i : ℕ) → i < n → take w (drop (i * w) part) ≡ f (get_or ss i no_timer)) → part ≡ cells f w 32 ss
  cells_known s z h =
      cells_ext w 32 part (cells f w 32 ss) s (cells_length f w size 32 ss)
      (λ i l. bool_case (leb n i)
      (λ b. let m : n ≤ i = leb-true _ _ b in zeros_at s z i l m ∙ sym (cell_behind f w size 32 i ss l (omega arith)))
      (λ b. let m : i < n = below n i b in h i m ∙ sym (cell_in f w size 32 i ss no_timer l (omega arith))))
    where
      below : (n i : ℕ) → leb n i ≡ false → i < n
      below n i b = leb-false n i b

  pub cells_zeros : part ≡ cells f w 32 ss → all (eqb 0) (drop (n * w) part) ≡ true
  cells_zeros p =
      let d : drop (n * w) part ≡ blank (32 * w - length ss * w) = ap (λ (j : ℕ). drop (j * w) part) e ∙ ap (drop (length ss * w)) p ∙ cells_behind f w size 32 ss (omega arith) in
      ap (all (eqb 0)) d ∙ blank_zeros (32 * w - length ss * w)
