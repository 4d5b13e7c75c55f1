-- Slots of 64 bytes that are read many bytes at a time: those that are not zero are counted, and where zeros end the slot they are its name. A name is told by
-- each of its bytes with the next one.
use Rattle.std.specs.Prelude.{◌≡◌, refl, Bool, true, false, not, ◌&&◌, ◌||◌, List, [], ◌∷◌, ℕ, zero, suc, ◌+◌, ◌-◌, ◌*◌, ◌≤◌, ◌<◌, eqb, leb, ltb, length, get_or, take}
use Rattle.std.proofs.Common.{sym, ap, ◌∙◌, add-one, arith, length-take-le, get_or-take}
use borrow.Author.Tests.{eqb-true, eqb-false, eq-eqb, ne_eqb, le-leb, leb-true, ltb-true}
use Rattle.definition.specs.Names.{is_name_byte, is_name, before_zero, zeros_after}
use Rattle.laws.specs.Bools.{no, bool_case, and_left, and_right, and_true, eq_case}
use Rattle.laws.specs.Orders.{lt_case}
use Rattle.names.specs.Spelling.{spelt, name_spelt}
use Rattle.names.specs.Blank.{filled_in, filled_blank}
use Rattle.names.specs.Slots.{front_length, front_before}

module _ (s : List ℕ) (n : ℕ) (z : zeros_after s ≡ true) (e : n ≡ filled_in s) where
  filled_name : n ≡ length (before_zero s)
  filled_name = e ∙ eqb-true _ _ (filled_blank s ∙ z)

  pub name_length : n ≡ length (take n s)
  name_length = front_length s n filled_name

  pub name_front : take n s ≡ before_zero s
  name_front = front_before s n filled_name

-- ---- a byte and the next one

unfoldable pub is_held : ℕ → Bool
is_held b = is_name_byte b || eqb b 0

unfoldable pub is_wrong : ℕ → ℕ → Bool
is_wrong b d = not (is_held b) || (eqb b 0 && not (eqb d 0)) || (eqb d 46 && eqb b 46)

or_no : (x y z : Bool) → (x || y || z) ≡ false → (x ≡ false) × (y ≡ false) × (z ≡ false)
or_no true y z h = absurd (no (sym h))
or_no false true z h = absurd (no (sym h))
or_no false false z h = (refl, refl, h)

module _ (b d : ℕ) (h : is_wrong b d ≡ false) where
  parts : (not (is_held b) ≡ false) × ((eqb b 0 && not (eqb d 0)) ≡ false) × ((eqb d 46 && eqb b 46) ≡ false)
  unfolding is_wrong
  parts = or_no _ _ _ h

  -- a zero is followed by a zero
  zero_next : b ≡ 0 → d ≡ 0
  zero_next z = bool_case (eqb d 0) (eqb-true d 0) (λ e. absurd (no (sym (sym (rw (eq-eqb b 0 z, e)) ∙ parts.1))))

  name_byte : (b ≡ 0 → ⊥) → is_name_byte b ≡ true
  unfolding is_held
  name_byte n = bool_case (is_name_byte b) (λ e. e) (λ e. absurd (no (sym (sym (rw (e, ne_eqb b 0 n)) ∙ parts.0))))

  dots_apart : (eqb d 46 && eqb b 46) ≡ false
  dots_apart = parts.2

-- ---- bytes of a slot, from one place to another

-- w is false, and so no byte of these and its next one are wrong
pub record Right (s : List ℕ) (at to : ℕ) (w : Bool) : Type 0 where
  pub each : w ≡ false → (k : ℕ) → at ≤ k → k < to → is_wrong (get_or s k 0) (get_or s (suc k) 0) ≡ false

module _ (s : List ℕ) (at : ℕ) where
  pub right_begin : (w : Bool) → Right s at (at + 0) w
  right_begin w = record { each = λ e k l m. absurd (omega arith) }

  pub right_turn : (j : ℕ) (w x : Bool) → Right s at (at + j) w → x ≡ is_wrong (get_or s (at + j) 0) (get_or s (at + j + 1) 0) → Right s at (at + (j + 1)) (w || x)
  right_turn j w x r e = record {
    each = λ f k l m.
        eq_case k (at + j) (λ q. rw (q, ← add-one (at + j)) (sym e ∙ or_right_no w x f)) (λ n. r.each (or_left_no w x f) k l (omega (arith, n, m)));
  }
    where
      or_left_no : (a b : Bool) → (a || b) ≡ false → a ≡ false
      or_left_no true b h = h
      or_left_no false b h = refl

      or_right_no : (a b : Bool) → (a || b) ≡ false → b ≡ false
      or_right_no true b h = absurd (no (sym h))
      or_right_no false b h = h

pub right_done : (s : List ℕ) (at j : ℕ) (w : Bool) → j ≤ 16 → 16 ≤ j → Right s at (at + j) w → Right s at (at + 16) w
right_done s at j w l g r = let q : j ≡ 16 = omega arith in rw q at r

-- sixteen more
pub right_more : (s : List ℕ) (q : ℕ) (w : Bool) → Right s 0 (q * 16) false → Right s (q * 16) (q * 16 + 16) w → w ≡ false → Right s 0 ((q + 1) * 16) false
right_more s q w r t f = record { each = λ e k l m. lt_case k (q * 16) (λ b. r.each refl k l b) (λ g. t.each f k g (omega arith)) }

pub right_none : (s : List ℕ) → Right s 0 (0 * 16) false
right_none s = record { each = λ e k l m. absurd (omega arith) }

-- ---- the first n bytes

-- b is true, and so they are a name
pub record NameAhead (s : List ℕ) (n : ℕ) (b : Bool) : Type 0 where
  pub named : b ≡ true → is_name (take n s) ≡ true

pub ahead_no : (s : List ℕ) (n : ℕ) → NameAhead s n false
ahead_no s n = record { named = λ h. absurd (no h) }

spelt_each : (xs : List ℕ) (fresh : Bool) → 0 < length xs → ((k : ℕ) → k < length xs → is_name_byte (get_or xs k 0) ≡ true) →
    ((k : ℕ) → suc k < length xs → (eqb (get_or xs (suc k) 0) 46 && eqb (get_or xs k 0) 46) ≡ false) → (eqb (get_or xs 0 0) 46 && fresh) ≡ false →
    ((k : ℕ) → suc k ≡ length xs → eqb (get_or xs k 0) 46 ≡ false) → spelt fresh xs ≡ true
unfolding spelt
spelt_each [] fresh l h p f e = absurd (omega arith)
spelt_each (b ∷ []) fresh l h p f e = rw (h 0 (omega arith), f, e 0 refl)
spelt_each (b ∷ d ∷ bs) fresh l h p f e =
    rw (h 0 (omega arith), f)
    (spelt_each (d ∷ bs) (eqb b 46) (omega arith) (λ k m. h (suc k) (omega arith)) (λ k m. p (suc k) (omega arith)) (p 0 (omega arith)) (λ k q. e (suc k) (ap suc q)))

module _ (s : List ℕ) (n m : ℕ) (size : length s ≡ 64) (some : 1 ≤ n) (few : n ≤ 48) (inside : n ≤ m) (r : Right s 0 m false)
    (ends : (eqb (get_or s 0 0) 46 || eqb (get_or s (n - 1) 0) 46 || eqb (get_or s (n - 1) 0) 0) ≡ false) where
  apart : (eqb (get_or s 0 0) 46 ≡ false) × (eqb (get_or s (n - 1) 0) 46 ≡ false) × (eqb (get_or s (n - 1) 0) 0 ≡ false)
  apart = or_no _ _ _ ends

  pair : (k : ℕ) → k < n → is_wrong (get_or s k 0) (get_or s (suc k) 0) ≡ false
  pair k l = r.each refl k (omega arith) (omega arith)

  -- d bytes before the last one
  filled_at : (d k : ℕ) → suc (k + d) ≡ n → get_or s k 0 ≡ 0 → ⊥
  filled_at zero k e z = eqb-false _ _ apart.2 (ap (λ (i : ℕ). get_or s i 0) (let q : n - 1 ≡ k = omega arith in q) ∙ z)
  filled_at (suc d) k e z = filled_at d (suc k) (omega arith) (zero_next _ _ (pair k (omega arith)) z)

  at : (k : ℕ) → k < n → get_or (take n s) k 0 ≡ get_or s k 0
  at k l = get_or-take n s k 0 l

  whole : length (take n s) ≡ n
  whole = length-take-le n s (omega arith)

  ahead : is_name (take n s) ≡ true
  ahead =
      name_spelt (take n s) ∙
      and_true (leb (length (take n s)) 63) (spelt true (take n s)) (le-leb (length (take n s)) 63 (omega (arith, whole)))
      (spelt_each (take n s) true (omega (arith, whole))
      (λ k l. let m : k < n = omega (arith, whole, l) in rw (at k m) (name_byte _ _ (pair k m) (filled_at (n - suc k) k (omega arith))))
      (λ k l. let m : suc k < n = omega (arith, whole, l) in rw (at (suc k) m, at k (omega arith)) (dots_apart _ _ (pair k (omega arith))))
      (rw (at 0 (omega arith), apart.0))
      (λ k e. let q : k ≡ n - 1 = omega (arith, whole, e) in rw (at k (omega arith), q) apart.1))

  pub ahead_yes : NameAhead s n true
  ahead_yes = record { named = λ h. ahead }

pub some_few : (n : ℕ) → (ltb 0 n && leb n 48) ≡ true → (1 ≤ n) × (n ≤ 48)
some_few n h = let a = ltb-true 0 n (and_left (ltb 0 n) (leb n 48) h) in let b = leb-true n 48 (and_right (ltb 0 n) (leb n 48) h) in (omega (arith, a), b)
