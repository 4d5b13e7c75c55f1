-- Names in their slots: what is laid in the slot of a name reads as the name.
use Rattle.std.specs.Prelude.{◌≡◌, Bool, true, false, ◌||◌, cond, List, [], ◌∷◌, ◌++◌, ℕ, zero, suc, ◌≤◌, ◌<◌, ◌+◌, ◌*◌, eqb, length, take, drop, replicate}
use Rattle.std.proofs.Math.Path.{refl}
use Rattle.std.proofs.Common.{sym, ap, ◌∙◌, arith, drop-drop, ne_eqb}
use Rattle.definition.specs.Rows.{same, flat}
use Rattle.definition.specs.Names.{before_zero}
use Rattle.definition.specs.Tables.{no_number, slot_at, name_at, slot_of}
use Rattle.reading.specs.Faults.{is_among}
use Rattle.reading.specs.Content.{place_of}
use Rattle.reading.specs.Layout.{names_of}
use Rattle.laws.specs.Bools.{no}
use Rattle.laws.specs.Lists.{same_eq}
use Rattle.written.specs.Sound.{AllOf, no_more, more}
use Rattle.written.specs.Held.{drop_all, take_all}
use Rattle.lay.specs.Sizes.{slot_size_lem}

-- a name that has a slot: none of its bytes is 0
pub record Lit (b : ℕ) : Type 0 where
  pub lit : eqb b 0 ≡ false

pub record Slotted (slots : List (List ℕ)) (v : List ℕ) : Type 0 where
  pub short : length v ≤ 63
  pub bytes : AllOf Lit v
  pub among : is_among v slots ≡ true

-- ---- its place

pub place_low : (v : List ℕ) (slots : List (List ℕ)) → is_among v slots ≡ true → place_of v slots < length slots
unfolding is_among place_of
place_low v [] h = absurd (no h)
place_low v (s ∷ slots) h = by (same v s) h (place_low v slots)
  where
    by : (z : Bool) → (z || is_among v slots) ≡ true → (is_among v slots ≡ true → place_of v slots < length slots) → cond z 0 (suc (place_of v slots)) < suc (length slots)
    by true e f = omega arith
    by false e f = let l = f e in omega arith

-- the slots from its own on
place_drop : (v : List ℕ) (slots : List (List ℕ)) → is_among v slots ≡ true → (rest : List (List ℕ)) × (drop (place_of v slots) slots ≡ v ∷ rest)
unfolding is_among place_of
place_drop v [] h = absurd (no h)
place_drop v (s ∷ slots) h = by (same v s) refl h (place_drop v slots)
  where
    by : (z : Bool) → same v s ≡ z → (z || is_among v slots) ≡ true → (is_among v slots ≡ true → (rest : List (List ℕ)) × (drop (place_of v slots) slots ≡ v ∷ rest)) →
        (rest : List (List ℕ)) × (drop (cond z 0 (suc (place_of v slots))) (s ∷ slots) ≡ v ∷ rest)
    by true q e f = (slots, ap (λ (x : List ℕ). x ∷ slots) (sym (same_eq v s q)))
    by false q e f = f e

-- ---- its bytes

pub slots_drop : (k : ℕ) (slots : List (List ℕ)) → k ≤ length slots → drop (k * 64) (flat slot_of slots) ≡ flat slot_of (drop k slots)
slots_drop zero slots h = refl
slots_drop (suc k) [] h = absurd (let l : suc k ≤ 0 = h in omega arith)
slots_drop (suc k) (s ∷ slots) h =
    ap (λ (j : ℕ). drop j (flat slot_of (s ∷ slots))) (next k (length (slot_of s)) (slot_size_lem s)) ∙ sym (drop-drop (k * 64) (length (slot_of s)) (flat slot_of (s ∷ slots))) ∙
    ap (drop (k * 64)) (ap (drop (length (slot_of s))) shown ∙ drop_all (slot_of s) (flat slot_of slots)) ∙ slots_drop k slots (let l : suc k ≤ suc (length slots) = h in omega arith)
  where
    next : (k m : ℕ) → m ≡ 64 → suc k * 64 ≡ m + k * 64
    next k m e = omega arith

    shown : flat slot_of (s ∷ slots) ≡ slot_of s ++ flat slot_of slots
    shown = unfold flat in refl

zeros_before : (k : ℕ) → before_zero (replicate (suc k) 0) ≡ []
unfolding before_zero
zeros_before k = refl

-- a name before zeros, cut at n
pub cut_name : (v : List ℕ) (n k : ℕ) → AllOf Lit v → length v < n → before_zero (take n (v ++ replicate (suc k) 0)) ≡ v
unfolding before_zero
cut_name [] zero k no_more h = absurd (omega arith)
cut_name [] (suc n) k no_more h = refl
cut_name (b ∷ bs) zero k (more f g) h = absurd (omega arith)
cut_name (b ∷ bs) (suc n) k (more f g) h = rw f.lit (ap (λ (l : List ℕ). b ∷ l) (cut_name bs n k g (let l : suc (length bs) < suc n = h in omega arith)))

pub slot_name : (v : List ℕ) → AllOf Lit v → length v ≤ 63 → before_zero (slot_of v) ≡ v
unfolding slot_of
slot_name v f h = cut_name v 64 63 f (omega arith)

-- what stands in the slot of a name reads as the name
pub slotted_name : (slots : List (List ℕ)) (v : List ℕ) → Slotted slots v → name_at (names_of slots) (place_of v slots) ≡ v
unfolding name_at slot_at names_of
slotted_name slots v s =
    ap (λ (l : List ℕ). before_zero (take 64 l)) (slots_drop (place_of v slots) slots (let l = place_low v slots s.among in omega arith) ∙ ap (flat slot_of) d.1 ∙ shown d.0) ∙
    ap before_zero (ap (λ (n : ℕ). take n (slot_of v ++ flat slot_of d.0)) (sym (slot_size_lem v)) ∙ take_all (slot_of v) (flat slot_of d.0)) ∙ slot_name v s.bytes s.short
  where
    d : (rest : List (List ℕ)) × (drop (place_of v slots) slots ≡ v ∷ rest)
    d = place_drop v slots s.among

    shown : (rest : List (List ℕ)) → flat slot_of (v ∷ rest) ≡ slot_of v ++ flat slot_of rest
    shown rest = unfold flat in refl

-- its number is none that stands for none
pub slotted_number : (slots : List (List ℕ)) (v : List ℕ) → Slotted slots v → length slots ≤ 65535 → eqb (place_of v slots) no_number ≡ false
slotted_number slots v s few = ne_eqb (place_of v slots) no_number (λ e. let l = place_low v slots s.among in let q : place_of v slots ≡ 65535 = e in omega arith)
