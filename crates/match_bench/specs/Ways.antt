-- What both ways answer.
use Rattle.std.specs.Prelude.{◌≡◌, Bool, ◌||◌, cond, List, ℕ, ◌+◌, ◌-◌, ◌*◌, eqb, length, take, drop}
use Rattle.std.proofs.Math.Path.{refl, sym}
use Rattle.std.proofs.Common.{◌∙◌, eq-eqb, ne_eqb}
use Rattle.std.proofs.Math.Bool.{true, false}
use native.Mathlib.Omega.{arith}
use Rattle.std.specs.Int.{from_bool}
use Rattle.definition.specs.Rows.{from, any}
use Rattle.definition.specs.Names.{matches, before_zero}
use Rattle.onepass.specs.Pass.{slot_in}
use Rattle.onepass.specs.Four.{matches_in}

-- the descriptor in slot k matches the event
unfoldable pub slot_matches : List ℕ → List ℕ → ℕ → Bool
slot_matches slots event k = matches_in slots event (k * 64)

-- 1 if any of four matches, 0 if none does, 2 if these are not four slots
unfoldable pub answer : List ℕ → List ℕ → ℕ
answer slots event = cond (eqb (length slots) 256) (cond (any (slot_matches slots event) (from 4 0)) 1 0) 2

-- a test as a number
pub one_or_none : (b : Bool) (n : ℕ) → n ≡ from_bool b → n ≡ cond b 1 0
one_or_none true n e = e
one_or_none false n e = e

module _ (slots event : List ℕ) where
  pub answer_other : (length slots ≡ 256 → ⊥) → 2 ≡ answer slots event
  unfolding answer
  answer_other h = sym (rw (ne_eqb _ _ h))

  pub answer_four : (b : Bool) (n : ℕ) → length slots ≡ 256 → b ≡ any (slot_matches slots event) (from 4 0) → n ≡ cond b 1 0 → n ≡ answer slots event
  unfolding answer
  answer_four b n h e f = rw (eq-eqb _ _ h, ← e) f

  pub by_places : (b : Bool) → b ≡ (matches_in slots event 0 || matches_in slots event 64 || matches_in slots event 128 || matches_in slots event 192) → b ≡ any (slot_matches slots event) (from 4 0)
  unfolding slot_matches any from
  by_places b e = e ∙ go (matches_in slots event 0) (matches_in slots event 64) (matches_in slots event 128) (matches_in slots event 192)
    where
      go : (x y z w : Bool) → (x || y || z || w) ≡ (x || (y || (z || (w || false))))
      go true y z w = refl
      go false true z w = refl
      go false false true w = refl
      go false false false true = refl
      go false false false false = refl

  pub in_slot : (k : ℕ) (b : Bool) → b ≡ matches (before_zero (take (k * 64 + 64 - k * 64) (drop (k * 64) slots))) event → b ≡ slot_matches slots event k
  unfolding slot_matches matches_in slot_in
  in_slot k b e = let s : k * 64 + 64 - k * 64 ≡ 64 = omega arith in rw s at e
