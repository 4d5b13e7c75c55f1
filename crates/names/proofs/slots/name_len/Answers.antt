-- `name_len`: the first zero's place, or the length.
use borrow.Author.Tests.{tests, eq-eqb, ne_eqb}
use Rattle.std.proofs.Common.{◌≡◌, ◌≢◌, ℕ, List, ◌∷◌, ◌+◌, refl, sym, ◌∙◌, length, rules, add-one}
use Rattle.std.proofs.lemmas.Iterator.{IsFirst-from_position, YieldsList-from_slice, index_from_first}
use Rattle.definition.specs.Names.{before_zero}
use Rattle.names.proofs.slots.name_len.Goals as goal

at_zero : (b : ℕ) (bs : List ℕ) → b ≡ 0 → length (before_zero (b ∷ bs)) ≡ 0
unfolding before_zero
at_zero b bs e = rw (eq-eqb b 0 e)

at_byte : (b : ℕ) (bs : List ℕ) → b ≢ 0 → length (before_zero (b ∷ bs)) ≡ length (before_zero bs) + 1
unfolding before_zero
at_byte b bs e = rw (ne_eqb b 0 e, add-one)

pub returns : goal.returns
unfolding before_zero
returns c =
    let first = IsFirst-from_position _ _ _ (λ (b : ℕ). b ≡ 0) (λ (b : ℕ). b ≢ 0) c.position.ensures.ran (YieldsList-from_slice c.args.slot.now cc) (λ x q k. search (rules, tests)) (λ x q k. search (rules, tests)) in
    c.unwrap_or.ensures ∙ sym (index_from_first (λ (s : List ℕ). length (before_zero s)) (λ (b : ℕ). b ≡ 0) (λ (b : ℕ). b ≢ 0) refl at_zero at_byte c.args.slot.now _ first)
