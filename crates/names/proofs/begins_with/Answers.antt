-- `begins_with`: as long as the bytes agree, the rest of both decides.
use borrow.Author.Tests.{eq-eqb, ne_eqb}
use mathlib.Core.Path.{◌≡◌, refl, sym, ◌∙◌}
use mathlib.Core.Bool.{true, false}
use mathlib.Core.List.{List}
use Prim.Native.Nat.{ℕ, ◌≤◌, ◌<◌, ◌+◌}
use native.Mathlib.Numerals.{add-one}
use native.Mathlib.Omega.{arith}
use lib.Dec.{eqb}
use lib.ListN.{length, get_or, drop}
use lib.Seq.{drop-cons}
use Rattle.definition.specs.Names.{begins, tokens}
use Rattle.laws.specs.Passes.{drop_end}
use Rattle.names.specs.Matching.{stops, tokens_stops}
use Rattle.names.proofs.begins_with.Goals as goal

-- where the loop stands, and what each way on from there shows
module _ (d e : List ℕ) (i : ℕ) (agreed : stops d e ≡ stops (drop i d) (drop i e)) where
  rest : begins (tokens d) (tokens e) ≡ stops (drop i d) (drop i e)
  rest = tokens_stops d e ∙ agreed

  too_short : i < length d → length e ≤ i → false ≡ begins (tokens d) (tokens e)
  unfolding stops
  too_short h k = sym (rest ∙ rw (drop-cons d i 0 h, drop_end i e k))

  differs : i < length d → i < length e → (get_or d i 0 ≡ get_or e i 0 → ⊥) → false ≡ begins (tokens d) (tokens e)
  unfolding stops
  differs h k n = sym (rest ∙ rw (drop-cons d i 0 h, drop-cons e i 0 k, ne_eqb (get_or d i 0) (get_or e i 0) n))

  further : i < length d → i < length e → get_or d i 0 ≡ get_or e i 0 → stops d e ≡ stops (drop (i + 1) d) (drop (i + 1) e)
  unfolding stops
  further h k q = agreed ∙ rw (add-one i, drop-cons d i 0 h, drop-cons e i 0 k, eq-eqb (get_or d i 0) (get_or e i 0) q)

  whole : length d ≤ i → length e ≤ i → true ≡ begins (tokens d) (tokens e)
  unfolding stops
  whole h k = sym (rest ∙ rw (drop_end i d h, drop_end i e k))

  at_dot : length d ≤ i → i < length e → eqb (get_or e i 0) 46 ≡ begins (tokens d) (tokens e)
  unfolding stops
  at_dot h k = sym (rest ∙ rw (drop_end i d h, drop-cons e i 0 k))

pub loop-i-init : goal.loop-i-init
loop-i-init c = (omega arith, omega arith, refl)

pub returns-then-event-i : goal.returns-then-event-i
returns-then-event-i c = let l = c.loop-i in too_short _ _ l.i l.invariant.2 (omega arith) (omega arith)

pub returns-then-b-event : goal.returns-then-b-event
returns-then-b-event c = let l = c.loop-i in differs _ _ l.i l.invariant.2 (omega arith) (omega arith) c.if-b-event.true

pub loop-i-preserved : goal.loop-i-preserved
loop-i-preserved c =
    let l = c.loop-i in
    (omega arith, omega arith, further _ _ l.i l.invariant.2 (omega arith) (omega arith) c.if-b-event.false)

pub returns-then-event-n : goal.returns-then-event-n
returns-then-event-n c = let l = c.loop-i in whole _ _ l.i l.invariant.2 (omega arith) (omega arith)

pub returns : goal.returns
returns c =
    let l = c.loop-i in
    let e : l.i ≡ length c.args.descriptor.now = omega arith in
    rw (← e) (at_dot _ _ l.i l.invariant.2 (omega arith) (omega arith))
