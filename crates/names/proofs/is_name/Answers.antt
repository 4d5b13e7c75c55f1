-- `is_name`: one pass, as Spelling has it.
use borrow.Author.Tests.{le-leb, lt-leb}
use mathlib.Core.Path.{◌≡◌, refl, sym, ◌∙◌}
use mathlib.Core.Bool.{Bool, true, false, not, ◌&&◌}
use mathlib.Core.List.{List}
use Prim.Native.Nat.{ℕ, ◌≤◌, ◌<◌, ◌+◌}
use native.Mathlib.Omega.{arith}
use lib.Dec.{eqb}
use lib.ListN.{length, get_or, drop}
use Rattle.definition.specs.Names.{is_name, is_name_byte}
use Rattle.laws.specs.Passes.{drop_end}
use Rattle.names.specs.Spelling.{spelt, name_spelt, spelt_at}
use Rattle.names.proofs.is_name.Goals as goal

too_long : (s : List ℕ) → 63 < length s → false ≡ is_name s
too_long s l = sym (name_spelt s ∙ rw (lt-leb (length s) 63 l))

-- where the pass stands, and what each way on from there shows
module _ (s : List ℕ) (i : ℕ) (fresh : Bool) (short : length s ≤ 63) (passed : spelt true s ≡ spelt fresh (drop i s)) where
  rest : is_name s ≡ spelt fresh (drop i s)
  rest = name_spelt s ∙ rw (le-leb (length s) 63 short) passed

  other_byte : i < length s → is_name_byte (get_or s i 0) ≡ false → false ≡ is_name s
  other_byte h e = sym (rest ∙ spelt_at s i fresh h ∙ rw e)

  empty_token : i < length s → is_name_byte (get_or s i 0) ≡ true → (eqb (get_or s i 0) 46 && fresh) ≡ true → false ≡ is_name s
  empty_token h e f = sym (rest ∙ spelt_at s i fresh h ∙ rw (e, f))

  further : i < length s → is_name_byte (get_or s i 0) ≡ true → (eqb (get_or s i 0) 46 && fresh) ≡ false →
      spelt true s ≡ spelt (eqb (get_or s i 0) 46) (drop (i + 1) s)
  further h e f = passed ∙ spelt_at s i fresh h ∙ rw (e, f)

  ended : length s ≤ i → not fresh ≡ is_name s
  unfolding spelt
  ended h = sym (rest ∙ rw (drop_end i s h))

pub returns-then-s-gt-MOST_BYTES : goal.returns-then-s-gt-MOST_BYTES
returns-then-s-gt-MOST_BYTES c = too_long _ (omega arith)

pub loop-b-init : goal.loop-b-init
loop-b-init c = (omega arith, omega arith, refl)

pub returns-then-not-is_name_byte : goal.returns-then-not-is_name_byte
returns-then-not-is_name_byte c =
    let l = c.loop-b in
    other_byte _ l.b-index (eqb l.last 46) l.invariant.1 l.invariant.2 (omega arith) (sym c.is_name_byte.ensures ∙ c.if-not-is_name_byte.true)

pub returns-then-b-last : goal.returns-then-b-last
returns-then-b-last c =
    let l = c.loop-b in
    empty_token _ l.b-index (eqb l.last 46) l.invariant.1 l.invariant.2 (omega arith) (sym c.is_name_byte.ensures ∙ c.if-not-is_name_byte.false) c.if-b-last.true

pub loop-b-preserved : goal.loop-b-preserved
loop-b-preserved c =
    let l = c.loop-b in (
      omega arith,
      l.invariant.1,
      further _ l.b-index (eqb l.last 46) l.invariant.1 l.invariant.2 (omega arith) (sym c.is_name_byte.ensures ∙ c.if-not-is_name_byte.false) c.if-b-last.false,
    )

pub returns : goal.returns
returns c = let l = c.loop-b in ended _ l.b-index (eqb l.last 46) l.invariant.1 l.invariant.2 (omega arith)
