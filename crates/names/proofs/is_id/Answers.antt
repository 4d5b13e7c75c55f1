-- `is_id`: a name, its first byte, and the length of its done name.
use mathlib.Core.Path.{◌≡◌, refl, sym, ◌∙◌}
use mathlib.Core.Bool.{Bool, true, false, ◌||◌}
use mathlib.Core.List.{List, [], ◌∷◌}
use Prim.Native.Nat.{ℕ, ◌<◌, ◌+◌}
use native.Mathlib.Omega.{arith}
use lib.Dec.{eqb, leb}
use lib.ListN.{length, get_or}
use Rattle.definition.specs.Names.{is_letter, is_name, starts_well, is_id}
use Rattle.names.specs.Spelling.{name_some, done_length}
use Rattle.names.proofs.is_id.Goals as goal

starts : (s : List ℕ) → 0 < length s → starts_well s ≡ (is_letter (get_or s 0 0) || eqb (get_or s 0 0) 95)
unfolding starts_well
starts [] h = absurd (omega arith)
starts (b ∷ bs) h = refl

module _ (s : List ℕ) where
  no_name : is_name s ≡ false → false ≡ is_id s
  unfolding is_id
  no_name e = rw e

  module _ (name : is_name s ≡ true) (letter : Bool) (known : letter ≡ is_letter (get_or s 0 0)) where
    first : starts_well s ≡ (letter || eqb (get_or s 0 0) 95)
    first = starts s (name_some s name) ∙ rw known

    starts_badly : (letter || eqb (get_or s 0 0) 95) ≡ false → false ≡ is_id s
    unfolding is_id
    starts_badly e = rw (name, first, e)

    by_length : (letter || eqb (get_or s 0 0) 95) ≡ true → leb (11 + length s) 63 ≡ is_id s
    unfolding is_id
    by_length e = rw (name, first, e, done_length s)

pub returns-then-not-is_name : goal.returns-then-not-is_name
returns-then-not-is_name c = no_name _ (sym c.is_name.ensures ∙ c.if-not-is_name.true)

pub bounds-s-0 : goal.bounds-s-0
bounds-s-0 c = name_some _ (sym c.is_name.ensures ∙ c.if-not-is_name.false)

pub returns-then-not-is_letter-first : goal.returns-then-not-is_letter-first
returns-then-not-is_letter-first c =
    starts_badly _ (sym c.is_name.ensures ∙ c.if-not-is_name.false)
    c.is_letter.result c.is_letter.ensures c.if-not-is_letter-first.true

pub returns : goal.returns
returns c =
    by_length _ (sym c.is_name.ensures ∙ c.if-not-is_name.false)
    c.is_letter.result c.is_letter.ensures c.if-not-is_letter-first.false
