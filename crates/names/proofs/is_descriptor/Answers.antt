-- `is_descriptor`: the length, "*", and the name without its ".*".
use borrow.Author.Tests.{le-leb, lt-leb}
use mathlib.Core.Path.{◌≡◌, sym, ap, ◌∙◌}
use mathlib.Core.Bool.{Bool, true, false}
use mathlib.Core.List.{List}
use Prim.Native.Nat.{ℕ, ◌≤◌, ◌<◌}
use native.Mathlib.Omega.{arith}
use lib.ListN.{length}
use Rattle.definition.specs.Rows.{same}
use Rattle.definition.specs.Names.{star, bare, is_name, is_descriptor}
use Rattle.names.proofs.is_descriptor.Goals as goal

module _ (d : List ℕ) where
  too_long : 63 < length d → false ≡ is_descriptor d
  unfolding is_descriptor
  too_long l = rw (lt-leb (length d) 63 l)

  is_star : length d ≤ 63 → same d star ≡ true → true ≡ is_descriptor d
  unfolding is_descriptor
  is_star l e = rw (le-leb (length d) 63 l, e)

  otherwise : (r : List ℕ) (b : Bool) → length d ≤ 63 → same d star ≡ false → r ≡ bare d → b ≡ is_name r → b ≡ is_descriptor d
  unfolding is_descriptor
  otherwise r b l e q n = rw (le-leb (length d) 63 l, e) (n ∙ ap is_name q)

pub returns-then-s-gt-MOST_BYTES : goal.returns-then-s-gt-MOST_BYTES
returns-then-s-gt-MOST_BYTES c = too_long _ (omega arith)

pub returns-then-equal : goal.returns-then-equal
returns-then-equal c = is_star _ (omega arith) (sym c.equal.ensures ∙ c.if-equal.true)

pub returns : goal.returns
returns c =
    otherwise _ _ _ (omega arith) (sym c.equal.ensures ∙ c.if-equal.false)
    c.bare.ensures c.is_name.ensures
