-- `matches`: "*", or the tokens without a ".*".
use mathlib.Core.Path.{◌≡◌, sym, ap, ◌∙◌}
use mathlib.Core.Bool.{Bool, true, false}
use mathlib.Core.List.{List}
use Prim.Native.Nat.{ℕ}
use Rattle.definition.specs.Rows.{same}
use Rattle.definition.specs.Names.{star, bare, begins, tokens, matches}
use Rattle.names.proofs.matches.Goals as goal

module _ (d e : List ℕ) where
  by_star : same d star ≡ true → true ≡ matches d e
  unfolding matches
  by_star h = rw h

  by_tokens : (r : List ℕ) (b : Bool) → same d star ≡ false → r ≡ bare d → b ≡ begins (tokens r) (tokens e) → b ≡ matches d e
  unfolding matches
  by_tokens r b h q k = rw h (k ∙ ap (λ (x : List ℕ). begins (tokens x) (tokens e)) q)

pub returns-then-equal : goal.returns-then-equal
returns-then-equal c = by_star _ _ (sym c.equal.ensures ∙ c.if-equal.true)

pub returns : goal.returns
returns c =
    by_tokens _ _ _ _ (sym c.equal.ensures ∙ c.if-equal.false) c.bare.ensures c.begins_with.ensures
