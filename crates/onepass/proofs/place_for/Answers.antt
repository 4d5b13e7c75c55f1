use mathlib.Core.Path.{sym, ◌∙◌}
use Rattle.onepass.specs.Four.{pick_own, pick_other}
use Rattle.onepass.proofs.place_for.Goals as goal

pub returns-then-is_going : goal.returns-then-is_going
returns-then-is_going c = pick_own _ _ _ (sym c.is_going.ensures ∙ c.if-is_going.true)

pub returns : goal.returns
returns c = pick_other _ _ _ (sym c.is_going.ensures ∙ c.if-is_going.false)
