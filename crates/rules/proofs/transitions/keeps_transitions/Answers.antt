use mathlib.Core.Path.{ap}
use mathlib.Core.Bool.{not}
use Rattle.laws.specs.Loops.{said_not_yes, said_not_no}
use Rattle.rules.specs.Branches.{rule5_broken, rule5_kept}
use Rattle.rules.proofs.transitions.keeps_transitions.Goals as goal

pub returns-then-not-transitions_fit : goal.returns-then-not-transitions_fit
returns-then-not-transitions_fit c = rule5_broken _ (said_not_yes _ _ c.transitions_fit.ensures (ap not c.if-not-transitions_fit.true))

pub returns : goal.returns
returns c = rule5_kept _ _ (said_not_no _ _ c.transitions_fit.ensures (ap not c.if-not-transitions_fit.false)) c.keeps_branches.ensures
