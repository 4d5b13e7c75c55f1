use mathlib.Core.Path.{ap}
use mathlib.Core.Bool.{not}
use Rattle.laws.specs.Loops.{said_yes, said_not_yes, said_not_no}
use Rattle.rules.specs.Branches.{plain_chart, both_broken, both_kept}
use Rattle.rules.proofs.branches.keeps_branches.Goals as goal

pub returns-then-all_plain : goal.returns-then-all_plain
returns-then-all_plain c = plain_chart _ c.requires (said_yes _ _ c.all_plain.ensures c.if-all_plain.true)

pub returns-then-not-rows_branches_fit : goal.returns-then-not-rows_branches_fit
returns-then-not-rows_branches_fit c = both_broken _ _ (said_not_yes _ _ c.rows_branches_fit.ensures (ap not c.if-not-rows_branches_fit.true))

pub returns : goal.returns
returns c = both_kept _ _ _ (said_not_no _ _ c.rows_branches_fit.ensures (ap not c.if-not-rows_branches_fit.false)) c.transitions_branches_fit.ensures
