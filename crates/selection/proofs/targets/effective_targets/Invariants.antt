use mathlib.Core.List.{[]}
use Rattle.follower.specs.Selection.{add_stand_ins}
use Rattle.definition.specs.Tables.{chart_of}
use Rattle.laws.specs.Passes.{Passed}
use Rattle.rowset.specs.Member.{rows_of}
use Rattle.paths.specs.History.{stored_at}
use Rattle.selection.proofs.targets.effective_targets.Given as goal

abbrev pub invariant-loop-i : goal.invariant-loop-i
invariant-loop-i l = Passed (add_stand_ins (chart_of l.chart) (stored_at l.history)) [] (rows_of l.set) l.targets l.i
