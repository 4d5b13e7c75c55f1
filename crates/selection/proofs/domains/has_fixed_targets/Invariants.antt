use lib.ListN.{length}
use Rattle.definition.specs.Tables.{chart_of}
use Rattle.laws.specs.Loops.{Failing}
use Rattle.matching.specs.Histories.{is_history_row}
use Rattle.selection.proofs.domains.has_fixed_targets.Given as goal

abbrev pub invariant-loop-i : goal.invariant-loop-i
invariant-loop-i l = Failing (is_history_row (chart_of l.chart)) l.targets (length l.targets) l.i
