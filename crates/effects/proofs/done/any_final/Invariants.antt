use Rattle.definition.specs.Tables.{chart_of}
use Rattle.rowset.specs.Iterating.{Passing}
use Rattle.rowset.specs.Member.{rows_of}
use Rattle.effects.specs.Entering.{is_final_row, Seeking}
use Rattle.effects.proofs.done.any_final.Given as goal

abbrev pub invariant-loop-r : goal.invariant-loop-r
invariant-loop-r l = Passing (Seeking (is_final_row (chart_of l.chart)) (rows_of l.fn.set)) l.fn.set l.r-iterator
