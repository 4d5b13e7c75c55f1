use Rattle.std.specs.Prelude.{[]}
use Rattle.follower.specs.Microstep.{add_in_final}
use Rattle.definition.specs.Tables.{chart_of}
use Rattle.rowset.specs.Visits.{VisitedDown}
use Rattle.rowset.specs.Iterating.{PassingDown}
use Rattle.rowset.specs.Member.{rows_of}
use Rattle.effects.proofs.done.final_below.Given as goal

abbrev pub invariant-loop-r : goal.invariant-loop-r
invariant-loop-r l = PassingDown (VisitedDown (add_in_final (chart_of l.chart) (rows_of l.active)) [] (rows_of l.set) l.initial.r-iterator.set) l.initial.r-iterator.set l.r-iterator
