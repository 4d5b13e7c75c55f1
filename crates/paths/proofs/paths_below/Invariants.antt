use Rattle.std.specs.Prelude.{[]}
use Rattle.follower.specs.Microstep.{add_path}
use Rattle.definition.specs.Tables.{chart_of}
use Rattle.rowset.specs.Visits.{Visited}
use Rattle.rowset.specs.Iterating.{Passing}
use Rattle.rowset.specs.Member.{rows_of}
use Rattle.paths.proofs.paths_below.Given as goal

abbrev pub invariant-loop-x : goal.invariant-loop-x
invariant-loop-x l = Passing (Visited (add_path (chart_of l.chart)) [] (rows_of l.set) l.fn.to) l.fn.to l.x-iterator
