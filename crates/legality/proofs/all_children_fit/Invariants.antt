use Rattle.rowset.specs.Iterating.{Passing}
use Rattle.rowset.specs.Visits.{Remains}
use Rattle.rowset.specs.Member.{rows_of}
use Rattle.definition.specs.Rows.{all}
use Rattle.definition.specs.Tables.{chart_of}
use Rattle.follower.specs.Legal.{children_fit}
use Rattle.legality.proofs.all_children_fit.Given as goal

abbrev pub invariant-loop-r : goal.invariant-loop-r
invariant-loop-r l = Passing (λ k. Remains (all (children_fit (chart_of l.chart) (rows_of l.set))) l.set k) l.set l.r-iterator
