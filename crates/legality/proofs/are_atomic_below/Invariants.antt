use Rattle.rowset.specs.Iterating.{Passing}
use Rattle.rowset.specs.Visits.{Remains}
use Rattle.definition.specs.Rows.{all}
use Rattle.definition.specs.Tables.{chart_of}
use Rattle.follower.specs.Legal.{is_atomic_below}
use Rattle.legality.proofs.are_atomic_below.Given as goal

abbrev pub invariant-loop-r : goal.invariant-loop-r
invariant-loop-r l = Passing (λ k. Remains (all (is_atomic_below (chart_of l.chart) l.p.0)) l.fn.set k) l.fn.set l.r-iterator
