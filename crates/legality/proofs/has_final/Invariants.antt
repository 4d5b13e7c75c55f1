use Rattle.rowset.specs.Iterating.{Passing}
use Rattle.rowset.specs.Visits.{Remains}
use Rattle.definition.specs.Rows.{any}
use Rattle.follower.specs.Follower.{is_final_under_root}
use Rattle.definition.specs.Tables.{chart_of}
use Rattle.legality.proofs.has_final.Given as goal

abbrev pub invariant-loop-r : goal.invariant-loop-r
invariant-loop-r l = Passing (λ k. Remains (any (is_final_under_root (chart_of l.chart))) l.initial.r-iterator.set k) l.initial.r-iterator.set l.r-iterator
