use Rattle.std.proofs.Common.{◌+◌, ◌≤◌}
use Rattle.rowset.specs.Visits.{VisitedDown}
use Rattle.rowset_run.specs.Count.{more}
use Rattle.rowset_run.proofs.count_down.Given as goal

abbrev pub invariant-loop-r : goal.invariant-loop-r
invariant-loop-r l = (l.n + l.k ≤ 256) × VisitedDown more 0 l.n l.s l.k

abbrev pub decreases-loop-r : goal.decreases-loop-r
decreases-loop-r l = l.k
