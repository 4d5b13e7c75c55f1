use Rattle.std.proofs.Common.{◌-◌, ◌≤◌}
use Rattle.rowset.specs.Visits.{Visited}
use Rattle.rowset_run.specs.Count.{more}
use Rattle.rowset_run.proofs.count_up.Given as goal

abbrev pub invariant-loop-r : goal.invariant-loop-r
invariant-loop-r l = (l.n ≤ l.k) × Visited more 0 l.n l.s l.k

abbrev pub decreases-loop-r : goal.decreases-loop-r
decreases-loop-r l = 256 - l.k
