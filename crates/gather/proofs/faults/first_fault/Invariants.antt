use Prim.Native.Nat.{◌-◌}
use lib.ListN.{length}
use Rattle.gather.specs.Faults.{Searching}
use Rattle.gather.proofs.faults.first_fault.Given as goal

abbrev pub invariant-loop-pending : goal.invariant-loop-pending
invariant-loop-pending l = Searching l.text l.levels l.ids l.n l.w l.stated l.pending l.first

abbrev pub decreases-loop-pending : goal.decreases-loop-pending
decreases-loop-pending l = length l.text - l.w.index
