use Prim.Native.Nat.{◌-◌}
use lib.ListN.{length}
use Rattle.marks.specs.Walks.{Walking}
use Rattle.marks.proofs.next_mark.Given as goal

abbrev pub invariant-loop-i : goal.invariant-loop-i
invariant-loop-i l = Walking l.text l.initial.stack l.initial.w l.stack l.w l.i

abbrev pub decreases-loop-i : goal.decreases-loop-i
decreases-loop-i l = length l.text - l.i
