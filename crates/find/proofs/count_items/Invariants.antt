use Prim.Native.Nat.{◌-◌}
use lib.ListN.{length}
use Rattle.find.specs.Items.{Counting}
use Rattle.find.proofs.count_items.Given as goal

abbrev pub invariant-loop-i : goal.invariant-loop-i
invariant-loop-i l = Counting l.value l.n l.i

abbrev pub decreases-loop-i : goal.decreases-loop-i
decreases-loop-i l = length l.value - l.i
