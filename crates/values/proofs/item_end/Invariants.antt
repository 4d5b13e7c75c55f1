use Rattle.values.specs.Items.{Spreading}
use Prim.Native.Nat.{◌-◌}
use lib.ListN.{length}
use Rattle.values.proofs.item_end.Given as goal

abbrev pub invariant-loop-j : goal.invariant-loop-j
invariant-loop-j l = Spreading l.value l.i l.j
