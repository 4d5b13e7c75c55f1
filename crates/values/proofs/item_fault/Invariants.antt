use Rattle.values.specs.Items.{Searching}
use Rattle.values.specs.Ids.{ids_from}
use Prim.Native.Nat.{◌-◌}
use lib.ListN.{length}
use Rattle.values.proofs.item_fault.Given as goal

abbrev pub invariant-loop-i : goal.invariant-loop-i
invariant-loop-i l = Searching l.refers (ids_from l.text l.ids l.n 0) l.value l.from l.i

abbrev pub decreases-loop-i : goal.decreases-loop-i
decreases-loop-i l = length l.value - l.i
