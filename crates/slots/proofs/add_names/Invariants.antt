use Prim.Native.Nat.{◌-◌}
use Rattle.slots.specs.Slots.{Adding}
use Rattle.slots.proofs.add_names.Given as goal

abbrev pub invariant-loop-i : goal.invariant-loop-i
invariant-loop-i l = Adding l.text l.initial.slots l.n l.from l.to l.slots l.r l.i l.long

abbrev pub decreases-loop-i : goal.decreases-loop-i
decreases-loop-i l = l.to - l.from - l.i
