use Prim.Native.Nat.{◌-◌}
use Rattle.values.specs.Spots.{Going}
use Rattle.values.proofs.noted.spot_of.Given as goal

abbrev pub invariant-loop-x : goal.invariant-loop-x
invariant-loop-x l = Going l.ids l.name l.hash l.end l.spot l.x l.depth

abbrev pub decreases-loop-x : goal.decreases-loop-x
decreases-loop-x l = 32769 - l.depth
