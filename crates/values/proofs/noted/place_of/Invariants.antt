use Prim.Native.Nat.{◌-◌}
use Rattle.values.specs.Places.{Looking}
use Rattle.values.proofs.noted.place_of.Given as goal

abbrev pub invariant-loop-x : goal.invariant-loop-x
invariant-loop-x l = Looking l.text l.ids l.name l.n l.end l.hash l.tag l.x l.depth

abbrev pub decreases-loop-x : goal.decreases-loop-x
decreases-loop-x l = 32769 - l.depth
