use Prim.Native.Nat.{◌-◌}
use lib.ListN.{length}
use Rattle.walks.specs.HeadWalk.{Heading}
use Rattle.walks.proofs.heads.lay_heads.Given as goal

abbrev pub invariant-loop-p : goal.invariant-loop-p
invariant-loop-p l = Heading l.text l.ids l.slots l.ranks l.p l.initial.out l.levels l.cells l.spots l.out l.t l.c

abbrev pub decreases-loop-p : goal.decreases-loop-p
decreases-loop-p l = length l.text - l.t.walk.index
