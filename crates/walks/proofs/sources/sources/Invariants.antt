use Prim.Native.Nat.{◌-◌}
use lib.ListN.{length}
use Rattle.walks.specs.Sources.{Sourcing}
use Rattle.walks.proofs.sources.sources.Given as goal

abbrev pub invariant-loop-next : goal.invariant-loop-next
invariant-loop-next l = Sourcing l.text l.levels l.cells l.spots l.sources l.t l.c

abbrev pub decreases-loop-next : goal.decreases-loop-next
decreases-loop-next l = length l.text - l.t.walk.index
