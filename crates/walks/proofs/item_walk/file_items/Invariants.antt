use Prim.Native.Nat.{◌-◌}
use lib.ListN.{length}
use Rattle.walks.specs.ItemWalk.{Walked}
use Rattle.walks.proofs.item_walk.file_items.Given as goal

abbrev pub invariant-loop-p : goal.invariant-loop-p
invariant-loop-p l = Walked l.text l.ids l.slots l.ranks l.p l.initial.out l.initial.next l.levels l.cells l.spots l.out l.next l.t l.c

abbrev pub decreases-loop-p : goal.decreases-loop-p
decreases-loop-p l = length l.text - l.t.walk.index
