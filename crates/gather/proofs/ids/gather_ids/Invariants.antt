use Prim.Native.Nat.{◌-◌}
use Rattle.gather.specs.Ids.{Gathering}
use lib.ListN.{length}
use Rattle.gather.proofs.ids.gather_ids.Given as goal

abbrev pub invariant-loop-id : goal.invariant-loop-id
invariant-loop-id l = Gathering l.text l.levels l.ids l.w l.id l.n

abbrev pub decreases-loop-id : goal.decreases-loop-id
decreases-loop-id l = length l.text - l.w.index
