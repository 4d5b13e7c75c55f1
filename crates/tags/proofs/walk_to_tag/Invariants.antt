use Prim.Native.Nat.{◌-◌}
use lib.ListN.{length}
use Rattle.tags.specs.Tags.{Walking}
use Rattle.tags.proofs.walk_to_tag.Given as goal

abbrev pub invariant-loop-m : goal.invariant-loop-m
invariant-loop-m l = Walking l.text l.initial.levels l.initial.w l.levels l.cells l.w

abbrev pub decreases-loop-m : goal.decreases-loop-m
decreases-loop-m l = length l.text - l.w.index
