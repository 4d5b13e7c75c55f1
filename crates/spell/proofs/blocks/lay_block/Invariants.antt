use Prim.Native.Nat.{◌+◌, ◌-◌}
use Rattle.spell.specs.Blocks.{Blocking}
use Rattle.spell.proofs.blocks.lay_block.Given as goal

abbrev pub invariant-loop-a : goal.invariant-loop-a
invariant-loop-a l = Blocking l.numbers l.names l.start l.count l.initial.out l.at l.out l.next l.a

abbrev pub decreases-loop-a : goal.decreases-loop-a
decreases-loop-a l = l.start + l.count - l.a
