use mathlib.Core.List.{[]}
use mathlib.Core.Path.{refl}
use native.Mathlib.Omega.{arith}
use Rattle.effects.specs.Trace.{queues}
use Rattle.effects.specs.Entering.{exit_first, exit_room, exit_wrote}
use Rattle.effects.proofs.exits.exit_row.Goals as goal

pub emit-sum-requires : goal.emit-sum-requires
emit-sum-requires c = (record { some = omega arith; most = omega arith; index = omega arith }, unfold queues in refl, exit_first _ _ _ _ _ c.requires.1)

pub perform_exiting-requires : goal.perform_exiting-requires
perform_exiting-requires c = (c.requires.0, exit_room _ _ _ _ _ _ _ _ (c.emit-sum.ensures.wrote []) c.requires.1)

pub returns : goal.returns
returns c = exit_wrote _ _ _ _ _ _ _ _ (c.emit-sum.ensures.wrote _) _ _ c.perform_exiting.ensures
