use mathlib.Core.List.{[]}
use mathlib.Core.Path.{refl}
use native.Mathlib.Omega.{arith}
use Rattle.effects.specs.Choosers.{taken_room, chosen_room, taken_block_room, taken_wrote}
use Rattle.effects.specs.Trace.{queues, places}
use Rattle.effects.proofs.transitions.take_transition.Goals as goal

pub emit-first-requires : goal.emit-first-requires
emit-first-requires c = (record { some = omega arith; most = omega arith; index = omega arith }, unfold queues in refl, taken_room _ _ _ _ (places [] []) _ c.requires.2)

pub bounds-by-at : goal.bounds-by-at
bounds-by-at c = let b = c.requires.0.below in let n = c.requires.0.tables.sized.counts.transitions in let l = c.requires.1 in omega arith

pub overflow_cast-by : goal.overflow_cast-by
overflow_cast-by c = omega (arith, c.shared_slice_known-2-1.given c.args.t.0)

pub emit-sum-requires : goal.emit-sum-requires
emit-sum-requires c = (record { some = omega arith; most = omega arith; index = omega (arith, c.shared_slice_known-2-1.given c.args.t.0) }, unfold queues in refl, chosen_room _ _ _ _ _ _ c.requires.2 _ _ (c.emit-first.ensures.wrote []))

pub perform_taken-requires : goal.perform_taken-requires
perform_taken-requires c = (c.requires.0, taken_block_room _ _ _ _ _ _ c.requires.2 _ _ (c.emit-first.ensures.wrote []) _ _ (c.emit-sum.ensures.wrote []))

pub returns : goal.returns
returns c = taken_wrote _ _ _ _ _ _ c.requires.2 _ _ (c.emit-first.ensures.wrote _) _ _ (c.emit-sum.ensures.wrote _) _ _ c.perform_taken.ensures
