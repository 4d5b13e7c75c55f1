use mathlib.Core.List.{[]}
use mathlib.Core.Path.{refl}
use native.Mathlib.Omega.{arith}
use Rattle.effects.specs.Entering.{entered_room, block_room, initial_room, defaults_room, entry_wrote}
use Rattle.effects.specs.Trace.{queues, places, wrote_length, wrote_joins}
use Rattle.effects.proofs.entries.enter_row.Goals as goal

pub emit-s1-requires : goal.emit-s1-requires
emit-s1-requires c = (record { some = omega arith; most = omega arith; index = omega arith }, unfold queues in refl, entered_room _ _ _ _ _ (places [] []) _ c.requires.2)

pub perform_entry-s2-requires : goal.perform_entry-s2-requires
perform_entry-s2-requires c = (record { tables = c.requires.0.ready.tables; below = c.requires.0.inside }, block_room _ _ _ _ _ _ _ c.requires.2 _ _ (c.emit-s1.ensures.wrote []))

pub initial_block-s3-requires : goal.initial_block-s3-requires
initial_block-s3-requires c = (record { tables = c.requires.0.ready.tables; below = c.requires.0.inside }, initial_room _ _ _ _ _ _ _ c.requires.2 _ _ (c.emit-s1.ensures.wrote _) _ _ c.perform_entry-s2.ensures)

pub default_blocks-requires : goal.default_blocks-requires
default_blocks-requires c = (c.requires.1, defaults_room _ _ _ _ _ _ _ c.requires.2 _ _ (c.emit-s1.ensures.wrote _) _ _ c.perform_entry-s2.ensures _ _ c.initial_block-s3.ensures)

pub returns : goal.returns
returns c = entry_wrote _ _ _ _ _ _ _ c.requires.2 _ _ (c.emit-s1.ensures.wrote _) _ _ c.perform_entry-s2.ensures _ _ c.initial_block-s3.ensures _ _ c.default_blocks.ensures

pub shape_of-trace : goal.shape_of-trace
shape_of-trace c = wrote_length _ _ _ _ _ (returns c)

pub shape_of-joins : goal.shape_of-joins
shape_of-joins c = wrote_joins _ _ _ _ _ (returns c)
