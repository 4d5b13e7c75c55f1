use borrow.Author.Rules.{rules}
use mathlib.Core.Path.{◌∙◌}
use native.Mathlib.Omega.{arith}
use Rattle.cells.specs.Parts.{row_entry_room, row_exit_room, row_list_room, row_block_room, row_laid}
use Rattle.cells.proofs.lay_row.Goals as goal

pub lay_part-requires : goal.lay_part-requires
lay_part-requires c = search (rules, row_entry_room)

pub lay_part-requires-2 : goal.lay_part-requires-2
lay_part-requires-2 c = search (rules, row_exit_room)

pub lay_part-requires-3 : goal.lay_part-requires-3
lay_part-requires-3 c = row_list_room _ _ _ _ _ c.requires _ c.lay_part.ensures _ c.lay_part-2.ensures

pub overflow_add-at-5 : goal.overflow_add-at-5
overflow_add-at-5 c = omega (arith, c.requires.below, c.requires.cells.few.rows, c.requires.cells.few.transitions)

pub overflow_add-own-5 : goal.overflow_add-own-5
overflow_add-own-5 c = omega (arith, c.requires.below, c.requires.cells.few.rows, c.requires.cells.few.transitions)

pub overflow_add-own-6 : goal.overflow_add-own-6
overflow_add-own-6 c = omega (arith, c.requires.below, c.requires.cells.few.rows, c.requires.cells.few.transitions)

pub lay_part-requires-4 : goal.lay_part-requires-4
lay_part-requires-4 c = row_block_room _ _ _ _ _ c.requires _ c.lay_part.ensures _ c.lay_part-2.ensures _ c.lay_part-3.ensures

pub shape_of-out : goal.shape_of-out
shape_of-out c = c.lay_part-4.ensures.size ∙ c.lay_part-3.ensures.size ∙ c.lay_part-2.ensures.size ∙ c.lay_part.ensures.size

pub returns : goal.returns
returns c = row_laid _ _ _ _ _ c.requires _ c.lay_part.ensures _ c.lay_part-2.ensures _ c.lay_part-3.ensures _ c.lay_part-4.ensures
