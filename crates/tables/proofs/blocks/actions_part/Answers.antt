use borrow.Author.Rules.{rules}
use Rattle.tables.specs.Parts.{block_listed, block_none}
use Rattle.tables.specs.Ranges.{layout}
use Rattle.tables.proofs.blocks.actions_part.Goals as goal

pub slice_bounds-result-end-2 : goal.slice_bounds-result-end-2
unfolding layout
slice_bounds-result-end-2 c = search rules

pub returns-then-count-eq0 : goal.returns-then-count-eq0
returns-then-count-eq0 c = block_none _ _ _ c.if-count-eq0.true

pub overflow_add-from : goal.overflow_add-from
unfolding layout
overflow_add-from c = search rules

pub overflow_add-to : goal.overflow_add-to
unfolding layout
overflow_add-to c = search rules

pub offset_bounds-numbers-from : goal.offset_bounds-numbers-from
unfolding layout
offset_bounds-numbers-from c = search rules

pub returns : goal.returns
returns c = block_listed _ _ _ _ c.requires c.action_base.ensures
