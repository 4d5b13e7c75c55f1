use borrow.Author.Rules.{rules}
use Rattle.spell.specs.Blocks.{hollow_other, hollow_last, hollow_next}
use Rattle.spell.proofs.blocks.is_hollow.Goals as goal

pub returns-then-action_cell-ne-IF : goal.returns-then-action_cell-ne-IF
returns-then-action_cell-ne-IF c = search (rules, hollow_other)

pub returns-then-end-b : goal.returns-then-end-b
returns-then-end-b c = search (rules, hollow_last)

pub returns : goal.returns
returns c = search (rules, hollow_next)
