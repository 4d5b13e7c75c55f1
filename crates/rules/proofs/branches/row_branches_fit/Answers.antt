use Rattle.definition.specs.Rules.{row_branches_fit}
use Rattle.rules.specs.Branches.{block_numbers, block_judged}
use Rattle.rules.proofs.branches.row_branches_fit.Goals as goal

pub branches_fit-requires : goal.branches_fit-requires
branches_fit-requires c = (c.requires.tables, block_numbers _ _ _ c.entry_block_of.ensures)

pub branches_fit-requires-2 : goal.branches_fit-requires-2
branches_fit-requires-2 c = (c.requires.tables, block_numbers _ _ _ c.exit_block_of.ensures)

pub branches_fit-requires-3 : goal.branches_fit-requires-3
branches_fit-requires-3 c = (c.requires.tables, block_numbers _ _ _ c.list_block_of.ensures)

pub returns : goal.returns
unfolding row_branches_fit
returns c =
    rw (
      block_judged _ _ _ c.entry_block_of.ensures _ c.branches_fit.ensures,
      block_judged _ _ _ c.exit_block_of.ensures _ c.branches_fit-2.ensures,
      block_judged _ _ _ c.list_block_of.ensures _ c.branches_fit-3.ensures,
    )
