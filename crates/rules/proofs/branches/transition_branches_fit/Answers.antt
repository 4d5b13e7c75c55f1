use Rattle.definition.specs.Rules.{transition_branches_fit}
use Rattle.rules.specs.Branches.{block_numbers, block_judged}
use Rattle.rules.proofs.branches.transition_branches_fit.Goals as goal

pub branches_fit-requires : goal.branches_fit-requires
branches_fit-requires c = (c.requires.tables, block_numbers _ _ _ c.transition_block_of.ensures)

pub returns : goal.returns
unfolding transition_branches_fit
returns c = block_judged _ _ _ c.transition_block_of.ensures _ c.branches_fit.ensures
