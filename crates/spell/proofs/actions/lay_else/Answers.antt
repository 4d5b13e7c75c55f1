use borrow.Author.Rules.{rules}
use Rattle.spell.specs.Actions.{else_spelt}
use Rattle.spell.proofs.actions.lay_else.Goals as goal

pub returns : goal.returns
returns c = search (rules, else_spelt)
