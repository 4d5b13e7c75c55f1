use borrow.Author.Rules.{rules}
use Rattle.spell.specs.Actions.{if_spelt}
use Rattle.spell.proofs.actions.lay_if.Goals as goal

pub returns : goal.returns
returns c = search (rules, if_spelt)
