use borrow.Author.Rules.{rules}
use Rattle.spell.specs.Actions.{raise_spelt}
use Rattle.spell.proofs.actions.lay_raise.Goals as goal

pub returns : goal.returns
returns c = search (rules, raise_spelt)
