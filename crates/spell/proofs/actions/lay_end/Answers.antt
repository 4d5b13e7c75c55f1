use borrow.Author.Rules.{rules}
use Rattle.spell.specs.Actions.{end_spelt}
use Rattle.spell.proofs.actions.lay_end.Goals as goal

pub returns : goal.returns
returns c = search (rules, end_spelt)
