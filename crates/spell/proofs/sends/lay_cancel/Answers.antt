use borrow.Author.Rules.{rules}
use Rattle.spell.specs.Sends.{cancel_spelt}
use Rattle.spell.proofs.sends.lay_cancel.Goals as goal

pub returns : goal.returns
returns c = search (rules, cancel_spelt)
