use borrow.Author.Rules.{rules}
use Rattle.spell.specs.Actions.{host_spelt}
use Rattle.spell.proofs.actions.lay_host.Goals as goal

pub returns : goal.returns
returns c = search (rules, host_spelt)
