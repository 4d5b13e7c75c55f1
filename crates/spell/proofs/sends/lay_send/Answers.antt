use borrow.Author.Rules.{rules}
use Rattle.spell.specs.Sends.{send_spelt}
use Rattle.spell.proofs.sends.lay_send.Goals as goal

pub returns : goal.returns
returns c = search (rules, send_spelt)
