use borrow.Author.Rules.{rules}
use Rattle.spell.specs.Sends.{no_delay, delay_spelt}
use Rattle.spell.proofs.sends.lay_delay.Goals as goal

pub returns-then-delay-eq0 : goal.returns-then-delay-eq0
returns-then-delay-eq0 c = search (rules, no_delay)

pub returns : goal.returns
returns c = search (rules, delay_spelt)
