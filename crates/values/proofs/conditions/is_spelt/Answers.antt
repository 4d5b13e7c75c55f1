use borrow.Author.Rules.{rules}
use Rattle.values.specs.Conditions.{spell_start, spell_bad, spell_more, spell_end}
use Rattle.values.proofs.conditions.is_spelt.Goals as goal

pub loop-i-init : goal.loop-i-init
loop-i-init c = search (rules, spell_start)

pub returns-then-token-joins : goal.returns-then-token-joins
returns-then-token-joins c = search (rules, spell_bad)

pub loop-i-preserved : goal.loop-i-preserved
loop-i-preserved c = search (rules, spell_more)

pub returns : goal.returns
returns c = search (rules, spell_end)
