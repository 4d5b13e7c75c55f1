use borrow.Author.Rules.{rules}
use Rattle.spell.specs.Digits.{spell_begin, spell_in, spell_last, spell_turn, spell_end}
use Rattle.spell.proofs.parts.lay_number.Goals as goal

pub loop-i-init : goal.loop-i-init
loop-i-init c = spell_begin _ _

pub bounds-spelt-i : goal.bounds-spelt-i
bounds-spelt-i c = search (rules, spell_in)

pub returns-then-m-le9 : goal.returns-then-m-le9
returns-then-m-le9 c = search (rules, spell_last)

pub loop-i-preserved : goal.loop-i-preserved
loop-i-preserved c = search (rules, spell_turn)

pub returns : goal.returns
returns c = search (rules, spell_end)
