use borrow.Author.Rules.{rules}
use Rattle.spell.specs.Laid.{byte_past, byte_last, byte_out, byte_in}
use Rattle.spell.proofs.parts.lay_byte.Goals as goal

-- src/parts.rt:18:9
pub returns-then-at-gt-LONGEST : goal.returns-then-at-gt-LONGEST
returns-then-at-gt-LONGEST c = search (rules, byte_past)

-- src/parts.rt:21:9
pub returns-then-at-eq-LONGEST : goal.returns-then-at-eq-LONGEST
returns-then-at-eq-LONGEST c = search (rules, byte_last)

-- src/parts.rt:24:9
pub returns-then-out-at : goal.returns-then-out-at
returns-then-out-at c = search (rules, byte_out)

-- src/parts.rt:14:1
pub returns : goal.returns
returns c = search (rules, byte_in)
