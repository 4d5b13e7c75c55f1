use borrow.Author.Rules.{rules}
use Rattle.spell.specs.Laid.{left_begin, part_turn, part_end}
use Rattle.spell.proofs.parts.lay_part.Goals as goal

pub loop-b-init : goal.loop-b-init
loop-b-init c = search (rules, left_begin)

pub loop-b-preserved : goal.loop-b-preserved
loop-b-preserved c = search (rules, part_turn)

pub returns : goal.returns
returns c = search (rules, part_end)
