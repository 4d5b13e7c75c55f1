use borrow.Author.Rules.{rules}
use Rattle.spell.specs.Blocks.{element_none, element_some}
use Rattle.spell.proofs.blocks.lay_element.Goals as goal

pub returns-then-count-eq0 : goal.returns-then-count-eq0
returns-then-count-eq0 c = search (rules, element_none)

pub returns : goal.returns
returns c = search (rules, element_some)
