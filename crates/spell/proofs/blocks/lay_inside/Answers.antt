use borrow.Author.Rules.{rules}
use Rattle.spell.specs.Blocks.{inside_empty, inside_full}
use Rattle.spell.proofs.blocks.lay_inside.Goals as goal

pub returns-then-count-eq0 : goal.returns-then-count-eq0
returns-then-count-eq0 c = search (rules, inside_empty)

pub returns : goal.returns
returns c = search (rules, inside_full)
