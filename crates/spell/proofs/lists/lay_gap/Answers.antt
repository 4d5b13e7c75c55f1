use borrow.Author.Rules.{rules}
use Rattle.spell.specs.Lists.{gap_first, gap_next}
use Rattle.spell.proofs.lists.lay_gap.Goals as goal

pub returns-then-k-eq0 : goal.returns-then-k-eq0
returns-then-k-eq0 c = search (rules, gap_first)

pub returns : goal.returns
returns c = search (rules, gap_next)
