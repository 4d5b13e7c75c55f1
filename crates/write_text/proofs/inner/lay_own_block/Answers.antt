use borrow.Author.Rules.{rules}
use Rattle.write_text.specs.Inner.{own_ready, own_laid}
use Rattle.write_text.proofs.inner.lay_own_block.Goals as goal

pub lay_element-requires : goal.lay_element-requires
lay_element-requires c = search (rules, own_ready)

pub returns : goal.returns
returns c = search (rules, own_laid)
