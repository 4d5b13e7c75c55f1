use borrow.Author.Rules.{rules}
use Rattle.write_text.specs.Inner.{entry_own, exit_own, inner_laid}
use Rattle.write_text.proofs.inner.lay_inner.Goals as goal

pub lay_own_block-entered-requires : goal.lay_own_block-entered-requires
lay_own_block-entered-requires c = search (rules, entry_own)

pub lay_own_block-exited-requires : goal.lay_own_block-exited-requires
lay_own_block-exited-requires c = search (rules, exit_own)

pub returns : goal.returns
returns c = search (rules, inner_laid)
