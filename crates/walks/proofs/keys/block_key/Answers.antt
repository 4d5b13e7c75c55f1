use borrow.Author.Rules.{rules}
use Rattle.walks.specs.Keys.{block_nowhere, block_here, block_none, row_block_here, row_block_none}
use Rattle.walks.proofs.keys.block_key.Goals as goal

pub returns-then-part-eq0 : goal.returns-then-part-eq0
returns-then-part-eq0 c = search (rules, block_nowhere)

pub returns-then-r-t : goal.returns-then-r-t
returns-then-r-t c = search (rules, block_here)

pub returns-then-part-gt3 : goal.returns-then-part-gt3
returns-then-part-gt3 c = search (rules, block_none)

pub returns-then-owner-n : goal.returns-then-owner-n
returns-then-owner-n c = search (rules, row_block_here)

pub returns : goal.returns
returns c = search (rules, row_block_none)
