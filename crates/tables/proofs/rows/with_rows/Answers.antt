use borrow.Author.Rules.{rules}
use Rattle.laws.specs.Passes.{pass-laws}
use Rattle.definition.specs.Rows.{union}
use Rattle.tables.specs.Parts.{with_read}
use Rattle.tables.proofs.rows.with_rows.Goals as goal

pub loop-k-init : goal.loop-k-init
loop-k-init c = search (rules, pass-laws)

pub loop-k-preserved : goal.loop-k-preserved
loop-k-preserved c = search (rules, pass-laws, with_read)

pub returns : goal.returns
unfolding union
returns c = search (rules, pass-laws)
