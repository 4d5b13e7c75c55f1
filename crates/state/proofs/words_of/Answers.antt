use borrow.Author.Rules.{rules}
use mathlib.Core.Path.{sym}
use Rattle.rowset.specs.Rows.{words_of_rows}
use Rattle.state.proofs.words_of.Goals as goal

pub returns : goal.returns
returns c = sym (words_of_rows _ (record { fit0 = search rules; fit1 = search rules; fit2 = search rules; fit3 = search rules }))
