use Rattle.compiler.specs.Results.{size_none, size_some}
use mathlib.Core.Path.{sym, ◌∙◌}
use Rattle.tables.specs.Ranges.{counts_of}
use Rattle.compiler.proofs.numbers_size.Goals as goal

pub returns-then-not-counts_fit : goal.returns-then-not-counts_fit
returns-then-not-counts_fit c = size_none _ _ (sym c.counts_fit.ensures ∙ c.if-not-counts_fit.true)

pub compiled_size-requires : goal.compiled_size-requires
compiled_size-requires c = counts_of _ (sym c.counts_fit.ensures ∙ c.if-not-counts_fit.false)

pub returns : goal.returns
returns c = size_some _ _ _ (sym c.counts_fit.ensures ∙ c.if-not-counts_fit.false) c.compiled_size.ensures
