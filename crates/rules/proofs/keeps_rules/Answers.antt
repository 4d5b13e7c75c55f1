use borrow.Author.Rules.{rules}
use Rattle.laws.specs.Loops.{said-laws}
use Rattle.tables.specs.Ranges.{counts_of}
use Rattle.rules.specs.Verdict.{counts_broken, kept_is}
use Rattle.rules.proofs.keeps_rules.Goals as goal

pub returns-then-not-counts_fit : goal.returns-then-not-counts_fit
returns-then-not-counts_fit c = search (rules, said-laws, counts_broken)

pub compiled_size-requires : goal.compiled_size-requires
compiled_size-requires c = search (rules, said-laws, counts_of)

pub returns : goal.returns
returns c = kept_is _ _ _ _ c.compiled_size.ensures c.verdict.ensures
