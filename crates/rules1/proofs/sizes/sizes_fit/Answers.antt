use borrow.Author.Rules.{rules}
use native.Mathlib.Omega.{arith}
use Rattle.definition.specs.Rules.{sizes_fit}
use Rattle.tables.specs.Ranges.{counts_of}
use Rattle.rules1.proofs.sizes.sizes_fit.Goals as goal

pub tables_size-requires : goal.tables_size-requires
tables_size-requires c = search (rules, counts_of)

pub overflow_mul-result : goal.overflow_mul-result
overflow_mul-result c = let k = (counts_of _ c.requires).names in omega (arith, c.name_count.ensures)

pub compiled_size-requires : goal.compiled_size-requires
compiled_size-requires c = search (rules, counts_of)

pub returns : goal.returns
unfolding sizes_fit
returns c = rw (c.compiled_size.ensures, c.tables_size.ensures, c.name_count.ensures)
