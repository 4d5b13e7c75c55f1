use borrow.Author.Rules.{rules}
use Rattle.values.specs.Places.{id_fits_lem, id_inside, id_is}
use Rattle.values.proofs.noted.is_name.Goals as goal

pub overflow_add-to : goal.overflow_add-to
overflow_add-to c = search (rules, id_fits_lem)

pub is_at-requires : goal.is_at-requires
is_at-requires c = (search rules, search (rules, id_inside))

pub returns : goal.returns
returns c = search (rules, id_is)
