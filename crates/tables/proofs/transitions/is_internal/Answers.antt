use Rattle.definition.specs.Tables.{internal_at}
use Rattle.tables.proofs.transitions.is_internal.Goals as goal

pub returns : goal.returns
unfolding internal_at
returns c = rw c.transition_cell.ensures
