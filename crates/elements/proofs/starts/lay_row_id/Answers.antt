use borrow.Author.Rules.{rules}
use Rattle.spell.specs.Ready.{id_ready}
use Rattle.elements.specs.Starts.{row_id_none, row_id_some}
use Rattle.elements.proofs.starts.lay_row_id.Goals as goal

pub returns-then-n-eq-NO_NUMBER : goal.returns-then-n-eq-NO_NUMBER
returns-then-n-eq-NO_NUMBER c = search (rules, row_id_none)

pub lay_name-named-requires : goal.lay_name-named-requires
lay_name-named-requires c = search (rules, id_ready)

pub returns : goal.returns
returns c = search (rules, row_id_some)
