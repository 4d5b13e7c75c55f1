use borrow.Author.Rules.{rules}
use Rattle.spell.specs.Ready.{id_none, id_ready, id_laid}
use Rattle.spell.proofs.values.lay_id.Goals as goal

pub returns-then-n-eq-NO_NUMBER : goal.returns-then-n-eq-NO_NUMBER
returns-then-n-eq-NO_NUMBER c = search (rules, id_none)

pub lay_name-requires : goal.lay_name-requires
lay_name-requires c = search (rules, id_ready)

pub returns : goal.returns
returns c = search (rules, id_laid)
