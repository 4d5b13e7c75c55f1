use borrow.Author.Rules.{rules}
use Rattle.spell.specs.Sends.{id_ready, no_id_lem, id_spelt}
use Rattle.spell.proofs.sends.lay_send_id.Goals as goal

pub returns-then-id-eq-NO_NUMBER : goal.returns-then-id-eq-NO_NUMBER
returns-then-id-eq-NO_NUMBER c = search (rules, no_id_lem)

pub lay_name-named-requires : goal.lay_name-named-requires
lay_name-named-requires c = search (rules, id_ready)

pub returns : goal.returns
returns c = search (rules, id_spelt)
