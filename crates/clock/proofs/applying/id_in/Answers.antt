use borrow.Author.Rules.{rules}
use Rattle.clock.specs.Applying.{id_none, id_slot_lem, id_some}
use Rattle.clock.proofs.applying.id_in.Goals as goal

pub returns-then-id-eq-NO_NUMBER : goal.returns-then-id-eq-NO_NUMBER
returns-then-id-eq-NO_NUMBER c = let a = c in id_none a.args.names.now a.args.id (search rules)

pub name_in-requires : goal.name_in-requires
name_in-requires c = let a = c in id_slot_lem a.args.names.now a.args.id a.requires (search rules)

pub returns : goal.returns
returns c = let a = c in id_some a.args.names.now a.args.id _ (search rules) c.name_in.ensures
