use borrow.Author.Rules.{rules}
use Rattle.clock.specs.Applying.{slot_known, cancel_known, cancel_applied, event_known, sent_id_known, send_asks, send_applied}
use Rattle.clock.proofs.applying.apply_one.Goals as goal

pub name_in-requires : goal.name_in-requires
name_in-requires c = let a = c in slot_known _ _ (cancel_known a.args.names.now a.args.a a.args.b a.requires.1 (search rules))

pub returns-then-n-eq-NO_NUMBER : goal.returns-then-n-eq-NO_NUMBER
returns-then-n-eq-NO_NUMBER c = let a = c in cancel_applied a.args.names.now a.args.a a.args.b a.requires.1 (search rules) a.args.clock.now _ _ c.name_in.ensures c.cancel.ensures

pub name_in-requires-2 : goal.name_in-requires-2
name_in-requires-2 c = let a = c in slot_known _ _ (event_known a.args.names.now a.args.a a.args.b a.requires.1 (search rules))

pub id_in-requires : goal.id_in-requires
id_in-requires c = let a = c in sent_id_known a.args.names.now a.args.a a.args.b a.requires.1 (search rules)

pub send-requires : goal.send-requires
send-requires c = let a = c in send_asks a.args.names.now a.args.a a.args.b a.requires.1 (search rules) a.args.clock.now _ _ a.requires.0 c.name_in-2.ensures c.id_in.ensures

pub returns : goal.returns
returns c = let a = c in send_applied a.args.names.now a.args.a a.args.b a.requires.1 (search rules) a.args.clock.now _ _ _ _ c.name_in-2.ensures c.id_in.ensures c.send.ensures
