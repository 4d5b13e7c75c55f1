use borrow.Author.Tests.{eq-eqb, ne_eqb}
use Rattle.rules1.specs.Ids.{id_root, id_none, id_low_read, id_descriptor, id_some}
use Rattle.rules1.proofs.spelling.is_id_of.Goals as goal

pub returns-then-r-eq0 : goal.returns-then-r-eq0
returns-then-r-eq0 c = id_root _ _ _ _ c.if-r-eq0.true c.id_of-n.ensures

pub returns-then-none : goal.returns-then-none
returns-then-none c = id_none _ _ _ _ c.if-r-eq0.false c.id_of-n.ensures (eq-eqb _ _ c.if-none.true)

pub slot_of-requires : goal.slot_of-requires
slot_of-requires c = id_low_read _ _ c.requires.0 _ _ c.id_of-n.ensures (ne_eqb _ _ c.if-none.false)

pub is_id-requires : goal.is_id-requires
is_id-requires c = id_descriptor _ _ c.requires.0 _ _ _ _ c.id_of-n.ensures (ne_eqb _ _ c.if-none.false) c.slot_of.ensures c.name_of.ensures

pub returns : goal.returns
returns c = id_some _ _ _ _ _ _ _ c.if-r-eq0.false c.id_of-n.ensures (ne_eqb _ _ c.if-none.false) c.slot_of.ensures c.name_of.ensures c.is_id.ensures
