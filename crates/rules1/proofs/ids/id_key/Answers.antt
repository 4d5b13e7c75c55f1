use mathlib.Core.Path.{ap}
use mathlib.Core.Bool.{not}
use borrow.Author.Tests.{eq-eqb, ne_eqb}
use mathlib.Core.Path.{sym, ◌∙◌}
use native.Mathlib.Omega.{arith}
use Rattle.laws.specs.Loops.{said_not_yes, said_not_no}
use Rattle.rules1.specs.Ids.{id_none, id_low_read, id_descriptor, id_some, id_zeros}
use Rattle.rules1.specs.Keys.{key_none, key_some, key_of_row}
use Rattle.rules1.proofs.ids.id_key.Goals as goal

pub returns-then-from-eq-NO_NUMBER : goal.returns-then-from-eq-NO_NUMBER
returns-then-from-eq-NO_NUMBER c = key_none _ _ _ (sym (id_none _ _ _ _ (λ e. omega arith) c.id_of-n.ensures (eq-eqb _ _ (sym c.from.ensures ∙ c.if-from-eq-NO_NUMBER.true))))

pub slot_of-slot-requires : goal.slot_of-slot-requires
slot_of-slot-requires c = id_low_read _ _ c.requires.0 _ _ c.id_of-n.ensures (ne_eqb _ _ (λ e. c.if-from-eq-NO_NUMBER.false (c.from.ensures ∙ e)))

pub name_in-requires : goal.name_in-requires
name_in-requires c = (c.slot_of-slot.ensures.size, id_zeros _ _ c.requires.0 _ _ _ c.id_of-n.ensures (ne_eqb _ _ (λ e. c.if-from-eq-NO_NUMBER.false (c.from.ensures ∙ e))) c.slot_of-slot.ensures)

pub is_id-requires : goal.is_id-requires
is_id-requires c = id_descriptor _ _ c.requires.0 _ _ _ _ c.id_of-n.ensures (ne_eqb _ _ (λ e. c.if-from-eq-NO_NUMBER.false (c.from.ensures ∙ e))) c.slot_of-slot.ensures c.name_in.ensures

pub returns-then-not-is_id : goal.returns-then-not-is_id
returns-then-not-is_id c = key_none _ _ _ (said_not_yes _ _ (id_some _ _ _ _ _ _ _ (λ e. omega arith) c.id_of-n.ensures (ne_eqb _ _ (λ e. c.if-from-eq-NO_NUMBER.false (c.from.ensures ∙ e))) c.slot_of-slot.ensures c.name_in.ensures c.is_id.ensures) (ap not c.if-not-is_id.true))

pub returns : goal.returns
returns c =
    key_some _ _ _ _ (said_not_no _ _ (id_some _ _ _ _ _ _ _ (λ e. omega arith) c.id_of-n.ensures (ne_eqb _ _ (λ e. c.if-from-eq-NO_NUMBER.false (c.from.ensures ∙ e))) c.slot_of-slot.ensures c.name_in.ensures c.is_id.ensures) (ap not c.if-not-is_id.false))
    (key_of_row _ _ _ _ _ _ c.id_of-n.ensures c.slot_of-slot.ensures c.key_of.ensures.0) c.key_of.ensures.1
