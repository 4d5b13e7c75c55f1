-- `slot_names`: both tests of a slot.
use mathlib.Core.Path.{sym, ap, ◌∙◌}
use Rattle.definition.specs.Names.{is_name}
use Rattle.names.specs.Slots.{front_length, front_before}
use Rattle.names.proofs.slots.slot_names.Goals as goal

pub returns-then-not-ends_blank : goal.returns-then-not-ends_blank
returns-then-not-ends_blank c = rw (sym c.ends_blank.ensures ∙ c.if-not-ends_blank.true)

pub slice_bounds-is_name-end : goal.slice_bounds-is_name-end
slice_bounds-is_name-end c = front_length _ _ c.name_len-n.ensures

pub returns : goal.returns
returns c =
    rw (sym c.ends_blank.ensures ∙ c.if-not-ends_blank.false)
    (c.is_name.ensures ∙ ap is_name (front_before _ _ c.name_len-n.ensures))
