-- `holds_descriptor`: both tests of a slot.
use mathlib.Core.Path.{sym, ap, ◌∙◌}
use Rattle.definition.specs.Names.{is_descriptor}
use Rattle.names.specs.Slots.{front_length, front_before}
use Rattle.names.proofs.slots.holds_descriptor.Goals as goal

pub returns-then-not-ends_blank : goal.returns-then-not-ends_blank
returns-then-not-ends_blank c = rw (sym c.ends_blank.ensures ∙ c.if-not-ends_blank.true)

pub slice_bounds-is_descriptor-end : goal.slice_bounds-is_descriptor-end
slice_bounds-is_descriptor-end c = front_length _ _ c.name_len-n.ensures

pub returns : goal.returns
returns c =
    rw (sym c.ends_blank.ensures ∙ c.if-not-ends_blank.false)
    (c.is_descriptor.ensures ∙ ap is_descriptor (front_before _ _ c.name_len-n.ensures))
