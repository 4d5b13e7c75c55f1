-- `pad`: a slot of 64 bytes is a table's.
use Rattle.std.proofs.Common.{sym, ◌∙◌}
use Rattle.names.specs.Slots.{slot_padded}
use Rattle.names.proofs.writing.pad.Goals as goal

pub returns-clause-value : goal.returns-clause-value
returns-clause-value c = c.put_name.ensures ∙ sym (slot_padded _)
