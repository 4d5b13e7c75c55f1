-- `done_name`: a slot of 64 bytes is a table's.
use Rattle.std.proofs.Common.{sym, ◌∙◌}
use Rattle.names.specs.Slots.{slot_padded}
use Rattle.names.proofs.writing.done_name.Goals as goal

pub returns-clause-value : goal.returns-clause-value
returns-clause-value c = c.put_done_name.ensures ∙ sym (slot_padded _)
