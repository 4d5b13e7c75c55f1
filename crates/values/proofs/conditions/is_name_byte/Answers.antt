use mathlib.Core.Path.{sym}
use Rattle.values.proofs.conditions.is_name_byte.Goals as goal

pub returns : goal.returns
returns c = simp (sym c.is_token.ensures)
