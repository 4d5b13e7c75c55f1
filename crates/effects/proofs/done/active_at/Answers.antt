use mathlib.Core.Path.{ap, ◌∙◌}
use Rattle.definition.specs.Rows.{union, intersection}
use Rattle.rowset.specs.Member.{rows_of}
use Rattle.effects.specs.Entering.{active_up}
use Rattle.effects.proofs.done.active_at.Goals as goal

pub returns : goal.returns
returns c = c.union.ensures ∙ ap (union (rows_of c.args.stay)) (c.intersection.ensures ∙ ap (intersection (rows_of c.args.set)) c.below.ensures) ∙ active_up _ _ _ _ c.row_after-n.ensures
