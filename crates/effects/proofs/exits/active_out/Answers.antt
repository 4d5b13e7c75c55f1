use mathlib.Core.Path.{ap, ◌∙◌}
use Rattle.definition.specs.Rows.{minus}
use Rattle.rowset.specs.Member.{rows_of}
use Rattle.effects.specs.Entering.{active_behind}
use Rattle.effects.proofs.exits.active_out.Goals as goal

pub returns : goal.returns
returns c = c.minus-2.ensures ∙ ap (minus (rows_of c.args.conf)) (c.minus.ensures ∙ ap (minus (rows_of c.args.out)) c.below.ensures) ∙ active_behind _ _ _ _ c.row_after-n.ensures
