use Rattle.compiler.specs.Targets.{with_in}
use mathlib.Core.Path.{sym, ◌∙◌}
use Rattle.definition.specs.Tables.{chart_of}
use Rattle.compiler.specs.Judging.{aim_none}
use Rattle.compiler.proofs.judging.aim_holds.Goals as goal

pub has_initial-requires : goal.has_initial-requires
has_initial-requires c = with_in _ _ _ c.requires

pub returns-then-not-has_initial : goal.returns-then-not-has_initial
returns-then-not-has_initial c = aim_none (chart_of _) _ _ _ (sym c.has_initial.ensures ∙ c.if-not-has_initial.true) c.is_empty.ensures

pub returns : goal.returns
returns c = c.same.ensures ∙ rw c.default_targets.ensures
