use mathlib.Core.Path.{sym, ◌∙◌}
use Rattle.rounds.specs.Committing.{mode_closing, mode_running}
use Rattle.rounds.proofs.taking.mode_of.Goals as goal

pub returns-then-has_final : goal.returns-then-has_final
returns-then-has_final c = mode_closing _ _ (sym c.has_final.ensures ∙ c.if-has_final.true)

pub returns : goal.returns
returns c = mode_running _ _ (sym c.has_final.ensures ∙ c.if-has_final.false)
