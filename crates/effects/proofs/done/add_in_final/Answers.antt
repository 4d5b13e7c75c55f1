use mathlib.Core.Path.{sym, ◌∙◌}
use Rattle.effects.specs.Entering.{final_added, final_kept}
use Rattle.effects.proofs.done.add_in_final.Goals as goal

pub returns-then-is_in_final : goal.returns-then-is_in_final
returns-then-is_in_final c = c.with.ensures ∙ final_added _ _ _ _ (sym c.is_in_final.ensures ∙ c.if-is_in_final.true)

pub returns : goal.returns
returns c = final_kept _ _ _ _ (sym c.is_in_final.ensures ∙ c.if-is_in_final.false)
