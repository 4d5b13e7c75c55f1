use mathlib.Core.Path.{sym, ap, ◌∙◌}
use Rattle.onepass.specs.declared.descriptor.Progress.TheVariants.{Going, Yes}
use mathlib.Core.Bool.{Bool, cond}
use Rattle.onepass.specs.Pass.{begun}
use Rattle.onepass.proofs.descriptor.begin.Goals as goal

pub returns-then-is_star : goal.returns-then-is_star
unfolding begun
returns-then-is_star c = sym (ap (λ (b : Bool). cond b Yes Going) (sym c.is_star.ensures ∙ c.if-is_star.true))

pub returns : goal.returns
unfolding begun
returns c = sym (ap (λ (b : Bool). cond b Yes Going) (sym c.is_star.ensures ∙ c.if-is_star.false))
