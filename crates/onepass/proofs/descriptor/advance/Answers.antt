use mathlib.Core.Path.{sym, ap, ◌∙◌}
use native.Mathlib.Omega.{arith}
use Rattle.onepass.specs.declared.descriptor.Progress.TheVariants.{Going, Yes, No}
use mathlib.Core.Bool.{Bool, cond}
use borrow.Author.Tests.{eq-eqb, ne_eqb}
use Rattle.onepass.specs.Pass.{advanced_end, advanced_on, never_ends}
use Rattle.onepass.proofs.descriptor.advance.Goals as goal

pub returns-then-b-eq46 : goal.returns-then-b-eq46
returns-then-b-eq46 c = sym (advanced_end _ _ (sym c.ends_here.ensures ∙ c.if-ends_here.true) ∙ ap (λ (b : Bool). cond b Yes No) (eq-eqb _ _ c.if-b-eq46.true))

pub returns-then-ends_here : goal.returns-then-ends_here
returns-then-ends_here c = sym (advanced_end _ _ (sym c.ends_here.ensures ∙ c.if-ends_here.true) ∙ ap (λ (b : Bool). cond b Yes No) (ne_eqb _ _ c.if-b-eq46.false))

pub returns-then-slot-eq0 : goal.returns-then-slot-eq0
returns-then-slot-eq0 c = absurd (never_ends _ c.if-slot-eq0.true (sym c.ends_here.ensures ∙ c.if-ends_here.false))

pub returns-then-slot-b : goal.returns-then-slot-b
returns-then-slot-b c = sym (advanced_on _ _ (omega arith) (sym c.ends_here.ensures ∙ c.if-ends_here.false) ∙ ap (λ (b : Bool). cond b Going No) (eq-eqb _ _ c.if-slot-b.true))

pub returns : goal.returns
returns c = sym (advanced_on _ _ (omega arith) (sym c.ends_here.ensures ∙ c.if-ends_here.false) ∙ ap (λ (b : Bool). cond b Going No) (ne_eqb _ _ c.if-slot-b.false))
