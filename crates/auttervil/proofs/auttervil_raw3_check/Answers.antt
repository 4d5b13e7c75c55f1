-- `auttervil_raw3_check`: 0 or 8 by what the check of the compiler says.
use mathlib.Core.Path.{sym, ap, ◌∙◌}
use mathlib.Core.Bool.{Bool, cond}
use Rattle.definition.specs.declared.Answer.TheVariants.{Done, BadChart}
use Rattle.definition.specs.Answers.{answer_no}
use Rattle.auttervil.proofs.auttervil_raw3_check.Goals as goal

pub returns-then-check : goal.returns-then-check
returns-then-check c = c.answer_number.ensures ∙ ap (λ (b : Bool). answer_no (cond b Done BadChart)) (sym c.if-check.true ∙ c.check.ensures)

pub returns : goal.returns
returns c = c.answer_number-2.ensures ∙ ap (λ (b : Bool). answer_no (cond b Done BadChart)) (sym c.if-check.false ∙ c.check.ensures)
