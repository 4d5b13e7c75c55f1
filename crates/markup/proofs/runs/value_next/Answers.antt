use mathlib.Core.Path.{refl, sym, ◌∙◌}
use Rattle.markup.specs.Runs.{value_next}
use Rattle.markup.proofs.runs.value_next.Goals as goal

pub returns-then-not-plain : goal.returns-then-not-plain
unfolding value_next
returns-then-not-plain c = sym (rw (sym c.is_char-plain.ensures ∙ c.if-not-plain.true) refl)

pub returns-then-other : goal.returns-then-other
unfolding value_next
returns-then-other c = sym (rw (sym c.is_char-plain.ensures ∙ c.if-not-plain.false, c.if-other.true) refl)

pub returns : goal.returns
unfolding value_next
returns c = c.value_step.ensures ∙ sym (rw (sym c.is_char-plain.ensures ∙ c.if-not-plain.false, c.if-other.false) refl)
