use mathlib.Core.Path.{sym}
use Rattle.grammar.specs.Grammar.{tag_step}
use Rattle.markup.proofs.tags.tag_step.Goals as goal

pub returns-then-space : goal.returns-then-space
unfolding tag_step
returns-then-space c = simp (sym c.is_space-space.ensures, c.if-space.true)

pub returns-then-opening : goal.returns-then-opening
unfolding tag_step
returns-then-opening c = simp (sym c.is_space-space.ensures, c.if-space.false, sym c.is_complete-whole.ensures, sym c.opened_by-level.ensures, c.if-opening.true)

pub returns-then-empty : goal.returns-then-empty
unfolding tag_step
returns-then-empty c = simp (sym c.is_space-space.ensures, c.if-space.false, sym c.is_complete-whole.ensures, sym c.opened_by-level.ensures, c.if-opening.false, sym c.may_end.ensures, c.if-empty.true)

pub returns : goal.returns
unfolding tag_step
returns c = simp (sym c.is_space-space.ensures, c.if-space.false, sym c.is_complete-whole.ensures, sym c.opened_by-level.ensures, c.if-opening.false, sym c.may_end.ensures, c.if-empty.false)
