use mathlib.Core.Path.{sym}
use Rattle.grammar.specs.Grammar.{name_step}
use Rattle.markup.proofs.values.of_names.Goals as goal

pub returns-then-token : goal.returns-then-token
unfolding name_step
returns-then-token c = simp (sym c.is_token.ensures, c.if-token.true)

pub returns-then-dot : goal.returns-then-dot
unfolding name_step
returns-then-dot c = simp (sym c.is_token.ensures, c.if-token.false, c.if-dot.true)

pub returns-then-first : goal.returns-then-first
unfolding name_step
returns-then-first c = simp (sym c.is_token.ensures, c.if-token.false, c.if-dot.false, sym c.is_space.ensures, c.if-first.true)

pub returns-then-later : goal.returns-then-later
unfolding name_step
returns-then-later c = simp (sym c.is_token.ensures, c.if-token.false, c.if-dot.false, sym c.is_space.ensures, c.if-first.false, c.if-later.true)

pub returns-then-star : goal.returns-then-star
unfolding name_step
returns-then-star c = simp (sym c.is_token.ensures, c.if-token.false, c.if-dot.false, sym c.is_space.ensures, c.if-first.false, c.if-later.false, c.if-star.true)

pub returns : goal.returns
unfolding name_step
returns c = simp (sym c.is_token.ensures, c.if-token.false, c.if-dot.false, sym c.is_space.ensures, c.if-first.false, c.if-later.false, c.if-star.false)
