use mathlib.Core.Path.{sym}
use Rattle.grammar.specs.Grammar.{quote_step}
use Rattle.markup.proofs.values.quote_step.Goals as goal

pub returns-then-space : goal.returns-then-space
unfolding quote_step
returns-then-space c = simp (sym c.is_space-space.ensures, c.if-space.true)

pub returns-then-quote : goal.returns-then-quote
unfolding quote_step
returns-then-quote c = simp (sym c.is_space-space.ensures, c.if-space.false, c.if-quote.true)

pub returns : goal.returns
unfolding quote_step
returns c = simp (sym c.is_space-space.ensures, c.if-space.false, c.if-quote.false)
