use borrow.Author.Rules.{rules}
use mathlib.Core.Path.{sym, ◌∙◌}
use Rattle.tables.specs.Parts.{condition_always, condition_in_lem}
use Rattle.tables.specs.Ranges.{condition_below}
use Rattle.tables.proofs.transitions.condition_of.Goals as goal

pub returns-then-x-eq-NO_NUMBER : goal.returns-then-x-eq-NO_NUMBER
returns-then-x-eq-NO_NUMBER c = condition_always _ _ (sym c.transition_cell-x.ensures ∙ c.if-x-eq-NO_NUMBER.true)

pub overflow_cast-result : goal.overflow_cast-result
overflow_cast-result c = let l = condition_below _ _ _ c.requires c.transition_cell-x.ensures c.if-x-eq-NO_NUMBER.false in search rules

pub returns : goal.returns
returns c = condition_in_lem _ _ _ c.requires c.transition_cell-x.ensures c.if-x-eq-NO_NUMBER.false
