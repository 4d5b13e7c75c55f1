use borrow.Author.Rules.{rules}
use Rattle.elements.specs.Transitions.{test_none, test_row, test_some}
use Rattle.elements.proofs.transitions.lay_test.Goals as goal

pub returns-then-i-eq-NO_NUMBER : goal.returns-then-i-eq-NO_NUMBER
returns-then-i-eq-NO_NUMBER c = search (rules, test_none)

pub lay_condition-requires : goal.lay_condition-requires
lay_condition-requires c = search (rules, test_row)

pub returns : goal.returns
returns c = search (rules, test_some)
