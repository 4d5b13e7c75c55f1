use borrow.Author.Rules.{rules}
use Rattle.elements.specs.Transitions.{type_none, type_some}
use Rattle.elements.proofs.transitions.lay_type.Goals as goal

pub returns-then-not-is_internal : goal.returns-then-not-is_internal
returns-then-not-is_internal c = search (rules, type_none)

pub returns : goal.returns
returns c = search (rules, type_some)
