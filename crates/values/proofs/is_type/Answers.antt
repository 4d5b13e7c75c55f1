use borrow.Author.Rules.{rules}
use Rattle.values.specs.Plain.{history_so, transition_so}
use Rattle.values.proofs.is_type.Goals as goal

pub returns-then-element-eq4 : goal.returns-then-element-eq4
returns-then-element-eq4 c = search (rules, history_so)

pub returns : goal.returns
returns c = search (rules, transition_so)
