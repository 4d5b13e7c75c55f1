use borrow.Author.Rules.{rules}
use Rattle.markup.specs.Stack.{lands_fault, lands_go, lands_open, lands_none, lands_shut, not_zero}
use Rattle.markup.proofs.moved_to.Goals as goal

pub returns-then-depth-eq0 : goal.returns-then-depth-eq0
returns-then-depth-eq0 c = search (rules, lands_none)

pub returns-in-Fault : goal.returns-in-Fault
returns-in-Fault c = search (rules, lands_fault)

pub returns-in-Go : goal.returns-in-Go
returns-in-Go c = search (rules, lands_go)

pub returns-in-Open : goal.returns-in-Open
returns-in-Open c = search (rules, lands_open)

pub returns-else-depth-eq0 : goal.returns-else-depth-eq0
returns-else-depth-eq0 c = search (rules, lands_shut, not_zero _ c.if-depth-eq0.false)
