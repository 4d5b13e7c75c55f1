use borrow.Author.Rules.{rules}
use Rattle.facts.specs.Facts.{said_row, said_none, said_action, said_list, said_transition}
use Rattle.facts.proofs.said_of.Goals as goal

pub returns-then-element-le4 : goal.returns-then-element-le4
returns-then-element-le4 c = search (rules, said_row)

pub returns-then-block : goal.returns-then-block
returns-then-block c = search (rules, said_none)

pub returns-then-not-moving : goal.returns-then-not-moving
returns-then-not-moving c = search (rules, said_action)

pub returns-then-entering-wants : goal.returns-then-entering-wants
returns-then-entering-wants c = search (rules, said_list)

pub returns : goal.returns
returns c = search (rules, said_transition)
