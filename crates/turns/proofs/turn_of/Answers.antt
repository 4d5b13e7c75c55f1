use borrow.Author.Rules.{rules}
use Rattle.turns.specs.Spots.{turn_row, turn_moving, turn_other}
use Rattle.turns.proofs.turn_of.Goals as goal

pub returns-then-element-le4 : goal.returns-then-element-le4
returns-then-element-le4 c = search (rules, turn_row)

pub returns-then-element-entering : goal.returns-then-element-entering
returns-then-element-entering c = search (rules, turn_moving)

pub returns : goal.returns
returns c = search (rules, turn_other)
