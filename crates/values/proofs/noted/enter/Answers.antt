use borrow.Author.Rules.{rules}
use Rattle.values.specs.Notes.{enter_high, enter_left, enter_right, enter_tag, enter_done}
use Rattle.values.proofs.noted.enter.Goals as goal

pub bounds-ids-n-2 : goal.bounds-ids-n-2
bounds-ids-n-2 c = search (rules, enter_high)

pub bounds-ids-own : goal.bounds-ids-own
bounds-ids-own c = search (rules, enter_left)

pub bounds-ids-own-2 : goal.bounds-ids-own-2
bounds-ids-own-2 c = search (rules, enter_right)

pub bounds-ids-own-3 : goal.bounds-ids-own-3
bounds-ids-own-3 c = search (rules, enter_tag)

pub returns : goal.returns
returns c = search (rules, enter_done)
