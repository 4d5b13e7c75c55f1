use borrow.Author.Rules.{rules}
use Rattle.turns.specs.Turns.{enter_one, enter_two, enter_around, enter_inside, enter_empty, enter_opening}
use Rattle.turns.proofs.enter.Goals as goal

pub store_spot-requires : goal.store_spot-requires
store_spot-requires c = search (rules, enter_around)

pub overflow_add-base : goal.overflow_add-base
overflow_add-base c = search (rules, enter_one)

pub store_spot-requires-then-shape-eq0 : goal.store_spot-requires-then-shape-eq0
store_spot-requires-then-shape-eq0 c = search (rules, enter_inside)

pub overflow_add-result : goal.overflow_add-result
overflow_add-result c = search (rules, enter_two)

pub returns-then-shape-eq0 : goal.returns-then-shape-eq0
returns-then-shape-eq0 c = search (rules, enter_opening)

pub overflow_add-result-2 : goal.overflow_add-result-2
overflow_add-result-2 c = search (rules, enter_one)

pub returns : goal.returns
returns c = search (rules, enter_empty)
