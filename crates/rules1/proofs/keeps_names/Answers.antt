use borrow.Author.Rules.{rules}
use Rattle.laws.specs.Loops.{said-laws}
use Rattle.rules1.specs.Verdicts.{name-laws}
use Rattle.rules1.proofs.keeps_names.Goals as goal

pub returns-then-not-slots_fit : goal.returns-then-not-slots_fit
returns-then-not-slots_fit c = search (rules, said-laws, name-laws)

pub ids_fit-requires : goal.ids_fit-requires
ids_fit-requires c = search (rules, said-laws, name-laws)

pub returns-then-not-ids_fit : goal.returns-then-not-ids_fit
returns-then-not-ids_fit c = search (rules, said-laws, name-laws)

pub returns : goal.returns
returns c = search (rules, said-laws, name-laws)
