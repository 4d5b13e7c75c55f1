use borrow.Author.Rules.{rules}
use Rattle.rounds.specs.Starting.{zeros_history, zeros_length}
use Rattle.rounds.proofs.starting.plan_first.Goals as goal

pub slice_bounds-stored-end : goal.slice_bounds-stored-end
slice_bounds-stored-end c = let e = zeros_length _ c.requires.1 in search rules

pub plan_start-requires : goal.plan_start-requires
plan_start-requires c = (c.requires.0, zeros_history _ c.requires.1)

pub returns : goal.returns
returns c = c.plan_start.ensures
