use borrow.Author.Rules.{rules}
use Rattle.walks.specs.Heads.{head_type, head_cond, transition_out, transition_second, transition_third, transition_in_lem}
use Rattle.walks.proofs.heads.lay_transition.Goals as goal

pub returns-then-t-r : goal.returns-then-t-r
returns-then-t-r c = search (rules, transition_out)

pub condition_at-requires : goal.condition_at-requires
condition_at-requires c = search (rules, head_cond)

pub bounds-out-at-2 : goal.bounds-out-at-2
bounds-out-at-2 c = search (rules, transition_second)

pub internal_at-requires : goal.internal_at-requires
internal_at-requires c = search (rules, head_type)

pub bounds-out-at-3 : goal.bounds-out-at-3
bounds-out-at-3 c = search (rules, transition_third)

pub returns : goal.returns
returns c = search (rules, transition_in_lem)
