use borrow.Author.Rules.{rules}
use Rattle.lay.specs.Names.{names_begin, names_low, names_high, names_slot, names_fits, names_turn, names_end}
use Rattle.lay.proofs.name_slots.lay_names.Goals as goal

pub loop-k-init : goal.loop-k-init
loop-k-init c = search (rules, names_begin)

pub number_at-at-requires : goal.number_at-at-requires
number_at-at-requires c = search (rules, names_low)

pub number_at-long-requires : goal.number_at-long-requires
number_at-long-requires c = search (rules, names_high)

pub overflow_add-to : goal.overflow_add-to
overflow_add-to c = search (rules, names_fits)

pub lay_slot-requires : goal.lay_slot-requires
lay_slot-requires c = search (rules, names_slot)

pub loop-k-preserved : goal.loop-k-preserved
loop-k-preserved c = search (rules, names_turn)

pub returns : goal.returns
returns c = search (rules, names_end)
