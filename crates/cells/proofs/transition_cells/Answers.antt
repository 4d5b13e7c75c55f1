use borrow.Author.Rules.{rules}
use Rattle.cells.specs.Ends.{transitions_begin, transitions_room_lem, transitions_turn, transitions_end}
use Rattle.cells.proofs.transition_cells.Goals as goal

pub loop-r-init : goal.loop-r-init
loop-r-init c = search (rules, transitions_begin)

pub lay_transition-requires : goal.lay_transition-requires
lay_transition-requires c = search (rules, transitions_room_lem)

pub loop-r-preserved : goal.loop-r-preserved
loop-r-preserved c = search (rules, transitions_turn)

pub returns : goal.returns
returns c = search (rules, transitions_end)
