use borrow.Author.Rules.{rules}
use Rattle.walks.specs.Names.{naming_start, naming_end, naming_space, naming_ends, naming_less, naming_room, naming_more}
use Rattle.walks.proofs.name_items.file_names.Goals as goal

pub slice_bounds-file_name-end : goal.slice_bounds-file_name-end
slice_bounds-file_name-end c = search (rules, naming_ends)

pub loop-i-init : goal.loop-i-init
loop-i-init c = search (rules, naming_start)

pub loop-i-preserved-then-space : goal.loop-i-preserved-then-space
loop-i-preserved-then-space c = search (rules, naming_space)

pub file_name-requires : goal.file_name-requires
file_name-requires c = search (rules, naming_room)

pub loop-i-smaller : goal.loop-i-smaller
loop-i-smaller c = search (rules, naming_less)

pub loop-i-preserved : goal.loop-i-preserved
loop-i-preserved c = search (rules, naming_more)

pub returns : goal.returns
returns c = search (rules, naming_end)
