use native.Mathlib.Omega.{arith}
use Rattle.definition.specs.declared.Mode.TheVariants.{Running}
use Rattle.clock.specs.Spelled.{holds_length}
use Rattle.clock.specs.Removing.{remove_needs, events_behind, ids_behind, remove_done}
use Rattle.clock.proofs.removing.remove.Goals as goal

pub count_of-n-requires : goal.count_of-n-requires
count_of-n-requires c = holds_length Running _ c.requires.0

pub close_dues-requires : goal.close_dues-requires
close_dues-requires c = let a = c in remove_needs a.args.clock.now a.requires.0 a.args.i a.requires.1 _ c.count_of-n.ensures

pub close_events-requires : goal.close_events-requires
close_events-requires c = let a = c in events_behind a.args.clock.now a.requires.0 a.args.i a.requires.1 _ c.count_of-n.ensures _ c.close_dues.ensures

pub close_ids-requires : goal.close_ids-requires
close_ids-requires c = let a = c in ids_behind a.args.clock.now a.requires.0 a.args.i a.requires.1 _ c.count_of-n.ensures _ c.close_dues.ensures _ c.close_events.ensures

pub overflow_sub-n : goal.overflow_sub-n
overflow_sub-n c = let a = c in let e = c.count_of-n.ensures in let l = a.requires.1 in omega arith

pub put_number-requires : goal.put_number-requires
put_number-requires c = omega (arith, c.close_ids.ensures.size)

pub returns : goal.returns
returns c =
    let a = c in
    remove_done a.args.clock.now a.requires.0 a.args.i a.requires.1 _ c.count_of-n.ensures _ c.close_dues.ensures _ c.close_events.ensures _ _ c.close_ids.ensures c.put_number.ensures
