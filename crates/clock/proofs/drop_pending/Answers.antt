use Rattle.clock.specs.Left.{emptied_spells}
use Rattle.clock.proofs.drop_pending.Goals as goal

pub returns : goal.returns
returns c =
    let a = c in
    emptied_spells a.args.clock.now c.clear_u8.new.place _ _ a.requires c.ticks_of-ticks.ensures c.clear_u8.ensures c.put_number.ensures
