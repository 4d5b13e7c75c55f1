use Rattle.clock.specs.Closing.{closed_part}
use Rattle.clock.proofs.closing.close_due.Goals as goal

pub returns : goal.returns
returns c = let a = c in closed_part 8 a.args.dues.now a.args.i _ c.close_first.ensures
