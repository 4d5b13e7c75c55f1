use mathlib.Core.Path.{sym}
use Prim.Native.Nat.{◌*◌}
use native.Mathlib.Omega.{arith}
use lib.Seq.{length-take-le}
use Rattle.queue.specs.Places.{oldest_left}
use Rattle.queue.proofs.take_oldest.Goals as goal

pub slice_bounds-close_first-end-2 : goal.slice_bounds-close_first-end-2
slice_bounds-close_first-end-2 c = sym (length-take-le _ _ c.requires.inside)

pub close_first-requires : goal.close_first-requires
close_first-requires c = let l = c.requires.inside in let s = c.requires.some in omega (arith, length-take-le (c.args.count * 64) c.args.queue.now l)

pub returns : goal.returns
returns c = oldest_left _ _ _ c.requires c.close_first.ensures
