use native.Mathlib.Omega.{arith}
use Rattle.values.specs.Trees.{side_hash, side_byte}
use Rattle.values.proofs.noted.side_of.Goals as goal

pub returns-then-depth-lt38 : goal.returns-then-depth-lt38
returns-then-depth-lt38 c = side_hash c.args.name.now c.args.hash c.args.depth (omega arith)

pub returns : goal.returns
returns c = side_byte c.args.name.now c.args.hash c.args.depth c.byte_at.result (omega arith) c.byte_at.ensures
