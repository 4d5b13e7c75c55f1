use mathlib.Core.Path.{refl}
use native.Mathlib.Omega.{arith}
use Rattle.effects.specs.Putting.{skip_none}
use Rattle.effects.proofs.writing.skipped.Goals as goal

pub returns-then-joins-le-SKIP : goal.returns-then-joins-le-SKIP
returns-then-joins-le-SKIP c = skip_none c.args.joins.now c.if-joins-le-SKIP.true

pub overflow_cast-result : goal.overflow_cast-result
overflow_cast-result c = omega (arith, c.shared_slice_known-1.given 32)

pub returns : goal.returns
returns c = refl
