use native.Mathlib.Omega.{arith}
use Rattle.onepass.specs.Pass.{star_none, star_not, star_alone, star_more}
use Rattle.onepass.proofs.descriptor.is_star.Goals as goal

pub returns-then-slot-eq0 : goal.returns-then-slot-eq0
returns-then-slot-eq0 c = star_none _ c.if-slot-eq0.true

pub returns-then-slot-ne42 : goal.returns-then-slot-ne42
returns-then-slot-ne42 c = star_not _ (omega arith) c.if-slot-ne42.true

pub returns-then-slot-eq1 : goal.returns-then-slot-eq1
returns-then-slot-eq1 c = star_alone _ c.if-slot-eq1.true c.if-slot-ne42.false

pub returns : goal.returns
returns c = star_more _ (omega arith) c.if-slot-ne42.false
