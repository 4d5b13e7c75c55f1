use native.Mathlib.Omega.{arith}
use Rattle.onepass.specs.Pass.{ends_none_lem, ends_zero, ends_not, ends_dot}
use Rattle.onepass.proofs.descriptor.ends_here.Goals as goal

pub returns-then-slot-eq0 : goal.returns-then-slot-eq0
returns-then-slot-eq0 c = ends_none_lem _ c.if-slot-eq0.true

pub returns-then-x-eq0 : goal.returns-then-x-eq0
returns-then-x-eq0 c = ends_zero _ (omega arith) c.if-x-eq0.true

pub returns-then-x-ne46 : goal.returns-then-x-ne46
returns-then-x-ne46 c = ends_not _ (omega arith) c.if-x-eq0.false c.if-x-ne46.true

pub returns : goal.returns
returns c = ends_dot _ _ (omega arith) c.if-x-eq0.false c.if-x-ne46.false c.is_star.ensures
