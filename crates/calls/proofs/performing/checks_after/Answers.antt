use Rattle.calls.specs.Kept.{after_start, after_other}
use Rattle.calls.proofs.performing.checks_after.Goals as goal

pub returns-then-kind-eq-START : goal.returns-then-kind-eq-START
returns-then-kind-eq-START c = after_start _ _ c.if-kind-eq-START.true

pub returns : goal.returns
returns c = after_other _ _ c.if-kind-eq-START.false
