use mathlib.Core.Path.{refl}
use native.Mathlib.Omega.{arith}
use Rattle.rules1.specs.Plain.{plain_id, none_id}
use Rattle.rules1.proofs.spelling.is_id.Goals as goal

pub returns-then-n-eq0 : goal.returns-then-n-eq0
returns-then-n-eq0 c = none_id _ c.if-n-eq0.true

pub returns : goal.returns
returns c =
    let a = c in
    plain_id a.args.descriptor.now _ _ a.requires refl (omega arith) c.starts_id.ensures
