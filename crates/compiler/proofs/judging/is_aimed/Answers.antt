use native.Mathlib.Omega.{arith}
use Rattle.compiler.specs.Judging.{aimed_same, kids_read}
use Rattle.compiler.proofs.judging.is_aimed.Goals as goal

pub set_at-set-requires : goal.set_at-set-requires
set_at-set-requires c = let p = c.requires.0.room in record { inside = omega arith }

pub set_at-own-requires : goal.set_at-own-requires
set_at-own-requires c = let p = c.requires.1.room in record { inside = omega arith }

pub aim_holds-requires : goal.aim_holds-requires
aim_holds-requires c =
    let p = c.requires.0 in
    record { numbers_keep = p.numbers_keep; inside = c.requires.2; are = kids_read _ _ c.args.i _ p c.requires.2 c.set_at-set.ensures }

pub returns : goal.returns
returns c = aimed_same _ _ c.args.i _ c.set_at-own.ensures _ c.aim_holds.ensures
