use native.Mathlib.Omega.{arith}
use Rattle.clock.specs.Cancelling.{slot_inside_behind, name_said}
use Rattle.clock.proofs.cancelling.has_id.Goals as goal

pub name_in-requires : goal.name_in-requires
name_in-requires c = let a = c in slot_inside_behind a.args.clock.now 2320 a.args.i a.requires.0 (omega arith) a.requires.1

pub returns : goal.returns
returns c = let a = c in name_said a.args.clock.now 2320 a.args.i _ _ _ c.name_in.ensures c.equal.ensures
