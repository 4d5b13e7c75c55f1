use mathlib.Core.Path.{refl}
use native.Mathlib.Omega.{arith}
use Rattle.effects.specs.Kinds.{one_fits, joined}
use Rattle.effects.specs.Trace.{wrote_length, wrote_joins}
use Rattle.effects.proofs.writing.emit_join.Goals as goal

pub overflow_add-result-2 : goal.overflow_add-result-2
overflow_add-result-2 c = let e = c.requires.1 in let m = (one_fits c.args.tally c.args.kind c.args.index c.requires.2).1 in record { fits = omega arith }

pub returns : goal.returns
returns c = joined _ _ _ _ _ _ c.requires.0 c.put.ensures refl _ _ c.put_join.ensures c.requires.1 refl refl

pub shape_of-trace : goal.shape_of-trace
shape_of-trace c = wrote_length _ _ _ _ _ (returns c)

pub shape_of-joins : goal.shape_of-joins
shape_of-joins c = wrote_joins _ _ _ _ _ (returns c)
