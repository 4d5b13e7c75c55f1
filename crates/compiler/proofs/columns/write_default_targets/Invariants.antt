use Rattle.compiler.specs.Turns.{Following}
use Rattle.definition.specs.Tables.{row_count}
use mathlib.Core.Path.{◌≡◌}
use Rattle.compiler.proofs.columns.write_default_targets.Given as goal

abbrev pub invariant-loop-i : goal.invariant-loop-i
invariant-loop-i l = (l.rows ≡ row_count l.numbers) × Following l.numbers l.i l.initial.sets l.sets
