use mathlib.Core.Path.{◌≡◌}
use mathlib.Core.List.{◌∷◌}
use Rattle.definition.specs.Rows.{mem}
use Rattle.definition.specs.Tree.{ancestors}
use Rattle.tables.specs.Ranges.{RowIn}
use Rattle.definition.specs.Tables.{chart_of}
use Rattle.rules3.proofs.is_on_path.Given as goal

abbrev pub invariant-loop-a : goal.invariant-loop-a
invariant-loop-a l = RowIn l.numbers l.a × (mem l.p (l.initial.a ∷ ancestors (chart_of l.numbers) l.initial.a) ≡ mem l.p (l.a ∷ ancestors (chart_of l.numbers) l.a))

abbrev pub decreases-loop-a : goal.decreases-loop-a
decreases-loop-a l = l.a
