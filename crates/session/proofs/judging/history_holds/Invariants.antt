use mathlib.Core.Path.{◌≡◌}
use mathlib.Core.Bool.{true}
use Prim.Native.Nat.{◌-◌, ◌≤◌}
use Rattle.definition.specs.Rows.{all, from}
use Rattle.definition.specs.Tables.{chart_of}
use Rattle.session.specs.Judged.{holds_place}
use Rattle.session.proofs.judging.history_holds.Given as goal

abbrev pub invariant-loop-h : goal.invariant-loop-h
invariant-loop-h l = (l.h ≤ l.rows) × (all (holds_place (chart_of l.chart) l.history) (from l.h 0) ≡ true)
