use Rattle.compiler.specs.Targets.{with_anchor}
use Rattle.laws.specs.Passes.{Walked}
use Rattle.rowset.specs.Member.{rows_of}
use Rattle.definition.specs.Tables.{chart_of}
use mathlib.Core.List.{[]}
use lib.ListN.{length}
use Rattle.compiler.proofs.columns.anchors.Given as goal

abbrev pub invariant-loop-k : goal.invariant-loop-k
invariant-loop-k l = Walked (with_anchor (chart_of l.numbers)) [] (rows_of l.set) l.targets (length l.targets) l.k
