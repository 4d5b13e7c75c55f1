use mathlib.Core.List.{List}
use mathlib.Core.Path.{ap, ◌∙◌}
use Prim.Native.Nat.{ℕ}
use Rattle.definition.specs.Tree.{children}
use Rattle.definition.specs.Tables.{chart_of}
use Rattle.definition.specs.Chart.{is_parallel}
use Rattle.definition.specs.Rows.{subset}
use Rattle.rowset.specs.Member.{rows_of}
use Rattle.laws.specs.Loops.{told}
use Rattle.effects.specs.Entering.{above_done, above_not}
use Rattle.effects.proofs.done.is_done_above.Goals as goal

pub returns-then-is_parallel : goal.returns-then-is_parallel
returns-then-is_parallel c = c.subset.ensures ∙ ap (λ (xs : List ℕ). subset xs (rows_of c.final_below.result)) c.children_of.ensures ∙ ap (subset (children (chart_of c.args.chart.now) c.args.g.0)) c.final_below.ensures ∙ above_done _ c.requires.ready.sound.tree _ _ (told is_parallel _ _ _ _ c.kind_of.ensures c.is_parallel.ensures c.if-is_parallel.true)

pub returns : goal.returns
returns c = above_not _ c.requires.ready.sound.tree _ _ (told is_parallel _ _ _ _ c.kind_of.ensures c.is_parallel.ensures c.if-is_parallel.false)
