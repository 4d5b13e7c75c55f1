use mathlib.Core.Path.{◌≡◌}
use mathlib.Core.Bool.{true}
use Prim.Native.Nat.{◌≤◌}
use lib.ListN.{length, take}
use Rattle.definition.specs.Tables.{chart_of}
use Rattle.definition.specs.Rules.{are_apart}
use Rattle.rules.specs.Beside.{anchor_only, over_anchor, Gathered}
use Rattle.rules.proofs.apart.are_apart.Given as goal

abbrev pub invariant-loop-k : goal.invariant-loop-k
invariant-loop-k l =
    (l.k ≤ length l.list) × (are_apart (chart_of l.numbers) (take l.k l.list) ≡ true) ×
    Gathered (anchor_only (chart_of l.numbers)) (take l.k l.list) l.anchors × Gathered (over_anchor (chart_of l.numbers)) (take l.k l.list) l.above
