use native.Mathlib.Omega.{arith}
use Rattle.laws.specs.Loops.{told}
use Rattle.rules3.specs.Parents.{history_parent}
use Rattle.rules3.specs.Ancestry.{anchor_self, anchor_parent}
use Rattle.definition.specs.Chart.{is_history}
use Rattle.rules3.proofs.anchor_of.Goals as goal

pub parent_row-requires : goal.parent_row-requires
parent_row-requires c =
    let pre = c.requires in
    let is = told is_history _ _ _ _ c.kind_of.ensures c.is_history.ensures c.if-is_history.true in
    let l = history_parent _ pre.0 _ pre.1 is in
    let m = pre.1.below in
    record { row = pre.1; parent = omega arith }

pub returns-then-is_history : goal.returns-then-is_history
returns-then-is_history c = anchor_parent _ _ c.requires.1 _ (told is_history _ _ _ _ c.kind_of.ensures c.is_history.ensures c.if-is_history.true) c.parent_row.ensures

pub returns : goal.returns
returns c = anchor_self _ _ c.requires.1 (told is_history _ _ _ _ c.kind_of.ensures c.is_history.ensures c.if-is_history.false)
