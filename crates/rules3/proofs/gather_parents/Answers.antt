use borrow.Author.Rules.{rules}
use native.Mathlib.Omega.{arith}
use Rattle.laws.specs.Loops.{told}
use Rattle.rules3.specs.Parents.{marks_begin, marks_skip, marks_add, first_no_child, plain_no_history, history_no_child, plain_child, history_of, root_plain, tree_parent, marks_end}
use Rattle.definition.specs.Chart.{is_history}
use Rattle.definition.specs.Tables.{chart_of}
use Rattle.rules3.proofs.gather_parents.Goals as goal
use Rattle.rules3.proofs.gather_parents.Goals.{then-is_history, else-is_history}

pub loop-i-init : goal.loop-i-init
loop-i-init c = (search rules, search rules, marks_begin _ _ c.empty-children.ensures (first_no_child (chart_of _)), marks_begin _ _ c.empty-histories.ensures (plain_no_history (chart_of _) 0 (root_plain _ c.requires)))

pub parent_row-p-requires : goal.parent_row-p-requires
parent_row-p-requires c = let l = tree_parent _ c.requires c.loop-i.i (omega arith) (omega arith) in record { row = record { tables = c.requires.tables; below = omega arith }; parent = omega arith }

pub loop-i-preserved : goal.loop-i-preserved
loop-i-preserved c =
    let l = tree_parent _ c.requires c.loop-i.i (omega arith) (omega arith) in
    elim c.if-is_history.branch [
      | then-is_history w ↦ (
        omega arith,
        omega arith,
        rw w.children-is (marks_skip _ _ _ c.loop-i.invariant.2 (history_no_child (chart_of _) _ (told is_history _ _ _ _ c.kind_of.ensures c.is_history.ensures w.if-is_history.true))),
        rw w.histories-is (marks_add _ _ _ _ _ c.loop-i.invariant.3 w.with-histories.ensures (history_of (chart_of _) _ _ (told is_history _ _ _ _ c.kind_of.ensures c.is_history.ensures w.if-is_history.true) c.parent_row-p.ensures.is)),
      )
      | else-is_history w ↦ (
        omega arith,
        omega arith,
        rw w.children-is (marks_add _ _ _ _ _ c.loop-i.invariant.2 w.with-children.ensures (plain_child (chart_of _) _ _ (told is_history _ _ _ _ c.kind_of.ensures c.is_history.ensures w.if-is_history.false) l c.parent_row-p.ensures.is)),
        rw w.histories-is (marks_skip _ _ _ c.loop-i.invariant.3 (plain_no_history (chart_of _) _ (told is_history _ _ _ _ c.kind_of.ensures c.is_history.ensures w.if-is_history.false))),
      )
    ]

pub returns : goal.returns
returns c = let o = c.loop-i in (
  marks_end _ o.i c.row_count-n.result _ _ (omega arith) (omega arith) c.row_count-n.ensures o.invariant.2,
  marks_end _ o.i c.row_count-n.result _ _ (omega arith) (omega arith) c.row_count-n.ensures o.invariant.3,
)
