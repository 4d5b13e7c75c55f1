use native.Mathlib.Omega.{arith}
use Rattle.rules.specs.Lists.{default_none, default_children, default_descendants}
use Rattle.laws.specs.Loops.{told}
use Rattle.rules3.specs.Parents.{history_parent}
use Rattle.definition.specs.Chart.{is_shallow}
use Rattle.rules.proofs.lists.default_fits.Goals as goal

pub returns-then-list-eq0 : goal.returns-then-list-eq0
returns-then-list-eq0 c = default_none _ _ _ c.list_of-list.ensures.is c.if-list-eq0.true

pub parent_row-p-requires : goal.parent_row-p-requires
parent_row-p-requires c = let l = history_parent _ c.requires.0.tree _ c.requires.1 c.requires.2 in let m = c.requires.1.below in record { row = c.requires.1; parent = omega arith }

pub returns-then-is_shallow : goal.returns-then-is_shallow
returns-then-is_shallow c =
    let kind = told is_shallow _ _ _ _ c.kind_of.ensures c.is_shallow.ensures c.if-is_shallow.true in
    default_children _ _ _ c.list_of-list.ensures.is c.if-list-eq0.false _ c.parent_row-p.ensures.is _ kind c.all_children.ensures

pub returns : goal.returns
returns c =
    let kind = told is_shallow _ _ _ _ c.kind_of.ensures c.is_shallow.ensures c.if-is_shallow.false in
    default_descendants _ _ _ c.list_of-list.ensures.is c.if-list-eq0.false _ c.parent_row-p.ensures.is _ kind c.all_descendants.ensures
