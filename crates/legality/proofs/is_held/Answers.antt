use Rattle.legality.specs.Rows.{held_root, held_mem}
use Rattle.laws.specs.Loops.{said_yes, said_no}
use Rattle.legality.proofs.is_held.Goals as goal

pub returns-then-is_root : goal.returns-then-is_root
returns-then-is_root c = held_root _ _ _ _ _ c.parent_row-p.ensures.is c.kind_of.ensures (said_yes _ _ c.is_root.ensures c.if-is_root.true)

pub returns : goal.returns
returns c = held_mem _ _ _ _ _ _ c.parent_row-p.ensures.is c.kind_of.ensures (said_no _ _ c.is_root.ensures c.if-is_root.false) c.has.ensures
