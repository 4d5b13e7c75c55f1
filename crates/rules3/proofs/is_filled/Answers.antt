use Rattle.rules3.specs.Parents.{filled_child, filled_other}
use Rattle.definition.specs.Tables.{chart_of}
use Rattle.rules3.proofs.is_filled.Goals as goal

pub returns-then-is_root-is_parallel : goal.returns-then-is_root-is_parallel
returns-then-is_root-is_parallel c =
    let pre = c.requires in
    filled_child (chart_of _) _ _ _ pre.1 pre.2 _ _ c.has.ensures (rw (c.is_parallel.ensures, c.is_root.ensures, c.kind_of-kind.ensures) at c.if-is_root-is_parallel.true)
    c.has-then-is_root-is_parallel.ensures

pub returns : goal.returns
returns c =
    let pre = c.requires in
    filled_other (chart_of _) _ _ _ pre.1 pre.2 _ c.has.ensures (rw (c.is_parallel.ensures, c.is_root.ensures, c.kind_of-kind.ensures) at c.if-is_root-is_parallel.false)
