use Rattle.chart.specs.Readers.{parent_is, parent_before}
use native.Mathlib.Omega.{arith}
use Rattle.chart.proofs.parent_row.Goals as goal

pub parent_row-requires : goal.parent_row-requires
parent_row-requires c =
    let p = c.requires.row in
    let b = parent_before _ _ c.requires in
    record { row = record { tables = p.ready.tables; below = p.inside }; parent = omega arith }

pub returns : goal.returns
returns c = parent_is _ _ _ c.requires c.parent_row.ensures.is
