use Rattle.legality.specs.Rows.{final_not, final_under, final_after}
use Rattle.laws.specs.Loops.{told}
use Rattle.definition.specs.Chart.{is_final}
use Rattle.legality.proofs.is_final_under_root.Goals as goal

pub returns-then-not-is_final : goal.returns-then-not-is_final
returns-then-not-is_final c = final_not _ _ (told is_final _ _ _ _ c.kind_of.ensures c.is_final.ensures c.if-not-is_final.true)

pub parent_row-requires : goal.parent_row-requires
parent_row-requires c = record { row = c.requires; later = final_after _ _ c.requires.ready (told is_final _ _ _ _ c.kind_of.ensures c.is_final.ensures c.if-not-is_final.false) }

pub returns : goal.returns
returns c = final_under _ _ _ _ _ (told is_final _ _ _ _ c.kind_of.ensures c.is_final.ensures c.if-not-is_final.false) c.parent_row.ensures.is c.kind_of-2.ensures c.is_root.ensures
