use Rattle.cells.specs.Totals.{references_sum, descriptors_sum, actions_sum, summed, summed_front, within_references, within_descriptors, within_actions}
use Rattle.cells.proofs.totals.is_within.Goals as goal

pub returns-then-references-gt-ROOM_FOR_REFERENCES : goal.returns-then-references-gt-ROOM_FOR_REFERENCES
returns-then-references-gt-ROOM_FOR_REFERENCES c = within_references _ _ _ c.requires _ (summed_front _ _ _ (references_sum _ _ _ c.requires) c.sum-references.ensures) c.if-references-gt-ROOM_FOR_REFERENCES.true

pub returns-then-descriptors-gt-ROOM_FOR_DESCRIPTORS : goal.returns-then-descriptors-gt-ROOM_FOR_DESCRIPTORS
returns-then-descriptors-gt-ROOM_FOR_DESCRIPTORS c =
    within_descriptors _ _ _ c.requires _ (summed_front _ _ _ (references_sum _ _ _ c.requires) c.sum-references.ensures) c.if-references-gt-ROOM_FOR_REFERENCES.false _
    (summed _ _ _ _ (descriptors_sum _ _ _ c.requires) c.sum-descriptors.ensures) c.if-descriptors-gt-ROOM_FOR_DESCRIPTORS.true

pub returns : goal.returns
returns c =
    within_actions _ _ _ c.requires _ (summed_front _ _ _ (references_sum _ _ _ c.requires) c.sum-references.ensures) c.if-references-gt-ROOM_FOR_REFERENCES.false _
    (summed _ _ _ _ (descriptors_sum _ _ _ c.requires) c.sum-descriptors.ensures) c.if-descriptors-gt-ROOM_FOR_DESCRIPTORS.false _
    (summed _ _ _ _ (actions_sum _ _ _ c.requires) c.sum-cells.ensures)
