use Rattle.std.proofs.Common.{refl, ap, not}
use Rattle.read_text.specs.Count.{count_clear, count_room, count_totals, count_many, count_starts, count_begun}
use Rattle.read_text.proofs.fill.count_tables.Goals as goal

pub clear-requires : goal.clear-requires
clear-requires c = count_clear _ _ _ _ _ _ _ _ _ c.requires

pub file_items-requires : goal.file_items-requires
file_items-requires c = count_room _ _ _ _ _ _ _ _ _ c.requires _ c.clear.ensures

pub is_within-within-requires : goal.is_within-within-requires
is_within-within-requires c = count_totals _ _ _ _ _ _ _ _ _ c.requires _ _ _ _ c.file_items.ensures

pub returns-then-not-within : goal.returns-then-not-within
returns-then-not-within c = count_many _ _ _ _ _ _ _ _ _ c.requires _ _ _ _ c.file_items.ensures _ c.is_within-within.ensures (ap not c.if-not-within.true)

pub starts-end-requires : goal.starts-end-requires
starts-end-requires c = count_starts _ _ _ _ _ _ _ _ _ c.requires _ _ _ _ c.file_items.ensures _ refl

pub returns : goal.returns
returns c = count_begun _ _ _ _ _ _ _ _ _ c.requires _ _ _ _ c.file_items.ensures _ refl _ _ _ c.starts-end.ensures refl
