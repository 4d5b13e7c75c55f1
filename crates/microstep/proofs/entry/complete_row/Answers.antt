use mathlib.Core.Path.{sym, ◌∙◌}
use Rattle.definition.specs.Chart.{is_parallel}
use Rattle.laws.specs.Loops.{told}
use Rattle.microstep.specs.Entry.{all_atomic, complete_leaf, complete_parallel, complete_atomic, complete_met, complete_bare, initial_children}
use Rattle.microstep.proofs.entry.complete_row.Goals as goal

pub returns-then-has : goal.returns-then-has
returns-then-has c = complete_leaf _ _ _ _ _ _ (all_atomic _ _ c.requires.0.store.atomic) (sym c.has.ensures ∙ c.if-has.true) c.requires.2

pub children_of-kids-requires : goal.children_of-kids-requires
children_of-kids-requires c = record { ready = c.requires.0.store.ready; inside = c.requires.1 }

pub kind_of-requires : goal.kind_of-requires
kind_of-requires c = record { tables = c.requires.0.store.ready.tables; below = c.requires.1 }

pub returns-then-is_parallel : goal.returns-then-is_parallel
returns-then-is_parallel c = complete_parallel _ _ _ _ _ _ c.children_of-kids.ensures c.requires.2 _ c.union.ensures (told is_parallel _ _ _ _ c.kind_of.ensures c.is_parallel.ensures c.if-is_parallel.true)

pub is_compound-requires : goal.is_compound-requires
is_compound-requires c = record { ready = c.requires.0.store.ready; inside = c.requires.1 }

pub returns-then-not-is_compound : goal.returns-then-not-is_compound
returns-then-not-is_compound c = complete_atomic _ _ _ _ _ _ c.children_of-kids.ensures c.requires.2 (told is_parallel _ _ _ _ c.kind_of.ensures c.is_parallel.ensures c.if-is_parallel.false) (sym c.is_compound.ensures ∙ c.if-not-is_compound.true)

pub returns-then-meets : goal.returns-then-meets
returns-then-meets c = complete_met _ _ _ _ _ _ c.children_of-kids.ensures c.requires.2 (told is_parallel _ _ _ _ c.kind_of.ensures c.is_parallel.ensures c.if-is_parallel.false) (sym c.is_compound.ensures ∙ c.if-not-is_compound.false) (sym c.meets.ensures ∙ c.if-meets.true)

pub default_targets_of-targets-requires : goal.default_targets_of-targets-requires
default_targets_of-targets-requires c = record { ready = c.requires.0.store.ready; inside = c.requires.1 }

pub returns-then-subset : goal.returns-then-subset
returns-then-subset c = complete_bare _ _ _ _ _ _ c.children_of-kids.ensures c.requires.2 _ _ _ (told is_parallel _ _ _ _ c.kind_of.ensures c.is_parallel.ensures c.if-is_parallel.false) (sym c.is_compound.ensures ∙ c.if-not-is_compound.false) (sym c.meets.ensures ∙ c.if-meets.false) c.union-then-subset.ensures (initial_children _ c.requires.0.store.ready.sound _ _ _ c.default_targets_of-targets.ensures c.children_of-kids.ensures (sym c.subset.ensures ∙ c.if-subset.true) _) c.with.ensures

pub returns : goal.returns
returns c = complete_bare _ _ _ _ _ _ c.children_of-kids.ensures c.requires.2 _ _ _ (told is_parallel _ _ _ _ c.kind_of.ensures c.is_parallel.ensures c.if-is_parallel.false) (sym c.is_compound.ensures ∙ c.if-not-is_compound.false) (sym c.meets.ensures ∙ c.if-meets.false) c.union-2.ensures c.initial_paths.ensures c.with-2.ensures
