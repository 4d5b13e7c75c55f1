use mathlib.Core.Path.{refl, sym, ◌∙◌}
use Rattle.rowset.specs.Visits.{found_next, next_less}
use Rattle.microstep.specs.Entry.{all_atomic, atomic_aim, completing_begin, completing_row, completing_turn, completing_end}
use Rattle.microstep.proofs.entry.entry_set.Goals as goal

pub loop-r-init : goal.loop-r-init
loop-r-init c = completing_begin _ _ _ _ refl c.empty-none.ensures c.requires.1

pub complete_row-e-requires : goal.complete_row-e-requires
complete_row-e-requires c = (c.requires.0, completing_row _ _ _ _ _ _ _ c.loop-r.invariant c.next_from.ensures c.in-Some.is, (found_next _ _ _ c.next_from.ensures _ c.in-Some.is).here)

pub loop-r-smaller : goal.loop-r-smaller
loop-r-smaller c = rw c.row_after-k.ensures (next_less _ _ _ c.next_from.ensures _ c.in-Some.is)

pub loop-r-preserved : goal.loop-r-preserved
loop-r-preserved c = rw c.row_after-k.ensures (completing_turn _ _ _ _ _ _ _ _ c.loop-r.invariant c.next_from.ensures c.in-Some.is c.complete_row-e.ensures)

pub returns-then-subset : goal.returns-then-subset
returns-then-subset c = atomic_aim _ _ _ _ _ (all_atomic _ _ c.requires.0.store.atomic) (sym c.subset.ensures ∙ c.if-subset.true) c.empty-none.ensures

pub returns : goal.returns
returns c = completing_end _ _ _ _ _ _ c.loop-r.invariant c.next_from.ensures c.in_default.is
