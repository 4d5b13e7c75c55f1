use Rattle.rowset.specs.Iterating.{Passing}
use mathlib.Core.Path.{◌≡◌}
use lib.ListN.{length}
use Rattle.histories.specs.Marks.{MarkedTo}
use Rattle.histories.proofs.mark.Given as goal

abbrev pub invariant-loop-r : goal.invariant-loop-r
invariant-loop-r l = Passing (λ k. (length l.initial.marks ≡ 1024) × MarkedTo l.initial.marks l.marks l.h.0 l.fn.rows k) l.fn.rows l.r-iterator
