use Rattle.rowset.specs.Iterating.{Passing}
use Rattle.rowset.specs.Member.{rows_of}
use Rattle.histories.specs.Shares.{Sharing}
use Rattle.histories.proofs.common_of.Given as goal

abbrev pub invariant-loop-r : goal.invariant-loop-r
invariant-loop-r l = Passing (λ k. Sharing l.marks l.fn.rows (rows_of l.some) (rows_of l.twice) (rows_of l.every) k) l.fn.rows l.r-iterator
