use Rattle.std.specs.Prelude.{ℕ}
use Rattle.rowset.specs.Iterating.{Passing}
use Rattle.rowset.specs.Member.{rows_of}
use Rattle.microstep.specs.Words.{Storing}
use Rattle.microstep.proofs.storing.store.Given as goal

abbrev pub invariant-loop-h : goal.invariant-loop-h
invariant-loop-h l = Passing (λ (k : ℕ). Storing l.chart (rows_of l.conf) (rows_of l.out) l.initial.history l.history k) l.fn.histories l.h-iterator
