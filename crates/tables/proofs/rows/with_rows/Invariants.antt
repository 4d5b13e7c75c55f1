use Prim.Native.Nat.{◌-◌}
use lib.ListN.{length}
use Rattle.laws.specs.Passes.{Passed}
use Rattle.definition.specs.Rows.{with}
use Rattle.rowset.specs.Member.{rows_of}
use Rattle.tables.proofs.rows.with_rows.Given as goal

abbrev pub invariant-loop-k : goal.invariant-loop-k
invariant-loop-k l = Passed with (rows_of l.initial.all) (rows_of l.all) l.list l.k
