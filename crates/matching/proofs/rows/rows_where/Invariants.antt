use Rattle.std.specs.Prelude.{◌≡◌, ◌≤◌, ◌<◌, ℕ, Bool}
use Rattle.definition.specs.Rows.{those}
use Rattle.numbers.specs.declared.Row.{Row}
use Rattle.rowset.specs.Member.{rows_of}
use Rattle.matching.proofs.rows.rows_where.Given as goal

abbrev pub invariant-loop-i : goal.invariant-loop-i
invariant-loop-i g l = (l.i ≤ l.fn.n) × ((p : ℕ → Bool) → ((r : Row) (b : Bool) → r.0 < l.fn.n → goal.F-post g l.test r b → b ≡ p r.0) → rows_of l.set ≡ those l.i p)
