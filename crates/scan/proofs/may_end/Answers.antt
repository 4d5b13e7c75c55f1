use lib.Dec.{eqb}
use mathlib.Core.Path.{ap}
use Prim.Native.Nat.{ℕ}
use Rattle.grammar.specs.Tables.{ends}
use Rattle.grammar.specs.Grammar.{may_end}
use Rattle.scan.proofs.may_end.Goals as goal

pub returns : goal.returns
unfolding ends may_end
returns c = rw c.from.ensures at (ap (λ (n : ℕ). eqb n 1) c.end_cell.ensures)
