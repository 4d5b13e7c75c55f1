use lib.Dec.{eqb}
use mathlib.Core.Path.{ap}
use Prim.Native.Nat.{ℕ}
use Rattle.grammar.specs.Tables.{bits}
use Rattle.grammar.specs.Grammar.{has}
use Rattle.scan.proofs.has_it.Goals as goal

pub returns : goal.returns
unfolding bits has
returns c = rw (c.cell_at.ensures, c.from.ensures) at (ap (λ (n : ℕ). eqb n 1) c.bit_cell.ensures)
