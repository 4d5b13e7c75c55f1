use Rattle.cells.specs.Parts.{RowsLaying}
use Rattle.cells.proofs.row_cells.Given as goal

abbrev pub invariant-loop-i : goal.invariant-loop-i
invariant-loop-i l = RowsLaying l.initial.out l.next l.n l.t l.out l.i
