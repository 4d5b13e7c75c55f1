use Rattle.cells.specs.Ends.{TransitionsLaying}
use Rattle.cells.proofs.transition_cells.Given as goal

abbrev pub invariant-loop-r : goal.invariant-loop-r
invariant-loop-r l = TransitionsLaying l.initial.out l.next l.n l.t l.out l.r
