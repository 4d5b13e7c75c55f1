use Rattle.write_text.specs.Ends.{Closing, height}
use Rattle.write_text.proofs.ends.lay_ends.Given as goal

abbrev pub invariant-loop-j : goal.invariant-loop-j
invariant-loop-j l = Closing l.numbers l.i l.to l.initial.out l.at l.out l.next l.j

abbrev pub decreases-loop-j : goal.decreases-loop-j
decreases-loop-j l = height l.numbers l.j
