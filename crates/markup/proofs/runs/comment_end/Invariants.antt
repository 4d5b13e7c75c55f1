use Prim.Native.Nat.{◌-◌}
use Rattle.markup.specs.Runs.{Ran, in_comment}
use Rattle.markup.proofs.runs.comment_end.Given as goal

abbrev pub invariant-loop-j : goal.invariant-loop-j
invariant-loop-j l = Ran in_comment l.text l.end l.i l.j

abbrev pub decreases-loop-j : goal.decreases-loop-j
decreases-loop-j l = l.end - l.j
