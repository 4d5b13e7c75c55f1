use Rattle.clock.specs.Cancelling.{Cancels}
use Rattle.clock.proofs.cancelling.cancel.Given as goal

abbrev pub invariant-loop-i : goal.invariant-loop-i
invariant-loop-i l = Cancels l.initial.clock l.clock l.id l.i
