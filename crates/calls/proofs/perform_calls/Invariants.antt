use Prim.Native.Nat.{◌-◌, ◌/◌}
use lib.ListN.{length}
use Rattle.calls.specs.InPlace.{LeftIn}
use Rattle.calls.proofs.perform_calls.Given as goal

abbrev pub invariant-loop-performed : goal.invariant-loop-performed
invariant-loop-performed l =
    LeftIn l.initial.numbers l.initial.internal l.initial.external l.initial.clock l.chart l.names l.initial.calls l.text l.initial.trace l.numbers l.internal l.external l.clock l.calls l.trace l.checks l.performed l.used

abbrev pub decreases-loop-performed : goal.decreases-loop-performed
decreases-loop-performed l =
    length l.initial.calls / 7 - l.performed
