use mathlib.Core.Path.{◌≡◌}
use Prim.Native.Nat.{◌-◌}
use lib.ListN.{length}
use Rattle.rounds.specs.Windows.{ReachesOn}
use Rattle.rounds.specs.Timing.{step_effects}
use Rattle.rounds.proofs.timing.apply_timers.Given as goal

abbrev pub invariant-loop-done : goal.invariant-loop-done
invariant-loop-done l = (length l.more ≡ 2081) × ReachesOn l.names (step_effects l.chart l.items l.step) l.initial.clock l.clock l.initial.done l.done

abbrev pub decreases-loop-done : goal.decreases-loop-done
decreases-loop-done l = l.timers - l.done
