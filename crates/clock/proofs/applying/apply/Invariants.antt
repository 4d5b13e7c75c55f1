use mathlib.Core.Path.{◌≡◌}
use Prim.Native.Nat.{◌≤◌}
use lib.ListN.{length}
use Prim.Native.Nat.{◌/◌}
use Rattle.clock.specs.Applying.{Applies}
use Rattle.clock.proofs.applying.apply.Given as goal

abbrev pub invariant-loop-i : goal.invariant-loop-i
invariant-loop-i l = Applies l.names l.timers l.initial.clock l.clock l.i × (l.n ≡ length l.timers / 2) × (l.i ≤ l.n) × (length l.clock ≡ length l.initial.clock)
