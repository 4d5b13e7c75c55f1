use Prim.Native.Nat.{◌-◌, ◌≤◌}
use lib.ListN.{length}
use Rattle.onepass.specs.Four.{Heads, Lives}
use Rattle.onepass.proofs.match_four.Given as goal

abbrev pub invariant-loop-i : goal.invariant-loop-i
invariant-loop-i l = (l.i ≤ 64) × Heads l.names l.at l.event l.i l.p × Lives l.at l.p l.q
