use Prim.Native.Nat.{◌+◌, ◌≤◌}
use Rattle.rules1.specs.Filled.{Right}
use Rattle.rules1.proofs.filled.has_wrong.Given as goal

abbrev pub invariant-loop-j : goal.invariant-loop-j
invariant-loop-j l = (l.j ≤ 16) × Right l.slot l.at (l.at + l.j) l.wrong
