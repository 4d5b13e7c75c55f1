use Prim.Native.Nat.{◌≤◌}
use lib.ListN.{get_or}
use Rattle.rules1.specs.Chains.{Passed}
use Rattle.rules1.proofs.ids.met.Given as goal

abbrev pub invariant-loop-e : goal.invariant-loop-e
invariant-loop-e l = (l.e ≤ 32) × Passed l.numbers l.names l.links l.r.0 (get_or l.heads l.key 0) l.x l.e
