use Prim.Native.Nat.{◌≤◌}
use Rattle.rules1.specs.Splits.{Firsts}
use Rattle.rules1.proofs.classes.split.Given as goal

abbrev pub invariant-loop-i : goal.invariant-loop-i
invariant-loop-i l = (1 ≤ l.i) × Firsts l.class l.bytes l.shift l.firsts l.out l.i
