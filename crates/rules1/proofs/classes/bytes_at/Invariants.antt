use Prim.Native.Nat.{◌≤◌}
use Rattle.rules1.specs.Classes.{Bytes}
use Rattle.rules1.proofs.classes.bytes_at.Given as goal

abbrev pub invariant-loop-i : goal.invariant-loop-i
invariant-loop-i l = (1 ≤ l.i) × Bytes l.numbers l.names l.p l.i l.bytes
