use Prim.Native.Nat.{◌≤◌}
use Rattle.rules1.specs.Classes.{Classes}
use Rattle.rules1.proofs.classes.classes_of.Given as goal

abbrev pub invariant-loop-p : goal.invariant-loop-p
invariant-loop-p l = (l.p ≤ 52) × Classes l.numbers l.names l.p l.class
