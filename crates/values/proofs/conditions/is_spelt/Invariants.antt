use Rattle.values.specs.Conditions.{Spelling}
use Prim.Native.Nat.{◌-◌}
use lib.ListN.{length}
use Rattle.values.proofs.conditions.is_spelt.Given as goal

abbrev pub invariant-loop-i : goal.invariant-loop-i
invariant-loop-i l = Spelling l.value l.fresh l.i
