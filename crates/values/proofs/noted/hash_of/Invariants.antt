use mathlib.Core.Path.{◌≡◌}
use Prim.Native.Nat.{◌<◌}
use lib.ListN.{drop}
use Rattle.values.specs.Trees.{hash_from}
use Rattle.values.proofs.noted.hash_of.Given as goal

abbrev pub invariant-loop-b : goal.invariant-loop-b
invariant-loop-b l = (l.hash < 281474976710656) × (hash_from l.hash (drop l.b-index l.name) ≡ hash_from 0 l.name)
