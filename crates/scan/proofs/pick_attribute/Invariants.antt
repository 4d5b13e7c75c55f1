use mathlib.Core.Path.{◌≡◌}
use Prim.Native.Nat.{◌-◌, ◌≤◌}
use Rattle.grammar.specs.Grammar.{pick_attribute}
use Rattle.scan.proofs.pick_attribute.Given as goal

abbrev pub invariant-loop-j : goal.invariant-loop-j
invariant-loop-j l = (l.j ≤ 4) × (pick_attribute 4 0 l.e l.x l.w l.k l.b ≡ pick_attribute (4 - l.j) l.j l.e l.x l.w l.k l.b)
