use mathlib.Core.Path.{◌≡◌}
use Prim.Native.Nat.{◌+◌, ◌*◌, ◌-◌, ◌≤◌}
use Rattle.grammar.specs.Grammar.{pick_from, pick}
use Rattle.scan.proofs.pick_word.Given as goal

abbrev pub invariant-loop-j : goal.invariant-loop-j
invariant-loop-j l = (l.j ≤ 8) × (pick l.row l.w l.k l.b ≡ pick_from (8 - l.j) (l.row * 8 + l.j) l.w l.k l.b)
