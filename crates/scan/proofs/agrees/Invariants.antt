use mathlib.Core.Path.{◌≡◌}
use Rattle.std.specs.Prelude.{true}
use Rattle.grammar.specs.Grammar.{agree}
use Rattle.scan.proofs.agrees.Given as goal

abbrev pub invariant-loop-j : goal.invariant-loop-j
invariant-loop-j l = agree l.w l.v l.j ≡ true
