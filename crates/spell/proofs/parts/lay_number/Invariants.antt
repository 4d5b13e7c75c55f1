use Rattle.spell.specs.Digits.{Spelling}
use Rattle.spell.proofs.parts.lay_number.Given as goal

abbrev pub invariant-loop-i : goal.invariant-loop-i
invariant-loop-i l = Spelling l.n l.initial.out l.out l.spelt l.m l.i

abbrev pub decreases-loop-i : goal.decreases-loop-i
decreases-loop-i l = l.i
