use lib.ListN.{drop}
use Rattle.spell.specs.Laid.{Left}
use Rattle.spell.proofs.parts.lay_part.Given as goal

abbrev pub invariant-loop-b : goal.invariant-loop-b
invariant-loop-b l = Left l.part l.initial.out l.at (drop l.b-index l.part) l.out l.next
