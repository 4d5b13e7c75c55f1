use Rattle.spell.specs.Lists.{Listing}
use Rattle.spell.proofs.lists.lay_items.Given as goal

abbrev pub invariant-loop-k : goal.invariant-loop-k
invariant-loop-k l = Listing l.numbers l.names l.items l.list l.initial.out l.at l.out l.next l.k
