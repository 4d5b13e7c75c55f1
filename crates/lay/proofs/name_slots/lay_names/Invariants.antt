use Rattle.lay.specs.Names.{Naming}
use Rattle.lay.proofs.name_slots.lay_names.Given as goal

abbrev pub invariant-loop-k : goal.invariant-loop-k
invariant-loop-k l = Naming l.text l.slots l.n l.initial.place l.place l.k
