use mathlib.Core.Path.{ap}
use Rattle.marks.specs.declared.Walk.{Walk}
use Rattle.walks.proofs.said.begin_turn.Goals as goal

pub returns : goal.returns
returns c = ap (λ (w : Walk). record { walk = w; depth = 0; rows = 0; transitions = 0; spot = record { what = 0; number = 0 } }) c.begin.ensures
