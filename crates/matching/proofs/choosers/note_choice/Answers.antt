use mathlib.Core.Path.{ap}
use Rattle.matching.specs.Climb.{choice_of}
use Rattle.matching.specs.Choosers.{note_place, note_nothing, note_one}
use Rattle.matching.proofs.choosers.note_choice.Goals as goal

pub returns-in_default : goal.returns-in_default
returns-in_default c = note_nothing _ _ _ _ (ap choice_of c.in_default.is)

pub bounds-items-len : goal.bounds-items-len
bounds-items-len c = c.requires.room

pub bounds-items-at : goal.bounds-items-at
bounds-items-at c = note_place _ _ _ _ c.requires (ap choice_of c.in-Some.is)

pub returns : goal.returns
returns c = note_one _ _ _ _ _ (ap choice_of c.in-Some.is)
