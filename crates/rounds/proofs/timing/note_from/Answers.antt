use borrow.Author.Rules.{rules}
use Rattle.rounds.specs.Timing.{noted_from}
use Rattle.rounds.proofs.timing.note_from.Goals as goal

pub overflow_cast-notes : goal.overflow_cast-notes
overflow_cast-notes c = let l = c.requires.2.fits in search rules

pub bounds-notes-32 : goal.bounds-notes-32
bounds-notes-32 c = let l = c.requires.2.size in search rules

pub step_effects-requires : goal.step_effects-requires
step_effects-requires c = (c.requires.0, c.requires.1)

pub shape_of-notes : goal.shape_of-notes
shape_of-notes c = (noted_from _ _ _ _ _ _ _ c.requires.2 c.step_effects.ensures).size

pub returns : goal.returns
returns c = noted_from _ _ _ _ _ _ _ c.requires.2 c.step_effects.ensures
