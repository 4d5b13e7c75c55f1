use mathlib.Core.Path.{sym, ◌∙◌}
use native.Mathlib.Omega.{arith}
use Rattle.rounds.specs.Resting.{rest_ended, rest_closing, rest_waits, rest_eventless, rest_idle}
use Rattle.rounds.proofs.running.rest_status.Goals as goal

pub returns-then-numbers : goal.returns-then-numbers
returns-then-numbers c = rest_waits _ _ _ _ (sym c.from-mode.ensures ∙ c.in-Running.is) c.if-numbers.true

pub select_eventless-first-requires : goal.select_eventless-first-requires
select_eventless-first-requires c = c.requires

pub shape_of-items-then-first-gt0 : goal.shape_of-items-then-first-gt0
shape_of-items-then-first-gt0 c = c.select_eventless-first.ensures.chosen.fits.room ∙ sym c.requires.places

pub returns-then-first-gt0 : goal.returns-then-first-gt0
returns-then-first-gt0 c = rest_eventless _ _ _ _ _ _ c.select_eventless-first.ensures.chosen _ _ _ (sym c.from-mode.ensures ∙ c.in-Running.is) c.if-numbers.false c.if-first-gt0.true

pub returns-in-Ended : goal.returns-in-Ended
returns-in-Ended c = rest_ended _ _ _ _ (sym c.from-mode.ensures ∙ c.in-Ended.is)

pub returns-in-Closing : goal.returns-in-Closing
returns-in-Closing c = rest_closing _ _ _ _ (sym c.from-mode.ensures ∙ c.in-Closing.is)

pub shape_of-items : goal.shape_of-items
shape_of-items c = c.select_eventless-first.ensures.chosen.fits.room ∙ sym c.requires.places

pub returns-else-first-gt0 : goal.returns-else-first-gt0
returns-else-first-gt0 c = rest_idle _ _ _ _ _ _ c.select_eventless-first.ensures.chosen _ _ _ (sym c.from-mode.ensures ∙ c.in-Running.is) c.if-numbers.false c.if-first-gt0.false

pub bounds-numbers-1030 : goal.bounds-numbers-1030
bounds-numbers-1030 c = let e = c.requires.size in omega arith

pub bounds-numbers-1028 : goal.bounds-numbers-1028
bounds-numbers-1028 c = let e = c.requires.size in omega arith

pub bounds-numbers-1029 : goal.bounds-numbers-1029
bounds-numbers-1029 c = let e = c.requires.size in omega arith
