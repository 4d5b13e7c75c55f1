use mathlib.Core.Path.{refl, sym, ◌∙◌}
use native.Mathlib.Omega.{arith}
use Rattle.rounds.specs.Timing.{untimed}
use Rattle.rounds.specs.Starting.{first_ready_step, first_chosen, first_timers, first_judged}
use Rattle.rounds.proofs.starting.judge_first.Goals as goal

pub returns-then-tally-eq0 : goal.returns-then-tally-eq0
returns-then-tally-eq0 c = untimed _ _ _ _ _ c.requires.1.holds _ (sym c.requires.1.noted.timers ∙ c.if-tally-eq0.true) _ c.judge.ensures

pub judge_timed-requires : goal.judge_timed-requires
judge_timed-requires c = (first_ready_step _ _ _ c.first_step-step.ensures c.requires.0, first_chosen _ _ _ c.first_step-step.ensures _ refl, first_timers _ _ _ c.first_step-step.ensures _ refl _ _ _ _ c.requires.1, omega arith)

pub returns : goal.returns
returns c = first_judged _ _ _ c.first_step-step.ensures _ refl _ _ _ _ _ _ c.judge_timed.ensures
