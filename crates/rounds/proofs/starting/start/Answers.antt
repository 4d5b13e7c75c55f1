use mathlib.Core.Path.{refl, sym}
use borrow.Author.Rules.{rules}
use lib.Seq.{length-take-le}
use Rattle.rounds.specs.Traces.{shown_low}
use Rattle.rounds.specs.Timing.{judged_as}
use Rattle.rounds.specs.Starting.{start_timers_ready, start_refused, zeros_size, first_ready, few_join, first_fit, first_size, first_join, start_done}
use Rattle.rounds.proofs.starting.start.Goals as goal

pub plan_first-first-requires : goal.plan_first-first-requires
plan_first-first-requires c = (c.requires.0.ready, c.requires.1)

pub count_first-tally-requires : goal.count_first-tally-requires
count_first-tally-requires c = (c.plan_first-first.ensures.1, record { size = refl; none = refl })

pub returns-in-Refused : goal.returns-in-Refused
returns-in-Refused c = start_refused _ _ c.requires.0 c.args.numbers.now c.args.internal.now c.args.clock.now c.args.trace.now c.requires.1 c.requires.2 c.requires.3 _ c.plan_first-first.ensures c.args.quiet c.count_first-tally.result c.count_first-tally.ensures.0 _ _ (judged_as _ _ _ _ _ _ _ _ _ _ _ refl refl c.room_of.ensures c.judge_first-outcome.ensures) _ c.in-Refused.is

pub slice_bounds-first_effects-end-2 : goal.slice_bounds-first_effects-end-2
slice_bounds-first_effects-end-2 c = sym (length-take-le _ _ (shown_low c.args.quiet _ _ c.shown_of-end.ensures))

pub first_effects-requires : goal.first_effects-requires
first_effects-requires c = (c.plan_first-first.ensures.1, search rules)

pub slice_bounds-queue_names-end : goal.slice_bounds-queue_names-end
slice_bounds-queue_names-end c = first_size _ _ c.requires.0 c.args.numbers.now c.args.internal.now c.args.clock.now c.args.trace.now c.requires.1 c.requires.2 c.requires.3 _ c.plan_first-first.ensures c.args.quiet c.count_first-tally.result c.count_first-tally.ensures.0 _ _ (judged_as _ _ _ _ _ _ _ _ _ _ _ refl refl c.room_of.ensures c.judge_first-outcome.ensures) c.in_default.not-Refused _ c.shown_of-end.ensures _ _ c.first_effects.result refl c.first_effects.ensures _ c.count_first-tally.ensures.1

pub queue_names-waiting-requires : goal.queue_names-waiting-requires
queue_names-waiting-requires c = first_join _ _ c.requires.0 c.args.numbers.now c.args.internal.now c.args.clock.now c.args.trace.now c.requires.1 c.requires.2 c.requires.3 _ c.plan_first-first.ensures c.args.quiet c.count_first-tally.result c.count_first-tally.ensures.0 _ _ (judged_as _ _ _ _ _ _ _ _ _ _ _ refl refl c.room_of.ensures c.judge_first-outcome.ensures) c.in_default.not-Refused _ c.shown_of-end.ensures _ _ c.first_effects.result refl c.first_effects.ensures _ c.count_first-tally.ensures.1

pub mode_of-requires : goal.mode_of-requires
mode_of-requires c = first_ready _ _ c.requires.0 c.args.numbers.now c.args.internal.now c.args.clock.now c.args.trace.now c.requires.1 c.requires.2 c.requires.3 _ c.plan_first-first.ensures c.args.quiet c.count_first-tally.result c.count_first-tally.ensures.0 _ _ (judged_as _ _ _ _ _ _ _ _ _ _ _ refl refl c.room_of.ensures c.judge_first-outcome.ensures)

pub put_state-requires : goal.put_state-requires
put_state-requires c = zeros_size _ _ c.requires.0 c.args.numbers.now c.args.internal.now c.args.clock.now c.args.trace.now c.requires.1 c.requires.2 c.requires.3 _ c.plan_first-first.ensures c.args.quiet c.count_first-tally.result c.count_first-tally.ensures.0 _ _ (judged_as _ _ _ _ _ _ _ _ _ _ _ refl refl c.room_of.ensures c.judge_first-outcome.ensures)

pub returns : goal.returns
returns c = start_done _ _ c.requires.0 c.args.numbers.now c.args.internal.now c.args.clock.now c.args.trace.now c.requires.1 c.requires.2 c.requires.3 _ c.plan_first-first.ensures c.args.quiet c.count_first-tally.result c.count_first-tally.ensures.0 _ _ (judged_as _ _ _ _ _ _ _ _ _ _ _ refl refl c.room_of.ensures c.judge_first-outcome.ensures) c.in_default.not-Refused _ c.shown_of-end.ensures _ _ c.first_effects.result refl c.first_effects.ensures _ c.count_first-tally.ensures.1 _ _ _ _ c.queue_names-waiting.ensures c.mode_of.ensures c.put_state.ensures

pub slice_bounds-judge_first-end : goal.slice_bounds-judge_first-end
slice_bounds-judge_first-end c = sym c.count_first-tally.ensures.1.size

pub judge_first-outcome-requires : goal.judge_first-outcome-requires
judge_first-outcome-requires c = (c.plan_first-first.ensures.1, start_timers_ready _ _ c.requires.0 c.args.numbers.now c.args.internal.now c.args.clock.now c.args.trace.now c.requires.1 c.requires.2 c.requires.3 _ c.plan_first-first.ensures _ _ c.count_first-tally.ensures.1)

pub slice_bounds-notes-end : goal.slice_bounds-notes-end
slice_bounds-notes-end c = let l = first_fit _ _ c.requires.0 c.args.numbers.now c.args.internal.now c.args.clock.now c.args.trace.now c.requires.1 c.requires.2 c.requires.3 _ c.plan_first-first.ensures c.args.quiet c.count_first-tally.result c.count_first-tally.ensures.0 _ _ (judged_as _ _ _ _ _ _ _ _ _ _ _ refl refl c.room_of.ensures c.judge_first-outcome.ensures) c.in_default.not-Refused _ c.shown_of-end.ensures _ _ c.first_effects.result refl c.first_effects.ensures _ c.count_first-tally.ensures.1 in let m = few_join _ _ c.requires.0 c.args.numbers.now c.args.internal.now c.args.clock.now c.args.trace.now c.requires.1 c.requires.2 c.requires.3 _ c.plan_first-first.ensures c.args.quiet c.count_first-tally.result c.count_first-tally.ensures.0 _ _ (judged_as _ _ _ _ _ _ _ _ _ _ _ refl refl c.room_of.ensures c.judge_first-outcome.ensures) c.in_default.not-Refused _ c.shown_of-end.ensures _ _ c.first_effects.result refl c.first_effects.ensures _ c.count_first-tally.ensures.1 in search rules

pub slice_bounds-first_effects-end : goal.slice_bounds-first_effects-end
slice_bounds-first_effects-end c = shown_low c.args.quiet _ _ c.shown_of-end.ensures
