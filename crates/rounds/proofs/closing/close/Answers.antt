use borrow.Author.Rules.{rules}
use mathlib.Core.Path.{refl, sym}
use lib.Seq.{length-take-le}
use Rattle.clock.specs.Spelled.{holds_length}
use Rattle.state.specs.Numbers.{set_inside}
use Rattle.state.specs.Places.{numbers_size}
use Rattle.rounds.specs.Traces.{shown_low, wrote_filled}
use Rattle.rounds.specs.Judging.{judged_by}
use Rattle.rounds.specs.Closing.{closing_within, closed_refused, closed_did}
use Rattle.rounds.proofs.closing.close.Goals as goal

pub set_at-conf-requires : goal.set_at-conf-requires
set_at-conf-requires c = set_inside _ (numbers_size _ _ _ _ c.requires.1.spells)

pub count_closing-requires : goal.count_closing-requires
count_closing-requires c = (c.requires.0, closing_within _ _ _ _ c.requires.0 c.requires.1 _ c.set_at-conf.ensures)

pub returns-in_default : goal.returns-in_default
returns-in_default c = closed_refused _ _ _ _ c.requires.0 c.requires.1 _ c.set_at-conf.ensures c.requires.2 _ c.requires.3 c.args.quiet c.args.trace.now c.count_closing.result c.count_closing.ensures _ (judged_by _ _ _ _ _ c.room_of.ensures c.judge-outcome.ensures) _ c.unchanged.ensures c.in_default.not-Did

pub slice_bounds-closing_effects-end-2 : goal.slice_bounds-closing_effects-end-2
slice_bounds-closing_effects-end-2 c = sym (length-take-le _ _ (shown_low c.args.quiet _ _ c.shown_of-end.ensures))

pub closing_effects-tally-requires : goal.closing_effects-tally-requires
closing_effects-tally-requires c = (c.requires.0, closing_within _ _ _ _ c.requires.0 c.requires.1 _ c.set_at-conf.ensures, search rules)

pub put_state-requires : goal.put_state-requires
put_state-requires c = numbers_size _ _ _ _ c.requires.1.spells

pub shape_of-numbers-in_default : goal.shape_of-numbers-in_default
shape_of-numbers-in_default c = refl

pub returns : goal.returns
returns c = closed_did _ _ c.args.internal.now c.args.external.now c.requires.0 c.requires.1 _ c.set_at-conf.ensures c.requires.2 c.args.clock.now c.requires.3 c.args.quiet c.args.trace.now c.count_closing.result c.count_closing.ensures _ (judged_by _ _ _ _ _ c.room_of.ensures c.judge-outcome.ensures) c.in-Did.is _ c.ended.ensures _ _ _ _ _ c.closing_effects-tally.result _ _ c.shown_of-end.ensures c.shown_of.ensures (wrote_filled _ _ _ _ c.closing_effects-tally.ensures) c.clear.ensures c.clear-2.ensures c.drop_pending.ensures c.put_state.ensures

pub drop_pending-requires : goal.drop_pending-requires
drop_pending-requires c = holds_length _ _ c.requires.3

pub slice_bounds-closing_effects-end : goal.slice_bounds-closing_effects-end
slice_bounds-closing_effects-end c = shown_low c.args.quiet _ _ c.shown_of-end.ensures
