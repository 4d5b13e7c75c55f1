use borrow.Author.Rules.{rules}
use mathlib.Core.Path.{refl, sym, ◌∙◌}
use native.Mathlib.Omega.{arith}
use Rattle.state.specs.Places.{numbers_size}
use Rattle.lookup.specs.Lookup.{quiet_in}
use Rattle.matching.specs.Chosen.{list_of}
use Rattle.rounds.specs.Taking.{internal_leaves}
use Rattle.rounds.specs.Deciding.{taken_idle, plan_asks, step_ready, few_kept, step_sent, taken_refused, few_join, joins_fit, joins_size, is_decided, taken_did}
use Rattle.rounds.proofs.taking.take.Goals as goal

pub choose-choice-requires : goal.choose-choice-requires
choose-choice-requires c = (c.requires.0, c.requires.1, c.requires.2)

pub returns-in-Nothing : goal.returns-in-Nothing
returns-in-Nothing c = taken_idle _ _ _ _ _ _ c.requires.0 c.requires.1 _ _ c.choose-choice.ensures _ _ _ c.requires.4 _ _ c.unchanged.ensures c.in-Nothing.is

pub plan_step-step-requires : goal.plan_step-step-requires
plan_step-step-requires c = plan_asks _ _ _ _ _ _ c.requires.0 c.requires.1 _ _ c.choose-choice.ensures

pub bounds-numbers-1028 : goal.bounds-numbers-1028
bounds-numbers-1028 c = let e = numbers_size _ _ _ _ c.requires.1.spells in omega arith

pub internal_left-kept-requires : goal.internal_left-kept-requires
unfolding list_of
internal_left-kept-requires c = internal_leaves _ _ _ _ _ _ _ _ (step_ready _ _ _ _ _ _ c.requires.0 c.requires.1 _ _ c.choose-choice.ensures c.in_default.not-Nothing _ c.plan_step-step.ensures)

pub show-shown-requires : goal.show-shown-requires
unfolding list_of
show-shown-requires c = let g = step_ready _ _ _ _ _ _ c.requires.0 c.requires.1 _ _ c.choose-choice.ensures c.in_default.not-Nothing _ c.plan_step-step.ensures in (g.ready, g.lent, few_kept _ _ _ _ _ _ _ _ g _ c.internal_left-kept.ensures, record { size = refl; none = refl }, step_sent _ _ _ _ _ _ _ _ g _ c.internal_left-kept.ensures, c.requires.4, c.requires.0.indexed.size, c.requires.5)

pub returns-in_default-outcome : goal.returns-in_default-outcome
unfolding list_of
returns-in_default-outcome c = taken_refused _ _ _ _ _ _ _ _ (step_ready _ _ _ _ _ _ c.requires.0 c.requires.1 _ _ c.choose-choice.ensures c.in_default.not-Nothing _ c.plan_step-step.ensures) _ c.internal_left-kept.ensures _ c.requires.4 c.requires.3 (quiet_in c.args.index.now) _ _ _ _ _ c.show-shown.ensures _ c.unchanged-in_default-outcome.ensures c.in_default-outcome.not-Did

pub shape_of-numbers-in-Nothing : goal.shape_of-numbers-in-Nothing
shape_of-numbers-in-Nothing c = refl

pub shape_of-internal-in-Nothing : goal.shape_of-internal-in-Nothing
shape_of-internal-in-Nothing c = refl

pub shape_of-external-in-Nothing : goal.shape_of-external-in-Nothing
shape_of-external-in-Nothing c = refl

pub shape_of-items-in-Nothing : goal.shape_of-items-in-Nothing
shape_of-items-in-Nothing c = c.choose-choice.ensures.selected.fits.room ∙ sym c.requires.2

pub shape_of-numbers-in_default-outcome : goal.shape_of-numbers-in_default-outcome
shape_of-numbers-in_default-outcome c = refl

pub shape_of-internal-in_default-outcome : goal.shape_of-internal-in_default-outcome
shape_of-internal-in_default-outcome c = refl

pub shape_of-external-in_default-outcome : goal.shape_of-external-in_default-outcome
shape_of-external-in_default-outcome c = refl

pub shape_of-items-in_default-outcome : goal.shape_of-items-in_default-outcome
shape_of-items-in_default-outcome c = c.choose-choice.ensures.selected.fits.room ∙ sym c.requires.2

pub slice_bounds-commit-end : goal.slice_bounds-commit-end
unfolding list_of
slice_bounds-commit-end c = joins_size _ _ _ _ _ _ _ _ (step_ready _ _ _ _ _ _ c.requires.0 c.requires.1 _ _ c.choose-choice.ensures c.in_default.not-Nothing _ c.plan_step-step.ensures) _ c.internal_left-kept.ensures _ c.requires.4 c.requires.3 (quiet_in c.args.index.now) _ _ _ _ _ c.show-shown.ensures c.in-Did.is

pub commit-requires : goal.commit-requires
unfolding list_of
commit-requires c = is_decided _ _ _ _ _ _ _ _ (step_ready _ _ _ _ _ _ c.requires.0 c.requires.1 _ _ c.choose-choice.ensures c.in_default.not-Nothing _ c.plan_step-step.ensures) _ c.internal_left-kept.ensures _ c.requires.4 c.requires.3 (quiet_in c.args.index.now) _ _ _ _ _ c.show-shown.ensures c.in-Did.is

pub shape_of-items : goal.shape_of-items
shape_of-items c = c.choose-choice.ensures.selected.fits.room ∙ sym c.requires.2

pub returns : goal.returns
unfolding list_of
returns c = taken_did _ _ _ _ _ _ _ _ (step_ready _ _ _ _ _ _ c.requires.0 c.requires.1 _ _ c.choose-choice.ensures c.in_default.not-Nothing _ c.plan_step-step.ensures) _ c.internal_left-kept.ensures _ c.requires.4 c.requires.3 (quiet_in c.args.index.now) _ _ _ _ _ c.show-shown.ensures c.in-Did.is _ _ _ c.commit.ensures

pub slice_bounds-notes-end : goal.slice_bounds-notes-end
unfolding list_of
slice_bounds-notes-end c = let l = joins_fit _ _ _ _ _ _ _ _ (step_ready _ _ _ _ _ _ c.requires.0 c.requires.1 _ _ c.choose-choice.ensures c.in_default.not-Nothing _ c.plan_step-step.ensures) _ c.internal_left-kept.ensures _ c.requires.4 c.requires.3 (quiet_in c.args.index.now) _ _ _ _ _ c.show-shown.ensures c.in-Did.is in let m = few_join _ _ _ _ _ _ _ _ (step_ready _ _ _ _ _ _ c.requires.0 c.requires.1 _ _ c.choose-choice.ensures c.in_default.not-Nothing _ c.plan_step-step.ensures) _ c.internal_left-kept.ensures _ c.requires.4 c.requires.3 (quiet_in c.args.index.now) _ _ _ _ _ c.show-shown.ensures c.in-Did.is in search rules
