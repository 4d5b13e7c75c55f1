use mathlib.Core.Path.{sym, ◌∙◌}
use native.Mathlib.Nat.{le_refl}
use native.Mathlib.Omega.{arith}
use lib.ListN.{replicate}
use Rattle.clock.specs.Spelled.{holds_length}
use Rattle.rounds.specs.Timing.{drafted_ready, drafted_size, drafted_applied, timed_full, timed_refused, draft_length, timed_did}
use Rattle.rounds.proofs.timing.judge_timed.Goals as goal

pub copy-requires : goal.copy-requires
copy-requires c = rw (holds_length _ _ c.requires.2.holds) (le_refl 4368)

pub slice_bounds-apply_timers-end : goal.slice_bounds-apply_timers-end
slice_bounds-apply_timers-end c = sym (drafted_size c.args.clock.now (replicate 4368 0) _ (holds_length _ _ c.requires.2.holds) c.copy.ensures ∙ holds_length _ _ c.requires.2.holds)

pub apply_timers-requires : goal.apply_timers-requires
apply_timers-requires c = (c.requires.0, c.requires.1, drafted_ready c.args.clock.now (replicate 4368 0) _ (holds_length _ _ c.requires.2.holds) c.copy.ensures _ _ _ _ c.requires.2)

pub returns-then-apply_timers : goal.returns-then-apply_timers
returns-then-apply_timers c = timed_full _ _ _ _ _ c.requires.2.holds _ _ _ (drafted_applied c.args.clock.now (replicate 4368 0) _ (holds_length _ _ c.requires.2.holds) c.copy.ensures _ _ _ _ c.apply_timers.ensures) c.if-apply_timers.true

pub judge-outcome-requires : goal.judge-outcome-requires
judge-outcome-requires c = c.requires.3

pub returns-in_default : goal.returns-in_default
returns-in_default c = timed_refused _ _ _ _ _ c.requires.2.holds _ _ _ (drafted_applied c.args.clock.now (replicate 4368 0) _ (holds_length _ _ c.requires.2.holds) c.copy.ensures _ _ _ _ c.apply_timers.ensures) c.if-apply_timers.false _ c.judge-outcome.ensures c.in_default.not-Did

pub slice_bounds-copy-end-2 : goal.slice_bounds-copy-end-2
slice_bounds-copy-end-2 c = sym (draft_length _ _ _ c.requires.2.holds _ _ (drafted_applied c.args.clock.now (replicate 4368 0) _ (holds_length _ _ c.requires.2.holds) c.copy.ensures _ _ _ _ c.apply_timers.ensures) c.if-apply_timers.false ∙ holds_length _ _ c.requires.2.holds)

pub copy-requires-2 : goal.copy-requires-2
copy-requires-2 c = let n = draft_length _ _ _ c.requires.2.holds _ _ (drafted_applied c.args.clock.now (replicate 4368 0) _ (holds_length _ _ c.requires.2.holds) c.copy.ensures _ _ _ _ c.apply_timers.ensures) c.if-apply_timers.false in omega arith

pub returns : goal.returns
returns c = timed_did _ _ _ _ _ c.requires.2.holds _ _ _ (drafted_applied c.args.clock.now (replicate 4368 0) _ (holds_length _ _ c.requires.2.holds) c.copy.ensures _ _ _ _ c.apply_timers.ensures) c.if-apply_timers.false _ c.judge-outcome.ensures c.in-Did.is _ c.copy-2.ensures
