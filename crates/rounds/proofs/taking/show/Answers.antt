use borrow.Author.Rules.{rules}
use mathlib.Core.Path.{◌≡◌, refl, sym, ap, ◌∙◌}
use mathlib.Core.Bool.{Bool, true}
use Prim.Native.Nat.{ℕ, ◌+◌}
use native.Mathlib.Omega.{arith}
use lib.Dec.{ltb}
use lib.ListN.{length}
use lib.Seq.{length-take-le}
use Rattle.follower.specs.Follower.{refusal_if}
use Rattle.laws.specs.Bools.{no}
use Rattle.lookup.specs.Lookup.{quiet_in}
use Rattle.rounds.specs.declared.Outcome.{Outcome}
use Rattle.rounds.specs.Calls.{quiet_room, room_in}
use Rattle.rounds.specs.Turns.{judged}
use Rattle.rounds.specs.Timing.{step_effects, JudgesTimed, judged_as, untimed, shows_refused, shows_quiet, shows_did, part_fits, shows_drafted, step_timers}
use Rattle.rounds.specs.Traces.{filled_again}
use Rattle.rounds.proofs.taking.show.Goals as goal
use Rattle.rounds.proofs.taking.show.Goals.{Joined-tally-gt0, then-tally-gt0+else-quiet, else-tally-gt0}

-- how it is judged, with the record or without it
judges : (c : Joined-tally-gt0) →
    JudgesTimed c.args.names.now (step_effects c.args.chart.now c.args.items.now c.args.step) c.args.kept c.step_effects-tally.result c.args.clock.now c.if-tally-gt0.clock (length c.args.trace.now) c.if-tally-gt0.outcome
judges c =
    elim c.if-tally-gt0.branch [
      | then-tally-gt0+else-quiet w ↦ judged_as _ _ _ _ _ _ _ _ _ _ _ w.clock-is w.outcome-is (w.room_of-most.ensures ∙ ap (λ (q : Bool). room_in q (length c.args.trace.now)) w.if-quiet.false) w.judge_timed-outcome.ensures
      | else-tally-gt0 w ↦ judged_as _ _ _ _ _ _ _ _ _ _ _ w.clock-is w.outcome-is refl (untimed _ _ _ _ _ c.requires.5 _ (let n = c.step_effects-tally.ensures.timers in let l = w.if-tally-gt0.false in omega arith) _ c.judge-outcome.ensures)
    ]

-- a quiet one that comes here sends and cancels nothing
quietly : (c : Joined-tally-gt0) → quiet_in c.args.index.now ≡ true → (o : Outcome) → o ≡ judged (refusal_if (ltb 32 (c.args.kept + c.step_effects-tally.result.names)) (ltb quiet_room c.step_effects-tally.result.entries)) →
    JudgesTimed c.args.names.now (step_effects c.args.chart.now c.args.items.now c.args.step) c.args.kept c.step_effects-tally.result c.args.clock.now c.if-tally-gt0.clock quiet_room o
quietly c q o j =
    elim c.if-tally-gt0.branch [
      | then-tally-gt0+else-quiet w ↦ absurd (no (sym w.if-quiet.false ∙ w.is_quiet-quiet.ensures ∙ q))
      | else-tally-gt0 w ↦ judged_as _ _ _ _ _ _ _ _ _ _ _ w.clock-is refl refl (untimed _ _ _ _ _ c.requires.5 _ (let n = c.step_effects-tally.ensures.timers in let l = w.if-tally-gt0.false in omega arith) _ j)
    ]

-- the record keeps its length
size : (c : Joined-tally-gt0) → length c.if-tally-gt0.clock ≡ length c.args.clock.now
size c =
    elim c.if-tally-gt0.branch [
      | then-tally-gt0+else-quiet w ↦ ap {B = ℕ} length w.clock-is ∙ w.judge_timed-outcome.auto.clock
      | else-tally-gt0 w ↦ ap {B = ℕ} length w.clock-is
    ]

pub step_effects-tally-requires : goal.step_effects-tally-requires
step_effects-tally-requires c = (c.requires.0, c.requires.1)

pub judge-outcome-requires : goal.judge-outcome-requires
judge-outcome-requires c = c.requires.2

pub is_quiet-quiet-requires : goal.is_quiet-quiet-requires
is_quiet-quiet-requires c = c.requires.6

pub is_quiet-requires : goal.is_quiet-requires
is_quiet-requires c = c.requires.6

pub judge-requires : goal.judge-requires
judge-requires c = c.requires.2

pub judge_timed-outcome-requires : goal.judge_timed-outcome-requires
judge_timed-outcome-requires c = (c.requires.0, c.requires.1, step_timers _ _ _ c.args.step _ _ _ _ c.requires.0 c.requires.1 c.requires.4 c.requires.3 c.step_effects-tally.ensures c.requires.5, c.requires.2)

pub returns-then-quiet : goal.returns-then-quiet
returns-then-quiet c = shows_quiet _ _ _ (quiet_in c.args.index.now) _ _ c.args.trace.now _ _ _ c.requires.3 c.step_effects-tally.ensures _ (sym c.is_quiet-quiet.ensures ∙ c.if-quiet.true) (judged_as _ _ _ _ _ _ _ _ _ _ _ refl refl (c.room_of-most.ensures ∙ ap (λ q. room_in q (length c.args.trace.now)) c.if-quiet.true) c.judge_timed-outcome.ensures) _ c.hidden.ensures

pub returns-then-is_quiet : goal.returns-then-is_quiet
returns-then-is_quiet c = let q = sym c.is_quiet.ensures ∙ c.if-is_quiet.true in shows_quiet _ _ _ (quiet_in c.args.index.now) _ _ c.args.trace.now _ _ _ c.requires.3 c.step_effects-tally.ensures c.judge.result q (quietly (goal.at.returns-then-is_quiet c).Joined-tally-gt0 q c.judge.result c.judge.ensures) _ c.hidden-then-is_quiet.ensures

pub returns-in_default : goal.returns-in_default
returns-in_default c = shows_refused _ _ _ (quiet_in c.args.index.now) _ _ c.args.trace.now _ _ _ c.requires.3 c.step_effects-tally.ensures _ (judges (goal.at.returns-in_default c).Joined-tally-gt0) (sym c.is_quiet.ensures ∙ c.if-is_quiet.false) c.in_default.not-Did _ c.hidden-in_default.ensures

pub step_effects-requires : goal.step_effects-requires
step_effects-requires c = (c.requires.0, c.requires.1)

pub returns-then-n : goal.returns-then-n
returns-then-n c = shows_did _ _ _ (quiet_in c.args.index.now) _ _ c.args.trace.now _ _ _ c.requires.3 c.step_effects-tally.ensures _ (judges (goal.at.returns-then-n c).Joined-tally-gt0) c.in-Did.is c.requires.7 _ (filled_again _ _ _ _ _ c.step_effects.ensures c.step_effects-tally.ensures.entries)

pub slice_bounds-copy-end : goal.slice_bounds-copy-end
slice_bounds-copy-end c = sym (length-take-le _ _ (search rules))

pub copy-requires : goal.copy-requires
copy-requires c = part_fits _ _ _ (quiet_in c.args.index.now) _ _ c.args.trace.now _ _ _ c.requires.3 c.step_effects-tally.ensures _ (judges (goal.at.copy-requires c).Joined-tally-gt0) c.in-Did.is c.requires.7 c.if-n.false

pub returns : goal.returns
returns c = shows_drafted _ _ _ (quiet_in c.args.index.now) _ _ c.args.trace.now _ _ _ c.requires.3 c.step_effects-tally.ensures _ (judges (goal.at.returns c).Joined-tally-gt0) c.in-Did.is c.requires.7 c.if-n.false _ c.copy.ensures

pub slice_bounds-draft-end : goal.slice_bounds-draft-end
slice_bounds-draft-end c = let l = c.if-n.false in search rules

pub shape_of-clock-then-is_quiet : goal.shape_of-clock-then-is_quiet
shape_of-clock-then-is_quiet c = size (goal.at.shape_of-clock-then-is_quiet c).Joined-tally-gt0

pub shape_of-clock-in_default : goal.shape_of-clock-in_default
shape_of-clock-in_default c = size (goal.at.shape_of-clock-in_default c).Joined-tally-gt0

pub shape_of-clock-then-n : goal.shape_of-clock-then-n
shape_of-clock-then-n c = size (goal.at.shape_of-clock-then-n c).Joined-tally-gt0

pub shape_of-clock : goal.shape_of-clock
shape_of-clock c = size (goal.at.shape_of-clock c).Joined-tally-gt0
