-- Every call with a journal keeps session and clock record well formed, and so does replay, whatever the entries (R-10).
use Rattle.std.proofs.Math.Path.{◌≡◌, subst}
use Rattle.std.specs.Prelude.{refl, Bool, ◌&&◌, cond, ℕ, ltb, length, take}
use Rattle.std.proofs.Common.{sym, ap, arith}
use Rattle.std.proofs.Math.Bool.{true, false}
use mathlib.Core.List.{List, [], ◌∷◌}
use Rattle.std.proofs.Math.Option.{Option, none, some}
use Rattle.definition.specs.declared.Answer.TheVariants.{Done, BadSession}
use Rattle.definition.specs.Tables.{chart_of, name_at}
use Rattle.definition.specs.Rules.{keeps_rules}
use Rattle.follower.specs.Follower.{Timed, is_ended, first_effects, start_or, start}
use Rattle.follower.specs.Calls.{posts, clocks, follow}
use Rattle.follower.specs.Legal.{WellTimed}
use Rattle.laws.specs.Bools.{bool_case}
use Rattle.laws.specs.Simulation.{Every}
use Rattle.theory.specs.Theorems.{start_keeps, run_keeps, follow_keeps, rest_well_timed}
use Rattle.recorded.specs.Journal.{Entered, entered_post, entered_clock, entered_run, At, again, started_at, on_to, through, replayed, refused, unless_no_room, replay}
use Rattle.recorded.specs.Recorded.{Recorded, RecordedCall, calls, steps_back, RecordedOutcome, is_such, is_full, leaving, recorded_by, back_to, back, follow_recorded, follow_all_recorded, recorded_at_rest}
use Rattle.follower.specs.Calls.{at_rest}
use Rattle.replay.specs.Again.{exactly_run}
use Rattle.replay.specs.Making.{started_known, start_goes, accepted_some, run_known}

module _ (numbers names : List ℕ) (fits : keeps_rules numbers names ≡ Done) where
  abbrev Well : Timed → Type 0
  Well s = WellTimed (chart_of numbers) s

  pub again_keeps : (s : Timed) → Well s → (e : Entered) (b : At) → again (chart_of numbers) (name_at names) s e ≡ some b → Well b.state
  again_keeps s w (entered_post name) b h = unfold again in subst Well (accepted_some (chart_of numbers) (name_at names) (follow (chart_of numbers) (name_at names) s (posts name)) b h).1 (follow_keeps numbers names fits s w (posts name))
  again_keeps s w (entered_clock ticks) b h = unfold again in subst Well (accepted_some (chart_of numbers) (name_at names) (follow (chart_of numbers) (name_at names) s (clocks ticks)) b h).1 (follow_keeps numbers names fits s w (clocks ticks))
  again_keeps s w (entered_run k) b h =
      subst Well (exactly_run (chart_of numbers) (name_at names) k s b (run_known (chart_of numbers) (name_at names) s k b h).2 (length b.effects) (omega arith)).state
      (run_keeps numbers names fits s w k (length b.effects))

  through_keeps : (es : List Entered) (o : Option At) → ((a : At) → o ≡ some a → Well a.state) → (b : At) → through (chart_of numbers) (name_at names) o es ≡ some b → Well b.state
  unfolding through
  through_keeps [] o w b h = w b h
  through_keeps (e ∷ es) o w b h = through_keeps es (on_to (chart_of numbers) (name_at names) o e) (on o w) b h
    where
      on : (o : Option At) → ((a : At) → o ≡ some a → Well a.state) → (d : At) → on_to (chart_of numbers) (name_at names) o e ≡ some d → Well d.state
      on none w d q = unfold on_to in let z : ◌≡◌ {A = ℕ} 0 1 = cc in absurd (omega arith)
      on (some a) w d q = unfold on_to in again_keeps a.state (w a refl) e d q

  started_keeps : (a : At) → started_at (chart_of numbers) (name_at names) ≡ some a → Well a.state
  unfolding start start_or
  started_keeps a h =
      let k = started_known (chart_of numbers) (name_at names) a h in
      subst Well (sym (ap (λ (x : At). x.state) k.1)) (rw (start_goes (chart_of numbers) (name_at names) k.0) at (start_keeps numbers names fits (length (first_effects (chart_of numbers)))))

  pub replayed_keeps : (es : List Entered) (b : At) → replayed (chart_of numbers) (name_at names) es ≡ some b → Well b.state
  unfolding replayed
  replayed_keeps es b h = through_keeps es (started_at (chart_of numbers) (name_at names)) started_keeps b h

  -- ---- one call, and whole lists of them

  back_keeps : (s : Recorded) → Well s.state → (left : List Entered) (room : ℕ) (o : Option At) → ((b : At) → o ≡ some b → Well b.state) → Well (back_to s left (unless_no_room room o)).after.state
  unfolding back_to unless_no_room leaving
  back_keeps s w left room none f = w
  back_keeps s w left room (some a) f = bool_case (ltb room (length a.effects)) (λ q. rw q w) (λ q. rw q (f a refl))

  pub recorded_keeps : (s : Recorded) → Well s.state → (x : RecordedCall) → Well (follow_recorded (chart_of numbers) (name_at names) s x).after.state
  unfolding follow_recorded recorded_by leaving
  recorded_keeps s w (calls x) =
      bool_case (is_full s.journal && is_such (is_ended s.state.follower.mode) x (follow (chart_of numbers) (name_at names) s.state x).number) (λ q. rw q w)
      (λ q. rw q (follow_keeps numbers names fits s.state w x))
  recorded_keeps s w (steps_back room) = go s.journal
    where
      go : (js : List Entered) → Well (back (chart_of numbers) (name_at names) s js room).after.state
      go [] = unfold back leaving in w
      go (j ∷ js) = unfold back replay in by (ltb (length (j ∷ js)) (length js))
        where
          by : (x : Bool) → Well (back_to s (take (length js) (j ∷ js)) (cond x (refused BadSession) (unless_no_room room (replayed (chart_of numbers) (name_at names) (take (length js) (j ∷ js)))))).after.state
          by true = unfold back_to leaving in w
          by false = back_keeps s w (take (length js) (j ∷ js)) room (replayed (chart_of numbers) (name_at names) (take (length js) (j ∷ js))) (replayed_keeps (take (length js) (j ∷ js)))

  abbrev pub WellAfter : RecordedOutcome → Type 0
  WellAfter o = WellTimed (chart_of numbers) o.after.state

  pub recorded_all_keep : (xs : List RecordedCall) (s : Recorded) → Well s.state → Every WellAfter (follow_all_recorded (chart_of numbers) (name_at names) s xs)
  unfolding follow_all_recorded
  recorded_all_keep [] s w = tt
  recorded_all_keep (x ∷ xs) s w = (recorded_keeps s w x, recorded_all_keep xs (follow_recorded (chart_of numbers) (name_at names) s x).after (recorded_keeps s w x))

  -- from rest on
  pub all_recorded_keep : (xs : List RecordedCall) → Every WellAfter (follow_all_recorded (chart_of numbers) (name_at names) (recorded_at_rest (chart_of numbers)) xs)
  all_recorded_keep xs = recorded_all_keep xs (recorded_at_rest (chart_of numbers)) (unfold recorded_at_rest at_rest in rest_well_timed numbers names fits)
