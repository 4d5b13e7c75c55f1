-- Every call keeps session and clock record well formed, so that one check of them serves for a list of calls.
use Rattle.std.specs.Prelude.{◌≡◌, false, cond, List, ℕ, eqb}
use Rattle.std.proofs.Math.Path.{sym, ap}
use Rattle.std.proofs.Common.{◌∙◌}
use Rattle.std.proofs.Math.Bool.{true}
use borrow.Author.Tests.{ne_eqb}
use Rattle.definition.specs.declared.Answer.TheVariants.{Done}
use Rattle.definition.specs.Chart.{Chart}
use Rattle.definition.specs.Tables.{row_count, chart_of}
use Rattle.definition.specs.Rules.{keeps_rules}
use Rattle.follower.specs.Clock.{new_clock}
use Rattle.follower.specs.Follower.{ended_follower, Timed}
use Rattle.follower.specs.Calls.{Call, starts, clocks, runs}
use Rattle.follower.specs.Legal.{WellTimed}
use Rattle.definition.specs.Compiled.{own_numbers, is_compiled}
use Rattle.laws.specs.Bools.{bool_case, eq_case}
use Rattle.accepted.specs.Sound.{Sound, accepted_sound}
use Rattle.theory.specs.Theorems.{timed_exact, rest_well_timed, follow_keeps}
use Rattle.chart.specs.Own.{own_chart, compiled_ready}
use Rattle.session.specs.Sessions.{view_timed, is_timed, refused_run, run_of, clock_of, clock_checked}
use Rattle.session.specs.Spelling.{session_spells}
use Rattle.session.specs.Timing.{timed_session, timed_record, timed_well, timed_passes}
use Rattle.lent.specs.declared.Checks.{Checks}
use Rattle.lent.specs.Places.{checks_of}
use Rattle.lent.specs.Lent.{checks_checked, post_checks}
use Rattle.faithful.specs.Program.{Both, both_of, start_step, post_step, clock_step, run_step, call}
use Rattle.faithful.specs.Alike.{alike_both}
use Rattle.faithful.proofs.Faithful.{Means, start_alike, call_alike}
use Rattle.faithful.proofs.Demand3.{own_accepted, own_means}
use Rattle.calls.specs.Calls.{call_of}

-- behind a start both pass if the chart does; every other call leaves them as they were
unfoldable pub checks_after : Checks → ℕ → Checks
checks_after k kind = cond (eqb kind 0) (record { chart = k.chart; session = k.chart; clock = k.chart }) k

module _ (k : Checks) (kind : ℕ) where
  pub after_start : kind ≡ 0 → record { chart = k.chart; session = k.chart; clock = k.chart } ≡ checks_after k kind
  unfolding checks_after
  after_start e = rw e

  pub after_other : (kind ≡ 0 → ⊥) → k ≡ checks_after k kind
  unfolding checks_after
  after_other n = rw (ne_eqb kind 0 n)

-- the checks of session and record
abbrev checks_in : List ℕ → List ℕ → Both → Checks
checks_in chart names b = checks_of chart names b.session b.clock

module _ (chart names : List ℕ) (k : is_compiled chart names ≡ true) where
  abbrev c : Chart
  c = chart_of (own_numbers chart)

  own_is : chart_of (own_numbers chart) ≡ chart_of chart
  own_is = own_chart chart (compiled_ready chart names k).ready.tables

  accepted : keeps_rules (own_numbers chart) names ≡ Done
  accepted = own_accepted chart names k

  means : Means (own_numbers chart) names chart names
  means = own_means chart names k

  sound : Sound (chart_of (own_numbers chart))
  sound = accepted_sound (own_numbers chart) names accepted

  abbrev passes : Both → Type 0
  passes b = is_timed (chart_of (own_numbers chart)) b.session b.clock ≡ true

  -- what spells a well-formed state passes
  spelling_passes : (b : Both) (t : Timed) → b ≡ both_of t → WellTimed (chart_of (own_numbers chart)) t → passes b
  unfolding both_of
  spelling_passes b t e w = rw e (timed_passes (chart_of (own_numbers chart)) sound means.few t ((timed_exact (own_numbers chart) names accepted t).1 w))

  start_passes : (b : Both) (room : ℕ) → passes (call chart names b (starts room)).after
  start_passes b room =
      let t : Timed = record { follower = ended_follower (chart_of (own_numbers chart)); clock = new_clock } in
      let w = follow_keeps (own_numbers chart) names accepted t (rest_well_timed (own_numbers chart) names accepted) (starts room) in
      let a = start_alike (own_numbers chart) names chart names accepted means t b room w in
      spelling_passes _ _ (alike_both _ _ _ a) w

  call_passes : (b : Both) → passes b → (x : Call) → passes (call chart names b x).after
  call_passes b h x =
      let t : Timed = view_timed (row_count (own_numbers chart)) b.session b.clock in
      let v = (timed_exact (own_numbers chart) names accepted t).0 (timed_well (chart_of (own_numbers chart)) b.session b.clock h) in
      let e = spelled b h in
      let w = follow_keeps (own_numbers chart) names accepted t v x in
      let a = call_alike (own_numbers chart) names chart names accepted means t v x in
      spelling_passes _ _ (ap (λ (y : Both). (call chart names y x).after) e ∙ alike_both _ _ _ a) w
    where
      -- what passes spells the state that is read in it
      spelled : (b : Both) → passes b → b ≡ both_of (view_timed (row_count (own_numbers chart)) b.session b.clock)
      spelled b h =
          unfold both_of view_timed in
          let p = sym (session_spells (chart_of (own_numbers chart)) sound b.session (timed_session (chart_of (own_numbers chart)) b.session b.clock h)) in
          let q = sym (timed_record (chart_of (own_numbers chart)) b.session b.clock h) in
          λ j. record { session = p j; clock = q j }

  -- all checks passed
  all_checks : (b : Both) → passes b → record { chart = true; session = true; clock = true } ≡ checks_in chart names b
  unfolding checks_of
  all_checks b h =
      let t : is_timed (chart_of chart) b.session b.clock ≡ true = rw own_is at h in
      rw (k, t, timed_session (chart_of chart) b.session b.clock t)

  -- 9 leaves both as they were
  run_same : (b : Both) (rounds room : ℕ) → is_timed (chart_of (own_numbers chart)) b.session b.clock ≡ false → (run_step chart names b rounds room).after ≡ b
  unfolding run_step run_of refused_run
  run_same b rounds room h = rw (k, h)

  clock_same : (b : Both) (ticks : ℕ) → is_timed (chart_of (own_numbers chart)) b.session b.clock ≡ false → (clock_step chart names b ticks).after ≡ b
  unfolding clock_step clock_of clock_checked
  clock_same b ticks h = rw (k, h)

module _ (chart names : List ℕ) where
  -- where both passed they pass again, and else they are as they were
  kept_checks : (b : Both) (x : Call) → (is_compiled chart names ≡ true → is_timed (chart_of (own_numbers chart)) b.session b.clock ≡ false → (call chart names b x).after ≡ b) →
      checks_in chart names b ≡ checks_in chart names (call chart names b x).after
  unfolding checks_of
  kept_checks b x same =
      bool_case (is_compiled chart names)
      (λ k. bool_case (is_timed (chart_of (own_numbers chart)) b.session b.clock)
      (λ h. sym (all_checks chart names k b h) ∙ all_checks chart names k (call chart names b x).after (call_passes chart names k b h x))
      (λ h. ap (checks_in chart names) (sym (same k h))))
      (λ k. rw k)

  run_checks : (b : Both) (rounds room : ℕ) → checks_in chart names b ≡ checks_in chart names (run_step chart names b rounds room).after
  unfolding call
  run_checks b rounds room = kept_checks b (runs rounds room) (λ k h. run_same chart names k b rounds room h)

  clock_checks : (b : Both) (ticks : ℕ) → checks_in chart names b ≡ checks_in chart names (clock_step chart names b ticks).after
  unfolding call
  clock_checks b ticks = kept_checks b (clocks ticks) (λ k h. clock_same chart names k b ticks h)

  start_checks : (b : Both) (room : ℕ) → record { chart = is_compiled chart names; session = is_compiled chart names; clock = is_compiled chart names } ≡ checks_in chart names (start_step chart names room).after
  unfolding call
  start_checks b room =
      bool_case (is_compiled chart names) (λ k. rw k (all_checks chart names k (start_step chart names room).after (start_passes chart names k b room))) (λ k. unfold checks_of in rw k)

  pub call_checks : (b : Both) (k : Checks) → k ≡ checks_in chart names b → (kind room x y : ℕ) (text : List ℕ) →
      checks_after k kind ≡ checks_in chart names (call chart names b (call_of kind room x y text)).after
  unfolding checks_after call call_of post_step
  call_checks b k e kind room x y text =
      eq_case kind 0
      (λ z. rw z (let c = (checks_checked chart names b.session b.clock k e).of_chart in (λ j. record { chart = c j; session = c j; clock = c j }) ∙ start_checks b room))
      (λ n. eq_case kind 1 (λ z. rw z (e ∙ post_checks chart names _ b.session b.clock))
      (λ m. eq_case kind 2 (λ z. rw z (e ∙ run_checks b x room)) (λ l. rw (ne_eqb kind 0 n, ne_eqb kind 1 m, ne_eqb kind 2 l) (e ∙ clock_checks b x))))
