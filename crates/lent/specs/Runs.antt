-- A run over lent places, and a post with a run behind it.
use Rattle.std.specs.Prelude.{◌≡◌, true, false, not, List, ℕ, length}
use Rattle.std.proofs.Math.Path.{sym, ap}
use Rattle.std.proofs.Common.{◌∙◌}
use Rattle.definition.specs.declared.Answer.{Answer}
use Rattle.definition.specs.declared.Answer.TheVariants.{BadChart, BadSession}
use Rattle.definition.specs.Names.{Name}
use Rattle.definition.specs.Tables.{row_count, chart_of, name_at}
use Rattle.definition.specs.Compiled.{is_compiled}
use Rattle.follower.specs.Follower.{Follower, run}
use Rattle.chart.specs.Ready.{CompiledWith}
use Rattle.clock.specs.Records.{ClockHolds}
use Rattle.state.specs.State.{trace_with, numbers_of, Spells, mode_in, HoldsAt}
use Rattle.state.specs.Numbers.{numbers_parts}
use Rattle.state.specs.Places.{numbers_size}
use Rattle.rounds.specs.declared.Progress.{Progress}
use Rattle.rounds.specs.Calls.{timed_at, RunDone}
use Rattle.session.specs.declared.Session.{Session}
use Rattle.session.specs.declared.Clock.{Clock}
use Rattle.session.specs.declared.Posted.{Posted}
use Rattle.session.specs.Sessions.{session_at, session_of, view, is_session, is_timed, posted, post_of, refused_run, run_of, run_effects}
use Rattle.session.specs.Spelling.{session_spells}
use Rattle.session.specs.Timing.{timed_session}
use Rattle.session.specs.Calling.{places_session, places_hold, record_holds, run_is, run_trace, run_bad_chart, run_bad_session, bad_chart_trace, bad_session_trace}
use Rattle.lent.specs.declared.Checks.{Checks}
use Rattle.lent.specs.declared.RanIn.{RanIn}
use Rattle.lent.specs.Places.{session_in, record_in, ran_in, Steps, checks_of}
use Rattle.lent.specs.Lent.{refused_in, in_places, checks_checked, chart_bad, chart_good, timed_bad, timed_good, known_ready, known_lengths, parted}

-- the places that spell a state hold its session
pub left_session : (f : Follower) (numbers internal external : List ℕ) → Spells f numbers internal external → session_in numbers internal external ≡ session_of f
left_session f numbers internal external s = in_places numbers internal external (numbers_size f numbers internal external s) ∙ places_session f numbers internal external s

-- 8 or 9: the places as they were
refused_run_lem : (s : Session) (y : Clock) (a : Answer) (r : RanIn) → r ≡ refused_in a → ran_in s y r ≡ refused_run s y a
unfolding refused_run
refused_run_lem s y a r e = ap (ran_in s y) e

module _ (chart names : List ℕ) (s : Session) (y : Clock) (k : Checks) (e : k ≡ checks_of chart names s y) (rounds : ℕ) (old : List ℕ) where
  pub run_8 : not k.chart ≡ true → (r : RanIn) → r ≡ refused_in BadChart →
      (ran_in s y r ≡ run_of s y chart names rounds (length old)) × (old ≡ trace_with old (run_effects s y chart names rounds (length old)))
  run_8 t r h =
      let g = chart_bad chart names s k (checks_checked chart names s y k e) t in
      (refused_run_lem s y BadChart r h ∙ run_bad_chart chart names s y rounds (length old) g, bad_chart_trace chart names s y rounds (length old) old g)

  pub run_9 : not k.chart ≡ false → not k.clock ≡ true → (r : RanIn) → r ≡ refused_in BadSession →
      (ran_in s y r ≡ run_of s y chart names rounds (length old)) × (old ≡ trace_with old (run_effects s y chart names rounds (length old)))
  run_9 a t r h =
      let c = chart_good chart names s k (checks_checked chart names s y k e) a in
      let g = timed_bad chart names s y k e c t in
      (refused_run_lem s y BadSession r h ∙ run_bad_session chart names s y rounds (length old) c g, bad_session_trace chart names s y rounds (length old) old c g)

module _ (chart names numbers internal external clock : List ℕ) (k : Checks) (e : k ≡ checks_of chart names (session_in numbers internal external) (record_in clock))
    (a : not k.chart ≡ false) (b : not k.clock ≡ false) where
  abbrev s₀ : Session
  s₀ = session_in numbers internal external

  abbrev y₀ : Clock
  y₀ = record_in clock

  c : is_compiled chart names ≡ true
  c = chart_good chart names s₀ k (checks_checked chart names s₀ y₀ k e) a

  h : is_timed (chart_of chart) s₀ y₀ ≡ true
  h = timed_good chart names s₀ y₀ k e b

  i : is_session (chart_of chart) s₀ ≡ true
  i = timed_session (chart_of chart) s₀ y₀ h

  ready : CompiledWith chart names
  ready = known_ready chart names numbers internal external c i

  is : s₀ ≡ session_at numbers internal external
  is = parted chart names numbers internal external c i

  spells : Spells (view (row_count chart) s₀) numbers internal external
  unfolding session_of
  spells =
      let q : session_at numbers internal external ≡ session_of (view (row_count chart) s₀) = sym is ∙ sym (session_spells (chart_of chart) ready.ready.sound s₀ i) in
      let parts = numbers_parts numbers (known_lengths chart names numbers internal external c i).numbers in
      record {
        numbers_are = parts ∙ (λ j. numbers_of (q j).configuration (q j).history (q j).internal_count (q j).external_count (q j).mode);
        internal_is = ap (λ (x : Session). x.internal) q;
        external_is = ap (λ (x : Session). x.external) q;
      }

  -- what a run of the places asks for
  pub run_asks : CompiledWith chart names × HoldsAt chart numbers internal external × ClockHolds (mode_in numbers) clock
  run_asks = (ready, places_hold chart names s₀ y₀ c h numbers internal external spells, record_holds chart names s₀ y₀ c h numbers internal external spells)

  -- what is left in the places is what the run hands back
  pub run_left : (rounds : ℕ) (old numbers₁ internal₁ external₁ clock₁ trace : List ℕ) (d : Progress) →
      RunDone false (run (chart_of chart) (name_at names) rounds (timed_at chart numbers internal external clock) (length old)) d numbers₁ internal₁ external₁ clock₁ old trace →
      (ran_in (session_in numbers₁ internal₁ external₁) (record_in clock₁) (record { status = d.status; rounds = d.rounds; count = d.count }) ≡ run_of s₀ y₀ chart names rounds (length old)) ×
      (trace ≡ trace_with old (run_effects s₀ y₀ chart names rounds (length old)))
  run_left rounds old numbers₁ internal₁ external₁ clock₁ trace d f = (
    run_is chart names s₀ y₀ c h numbers internal external spells rounds (length old) _ clock₁ d.status d.rounds d.count (left_session _ numbers₁ internal₁ external₁ f.state.0) f.state.1 f.status f.rounds f.count,
    run_trace chart names s₀ y₀ c h numbers internal external spells rounds (length old) old trace f.written,
  )

-- ---- a post and then a run

pub step_is : (chart names : List ℕ) (name : Name) (s t : Session) (y : Clock) (a : Answer) → posted t a ≡ post_of s chart names name → (rounds : ℕ) (old trace : List ℕ) (u : Session) (v : Clock) (r : RanIn) →
    ran_in u v r ≡ run_of t y chart names rounds (length old) → trace ≡ trace_with old (run_effects t y chart names rounds (length old)) → Steps s y chart names name rounds old a (ran_in u v r) trace
step_is chart names name s t y a p rounds old trace u v r f w = record {
  answered = ap (λ (x : Posted). x.answer) p;
  ran = f ∙ ap (λ (x : Posted). run_of x.session y chart names rounds (length old)) p;
  written = w ∙ ap (λ (x : Posted). trace_with old (run_effects x.session y chart names rounds (length old))) p;
}
