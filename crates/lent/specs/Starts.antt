-- A start over lent places.
use Rattle.std.specs.Prelude.{◌≡◌, refl, Bool, true, false, not, List, ℕ, length, replicate}
use Rattle.std.proofs.Common.{ap, ◌∙◌}
use Rattle.definition.specs.declared.Answer.TheVariants.{BadChart, BadSession}
use Rattle.definition.specs.Tables.{chart_of, name_at}
use Rattle.definition.specs.Compiled.{is_compiled}
use Rattle.follower.specs.Follower.{start}
use Rattle.laws.specs.Loops.{said_not_yes, said_not_no}
use Rattle.chart.specs.Ready.{CompiledWith}
use Rattle.chart.specs.Own.{compiled_ready}
use Rattle.state.specs.State.{trace_with}
use Rattle.rounds.specs.declared.Begun.{Begun}
use Rattle.rounds.specs.Calls.{StartDone}
use Rattle.session.specs.declared.Session.{Session}
use Rattle.session.specs.declared.Clock.{Clock}
use Rattle.session.specs.declared.Started.{Started}
use Rattle.session.specs.Sessions.{session_of, ended_session, start_of, start_effects}
use Rattle.session.specs.Calling.{start_bad_chart, start_bad_trace, start_is, start_trace}
use Rattle.lent.specs.Places.{session_in, record_in, places_fit, start_in, start_in_effects}
use Rattle.lent.specs.Lent.{places_fit_lem}
use Rattle.lent.specs.Runs.{left_session}

cleared : session_in (replicate 1031 0) (replicate 2048 0) (replicate 2048 0) ≡ ended_session
unfolding session_in ended_session
cleared = refl

-- the places cleared
module _ (chart names numbers internal external clock : List ℕ) (good : Bool) (e : good ≡ is_compiled chart names)
    (l : places_fit (length numbers) (length internal) (length external) (length clock) ≡ true) (numbers₀ internal₀ external₀ clock₀ old : List ℕ)
    (zn : numbers₀ ≡ replicate (length numbers) 0) (zi : internal₀ ≡ replicate (length internal) 0) (ze : external₀ ≡ replicate (length external) 0) (zc : clock₀ ≡ replicate (length clock) 0) where
  blank_numbers : numbers₀ ≡ replicate 1031 0
  blank_numbers = zn ∙ ap (λ (n : ℕ). replicate n 0) (places_fit_lem numbers internal external clock l).0.numbers

  blank_internal : internal₀ ≡ replicate 2048 0
  blank_internal = zi ∙ ap (λ (n : ℕ). replicate n 0) (places_fit_lem numbers internal external clock l).0.internal

  blank_external : external₀ ≡ replicate 2048 0
  blank_external = ze ∙ ap (λ (n : ℕ). replicate n 0) (places_fit_lem numbers internal external clock l).0.external

  blank_clock : clock₀ ≡ replicate 4368 0
  blank_clock = zc ∙ ap (λ (n : ℕ). replicate n 0) (places_fit_lem numbers internal external clock l).1

  pub start_8 : not good ≡ true →
      (record { session = session_in numbers₀ internal₀ external₀; clock = record_in clock₀; answer = BadChart; count = 0 } ≡ start_of chart names (length old)) × (old ≡ trace_with old (start_effects chart names (length old)))
  start_8 t =
      let k = said_not_yes _ _ e t in (
        start_bad_chart chart names (length old) k (session_in numbers₀ internal₀ external₀) clock₀ (rw (blank_numbers, blank_internal, blank_external) cleared) blank_clock,
        start_bad_trace chart names (length old) old k,
      )

  module _ (t : not good ≡ false) where
    chart_made : is_compiled chart names ≡ true
    chart_made = said_not_no _ _ e t

    pub start_asks : CompiledWith chart names × (numbers₀ ≡ replicate 1031 0) × (internal₀ ≡ replicate 2048 0) × (clock₀ ≡ replicate 4368 0)
    start_asks = (compiled_ready chart names chart_made, blank_numbers, blank_internal, blank_clock)

    pub start_left : (numbers₁ internal₁ clock₁ trace : List ℕ) (b : Begun) →
        StartDone false (start (chart_of chart) (name_at names) (length old)) b numbers₁ internal₁ (replicate 2048 0) clock₁ old trace →
        (record { session = session_in numbers₁ internal₁ external₀; clock = record_in clock₁; answer = b.answer; count = b.count } ≡ start_of chart names (length old)) ×
        (trace ≡ trace_with old (start_effects chart names (length old)))
    start_left numbers₁ internal₁ clock₁ trace b d =
        let after : session_in numbers₁ internal₁ external₀ ≡ session_of (start (chart_of chart) (name_at names) (length old)).state.follower =
        rw blank_external (left_session _ numbers₁ internal₁ (replicate 2048 0) d.state.0) in (
          start_is chart names (length old) chart_made _ clock₁ b.answer b.count after d.state.1 d.answer d.count,
          start_trace chart names (length old) chart_made old trace d.written,
        )

-- places of other lengths, and places that fit
module _ (fits : Bool) (s : Session) (y : Clock) (chart names : List ℕ) (old : List ℕ) where
  pub start_unfit : fits ≡ false →
      (record { session = s; clock = y; answer = BadSession; count = 0 } ≡ start_in fits s y chart names (length old)) × (old ≡ trace_with old (start_in_effects fits chart names (length old)))
  start_unfit e = (unfold start_in in rw e, unfold start_in_effects trace_with in rw e)

  pub start_fit : fits ≡ true → (r : Started) (trace : List ℕ) → (r ≡ start_of chart names (length old)) × (trace ≡ trace_with old (start_effects chart names (length old))) →
      (r ≡ start_in fits s y chart names (length old)) × (trace ≡ trace_with old (start_in_effects fits chart names (length old)))
  start_fit e r trace h = (unfold start_in in rw e h.0, unfold start_in_effects in rw e h.1)
