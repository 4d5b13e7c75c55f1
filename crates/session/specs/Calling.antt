-- The calls over a session's places: what they spell when a call begins, and the session that is in them when it ends.
use Rattle.std.specs.Prelude.{◌≡◌, refl, true, false, List, [], ◌∷◌, ◌++◌, ℕ, length, get_or, take, drop, replicate}
use Rattle.std.proofs.Math.Path.{sym, ap}
use Rattle.std.proofs.Common.{◌∙◌, arith}
use Rattle.definition.specs.declared.Answer.{Answer}
use Rattle.definition.specs.declared.Answer.TheVariants.{BadChart, BadSession}
use Rattle.definition.specs.declared.Status.{Status}
use Rattle.definition.specs.Chart.{Chart}
use Rattle.definition.specs.Tables.{row_count, chart_of, name_at}
use Rattle.follower.specs.Follower as follower
use Rattle.definition.specs.Answers.{mode_no}
use Rattle.follower.specs.Clock.{new_clock}
use Rattle.follower.specs.Follower.{Follower, start_or, start, run}
use Rattle.definition.specs.Compiled.{words, own_numbers, is_compiled}
use Rattle.accepted.specs.Sound.{Sound}
use Rattle.rowset.specs.Member.{rows_of}
use Rattle.chart.specs.Ready.{row_set_at}
use Rattle.chart.specs.Own.{own_chart, compiled_ready}
use Rattle.state.specs.declared.State.{State}
use Rattle.state.specs.State.{rows_at, mode_from, numbers_of, history_in, internal_in, external_in, Spells, Holds, mode_in, state_of, state_at, HoldsAt, trace_with}
use Rattle.state.specs.Places.{reads_words, reads_history, reads_internal, reads_external, reads_number, state_again}
use Rattle.state.specs.Numbers.{back_history}
use Rattle.clock.specs.Records.{clock_bytes, clock_in, ClockHolds}
use Rattle.clock.specs.Spelled.{zeros_are_new}
use Rattle.rounds.specs.Calls.{timed_at}
use Rattle.session.specs.declared.Session.{Session}
use Rattle.session.specs.declared.Clock.{Clock}
use Rattle.session.specs.Sessions.{session, session_at, session_of, ended_session, view, is_session, record_of, view_timed, is_timed, start_by, started_as, start_of, start_effects, refused_run, ran_as, run_from, run_of, run_effects}
use Rattle.session.specs.Spelling.{session_spells, session_well_formed, ended_spells}
use Rattle.session.specs.Timing.{timed_session, timed_holds}

-- the session in places that spell a state is the session of that state
pub places_session : (f : Follower) (numbers internal external : List ℕ) → Spells f numbers internal external → session_at numbers internal external ≡ session_of f
unfolding session_of
places_session f numbers internal external s =
    let a = reads_words f numbers internal external s in
    let b = reads_history f numbers internal external s in
    let i = s.internal_is in
    let x = s.external_is in
    let n = reads_internal f numbers internal external s in
    let o = reads_external f numbers internal external s in
    let m = reads_number f numbers internal external s in
    λ j. session (a j) (b j) (i j) (x j) (n j) (o j) (m j)

-- the parts of a session as a call takes them
pub record Taken (s : Session) (p : State) : Type 0 where
  pub configuration : p.configuration ≡ row_set_at s.configuration 0
  pub internal : p.internal ≡ s.internal_count
  pub external : p.external ≡ s.external_count
  pub mode : p.mode ≡ mode_from s.mode

-- the numbers of a state that is read in a session
pub numbers_made : (s : Session) (p : State) (numbers : List ℕ) → Taken s p → numbers ≡ numbers_of (words (rows_of p.configuration)) s.history p.internal p.external (mode_no p.mode) →
    numbers ≡ numbers_of (words (rows_at s.configuration 0)) s.history s.internal_count s.external_count (mode_no (mode_from s.mode))
unfolding rows_at
numbers_made s p numbers t e =
    let a = t.configuration in
    let i = t.internal in
    let x = t.external in
    let m = t.mode in
    e ∙ (λ j. numbers_of (words (rows_of (a j))) s.history (i j) (x j) (mode_no (m j)))

-- the history put into numbers, then the state
pub numbers_put : (s : Session) (p : State) (history numbers : List ℕ) → Taken s p → history ≡ s.history →
    numbers ≡ numbers_of (words (rows_of p.configuration)) (history_in (replicate 4 0 ++ (history ++ drop 1024 (drop 4 (replicate 1031 0))))) p.internal p.external (mode_no p.mode) → length s.history ≡ 1024 →
    numbers ≡ numbers_of (words (rows_at s.configuration 0)) s.history s.internal_count s.external_count (mode_no (mode_from s.mode))
numbers_put s p history numbers t e w l =
    let b = back_history (replicate 1031 0) history refl (ap length e ∙ l) ∙ e in
    numbers_made s p numbers t (w ∙ (λ j. numbers_of (words (rows_of p.configuration)) (b j) p.internal p.external (mode_no p.mode)))

-- the first four numbers
take_four : (numbers : List ℕ) → length numbers ≡ 1031 → get_or numbers 0 0 ∷ get_or numbers 1 0 ∷ get_or numbers 2 0 ∷ get_or numbers 3 0 ∷ [] ≡ take 4 numbers
take_four [] l = absurd (omega arith)
take_four (a ∷ []) l = absurd (omega arith)
take_four (a ∷ b ∷ []) l = absurd (omega arith)
take_four (a ∷ b ∷ c ∷ []) l = absurd (omega arith)
take_four (a ∷ b ∷ c ∷ d ∷ xs) l = refl

pub session_made : (numbers internal external history : List ℕ) → history ≡ history_in numbers → length numbers ≡ 1031 →
    session (get_or numbers 0 0 ∷ get_or numbers 1 0 ∷ get_or numbers 2 0 ∷ get_or numbers 3 0 ∷ []) history internal external (internal_in numbers) (external_in numbers) (get_or numbers 1030 0) ≡ session_at numbers internal external
session_made numbers internal external history e l =
    let a = take_four numbers l in
    λ j. session (a j) (e j) internal external (internal_in numbers) (external_in numbers) (get_or numbers 1030 0)

-- the places of a session that passes spell its state
module _ (c : Chart) (g : Sound c) (s : Session) (h : is_session c s ≡ true) (numbers : List ℕ) where
  spelled : session_of (view c.rows s) ≡ s
  spelled = session_spells c g s h

  pub session_places : numbers ≡ numbers_of (words (rows_at s.configuration 0)) s.history s.internal_count s.external_count (mode_no (mode_from s.mode)) →
      Spells (view c.rows s) numbers s.internal s.external
  unfolding session_of view
  session_places e =
      let b = ap (λ (x : Session). x.history) (sym spelled) in
      let n = ap (λ (x : Session). x.internal_count) (sym spelled) in
      let o = ap (λ (x : Session). x.external_count) (sym spelled) in
      record {
        numbers_are = e ∙ (λ j. numbers_of (words (rows_at s.configuration 0)) (b j) (n j) (o j) (mode_no (mode_from s.mode)));
        internal_is = ap (λ (x : Session). x.internal) (sym spelled);
        external_is = ap (λ (x : Session). x.external) (sym spelled);
      }

module _ (chart names : List ℕ) (s : Session) (y : Clock) (k : is_compiled chart names ≡ true) (h : is_timed (chart_of chart) s y ≡ true) (numbers internal external : List ℕ)
    (w : Spells (view (row_count chart) s) numbers internal external) where
  sound : Sound (chart_of chart)
  sound = (compiled_ready chart names k).ready.sound

  begins : Holds (chart_of chart) (view (row_count chart) s) numbers internal external
  begins = record { spells = w; formed = session_well_formed (chart_of chart) sound s (timed_session (chart_of chart) s y h) }

  again : state_at chart numbers internal external ≡ view (row_count chart) s
  again =
      state_again (chart_of chart) sound.tree (let n = (compiled_ready chart names k).ready.tables.sized.counts.rows in omega arith) (view (row_count chart) s) numbers internal external begins

  pub places_hold : HoldsAt chart numbers internal external
  places_hold = rw again begins

  -- the record beside a session of the mode in its numbers
  pub record_holds : ClockHolds (mode_in numbers) y.bytes
  unfolding state_of view
  record_holds =
      let m : mode_in numbers ≡ mode_from s.mode = ap (λ (f : Follower). f.mode) again in
      rw m (timed_holds (chart_of chart) s y h)

  own_is : chart_of (own_numbers chart) ≡ chart_of chart
  own_is = own_chart chart (compiled_ready chart names k).ready.tables

  module _ (rounds room : ℕ) where
    abbrev ran : follower.Ran
    ran = run (chart_of chart) (name_at names) rounds (timed_at chart numbers internal external y.bytes) room

    ran_from : ran ≡ run_from (chart_of chart) names s y rounds room
    unfolding run_from view_timed
    ran_from = ap (λ (f : Follower). run (chart_of chart) (name_at names) rounds (record { follower = f; clock = clock_in y.bytes }) room) again

    -- a run over the places is the session's run
    pub run_is : (after : Session) (bytes : List ℕ) (status : Status) (done count : ℕ) → after ≡ session_of ran.state.follower → bytes ≡ clock_bytes ran.state.clock →
        status ≡ ran.status → done ≡ ran.rounds → count ≡ length ran.effects →
        record { session = after; clock = record { bytes = bytes }; status = status; rounds = done; count = count } ≡ run_of s y chart names rounds room
    unfolding run_of ran_as record_of
    run_is after bytes status done count a z b d e =
        rw (k, own_is, h) (rw (← ran_from) (λ j. record { session = a j; clock = record { bytes = z j }; status = b j; rounds = d j; count = e j }))

    pub run_trace : (old trace : List ℕ) → trace ≡ trace_with old ran.effects → trace ≡ trace_with old (run_effects s y chart names rounds room)
    unfolding run_effects
    run_trace old trace e = rw (k, own_is, h) (rw (← ran_from) e)

-- ---- refused runs: 8 and 9 leave session, clock record and trace as they were

module _ (chart names : List ℕ) (s : Session) (y : Clock) (rounds room : ℕ) where
  pub run_bad_chart : is_compiled chart names ≡ false → refused_run s y BadChart ≡ run_of s y chart names rounds room
  unfolding run_of
  run_bad_chart k = rw k

  pub run_bad_session : is_compiled chart names ≡ true → is_timed (chart_of chart) s y ≡ false → refused_run s y BadSession ≡ run_of s y chart names rounds room
  unfolding run_of
  run_bad_session k h = rw (k, own_chart chart (compiled_ready chart names k).ready.tables, h)

  pub bad_chart_trace : (old : List ℕ) → is_compiled chart names ≡ false → old ≡ trace_with old (run_effects s y chart names rounds room)
  unfolding run_effects trace_with
  bad_chart_trace old k = rw k

  pub bad_session_trace : (old : List ℕ) → is_compiled chart names ≡ true → is_timed (chart_of chart) s y ≡ false → old ≡ trace_with old (run_effects s y chart names rounds room)
  unfolding run_effects trace_with
  bad_session_trace old k h = rw (k, own_chart chart (compiled_ready chart names k).ready.tables, h)

-- ---- start

module _ (chart names : List ℕ) (room : ℕ) where
  pub start_bad_chart : is_compiled chart names ≡ false → (s : Session) (bytes : List ℕ) → s ≡ ended_session → bytes ≡ replicate 4368 0 →
      record { session = s; clock = record { bytes = bytes }; answer = BadChart; count = 0 } ≡ start_of chart names room
  unfolding start_of started_as start_by start_or record_of
  start_bad_chart k s bytes z y =
      let e = z ∙ ended_spells (chart_of (own_numbers chart)) in
      let f : bytes ≡ clock_bytes new_clock = y ∙ sym zeros_are_new in
      rw k (λ j. record { session = e j; clock = record { bytes = f j }; answer = BadChart; count = 0 })

  pub start_bad_trace : (old : List ℕ) → is_compiled chart names ≡ false → old ≡ trace_with old (start_effects chart names room)
  unfolding start_effects start_by start_or trace_with
  start_bad_trace old k = rw (start_effects, start_by, k)

  module _ (k : is_compiled chart names ≡ true) where
    abbrev began : follower.Started
    began = start (chart_of chart) (name_at names) room

    start_by_lem : start_by chart names room ≡ began
    unfolding start_by
    start_by_lem = rw (k, own_chart chart (compiled_ready chart names k).ready.tables)

    pub start_is : (after : Session) (bytes : List ℕ) (answer : Answer) (count : ℕ) → after ≡ session_of began.state.follower → bytes ≡ clock_bytes began.state.clock →
        answer ≡ began.answer → count ≡ length began.effects →
        record { session = after; clock = record { bytes = bytes }; answer = answer; count = count } ≡ start_of chart names room
    unfolding start_of started_as record_of
    start_is after bytes answer count a z b d = rw start_by_lem (λ j. record { session = a j; clock = record { bytes = z j }; answer = b j; count = d j })

    pub start_trace : (old trace : List ℕ) → trace ≡ trace_with old began.effects → trace ≡ trace_with old (start_effects chart names room)
    unfolding start_effects
    start_trace old trace e = e ∙ ap (λ (r : follower.Started). trace_with old r.effects) (sym start_by_lem)
