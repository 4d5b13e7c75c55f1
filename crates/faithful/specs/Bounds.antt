-- What a host may build on: how many rounds a run does at most, and how many places of trace suffice. For every chart, bytes of names, session and clock record, whatever they hold.
use Rattle.std.proofs.Math.Path.{◌≡◌, refl, ap}
use Rattle.std.specs.Prelude.{Bool, cond, ℕ, ◌+◌, ◌≤◌, ◌<◌}
use Rattle.std.proofs.Math.Bool.{true, false}
use mathlib.Core.List.{List, []}
use native.Mathlib.Omega.{arith}
use Rattle.definition.specs.declared.Answer.TheVariants.{BadChart, BadSession, NoRoom}
use Rattle.definition.specs.declared.Status.TheVariants.{More, Refused}
use Rattle.definition.specs.Chart.{Chart}
use Rattle.definition.specs.Tables.{chart_of, name_at}
use Rattle.follower.specs.Clock.{new_clock}
use Rattle.follower.specs.Follower as follower
use Rattle.follower.specs.Follower.{start_or, run}
use Rattle.follower.specs.Legal.{WellFormed}
use Rattle.definition.specs.Compiled.{own_numbers, is_compiled}
use Rattle.accepted.specs.Sound.{Sound}
use Rattle.theory.specs.Runs.{run_more}
use Rattle.chart.specs.Own.{own_chart, compiled_ready}
use Rattle.room.specs.Rounds.{waiting, run_spent, run_bounded, well_formed_closes, well_formed_waiting}
use Rattle.room.specs.Room.{room_for, room_of}
use Rattle.room.specs.Most as most
use Rattle.room.specs.Enough.{start_enough, run_enough, first_round_enough}
use Rattle.session.specs.declared.Session.{Session}
use Rattle.session.specs.declared.Clock.{Clock}
use Rattle.session.specs.declared.Ran.{Ran}
use Rattle.session.specs.Sessions.{session_of, view, view_timed, is_timed, start_by, started_as, start_of, refused_run, ran_as, run_from, run_of}
use Rattle.session.specs.Timing.{timed_session}
use Rattle.session.specs.Spelling.{session_spells, session_well_formed}

-- the names that wait in a session's queues, by its own counts
unfoldable pub waiting_in : Session → ℕ
waiting_in s = s.internal_count + s.external_count

module _ (chart names : List ℕ) (k : is_compiled chart names ≡ true) where
  sound : Sound (chart_of (own_numbers chart))
  sound = let h = (compiled_ready chart names k).ready in rw (own_chart chart h.tables) h.sound

  room_is : room_of chart names ≡ room_for (chart_of (own_numbers chart))
  unfolding room_of
  room_is = rw k

-- places of trace that suffice for every chart
pub room_most : (chart names : List ℕ) → room_of chart names ≤ 43008
room_most chart names = most.room_most chart names

-- ---- runs

module _ (s : Session) (y : Clock) (chart names : List ℕ) (rounds room : ℕ) where
  abbrev c : Chart
  c = chart_of (own_numbers chart)

  -- refused with 8, refused with 9, or the follower's run
  run_ways {ℓ} : (P : Ran → Type ℓ) → P (refused_run s y BadChart) → P (refused_run s y BadSession) →
      (is_compiled chart names ≡ true → is_timed c s y ≡ true → P (ran_as (run c (name_at names) rounds (view_timed c.rows s y) room))) → P (run_of s y chart names rounds room)
  unfolding run_of run_from
  run_ways P a b f = outer (is_compiled chart names) refl
    where
      inner : (d : Bool) → is_compiled chart names ≡ true → is_timed c s y ≡ d → P (cond d (ran_as (run c (name_at names) rounds (view_timed c.rows s y) room)) (refused_run s y BadSession))
      inner true k h = f k h
      inner false k h = b

      outer : (d : Bool) → is_compiled chart names ≡ d →
          P (cond d (cond (is_timed c s y) (ran_as (run c (name_at names) rounds (view_timed c.rows s y) room)) (refused_run s y BadSession)) (refused_run s y BadChart))
      outer true k = inner (is_timed c s y) k refl
      outer false k = a

  formed : is_compiled chart names ≡ true → is_timed c s y ≡ true → WellFormed c (view c.rows s)
  formed k h = session_well_formed c (sound chart names k) s (timed_session c s y h)

  waits : is_compiled chart names ≡ true → is_timed c s y ≡ true → waiting (view c.rows s) ≡ waiting_in s
  unfolding waiting waiting_in session_of
  waits k h = ap (λ (x : Session). x.internal_count + x.external_count) (session_spells c (sound chart names k) s (timed_session c s y h))

  -- no more rounds than entries and names that waited
  pub rounds_spent : (run_of s y chart names rounds room).rounds ≤ waiting_in s + (run_of s y chart names rounds room).count
  unfolding refused_run ran_as view_timed
  rounds_spent =
      run_ways (λ r. r.rounds ≤ waiting_in s + r.count) (omega arith) (omega arith)
      (λ k h. let a = run_spent c (name_at names) rounds (view_timed c.rows s y) room (well_formed_closes c _ (formed k h)) in let e = waits k h in omega arith)

  -- at most 32 names wait in each queue
  pub rounds_bounded : (run_of s y chart names rounds room).rounds ≤ room + 64
  unfolding refused_run ran_as view_timed
  rounds_bounded =
      run_ways (λ r. r.rounds ≤ room + 64) (omega arith) (omega arith)
      (λ k h. let a = run_bounded c (name_at names) rounds (view_timed c.rows s y) room (well_formed_closes c _ (formed k h)) in
      let b = well_formed_waiting c (view c.rows s) (formed k h) in omega arith)

  -- so a run of more rounds than that is idle, ended or refused
  pub run_settles : room + 64 < rounds → (run_of s y chart names rounds room).status ≡ More → ⊥
  unfolding refused_run ran_as view_timed
  run_settles l =
      run_ways (λ r. r.status ≡ More → ⊥) (λ m. let z : ◌≡◌ {A = ℕ} 0 1 = cc in omega arith) (λ m. let z : ◌≡◌ {A = ℕ} 0 1 = cc in omega arith)
      (λ k h m. let a = run_bounded c (name_at names) rounds (view_timed c.rows s y) room (well_formed_closes c _ (formed k h)) in
      let b = well_formed_waiting c (view c.rows s) (formed k h) in
      let e = run_more c (name_at names) rounds (view_timed c.rows s y) room m in omega arith)

  -- a run that is refused with 10 leaves fewer places of trace than suffice for a round
  pub run_room : (run_of s y chart names rounds room).status ≡ Refused NoRoom → room < room_of chart names + (run_of s y chart names rounds room).count
  unfolding refused_run ran_as view_timed
  run_room =
      run_ways (λ r. r.status ≡ Refused NoRoom → room < room_of chart names + r.count)
      (λ m. let z : ◌≡◌ {A = ℕ} 0 1 = cc in absurd (omega arith)) (λ m. let z : ◌≡◌ {A = ℕ} 0 1 = cc in absurd (omega arith))
      (λ k h m. let a = run_enough c (sound chart names k) (name_at names) rounds (view_timed c.rows s y) room (formed k h) m in let e = room_is chart names k in omega arith)

  -- and one with so many places at first does its first round
  pub first_round : room_of chart names ≤ room → (run_of s y chart names rounds room).status ≡ Refused NoRoom → 1 ≤ (run_of s y chart names rounds room).rounds
  unfolding refused_run ran_as view_timed
  first_round l =
      run_ways (λ r. r.status ≡ Refused NoRoom → 1 ≤ r.rounds)
      (λ m. let z : ◌≡◌ {A = ℕ} 0 1 = cc in absurd (omega arith)) (λ m. let z : ◌≡◌ {A = ℕ} 0 1 = cc in absurd (omega arith))
      (λ k h m. let e = room_is chart names k in
      first_round_enough c (sound chart names k) (name_at names) rounds (view_timed c.rows s y) room (formed k h) (omega arith) m)

-- ---- starts

module _ (chart names : List ℕ) (room : ℕ) where
  -- a start that is refused with 10 was lent fewer
  pub start_room : (start_of chart names room).answer ≡ NoRoom → room < room_of chart names
  unfolding start_of started_as start_by start_or
  start_room = go (is_compiled chart names) refl
    where
      go : (d : Bool) → is_compiled chart names ≡ d →
          (cond d (follower.start (chart_of (own_numbers chart)) (name_at names) room) (record { answer = BadChart; state = record { follower = follower.ended_follower (chart_of (own_numbers chart)); clock = new_clock }; effects = [] })).answer ≡ NoRoom → room < room_of chart names
      go true k m = let a = start_enough (chart_of (own_numbers chart)) (sound chart names k) (name_at names) room m in let e = room_is chart names k in omega arith
      go false k m = let z : ◌≡◌ {A = ℕ} 0 1 = cc in absurd (omega arith)
