-- A clock call (R-9): each answer of the code is the definition's, and what is due joins the follower's external queue.
use Rattle.std.specs.Prelude.{◌≡◌, Bool, ◌||◌, List, ℕ, ◌≤◌, eqb, ltb}
use Rattle.std.proofs.Math.Path.{refl, sym}
use Rattle.std.proofs.Common.{ap, ◌∙◌}
use Rattle.std.proofs.Math.Bool.{true, false, cond}
use Rattle.std.proofs.Math.ListN.{length}
use borrow.Author.Tests.{ltb-false}
use Rattle.definition.specs.declared.Mode.TheVariants.{Running}
use Rattle.definition.specs.declared.Answer.{Answer}
use Rattle.definition.specs.declared.Answer.TheVariants.{Done, BadChart, BadSession, SessionEnded, ClockBack}
use Rattle.definition.specs.Chart.{Chart}
use Rattle.definition.specs.Tables.{chart_of}
use Rattle.definition.specs.Answers.{answer_no}
use Rattle.definition.specs.Compiled.{is_compiled}
use Rattle.follower.specs.Clock.{most_ticks, Joining}
use Rattle.follower.specs.Follower.{is_ended, Timed, clock_answer, with_names, clocked_by, clocked, clock}
use Rattle.follower.specs.Legal.{is_well_timed}
use Rattle.laws.specs.Bools.{clash}
use Rattle.accepted.specs.Sound.{Sound}
use Rattle.chart.specs.Own.{own_chart, compiled_ready}
use Rattle.queue.specs.Queues.{queue_bytes, queue_of, names_length}
use Rattle.clock.specs.Records.{clock_in, ClockHolds, due_by, JoinedDue}
use Rattle.state.specs.State.{mode_from}
use Rattle.session.specs.declared.Session.{Session}
use Rattle.session.specs.declared.Clock.{Clock}
use Rattle.session.specs.declared.Clocked.{Clocked}
use Rattle.session.specs.Sessions.{session, session_of, view, record_of, view_timed, is_timed, clocked_as, clock_to, clock_checked, clock_of}
use Rattle.session.specs.Spelling.{session_spells, session_well_formed}
use Rattle.session.specs.Timing.{timed_session, timed_holds, live_holds, view_timed_lem, timed_passes}
use Rattle.session.specs.Posting.{ended_mode}

-- both tests of the ticks came out false
pub neither : (a b : Bool) → (a || b) ≡ false → (a ≡ false) × (b ≡ false)
neither true b h = absurd (clash true refl h)
neither false b h = (refl, h)

refused_to : (s : Session) (k : Clock) (t : Timed) (ticks : ℕ) (a : Answer) → clock_answer t ticks ≡ a → eqb (answer_no a) 0 ≡ false → clocked_as s k a ≡ clock_to s k t ticks
unfolding clock_to
refused_to s k t ticks a e n = rw (e, n)

module _ (c : Chart) (s : Session) (k : Clock) (ticks : ℕ) where
  pub clock_bad_session : is_timed c s k ≡ false → clocked_as s k BadSession ≡ clock_checked c s k ticks
  unfolding clock_checked
  clock_bad_session h = rw h

  module _ (h : is_timed c s k ≡ true) where
    abbrev t : Timed
    t = view_timed c.rows s k

    answer_ended : s.mode ≡ 0 → clock_answer t ticks ≡ SessionEnded
    unfolding clock_answer view_timed view mode_from is_ended
    answer_ended e = rw e

    pub clock_ended : s.mode ≡ 0 → clocked_as s k SessionEnded ≡ clock_checked c s k ticks
    unfolding clock_checked answer_no
    clock_ended e = rw h (refused_to s k t ticks SessionEnded (answer_ended e) refl)

    module _ (m : s.mode ≡ 0 → ⊥) (n : ℕ) (e : n ≡ (clock_in k.bytes).ticks) where
      answer_live : clock_answer t ticks ≡ cond (ltb ticks n || ltb most_ticks ticks) ClockBack Done
      unfolding clock_answer view_timed view
      answer_live = rw (ended_mode s.mode m, ← e)

      pub clock_back : (ltb ticks n || ltb most_ticks ticks) ≡ true → clocked_as s k ClockBack ≡ clock_checked c s k ticks
      unfolding clock_checked answer_no
      clock_back b = rw h (refused_to s k t ticks ClockBack (answer_live ∙ rw b) refl)

      answer_done : (ltb ticks n || ltb most_ticks ticks) ≡ false → clock_answer t ticks ≡ Done
      answer_done b = answer_live ∙ rw b

      module _ (g : Sound c) (b : (ltb ticks n || ltb most_ticks ticks) ≡ false) where
        spelled : session_of (view c.rows s) ≡ s
        spelled = session_spells c g s (timed_session c s k h)

        waits : length (queue_of s.external s.external_count) ≡ s.external_count
        waits = names_length s.external s.external_count

        -- what joining asks for
        pub clock_asks : ClockHolds Running k.bytes × (s.external ≡ queue_bytes (queue_of s.external s.external_count)) × (s.external_count ≤ 32) × (ticks ≤ most_ticks)
        unfolding session_of view
        clock_asks =
            let w = session_well_formed c g s (timed_session c s k h) in
            let l : length (queue_of s.external s.external_count) ≤ 32 = w.external_short in (
              live_holds (mode_from s.mode) k.bytes (ended_mode s.mode m) (timed_holds c s k h),
              sym (ap (λ (x : Session). x.external) spelled),
              rw waits at l,
              ltb-false _ _ (neither (ltb ticks n) (ltb most_ticks ticks) b).1,
            )

        module _ (new queue : List ℕ) (q : ℕ) (d : JoinedDue k.bytes new s.external queue s.external_count ticks q) where
          abbrev joins : Joining
          joins = due_by k.bytes s.external_count ticks

          abbrev after : Timed
          after = record { follower = with_names (view c.rows s) joins.names; clock = record { ticks = ticks; pending = joins.left } }

          moved : clock t ticks ≡ after
          unfolding clock clocked clocked_by view_timed answer_no view
          moved = rw (answer_done b, waits)

          joined : session s.configuration s.history s.internal queue s.internal_count q s.mode ≡ session_of after.follower
          unfolding session_of with_names view
          joined =
              let e = sym spelled in
              let x = d.external in
              let y = d.waits in
              λ i. session (e i).configuration (e i).history (e i).internal (x i) (e i).internal_count (y i) (e i).mode

          pub clock_done : clocked_as (session s.configuration s.history s.internal queue s.internal_count q s.mode) (record { bytes = new }) Done ≡ clock_checked c s k ticks
          unfolding clock_checked clock_to record_of answer_no
          clock_done =
              let j = joined in
              let y = d.clock in
              rw (h, answer_done b, moved) (λ i. clocked_as (j i) (record { bytes = y i }) Done)

-- ---- the chart, checked

module _ (s : Session) (k : Clock) (chart names : List ℕ) (ticks : ℕ) where
  pub clock_bad_chart : is_compiled chart names ≡ false → clocked_as s k BadChart ≡ clock_of s k chart names ticks
  unfolding clock_of
  clock_bad_chart h = rw h

  pub clock_good_chart : is_compiled chart names ≡ true → (r : Clocked) → r ≡ clock_checked (chart_of chart) s k ticks → r ≡ clock_of s k chart names ticks
  unfolding clock_of
  clock_good_chart h r e = rw (h, own_chart chart (compiled_ready chart names h).ready.tables) e

-- ---- a clock call follows the follower's: what is handed back spells its next state, taken or refused

module _ (c : Chart) (g : Sound c) (few : c.rows ≤ 256) (t : Timed) (h : is_well_timed c t ≡ true) (ticks : ℕ) where
  pub clock_follows : clock_checked c (session_of t.follower) (record_of t.clock) ticks ≡
      clocked_as (session_of (clock t ticks).follower) (record_of (clock t ticks).clock) (clock_answer t ticks)
  unfolding clock_checked clock_to clock
  clock_follows = rw (timed_passes c g few t h, view_timed_lem c g few t h) (go (eqb (answer_no (clock_answer t ticks)) 0))
    where
      go : (b : Bool) →
          cond {A = Clocked} b (clocked_as (session_of (cond {A = Timed} b (clocked t ticks) t).follower) (record_of (cond {A = Timed} b (clocked t ticks) t).clock) (clock_answer t ticks))
          (clocked_as (session_of t.follower) (record_of t.clock) (clock_answer t ticks)) ≡
          clocked_as (session_of (cond {A = Timed} b (clocked t ticks) t).follower) (record_of (cond {A = Timed} b (clocked t ticks) t).clock) (clock_answer t ticks)
      go true = refl
      go false = refl
