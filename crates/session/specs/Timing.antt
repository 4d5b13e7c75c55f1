-- A session beside its clock record (R-9): what the test behind 9 says, and that a well-formed state has one spelling.
use Rattle.std.specs.Prelude.{◌≡◌, refl, Bool, true, false, List, ℕ, ◌≤◌}
use Rattle.std.proofs.Math.Path.{sym}
use Rattle.definition.specs.declared.Mode.{Mode}
use Rattle.definition.specs.declared.Mode.TheVariants.{Running, Closing, Ended}
use Rattle.definition.specs.Chart.{Chart}
use Rattle.follower.specs.Clock as pending
use Rattle.follower.specs.Follower.{is_ended, Timed}
use Rattle.follower.specs.Legal.{is_well_formed, clock_fits, is_well_timed}
use Rattle.laws.specs.Bools.{no, and_left, and_right, and_true}
use Rattle.accepted.specs.Sound.{Sound}
use Rattle.theory.specs.WellFormed.{well_formed_exact}
use Rattle.clock.specs.Records.{clock_bytes, clock_in, is_clock, ClockHolds}
use Rattle.clock.specs.Spelled.{clock_again, bytes_hold, holds_is_clock, is_clock_holds}
use Rattle.state.specs.State.{mode_from}
use Rattle.state.specs.Found.{mode_again}
use Rattle.session.specs.declared.Session.{Session}
use Rattle.session.specs.declared.Clock.{Clock}
use Rattle.session.specs.Sessions.{session_of, view, same_session, is_session, record_of, view_timed, is_timed}
use Rattle.session.specs.Spelling.{view_session, session_passes}

-- ---- what the test says

module _ (c : Chart) (s : Session) (k : Clock) where
  pub timed_judged : is_session c s ≡ true → (m : Mode) (b : Bool) → m ≡ mode_from s.mode → b ≡ is_clock m k.bytes → b ≡ is_timed c s k
  unfolding is_timed
  timed_judged h m b e f = rw (h, ← e) f

  pub timed_neither : is_session c s ≡ false → false ≡ is_timed c s k
  unfolding is_timed
  timed_neither h = rw h

  module _ (h : is_timed c s k ≡ true) where
    pub timed_session : is_session c s ≡ true
    unfolding is_timed
    timed_session = and_left (is_session c s) _ h

    pub timed_holds : ClockHolds (mode_from s.mode) k.bytes
    unfolding is_timed
    timed_holds = is_clock_holds _ _ (and_right (is_session c s) _ h)

    -- what passes is the record of its bytes
    pub timed_record : record_of (clock_in k.bytes) ≡ k
    unfolding record_of
    timed_record = let e = sym timed_holds.spells in λ j. record { bytes = e j }

    -- and with the session a well-formed state
    pub timed_well : is_well_timed c (view_timed c.rows s k) ≡ true
    unfolding is_well_timed is_session view_timed view
    timed_well = and_true (is_well_formed c (view c.rows s)) _ (and_right (same_session s (session_of (view c.rows s))) _ timed_session) timed_holds.fits

-- unless the session has ended, a record is well formed beside a running one
pub live_fits : (m : Mode) (k : pending.Clock) → is_ended m ≡ false → clock_fits m k ≡ true → clock_fits Running k ≡ true
unfolding clock_fits is_ended
live_fits Running k e h = h
live_fits Closing k e h = h
live_fits Ended k e h = absurd (no (sym e))

pub live_holds : (m : Mode) (bytes : List ℕ) → is_ended m ≡ false → ClockHolds m bytes → ClockHolds Running bytes
live_holds m bytes e h = record { spells = h.spells; fits = live_fits m (clock_in bytes) e h.fits }

-- ---- a well-formed state has one spelling

module _ (c : Chart) (g : Sound c) (few : c.rows ≤ 256) (t : Timed) (h : is_well_timed c t ≡ true) where
  formed : is_well_formed c t.follower ≡ true
  unfolding is_well_timed
  formed = and_left (is_well_formed c t.follower) _ h

  fits : clock_fits t.follower.mode t.clock ≡ true
  unfolding is_well_timed
  fits = and_right (is_well_formed c t.follower) _ h

  -- the state is found again
  pub view_timed_lem : view_timed c.rows (session_of t.follower) (record_of t.clock) ≡ t
  unfolding view_timed record_of
  view_timed_lem =
      let f = view_session c g.tree few t.follower ((well_formed_exact c g t.follower).0 formed) in
      let k = clock_again t.follower.mode t.clock fits in
      λ j. record { follower = f j; clock = k j }

  -- and its spelling passes
  pub timed_passes : is_timed c (session_of t.follower) (record_of t.clock) ≡ true
  unfolding is_timed session_of record_of
  timed_passes =
      and_true (is_session c (session_of t.follower)) _ (session_passes c g t.follower few ((well_formed_exact c g t.follower).0 formed))
      (rw (mode_again t.follower.mode) (holds_is_clock t.follower.mode (clock_bytes t.clock) (bytes_hold t.follower.mode t.clock fits (clock_bytes t.clock) refl)))
