-- A clock call over lent places (R-9).
use Rattle.std.specs.Prelude.{◌≡◌, true, false, not, ◌||◌, List, ℕ, ◌≤◌, ltb, length, get_or, take, drop, set}
use Rattle.std.proofs.Common.{sym, ap, ◌∙◌}
use Rattle.definition.specs.declared.Mode.TheVariants.{Running}
use Rattle.definition.specs.declared.Answer.TheVariants.{Done, BadChart, BadSession, SessionEnded, ClockBack}
use Rattle.definition.specs.Tables.{chart_of}
use Rattle.definition.specs.Compiled.{is_compiled}
use Rattle.follower.specs.Clock.{most_ticks}
use Rattle.accepted.specs.Sound.{Sound}
use Rattle.queue.specs.Queues.{queue_bytes, queue_of}
use Rattle.clock.specs.Records.{clock_in, ClockHolds, JoinedDue}
use Rattle.clock.specs.Spelled.{holds_length}
use Rattle.session.specs.declared.Session.{Session}
use Rattle.session.specs.declared.Clock.{Clock}
use Rattle.session.specs.Sessions.{session, is_session, is_timed, clocked_as, clock_of}
use Rattle.session.specs.Timing.{timed_session, timed_holds}
use Rattle.session.specs.Clocking.{clock_bad_chart, clock_good_chart, clock_bad_session, clock_ended, clock_back, clock_asks, clock_done}
use Rattle.lent.specs.declared.Checks.{Checks}
use Rattle.lent.specs.Places.{session_in, record_in, checks_of}
use Rattle.lent.specs.Lent.{LengthsIn, checks_checked, chart_bad, chart_good, timed_bad, timed_good, known_ready, known_lengths, parted}
use Rattle.lent.specs.Posts.{one_more}

module _ (chart names numbers internal external clock : List ℕ) (ticks : ℕ) (k : Checks) (e : k ≡ checks_of chart names (session_in numbers internal external) (record_in clock)) where
  abbrev s : Session
  s = session_in numbers internal external

  abbrev y : Clock
  y = record_in clock

  pub clock_8 : not k.chart ≡ true → clocked_as s y BadChart ≡ clock_of s y chart names ticks
  clock_8 t = clock_bad_chart s y chart names ticks (chart_bad chart names s k (checks_checked chart names s y k e) t)

  module _ (a : not k.chart ≡ false) where
    good : is_compiled chart names ≡ true
    good = chart_good chart names s k (checks_checked chart names s y k e) a

    pub clock_9 : not k.clock ≡ true → clocked_as s y BadSession ≡ clock_of s y chart names ticks
    clock_9 t = clock_good_chart s y chart names ticks good _ (clock_bad_session (chart_of chart) s y ticks (timed_bad chart names s y k e good t))

    module _ (b : not k.clock ≡ false) where
      passes : is_timed (chart_of chart) s y ≡ true
      passes = timed_good chart names s y k e b

      holds : is_session (chart_of chart) s ≡ true
      holds = timed_session (chart_of chart) s y passes

      sound : Sound (chart_of chart)
      sound = (known_ready chart names numbers internal external good holds).ready.sound

      pub clock_lengths : LengthsIn numbers internal external
      clock_lengths = known_lengths chart names numbers internal external good holds

      pub record_length : length clock ≡ 4368
      record_length = holds_length _ clock (timed_holds (chart_of chart) s y passes)

      apart : s ≡ session (take 4 numbers) (take 1024 (drop 4 numbers)) internal external (get_or numbers 1028 0) (get_or numbers 1029 0) (get_or numbers 1030 0)
      apart = parted chart names numbers internal external good holds

      mode_at : s.mode ≡ get_or numbers 1030 0
      mode_at = ap (λ (x : Session). x.mode) apart

      outer_at : s.external_count ≡ get_or numbers 1029 0
      outer_at = ap (λ (x : Session). x.external_count) apart

      external_at : s.external ≡ external
      external_at = ap (λ (x : Session). x.external) apart

      pub clock_11 : get_or numbers 1030 0 ≡ 0 → clocked_as s y SessionEnded ≡ clock_of s y chart names ticks
      clock_11 m = clock_good_chart s y chart names ticks good _ (clock_ended (chart_of chart) s y ticks passes (mode_at ∙ m))

      module _ (m : get_or numbers 1030 0 ≡ 0 → ⊥) (n : ℕ) (f : n ≡ (clock_in clock).ticks) where
        live : s.mode ≡ 0 → ⊥
        live z = m (sym mode_at ∙ z)

        pub clock_14 : (ltb ticks n || ltb most_ticks ticks) ≡ true → clocked_as s y ClockBack ≡ clock_of s y chart names ticks
        clock_14 t = clock_good_chart s y chart names ticks good _ (clock_back (chart_of chart) s y ticks passes live n f t)

        module _ (t : (ltb ticks n || ltb most_ticks ticks) ≡ false) where
          pub join_asks : ClockHolds Running clock × (external ≡ queue_bytes (queue_of external (get_or numbers 1029 0))) × (get_or numbers 1029 0 ≤ 32) × (ticks ≤ most_ticks)
          join_asks = rw (outer_at, external_at) at (clock_asks (chart_of chart) s y ticks passes live n f sound t)

          pub clock_0 : (new queue : List ℕ) (q : ℕ) → JoinedDue clock new external queue (get_or numbers 1029 0) ticks q →
              clocked_as (session_in (set numbers 1029 q) internal queue) (record_in new) Done ≡ clock_of s y chart names ticks
          clock_0 new queue q d =
              let done = clock_done (chart_of chart) s y ticks passes live n f sound t new queue q (rw (outer_at, external_at) d) in
              let p = one_more numbers internal queue q clock_lengths.numbers in
              let w = apart in
              let r : clocked_as (session (take 4 numbers) (take 1024 (drop 4 numbers)) internal queue (get_or numbers 1028 0) q (get_or numbers 1030 0)) (record_in new) Done ≡
              clocked_as (session s.configuration s.history s.internal queue s.internal_count q s.mode) (record_in new) Done =
              sym (λ j. clocked_as (session (w j).configuration (w j).history (w j).internal queue (w j).internal_count q (w j).mode) (record_in new) Done) in
              clock_good_chart s y chart names ticks good _ (ap (λ (x : Session). clocked_as x (record_in new) Done) p ∙ r ∙ done)
