-- The laws of a session lent in three places: their lengths, the test of the session in them, and the checks behind 8 and 9.
use Rattle.std.specs.Prelude.{◌≡◌, refl, Bool, true, false, not, ◌&&◌, List, ℕ, ◌-◌, eqb, get_or, take, drop}
use Rattle.std.proofs.Common.{sym, ◌∙◌, arith, length-take-le, eqb-true}
use Rattle.std.proofs.Math.Path.{ap}
use Rattle.std.proofs.Math.ListN.{length, length-take, length-drop}
use Rattle.definition.specs.declared.Mode.{Mode}
use Rattle.definition.specs.declared.Answer.{Answer}
use Rattle.definition.specs.declared.Status.TheVariants.{Refused}
use Rattle.definition.specs.Rows.{all, from}
use Rattle.definition.specs.Names.{Name}
use Rattle.definition.specs.Chart.{Chart}
use Rattle.definition.specs.Tables.{chart_of}
use Rattle.definition.specs.Compiled.{is_compiled}
use Rattle.laws.specs.Bools.{no, bool_case, and_left, and_right, and3}
use Rattle.laws.specs.Loops.{said_not_yes, said_not_no}
use Rattle.accepted.specs.Sound.{Sound}
use Rattle.rowset.specs.declared.RowSet.{RowSet}
use Rattle.rowset.specs.Member.{rows_of}
use Rattle.chart.specs.Ready.{Ready, CompiledWith, row_set_at}
use Rattle.chart.specs.Own.{compiled_ready}
use Rattle.queue.specs.Queues.{is_queue, queue_length}
use Rattle.clock.specs.Records.{is_clock}
use Rattle.state.specs.State.{mode_from}
use Rattle.state.specs.Words.{Fits, fits_part, words_length, history_length}
use Rattle.state.specs.Numbers.{history_part, first_set}
use Rattle.session.specs.declared.Session.{Session}
use Rattle.session.specs.declared.Clock.{Clock}
use Rattle.session.specs.declared.Posted.{Posted}
use Rattle.session.specs.Sessions.{session, session_of, view, is_session, is_timed, posted, post_checked, post_of}
use Rattle.session.specs.Judged.{Lengths, holds_place, mode_holds}
use Rattle.session.specs.Parts.{session_judged}
use Rattle.session.specs.Spelling.{session_spells}
use Rattle.session.specs.Posting.{post_passes, post_mode, post_good_chart, post_bad_session}
use Rattle.lent.specs.declared.Checks.{Checks}
use Rattle.lent.specs.declared.RanIn.{RanIn}
use Rattle.lent.specs.Places.{session_in, lengths_fit, places_fit, checks_of, Checked}

-- 8 or 9: no round is done
abbrev pub refused_in : Answer → RanIn
refused_in answer = record { status = Refused answer; rounds = 0; count = 0 }

-- ---- lengths

pub record LengthsIn (cells inner outer : List ℕ) : Type 0 where
  pub numbers : length cells ≡ 1031
  pub internal : length inner ≡ 2048
  pub external : length outer ≡ 2048

pub lengths_fit_lem : (numbers internal external : List ℕ) → lengths_fit (length numbers) (length internal) (length external) ≡ true → LengthsIn numbers internal external
unfolding lengths_fit
lengths_fit_lem numbers internal external h =
    let p = and3 (eqb (length numbers) 1031) (eqb (length internal) 2048) (eqb (length external) 2048) h in
    record { numbers = eqb-true _ _ p.0; internal = eqb-true _ _ p.1; external = eqb-true _ _ p.2 }

pub fit_lengths : (numbers internal external : List ℕ) → LengthsIn numbers internal external → lengths_fit (length numbers) (length internal) (length external) ≡ true
unfolding lengths_fit
fit_lengths numbers internal external l = rw (l.numbers, l.internal, l.external)

pub places_fit_lem : (numbers internal external clock : List ℕ) → places_fit (length numbers) (length internal) (length external) (length clock) ≡ true →
    LengthsIn numbers internal external × (length clock ≡ 4368)
unfolding places_fit
places_fit_lem numbers internal external clock h =
    let l = lengths_fit (length numbers) (length internal) (length external) in
    (lengths_fit_lem numbers internal external (and_left l (eqb (length clock) 4368) h), eqb-true _ _ (and_right l (eqb (length clock) 4368) h))

-- in places of the right lengths
pub in_places : (numbers internal external : List ℕ) → length numbers ≡ 1031 →
    session_in numbers internal external ≡ session (take 4 numbers) (take 1024 (drop 4 numbers)) internal external (get_or numbers 1028 0) (get_or numbers 1029 0) (get_or numbers 1030 0)
unfolding session_in
in_places numbers internal external l = rw l

module _ (c : Chart) (g : Sound c) (s : Session) (h : is_session c s ≡ true) where
  spelled : session_of (view c.rows s) ≡ s
  spelled = session_spells c g s h

  -- the parts of what passes have their lengths
  session_lengths : Lengths s.configuration s.history s.internal s.external
  unfolding session_of
  session_lengths = record {
    configuration = ap (λ (x : Session). length x.configuration) (sym spelled) ∙ words_length _;
    history = ap (λ (x : Session). length x.history) (sym spelled) ∙ history_length _;
    internal = ap (λ (x : Session). length x.internal) (sym spelled) ∙ queue_length _;
    external = ap (λ (x : Session). length x.external) (sym spelled) ∙ queue_length _;
  }

module _ (c : Chart) (g : Sound c) (numbers internal external : List ℕ) where
  pub lengths_in : is_session c (session_in numbers internal external) ≡ true → LengthsIn numbers internal external
  unfolding session_in
  lengths_in h =
      let l = session_lengths c g (session_in numbers internal external) h in
      record { numbers = omega (arith, l.history, length-take (length numbers - 7) (drop 4 numbers), length-drop 4 numbers); internal = l.internal; external = l.external }

  -- other lengths are no session
  pub no_lengths : lengths_fit (length numbers) (length internal) (length external) ≡ false → false ≡ is_session c (session_in numbers internal external)
  no_lengths n =
      bool_case (is_session c (session_in numbers internal external)) (λ h. absurd (no (sym n ∙ fit_lengths numbers internal external (lengths_in h)))) (λ h. sym h)

parts_lengths : (numbers internal external : List ℕ) → LengthsIn numbers internal external → Lengths (take 4 numbers) (take 1024 (drop 4 numbers)) internal external
parts_lengths numbers internal external l = record {
  configuration = length-take-le 4 numbers (let e = l.numbers in omega arith);
  history = history_part numbers l.numbers;
  internal = l.internal;
  external = l.external;
}

-- ---- the test of a session

pub judged : (chart numbers internal external : List ℕ) (s : RowSet) (p q r t : Bool) → Ready chart → LengthsIn numbers internal external → Fits numbers → s ≡ row_set_at numbers 0 →
    p ≡ is_queue internal (get_or numbers 1028 0) → q ≡ is_queue external (get_or numbers 1029 0) →
    r ≡ mode_holds (chart_of chart) (rows_of s) (get_or numbers 1028 0) (get_or numbers 1029 0) (get_or numbers 1030 0) → t ≡ all (holds_place (chart_of chart) (take 1024 (drop 4 numbers))) (from 256 0) →
    ((p && q) && r && t) ≡ is_session (chart_of chart) (session_in numbers internal external)
judged chart numbers internal external s p q r t ready l f at hp hq hr ht =
    session_judged chart (take 4 numbers) (take 1024 (drop 4 numbers)) internal external (get_or numbers 1028 0) (get_or numbers 1029 0) (get_or numbers 1030 0) s p q r t ready
    (parts_lengths numbers internal external l) (fits_part numbers 0 4 f) (fits_part numbers 4 1024 f) (at ∙ sym (first_set numbers)) hp hq hr ht ∙
    ap (is_session (chart_of chart)) (sym (in_places numbers internal external l.numbers))

-- ---- the checks

module _ (chart names : List ℕ) (s : Session) (k : Checks) (e : Checked chart names s k) where
  pub chart_bad : not k.chart ≡ true → is_compiled chart names ≡ false
  chart_bad t = said_not_yes _ _ e.of_chart t

  pub chart_good : not k.chart ≡ false → is_compiled chart names ≡ true
  chart_good t = said_not_no _ _ e.of_chart t

  pub session_bad : is_compiled chart names ≡ true → not k.session ≡ true → is_session (chart_of chart) s ≡ false
  session_bad g t = said_not_yes _ _ (e.of_session ∙ rw g) t

  pub session_good : not k.session ≡ false → is_session (chart_of chart) s ≡ true
  session_good t = and_right (is_compiled chart names) _ (said_not_no _ _ e.of_session t)

module _ (chart names : List ℕ) (s : Session) (y : Clock) (k : Checks) (e : k ≡ checks_of chart names s y) where
  pub checks_checked : Checked chart names s k
  unfolding checks_of
  checks_checked = record { of_chart = ap (λ (x : Checks). x.chart) e; of_session = ap (λ (x : Checks). x.session) e }

  clock_is : k.clock ≡ (is_compiled chart names && is_timed (chart_of chart) s y)
  unfolding checks_of
  clock_is = ap (λ (x : Checks). x.clock) e

  pub timed_bad : is_compiled chart names ≡ true → not k.clock ≡ true → is_timed (chart_of chart) s y ≡ false
  timed_bad g t = said_not_yes _ _ (clock_is ∙ rw g) t

  pub timed_good : not k.clock ≡ false → is_timed (chart_of chart) s y ≡ true
  timed_good t = and_right (is_compiled chart names) _ (said_not_no _ _ clock_is t)

module _ (chart names : List ℕ) (s : Session) where
  pub checked_none : is_compiled chart names ≡ false → Checked chart names s (record { chart = false; session = false; clock = false })
  checked_none g = record { of_chart = sym g; of_session = sym (rw g) }

  pub checked_made : is_compiled chart names ≡ true → (b : Bool) → b ≡ is_session (chart_of chart) s → Checked chart names s (record { chart = true; session = b; clock = false })
  checked_made g b e = record { of_chart = sym g; of_session = e ∙ sym (rw g) }

  module _ (y : Clock) where
    pub checks_none : is_compiled chart names ≡ false → record { chart = false; session = false; clock = false } ≡ checks_of chart names s y
    unfolding checks_of
    checks_none g = rw g

    pub checks_neither : is_compiled chart names ≡ true → is_session (chart_of chart) s ≡ false → record { chart = true; session = false; clock = false } ≡ checks_of chart names s y
    unfolding checks_of is_timed
    checks_neither g h = rw (g, h)

    pub checks_made : is_compiled chart names ≡ true → is_session (chart_of chart) s ≡ true → (m : Mode) (b : Bool) → m ≡ mode_from s.mode → b ≡ is_clock m y.bytes →
        record { chart = true; session = true; clock = b } ≡ checks_of chart names s y
    unfolding checks_of is_timed
    checks_made g h m b e f = rw (g, h, ← e, ← f)

-- a post leaves a session that passes exactly if the one before it did
module _ (chart names : List ℕ) (name : Name) (s : Session) where
  abbrev after : Session
  after = (post_of s chart names name).session

  module _ (k : is_compiled chart names ≡ true) where
    same_post : post_checked (chart_of chart) s name ≡ post_of s chart names name
    same_post = post_good_chart s chart names name k (post_checked (chart_of chart) s name) refl

    same_checks : is_session (chart_of chart) after ≡ is_session (chart_of chart) s
    same_checks =
        let r = (compiled_ready chart names k).ready in
        let l = r.tables.sized.counts.rows in
        bool_case (is_session (chart_of chart) s)
        (λ h. ap (λ (x : Posted). is_session (chart_of chart) x.session) (sym same_post) ∙ post_passes (chart_of chart) r.sound (omega arith) s h name ∙ sym h)
        (λ h. ap (λ (x : Posted). is_session (chart_of chart) x.session) (sym (post_bad_session (chart_of chart) s name h ∙ same_post)))

    -- in the same mode
    same_mode : after.mode ≡ s.mode
    same_mode =
        let r = (compiled_ready chart names k).ready in
        let l = r.tables.sized.counts.rows in
        bool_case (is_session (chart_of chart) s)
        (λ h. ap (λ (x : Posted). x.session.mode) (sym same_post) ∙ post_mode (chart_of chart) r.sound (omega arith) s h name)
        (λ h. ap (λ (x : Posted). x.session.mode) (sym (post_bad_session (chart_of chart) s name h ∙ same_post)))

    same_timed : (y : Clock) → is_timed (chart_of chart) after y ≡ is_timed (chart_of chart) s y
    unfolding is_timed
    same_timed y = rw (same_checks, same_mode)

  pub post_checks : (y : Clock) → checks_of chart names s y ≡ checks_of chart names after y
  unfolding checks_of
  post_checks y = bool_case (is_compiled chart names) (λ k. rw (k, same_checks k, same_timed k y)) (λ k. rw k)

  pub posted_checks : (y : Clock) (k : Checks) → k ≡ checks_of chart names s y → (t : Session) (a : Answer) → posted t a ≡ post_of s chart names name → k ≡ checks_of chart names t y
  posted_checks y k e t a p = e ∙ post_checks y ∙ ap (λ (x : Posted). checks_of chart names x.session y) (sym p)

-- both passed
module _ (chart names numbers internal external : List ℕ) (compiled : is_compiled chart names ≡ true) (holds : is_session (chart_of chart) (session_in numbers internal external) ≡ true) where
  pub known_ready : CompiledWith chart names
  known_ready = compiled_ready chart names compiled

  pub known_lengths : LengthsIn numbers internal external
  known_lengths = lengths_in (chart_of chart) known_ready.ready.sound numbers internal external holds

  pub parted : session_in numbers internal external ≡ session (take 4 numbers) (take 1024 (drop 4 numbers)) internal external (get_or numbers 1028 0) (get_or numbers 1029 0) (get_or numbers 1030 0)
  parted = in_places numbers internal external known_lengths.numbers

  -- the mode as the code reads it
  pub checks_mode : (m : Mode) → m ≡ mode_from (get_or numbers 1030 0) → m ≡ mode_from (session_in numbers internal external).mode
  checks_mode m e = e ∙ sym (ap (λ (x : Session). mode_from x.mode) parted)
