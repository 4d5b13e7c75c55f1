-- A well-formed state has one spelling: the state is found again in its session, and a session that passes the test is the session of its state.
use Rattle.std.specs.Prelude.{◌≡◌, refl, true, ℕ, ◌≤◌}
use Rattle.std.proofs.Math.Path.{sym, ap}
use Rattle.std.proofs.Common.{◌∙◌, zero-add, eqb-true, eq-eqb}
use mathlib.Core.List.{[], map}
use Rattle.definition.specs.Rows.{from}
use Rattle.definition.specs.Chart.{Chart}
use Rattle.definition.specs.Answers.{mode_no}
use Rattle.follower.specs.Follower.{Follower, no_history, ended_follower}
use Rattle.follower.specs.Legal.{WellFormed, is_well_formed}
use Rattle.laws.specs.Bools.{and7, and_left, and_right, and_true}
use Rattle.laws.specs.Lists.{same_eq, same_self}
use Rattle.laws.specs.Maps.{map_reads}
use Rattle.accepted.specs.Tree.{Tree}
use Rattle.accepted.specs.Sound.{Sound}
use Rattle.theory.specs.WellFormed.{well_formed_exact}
use Rattle.paths.specs.History.{stored_at}
use Rattle.queue.specs.Queues.{queue_none}
use Rattle.session.specs.declared.Session.{Session}
use Rattle.state.specs.State.{history_words}
use Rattle.session.specs.Sessions.{session, session_of, ended_session, view, same_session, is_session}
use Rattle.state.specs.Found.{mode_again, queue_again, history_reads, configuration_is}
use Rattle.state.specs.Words.{words_none, history_none}

-- ---- the state is found again

module _ (c : Chart) (t : Tree c) (few : c.rows ≤ 256) (f : Follower) (w : WellFormed c f) where
  pub view_session : view c.rows (session_of f) ≡ f
  unfolding view session_of
  view_session =
      let h : map (stored_at (history_words f.history)) (from c.rows 0) ≡ f.history =
      ap (λ (n : ℕ). map (stored_at (history_words f.history)) (from n 0)) (sym w.places) ∙
      map_reads (stored_at (history_words f.history)) f.history 0 [] (λ k l. ap (stored_at (history_words f.history)) (zero-add k) ∙ history_reads c t few f w k) in
      let a = configuration_is c t few f w in
      let n = queue_again f.internal w.internal_short w.internal_names in
      let x = queue_again f.external w.external_short w.external_names in
      let m = mode_again f.mode in
      λ i. record { configuration = a i; history = h i; internal = n i; external = x i; mode = m i }

-- ---- the test of a session

same_session_lem : (a b : Session) → same_session a b ≡ true → a ≡ b
unfolding same_session
same_session_lem a b h =
    let p = and7 _ _ _ _ _ _ _ h in
    let e0 = same_eq _ _ p.0 in
    let e1 = same_eq _ _ p.1 in
    let e2 = same_eq _ _ p.2 in
    let e3 = same_eq _ _ p.3 in
    let e4 = eqb-true _ _ p.4 in
    let e5 = eqb-true _ _ p.5 in
    let e6 = eqb-true _ _ p.6 in
    λ i. record { configuration = e0 i; history = e1 i; internal = e2 i; external = e3 i; internal_count = e4 i; external_count = e5 i; mode = e6 i }

session_same : (s : Session) → same_session s s ≡ true
unfolding same_session
session_same s =
    rw (same_self s.configuration, same_self s.history, same_self s.internal, same_self s.external, eq-eqb s.internal_count s.internal_count refl, eq-eqb s.external_count s.external_count refl, eq-eqb s.mode s.mode refl)

module _ (c : Chart) (g : Sound c) where
  -- the session of a well-formed state passes
  pub session_passes : (f : Follower) → c.rows ≤ 256 → WellFormed c f → is_session c (session_of f) ≡ true
  unfolding is_session
  session_passes f few w =
      let e : view c.rows (session_of f) ≡ f = view_session c g.tree few f w in
      and_true (same_session (session_of f) (session_of (view c.rows (session_of f)))) _
      (ap (λ (x : Follower). same_session (session_of f) (session_of x)) e ∙ session_same (session_of f))
      (ap (is_well_formed c) e ∙ (well_formed_exact c g f).1 w)

  module _ (s : Session) (h : is_session c s ≡ true) where
    -- what passes is the session of its state
    pub session_spells : session_of (view c.rows s) ≡ s
    unfolding is_session
    session_spells = sym (same_session_lem s (session_of (view c.rows s)) (and_left (same_session s (session_of (view c.rows s))) _ h))

    -- and that state is well formed
    pub session_well_formed : WellFormed c (view c.rows s)
    unfolding is_session
    session_well_formed = (well_formed_exact c g (view c.rows s)).0 (and_right (same_session s (session_of (view c.rows s))) _ h)

-- ---- the session before any start, for every chart

pub ended_spells : (c : Chart) → ended_session ≡ session_of (ended_follower c)
unfolding ended_session session_of ended_follower no_history mode_no
ended_spells c =
    let h = history_none c.rows in
    let w = sym words_none in
    let q = sym queue_none in
    λ i. session (w i) (h i) (q i) (q i) 0 0 0
