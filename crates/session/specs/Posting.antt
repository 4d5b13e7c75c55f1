-- A post: each answer of the code is the definition's, and the name joins the follower's external queue.
use Rattle.std.specs.Prelude.{◌≡◌, Bool, cond, List, [], ◌∷◌, ◌++◌, ℕ, zero, suc, ◌+◌, ◌*◌, ◌≤◌, ◌<◌, eqb, take, drop}
use Rattle.std.proofs.Math.Path.{refl, sym, ap}
use Rattle.std.proofs.Common.{◌∙◌, arith, length-append}
use Rattle.std.proofs.Math.Bool.{true, false}
use Rattle.std.proofs.Math.ListN.{length}
use borrow.Author.Tests.{le-leb, lt-leb}
use Rattle.definition.specs.declared.Answer.{Answer}
use Rattle.definition.specs.declared.Mode.{Mode}
use Rattle.definition.specs.declared.Mode.TheVariants.{Running, Closing, Ended}
use Rattle.definition.specs.declared.Answer.TheVariants.{Done, NotAName, Full, BadChart, BadSession, SessionEnded}
use Rattle.definition.specs.Names.{Name, is_name}
use Rattle.definition.specs.Chart.{Chart}
use Rattle.definition.specs.Tables.{row_count, chart_of, slot_of}
use Rattle.definition.specs.Answers.{mode_no, answer_no}
use Rattle.follower.specs.Follower.{Follower, is_ended, post_answer, with_external, post}
use Rattle.follower.specs.Legal.{WellFormed}
use Rattle.definition.specs.Compiled.{own_numbers, is_compiled}
use Rattle.laws.specs.Bools.{bool_case}
use Rattle.accepted.specs.Sound.{Sound}
use Rattle.theory.specs.Queues.{post_queued}
use Rattle.theory.specs.Keeps.{post_fits}
use Rattle.theory.specs.WellFormed.{parts_well_formed, well_formed_queues, well_formed_fit}
use Rattle.chart.specs.Own.{own_chart, compiled_ready}
use Rattle.queue.specs.Queues.{queue_bytes, names_length, queue_last}
use Rattle.session.specs.declared.Session.{Session}
use Rattle.session.specs.declared.Posted.{Posted}
use Rattle.state.specs.State.{mode_from}
use Rattle.session.specs.Sessions.{session, session_of, view, is_session, posted, post_to, post_checked, post_of}
use Rattle.session.specs.Spelling.{view_session, session_passes, session_spells, session_well_formed}

-- ---- the answer

-- the number of a mode that is, or is not, that of an ended session
pub ended_number : (n : ℕ) (m : Mode) → m ≡ mode_from n → m ≡ Ended → n ≡ 0
unfolding mode_from
ended_number zero m e f = refl
ended_number (suc zero) m e f = let q : Running ≡ Ended = sym e ∙ f in absurd (cc)
ended_number (suc (suc n)) m e f = let q : Closing ≡ Ended = sym e ∙ f in absurd (cc)

pub live_number : (n : ℕ) (m : Mode) → m ≡ mode_from n → (m ≡ Ended → ⊥) → n ≡ 0 → ⊥
unfolding mode_from
live_number n m e f z = f (e ∙ ap mode_from z)

-- so with that of one that runs
pub running_number : (n : ℕ) (m : Mode) → m ≡ mode_from n → m ≡ Running → n ≡ 1
unfolding mode_from
running_number zero m e f = let q : Ended ≡ Running = sym e ∙ f in absurd (cc)
running_number (suc zero) m e f = refl
running_number (suc (suc n)) m e f = let q : Closing ≡ Running = sym e ∙ f in absurd (cc)

pub resting_number : (n : ℕ) (m : Mode) → m ≡ mode_from n → (m ≡ Running → ⊥) → n ≡ 1 → ⊥
unfolding mode_from
resting_number n m e f z = f (e ∙ ap mode_from z)

pub most_mode : mode_no Closing ≡ 2
unfolding mode_no
most_mode = refl

pub ended_mode : (m : ℕ) → (m ≡ 0 → ⊥) → is_ended (mode_from m) ≡ false
unfolding is_ended mode_from
ended_mode zero n = absurd (n refl)
ended_mode (suc zero) n = refl
ended_mode (suc (suc m)) n = refl

module _ (rows : ℕ) (s : Session) (name : Name) where
  answer_no_name : is_name name ≡ false → post_answer (view rows s) name ≡ NotAName
  unfolding post_answer
  answer_no_name n = rw n

  module _ (n : is_name name ≡ true) where
    answer_ended : s.mode ≡ 0 → post_answer (view rows s) name ≡ SessionEnded
    unfolding post_answer view mode_from is_ended
    answer_ended e = rw (n, e)

    answer_full : (s.mode ≡ 0 → ⊥) → 32 ≤ s.external_count → post_answer (view rows s) name ≡ Full
    unfolding post_answer view
    answer_full m l = rw (n, ended_mode s.mode m, names_length s.external s.external_count, le-leb 32 s.external_count l)

    answer_done : (s.mode ≡ 0 → ⊥) → s.external_count < 32 → post_answer (view rows s) name ≡ Done
    unfolding post_answer view
    answer_done m l = rw (n, ended_mode s.mode m, names_length s.external s.external_count, lt-leb 32 s.external_count l)

-- ---- what the code hands back

refused_to : (s : Session) (f : Follower) (name : Name) (a : Answer) → post_answer f name ≡ a → eqb (answer_no a) 0 ≡ false → posted s a ≡ post_to s f name
unfolding post_to
refused_to s f name a e n = rw (e, n)

module _ (c : Chart) (s : Session) (name : Name) where
  pub post_bad_session : is_session c s ≡ false → posted s BadSession ≡ post_checked c s name
  unfolding post_checked
  post_bad_session h = rw h

  module _ (h : is_session c s ≡ true) where
    pub post_no_name : is_name name ≡ false → posted s NotAName ≡ post_checked c s name
    unfolding post_checked answer_no
    post_no_name n = rw h (refused_to s (view c.rows s) name NotAName (answer_no_name c.rows s name n) refl)

    pub post_ended : is_name name ≡ true → s.mode ≡ 0 → posted s SessionEnded ≡ post_checked c s name
    unfolding post_checked answer_no
    post_ended n e = rw h (refused_to s (view c.rows s) name SessionEnded (answer_ended c.rows s name n e) refl)

    pub post_full : is_name name ≡ true → (s.mode ≡ 0 → ⊥) → 32 ≤ s.external_count → posted s Full ≡ post_checked c s name
    unfolding post_checked answer_no
    post_full n m l = rw h (refused_to s (view c.rows s) name Full (answer_full c.rows s name n m l) refl)

-- the name is in: the session spells the state whose queue has it last
module _ (c : Chart) (g : Sound c) (s : Session) (h : is_session c s ≡ true) (name : Name) (queue : List ℕ) (short : s.external_count < 32)
    (put : queue ≡ take (s.external_count * 64) s.external ++ (slot_of name ++ drop (s.external_count * 64 + 64) s.external)) where
  abbrev f : Follower
  f = view c.rows s

  spells : session_of f ≡ s
  spells = session_spells c g s h

  count_is : length f.external ≡ s.external_count
  unfolding view
  count_is = names_length s.external s.external_count

  queue_is : queue ≡ queue_bytes (f.external ++ (name ∷ []))
  unfolding session_of
  queue_is =
      let e : queue_bytes f.external ≡ s.external = ap (λ (x : Session). x.external) spells in
      put ∙ queue_last s.external s.external_count f.external name (sym e) (sym count_is) short

  pub posted_session : session s.configuration s.history s.internal queue s.internal_count (s.external_count + 1) s.mode ≡ session_of (with_external f name)
  unfolding session_of with_external
  posted_session =
      let e = sym spells in
      let q = queue_is in
      let n : s.external_count + 1 ≡ length (f.external ++ (name ∷ [])) = sym (length-append f.external (name ∷ []) ∙ rw count_is) in
      λ i. session (e i).configuration (e i).history (e i).internal (q i) (e i).internal_count (n i) (e i).mode

  pub post_done : is_name name ≡ true → (s.mode ≡ 0 → ⊥) →
      posted (session s.configuration s.history s.internal queue s.internal_count (s.external_count + 1) s.mode) Done ≡ post_checked c s name
  unfolding post_checked post_to post answer_no
  post_done n m =
      let a : post_answer f name ≡ Done = answer_done c.rows s name n m short in
      let e = posted_session in
      let r : posted (session s.configuration s.history s.internal queue s.internal_count (s.external_count + 1) s.mode) Done ≡
      posted (session_of (with_external f name)) Done = ap (λ (x : Session). posted x Done) e in
      r ∙ rw (h, a)

-- ---- a post follows the follower's

module _ (c : Chart) (g : Sound c) (few : c.rows ≤ 256) (s : Session) (h : is_session c s ≡ true) (name : Name) where
  abbrev before : Follower
  before = view c.rows s

  after_well_formed : WellFormed c (post before name)
  after_well_formed =
      let w = session_well_formed c g s h in
      parts_well_formed c g (post before name) (post_queued before name (well_formed_queues c g before w)) (post_fits c before name (well_formed_fit c g before w))

  pub post_answers : (post_checked c s name).answer ≡ post_answer before name
  unfolding post_checked post_to
  post_answers = rw h (go (eqb (answer_no (post_answer before name)) 0))
    where
      go : (b : Bool) → (cond {A = Posted} b (posted (session_of (post before name)) (post_answer before name)) (posted s (post_answer before name))).answer ≡ post_answer before name
      go true = refl
      go false = refl

  -- what is handed back spells the follower's next state, taken or refused
  pub post_spells : (post_checked c s name).session ≡ session_of (post before name)
  unfolding post_checked post_to post
  post_spells = rw h (go (eqb (answer_no (post_answer before name)) 0))
    where
      go : (b : Bool) → (cond {A = Posted} b (posted (session_of (cond b (with_external before name) before)) (post_answer before name)) (posted s (post_answer before name))).session ≡
          session_of (cond b (with_external before name) before)
      go true = refl
      go false = sym (session_spells c g s h)

  pub post_follows : view c.rows (post_checked c s name).session ≡ post before name
  post_follows = ap (view c.rows) post_spells ∙ view_session c g.tree few (post before name) after_well_formed

  pub post_passes : is_session c (post_checked c s name).session ≡ true
  post_passes = ap (is_session c) post_spells ∙ session_passes c g (post before name) few after_well_formed

  -- in the same mode
  same_mode : (post before name).mode ≡ before.mode
  unfolding post with_external
  same_mode = bool_case (eqb (answer_no (post_answer before name)) 0) (λ q. rw q) (λ q. rw q)

  pub post_mode : (post_checked c s name).session.mode ≡ s.mode
  unfolding session_of
  post_mode = ap (λ (x : Session). x.mode) post_spells ∙ ap mode_no same_mode ∙ ap (λ (x : Session). x.mode) (session_spells c g s h)

-- ---- the chart, checked

module _ (s : Session) (chart names : List ℕ) (name : Name) where
  pub post_bad_chart : is_compiled chart names ≡ false → posted s BadChart ≡ post_of s chart names name
  unfolding post_of
  post_bad_chart k = rw k

  module _ (k : is_compiled chart names ≡ true) where
    own_is : chart_of (own_numbers chart) ≡ chart_of chart
    own_is = own_chart chart (compiled_ready chart names k).ready.tables

    pub post_good_chart : (r : Posted) → r ≡ post_checked (chart_of chart) s name → r ≡ post_of s chart names name
    unfolding post_of
    post_good_chart r e = rw (k, own_is) e

    -- a post to a well-formed session over a compiled chart follows the follower's
    module _ (h : is_session (chart_of (own_numbers chart)) s ≡ true) where
      sound : Sound (chart_of (own_numbers chart))
      sound = rw own_is (compiled_ready chart names k).ready.sound

      few : row_count (own_numbers chart) ≤ 256
      few = let l = (compiled_ready chart names k).ready.tables.sized.counts.rows in let e = ap (λ (c : Chart). c.rows) own_is in omega arith

      pub post_of_answers : (post_of s chart names name).answer ≡ post_answer (view (row_count (own_numbers chart)) s) name
      unfolding post_of
      post_of_answers = rw k (post_answers (chart_of (own_numbers chart)) sound few s h name)

      pub post_of_follows : view (row_count (own_numbers chart)) (post_of s chart names name).session ≡ post (view (row_count (own_numbers chart)) s) name
      unfolding post_of
      post_of_follows = rw k (post_follows (chart_of (own_numbers chart)) sound few s h name)

      pub post_of_passes : is_session (chart_of (own_numbers chart)) (post_of s chart names name).session ≡ true
      unfolding post_of
      post_of_passes = rw k (post_passes (chart_of (own_numbers chart)) sound few s h name)
