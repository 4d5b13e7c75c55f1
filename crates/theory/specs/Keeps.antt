-- Start, post, run and every round keep a session's configuration, stored history and mode as they have to be.
use Rattle.std.specs.Prelude.{◌≡◌, refl, Bool, false, cond, ◌⊎◌, ℕ, zero, suc, eqb, length, get_or}
use Rattle.std.proofs.Common.{◌∙◌}
use Rattle.std.proofs.Math.Bool.{true}
use mathlib.Core.List.{List, [], map}
use Rattle.std.proofs.Math.Option.{Option}
use Rattle.std.proofs.Math.Logic.{inl, inr, ⊎_elim}
use Rattle.std.proofs.lemmas.List.{length-map}
use Rattle.definition.specs.declared.Mode.TheVariants.{Running, Ended}
use Rattle.definition.specs.Rows.{nothing_at, from, those, mem, is_in, is_empty}
use Rattle.definition.specs.Names.{Name}
use Rattle.definition.specs.Chart.{Chart, Names, kind, is_history}
use Rattle.follower.specs.Selection.{initial_targets, selected, chooser}
use Rattle.follower.specs.Microstep.{stored_in, history_after, configuration_after, targeted, entry_of, fallen_of}
use Rattle.definition.specs.Answers.{answer_no}
use Rattle.follower.specs.Follower.{Follower, no_history, ended_follower, mode_of, Round, idle, over, did, taking, selected_by, closing_round, round, first_follower, is_ended, post_answer, with_external, post, with_names}
use Rattle.follower.specs.Legal.{is_legal, StoredFrom}
use Rattle.laws.specs.Bools.{clash, bool_case}
use Rattle.laws.specs.Sets.{ascends_those}
use Rattle.laws.specs.Lists.{length_from, empty_list, full_list, list_full, set_eq, eq_set}
use Rattle.accepted.specs.Sound.{Sound}
use Rattle.theory.specs.Accepted.{HistOk}
use Rattle.theory.specs.EntryOrder.{EntrySet}
use Rattle.theory.specs.Round.{entered_means, selected_taken, next_legal, next_order, after_ok, after_size, after_plain}
use Rattle.theory.specs.LegalTest.{legal_facts, facts_legal}
use Rattle.theory.specs.Seed.{first_legal}
use Rattle.theory.specs.Choosers.{FirstChooser, chooser_first}
use Rattle.theory.specs.DefaultBlocks.{DefaultBlocks}
use Rattle.theory.specs.Fallen.{round_default_blocks}
use Rattle.theory.specs.Storing.{stored_kept, kept_stored}
use Rattle.theory.specs.Runs.{round_cases}
use Rattle.theory.specs.Queues.{post_free}

-- a place for each row; what is stored there is what a history's parent would store
pub record Histories (c : Chart) (history : List (List ℕ)) : Type 0 where
  pub places : length history ≡ c.rows
  pub histories : (h : ℕ) → (stored_in history h ≡ [] → ⊥) → is_history (kind c h) ≡ true
  pub stored_sets : (h : ℕ) → (stored_in history h ≡ [] → ⊥) → StoredFrom c h (stored_in history h)

-- running or closing
pub record Live (c : Chart) (s : Follower) : Type 0 where
  pub legal : is_legal c s.configuration ≡ true
  pub mode : s.mode ≡ mode_of c s.configuration
  pub history : Histories c s.history

-- ended
pub record Over (c : Chart) (s : Follower) : Type 0 where
  pub mode : s.mode ≡ Ended
  pub nothing : s.configuration ≡ []
  pub internal : s.internal ≡ []
  pub external : s.external ≡ []
  pub history : Histories c s.history

abbrev pub Fit : Chart → Follower → Type 0
Fit c s = Live c s ⊎ Over c s

abbrev pub FitAfter : Chart → Round → Type 0
FitAfter c idle = Unit {0}
FitAfter c over = Unit {0}
FitAfter c (did s es) = Fit c s

-- ---- the session before any start

empty_place : (n i h : ℕ) → get_or (map nothing_at (from n i)) h [] ≡ []
unfolding from
empty_place zero i h = refl
empty_place (suc n) i zero = refl
empty_place (suc n) i (suc h) = empty_place n (suc i) h

pub no_histories : (c : Chart) → Histories c (no_history c)
unfolding no_history
no_histories c =
    record {
      places = length-map (from c.rows 0) nothing_at ∙ length_from c.rows 0;
      histories = λ h n. absurd (n (empty_place c.rows 0 h));
      stored_sets = λ h n. absurd (n (empty_place c.rows 0 h));
    }

pub ended_over : (c : Chart) → Over c (ended_follower c)
unfolding ended_follower
ended_over c = record { mode = refl; nothing = refl; internal = refl; external = refl; history = no_histories c }

pub history_of : (c : Chart) (s : Follower) → Fit c s → Histories c s.history
history_of c s f = ⊎_elim (λ (a : Live c s). a.history) (λ (o : Over c s). o.history) f

-- ---- rounds

module _ (c : Chart) (g : Sound c) (names : Names) where
  history_ok : (history : List (List ℕ)) → Histories c history → HistOk c (stored_in history)
  unfolding HistOk
  history_ok history f h q n = stored_kept c g h (stored_in history h) (f.stored_sets h (full_list (stored_in history h) n))

  history_plain : (history : List (List ℕ)) → Histories c history → (h : ℕ) → is_history (kind c h) ≡ false → stored_in history h ≡ []
  history_plain history f h q =
      bool_case (is_empty (stored_in history h)) (λ e. empty_list (stored_in history h) e) (λ e. absurd (clash _ (f.histories h (full_list (stored_in history h) e)) q))

  -- from a legal configuration what is selected leads to a legal one, and what is stored then is well formed
  module _ (conf : List ℕ) (history : List (List ℕ)) (event : Option Name) (l : is_legal c conf ≡ true) (f : Histories c history) where
    legal_after : is_legal c (configuration_after c conf (stored_in history) (selected c names conf (stored_in history) event)) ≡ true
    legal_after =
        let k = legal_facts c g.tree conf l in
        let ts = selected_taken c g.tree names conf k.1.part (stored_in history) event in
        let o = set_eq c.rows conf k.0 in
        facts_legal c g.tree (configuration_after c conf (stored_in history) (selected c names conf (stored_in history) event))
        (eq_set c.rows _ (next_order c g conf o k.1 (stored_in history) (history_ok history f) (selected c names conf (stored_in history) event) ts))
        (next_legal c g conf o k.1 (stored_in history) (history_ok history f) (selected c names conf (stored_in history) event) ts)

    entry_after : EntrySet c (initial_targets c (stored_in (history_after c conf (stored_in history) (selected c names conf (stored_in history) event))))
        (targeted c (stored_in history) (stored_in (history_after c conf (stored_in history) (selected c names conf (stored_in history) event))) (selected c names conf (stored_in history) event))
        (entry_of c conf (stored_in history) (selected c names conf (stored_in history) event))
    entry_after =
        let k = legal_facts c g.tree conf l in
        let ts = selected_taken c g.tree names conf k.1.part (stored_in history) event in
        let o = set_eq c.rows conf k.0 in
        entered_means c g conf o k.1 (stored_in history) (history_ok history f) (selected c names conf (stored_in history) event) ts

    blocks_after : DefaultBlocks c (entry_of c conf (stored_in history) (selected c names conf (stored_in history) event))
        (entry_of c conf (stored_in history) (selected c names conf (stored_in history) event)).entered_by_default (fallen_of c conf (stored_in history) (selected c names conf (stored_in history) event))
    blocks_after =
        let k = legal_facts c g.tree conf l in
        let ts = selected_taken c g.tree names conf k.1.part (stored_in history) event in
        let o = set_eq c.rows conf k.0 in
        round_default_blocks c g conf o k.1 (stored_in history) (history_ok history f) (selected c names conf (stored_in history) event) ts

    histories_after : Histories c (history_after c conf (stored_in history) (selected c names conf (stored_in history) event))
    unfolding HistOk
    histories_after =
        let k = legal_facts c g.tree conf l in
        let ts = selected_taken c g.tree names conf k.1.part (stored_in history) event in
        let o = set_eq c.rows conf k.0 in
        let p = after_plain c g conf o k.1 (stored_in history) (history_ok history f) (selected c names conf (stored_in history) event) ts (history_plain history f) in
        let q = after_ok c g conf o k.1 (stored_in history) (history_ok history f) (selected c names conf (stored_in history) event) ts in
        let kept : (h : ℕ) → (stored_in (history_after c conf (stored_in history) (selected c names conf (stored_in history) event)) h ≡ [] → ⊥) → is_history (kind c h) ≡ true
        = λ h n. bool_case (is_history (kind c h)) (λ e. e) (λ e. absurd (n (p h e))) in
        record {
          places = after_size c g conf o k.1 (stored_in history) (history_ok history f) (selected c names conf (stored_in history) event) ts;
          histories = kept;
          stored_sets = λ h n. kept_stored c g h _ (q h (kept h n) (list_full _ n));
        }

  taking_fits : (s : Follower) (internal external : List Name) (event : Option Name) → Live c s → FitAfter c (taking c names s event internal external (selected_by c names s event))
  unfolding taking selected_by
  taking_fits s internal external event f =
      inl (record {
        legal = legal_after s.configuration s.history event f.legal f.history;
        mode = refl;
        history = histories_after s.configuration s.history event f.legal f.history;
      })

  running_live : (s : Follower) → Fit c s → s.mode ≡ Running → Live c s
  unfolding is_ended
  running_live s f e = ⊎_elim (λ (a : Live c s). a) (λ (o : Over c s). absurd (clash (is_ended s.mode) (rw o.mode) (rw e))) f

  -- the entry set of a running session's round, in the document's words
  pub round_entry : (s : Follower) → Fit c s → s.mode ≡ Running → (event : Option Name) →
      EntrySet c (initial_targets c (stored_in (history_after c s.configuration (stored_in s.history) (selected_by c names s event))))
      (targeted c (stored_in s.history) (stored_in (history_after c s.configuration (stored_in s.history) (selected_by c names s event))) (selected_by c names s event))
      (entry_of c s.configuration (stored_in s.history) (selected_by c names s event))
  unfolding selected_by
  round_entry s f m event = let a = running_live s f m in entry_after s.configuration s.history event a.legal a.history

  -- each transition that it takes has its first chooser
  pub round_choosers : (s : Follower) → Fit c s → s.mode ≡ Running → (event : Option Name) (t : ℕ) → mem t (selected_by c names s event) ≡ true →
      FirstChooser c names s.configuration event t (chooser c names s.configuration event t)
  unfolding selected_by
  round_choosers s f m event t n =
      let k = legal_facts c g.tree s.configuration (running_live s f m).legal in
      let o : s.configuration ≡ those c.rows (is_in s.configuration) = set_eq c.rows s.configuration k.0 in
      chooser_first c names s.configuration (stored_in s.history) event (rw o (ascends_those c.rows (is_in s.configuration))) t n

  -- the default blocks that run in it
  pub round_blocks : (s : Follower) → Fit c s → s.mode ≡ Running → (event : Option Name) →
      DefaultBlocks c (entry_of c s.configuration (stored_in s.history) (selected_by c names s event)) (entry_of c s.configuration (stored_in s.history) (selected_by c names s event)).entered_by_default
      (fallen_of c s.configuration (stored_in s.history) (selected_by c names s event))
  unfolding selected_by
  round_blocks s f m event = let a = running_live s f m in blocks_after s.configuration s.history event a.legal a.history

  pub round_fits : (s : Follower) → Fit c s → FitAfter c (round c names s)
  unfolding closing_round
  round_fits s f =
      round_cases c names s (FitAfter c) (λ m. tt) (λ m. tt)
      (λ m. inr (record { mode = refl; nothing = refl; internal = refl; external = refl; history = history_of c s f }))
      (λ m internal external event h. taking_fits s internal external event (running_live s f m))

  -- ---- calls

  pub first_fits : Live c (first_follower c names)
  unfolding first_follower
  first_fits = record { legal = first_legal c g; mode = refl; history = no_histories c }

pub post_fits : (c : Chart) (s : Follower) (name : Name) → Fit c s → Fit c (post s name)
unfolding post with_external is_ended
post_fits c s name f = go (eqb (answer_no (post_answer s name)) 0) refl
  where
    go : (b : Bool) → eqb (answer_no (post_answer s name)) 0 ≡ b → Fit c (cond b (with_external s name) s)
    go true e =
        ⊎_elim (λ (a : Live c s). inl (record { legal = a.legal; mode = a.mode; history = a.history }))
        (λ (o : Over c s). absurd (clash (is_ended s.mode) (rw o.mode) (post_free s name e).1)) f
    go false e = f

-- names join the external queue of a session that has not ended (R-9)
pub names_fit : (c : Chart) (s : Follower) (more : List Name) → is_ended s.mode ≡ false → Fit c s → Fit c (with_names s more)
unfolding with_names is_ended
names_fit c s more e f =
    ⊎_elim (λ (a : Live c s). inl (record { legal = a.legal; mode = a.mode; history = a.history }))
    (λ (o : Over c s). absurd (clash (is_ended s.mode) (rw o.mode) e)) f
