-- A well-formed session in parts: its queues, and its configuration, history and mode; and the test of one, which is exact.
use Rattle.std.specs.Prelude.{◌≡◌, true, false, ◌&&◌, List, [], ◌↔◌, ℕ, suc, ◌<◌, ◌≤◌, eqb, leb, ltb}
use Rattle.std.proofs.Math.Path.{refl, sym}
use Rattle.std.proofs.Common.{◌∙◌, arith}
use Rattle.std.proofs.Math.Logic.{inl, inr, ⊎_elim}
use Rattle.std.proofs.Math.ListN.{length, get_or-eq_default}
use borrow.Author.Tests.{eqb-true, eq-eqb, ltb-true, ltb-false, leb-true, le-leb, not-true}
use Rattle.definition.specs.declared.Mode.{Mode}
use Rattle.definition.specs.declared.Mode.TheVariants.{Running, Closing, Ended}
use Rattle.definition.specs.Rows.{from, any, all, is_empty}
use Rattle.definition.specs.Names.{Name, is_name}
use Rattle.definition.specs.Chart.{Chart, kind, is_history}
use Rattle.definition.specs.Tree.{is_domain_kind}
use Rattle.follower.specs.Microstep.{stored_in}
use Rattle.follower.specs.Follower.{Follower, most_queued, is_final_under_root, mode_of}
use Rattle.follower.specs.Legal.{is_legal, is_storable, WellFormed, place_fits, history_fits, queue_fits, mode_fits, is_well_formed}
use Rattle.laws.specs.Bools.{no, and3, and4, bool_case, or_elim, or_left, or_right, and_left, and_right, and_true}
use Rattle.laws.specs.Sets.{empty_some}
use Rattle.laws.specs.Loops.{each_below}
use Rattle.laws.specs.Lists.{empty_list, full_list, mem_all}
use Rattle.accepted.specs.Tree.{Tree, root_kind}
use Rattle.accepted.specs.Sound.{Sound}
use Rattle.theory.specs.LegalTest.{legal_facts}
use Rattle.theory.specs.Storing.{storable_exact}
use Rattle.theory.specs.Queues.{Queued}
use Rattle.theory.specs.Keeps.{Histories, Live, Over, Fit, history_of}

-- ---- modes

pub ended_running : (m : Mode) → m ≡ Running → m ≡ Ended → ⊥
ended_running m e q = let z : ◌≡◌ {A = ℕ} 0 1 = cc in omega arith

pub ended_closing : (m : Mode) → m ≡ Closing → m ≡ Ended → ⊥
ended_closing m e q = let z : ◌≡◌ {A = ℕ} 0 1 = cc in omega arith

pub running_closing : (m : Mode) → m ≡ Running → m ≡ Closing → ⊥
running_closing m e q = let z : ◌≡◌ {A = ℕ} 0 1 = cc in omega arith

final_mode : (c : Chart) (conf : List ℕ) → any (is_final_under_root c) conf ≡ true → mode_of c conf ≡ Closing
unfolding mode_of
final_mode c conf e = rw e

other_mode : (c : Chart) (conf : List ℕ) → any (is_final_under_root c) conf ≡ false → mode_of c conf ≡ Running
unfolding mode_of
other_mode c conf e = rw e

-- a session that starts or goes on has not ended
pub mode_lives : (c : Chart) (conf : List ℕ) → mode_of c conf ≡ Ended → ⊥
mode_lives c conf q =
    bool_case (any (is_final_under_root c) conf) (λ e. ended_closing (mode_of c conf) (final_mode c conf e) q) (λ e. ended_running (mode_of c conf) (other_mode c conf e) q)

mode_closing : (c : Chart) (conf : List ℕ) → mode_of c conf ≡ Closing → any (is_final_under_root c) conf ≡ true
mode_closing c conf q =
    bool_case (any (is_final_under_root c) conf) (λ e. e) (λ e. absurd (running_closing (mode_of c conf) (other_mode c conf e) q))

-- the root has an active child
pub legal_full : (c : Chart) → Tree c → (conf : List ℕ) → is_legal c conf ≡ true → conf ≡ [] → ⊥
unfolding is_domain_kind
legal_full c t conf l e =
    let k = (legal_facts c t conf l).1.some_child 0 refl (or_left _ _ (root_kind c t)) in
    full_list conf (empty_some conf (suc k.0) k.1) e

-- ---- the statement, from its parts and into them

module _ (c : Chart) (g : Sound c) (s : Follower) where
  pub parts_well_formed : Queued s → Fit c s → WellFormed c s
  unfolding any
  parts_well_formed q f =
      ⊎_elim
      (λ (a : Live c s). record {
        internal_names = q.named.internal;
        external_names = q.named.external;
        internal_short = q.short;
        external_short = q.named.short;
        legal = λ n. a.legal;
        closing = ((λ e. mode_closing c s.configuration (sym a.mode ∙ e)), (λ e. a.mode ∙ final_mode c s.configuration e));
        ended = ((λ e. absurd (mode_lives c s.configuration (sym a.mode ∙ e))), (λ e. absurd (legal_full c g.tree s.configuration a.legal e)));
        internal_emptied = λ e. absurd (mode_lives c s.configuration (sym a.mode ∙ e));
        external_emptied = λ e. absurd (mode_lives c s.configuration (sym a.mode ∙ e));
        places = a.history.places;
        histories = a.history.histories;
        stored_sets = a.history.stored_sets;
      })
      (λ (o : Over c s). record {
        internal_names = q.named.internal;
        external_names = q.named.external;
        internal_short = q.short;
        external_short = q.named.short;
        legal = λ n. absurd (n o.mode);
        closing = ((λ e. absurd (ended_closing s.mode e o.mode)), (λ e. absurd (no (rw o.nothing at e))));
        ended = ((λ e. o.nothing), (λ e. o.mode));
        internal_emptied = λ e. o.internal;
        external_emptied = λ e. o.external;
        places = o.history.places;
        histories = o.history.histories;
        stored_sets = o.history.stored_sets;
      }) f

  pub well_formed_queues : WellFormed c s → Queued s
  well_formed_queues w =
      record { named = record { internal = w.internal_names; external = w.external_names; short = w.external_short }; short = w.internal_short }

  pub well_formed_fit : WellFormed c s → Fit c s
  well_formed_fit w = go s.mode refl
    where
      history : Histories c s.history
      history = record { places = w.places; histories = w.histories; stored_sets = w.stored_sets }

      go : (m : Mode) → s.mode ≡ m → Fit c s
      go Running e =
          inl (record {
            legal = w.legal (ended_running s.mode e);
            mode = e ∙ sym (bool_case (any (is_final_under_root c) s.configuration) (λ q. absurd (running_closing s.mode e (w.closing.1 q))) (λ q. other_mode c s.configuration q));
            history = history;
          })
      go Closing e = inl (record { legal = w.legal (ended_closing s.mode e); mode = e ∙ sym (final_mode c s.configuration (w.closing.0 e)); history = history })
      go Ended e = inr (record { mode = e; nothing = w.ended.0 e; internal = w.internal_emptied e; external = w.external_emptied e; history = history })

-- ---- the test, part by part

queue_passes : (queue : List Name) → length queue ≤ most_queued → all is_name queue ≡ true → queue_fits queue ≡ true
unfolding queue_fits
queue_passes queue l h = and_true (leb (length queue) most_queued) _ (le-leb _ _ l) h

queue_facts : (queue : List Name) → queue_fits queue ≡ true → (length queue ≤ most_queued) × (all is_name queue ≡ true)
unfolding queue_fits
queue_facts queue h = (leb-true _ _ (and_left (leb (length queue) most_queued) _ h), and_right (leb (length queue) most_queued) _ h)

module _ (c : Chart) (g : Sound c) where
  history_passes : (history : List (List ℕ)) → Histories c history → history_fits c history ≡ true
  unfolding history_fits place_fits
  history_passes history f =
      and_true (eqb (length history) c.rows) _ (eq-eqb _ _ f.places)
      (mem_all (place_fits c history) (from c.rows 0) (λ h m. bool_case (is_empty (stored_in history h)) (λ e. rw e)
      (λ e. let n = full_list (stored_in history h) e in
      let q = f.histories h n in
      or_right (is_empty (stored_in history h)) _ (and_true (is_history (kind c h)) _ q ((storable_exact c g h q (stored_in history h)).1 (f.stored_sets h n))))))

  history_facts : (history : List (List ℕ)) → history_fits c history ≡ true → Histories c history
  unfolding history_fits place_fits
  history_facts history t =
      record {
        places = size;
        histories = λ h n. (at h n).0;
        stored_sets = λ h n. (storable_exact c g h (at h n).0 (stored_in history h)).0 (at h n).1;
      }
    where
      size : length history ≡ c.rows
      size = eqb-true _ _ (and_left (eqb (length history) c.rows) _ t)

      inside : (h : ℕ) → (stored_in history h ≡ [] → ⊥) → h < c.rows
      inside h n = bool_case (ltb h c.rows) (λ e. ltb-true _ _ e) (λ e. absurd (n (get_or-eq_default history [] (rw size (ltb-false _ _ e)))))

      at : (h : ℕ) → (stored_in history h ≡ [] → ⊥) → (is_history (kind c h) ≡ true) × (is_storable c h (stored_in history h) ≡ true)
      at h n =
          or_elim (is_empty (stored_in history h)) (is_history (kind c h) && is_storable c h (stored_in history h)) (λ e. absurd (n (empty_list (stored_in history h) e)))
          (λ e. (and_left (is_history (kind c h)) _ e, and_right (is_history (kind c h)) _ e))
          (each_below (place_fits c history) c.rows (and_right (eqb (length history) c.rows) _ t) h (inside h n))

  mode_passes : (s : Follower) → Fit c s → mode_fits s.mode c s ≡ true
  unfolding mode_fits is_empty
  mode_passes s f =
      ⊎_elim
      (λ (a : Live c s). bool_case (any (is_final_under_root c) s.configuration)
      (λ e. rw (a.mode, final_mode c s.configuration e) (and_true (is_legal c s.configuration) _ a.legal e))
      (λ e. rw (a.mode, other_mode c s.configuration e) (and_true (is_legal c s.configuration) _ a.legal (rw e))))
      (λ (o : Over c s). rw (o.mode, o.nothing, o.internal, o.external)) f

  mode_facts : (s : Follower) → Histories c s.history → (m : Mode) → s.mode ≡ m → mode_fits m c s ≡ true → Fit c s
  unfolding mode_fits
  mode_facts s history Running e t =
      inl (record {
        legal = and_left (is_legal c s.configuration) _ t;
        mode = e ∙ sym (other_mode c s.configuration (not-true _ (and_right (is_legal c s.configuration) _ t)));
        history = history;
      })
  mode_facts s history Closing e t =
      inl (record {
        legal = and_left (is_legal c s.configuration) _ t;
        mode = e ∙ sym (final_mode c s.configuration (and_right (is_legal c s.configuration) _ t));
        history = history;
      })
  mode_facts s history Ended e t =
      let k = and3 (is_empty s.configuration) (is_empty s.internal) (is_empty s.external) t in
      inr (record { mode = e; nothing = empty_list s.configuration k.0; internal = empty_list s.internal k.1; external = empty_list s.external k.2; history = history })

  passes : (s : Follower) → Queued s → Fit c s → is_well_formed c s ≡ true
  unfolding is_well_formed
  passes s q f =
      and_true (queue_fits s.internal && queue_fits s.external && mode_fits s.mode c s) _
      (and_true (queue_fits s.internal && queue_fits s.external) _
      (and_true (queue_fits s.internal) _ (queue_passes s.internal q.short q.named.internal) (queue_passes s.external q.named.short q.named.external))
      (mode_passes s f))
      (history_passes s.history (history_of c s f))

  passed : (s : Follower) → is_well_formed c s ≡ true → Queued s × Fit c s
  unfolding is_well_formed
  passed s t =
      let k = and4 (queue_fits s.internal) (queue_fits s.external) (mode_fits s.mode c s) (history_fits c s.history) t in
      let i = queue_facts s.internal k.0 in
      let o = queue_facts s.external k.1 in
      (record { named = record { internal = i.1; external = o.1; short = o.0 }; short = i.0 }, mode_facts s (history_facts s.history k.3) s.mode refl k.2)

  -- the test says what the statement says
  pub well_formed_exact : (s : Follower) → (is_well_formed c s ≡ true) ↔ WellFormed c s
  well_formed_exact s = (
    (λ t. let p = passed s t in parts_well_formed c g s p.0 p.1),
    (λ w. passes s (well_formed_queues c g s w) (well_formed_fit c g s w)),
  )
