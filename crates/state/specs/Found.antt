-- A well-formed state is found again in the words and bytes that spell it.
use Rattle.std.specs.Prelude.{◌≡◌, refl, true, List, ℕ, ◌≤◌, leb, length}
use Rattle.std.proofs.Common.{sym, ap, ◌∙◌, arith, le-leb}
use Rattle.std.proofs.Math.Path.{fun_ext}
use Rattle.definition.specs.declared.Mode.{Mode}
use Rattle.definition.specs.declared.Mode.TheVariants.{Running, Closing, Ended}
use Rattle.definition.specs.Rows.{all, is_empty, is_set}
use Rattle.definition.specs.Names.{Name, is_name}
use Rattle.definition.specs.Chart.{Chart}
use Rattle.follower.specs.Microstep.{stored_in, would_store}
use Rattle.definition.specs.Answers.{mode_no}
use Rattle.follower.specs.Follower.{Follower, most_queued}
use Rattle.follower.specs.Legal.{is_legal, fits_row, children_fit, StoredFrom, WellFormed, queue_fits}
use Rattle.definition.specs.Compiled.{words}
use Rattle.laws.specs.Bools.{bool_case, and3, and_true}
use Rattle.laws.specs.Lists.{set_ascends, set_below, ascends_set, empty_list, full_list}
use Rattle.accepted.specs.Tree.{Tree}
use Rattle.theory.specs.Storing.{stored_mem, ascends_stored}
use Rattle.paths.specs.History.{stored_at}
use Rattle.queue.specs.Queues.{queue_bytes, queue_of, names_again}
use Rattle.state.specs.State.{history_words, rows_at, mode_from}
use Rattle.state.specs.Words.{none_set, rows_again, stored_again}

-- ---- what is well formed is a set of rows

pub set_more : (m n : ℕ) (xs : List ℕ) → m ≤ n → is_set m xs ≡ true → is_set n xs ≡ true
set_more m n xs l h = ascends_set n xs (set_ascends m xs h) (λ a k. omega (arith, set_below m xs h a k))

pub legal_set : (c : Chart) (conf : List ℕ) → is_legal c conf ≡ true → is_set c.rows conf ≡ true
unfolding is_legal
legal_set c conf h = (and3 (is_set c.rows conf) (all (fits_row c conf) conf) (children_fit c conf 0) h).0

module _ (c : Chart) (t : Tree c) (f : Follower) (w : WellFormed c f) where
  pub configuration_set : is_set c.rows f.configuration ≡ true
  configuration_set = go f.mode refl
    where
      live : (f.mode ≡ Ended → ⊥) → is_set c.rows f.configuration ≡ true
      live n = legal_set c f.configuration (w.legal n)

      go : (m : Mode) → f.mode ≡ m → is_set c.rows f.configuration ≡ true
      go Running e = live (λ q. let z : ◌≡◌ {A = ℕ} 0 1 = cc in absurd (omega arith))
      go Closing e = live (λ q. let z : ◌≡◌ {A = ℕ} 0 1 = cc in absurd (omega arith))
      go Ended e = ap (is_set c.rows) (w.ended.0 e) ∙ none_set c.rows

  pub stored_set : (h : ℕ) → is_set c.rows (stored_in f.history h) ≡ true
  stored_set h =
      bool_case (is_empty (stored_in f.history h)) (λ e. ap (is_set c.rows) (empty_list (stored_in f.history h) e) ∙ none_set c.rows)
      (λ e. from_some (w.stored_sets h (full_list (stored_in f.history h) e)))
    where
      from_some : StoredFrom c h (stored_in f.history h) → is_set c.rows (stored_in f.history h) ≡ true
      from_some k =
          let s = legal_set c k.configuration k.legal in
          ap (is_set c.rows) (sym k.stores) ∙
          ascends_set c.rows (would_store c k.configuration h) (ascends_stored c t h k.configuration (set_ascends c.rows k.configuration s))
          (λ a m. set_below c.rows k.configuration s a (stored_mem c t h k.configuration a m).0)

-- ---- the state is found again

pub mode_again : (m : Mode) → mode_from (mode_no m) ≡ m
unfolding mode_from mode_no
mode_again Ended = refl
mode_again Running = refl
mode_again Closing = refl

pub queue_again : (queue : List Name) → length queue ≤ most_queued → all is_name queue ≡ true → queue_of (queue_bytes queue) (length queue) ≡ queue
unfolding queue_fits
queue_again queue l h = names_again queue (and_true (leb (length queue) most_queued) _ (le-leb _ _ l) h)

module _ (c : Chart) (t : Tree c) (few : c.rows ≤ 256) (f : Follower) (w : WellFormed c f) where
  -- a history reads its words as the state has its set
  pub history_reads : (h : ℕ) → stored_at (history_words f.history) h ≡ stored_in f.history h
  history_reads = stored_again f.history (rw w.places few) (λ h. set_more c.rows 256 _ few (stored_set c t f w h))

  pub history_is : stored_at (history_words f.history) ≡ stored_in f.history
  history_is = fun_ext history_reads

  pub configuration_is : rows_at (words f.configuration) 0 ≡ f.configuration
  configuration_is = rows_again f.configuration (set_more c.rows 256 _ few (configuration_set c t f w))
