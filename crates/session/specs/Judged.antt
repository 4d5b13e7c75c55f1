-- The test of a session part by part, as the code judges it: its queues, its history place by place, and its mode with the configuration.
use Rattle.std.specs.Prelude.{◌≡◌, Bool, false, not, ◌&&◌, ◌||◌, eqb, ltb, length}
use Rattle.std.proofs.Math.Path.{refl, sym, ap}
use Rattle.std.proofs.Common.{ap₂, ◌∙◌, zero-add, arith}
use Rattle.std.proofs.Math.Bool.{true}
use mathlib.Core.List.{List, [], map}
use Prim.Native.Nat.{ℕ, zero, suc, ◌≤◌, ◌<◌}
use borrow.Author.Tests.{eq-eqb, ne_eqb, ltb-true, ltb-false}
use Rattle.definition.specs.Rows.{from, any, all, same, is_empty}
use Rattle.definition.specs.Chart.{Chart, kind, is_history}
use Rattle.definition.specs.Answers.{mode_no}
use Rattle.follower.specs.Follower.{Follower, is_final_under_root}
use Rattle.follower.specs.Legal.{is_legal, is_storable, place_fits, history_fits, queue_fits, mode_fits, is_well_formed}
use Rattle.definition.specs.Compiled.{words}
use Rattle.laws.specs.Bools.{no, both_ways, bool_case, or_elim, and4, and7, and_left, and_right, and_true}
use Rattle.laws.specs.Lists.{same_eq, same_self, empty_list}
use Rattle.laws.specs.Loops.{each_below, below_each}
use Rattle.laws.specs.Maps.{map_length, map_at}
use Rattle.accepted.specs.Tree.{Tree}
use Rattle.paths.specs.History.{stored_at}
unfoldable pub use Rattle.histories.specs.Places.{holds_place}
use Rattle.queue.specs.Queues.{queue_bytes, queue_of, is_queue, names_length}
use Rattle.session.specs.declared.Session.{Session}
use Rattle.state.specs.State.{history_words, rows_at, mode_from}
use Rattle.session.specs.Sessions.{session_of, view, same_session, is_session}
use Rattle.state.specs.Words.{Fits, words_again, history_blank, blank_history}

-- the lengths of a session's arrays
pub record Lengths (conf hist inner outer : List ℕ) : Type 0 where
  pub configuration : length conf ≡ 4
  pub history : length hist ≡ 1024
  pub internal : length inner ≡ 2048
  pub external : length outer ≡ 2048

-- what every value of the type Session has: these lengths, and words of 64 bits
pub record Sized (s : Session) : Type 0 where
  pub lengths : Lengths s.configuration s.history s.internal s.external
  pub configuration_fits : Fits s.configuration
  pub history_fits : Fits s.history

-- ended with nothing active and no names; running or closing by the finals under root
unfoldable pub mode_holds : Chart → List ℕ → ℕ → ℕ → ℕ → Bool
mode_holds c conf internal external zero = is_empty conf && eqb internal 0 && eqb external 0
mode_holds c conf internal external (suc zero) = is_legal c conf && not (any (is_final_under_root c) conf)
mode_holds c conf internal external (suc (suc zero)) = is_legal c conf && any (is_final_under_root c) conf
mode_holds c conf internal external (suc (suc (suc n))) = false

unfoldable pub session_holds : Chart → Session → Bool
session_holds c s =
    is_queue s.internal s.internal_count && is_queue s.external s.external_count &&
    mode_holds c (rows_at s.configuration 0) s.internal_count s.external_count s.mode && all (holds_place c s.history) (from 256 0)

-- ---- the history

module _ (c : Chart) (t : Tree c) (few : c.rows ≤ 256) (ws : List ℕ) (size : length ws ≡ 1024) (fits : Fits ws) where
  abbrev sets : List (List ℕ)
  sets = map (stored_at ws) (from c.rows 0)

  place_same : (h : ℕ) → h < c.rows → place_fits c sets h ≡ holds_place c ws h
  unfolding place_fits holds_place
  place_same h l =
      ap (λ (x : List ℕ). is_empty x || (is_history (kind c h) && is_storable c h x)) (map_at (stored_at ws) c.rows 0 h [] l ∙ ap (stored_at ws) (zero-add h))

  -- a row past the count is no history
  pub place_blank : (h : ℕ) → c.rows ≤ h → holds_place c ws h ≡ true → stored_at ws h ≡ []
  unfolding holds_place
  place_blank h g p =
      or_elim (is_empty (stored_at ws h)) (is_history (kind c h) && is_storable c h (stored_at ws h)) (λ e. empty_list (stored_at ws h) e)
      (λ e. absurd (no (sym (ap is_history (t.beyond_kind h g)) ∙ and_left (is_history (kind c h)) _ e))) p

  blank_place : (h : ℕ) → stored_at ws h ≡ [] → holds_place c ws h ≡ true
  unfolding holds_place is_empty
  blank_place h e = rw e

  pub history_holds : (same ws (history_words sets) && history_fits c sets) ≡ all (holds_place c ws) (from 256 0)
  unfolding history_fits
  history_holds =
      both_ways (same ws (history_words sets) && (eqb (length sets) c.rows && all (place_fits c sets) (from c.rows 0))) (all (holds_place c ws) (from 256 0))
      (λ h. below_each (holds_place c ws) 256 (λ k l. there (same_eq _ _ (and_left (same ws (history_words sets)) _ h))
      (and_right (eqb (length sets) c.rows) _ (and_right (same ws (history_words sets)) _ h)) k))
      (λ h. let e : ws ≡ history_words sets = blank_history ws c.rows fits size few (λ k g l. place_blank k g (each_below (holds_place c ws) 256 h k l)) in
      and_true (same ws (history_words sets)) _ (ap (same ws) (sym e) ∙ same_self ws)
      (and_true (eqb (length sets) c.rows) _ (eq-eqb _ _ (map_length (stored_at ws) c.rows 0))
      (below_each (place_fits c sets) c.rows (λ k l. place_same k l ∙ each_below (holds_place c ws) 256 h k (omega arith)))))
    where
      there : ws ≡ history_words sets → all (place_fits c sets) (from c.rows 0) ≡ true → (k : ℕ) → holds_place c ws k ≡ true
      there e p k =
          bool_case (ltb k c.rows) (λ b. let l : k < c.rows = ltb-true _ _ b in sym (place_same k l) ∙ each_below (place_fits c sets) c.rows p k l)
          (λ b. blank_place k (history_blank ws c.rows fits size few e k (ltb-false _ _ b)))

-- ---- the mode

no_names : (bytes : List ℕ) (count : ℕ) → is_empty (queue_of bytes count) ≡ eqb count 0
unfolding queue_of from is_empty
no_names bytes zero = refl
no_names bytes (suc n) = sym (ne_eqb (suc n) 0 (omega arith))

module _ (c : Chart) (rows : ℕ) (s : Session) where
  pub mode_holds_lem : (m : ℕ) → (eqb m (mode_no (mode_from m)) && mode_fits (mode_from m) c (view rows s)) ≡ mode_holds c (rows_at s.configuration 0) s.internal_count s.external_count m
  unfolding mode_from mode_no mode_fits mode_holds view
  mode_holds_lem zero = rw (no_names s.internal s.internal_count, no_names s.external s.external_count)
  mode_holds_lem (suc zero) = refl
  mode_holds_lem (suc (suc zero)) = refl
  mode_holds_lem (suc (suc (suc n))) = rw (ne_eqb (suc (suc (suc n))) 2 (omega arith))

-- ---- all of it

-- the tests of the parts in the other order
gather : (a b d e f g h q r m p : Bool) → a ≡ true → f ≡ true → g ≡ true →
    ((a && b && d && e && f && g && h) && (q && r && m && p)) ≡ ((d && q) && (e && r) && (h && m) && (b && p))
gather a b d e f g h q r m p ea ef eg =
    both_ways ((a && b && d && e && f && g && h) && (q && r && m && p)) ((d && q) && (e && r) && (h && m) && (b && p))
    (λ x. let y = and7 a b d e f g h (and_left (a && b && d && e && f && g && h) _ x) in
    let z = and4 q r m p (and_right (a && b && d && e && f && g && h) _ x) in
    rw (y.1, y.2, y.3, y.6, z.0, z.1, z.2, z.3))
    (λ x. let y = and4 (d && q) (e && r) (h && m) (b && p) x in
    rw (ea, ef, eg, and_left d q y.0, and_right d q y.0, and_left e r y.1, and_right e r y.1, and_left h m y.2, and_right h m y.2, and_left b p y.3, and_right b p y.3))

pub session_holds_lem : (c : Chart) → Tree c → c.rows ≤ 256 → (s : Session) → Sized s → session_holds c s ≡ is_session c s
unfolding session_holds is_session same_session session_of view is_well_formed is_queue
session_holds_lem c t few s z =
    let f : Follower = view c.rows s in
    sym (gather (same s.configuration (words f.configuration)) (same s.history (history_words f.history)) (same s.internal (queue_bytes f.internal))
    (same s.external (queue_bytes f.external)) (eqb s.internal_count (length f.internal)) (eqb s.external_count (length f.external))
    (eqb s.mode (mode_no f.mode)) (queue_fits f.internal) (queue_fits f.external) (mode_fits f.mode c f) (history_fits c f.history)
    (ap (same s.configuration) (words_again s.configuration z.configuration_fits z.lengths.configuration) ∙ same_self s.configuration)
    (eq-eqb _ _ (sym (names_length s.internal s.internal_count))) (eq-eqb _ _ (sym (names_length s.external s.external_count))) ∙
    ap₂ {C = Bool} (λ x y. is_queue s.internal s.internal_count && is_queue s.external s.external_count && x && y)
    (mode_holds_lem c c.rows s s.mode) (history_holds c t few s.history z.lengths.history z.history_fits))
