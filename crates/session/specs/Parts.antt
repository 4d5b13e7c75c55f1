-- The parts of a session, judged: each answer of the code is the test's.
use Rattle.std.specs.Prelude.{◌≡◌, Bool, false, not, ◌&&◌, List, [], ◌∷◌, eqb, length, get_or, take, drop}
use Rattle.std.proofs.Math.Path.{refl, sym, ap}
use Rattle.std.proofs.Common.{◌∙◌, mod-lt, div-add-mod', zero-lt-suc, arith, take-append-drop, get_or-take, get_or-drop, eqb-true, eq-eqb}
use Rattle.std.proofs.Math.Bool.{true}
use Prim.Native.Nat.{ℕ, zero, suc, ◌+◌, ◌-◌, ◌*◌, ◌/◌, ◌%◌, ◌≤◌, ◌<◌}
use Rattle.std.proofs.lemmas.List.{get_or-replicate}
use Rattle.std.proofs.Math.ListN.{get_or-eq_default}
use Rattle.definition.specs.Rows.{any, all, from, is_empty}
use Rattle.definition.specs.Chart.{Chart, kind, is_history}
use Rattle.definition.specs.Tables.{chart_of}
use Rattle.follower.specs.Follower.{is_final_under_root}
use Rattle.follower.specs.Legal.{is_legal, is_storable}
use Rattle.definition.specs.Compiled.{words}
use Rattle.laws.specs.Bools.{clash, bool_case, not_so, and_left, and_right, and_true}
use Rattle.laws.specs.Loops.{all_append, each_below, below_each}
use Rattle.laws.specs.Orders.{lt_case}
use Rattle.laws.specs.Parts.{part_end}
use Rattle.accepted.specs.Tree.{Tree}
use Rattle.rowset.specs.declared.RowSet.{RowSet}
use Rattle.rowset.specs.Member.{rows_of}
use Rattle.rowset.specs.Rows.{rows_empty}
use Rattle.chart.specs.Ready.{row_set_at, Ready}
use Rattle.legality.specs.Rows.{RowsReady, rows_ready}
use Rattle.paths.specs.History.{stored_at}
use Rattle.queue.specs.Queues.{is_queue}
use Rattle.state.specs.State.{rows_at}
use Rattle.session.specs.Sessions.{session, is_session}
use Rattle.state.specs.Found.{legal_set}
use Rattle.state.specs.Words.{Fits, cell_again, words_none}
use Rattle.session.specs.Judged.{Lengths, holds_place, place_blank, mode_holds, session_holds, session_holds_lem}

-- ---- the words of the history: those of the rows, and those behind them, which are zero

zero_at : (ws : List ℕ) → all (eqb 0) ws ≡ true → (k : ℕ) → get_or ws k 0 ≡ 0
unfolding all
zero_at [] h k = refl
zero_at (x ∷ ws) h zero = sym (eqb-true 0 x (and_left (eqb 0 x) _ h))
zero_at (x ∷ ws) h (suc k) = zero_at ws (and_right (eqb 0 x) _ h) k

all_zero : (ws : List ℕ) → ((k : ℕ) → get_or ws k 0 ≡ 0) → all (eqb 0) ws ≡ true
unfolding all
all_zero [] h = refl
all_zero (x ∷ ws) h = and_true (eqb 0 x) _ (eq-eqb 0 x (sym (h 0))) (all_zero ws (λ k. h (suc k)))

-- what was said of the words from m on, as a part that ends where they do
pub behind_told : (ws : List ℕ) (m : ℕ) (b t : Bool) → b ≡ all (eqb 0) (take (length ws - m) (drop m ws)) → b ≡ t → all (eqb 0) (drop m ws) ≡ t
behind_told ws m b t e f = sym (ap (all (eqb 0)) (part_end m ws)) ∙ sym e ∙ f

-- four words of zero hold no row
none_stored : (ws : List ℕ) (h : ℕ) → ((k : ℕ) → h * 4 ≤ k → get_or ws k 0 ≡ 0) → stored_at ws h ≡ []
unfolding stored_at row_set_at
none_stored ws h z =
    ap rows_of (λ i. record { w0 = z (h * 4) (omega arith) i; w1 = z (h * 4 + 1) (omega arith) i; w2 = z (h * 4 + 2) (omega arith) i; w3 = z (h * 4 + 3) (omega arith) i }) ∙ rows_empty

-- words that hold no row are zero
zero_stored : (ws : List ℕ) (h j : ℕ) → Fits ws → h * 4 + 4 ≤ length ws → j < 4 → stored_at ws h ≡ [] → get_or ws (h * 4 + j) 0 ≡ 0
unfolding stored_at
zero_stored ws h j f l m e =
    sym (get_or-take 4 (drop (h * 4) ws) j 0 m ∙ get_or-drop (h * 4) ws j 0) ∙ ap (λ (xs : List ℕ). get_or xs j 0) (sym (cell_again ws h f l) ∙ ap words e ∙ words_none) ∙
    get_or-replicate 4 j 0 0 m

module _ (c : Chart) (ws : List ℕ) (n : ℕ) where
  zero_behind : all (eqb 0) (drop (n * 4) ws) ≡ true → (k : ℕ) → n * 4 ≤ k → get_or ws k 0 ≡ 0
  zero_behind z k l =
      let e : n * 4 + (k - n * 4) ≡ k = omega arith in
      ap (λ (j : ℕ). get_or ws j 0) (sym e) ∙ sym (get_or-drop (n * 4) ws (k - n * 4) 0) ∙ zero_at (drop (n * 4) ws) z (k - n * 4)

  pub rows_hold : all (eqb 0) (drop (n * 4) ws) ≡ true → all (holds_place c ws) (from n 0) ≡ true → true ≡ all (holds_place c ws) (from 256 0)
  unfolding holds_place is_empty
  rows_hold z e =
      sym (below_each (holds_place c ws) 256
      (λ h l. lt_case h n (λ g. each_below (holds_place c ws) n e h g) (λ g. rw (none_stored ws h (λ k m. zero_behind z k (omega arith))))))

  -- what was found of the places of the rows is so of all
  pub rows_told : all (eqb 0) (drop (n * 4) ws) ≡ true → n ≤ 256 → (b : Bool) → b ≡ all (holds_place c ws) (from n 0) → b ≡ all (holds_place c ws) (from 256 0)
  rows_told z l true e = rows_hold z (sym e)
  rows_told z l false e =
      sym (not_so _ (λ w. clash _ (below_each (holds_place c ws) n (λ h g. each_below (holds_place c ws) 256 w h (omega arith))) (sym e)))

  pub blank_holds : all (eqb 0) (drop (n * 4) ws) ≡ true → all (eqb 0) (take (n * 4) ws) ≡ true → true ≡ all (holds_place c ws) (from 256 0)
  unfolding holds_place is_empty
  blank_holds z e =
      let w : all (eqb 0) ws ≡ true =
      sym (ap (all (eqb 0)) (take-append-drop (n * 4) ws)) ∙ all_append (eqb 0) (take (n * 4) ws) (drop (n * 4) ws) ∙ and_true _ _ e z in
      sym (below_each (holds_place c ws) 256 (λ h l. rw (none_stored ws h (λ k m. zero_at ws w k))))

  -- a row past the count is no history, and stores nothing
  pub behind_holds : Tree c → c.rows ≡ n → n ≤ 256 → length ws ≡ 1024 → Fits ws → all (eqb 0) (drop (n * 4) ws) ≡ false → false ≡ all (holds_place c ws) (from 256 0)
  behind_holds t e few size f z =
      bool_case (all (holds_place c ws) (from 256 0)) (λ w. absurd (clash _ (all_zero (drop (n * 4) ws) (λ k. get_or-drop (n * 4) ws k 0 ∙ word w (n * 4 + k) (omega arith))) z)) (λ w. sym w)
    where
      word : all (holds_place c ws) (from 256 0) ≡ true → (k : ℕ) → n * 4 ≤ k → get_or ws k 0 ≡ 0
      word w k l =
          lt_case k 1024
          (λ g. let d = div-add-mod' k 4 in
          let m = mod-lt k (zero-lt-suc 3) in
          let p : c.rows ≤ k / 4 = omega arith in
          ap (λ (j : ℕ). get_or ws j 0) (sym d) ∙
          zero_stored ws (k / 4) (k % 4) f (omega arith) m (place_blank c t (omega arith) ws size f (k / 4) p (each_below (holds_place c ws) 256 w (k / 4) (omega arith))))
          (λ g. get_or-eq_default ws 0 (omega arith))

-- ---- the mode

module _ (c : Chart) (conf : List ℕ) (internal external : ℕ) where
  pub mode_ended : (m : ℕ) (b : Bool) → m ≡ 0 → b ≡ is_empty conf → (b && eqb internal 0 && eqb external 0) ≡ mode_holds c conf internal external m
  unfolding mode_holds
  mode_ended m b e h = rw (e, h)

  pub mode_unknown : (m : ℕ) → 2 < m → false ≡ mode_holds c conf internal external m
  unfolding mode_holds
  mode_unknown zero h = absurd (omega arith)
  mode_unknown (suc zero) h = absurd (omega arith)
  mode_unknown (suc (suc zero)) h = absurd (omega arith)
  mode_unknown (suc (suc (suc n))) h = refl

  pub mode_illegal : (m : ℕ) → (m ≡ 0 → ⊥) → is_legal c conf ≡ false → false ≡ mode_holds c conf internal external m
  unfolding mode_holds
  mode_illegal zero n h = absurd (n refl)
  mode_illegal (suc zero) n h = rw h
  mode_illegal (suc (suc zero)) n h = rw h
  mode_illegal (suc (suc (suc k))) n h = refl

  module _ (legal : is_legal c conf ≡ true) (b : Bool) (e : b ≡ any (is_final_under_root c) conf) where
    pub mode_running : (m : ℕ) → m ≡ 1 → not b ≡ mode_holds c conf internal external m
    unfolding mode_holds
    mode_running m h = rw (h, legal, e)

    pub mode_closing : (m : ℕ) → (m ≡ 0 → ⊥) → (m ≡ 1 → ⊥) → m ≤ 2 → b ≡ mode_holds c conf internal external m
    unfolding mode_holds
    mode_closing zero n k l = absurd (n refl)
    mode_closing (suc zero) n k l = absurd (k refl)
    mode_closing (suc (suc zero)) n k l = rw legal e
    mode_closing (suc (suc (suc m))) n k l = absurd (omega arith)

pub legal_ready : (chart conf : List ℕ) → Ready chart → is_legal (chart_of chart) conf ≡ true → RowsReady chart conf
legal_ready chart conf h l = rows_ready chart conf h (legal_set (chart_of chart) conf l)

-- ---- a place of the history, whose set is s

module _ (c : Chart) (history : List ℕ) (h : ℕ) (s : RowSet) (at : s ≡ row_set_at history (h * 4)) where
  stored_is : rows_of s ≡ stored_at history h
  unfolding stored_at
  stored_is = ap rows_of at

  pub place_none : (b : Bool) → b ≡ is_empty (rows_of s) → b ≡ true → true ≡ holds_place c history h
  unfolding holds_place
  place_none b e t = rw (← stored_is, ← e, t)

  module _ (b : Bool) (e : b ≡ is_empty (rows_of s)) (f : b ≡ false) where
    pub place_plain : is_history (kind c h) ≡ false → false ≡ holds_place c history h
    unfolding holds_place
    place_plain k = rw (← stored_is, ← e, f, k)

    -- a row past the count is no history
    pub place_past : Tree c → c.rows ≤ h → false ≡ holds_place c history h
    place_past t l = place_plain (ap is_history (t.beyond_kind h l))

    pub place_stored : (d : Bool) → is_history (kind c h) ≡ true → d ≡ is_storable c h (rows_of s) → d ≡ holds_place c history h
    unfolding holds_place
    place_stored d k g = rw (← stored_is, ← e, f, k) g

-- ---- all of it

pub session_judged : (chart configuration history internal external : List ℕ) (i e m : ℕ) (s : RowSet) (p q r t : Bool) → Ready chart →
    Lengths configuration history internal external → Fits configuration → Fits history → s ≡ row_set_at configuration 0 → p ≡ is_queue internal i → q ≡ is_queue external e →
    r ≡ mode_holds (chart_of chart) (rows_of s) i e m → t ≡ all (holds_place (chart_of chart) history) (from 256 0) →
    ((p && q) && r && t) ≡ is_session (chart_of chart) (session configuration history internal external i e m)
unfolding session_holds rows_at
session_judged chart configuration history internal external i e m s p q r t ready sizes fc fh at hp hq hr ht =
    let few = ready.tables.sized.counts.rows in
    let mode : r ≡ mode_holds (chart_of chart) (rows_at configuration 0) i e m = hr ∙ ap (λ (x : RowSet). mode_holds (chart_of chart) (rows_of x) i e m) at in
    rw (hp, hq, mode, ht)
    (session_holds_lem (chart_of chart) ready.sound.tree (omega arith) (session configuration history internal external i e m)
    (record { lengths = sizes; configuration_fits = fc; history_fits = fh }))
