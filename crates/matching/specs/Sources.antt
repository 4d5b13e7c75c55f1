-- The transitions of a row, found by its number: their sources are in order, so they stand side by side.
use Rattle.std.specs.Prelude.{◌≡◌, Bool, false, ◌&&◌, List, ℕ, zero, suc, ◌+◌, ◌-◌, ◌≤◌, ◌<◌, leb, ltb, length, get_or, set}
use Rattle.std.proofs.Math.Path.{sym, subst}
use Rattle.std.proofs.Common.{◌∙◌, le_refl, get_or-set_other}
use Rattle.std.proofs.Math.Bool.{true}
use native.Mathlib.Omega.{arith}
use Rattle.std.proofs.Math.Dec.{eqb}
use Rattle.std.proofs.Math.ListN.{length-set}
use Rattle.std.proofs.Math.Seq.{get_or-set_same}
use borrow.Author.Tests.{eqb-true, eq-eqb, leb-true, le-leb, ltb-true, ltb-false, lt-ltb, le-ltb}
use Rattle.definition.specs.Rows.{from, those, mem}
use Rattle.definition.specs.Chart.{Chart}
use Rattle.definition.specs.Rules.{is_in_order}
use Rattle.follower.specs.Selection.{has_source, transitions_of}
use Rattle.laws.specs.Bools.{both_ways, and_true, and_left, and_right, bool_case, eq_case, clash}
use Rattle.laws.specs.Sets.{ascends_ext, ascends_those, ascends_from, mem_those, mem_from}
use Rattle.accepted.specs.Sound.{Sound}
use Rattle.theory.specs.Accepted.{sources_in_order}

abbrev pub source : Chart → ℕ → ℕ
source c t = (c.transition t).source

-- k is the first transition whose source is not below row i, or their count
pub record StartsAt (c : Chart) (i k : ℕ) : Type 0 where
  pub most : k ≤ c.transitions
  pub below : (t : ℕ) → t < k → source c t < i
  pub from : (t : ℕ) → k ≤ t → t < c.transitions → i ≤ source c t

module _ (c : Chart) (i a b : ℕ) (s : StartsAt c i a) (e : StartsAt c (i + 1) b) where
  starts_order : a ≤ b
  starts_order =
      bool_case (ltb b a)
      (λ h. let l : b < a = ltb-true b a h in
      let m : a ≤ c.transitions = s.most in
      let u : source c b < i = s.below b l in
      let v : i + 1 ≤ source c b = e.from b (le_refl b) (omega arith) in
      absurd (omega arith))
      (λ h. ltb-false b a h)

  transitions_are : transitions_of c i ≡ from (b - a) a
  unfolding transitions_of has_source
  transitions_are =
      ascends_ext 0 a (those c.transitions (has_source c i)) (from (b - a) a) (ascends_those c.transitions (has_source c i)) (ascends_from (b - a) a)
      (λ t. both_ways (mem t (those c.transitions (has_source c i))) (mem t (from (b - a) a)) (there t) (back t))
    where
      there : (t : ℕ) → mem t (those c.transitions (has_source c i)) ≡ true → mem t (from (b - a) a) ≡ true
      there t h =
          let k : (ltb t c.transitions && eqb i (source c t)) ≡ true = sym (mem_those c.transitions (has_source c i) t) ∙ h in
          let l : t < c.transitions = ltb-true _ _ (and_left (ltb t c.transitions) _ k) in
          let q : i ≡ source c t = eqb-true i _ (and_right (ltb t c.transitions) _ k) in
          let lo : a ≤ t = bool_case (ltb t a) (λ h. let u : source c t < i = s.below t (ltb-true t a h) in absurd (omega arith)) (λ h. ltb-false t a h) in
          let hi : t < b = bool_case (ltb t b) (λ h. ltb-true t b h) (λ h. let u : i + 1 ≤ source c t = e.from t (ltb-false t b h) l in absurd (omega arith)) in
          mem_from t (b - a) a ∙ and_true (leb a t) (ltb t (a + (b - a))) (le-leb a t lo) (lt-ltb t (a + (b - a)) (omega arith))

      back : (t : ℕ) → mem t (from (b - a) a) ≡ true → mem t (those c.transitions (has_source c i)) ≡ true
      back t h =
          let k : (leb a t && ltb t (a + (b - a))) ≡ true = sym (mem_from t (b - a) a) ∙ h in
          let lo : a ≤ t = leb-true a t (and_left (leb a t) _ k) in
          let w : t < a + (b - a) = ltb-true t _ (and_right (leb a t) _ k) in
          let o : a ≤ b = starts_order in
          let m : b ≤ c.transitions = e.most in
          let u : source c t < i + 1 = e.below t (omega arith) in
          let v : i ≤ source c t = s.from t lo (omega arith) in
          mem_those c.transitions (has_source c i) t ∙
          and_true (ltb t c.transitions) (eqb i (source c t)) (lt-ltb t c.transitions (omega arith)) (eq-eqb i (source c t) (omega arith))

-- ---- the pass that finds where each row's transitions start

-- no source goes down
pub sources_up : (c : Chart) → Sound c → (t d : ℕ) → t + d < c.transitions → source c t ≤ source c (t + d)
unfolding is_in_order
sources_up c g t zero l = let e : t ≡ t + 0 = omega arith in subst (λ (u : ℕ). source c t ≤ source c u) e (le_refl (source c t))
sources_up c g t (suc d) l =
    let e : suc (t + d) ≡ t + suc d = omega arith in
    let k : source c (t + d) ≤ source c (suc (t + d)) = leb-true _ _ (sources_in_order c g (suc (t + d)) (omega arith)) in
    let h : source c t ≤ source c (t + d) = sources_up c g t d (omega arith) in
    subst (λ (u : ℕ). source c t ≤ source c u) e (omega arith)

-- the transition t is there and its source stands below row i
unfoldable pub starts_before : Chart → ℕ → ℕ → Bool
starts_before c i t = ltb t c.transitions && ltb (source c t) i

module _ (c : Chart) (i t : ℕ) where
  pub before_low : starts_before c i t ≡ true → t < c.transitions
  unfolding starts_before
  before_low h = ltb-true t c.transitions (and_left (ltb t c.transitions) _ h)

  pub before_past : c.transitions ≤ t → false ≡ starts_before c i t
  unfolding starts_before
  before_past l = rw (le-ltb t c.transitions l)

  pub before_by : (s r : ℕ) → t < c.transitions → s ≡ source c t → r ≡ s → ltb r i ≡ starts_before c i t
  unfolding starts_before
  before_by s r l e f = rw (lt-ltb t c.transitions l, f, e)

-- the starts of the rows below i stand in their places, and the sources of the first t transitions below row i
pub record Indexing (c : Chart) (starts : List ℕ) (i t : ℕ) : Type 0 where
  pub size : length starts ≡ 257
  pub most : t ≤ c.transitions
  pub below : (u : ℕ) → u < t → source c u < i
  pub done : (j : ℕ) → j < i → StartsAt c j (get_or starts j 0)

-- the starts of all rows, and where the last row's transitions end
pub record Indexed (c : Chart) (starts : List ℕ) : Type 0 where
  pub size : length starts ≡ 257
  pub at : (i : ℕ) → i ≤ c.rows → StartsAt c i (get_or starts i 0)

module _ (c : Chart) (starts : List ℕ) where
  pub indexing_begin : length starts ≡ 257 → Indexing c starts 0 0
  indexing_begin e = record { size = e; most = omega arith; below = λ u l. absurd (omega arith); done = λ j l. absurd (omega arith) }

  -- one more transition whose source stands below row i
  pub indexing_pass : (i t : ℕ) → Indexing c starts i t → starts_before c i t ≡ true → Indexing c starts i (t + 1)
  unfolding starts_before
  indexing_pass i t h e =
      let l : t < c.transitions = ltb-true _ _ (and_left (ltb t c.transitions) _ e) in
      let k : source c t < i = ltb-true _ _ (and_right (ltb t c.transitions) _ e) in
      record {
        size = h.size;
        most = omega arith;
        below = λ u m. eq_case u t (λ q. rw q k) (λ n. h.below u (omega arith));
        done = h.done;
      }

  -- row i's transitions start at t
  pub indexing_mark : Sound c → (i t : ℕ) → i < 257 → Indexing c starts i t → starts_before c i t ≡ false → Indexing c (set starts i t) (i + 1) t
  unfolding starts_before
  indexing_mark g i t l h e =
      record {
        size = length-set starts i t ∙ h.size;
        most = h.most;
        below = λ u m. let k : source c u < i = h.below u m in omega arith;
        done = λ j m. eq_case j i
            (λ q. rw (q, get_or-set_same starts i t 0 (let s = h.size in omega arith)) here)
            (λ n. rw (get_or-set_other starts i j t 0 n) (h.done j (omega arith)));
      }
    where
      here : StartsAt c i t
      here = record {
        most = h.most;
        below = h.below;
        from = λ u lo hi.
            let m : t < c.transitions = omega arith in
            let w : i ≤ source c t = bool_case (ltb (source c t) i) (λ k. absurd (clash _ (and_true _ _ (lt-ltb t c.transitions m) k) e)) (λ k. ltb-false _ _ k) in
            let d : t + (u - t) ≡ u = omega arith in
            let v : source c t ≤ source c u = subst (λ (x : ℕ). source c t ≤ source c x) d (sources_up c g t (u - t) (omega arith)) in
            omega arith;
      }

  pub indexing_done : (i t : ℕ) → c.rows < i → Indexing c starts i t → Indexed c starts
  indexing_done i t l h = record { size = h.size; at = λ j m. h.done j (omega arith) }

-- the transitions of a row, by the index
pub indexed_transitions : (c : Chart) (starts : List ℕ) (i : ℕ) → Indexed c starts → i < c.rows →
    (transitions_of c i ≡ from (get_or starts (i + 1) 0 - get_or starts i 0) (get_or starts i 0)) × (get_or starts i 0 ≤ get_or starts (i + 1) 0) × (get_or starts (i + 1) 0 ≤ c.transitions)
indexed_transitions c starts i h l =
    let s = h.at i (omega arith) in
    let e = h.at (i + 1) (omega arith) in
    (transitions_are c i (get_or starts i 0) (get_or starts (i + 1) 0) s e, starts_order c i (get_or starts i 0) (get_or starts (i + 1) 0) s e, e.most)

-- their source is that row
pub indexed_source : (c : Chart) (starts : List ℕ) (i t : ℕ) → Indexed c starts → i < c.rows → get_or starts i 0 ≤ t → t < get_or starts (i + 1) 0 → source c t ≡ i
indexed_source c starts i t h l lo hi =
    let e = h.at (i + 1) (omega arith) in
    let m : get_or starts (i + 1) 0 ≤ c.transitions = e.most in
    let u : source c t < i + 1 = e.below t hi in
    let v : i ≤ source c t = (h.at i (omega arith)).from t lo (omega arith) in
    omega arith
