-- The transitions of a row stand one behind the other: the run from the first that is not of an earlier row.
use Rattle.std.specs.Prelude.{◌≡◌, Bool, true, false, ◌&&◌, cond, eqb, leb}
use Rattle.std.proofs.Math.Path.{refl, ap}
use Rattle.std.proofs.Common.{sym, subst, ◌∙◌, add-one}
use Rattle.std.proofs.Math.Bool.{not}
use mathlib.Core.List.{List, [], ◌∷◌, ◌++◌, map, append-nil}
use Prim.Native.Nat.{ℕ, zero, suc, ◌+◌, ◌-◌, ◌≤◌, ◌<◌}
use native.Mathlib.Omega.{arith}
use borrow.Author.Tests.{eqb-true, eqb-false, eq-eqb, ne_eqb, leb-true, leb-false}
use Rattle.definition.specs.Rows.{flat, from}
use Rattle.definition.specs.Chart.{kind}
use Rattle.definition.specs.Tables.{row_count, transition_count, transition_cell, source_at, chart_of}
use Rattle.definition.specs.Rules.{is_in_order, is_source_kind, has_use, condition_fits, spins, transition_fits, each, row_branches_fit, transition_branches_fit, rule5}
use Rattle.laws.specs.Bools.{and_left, and3, bool_case}
use Rattle.laws.specs.Loops.{each_below, from_split}
use Rattle.accepted.specs.Sound.{accepted_sound}
use Rattle.tables.specs.Ranges.{InTables, CellOfTransition}
use Rattle.reading.specs.Content.{Transition, of_source}
use Rattle.reading.specs.Layout.{content, transition_back}
use Rattle.reading.specs.Print.{transition_text}
use Rattle.spell.specs.Laid.{Laid, Left, left_begin, left_turn, left_end}
use Rattle.spell.specs.Ready.{Ready}
use Rattle.elements.specs.Transitions.{TransitionReady}

-- ---- the run of a row

pub record RunReady (numbers : List ℕ) (t : ℕ) : Type 0 where
  pub tables : InTables numbers
  pub inside : t ≤ transition_count numbers

-- from t to e all are of row i, and e is not
pub record Run (numbers : List ℕ) (i t e : ℕ) : Type 0 where
  pub above : t ≤ e
  pub inside : e ≤ transition_count numbers
  pub own : (k : ℕ) → t ≤ k → k < e → transition_cell numbers k 0 ≡ i
  pub other : e < transition_count numbers → transition_cell numbers e 0 ≡ i → ⊥

pub record Running (numbers : List ℕ) (i t n e : ℕ) : Type 0 where
  pub run : RunReady numbers t
  pub count : n ≡ transition_count numbers
  pub above : t ≤ e
  pub inside : e ≤ n
  pub own : (k : ℕ) → t ≤ k → k < e → transition_cell numbers k 0 ≡ i

module _ (numbers : List ℕ) (i t n : ℕ) where
  pub run_begin : RunReady numbers t → n ≡ transition_count numbers → Running numbers i t n t
  run_begin h c = let l = h.inside in record { run = h; count = c; above = omega arith; inside = omega arith; own = λ k a b. absurd (omega arith) }

  module _ (e : ℕ) (h : Running numbers i t n e) where
    pub run_cell : e < n → CellOfTransition numbers e 0
    run_cell l = let c = h.count in record { sized = h.run.tables.sized; transition = omega arith; width = omega arith }

    module _ (x : ℕ) (s : x ≡ transition_cell numbers e 0) where
      pub run_turn : e < n → x ≡ i → Running numbers i t n (e + 1)
      run_turn l z =
          let a = h.above in
          record { run = h.run; count = h.count; above = omega arith; inside = omega arith; own = λ k b c. by k b c }
        where
          by : (k : ℕ) → t ≤ k → k < e + 1 → transition_cell numbers k 0 ≡ i
          by k b c = bool_case (eqb k e) (λ f. ap (λ (j : ℕ). transition_cell numbers j 0) (eqb-true k e f) ∙ sym s ∙ z) (λ f. let d = eqb-false k e f in h.own k b (omega arith))

      pub run_leave : e < n → (x ≡ i → ⊥) → Run numbers i t e
      run_leave l d = let b = h.inside in let c = h.count in record { above = h.above; inside = omega arith; own = h.own; other = λ _ z. d (s ∙ z) }

    pub run_done : n ≤ e → Run numbers i t n
    run_done l =
        let b = h.inside in let c = h.count in let q : e ≡ n = omega arith in
        let so : Run numbers i t e = record { above = h.above; inside = omega arith; own = h.own; other = λ m _. absurd (omega arith) } in
        subst (Run numbers i t) q so

-- ---- in an accepted chart the runs follow each other

-- the transitions before t are of rows before i, the others are not
pub record Cursor (numbers : List ℕ) (i t : ℕ) : Type 0 where
  pub inside : t ≤ transition_count numbers
  pub before : (k : ℕ) → k < t → transition_cell numbers k 0 < i
  pub behind : (k : ℕ) → t ≤ k → k < transition_count numbers → i ≤ transition_cell numbers k 0

pub cursor_begin : (numbers : List ℕ) → Cursor numbers 0 0
cursor_begin numbers = record { inside = omega arith; before = λ k l. absurd (omega arith); behind = λ k a b. omega arith }

of_both : (xs ys : List Transition) (i : ℕ) → of_source (xs ++ ys) i ≡ of_source xs i ++ of_source ys i
unfolding of_source
of_both [] ys i = refl
of_both (x ∷ xs) ys i = by (eqb x.source i) (of_both xs ys i)
  where
    by : (z : Bool) → of_source (xs ++ ys) i ≡ of_source xs i ++ of_source ys i → cond z (x ∷ of_source (xs ++ ys) i) (of_source (xs ++ ys) i) ≡ cond z (x ∷ of_source xs i) (of_source xs i) ++ of_source ys i
    by true e = ap (λ (l : List Transition). x ∷ l) e
    by false e = e

map_both : (f : ℕ → Transition) (xs ys : List ℕ) → map f (xs ++ ys) ≡ map f xs ++ map f ys
map_both f [] ys = refl
map_both f (x ∷ xs) ys = ap (λ (l : List Transition). f x ∷ l) (map_both f xs ys)

module _ (numbers names : List ℕ) where
  abbrev back : ℕ → Transition
  back = transition_back numbers names

  source_is : (k : ℕ) → (back k).source ≡ transition_cell numbers k 0
  unfolding transition_back
  source_is k = refl

  none_of : (i n j : ℕ) → ((k : ℕ) → j ≤ k → k < j + n → transition_cell numbers k 0 ≡ i → ⊥) → of_source (map back (from n j)) i ≡ []
  unfolding from of_source
  none_of i zero j f = refl
  none_of i (suc n) j f = rw (ne_eqb (back j).source i (λ e. f j (omega arith) (omega arith) (sym (source_is j) ∙ e))) (none_of i n (suc j) (λ k a b. f k (omega arith) (omega arith)))

  all_of : (i n j : ℕ) → ((k : ℕ) → j ≤ k → k < j + n → transition_cell numbers k 0 ≡ i) → of_source (map back (from n j)) i ≡ map back (from n j)
  unfolding from of_source
  all_of i zero j f = refl
  all_of i (suc n) j f = rw (eq-eqb (back j).source i (source_is j ∙ f j (omega arith) (omega arith))) (ap (λ (l : List Transition). back j ∷ l) (all_of i n (suc j) (λ k a b. f k (omega arith) (omega arith))))

  module _ (h : Ready numbers names) where
    next : (t : ℕ) → suc t < transition_count numbers → transition_cell numbers t 0 ≤ transition_cell numbers (suc t) 0
    unfolding rule5 transition_fits is_in_order source_at
    next t l =
        let c = chart_of numbers in
        let r = and3 (each (transition_count numbers) (transition_fits c)) (each (row_count numbers) (row_branches_fit c)) (each (transition_count numbers) (transition_branches_fit c)) (accepted_sound numbers names h.accepted).transition_rule in
        let f = each_below (transition_fits c) (transition_count numbers) r.0 (suc t) l in
        let i = is_in_order c (suc t) in
        let s = is_source_kind (kind c (c.transition (suc t)).source) in
        let u = has_use (c.transition (suc t)) in
        let w = condition_fits c (c.transition (suc t)).condition in
        let z = not (spins (c.transition (suc t))) in
        leb-true (transition_cell numbers t 0) (transition_cell numbers (suc t) 0) (and_left i s (and_left (i && s) u (and_left (i && s && u) w (and_left (i && s && u && w) z f))))

    rising : (k d : ℕ) → k + d < transition_count numbers → transition_cell numbers k 0 ≤ transition_cell numbers (k + d) 0
    rising k zero l = let e : k + 0 ≡ k = omega arith in rw e (omega arith)
    rising k (suc d) l =
        let e : k + suc d ≡ suc (k + d) = omega arith in
        let a = rising k d (omega arith) in let b = next (k + d) (omega arith) in
        rw e (omega arith)

    module _ (i t e : ℕ) (c : Cursor numbers i t) (r : Run numbers i t e) where
      pub run_own : of_source (content numbers names).transitions i ≡ map back (from (e - t) t)
      unfolding content
      run_own =
          let a = r.above in let b = r.inside in
          let n : transition_count numbers ≡ t + (e - t + (transition_count numbers - e)) = omega arith in
          ap (λ (k : ℕ). of_source (map back (from k 0)) i) n ∙
          ap (λ (l : List ℕ). of_source (map back l) i) (from_split t (e - t + (transition_count numbers - e)) 0 ∙ ap (λ (k : ℕ). from t 0 ++ from (e - t + (transition_count numbers - e)) k) (zero_more t) ∙ ap (λ (l : List ℕ). from t 0 ++ l) (from_split (e - t) (transition_count numbers - e) t)) ∙
          ap (λ (l : List Transition). of_source l i) (map_both back (from t 0) _ ∙ ap (λ (l : List Transition). map back (from t 0) ++ l) (map_both back (from (e - t) t) _)) ∙
          of_both (map back (from t 0)) _ i ∙ ap (λ (l : List Transition). of_source (map back (from t 0)) i ++ l) (of_both (map back (from (e - t) t)) _ i) ∙
          rw (none_of i t 0 early, all_of i (e - t) t own, none_of i (transition_count numbers - e) (t + (e - t)) late, append-nil (map back (from (e - t) t)))
        where
          zero_more : (k : ℕ) → 0 + k ≡ k
          zero_more k = omega arith

          early : (k : ℕ) → 0 ≤ k → k < 0 + t → transition_cell numbers k 0 ≡ i → ⊥
          early k a b q = let z = c.before k (omega arith) in omega arith

          own : (k : ℕ) → t ≤ k → k < t + (e - t) → transition_cell numbers k 0 ≡ i
          own k a b = let u = r.above in r.own k a (omega arith)

          late : (k : ℕ) → t + (e - t) ≤ k → k < t + (e - t) + (transition_count numbers - e) → transition_cell numbers k 0 ≡ i → ⊥
          late k a b q =
              let u = r.above in let v = r.inside in
              let w : e + (k - e) ≡ k = omega arith in
              let x : transition_cell numbers e 0 ≤ transition_cell numbers k 0 = ap_le w (rising e (k - e) (omega arith)) in
              let y = c.behind e u (omega arith) in
              r.other (omega arith) (omega arith)
            where
              ap_le : e + (k - e) ≡ k → transition_cell numbers e 0 ≤ transition_cell numbers (e + (k - e)) 0 → transition_cell numbers e 0 ≤ transition_cell numbers k 0
              ap_le w x = rw w at x

      pub run_next : Cursor numbers (i + 1) e
      run_next =
          record {
            inside = r.inside;
            before = λ k l. before k l;
            behind = λ k a b. behind k a b;
          }
        where
          one_more : {x y : ℕ} → (x ≡ i → ⊥) → i ≤ x → x ≤ y → i + 1 ≤ y
          one_more f l m = omega arith

          before : (k : ℕ) → k < e → transition_cell numbers k 0 < i + 1
          before k l = bool_case (leb t k) (λ z. let w : t ≤ k = leb-true t k z in let q = r.own k w l in omega arith) (λ z. let w : k < t = leb-false t k z in let q = c.before k w in omega arith)

          behind : (k : ℕ) → e ≤ k → k < transition_count numbers → i + 1 ≤ transition_cell numbers k 0
          behind k a b =
              let u = r.above in
              let w : e + (k - e) ≡ k = omega arith in
              let x = rising e (k - e) (omega arith) in
              let y = c.behind e u (omega arith) in
              let z : transition_cell numbers e 0 ≡ i → ⊥ = r.other (omega arith) in
              let v : transition_cell numbers e 0 ≤ transition_cell numbers k 0 = rw w at x in
              one_more z y v

-- ---- the text of a run

pub record TransitionsReady (numbers names : List ℕ) (t end : ℕ) : Type 0 where
  pub ready : Ready numbers names
  pub above : t ≤ end
  pub inside : end ≤ transition_count numbers

module _ (numbers names : List ℕ) where
  abbrev pub run_text : ℕ → ℕ → List ℕ
  run_text t end = flat (transition_text (content numbers names).rows) (map (transition_back numbers names) (from (end - t) t))

  pub record Writing (t end : ℕ) (place : List ℕ) (start : ℕ) (out : List ℕ) (at k : ℕ) : Type 0 where
    pub run : TransitionsReady numbers names t end
    pub above : t ≤ k
    pub below : k ≤ end
    pub left : Left (run_text t end) place start (run_text k end) out at

  pub run_text_begin : (t end : ℕ) (place : List ℕ) (start : ℕ) → TransitionsReady numbers names t end → Writing t end place start place start t
  run_text_begin t end place start h = record { run = h; above = omega arith; below = h.above; left = left_begin }

  module _ (t end : ℕ) (place : List ℕ) (start : ℕ) (out : List ℕ) (at k : ℕ) (h : Writing t end place start out at k) where
    pub run_text_small : k < end → k < 65536
    run_text_small l = let i = h.run.inside in let c = h.run.ready.tables.sized.counts.transitions in omega arith

    pub run_text_in : k < end → TransitionReady numbers names k
    run_text_in l = let i = h.run.inside in record { ready = h.run.ready; below = omega arith }

    pub run_text_turn : k < end → {out' : List ℕ} {at' : ℕ} → Laid (transition_text (content numbers names).rows (transition_back numbers names k)) out at out' at' → Writing t end place start out' at' (k + 1)
    unfolding flat from
    run_text_turn l p =
        let a = h.above in
        let e : end - k ≡ suc (end - (k + 1)) = omega arith in
        record { run = h.run; above = omega arith; below = omega arith; left = left_turn h.left (ap (λ (n : ℕ). flat (transition_text (content numbers names).rows) (map (transition_back numbers names) (from n k))) e ∙ rw (add-one k)) p }

    pub run_text_end : end ≤ k → Laid (run_text t end) place start out at
    unfolding flat from
    run_text_end l = left_end h.left (let e : end - k ≡ 0 = omega arith in rw e)
