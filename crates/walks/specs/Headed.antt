-- Where the first cells of rows and transitions stand after all facts.
use Rattle.std.proofs.Math.Path.{◌≡◌, refl, ap, subst}
use Rattle.std.proofs.Common.{sym, ◌∙◌, length-set, get_or-set_same, get_or-set_other, drop-set-lt, lt-ltb, ltb-true}
use Rattle.std.specs.Prelude.{Bool, true, false, ltb, length, drop, set}
use Rattle.std.proofs.Math.Bool.{cond}
use mathlib.Core.List.{List, [], ◌∷◌}
use Rattle.std.proofs.Math.Option.{Option}
use Prim.Native.Nat.{ℕ, zero, suc, ◌+◌, ◌*◌, ◌≤◌, ◌<◌}
use native.Mathlib.Omega.{arith}
use Rattle.std.proofs.Math.ListN.{get_or}
use Rattle.reading.specs.Content.{Fact, row_fact, list_fact, transition_fact, action_fact, Row, Transition, rows_from, transitions_from}
use Rattle.reading.specs.Layout.{or_none, id_cell}
use Rattle.facts.specs.Appended.{row_facts, transition_facts}
use Rattle.items.specs.Items.{Ranked}
use Rattle.items.specs.Order.{no_transition}
use Rattle.items.specs.Picked.{no_row}
use Rattle.items.specs.Ranks.{rank_only}
use Rattle.walks.specs.Heads.{row_set, transition_set, fact_head, heads_from}

module _ (slots : List (List ℕ)) (n t : ℕ) (ranks : List ℕ) where
  abbrev heads : ℕ → ℕ → List ℕ → List Fact → List ℕ
  heads i m out fs = heads_from slots n t ranks i m out fs

  set_size : (out : List ℕ) (a b c x y z : ℕ) → length (set (set (set out a x) b y) c z) ≡ length out
  set_size out a b c x y z = length-set (set (set out a x) b y) c z ∙ length-set (set out a x) b y ∙ length-set out a x

  head_size : (i m : ℕ) (out : List ℕ) (f : Fact) → length (fact_head slots n t ranks i m out f) ≡ length out
  head_size i m out (row_fact k q d l) = by (ltb i n)
    where
      by : (z : Bool) → length (cond z (row_set out i k q (id_cell slots d)) out) ≡ length out
      by true = set_size out (6 + i * 11) (6 + i * 11 + 1) (6 + i * 11 + 2) k q (id_cell slots d)
      by false = refl
  head_size i m out (list_fact j l) = refl
  head_size i m out (transition_fact s d c y g) = by (ltb (get_or ranks m 0) t) (get_or ranks m 0)
    where
      by : (z : Bool) (r : ℕ) → length (cond z (transition_set out n r s (or_none c) (cond y 1 0)) out) ≡ length out
      by true r = set_size out (6 + n * 11 + r * 9) (6 + n * 11 + r * 9 + 3) (6 + n * 11 + r * 9 + 4) s (or_none c) (cond y 1 0)
      by false r = refl
  head_size i m out (action_fact b a) = refl

  -- ---- behind the rows and transitions nothing is set

  behind_three : (out : List ℕ) (b a c d x y z : ℕ) → a < b → c < b → d < b → drop b (set (set (set out a x) c y) d z) ≡ drop b out
  behind_three out b a c d x y z ha hc hd = drop-set-lt b (set (set out a x) c y) d z hd ∙ drop-set-lt b (set out a x) c y hc ∙ drop-set-lt b out a x ha

  behind_one : (i m : ℕ) (out : List ℕ) (f : Fact) → drop (6 + n * 11 + t * 9) (fact_head slots n t ranks i m out f) ≡ drop (6 + n * 11 + t * 9) out
  behind_one i m out (row_fact k q d l) = by (ltb i n) refl
    where
      by : (z : Bool) → ltb i n ≡ z → drop (6 + n * 11 + t * 9) (cond z (row_set out i k q (id_cell slots d)) out) ≡ drop (6 + n * 11 + t * 9) out
      by true e =
          let h = ltb-true i n e in
          behind_three out (6 + n * 11 + t * 9) (6 + i * 11) (6 + i * 11 + 1) (6 + i * 11 + 2) k q (id_cell slots d) (omega arith) (omega arith) (omega arith)
      by false e = refl
  behind_one i m out (list_fact j l) = refl
  behind_one i m out (transition_fact s d c y g) = by (ltb (get_or ranks m 0) t) refl
    where
      by : (z : Bool) → ltb (get_or ranks m 0) t ≡ z →
          drop (6 + n * 11 + t * 9) (cond z (transition_set out n (get_or ranks m 0) s (or_none c) (cond y 1 0)) out) ≡ drop (6 + n * 11 + t * 9) out
      by true e =
          let h = ltb-true (get_or ranks m 0) t e in let r = get_or ranks m 0 in
          behind_three out (6 + n * 11 + t * 9) (6 + n * 11 + r * 9) (6 + n * 11 + r * 9 + 3) (6 + n * 11 + r * 9 + 4) s (or_none c) (cond y 1 0) (omega arith) (omega arith) (omega arith)
      by false e = refl
  behind_one i m out (action_fact b a) = refl

  pub heads_behind : (i m : ℕ) (out : List ℕ) (fs : List Fact) → drop (6 + n * 11 + t * 9) (heads i m out fs) ≡ drop (6 + n * 11 + t * 9) out
  unfolding heads_from
  heads_behind i m out [] = refl
  heads_behind i m out (row_fact k q d l ∷ fs) = heads_behind (suc i) m (fact_head slots n t ranks i m out (row_fact k q d l)) fs ∙ behind_one i m out (row_fact k q d l)
  heads_behind i m out (list_fact j l ∷ fs) = heads_behind i m out fs
  heads_behind i m out (transition_fact s d c y g ∷ fs) =
      heads_behind i (suc m) (fact_head slots n t ranks i m out (transition_fact s d c y g)) fs ∙ behind_one i m out (transition_fact s d c y g)
  heads_behind i m out (action_fact b a ∷ fs) = heads_behind i m out fs

  -- ---- three cells

  other_three : (out : List ℕ) (p a b c x y z : ℕ) → (p ≡ a → ⊥) → (p ≡ b → ⊥) → (p ≡ c → ⊥) → get_or (set (set (set out a x) b y) c z) p 0 ≡ get_or out p 0
  other_three out p a b c x y z f g h =
      get_or-set_other (set (set out a x) b y) c p z 0 h ∙ get_or-set_other (set out a x) b p y 0 g ∙ get_or-set_other out a p x 0 f

  first_of_lem : (out : List ℕ) (a b c x y z : ℕ) → a < length out → (a ≡ b → ⊥) → (a ≡ c → ⊥) → get_or (set (set (set out a x) b y) c z) a 0 ≡ x
  first_of_lem out a b c x y z l f g = get_or-set_other (set (set out a x) b y) c a z 0 g ∙ get_or-set_other (set out a x) b a y 0 f ∙ get_or-set_same out a x 0 l

  second_of_lem : (out : List ℕ) (a b c x y z : ℕ) → b < length out → (b ≡ c → ⊥) → get_or (set (set (set out a x) b y) c z) b 0 ≡ y
  second_of_lem out a b c x y z l f =
      get_or-set_other (set (set out a x) b y) c b z 0 f ∙ get_or-set_same (set out a x) b y 0 (let s = length-set out a x in omega arith)

  third_of : (out : List ℕ) (a b c x y z : ℕ) → c < length out → get_or (set (set (set out a x) b y) c z) c 0 ≡ z
  third_of out a b c x y z l =
      get_or-set_same (set (set out a x) b y) c z 0 (let s = length-set out a x in let u = length-set (set out a x) b y in omega arith)

  -- ---- rows: those before stand as they stood

  row_kept_one : (i m : ℕ) (out : List ℕ) (f : Fact) (c : ℕ) → c < 6 + i * 11 → c < 6 + n * 11 → get_or (fact_head slots n t ranks i m out f) c 0 ≡ get_or out c 0
  row_kept_one i m out (row_fact k q d l) c h u = by (ltb i n)
    where
      by : (z : Bool) → get_or (cond z (row_set out i k q (id_cell slots d)) out) c 0 ≡ get_or out c 0
      by true = other_three out c (6 + i * 11) (6 + i * 11 + 1) (6 + i * 11 + 2) k q (id_cell slots d) (λ e. omega arith) (λ e. omega arith) (λ e. omega arith)
      by false = refl
  row_kept_one i m out (list_fact j l) c h u = refl
  row_kept_one i m out (transition_fact s d o y g) c h u = by (ltb (get_or ranks m 0) t) (get_or ranks m 0)
    where
      by : (z : Bool) (r : ℕ) → get_or (cond z (transition_set out n r s (or_none o) (cond y 1 0)) out) c 0 ≡ get_or out c 0
      by true r =
          other_three out c (6 + n * 11 + r * 9) (6 + n * 11 + r * 9 + 3) (6 + n * 11 + r * 9 + 4) s (or_none o) (cond y 1 0) (λ e. omega arith) (λ e. omega arith) (λ e. omega arith)
      by false r = refl
  row_kept_one i m out (action_fact b a) c h u = refl

  row_kept : (i m : ℕ) (out : List ℕ) (fs : List Fact) (c : ℕ) → c < 6 + i * 11 → c < 6 + n * 11 → get_or (heads i m out fs) c 0 ≡ get_or out c 0
  unfolding heads_from
  row_kept i m out [] c h u = refl
  row_kept i m out (row_fact k q d l ∷ fs) c h u = row_kept (suc i) m (fact_head slots n t ranks i m out (row_fact k q d l)) fs c (omega arith) u ∙ row_kept_one i m out (row_fact k q d l) c h u
  row_kept i m out (list_fact j l ∷ fs) c h u = row_kept i m out fs c h u
  row_kept i m out (transition_fact s d o y g ∷ fs) c h u =
      row_kept i (suc m) (fact_head slots n t ranks i m out (transition_fact s d o y g)) fs c h u ∙ row_kept_one i m out (transition_fact s d o y g) c h u
  row_kept i m out (action_fact b a ∷ fs) c h u = row_kept i m out fs c h u

  pub record RowCells (out : List ℕ) (i : ℕ) (r : Row) : Type 0 where
    pub kind_is : get_or out (6 + i * 11) 0 ≡ r.kind
    pub parent_is : get_or out (6 + i * 11 + 1) 0 ≡ r.parent
    pub id_is : get_or out (6 + i * 11 + 2) 0 ≡ id_cell slots r.id

  add-zero : (k : ℕ) → k ≡ k + 0
  add-zero k = omega arith

  shift : (a b : ℕ) → suc a + b ≡ a + suc b
  shift a b = omega arith

  pub rows_at : (whole : List Fact) (i m : ℕ) (out : List ℕ) (fs : List Fact) → 6 + n * 11 ≤ length out → (k : ℕ) → k < row_facts fs → i + k < n →
      RowCells (heads i m out fs) (i + k) (get_or (rows_from whole i fs) k no_row)
  unfolding heads_from rows_from row_facts
  rows_at whole i m out [] w k h u = absurd (omega arith)
  rows_at whole i m out (row_fact e q d l ∷ fs) w zero h u =
      let in-n : i < n = omega arith in
      let now : fact_head slots n t ranks i m out (row_fact e q d l) ≡ row_set out i e q (id_cell slots d) = ap (λ (z : Bool). cond z (row_set out i e q (id_cell slots d)) out) (lt-ltb i n in-n) in
      let at : (c : ℕ) → c < 6 + suc i * 11 → c < 6 + n * 11 → get_or (heads (suc i) m (fact_head slots n t ranks i m out (row_fact e q d l)) fs) c 0 ≡ get_or (row_set out i e q (id_cell slots d)) c 0 =
      λ c a b. row_kept (suc i) m (fact_head slots n t ranks i m out (row_fact e q d l)) fs c a b ∙ ap (λ (o : List ℕ). get_or o c 0) now in
      subst (λ (x : ℕ). RowCells (heads (suc i) m (fact_head slots n t ranks i m out (row_fact e q d l)) fs) x (get_or (rows_from whole i (row_fact e q d l ∷ fs)) 0 no_row)) (add-zero i)
      (record {
        kind_is = at (6 + i * 11) (omega arith) (omega arith) ∙ first_of_lem out (6 + i * 11) (6 + i * 11 + 1) (6 + i * 11 + 2) e q (id_cell slots d) (omega arith) (λ x. omega arith) (λ x. omega arith);
        parent_is = at (6 + i * 11 + 1) (omega arith) (omega arith) ∙ second_of_lem out (6 + i * 11) (6 + i * 11 + 1) (6 + i * 11 + 2) e q (id_cell slots d) (omega arith) (λ x. omega arith);
        id_is = at (6 + i * 11 + 2) (omega arith) (omega arith) ∙ third_of out (6 + i * 11) (6 + i * 11 + 1) (6 + i * 11 + 2) e q (id_cell slots d) (omega arith);
      })
  rows_at whole i m out (row_fact e q d l ∷ fs) w (suc k) h u =
      let o = fact_head slots n t ranks i m out (row_fact e q d l) in
      let s = head_size i m out (row_fact e q d l) in
      subst (λ (x : ℕ). RowCells (heads (suc i) m o fs) x (get_or (rows_from whole (suc i) fs) k no_row)) (shift i k) (rows_at whole (suc i) m o fs (omega arith) k (omega arith) (omega arith))
  rows_at whole i m out (list_fact j l ∷ fs) w k h u = rows_at whole i m out fs w k h u
  rows_at whole i m out (transition_fact s d c y g ∷ fs) w k h u =
      let z = head_size i m out (transition_fact s d c y g) in
      rows_at whole i (suc m) (fact_head slots n t ranks i m out (transition_fact s d c y g)) fs (omega arith) k h u
  rows_at whole i m out (action_fact b a ∷ fs) w k h u = rows_at whole i m out fs w k h u

  -- ---- transitions: the cells of a rank stand as they stood where no other transition has it

  rank_kept_one : (i m : ℕ) (out : List ℕ) (f : Fact) (r p : ℕ) → ((s : ℕ) (d : List (List ℕ)) (o : Option ℕ) (y : Bool) (g : List ℕ) → f ≡ transition_fact s d o y g → get_or ranks m 0 ≡ r → ⊥) →
      6 + n * 11 + r * 9 ≤ p → p < 6 + n * 11 + r * 9 + 9 → get_or (fact_head slots n t ranks i m out f) p 0 ≡ get_or out p 0
  rank_kept_one i m out (row_fact k q d l) r p apart a b = by (ltb i n) refl
    where
      by : (z : Bool) → ltb i n ≡ z → get_or (cond z (row_set out i k q (id_cell slots d)) out) p 0 ≡ get_or out p 0
      by true e =
          let h = ltb-true i n e in
          other_three out p (6 + i * 11) (6 + i * 11 + 1) (6 + i * 11 + 2) k q (id_cell slots d) (λ x. omega arith) (λ x. omega arith) (λ x. omega arith)
      by false e = refl
  rank_kept_one i m out (list_fact j l) r p apart a b = refl
  rank_kept_one i m out (transition_fact s d o y g) r p apart a b = by (ltb (get_or ranks m 0) t) (get_or ranks m 0) (apart s d o y g refl)
    where
      by : (z : Bool) (v : ℕ) → (v ≡ r → ⊥) → get_or (cond z (transition_set out n v s (or_none o) (cond y 1 0)) out) p 0 ≡ get_or out p 0
      by true v ne =
          other_three out p (6 + n * 11 + v * 9) (6 + n * 11 + v * 9 + 3) (6 + n * 11 + v * 9 + 4) s (or_none o) (cond y 1 0) (λ x. omega arith) (λ x. omega arith) (λ x. omega arith)
      by false v ne = refl
  rank_kept_one i m out (action_fact k x) r p apart a b = refl

  rank_kept : (i m : ℕ) (out : List ℕ) (fs : List Fact) (r p : ℕ) → ((a : ℕ) → m ≤ a → a < m + transition_facts fs → get_or ranks a 0 ≡ r → ⊥) → 6 + n * 11 + r * 9 ≤ p →
      p < 6 + n * 11 + r * 9 + 9 → get_or (heads i m out fs) p 0 ≡ get_or out p 0
  unfolding heads_from transition_facts
  rank_kept i m out [] r p apart a b = refl
  rank_kept i m out (row_fact k q d l ∷ fs) r p apart a b =
      rank_kept (suc i) m (fact_head slots n t ranks i m out (row_fact k q d l)) fs r p apart a b ∙
      rank_kept_one i m out (row_fact k q d l) r p (λ s d' o y g e. absurd (let z : ◌≡◌ {A = ℕ} 0 1 = cc in omega arith)) a b
  rank_kept i m out (list_fact j l ∷ fs) r p apart a b = rank_kept i m out fs r p apart a b
  rank_kept i m out (transition_fact s d o y g ∷ fs) r p apart a b =
      rank_kept i (suc m) (fact_head slots n t ranks i m out (transition_fact s d o y g)) fs r p (λ x u v. apart x (omega arith) (omega arith)) a b ∙
      rank_kept_one i m out (transition_fact s d o y g) r p (λ s' d' o' y' g' e. apart m (omega arith) (omega arith)) a b
  rank_kept i m out (action_fact k x ∷ fs) r p apart a b = rank_kept i m out fs r p apart a b

  pub record TransitionCells (out : List ℕ) (r : ℕ) (x : Transition) : Type 0 where
    pub source_is : get_or out (6 + n * 11 + r * 9) 0 ≡ x.source
    pub condition_is : get_or out (6 + n * 11 + r * 9 + 3) 0 ≡ or_none x.condition
    pub internal_is_lem : get_or out (6 + n * 11 + r * 9 + 4) 0 ≡ cond x.internal 1 0

  module _ (many : ℕ) (distinct : (a b : ℕ) → a < many → b < many → get_or ranks a 0 < t → get_or ranks b 0 ≡ get_or ranks a 0 → b ≡ a) where
    pub transitions_at : (whole : List Fact) (i m : ℕ) (out : List ℕ) (fs : List Fact) → 6 + n * 11 + t * 9 ≤ length out → m + transition_facts fs ≤ many → (k : ℕ) → k < transition_facts fs →
        get_or ranks (m + k) 0 < t → TransitionCells (heads i m out fs) (get_or ranks (m + k) 0) (get_or (transitions_from whole m fs) k no_transition)
    unfolding heads_from transitions_from transition_facts
    transitions_at whole i m out [] w u k h l = absurd (omega arith)
    transitions_at whole i m out (row_fact e q d x ∷ fs) w u k h l =
        let z = head_size i m out (row_fact e q d x) in
        transitions_at whole (suc i) m (fact_head slots n t ranks i m out (row_fact e q d x)) fs (omega arith) u k h l
    transitions_at whole i m out (list_fact j x ∷ fs) w u k h l = transitions_at whole i m out fs w u k h l
    transitions_at whole i m out (transition_fact s d c y g ∷ fs) w u zero h l =
        let r = get_or ranks (m + 0) 0 in
        let same_rank : get_or ranks m 0 ≡ r = ap (λ (x : ℕ). get_or ranks x 0) (add-zero m) in
        let o = fact_head slots n t ranks i m out (transition_fact s d c y g) in
        let now : o ≡ transition_set out n r s (or_none c) (cond y 1 0) =
        ap (λ (x : ℕ). cond (ltb x t) (transition_set out n x s (or_none c) (cond y 1 0)) out) same_rank ∙ ap (λ (z : Bool). cond z (transition_set out n r s (or_none c) (cond y 1 0)) out) (lt-ltb r t l) in
        let apart : (a : ℕ) → suc m ≤ a → a < suc m + transition_facts fs → get_or ranks a 0 ≡ r → ⊥ =
        λ a x z e. let same = distinct (m + 0) a (omega arith) (omega arith) l e in omega arith in
        let at : (p : ℕ) → 6 + n * 11 + r * 9 ≤ p → p < 6 + n * 11 + r * 9 + 9 → get_or (heads i (suc m) o fs) p 0 ≡ get_or (transition_set out n r s (or_none c) (cond y 1 0)) p 0 =
        λ p a b. rank_kept i (suc m) o fs r p apart a b ∙ ap (λ (x : List ℕ). get_or x p 0) now in
        record {
          source_is =
              at (6 + n * 11 + r * 9) (omega arith) (omega arith) ∙
              first_of_lem out (6 + n * 11 + r * 9) (6 + n * 11 + r * 9 + 3) (6 + n * 11 + r * 9 + 4) s (or_none c) (cond y 1 0) (omega arith) (λ x. omega arith) (λ x. omega arith);
          condition_is =
              at (6 + n * 11 + r * 9 + 3) (omega arith) (omega arith) ∙
              second_of_lem out (6 + n * 11 + r * 9) (6 + n * 11 + r * 9 + 3) (6 + n * 11 + r * 9 + 4) s (or_none c) (cond y 1 0) (omega arith) (λ x. omega arith);
          internal_is_lem =
              at (6 + n * 11 + r * 9 + 4) (omega arith) (omega arith) ∙ third_of out (6 + n * 11 + r * 9) (6 + n * 11 + r * 9 + 3) (6 + n * 11 + r * 9 + 4) s (or_none c) (cond y 1 0) (omega arith);
        }
    transitions_at whole i m out (transition_fact s d c y g ∷ fs) w u (suc k) h l =
        let o = fact_head slots n t ranks i m out (transition_fact s d c y g) in
        let z = head_size i m out (transition_fact s d c y g) in
        let e = shift m k in
        subst (λ (x : ℕ). TransitionCells (heads i (suc m) o fs) (get_or ranks x 0) (get_or (transitions_from whole (suc m) fs) k no_transition)) e
        (transitions_at whole i (suc m) o fs (omega arith) (omega arith) k (omega arith) (subst (λ (x : ℕ). get_or ranks x 0 < t) (sym e) l))
    transitions_at whole i m out (action_fact b a ∷ fs) w u k h l = transitions_at whole i m out fs w u k h l

-- no two transitions of the tables have one rank
pub ranks_distinct : (n t : ℕ) (sources ranks : List ℕ) → Ranked n t sources ranks → (a b : ℕ) → a < length sources → b < length sources → get_or ranks a 0 < t → get_or ranks b 0 ≡ get_or ranks a 0 → b ≡ a
ranks_distinct n t sources ranks k a b ha hb l e = rank_only n t sources ranks k (get_or ranks a 0) b l hb e ∙ sym (rank_only n t sources ranks k (get_or ranks a 0) a l ha refl)
