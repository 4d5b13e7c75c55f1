-- Transitions in order of their sources are those of each row, one row after the other; so the facts that a chart's tags say make the chart again.
use Rattle.std.specs.Prelude.{◌≡◌, List, [], ◌∷◌, ◌++◌, ℕ, zero, suc, ◌≤◌, ◌<◌, ◌+◌, eqb, length}
use Rattle.std.proofs.Math.Path.{refl}
use Rattle.std.proofs.Common.{sym, ap, ap₂, ◌∙◌, subst, arith, eqb-true, eq-eqb, ne_eqb}
use Rattle.std.proofs.lemmas.Bool.{eqb-false}
use Rattle.definition.specs.Rows.{flat, from}
use Rattle.reading.specs.Content.{Row, Transition, Content, Fact, transitions_from, content_from, of_source}
use Rattle.laws.specs.Bools.{bool_case}
use Rattle.written.specs.Sound.{AllOf, RowFits}
use Rattle.written.specs.RowSays.{rows_said}
use Rattle.written.specs.BackRows.{rows_again}
use Rattle.written.specs.BackTransitions.{rows_transitions}

-- no source is below the one before it, or below lo, or at hi
pub data Ordered (hi : ℕ) : ℕ → List Transition → Type 0 where
  none_left : {lo : ℕ} → Ordered hi lo []
  ordered : {lo : ℕ} {t : Transition} {ts : List Transition} → lo ≤ t.source → t.source < hi → Ordered hi t.source ts → Ordered hi lo (t ∷ ts)

raised : {hi lo : ℕ} (up : ℕ) {ts : List Transition} → lo ≤ up → Ordered hi up ts → Ordered hi lo ts
raised up h none_left = none_left
raised {lo = lo} up h (ordered {t = t} l b o) = let k : lo ≤ t.source = omega arith in ordered k b o

source_here : (t : Transition) (ts : List Transition) (i : ℕ) → t.source ≡ i → of_source (t ∷ ts) i ≡ t ∷ of_source ts i
unfolding of_source
source_here t ts i h = rw (eq-eqb t.source i h)

source_there : (t : Transition) (ts : List Transition) (i : ℕ) → (t.source ≡ i → ⊥) → of_source (t ∷ ts) i ≡ of_source ts i
unfolding of_source
source_there t ts i h = rw (ne_eqb t.source i h)

-- none of the rows from i on is the first one's source
past_first : (t : Transition) (ts : List Transition) (k i : ℕ) → t.source < i → flat (of_source (t ∷ ts)) (from k i) ≡ flat (of_source ts) (from k i)
unfolding flat from
past_first t ts zero i h = refl
past_first t ts (suc k) i h = ap₂ (λ (x y : List Transition). x ++ y) (source_there t ts i (λ e. omega arith)) (past_first t ts k (suc i) (omega arith))

none_of : {hi : ℕ} (i : ℕ) (ts : List Transition) → Ordered hi (suc i) ts → of_source ts i ≡ []
none_of i [] none_left = unfold of_source in refl
none_of i (t ∷ ts) (ordered l b o) = source_there t ts i (λ e. omega arith) ∙ none_of i ts (raised t.source l o)

next_row : (ts : List Transition) (k i : ℕ) → flat (of_source ts) (from (suc k) i) ≡ of_source ts i ++ flat (of_source ts) (from k (suc i))
unfolding flat from
next_row ts k i = refl

none_at : (i : ℕ) → of_source [] i ≡ []
unfolding of_source
none_at i = refl

-- those of row i, then those behind it
first_row : (k i : ℕ) → ((xs : List Transition) → Ordered (i + suc k) (suc i) xs → flat (of_source xs) (from k (suc i)) ≡ xs) → (ts : List Transition) → Ordered (i + suc k) i ts → flat (of_source ts) (from (suc k) i) ≡ ts
first_row k i rest [] none_left = next_row [] k i ∙ ap₂ (λ (x y : List Transition). x ++ y) (none_at i) (rest [] none_left)
first_row k i rest (t ∷ ts) (ordered l b o) = bool_case (eqb t.source i) (λ e. here (eqb-true t.source i e) (first_row k i rest ts (raised t.source l o))) (λ e. there (eqb-false t.source i e))
  where
    here : t.source ≡ i → flat (of_source ts) (from (suc k) i) ≡ ts → flat (of_source (t ∷ ts)) (from (suc k) i) ≡ t ∷ ts
    here e h =
        next_row (t ∷ ts) k i ∙ ap₂ (λ (x y : List Transition). x ++ y) (source_here t ts i e) (past_first t ts k (suc i) (omega arith)) ∙
        ap (λ (x : List Transition). t ∷ x) (sym (next_row ts k i) ∙ h)

    there : (t.source ≡ i → ⊥) → flat (of_source (t ∷ ts)) (from (suc k) i) ≡ t ∷ ts
    there e =
        let above : suc i ≤ t.source = omega arith in
        let later : Ordered (i + suc k) (suc i) (t ∷ ts) = ordered above b o in
        next_row (t ∷ ts) k i ∙ ap₂ (λ (x y : List Transition). x ++ y) (none_of i (t ∷ ts) later) (rest (t ∷ ts) later)

pub in_order : (k i hi : ℕ) → hi ≡ i + k → (ts : List Transition) → Ordered hi i ts → flat (of_source ts) (from k i) ≡ ts
in_order zero i hi e [] none_left = unfold flat from in refl
in_order zero i hi e (t ∷ ts) (ordered l b o) = absurd (omega arith)
in_order (suc k) i hi e ts o =
    first_row k i (λ (xs : List Transition) (p : Ordered (i + suc k) (suc i) xs). in_order k (suc i) (i + suc k) (omega arith) xs p) ts (subst (λ (h : ℕ). Ordered h i ts) e o)

-- the facts that a chart's tags say make the chart again
pub content_again : (c : Content) (n : ℕ) → AllOf (RowFits n) c.rows → Ordered (length c.rows) 0 c.transitions → content_from (rows_said c 0 0 c.rows) ≡ c
unfolding content_from
content_again c n f o =
    ap₂ (λ (rs : List Row) (ts : List Transition). record { rows = rs; transitions = flat (of_source ts) (from (length rs) 0) }) (rows_again c n c.rows f) all_transitions ∙
    ap (λ (ts : List Transition). record { rows = c.rows; transitions = ts }) kept
  where
    kept : flat (of_source c.transitions) (from (length c.rows) 0) ≡ c.transitions
    kept = in_order (length c.rows) 0 (length c.rows) (omega arith) c.transitions o

    whole : List Fact
    whole = rows_said c 0 0 c.rows

    all_transitions : transitions_from whole 0 whole ≡ c.transitions
    all_transitions = rows_transitions whole c c.rows 0 0 (record { blocks = λ (q : ℕ) (h : 0 ≤ q). refl }) ∙ kept
