-- The rows of a chart as written say themselves, each with its parent, and what stands in it.
use Rattle.std.specs.Prelude.{◌≡◌, Bool, not, cond, ℕ, zero, suc, eqb}
use Rattle.std.proofs.Math.Path.{refl, ap}
use Rattle.std.proofs.Common.{sym, ap₂, ◌∙◌}
use Rattle.std.proofs.Math.Bool.{true, false}
use mathlib.Core.List.{List, [], ◌∷◌, ◌++◌}
use Rattle.definition.specs.Rows.{is_empty, flat}
use Rattle.definition.specs.Tables.{no_number}
use Rattle.reading.specs.Content.{Row, Transition, Content, Spot, in_row, Fact, row_fact, turn, facts_from, of_source}
use Rattle.reading.specs.Print.{is_history_kind, has_child}
use Rattle.laws.specs.Bools.{no, and_left, and_right}
use Rattle.laws.specs.Lists.{empty_list}
use Rattle.written.specs.Pieces.{Piece, parts_at, tags_at}
use Rattle.written.specs.Written.{block_element, list_pieces, start_tag, empty_tag, end_tag, block_pieces, transition_attrs, transition_pieces, inner_pieces, row_element, row_attrs, Open, close_pieces, closed_to, is_bare, rows_pieces, pieces}
use Rattle.written.specs.Sound.{AllOf, no_more, more, RowFits, TransitionFits}
use Rattle.written.specs.Walks.{not-false}
use Rattle.written.specs.Says.{says_both, starts_says, stands_says}
use Rattle.written.specs.BlockSays.{Known}
use Rattle.written.specs.InnerSays.{further}
use Rattle.written.specs.RowSays.{attr_list, inner_said, rows_said, row_turn, row_turn_lem, inner_says, spots, Ends, close_says, says_then, says_last}
use Rattle.written.specs.Laid.{Laid, laid_out, lays, rows_of, Joined, level, beside, parent_open, all_closed}

-- no row's tag is an if
row_no_if : (k : ℕ) → eqb (row_element k) 12 ≡ false
row_no_if zero = refl
row_no_if (suc zero) = refl
row_no_if (suc (suc zero)) = refl
row_no_if (suc (suc (suc zero))) = refl
row_no_if (suc (suc (suc (suc k)))) = refl

-- ---- a row written as one tag

last_empty : (xs ys : List Piece) → is_empty (xs ++ ys) ≡ true → is_empty ys ≡ true
unfolding is_empty
last_empty [] ys h = h
last_empty (x ∷ xs) ys h = cc

transition_some : (rs : List Row) (t : Transition) (qs : List Piece) → is_empty (transition_pieces rs t ++ qs) ≡ false
unfolding transition_pieces
transition_some rs t qs = by (is_empty (block_pieces rs false t.block))
  where
    by : (z : Bool) → is_empty (cond z (empty_tag 6 (transition_attrs rs t) ∷ []) (start_tag 6 (transition_attrs rs t) ∷ (block_pieces rs false t.block ++ end_tag 6 ∷ [])) ++ qs) ≡ false
    by true = unfold is_empty in refl
    by false = unfold is_empty in refl

no_transitions : (rs : List Row) (ts : List Transition) → is_empty (flat (transition_pieces rs) ts) ≡ true → ts ≡ []
unfolding flat
no_transitions rs [] h = refl
no_transitions rs (t ∷ ts) h = absurd (no (sym (transition_some rs t (flat (transition_pieces rs) ts)) ∙ h))

module _ (c : Content) (ids : List (List ℕ)) (n : ℕ) (known : Known c.rows ids n) (all : AllOf (TransitionFits n) c.transitions) where
  abbrev open_spots : List Open → List Spot
  open_spots around = spots c ids n known all around

  -- the innermost open row
  record Innermost (around : List Open) (p : ℕ) : Type 0 where
    pub outer : List Spot
    pub spots_are : open_spots around ≡ in_row p false ∷ outer

  innermost : (around : List Open) (p : ℕ) (up : List ℕ) → rows_of around ≡ p ∷ up → Innermost around p
  innermost [] p up e = absurd (none e)
    where
      is_none : List ℕ → Bool
      is_none [] = true
      is_none (x ∷ xs) = false

      none : [] ≡ p ∷ up → ⊥
      none e = no (sym (ap is_none e))
  innermost (a ∷ around) p up e = record { outer = open_spots around; spots_are = ap (λ (x : ℕ). in_row x false ∷ open_spots around) (ap head_of e) }
    where
      head_of : List ℕ → ℕ
      head_of [] = 0
      head_of (x ∷ xs) = x

  -- a row written as one tag has nothing inside to say
  bare_said : (i k m : ℕ) (st : List Spot) (r : Row) → RowFits n r → is_empty (inner_pieces c i r) ≡ true → inner_said i m r (of_source c.transitions i) ≡ []
  bare_said i k m st r f e =
      sym (says_last c ids n known all (inner_says c ids n known all i k m st r f) 0) ∙
      ap (λ (l : List Piece). facts_from ids (in_row i (is_history_kind r.kind) ∷ st) k m (tags_at 0 l)) (empty_list (inner_pieces c i r) e) ∙ none
    where
      none : facts_from ids (in_row i (is_history_kind r.kind) ∷ st) k m (tags_at 0 []) ≡ []
      none = unfold tags_at facts_from in refl

  -- and no transitions
  bare_none : (i : ℕ) (r : Row) → is_empty (inner_pieces c i r) ≡ true → of_source c.transitions i ≡ []
  unfolding inner_pieces
  bare_none i r e = no_transitions c.rows (of_source c.transitions i)
      (last_empty (list_pieces c.rows r) ts
      (last_empty (block_element c.rows 8 r.exit) (list_pieces c.rows r ++ ts) (last_empty (block_element c.rows 7 r.entry) (block_element c.rows 8 r.exit ++ (list_pieces c.rows r ++ ts)) e)))
    where
      ts : List Piece
      ts = flat (transition_pieces c.rows) (of_source c.transitions i)

  abbrev opened : ℕ → Row → Open
  opened i r = record { row = i; element = row_element r.kind }

  -- one row in the row p, and those behind it
  module _ (i m p : ℕ) (r : Row) (rs : List Row) (f : RowFits n r) (st : List Spot) (around : List Open) where
    abbrev onward : ℕ
    onward = further m (of_source c.transitions i)

    abbrev fact : Fact
    fact = row_fact r.kind p r.id (attr_list r r.kind)

    abbrev goal : List Fact
    goal = fact ∷ (inner_said i m r (of_source c.transitions i) ++ rows_said c (suc i) onward rs)

    abbrev turns : (j : ℕ) → turn ids (in_row p false) i m (row_element r.kind) (parts_at j (row_element r.kind) (row_attrs c.rows r)) ≡ row_turn (in_row p false) i m r r.kind
    turns j = row_turn_lem c.rows ids n known r.kind r f.shaped f.list (in_row p false) i m j

    bare_row : is_empty (inner_pieces c i r) ≡ true → ((j : ℕ) → facts_from ids (in_row p false ∷ st) (suc i) m (tags_at j (rows_pieces c (suc i) around rs)) ≡ rows_said c (suc i) m rs) → (j : ℕ) →
        facts_from ids (in_row p false ∷ st) i m (tags_at j (empty_tag (row_element r.kind) (row_attrs c.rows r) ∷ rows_pieces c (suc i) around rs)) ≡ goal
    bare_row e h j =
        says_then c ids n known all (rows_pieces c (suc i) around rs) (rows_said c (suc i) m rs)
        (stands_says (in_row p false) st i m (row_element r.kind) (row_attrs c.rows r) (row_turn (in_row p false) i m r r.kind) turns (row_no_if r.kind)) h j ∙
        ap₂ (λ (g : List Fact) (ts : List Transition). fact ∷ (g ++ rows_said c (suc i) (further m ts) rs)) (sym (bare_said i (suc i) m st r f e)) (sym (bare_none i r e))

    open_row : ((j : ℕ) → facts_from ids (in_row i false ∷ in_row p false ∷ st) (suc i) onward (tags_at j (rows_pieces c (suc i) (opened i r ∷ around) rs)) ≡ rows_said c (suc i) onward rs) → (j : ℕ) →
        facts_from ids (in_row p false ∷ st) i m (tags_at j (start_tag (row_element r.kind) (row_attrs c.rows r) ∷ (inner_pieces c i r ++ rows_pieces c (suc i) (opened i r ∷ around) rs))) ≡ goal
    open_row h j =
        says_then c ids n known all (rows_pieces c (suc i) (opened i r ∷ around) rs) (rows_said c (suc i) onward rs)
        (says_both (starts_says (in_row p false) st i m (row_element r.kind) (row_attrs c.rows r) (row_turn (in_row p false) i m r r.kind) turns)
        (inner_says c ids n known all i (suc i) m (in_row p false ∷ st) r f)) h j

    row_said : ((j : ℕ) → has_child i rs ≡ false → onward ≡ m → facts_from ids (in_row p false ∷ st) (suc i) m (tags_at j (rows_pieces c (suc i) around rs)) ≡ rows_said c (suc i) m rs) →
        ((j : ℕ) → facts_from ids (in_row i false ∷ in_row p false ∷ st) (suc i) onward (tags_at j (rows_pieces c (suc i) (opened i r ∷ around) rs)) ≡ rows_said c (suc i) onward rs) → (j : ℕ) →
        facts_from ids (in_row p false ∷ st) i m
        (tags_at j (cond (is_bare c i r rs) (empty_tag (row_element r.kind) (row_attrs c.rows r) ∷ rows_pieces c (suc i) around rs)
        (start_tag (row_element r.kind) (row_attrs c.rows r) ∷ (inner_pieces c i r ++ rows_pieces c (suc i) (opened i r ∷ around) rs)))) ≡ goal
    row_said short long j = by (is_bare c i r rs) refl
      where
        by : (z : Bool) → is_bare c i r rs ≡ z →
            facts_from ids (in_row p false ∷ st) i m
            (tags_at j (cond z (empty_tag (row_element r.kind) (row_attrs c.rows r) ∷ rows_pieces c (suc i) around rs)
            (start_tag (row_element r.kind) (row_attrs c.rows r) ∷ (inner_pieces c i r ++ rows_pieces c (suc i) (opened i r ∷ around) rs)))) ≡ goal
        by true e =
            let b = and_left (is_empty (inner_pieces c i r)) (not (has_child i rs)) e in
            bare_row b (λ (q : ℕ). short q (not-false (has_child i rs) (and_right (is_empty (inner_pieces c i r)) (not (has_child i rs)) e)) (ap (further m) (bare_none i r b))) j
        by false e = open_row long j

  rows_said_lem : (rs : List Row) (i m : ℕ) (around : List Open) (path : List ℕ) → Laid path i rs → Joined path around rs → AllOf (RowFits n) rs → AllOf (Ends c ids n known all) around → (j : ℕ) →
      facts_from ids (open_spots around) i m (tags_at j (rows_pieces c i around rs)) ≡ rows_said c i m rs
  unfolding rows_pieces rows_said
  rows_said_lem [] i m around path laid_out q no_more e j = says_last c ids n known all (close_says c ids n known all no_number around i m e) j
  rows_said_lem (r ∷ rs) i m around path (lays up k h d) q (more f g) e j =
      says_then c ids n known all _ _ (close_says c ids n known all r.parent around i m e)
      (λ (x : ℕ). ap (λ (s : List Spot). facts_from ids s i m (tags_at x here)) inner.spots_are ∙
      row_said i m r.parent r rs f inner.outer (closed_to r.parent around)
      (λ (y : ℕ) (b : has_child i rs ≡ false) (o : further m (of_source c.transitions i) ≡ m). ap (λ (s : List Spot). facts_from ids s (suc i) m (tags_at y (rows_pieces c (suc i) (closed_to r.parent around) rs))) (sym inner.spots_are) ∙
      rows_said_lem rs (suc i) m (closed_to r.parent around) (i ∷ r.parent ∷ up) d (beside i (ap (λ (l : List ℕ). i ∷ l) up_is) b) g (all_closed r.parent around e) y)
      (λ (y : ℕ). ap (λ (s : List Spot). facts_from ids (in_row i false ∷ s) (suc i) (further m (of_source c.transitions i)) (tags_at y (rows_pieces c (suc i) (opened i r ∷ closed_to r.parent around) rs))) (sym inner.spots_are) ∙
      rows_said_lem rs (suc i) (further m (of_source c.transitions i)) (opened i r ∷ closed_to r.parent around) (i ∷ r.parent ∷ up) d (level (ap (λ (l : List ℕ). i ∷ l) up_is)) g
      (more (record { no_if = row_no_if r.kind }) (all_closed r.parent around e)) y) x) j
    where
      up_is : rows_of (closed_to r.parent around) ≡ r.parent ∷ up
      up_is = parent_open q h

      inner : Innermost (closed_to r.parent around) r.parent
      inner = innermost (closed_to r.parent around) r.parent up up_is

      here : List Piece
      here =
          cond (is_bare c i r rs) (empty_tag (row_element r.kind) (row_attrs c.rows r) ∷ rows_pieces c (suc i) (closed_to r.parent around) rs)
          (start_tag (row_element r.kind) (row_attrs c.rows r) ∷ (inner_pieces c i r ++ rows_pieces c (suc i) (opened i r ∷ closed_to r.parent around) rs))

  -- ---- the whole

  root_said : (r : Row) (rs : List Row) → r.parent ≡ no_number → Laid (0 ∷ []) 1 rs → RowFits n r → AllOf (RowFits n) rs → (j : ℕ) →
      facts_from ids (in_row no_number false ∷ []) 0 0 (tags_at j (rows_pieces c 0 [] (r ∷ rs))) ≡ rows_said c 0 0 (r ∷ rs)
  unfolding rows_pieces rows_said close_pieces closed_to
  root_said r rs p d f g j =
      row_said 0 0 no_number r rs f [] []
      (λ (y : ℕ) (b : has_child 0 rs ≡ false) (o : further 0 (of_source c.transitions 0) ≡ 0). rows_said_lem rs 1 0 [] (0 ∷ []) d (beside 0 refl b) g no_more y)
      (λ (y : ℕ). rows_said_lem rs 1 (further 0 (of_source c.transitions 0)) (opened 0 r ∷ []) (0 ∷ []) d (level refl) g (more (record { no_if = row_no_if r.kind }) no_more) y) j ∙
      ap (λ (q : ℕ). row_fact r.kind q r.id (attr_list r r.kind) ∷ (inner_said 0 0 r (of_source c.transitions 0) ++ rows_said c 1 (further 0 (of_source c.transitions 0)) rs)) (sym p)

  -- outside all rows stands what stands in none
  first_tag : (r : Row) (rs : List Row) (j : ℕ) → facts_from ids [] 0 0 (tags_at j (rows_pieces c 0 [] (r ∷ rs))) ≡ facts_from ids (in_row no_number false ∷ []) 0 0 (tags_at j (rows_pieces c 0 [] (r ∷ rs)))
  unfolding rows_pieces close_pieces closed_to
  first_tag r rs j = by (is_bare c 0 r rs)
    where
      by : (z : Bool) →
          facts_from ids [] 0 0 (tags_at j (cond z (empty_tag (row_element r.kind) (row_attrs c.rows r) ∷ rows_pieces c 1 [] rs)
          (start_tag (row_element r.kind) (row_attrs c.rows r) ∷ (inner_pieces c 0 r ++ rows_pieces c 1 (opened 0 r ∷ []) rs)))) ≡
          facts_from ids (in_row no_number false ∷ []) 0 0 (tags_at j (cond z (empty_tag (row_element r.kind) (row_attrs c.rows r) ∷ rows_pieces c 1 [] rs)
          (start_tag (row_element r.kind) (row_attrs c.rows r) ∷ (inner_pieces c 0 r ++ rows_pieces c 1 (opened 0 r ∷ []) rs))))
      by true = unfold tags_at facts_from in refl
      by false = unfold tags_at facts_from in refl

  -- the tags of a chart say its rows, with all that stands in them
  pub pieces_said : (r : Row) (rs : List Row) → c.rows ≡ r ∷ rs → r.parent ≡ no_number → Laid (0 ∷ []) 1 rs → RowFits n r → AllOf (RowFits n) rs → (j : ℕ) → facts_from ids [] 0 0 (tags_at j (pieces c)) ≡ rows_said c 0 0 c.rows
  unfolding pieces
  pieces_said r rs e p d f g j =
      ap (λ (l : List Row). facts_from ids [] 0 0 (tags_at j (rows_pieces c 0 [] l))) e ∙ first_tag r rs j ∙ root_said r rs p d f g j ∙ ap (rows_said c 0 0) (sym e)
