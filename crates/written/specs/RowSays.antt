-- What the tags of a chart's rows say when they are read back.
use Rattle.std.specs.Prelude.{◌≡◌, Bool, ◌||◌, cond, ℕ, zero, suc, eqb}
use Rattle.std.proofs.Math.Path.{refl}
use Rattle.std.proofs.Common.{sym, ap, ap₂, ◌∙◌}
use Rattle.std.proofs.Math.Bool.{true, false}
use mathlib.Core.List.{List, [], ◌∷◌, ◌++◌, append-nil}
use Rattle.definition.specs.Rows.{is_empty, same}
use Rattle.definition.specs.Tables.{no_number}
use Rattle.grammar.specs.Grammar.{attribute}
use Rattle.grammar.specs.Tables.{attrs}
use Rattle.reading.specs.Faults.{items_at, states, value_of, decoded, namespace, version_text, deep}
use Rattle.reading.specs.Content.{Row, Transition, Content, Spot, in_row, Fact, row_fact, list_fact, Turn, turn, facts_from, row_of, rows_in, of_source}
use Rattle.reading.specs.Print.{ids_text, is_element_list, is_history_kind}
use Rattle.laws.specs.Bools.{no}
use Rattle.written.specs.Pieces.{Piece, parts_at, tags_at}
use Rattle.written.specs.Written.{attr, start_tag, end_tag, default_pieces, inner_pieces, row_element, kind_attrs, Open, close_pieces, closed_to}
use Rattle.written.specs.Sound.{AllOf, no_more, more, Ref, BlockFits, Shaped, RowFits, TransitionFits}
use Rattle.written.specs.Says.{Says, says_none, says_both, shuts_says, tags_both, behind_all}
use Rattle.written.specs.BlockSays.{Known}
use Rattle.written.specs.InnerSays.{acts_said, further, transitions_said, transitions_say, entry_says, exit_says, default_says, initial_says, given_whole, rows_read}
use Rattle.written.specs.Placed.{list_by}
use Rattle.written.specs.Laid.{all_of_source}

-- what an initial element or a default transition says
abbrev pub list_facts : ℕ → Row → ℕ → List Fact
list_facts i r k = cond (is_history_kind k || is_element_list r) (list_fact i r.list ∷ acts_said 3 i r.block) []

-- the list that stands in an attribute
abbrev pub attr_list : Row → ℕ → List ℕ
attr_list r k = cond (is_history_kind k || is_element_list r) [] r.list

unfoldable pub inner_said : ℕ → ℕ → Row → List Transition → List Fact
inner_said i m r ts = acts_said 1 i r.entry ++ (acts_said 2 i r.exit ++ (list_facts i r r.kind ++ transitions_said i m ts))

-- the rows from number i on, with m transitions before them
unfoldable pub rows_said : Content → ℕ → ℕ → List Row → List Fact
rows_said c i m [] = []
rows_said c i m (r ∷ rs) =
    row_fact r.kind r.parent r.id (attr_list r r.kind) ∷ (inner_said i m r (of_source c.transitions i) ++ rows_said c (suc i) (further m (of_source c.transitions i)) rs)

abbrev pub row_turn : Spot → ℕ → ℕ → Row → ℕ → Turn
row_turn s i m r k = record { facts = row_fact k (row_of s) r.id (attr_list r k) ∷ []; inside = in_row i (is_history_kind k); around = s; rows = suc i; transitions = m }

module _ (rs : List Row) (ids : List (List ℕ)) (n : ℕ) (known : Known rs ids n) where
  abbrev by_turn : Spot → ℕ → ℕ → ℕ → List ℕ → List ℕ → Turn
  by_turn s i m k v l = record { facts = row_fact k (row_of s) v l ∷ []; inside = in_row i (is_history_kind k); around = s; rows = suc i; transitions = m }

  module _ (s : Spot) (i m j : ℕ) (v w : List ℕ) where
    root_by : (z y : Bool) → turn ids s i m 0 (parts_at j 0 (attr 0 namespace ∷ attr 1 version_text ∷ cond z [] (cond y [] (attr 2 w ∷ [])))) ≡ by_turn s i m 0 [] (rows_in ids (cond z [] (cond y [] w)))
    unfolding turn parts_at attribute attrs states value_of
    root_by true y = refl
    root_by false true = refl
    root_by false false = refl

    state_by : (z y : Bool) → turn ids s i m 1 (parts_at j 1 (attr 0 v ∷ cond z [] (cond y [] (attr 1 w ∷ [])))) ≡ by_turn s i m 1 v (rows_in ids (cond z [] (cond y [] w)))
    unfolding turn parts_at attribute attrs states value_of
    state_by true y = refl
    state_by false true = refl
    state_by false false = refl

    parallel_by : turn ids s i m 2 (parts_at j 2 (attr 0 v ∷ [])) ≡ by_turn s i m 2 v []
    unfolding turn parts_at attribute attrs states value_of items_at
    parallel_by = refl

    final_by : turn ids s i m 3 (parts_at j 3 (attr 0 v ∷ [])) ≡ by_turn s i m 3 v []
    unfolding turn parts_at attribute attrs states value_of items_at
    final_by = refl

    shallow_by : turn ids s i m 4 (parts_at j 4 (attr 0 v ∷ [])) ≡ by_turn s i m 4 v []
    unfolding turn parts_at attribute attrs states value_of items_at decoded same
    shallow_by = refl

    deep_by : turn ids s i m 4 (parts_at j 4 (attr 0 v ∷ attr 1 deep ∷ [])) ≡ by_turn s i m 5 v []
    unfolding turn parts_at attribute attrs states value_of items_at decoded same
    deep_by = refl

  no_rows : rows_in ids [] ≡ []
  unfolding items_at
  no_rows = refl

  attr_list_lem : (r : Row) → AllOf (Ref n) r.list → (z : Bool) → rows_in ids (cond z [] (cond (is_empty (ids_text rs r.list)) [] (ids_text rs r.list))) ≡ cond z [] r.list
  attr_list_lem r l true = no_rows
  attr_list_lem r l false = ap (rows_in ids) (given_whole (ids_text rs r.list)) ∙ rows_read rs ids n known r.list l

  no_attr_list : (r : Row) → r.list ≡ [] → (z : Bool) → [] ≡ cond z [] r.list
  no_attr_list r h true = refl
  no_attr_list r h false = sym h

  pub row_turn_lem : (k : ℕ) (r : Row) → Shaped k r → AllOf (Ref n) r.list → (s : Spot) (i m j : ℕ) → turn ids s i m (row_element k) (parts_at j (row_element k) (kind_attrs rs r k)) ≡ row_turn s i m r k
  row_turn_lem zero r (d, b) l s i m j =
      root_by s i m j [] (ids_text rs r.list) (is_element_list r) (is_empty (ids_text rs r.list)) ∙ ap₂ (λ (x y : List ℕ). by_turn s i m 0 x y) (sym d) (attr_list_lem r l (is_element_list r))
  row_turn_lem (suc zero) r (d, b) l s i m j =
      state_by s i m j r.id (ids_text rs r.list) (is_element_list r) (is_empty (ids_text rs r.list)) ∙ ap (λ (y : List ℕ). by_turn s i m 1 r.id y) (attr_list_lem r l (is_element_list r))
  row_turn_lem (suc (suc zero)) r (d, e, b) l s i m j = parallel_by s i m j r.id [] ∙ ap (λ (y : List ℕ). by_turn s i m 2 r.id y) (no_attr_list r e (is_element_list r))
  row_turn_lem (suc (suc (suc zero))) r (d, e, b) l s i m j = final_by s i m j r.id [] ∙ ap (λ (y : List ℕ). by_turn s i m 3 r.id y) (no_attr_list r e (is_element_list r))
  row_turn_lem (suc (suc (suc (suc zero)))) r (d, e) l s i m j = shallow_by s i m j r.id []
  row_turn_lem (suc (suc (suc (suc (suc zero))))) r (d, e) l s i m j = deep_by s i m j r.id []
  row_turn_lem (suc (suc (suc (suc (suc (suc k)))))) r d l s i m j = absurd d

  module _ (i k m : ℕ) (st : List Spot) (r : Row) (l : AllOf (Ref n) r.list) (b : BlockFits n r.block) where
    element_list : (z : Bool) → Says ids (in_row i false ∷ st) k m (cond z (start_tag 5 [] ∷ (default_pieces rs 11 1 r ++ end_tag 5 ∷ [])) []) (cond z (list_fact i r.list ∷ acts_said 3 i r.block) []) (in_row i false ∷ st) k m
    element_list true = initial_says rs ids n known i k m st r l b
    element_list false = says_none

    history_list : (z : Bool) → z ≡ false → Says ids (in_row i true ∷ st) k m (cond z [] (default_pieces rs 6 3 r)) (list_fact i r.list ∷ acts_said 3 i r.block) (in_row i false ∷ st) k m
    history_list true e = absurd (no (sym e))
    history_list false e = default_says rs ids n known i k m st r l b

    list_says : (q : ℕ) → Shaped q r → Says ids (in_row i (is_history_kind q) ∷ st) k m (list_by rs r q) (list_facts i r q) (in_row i false ∷ st) k m
    list_says zero s = element_list (is_element_list r)
    list_says (suc zero) s = element_list (is_element_list r)
    list_says (suc (suc zero)) s = element_list (is_element_list r)
    list_says (suc (suc (suc zero))) s = element_list (is_element_list r)
    list_says (suc (suc (suc (suc zero)))) (d, e) = history_list (is_empty r.list) e
    list_says (suc (suc (suc (suc (suc zero))))) (d, e) = history_list (is_empty r.list) e
    list_says (suc (suc (suc (suc (suc (suc q)))))) s = absurd s

module _ (c : Content) (ids : List (List ℕ)) (n : ℕ) (known : Known c.rows ids n) (all : AllOf (TransitionFits n) c.transitions) where
  pub inner_says : (i k m : ℕ) (st : List Spot) (r : Row) → RowFits n r →
      Says ids (in_row i (is_history_kind r.kind) ∷ st) k m (inner_pieces c i r) (inner_said i m r (of_source c.transitions i)) (in_row i false ∷ st) k (further m (of_source c.transitions i))
  unfolding inner_pieces inner_said
  inner_says i k m st r f =
      says_both (entry_says c.rows ids n known i k m (is_history_kind r.kind) st r.entry f.entry)
      (says_both (exit_says c.rows ids n known i k m (is_history_kind r.kind) st r.exit f.exit)
      (says_both (list_says c.rows ids n known i k m st r f.list f.block r.kind f.shaped)
      (transitions_say c.rows ids n known i k m st (of_source c.transitions i) (all_of_source c.transitions i all))))

  -- ---- the open rows

  abbrev pub spots : List Open → List Spot
  spots [] = in_row no_number false ∷ []
  spots (a ∷ around) = in_row a.row false ∷ spots around

  -- the end tag of a row ends no if
  pub record Ends (a : Open) : Type 0 where
    pub no_if : eqb a.element 12 ≡ false

  pub close_says : (p : ℕ) (around : List Open) (k m : ℕ) → AllOf Ends around → Says ids (spots around) k m (close_pieces p around) [] (spots (closed_to p around)) k m
  unfolding close_pieces closed_to
  close_says p [] k m no_more = says_none
  close_says p (a ∷ around) k m (more f g) = by (eqb a.row p) (close_says p around k m g)
    where
      by : (z : Bool) → Says ids (spots around) k m (close_pieces p around) [] (spots (closed_to p around)) k m →
          Says ids (spots (a ∷ around)) k m (cond z [] (end_tag a.element ∷ close_pieces p around)) [] (spots (cond z (a ∷ around) (closed_to p around))) k m
      by true h = says_none
      by false h = says_both (shuts_says (in_row a.row false) (spots around) k m a.element f.no_if) h

  -- tags that say fs, and those behind them
  pub says_then : {st su : List Spot} {k m p q : ℕ} {ps : List Piece} {fs : List Fact} (qs : List Piece) (gs : List Fact) → Says ids st k m ps fs su p q → ((j : ℕ) → facts_from ids su p q (tags_at j qs) ≡ gs) → (i : ℕ) → facts_from ids st k m (tags_at i (ps ++ qs)) ≡ fs ++ gs
  says_then {st = st} {k = k} {m = m} {ps = ps} {fs = fs} qs gs a b i =
      ap (facts_from ids st k m) (tags_both i ps qs) ∙ a.said i (tags_at (behind_all i ps) qs) ∙ ap (λ (l : List Fact). fs ++ l) (b (behind_all i ps))

  no_tags : (st : List Spot) (k m : ℕ) → facts_from ids st k m [] ≡ []
  unfolding facts_from
  no_tags st k m = refl

  pub says_last : {st su : List Spot} {k m p q : ℕ} {ps : List Piece} {fs : List Fact} → Says ids st k m ps fs su p q → (i : ℕ) → facts_from ids st k m (tags_at i ps) ≡ fs
  says_last {st = st} {k = k} {m = m} {ps = ps} {fs = fs} a i =
      ap (facts_from ids st k m) (sym (append-nil (tags_at i ps))) ∙ a.said i [] ∙ ap (λ (l : List Fact). fs ++ l) (no_tags _ _ _) ∙ append-nil fs
