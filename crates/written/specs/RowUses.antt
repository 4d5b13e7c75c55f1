-- The names that the tags of a chart use, in the order of the text: rows and transitions.
use Rattle.std.specs.Prelude.{◌≡◌, Bool, ◌||◌, cond, ℕ, zero, suc, ◌≤◌, eqb}
use Rattle.std.proofs.Math.Path.{refl, sym, ap, subst}
use Rattle.std.proofs.Common.{ap₂, ◌∙◌, arith}
use Rattle.std.proofs.Math.Bool.{true, false}
use mathlib.Core.List.{List, [], ◌∷◌, ◌++◌, append-nil}
use Rattle.std.proofs.Math.Option.{Option, none, some}
use Rattle.definition.specs.Rows.{is_empty, flat}
use Rattle.definition.specs.Tables.{no_number}
use Rattle.grammar.specs.Grammar.{attribute}
use Rattle.grammar.specs.Tables.{attrs}
use Rattle.reading.specs.Faults.{items_at, names_in, namespace, version_text, internal, deep}
use Rattle.reading.specs.Content.{Act, Row, Transition, Content, of_source, uses_of}
use Rattle.reading.specs.Print.{spaced, ids_text, is_element_list, is_history_kind}
use Rattle.laws.specs.Bools.{no, and_left}
use Rattle.laws.specs.Lists.{empty_list}
use Rattle.written.specs.Pieces.{Piece, parts_at, tags_at}
use Rattle.written.specs.Written.{attr, start_tag, empty_tag, end_tag, given_attr, initial_attr, in_text, block_pieces, element_pieces, type_attr, cond_attr, transition_attrs, transition_pieces, block_element, default_pieces, inner_pieces, row_element, kind_attrs, row_attrs, Open, close_pieces, closed_to, is_bare, rows_pieces, pieces}
use Rattle.written.specs.Sound.{AllOf, no_more, more, ActFits, DescriptorFits, Shaped, TransitionFits, RowFits}
use Rattle.written.specs.InnerSays.{descriptors_read}
use Rattle.written.specs.Placed.{list_by}
use Rattle.written.specs.Laid.{Laid, laid_out, lays, all_of_source}
use Rattle.written.specs.BackRows.{unwritten}
use Rattle.written.specs.Uses.{Uses, uses_none, uses_both, AttrUses, attr_none, attr_both, start_uses, empty_uses, end_uses, element_uses, of_state, of_parallel, of_final, of_history, name_uses, Silent, of_type, transition_cond, transition_target, initial_target, root_namespace, root_version, root_initial, state_initial, history_type, silent_uses, act_uses, block_uses}

-- ---- transitions

abbrev pub transition_uses : Transition → List (List ℕ)
transition_uses t = t.descriptors ++ flat act_uses t.block

type_uses : (y : Bool) → AttrUses 6 (type_attr y) []
type_uses true = silent_uses 6 0 of_type internal
type_uses false = attr_none 6

given_silent : (e j : ℕ) → Silent e j → (v : List ℕ) → AttrUses e (given_attr j v) []
given_silent e j s v = by (is_empty v)
  where
    by : (z : Bool) → AttrUses e (cond z [] (attr j v ∷ [])) []
    by true = attr_none e
    by false = silent_uses e j s v

cond_uses : (rs : List Row) (o : Option ℕ) → AttrUses 6 (cond_attr rs o) []
cond_uses rs none = attr_none 6
cond_uses rs (some i) = silent_uses 6 2 transition_cond (in_text rs i)

event_attr : (v : List ℕ) → AttrUses 6 (attr 1 v ∷ []) (names_in v)
unfolding parts_at flat attribute attrs
event_attr v = record { parts = λ (i : ℕ). append-nil (names_in v) }

no_names : names_in [] ≡ []
unfolding items_at
no_names = refl

event_uses : (ds : List (List ℕ)) → AllOf DescriptorFits ds → AttrUses 6 (given_attr 1 (spaced ds)) ds
event_uses ds f = subst (AttrUses 6 (given_attr 1 (spaced ds))) (descriptors_read ds f) (by (is_empty (spaced ds)) refl)
  where
    by : (z : Bool) → is_empty (spaced ds) ≡ z → AttrUses 6 (cond z [] (attr 1 (spaced ds) ∷ [])) (names_in (spaced ds))
    by true e = subst (AttrUses 6 []) (sym no_names ∙ ap names_in (sym (empty_list (spaced ds) e))) (attr_none 6)
    by false e = event_attr (spaced ds)

module _ (rs : List Row) (n : ℕ) where
  transition_attr_uses : (t : Transition) → TransitionFits n t → AttrUses 6 (transition_attrs rs t) t.descriptors
  transition_attr_uses t f =
      subst (AttrUses 6 (transition_attrs rs t)) (append-nil t.descriptors)
      (attr_both (type_uses t.internal) (attr_both (event_uses t.descriptors f.descriptors) (attr_both (cond_uses rs t.condition) (given_silent 6 3 transition_target (ids_text rs t.targets)))))

  transitions_use : (ts : List Transition) → AllOf (TransitionFits n) ts → Uses (flat (transition_pieces rs) ts) (flat transition_uses ts)
  unfolding flat transition_pieces
  transitions_use [] no_more = uses_none
  transitions_use (t ∷ ts) (more f g) =
      uses_both (element_uses 6 6 (transition_attrs rs t) t.descriptors (flat act_uses t.block) (block_pieces rs false t.block) (transition_attr_uses t f) (block_uses rs n false t.block f.block.each)) (transitions_use ts g)

  block_element_uses : (e : ℕ) (acts : List Act) → AllOf (ActFits n) acts → Uses (block_element rs e acts) (flat act_uses acts)
  block_element_uses e acts f = by (is_empty acts) refl
    where
      none_used : flat act_uses [] ≡ []
      none_used = unfold flat in refl

      by : (z : Bool) → is_empty acts ≡ z → Uses (cond z [] (element_pieces e e [] (block_pieces rs false acts))) (flat act_uses acts)
      by true q = subst (Uses []) (sym (ap (flat act_uses) (empty_list acts q) ∙ none_used)) uses_none
      by false q = element_uses e e [] [] (flat act_uses acts) (block_pieces rs false acts) (attr_none e) (block_uses rs n false acts f)

  list_uses : (k : ℕ) (r : Row) → Shaped k r → AllOf (ActFits n) r.block → Uses (list_by rs r k) (flat act_uses r.block)
  list_uses k r s b = by (is_history_kind k) refl (is_empty r.list) refl (is_element_list r) refl
    where
      blocks : Uses (block_pieces rs false r.block) (flat act_uses r.block)
      blocks = block_uses rs n false r.block b

      none_used : flat act_uses [] ≡ []
      none_used = unfold flat in refl

      listed : (k : ℕ) → Shaped k r → is_history_kind k ≡ true → is_empty r.list ≡ true → ⊥
      listed zero s h e = no h
      listed (suc zero) s h e = no h
      listed (suc (suc zero)) s h e = no h
      listed (suc (suc (suc zero))) s h e = no h
      listed (suc (suc (suc (suc zero)))) (d, l) h e = no (sym l ∙ e)
      listed (suc (suc (suc (suc (suc zero))))) (d, l) h e = no (sym l ∙ e)
      listed (suc (suc (suc (suc (suc (suc k)))))) s h e = s

      by : (h : Bool) → is_history_kind k ≡ h → (y : Bool) → is_empty r.list ≡ y → (z : Bool) → is_element_list r ≡ z →
          Uses (cond h (cond y [] (default_pieces rs 6 3 r)) (cond z (start_tag 5 [] ∷ (default_pieces rs 11 1 r ++ end_tag 5 ∷ [])) [])) (flat act_uses r.block)
      by true h true y z e = absurd (listed k s h y)
      by true h false y z e =
          element_uses 6 6 (attr 3 (ids_text rs r.list) ∷ []) [] (flat act_uses r.block) (block_pieces rs false r.block) (silent_uses 6 3 transition_target (ids_text rs r.list)) blocks
      by false h y q true e =
          uses_both (start_uses 5 [] [] (attr_none 5))
          (subst (Uses (default_pieces rs 11 1 r ++ end_tag 5 ∷ [])) (append-nil (flat act_uses r.block))
          (uses_both (element_uses 11 6 (attr 1 (ids_text rs r.list) ∷ []) [] (flat act_uses r.block) (block_pieces rs false r.block) (silent_uses 11 1 initial_target (ids_text rs r.list)) blocks) (end_uses 5)))
      by false h y q false e = subst (Uses []) (sym (ap (flat act_uses) (unwritten k r s (ap₂ (λ (a b : Bool). a || b) h e)) ∙ none_used)) uses_none

-- ---- rows

abbrev pub inner_uses : Content → ℕ → Row → List (List ℕ)
inner_uses c i r = flat act_uses r.entry ++ (flat act_uses r.exit ++ (flat act_uses r.block ++ flat transition_uses (of_source c.transitions i)))

unfoldable pub uses_from : Content → ℕ → List Row → List (List ℕ)
uses_from c i [] = []
uses_from c i (r ∷ rs) = (r.id ∷ inner_uses c i r) ++ uses_from c (suc i) rs

initial_uses : (rs : List Row) (e j : ℕ) → Silent e j → (r : Row) → AttrUses e (initial_attr rs j r) []
initial_uses rs e j s r = by (is_element_list r)
  where
    by : (z : Bool) → AttrUses e (cond z [] (given_attr j (ids_text rs r.list))) []
    by true = attr_none e
    by false = given_silent e j s (ids_text rs r.list)

row_attr_uses : (rs : List Row) (k : ℕ) (r : Row) → 1 ≤ k → Shaped k r → AttrUses (row_element k) (kind_attrs rs r k) (r.id ∷ [])
row_attr_uses rs zero r h s = absurd (omega arith)
row_attr_uses rs (suc zero) r h (d, b) = attr_both (name_uses 1 0 of_state r.id d) (initial_uses rs 1 1 state_initial r)
row_attr_uses rs (suc (suc zero)) r h (d, l, b) = name_uses 2 0 of_parallel r.id d
row_attr_uses rs (suc (suc (suc zero))) r h (d, l, b) = name_uses 3 0 of_final r.id d
row_attr_uses rs (suc (suc (suc (suc zero)))) r h (d, l) = name_uses 4 0 of_history r.id d
row_attr_uses rs (suc (suc (suc (suc (suc zero))))) r h (d, l) = attr_both (name_uses 4 0 of_history r.id d) (silent_uses 4 1 history_type deep)
row_attr_uses rs (suc (suc (suc (suc (suc (suc k)))))) r h s = absurd s

root_attr_uses : (rs : List Row) (k : ℕ) (r : Row) → k ≡ 0 → AttrUses (row_element k) (kind_attrs rs r k) []
root_attr_uses rs k r e =
    subst (λ (x : ℕ). AttrUses (row_element x) (kind_attrs rs r x) []) (sym e) (attr_both (silent_uses 0 0 root_namespace namespace) (attr_both (silent_uses 0 1 root_version version_text) (initial_uses rs 0 2 root_initial r)))

close_uses : (p : ℕ) (around : List Open) → Uses (close_pieces p around) []
unfolding close_pieces
close_uses p [] = uses_none
close_uses p (a ∷ around) = by (eqb a.row p) (close_uses p around)
  where
    by : (z : Bool) → Uses (close_pieces p around) [] → Uses (cond z [] (end_tag a.element ∷ close_pieces p around)) []
    by true h = uses_none
    by false h = uses_both (end_uses a.element) h

module _ (c : Content) (n : ℕ) (all : AllOf (TransitionFits n) c.transitions) where
  inner_uses_lem : (i : ℕ) (r : Row) → RowFits n r → Uses (inner_pieces c i r) (inner_uses c i r)
  unfolding inner_pieces
  inner_uses_lem i r f =
      uses_both (block_element_uses c.rows n 7 r.entry f.entry.each)
      (uses_both (block_element_uses c.rows n 8 r.exit f.exit.each)
      (uses_both (list_uses c.rows n r.kind r f.shaped f.block.each) (transitions_use c.rows n (of_source c.transitions i) (all_of_source c.transitions i all))))

  abbrev opened : ℕ → Row → Open
  opened i r = record { row = i; element = row_element r.kind }

  one_uses : (i : ℕ) (around : List Open) (r : Row) (rs : List Row) (us vs : List (List ℕ)) → RowFits n r → AttrUses (row_element r.kind) (row_attrs c.rows r) us →
      Uses (rows_pieces c (suc i) (closed_to r.parent around) rs) vs → Uses (rows_pieces c (suc i) (opened i r ∷ closed_to r.parent around) rs) vs → Uses (rows_pieces c i around (r ∷ rs)) (us ++ (inner_uses c i r ++ vs))
  unfolding rows_pieces
  one_uses i around r rs us vs f a short long = uses_both (close_uses r.parent around) (by (is_bare c i r rs) refl)
    where
      bare : is_bare c i r rs ≡ true → inner_uses c i r ≡ []
      bare e =
          sym ((inner_uses_lem i r f).uses 0) ∙ ap (λ (l : List Piece). flat uses_of (tags_at 0 l)) (empty_list (inner_pieces c i r) (and_left (is_empty (inner_pieces c i r)) _ e)) ∙ uses_none.uses 0

      by : (z : Bool) → is_bare c i r rs ≡ z →
          Uses (cond z (empty_tag (row_element r.kind) (row_attrs c.rows r) ∷ rows_pieces c (suc i) (closed_to r.parent around) rs)
          (start_tag (row_element r.kind) (row_attrs c.rows r) ∷ (inner_pieces c i r ++ rows_pieces c (suc i) (opened i r ∷ closed_to r.parent around) rs))) (us ++ (inner_uses c i r ++ vs))
      by true e = subst (Uses _) (ap (λ (l : List (List ℕ)). us ++ (l ++ vs)) (sym (bare e))) (uses_both (empty_uses (row_element r.kind) (row_attrs c.rows r) us a) short)
      by false e = uses_both (start_uses (row_element r.kind) (row_attrs c.rows r) us a) (uses_both (inner_uses_lem i r f) long)

  first_uses : (r : Row) (rs : List Row) (i : ℕ) → r.id ∷ (inner_uses c i r ++ uses_from c (suc i) rs) ≡ uses_from c i (r ∷ rs)
  first_uses r rs i = unfold uses_from in refl

  rows_use : (rs : List Row) (i : ℕ) (around : List Open) (path : List ℕ) → Laid path i rs → AllOf (RowFits n) rs → Uses (rows_pieces c i around rs) (uses_from c i rs)
  rows_use [] i around path laid_out no_more = unfold uses_from rows_pieces in close_uses no_number around
  rows_use (r ∷ rs) i around path (lays up k e d) (more f g) =
      subst (Uses (rows_pieces c i around (r ∷ rs))) (first_uses r rs i)
      (one_uses i around r rs (r.id ∷ []) (uses_from c (suc i) rs) f (row_attr_uses c.rows r.kind r k f.shaped) (rows_use rs (suc i) (closed_to r.parent around) (i ∷ r.parent ∷ up) d g)
      (rows_use rs (suc i) (opened i r ∷ closed_to r.parent around) (i ∷ r.parent ∷ up) d g))

  -- the names that the tags of a chart use
  pub pieces_use : (r : Row) (rs : List Row) → c.rows ≡ r ∷ rs → r.kind ≡ 0 → Laid (0 ∷ []) 1 rs → RowFits n r → AllOf (RowFits n) rs → Uses (pieces c) (inner_uses c 0 r ++ uses_from c 1 rs)
  unfolding pieces
  pieces_use r rs e z d f g =
      subst (λ (l : List Row). Uses (rows_pieces c 0 [] l) (inner_uses c 0 r ++ uses_from c 1 rs)) (sym e)
      (one_uses 0 [] r rs [] (uses_from c 1 rs) f (root_attr_uses c.rows r.kind r z) (rows_use rs 1 (closed_to r.parent []) (0 ∷ []) d g) (rows_use rs 1 (opened 0 r ∷ closed_to r.parent []) (0 ∷ []) d g))
