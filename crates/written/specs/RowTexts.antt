-- The text of a chart is the text of the tags that it is written as: transitions, rows, the whole.
use Rattle.std.specs.Prelude.{◌≡◌, Bool, not, ◌&&◌, ◌||◌, cond, ℕ, zero, suc, eqb}
use Rattle.std.proofs.Math.Path.{refl, ap}
use Rattle.std.proofs.Common.{sym, ap₂, ◌∙◌}
use Rattle.std.proofs.Math.Bool.{true, false}
use mathlib.Core.List.{List, [], ◌∷◌, ◌++◌, append_assoc}
use Rattle.std.proofs.Math.Option.{Option, none, some}
use Rattle.definition.specs.Rows.{flat, is_empty}
use Rattle.definition.specs.Names.{is_name}
use Rattle.grammar.specs.Grammar.{attribute}
use Rattle.grammar.specs.Tables.{attrs}
use Rattle.reading.specs.Faults.{namespace, version_text, internal, deep}
use Rattle.reading.specs.Content.{Act, Row, Transition, Content, of_source}
use Rattle.reading.specs.Print.{spaced, quoted, given, block_text, element, ids_text, condition_text, transition_text, block_element, is_history_kind, default_text, is_element_list, list_text, inner_text, kind_name, attributes_of, Around, close_text, close_to}
use Rattle.written.specs.Pieces.{Attr, Piece, word_text, attrs_onto, text_of}
use Rattle.written.specs.Written.{attr, start_tag, end_tag, given_attr, in_text, block_pieces, element_pieces, type_attr, cond_attr, transition_attrs, transition_pieces, block_element as block_pieces_of, default_pieces, list_pieces, inner_pieces, row_element, initial_attr, kind_attrs, row_attrs, Open, close_pieces, closed_to}
use Rattle.written.specs.Texts.{text_both, attrs_both, value_onto, given_onto, block_text_lem, element_text}
use Rattle.written.specs.Sound.{Shaped}

-- ---- transitions

abbrev type_text : Bool → List ℕ
type_text y = cond y ((32 ∷ 116 ∷ 121 ∷ 112 ∷ 101 ∷ 61 ∷ []) ++ quoted internal) []

type_onto : (y : Bool) (rest : List ℕ) → type_text y ++ rest ≡ attrs_onto 6 (type_attr y) rest
unfolding word_text attrs_onto attribute attrs
type_onto true rest = refl
type_onto false rest = refl

cond_onto : (rs : List Row) (o : Option ℕ) (rest : List ℕ) → condition_text rs o ++ rest ≡ attrs_onto 6 (cond_attr rs o) rest
unfolding word_text attrs_onto attribute attrs
cond_onto rs none rest = refl
cond_onto rs (some i) rest = ap (λ (l : List ℕ). 32 ∷ 99 ∷ 111 ∷ 110 ∷ 100 ∷ 61 ∷ 34 ∷ l) (value_onto (in_text rs i) rest)

event_onto : (v rest : List ℕ) → given (32 ∷ 101 ∷ 118 ∷ 101 ∷ 110 ∷ 116 ∷ 61 ∷ []) v ++ rest ≡ attrs_onto 6 (given_attr 1 v) rest
unfolding word_text attribute attrs
event_onto v rest = given_onto 6 1 v rest

target_onto : (v rest : List ℕ) → given (32 ∷ 116 ∷ 97 ∷ 114 ∷ 103 ∷ 101 ∷ 116 ∷ 61 ∷ []) v ++ rest ≡ attrs_onto 6 (given_attr 3 v) rest
unfolding word_text attribute attrs
target_onto v rest = given_onto 6 3 v rest

four : (a b c d rest : List ℕ) → (((a ++ b) ++ c) ++ d) ++ rest ≡ a ++ (b ++ (c ++ (d ++ rest)))
four a b c d rest = append_assoc ((a ++ b) ++ c) d rest ∙ append_assoc (a ++ b) c (d ++ rest) ∙ append_assoc a b (c ++ (d ++ rest))

four_attrs : (e : ℕ) (a b c d : List Attr) (rest : List ℕ) → attrs_onto e (a ++ (b ++ (c ++ d))) rest ≡ attrs_onto e a (attrs_onto e b (attrs_onto e c (attrs_onto e d rest)))
four_attrs e a b c d rest =
    attrs_both e a (b ++ (c ++ d)) rest ∙ ap (attrs_onto e a) (attrs_both e b (c ++ d) rest ∙ ap (attrs_onto e b) (attrs_both e c d rest))

pub transition_text_lem : (rs : List Row) (t : Transition) → transition_text rs t ≡ text_of (transition_pieces rs t)
unfolding transition_text transition_pieces
transition_text_lem rs t =
    element_text 6 6 (transition_attrs rs t) (block_pieces rs false t.block) _ (type_text t.internal ++ e ++ c ++ g) _ word word attributes (block_text_lem rs false t.block)
  where
    word : (116 ∷ 114 ∷ 97 ∷ 110 ∷ 115 ∷ 105 ∷ 116 ∷ 105 ∷ 111 ∷ 110 ∷ []) ≡ word_text 6
    word = unfold word_text in refl

    e : List ℕ
    e = given (32 ∷ 101 ∷ 118 ∷ 101 ∷ 110 ∷ 116 ∷ 61 ∷ []) (spaced t.descriptors)

    c : List ℕ
    c = condition_text rs t.condition

    g : List ℕ
    g = given (32 ∷ 116 ∷ 97 ∷ 114 ∷ 103 ∷ 101 ∷ 116 ∷ 61 ∷ []) (ids_text rs t.targets)

    attributes : (rest : List ℕ) → (type_text t.internal ++ e ++ c ++ g) ++ rest ≡ attrs_onto 6 (transition_attrs rs t) rest
    attributes rest =
        four (type_text t.internal) e c g rest ∙ ap (λ (l : List ℕ). type_text t.internal ++ (e ++ (c ++ l))) (target_onto (ids_text rs t.targets) rest) ∙
        ap (λ (l : List ℕ). type_text t.internal ++ (e ++ l)) (cond_onto rs t.condition _) ∙ ap (λ (l : List ℕ). type_text t.internal ++ l) (event_onto (spaced t.descriptors) _) ∙
        type_onto t.internal _ ∙
        sym (four_attrs 6 (type_attr t.internal) (given_attr 1 (spaced t.descriptors)) (cond_attr rs t.condition) (given_attr 3 (ids_text rs t.targets)) rest)

transitions_text : (rs : List Row) (ts : List Transition) → flat (transition_text rs) ts ≡ text_of (flat (transition_pieces rs) ts)
unfolding flat
transitions_text rs [] = unfold text_of in refl
transitions_text rs (t ∷ ts) = ap₂ (λ (k l : List ℕ). k ++ l) (transition_text_lem rs t) (transitions_text rs ts) ∙ sym (text_both (transition_pieces rs t) (flat (transition_pieces rs) ts))

-- ---- what stands in a row before its child rows

entry_text : (rs : List Row) (acts : List Act) → block_element rs (111 ∷ 110 ∷ 101 ∷ 110 ∷ 116 ∷ 114 ∷ 121 ∷ []) acts ≡ text_of (block_pieces_of rs 7 acts)
entry_text rs acts = by (is_empty acts)
  where
    word : (111 ∷ 110 ∷ 101 ∷ 110 ∷ 116 ∷ 114 ∷ 121 ∷ []) ≡ word_text 7
    word = unfold word_text in refl

    by : (z : Bool) → cond z [] (element (111 ∷ 110 ∷ 101 ∷ 110 ∷ 116 ∷ 114 ∷ 121 ∷ []) [] (block_text rs acts)) ≡ text_of (cond z [] (element_pieces 7 7 [] (block_pieces rs false acts)))
    by true = unfold text_of in refl
    by false = element_text 7 7 [] (block_pieces rs false acts) _ [] _ word word (λ (rest : List ℕ). unfold attrs_onto in refl) (block_text_lem rs false acts)

exit_text : (rs : List Row) (acts : List Act) → block_element rs (111 ∷ 110 ∷ 101 ∷ 120 ∷ 105 ∷ 116 ∷ []) acts ≡ text_of (block_pieces_of rs 8 acts)
exit_text rs acts = by (is_empty acts)
  where
    word : (111 ∷ 110 ∷ 101 ∷ 120 ∷ 105 ∷ 116 ∷ []) ≡ word_text 8
    word = unfold word_text in refl

    by : (z : Bool) → cond z [] (element (111 ∷ 110 ∷ 101 ∷ 120 ∷ 105 ∷ 116 ∷ []) [] (block_text rs acts)) ≡ text_of (cond z [] (element_pieces 8 8 [] (block_pieces rs false acts)))
    by true = unfold text_of in refl
    by false = element_text 8 8 [] (block_pieces rs false acts) _ [] _ word word (λ (rest : List ℕ). unfold attrs_onto in refl) (block_text_lem rs false acts)

abbrev word6 : List ℕ
word6 = 116 ∷ 114 ∷ 97 ∷ 110 ∷ 115 ∷ 105 ∷ 116 ∷ 105 ∷ 111 ∷ 110 ∷ []

default_text_lem : (rs : List Row) (e j : ℕ) (r : Row) → word6 ≡ word_text e → (116 ∷ 97 ∷ 114 ∷ 103 ∷ 101 ∷ 116 ∷ []) ≡ word_text (attribute e j) → default_text rs r ≡ text_of (default_pieces rs e j r)
default_text_lem rs e j r w a =
    element_text e 6 (attr j (ids_text rs r.list) ∷ []) (block_pieces rs false r.block) _ ((32 ∷ 116 ∷ 97 ∷ 114 ∷ 103 ∷ 101 ∷ 116 ∷ 61 ∷ []) ++ quoted (ids_text rs r.list)) _ w
    (unfold word_text in refl) (attributes a) (block_text_lem rs false r.block)
  where
    attributes : (116 ∷ 97 ∷ 114 ∷ 103 ∷ 101 ∷ 116 ∷ []) ≡ word_text (attribute e j) → (rest : List ℕ) →
        ((32 ∷ 116 ∷ 97 ∷ 114 ∷ 103 ∷ 101 ∷ 116 ∷ 61 ∷ []) ++ quoted (ids_text rs r.list)) ++ rest ≡ attrs_onto e (attr j (ids_text rs r.list) ∷ []) rest
    attributes q rest =
        ap (λ (l : List ℕ). 32 ∷ 116 ∷ 97 ∷ 114 ∷ 103 ∷ 101 ∷ 116 ∷ 61 ∷ 34 ∷ l) (value_onto (ids_text rs r.list) rest) ∙
        ap (λ (k : List ℕ). 32 ∷ (k ++ 61 ∷ 34 ∷ (ids_text rs r.list ++ 34 ∷ rest))) q ∙ shown
      where
        shown : 32 ∷ (word_text (attribute e j) ++ 61 ∷ 34 ∷ (ids_text rs r.list ++ 34 ∷ rest)) ≡ attrs_onto e (attr j (ids_text rs r.list) ∷ []) rest
        shown = unfold attrs_onto in refl

list_text_lem : (rs : List Row) (r : Row) → list_text rs r ≡ text_of (list_pieces rs r)
list_text_lem rs r = by (is_history_kind r.kind) (is_empty r.list) (is_element_list r)
  where
    history : default_text rs r ≡ text_of (default_pieces rs 6 3 r)
    history = default_text_lem rs 6 3 r (unfold word_text in refl) (unfold word_text attribute attrs in refl)

    initial : default_text rs r ≡ text_of (default_pieces rs 11 1 r)
    initial = default_text_lem rs 11 1 r (unfold word_text in refl) (unfold word_text attribute attrs in refl)

    inside : (l : List ℕ) (ps : List Piece) → l ≡ text_of ps →
        ((60 ∷ 105 ∷ 110 ∷ 105 ∷ 116 ∷ 105 ∷ 97 ∷ 108 ∷ 62 ∷ []) ++ l) ++ (60 ∷ 47 ∷ 105 ∷ 110 ∷ 105 ∷ 116 ∷ 105 ∷ 97 ∷ 108 ∷ 62 ∷ []) ≡ text_of (start_tag 5 [] ∷ (ps ++ end_tag 5 ∷ []))
    inside l ps q = ap (λ (k : List ℕ). 60 ∷ 105 ∷ 110 ∷ 105 ∷ 116 ∷ 105 ∷ 97 ∷ 108 ∷ 62 ∷ (k ++ (60 ∷ 47 ∷ 105 ∷ 110 ∷ 105 ∷ 116 ∷ 105 ∷ 97 ∷ 108 ∷ 62 ∷ []))) q ∙ shown ∙ begun
      where
        ended : 60 ∷ 47 ∷ 105 ∷ 110 ∷ 105 ∷ 116 ∷ 105 ∷ 97 ∷ 108 ∷ 62 ∷ [] ≡ text_of (end_tag 5 ∷ [])
        ended = unfold text_of word_text in refl

        shown : 60 ∷ 105 ∷ 110 ∷ 105 ∷ 116 ∷ 105 ∷ 97 ∷ 108 ∷ 62 ∷ (text_of ps ++ (60 ∷ 47 ∷ 105 ∷ 110 ∷ 105 ∷ 116 ∷ 105 ∷ 97 ∷ 108 ∷ 62 ∷ [])) ≡ 60 ∷ 105 ∷ 110 ∷ 105 ∷ 116 ∷ 105 ∷ 97 ∷ 108 ∷ 62 ∷ text_of (ps ++ end_tag 5 ∷ [])
        shown = ap (λ (k : List ℕ). 60 ∷ 105 ∷ 110 ∷ 105 ∷ 116 ∷ 105 ∷ 97 ∷ 108 ∷ 62 ∷ k) (ap (λ (k : List ℕ). text_of ps ++ k) ended ∙ sym (text_both ps (end_tag 5 ∷ [])))

        begun : 60 ∷ 105 ∷ 110 ∷ 105 ∷ 116 ∷ 105 ∷ 97 ∷ 108 ∷ 62 ∷ text_of (ps ++ end_tag 5 ∷ []) ≡ text_of (start_tag 5 [] ∷ (ps ++ end_tag 5 ∷ []))
        begun = unfold text_of word_text attrs_onto in refl

    by : (h y l : Bool) →
        cond h (cond y [] (default_text rs r)) (cond l ((60 ∷ 105 ∷ 110 ∷ 105 ∷ 116 ∷ 105 ∷ 97 ∷ 108 ∷ 62 ∷ []) ++ default_text rs r ++ (60 ∷ 47 ∷ 105 ∷ 110 ∷ 105 ∷ 116 ∷ 105 ∷ 97 ∷ 108 ∷ 62 ∷ [])) []) ≡
        text_of (cond h (cond y [] (default_pieces rs 6 3 r)) (cond l (start_tag 5 [] ∷ (default_pieces rs 11 1 r ++ end_tag 5 ∷ [])) []))
    by true true l = unfold text_of in refl
    by true false l = history
    by false y true = inside (default_text rs r) (default_pieces rs 11 1 r) initial
    by false y false = unfold text_of in refl

pub inner_text_lem : (c : Content) (i : ℕ) (r : Row) → inner_text c i r ≡ text_of (inner_pieces c i r)
unfolding inner_text inner_pieces
inner_text_lem c i r =
    ap₂ (λ (k l : List ℕ). k ++ l) (ap₂ (λ (k l : List ℕ). k ++ l) (ap₂ (λ (k l : List ℕ). k ++ l) (entry_text rs r.entry) (exit_text rs r.exit)) (list_text_lem rs r)) (transitions_text rs (of_source c.transitions i)) ∙
    append_assoc (text_of a ++ text_of b) (text_of l) (text_of ts) ∙ append_assoc (text_of a) (text_of b) (text_of l ++ text_of ts) ∙
    ap (λ (k : List ℕ). text_of a ++ (text_of b ++ k)) (sym (text_both l ts)) ∙ ap (λ (k : List ℕ). text_of a ++ k) (sym (text_both b (l ++ ts))) ∙ sym (text_both a (b ++ (l ++ ts)))
  where
    rs : List Row
    rs = c.rows

    a : List Piece
    a = block_pieces_of c.rows 7 r.entry

    b : List Piece
    b = block_pieces_of c.rows 8 r.exit

    l : List Piece
    l = list_pieces c.rows r

    ts : List Piece
    ts = flat (transition_pieces c.rows) (of_source c.transitions i)

-- ---- rows

pub kind_word : (k : ℕ) → kind_name k ≡ word_text (row_element k)
unfolding word_text
kind_word zero = refl
kind_word (suc zero) = refl
kind_word (suc (suc zero)) = refl
kind_word (suc (suc (suc zero))) = refl
kind_word (suc (suc (suc (suc k)))) = refl

abbrev id_text : List ℕ → List ℕ
id_text v = given (32 ∷ 105 ∷ 100 ∷ 61 ∷ []) v

-- a name is not empty
name_full : (v : List ℕ) → is_name v ≡ true → is_empty v ≡ false
unfolding is_name is_empty
name_full [] h = cc
name_full (b ∷ bs) h = refl

abbrev initial_given : List Row → Row → List ℕ
initial_given rs r = given (32 ∷ 105 ∷ 110 ∷ 105 ∷ 116 ∷ 105 ∷ 97 ∷ 108 ∷ 61 ∷ []) (ids_text rs r.list)

module _ (e j : ℕ) (word : (105 ∷ 110 ∷ 105 ∷ 116 ∷ 105 ∷ 97 ∷ 108 ∷ []) ≡ word_text (attribute e j)) (rs : List Row) (r : Row) (rest : List ℕ) where
  initial_onto : cond (is_element_list r) [] (initial_given rs r) ++ rest ≡ attrs_onto e (initial_attr rs j r) rest
  initial_onto = by (is_element_list r)
    where
      by : (z : Bool) → cond z [] (initial_given rs r) ++ rest ≡ attrs_onto e (cond z [] (given_attr j (ids_text rs r.list))) rest
      by true = unfold attrs_onto in refl
      by false = ap (λ (w : List ℕ). given (32 ∷ (w ++ 61 ∷ [])) (ids_text rs r.list) ++ rest) word ∙ given_onto e j (ids_text rs r.list) rest

id_onto : (e : ℕ) → (105 ∷ 100 ∷ []) ≡ word_text (attribute e 0) → (v : List ℕ) → is_name v ≡ true → (xs : List Attr) (rest : List ℕ) → id_text v ++ attrs_onto e xs rest ≡ attrs_onto e (attr 0 v ∷ xs) rest
id_onto e w v n xs rest =
    ap (λ (k : List ℕ). given (32 ∷ (k ++ 61 ∷ [])) v ++ attrs_onto e xs rest) w ∙ given_onto e 0 v (attrs_onto e xs rest) ∙ there (is_empty v) (name_full v n) ∙ sym (attrs_both e (attr 0 v ∷ []) xs rest)
  where
    there : (z : Bool) → z ≡ false → attrs_onto e (cond z [] (attr 0 v ∷ [])) (attrs_onto e xs rest) ≡ attrs_onto e (attr 0 v ∷ []) (attrs_onto e xs rest)
    there true q = cc
    there false q = refl

abbrev root_text : List ℕ
root_text =
    32 ∷ 120 ∷ 109 ∷ 108 ∷ 110 ∷ 115 ∷ 61 ∷ 34 ∷ 104 ∷ 116 ∷ 116 ∷ 112 ∷ 58 ∷ 47 ∷ 47 ∷ 119 ∷ 119 ∷ 119 ∷ 46 ∷ 119 ∷ 51 ∷ 46 ∷ 111 ∷ 114 ∷ 103 ∷ 47 ∷ 50 ∷ 48 ∷ 48 ∷ 53 ∷ 47 ∷ 48 ∷ 55 ∷ 47 ∷ 115 ∷ 99 ∷ 120 ∷ 109 ∷ 108 ∷ 34 ∷ 32 ∷ 118 ∷ 101 ∷ 114 ∷ 115 ∷ 105 ∷ 111 ∷ 110 ∷ 61 ∷ 34 ∷ 49 ∷ 46 ∷ 48 ∷ 34 ∷ []

-- the attributes of a row by its kind
abbrev attributes_by : ℕ → List Row → Row → List ℕ
attributes_by k rs r =
    cond (eqb k 0) root_text [] ++ id_text r.id ++ cond (is_history_kind k || is_element_list r) [] (initial_given rs r) ++ cond (eqb k 5) ((32 ∷ 116 ∷ 121 ∷ 112 ∷ 101 ∷ 61 ∷ []) ++ quoted deep) []

root_onto : (xs : List Attr) (rest : List ℕ) → root_text ++ attrs_onto 0 xs rest ≡ attrs_onto 0 (attr 0 namespace ∷ attr 1 version_text ∷ xs) rest
unfolding word_text attrs_onto attribute attrs
root_onto xs rest = refl

deep_onto : (rest : List ℕ) → ((32 ∷ 116 ∷ 121 ∷ 112 ∷ 101 ∷ 61 ∷ []) ++ quoted deep) ++ rest ≡ attrs_onto 4 (attr 1 deep ∷ []) rest
unfolding word_text attrs_onto attribute attrs
deep_onto rest = refl

-- no list, no attribute
no_list : (rs : List Row) (r : Row) → r.list ≡ [] → cond (is_element_list r) [] (initial_given rs r) ≡ []
no_list rs r h = ap (λ (l : List ℕ). cond (not (is_empty l) && not (is_empty r.block)) [] (given (32 ∷ 105 ∷ 110 ∷ 105 ∷ 116 ∷ 105 ∷ 97 ∷ 108 ∷ 61 ∷ []) (ids_text rs l))) h ∙ nothing
  where
    nothing : cond (not (is_empty {A = ℕ} []) && not (is_empty r.block)) [] (given (32 ∷ 105 ∷ 110 ∷ 105 ∷ 116 ∷ 105 ∷ 97 ∷ 108 ∷ 61 ∷ []) (ids_text rs [])) ≡ []
    nothing = unfold is_empty spaced in refl

no_id_lem : (v : List ℕ) → v ≡ [] → id_text v ≡ []
no_id_lem v h = ap id_text h ∙ nothing
  where
    nothing : id_text [] ≡ []
    nothing = unfold is_empty in refl

attributes_by_lem : (k : ℕ) (rs : List Row) (r : Row) → Shaped k r → (rest : List ℕ) → attributes_by k rs r ++ rest ≡ attrs_onto (row_element k) (kind_attrs rs r k) rest
attributes_by_lem zero rs r (i, b) rest =
    four root_text (id_text r.id) (cond (is_element_list r) [] (initial_given rs r)) [] rest ∙
    ap (λ (l : List ℕ). root_text ++ (l ++ (cond (is_element_list r) [] (initial_given rs r) ++ rest))) (no_id_lem r.id i) ∙
    ap (λ (l : List ℕ). root_text ++ l) (initial_onto 0 2 (unfold word_text attribute attrs in refl) rs r rest) ∙ root_onto (initial_attr rs 2 r) rest
attributes_by_lem (suc zero) rs r (i, b) rest =
    four [] (id_text r.id) (cond (is_element_list r) [] (initial_given rs r)) [] rest ∙
    ap (λ (l : List ℕ). id_text r.id ++ l) (initial_onto 1 1 (unfold word_text attribute attrs in refl) rs r rest) ∙
    id_onto 1 (unfold word_text attribute attrs in refl) r.id i (initial_attr rs 1 r) rest
attributes_by_lem (suc (suc zero)) rs r (i, l, b) rest =
    four [] (id_text r.id) (cond (is_element_list r) [] (initial_given rs r)) [] rest ∙ ap (λ (l : List ℕ). id_text r.id ++ (l ++ rest)) (no_list rs r l) ∙
    ap (λ (l : List ℕ). id_text r.id ++ l) (nothing rest) ∙ id_onto 2 (unfold word_text attribute attrs in refl) r.id i [] rest
  where
    nothing : (rest : List ℕ) → rest ≡ attrs_onto 2 [] rest
    nothing rest = unfold attrs_onto in refl
attributes_by_lem (suc (suc (suc zero))) rs r (i, l, b) rest =
    four [] (id_text r.id) (cond (is_element_list r) [] (initial_given rs r)) [] rest ∙ ap (λ (l : List ℕ). id_text r.id ++ (l ++ rest)) (no_list rs r l) ∙
    ap (λ (l : List ℕ). id_text r.id ++ l) (nothing rest) ∙ id_onto 3 (unfold word_text attribute attrs in refl) r.id i [] rest
  where
    nothing : (rest : List ℕ) → rest ≡ attrs_onto 3 [] rest
    nothing rest = unfold attrs_onto in refl
attributes_by_lem (suc (suc (suc (suc zero)))) rs r (i, l) rest =
    four [] (id_text r.id) [] [] rest ∙ ap (λ (l : List ℕ). id_text r.id ++ l) (nothing rest) ∙ id_onto 4 (unfold word_text attribute attrs in refl) r.id i [] rest
  where
    nothing : (rest : List ℕ) → rest ≡ attrs_onto 4 [] rest
    nothing rest = unfold attrs_onto in refl
attributes_by_lem (suc (suc (suc (suc (suc zero))))) rs r (i, l) rest =
    four [] (id_text r.id) [] ((32 ∷ 116 ∷ 121 ∷ 112 ∷ 101 ∷ 61 ∷ []) ++ quoted deep) rest ∙ ap (λ (l : List ℕ). id_text r.id ++ l) (deep_onto rest) ∙
    id_onto 4 (unfold word_text attribute attrs in refl) r.id i (attr 1 deep ∷ []) rest
attributes_by_lem (suc (suc (suc (suc (suc (suc k)))))) rs r s rest = absurd s

pub attributes_text : (rs : List Row) (r : Row) → Shaped r.kind r → (rest : List ℕ) → attributes_of rs r ++ rest ≡ attrs_onto (row_element r.kind) (row_attrs rs r) rest
attributes_text rs r s rest = attributes_by_lem r.kind rs r s rest

-- ---- the whole

-- the open rows as the writer keeps them
abbrev pub arounds : List Open → List Around
arounds [] = []
arounds (a ∷ more) = record { row = a.row; name = word_text a.element } ∷ arounds more

pub close_text_lem : (p : ℕ) (around : List Open) → close_text p (arounds around) ≡ text_of (close_pieces p around)
unfolding close_text close_pieces
close_text_lem p [] = unfold text_of in refl
close_text_lem p (a ∷ more) = by (eqb a.row p) (close_text_lem p more)
  where
    by : (z : Bool) → close_text p (arounds more) ≡ text_of (close_pieces p more) →
        cond z [] ((60 ∷ 47 ∷ []) ++ word_text a.element ++ 62 ∷ close_text p (arounds more)) ≡ text_of (cond z [] (end_tag a.element ∷ close_pieces p more))
    by true h = unfold text_of in refl
    by false h = ap (λ (l : List ℕ). 60 ∷ 47 ∷ (word_text a.element ++ 62 ∷ l)) h ∙ shown
      where
        shown : 60 ∷ 47 ∷ (word_text a.element ++ 62 ∷ text_of (close_pieces p more)) ≡ text_of (end_tag a.element ∷ close_pieces p more)
        shown = unfold text_of in refl

pub close_to_lem : (p : ℕ) (around : List Open) → close_to p (arounds around) ≡ arounds (closed_to p around)
unfolding close_to closed_to
close_to_lem p [] = refl
close_to_lem p (a ∷ more) = by (eqb a.row p) (close_to_lem p more)
  where
    by : (z : Bool) → close_to p (arounds more) ≡ arounds (closed_to p more) →
        cond z (arounds (a ∷ more)) (close_to p (arounds more)) ≡ arounds (cond z (a ∷ more) (closed_to p more))
    by true h = refl
    by false h = h
