-- The tags that a chart's content is written as, in the order of `print`.
use Rattle.std.specs.Prelude.{Bool, true, false, not, ◌&&◌, cond, List, [], ◌∷◌, ◌++◌, ℕ, zero, suc, eqb}
use Rattle.std.proofs.Math.Option.{Option, none, some}
use Rattle.definition.specs.Rows.{flat, is_empty}
use Rattle.definition.specs.Tables.{no_number}
use Rattle.reading.specs.Tags.{opening, empty, closing}
use Rattle.reading.specs.Faults.{namespace, version_text, internal, deep}
use Rattle.reading.specs.Content.{Act, raises, hosts, if_in, elseif_in, otherwise, end_if, sends, cancels, Row, Transition, Content, of_source}
use Rattle.reading.specs.Print.{number, is_history_kind, id_of, spaced, ids_text, is_end, is_if, row_of_if, is_element_list, has_child}
use Rattle.written.specs.Pieces.{Attr, Piece}

abbrev pub attr : ℕ → List ℕ → Attr
attr j v = record { place = j; value = v }

abbrev pub start_tag : ℕ → List Attr → Piece
start_tag e xs = record { shape = opening; element = e; attrs = xs }

abbrev pub empty_tag : ℕ → List Attr → Piece
empty_tag e xs = record { shape = empty; element = e; attrs = xs }

abbrev pub end_tag : ℕ → Piece
end_tag e = record { shape = closing; element = e; attrs = [] }

-- an attribute, if there is a value
abbrev pub given_attr : ℕ → List ℕ → List Attr
given_attr j v = cond (is_empty v) [] (attr j v ∷ [])

-- ---- blocks

-- In('id')
abbrev pub in_text : List Row → ℕ → List ℕ
in_text rs i = 73 ∷ 110 ∷ 40 ∷ 39 ∷ (id_of rs i ++ 39 ∷ 41 ∷ [])

abbrev pub delay_attr : ℕ → List Attr
delay_attr d = cond (eqb d 0) [] (attr 1 (number d) ∷ [])

abbrev pub act_piece : List Row → Act → Piece
act_piece rs (raises n) = empty_tag 9 (attr 0 n ∷ [])
act_piece rs (hosts k) = empty_tag 10 (attr 0 (number k) ∷ [])
act_piece rs (if_in i) = start_tag 12 (attr 0 (in_text rs i) ∷ [])
act_piece rs (elseif_in i) = empty_tag 14 (attr 0 (in_text rs i) ∷ [])
act_piece rs otherwise = empty_tag 13 []
act_piece rs end_if = end_tag 12
act_piece rs (sends n d none) = empty_tag 15 (attr 0 n ∷ delay_attr d)
act_piece rs (sends n d (some i)) = empty_tag 15 (attr 2 i ∷ attr 0 n ∷ delay_attr d)
act_piece rs (cancels n) = empty_tag 16 (attr 0 n ∷ [])

-- an if with nothing inside
abbrev pub empty_if : List Row → ℕ → Piece
empty_if rs i = empty_tag 12 (attr 0 (in_text rs i) ∷ [])

-- skip: the first is the end of an if with nothing inside
unfoldable pub block_pieces : List Row → Bool → List Act → List Piece
block_pieces rs skip [] = []
block_pieces rs true (a ∷ more) = block_pieces rs false more
block_pieces rs false (a ∷ more) = cond (is_if a && is_end more) (empty_if rs (row_of_if a) ∷ block_pieces rs true more) (act_piece rs a ∷ block_pieces rs false more)

-- ---- elements with something inside; f: the element that their end tag names

abbrev pub element_pieces : ℕ → ℕ → List Attr → List Piece → List Piece
element_pieces e f xs inside = cond (is_empty inside) (empty_tag e xs ∷ []) (start_tag e xs ∷ (inside ++ end_tag f ∷ []))

abbrev pub type_attr : Bool → List Attr
type_attr y = cond y (attr 0 internal ∷ []) []

abbrev pub cond_attr : List Row → Option ℕ → List Attr
cond_attr rs none = []
cond_attr rs (some i) = attr 2 (in_text rs i) ∷ []

abbrev pub transition_attrs : List Row → Transition → List Attr
transition_attrs rs t = type_attr t.internal ++ (given_attr 1 (spaced t.descriptors) ++ (cond_attr rs t.condition ++ given_attr 3 (ids_text rs t.targets)))

unfoldable pub transition_pieces : List Row → Transition → List Piece
transition_pieces rs t = element_pieces 6 6 (transition_attrs rs t) (block_pieces rs false t.block)

-- onentry, onexit
abbrev pub block_element : List Row → ℕ → List Act → List Piece
block_element rs e acts = cond (is_empty acts) [] (element_pieces e e [] (block_pieces rs false acts))

-- a history's default: transition 6, target in place 3; that of an initial element: 11, place 1
abbrev pub default_pieces : List Row → ℕ → ℕ → Row → List Piece
default_pieces rs e j r = element_pieces e 6 (attr j (ids_text rs r.list) ∷ []) (block_pieces rs false r.block)

abbrev pub list_pieces : List Row → Row → List Piece
list_pieces rs r =
    cond (is_history_kind r.kind) (cond (is_empty r.list) [] (default_pieces rs 6 3 r))
    (cond (is_element_list r) (start_tag 5 [] ∷ (default_pieces rs 11 1 r ++ end_tag 5 ∷ [])) [])

unfoldable pub inner_pieces : Content → ℕ → Row → List Piece
inner_pieces c i r =
    block_element c.rows 7 r.entry ++ (block_element c.rows 8 r.exit ++ (list_pieces c.rows r ++ flat (transition_pieces c.rows) (of_source c.transitions i)))

-- ---- rows

-- the element of a row by its kind
abbrev pub row_element : ℕ → ℕ
row_element zero = 0
row_element (suc zero) = 1
row_element (suc (suc zero)) = 2
row_element (suc (suc (suc zero))) = 3
row_element (suc (suc (suc (suc n)))) = 4

-- an initial list that stands in an attribute
abbrev pub initial_attr : List Row → ℕ → Row → List Attr
initial_attr rs j r = cond (is_element_list r) [] (given_attr j (ids_text rs r.list))

abbrev pub kind_attrs : List Row → Row → ℕ → List Attr
kind_attrs rs r zero = attr 0 namespace ∷ attr 1 version_text ∷ initial_attr rs 2 r
kind_attrs rs r (suc zero) = attr 0 r.id ∷ initial_attr rs 1 r
kind_attrs rs r (suc (suc zero)) = attr 0 r.id ∷ []
kind_attrs rs r (suc (suc (suc zero))) = attr 0 r.id ∷ []
kind_attrs rs r (suc (suc (suc (suc zero)))) = attr 0 r.id ∷ []
kind_attrs rs r (suc (suc (suc (suc (suc n))))) = attr 0 r.id ∷ attr 1 deep ∷ []

abbrev pub row_attrs : List Row → Row → List Attr
row_attrs rs r = kind_attrs rs r r.kind

-- an open row: its number and its element
pub record Open : Type 0 where
  pub row : ℕ
  pub element : ℕ

-- the end tags of the open rows up to row p
unfoldable pub close_pieces : ℕ → List Open → List Piece
close_pieces p [] = []
close_pieces p (a ∷ more) = cond (eqb a.row p) [] (end_tag a.element ∷ close_pieces p more)

unfoldable pub closed_to : ℕ → List Open → List Open
closed_to p [] = []
closed_to p (a ∷ more) = cond (eqb a.row p) (a ∷ more) (closed_to p more)

-- row i is written as one tag: nothing stands inside it
abbrev pub is_bare : Content → ℕ → Row → List Row → Bool
is_bare c i r rs = is_empty (inner_pieces c i r) && not (has_child i rs)

-- the rows from number i on
unfoldable pub rows_pieces : Content → ℕ → List Open → List Row → List Piece
rows_pieces c i around [] = close_pieces no_number around
rows_pieces c i around (r ∷ rs) =
    close_pieces r.parent around ++
    cond (is_bare c i r rs) (empty_tag (row_element r.kind) (row_attrs c.rows r) ∷ rows_pieces c (suc i) (closed_to r.parent around) rs)
    (start_tag (row_element r.kind) (row_attrs c.rows r) ∷ (inner_pieces c i r ++ rows_pieces c (suc i) (record { row = i; element = row_element r.kind } ∷ closed_to r.parent around) rs))

unfoldable pub pieces : Content → List Piece
pieces c = rows_pieces c 0 [] c.rows
