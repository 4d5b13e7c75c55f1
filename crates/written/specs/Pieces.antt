-- What is written, tag by tag: the text of a list of tags, and the tags that a reader is to find in it, with their offsets.
use Rattle.std.specs.Prelude.{cond, List, [], ◌∷◌, ◌++◌, ℕ, zero, suc, ◌+◌, eqb, length}
use Rattle.grammar.specs.Grammar.{attribute}
use Rattle.reading.specs.Tags.{Part, Shape, opening, empty, closing, Markup, Draft}

-- an attribute by its place in the element's row of the grammar's table, and its value
pub record Attr : Type 0 where
  pub place : ℕ
  pub value : List ℕ

pub record Piece : Type 0 where
  pub shape : Shape
  pub element : ℕ
  pub attrs : List Attr

-- the words of elements and attributes (crate grammar, Tables)
unfoldable pub word_text : ℕ → List ℕ
word_text w =
    cond (eqb w 0) (115 ∷ 99 ∷ 120 ∷ 109 ∷ 108 ∷ [])
    (cond (eqb w 1) (115 ∷ 116 ∷ 97 ∷ 116 ∷ 101 ∷ [])
    (cond (eqb w 2) (112 ∷ 97 ∷ 114 ∷ 97 ∷ 108 ∷ 108 ∷ 101 ∷ 108 ∷ [])
    (cond (eqb w 3) (102 ∷ 105 ∷ 110 ∷ 97 ∷ 108 ∷ [])
    (cond (eqb w 4) (104 ∷ 105 ∷ 115 ∷ 116 ∷ 111 ∷ 114 ∷ 121 ∷ [])
    (cond (eqb w 5) (105 ∷ 110 ∷ 105 ∷ 116 ∷ 105 ∷ 97 ∷ 108 ∷ [])
    (cond (eqb w 6) (116 ∷ 114 ∷ 97 ∷ 110 ∷ 115 ∷ 105 ∷ 116 ∷ 105 ∷ 111 ∷ 110 ∷ [])
    (cond (eqb w 7) (111 ∷ 110 ∷ 101 ∷ 110 ∷ 116 ∷ 114 ∷ 121 ∷ [])
    (cond (eqb w 8) (111 ∷ 110 ∷ 101 ∷ 120 ∷ 105 ∷ 116 ∷ [])
    (cond (eqb w 9) (114 ∷ 97 ∷ 105 ∷ 115 ∷ 101 ∷ [])
    (cond (eqb w 10) (108 ∷ 111 ∷ 103 ∷ [])
    (cond (eqb w 11) (116 ∷ 114 ∷ 97 ∷ 110 ∷ 115 ∷ 105 ∷ 116 ∷ 105 ∷ 111 ∷ 110 ∷ [])
    (cond (eqb w 12) (105 ∷ 102 ∷ [])
    (cond (eqb w 13) (101 ∷ 108 ∷ 115 ∷ 101 ∷ [])
    (cond (eqb w 14) (101 ∷ 108 ∷ 115 ∷ 101 ∷ 105 ∷ 102 ∷ [])
    (cond (eqb w 15) (115 ∷ 101 ∷ 110 ∷ 100 ∷ [])
    (cond (eqb w 16) (99 ∷ 97 ∷ 110 ∷ 99 ∷ 101 ∷ 108 ∷ [])
    (cond (eqb w 24) (120 ∷ 109 ∷ 108 ∷ 110 ∷ 115 ∷ [])
    (cond (eqb w 25) (118 ∷ 101 ∷ 114 ∷ 115 ∷ 105 ∷ 111 ∷ 110 ∷ [])
    (cond (eqb w 26) (105 ∷ 100 ∷ [])
    (cond (eqb w 27) (105 ∷ 110 ∷ 105 ∷ 116 ∷ 105 ∷ 97 ∷ 108 ∷ [])
    (cond (eqb w 28) (116 ∷ 121 ∷ 112 ∷ 101 ∷ [])
    (cond (eqb w 29) (101 ∷ 118 ∷ 101 ∷ 110 ∷ 116 ∷ [])
    (cond (eqb w 30) (99 ∷ 111 ∷ 110 ∷ 100 ∷ [])
    (cond (eqb w 31) (116 ∷ 97 ∷ 114 ∷ 103 ∷ 101 ∷ 116 ∷ [])
    (cond (eqb w 32) (108 ∷ 97 ∷ 98 ∷ 101 ∷ 108 ∷ [])
    (cond (eqb w 33) (100 ∷ 101 ∷ 108 ∷ 97 ∷ 121 ∷ [])
    (cond (eqb w 34) (115 ∷ 101 ∷ 110 ∷ 100 ∷ 105 ∷ 100 ∷ [])
    [])))))))))))))))))))))))))))

-- " x="v"" before what follows
abbrev pub attr_onto : ℕ → Attr → List ℕ → List ℕ
attr_onto e a rest = 32 ∷ (word_text (attribute e a.place) ++ 61 ∷ 34 ∷ (a.value ++ 34 ∷ rest))

unfoldable pub attrs_onto : ℕ → List Attr → List ℕ → List ℕ
attrs_onto e [] rest = rest
attrs_onto e (a ∷ xs) rest = attr_onto e a (attrs_onto e xs rest)

-- a tag before what follows
abbrev pub shape_onto : Shape → ℕ → List Attr → List ℕ → List ℕ
shape_onto opening e xs rest = 60 ∷ (word_text e ++ attrs_onto e xs (62 ∷ rest))
shape_onto empty e xs rest = 60 ∷ (word_text e ++ attrs_onto e xs (47 ∷ 62 ∷ rest))
shape_onto closing e xs rest = 60 ∷ 47 ∷ (word_text e ++ 62 ∷ rest)

abbrev pub piece_onto : Piece → List ℕ → List ℕ
piece_onto p rest = shape_onto p.shape p.element p.attrs rest

unfoldable pub text_of : List Piece → List ℕ
text_of [] = []
text_of (p ∷ ps) = piece_onto p (text_of ps)

-- ---- the tags that are written, from offset i on

-- so many bytes further, one by one as they are read
abbrev pub further : ℕ → ℕ → ℕ
further i zero = i
further i (suc n) = further (i + 1) n

-- the offset of the value of an attribute whose space stands at i, and of what follows it
abbrev pub value_at : ℕ → ℕ → Attr → ℕ
value_at i e a = further i (3 + length (word_text (attribute e a.place)))

abbrev pub behind_attr : ℕ → ℕ → Attr → ℕ
behind_attr i e a = further (value_at i e a) (length a.value) + 1

abbrev pub part_at : ℕ → ℕ → Attr → Part
part_at i e a = record { element = e; word = attribute e a.place; from = value_at i e a; bytes = a.value }

unfoldable pub parts_at : ℕ → ℕ → List Attr → List Part
parts_at i e [] = []
parts_at i e (a ∷ xs) = part_at i e a ∷ parts_at (behind_attr i e a) e xs

unfoldable pub behind_attrs : ℕ → ℕ → List Attr → ℕ
behind_attrs i e [] = i
behind_attrs i e (a ∷ xs) = behind_attrs (behind_attr i e a) e xs

-- where a tag's attributes begin
abbrev pub attrs_at : ℕ → ℕ → ℕ
attrs_at i e = further i (1 + length (word_text e))

abbrev pub shape_at : Shape → ℕ → ℕ → List Attr → Markup
shape_at opening i e xs = record { at = i; shape = opening; element = e; parts = parts_at (attrs_at i e) e xs }
shape_at empty i e xs = record { at = i; shape = empty; element = e; parts = parts_at (attrs_at i e) e xs }
shape_at closing i e xs = record { at = i; shape = closing; element = e; parts = [] }

abbrev pub behind_shape : Shape → ℕ → ℕ → List Attr → ℕ
behind_shape opening i e xs = behind_attrs (attrs_at i e) e xs + 1
behind_shape empty i e xs = behind_attrs (attrs_at i e) e xs + 1 + 1
behind_shape closing i e xs = further i (3 + length (word_text e))

abbrev pub markup_at : ℕ → Piece → Markup
markup_at i p = shape_at p.shape i p.element p.attrs

abbrev pub behind_piece : ℕ → Piece → ℕ
behind_piece i p = behind_shape p.shape i p.element p.attrs

unfoldable pub tags_at : ℕ → List Piece → List Markup
tags_at i [] = []
tags_at i (p ∷ ps) = markup_at i p ∷ tags_at (behind_piece i p) ps

-- ---- a tag that is begun

abbrev pub draft : ℕ → ℕ → List Part → ℕ → List ℕ → Draft
draft at e ps from w = record { at = at; element = e; parts = ps; from = from; bytes = w }
