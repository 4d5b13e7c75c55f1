-- The text of a chart is the text of the tags that it is written as: actions, blocks, transitions.
use Rattle.std.specs.Prelude.{◌≡◌, Bool, true, false, ◌&&◌, cond, List, [], ◌∷◌, ◌++◌, ℕ, eqb}
use Rattle.std.proofs.Math.Path.{refl}
use Rattle.std.proofs.Common.{sym, ap, ap₂, ◌∙◌, append_assoc}
use Rattle.std.proofs.Math.Option.{none, some}
use Rattle.definition.specs.Rows.{is_empty}
use Rattle.grammar.specs.Grammar.{attribute}
use Rattle.grammar.specs.Tables.{attrs}
use Rattle.reading.specs.Tags.{Shape, opening, empty, closing}
use Rattle.reading.specs.Content.{Act, raises, hosts, if_in, elseif_in, otherwise, end_if, sends, cancels, Row}
use Rattle.reading.specs.Print.{number, id_of, quoted, given, condition, act_text, is_end, is_if, row_of_if, block_from, element}
use Rattle.written.specs.Pieces.{Attr, Piece, word_text, attr_onto, attrs_onto, shape_onto, piece_onto, text_of}
use Rattle.written.specs.Written.{attr, start_tag, empty_tag, end_tag, given_attr, in_text, delay_attr, act_piece, empty_if, block_pieces, element_pieces}

-- ---- what follows a tag

attr_onto_lem : (w v xs ys : List ℕ) → (w ++ 61 ∷ 34 ∷ (v ++ 34 ∷ xs)) ++ ys ≡ w ++ 61 ∷ 34 ∷ (v ++ 34 ∷ (xs ++ ys))
attr_onto_lem w v xs ys = append_assoc w (61 ∷ 34 ∷ (v ++ 34 ∷ xs)) ys ∙ ap (λ (l : List ℕ). w ++ 61 ∷ 34 ∷ l) (append_assoc v (34 ∷ xs) ys)

attrs_onto_lem : (e : ℕ) (more : List Attr) (xs ys : List ℕ) → attrs_onto e more (xs ++ ys) ≡ attrs_onto e more xs ++ ys
unfolding attrs_onto
attrs_onto_lem e [] xs ys = refl
attrs_onto_lem e (a ∷ more) xs ys =
    ap (attr_onto e a) (attrs_onto_lem e more xs ys) ∙ sym (ap (λ (l : List ℕ). 32 ∷ l) (attr_onto_lem (word_text (attribute e a.place)) a.value (attrs_onto e more xs) ys))

shape_onto_lem : (s : Shape) (e : ℕ) (more : List Attr) (xs ys : List ℕ) → shape_onto s e more (xs ++ ys) ≡ shape_onto s e more xs ++ ys
shape_onto_lem opening e more xs ys =
    ap (λ (l : List ℕ). 60 ∷ (word_text e ++ l)) (attrs_onto_lem e more (62 ∷ xs) ys) ∙ sym (ap (λ (l : List ℕ). 60 ∷ l) (append_assoc (word_text e) (attrs_onto e more (62 ∷ xs)) ys))
shape_onto_lem empty e more xs ys =
    ap (λ (l : List ℕ). 60 ∷ (word_text e ++ l)) (attrs_onto_lem e more (47 ∷ 62 ∷ xs) ys) ∙ sym (ap (λ (l : List ℕ). 60 ∷ l) (append_assoc (word_text e) (attrs_onto e more (47 ∷ 62 ∷ xs)) ys))
shape_onto_lem closing e more xs ys = sym (ap (λ (l : List ℕ). 60 ∷ 47 ∷ l) (append_assoc (word_text e) (62 ∷ xs) ys))

pub onto : (p : Piece) (xs ys : List ℕ) → piece_onto p (xs ++ ys) ≡ piece_onto p xs ++ ys
onto p xs ys = shape_onto_lem p.shape p.element p.attrs xs ys

pub text_both : (ps qs : List Piece) → text_of (ps ++ qs) ≡ text_of ps ++ text_of qs
unfolding text_of
text_both [] qs = refl
text_both (p ∷ ps) qs = ap (piece_onto p) (text_both ps qs) ∙ onto p (text_of ps) (text_of qs)

-- tags have a text
shape_full : (s : Shape) (e : ℕ) (more : List Attr) (xs : List ℕ) → is_empty (shape_onto s e more xs) ≡ false
unfolding is_empty
shape_full opening e more xs = refl
shape_full empty e more xs = refl
shape_full closing e more xs = refl

pub text_empty : (ps : List Piece) → is_empty (text_of ps) ≡ is_empty ps
unfolding text_of
text_empty [] = unfold is_empty in refl
text_empty (p ∷ ps) = shape_full p.shape p.element p.attrs (text_of ps) ∙ some_piece
  where
    some_piece : false ≡ is_empty (p ∷ ps)
    some_piece = unfold is_empty in refl

-- ---- attributes

pub attrs_both : (e : ℕ) (xs ys : List Attr) (rest : List ℕ) → attrs_onto e (xs ++ ys) rest ≡ attrs_onto e xs (attrs_onto e ys rest)
unfolding attrs_onto
attrs_both e [] ys rest = refl
attrs_both e (a ∷ xs) ys rest = ap (attr_onto e a) (attrs_both e xs ys rest)

-- a value and its quote before what follows
pub value_onto : (v rest : List ℕ) → (v ++ 34 ∷ []) ++ rest ≡ v ++ 34 ∷ rest
value_onto v rest = append_assoc v (34 ∷ []) rest

-- an attribute that is there, before what follows
pub given_onto : (e j : ℕ) (v rest : List ℕ) → given (32 ∷ (word_text (attribute e j) ++ 61 ∷ [])) v ++ rest ≡ attrs_onto e (given_attr j v) rest
unfolding attrs_onto
given_onto e j v rest = by (is_empty v)
  where
    by : (z : Bool) → cond z [] ((32 ∷ (word_text (attribute e j) ++ 61 ∷ [])) ++ quoted v) ++ rest ≡ attrs_onto e (cond z [] (attr j v ∷ [])) rest
    by true = refl
    by false =
        ap (λ (l : List ℕ). 32 ∷ l)
        (append_assoc (word_text (attribute e j) ++ 61 ∷ []) (quoted v) rest ∙ append_assoc (word_text (attribute e j)) (61 ∷ []) (quoted v ++ rest) ∙
        ap (λ (l : List ℕ). word_text (attribute e j) ++ 61 ∷ 34 ∷ l) (value_onto v rest))

-- ---- blocks

in_onto : (rs : List Row) (i : ℕ) (rest : List ℕ) → condition rs i ++ rest ≡ 32 ∷ 99 ∷ 111 ∷ 110 ∷ 100 ∷ 61 ∷ 34 ∷ (in_text rs i ++ 34 ∷ rest)
in_onto rs i rest = ap (λ (l : List ℕ). 32 ∷ 99 ∷ 111 ∷ 110 ∷ 100 ∷ 61 ∷ 34 ∷ l) (value_onto (in_text rs i) rest)

after_one : (v d e rest : List ℕ) → (((v ++ 34 ∷ []) ++ d) ++ e) ++ rest ≡ v ++ 34 ∷ (d ++ (e ++ rest))
after_one v d e rest = append_assoc ((v ++ 34 ∷ []) ++ d) e rest ∙ append_assoc (v ++ 34 ∷ []) d (e ++ rest) ∙ value_onto v (d ++ (e ++ rest))

after_two : (v w q d e rest : List ℕ) → (((((v ++ 34 ∷ []) ++ w) ++ q) ++ d) ++ e) ++ rest ≡ v ++ 34 ∷ (w ++ (q ++ (d ++ (e ++ rest))))
after_two v w q d e rest =
    append_assoc ((((v ++ 34 ∷ []) ++ w) ++ q) ++ d) e rest ∙ append_assoc (((v ++ 34 ∷ []) ++ w) ++ q) d (e ++ rest) ∙ after_one v w q (d ++ (e ++ rest))

abbrev delay_text : ℕ → List ℕ
delay_text d = cond (eqb d 0) [] ((32 ∷ 100 ∷ 101 ∷ 108 ∷ 97 ∷ 121 ∷ 61 ∷ []) ++ quoted (number d))

delay_onto : (d : ℕ) (rest : List ℕ) → delay_text d ++ rest ≡ attrs_onto 15 (delay_attr d) rest
unfolding word_text attrs_onto attribute attrs
delay_onto d rest = by (eqb d 0)
  where
    by : (z : Bool) → cond z [] ((32 ∷ 100 ∷ 101 ∷ 108 ∷ 97 ∷ 121 ∷ 61 ∷ []) ++ quoted (number d)) ++ rest ≡ attrs_onto 15 (cond z [] (attr 1 (number d) ∷ [])) rest
    by true = refl
    by false = ap (λ (l : List ℕ). 32 ∷ 100 ∷ 101 ∷ 108 ∷ 97 ∷ 121 ∷ 61 ∷ 34 ∷ l) (value_onto (number d) rest)

pub act_onto : (rs : List Row) (a : Act) (rest : List ℕ) → act_text rs a ++ rest ≡ piece_onto (act_piece rs a) rest
unfolding act_text word_text attrs_onto attribute attrs
act_onto rs (raises n) rest = rw (append_assoc n (34 ∷ []) (47 ∷ 62 ∷ []), append_assoc n (34 ∷ 47 ∷ 62 ∷ []) rest)
act_onto rs (hosts k) rest = rw (append_assoc (number k) (34 ∷ []) (47 ∷ 62 ∷ []), append_assoc (number k) (34 ∷ 47 ∷ 62 ∷ []) rest)
act_onto rs (if_in i) rest =
    let v = id_of rs i ++ 39 ∷ 41 ∷ [] in
    rw (append_assoc v (34 ∷ []) (62 ∷ []), append_assoc v (34 ∷ 62 ∷ []) rest)
act_onto rs (elseif_in i) rest =
    let v = id_of rs i ++ 39 ∷ 41 ∷ [] in
    rw (append_assoc v (34 ∷ []) (47 ∷ 62 ∷ []), append_assoc v (34 ∷ 47 ∷ 62 ∷ []) rest)
act_onto rs otherwise rest = refl
act_onto rs end_if rest = refl
act_onto rs (sends n d none) rest =
    ap (λ (l : List ℕ). 60 ∷ 115 ∷ 101 ∷ 110 ∷ 100 ∷ 32 ∷ 101 ∷ 118 ∷ 101 ∷ 110 ∷ 116 ∷ 61 ∷ 34 ∷ l)
    (after_one n (delay_text d) (47 ∷ 62 ∷ []) rest ∙ ap (λ (l : List ℕ). n ++ 34 ∷ l) (delay_onto d (47 ∷ 62 ∷ rest)))
act_onto rs (sends n d (some i)) rest =
    ap (λ (l : List ℕ). 60 ∷ 115 ∷ 101 ∷ 110 ∷ 100 ∷ 32 ∷ 105 ∷ 100 ∷ 61 ∷ 34 ∷ l)
    (after_two i (32 ∷ 101 ∷ 118 ∷ 101 ∷ 110 ∷ 116 ∷ 61 ∷ []) (quoted n) (delay_text d) (47 ∷ 62 ∷ []) rest ∙
    ap (λ (l : List ℕ). i ++ 34 ∷ 32 ∷ 101 ∷ 118 ∷ 101 ∷ 110 ∷ 116 ∷ 61 ∷ 34 ∷ l)
    (value_onto n (delay_text d ++ 47 ∷ 62 ∷ rest) ∙ ap (λ (l : List ℕ). n ++ 34 ∷ l) (delay_onto d (47 ∷ 62 ∷ rest))))
act_onto rs (cancels n) rest = rw (append_assoc n (34 ∷ []) (47 ∷ 62 ∷ []), append_assoc n (34 ∷ 47 ∷ 62 ∷ []) rest)

-- an if with nothing inside
empty_if_onto : (rs : List Row) (i : ℕ) (rest : List ℕ) → ((60 ∷ 105 ∷ 102 ∷ []) ++ condition rs i ++ (47 ∷ 62 ∷ [])) ++ rest ≡ piece_onto (empty_if rs i) rest
unfolding word_text attrs_onto attribute attrs
empty_if_onto rs i rest =
    let v = id_of rs i ++ 39 ∷ 41 ∷ [] in
    rw (append_assoc v (34 ∷ []) (47 ∷ 62 ∷ []), append_assoc v (34 ∷ 47 ∷ 62 ∷ []) rest)

pub block_text_lem : (rs : List Row) (skip : Bool) (acts : List Act) → block_from rs skip acts ≡ text_of (block_pieces rs skip acts)
unfolding block_from block_pieces text_of
block_text_lem rs skip [] = refl
block_text_lem rs true (a ∷ more) = block_text_lem rs false more
block_text_lem rs false (a ∷ more) = by (is_if a && is_end more) (block_text_lem rs true more) (block_text_lem rs false more)
  where
    by : (z : Bool) → block_from rs true more ≡ text_of (block_pieces rs true more) → block_from rs false more ≡ text_of (block_pieces rs false more) →
        cond z ((60 ∷ 105 ∷ 102 ∷ []) ++ condition rs (row_of_if a) ++ (47 ∷ 62 ∷ []) ++ block_from rs true more) (act_text rs a ++ block_from rs false more) ≡
        text_of (cond z (empty_if rs (row_of_if a) ∷ block_pieces rs true more) (act_piece rs a ∷ block_pieces rs false more))
    by true t f = empty_if_onto rs (row_of_if a) (block_from rs true more) ∙ ap (piece_onto (empty_if rs (row_of_if a))) t
    by false t f = act_onto rs a (block_from rs false more) ∙ ap (piece_onto (act_piece rs a)) f

-- ---- elements

-- an element by the texts of its attributes and of what is inside
pub element_text : (e f : ℕ) (xs : List Attr) (ps : List Piece) (name attributes inside : List ℕ) → name ≡ word_text e → name ≡ word_text f →
    ((rest : List ℕ) → attributes ++ rest ≡ attrs_onto e xs rest) → inside ≡ text_of ps → element name attributes inside ≡ text_of (element_pieces e f xs ps)
unfolding text_of
element_text e f xs ps name attributes inside n m a t = by (is_empty inside) (is_empty ps) (ap (is_empty {A = ℕ}) t ∙ text_empty ps)
  where
    joined : (rest : List ℕ) → 60 ∷ ((name ++ attributes) ++ rest) ≡ 60 ∷ (word_text e ++ attrs_onto e xs rest)
    joined rest = ap (λ (l : List ℕ). 60 ∷ l) (append_assoc name attributes rest ∙ ap₂ (λ (k l : List ℕ). k ++ l) n (a rest))

    behind : 62 ∷ (((inside ++ 60 ∷ 47 ∷ []) ++ name) ++ 62 ∷ []) ≡ 62 ∷ text_of (ps ++ end_tag f ∷ [])
    behind =
        ap (λ (l : List ℕ). 62 ∷ l)
        (append_assoc (inside ++ 60 ∷ 47 ∷ []) name (62 ∷ []) ∙ append_assoc inside (60 ∷ 47 ∷ []) (name ++ 62 ∷ []) ∙
        ap₂ (λ (k l : List ℕ). k ++ 60 ∷ 47 ∷ (l ++ 62 ∷ [])) t m ∙ sym (text_both ps (end_tag f ∷ [])))

    by : (z y : Bool) → z ≡ y →
        (60 ∷ []) ++ name ++ attributes ++ cond z (47 ∷ 62 ∷ []) ((62 ∷ []) ++ inside ++ (60 ∷ 47 ∷ []) ++ name ++ (62 ∷ [])) ≡
        text_of (cond y (empty_tag e xs ∷ []) (start_tag e xs ∷ (ps ++ end_tag f ∷ [])))
    by true true q = joined (47 ∷ 62 ∷ [])
    by true false q = cc
    by false true q = cc
    by false false q = joined _ ∙ ap (λ (l : List ℕ). 60 ∷ (word_text e ++ attrs_onto e xs l)) behind
