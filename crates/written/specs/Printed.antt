-- The text of a chart is the text of the tags that it is written as.
use Rattle.std.specs.Prelude.{◌≡◌, Bool, ◌&&◌, cond, ℕ, suc, length}
use Rattle.std.proofs.Math.Path.{sym, ap, ap₂}
use Rattle.std.proofs.Common.{◌∙◌}
use Rattle.std.proofs.Math.Bool.{true, false, not}
use mathlib.Core.List.{List, [], ◌∷◌, ◌++◌, append_assoc}
use Rattle.definition.specs.Rows.{is_empty}
use Rattle.definition.specs.Tables.{no_number}
use Rattle.reading.specs.Content.{Row, Content}
use Rattle.reading.specs.Print.{inner_text, kind_name, attributes_of, Around, close_to, has_child, rows_text, print}
use Rattle.written.specs.Pieces.{Piece, word_text, attrs_onto, text_of}
use Rattle.written.specs.Written.{start_tag, empty_tag, inner_pieces, row_element, row_attrs, Open, close_pieces, closed_to, is_bare, rows_pieces, pieces}
use Rattle.written.specs.Texts.{text_both, text_empty}
use Rattle.written.specs.Sound.{AllOf, no_more, more, RowFits}
use Rattle.written.specs.RowTexts.{inner_text_lem, kind_word, attributes_text, arounds, close_text_lem, close_to_lem}

module _ (c : Content) where
  -- a row's tag, with what follows it
  tag_text : (n : ℕ) (r : Row) → RowFits n r → (rest : List ℕ) → 60 ∷ ((kind_name r.kind ++ attributes_of c.rows r) ++ rest) ≡ 60 ∷ (word_text (row_element r.kind) ++ attrs_onto (row_element r.kind) (row_attrs c.rows r) rest)
  tag_text n r f rest =
      ap (λ (l : List ℕ). 60 ∷ l)
      (append_assoc (kind_name r.kind) (attributes_of c.rows r) rest ∙ ap₂ (λ (k l : List ℕ). k ++ l) (kind_word r.kind) (attributes_text c.rows r f.shaped rest))

  bare_text : (n i : ℕ) (r : Row) (rs : List Row) → RowFits n r → (z y : Bool) → z ≡ y → (short long : List ℕ) (ps qs : List Piece) → short ≡ text_of ps → long ≡ text_of qs →
      60 ∷ (kind_name r.kind ++ attributes_of c.rows r ++ cond z (47 ∷ 62 ∷ short) (62 ∷ (inner_text c i r ++ long))) ≡
      text_of (cond y (empty_tag (row_element r.kind) (row_attrs c.rows r) ∷ ps) (start_tag (row_element r.kind) (row_attrs c.rows r) ∷ (inner_pieces c i r ++ qs)))
  unfolding text_of
  bare_text n i r rs f true true q short long ps qs s l =
      tag_text n r f (47 ∷ 62 ∷ short) ∙ ap (λ (k : List ℕ). 60 ∷ (word_text (row_element r.kind) ++ attrs_onto (row_element r.kind) (row_attrs c.rows r) (47 ∷ 62 ∷ k))) s
  bare_text n i r rs f true false q short long ps qs s l = cc
  bare_text n i r rs f false true q short long ps qs s l = cc
  bare_text n i r rs f false false q short long ps qs s l =
      tag_text n r f (62 ∷ (inner_text c i r ++ long)) ∙
      ap (λ (k : List ℕ). 60 ∷ (word_text (row_element r.kind) ++ attrs_onto (row_element r.kind) (row_attrs c.rows r) (62 ∷ k)))
      (ap₂ (λ (k l : List ℕ). k ++ l) (inner_text_lem c i r) l ∙ sym (text_both (inner_pieces c i r) qs))

  rows_text_lem : (n i : ℕ) (around : List Open) (rs : List Row) → AllOf (RowFits n) rs → rows_text c i (arounds around) rs ≡ text_of (rows_pieces c i around rs)
  unfolding rows_text rows_pieces
  rows_text_lem n i around [] no_more = close_text_lem no_number around
  rows_text_lem n i around (r ∷ rs) (more f m) =
      ap₂ (λ (k l : List ℕ). k ++ l) (close_text_lem r.parent around)
      (bare_text n i r rs f (is_empty (inner_text c i r) && not (has_child i rs)) (is_bare c i r rs) bare _ _ _ _
      (short (rows_text_lem n (suc i) (closed_to r.parent around) rs m)) (long (rows_text_lem n (suc i) (record { row = i; element = row_element r.kind } ∷ closed_to r.parent around) rs m))) ∙
      sym (text_both (close_pieces r.parent around) _)
    where
      bare : (is_empty (inner_text c i r) && not (has_child i rs)) ≡ is_bare c i r rs
      bare = ap (λ (z : Bool). z && not (has_child i rs)) (ap (is_empty {A = ℕ}) (inner_text_lem c i r) ∙ text_empty (inner_pieces c i r))

      short : rows_text c (suc i) (arounds (closed_to r.parent around)) rs ≡ text_of (rows_pieces c (suc i) (closed_to r.parent around) rs) →
          rows_text c (suc i) (close_to r.parent (arounds around)) rs ≡ text_of (rows_pieces c (suc i) (closed_to r.parent around) rs)
      short h = ap (λ (l : List Around). rows_text c (suc i) l rs) (close_to_lem r.parent around) ∙ h

      long : rows_text c (suc i) (arounds (record { row = i; element = row_element r.kind } ∷ closed_to r.parent around)) rs ≡ text_of (rows_pieces c (suc i) (record { row = i; element = row_element r.kind } ∷ closed_to r.parent around) rs) →
          rows_text c (suc i) (record { row = i; name = kind_name r.kind } ∷ close_to r.parent (arounds around)) rs ≡
          text_of (rows_pieces c (suc i) (record { row = i; element = row_element r.kind } ∷ closed_to r.parent around) rs)
      long h =
          ap₂ (λ (w : List ℕ) (l : List Around). rows_text c (suc i) (record { row = i; name = w } ∷ l) rs) (kind_word r.kind) (close_to_lem r.parent around) ∙ h

-- what is printed is the text of the tags
pub print_text : (c : Content) → AllOf (RowFits (length c.rows)) c.rows → print c ≡ text_of (pieces c)
unfolding print pieces
print_text c f = rows_text_lem c (length c.rows) 0 [] c.rows f
