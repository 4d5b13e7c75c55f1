-- How many bytes tags take at least.
use Rattle.std.specs.Prelude.{◌≡◌, refl, Bool, true, false, not, ◌&&◌, cond, List, [], ◌∷◌, ◌++◌, ℕ, ◌+◌, ◌*◌, ◌≤◌, eqb, leb, length}
use Rattle.std.proofs.Common.{ap, ◌∙◌, arith}
use Rattle.grammar.specs.Words.{and_right, no}
use Rattle.reading.specs.Tags.{Part, Shape, opening, empty, closing, Markup}
use Rattle.reading.specs.Faults.{id_word, is_closing, is_row_tag, value_of, ids_of}
use Rattle.weights.specs.Sizes.{name_size, name_two, name_long, row_long, if_size}

-- the values, with so many bytes more for each
unfoldable pub value_bytes : ℕ → List Part → ℕ
value_bytes q [] = 0
value_bytes q (p ∷ ps) = length p.bytes + q + value_bytes q ps

pub values_snoc : (q : ℕ) (ps : List Part) (p : Part) → value_bytes q (ps ++ p ∷ []) ≡ value_bytes q ps + (length p.bytes + q)
unfolding value_bytes
values_snoc q [] p = omega arith
values_snoc q (r ∷ ps) p = let h = values_snoc q ps p in omega arith

-- an if has a cond: the white space before it, a byte of its name, "=" and its quotes. Of the attributes of other elements one of the quotes counts, as a byte of the value
abbrev pub cond_bytes : ℕ → ℕ
cond_bytes e = cond (eqb e 12) 5 0

abbrev pub quote_bytes : ℕ → ℕ
quote_bytes e = cond (eqb e 12) 0 1

fewer : (ps : List Part) → value_bytes 0 ps ≤ value_bytes 1 ps
unfolding value_bytes
fewer [] = omega arith
fewer (p ∷ ps) = let h = fewer ps in omega arith

pub values_most : (e : ℕ) (ps : List Part) → value_bytes (quote_bytes e) ps ≤ value_bytes 1 ps
values_most e ps = by (eqb e 12) ps
  where
    by : (z : Bool) (ps : List Part) → value_bytes (cond z 0 1) ps ≤ value_bytes 1 ps
    by true ps = fewer ps
    by false ps = omega arith

-- a start tag without its values and its end
unfoldable pub start_bytes : ℕ → ℕ
start_bytes e = 1 + name_size e + cond_bytes e

abbrev pub shape_bytes : Shape → ℕ → List Part → ℕ
shape_bytes opening e ps = start_bytes e + value_bytes (quote_bytes e) ps + 1
shape_bytes empty e ps = start_bytes e + value_bytes (quote_bytes e) ps + 2
shape_bytes closing e ps = name_size e + 3

abbrev pub tag_bytes : Markup → ℕ
tag_bytes t = shape_bytes t.shape t.element t.parts

unfoldable pub all_bytes : List Markup → ℕ
all_bytes [] = 0
all_bytes (t ∷ ts) = tag_bytes t + all_bytes ts

pub bytes_append : (ts us : List Markup) → all_bytes (ts ++ us) ≡ all_bytes ts + all_bytes us
unfolding all_bytes
bytes_append [] us = omega arith
bytes_append (t ∷ ts) us = let h = bytes_append ts us in omega arith

-- ---- at least four each

four : (s : Shape) (e : ℕ) (ps : List Part) → 4 ≤ shape_bytes s e ps
unfolding start_bytes
four opening e ps = let l = name_two e in omega arith
four empty e ps = let l = name_two e in omega arith
four closing e ps = let l = name_two e in omega arith

pub tags_few : (ts : List Markup) → length ts * 4 ≤ all_bytes ts
unfolding all_bytes
tags_few [] = omega arith
tags_few (t ∷ ts) = let h = tags_few ts in let l = four t.shape t.element t.parts in omega arith

pub start_name : (e : ℕ) → 1 + name_size e ≤ start_bytes e
unfolding start_bytes
start_name e = omega arith

-- and a row's start tag has seven
row_bytes : (s : Shape) (e : ℕ) (ps : List Part) → (not (is_closing s) && is_row_tag e) ≡ true → 7 ≤ shape_bytes s e ps
row_bytes opening e ps h = let l = row_long e (and_right (leb 1 e) (leb e 4) h) in let n = start_name e in omega arith
row_bytes empty e ps h = let l = row_long e (and_right (leb 1 e) (leb e 4) h) in let n = start_name e in omega arith
row_bytes closing e ps h = absurd (no h)

pub ids_few : (ts : List Markup) → length (ids_of ts) * 7 ≤ all_bytes ts
unfolding ids_of all_bytes
ids_few [] = omega arith
ids_few (t ∷ ts) = by (not (is_closing t.shape) && is_row_tag t.element) refl (ids_few ts)
  where
    by : (z : Bool) → (not (is_closing t.shape) && is_row_tag t.element) ≡ z → length (ids_of ts) * 7 ≤ all_bytes ts →
        length (cond z (value_of id_word t.parts ∷ ids_of ts) (ids_of ts)) * 7 ≤ tag_bytes t + all_bytes ts
    by true q h = let l = row_bytes t.shape t.element t.parts q in omega arith
    by false q h = omega arith

pub start_long : (e : ℕ) → 4 ≤ start_bytes e
unfolding start_bytes
start_long e = by (eqb e 12) refl
  where
    by : (z : Bool) → eqb e 12 ≡ z → 4 ≤ 1 + name_size e + cond z 5 0
    by true q = omega arith
    by false q = let l = name_long e q in omega arith

pub start_if : start_bytes 12 ≡ 8
unfolding start_bytes
start_if = let s = if_size in omega arith
