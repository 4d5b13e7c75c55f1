-- All tags of a chart may stand where they are written, and the last one ends the root.
use Rattle.std.specs.Prelude.{◌≡◌, Bool, true, false, not, cond, ℕ, suc, ◌≤◌, ◌<◌, ◌+◌, eqb, length}
use Rattle.std.proofs.Math.Path.{refl, subst}
use Rattle.std.proofs.Common.{sym, ap, ◌∙◌, arith, eqb-true}
use mathlib.Core.List.{List, [], ◌∷◌, ◌++◌}
use Rattle.definition.specs.Rows.{is_empty}
use Rattle.definition.specs.Names.{is_name}
use Rattle.definition.specs.Tables.{no_number}
use Rattle.grammar.specs.Grammar.{after, opens}
use Rattle.reading.specs.Content.{Row, Content}
use Rattle.reading.specs.Print.{id_of, has_child}
use Rattle.laws.specs.Bools.{no, not_so, and_right}
use Rattle.written.specs.Begins.{May, may_0_0, Ends, ends_2_0, ends_3_1, ends_4_1, ends_5_2, ends_6_3, ends_7_4}
use Rattle.written.specs.Walks.{not-false}
use Rattle.written.specs.Walked.{Goes, starts, stands, shuts, Fits, over, then, fits_both}
use Rattle.written.specs.Written.{start_tag, empty_tag, end_tag, inner_pieces, row_element, row_attrs, Open, close_pieces, closed_to, is_bare, rows_pieces, pieces}
use Rattle.written.specs.Sound.{AllOf, no_more, more, Ref, RowFits, TransitionFits}
use Rattle.written.specs.Inner.{RowLevel, in_root, in_settled, in_state, in_parallel, in_final_lem, in_history}
use Rattle.written.specs.Placed.{Placed, placed, row_may, row_after, inner_stands}
use Rattle.written.specs.Laid.{Laid, laid_out, lays, rows_of, Joined, level, beside, parent_open, all_closed, all_of_source}

-- the levels of the open rows, down to the one outside the root
pub data Levels : List Open → ℕ → List ℕ → Type 0 where
  outside : Levels [] 1 []
  inside : {a : Open} {around : List Open} {t u : ℕ} {st : List ℕ} → RowLevel t a.element → Levels around u st → Levels (a ∷ around) t (u ∷ st)

row_ends : {t e : ℕ} → RowLevel t e → Ends t e
row_ends in_root = ends_2_0
row_ends in_settled = ends_3_1
row_ends in_state = ends_4_1
row_ends in_parallel = ends_5_2
row_ends in_final_lem = ends_6_3
row_ends in_history = ends_7_4

-- behind the end tags up to row p
record Closed (p : ℕ) (around : List Open) (t : ℕ) (st : List ℕ) : Type 0 where
  pub top : ℕ
  pub rest : List ℕ
  pub fits : Fits t st (close_pieces p around) top rest
  pub levels : Levels (closed_to p around) top rest

close_stands : (p : ℕ) (around : List Open) (t : ℕ) (st : List ℕ) → Levels around t st → Closed p around t st
unfolding close_pieces closed_to
close_stands p [] t st l = record { top = t; rest = st; fits = over; levels = l }
close_stands p (a ∷ around) t st (inside {u = u} {st = su} r l) = by (eqb a.row p) refl (close_stands p around u su l)
  where
    by : (z : Bool) → eqb a.row p ≡ z → Closed p around u su → Closed p (a ∷ around) t (u ∷ su)
    by true e c =
        record {
          top = t;
          rest = u ∷ su;
          fits = subst (λ (y : Bool). Fits t (u ∷ su) (cond y [] (end_tag a.element ∷ close_pieces p around)) t (u ∷ su)) (sym e) over;
          levels = subst (λ (y : Bool). Levels (cond y (a ∷ around) (closed_to p around)) t (u ∷ su)) (sym e) (inside r l);
        }
    by false e c =
        record {
          top = c.top;
          rest = c.rest;
          fits = subst (λ (y : Bool). Fits t (u ∷ su) (cond y [] (end_tag a.element ∷ close_pieces p around)) c.top c.rest) (sym e) (then (shuts (row_ends r)) c.fits);
          levels = subst (λ (y : Bool). Levels (cond y (a ∷ around) (closed_to p around)) c.top c.rest) (sym e) c.levels;
        }

-- an open row has a number that a row may have
pub record Low (a : Open) : Type 0 where
  pub low : eqb a.row no_number ≡ false

close_all : (around : List Open) (t : ℕ) (st : List ℕ) → Levels around t st → AllOf Low around → Fits t st (close_pieces no_number around) 1 []
unfolding close_pieces
close_all [] t st outside no_more = over
close_all (a ∷ around) t st (inside {u = u} {st = su} r l) (more f g) =
    subst (λ (y : Bool). Fits t (u ∷ su) (cond y [] (end_tag a.element ∷ close_pieces no_number around)) 1 []) (sym f.low) (then (shuts (row_ends r)) (close_all around u su l g))

-- a level inside a row
record InRow (t : ℕ) : Type 0 where
  pub element : ℕ
  pub is : RowLevel t element

in_row : {around : List Open} {t p : ℕ} {st up : List ℕ} → Levels around t st → rows_of around ≡ p ∷ up → InRow t
unfolding is_empty
in_row {p = p} {up = up} outside e = absurd (none e)
  where
    none : [] ≡ p ∷ up → ⊥
    none e = no (sym (ap (is_empty {A = ℕ}) e))
in_row (inside {a = a} r l) e = record { element = a.element; is = r }

small_number : (i : ℕ) → i < 65535 → eqb i no_number ≡ false
small_number i h = not_so (eqb i no_number) (λ e. let q : i ≡ 65535 = eqb-true i no_number e in omega arith)

module _ (c : Content) (n : ℕ) (named : (i : ℕ) → Ref n i → is_name (id_of c.rows i) ≡ true) (ts : AllOf (TransitionFits n) c.transitions) where
  rows_stand : (rs : List Row) (i : ℕ) (around : List Open) (path : List ℕ) (t : ℕ) (st : List ℕ) → Laid path i rs → Joined path around rs → Levels around t st → AllOf (RowFits n) rs → AllOf Low around →
      i + length rs ≤ 65535 → Fits t st (rows_pieces c i around rs) 1 []
  unfolding rows_pieces
  rows_stand [] i around path t st laid_out j l no_more low small = close_all around t st l low
  rows_stand (r ∷ rs) i around path t st (lays up k e d) j l (more f g) low small =
      fits_both cl.fits (by (is_bare c i r rs) refl
      (λ h. rows_stand rs (suc i) (closed_to r.parent around) (i ∷ r.parent ∷ up) cl.top cl.rest d (beside i (ap (λ (x : List ℕ). i ∷ x) up_is) h) cl.levels g (all_closed r.parent around low) (omega arith))
      (rows_stand rs (suc i) (o ∷ closed_to r.parent around) (i ∷ r.parent ∷ up) p.back (cl.top ∷ cl.rest) d (level (ap (λ (x : List ℕ). i ∷ x) up_is)) (inside p.still cl.levels) g
      (more (record { low = small_number i (omega arith) }) (all_closed r.parent around low)) (omega arith)))
    where
      cl : Closed r.parent around t st
      cl = close_stands r.parent around t st l

      up_is : rows_of (closed_to r.parent around) ≡ r.parent ∷ up
      up_is = parent_open j e

      o : Open
      o = record { row = i; element = row_element r.kind }

      p : Placed c.rows r r.kind
      p = placed c.rows n named r f

      may : May cl.top (row_element r.kind)
      may = let w = in_row cl.levels up_is in row_may r.kind cl.top w.element k w.is

      by : (z : Bool) → is_bare c i r rs ≡ z → (has_child i rs ≡ false → Fits cl.top cl.rest (rows_pieces c (suc i) (closed_to r.parent around) rs) 1 []) →
          Fits p.back (cl.top ∷ cl.rest) (rows_pieces c (suc i) (o ∷ closed_to r.parent around) rs) 1 [] →
          Fits cl.top cl.rest
          (cond z (empty_tag (row_element r.kind) (row_attrs c.rows r) ∷ rows_pieces c (suc i) (closed_to r.parent around) rs)
          (start_tag (row_element r.kind) (row_attrs c.rows r) ∷ (inner_pieces c i r ++ rows_pieces c (suc i) (o ∷ closed_to r.parent around) rs))) 1 []
      by true b short long =
          then (subst (λ (u : ℕ). Goes cl.top cl.rest (empty_tag (row_element r.kind) (row_attrs c.rows r)) u cl.rest) (row_after r.kind cl.top k) (stands may p.stated p.complete p.ended))
          (short (not-false (has_child i rs) (and_right (is_empty (inner_pieces c i r)) (not (has_child i rs)) b)))
      by false b short long =
          then
          (subst (λ (u : ℕ). Goes cl.top cl.rest (start_tag (row_element r.kind) (row_attrs c.rows r)) (opens (row_element r.kind) p.set) (u ∷ cl.rest)) (row_after r.kind cl.top k)
          (starts may p.stated p.complete))
          (fits_both (inner_stands c n named i r f (all_of_source c.transitions i ts) (cl.top ∷ cl.rest)) long)

  -- the root and all rows in it
  root_stands : (r : Row) (rs : List Row) → r.kind ≡ 0 → Laid (0 ∷ []) 1 rs → RowFits n r → AllOf (RowFits n) rs → 1 + length rs ≤ 65535 → Fits 0 [] (rows_pieces c 0 [] (r ∷ rs)) 1 []
  unfolding rows_pieces close_pieces closed_to
  root_stands r rs z d f g small =
      by (is_bare c 0 r rs) refl (λ h. rows_stand rs 1 [] (0 ∷ []) 1 [] d (beside 0 refl h) outside g no_more small)
      (rows_stand rs 1 (o ∷ []) (0 ∷ []) p.back (1 ∷ []) d (level refl) (inside p.still outside) g (more (record { low = refl }) no_more) small)
    where
      o : Open
      o = record { row = 0; element = row_element r.kind }

      p : Placed c.rows r r.kind
      p = placed c.rows n named r f

      may : May 0 (row_element r.kind)
      may = subst (λ (k : ℕ). May 0 (row_element k)) (sym z) may_0_0

      behind : after 0 (row_element r.kind) ≡ 1
      behind = ap (λ (k : ℕ). after 0 (row_element k)) z ∙ unfold after in refl

      by : (z : Bool) → is_bare c 0 r rs ≡ z → (has_child 0 rs ≡ false → Fits 1 [] (rows_pieces c 1 [] rs) 1 []) → Fits p.back (1 ∷ []) (rows_pieces c 1 (o ∷ []) rs) 1 [] →
          Fits 0 [] (cond z (empty_tag (row_element r.kind) (row_attrs c.rows r) ∷ rows_pieces c 1 [] rs) (start_tag (row_element r.kind) (row_attrs c.rows r) ∷ (inner_pieces c 0 r ++ rows_pieces c 1 (o ∷ []) rs))) 1 []
      by true b short long =
          then (subst (λ (u : ℕ). Goes 0 [] (empty_tag (row_element r.kind) (row_attrs c.rows r)) u []) behind (stands may p.stated p.complete p.ended))
          (short (not-false (has_child 0 rs) (and_right (is_empty (inner_pieces c 0 r)) (not (has_child 0 rs)) b)))
      by false b short long =
          then (subst (λ (u : ℕ). Goes 0 [] (start_tag (row_element r.kind) (row_attrs c.rows r)) (opens (row_element r.kind) p.set) (u ∷ [])) behind (starts may p.stated p.complete))
          (fits_both (inner_stands c n named 0 r f (all_of_source c.transitions 0 ts) (1 ∷ [])) long)

  pub pieces_fit : (r : Row) (rs : List Row) → c.rows ≡ r ∷ rs → r.kind ≡ 0 → Laid (0 ∷ []) 1 rs → RowFits n r → AllOf (RowFits n) rs → 1 + length rs ≤ 65535 → Fits 0 [] (pieces c) 1 []
  unfolding pieces
  pieces_fit r rs e z d f g small = subst (λ (l : List Row). Fits 0 [] (rows_pieces c 0 [] l) 1 []) (sym e) (root_stands r rs z d f g small)
