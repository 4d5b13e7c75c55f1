-- The tags of a chart state the ids of its rows, in order, and none of them has a fault.
use Rattle.std.specs.Prelude.{◌≡◌, Bool, not, ◌&&◌, ◌||◌, cond, eqb}
use Rattle.std.proofs.Math.Path.{refl, ap, subst}
use Rattle.std.proofs.Common.{sym, ap₂, ◌∙◌, arith}
use Rattle.std.proofs.Math.Bool.{true, false}
use mathlib.Core.List.{List, [], ◌∷◌, ◌++◌}
use Prim.Native.Nat.{ℕ, zero, suc, ◌≤◌}
use Rattle.definition.specs.Rows.{is_empty, flat}
use Rattle.definition.specs.Names.{is_name}
use Rattle.definition.specs.Tables.{no_number}
use Rattle.grammar.specs.Grammar.{attribute}
use Rattle.grammar.specs.Tables.{attrs}
use Rattle.reading.specs.Tags.{Part, Shape, opening, empty, Markup}
use Rattle.reading.specs.Faults.{id_word, states, value_of, is_row_tag, is_closing, ids_of, is_among, fault_if, part_faults, tag_faults, deep}
use Rattle.reading.specs.Content.{Row, Content, of_source}
use Rattle.reading.specs.Print.{id_of, ids_text, is_element_list}
use Rattle.written.specs.Pieces.{Attr, attrs_at, parts_at, behind_attr, tags_at}
use Rattle.written.specs.Written.{attr, start_tag, empty_tag, end_tag, initial_attr, inner_pieces, row_element, kind_attrs, row_attrs, Open, close_pieces, closed_to, is_bare, rows_pieces, pieces}
use Rattle.written.specs.Sound.{AllOf, no_more, more, Ref, Shaped, RowFits, TransitionFits}
use Rattle.written.specs.Laid.{Laid, laid_out, lays, all_of_source}
use Rattle.written.specs.Faultless.{Clean, clean_parts, state_id, parallel_id, final_id, history_id, name_clean, deep_clean, namespace_clean, version_clean, Listed, root_initial, state_initial, list_clean}
use Rattle.written.specs.Noted.{Notes, notes_none, notes_both, one_fault, started, quiet_start, quiet_empty, quiet_end, transitions_quiet, block_element_quiet, list_quiet}

-- ---- the tag of a row

-- its first attribute is its id
first_states : (e i : ℕ) (v : List ℕ) (xs : List Attr) → attribute e 0 ≡ 26 → states id_word (parts_at i e (attr 0 v ∷ xs)) ≡ true
first_states e i v xs h = shown ∙ ap (λ (w : ℕ). eqb w 26 || states id_word (parts_at (behind_attr i e (attr 0 v)) e xs)) h
  where
    shown : states id_word (parts_at i e (attr 0 v ∷ xs)) ≡ (eqb (attribute e 0) 26 || states id_word (parts_at (behind_attr i e (attr 0 v)) e xs))
    shown = unfold parts_at states in refl

first_value : (e i : ℕ) (v : List ℕ) (xs : List Attr) → attribute e 0 ≡ 26 → value_of id_word (parts_at i e (attr 0 v ∷ xs)) ≡ v
first_value e i v xs h = shown ∙ ap (λ (w : ℕ). cond (eqb w 26) v (value_of id_word (parts_at (behind_attr i e (attr 0 v)) e xs))) h
  where
    shown : value_of id_word (parts_at i e (attr 0 v ∷ xs)) ≡ cond (eqb (attribute e 0) 26) v (value_of id_word (parts_at (behind_attr i e (attr 0 v)) e xs))
    shown = unfold parts_at value_of in refl

loud_id : (s : Shape) → is_closing s ≡ false → (i e : ℕ) (ps : List Part) (ts : List Markup) → is_row_tag e ≡ true → ids_of (started s i e ps ∷ ts) ≡ value_of id_word ps ∷ ids_of ts
loud_id s c i e ps ts h = shown ∙ ap₂ (λ (y z : Bool). cond (not y && z) (value_of id_word ps ∷ ids_of ts) (ids_of ts)) c h
  where
    shown : ids_of (started s i e ps ∷ ts) ≡ cond (not (is_closing s) && is_row_tag e) (value_of id_word ps ∷ ids_of ts) (ids_of ts)
    shown = unfold ids_of in refl

loud_fault : (ids : List (List ℕ)) (s : Shape) (i e : ℕ) (ps : List Part) → states id_word ps ≡ true → flat (part_faults ids) ps ≡ [] → tag_faults ids (started s i e ps) ≡ []
loud_fault ids s i e ps h f = shown ∙ ap₂ (λ (z : Bool) (l : List ℕ). fault_if (not (is_closing s) && is_row_tag e && not z) i ++ l) h f ∙ by (not (is_closing s)) (is_row_tag e)
  where
    shown : tag_faults ids (started s i e ps) ≡ fault_if (not (is_closing s) && is_row_tag e && not (states id_word ps)) i ++ flat (part_faults ids) ps
    shown = unfold tag_faults in refl

    by : (x y : Bool) → fault_if (x && y && false) i ++ [] ≡ []
    by true true = refl
    by true false = refl
    by false y = refl

-- a tag of a row, with content or without
pub record Stated (ids : List (List ℕ)) (e : ℕ) (xs : List Attr) (is : List (List ℕ)) : Type 0 where
  pub begun : Notes ids (start_tag e xs ∷ []) is
  pub bare : Notes ids (empty_tag e xs ∷ []) is

module _ (ids : List (List ℕ)) where
  loud : (e : ℕ) (v : List ℕ) (xs : List Attr) → is_row_tag e ≡ true → attribute e 0 ≡ 26 → AllOf (Clean ids e) (attr 0 v ∷ xs) → Stated ids e (attr 0 v ∷ xs) (v ∷ [])
  unfolding tags_at
  loud e v xs h a c =
      record {
        begun =
            record {
              noted = λ (i : ℕ) (ts : List Markup). loud_id opening refl i e (parts_at (attrs_at i e) e (attr 0 v ∷ xs)) ts h ∙ ap (λ (l : List ℕ). l ∷ ids_of ts) (first_value e (attrs_at i e) v xs a);
              faultless = λ (i : ℕ). one_fault ids _ (loud_fault ids opening i e (parts_at (attrs_at i e) e (attr 0 v ∷ xs)) (first_states e (attrs_at i e) v xs a) (clean_parts ids e (attrs_at i e) (attr 0 v ∷ xs) c));
            };
        bare =
            record {
              noted = λ (i : ℕ) (ts : List Markup). loud_id empty refl i e (parts_at (attrs_at i e) e (attr 0 v ∷ xs)) ts h ∙ ap (λ (l : List ℕ). l ∷ ids_of ts) (first_value e (attrs_at i e) v xs a);
              faultless = λ (i : ℕ). one_fault ids _ (loud_fault ids empty i e (parts_at (attrs_at i e) e (attr 0 v ∷ xs)) (first_states e (attrs_at i e) v xs a) (clean_parts ids e (attrs_at i e) (attr 0 v ∷ xs) c));
            };
      }

  module _ (rs : List Row) (n : ℕ) (named : (i : ℕ) → Ref n i → is_name (id_of rs i) ≡ true) (among : (i : ℕ) → Ref n i → is_among (id_of rs i) ids ≡ true) where
    initial_clean : (e j : ℕ) → Listed e j → (r : Row) → AllOf (Ref n) r.list → AllOf (Clean ids e) (initial_attr rs j r)
    initial_clean e j k r l = by (is_element_list r) (is_empty (ids_text rs r.list))
      where
        by : (z y : Bool) → AllOf (Clean ids e) (cond z [] (cond y [] (attr j (ids_text rs r.list) ∷ [])))
        by true y = no_more
        by false true = no_more
        by false false = more (list_clean ids rs n named among e j k r.list l) no_more

    row_stated : (k : ℕ) (r : Row) → 1 ≤ k → Shaped k r → AllOf (Ref n) r.list → Stated ids (row_element k) (kind_attrs rs r k) (r.id ∷ [])
    unfolding attribute attrs
    row_stated zero r h s l = absurd (omega arith)
    row_stated (suc zero) r h (d, b) l = loud 1 r.id (initial_attr rs 1 r) refl refl (more (name_clean ids 1 0 state_id r.id d) (initial_clean 1 1 state_initial r l))
    row_stated (suc (suc zero)) r h (d, e, b) l = loud 2 r.id [] refl refl (more (name_clean ids 2 0 parallel_id r.id d) no_more)
    row_stated (suc (suc (suc zero))) r h (d, e, b) l = loud 3 r.id [] refl refl (more (name_clean ids 3 0 final_id r.id d) no_more)
    row_stated (suc (suc (suc (suc zero)))) r h (d, b) l = loud 4 r.id [] refl refl (more (name_clean ids 4 0 history_id r.id d) no_more)
    row_stated (suc (suc (suc (suc (suc zero))))) r h (d, b) l =
        loud 4 r.id (attr 1 deep ∷ []) refl refl (more (name_clean ids 4 0 history_id r.id d) (more (deep_clean ids) no_more))
    row_stated (suc (suc (suc (suc (suc (suc k)))))) r h s l = absurd s

    root_stated : (k : ℕ) (r : Row) → k ≡ 0 → AllOf (Ref n) r.list → Stated ids (row_element k) (kind_attrs rs r k) []
    root_stated k r h l = subst (λ (x : ℕ). Stated ids (row_element x) (kind_attrs rs r x) []) (sym h) (record { begun = quiet_start 0 _ refl clean; bare = quiet_empty 0 _ refl clean })
      where
        clean : AllOf (Clean ids 0) (kind_attrs rs r 0)
        clean = more (namespace_clean ids) (more (version_clean ids) (initial_clean 0 2 root_initial r l))

-- ---- rows

unfoldable pub row_ids : List Row → List (List ℕ)
row_ids [] = []
row_ids (r ∷ rs) = r.id ∷ row_ids rs

close_quiet : (ids : List (List ℕ)) (p : ℕ) (around : List Open) → Notes ids (close_pieces p around) []
unfolding close_pieces
close_quiet ids p [] = notes_none
close_quiet ids p (a ∷ around) = by (eqb a.row p) (close_quiet ids p around)
  where
    by : (z : Bool) → Notes ids (close_pieces p around) [] → Notes ids (cond z [] (end_tag a.element ∷ close_pieces p around)) []
    by true h = notes_none
    by false h = notes_both (quiet_end a.element) h

module _ (c : Content) (ids : List (List ℕ)) (n : ℕ) (named : (i : ℕ) → Ref n i → is_name (id_of c.rows i) ≡ true) (among : (i : ℕ) → Ref n i → is_among (id_of c.rows i) ids ≡ true)
    (all : AllOf (TransitionFits n) c.transitions) where
  inner_quiet : (i : ℕ) (r : Row) → RowFits n r → Notes ids (inner_pieces c i r) []
  unfolding inner_pieces
  inner_quiet i r f =
      notes_both (block_element_quiet ids c.rows n named among 7 r.entry refl f.entry.each)
      (notes_both (block_element_quiet ids c.rows n named among 8 r.exit refl f.exit.each)
      (notes_both (list_quiet ids c.rows n named among r.kind r f.list f.block.each)
      (transitions_quiet ids c.rows n named among (of_source c.transitions i) (all_of_source c.transitions i all))))

  abbrev opened : ℕ → Row → Open
  opened i r = record { row = i; element = row_element r.kind }

  one_noted : (i : ℕ) (around : List Open) (r : Row) (rs : List Row) (is js : List (List ℕ)) → RowFits n r → Stated ids (row_element r.kind) (row_attrs c.rows r) is →
      Notes ids (rows_pieces c (suc i) (closed_to r.parent around) rs) js → Notes ids (rows_pieces c (suc i) (opened i r ∷ closed_to r.parent around) rs) js → Notes ids (rows_pieces c i around (r ∷ rs)) (is ++ js)
  unfolding rows_pieces
  one_noted i around r rs is js f s short long = notes_both (close_quiet ids r.parent around) (by (is_bare c i r rs))
    where
      by : (z : Bool) →
          Notes ids (cond z (empty_tag (row_element r.kind) (row_attrs c.rows r) ∷ rows_pieces c (suc i) (closed_to r.parent around) rs)
          (start_tag (row_element r.kind) (row_attrs c.rows r) ∷ (inner_pieces c i r ++ rows_pieces c (suc i) (opened i r ∷ closed_to r.parent around) rs))) (is ++ js)
      by true = notes_both s.bare short
      by false = notes_both s.begun (notes_both (inner_quiet i r f) long)

  rows_noted : (rs : List Row) (i : ℕ) (around : List Open) (path : List ℕ) → Laid path i rs → AllOf (RowFits n) rs → Notes ids (rows_pieces c i around rs) (row_ids rs)
  rows_noted [] i around path laid_out no_more = unfold row_ids rows_pieces in close_quiet ids no_number around
  rows_noted (r ∷ rs) i around path (lays up k e d) (more f g) =
      subst (Notes ids (rows_pieces c i around (r ∷ rs))) shown
      (one_noted i around r rs (r.id ∷ []) (row_ids rs) f (row_stated ids c.rows n named among r.kind r k f.shaped f.list) (rows_noted rs (suc i) (closed_to r.parent around) (i ∷ r.parent ∷ up) d g)
      (rows_noted rs (suc i) (opened i r ∷ closed_to r.parent around) (i ∷ r.parent ∷ up) d g))
    where
      shown : r.id ∷ row_ids rs ≡ row_ids (r ∷ rs)
      shown = unfold row_ids in refl

  pub pieces_noted : (r : Row) (rs : List Row) → c.rows ≡ r ∷ rs → r.kind ≡ 0 → Laid (0 ∷ []) 1 rs → RowFits n r → AllOf (RowFits n) rs → Notes ids (pieces c) (row_ids rs)
  unfolding pieces
  pieces_noted r rs e z d f g =
      subst (λ (l : List Row). Notes ids (rows_pieces c 0 [] l) (row_ids rs)) (sym e)
      (one_noted 0 [] r rs [] (row_ids rs) f (root_stated ids c.rows n named among r.kind r z f.list) (rows_noted rs 1 (closed_to r.parent []) (0 ∷ []) d g)
      (rows_noted rs 1 (opened 0 r ∷ closed_to r.parent []) (0 ∷ []) d g))
