-- The tag of a row, and what stands in it before its child rows, by its kind.
use Rattle.std.specs.Prelude.{◌≡◌, Bool, not, ◌&&◌, cond, ℕ, zero, suc, ◌≤◌}
use Rattle.std.proofs.Math.Path.{refl}
use Rattle.std.proofs.Common.{sym, ap, ◌∙◌, subst, arith}
use Rattle.std.proofs.Math.Bool.{true, false}
use mathlib.Core.List.{List, [], ◌∷◌, ◌++◌}
use Rattle.definition.specs.Rows.{is_empty}
use Rattle.definition.specs.Names.{is_name}
use Rattle.grammar.specs.Tables.{kinds, needed, opened, ends, bits, adds}
use Rattle.grammar.specs.Grammar.{has, added, is_complete, may_end, after, opens, kind_of}
use Rattle.reading.specs.Faults.{namespace, version_text, deep}
use Rattle.reading.specs.Content.{Act, Row, Content, of_source}
use Rattle.reading.specs.Print.{id_of, ids_text, is_element_list, is_history_kind}
use Rattle.laws.specs.Bools.{no}
use Rattle.written.specs.Pieces.{Piece}
use Rattle.written.specs.Begins.{May, Follows, follows_0_0_0, follows_0_1_1, follows_0_3_2, follows_1_0_0, follows_1_1_1, follows_2_0_0, follows_3_0_0, follows_4_0_0, follows_4_1_1}
use Rattle.written.specs.Walks.{reads, Stated, none as no-attr, one}
use Rattle.written.specs.Walked.{Fits, over, fits_both}
use Rattle.written.specs.Written.{attr, start_tag, end_tag, initial_attr, default_pieces, inner_pieces, row_element, kind_attrs}
use Rattle.written.specs.Sound.{AllOf, no_more, more, Ref, BlockFits, Shaped, RowFits, TransitionFits}
use Rattle.written.specs.Spelt.{Plain, plain_byte}
use Rattle.written.specs.Values.{reads_free, reads_name}
use Rattle.written.specs.Inner.{RowLevel, in_root, in_settled, in_state, in_parallel, in_final_lem, in_history, state_may, parallel_may, final_may, history_may, transitions_stand, entry_stands, exit_stands, ids_read, default_stands, initial_stands}

unfoldable all : ℕ
unfolding kinds needed opened ends bits adds has added is_complete may_end after opens kind_of
all = 0

pub namespace_plain : AllOf Plain namespace
namespace_plain =
    (more (plain_byte 104 (omega arith) (omega arith) (λ e. omega arith))
    (more (plain_byte 116 (omega arith) (omega arith) (λ e. omega arith))
    (more (plain_byte 116 (omega arith) (omega arith) (λ e. omega arith))
    (more (plain_byte 112 (omega arith) (omega arith) (λ e. omega arith))
    (more (plain_byte 58 (omega arith) (omega arith) (λ e. omega arith))
    (more (plain_byte 47 (omega arith) (omega arith) (λ e. omega arith))
    (more (plain_byte 47 (omega arith) (omega arith) (λ e. omega arith))
    (more (plain_byte 119 (omega arith) (omega arith) (λ e. omega arith))
    (more (plain_byte 119 (omega arith) (omega arith) (λ e. omega arith))
    (more (plain_byte 119 (omega arith) (omega arith) (λ e. omega arith))
    (more (plain_byte 46 (omega arith) (omega arith) (λ e. omega arith))
    (more (plain_byte 119 (omega arith) (omega arith) (λ e. omega arith))
    (more (plain_byte 51 (omega arith) (omega arith) (λ e. omega arith))
    (more (plain_byte 46 (omega arith) (omega arith) (λ e. omega arith))
    (more (plain_byte 111 (omega arith) (omega arith) (λ e. omega arith))
    (more (plain_byte 114 (omega arith) (omega arith) (λ e. omega arith))
    (more (plain_byte 103 (omega arith) (omega arith) (λ e. omega arith))
    (more (plain_byte 47 (omega arith) (omega arith) (λ e. omega arith))
    (more (plain_byte 50 (omega arith) (omega arith) (λ e. omega arith))
    (more (plain_byte 48 (omega arith) (omega arith) (λ e. omega arith))
    (more (plain_byte 48 (omega arith) (omega arith) (λ e. omega arith))
    (more (plain_byte 53 (omega arith) (omega arith) (λ e. omega arith))
    (more (plain_byte 47 (omega arith) (omega arith) (λ e. omega arith))
    (more (plain_byte 48 (omega arith) (omega arith) (λ e. omega arith))
    (more (plain_byte 55 (omega arith) (omega arith) (λ e. omega arith))
    (more (plain_byte 47 (omega arith) (omega arith) (λ e. omega arith))
    (more (plain_byte 115 (omega arith) (omega arith) (λ e. omega arith))
    (more (plain_byte 99 (omega arith) (omega arith) (λ e. omega arith))
    (more (plain_byte 120 (omega arith) (omega arith) (λ e. omega arith))
    (more (plain_byte 109 (omega arith) (omega arith) (λ e. omega arith))
    (more (plain_byte 108 (omega arith) (omega arith) (λ e. omega arith))
    no_more)))))))))))))))))))))))))))))))

pub version_text_plain : AllOf Plain version_text
version_text_plain =
    (more (plain_byte 49 (omega arith) (omega arith) (λ e. omega arith))
    (more (plain_byte 46 (omega arith) (omega arith) (λ e. omega arith))
    (more (plain_byte 48 (omega arith) (omega arith) (λ e. omega arith))
    no_more)))

pub deep_plain : AllOf Plain deep
deep_plain =
    (more (plain_byte 100 (omega arith) (omega arith) (λ e. omega arith))
    (more (plain_byte 101 (omega arith) (omega arith) (λ e. omega arith))
    (more (plain_byte 101 (omega arith) (omega arith) (λ e. omega arith))
    (more (plain_byte 112 (omega arith) (omega arith) (λ e. omega arith))
    no_more))))

-- what a row of the kind writes of its list, as an element
abbrev pub list_by : List Row → Row → ℕ → List Piece
list_by rs r k =
    cond (is_history_kind k) (cond (is_empty r.list) [] (default_pieces rs 6 3 r)) (cond (is_element_list r) (start_tag 5 [] ∷ (default_pieces rs 11 1 r ++ end_tag 5 ∷ [])) [])

-- the set of attributes of its tag, the level that it opens, and the level behind its list
pub record Placed (rs : List Row) (r : Row) (k : ℕ) : Type 0 where
  pub set : ℕ
  pub stated : Stated (row_element k) 0 (kind_attrs rs r k) set
  pub complete : is_complete (row_element k) set ≡ true
  pub ended : may_end (opens (row_element k) set) ≡ true
  pub level : RowLevel (opens (row_element k) set) (row_element k)
  pub back : ℕ
  pub still : RowLevel back (row_element k)
  pub listed : (st : List ℕ) → Fits (opens (row_element k) set) st (list_by rs r k) back st

-- a row without a block for its list has no initial element
no_element : (r : Row) → r.block ≡ [] → is_element_list r ≡ false
no_element r h = by (not (is_empty r.list)) (ap (λ (l : List Act). not (is_empty l)) h ∙ none)
  where
    none : not (is_empty {A = Act} []) ≡ false
    none = unfold is_empty in refl

    by : (z : Bool) {y : Bool} → y ≡ false → (z && y) ≡ false
    by true e = e
    by false e = refl

not_element : (rs : List Row) (r : Row) (st : List ℕ) (t : ℕ) → r.block ≡ [] → Fits t st (cond (is_element_list r) (start_tag 5 [] ∷ (default_pieces rs 11 1 r ++ end_tag 5 ∷ [])) []) t st
not_element rs r st t h = by (is_element_list r) (no_element r h)
  where
    by : (z : Bool) → z ≡ false → Fits t st (cond z (start_tag 5 [] ∷ (default_pieces rs 11 1 r ++ end_tag 5 ∷ [])) []) t st
    by true e = absurd (no (sym e))
    by false e = over

module _ (rs : List Row) (n : ℕ) (named : (i : ℕ) → Ref n i → is_name (id_of rs i) ≡ true) where
  -- an initial list in an attribute, in place j of e behind x, leads to y where it is there
  initial_stated : (e x j y : ℕ) → Follows e x j → kind_of e j ≡ 2 → added x j ≡ y → (r : Row) → AllOf (Ref n) r.list → Stated e x (initial_attr rs j r) (cond (is_element_list r) x (cond (is_empty (ids_text rs r.list)) x y))
  initial_stated e x j y f k a r l = by (is_element_list r) (is_empty (ids_text rs r.list)) refl
    where
      by : (z w : Bool) → is_empty (ids_text rs r.list) ≡ w → Stated e x (cond z [] (cond w [] (attr j (ids_text rs r.list) ∷ []))) (cond z x (cond w x y))
      by true w d = no-attr
      by false true d = no-attr
      by false false d =
          subst (λ (u : ℕ). Stated e x (attr j (ids_text rs r.list) ∷ []) u) a
          (one f (ap (λ (u : ℕ). reads u 0 (ids_text rs r.list)) k ∙ ids_read rs n named r.list l d) no-attr)

  root_placed : (r : Row) → Shaped 0 r → AllOf (Ref n) r.list → Placed rs r 0
  unfolding all
  root_placed r (i, b) l = by (cond (is_element_list r) 3 (cond (is_empty (ids_text rs r.list)) 3 7)) (initial_stated 0 3 2 7 follows_0_3_2 refl refl r l)
    where
      by : (s : ℕ) → Stated 0 3 (initial_attr rs 2 r) s → Placed rs r 0
      by s g =
          record {
            set = s;
            stated = one follows_0_0_0 (reads_free namespace namespace_plain) (one follows_0_1_1 (reads_free version_text version_text_plain) g);
            complete = refl;
            ended = refl;
            level = in_root;
            back = 2;
            still = in_root;
            listed = λ (st : List ℕ). not_element rs r st 2 b;
          }

  state_placed : (r : Row) → Shaped 1 r → AllOf (Ref n) r.list → BlockFits n r.block → Placed rs r 1
  unfolding all
  state_placed r (i, b) l k = by (is_element_list r) refl (is_empty (ids_text rs r.list)) (initial_stated 1 1 1 3 follows_1_1_1 refl refl r l)
    where
      listed_some : (x y : Bool) → (not x && y) ≡ true → x ≡ false
      listed_some true y e = cc
      listed_some false y e = refl

      by : (z : Bool) → is_element_list r ≡ z → (w : Bool) → Stated 1 1 (initial_attr rs 1 r) (cond (is_element_list r) 1 (cond w 1 3)) → Placed rs r 1
      by true e w g =
          record {
            set = 1;
            stated = one follows_1_0_0 (reads_name r.id i) (subst (λ (y : Bool). Stated 1 1 (initial_attr rs 1 r) (cond y 1 (cond w 1 3))) e g);
            complete = refl;
            ended = refl;
            level = in_state;
            back = 3;
            still = in_settled;
            listed =
                λ (st : List ℕ). subst (λ (y : Bool). Fits 4 st (cond y (start_tag 5 [] ∷ (default_pieces rs 11 1 r ++ end_tag 5 ∷ [])) []) 3 st) (sym e)
                (initial_stands rs n named st r (listed_some (is_empty r.list) (not (is_empty r.block)) e) l k);
          }
      by false e true g =
          record {
            set = 1;
            stated = one follows_1_0_0 (reads_name r.id i) (subst (λ (y : Bool). Stated 1 1 (initial_attr rs 1 r) (cond y 1 1)) e g);
            complete = refl;
            ended = refl;
            level = in_state;
            back = 4;
            still = in_state;
            listed = λ (st : List ℕ). subst (λ (y : Bool). Fits 4 st (cond y (start_tag 5 [] ∷ (default_pieces rs 11 1 r ++ end_tag 5 ∷ [])) []) 4 st) (sym e) over;
          }
      by false e false g =
          record {
            set = 3;
            stated = one follows_1_0_0 (reads_name r.id i) (subst (λ (y : Bool). Stated 1 1 (initial_attr rs 1 r) (cond y 1 3)) e g);
            complete = refl;
            ended = refl;
            level = in_settled;
            back = 3;
            still = in_settled;
            listed = λ (st : List ℕ). subst (λ (y : Bool). Fits 3 st (cond y (start_tag 5 [] ∷ (default_pieces rs 11 1 r ++ end_tag 5 ∷ [])) []) 3 st) (sym e) over;
          }

  parallel_placed : (r : Row) → Shaped 2 r → Placed rs r 2
  unfolding all
  parallel_placed r (i, l, b) =
      record { set = 1; stated = one follows_2_0_0 (reads_name r.id i) no-attr; complete = refl; ended = refl; level = in_parallel; back = 5; still = in_parallel; listed = λ (st : List ℕ). not_element rs r st 5 b }

  final_placed : (r : Row) → Shaped 3 r → Placed rs r 3
  unfolding all
  final_placed r (i, l, b) =
      record { set = 1; stated = one follows_3_0_0 (reads_name r.id i) no-attr; complete = refl; ended = refl; level = in_final_lem; back = 6; still = in_final_lem; listed = λ (st : List ℕ). not_element rs r st 6 b }

  default_listed : (r : Row) → is_empty r.list ≡ false → AllOf (Ref n) r.list → BlockFits n r.block → (st : List ℕ) → Fits 7 st (cond (is_empty r.list) [] (default_pieces rs 6 3 r)) 7 st
  default_listed r h l k st = subst (λ (y : Bool). Fits 7 st (cond y [] (default_pieces rs 6 3 r)) 7 st) (sym h) (default_stands rs n named st r h l k)

  shallow_placed : (r : Row) → Shaped 4 r → AllOf (Ref n) r.list → BlockFits n r.block → Placed rs r 4
  unfolding all
  shallow_placed r (i, h) l k =
      record { set = 1; stated = one follows_4_0_0 (reads_name r.id i) no-attr; complete = refl; ended = refl; level = in_history; back = 7; still = in_history; listed = default_listed r h l k }

  deep_placed : (r : Row) → Shaped 5 r → AllOf (Ref n) r.list → BlockFits n r.block → Placed rs r 5
  unfolding all
  deep_placed r (i, h) l k =
      record {
        set = 3;
        stated = one follows_4_0_0 (reads_name r.id i) (one follows_4_1_1 (reads_free deep deep_plain) no-attr);
        complete = refl;
        ended = refl;
        level = in_history;
        back = 7;
        still = in_history;
        listed = default_listed r h l k;
      }

  placed_by : (k : ℕ) (r : Row) → Shaped k r → AllOf (Ref n) r.list → BlockFits n r.block → Placed rs r k
  placed_by zero r s l b = root_placed r s l
  placed_by (suc zero) r s l b = state_placed r s l b
  placed_by (suc (suc zero)) r s l b = parallel_placed r s
  placed_by (suc (suc (suc zero))) r s l b = final_placed r s
  placed_by (suc (suc (suc (suc zero)))) r s l b = shallow_placed r s l b
  placed_by (suc (suc (suc (suc (suc zero))))) r s l b = deep_placed r s l b
  placed_by (suc (suc (suc (suc (suc (suc k)))))) r s l b = absurd s

  pub placed : (r : Row) → RowFits n r → Placed rs r r.kind
  placed r f = placed_by r.kind r f.shaped f.list f.block

-- a row that is not the root may stand in a row, and its tag leaves the level around it as it was
pub row_may : (k t e : ℕ) → 1 ≤ k → RowLevel t e → May t (row_element k)
row_may zero t e h l = absurd (omega arith)
row_may (suc zero) t e h l = state_may t e l
row_may (suc (suc zero)) t e h l = parallel_may t e l
row_may (suc (suc (suc zero))) t e h l = final_may t e l
row_may (suc (suc (suc (suc k)))) t e h l = history_may t e l

pub row_after : (k t : ℕ) → 1 ≤ k → after t (row_element k) ≡ t
unfolding after
row_after zero t h = absurd (omega arith)
row_after (suc zero) t h = refl
row_after (suc (suc zero)) t h = refl
row_after (suc (suc (suc zero))) t h = refl
row_after (suc (suc (suc (suc k)))) t h = refl

module _ (c : Content) (n : ℕ) (named : (i : ℕ) → Ref n i → is_name (id_of c.rows i) ≡ true) where
  -- what stands in a row before its child rows
  pub inner_stands : (i : ℕ) (r : Row) → (f : RowFits n r) → AllOf (TransitionFits n) (of_source c.transitions i) → (st : List ℕ) →
      let p = placed c.rows n named r f in
      Fits (opens (row_element r.kind) p.set) st (inner_pieces c i r) p.back st
  unfolding inner_pieces
  inner_stands i r f g st =
      let p = placed c.rows n named r f in
      fits_both (entry_stands c.rows n named _ _ st p.level r.entry f.entry)
      (fits_both (exit_stands c.rows n named _ _ st p.level r.exit f.exit)
      (fits_both (p.listed st) (transitions_stand c.rows n named _ _ st p.still (of_source c.transitions i) g)))
