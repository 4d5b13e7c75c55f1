-- What stands in a row before its child rows, and whether anything does.
use Rattle.std.specs.Prelude.{◌≡◌, Bool, true, false, not, ◌||◌, leb, ltb}
use Rattle.std.proofs.Math.Path.{refl, ap, ap₂}
use Rattle.std.proofs.Common.{sym, ◌∙◌, arith}
use Rattle.std.proofs.Math.Bool.{◌&&◌}
use mathlib.Core.List.{List, [], ◌∷◌, ◌++◌, map}
use Prim.Native.Nat.{ℕ, zero, suc, ◌+◌, ◌-◌, ◌≤◌, ◌<◌}
use Rattle.std.proofs.Math.Dec.{eqb}
use borrow.Author.Tests.{eq-eqb, ne_eqb, le-leb, lt-leb, le-ltb, lt-ltb, not-true, not-false}
use Rattle.definition.specs.declared.Kind.{Kind}
use Rattle.definition.specs.Chart.{is_history}
use Rattle.definition.specs.Rows.{flat, from, is_empty}
use Rattle.definition.specs.Tables.{row_count, action_count, kind_at, row_cell, parent_at}
use Rattle.tables.specs.Ranges.{row_fits}
use Rattle.reading.specs.Content.{Act, Row, Transition, of_source}
use Rattle.reading.specs.Layout.{content, acts_at, row_back, transition_back}
use Rattle.reading.specs.Print.{block_element, is_history_kind, list_text, transition_text, inner_text, has_child}
use Rattle.spell.specs.Laid.{Laid, laid_as, laid_then}
use Rattle.spell.specs.Ready.{RowReady}
use Rattle.spell.specs.Blocks.{BlockReady}
use Rattle.elements.specs.Lists.{history_kind, list_empty, block_empty}
use Rattle.write_text.specs.Runs.{TransitionsReady, run_text}

-- no blocks, no transitions, no list that stands as an element
unfoldable pub is_blank : List ℕ → ℕ → ℕ → ℕ → Bool
is_blank numbers i t end =
    eqb (row_cell numbers i 4) 0 && eqb (row_cell numbers i 6) 0 && eqb t end && (eqb (row_cell numbers i 8) 0 || (not (leb 4 (row_cell numbers i 0)) && eqb (row_cell numbers i 10) 0))

-- and no child
unfoldable pub is_bare : List ℕ → ℕ → ℕ → ℕ → Bool
is_bare numbers i t end = is_blank numbers i t end && not (ltb (i + 1) (row_count numbers) && eqb (row_cell numbers (i + 1) 1) i)

-- ---- the writer's tests

and_no : (b : Bool) → false ≡ (b && false)
and_no true = refl
and_no false = refl

kind_past : (numbers : List ℕ) (i : ℕ) (kind : Kind) (past : Bool) → kind ≡ kind_at numbers i → past ≡ is_history kind → leb 4 (row_cell numbers i 0) ≡ past
unfolding kind_at
kind_past numbers i kind past e g = sym (history_kind (row_cell numbers i 0)) ∙ ap is_history (sym e) ∙ sym g

module _ (numbers : List ℕ) (i t end entered exited listed held : ℕ) where
  pub blank_entry : entered ≡ row_cell numbers i 4 → (entered ≡ 0 → ⊥) → false ≡ is_blank numbers i t end
  unfolding is_blank
  blank_entry e d = rw (ne_eqb (row_cell numbers i 4) 0 (λ q. d (e ∙ q)))

  module _ (e4 : entered ≡ row_cell numbers i 4) (n4 : entered ≡ 0) where
    pub blank_exit : exited ≡ row_cell numbers i 6 → (exited ≡ 0 → ⊥) → false ≡ is_blank numbers i t end
    unfolding is_blank
    blank_exit e d = rw (eq-eqb (row_cell numbers i 4) 0 (sym e4 ∙ n4), ne_eqb (row_cell numbers i 6) 0 (λ q. d (e ∙ q)))

    module _ (e6 : exited ≡ row_cell numbers i 6) (n6 : exited ≡ 0) where
      pub blank_run : (t ≡ end → ⊥) → false ≡ is_blank numbers i t end
      unfolding is_blank
      blank_run d = rw (eq-eqb (row_cell numbers i 4) 0 (sym e4 ∙ n4), eq-eqb (row_cell numbers i 6) 0 (sym e6 ∙ n6), ne_eqb t end d)

      module _ (q : t ≡ end) where
        pub blank_list : listed ≡ row_cell numbers i 8 → listed ≡ 0 → true ≡ is_blank numbers i t end
        unfolding is_blank
        blank_list e z = rw (eq-eqb (row_cell numbers i 4) 0 (sym e4 ∙ n4), eq-eqb (row_cell numbers i 6) 0 (sym e6 ∙ n6), eq-eqb t end q, eq-eqb (row_cell numbers i 8) 0 (sym e ∙ z))

        module _ (e8 : listed ≡ row_cell numbers i 8) (n8 : listed ≡ 0 → ⊥) where
          pub blank_history : (kind : Kind) (past : Bool) → kind ≡ kind_at numbers i → past ≡ is_history kind → past ≡ true → false ≡ is_blank numbers i t end
          unfolding is_blank
          blank_history kind past e g l =
              rw (eq-eqb (row_cell numbers i 4) 0 (sym e4 ∙ n4), eq-eqb (row_cell numbers i 6) 0 (sym e6 ∙ n6), eq-eqb t end q, ne_eqb (row_cell numbers i 8) 0 (λ z. n8 (e8 ∙ z)), kind_past numbers i kind past e g ∙ l)

          pub blank_block : (kind : Kind) (past : Bool) → kind ≡ kind_at numbers i → past ≡ is_history kind → past ≡ false → held ≡ row_cell numbers i 10 → eqb held 0 ≡ is_blank numbers i t end
          unfolding is_blank
          blank_block kind past e g l f =
              rw (eq-eqb (row_cell numbers i 4) 0 (sym e4 ∙ n4), eq-eqb (row_cell numbers i 6) 0 (sym e6 ∙ n6), eq-eqb t end q, ne_eqb (row_cell numbers i 8) 0 (λ z. n8 (e8 ∙ z)), kind_past numbers i kind past e g ∙ l, f)

module _ (numbers : List ℕ) (i t end : ℕ) (blank : Bool) (e : blank ≡ is_blank numbers i t end) where
  pub bare_full : not blank ≡ true → false ≡ is_bare numbers i t end
  unfolding is_bare
  bare_full q = rw (sym e ∙ not-true blank q)

  pub bare_last : not blank ≡ false → (n : ℕ) → n ≡ row_count numbers → n ≤ i + 1 → true ≡ is_bare numbers i t end
  unfolding is_bare
  bare_last q n f l = rw (sym e ∙ not-false blank q, le-ltb (i + 1) (row_count numbers) (omega arith))

  pub bare_next : not blank ≡ false → (n : ℕ) → n ≡ row_count numbers → i + 1 < n → (p : ℕ) → p ≡ parent_at numbers (i + 1) → not (eqb p i) ≡ is_bare numbers i t end
  unfolding is_bare parent_at
  bare_next q n f l p g = rw (sym e ∙ not-false blank q, lt-ltb (i + 1) (row_count numbers) (omega arith), g)

-- ---- what is written

pub record InnerReady (numbers names : List ℕ) (i t end : ℕ) : Type 0 where
  pub row : RowReady numbers names i
  pub transitions : TransitionsReady numbers names t end
  pub own : of_source (content numbers names).transitions i ≡ map (transition_back numbers names) (from (end - t) t)

-- the block whose start stands in a column of row i
abbrev pub own_block : List ℕ → List ℕ → ℕ → ℕ → List Act
own_block numbers names i column = acts_at numbers names (row_cell numbers i column) (row_cell numbers i (column + 1))

pub record OwnBlock (numbers names : List ℕ) (i column : ℕ) : Type 0 where
  pub row : RowReady numbers names i
  pub inside : row_cell numbers i column + row_cell numbers i (column + 1) ≤ action_count numbers
  pub width : column + 1 < 11

module _ (numbers names : List ℕ) (i column : ℕ) (h : OwnBlock numbers names i column) (start count : ℕ) (s : start ≡ row_cell numbers i column) (c : count ≡ row_cell numbers i (column + 1)) where
  pub own_ready : BlockReady numbers names start count
  own_ready = let f = h.inside in record { ready = h.row.ready; inside = omega arith }

  pub own_laid : (name : List ℕ) {place out : List ℕ} {from at : ℕ} → Laid (block_element (content numbers names).rows name (acts_at numbers names start count)) place from out at →
      Laid (block_element (content numbers names).rows name (own_block numbers names i column)) place from out at
  own_laid name p = laid_as (ap₂ (λ (x y : ℕ). block_element (content numbers names).rows name (acts_at numbers names x y)) (sym s) (sym c)) p

empty_both : (a b : List ℕ) → is_empty (a ++ b) ≡ (is_empty a && is_empty b)
unfolding is_empty
empty_both [] b = refl
empty_both (x ∷ a) b = refl

element_empty : (rs : List Row) (name : List ℕ) (acts : List Act) → is_empty (block_element rs name acts) ≡ is_empty acts
unfolding is_empty
element_empty rs name [] = refl
element_empty rs name (a ∷ acts) = refl

acts_empty : (numbers names : List ℕ) (start count : ℕ) → is_empty (acts_at numbers names start count) ≡ eqb count 0
unfolding acts_at from is_empty
acts_empty numbers names start zero = refl
acts_empty numbers names start (suc k) = sym (ne_eqb (suc k) 0 (λ q. absurd (omega arith)))

list_text_empty : (rs : List Row) (r : Row) (history none bare : Bool) → is_history_kind r.kind ≡ history → is_empty r.list ≡ none → is_empty r.block ≡ bare → is_empty (list_text rs r) ≡ (none || (not history && bare))
unfolding is_empty
list_text_empty rs r true true bare h n b = rw (h, n)
list_text_empty rs r true false bare h n b = rw (h, n)
list_text_empty rs r false true true h n b = rw (h, n)
list_text_empty rs r false true false h n b = rw (h, n)
list_text_empty rs r false false true h n b = rw (h, n, b)
list_text_empty rs r false false false h n b = rw (h, n, b)

transitions_empty : (rs : List Row) (ts : List Transition) → is_empty (flat (transition_text rs) ts) ≡ is_empty ts
unfolding flat transition_text is_empty
transitions_empty rs [] = refl
transitions_empty rs (t ∷ ts) = refl

run_empty : (f : ℕ → Transition) (t end : ℕ) → t ≤ end → is_empty (map f (from (end - t) t)) ≡ eqb t end
unfolding from is_empty
run_empty f t end l = by (end - t) refl
  where
    by : (k : ℕ) → end - t ≡ k → is_empty (map f (from k t)) ≡ eqb t end
    by zero e = sym (eq-eqb t end (omega arith))
    by (suc k) e = sym (ne_eqb t end (λ q. absurd (omega arith)))

module _ (numbers names : List ℕ) (i t end : ℕ) (h : InnerReady numbers names i t end) where
  abbrev back : Row
  back = row_back numbers names i

  abbrev rows : List Row
  rows = (content numbers names).rows

  shape : inner_text (content numbers names) i back ≡
      block_element rows (111 ∷ 110 ∷ 101 ∷ 110 ∷ 116 ∷ 114 ∷ 121 ∷ []) (acts_at numbers names (row_cell numbers i 3) (row_cell numbers i 4)) ++
      block_element rows (111 ∷ 110 ∷ 101 ∷ 120 ∷ 105 ∷ 116 ∷ []) (acts_at numbers names (row_cell numbers i 5) (row_cell numbers i 6)) ++ list_text rows back ++ run_text numbers names t end
  unfolding inner_text
  shape =
      ap (λ (ts : List Transition). entered back.entry ++ exited back.exit ++ list_text rows back ++ flat (transition_text rows) ts) h.own ∙
      ap₂ (λ (x y : List Act). entered x ++ exited y ++ list_text rows back ++ run_text numbers names t end) entry_is_lem exit_is
    where
      entered : List Act → List ℕ
      entered acts = block_element rows (111 ∷ 110 ∷ 101 ∷ 110 ∷ 116 ∷ 114 ∷ 121 ∷ []) acts

      exited : List Act → List ℕ
      exited acts = block_element rows (111 ∷ 110 ∷ 101 ∷ 120 ∷ 105 ∷ 116 ∷ []) acts

      entry_is_lem : back.entry ≡ acts_at numbers names (row_cell numbers i 3) (row_cell numbers i 4)
      entry_is_lem = unfold row_back in refl

      exit_is : back.exit ≡ acts_at numbers names (row_cell numbers i 5) (row_cell numbers i 6)
      exit_is = unfold row_back in refl

  pub entry_own : OwnBlock numbers names i 3
  entry_own = let f = (row_fits numbers i (record { tables = h.row.ready.tables; below = h.row.below })).entry.inside in record { row = h.row; inside = f; width = omega arith }

  pub exit_own : OwnBlock numbers names i 5
  exit_own = let f = (row_fits numbers i (record { tables = h.row.ready.tables; below = h.row.below })).exit.inside in record { row = h.row; inside = f; width = omega arith }

  pub inner_laid : {place o1 o2 o3 out : List ℕ} {from a1 a2 a3 at : ℕ} →
      Laid (block_element (content numbers names).rows (111 ∷ 110 ∷ 101 ∷ 110 ∷ 116 ∷ 114 ∷ 121 ∷ []) (own_block numbers names i 3)) place from o1 a1 →
      Laid (block_element (content numbers names).rows (111 ∷ 110 ∷ 101 ∷ 120 ∷ 105 ∷ 116 ∷ []) (own_block numbers names i 5)) o1 a1 o2 a2 →
      Laid (list_text (content numbers names).rows (row_back numbers names i)) o2 a2 o3 a3 → Laid (run_text numbers names t end) o3 a3 out at →
      Laid (inner_text (content numbers names) i (row_back numbers names i)) place from out at
  inner_laid p q r s = laid_as shape (laid_then (laid_then (laid_then p q) r) s)

  history_is : is_history_kind (row_back numbers names i).kind ≡ leb 4 (row_cell numbers i 0)
  unfolding row_back
  history_is = refl

  -- nothing stands there exactly where the writer's test says so
  pub blank_is : is_empty (inner_text (content numbers names) i (row_back numbers names i)) ≡ is_blank numbers i t end
  unfolding is_blank
  blank_is =
      ap is_empty shape ∙ empty_both _ (run_text numbers names t end) ∙ ap₂ ◌&&◌ (empty_both _ (list_text rows back) ∙ ap₂ ◌&&◌ (empty_both _ _ ∙ ap₂ ◌&&◌ entries exits) lists) runs ∙
      turned (eqb (row_cell numbers i 4) 0 && eqb (row_cell numbers i 6) 0) (eqb (row_cell numbers i 8) 0 || (not (leb 4 (row_cell numbers i 0)) && eqb (row_cell numbers i 10) 0)) (eqb t end)
    where
      entries : is_empty (block_element rows (111 ∷ 110 ∷ 101 ∷ 110 ∷ 116 ∷ 114 ∷ 121 ∷ []) (acts_at numbers names (row_cell numbers i 3) (row_cell numbers i 4))) ≡ eqb (row_cell numbers i 4) 0
      entries = element_empty rows (111 ∷ 110 ∷ 101 ∷ 110 ∷ 116 ∷ 114 ∷ 121 ∷ []) (acts_at numbers names (row_cell numbers i 3) (row_cell numbers i 4)) ∙ acts_empty numbers names (row_cell numbers i 3) (row_cell numbers i 4)

      exits : is_empty (block_element rows (111 ∷ 110 ∷ 101 ∷ 120 ∷ 105 ∷ 116 ∷ []) (acts_at numbers names (row_cell numbers i 5) (row_cell numbers i 6))) ≡ eqb (row_cell numbers i 6) 0
      exits = element_empty rows (111 ∷ 110 ∷ 101 ∷ 120 ∷ 105 ∷ 116 ∷ []) (acts_at numbers names (row_cell numbers i 5) (row_cell numbers i 6)) ∙ acts_empty numbers names (row_cell numbers i 5) (row_cell numbers i 6)

      lists : is_empty (list_text rows back) ≡ (eqb (row_cell numbers i 8) 0 || (not (leb 4 (row_cell numbers i 0)) && eqb (row_cell numbers i 10) 0))
      lists = list_text_empty rows back (leb 4 (row_cell numbers i 0)) (eqb (row_cell numbers i 8) 0) (eqb (row_cell numbers i 10) 0) history_is (list_empty numbers names i h.row) (block_empty numbers names i h.row)

      runs : is_empty (run_text numbers names t end) ≡ eqb t end
      runs = transitions_empty rows (map (transition_back numbers names) (from (end - t) t)) ∙ run_empty (transition_back numbers names) t end h.transitions.above

      turned : (a b c : Bool) → (a && b && c) ≡ (a && c && b)
      turned true true true = refl
      turned true true false = refl
      turned true false true = refl
      turned true false false = refl
      turned false b c = refl

-- the rows behind row i, and whether the first of them is a child
child_is : (numbers names : List ℕ) (i n : ℕ) → i < n → has_child i (map (row_back numbers names) (from (n - (i + 1)) (i + 1))) ≡ (ltb (i + 1) n && eqb (row_cell numbers (i + 1) 1) i)
unfolding from
child_is numbers names i n l = by (n - (i + 1)) refl
  where
    by : (k : ℕ) → n - (i + 1) ≡ k → has_child i (map (row_back numbers names) (from k (i + 1))) ≡ (ltb (i + 1) n && eqb (row_cell numbers (i + 1) 1) i)
    by zero e = rw (le-ltb (i + 1) n (omega arith))
    by (suc k) e = rw (lt-ltb (i + 1) n (omega arith)) (unfold row_back in refl)

pub bare_is : (numbers names : List ℕ) (i t end : ℕ) (h : InnerReady numbers names i t end) →
    (is_empty (inner_text (content numbers names) i (row_back numbers names i)) && not (has_child i (map (row_back numbers names) (from (row_count numbers - (i + 1)) (i + 1))))) ≡ is_bare numbers i t end
unfolding is_bare
bare_is numbers names i t end h = ap₂ (λ (a b : Bool). a && not b) (blank_is numbers names i t end h) (child_is numbers names i (row_count numbers) h.row.below)
