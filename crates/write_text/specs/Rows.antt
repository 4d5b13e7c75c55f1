-- The rows in document order: what is left of the text behind row i, with the inmost rows as the path of one of them.
use Rattle.std.specs.Prelude.{◌≡◌, Bool, false, ◌&&◌, ℕ, suc, ◌+◌, ◌-◌, ◌≤◌, ◌<◌, ltb, length}
use Rattle.std.proofs.Math.Path.{refl, sym, ap, ap₂}
use Rattle.std.proofs.Common.{◌∙◌, add-one}
use Rattle.std.proofs.Math.Bool.{true, not, cond}
use mathlib.Core.List.{List, [], ◌∷◌, ◌++◌, map, append_assoc}
use native.Mathlib.Omega.{arith}
use Rattle.std.proofs.Math.Dec.{eqb}
use borrow.Author.Tests.{eq-eqb, lt-ltb}
use Rattle.definition.specs.Rows.{from, is_empty}
use Rattle.definition.specs.Tables.{no_number, row_count, row_cell, parent_at}
use Rattle.laws.specs.Bools.{no, and_right}
use Rattle.tables.specs.Ranges.{RowIn}
use Rattle.write_text.specs.declared.rows.Next.{Next}
use Rattle.reading.specs.Content.{Row, Content}
use Rattle.reading.specs.Layout.{content, row_back}
use Rattle.reading.specs.Print.{Around, kind_name, inner_text, has_child, close_text, close_to, rows_text, print}
use Rattle.spell.specs.Laid.{laid, after, Laid, laid_as, laid_then, Left, left_turn, left_tail}
use Rattle.spell.specs.Ready.{Ready, RowReady}
use Rattle.elements.specs.Starts.{start_text}
use Rattle.write_text.specs.Runs.{RunReady, Run, Cursor, cursor_begin, run_own, run_next}
use Rattle.write_text.specs.Ends.{TreeReady, tree_ready, path_of, path_none, path_step, root_parent, next_open, next_beside}
use Rattle.write_text.specs.Inner.{is_blank, is_bare, InnerReady, bare_is}

-- ---- a row up to its child rows

abbrev pub row_text : List ℕ → List ℕ → ℕ → Bool → List ℕ
row_text numbers names i bare =
    start_text (content numbers names).rows (row_back numbers names i) ++ cond bare (47 ∷ 62 ∷ []) ((62 ∷ []) ++ inner_text (content numbers names) i (row_back numbers names i))

module _ (numbers names : List ℕ) (i : ℕ) (bare : Bool) {place o1 : List ℕ} {from a1 : ℕ} (p : Laid (start_text (content numbers names).rows (row_back numbers names i)) place from o1 a1) where
  pub row_bare : bare ≡ true → {out : List ℕ} {at : ℕ} → Laid (47 ∷ 62 ∷ []) o1 a1 out at → Laid (row_text numbers names i bare) place from out at
  row_bare e q = laid_as (ap (row_text numbers names i) e) (laid_then p q)

  pub row_full : bare ≡ false → {o2 out : List ℕ} {a2 at : ℕ} → Laid (62 ∷ []) o1 a1 o2 a2 → Laid (inner_text (content numbers names) i (row_back numbers names i)) o2 a2 out at →
      Laid (row_text numbers names i bare) place from out at
  row_full e q r = laid_as (ap (row_text numbers names i) e) (laid_then p (laid_then q r))

-- ---- one row of the definition

row_step : (c : Content) (i : ℕ) (around : List Around) (r : Row) (rs : List Row) (bare : Bool) → (is_empty (inner_text c i r) && not (has_child i rs)) ≡ bare →
    rows_text c i around (r ∷ rs) ≡
    (close_text r.parent around ++ (start_text c.rows r ++ cond bare (47 ∷ 62 ∷ []) ((62 ∷ []) ++ inner_text c i r))) ++
    rows_text c (suc i) (cond bare (close_to r.parent around) (record { row = i; name = kind_name r.kind } ∷ close_to r.parent around)) rs
unfolding rows_text
row_step c i around r rs true e = rw e (simp append_assoc)
row_step c i around r rs false e = rw e (simp append_assoc)

-- ---- one turn of the writer

pub record TurnReady (numbers names : List ℕ) (i t : ℕ) : Type 0 where
  pub row : RowReady numbers names i
  pub cursor : Cursor numbers i t

inner_ready : (numbers names : List ℕ) (i t end : ℕ) → TurnReady numbers names i t → Run numbers i t end → InnerReady numbers names i t end
inner_ready numbers names i t end h r =
    record {
      row = h.row;
      transitions = record { ready = h.row.ready; above = r.above; inside = r.inside };
      own = run_own numbers names h.row.ready i t end h.cursor r;
    }

-- the end tags before row i, and the row
pub record Turned (numbers names : List ℕ) (i inmost t : ℕ) (place : List ℕ) (from : ℕ) (out : List ℕ) (next : Next) : Type 0 where
  pub run : Run numbers i t next.t
  pub laid : Laid (close_text (row_cell numbers i 1) (path_of numbers inmost) ++ row_text numbers names i (is_bare numbers i t next.t)) place from out next.at
  pub inmost_is : next.inmost ≡ cond (is_bare numbers i t next.t) (row_cell numbers i 1) i
  pub size : length out ≡ length place

module _ (numbers names : List ℕ) (i t : ℕ) (h : TurnReady numbers names i t) where
  pub turn_small : i < 256
  turn_small = let f = h.row.ready.tables.sized.counts.rows in let b = h.row.below in omega arith

  pub turn_row : RowIn numbers i
  turn_row = record { tables = h.row.ready.tables; below = h.row.below }

  pub turn_tree : TreeReady numbers
  turn_tree = tree_ready numbers names h.row.ready

  pub turn_run : RunReady numbers t
  turn_run = record { tables = h.row.ready.tables; inside = h.cursor.inside }

  pub turn_inner : (end : ℕ) → Run numbers i t end → InnerReady numbers names i t end
  turn_inner end r = inner_ready numbers names i t end h r

  pub turn_made : (inmost around end : ℕ) (bare : Bool) (at inside : ℕ) {place between out : List ℕ} {from middle : ℕ} → around ≡ parent_at numbers i → Laid (close_text around (path_of numbers inmost)) place from between middle →
      Run numbers i t end → bare ≡ is_bare numbers i t end → Laid (row_text numbers names i bare) between middle out at → inside ≡ cond bare around i →
      Turned numbers names i inmost t place from out (record { at = at; inmost = inside; t = end })
  turn_made inmost around end bare at inside u p r b q o =
      let v : around ≡ row_cell numbers i 1 = u ∙ unfold parent_at in refl in
      let w = laid_then (laid_as (ap (λ (x : ℕ). close_text x (path_of numbers inmost)) (sym v)) p) (laid_as (ap (row_text numbers names i) (sym b)) q) in
      record { run = r; laid = w; inmost_is = o ∙ ap₂ (λ (z : Bool) (x : ℕ). cond z x i) b v; size = w.size }

module _ (numbers names : List ℕ) where
  parent_is : (i : ℕ) → (row_back numbers names i).parent ≡ row_cell numbers i 1
  unfolding row_back
  parent_is i = refl

  -- what is left behind row i
  abbrev pub rest : ℕ → ℕ → List ℕ
  rest inmost i = rows_text (content numbers names) i (path_of numbers inmost) (map (row_back numbers names) (from (row_count numbers - i) i))

  pub record Rowing (place : List ℕ) (n : ℕ) (out : List ℕ) (at inmost t i : ℕ) : Type 0 where
    pub ready : Ready numbers names
    pub count : n ≡ row_count numbers
    pub below : i ≤ row_count numbers
    pub cursor : Cursor numbers i t
    pub next : i < row_count numbers → close_to (row_cell numbers i 1) (path_of numbers inmost) ≡ path_of numbers (row_cell numbers i 1)
    pub left : Left (print (content numbers names)) place 0 (rest inmost i) out at

  shown : print (content numbers names) ≡ rows_text (content numbers names) 0 [] (map (row_back numbers names) (from (row_count numbers) 0))
  unfolding print content
  shown = refl

  kind_is : (i : ℕ) → (row_back numbers names i).kind ≡ row_cell numbers i 0
  unfolding row_back
  kind_is i = refl

  pub rows_begin : (place : List ℕ) (n : ℕ) → Ready numbers names → n ≡ row_count numbers → Rowing place n place 0 no_number 0 0
  rows_begin place n h e =
      record {
        ready = h;
        count = e;
        below = omega arith;
        cursor = cursor_begin numbers;
        next = λ l. ap (close_to (row_cell numbers 0 1)) none ∙ unfold close_to in sym (ap (path_of numbers) (root_parent numbers (tree_ready numbers names h)) ∙ none);
        left = record { is = ap (λ (x : List ℕ). laid x place 0) (sym whole); next = ap (λ (x : List ℕ). after x 0) (sym whole); size = refl };
      }
    where
      none : path_of numbers no_number ≡ []
      none = path_none numbers no_number (let f = h.tables.sized.counts.rows in omega arith)

      minus : (k : ℕ) → k ≡ k - 0
      minus k = omega arith

      whole : print (content numbers names) ≡ rest no_number 0
      whole =
          shown ∙ ap₂ (λ (around : List Around) (k : ℕ). rows_text (content numbers names) 0 around (map (row_back numbers names) (from k 0))) (sym none) (minus (row_count numbers))

  module _ (place : List ℕ) (n : ℕ) (out : List ℕ) (at inmost t i : ℕ) (h : Rowing place n out at inmost t i) where
    pub rows_tree : TreeReady numbers
    rows_tree = tree_ready numbers names h.ready

    pub rows_ready : i < n → TurnReady numbers names i t
    rows_ready l = let e = h.count in record { row = record { ready = h.ready; below = omega arith }; cursor = h.cursor }

    module _ (l : i < n) (out' : List ℕ) (next : Next) (w : Turned numbers names i inmost t out at out' next) where
      below : i < row_count numbers
      below = let e = h.count in omega arith

      abbrev bare : Bool
      bare = is_bare numbers i t next.t

      inner : InnerReady numbers names i t next.t
      inner = inner_ready numbers names i t next.t (rows_ready l) w.run

      more : rest inmost i ≡ (close_text (row_cell numbers i 1) (path_of numbers inmost) ++ row_text numbers names i bare) ++ rest (cond bare (row_cell numbers i 1) i) (i + 1)
      more =
          let m = below in
          let k : row_count numbers - i ≡ suc (row_count numbers - (i + 1)) = omega arith in
          ap (λ (m : ℕ). rows_text (content numbers names) i (path_of numbers inmost) (map (row_back numbers names) (from m i))) k ∙ first ∙
          row_step (content numbers names) i (path_of numbers inmost) (row_back numbers names i) (map (row_back numbers names) (from (row_count numbers - (i + 1)) (i + 1))) bare
          (bare_is numbers names i t next.t inner) ∙
          ap₂ (λ (p : ℕ) (around : List Around). (close_text p (path_of numbers inmost) ++ row_text numbers names i bare) ++ rows_text (content numbers names) (suc i) around (map (row_back numbers names) (from (row_count numbers - (i + 1)) (i + 1))))
          (parent_is i) (around bare) ∙
          ap (λ (j : ℕ). (close_text (row_cell numbers i 1) (path_of numbers inmost) ++ row_text numbers names i bare) ++ rows_text (content numbers names) j (path_of numbers (cond bare (row_cell numbers i 1) i)) (map (row_back numbers names) (from (row_count numbers - (i + 1)) (i + 1)))) (sym (add-one i))
        where
          first : rows_text (content numbers names) i (path_of numbers inmost) (map (row_back numbers names) (from (suc (row_count numbers - (i + 1))) i)) ≡
              rows_text (content numbers names) i (path_of numbers inmost) (row_back numbers names i ∷ map (row_back numbers names) (from (row_count numbers - (i + 1)) (i + 1)))
          first = unfold from in rw (add-one i)

          closed : close_to (row_back numbers names i).parent (path_of numbers inmost) ≡ path_of numbers (row_cell numbers i 1)
          closed = ap (λ (p : ℕ). close_to p (path_of numbers inmost)) (parent_is i) ∙ h.next below

          around : (z : Bool) → cond z (close_to (row_back numbers names i).parent (path_of numbers inmost)) (record { row = i; name = kind_name (row_back numbers names i).kind } ∷ close_to (row_back numbers names i).parent (path_of numbers inmost)) ≡ path_of numbers (cond z (row_cell numbers i 1) i)
          around true = closed
          around false = ap₂ (λ (k : ℕ) (xs : List Around). record { row = i; name = kind_name k } ∷ xs) (kind_is i) closed ∙ sym (path_step numbers rows_tree i below)

      open_next : suc i < row_count numbers → close_to (row_cell numbers (suc i) 1) (path_of numbers (cond bare (row_cell numbers i 1) i)) ≡ path_of numbers (row_cell numbers (suc i) 1)
      open_next m = by bare refl
        where
          no_child : is_bare numbers i t next.t ≡ true → i ≡ row_cell numbers (suc i) 1 → ⊥
          no_child y q = ended (unfold is_bare in and_right (is_blank numbers i t next.t) (not (ltb (i + 1) (row_count numbers) && eqb (row_cell numbers (i + 1) 1) i)) y)
            where
              ended : not (ltb (i + 1) (row_count numbers) && eqb (row_cell numbers (i + 1) 1) i) ≡ true → ⊥
              ended v = no (rw (add-one i, lt-ltb (suc i) (row_count numbers) m, eq-eqb (row_cell numbers (suc i) 1) i (sym q)) at v)

          by : (z : Bool) → z ≡ is_bare numbers i t next.t → close_to (row_cell numbers (suc i) 1) (path_of numbers (cond z (row_cell numbers i 1) i)) ≡ path_of numbers (row_cell numbers (suc i) 1)
          by true q = next_beside numbers rows_tree i m (no_child (sym q))
          by false q = next_open numbers rows_tree i m

      pub rows_turn : Rowing place n out' next.at next.inmost next.t (i + 1)
      rows_turn =
          let b = below in
          rw w.inmost_is (record {
            ready = h.ready;
            count = h.count;
            below = omega arith;
            cursor = run_next numbers names h.ready i t next.t h.cursor w.run;
            next = λ m. rw (add-one i) (open_next (omega arith));
            left = left_turn h.left more w.laid;
          })

    pub rows_end : n ≤ i → {out' : List ℕ} {at' : ℕ} → Laid (close_text no_number (path_of numbers inmost)) out at out' at' → Laid (print (content numbers names)) place 0 out' at'
    unfolding rows_text from
    rows_end l p = left_tail h.left (laid_as (let b = h.below in let c = h.count in let z : row_count numbers - i ≡ 0 = omega arith in rw z) p)
