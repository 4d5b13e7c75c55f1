-- The tables of a content mean the content again: rows and transitions.
use Rattle.std.specs.Prelude.{◌≡◌, cond, eqb, get_or}
use Rattle.std.proofs.Math.Path.{refl, ap₂}
use Rattle.std.proofs.Common.{ap, ◌∙◌, subst, arith, length-append, lt-ltb}
use mathlib.Core.List.{List, [], ◌∷◌, ◌++◌, map}
use Prim.Native.Nat.{ℕ, suc, ◌≤◌, ◌<◌, ◌+◌, ◌*◌}
use Rattle.std.proofs.Math.ListN.{length}
use Rattle.definition.specs.Rows.{flat, from}
use Rattle.definition.specs.Tables.{no_number, row_count, row_cell, reference_base, action_base, part, references_at, name_at}
use Rattle.reading.specs.Content.{Act, Row}
use Rattle.reading.specs.Layout.{act_cells, id_cell, row_acts, row_cells, row_list, names_of, acts_at, row_back}
use Rattle.written.specs.Sound.{AllOf, no_more, more}
use Rattle.written.specs.Held.{Holds, holds_left, holds_right, holds_at, held_cell, held_part}
use Rattle.written.specs.TablesBack.{ActNamed, RowNamed, acts_back, acts_left, acts_right, id_back}

pub all_left : {A : Type 0} {P : A → Type 0} (xs ys : List A) → AllOf P (xs ++ ys) → AllOf P xs
all_left [] ys f = no_more
all_left (x ∷ xs) ys (more f g) = more f (all_left xs ys g)

pub all_right : {A : Type 0} {P : A → Type 0} (xs ys : List A) → AllOf P (xs ++ ys) → AllOf P ys
all_right [] ys f = f
all_right (x ∷ xs) ys (more f g) = all_right xs ys g

module _ (numbers : List ℕ) (slots : List (List ℕ)) (few : length slots ≤ 65535) where
  abbrev names : List ℕ
  names = names_of slots

  -- ---- rows

  row_cell_lem : (i k : ℕ) (ys : List ℕ) → i < row_count numbers → Holds numbers (6 + i * 11) ys → k < length ys → row_cell numbers i k ≡ get_or ys k 0
  unfolding row_cell
  row_cell_lem i k ys l h b = rw (lt-ltb i (row_count numbers) l) (held_cell h k b)

  abbrev row_with : ℕ → ℕ → ℕ → ℕ → ℕ → ℕ → ℕ → ℕ → ℕ → ℕ → ℕ → Row
  row_with x0 x1 x2 x3 x4 x5 x6 x7 x8 x9 x10 =
      record {
        kind = x0;
        parent = x1;
        id = cond (eqb x2 no_number) [] (name_at names x2);
        entry = acts_at numbers names x3 x4;
        exit = acts_at numbers names x5 x6;
        list = references_at numbers x7 x8;
        block = acts_at numbers names x9 x10;
      }

  row_with_lem : (i : ℕ) → row_back numbers names i ≡ row_with (row_cell numbers i 0) (row_cell numbers i 1) (row_cell numbers i 2) (row_cell numbers i 3) (row_cell numbers i 4) (row_cell numbers i 5) (row_cell numbers i 6) (row_cell numbers i 7) (row_cell numbers i 8) (row_cell numbers i 9) (row_cell numbers i 10)
  unfolding row_back
  row_with_lem i = refl

  module _ (i y0 y1 y2 y3 y4 y5 y6 y7 y8 y9 y10 : ℕ) (l : i < row_count numbers) (h : Holds numbers (6 + i * 11) (y0 ∷ y1 ∷ y2 ∷ y3 ∷ y4 ∷ y5 ∷ y6 ∷ y7 ∷ y8 ∷ y9 ∷ y10 ∷ [])) where
    row_held : row_back numbers names i ≡ row_with y0 y1 y2 y3 y4 y5 y6 y7 y8 y9 y10
    row_held =
        row_with_lem i ∙
        ap (λ (c : ℕ). row_with c (row_cell numbers i 1) (row_cell numbers i 2) (row_cell numbers i 3) (row_cell numbers i 4) (row_cell numbers i 5) (row_cell numbers i 6) (row_cell numbers i 7) (row_cell numbers i 8) (row_cell numbers i 9) (row_cell numbers i 10)) (row_cell_lem i 0 (y0 ∷ y1 ∷ y2 ∷ y3 ∷ y4 ∷ y5 ∷ y6 ∷ y7 ∷ y8 ∷ y9 ∷ y10 ∷ []) l h (omega arith)) ∙
        ap (λ (c : ℕ). row_with y0 c (row_cell numbers i 2) (row_cell numbers i 3) (row_cell numbers i 4) (row_cell numbers i 5) (row_cell numbers i 6) (row_cell numbers i 7) (row_cell numbers i 8) (row_cell numbers i 9) (row_cell numbers i 10)) (row_cell_lem i 1 (y0 ∷ y1 ∷ y2 ∷ y3 ∷ y4 ∷ y5 ∷ y6 ∷ y7 ∷ y8 ∷ y9 ∷ y10 ∷ []) l h (omega arith)) ∙
        ap (λ (c : ℕ). row_with y0 y1 c (row_cell numbers i 3) (row_cell numbers i 4) (row_cell numbers i 5) (row_cell numbers i 6) (row_cell numbers i 7) (row_cell numbers i 8) (row_cell numbers i 9) (row_cell numbers i 10)) (row_cell_lem i 2 (y0 ∷ y1 ∷ y2 ∷ y3 ∷ y4 ∷ y5 ∷ y6 ∷ y7 ∷ y8 ∷ y9 ∷ y10 ∷ []) l h (omega arith)) ∙
        ap (λ (c : ℕ). row_with y0 y1 y2 c (row_cell numbers i 4) (row_cell numbers i 5) (row_cell numbers i 6) (row_cell numbers i 7) (row_cell numbers i 8) (row_cell numbers i 9) (row_cell numbers i 10)) (row_cell_lem i 3 (y0 ∷ y1 ∷ y2 ∷ y3 ∷ y4 ∷ y5 ∷ y6 ∷ y7 ∷ y8 ∷ y9 ∷ y10 ∷ []) l h (omega arith)) ∙
        ap (λ (c : ℕ). row_with y0 y1 y2 y3 c (row_cell numbers i 5) (row_cell numbers i 6) (row_cell numbers i 7) (row_cell numbers i 8) (row_cell numbers i 9) (row_cell numbers i 10)) (row_cell_lem i 4 (y0 ∷ y1 ∷ y2 ∷ y3 ∷ y4 ∷ y5 ∷ y6 ∷ y7 ∷ y8 ∷ y9 ∷ y10 ∷ []) l h (omega arith)) ∙
        ap (λ (c : ℕ). row_with y0 y1 y2 y3 y4 c (row_cell numbers i 6) (row_cell numbers i 7) (row_cell numbers i 8) (row_cell numbers i 9) (row_cell numbers i 10)) (row_cell_lem i 5 (y0 ∷ y1 ∷ y2 ∷ y3 ∷ y4 ∷ y5 ∷ y6 ∷ y7 ∷ y8 ∷ y9 ∷ y10 ∷ []) l h (omega arith)) ∙
        ap (λ (c : ℕ). row_with y0 y1 y2 y3 y4 y5 c (row_cell numbers i 7) (row_cell numbers i 8) (row_cell numbers i 9) (row_cell numbers i 10)) (row_cell_lem i 6 (y0 ∷ y1 ∷ y2 ∷ y3 ∷ y4 ∷ y5 ∷ y6 ∷ y7 ∷ y8 ∷ y9 ∷ y10 ∷ []) l h (omega arith)) ∙
        ap (λ (c : ℕ). row_with y0 y1 y2 y3 y4 y5 y6 c (row_cell numbers i 8) (row_cell numbers i 9) (row_cell numbers i 10)) (row_cell_lem i 7 (y0 ∷ y1 ∷ y2 ∷ y3 ∷ y4 ∷ y5 ∷ y6 ∷ y7 ∷ y8 ∷ y9 ∷ y10 ∷ []) l h (omega arith)) ∙
        ap (λ (c : ℕ). row_with y0 y1 y2 y3 y4 y5 y6 y7 c (row_cell numbers i 9) (row_cell numbers i 10)) (row_cell_lem i 8 (y0 ∷ y1 ∷ y2 ∷ y3 ∷ y4 ∷ y5 ∷ y6 ∷ y7 ∷ y8 ∷ y9 ∷ y10 ∷ []) l h (omega arith)) ∙
        ap (λ (c : ℕ). row_with y0 y1 y2 y3 y4 y5 y6 y7 y8 c (row_cell numbers i 10)) (row_cell_lem i 9 (y0 ∷ y1 ∷ y2 ∷ y3 ∷ y4 ∷ y5 ∷ y6 ∷ y7 ∷ y8 ∷ y9 ∷ y10 ∷ []) l h (omega arith)) ∙
        ap (λ (c : ℕ). row_with y0 y1 y2 y3 y4 y5 y6 y7 y8 y9 c) (row_cell_lem i 10 (y0 ∷ y1 ∷ y2 ∷ y3 ∷ y4 ∷ y5 ∷ y6 ∷ y7 ∷ y8 ∷ y9 ∷ y10 ∷ []) l h (omega arith))

  pub list_held : (f : ℕ) (is : List ℕ) → Holds numbers (reference_base numbers + f) is → references_at numbers f (length is) ≡ is
  unfolding references_at part
  list_held f is h = held_part h

  row_same : (r : Row) {d : List ℕ} {e x b : List Act} {s : List ℕ} → d ≡ r.id → e ≡ r.entry → x ≡ r.exit → s ≡ r.list → b ≡ r.block →
      record { kind = r.kind; parent = r.parent; id = d; entry = e; exit = x; list = s; block = b } ≡ r
  row_same r {d = d} {e = e} {x = x} {b = b} {s = s} g h i j k =
      ap (λ (y : List ℕ). record { kind = r.kind; parent = r.parent; id = y; entry = e; exit = x; list = s; block = b }) g ∙
      ap (λ (y : List Act). record { kind = r.kind; parent = r.parent; id = r.id; entry = y; exit = x; list = s; block = b }) h ∙
      ap (λ (y : List Act). record { kind = r.kind; parent = r.parent; id = r.id; entry = r.entry; exit = y; list = s; block = b }) i ∙
      ap (λ (y : List ℕ). record { kind = r.kind; parent = r.parent; id = r.id; entry = r.entry; exit = r.exit; list = y; block = b }) j ∙
      ap (λ (y : List Act). record { kind = r.kind; parent = r.parent; id = r.id; entry = r.entry; exit = r.exit; list = r.list; block = y }) k

  module _ (i f a : ℕ) (r : Row) (l : i < row_count numbers) (n : RowNamed slots r) where
    abbrev b : ℕ
    b = a + length r.entry

    abbrev c : ℕ
    c = b + length r.exit

    row_again : Holds numbers (6 + i * 11) (r.kind ∷ r.parent ∷ id_cell slots r.id ∷ a ∷ length r.entry ∷ b ∷ length r.exit ∷ f ∷ length r.list ∷ c ∷ length r.block ∷ []) →
        Holds numbers (reference_base numbers + f) r.list → Holds numbers (action_base numbers + a * 4) (flat (act_cells slots) (row_acts r)) → row_back numbers names i ≡ r
    row_again h g k =
        row_held i r.kind r.parent (id_cell slots r.id) a (length r.entry) b (length r.exit) f (length r.list) c (length r.block) l h ∙
        row_same r (id_back numbers slots few r.id n.id_named_lem) (acts_back numbers slots few r.entry a entries (all_left r.entry r.exit first))
        (acts_back numbers slots few r.exit b exits (all_right r.entry r.exit first)) (list_held f r.list g)
        (acts_back numbers slots few r.block c blocks (all_right (r.entry ++ r.exit) r.block n.acts_named))
      where
        first : AllOf (ActNamed slots) (r.entry ++ r.exit)
        first = all_left (r.entry ++ r.exit) r.block n.acts_named

        both : Holds numbers (action_base numbers + a * 4) (flat (act_cells slots) (r.entry ++ r.exit))
        both = acts_left numbers slots few (r.entry ++ r.exit) r.block a k

        entries : Holds numbers (action_base numbers + a * 4) (flat (act_cells slots) r.entry)
        entries = acts_left numbers slots few r.entry r.exit a both

        exits : Holds numbers (action_base numbers + b * 4) (flat (act_cells slots) r.exit)
        exits = acts_right numbers slots few r.entry r.exit a both

        blocks : Holds numbers (action_base numbers + c * 4) (flat (act_cells slots) r.block)
        blocks =
            subst (λ (x : ℕ). Holds numbers (action_base numbers + x * 4) (flat (act_cells slots) r.block)) (let q = length-append r.entry r.exit in omega arith)
            (acts_right numbers slots few (r.entry ++ r.exit) r.block a k)

  pub rows_back : (rs : List Row) (i f a : ℕ) → i + length rs ≤ row_count numbers → Holds numbers (6 + i * 11) (row_cells slots f a rs) → Holds numbers (reference_base numbers + f) (flat row_list rs) →
      Holds numbers (action_base numbers + a * 4) (flat (act_cells slots) (flat row_acts rs)) → AllOf (RowNamed slots) rs → map (row_back numbers names) (from (length rs) i) ≡ rs
  unfolding from row_cells flat
  rows_back [] i f a l h g k no_more = refl
  rows_back (r ∷ rs) i f a l h g k (more n m) =
      ap₂ (λ (x : Row) (xs : List Row). x ∷ xs)
      (row_again i f a r (omega arith) n (holds_left cells later h) (holds_left r.list (flat row_list rs) g) (acts_left numbers slots few (row_acts r) (flat row_acts rs) a k))
      (rows_back rs (suc i) (f + length r.list) end (omega arith) (holds_at (6 + i * 11 + 11) (6 + suc i * 11) (omega arith) (holds_right cells later h))
      (holds_at (reference_base numbers + f + length r.list) (reference_base numbers + (f + length r.list)) (omega arith) (holds_right r.list (flat row_list rs) g))
      (subst (λ (x : ℕ). Holds numbers (action_base numbers + x * 4) (flat (act_cells slots) (flat row_acts rs))) ends (acts_right numbers slots few (row_acts r) (flat row_acts rs) a k)) m)
    where
      end : ℕ
      end = a + length r.entry + length r.exit + length r.block

      cells : List ℕ
      cells = r.kind ∷ r.parent ∷ id_cell slots r.id ∷ a ∷ length r.entry ∷ (a + length r.entry) ∷ length r.exit ∷ f ∷ length r.list ∷ (a + length r.entry + length r.exit) ∷ length r.block ∷ []

      later : List ℕ
      later = row_cells slots (f + length r.list) end rs

      ends : a + length (row_acts r) ≡ end
      ends = let p = length-append (r.entry ++ r.exit) r.block in let q = length-append r.entry r.exit in omega arith
