-- The cells of rows and transitions that say where their lists and blocks stand, by the places behind the bins (the keys are those of items/specs/Items).
use Rattle.std.specs.Prelude.{◌≡◌, refl, Bool, true, false, List, ℕ, ◌+◌, ◌*◌, ◌-◌, ◌≤◌, ◌<◌, eqb, length, get_or}
use Rattle.std.proofs.Common.{sym, ap, subst, ◌∙◌, arith, eqb-true}
use Rattle.std.proofs.lemmas.Bool.{eqb-false}
use Rattle.items.specs.Items.{bin_count}
use Rattle.cells.specs.Starts.{Few, table_base, Rising, PartRoom, entries_in, PartLaid}

pub record CellsRoom (out next : List ℕ) (n t : ℕ) : Type 0 where
  pub few : Few n t
  pub room : table_base n t ≤ length out
  pub rising : Rising (table_base n t) next (bin_count n t)

-- ---- a row

pub record RowRoom (out next : List ℕ) (n t i : ℕ) : Type 0 where
  pub cells : CellsRoom out next n t
  pub below : i < n

abbrev pub row_at : ℕ → ℕ → ℕ
row_at i k = 6 + i * 11 + k

-- the first bin of the table of actions
abbrev pub blocks : ℕ → ℕ → ℕ
blocks n t = n * 2 + t + t

pub record RowIn (out next : List ℕ) (n t i : ℕ) : Type 0 where
  pub entry : get_or out (row_at i 3) 0 ≡ entries_in (table_base n t) next (blocks n t) (blocks n t + i * 3) 4
  pub entries : get_or out (row_at i 4) 0 ≡ entries_in (table_base n t) next (blocks n t + i * 3) (blocks n t + i * 3 + 1) 4
  pub exit : get_or out (row_at i 5) 0 ≡ entries_in (table_base n t) next (blocks n t) (blocks n t + i * 3 + 1) 4
  pub exits : get_or out (row_at i 6) 0 ≡ entries_in (table_base n t) next (blocks n t + i * 3 + 1) (blocks n t + i * 3 + 2) 4
  pub list : get_or out (row_at i 7) 0 ≡ entries_in (table_base n t) next 0 (i * 2) 1
  pub lists : get_or out (row_at i 8) 0 ≡ entries_in (table_base n t) next (i * 2) (i * 2 + 2) 1
  pub block : get_or out (row_at i 9) 0 ≡ entries_in (table_base n t) next (blocks n t) (blocks n t + i * 3 + 2) 4
  pub many : get_or out (row_at i 10) 0 ≡ entries_in (table_base n t) next (blocks n t + i * 3 + 2) (blocks n t + i * 3 + 3) 4

pub record RowLaid (out out' next : List ℕ) (n t i : ℕ) : Type 0 where
  pub size : length out' ≡ length out
  pub is : RowIn out' next n t i
  pub before : (j : ℕ) → j < row_at i 3 → get_or out' j 0 ≡ get_or out j 0
  pub behind : (j : ℕ) → row_at i 11 ≤ j → get_or out' j 0 ≡ get_or out j 0

-- a part that ends within the bins
pub part_room : (out next : List ℕ) (n t : ℕ) → CellsRoom out next n t → (size : List ℕ) → length size ≡ length out → (at first from to width : ℕ) →
    at + 1 < table_base n t → first ≤ from → from ≤ to → to ≤ bin_count n t → 0 < width → PartRoom size next (table_base n t) at first from to width
part_room out next n t c size e at first from to width a f g h w =
    let r = c.room in let u = c.few.rows in let v = c.few.transitions in let l = c.rising.there in
    record {
      room = omega arith;
      small = omega arith;
      rising = record { there = omega arith; up = λ k i. c.rising.up k (omega arith) };
      behind = f;
      before = g;
      some = w;
    }

module _ (out next : List ℕ) (n t i : ℕ) (p : RowRoom out next n t i) where
  pub row_entry_room : PartRoom out next (table_base n t) (6 + i * 11 + 3) (blocks n t) (blocks n t + i * 3) (blocks n t + i * 3 + 1) 4
  row_entry_room =
      let b = p.below in
      part_room out next n t p.cells out refl (6 + i * 11 + 3) (blocks n t) (blocks n t + i * 3) (blocks n t + i * 3 + 1) 4
      (omega arith) (omega arith) (omega arith) (omega arith) (omega arith)

  module _ (o1 : List ℕ) (a : PartLaid out o1 next (table_base n t) (6 + i * 11 + 3) (blocks n t) (blocks n t + i * 3) (blocks n t + i * 3 + 1) 4) where
    pub row_exit_room : PartRoom o1 next (table_base n t) (6 + i * 11 + 5) (blocks n t) (blocks n t + i * 3 + 1) (blocks n t + i * 3 + 2) 4
    row_exit_room =
        let b = p.below in
        part_room out next n t p.cells o1 a.size (6 + i * 11 + 5) (blocks n t) (blocks n t + i * 3 + 1) (blocks n t + i * 3 + 2) 4
        (omega arith) (omega arith) (omega arith) (omega arith) (omega arith)

    module _ (o2 : List ℕ) (b : PartLaid o1 o2 next (table_base n t) (6 + i * 11 + 5) (blocks n t) (blocks n t + i * 3 + 1) (blocks n t + i * 3 + 2) 4) where
      pub row_list_room : PartRoom o2 next (table_base n t) (6 + i * 11 + 7) 0 (i * 2) (i * 2 + 2) 1
      row_list_room =
          let l = p.below in
          part_room out next n t p.cells o2 (b.size ∙ a.size) (6 + i * 11 + 7) 0 (i * 2) (i * 2 + 2) 1 (omega arith) (omega arith) (omega arith) (omega arith) (omega arith)

      module _ (o3 : List ℕ) (d : PartLaid o2 o3 next (table_base n t) (6 + i * 11 + 7) 0 (i * 2) (i * 2 + 2) 1) where
        pub row_block_room : PartRoom o3 next (table_base n t) (6 + i * 11 + 9) (blocks n t) (blocks n t + i * 3 + 2) (blocks n t + i * 3 + 3) 4
        row_block_room =
            let l = p.below in
            part_room out next n t p.cells o3 (d.size ∙ b.size ∙ a.size) (6 + i * 11 + 9) (blocks n t) (blocks n t + i * 3 + 2) (blocks n t + i * 3 + 3) 4
            (omega arith) (omega arith) (omega arith) (omega arith) (omega arith)

        pub row_laid : (o4 : List ℕ) → PartLaid o3 o4 next (table_base n t) (6 + i * 11 + 9) (blocks n t) (blocks n t + i * 3 + 2) (blocks n t + i * 3 + 3) 4 → RowLaid out o4 next n t i
        row_laid o4 e =
            record {
              size = e.size ∙ d.size ∙ b.size ∙ a.size;
              is =
                  record {
                    entry = late 3 (omega arith) ∙ a.start;
                    entries = late 4 (omega arith) ∙ at_next 3 o1 ∙ a.count;
                    exit = later 5 (omega arith) ∙ b.start;
                    exits = later 6 (omega arith) ∙ at_next 5 o2 ∙ b.count;
                    list = latest 7 (omega arith) ∙ d.start;
                    lists = latest 8 (omega arith) ∙ at_next 7 o3 ∙ d.count;
                    block = e.start;
                    many = at_next 9 o4 ∙ e.count;
                  };
              before = λ j l. e.others j (λ q. omega arith) (λ q. omega arith) ∙ d.others j (λ q. omega arith) (λ q. omega arith) ∙ b.others j (λ q. omega arith) (λ q. omega arith) ∙
                  a.others j (λ q. omega arith) (λ q. omega arith);
              behind = λ j l. e.others j (λ q. omega arith) (λ q. omega arith) ∙ d.others j (λ q. omega arith) (λ q. omega arith) ∙ b.others j (λ q. omega arith) (λ q. omega arith) ∙
                  a.others j (λ q. omega arith) (λ q. omega arith);
            }
          where
            at_next : (k : ℕ) (o : List ℕ) → get_or o (row_at i (k + 1)) 0 ≡ get_or o (row_at i k + 1) 0
            at_next k o = let s : row_at i (k + 1) ≡ row_at i k + 1 = omega arith in ap (λ (j : ℕ). get_or o j 0) s

            latest : (k : ℕ) → k < 9 → get_or o4 (row_at i k) 0 ≡ get_or o3 (row_at i k) 0
            latest k l = e.others (row_at i k) (λ q. omega arith) (λ q. omega arith)

            later : (k : ℕ) → k < 7 → get_or o4 (row_at i k) 0 ≡ get_or o2 (row_at i k) 0
            later k l = latest k (omega arith) ∙ d.others (row_at i k) (λ q. omega arith) (λ q. omega arith)

            late : (k : ℕ) → k < 5 → get_or o4 (row_at i k) 0 ≡ get_or o1 (row_at i k) 0
            late k l = later k (omega arith) ∙ b.others (row_at i k) (λ q. omega arith) (λ q. omega arith)

-- the cells of another row keep
pub row_kept : (out out' next : List ℕ) (n t i : ℕ) → RowIn out next n t i → ((k : ℕ) → k < 11 → get_or out' (row_at i k) 0 ≡ get_or out (row_at i k) 0) → RowIn out' next n t i
row_kept out out' next n t i r f =
    record {
      entry = f 3 (omega arith) ∙ r.entry;
      entries = f 4 (omega arith) ∙ r.entries;
      exit = f 5 (omega arith) ∙ r.exit;
      exits = f 6 (omega arith) ∙ r.exits;
      list = f 7 (omega arith) ∙ r.list;
      lists = f 8 (omega arith) ∙ r.lists;
      block = f 9 (omega arith) ∙ r.block;
      many = f 10 (omega arith) ∙ r.many;
    }

-- ---- all rows

pub record RowsLaid (out out' next : List ℕ) (n t : ℕ) : Type 0 where
  pub size : length out' ≡ length out
  pub rows : (i : ℕ) → i < n → RowIn out' next n t i
  pub firsts : (i k : ℕ) → i < n → k < 3 → get_or out' (row_at i k) 0 ≡ get_or out (row_at i k) 0
  pub header : (j : ℕ) → j < 6 → get_or out' j 0 ≡ get_or out j 0
  pub behind : (j : ℕ) → 6 + n * 11 ≤ j → get_or out' j 0 ≡ get_or out j 0

pub record RowsLaying (out₀ next : List ℕ) (n t : ℕ) (out : List ℕ) (i : ℕ) : Type 0 where
  pub cells : CellsRoom out₀ next n t
  pub below : i ≤ n
  pub size : length out ≡ length out₀
  pub rows : (j : ℕ) → j < i → RowIn out next n t j
  pub firsts : (j k : ℕ) → j < n → k < 3 → get_or out (row_at j k) 0 ≡ get_or out₀ (row_at j k) 0
  pub header : (j : ℕ) → j < 6 → get_or out j 0 ≡ get_or out₀ j 0
  pub behind : (j : ℕ) → 6 + n * 11 ≤ j → get_or out j 0 ≡ get_or out₀ j 0

pub rows_begin : (out next : List ℕ) (n t : ℕ) → CellsRoom out next n t → RowsLaying out next n t out 0
rows_begin out next n t c =
    record { cells = c; below = omega arith; size = refl; rows = λ j l. absurd (omega arith); firsts = λ j k l m. refl; header = λ j l. refl; behind = λ j l. refl }

pub moved : (out out' next : List ℕ) (n t : ℕ) → length out' ≡ length out → CellsRoom out next n t → CellsRoom out' next n t
moved out out' next n t e c = let r = c.room in record { few = c.few; room = omega arith; rising = c.rising }

module _ (out₀ next : List ℕ) (n t : ℕ) (out : List ℕ) (i : ℕ) (w : RowsLaying out₀ next n t out i) where
  pub rows_room_lem : i < n → RowRoom out next n t i
  rows_room_lem h = record { cells = moved out₀ out next n t w.size w.cells; below = h }

  pub rows_turn : (out' : List ℕ) → i < n → RowLaid out out' next n t i → RowsLaying out₀ next n t out' (i + 1)
  rows_turn out' h r =
      record {
        cells = w.cells;
        below = omega arith;
        size = r.size ∙ w.size;
        rows = λ j l. by j l (eqb j i) refl;
        firsts = λ j k l m. near j k l m (eqb j i) refl ∙ w.firsts j k l m;
        header = λ j l. r.before j (omega arith) ∙ w.header j l;
        behind = λ j l. r.behind j (omega arith) ∙ w.behind j l;
      }
    where
      by : (j : ℕ) → j < i + 1 → (z : Bool) → eqb j i ≡ z → RowIn out' next n t j
      by j l true q = subst (λ (x : ℕ). RowIn out' next n t x) (sym (eqb-true j i q)) r.is
      by j l false q = row_kept out out' next n t j (w.rows j (less (eqb-false j i q))) (λ k m. let s = less (eqb-false j i q) in r.before (row_at j k) (omega arith))
        where
          less : (j ≡ i → ⊥) → j < i
          less f = omega arith

      near : (j k : ℕ) → j < n → k < 3 → (z : Bool) → eqb j i ≡ z → get_or out' (row_at j k) 0 ≡ get_or out (row_at j k) 0
      near j k l m true q = let e = eqb-true j i q in r.before (row_at j k) (omega arith)
      near j k l m false q = apart (eqb-false j i q)
        where
          apart : (j ≡ i → ⊥) → get_or out' (row_at j k) 0 ≡ get_or out (row_at j k) 0
          apart f = sides (eqb (j - i) 0) refl
            where
              sides : (z : Bool) → eqb (j - i) 0 ≡ z → get_or out' (row_at j k) 0 ≡ get_or out (row_at j k) 0
              sides true e = let u = eqb-true (j - i) 0 e in let s : j < i = omega arith in r.before (row_at j k) (omega arith)
              sides false e = let u = eqb-false (j - i) 0 e in let s : i < j = omega arith in r.behind (row_at j k) (omega arith)

  pub rows_end : n ≤ i → RowsLaid out₀ out next n t
  rows_end h = record { size = w.size; rows = λ j l. w.rows j (omega arith); firsts = w.firsts; header = w.header; behind = w.behind }
