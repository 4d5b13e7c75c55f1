-- The header's six counts, and all cells together.
use Rattle.std.specs.Prelude.{◌≡◌, List, [], ◌∷◌, ℕ, ◌+◌, ◌*◌, ◌≤◌, ◌<◌, length, get_or, set, take}
use Rattle.std.proofs.Common.{ap, ◌∙◌, arith, get_or-set_other}
use Rattle.std.proofs.lemmas.List.Edits.{sets-eq}
use Rattle.std.proofs.Math.Seq.{length-sets}
use Rattle.items.specs.Items.{bin_count}
use Rattle.cells.specs.Starts.{table_base, rising_less, EntriesRoom, entries_in}
use Rattle.cells.specs.Parts.{blocks, CellsRoom, row_at, RowIn, row_kept, RowsLaid, moved}
use Rattle.cells.specs.Ends.{transition_at, TransitionIn, transition_kept, OwnKept, own_after, own_by, TransitionsLaid}

abbrev pub counts : List ℕ → ℕ → ℕ → ℕ → List ℕ
counts next n t names =
    n ∷ t ∷ entries_in (table_base n t) next 0 (n * 2 + t) 1 ∷ entries_in (table_base n t) next (n * 2 + t) (blocks n t) 1 ∷ entries_in (table_base n t) next (blocks n t) (bin_count n t) 4 ∷ names ∷ []

pub record HeaderLaid (out out' next : List ℕ) (n t names : ℕ) : Type 0 where
  pub size : length out' ≡ length out
  pub front : take 6 out' ≡ counts next n t names
  pub others : (j : ℕ) → 6 ≤ j → get_or out' j 0 ≡ get_or out j 0

module _ (out next : List ℕ) (n t : ℕ) (p : CellsRoom out next n t) where
  pub references_room : EntriesRoom next (table_base n t) 0 (n * 2 + t) 1
  references_room = record { rising = rising_less (table_base n t) next (n * 2 + t) (bin_count n t) p.rising (omega arith); before = omega arith; some = omega arith }

  pub descriptors_room : EntriesRoom next (table_base n t) (n * 2 + t) (blocks n t) 1
  descriptors_room = record { rising = rising_less (table_base n t) next (blocks n t) (bin_count n t) p.rising (omega arith); before = omega arith; some = omega arith }

  pub actions_room : EntriesRoom next (table_base n t) (blocks n t) (bin_count n t) 4
  actions_room = record { rising = p.rising; before = omega arith; some = omega arith }

  pub header_there : (j : ℕ) → j < 6 → j < length out
  header_there j h = let r = p.room in omega arith

  pub header_laid : (names x y z : ℕ) → x ≡ entries_in (table_base n t) next 0 (n * 2 + t) 1 → y ≡ entries_in (table_base n t) next (n * 2 + t) (blocks n t) 1 →
      z ≡ entries_in (table_base n t) next (blocks n t) (bin_count n t) 4 → HeaderLaid out (set (set (set (set (set (set out 0 n) 1 t) 2 x) 3 y) 4 z) 5 names) next n t names
  header_laid names x y z a b c =
      let r = p.room in
      record {
        size = length-sets out 0 (n ∷ t ∷ x ∷ y ∷ z ∷ names ∷ []);
        front = ap (take 6) (sets-eq (n ∷ t ∷ x ∷ y ∷ z ∷ names ∷ []) out 0 (omega arith)) ∙ three a b c;
        others =
            λ j h.
            get_or-set_other (set (set (set (set (set out 0 n) 1 t) 2 x) 3 y) 4 z) 5 j names 0 (λ q. omega arith) ∙ get_or-set_other (set (set (set (set out 0 n) 1 t) 2 x) 3 y) 4 j z 0 (λ q. omega arith) ∙
            get_or-set_other (set (set (set out 0 n) 1 t) 2 x) 3 j y 0 (λ q. omega arith) ∙ get_or-set_other (set (set out 0 n) 1 t) 2 j x 0 (λ q. omega arith) ∙
            get_or-set_other (set out 0 n) 1 j t 0 (λ q. omega arith) ∙ get_or-set_other out 0 j n 0 (λ q. omega arith);
      }
    where
      three : {x' y' z' : ℕ} → x ≡ x' → y ≡ y' → z ≡ z' → ◌≡◌ {A = List ℕ} (n ∷ t ∷ x ∷ y ∷ z ∷ names ∷ []) (n ∷ t ∷ x' ∷ y' ∷ z' ∷ names ∷ [])
      three q r s = cc

-- ---- all cells

pub record CellsLaid (out out' next : List ℕ) (n t names : ℕ) : Type 0 where
  pub size : length out' ≡ length out
  pub front : take 6 out' ≡ counts next n t names
  pub rows : (i : ℕ) → i < n → RowIn out' next n t i
  pub transitions : (r : ℕ) → r < t → TransitionIn out' next n t r
  pub firsts : (i k : ℕ) → i < n → k < 3 → get_or out' (row_at i k) 0 ≡ get_or out (row_at i k) 0
  pub own : (r : ℕ) → r < t → OwnKept out out' n r
  pub behind : (j : ℕ) → table_base n t ≤ j → get_or out' j 0 ≡ get_or out j 0

module _ (out next : List ℕ) (n t names : ℕ) (p : CellsRoom out next n t) (o1 : List ℕ) (a : RowsLaid out o1 next n t) where
  pub cells_transitions : CellsRoom o1 next n t
  cells_transitions = moved out o1 next n t a.size p

  module _ (o2 : List ℕ) (b : TransitionsLaid o1 o2 next n t) where
    pub cells_header : CellsRoom o2 next n t
    cells_header = moved out o2 next n t (b.size ∙ a.size) p

    pub cells_laid : (o3 : List ℕ) → HeaderLaid o2 o3 next n t names → CellsLaid out o3 next n t names
    cells_laid o3 h =
        record {
          size = h.size ∙ b.size ∙ a.size;
          front = h.front;
          rows = λ i l. row_kept o1 o3 next n t i (a.rows i l) (λ k m. h.others (row_at i k) (omega arith) ∙ b.before (row_at i k) (omega arith));
          transitions = λ r l. transition_kept o2 o3 next n t r (b.transitions r l) (λ k m. h.others (transition_at n r k) (omega arith));
          firsts = λ i k l m. h.others (row_at i k) (omega arith) ∙ b.before (row_at i k) (omega arith) ∙ a.firsts i k l m;
          own =
              λ r l.
              own_after out o2 o3 n r (own_by o2 o3 n r (λ k m. h.others (transition_at n r k) (omega arith)))
              (own_after out o1 o2 n r (b.own r l) (own_by out o1 n r (λ k m. a.behind (transition_at n r k) (omega arith))));
          behind = λ j l. h.others j (omega arith) ∙ b.behind j l ∙ a.behind j (omega arith);
        }
