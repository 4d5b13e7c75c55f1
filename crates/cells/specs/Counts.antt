-- How much the bins hold, by what each row and transition of a content has: the starts of the bins, and the counts of all lists and blocks.
use Rattle.std.specs.Prelude.{◌≡◌, refl, List, ◌++◌, map, get_or}
use Rattle.std.proofs.Common.{sym, ◌∙◌, length-append}
use Rattle.std.proofs.Math.Path.{ap}
use Prim.Native.Nat.{ℕ, suc, ◌+◌, ◌*◌, ◌<◌}
use native.Mathlib.Omega.{arith}
use Rattle.std.proofs.Math.ListN.{length}
use Rattle.definition.specs.Rows.{flat}
use Rattle.reading.specs.Content.{Act, Row, Transition, Content, place_of}
use Rattle.reading.specs.Layout.{act_cells, row_acts, row_list, target_list, descriptor_list, transition_acts}
use Rattle.lay.specs.Sizes.{descriptors, all_cells, map_length}
use Rattle.bins.specs.Bins.{start_of}
use Rattle.bins.specs.Binned.{Item, values_of}
use Rattle.items.specs.Items.{row_block_key, bin_count}
use Rattle.items.specs.Order.{no_transition}
use Rattle.items.specs.Picked.{no_row}
use Rattle.items.specs.Held.{RowHeld}
use Rattle.cells.specs.Parts.{blocks}
use Rattle.cells.specs.Sums.{start_next, starts_sum}
use Rattle.cells.specs.Cells.{Held}

-- the lists and blocks of all rows
abbrev pub row_refs : Content → List ℕ
row_refs x = flat row_list x.rows

abbrev pub row_blocks : Content → List Act
row_blocks x = flat row_acts x.rows

module _ (slots : List (List ℕ)) (n t : ℕ) (c : ℕ → ℕ) (items : List Item) (x : Content) (full : (k : ℕ) → k < bin_count n t → length (values_of items k) ≡ c k) (held : Held slots n t items x) where
  -- ---- what the counts are

  count_is : (k : ℕ) (l : List ℕ) → k < bin_count n t → values_of items k ≡ l → c k ≡ length l
  count_is k l h e = sym (full k h) ∙ ap length e

  block_is : (k : ℕ) (l : List Act) → k < bin_count n t → values_of items k ≡ flat (act_cells slots) l → start_of c (k + 1) ≡ start_of c k + length l * 4
  block_is k l h e = let s = start_next c k in let q = count_is k (flat (act_cells slots) l) h e in let z = all_cells slots l in omega arith

  row_block : (i p k k' : ℕ) (l : List Act) → k < bin_count n t → k ≡ row_block_key n t i p → k' ≡ k + 1 → values_of items (row_block_key n t i p) ≡ flat (act_cells slots) l →
      start_of c k' ≡ start_of c k + length l * 4
  row_block i p k k' l h e q v = ap (start_of c) q ∙ block_is k l h (ap (values_of items) e ∙ v)

  list_is : (i : ℕ) (r : Row) → i < n → RowHeld slots n t items i r → start_of c (i * 2 + 2) ≡ start_of c (i * 2) + length r.list * 1
  list_is i r h w =
      let a = start_next c (i * 2) in
      let b = start_next c (i * 2 + 1) in
      let e : i * 2 + 2 ≡ i * 2 + 1 + 1 = omega arith in
      let q = ap (start_of c) e in
      let l = ap length w.lists in
      let l' = length-append (values_of items (i * 2)) (values_of items (i * 2 + 1)) in
      let u = full (i * 2) (omega arith) in
      let v = full (i * 2 + 1) (omega arith) in
      omega arith

  single_is : (k : ℕ) (l : List ℕ) → k < bin_count n t → values_of items k ≡ l → start_of c (k + 1) ≡ start_of c k + length l * 1
  single_is k l h e = let s = start_next c k in let q = count_is k l h e in omega arith

  -- ---- rows and transitions

  abbrev row : ℕ → Row
  row i = get_or x.rows i no_row

  abbrev transition : ℕ → Transition
  transition r = get_or x.transitions r no_transition

  pub list_starts : (i : ℕ) → i < n → start_of c (i * 2 + 2) ≡ start_of c (i * 2) + length (row i).list * 1
  list_starts i h = list_is i (row i) h (held.row i h)

  pub entry_starts : (i : ℕ) → i < n → start_of c (blocks n t + i * 3 + 1) ≡ start_of c (blocks n t + i * 3) + length (row i).entry * 4
  entry_starts i h = row_block i 0 (blocks n t + i * 3) (blocks n t + i * 3 + 1) (row i).entry (omega arith) (omega arith) refl (held.row i h).entries

  pub exit_starts : (i : ℕ) → i < n → start_of c (blocks n t + i * 3 + 2) ≡ start_of c (blocks n t + i * 3 + 1) + length (row i).exit * 4
  exit_starts i h = row_block i 1 (blocks n t + i * 3 + 1) (blocks n t + i * 3 + 2) (row i).exit (omega arith) (omega arith) (omega arith) (held.row i h).exits

  pub block_starts : (i : ℕ) → i < n → start_of c (blocks n t + i * 3 + 3) ≡ start_of c (blocks n t + i * 3 + 2) + length (row i).block * 4
  block_starts i h = row_block i 2 (blocks n t + i * 3 + 2) (blocks n t + i * 3 + 3) (row i).block (omega arith) (omega arith) (omega arith) (held.row i h).blocks

  pub target_starts : (r : ℕ) → r < t → start_of c (n * 2 + r + 1) ≡ start_of c (n * 2 + r) + length (transition r).targets * 1
  target_starts r h = single_is (n * 2 + r) (transition r).targets (omega arith) (held.transition r h).goals

  pub descriptor_starts : (r : ℕ) → r < t → start_of c (n * 2 + t + r + 1) ≡ start_of c (n * 2 + t + r) + length (transition r).descriptors * 1
  descriptor_starts r h =
      single_is (n * 2 + t + r) (map (λ (d : List ℕ). place_of d slots) (transition r).descriptors) (omega arith) (held.transition r h).names ∙
      ap (λ (m : ℕ). start_of c (n * 2 + t + r) + m * 1) (map_length (λ (d : List ℕ). place_of d slots) (transition r).descriptors)

  pub act_starts : (r : ℕ) → r < t → start_of c (blocks n t + n * 3 + r + 1) ≡ start_of c (blocks n t + n * 3 + r) + length (transition r).block * 4
  act_starts r h = block_is (blocks n t + n * 3 + r) (transition r).block (omega arith) (held.transition r h).blocks

  -- ---- sums over all rows and transitions

  rows_count : length x.rows ≡ n
  rows_count = sym held.rows_are

  transitions_count : length x.transitions ≡ t
  transitions_count = sym held.transitions_are

  move : (a a' b b' m : ℕ) → a ≡ a' → b ≡ b' → start_of c a' ≡ start_of c b' + m → start_of c a ≡ start_of c b + m
  move a a' b b' m p q e = ap (start_of c) p ∙ e ∙ ap (λ (k : ℕ). start_of c k + m) (sym q)

  pub list_sum : start_of c (n * 2) ≡ length (row_refs x)
  unfolding start_of
  list_sum =
      let e = starts_sum c row_list no_row 2 1 x.rows 0
      (λ i h. let u = rows_count in move (0 + suc i * 2) (i * 2 + 2) (0 + i * 2) (i * 2) (length (get_or x.rows i no_row).list * 1) (omega arith) (omega arith) (list_starts i (omega arith))) in
      let u = rows_count in
      let w : n * 2 ≡ 0 + length x.rows * 2 = omega arith in
      let q = ap (start_of c) w in
      omega arith

  pub target_sum : start_of c (n * 2 + t) ≡ start_of c (n * 2) + length (flat target_list x.transitions)
  target_sum =
      let e = starts_sum c target_list no_transition 1 1 x.transitions (n * 2)
      (λ r h. let u = transitions_count in move (n * 2 + suc r * 1) (n * 2 + r + 1) (n * 2 + r * 1) (n * 2 + r) (length (get_or x.transitions r no_transition).targets * 1) (omega arith) (omega arith)
      (target_starts r (omega arith))) in
      let u = transitions_count in
      let w : n * 2 + t ≡ n * 2 + length x.transitions * 1 = omega arith in
      let q = ap (start_of c) w in
      omega arith

  pub descriptor_sum : start_of c (blocks n t) ≡ start_of c (n * 2 + t) + length (descriptors x)
  descriptor_sum =
      let e = starts_sum c descriptor_list no_transition 1 1 x.transitions (n * 2 + t)
      (λ r h. let u = transitions_count in move (n * 2 + t + suc r * 1) (n * 2 + t + r + 1) (n * 2 + t + r * 1) (n * 2 + t + r) (length (get_or x.transitions r no_transition).descriptors * 1) (omega arith) (omega arith)
      (descriptor_starts r (omega arith))) in
      let u = transitions_count in
      let w : n * 2 + t + t ≡ n * 2 + t + length x.transitions * 1 = omega arith in
      let q = ap (start_of c) w in
      omega arith

  acts_of : (i : ℕ) → i < n → start_of c (blocks n t + i * 3 + 3) ≡ start_of c (blocks n t + i * 3) + length (row_acts (get_or x.rows i no_row)) * 4
  acts_of i h =
      let a = entry_starts i h in let b = exit_starts i h in let d = block_starts i h in
      let r = get_or x.rows i no_row in
      let l = length-append r.entry r.exit in
      let l' = length-append (r.entry ++ r.exit) r.block in
      omega arith

  pub row_block_sum : start_of c (blocks n t + n * 3) ≡ start_of c (blocks n t) + length (row_blocks x) * 4
  row_block_sum =
      let e = starts_sum c row_acts no_row 3 4 x.rows (blocks n t)
      (λ i h. let u = rows_count in move (blocks n t + suc i * 3) (blocks n t + i * 3 + 3) (blocks n t + i * 3) (blocks n t + i * 3) (length (row_acts (get_or x.rows i no_row)) * 4) (omega arith) refl (acts_of i (omega arith))) in
      let u = rows_count in
      let w : blocks n t + n * 3 ≡ blocks n t + length x.rows * 3 = omega arith in
      let q = ap (start_of c) w in
      omega arith

  pub block_sum : start_of c (bin_count n t) ≡ start_of c (blocks n t + n * 3) + length (flat transition_acts x.transitions) * 4
  block_sum =
      let e = starts_sum c transition_acts no_transition 1 4 x.transitions (blocks n t + n * 3)
      (λ r h. let u = transitions_count in move (blocks n t + n * 3 + suc r * 1) (blocks n t + n * 3 + r + 1) (blocks n t + n * 3 + r * 1) (blocks n t + n * 3 + r)
      (length (get_or x.transitions r no_transition).block * 4) (omega arith) (omega arith) (act_starts r (omega arith))) in
      let u = transitions_count in
      let w : bin_count n t ≡ blocks n t + n * 3 + length x.transitions * 1 = omega arith in
      let q = ap (start_of c) w in
      omega arith
