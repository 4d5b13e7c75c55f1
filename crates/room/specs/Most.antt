-- The most that room_of says of any chart: each row and each transition has room for its own entries and for full blocks, and there are no more of them than rule 1 allows.
use Rattle.std.specs.Prelude.{◌≡◌, refl, Bool, true, false, cond, List, ℕ, zero, suc, ◌+◌, ◌*◌, ◌≤◌, ◌<◌, length}
use native.Mathlib.Omega.{arith}
use Rattle.definition.specs.Rows.{from}
use Rattle.definition.specs.Tables.{most_actions, row_count, transition_count, block_at, entry_at, exit_at, list_block_at, transition_block_at, action_at, chart_of}
use Rattle.definition.specs.Compiled.{own_numbers, is_compiled}
use Rattle.laws.specs.Maps.{map_length}
use Rattle.tables.specs.Ranges.{InTables, BlockFits, row_fits, transition_fits_lem}
use Rattle.chart.specs.Own.{own_chart, compiled_ready}
use Rattle.room.specs.Sums.{total, fold_total}
use Rattle.room.specs.Room.{room_in_row, transition_room, add_row, add_transition, rows_room, transitions_room, room_for, room_of, most_row_room, most_transition_room, most_room}

-- n numbers from i on, each with at most so much
total_most : (f : ℕ → ℕ) (most n i : ℕ) → ((k : ℕ) → k < i + n → f k ≤ most) → total f (from n i) ≤ n * most
unfolding total from
total_most f most zero i h = omega arith
total_most f most (suc n) i h =
    let a = h i (omega arith) in
    let b = total_most f most n (suc i) (λ k l. h k (omega arith)) in
    omega arith

module _ (numbers : List ℕ) (h : InTables numbers) where
  block_most : (start count : ℕ) → BlockFits numbers start count → length (block_at numbers start count) ≤ most_actions
  unfolding block_at
  block_most start count f = let e = map_length (action_at numbers) count start in let s = f.short in omega arith

  row_most : (i : ℕ) → i < row_count numbers → room_in_row (chart_of numbers) i ≤ most_row_room
  unfolding room_in_row entry_at exit_at list_block_at
  row_most i l =
      let f = row_fits numbers i (record { tables = h; below = l }) in
      let a = block_most _ _ f.exit in
      let b = block_most _ _ f.entry in
      let d = block_most _ _ f.block in
      omega arith

  transition_most : (t : ℕ) → t < transition_count numbers → transition_room (chart_of numbers) t ≤ most_transition_room
  unfolding transition_room transition_block_at
  transition_most t l = let a = block_most _ _ (transition_fits_lem numbers t (record { tables = h; below = l })).block in omega arith

  pub tables_most : room_for (chart_of numbers) ≤ most_room
  unfolding room_for rows_room transitions_room add_row add_transition
  tables_most =
      let a = fold_total (add_row (chart_of numbers)) (room_in_row (chart_of numbers)) (λ s i. refl) 0 (from (row_count numbers) 0) in
      let b = fold_total (add_transition (chart_of numbers)) (transition_room (chart_of numbers)) (λ s t. refl) 0 (from (transition_count numbers) 0) in
      let d = total_most (room_in_row (chart_of numbers)) most_row_room (row_count numbers) 0 (λ i l. row_most i (omega arith)) in
      let e = total_most (transition_room (chart_of numbers)) most_transition_room (transition_count numbers) 0 (λ t l. transition_most t (omega arith)) in
      let r = h.sized.counts.rows in
      let t = h.sized.counts.transitions in
      omega arith

pub room_most : (chart names : List ℕ) → room_of chart names ≤ most_room
unfolding room_of
room_most chart names = go (is_compiled chart names) refl
  where
    go : (d : Bool) → is_compiled chart names ≡ d → cond d (room_for (chart_of (own_numbers chart))) 0 ≤ most_room
    go true k = let t = (compiled_ready chart names k).ready.tables in rw (own_chart chart t) (tables_most chart t)
    go false k = omega arith
