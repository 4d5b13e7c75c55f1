-- A round has few effects: each block has at most most_actions actions, and each set at most most_rows rows.
use Rattle.std.specs.Prelude.{◌≡◌, Bool, cond, List, [], ◌++◌, ℕ, ◌+◌, ◌*◌, ◌^◌, ◌≤◌, ◌<◌, eqb}
use Rattle.std.proofs.Common.{ap, sym, ◌∙◌}
use Rattle.std.proofs.Math.Bool.{true, false}
use native.Mathlib.Omega.{arith}
use Rattle.std.proofs.Math.ListN.{length, length-append}
use Rattle.std.proofs.lemmas.List.{length-map}
use Rattle.definition.specs.Rows.{flat, from, mem, backwards}
use Rattle.definition.specs.Chart.{parent}
use Rattle.definition.specs.Tables.{most_rows, most_actions, row_count, transition_count, row_cell, transition_cell, block_at, entry_at, exit_at, list_block_at, transition_block_at, chart_of}
use Rattle.follower.specs.Blocks.{performed_from, performed}
use Rattle.follower.specs.Microstep.{exit_effects, exiting, transition_effects, Entry, initial_block, default_block, done_effects, active_leaving, active_at, default_effects, entry_effects, entering}
use Rattle.laws.specs.Orders.{mem_backwards}
use Rattle.laws.specs.Folds.{flat_length, backwards_length, ascends_length}
use Rattle.laws.specs.Lists.{length_from}
use Rattle.rowset.specs.declared.RowSet.{RowSet}
use Rattle.rowset.specs.Member.{rows_of}
use Rattle.rowset.specs.Rows.{ascends_rows, rows_low}
use Rattle.tables.specs.Ranges.{InTables, row_fits, transition_fits_lem}
use Rattle.chart.specs.Within.{Within}
use Rattle.paths.specs.Lengths.{performed_few}
use Rattle.paths.specs.Lengths.{done_few}
use Rattle.effects.specs.declared.Tally.{Tally}
use Rattle.effects.specs.Trace.{Room}
use Rattle.effects.specs.Writing.{room_few}
use Rattle.effects.specs.Entering.{row_entered, entry_is, entry_pieces, HistoryRows}

-- the most effects of an exit: itself and its block
abbrev most_left : ℕ
most_left = 1 + most_actions

-- of a transition: itself, the row that chose it, and its block
abbrev most_taken : ℕ
most_taken = 2 + most_actions

-- of an entry without its done events: itself, its entry block, its initial block, and the default block of each history
abbrev most_entered : ℕ
most_entered = 1 + most_actions + most_actions + most_rows * most_actions

-- of a round: few enough for a number of 32 bits
abbrev pub most_effects : ℕ
most_effects = most_rows * most_left + most_rows * most_taken + most_rows * (most_entered + 2)

block_length : (numbers : List ℕ) (start count : ℕ) → length (block_at numbers start count) ≡ count
unfolding block_at
block_length numbers start count = length-map (from count start) _ ∙ length_from count start

-- of a block in the tables
short : (active numbers : List ℕ) (start count : ℕ) → count ≤ most_actions → length (performed active (block_at numbers start count)) ≤ most_actions
short active numbers start count l = let e = performed_few active (block_at numbers start count) in let f = block_length numbers start count in omega arith

pub rows_few : (s : RowSet) → length (rows_of s) ≤ most_rows
rows_few s = let h = ascends_length 0 256 (rows_of s) (ascends_rows s) (rows_low s) (omega arith) in omega arith

module _ (numbers : List ℕ) (h : InTables numbers) where
  exit_short : (conf out : List ℕ) (i : ℕ) → i < row_count numbers → length (exit_effects (chart_of numbers) conf out i) ≤ most_left
  unfolding exit_effects exit_at
  exit_short conf out i l =
      let f = row_fits numbers i (record { tables = h; below = l }) in
      let b = short (active_leaving conf out i) numbers (row_cell numbers i 5) (row_cell numbers i 6) f.exit.short in
      omega arith

  transition_short : (stay : List ℕ) (by : ℕ → ℕ) (t : ℕ) → t < transition_count numbers → length (transition_effects (chart_of numbers) stay by t) ≤ most_taken
  unfolding transition_effects transition_block_at
  transition_short stay by t l =
      let f = transition_fits_lem numbers t (record { tables = h; below = l }) in
      let b = short stay numbers (transition_cell numbers t 7) (transition_cell numbers t 8) f.block.short in
      omega arith

  entry_block : (active : List ℕ) (i : ℕ) → i < row_count numbers → length (performed active (entry_at numbers i)) ≤ most_actions
  unfolding entry_at
  entry_block active i l =
      let f = row_fits numbers i (record { tables = h; below = l }) in
      short active numbers (row_cell numbers i 3) (row_cell numbers i 4) f.entry.short

  list_block : (active : List ℕ) (i : ℕ) → i < row_count numbers → length (performed active (list_block_at numbers i)) ≤ most_actions
  unfolding list_block_at
  list_block active i l =
      let f = row_fits numbers i (record { tables = h; below = l }) in
      short active numbers (row_cell numbers i 9) (row_cell numbers i 10) f.block.short

  initial_short : (active entered_by_default : List ℕ) (i : ℕ) → i < row_count numbers → length (performed active (initial_block (chart_of numbers) entered_by_default i)) ≤ most_actions
  unfolding initial_block
  initial_short active entered_by_default i l = go (mem i entered_by_default)
    where
      go : (b : Bool) → length (performed active (cond b (list_block_at numbers i) [])) ≤ most_actions
      go true = list_block active i l
      go false = unfold performed performed_from in omega arith

  default_short : (active : List ℕ) (i k : ℕ) → k < row_count numbers → length (default_effects (chart_of numbers) active i k) ≤ most_actions
  unfolding default_effects default_block
  default_short active i k l = go (eqb i (parent (chart_of numbers) k))
    where
      go : (b : Bool) → length (performed active (cond b (list_block_at numbers k) [])) ≤ most_actions
      go true = list_block active k l
      go false = unfold performed performed_from in omega arith

  entered_short : (active entered_by_default : List ℕ) (fell : RowSet) → HistoryRows numbers (rows_of fell) → (i : ℕ) → i < row_count numbers → length (row_entered (chart_of numbers) active entered_by_default (rows_of fell) i) ≤ most_entered
  unfolding row_entered
  entered_short active entered_by_default fell w i l =
      let a = entry_block active i l in
      let b = initial_short active entered_by_default i l in
      let f = flat_length (default_effects (chart_of numbers) active i) most_actions (rows_of fell) (λ k m. default_short active i k (w.at k m).0) in
      let n = rows_few fell in
      let x = length-append (performed active (entry_at numbers i)) (performed active (initial_block (chart_of numbers) entered_by_default i) ++ flat (default_effects (chart_of numbers) active i) (rows_of fell)) in
      let y = length-append (performed active (initial_block (chart_of numbers) entered_by_default i)) (flat (default_effects (chart_of numbers) active i) (rows_of fell)) in
      omega arith

  entry_short : (stay : List ℕ) (e : Entry) (fell : RowSet) → HistoryRows numbers (rows_of fell) → (i : ℕ) → i < row_count numbers → length (entry_effects (chart_of numbers) stay e (rows_of fell) i) ≤ most_entered + 2
  entry_short stay e fell w i l =
      let q = ap {B = ℕ} length (entry_pieces (chart_of numbers) stay e (rows_of fell) i) in
      let a = entered_short (active_at stay e.set i) e.entered_by_default fell w i l in
      let d = done_few (chart_of numbers) (active_at stay e.set i) i in
      let x = length-append (row_entered (chart_of numbers) (active_at stay e.set i) e.entered_by_default (rows_of fell) i) (done_effects (chart_of numbers) (active_at stay e.set i) i) in
      omega arith

  exiting_few : (conf : List ℕ) (out : RowSet) → Within (row_count numbers) (rows_of out) → length (exiting (chart_of numbers) conf (rows_of out)) ≤ most_rows * most_left
  unfolding exiting
  exiting_few conf out w =
      let f = flat_length (exit_effects (chart_of numbers) conf (rows_of out)) most_left (backwards (rows_of out)) (λ i m. exit_short conf (rows_of out) i (w.at i (sym (mem_backwards i (rows_of out)) ∙ m))) in
      let e = backwards_length (rows_of out) in
      let n = rows_few out in
      omega arith

  taken_few : (stay : List ℕ) (by : ℕ → ℕ) (ts : List ℕ) → length ts ≤ most_rows → Within (transition_count numbers) ts → length (flat (transition_effects (chart_of numbers) stay by) ts) ≤ most_rows * most_taken
  taken_few stay by ts l w =
      let f = flat_length (transition_effects (chart_of numbers) stay by) most_taken ts (λ t m. transition_short stay by t (w.at t m)) in
      omega arith

  entering_few : (stay : List ℕ) (set defaults fell : RowSet) → Within (row_count numbers) (rows_of set) → HistoryRows numbers (rows_of fell) →
      length (entering (chart_of numbers) stay (entry_is set defaults) (rows_of fell)) ≤ most_rows * (most_entered + 2)
  unfolding entering
  entering_few stay set defaults fell w v =
      let f = flat_length (entry_effects (chart_of numbers) stay (entry_is set defaults) (rows_of fell)) (most_entered + 2) (rows_of set) (λ i m. entry_short stay (entry_is set defaults) fell v i (w.at i m)) in
      let n = rows_few set in
      omega arith

  -- the effects of a round, of a start and of a closing round
  pub round_few : (conf : List ℕ) (out : RowSet) (by : ℕ → ℕ) (ts stay : List ℕ) (set defaults fell : RowSet) →
      Within (row_count numbers) (rows_of out) → length ts ≤ 256 → Within (transition_count numbers) ts → Within (row_count numbers) (rows_of set) → HistoryRows numbers (rows_of fell) →
      length (exiting (chart_of numbers) conf (rows_of out) ++ flat (transition_effects (chart_of numbers) stay by) ts ++ entering (chart_of numbers) stay (entry_is set defaults) (rows_of fell)) ≤ most_effects
  round_few conf out by ts stay set defaults fell w l v x y =
      let p = exiting_few conf out w in
      let q = taken_few stay by ts l v in
      let r = entering_few stay set defaults fell x y in
      let e = length-append (exiting (chart_of numbers) conf (rows_of out) ++ flat (transition_effects (chart_of numbers) stay by) ts) (entering (chart_of numbers) stay (entry_is set defaults) (rows_of fell)) in
      let f = length-append (exiting (chart_of numbers) conf (rows_of out)) (flat (transition_effects (chart_of numbers) stay by) ts) in
      omega arith

  pub start_few : (stay : List ℕ) (set defaults fell : RowSet) → Within (row_count numbers) (rows_of set) → HistoryRows numbers (rows_of fell) →
      length (entering (chart_of numbers) stay (entry_is set defaults) (rows_of fell)) ≤ most_effects
  start_few stay set defaults fell x y = let r = entering_few stay set defaults fell x y in omega arith

  pub round_room : (t : Tally) (conf : List ℕ) (out : RowSet) (by : ℕ → ℕ) (ts stay : List ℕ) (set defaults fell : RowSet) → t.entries ≤ 2 ^ 61 → t.names ≤ 2 ^ 61 → t.timers ≤ 2 ^ 61 →
      Within (row_count numbers) (rows_of out) → length ts ≤ 256 → Within (transition_count numbers) ts → Within (row_count numbers) (rows_of set) → HistoryRows numbers (rows_of fell) →
      Room t (exiting (chart_of numbers) conf (rows_of out) ++ flat (transition_effects (chart_of numbers) stay by) ts ++ entering (chart_of numbers) stay (entry_is set defaults) (rows_of fell))
  round_room t conf out by ts stay set defaults fell a b c w l v x y = let p = round_few conf out by ts stay set defaults fell w l v x y in room_few t _ a b c (omega arith)

  pub entering_room : (t : Tally) (stay : List ℕ) (set defaults fell : RowSet) → t.entries ≤ 2 ^ 61 → t.names ≤ 2 ^ 61 → t.timers ≤ 2 ^ 61 →
      Within (row_count numbers) (rows_of set) → HistoryRows numbers (rows_of fell) → Room t (entering (chart_of numbers) stay (entry_is set defaults) (rows_of fell))
  entering_room t stay set defaults fell a b c x y = let r = start_few stay set defaults fell x y in room_few t _ a b c (omega arith)

  pub exiting_room : (t : Tally) (conf : List ℕ) (out : RowSet) → t.entries ≤ 2 ^ 61 → t.names ≤ 2 ^ 61 → t.timers ≤ 2 ^ 61 → Within (row_count numbers) (rows_of out) → Room t (exiting (chart_of numbers) conf (rows_of out))
  exiting_room t conf out a b c w = let p = exiting_few conf out w in room_few t _ a b c (omega arith)
