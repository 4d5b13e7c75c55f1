-- What the functions of this crate are given: a compiled chart with its names, and what is made of it once.
use Rattle.std.specs.Prelude.{◌≡◌, List, ℕ, ◌+◌, ◌≤◌, ◌<◌, length, get_or}
use Rattle.std.proofs.Math.Option.{Option}
use Rattle.std.proofs.Common.{arith}
use Rattle.definition.specs.Tables.{row_count, transition_count, name_count, chart_of}
use Rattle.follower.specs.Selection.{add_once}
use Rattle.tables.specs.Ranges.{SlotIn}
use Rattle.rowset.specs.declared.RowSet.{RowSet}
use Rattle.rowset.specs.Member.{rows_of}
use Rattle.chart.specs.Ready.{CompiledWith}
use Rattle.matching.specs.Sources.{Indexed}
use Rattle.matching.specs.Chosen.{list_of, atomic_rows}

pub record TransitionWith (chart names : List ℕ) (t : ℕ) : Type 0 where
  pub compiled : CompiledWith chart names
  pub inside : t < transition_count chart

pub slot_ready : (chart names : List ℕ) (n : ℕ) → CompiledWith chart names → n < name_count chart → SlotIn names n
slot_ready chart names n h l = let s = h.names_size in record { inside = omega arith }

-- with the index of transitions by source, for a climb from row i
pub record ClimbReady (chart names starts : List ℕ) (i : ℕ) : Type 0 where
  pub compiled : CompiledWith chart names
  pub indexed : Indexed (chart_of chart) starts
  pub inside : i < row_count chart

-- with the index and the atomic rows
pub record Prepared (chart names starts : List ℕ) (atoms : RowSet) : Type 0 where
  pub compiled : CompiledWith chart names
  pub indexed : Indexed (chart_of chart) starts
  pub atomic : rows_of atoms ≡ atomic_rows (chart_of chart)

-- the first n of the items after are the first len before with the choice; items behind it stay
pub record AddedOnce (before : List ℕ) (len : ℕ) (choice : Option ℕ) (after : List ℕ) (n : ℕ) : Type 0 where
  pub is : list_of after n ≡ add_once (list_of before len) choice
  pub room : length after ≡ length before
  pub most : n ≤ len + 1
  pub behind : (k : ℕ) → len < k → get_or after k 0 ≡ get_or before k 0
