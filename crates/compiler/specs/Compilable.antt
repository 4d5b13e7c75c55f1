-- What the functions that derive the sets ask for and leave behind.
use Rattle.std.specs.Prelude.{◌≡◌, List, ◌++◌, ℕ, zero, suc, ◌+◌, ◌*◌, ◌≤◌, ◌<◌, length, drop}
use Rattle.std.proofs.Common.{arith}
use Rattle.definition.specs.Chart.{Chart}
use Rattle.definition.specs.Tables.{row_count, transition_count, parent_at, chart_of}
use Rattle.tables.specs.Ranges.{InTables, RowIn, TransitionIn, HasParent}
use Rattle.accepted.specs.Tree.{low}
use Rattle.accepted.specs.Sound.{Sound}
use Rattle.definition.specs.Tree.{children, default_targets}
use Rattle.definition.specs.Compiled.{column}
use Rattle.chart.specs.Writing.{column_over}
use Rattle.rules3.specs.Parents.{TreeIn, tree_kept}

-- numbers that keep rules 1, 3, 4 and 5
pub record Compilable (numbers : List ℕ) : Type 0 where
  pub tables : InTables numbers
  pub sound : Sound (chart_of numbers)

-- and a place with room for a set of each row, or of each transition
pub record RowRoom (numbers sets : List ℕ) : Type 0 where
  pub numbers_keep : Compilable numbers
  pub room : row_count numbers * 4 ≤ length sets

-- the children of each row, and room for one more set of each
pub record TargetRoom (numbers sets : List ℕ) : Type 0 where
  pub numbers_keep : Compilable numbers
  pub room : row_count numbers * 8 ≤ length sets
  pub kids : sets ≡ column_over (children (chart_of numbers)) (row_count numbers) sets

pub record PairRoom (numbers sets : List ℕ) : Type 0 where
  pub numbers_keep : Compilable numbers
  pub room : row_count numbers * 8 ≤ length sets

-- the two columns over the beginning of a place
abbrev pub children_and_targets : Chart → List ℕ → List ℕ
children_and_targets c sets = column (children c) c.rows ++ column_over (default_targets c) c.rows (drop (c.rows * 4) sets)

-- room for every set and no more
pub record ColumnsRoom (numbers sets : List ℕ) : Type 0 where
  pub numbers_keep : Compilable numbers
  pub room : length sets ≡ row_count numbers * 16 + transition_count numbers * 4

pub record TransitionRoom (numbers sets : List ℕ) : Type 0 where
  pub numbers_keep : Compilable numbers
  pub room : transition_count numbers * 4 ≤ length sets

-- ---- a row and its parent

module _ (numbers : List ℕ) (h : Compilable numbers) where
  pub tree_in : TreeIn numbers
  tree_in = tree_kept numbers h.tables h.sound.tree.rule

  pub row_in_lem : (i : ℕ) → i < row_count numbers → RowIn numbers i
  row_in_lem i l = record { tables = h.tables; below = l }

  pub transition_in_lem : (t : ℕ) → t < transition_count numbers → TransitionIn numbers t
  transition_in_lem t l = record { tables = h.tables; below = l }

  pub parent_low : (i : ℕ) → 0 < i → parent_at numbers i < i
  parent_low zero l = absurd (omega arith)
  parent_low (suc i) l = let p = low (chart_of numbers) h.sound.tree i in omega arith

  pub has_parent : (i : ℕ) → i < row_count numbers → 0 < i → HasParent numbers i
  has_parent i l s = let p = parent_low i s in record { row = row_in_lem i l; parent = omega arith }
