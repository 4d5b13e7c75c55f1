-- A compiled chart: the numbers, then five columns of sets. What the check behind refusal 8 gives every reader above it.
use Rattle.std.specs.Prelude.{◌≡◌, true, List, [], ℕ, ◌+◌, ◌*◌, ◌≤◌, ◌<◌, length}
use Rattle.definition.specs.Rows.{union}
use Rattle.definition.specs.Tables.{slot_size, row_count, transition_count, name_count, tables_size, parent_at, chart_of}
use Rattle.definition.specs.Tree.{ancestors, descendants, children, default_targets, anchors}
use Rattle.definition.specs.Rules.{compiled_size, rule2}
use Rattle.definition.specs.Compiled.{own_numbers}
use Rattle.tables.specs.Ranges.{InTables, RowIn}
unfoldable pub use Rattle.tables.specs.Parts.{row_set_at}
use Rattle.accepted.specs.Sound.{Sound}
use Rattle.rowset.specs.declared.RowSet.{RowSet}
use Rattle.rowset.specs.Member.{rows_of}

-- ---- where each column begins; a set has four words

abbrev pub ancestor_base : List ℕ → ℕ
ancestor_base chart = tables_size chart

abbrev pub descendant_base : List ℕ → ℕ
descendant_base chart = tables_size chart + row_count chart * 4

abbrev pub child_base : List ℕ → ℕ
child_base chart = tables_size chart + row_count chart * 8

abbrev pub default_base : List ℕ → ℕ
default_base chart = tables_size chart + row_count chart * 12

abbrev pub anchor_base : List ℕ → ℕ
anchor_base chart = tables_size chart + row_count chart * 16

-- ---- the numbers keep rules 1, 3, 4 and 5, and every set is what the rows give

pub record Ready (chart : List ℕ) : Type 0 where
  pub tables : InTables chart
  pub size : compiled_size chart ≡ length chart
  pub above : (i : ℕ) → i < row_count chart → rows_of (row_set_at chart (ancestor_base chart + i * 4)) ≡ union [] (ancestors (chart_of chart) i)
  pub below : (i : ℕ) → i < row_count chart → rows_of (row_set_at chart (descendant_base chart + i * 4)) ≡ descendants (chart_of chart) i
  pub kids : (i : ℕ) → i < row_count chart → rows_of (row_set_at chart (child_base chart + i * 4)) ≡ children (chart_of chart) i
  pub defaults : (i : ℕ) → i < row_count chart → rows_of (row_set_at chart (default_base chart + i * 4)) ≡ union [] (default_targets (chart_of chart) i)
  pub anchor_sets : (t : ℕ) → t < transition_count chart → rows_of (row_set_at chart (anchor_base chart + t * 4)) ≡ anchors (chart_of chart) t
  pub sound : Sound (chart_of chart)

-- a row, a transition of the chart
pub record RowReady (chart : List ℕ) (i : ℕ) : Type 0 where
  pub ready : Ready chart
  pub inside : i < row_count chart

pub record TransitionReady (chart : List ℕ) (t : ℕ) : Type 0 where
  pub ready : Ready chart
  pub inside : t < transition_count chart

-- a row of the tables, and its children
pub record RowWith (numbers : List ℕ) (i : ℕ) (kids : RowSet) : Type 0 where
  pub row : RowIn numbers i
  pub are : rows_of kids ≡ children (chart_of numbers) i

-- a row that is not the root
pub record BelowRoot (chart : List ℕ) (i : ℕ) : Type 0 where
  pub row : RowReady chart i
  pub later : 0 < i

-- the row above row i
pub record ParentRow (chart : List ℕ) (i p : ℕ) : Type 0 where
  pub is : p ≡ parent_at chart i
  pub before : p < i
  pub row : RowReady chart p

-- a set inside the chart, behind so many words of each row
pub record SetInside (chart : List ℕ) (words i : ℕ) : Type 0 where
  pub size : compiled_size chart ≡ length chart
  pub column : words ≤ 16
  pub inside : tables_size chart + row_count chart * words + i * 4 + 4 ≤ length chart

-- and the names are well formed
pub record CompiledWith (chart names : List ℕ) : Type 0 where
  pub ready : Ready chart
  pub names_size : length names ≡ name_count chart * slot_size
  pub rule2 : rule2 (own_numbers chart) names ≡ true
