-- What the readers' contracts rest on: a set lies inside the chart, and the tests of a row follow from its kind and its children.
use Rattle.std.specs.Prelude.{◌≡◌, Bool, true, false, not, List, ℕ, zero, suc, ◌+◌, ◌-◌, ◌*◌, ◌≤◌, ◌<◌, length}
use Rattle.std.proofs.Math.Path.{sym, ap}
use Rattle.std.proofs.Common.{◌∙◌, mul-add, mul-le-mul_left, le-leb}
use native.Mathlib.Omega.{arith}
use Rattle.definition.specs.Rows.{is_empty}
use Rattle.definition.specs.Chart.{Chart, kind, is_root, is_state, is_final}
use Rattle.definition.specs.Tables.{row_count, transition_count, tables_size, parent_at, chart_of}
use Rattle.definition.specs.Tree.{children, is_compound, is_atomic, is_domain_kind}
use Rattle.definition.specs.Rules.{counts_fit, compiled_size}
use Rattle.accepted.specs.Tree.{low}
use Rattle.tables.specs.Ranges.{Counts}
use Rattle.rowset.specs.declared.RowSet.{RowSet}
use Rattle.rowset.specs.Member.{rows_of}
use Rattle.chart.specs.Ready.{RowReady, BelowRoot, TransitionReady, ParentRow, SetInside}

-- ---- the counts, as the test has them

pub counts_fit_lem : (numbers : List ℕ) → Counts numbers → counts_fit numbers ≡ true
unfolding counts_fit
counts_fit_lem numbers c =
    rw (le-leb _ _ c.some, le-leb _ _ c.rows, le-leb _ _ c.transitions, le-leb _ _ c.names, le-leb _ _ c.references, le-leb _ _ c.descriptors, le-leb _ _ c.actions)

-- ---- sets

pub row_set_lem : (chart : List ℕ) (w i : ℕ) → w ≤ 12 → RowReady chart i → SetInside chart w i
unfolding compiled_size
row_set_lem chart w i l h =
    let s = h.ready.size in
    let m : row_count chart * w ≤ row_count chart * 12 = mul-le-mul_left (row_count chart) l in
    let k = h.inside in
    record { size = s; column = omega arith; inside = omega arith }

pub transition_set_lem : (chart : List ℕ) (t : ℕ) → TransitionReady chart t → SetInside chart 16 t
unfolding compiled_size
transition_set_lem chart t h =
    let s = h.ready.size in
    let k = h.inside in
    record { size = s; column = omega arith; inside = omega arith }

-- what stands from a column on: the sets of the rows in it and in those behind it, and of the transitions
module _ (chart : List ℕ) (column i rows transitions : ℕ) (h : SetInside chart column i) (e : rows ≡ row_count chart) (f : transitions ≡ transition_count chart) where
  behind : tables_size chart + row_count chart * column + (transitions * 4 + rows * (16 - column)) ≡ length chart
  unfolding compiled_size
  behind =
      let s = h.size in
      let l = h.column in
      let c : column + (16 - column) ≡ 16 = omega arith in
      let m : row_count chart * column + row_count chart * (16 - column) ≡ row_count chart * 16 = sym (mul-add (row_count chart) column (16 - column)) ∙ ap (λ (w : ℕ). row_count chart * w) c in
      rw (e, f) (omega arith)

  pub set_place : length chart - (transitions * 4 + rows * (16 - column)) + i * 4 ≡ tables_size chart + row_count chart * column + i * 4
  set_place = let b = behind in omega arith

  pub behind_fits : transitions * 4 + rows * (16 - column) ≤ length chart
  behind_fits = let b = behind in omega arith

-- the first column stands where the tables end
pub first_column : (chart : List ℕ) (i : ℕ) → tables_size chart + row_count chart * 0 + i * 4 ≡ tables_size chart + i * 4
first_column chart i = omega arith

-- ---- tests of a row

module _ (c : Chart) (i : ℕ) where
  pub compound_state : (s : RowSet) (b : Bool) → is_state (kind c i) ≡ true → rows_of s ≡ children c i → b ≡ is_empty (rows_of s) → not b ≡ is_compound c i
  unfolding is_compound
  compound_state s b k e f = rw (k, ← e, f)

  pub compound_other : is_state (kind c i) ≡ false → false ≡ is_compound c i
  unfolding is_compound
  compound_other k = rw k

  pub atomic_final : is_final (kind c i) ≡ true → true ≡ is_atomic c i
  unfolding is_atomic
  atomic_final k = rw k

  pub atomic_state : (s : RowSet) (b : Bool) → is_final (kind c i) ≡ false → is_state (kind c i) ≡ true → rows_of s ≡ children c i → b ≡ is_empty (rows_of s) → b ≡ is_atomic c i
  unfolding is_atomic
  atomic_state s b n k e f = rw (n, k, ← e, f)

  pub atomic_other : is_final (kind c i) ≡ false → is_state (kind c i) ≡ false → false ≡ is_atomic c i
  unfolding is_atomic
  atomic_other n k = rw (n, k)

  pub domain_root : is_root (kind c i) ≡ true → true ≡ is_domain_kind c i
  unfolding is_domain_kind
  domain_root k = rw k

  pub domain_other : (b : Bool) → is_root (kind c i) ≡ false → b ≡ is_compound c i → b ≡ is_domain_kind c i
  unfolding is_domain_kind
  domain_other b k e = rw (k) e

-- ---- parents

pub parent_before : (chart : List ℕ) (i : ℕ) → BelowRoot chart i → parent_at chart i < i
parent_before chart zero h = let l = h.later in absurd (omega arith)
parent_before chart (suc i) h = let p = low (chart_of chart) h.row.ready.sound.tree i in omega arith

pub parent_is : (chart : List ℕ) (i p : ℕ) → BelowRoot chart i → p ≡ parent_at chart i → ParentRow chart i p
parent_is chart i p h e =
    let b = parent_before chart i h in
    let k = h.row.inside in
    record { is = e; before = omega arith; row = record { ready = h.row.ready; inside = omega arith } }
