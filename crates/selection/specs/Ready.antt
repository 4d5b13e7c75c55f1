-- What the functions of this crate are given and give: a compiled chart and stored history, a domain, transitions with the rows that they exit.
use Rattle.std.specs.Prelude.{◌≡◌, List, ℕ, ◌+◌, ◌≤◌, ◌<◌, length, drop}
use Rattle.definition.specs.Tables.{row_count, transition_count, transition_at, chart_of}
use Rattle.definition.specs.Rows.{append, union}
use Rattle.definition.specs.Chart.{Chart}
use Rattle.follower.specs.Selection.{History, exit_set}
use Rattle.follower.specs.Microstep.{exits}
use Rattle.rowset.specs.declared.RowSet.{RowSet}
use Rattle.rowset.specs.Member.{rows_of}
use Rattle.chart.specs.Ready.{Ready, RowReady}
use Rattle.chart.specs.Within.{Within}
use Rattle.matching.specs.Chosen.{list_of, ChosenIn}
use Rattle.matching.specs.Ready.{Prepared}
use Rattle.selection.specs.declared.Selected.{Selected}
use Rattle.paths.specs.History.{stored_at}
use Rattle.selection.specs.FixedDomains.{DomainsFixed}

-- stored history has four words for each of 256 rows
pub record HistoryReady (chart history : List ℕ) : Type 0 where
  pub ready : Ready chart
  pub room : length history ≡ 1024

pub record MoveReady (chart history : List ℕ) (t : ℕ) : Type 0 where
  pub ready : Ready chart
  pub room : length history ≡ 1024
  pub inside : t < transition_count chart

-- with the fixed of all transitions
pub record FixedReady (chart domains history : List ℕ) (t : ℕ) : Type 0 where
  pub move : MoveReady chart history t
  pub fixed : DomainsFixed (chart_of chart) domains

-- all that a selection is given: the chart with what is made of it once, the session's part, room for the items
pub record SelectReady (chart names starts domains : List ℕ) (atoms conf : RowSet) (history items : List ℕ) : Type 0 where
  pub prepared : Prepared chart names starts atoms
  pub fixed : DomainsFixed (chart_of chart) domains
  pub inside : Within (row_count chart) (rows_of conf)
  pub room : length history ≡ 1024
  pub places : length items ≡ 768

-- the row that the definition says, a row of the chart
pub record DomainIs (chart : List ℕ) (domain d : ℕ) : Type 0 where
  pub is : d ≡ domain
  pub row : RowReady chart d

-- a transition with its exit set
pub record Candidate (chart domains : List ℕ) (conf : RowSet) (history : List ℕ) (t : ℕ) (own : RowSet) : Type 0 where
  pub move : FixedReady chart domains history t
  pub exits : rows_of own ≡ exit_set (chart_of chart) (rows_of conf) (stored_at history) (transition_at chart t)

-- these transitions are the first of the items, and these the rows that they exit
pub record IsSelected (c : Chart) (conf : List ℕ) (hist : History) (ts items : List ℕ) (r : Selected) : Type 0 where
  pub is : list_of items r.len ≡ ts
  pub exits : rows_of r.exits ≡ exits c conf hist ts
  pub fits : ChosenIn c.transitions items r.len

abbrev pub Selects : Chart → List ℕ → History → List ℕ → Selected → Type 0
Selects c conf hist items r = IsSelected c conf hist (list_of items r.len) items r

-- kept with t last, whose exit set is own; items behind it stay
pub record Joined (before : List ℕ) (kept : Selected) (t : ℕ) (own : RowSet) (after : List ℕ) (r : Selected) : Type 0 where
  pub is : list_of after r.len ≡ append (list_of before kept.len) t
  pub exits : rows_of r.exits ≡ union (rows_of kept.exits) (rows_of own)
  pub room : length after ≡ length before
  pub len : r.len ≡ kept.len + 1
  pub behind : (k : ℕ) → kept.len < k → drop k after ≡ drop k before

-- these transitions, at most one more than the n that were kept; items behind that one stay
pub record Admits (c : Chart) (conf : List ℕ) (hist : History) (ts before : List ℕ) (n : ℕ) (after : List ℕ) (r : Selected) : Type 0 where
  pub selected : IsSelected c conf hist ts after r
  pub most : r.len ≤ n + 1
  pub behind : drop (n + 1) after ≡ drop (n + 1) before

-- these transitions, at most the n that were kept; items behind those stay
pub record Leaves (c : Chart) (conf : List ℕ) (hist : History) (ts before : List ℕ) (n : ℕ) (after : List ℕ) (r : Selected) : Type 0 where
  pub selected : IsSelected c conf hist ts after r
  pub most : r.len ≤ n
  pub behind : drop n after ≡ drop n before
