-- Stored history: four words for each of 256 rows.
use Rattle.std.specs.Prelude.{List, ℕ, ◌*◌}
use Rattle.follower.specs.Selection.{History}
use Rattle.rowset.specs.Member.{rows_of}
use Rattle.chart.specs.Ready.{row_set_at}

-- what history h has stored
unfoldable pub stored_at : List ℕ → History
stored_at history h = rows_of (row_set_at history (h * 4))
