-- The histories of a chart.
use Rattle.std.specs.Prelude.{Bool, List, ℕ}
use Rattle.definition.specs.Rows.{those}
use Rattle.definition.specs.Chart.{Chart, kind, is_history}

unfoldable pub is_history_row : Chart → ℕ → Bool
is_history_row c x = is_history (kind c x)

unfoldable pub history_rows : Chart → List ℕ
history_rows c = those c.rows (is_history_row c)
