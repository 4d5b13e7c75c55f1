use Rattle.std.proofs.Common.{ap, ◌∙◌, rules}
use Rattle.definition.specs.Rows.{those}
use Rattle.definition.specs.Tables.{chart_of}
use Rattle.matching.specs.Histories.{is_history_row, history_rows}
use Rattle.matching.proofs.rows.history_rows.Goals as goal

pub returns : goal.returns
unfolding history_rows
returns c = c.rows_where.ensures (is_history_row (chart_of c.args.chart.now)) (λ r b l e. search rules) ∙ ap (λ n. those n (is_history_row (chart_of c.args.chart.now))) c.row_count.ensures
