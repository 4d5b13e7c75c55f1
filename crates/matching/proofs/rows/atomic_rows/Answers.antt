use Rattle.std.proofs.Common.{ap, ◌∙◌, rules}
use Rattle.definition.specs.Rows.{those}
use Rattle.definition.specs.Tree.{is_atomic}
use Rattle.definition.specs.Tables.{chart_of}
use Rattle.matching.specs.Chosen.{atomic_rows}
use Rattle.matching.proofs.rows.atomic_rows.Goals as goal

pub returns : goal.returns
unfolding atomic_rows
returns c = c.rows_where.ensures (is_atomic (chart_of c.args.chart.now)) (λ r b l e. search rules) ∙ ap (λ n. those n (is_atomic (chart_of c.args.chart.now))) c.row_count.ensures
