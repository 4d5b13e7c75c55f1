use Rattle.std.proofs.Common.{ap, ◌∙◌}
use Rattle.definition.specs.Chart.{is_history}
use Rattle.matching.specs.Histories.{is_history_row}
use Rattle.matching.proofs.rows.is_history_row.Goals as goal

pub returns : goal.returns
unfolding is_history_row
returns c = c.is_history.ensures ∙ ap is_history c.kind_of.ensures
