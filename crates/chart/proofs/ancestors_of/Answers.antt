use Rattle.chart.specs.Readers.{row_set_lem, first_column}
use Rattle.chart.specs.Ready.{row_set_at}
use Rattle.rowset.specs.Member.{rows_of}
use mathlib.Core.Path.{ap, ◌∙◌}
use native.Mathlib.Omega.{arith}
use Rattle.chart.proofs.ancestors_of.Goals as goal

pub set_in-requires : goal.set_in-requires
set_in-requires c = row_set_lem _ _ _ (omega arith) c.requires

pub returns : goal.returns
returns c =
    let p = c.requires in
    ap rows_of (c.set_in.ensures ∙ ap (row_set_at _) (first_column _ _)) ∙ p.ready.above _ p.inside
