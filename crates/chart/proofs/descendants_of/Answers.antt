use Rattle.chart.specs.Readers.{row_set_lem}
use Rattle.rowset.specs.Member.{rows_of}
use mathlib.Core.Path.{ap, ◌∙◌}
use native.Mathlib.Omega.{arith}
use Rattle.chart.proofs.descendants_of.Goals as goal

pub set_in-requires : goal.set_in-requires
set_in-requires c = row_set_lem _ _ _ (omega arith) c.requires

pub returns : goal.returns
returns c = let p = c.requires in ap rows_of c.set_in.ensures ∙ p.ready.below _ p.inside
