use Rattle.chart.specs.Readers.{transition_set_lem}
use Rattle.rowset.specs.Member.{rows_of}
use mathlib.Core.Path.{ap, ◌∙◌}
use Rattle.chart.proofs.anchors_of.Goals as goal

pub set_in-requires : goal.set_in-requires
set_in-requires c = transition_set_lem _ _ c.requires

pub returns : goal.returns
returns c = let p = c.requires in ap rows_of c.set_in.ensures ∙ p.ready.anchor_sets _ p.inside
