use Rattle.chart.specs.Readers.{compound_state, compound_other}
use Rattle.laws.specs.Loops.{told}
use Rattle.definition.specs.Chart.{is_state}
use Rattle.chart.proofs.is_compound.Goals as goal

pub returns-then-is_state : goal.returns-then-is_state
returns-then-is_state c = compound_state _ _ _ c.is_empty.result (told is_state _ _ _ _ c.kind_of.ensures c.is_state.ensures c.if-is_state.true) c.children_of.ensures c.is_empty.ensures

pub returns : goal.returns
returns c = compound_other _ _ (told is_state _ _ _ _ c.kind_of.ensures c.is_state.ensures c.if-is_state.false)
