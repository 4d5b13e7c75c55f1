use Rattle.chart.specs.Readers.{atomic_final, atomic_state, atomic_other}
use Rattle.laws.specs.Loops.{told}
use Rattle.definition.specs.Chart.{is_state, is_final}
use Rattle.chart.proofs.is_atomic.Goals as goal

pub returns-then-is_final : goal.returns-then-is_final
returns-then-is_final c = atomic_final _ _ (told is_final _ _ _ _ c.kind_of-k.ensures c.is_final.ensures c.if-is_final.true)

pub returns-then-is_state : goal.returns-then-is_state
returns-then-is_state c =
    let k = c.kind_of-k.ensures in
    atomic_state _ _ _ c.is_empty.result (told is_final _ _ _ _ k c.is_final.ensures c.if-is_final.false)
    (told is_state _ _ _ _ k c.is_state.ensures c.if-is_state.true) c.children_of.ensures c.is_empty.ensures

pub returns : goal.returns
returns c =
    let k = c.kind_of-k.ensures in
    atomic_other _ _ (told is_final _ _ _ _ k c.is_final.ensures c.if-is_final.false)
    (told is_state _ _ _ _ k c.is_state.ensures c.if-is_state.false)
