use Rattle.definition.specs.Chart.{is_root, is_state}
use Rattle.chart.specs.Readers.{compound_state, compound_other, domain_root, domain_other}
use Rattle.laws.specs.Loops.{told}
use Rattle.chart.proofs.has_initial.Goals as goal

pub returns-then-is_root : goal.returns-then-is_root
returns-then-is_root c = domain_root _ _ (told is_root _ _ _ _ c.kind_of-k.ensures c.is_root.ensures c.if-is_root.true)

pub returns-then-is_state : goal.returns-then-is_state
returns-then-is_state c =
    let k = c.kind_of-k.ensures in
    domain_other _ _ _ (told is_root _ _ _ _ k c.is_root.ensures c.if-is_root.false)
    (compound_state _ _ _ c.is_empty.result (told is_state _ _ _ _ k c.is_state.ensures c.if-is_state.true) c.requires.are c.is_empty.ensures)

pub returns : goal.returns
returns c =
    let k = c.kind_of-k.ensures in
    domain_other _ _ _ (told is_root _ _ _ _ k c.is_root.ensures c.if-is_root.false)
    (compound_other _ _ (told is_state _ _ _ _ k c.is_state.ensures c.if-is_state.false))
