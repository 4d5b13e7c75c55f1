use mathlib.Core.Path.{sym, ◌∙◌}
use Rattle.rules.specs.Beside.{beside_none, beside_held, beside_above, beside_under, beside_nearest, highest_row}
use Rattle.definition.specs.Tables.{chart_of}
use Rattle.rules.proofs.apart.is_beside.Goals as goal

pub returns-then-is_empty : goal.returns-then-is_empty
returns-then-is_empty c = beside_none (chart_of _) _ _ _ _ (sym c.is_empty.ensures ∙ c.if-is_empty.true)

pub returns-then-has : goal.returns-then-has
returns-then-has c =
    let some = sym c.is_empty.ensures ∙ c.if-is_empty.false in
    beside_held (chart_of _) _ _ _ _ some (sym c.has.ensures ∙ c.if-has.true)

pub returns-then-has-2 : goal.returns-then-has-2
returns-then-has-2 c =
    let some = sym c.is_empty.ensures ∙ c.if-is_empty.false in
    let new = sym c.has.ensures ∙ c.if-has.false in
    beside_above (chart_of _) _ _ _ _ some new (sym c.has-2.ensures ∙ c.if-has-2.true)

pub returns-then-meets : goal.returns-then-meets
returns-then-meets c =
    let some = sym c.is_empty.ensures ∙ c.if-is_empty.false in
    let new = sym c.has.ensures ∙ c.if-has.false in
    let under = sym c.has-2.ensures ∙ c.if-has-2.false in
    beside_under (chart_of _) _ _ _ _ some new under (sym c.meets.ensures ∙ c.if-meets.true)

pub kind_of-requires : goal.kind_of-requires
kind_of-requires c = highest_row _ _ _ _ _ c.requires c.highest_common-nearest.ensures

pub returns : goal.returns
returns c =
    let some = sym c.is_empty.ensures ∙ c.if-is_empty.false in
    let new = sym c.has.ensures ∙ c.if-has.false in
    let under = sym c.has-2.ensures ∙ c.if-has-2.false in
    let over = sym c.meets.ensures ∙ c.if-meets.false in
    rw (c.is_parallel.ensures, c.kind_of.ensures) (beside_nearest (chart_of _) _ _ _ _ some new under _ over c.highest_common-nearest.ensures)
