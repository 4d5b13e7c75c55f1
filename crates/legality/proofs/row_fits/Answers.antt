use Rattle.legality.specs.Rows.{fit_empty, row_root, row_history, row_alone, row_held, not_first}
use Rattle.laws.specs.Loops.{told, said_not_yes, said_not_no}
use Rattle.definition.specs.Chart.{is_root, is_history}
use mathlib.Core.Bool.{not}
use mathlib.Core.Path.{ap}
use Rattle.legality.proofs.row_fits.Goals as goal

pub returns-then-is_root : goal.returns-then-is_root
returns-then-is_root c = row_root _ _ _ (told is_root _ _ _ _ c.kind_of-k.ensures c.is_root.ensures c.if-is_root.true)

pub returns-then-is_history : goal.returns-then-is_history
returns-then-is_history c = row_history _ _ _ (told is_root _ _ _ _ c.kind_of-k.ensures c.is_root.ensures c.if-is_root.false) (told is_history _ _ _ _ c.kind_of-k.ensures c.is_history.ensures c.if-is_history.true)

pub is_held-requires : goal.is_held-requires
is_held-requires c = (c.requires, not_first _ _ c.requires.ready (told is_root _ _ _ _ c.kind_of-k.ensures c.is_root.ensures c.if-is_root.false))

pub returns-then-not-is_held : goal.returns-then-not-is_held
returns-then-not-is_held c = row_alone _ _ _ (told is_root _ _ _ _ c.kind_of-k.ensures c.is_root.ensures c.if-is_root.false) (told is_history _ _ _ _ c.kind_of-k.ensures c.is_history.ensures c.if-is_history.false) (said_not_yes _ _ c.is_held.ensures (ap not c.if-not-is_held.true))

pub returns-then-is_empty : goal.returns-then-is_empty
returns-then-is_empty c =
    row_held _ _ _ _ (told is_root _ _ _ _ c.kind_of-k.ensures c.is_root.ensures c.if-is_root.false) (told is_history _ _ _ _ c.kind_of-k.ensures c.is_history.ensures c.if-is_history.false) (said_not_no _ _ c.is_held.ensures (ap not c.if-not-is_held.false))
    (fit_empty _ _ _ _ _ (told is_root _ _ _ _ c.kind_of-k.ensures c.is_root.ensures c.if-is_root.false) c.children_of-children.ensures c.is_empty.ensures c.if-is_empty.true)

pub returns : goal.returns
returns c = row_held _ _ _ _ (told is_root _ _ _ _ c.kind_of-k.ensures c.is_root.ensures c.if-is_root.false) (told is_history _ _ _ _ c.kind_of-k.ensures c.is_history.ensures c.if-is_history.false) (said_not_no _ _ c.is_held.ensures (ap not c.if-not-is_held.false)) c.children_fit.ensures
