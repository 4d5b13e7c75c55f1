use Rattle.laws.specs.Loops.{told}
use Rattle.definition.specs.Chart.{is_history}
use Rattle.definition.specs.Tables.{chart_of}
use Rattle.rules.specs.Initial.{owner_is, fits_default, fits_none, fits_other, fits_under}
use Rattle.rules.proofs.lists.list_fits.Goals as goal

pub default_fits-requires : goal.default_fits-requires
default_fits-requires c = (c.requires.0, c.requires.1, (told is_history _ _ _ _ c.kind_of-kind.ensures c.is_history.ensures c.if-is_history.true))

pub returns-then-is_history : goal.returns-then-is_history
returns-then-is_history c = fits_default (chart_of _) _ _ (told is_history _ _ _ _ c.kind_of-kind.ensures c.is_history.ensures c.if-is_history.true) c.default_fits.ensures

pub returns-then-list-eq0 : goal.returns-then-list-eq0
returns-then-list-eq0 c = fits_none _ _ _ c.list_of-list.ensures.is (told is_history _ _ _ _ c.kind_of-kind.ensures c.is_history.ensures c.if-is_history.false) _ c.if-list-eq0.true c.list_block_of-block.ensures

pub returns-then-not-is_root-is_state : goal.returns-then-not-is_root-is_state
returns-then-not-is_root-is_state c =
    fits_other _ _ _ c.list_of-list.ensures.is (told is_history _ _ _ _ c.kind_of-kind.ensures c.is_history.ensures c.if-is_history.false) c.if-list-eq0.false
    (owner_is _ _ _ _ _ _ c.kind_of-kind.ensures c.is_root.ensures c.is_state.ensures c.if-not-is_root-is_state.true)

pub returns : goal.returns
returns c =
    fits_under _ _ _ c.list_of-list.ensures.is (told is_history _ _ _ _ c.kind_of-kind.ensures c.is_history.ensures c.if-is_history.false) c.if-list-eq0.false _ _ c.requires.0 c.list_of-list.ensures.within
    (owner_is _ _ _ _ _ _ c.kind_of-kind.ensures c.is_root.ensures c.is_state.ensures c.if-not-is_root-is_state.false) c.all_under.ensures
