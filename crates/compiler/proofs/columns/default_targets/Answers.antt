use Rattle.rowset.specs.Visits.{first_of_lem, first_empty}
use Rattle.compiler.specs.Targets.{with_in, default_none, default_listed, default_first, default_childless}
use mathlib.Core.Path.{sym, ◌∙◌}
use Rattle.compiler.proofs.columns.default_targets.Goals as goal

pub has_initial-requires : goal.has_initial-requires
has_initial-requires c = with_in _ _ _ c.requires

pub returns-then-not-has_initial : goal.returns-then-not-has_initial
returns-then-not-has_initial c = default_none _ _ _ (sym c.has_initial.ensures ∙ c.if-not-has_initial.true) c.empty.ensures

pub returns-in_default : goal.returns-in_default
returns-in_default c =
    default_childless _ _ _ _ _ (sym c.has_initial.ensures ∙ c.if-not-has_initial.false) c.list_of-list.ensures.is c.if-list-eq0.true c.requires.are
    (first_empty _ _ c.first.ensures c.in_default.is) c.empty-in_default.ensures

pub returns-then-list-eq0 : goal.returns-then-list-eq0
returns-then-list-eq0 c =
    default_first _ _ _ _ _ _ (sym c.has_initial.ensures ∙ c.if-not-has_initial.false) c.list_of-list.ensures.is c.if-list-eq0.true c.requires.are
    (first_of_lem _ _ c.first.ensures _ c.in-Some.is) c.single.ensures

pub returns : goal.returns
returns c = default_listed _ _ _ _ _ (sym c.has_initial.ensures ∙ c.if-not-has_initial.false) c.list_of-list.ensures.is c.if-list-eq0.false c.empty-2.ensures c.with_rows.ensures
