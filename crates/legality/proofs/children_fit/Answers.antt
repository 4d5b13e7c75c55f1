use Rattle.legality.specs.Rows.{fit_parallel, fit_none, fit_single}
use Rattle.laws.specs.Loops.{told}
use Rattle.definition.specs.Chart.{is_parallel}
use mathlib.Core.Bool.{not}
use mathlib.Core.Path.{ap}
use Rattle.legality.proofs.children_fit.Goals as goal

pub returns-then-is_parallel : goal.returns-then-is_parallel
returns-then-is_parallel c = fit_parallel _ _ _ _ _ (told is_parallel _ _ _ _ c.kind_of.ensures c.is_parallel.ensures c.if-is_parallel.true) c.children_of-children.ensures c.subset.ensures

pub returns-then-not-is_domain_kind : goal.returns-then-not-is_domain_kind
returns-then-not-is_domain_kind c = fit_none _ _ _ _ (told is_parallel _ _ _ _ c.kind_of.ensures c.is_parallel.ensures c.if-is_parallel.false) c.is_domain_kind.ensures (ap not c.if-not-is_domain_kind.true)

pub returns : goal.returns
returns c = fit_single _ _ _ _ _ _ _ (told is_parallel _ _ _ _ c.kind_of.ensures c.is_parallel.ensures c.if-is_parallel.false) c.is_domain_kind.ensures (ap not c.if-not-is_domain_kind.false) c.children_of-children.ensures c.intersection.ensures c.is_single.ensures
