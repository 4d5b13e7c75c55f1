use Rattle.selection.specs.Domain.{holds_not, holds_if}
use mathlib.Core.Bool.{not}
use mathlib.Core.Path.{ap}
use Rattle.selection.proofs.domains.holds_all.Goals as goal

pub returns-then-not-is_domain_kind : goal.returns-then-not-is_domain_kind
returns-then-not-is_domain_kind c = holds_not _ _ _ _ c.is_domain_kind.ensures (ap not c.if-not-is_domain_kind.true)

pub returns : goal.returns
returns c = holds_if _ _ _ _ _ _ c.is_domain_kind.ensures (ap not c.if-not-is_domain_kind.false) c.descendants_of.ensures c.subset.ensures
