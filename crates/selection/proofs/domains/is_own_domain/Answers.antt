use mathlib.Core.Path.{refl}
use Rattle.selection.specs.Domain.{own_external, own_simple, own_if}
use mathlib.Core.Bool.{not}
use mathlib.Core.Path.{ap}
use Rattle.selection.proofs.domains.is_own_domain.Goals as goal

pub returns-then-not-is_internal : goal.returns-then-not-is_internal
returns-then-not-is_internal c = own_external _ _ _ _ refl _ c.is_internal.ensures (ap not c.if-not-is_internal.true)

pub returns-then-not-is_compound : goal.returns-then-not-is_compound
returns-then-not-is_compound c = own_simple _ _ _ _ c.source_of-source.ensures.is _ _ c.is_internal.ensures (ap not c.if-not-is_internal.false) c.is_compound.ensures (ap not c.if-not-is_compound.true)

pub returns : goal.returns
returns c = own_if _ _ _ _ c.source_of-source.ensures.is _ _ _ _ c.is_internal.ensures (ap not c.if-not-is_internal.false) c.is_compound.ensures (ap not c.if-not-is_compound.false) c.descendants_of.ensures c.subset.ensures
