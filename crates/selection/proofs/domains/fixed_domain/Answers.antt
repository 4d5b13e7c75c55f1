use Rattle.selection.specs.FixedDomains.{fixed_none, fixed_some}
use Rattle.selection.proofs.domains.fixed_domain.Goals as goal

pub has_fixed_targets-requires : goal.has_fixed_targets-requires
has_fixed_targets-requires c = c.requires

pub returns-then-not-has_fixed_targets : goal.returns-then-not-has_fixed_targets
returns-then-not-has_fixed_targets c = fixed_none _ _ _ c.has_fixed_targets.ensures c.if-not-has_fixed_targets.true

pub anchors_of-requires : goal.anchors_of-requires
anchors_of-requires c = c.requires

pub domain_of-d-requires : goal.domain_of-d-requires
domain_of-d-requires c = c.requires

pub returns : goal.returns
returns c = fixed_some _ _ _ c.has_fixed_targets.ensures _ _ c.if-not-has_fixed_targets.false c.anchors_of.ensures c.domain_of-d.ensures.is c.domain_of-d.ensures.row.inside
