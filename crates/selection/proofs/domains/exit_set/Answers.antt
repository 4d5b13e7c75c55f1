use mathlib.Core.Path.{◌∙◌}
use native.Mathlib.Omega.{arith}
use Rattle.selection.specs.FixedDomains.{fixed_exits}
use Rattle.selection.specs.Domain.{exit_none, exit_some}
use Rattle.selection.proofs.domains.exit_set.Goals as goal

pub bounds-domains-at : goal.bounds-domains-at
bounds-domains-at c = let s = c.requires.fixed.size in let l = c.requires.move.inside in let m = c.requires.move.ready.tables.sized.counts.transitions in omega arith

pub descendants_of-requires : goal.descendants_of-requires
descendants_of-requires c = record { ready = c.requires.move.ready; inside = (c.requires.fixed.at _ c.requires.move.inside).row c.if-fixed-lt-NO_DOMAIN.true }

pub returns-then-fixed-lt-NO_DOMAIN : goal.returns-then-fixed-lt-NO_DOMAIN
returns-then-fixed-lt-NO_DOMAIN c = fixed_exits _ _ _ _ (c.requires.fixed.at _ c.requires.move.inside) c.if-fixed-lt-NO_DOMAIN.true _ _ _ c.descendants_of.ensures c.intersection.ensures

pub targets_of-requires : goal.targets_of-requires
targets_of-requires c = record { tables = c.requires.move.ready.tables; below = c.requires.move.inside }

pub returns-then-targets_of-eq0 : goal.returns-then-targets_of-eq0
returns-then-targets_of-eq0 c = c.empty.ensures ∙ exit_none _ _ _ _ _ c.targets_of.ensures.is c.if-targets_of-eq0.true

pub domain-requires : goal.domain-requires
domain-requires c = c.requires.move

pub returns : goal.returns
returns c = exit_some _ _ _ _ _ _ _ _ c.targets_of.ensures.is c.if-targets_of-eq0.false c.domain.ensures.is c.descendants_of-2.ensures c.intersection-2.ensures
