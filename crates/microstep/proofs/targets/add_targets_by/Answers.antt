use mathlib.Core.Path.{refl}
use mathlib.Core.List.{[]}
use native.Mathlib.Omega.{arith}
use Rattle.microstep.specs.Targets.{fixed_aim}
use Rattle.selection.specs.FixedDomains.{fixed_targets}
use Rattle.microstep.proofs.targets.add_targets_by.Goals as goal

pub bounds-domains-at : goal.bounds-domains-at
bounds-domains-at c = let s = c.requires.0.size in let l = c.requires.1.inside in let m = c.requires.1.round.store.ready.tables.sized.counts.transitions in omega arith

pub fixed_aim-requires : goal.fixed_aim-requires
fixed_aim-requires c =
    let pre = c.requires in
    let ready = pre.1.round.store.ready in
    let at = pre.0.at _ pre.1.inside in
    (record { ready = ready; inside = pre.1.inside }, record { ready = ready; inside = at.row c.if-fixed-lt-NO_DOMAIN.true }, fixed_targets _ (λ i. []) _ _ at c.if-fixed-lt-NO_DOMAIN.true)

pub returns-then-fixed-lt-NO_DOMAIN : goal.returns-then-fixed-lt-NO_DOMAIN
returns-then-fixed-lt-NO_DOMAIN c = let pre = c.requires in fixed_aim _ _ _ _ _ _ (pre.0.at _ pre.1.inside) c.if-fixed-lt-NO_DOMAIN.true _ _ _ refl c.fixed_aim.ensures c.union.ensures
