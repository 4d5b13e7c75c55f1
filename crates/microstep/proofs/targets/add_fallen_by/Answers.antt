use native.Mathlib.Omega.{arith}
use Rattle.paths.specs.History.{stored_at}
use Rattle.microstep.specs.Targets.{fixed_fallen}
use Rattle.microstep.proofs.targets.add_fallen_by.Goals as goal

pub bounds-domains-at : goal.bounds-domains-at
bounds-domains-at c = let s = c.requires.0.size in let l = c.requires.1.inside in let m = c.requires.1.round.store.ready.tables.sized.counts.transitions in omega arith

pub returns-then-domains-at-lt-NO_DOMAIN : goal.returns-then-domains-at-lt-NO_DOMAIN
returns-then-domains-at-lt-NO_DOMAIN c = fixed_fallen _ (stored_at c.args.round.now.history.now) _ _ _ _ (c.requires.0.at _ c.requires.1.inside) c.if-domains-at-lt-NO_DOMAIN.true
