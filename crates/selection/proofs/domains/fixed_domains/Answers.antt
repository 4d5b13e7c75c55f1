use mathlib.Core.Path.{refl}
use native.Mathlib.Omega.{arith}
use Rattle.selection.specs.FixedDomains.{fixing_begin, fixing_turn, fixing_done}
use Rattle.selection.proofs.domains.fixed_domains.Goals as goal

pub loop-t-init : goal.loop-t-init
loop-t-init c = (c.transition_count-n.ensures, let e = c.transition_count-n.ensures in let m = c.requires.tables.sized.counts.transitions in omega arith, fixing_begin _ _ refl)

pub fixed_domain-requires : goal.fixed_domain-requires
fixed_domain-requires c = record { ready = c.requires; inside = let e = c.loop-t.invariant.0 in let l = c.loop-t-test.true in omega arith }

pub bounds-domains-t : goal.bounds-domains-t
bounds-domains-t c = let v = c.loop-t.invariant in let s = v.2.size in let m = v.1 in let l = c.loop-t-test.true in omega arith

pub loop-t-preserved : goal.loop-t-preserved
loop-t-preserved c = let v = c.loop-t.invariant in let m = v.1 in let l = c.loop-t-test.true in (v.0, v.1, fixing_turn _ _ _ _ (omega arith) v.2 c.fixed_domain.ensures)

pub returns : goal.returns
returns c = let v = c.loop-t.invariant in fixing_done _ _ _ _ v.0 c.loop-t-test.false v.2
