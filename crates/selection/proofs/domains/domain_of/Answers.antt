use mathlib.Core.Path.{refl}
use native.Mathlib.Omega.{arith}
use Rattle.selection.specs.Domain.{nearest_on, domain_own, domain_top, domain_here}
use Rattle.selection.proofs.domains.domain_of.Goals as goal

pub returns-then-is_own_domain : goal.returns-then-is_own_domain
returns-then-is_own_domain c = record {
  is = domain_own _ _ _ _ c.source_of-source.ensures.is _ c.is_own_domain.ensures c.if-is_own_domain.true;
  row = record { ready = c.requires.ready; inside = c.source_of-source.ensures.row.below };
}

pub loop-a-init : goal.loop-a-init
loop-a-init c = (c.source_of-source.ensures.row.below, let m = c.requires.ready.tables.sized.counts.rows in omega arith, refl)

pub parent_of-p-requires : goal.parent_of-p-requires
parent_of-p-requires c = record { tables = c.requires.ready.tables; below = c.loop-a.invariant.0 }

pub returns-then-a-p : goal.returns-then-a-p
returns-then-a-p c = record {
  is = domain_top _ _ _ _ c.source_of-source.ensures.is _ c.is_own_domain.ensures c.if-is_own_domain.false _ _ c.loop-a.invariant.2 c.parent_of-p.ensures c.if-a-p.true;
  row = record { ready = c.requires.ready; inside = c.requires.ready.tables.sized.counts.some };
}

pub overflow_cast-a-in-loop-a : goal.overflow_cast-a-in-loop-a
overflow_cast-a-in-loop-a c = let v = c.loop-a.invariant in omega arith

pub holds_all-requires : goal.holds_all-requires
holds_all-requires c = record { ready = c.requires.ready; inside = let v = c.loop-a.invariant in let l = c.if-a-p.false in omega arith }

pub returns-then-holds_all : goal.returns-then-holds_all
returns-then-holds_all c = record {
  is = domain_here _ _ _ _ c.source_of-source.ensures.is _ c.is_own_domain.ensures c.if-is_own_domain.false _ _ c.loop-a.invariant.2 c.parent_of-p.ensures _ c.if-a-p.false c.holds_all.ensures c.if-holds_all.true;
  row = record { ready = c.requires.ready; inside = let v = c.loop-a.invariant in let l = c.if-a-p.false in omega arith };
}

pub loop-a-preserved : goal.loop-a-preserved
loop-a-preserved c = let v = c.loop-a.invariant in
    let l = c.if-a-p.false in
    (omega arith, v.1, nearest_on _ _ _ _ c.parent_of-p.ensures _ _ c.if-a-p.false c.holds_all.ensures c.if-holds_all.false v.2)
