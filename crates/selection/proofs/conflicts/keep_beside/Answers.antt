use mathlib.Core.Path.{refl, sym, ◌∙◌}
use native.Mathlib.Omega.{arith}
use Rattle.selection.specs.Conflicts.{conflict_is, beside_drop, beside_keep}
use Rattle.selection.specs.Kept.{admits_same, admits_joined}
use Rattle.selection.proofs.conflicts.keep_beside.Goals as goal

pub exit_set-its-requires : goal.exit_set-its-requires
exit_set-its-requires c = let p = c.requires.0.move in record { move = record { ready = p.move.ready; room = p.move.room; inside = c.requires.1 }; fixed = p.fixed }

pub returns-then-meets : goal.returns-then-meets
returns-then-meets c = let p = c.requires in
    let e = conflict_is _ _ _ _ _ _ p.0.exits _ _ c.exit_set-its.ensures c.meets.ensures in
    admits_same _ _ _ _ _ _ p.2 (beside_drop _ _ _ _ _ _ p.0.exits _ (sym e ∙ c.if-meets.true))

pub join-requires : goal.join-requires
join-requires c = let r = c.requires.2.fits.room in let l = c.requires.3 in omega arith

pub shape_of-items : goal.shape_of-items
shape_of-items c = c.join.ensures.room

pub returns : goal.returns
returns c = let p = c.requires in
    let e = conflict_is _ _ _ _ _ _ p.0.exits _ _ c.exit_set-its.ensures c.meets.ensures in
    admits_joined _ _ _ _ _ _ _ _ _ _ _ _ p.2 (omega arith) p.3 refl p.1 c.exit_set-its.ensures c.join.ensures (beside_keep _ _ _ _ _ _ p.0.exits _ (sym e ∙ c.if-meets.false))
