use mathlib.Core.Path.{refl, sym, ◌∙◌}
use native.Mathlib.Omega.{arith}
use Rattle.matching.specs.Chosen.{list_of, list_length}
use Rattle.selection.specs.Conflicts.{admit_last, admit_out, admit_in}
use Rattle.selection.specs.Kept.{selects_of, admits_same, admits_joined}
use Rattle.selection.proofs.conflicts.admit.Goals as goal

pub join-requires : goal.join-requires
join-requires c = let r = c.requires.1.fits.room in let l = c.requires.2 in omega arith

pub shape_of-items-then-not-meets : goal.shape_of-items-then-not-meets
shape_of-items-then-not-meets c = c.join.ensures.room

pub returns-then-not-meets : goal.returns-then-not-meets
returns-then-not-meets c = let p = c.requires in
    admits_joined _ _ _ _ _ _ _ _ _ _ _ _ p.1 (omega arith) p.2 refl p.0.move.inside c.exit_set-own.ensures c.join.ensures
    (admit_last _ _ _ _ _ _ _ _ p.1.exits c.exit_set-own.ensures c.meets.ensures c.if-not-meets.true)

pub slice_bounds-is_blocked-end : goal.slice_bounds-is_blocked-end
slice_bounds-is_blocked-end c = let r = c.requires.1.fits.room in let l = c.requires.2 in omega arith

pub slice_bounds-is_blocked-end-2 : goal.slice_bounds-is_blocked-end-2
unfolding list_of
slice_bounds-is_blocked-end-2 c = sym (list_length _ _ (let r = c.requires.1.fits.room in let l = c.requires.2 in omega arith))

pub is_blocked-requires : goal.is_blocked-requires
unfolding list_of
is_blocked-requires c = (record { move = c.requires.0; exits = c.exit_set-own.ensures }, c.requires.1.fits.inside)

pub returns-then-is_blocked : goal.returns-then-is_blocked
unfolding list_of
returns-then-is_blocked c = admits_same _ _ _ _ _ _ c.requires.1 (admit_out _ _ _ _ _ _ c.is_blocked.ensures c.if-is_blocked.true)

pub beside-rest-requires : goal.beside-rest-requires
beside-rest-requires c = (record { move = c.requires.0; exits = c.exit_set-own.ensures }, c.requires.1.fits)

pub join-requires-2 : goal.join-requires-2
join-requires-2 c = let r = c.beside-rest.ensures.selected.fits.room in let m = c.beside-rest.ensures.most in let l = c.requires.2 in omega arith

pub shape_of-items : goal.shape_of-items
shape_of-items c = c.join-2.ensures.room ∙ c.beside-rest.ensures.selected.fits.room ∙ sym c.requires.1.fits.room

pub returns : goal.returns
unfolding list_of
returns c = let p = c.requires in
    let b = c.beside-rest.ensures in
    admits_joined _ _ _ _ _ _ _ _ _ _ _ _ (selects_of _ _ _ _ _ _ b.selected) b.most p.2 b.behind p.0.move.inside c.exit_set-own.ensures c.join-2.ensures
    (admit_in _ _ _ _ _ _ _ c.is_blocked.ensures c.if-is_blocked.false b.selected.is)
