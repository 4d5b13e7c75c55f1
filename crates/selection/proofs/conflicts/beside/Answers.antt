use mathlib.Core.Path.{refl, sym, ◌∙◌}
use native.Mathlib.Omega.{arith}
use Rattle.selection.specs.Kept.{sift_begin, sift_turn, sift_done, sift_low}
use Rattle.selection.proofs.conflicts.beside.Goals as goal

pub loop-i-init : goal.loop-i-init
loop-i-init c = sift_begin _ _ _ _ _ _ _ c.requires.1 refl c.empty.ensures

pub bounds-items-i : goal.bounds-items-i
bounds-items-i c = let v = c.loop-i.invariant in let a = v.selects.fits.room in let m = v.small in let l = c.loop-i-test.true in omega arith

pub keep_beside-rest-requires : goal.keep_beside-rest-requires
keep_beside-rest-requires c = let v = c.loop-i.invariant in
    let b = v.most in
    let m = v.small in
    let l = c.loop-i-test.true in
    (c.requires.0, sift_low _ _ _ _ _ _ _ _ _ v c.requires.1 l, v.selects, omega arith)

pub loop-i-preserved : goal.loop-i-preserved
loop-i-preserved c = sift_turn _ _ _ _ _ _ _ _ _ c.loop-i.invariant _ _ c.loop-i-test.true c.keep_beside-rest.ensures

pub shape_of-items : goal.shape_of-items
shape_of-items c = c.loop-i.invariant.selects.fits.room ∙ sym c.requires.1.room

pub returns : goal.returns
returns c = sift_done _ _ _ _ _ _ _ _ _ c.loop-i.invariant c.loop-i-test.false
