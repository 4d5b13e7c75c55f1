use native.Mathlib.Omega.{arith}
use Rattle.laws.specs.Passes.{count_begin, count_turn, count_end}
use Rattle.matching.specs.Eventless.{eventless_rows}
use Rattle.matching.proofs.rows.eventless_rows.Goals as goal

pub overflow_cast-n : goal.overflow_cast-n
overflow_cast-n c = let e = c.transition_count-n.ensures in let m = c.requires.tables.sized.counts.transitions in omega arith

pub loop-t-init : goal.loop-t-init
loop-t-init c = (c.transition_count-n.ensures, count_begin _ _ _ _ c.empty-set.ensures)

pub add_eventless-set-requires : goal.add_eventless-set-requires
add_eventless-set-requires c = record { ready = c.requires; inside = let e = c.loop-t.invariant.0 in let l = c.loop-t-test.true in omega arith }

pub loop-t-preserved : goal.loop-t-preserved
loop-t-preserved c = let v = c.loop-t.invariant in (v.0, count_turn _ _ _ _ _ _ c.loop-t-test.true v.1 c.add_eventless-set.ensures)

pub returns : goal.returns
unfolding eventless_rows
returns c = let v = c.loop-t.invariant in count_end _ _ _ _ _ _ v.0 c.loop-t-test.false v.1
