use mathlib.Core.Path.{refl, sym, ◌∙◌}
use native.Mathlib.Omega.{arith}
use Rattle.laws.specs.Loops.{any_begin, any_turn, any_leave, any_done}
use Rattle.match_bench.proofs.any_one_by_one.Goals as goal

pub loop-k-init : goal.loop-k-init
loop-k-init c = (omega arith, any_begin _)

pub returns-then-matches_in : goal.returns-then-matches_in
returns-then-matches_in c = any_leave _ _ _ _ c.loop-k-test.true refl (sym c.matches_in.ensures ∙ c.if-matches_in.true)

pub loop-k-preserved : goal.loop-k-preserved
loop-k-preserved c = (let l = c.loop-k-test.true in omega arith, any_turn _ _ c.loop-k.invariant.1 (sym c.matches_in.ensures ∙ c.if-matches_in.false))

pub returns : goal.returns
returns c = any_done _ _ _ _ c.loop-k.invariant.0 c.loop-k-test.false refl c.loop-k.invariant.1
