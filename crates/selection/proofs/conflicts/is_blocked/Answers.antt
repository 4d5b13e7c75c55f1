use mathlib.Core.Path.{refl}
use Rattle.laws.specs.Loops.{failing_begin, failing_read_turn, failing_read_leave, failing_done}
use Rattle.chart.specs.Within.{within_low}
use Rattle.selection.proofs.conflicts.is_blocked.Goals as goal

pub loop-i-init : goal.loop-i-init
loop-i-init c = failing_begin _ _ _ refl

pub is_in_the_way-requires : goal.is_in_the_way-requires
is_in_the_way-requires c = (c.requires.0, within_low _ _ _ c.requires.1 c.loop-i-test.true)

pub returns-then-is_in_the_way : goal.returns-then-is_in_the_way
returns-then-is_in_the_way c = failing_read_leave _ _ _ _ _ _ _ c.loop-i.invariant c.loop-i-test.true refl refl c.is_in_the_way.ensures c.if-is_in_the_way.true

pub loop-i-preserved : goal.loop-i-preserved
loop-i-preserved c = failing_read_turn _ _ _ _ _ _ c.loop-i.invariant c.loop-i-test.true refl c.is_in_the_way.ensures c.if-is_in_the_way.false

pub returns : goal.returns
returns c = failing_done _ _ _ _ _ c.loop-i.invariant c.loop-i-test.false refl
