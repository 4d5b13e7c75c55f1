use Rattle.lent.specs.Starts.{start_8, start_asks, start_left}
use mathlib.Core.Bool.{not}
use mathlib.Core.Path.{ap}
use Rattle.lent.proofs.checked.start_checked.Goals as goal

pub returns-then-not-good : goal.returns-then-not-good
returns-then-not-good c = start_8 _ _ c.args.numbers.now c.args.internal.now c.args.external.now c.args.clock.now _ c.requires.0 c.requires.1 _ _ _ _ _ c.clear_u64.ensures c.clear.ensures c.clear-2.ensures c.clear-3.ensures (ap not c.if-not-good.true)

pub start-begun-requires : goal.start-begun-requires
start-begun-requires c = start_asks _ _ c.args.numbers.now c.args.internal.now c.args.external.now c.args.clock.now _ c.requires.0 c.requires.1 _ _ _ _ c.args.trace.now c.clear_u64.ensures c.clear.ensures c.clear-2.ensures c.clear-3.ensures (ap not c.if-not-good.false)

pub returns : goal.returns
returns c = start_left _ _ c.args.numbers.now c.args.internal.now c.args.external.now c.args.clock.now _ c.requires.0 c.requires.1 _ _ _ _ _ c.clear_u64.ensures c.clear.ensures c.clear-2.ensures c.clear-3.ensures (ap not c.if-not-good.false) _ _ _ _ _ c.start-begun.ensures
