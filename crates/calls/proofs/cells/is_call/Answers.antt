use Rattle.calls.specs.Reading.{call_no_window, call_kind}
use Rattle.calls.proofs.cells.is_call.Goals as goal

pub returns-then-left-cells : goal.returns-then-left-cells
returns-then-left-cells c = call_no_window _ _ _ _ _ _ c.if-left-cells.true

pub returns : goal.returns
returns c = call_kind _ _ _ _ _ _ c.if-left-cells.false _ c.is_kind.ensures
