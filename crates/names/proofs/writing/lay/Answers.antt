-- `lay`: the bytes before the place, those copied, and those behind them.
use Rattle.std.proofs.Common.{◌≡◌, ◌+◌, ◌-◌, arith}
use Rattle.laws.specs.Parts.{laid_out}
use Rattle.names.specs.Slots.{laid_part}
use Rattle.names.proofs.writing.lay.Goals as goal

pub returns-then-place-at : goal.returns-then-place-at
returns-then-place-at c = laid_out _ c.args.at _ c.if-place-at.true

pub returns : goal.returns
returns c =
    let k : c.args.at + c.min-n.result - c.args.at ≡ c.min-n.result = omega arith in
    rw (k, c.copy_from_slice.ensures.after) (laid_part _ c.args.at _ c.min-n.result (omega arith) c.min-n.ensures)
