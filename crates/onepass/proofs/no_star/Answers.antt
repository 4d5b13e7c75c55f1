use Rattle.std.proofs.Common.{◌∙◌, sym, rules}
use borrow.Author.Tests.{eq-eqb}
use Rattle.onepass.specs.Pass.{not_star}
use Rattle.onepass.specs.Four.{each_byte, every_byte}
use Rattle.onepass.proofs.no_star.Goals as goal

pub returns-then-i-ne-SLOT : goal.returns-then-i-ne-SLOT
unfolding not_star
returns-then-i-ne-SLOT c =
    let m = c.map.result in
    c.all.ensures ∙ every_byte (not_star) c.args.names.now c.args.q c.args.i m.first m.second m.third m.fourth c.if-i-ne-SLOT.true (search rules) (search rules) (search rules) (search rules)

pub returns-else-i-ne-SLOT : goal.returns-else-i-ne-SLOT
unfolding each_byte
returns-else-i-ne-SLOT c = rw (eq-eqb _ _ c.if-i-ne-SLOT.false)
