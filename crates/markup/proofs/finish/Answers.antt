use Rattle.std.proofs.Common.{refl, sym}
use Rattle.markup.specs.Passes.{finished}
use Rattle.markup.proofs.finish.Goals as goal

pub returns-then-n-i : goal.returns-then-n-i
unfolding finished
returns-then-n-i c = sym (rw (sym c.is_content.ensures, c.if-n-i.true) refl)

pub returns : goal.returns
unfolding finished
returns c = sym (rw (sym c.is_content.ensures, c.if-n-i.false) refl)
