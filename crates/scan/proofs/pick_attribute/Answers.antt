use Rattle.scan.specs.Words.{attribute_returns, attribute_goes, attribute_ends}
use borrow.Author.Rules.{rules}
use mathlib.Core.Path.{refl}
use Rattle.scan.proofs.pick_attribute.Goals as goal

pub loop-j-init : goal.loop-j-init
loop-j-init c = (search rules, refl)

pub returns-then-taken-next : goal.returns-then-taken-next
returns-then-taken-next c = search (rules, attribute_returns)

pub loop-j-preserved : goal.loop-j-preserved
loop-j-preserved c = (search rules, search (rules, attribute_goes))

pub returns : goal.returns
returns c = search (rules, attribute_ends)
