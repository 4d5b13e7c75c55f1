use borrow.Author.Rules.{rules}
use Rattle.onepass.specs.Pass.{is_yes}
use Rattle.onepass.proofs.descriptor.is_yes.Goals as goal

pub returns-in-Going : goal.returns-in-Going
unfolding is_yes
returns-in-Going c = search rules

pub returns-in-Yes : goal.returns-in-Yes
unfolding is_yes
returns-in-Yes c = search rules

pub returns-in-No : goal.returns-in-No
unfolding is_yes
returns-in-No c = search rules
