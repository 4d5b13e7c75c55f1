use Rattle.onepass.specs.Pass.{followed_yes, followed_no, followed_going}
use Rattle.onepass.proofs.descriptor.follow.Goals as goal

pub returns-in-Yes : goal.returns-in-Yes
returns-in-Yes c = followed_yes _ _ _ _ c.in-Yes.is

pub returns-in-No : goal.returns-in-No
returns-in-No c = followed_no _ _ _ _ c.in-No.is

pub returns-in-Going : goal.returns-in-Going
returns-in-Going c = followed_going _ _ _ _ _ c.in-Going.is c.advance.ensures
