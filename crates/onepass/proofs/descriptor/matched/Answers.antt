use Rattle.onepass.specs.Pass.{matched_yes, matched_no, matched_going}
use Rattle.onepass.proofs.descriptor.matched.Goals as goal

pub returns-in-Yes : goal.returns-in-Yes
returns-in-Yes c = matched_yes _ _ _ c.in-Yes.is

pub returns-in-No : goal.returns-in-No
returns-in-No c = matched_no _ _ _ c.in-No.is

pub returns-in-Going : goal.returns-in-Going
returns-in-Going c = matched_going _ _ _ _ c.in-Going.is c.ends_here.ensures
