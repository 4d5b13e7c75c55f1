use Rattle.rules3.specs.Ancestry.{set_of}
use Rattle.rules3.proofs.set_of.Goals as goal

pub returns : goal.returns
unfolding set_of
returns c = rw c.from.ensures at c.set_at.ensures
