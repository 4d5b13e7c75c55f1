use Rattle.rules1.specs.Plain.{starts_id}
use Rattle.rules1.proofs.spelling.starts_id.Goals as goal

pub returns : goal.returns
unfolding starts_id
returns c = rw c.is_letter.ensures
