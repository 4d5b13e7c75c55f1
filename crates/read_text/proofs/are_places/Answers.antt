use Rattle.read_text.specs.Whole.{places_are}
use Rattle.read_text.proofs.are_places.Goals as goal

pub returns : goal.returns
returns c = places_are _ _ _ _ _ _
