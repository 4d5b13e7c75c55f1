use Rattle.std.proofs.Common.{ap, not}
use Rattle.read_text.specs.Whole.{kept_all, places_no, places_room, places_yes, places_free}
use Rattle.read_text.proofs.read_with.Goals as goal

pub returns-then-not-fit : goal.returns-then-not-fit
returns-then-not-fit c = (places_no _ _ _ _ _ _ _ c.are_places-fit.ensures (ap not c.if-not-fit.true) _ _ _ _ c.refusal.ensures, kept_all _ _ _ _ _ _ _)

pub read_in-requires : goal.read_in-requires
read_in-requires c = places_room _ _ _ _ _ _ _ c.are_places-fit.ensures (ap not c.if-not-fit.false)

pub returns : goal.returns
returns c = (places_yes _ _ _ _ _ _ _ c.are_places-fit.ensures (ap not c.if-not-fit.false) _ _ _ _ c.read_in.ensures, places_free _ _ _ _ _ _ _ c.are_places-fit.ensures (ap not c.if-not-fit.false) _ _ _ _ _ _ _ _ _ _ _ _)
