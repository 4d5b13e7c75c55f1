use Rattle.matching.specs.Descriptors.{places_inside, any_by_places}
use Rattle.matching.proofs.any_matches.Goals as goal

pub any_matches-requires : goal.any_matches-requires
any_matches-requires c =
    places_inside _ _ _ _ c.requires.compiled c.place_of.ensures c.place_of-2.ensures c.place_of-3.ensures
    c.place_of-4.ensures

pub returns : goal.returns
returns c =
    any_by_places _ _ _ _ _ _ c.requires c.place_of.ensures c.place_of-2.ensures
    c.place_of-3.ensures c.place_of-4.ensures c.any_matches.ensures
