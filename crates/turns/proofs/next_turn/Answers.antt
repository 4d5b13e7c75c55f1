use borrow.Author.Rules.{rules}
use Rattle.turns.specs.Next.{turn_other, tag_room, turn_tag}
use Rattle.turns.proofs.next_turn.Goals as goal

pub tag_turn-requires : goal.tag_turn-requires
tag_turn-requires c = search (rules, tag_room)

pub returns-in_default : goal.returns-in_default
returns-in_default c = turn_other _ _ _ _ _ c.requires _ _ _ c.next_tag-next.ensures c.in_default.not-Tagged _ c.stay.ensures

pub returns-in-Tagged : goal.returns-in-Tagged
returns-in-Tagged c = search (rules, turn_tag _ _ _ _ _ c.requires _ _ _ c.next_tag-next.ensures, c.tag_turn.auto.spots)
