use borrow.Author.Rules.{rules}
use mathlib.Core.Path.{refl}
use Rattle.turns.specs.Turns.{turn_top, turn_closing, turn_room, turn_enter, turn_start}
use Rattle.turns.proofs.tag_turn.Goals as goal

pub top_spot-spot-requires : goal.top_spot-spot-requires
top_spot-spot-requires c = search (rules, turn_top)

pub returns-then-shape-ge2 : goal.returns-then-shape-ge2
returns-then-shape-ge2 c = search (rules, turn_closing)

pub turn_of-turn-requires : goal.turn_of-turn-requires
turn_of-turn-requires c = search (rules, turn_room)

pub enter-deeper-requires : goal.enter-deeper-requires
enter-deeper-requires c = search (rules, turn_enter)

pub returns : goal.returns
returns c = turn_start _ _ _ c.requires _ _ _ _ c.top_spot-spot.ensures _ _ c.turn_of-turn.ensures _ _ _ _ c.if-shape-ge2.false refl c.is_stated.ensures c.is_stated-2.ensures c.enter-deeper.ensures
