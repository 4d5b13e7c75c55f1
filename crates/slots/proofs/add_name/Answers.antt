use borrow.Author.Rules.{rules}
use Rattle.slots.specs.Slots.{add_over, add_noted, add_known, add_full, add_room, add_new}
use Rattle.slots.proofs.add_name.Goals as goal

pub returns-then-n-gt-MOST : goal.returns-then-n-gt-MOST
returns-then-n-gt-MOST c = search (rules, add_over)

pub place_of-place-requires : goal.place_of-place-requires
place_of-place-requires c = search (rules, add_noted)

pub returns-then-place-n : goal.returns-then-place-n
returns-then-place-n c = search (rules, add_known)

pub returns-then-n-eq-MOST : goal.returns-then-n-eq-MOST
returns-then-n-eq-MOST c = search (rules, add_full)

pub note-requires : goal.note-requires
note-requires c = search (rules, add_room)

pub returns : goal.returns
returns c = search (rules, add_new)
