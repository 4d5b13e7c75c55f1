use borrow.Author.Rules.{rules}
use Rattle.gather.specs.Ids.{row_known, row_room, row_noted, row_none}
use Rattle.gather.proofs.ids.note_row.Goals as goal

pub place_of-place-requires : goal.place_of-place-requires
place_of-place-requires c = search (rules, row_known)

pub note-requires : goal.note-requires
note-requires c = search (rules, row_room)

pub returns-then-row : goal.returns-then-row
returns-then-row c = search (rules, row_noted)

pub returns : goal.returns
returns c = search (rules, row_none)
