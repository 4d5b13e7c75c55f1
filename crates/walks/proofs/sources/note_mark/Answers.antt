use borrow.Author.Rules.{rules}
use Rattle.walks.specs.Sources.{mark_none, mark_value, mark_room, mark_tag}
use Rattle.walks.proofs.sources.note_mark.Goals as goal

pub note_source-requires : goal.note_source-requires
note_source-requires c = search (rules, mark_room)

pub returns-in-Nothing : goal.returns-in-Nothing
returns-in-Nothing c = search (rules, mark_none)

pub returns-in-Valued : goal.returns-in-Valued
returns-in-Valued c = search (rules, mark_value)

pub returns-in-Tagged : goal.returns-in-Tagged
returns-in-Tagged c = search (rules, mark_tag)
