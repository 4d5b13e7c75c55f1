use Rattle.marks.specs.Walks.{note_none, note_plain}
use borrow.Author.Rules.{rules}
use Rattle.marks.proofs.note_byte.Goals as goal

pub returns-then-not-is_char : goal.returns-then-not-is_char
returns-then-not-is_char c = search (rules, note_none)

pub returns : goal.returns
returns c = search (rules, note_plain)
