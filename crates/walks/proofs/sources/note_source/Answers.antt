use borrow.Author.Rules.{rules}
use Rattle.walks.specs.Sources.{note_none, note_list, note_action, note_row, note_number, note_transition}
use Rattle.walks.proofs.sources.note_source.Goals as goal

pub overflow_cast-sources : goal.overflow_cast-sources
overflow_cast-sources c = search (rules, note_number)

pub returns-in-Nothing : goal.returns-in-Nothing
returns-in-Nothing c = search (rules, note_none)

pub returns-in-Row : goal.returns-in-Row
returns-in-Row c = search (rules, note_row)

pub returns-in-List : goal.returns-in-List
returns-in-List c = search (rules, note_list)

pub returns-in-Transition : goal.returns-in-Transition
returns-in-Transition c = search (rules, note_transition)

pub returns-in-Action : goal.returns-in-Action
returns-in-Action c = search (rules, note_action)
