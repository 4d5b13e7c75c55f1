use borrow.Author.Rules.{rules}
use Rattle.markup.specs.Runs.{leap_still, leap_content, leap_comment, leap_name, leap_tag, leap_space, leap_value, leap_end, name_short, end_short}
use Rattle.markup.proofs.leaps.leap_from.Goals as goal

pub name_leap-requires : goal.name_leap-requires
name_leap-requires c = search (rules, name_short)

pub end_leap-requires : goal.end_leap-requires
end_leap-requires c = search (rules, end_short)

pub returns-in-Content : goal.returns-in-Content
returns-in-Content c = search (rules, leap_content)

pub returns-in-Comment : goal.returns-in-Comment
returns-in-Comment c = search (rules, leap_comment)

pub returns-in-Name : goal.returns-in-Name
returns-in-Name c = search (rules, leap_name)

pub returns-in-Tag : goal.returns-in-Tag
returns-in-Tag c = search (rules, leap_tag)

pub returns-in-Space : goal.returns-in-Space
returns-in-Space c = search (rules, leap_space)

pub returns-in-Value : goal.returns-in-Value
returns-in-Value c = search (rules, leap_value)

pub returns-in-End : goal.returns-in-End
returns-in-End c = search (rules, leap_end)

pub returns-in_default : goal.returns-in_default
returns-in_default c = search (rules, leap_still)
