use Rattle.markup.specs.Arms.{at_content, at_less, at_bang, at_dash, at_comment, at_commentdash, at_commentend, at_name, at_tag, at_space, at_attribute, at_equals, at_quote, at_value, at_ampersand, at_entity, at_slash, at_end_lem, at_close, fits_name, fits_attribute, fits_entity, fits_end}
use borrow.Author.Rules.{rules}
use Rattle.markup.proofs.advance.Goals as goal

pub name_step-requires : goal.name_step-requires
name_step-requires c = search (rules, fits_name)

pub attribute_step-requires : goal.attribute_step-requires
attribute_step-requires c = search (rules, fits_attribute)

pub entity_step-requires : goal.entity_step-requires
entity_step-requires c = search (rules, fits_entity)

pub end_step-requires : goal.end_step-requires
end_step-requires c = search (rules, fits_end)

pub returns-in-Content : goal.returns-in-Content
returns-in-Content c = search (rules, at_content)

pub returns-in-Less : goal.returns-in-Less
returns-in-Less c = search (rules, at_less)

pub returns-in-Bang : goal.returns-in-Bang
returns-in-Bang c = search (rules, at_bang)

pub returns-in-Dash : goal.returns-in-Dash
returns-in-Dash c = search (rules, at_dash)

pub returns-in-Comment : goal.returns-in-Comment
returns-in-Comment c = search (rules, at_comment)

pub returns-in-CommentDash : goal.returns-in-CommentDash
returns-in-CommentDash c = search (rules, at_commentdash)

pub returns-in-CommentEnd : goal.returns-in-CommentEnd
returns-in-CommentEnd c = search (rules, at_commentend)

pub returns-in-Name : goal.returns-in-Name
returns-in-Name c = search (rules, at_name)

pub returns-in-Tag : goal.returns-in-Tag
returns-in-Tag c = search (rules, at_tag)

pub returns-in-Space : goal.returns-in-Space
returns-in-Space c = search (rules, at_space)

pub returns-in-Attribute : goal.returns-in-Attribute
returns-in-Attribute c = search (rules, at_attribute)

pub returns-in-Equals : goal.returns-in-Equals
returns-in-Equals c = search (rules, at_equals)

pub returns-in-Quote : goal.returns-in-Quote
returns-in-Quote c = search (rules, at_quote)

pub returns-in-Value : goal.returns-in-Value
returns-in-Value c = search (rules, at_value)

pub returns-in-Ampersand : goal.returns-in-Ampersand
returns-in-Ampersand c = search (rules, at_ampersand)

pub returns-in-Entity : goal.returns-in-Entity
returns-in-Entity c = search (rules, at_entity)

pub returns-in-Slash : goal.returns-in-Slash
returns-in-Slash c = search (rules, at_slash)

pub returns-in-End : goal.returns-in-End
returns-in-End c = search (rules, at_end_lem)

pub returns-in-Close : goal.returns-in-Close
returns-in-Close c = search (rules, at_close)
