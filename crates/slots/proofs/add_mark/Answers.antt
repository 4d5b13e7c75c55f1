use borrow.Author.Rules.{rules}
use Rattle.slots.specs.Walk.{by_other, by_value, mark_both}
use Rattle.slots.proofs.add_mark.Goals as goal

pub add_value-requires : goal.add_value-requires
add_value-requires c = search (rules, mark_both)

pub returns-in-Valued : goal.returns-in-Valued
returns-in-Valued c = search (rules, by_value)

pub returns-in_default : goal.returns-in_default
returns-in_default c = by_other _ _ _ _ c.in_default.not-Valued c.requires.fits
