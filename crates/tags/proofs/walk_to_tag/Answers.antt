use borrow.Author.Rules.{rules}
use Rattle.tags.specs.Tags.{walk_start, walk_end, walk_in, walk_less, walk_more}
use Rattle.tags.proofs.walk_to_tag.Goals as goal

pub loop-m-init : goal.loop-m-init
loop-m-init c = search (rules, walk_start)

pub returns-then-not-is_value_mark : goal.returns-then-not-is_value_mark
returns-then-not-is_value_mark c = search (rules, walk_end)

pub note_mark-requires : goal.note_mark-requires
note_mark-requires c = search (rules, walk_in)

pub loop-m-smaller : goal.loop-m-smaller
loop-m-smaller c = search (rules, walk_less)

pub loop-m-preserved : goal.loop-m-preserved
loop-m-preserved c = search (rules, walk_more)
