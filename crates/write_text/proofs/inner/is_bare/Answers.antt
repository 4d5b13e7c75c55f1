use borrow.Author.Rules.{rules}
use Rattle.write_text.specs.Inner.{bare_full, bare_last, bare_next}
use Rattle.write_text.proofs.inner.is_bare.Goals as goal

pub returns-then-not-is_blank : goal.returns-then-not-is_blank
returns-then-not-is_blank c = search (rules, bare_full)

pub returns-then-row_count-next : goal.returns-then-row_count-next
returns-then-row_count-next c = search (rules, bare_last)

pub returns : goal.returns
returns c = search (rules, bare_next)
