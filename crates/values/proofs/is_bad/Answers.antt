use borrow.Author.Rules.{rules}
use Rattle.values.specs.Items.{bad_long, bad_unknown, bad_none}
use Rattle.values.proofs.is_bad.Goals as goal

pub returns-then-name-gt63 : goal.returns-then-name-gt63
returns-then-name-gt63 c = search (rules, bad_long)

pub returns-then-refers : goal.returns-then-refers
returns-then-refers c = search (rules, bad_unknown)

pub returns : goal.returns
returns c = search (rules, bad_none)
