use borrow.Author.Rules.{rules}
use Rattle.values.specs.Conditions.{close_bare, close_quoted, quote_fits}
use Rattle.values.proofs.conditions.is_closed.Goals as goal

pub slice_bounds-equal-start : goal.slice_bounds-equal-start
slice_bounds-equal-start c = search (rules, quote_fits)

pub returns-then-quote-lt1 : goal.returns-then-quote-lt1
returns-then-quote-lt1 c = search (rules, close_bare)

pub slice_bounds-equal-count : goal.slice_bounds-equal-count
slice_bounds-equal-count c = search (rules, quote_fits)

pub returns : goal.returns
returns c = search (rules, close_quoted)
