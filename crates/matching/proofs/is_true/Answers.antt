use mathlib.Core.Path.{sym, ap, ◌∙◌}
use borrow.Author.Rules.{rules}
use Rattle.follower.specs.Selection.{is_true}
use Rattle.rowset.specs.Member.{rows_of}
use Rattle.tables.specs.Parts.{condition_of}
use Rattle.numbers.specs.declared.Row.{Row}
use Rattle.std.specs.declared.option.Option.{Option}
use Rattle.matching.proofs.is_true.Goals as goal

pub returns-in-None : goal.returns-in-None
unfolding is_true
returns-in-None c = search rules

pub returns-in-Some : goal.returns-in-Some
unfolding is_true
returns-in-Some c = c.has.ensures ∙ ap (λ (x : Option Row). is_true (rows_of c.args.conf) (condition_of x)) (sym c.in-Some.is)
