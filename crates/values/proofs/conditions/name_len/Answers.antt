use borrow.Author.Rules.{rules}
use Rattle.values.specs.Conditions.{span_start, span_stop, span_more, span_end}
use Rattle.values.proofs.conditions.name_len.Goals as goal

pub loop-j-init : goal.loop-j-init
loop-j-init c = search (rules, span_start)

pub returns-then-not-is_name_byte : goal.returns-then-not-is_name_byte
returns-then-not-is_name_byte c = search (rules, span_stop)

pub loop-j-preserved : goal.loop-j-preserved
loop-j-preserved c = search (rules, span_more)

pub returns : goal.returns
returns c = search (rules, span_end)
