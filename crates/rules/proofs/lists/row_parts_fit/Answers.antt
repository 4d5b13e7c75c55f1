use Rattle.rules.specs.Apart.{few_apart}
use Rattle.rules.specs.Lists.{row_apart_no, row_rest}
use Rattle.laws.specs.Loops.{told}
use Rattle.definition.specs.Rules.{are_apart}
use Rattle.definition.specs.Tables.{chart_of}
use Rattle.rules.proofs.lists.row_parts_fit.Goals as goal

pub returns-then-list-lt2 : goal.returns-then-list-lt2
returns-then-list-lt2 c = row_rest (chart_of _) _ _ (few_apart (chart_of _) _ _ c.list_of-list.ensures.is c.if-list-lt2.true) c.list_and_blocks_fit.ensures

pub returns-then-not-are_apart : goal.returns-then-not-are_apart
returns-then-not-are_apart c = row_apart_no (chart_of _) _ (told (are_apart (chart_of _)) _ _ _ _ c.list_of-list.ensures.is c.are_apart.ensures c.if-not-are_apart.true)

pub returns : goal.returns
returns c = row_rest (chart_of _) _ _ (told (are_apart (chart_of _)) _ _ _ _ c.list_of-list.ensures.is c.are_apart.ensures c.if-not-are_apart.false) c.list_and_blocks_fit-2.ensures
