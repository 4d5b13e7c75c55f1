use borrow.Author.Rules.{rules}
use Rattle.spell.specs.Ready.{condition_laid}
use Rattle.spell.proofs.values.lay_condition.Goals as goal

pub returns : goal.returns
returns c = search (rules, condition_laid)
