use borrow.Author.Rules.{rules}
use Rattle.spell.specs.Ready.{name_laid}
use Rattle.spell.proofs.values.lay_name.Goals as goal

pub returns : goal.returns
returns c = search (rules, name_laid)
