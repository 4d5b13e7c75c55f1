use borrow.Author.Rules.{rules}
use Rattle.walks.specs.Heads.{tag_laid}
use Rattle.walks.proofs.heads.lay_tag.Goals as goal

pub returns : goal.returns
returns c = search (rules, tag_laid)
