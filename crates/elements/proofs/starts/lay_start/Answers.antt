use borrow.Author.Rules.{rules}
use Rattle.elements.specs.Starts.{start_laid}
use Rattle.elements.proofs.starts.lay_start.Goals as goal

pub returns : goal.returns
returns c = search (rules, start_laid)
