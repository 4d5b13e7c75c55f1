use borrow.Author.Rules.{rules}
use Rattle.write_text.specs.Ends.{end_laid}
use Rattle.write_text.proofs.ends.lay_end.Goals as goal

pub returns : goal.returns
returns c = search (rules, end_laid)
