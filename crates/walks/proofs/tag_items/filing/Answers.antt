use borrow.Author.Rules.{rules}
use Rattle.walks.specs.TagItems.{filing_so}
use Rattle.walks.proofs.tag_items.filing.Goals as goal

pub returns : goal.returns
returns c = search (rules, filing_so)
