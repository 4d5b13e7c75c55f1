use borrow.Author.Rules.{rules}
use Rattle.lookup.specs.Words.{word_put}
use Rattle.lookup.proofs.put_word.Goals as goal

pub returns : goal.returns
returns c = word_put c.args.place.now c.args.w c.requires (search rules)
