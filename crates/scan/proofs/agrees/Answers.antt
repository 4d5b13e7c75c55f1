use borrow.Author.Rules.{rules}
use mathlib.Core.Path.{refl}
use Rattle.grammar.specs.Grammar.{agree}
use Rattle.scan.specs.Words.{agree_differs, agree_more}
use Rattle.scan.proofs.agrees.Goals as goal

pub loop-j-init : goal.loop-j-init
unfolding agree
loop-j-init c = refl

pub loop-j-preserved : goal.loop-j-preserved
loop-j-preserved c = search (rules, agree_more)

pub returns-then-word_byte : goal.returns-then-word_byte
returns-then-word_byte c = search (rules, agree_differs)
