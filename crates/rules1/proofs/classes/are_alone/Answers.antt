use Rattle.std.proofs.Common.{refl, rules, ℕ, eqb, get_or}
use borrow.Author.Tests.{tests}
use Rattle.rules1.specs.Classes.{alone_behind}
use Rattle.rules1.specs.Ranged.{all_ranged}
use Rattle.rules1.proofs.classes.are_alone.Goals as goal

pub returns : goal.returns
returns c =
    alone_behind c.args.class.now c.args.n _ c.requires.1
    (all_ranged (λ (i : ℕ). eqb (get_or c.args.class.now i 0) i) _ _ _ _ 1 c.args.n c.all.ensures.ran refl (λ x q k. search (rules, tests)) (λ x q k. search (rules, tests)))
