-- The seventh marked run, by computation: it needs the rules alone. This stands beside the rules so that a must-fail edit of one of them is
-- refused here.
use Rattle.std.specs.Prelude.{◌≡◌, refl, true, [], ◌∷◌, replicate}
use Rattle.definition.specs.Rows.{same}
use Rattle.definition.specs.Rules.{keeps_rules}
use Rattle.definition.specs.Answers.{answer_no}
use Rattle.definition.specs.ChartA.{numbers_a, names_with}
use Rattle.definition.specs.Open.{everything}

-- 7. "A state id of 52 bytes is accepted, 53 gives 2." (104)
pub id_of_53_bytes : same
    (answer_no (keeps_rules numbers_a (names_with (replicate 52 97))) ∷ answer_no (keeps_rules numbers_a (names_with (replicate 53 97))) ∷ [])
    (0 ∷ 2 ∷ []) ≡ true
unfolding everything
id_of_53_bytes = refl
