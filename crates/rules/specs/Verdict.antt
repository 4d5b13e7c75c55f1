-- The verdict: the first rule broken.
use Rattle.std.specs.Prelude.{◌≡◌, Bool, true, false, ◌&&◌, List, ℕ, length}
use Rattle.std.proofs.Math.Path.{sym}
use Rattle.std.proofs.Common.{◌∙◌}
use Rattle.definition.specs.declared.Answer.{Answer}
use Rattle.definition.specs.declared.Answer.TheVariants.{Done, Size, Names, Tree, Lists, Transitions}
use Rattle.definition.specs.Tables.{chart_of}
use Rattle.laws.specs.Bools.{and3}
use Rattle.definition.specs.Rules.{counts_fit, compiled_size, rule1, rule2, rule3, rule4, rule5, first_broken, verdict, keeps_rules}

module _ (numbers names : List ℕ) (room names_room : ℕ) where
  abbrev r1 : Bool
  r1 = rule1 numbers names room names_room

  pub broken_1 : r1 ≡ false → Size ≡ verdict numbers names room names_room
  unfolding verdict first_broken
  broken_1 a = sym (rw a)

  module _ (a : r1 ≡ true) where
    pub broken_2 : rule2 numbers names ≡ false → Names ≡ verdict numbers names room names_room
    unfolding verdict first_broken
    broken_2 b = sym (rw (a, b))

    module _ (b : rule2 numbers names ≡ true) where
      pub broken_3 : rule3 (chart_of numbers) ≡ false → Tree ≡ verdict numbers names room names_room
      unfolding verdict first_broken
      broken_3 c = sym (rw (a, b, c))

      module _ (c : rule3 (chart_of numbers) ≡ true) where
        pub broken_4 : rule4 (chart_of numbers) ≡ false → Lists ≡ verdict numbers names room names_room
        unfolding verdict first_broken
        broken_4 d = sym (rw (a, b, c, d))

        module _ (d : rule4 (chart_of numbers) ≡ true) where
          pub broken_5 : rule5 (chart_of numbers) ≡ false → Transitions ≡ verdict numbers names room names_room
          unfolding verdict first_broken
          broken_5 e = sym (rw (a, b, c, d, e))

          pub unbroken : rule5 (chart_of numbers) ≡ true → Done ≡ verdict numbers names room names_room
          unfolding verdict first_broken
          unbroken e = sym (rw (a, b, c, d, e))

-- rules 1 to 3
unfoldable pub first_three : List ℕ → List ℕ → ℕ → ℕ → Bool
first_three numbers names room names_room = rule1 numbers names room names_room && rule2 numbers names && rule3 (chart_of numbers)

module _ (numbers names : List ℕ) (room names_room : ℕ) where
  pub three_1 : rule1 numbers names room names_room ≡ false → false ≡ first_three numbers names room names_room
  unfolding first_three
  three_1 a = sym (rw a)

  pub three_2 : rule1 numbers names room names_room ≡ true → rule2 numbers names ≡ false → false ≡ first_three numbers names room names_room
  unfolding first_three
  three_2 a b = sym (rw (a, b))

  pub three_3 : (t : Bool) → rule1 numbers names room names_room ≡ true → rule2 numbers names ≡ true → t ≡ rule3 (chart_of numbers) → t ≡ first_three numbers names room names_room
  unfolding first_three
  three_3 t a b c = c ∙ sym (rw (a, b))

  pub three_parts : first_three numbers names room names_room ≡ true →
      (rule1 numbers names room names_room ≡ true) × (rule2 numbers names ≡ true) × (rule3 (chart_of numbers) ≡ true)
  unfolding first_three
  three_parts h = and3 (rule1 numbers names room names_room) (rule2 numbers names) (rule3 (chart_of numbers)) h

pub ruleset verdict-laws = (broken_1, broken_2, broken_3, broken_4, broken_5, unbroken)

module _ (numbers names : List ℕ) where
  pub counts_broken : counts_fit numbers ≡ false → Size ≡ keeps_rules numbers names
  unfolding keeps_rules rule1
  counts_broken h = broken_1 numbers names (compiled_size numbers) (length names) (rw h)

  pub kept_is : (r : Answer) (size : ℕ) → size ≡ compiled_size numbers → r ≡ verdict numbers names size (length names) → r ≡ keeps_rules numbers names
  unfolding keeps_rules
  kept_is r size e h = h ∙ rw e
