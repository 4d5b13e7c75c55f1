-- Start tags and values of attributes can be completed.
use Rattle.std.specs.Prelude.{◌≡◌, Bool, ◌&&◌, ◌||◌, List, [], ◌∷◌, ◌++◌, ℕ, zero, suc, ◌+◌, ◌*◌, ◌≤◌, ◌<◌, ◌⊎◌, leb, get_or}
use Rattle.std.proofs.Math.Path.{refl}
use Rattle.std.proofs.Common.{sym, ap, ◌∙◌}
use Rattle.std.proofs.Math.Bool.{true, false, cond}
use native.Mathlib.Omega.{arith}
use Rattle.std.proofs.Math.Logic.{inl, inr}
use Rattle.std.proofs.Math.Dec.{eqb}
use borrow.Author.Tests.{eqb-true, eq-eqb, leb-true, leb-false, le-leb}
use Rattle.grammar.specs.declared.Place.TheVariants.{Content, Tag, Space, Attribute, Equals, Quote, Value, Ampersand, Entity}
use Rattle.grammar.specs.declared.Step.TheVariants.{Fault, Go}
use Rattle.grammar.specs.Tables.{needed, opened, adds}
use Rattle.grammar.specs.Grammar.{is_space, is_char, is_token, word_byte, attribute, has, added, is_complete, opens, name_step, value_step, value_ends, kind_of, equals_step, attribute_step, value_at, value_step_at, entity_step, step_of, dead, live, moved, next, run}
use Rattle.grammar.specs.Words.{no, and_left, and_right, both, choose, AllBelow, each, rest, one, word_read}
use Rattle.grammar.proofs.Levels.{inner, everything, stack_good, Completes, by_way_of, content_completes, in_tag, is_quote}

unfoldable pub tag_rest : ℕ → ℕ → List ℕ
tag_rest e x = cond (is_complete e x) (62 ∷ []) (32 ∷ rest (attribute e (get_or needed e 4)) 0 ++ 61 ∷ 34 ∷ 97 ∷ 34 ∷ 62 ∷ [])

abbrev TagEnds : ℕ → ℕ → Type 0
TagEnds e x = (t : ℕ) (st : List ℕ) → run (live (Tag e x) t st) (tag_rest e x) ≡ live Content (opens e x) (t ∷ st)

abbrev SpaceEnds : ℕ → ℕ → Type 0
SpaceEnds e x = (t : ℕ) (st : List ℕ) → run (live (Space e x) t st) (tag_rest e x) ≡ live Content (opens e x) (t ∷ st)

abbrev pub TagsEnd : ℕ → Type 0
TagsEnd e = (x : ℕ) → x < 16 → TagEnds e x

abbrev SpacesEnd : ℕ → Type 0
SpacesEnd e = (x : ℕ) → x < 16 → SpaceEnds e x

pub tags_end : AllBelow TagsEnd 24
unfolding everything tag_rest
tags_end = ((((((((((((((((((((((((refl, each (TagEnds 0) 16 ((((((((((((((((refl, λ t st. refl), λ t st. refl), λ t st. refl), λ t st. refl), λ t st. refl), λ t st. refl), λ t st. refl), λ t st. refl), λ t st. refl), λ t st. refl), λ t st. refl), λ t st. refl), λ t st. refl), λ t st. refl), λ t st. refl), λ t st. refl)), each (TagEnds 1) 16 ((((((((((((((((refl, λ t st. refl), λ t st. refl), λ t st. refl), λ t st. refl), λ t st. refl), λ t st. refl), λ t st. refl), λ t st. refl), λ t st. refl), λ t st. refl), λ t st. refl), λ t st. refl), λ t st. refl), λ t st. refl), λ t st. refl), λ t st. refl)), each (TagEnds 2) 16 ((((((((((((((((refl, λ t st. refl), λ t st. refl), λ t st. refl), λ t st. refl), λ t st. refl), λ t st. refl), λ t st. refl), λ t st. refl), λ t st. refl), λ t st. refl), λ t st. refl), λ t st. refl), λ t st. refl), λ t st. refl), λ t st. refl), λ t st. refl)), each (TagEnds 3) 16 ((((((((((((((((refl, λ t st. refl), λ t st. refl), λ t st. refl), λ t st. refl), λ t st. refl), λ t st. refl), λ t st. refl), λ t st. refl), λ t st. refl), λ t st. refl), λ t st. refl), λ t st. refl), λ t st. refl), λ t st. refl), λ t st. refl), λ t st. refl)), each (TagEnds 4) 16 ((((((((((((((((refl, λ t st. refl), λ t st. refl), λ t st. refl), λ t st. refl), λ t st. refl), λ t st. refl), λ t st. refl), λ t st. refl), λ t st. refl), λ t st. refl), λ t st. refl), λ t st. refl), λ t st. refl), λ t st. refl), λ t st. refl), λ t st. refl)), each (TagEnds 5) 16 ((((((((((((((((refl, λ t st. refl), λ t st. refl), λ t st. refl), λ t st. refl), λ t st. refl), λ t st. refl), λ t st. refl), λ t st. refl), λ t st. refl), λ t st. refl), λ t st. refl), λ t st. refl), λ t st. refl), λ t st. refl), λ t st. refl), λ t st. refl)), each (TagEnds 6) 16 ((((((((((((((((refl, λ t st. refl), λ t st. refl), λ t st. refl), λ t st. refl), λ t st. refl), λ t st. refl), λ t st. refl), λ t st. refl), λ t st. refl), λ t st. refl), λ t st. refl), λ t st. refl), λ t st. refl), λ t st. refl), λ t st. refl), λ t st. refl)), each (TagEnds 7) 16 ((((((((((((((((refl, λ t st. refl), λ t st. refl), λ t st. refl), λ t st. refl), λ t st. refl), λ t st. refl), λ t st. refl), λ t st. refl), λ t st. refl), λ t st. refl), λ t st. refl), λ t st. refl), λ t st. refl), λ t st. refl), λ t st. refl), λ t st. refl)), each (TagEnds 8) 16 ((((((((((((((((refl, λ t st. refl), λ t st. refl), λ t st. refl), λ t st. refl), λ t st. refl), λ t st. refl), λ t st. refl), λ t st. refl), λ t st. refl), λ t st. refl), λ t st. refl), λ t st. refl), λ t st. refl), λ t st. refl), λ t st. refl), λ t st. refl)), each (TagEnds 9) 16 ((((((((((((((((refl, λ t st. refl), λ t st. refl), λ t st. refl), λ t st. refl), λ t st. refl), λ t st. refl), λ t st. refl), λ t st. refl), λ t st. refl), λ t st. refl), λ t st. refl), λ t st. refl), λ t st. refl), λ t st. refl), λ t st. refl), λ t st. refl)), each (TagEnds 10) 16 ((((((((((((((((refl, λ t st. refl), λ t st. refl), λ t st. refl), λ t st. refl), λ t st. refl), λ t st. refl), λ t st. refl), λ t st. refl), λ t st. refl), λ t st. refl), λ t st. refl), λ t st. refl), λ t st. refl), λ t st. refl), λ t st. refl), λ t st. refl)), each (TagEnds 11) 16 ((((((((((((((((refl, λ t st. refl), λ t st. refl), λ t st. refl), λ t st. refl), λ t st. refl), λ t st. refl), λ t st. refl), λ t st. refl), λ t st. refl), λ t st. refl), λ t st. refl), λ t st. refl), λ t st. refl), λ t st. refl), λ t st. refl), λ t st. refl)), each (TagEnds 12) 16 ((((((((((((((((refl, λ t st. refl), λ t st. refl), λ t st. refl), λ t st. refl), λ t st. refl), λ t st. refl), λ t st. refl), λ t st. refl), λ t st. refl), λ t st. refl), λ t st. refl), λ t st. refl), λ t st. refl), λ t st. refl), λ t st. refl), λ t st. refl)), each (TagEnds 13) 16 ((((((((((((((((refl, λ t st. refl), λ t st. refl), λ t st. refl), λ t st. refl), λ t st. refl), λ t st. refl), λ t st. refl), λ t st. refl), λ t st. refl), λ t st. refl), λ t st. refl), λ t st. refl), λ t st. refl), λ t st. refl), λ t st. refl), λ t st. refl)), each (TagEnds 14) 16 ((((((((((((((((refl, λ t st. refl), λ t st. refl), λ t st. refl), λ t st. refl), λ t st. refl), λ t st. refl), λ t st. refl), λ t st. refl), λ t st. refl), λ t st. refl), λ t st. refl), λ t st. refl), λ t st. refl), λ t st. refl), λ t st. refl), λ t st. refl)), each (TagEnds 15) 16 ((((((((((((((((refl, λ t st. refl), λ t st. refl), λ t st. refl), λ t st. refl), λ t st. refl), λ t st. refl), λ t st. refl), λ t st. refl), λ t st. refl), λ t st. refl), λ t st. refl), λ t st. refl), λ t st. refl), λ t st. refl), λ t st. refl), λ t st. refl)), each (TagEnds 16) 16 ((((((((((((((((refl, λ t st. refl), λ t st. refl), λ t st. refl), λ t st. refl), λ t st. refl), λ t st. refl), λ t st. refl), λ t st. refl), λ t st. refl), λ t st. refl), λ t st. refl), λ t st. refl), λ t st. refl), λ t st. refl), λ t st. refl), λ t st. refl)), each (TagEnds 17) 16 ((((((((((((((((refl, λ t st. refl), λ t st. refl), λ t st. refl), λ t st. refl), λ t st. refl), λ t st. refl), λ t st. refl), λ t st. refl), λ t st. refl), λ t st. refl), λ t st. refl), λ t st. refl), λ t st. refl), λ t st. refl), λ t st. refl), λ t st. refl)), each (TagEnds 18) 16 ((((((((((((((((refl, λ t st. refl), λ t st. refl), λ t st. refl), λ t st. refl), λ t st. refl), λ t st. refl), λ t st. refl), λ t st. refl), λ t st. refl), λ t st. refl), λ t st. refl), λ t st. refl), λ t st. refl), λ t st. refl), λ t st. refl), λ t st. refl)), each (TagEnds 19) 16 ((((((((((((((((refl, λ t st. refl), λ t st. refl), λ t st. refl), λ t st. refl), λ t st. refl), λ t st. refl), λ t st. refl), λ t st. refl), λ t st. refl), λ t st. refl), λ t st. refl), λ t st. refl), λ t st. refl), λ t st. refl), λ t st. refl), λ t st. refl)), each (TagEnds 20) 16 ((((((((((((((((refl, λ t st. refl), λ t st. refl), λ t st. refl), λ t st. refl), λ t st. refl), λ t st. refl), λ t st. refl), λ t st. refl), λ t st. refl), λ t st. refl), λ t st. refl), λ t st. refl), λ t st. refl), λ t st. refl), λ t st. refl), λ t st. refl)), each (TagEnds 21) 16 ((((((((((((((((refl, λ t st. refl), λ t st. refl), λ t st. refl), λ t st. refl), λ t st. refl), λ t st. refl), λ t st. refl), λ t st. refl), λ t st. refl), λ t st. refl), λ t st. refl), λ t st. refl), λ t st. refl), λ t st. refl), λ t st. refl), λ t st. refl)), each (TagEnds 22) 16 ((((((((((((((((refl, λ t st. refl), λ t st. refl), λ t st. refl), λ t st. refl), λ t st. refl), λ t st. refl), λ t st. refl), λ t st. refl), λ t st. refl), λ t st. refl), λ t st. refl), λ t st. refl), λ t st. refl), λ t st. refl), λ t st. refl), λ t st. refl)), each (TagEnds 23) 16 ((((((((((((((((refl, λ t st. refl), λ t st. refl), λ t st. refl), λ t st. refl), λ t st. refl), λ t st. refl), λ t st. refl), λ t st. refl), λ t st. refl), λ t st. refl), λ t st. refl), λ t st. refl), λ t st. refl), λ t st. refl), λ t st. refl), λ t st. refl))

spaces_end : AllBelow SpacesEnd 24
unfolding everything tag_rest
spaces_end = ((((((((((((((((((((((((refl, each (SpaceEnds 0) 16 ((((((((((((((((refl, λ t st. refl), λ t st. refl), λ t st. refl), λ t st. refl), λ t st. refl), λ t st. refl), λ t st. refl), λ t st. refl), λ t st. refl), λ t st. refl), λ t st. refl), λ t st. refl), λ t st. refl), λ t st. refl), λ t st. refl), λ t st. refl)), each (SpaceEnds 1) 16 ((((((((((((((((refl, λ t st. refl), λ t st. refl), λ t st. refl), λ t st. refl), λ t st. refl), λ t st. refl), λ t st. refl), λ t st. refl), λ t st. refl), λ t st. refl), λ t st. refl), λ t st. refl), λ t st. refl), λ t st. refl), λ t st. refl), λ t st. refl)), each (SpaceEnds 2) 16 ((((((((((((((((refl, λ t st. refl), λ t st. refl), λ t st. refl), λ t st. refl), λ t st. refl), λ t st. refl), λ t st. refl), λ t st. refl), λ t st. refl), λ t st. refl), λ t st. refl), λ t st. refl), λ t st. refl), λ t st. refl), λ t st. refl), λ t st. refl)), each (SpaceEnds 3) 16 ((((((((((((((((refl, λ t st. refl), λ t st. refl), λ t st. refl), λ t st. refl), λ t st. refl), λ t st. refl), λ t st. refl), λ t st. refl), λ t st. refl), λ t st. refl), λ t st. refl), λ t st. refl), λ t st. refl), λ t st. refl), λ t st. refl), λ t st. refl)), each (SpaceEnds 4) 16 ((((((((((((((((refl, λ t st. refl), λ t st. refl), λ t st. refl), λ t st. refl), λ t st. refl), λ t st. refl), λ t st. refl), λ t st. refl), λ t st. refl), λ t st. refl), λ t st. refl), λ t st. refl), λ t st. refl), λ t st. refl), λ t st. refl), λ t st. refl)), each (SpaceEnds 5) 16 ((((((((((((((((refl, λ t st. refl), λ t st. refl), λ t st. refl), λ t st. refl), λ t st. refl), λ t st. refl), λ t st. refl), λ t st. refl), λ t st. refl), λ t st. refl), λ t st. refl), λ t st. refl), λ t st. refl), λ t st. refl), λ t st. refl), λ t st. refl)), each (SpaceEnds 6) 16 ((((((((((((((((refl, λ t st. refl), λ t st. refl), λ t st. refl), λ t st. refl), λ t st. refl), λ t st. refl), λ t st. refl), λ t st. refl), λ t st. refl), λ t st. refl), λ t st. refl), λ t st. refl), λ t st. refl), λ t st. refl), λ t st. refl), λ t st. refl)), each (SpaceEnds 7) 16 ((((((((((((((((refl, λ t st. refl), λ t st. refl), λ t st. refl), λ t st. refl), λ t st. refl), λ t st. refl), λ t st. refl), λ t st. refl), λ t st. refl), λ t st. refl), λ t st. refl), λ t st. refl), λ t st. refl), λ t st. refl), λ t st. refl), λ t st. refl)), each (SpaceEnds 8) 16 ((((((((((((((((refl, λ t st. refl), λ t st. refl), λ t st. refl), λ t st. refl), λ t st. refl), λ t st. refl), λ t st. refl), λ t st. refl), λ t st. refl), λ t st. refl), λ t st. refl), λ t st. refl), λ t st. refl), λ t st. refl), λ t st. refl), λ t st. refl)), each (SpaceEnds 9) 16 ((((((((((((((((refl, λ t st. refl), λ t st. refl), λ t st. refl), λ t st. refl), λ t st. refl), λ t st. refl), λ t st. refl), λ t st. refl), λ t st. refl), λ t st. refl), λ t st. refl), λ t st. refl), λ t st. refl), λ t st. refl), λ t st. refl), λ t st. refl)), each (SpaceEnds 10) 16 ((((((((((((((((refl, λ t st. refl), λ t st. refl), λ t st. refl), λ t st. refl), λ t st. refl), λ t st. refl), λ t st. refl), λ t st. refl), λ t st. refl), λ t st. refl), λ t st. refl), λ t st. refl), λ t st. refl), λ t st. refl), λ t st. refl), λ t st. refl)), each (SpaceEnds 11) 16 ((((((((((((((((refl, λ t st. refl), λ t st. refl), λ t st. refl), λ t st. refl), λ t st. refl), λ t st. refl), λ t st. refl), λ t st. refl), λ t st. refl), λ t st. refl), λ t st. refl), λ t st. refl), λ t st. refl), λ t st. refl), λ t st. refl), λ t st. refl)), each (SpaceEnds 12) 16 ((((((((((((((((refl, λ t st. refl), λ t st. refl), λ t st. refl), λ t st. refl), λ t st. refl), λ t st. refl), λ t st. refl), λ t st. refl), λ t st. refl), λ t st. refl), λ t st. refl), λ t st. refl), λ t st. refl), λ t st. refl), λ t st. refl), λ t st. refl)), each (SpaceEnds 13) 16 ((((((((((((((((refl, λ t st. refl), λ t st. refl), λ t st. refl), λ t st. refl), λ t st. refl), λ t st. refl), λ t st. refl), λ t st. refl), λ t st. refl), λ t st. refl), λ t st. refl), λ t st. refl), λ t st. refl), λ t st. refl), λ t st. refl), λ t st. refl)), each (SpaceEnds 14) 16 ((((((((((((((((refl, λ t st. refl), λ t st. refl), λ t st. refl), λ t st. refl), λ t st. refl), λ t st. refl), λ t st. refl), λ t st. refl), λ t st. refl), λ t st. refl), λ t st. refl), λ t st. refl), λ t st. refl), λ t st. refl), λ t st. refl), λ t st. refl)), each (SpaceEnds 15) 16 ((((((((((((((((refl, λ t st. refl), λ t st. refl), λ t st. refl), λ t st. refl), λ t st. refl), λ t st. refl), λ t st. refl), λ t st. refl), λ t st. refl), λ t st. refl), λ t st. refl), λ t st. refl), λ t st. refl), λ t st. refl), λ t st. refl), λ t st. refl)), each (SpaceEnds 16) 16 ((((((((((((((((refl, λ t st. refl), λ t st. refl), λ t st. refl), λ t st. refl), λ t st. refl), λ t st. refl), λ t st. refl), λ t st. refl), λ t st. refl), λ t st. refl), λ t st. refl), λ t st. refl), λ t st. refl), λ t st. refl), λ t st. refl), λ t st. refl)), each (SpaceEnds 17) 16 ((((((((((((((((refl, λ t st. refl), λ t st. refl), λ t st. refl), λ t st. refl), λ t st. refl), λ t st. refl), λ t st. refl), λ t st. refl), λ t st. refl), λ t st. refl), λ t st. refl), λ t st. refl), λ t st. refl), λ t st. refl), λ t st. refl), λ t st. refl)), each (SpaceEnds 18) 16 ((((((((((((((((refl, λ t st. refl), λ t st. refl), λ t st. refl), λ t st. refl), λ t st. refl), λ t st. refl), λ t st. refl), λ t st. refl), λ t st. refl), λ t st. refl), λ t st. refl), λ t st. refl), λ t st. refl), λ t st. refl), λ t st. refl), λ t st. refl)), each (SpaceEnds 19) 16 ((((((((((((((((refl, λ t st. refl), λ t st. refl), λ t st. refl), λ t st. refl), λ t st. refl), λ t st. refl), λ t st. refl), λ t st. refl), λ t st. refl), λ t st. refl), λ t st. refl), λ t st. refl), λ t st. refl), λ t st. refl), λ t st. refl), λ t st. refl)), each (SpaceEnds 20) 16 ((((((((((((((((refl, λ t st. refl), λ t st. refl), λ t st. refl), λ t st. refl), λ t st. refl), λ t st. refl), λ t st. refl), λ t st. refl), λ t st. refl), λ t st. refl), λ t st. refl), λ t st. refl), λ t st. refl), λ t st. refl), λ t st. refl), λ t st. refl)), each (SpaceEnds 21) 16 ((((((((((((((((refl, λ t st. refl), λ t st. refl), λ t st. refl), λ t st. refl), λ t st. refl), λ t st. refl), λ t st. refl), λ t st. refl), λ t st. refl), λ t st. refl), λ t st. refl), λ t st. refl), λ t st. refl), λ t st. refl), λ t st. refl), λ t st. refl)), each (SpaceEnds 22) 16 ((((((((((((((((refl, λ t st. refl), λ t st. refl), λ t st. refl), λ t st. refl), λ t st. refl), λ t st. refl), λ t st. refl), λ t st. refl), λ t st. refl), λ t st. refl), λ t st. refl), λ t st. refl), λ t st. refl), λ t st. refl), λ t st. refl), λ t st. refl)), each (SpaceEnds 23) 16 ((((((((((((((((refl, λ t st. refl), λ t st. refl), λ t st. refl), λ t st. refl), λ t st. refl), λ t st. refl), λ t st. refl), λ t st. refl), λ t st. refl), λ t st. refl), λ t st. refl), λ t st. refl), λ t st. refl), λ t st. refl), λ t st. refl), λ t st. refl))

opened_inner_all : AllBelow (λ e. inner (get_or opened e 14) ≡ true) 24
unfolding everything
opened_inner_all = ((((((((((((((((((((((((refl, refl), refl), refl), refl), refl), refl), refl), refl), refl), refl), refl), refl), refl), refl), refl), refl), refl), refl), refl), refl), refl), refl), refl), refl)

pub opens_inner : (e x : ℕ) → leb e 23 ≡ true → inner (opens e x) ≡ true
unfolding opens
opens_inner e x h =
    choose (λ z. inner z ≡ true) (eqb e 1 && has x 1) 3 (get_or opened e 14) (λ _. unfold inner in refl)
    (λ _. let l = leb-true e 23 h in each (λ n. inner (get_or opened n 14) ≡ true) 24 opened_inner_all e (below l))
  where
    below : e ≤ 23 → e < 24
    below l = omega arith

module _ (e x : ℕ) (h : in_tag e x ≡ true) where
  pub in_e : e < 24
  unfolding in_tag
  in_e = let l = leb-true e 23 (and_left (leb e 23) (leb x 15) h) in omega arith

  pub in_x : x < 16
  unfolding in_tag
  in_x = let l = leb-true x 15 (and_right (leb e 23) (leb x 15) h) in omega arith

  pub opened_good : (t : ℕ) (st : List ℕ) → stack_good t st ≡ true → stack_good (opens e x) (t ∷ st) ≡ true
  unfolding stack_good in_tag
  opened_good t st g = both (inner (opens e x)) (stack_good t st) (opens_inner e x (and_left (leb e 23) (leb x 15) h)) g

  pub tag_completes : (t : ℕ) (st : List ℕ) → stack_good t st ≡ true → Completes (live (Tag e x) t st)
  tag_completes t st g =
      by_way_of (live (Tag e x) t st) (live Content (opens e x) (t ∷ st)) (tag_rest e x) (each TagsEnd 24 tags_end e in_e x in_x t st)
      (content_completes (opens e x) (t ∷ st) (opened_good t st g))

  pub space_completes : (t : ℕ) (st : List ℕ) → stack_good t st ≡ true → Completes (live (Space e x) t st)
  space_completes t st g =
      by_way_of (live (Space e x) t st) (live Content (opens e x) (t ∷ st)) (tag_rest e x) (each SpacesEnd 24 spaces_end e in_e x in_x t st)
      (content_completes (opens e x) (t ∷ st) (opened_good t st g))

-- ---- completing a value

unfoldable all_in : (ℕ → Bool) → List ℕ → Bool
all_in p [] = true
all_in p (x ∷ xs) = p x && all_in p xs

get_d_all : (p : ℕ → Bool) (xs : List ℕ) (i d : ℕ) → p d ≡ true → all_in p xs ≡ true → p (get_or xs i d) ≡ true
unfolding all_in
get_d_all p [] i d h a = h
get_d_all p (x ∷ xs) zero d h a = and_left (p x) (all_in p xs) a
get_d_all p (x ∷ xs) (suc i) d h a = get_d_all p xs i d h (and_right (p x) (all_in p xs) a)

unfoldable small : ℕ → Bool
small x = leb x 15

adds_small : all_in small adds ≡ true
unfolding all_in small adds
adds_small = refl

added_small : (x j : ℕ) → leb (added x j) 15 ≡ true
unfolding added small
added_small x j = get_d_all small adds (x * 4 + j) 15 refl adds_small

pub tag_after : (e x j : ℕ) → in_tag e x ≡ true → in_tag e (added x j) ≡ true
unfolding in_tag
tag_after e x j h = both (leb e 23) (leb (added x j) 15) (and_left (leb e 23) (leb x 15) h) (added_small x j)

unfoldable value_rest : ℕ → ℕ → ℕ → List ℕ
value_rest kind v q = cond (value_ends kind v) (q ∷ []) (97 ∷ q ∷ [])

-- a value that may not end is one of names that waits for a token
unended : (kind v : ℕ) → value_ends kind v ≡ false → (eqb kind 0 ≡ false) × (leb v 3 ≡ true)
unfolding value_ends
unended kind v h = parts (eqb kind 0) (eqb v 1) (leb 3 v) refl h
  where
    parts : (a b c : Bool) → leb 3 v ≡ c → (a || b || c) ≡ false → (a ≡ false) × (leb v 3 ≡ true)
    parts true b c e f = absurd (no (sym f))
    parts false true c e f = absurd (no (sym f))
    parts false false true e f = absurd (no (sym f))
    parts false false false e f = (refl, let l = leb-false 3 v e in le-leb v 3 (omega arith))

module _ (e x j t : ℕ) (st : List ℕ) where
  ended_by : (q v : ℕ) → is_quote q ≡ true → value_ends (kind_of e j) v ≡ true → run (live (Value e x j q v) t st) (q ∷ []) ≡ live (Tag e (added x j)) t st
  unfolding run next step_of value_step_at is_quote
  ended_by q v h f = quoted (eqb q 34) refl (eqb q 39) refl h
    where
      ends_so : is_char q ≡ true → cond (is_char q) (moved st (cond (eqb q q) (cond (value_ends (kind_of e j) v) (Go (Tag e (added x j)) t) Fault) (cond (eqb q 38 && eqb (kind_of e j) 0) (Go (Ampersand e x j q) t) (value_at (value_step (kind_of e j) v q) e x j q t)))) dead ≡ live (Tag e (added x j)) t st
      ends_so ch = rw (ch, eq-eqb q q refl, f)

      quoted : (a : Bool) → eqb q 34 ≡ a → (b : Bool) → eqb q 39 ≡ b → (a || b) ≡ true → cond (is_char q) (moved st (cond (eqb q q) (cond (value_ends (kind_of e j) v) (Go (Tag e (added x j)) t) Fault) (cond (eqb q 38 && eqb (kind_of e j) 0) (Go (Ampersand e x j q) t) (value_at (value_step (kind_of e j) v q) e x j q t)))) dead ≡ live (Tag e (added x j)) t st
      quoted true a b f o = ends_so (ap is_char (eqb-true q 34 a) ∙ unfold is_char in refl)
      quoted false a true f o = ends_so (ap is_char (eqb-true q 39 f) ∙ unfold is_char in refl)
      quoted false a false f o = absurd (no o)

  quote_is : (q : ℕ) → is_quote q ≡ true → (q ≡ 34) ⊎ (q ≡ 39)
  unfolding is_quote
  quote_is q h = which (eqb q 34) refl (eqb q 39) refl h
    where
      which : (a : Bool) → eqb q 34 ≡ a → (b : Bool) → eqb q 39 ≡ b → (a || b) ≡ true → (q ≡ 34) ⊎ (q ≡ 39)
      which true a b f o = inl (eqb-true q 34 a)
      which false a true f o = inr (eqb-true q 39 f)
      which false a false f o = absurd (no o)

  -- a byte of a token where one may come
  token_read : (q v : ℕ) → (q ≡ 34) ⊎ (q ≡ 39) → value_ends (kind_of e j) v ≡ false → next (live (Value e x j q v) t st) 97 ≡ live (Value e x j q 1) t st
  unfolding next step_of value_step_at value_at value_step name_step is_char is_token
  token_read q v (inl r) f = let u = unended (kind_of e j) v f in rw (r, u.0, u.1)
  token_read q v (inr r) f = let u = unended (kind_of e j) v f in rw (r, u.0, u.1)

  ends_at_token : (kind : ℕ) → value_ends kind 1 ≡ true
  unfolding value_ends
  ends_at_token kind = or_true (eqb kind 0)
    where
      or_true : (a : Bool) → (a || true || false) ≡ true
      or_true true = refl
      or_true false = refl

  pub value_completes : (q v : ℕ) → is_quote q ≡ true → in_tag e x ≡ true → stack_good t st ≡ true → Completes (live (Value e x j q v) t st)
  value_completes q v h i g = which (value_ends (kind_of e j) v) refl
    where
      which : (z : Bool) → value_ends (kind_of e j) v ≡ z → Completes (live (Value e x j q v) t st)
      which true f =
          by_way_of (live (Value e x j q v) t st) (live (Tag e (added x j)) t st) (q ∷ []) (ended_by q v h f)
          (tag_completes e (added x j) (tag_after e x j i) t st g)
      which false f =
          by_way_of (live (Value e x j q v) t st) (live (Value e x j q 1) t st) (97 ∷ []) (unfold run in token_read q v (quote_is q h) f)
          (by_way_of (live (Value e x j q 1) t st) (live (Tag e (added x j)) t st) (q ∷ []) (ended_by q 1 h (ends_at_token (kind_of e j)))
          (tag_completes e (added x j) (tag_after e x j i) t st g))

  pub quote_completes : in_tag e x ≡ true → stack_good t st ≡ true → Completes (live (Quote e x j) t st)
  quote_completes i g =
      by_way_of (live (Quote e x j) t st) (live (Value e x j 34 0) t st) (34 ∷ []) (unfold everything in refl)
      (value_completes 34 0 (unfold is_quote in refl) i g)

  pub equals_completes : in_tag e x ≡ true → stack_good t st ≡ true → Completes (live (Equals e x j) t st)
  equals_completes i g =
      by_way_of (live (Equals e x j) t st) (live (Quote e x j) t st) (61 ∷ []) (unfold everything in refl) (quote_completes i g)

  attribute_goes : (k : ℕ) → step_of (Attribute e x j k) t (word_byte (attribute e j) k) ≡ Go (Attribute e x j (k + 1)) t
  unfolding step_of attribute_step
  attribute_goes k = rw (eq-eqb (word_byte (attribute e j) k) (word_byte (attribute e j) k) refl)

  attribute_ended : (m : ℕ) → word_byte (attribute e j) m ≡ 0 → run (live (Attribute e x j m) t st) (61 ∷ []) ≡ live (Quote e x j) t st
  unfolding run next step_of attribute_step equals_step is_char is_token is_space
  attribute_ended m z = rw z

  pub attribute_completes : (k : ℕ) → in_tag e x ≡ true → stack_good t st ≡ true → Completes (live (Attribute e x j k) t st)
  attribute_completes k i g =
      let r = word_read (λ (n : ℕ). Attribute e x j n) t (attribute e j) st attribute_goes k in
      by_way_of (live (Attribute e x j k) t st) (live (Attribute e x j r.m) t st) (rest (attribute e j) k) r.ran
      (by_way_of (live (Attribute e x j r.m) t st) (live (Quote e x j) t st) (61 ∷ []) (attribute_ended r.m r.ended) (quote_completes i g))

  pub ampersand_completes : (q : ℕ) → is_quote q ≡ true → in_tag e x ≡ true → stack_good t st ≡ true → Completes (live (Ampersand e x j q) t st)
  ampersand_completes q h i g =
      by_way_of (live (Ampersand e x j q) t st) (live (Value e x j q 0) t st) (108 ∷ 116 ∷ 59 ∷ []) (unfold everything in refl)
      (value_completes q 0 h i g)

  entity_goes : (q w k : ℕ) → step_of (Entity e x j q w k) t (word_byte w k) ≡ Go (Entity e x j q w (k + 1)) t
  unfolding step_of entity_step
  entity_goes q w k = rw (eq-eqb (word_byte w k) (word_byte w k) refl)

  entity_ended : (q w m : ℕ) → word_byte w m ≡ 0 → run (live (Entity e x j q w m) t st) (59 ∷ []) ≡ live (Value e x j q 0) t st
  unfolding run next step_of entity_step is_char
  entity_ended q w m z = rw z

  pub entity_completes : (q w k : ℕ) → is_quote q ≡ true → in_tag e x ≡ true → stack_good t st ≡ true → Completes (live (Entity e x j q w k) t st)
  entity_completes q w k h i g =
      let r = word_read (λ (n : ℕ). Entity e x j q w n) t w st (entity_goes q w) k in
      by_way_of (live (Entity e x j q w k) t st) (live (Entity e x j q w r.m) t st) (rest w k) r.ran
      (by_way_of (live (Entity e x j q w r.m) t st) (live (Value e x j q 0) t st) (59 ∷ []) (entity_ended q w r.m r.ended) (value_completes q 0 h i g))
