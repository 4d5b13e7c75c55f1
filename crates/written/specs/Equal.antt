-- ""Equal" means the same rows and transitions after equal names are joined, unused ones dropped and the rest numbered by first use" (R-4, 4.5): for accepted charts
-- that is equal content. First use is that of the written text, in which the rows stand in order, each with its blocks, its list and its transitions.
use Rattle.std.specs.Prelude.{◌≡◌, List, ℕ}
use Rattle.std.proofs.Common.{sym, ap, ap₂, ◌∙◌}
use Rattle.definition.specs.declared.Answer.TheVariants.{Done}
use Rattle.definition.specs.Rules.{keeps_rules}
use Rattle.reading.specs.Tags.{tags_of}
use Rattle.reading.specs.Content.{Content, slots_of}
use Rattle.reading.specs.Layout.{numbers_of, names_of, content}
use Rattle.reading.specs.Print.{print}
use Rattle.written.specs.ReadBack.{slots_are_lem, tables_back}

-- the tables of a content with its names joined, the unused ones dropped and the rest numbered by first use
unfoldable pub normal_numbers : Content → List ℕ
normal_numbers c = numbers_of (slots_of (tags_of (print c))) c

unfoldable pub normal_names : Content → List ℕ
normal_names c = names_of (slots_of (tags_of (print c)))

-- they mean the same chart
pub normal_content : (numbers names : List ℕ) → keeps_rules numbers names ≡ Done → content (normal_numbers (content numbers names)) (normal_names (content numbers names)) ≡ content numbers names
unfolding normal_numbers normal_names
normal_content numbers names h =
    ap (λ (slots : List (List ℕ)). content (numbers_of slots (content numbers names)) (names_of slots)) (slots_are_lem numbers names h) ∙ tables_back numbers names h

-- equal tables after joining, dropping and numbering are those of equal content
pub equal_content : (numbers names others other_names : List ℕ) → keeps_rules numbers names ≡ Done → keeps_rules others other_names ≡ Done →
    normal_numbers (content numbers names) ≡ normal_numbers (content others other_names) → normal_names (content numbers names) ≡ normal_names (content others other_names) → content numbers names ≡ content others other_names
equal_content numbers names others other_names h k p q = sym (normal_content numbers names h) ∙ ap₂ content p q ∙ normal_content others other_names k

-- and the other way round
pub content_equal : (numbers names others other_names : List ℕ) → content numbers names ≡ content others other_names →
    (normal_numbers (content numbers names) ≡ normal_numbers (content others other_names)) × (normal_names (content numbers names) ≡ normal_names (content others other_names))
content_equal numbers names others other_names e = (ap normal_numbers e, ap normal_names e)
