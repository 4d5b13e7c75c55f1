-- Rows and transitions of a text, counted and numbered.
use Rattle.std.specs.Prelude.{◌≡◌, refl, List, ℕ, ◌≤◌, ◌<◌, length, take}
use Rattle.std.specs.declared.result.Result.{Result}
use Rattle.std.specs.declared.result.Result.TheVariants.{Ok, Err}
use Rattle.std.proofs.Math.Path.{sym}
use Rattle.std.proofs.Common.{subst, ◌∙◌, arith}
use Rattle.definition.specs.declared.Answer.TheVariants.{Size}
use Rattle.definition.specs.Rules.{keeps_rules}
use Rattle.reading.specs.Tags.{tags_of}
use Rattle.reading.specs.Faults.{ids_of}
use Rattle.reading.specs.Content.{content_of}
use Rattle.reading.specs.Layout.{numbers_of, names_of}
use Rattle.lay.specs.Sizes.{many_rows, many_transitions}
use Rattle.items.specs.Items.{sources_of, Ranked}
use Rattle.items.specs.Order.{rows_count, transitions_count}
use Rattle.items.specs.Placing.{RankRoom}
use Rattle.walks.specs.declared.sources.Counts.{Counts}
use Rattle.walks.specs.Sources.{SourceRoom, Sourced}
use Rattle.walks.specs.Plan.{text_facts}
use Rattle.read_text.specs.declared.refused.Refusal.{Refusal}
use Rattle.read_text.specs.declared.refused.Refusal.TheVariants.{Many}

pub record NumberRoom (text levels spots noted next ranks : List ℕ) : Type 0 where
  pub short : length text ≤ 32768
  pub deep : length levels ≡ 32768
  pub spots_room : length spots ≡ 16388
  pub noted_room : length noted ≡ 2913
  pub next_room : length next ≡ 2816
  pub ranks_room : length ranks ≡ 2913

-- rule 1 is broken whatever the names are
pub record TooMany (text : List ℕ) : Type 0 where
  pub is : (slots : List (List ℕ)) → keeps_rules (numbers_of slots (content_of (tags_of text))) (names_of slots) ≡ Size

pub record NumberedBy (text ranks : List ℕ) (n t : ℕ) : Type 0 where
  pub rows_are : n ≡ length (content_of (tags_of text)).rows
  pub rows_few : n ≤ 256
  pub transitions_few : t ≤ 512
  pub ranked : Ranked n t (sources_of (text_facts text)) ranks

abbrev pub NumberedCase : List ℕ → List ℕ → Result Counts Refusal → Type 0
NumberedCase text ranks (Err e) = (e ≡ Many) × TooMany text
NumberedCase text ranks (Ok c) = NumberedBy text ranks c.rows c.transitions

pub record NumberedAs (text ranks : List ℕ) (r : Result Counts Refusal) : Type 0 where
  pub is : NumberedCase text ranks r

pub number_sources : (text levels cells spots noted next ranks : List ℕ) → NumberRoom text levels spots noted next ranks → length cells ≡ 22 → SourceRoom text levels cells spots noted
number_sources text levels cells spots noted next ranks r c =
    record { walk = record { short = r.short; deep = r.deep; cells_room = c; spots_room = r.spots_room }; room = r.noted_room }

module _ (text levels cells spots noted : List ℕ) (c : Counts) (s : Sourced text levels cells spots noted c) where
  rows : c.rows ≡ length (content_of (tags_of text)).rows
  unfolding content_of
  rows = s.rows_are (ids_of (tags_of text)) ∙ sym (rows_count (text_facts text))

  pub number_rows : (ranks : List ℕ) → 256 < c.rows → NumberedAs text ranks (Err Many)
  number_rows ranks h = let r = rows in record { is = (refl, record { is = λ slots. many_rows slots (content_of (tags_of text)) (omega arith) }) }

  pub number_room : (next ranks : List ℕ) → length next ≡ 2816 → length ranks ≡ 2913 → c.rows ≤ 256 → RankRoom noted c.transitions c.rows next ranks
  number_room next ranks a b h =
      let l = s.room.room in let f = s.transitions_few in
      record { sized = omega arith; few = omega arith; there = omega arith; wide = omega arith }

  module _ (ranks : List ℕ) (t : ℕ) (r : Ranked c.rows t (take c.transitions noted) ranks) where
    ranked : Ranked c.rows t (sources_of (text_facts text)) ranks
    ranked = subst (λ (l : List ℕ). Ranked c.rows t l ranks) (s.are (ids_of (tags_of text))) r

    transitions : t ≡ length (content_of (tags_of text)).transitions
    unfolding content_of
    transitions = ranked.many ∙ sym (transitions_count (text_facts text) c.rows rows)

    pub number_transitions : 512 < t → NumberedAs text ranks (Err Many)
    number_transitions h = let e = transitions in record { is = (refl, record { is = λ slots. many_transitions slots (content_of (tags_of text)) (omega arith) }) }

    pub number_done : c.rows ≤ 256 → t ≤ 512 → NumberedAs text ranks (Ok (record { rows = c.rows; transitions = t }))
    number_done a b = record { is = record { rows_are = rows; rows_few = a; transitions_few = b; ranked = ranked } }
