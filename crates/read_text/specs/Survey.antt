-- What is known of a text before its tables are laid.
use Rattle.std.specs.Prelude.{◌≡◌, List, ℕ, ◌≤◌, length}
use Rattle.std.proofs.Common.{sym, subst}
use Rattle.definition.specs.declared.Answer.TheVariants.{Size}
use Rattle.definition.specs.Rules.{keeps_rules}
use Rattle.reading.specs.Tags.{tags_of}
use Rattle.reading.specs.Faults.{ids_of}
use Rattle.reading.specs.Content.{content_of, slots_of}
use Rattle.reading.specs.Layout.{read_of, faulty}
use Rattle.values.specs.Ids.{Noted, ids_from}
use Rattle.lay.specs.Sizes.{many_names}
use Rattle.std.specs.declared.result.Result.{Result}
use Rattle.std.specs.declared.result.Result.TheVariants.{Ok, Err}
use Rattle.markup.specs.declared.Fault.{Fault}
use Rattle.reader.specs.Judged.{JudgedAs}
use Rattle.slots.specs.declared.TooMany.{TooMany}
use Rattle.slots.specs.Walk.{Begun, Gathered}
use Rattle.walks.specs.declared.sources.Counts.{Counts}
use Rattle.walks.specs.declared.plan.Plan.{Plan}
use Rattle.walks.specs.declared.plan.Pass.{Pass}
use Rattle.read_text.specs.declared.refused.Refusal.{Refusal}
use Rattle.read_text.specs.declared.refused.Refusal.TheVariants.{Faulty, Many}
use Rattle.read_text.specs.Hand.{Well, tables_of, slots_in}
use Rattle.read_text.specs.Number.{NumberedBy, NumberedAs}

pub record SurveyRoom (text levels ids names spots noted next ranks : List ℕ) : Type 0 where
  pub deep : length levels ≡ 32768
  pub ids_room : length ids ≡ 24434
  pub names_room_lem : length names ≡ 4864
  pub spots_room : length spots ≡ 16388
  pub noted_room : length noted ≡ 2913
  pub next_room : length next ≡ 2816
  pub ranks_room : length ranks ≡ 2913

pub record FaultyAt (text : List ℕ) (at : ℕ) : Type 0 where
  pub is : read_of text ≡ faulty at

-- it reads well and breaks rule 1
pub record Oversize (text : List ℕ) : Type 0 where
  pub well : Well text
  pub is : keeps_rules (tables_of text) (slots_in text) ≡ Size

pub record PlannedBy (text ids names ranks : List ℕ) (n t i m : ℕ) : Type 0 where
  pub well : Well text
  pub numbered : NumberedBy text ranks n t
  pub ids_noted : Noted text ids i
  pub ids_are : ids_from text ids i 0 ≡ ids_of (tags_of text)
  pub names_noted : Noted text names m
  pub names_are : ids_from text names m 0 ≡ slots_of (tags_of text)
  pub names_few : m ≤ 768

abbrev pub RefusedCase : List ℕ → Refusal → Type 0
RefusedCase text (Faulty at) = FaultyAt text at
RefusedCase text Many = Oversize text

abbrev pub SurveyedCase : List ℕ → List ℕ → List ℕ → List ℕ → Result Plan Refusal → Type 0
SurveyedCase text ids names ranks (Err e) = RefusedCase text e
SurveyedCase text ids names ranks (Ok p) = PlannedBy text ids names ranks p.rows p.transitions p.ids p.slots

pub record SurveyedAs (text ids names ranks : List ℕ) (r : Result Plan Refusal) : Type 0 where
  pub is : SurveyedCase text ids names ranks r

pub survey_faulty : (text ids names ranks : List ℕ) (f : Fault) → read_of text ≡ faulty f.at → SurveyedAs text ids names ranks (Err (Faulty f.at))
survey_faulty text ids names ranks f r = record { is = record { is = r } }

module _ (text levels ids : List ℕ) (i : ℕ) (well : JudgedAs text levels ids (Ok i)) where
  known : Well text
  known = record { levels = levels; ids = ids; count = i; is = well }

  pub survey_short : length text ≤ 32768
  survey_short = well.gathered.noted.short

  pub survey_begun : (names : List ℕ) → length names ≡ 4864 → Begun text levels names
  survey_begun names n = record { short = survey_short; deep = well.gathered.begun.deep; room = n }

  module _ (levels' names : List ℕ) where
    pub survey_many : (many : TooMany) → Gathered text levels' names (Err many) → (ranks : List ℕ) → SurveyedAs text ids names ranks (Err Many)
    survey_many many h ranks = record { is = record { well = known; is = many_names (slots_of (tags_of text)) (content_of (tags_of text)) h.slots_are_lem } }

    module _ (m : ℕ) (h : Gathered text levels' names (Ok m)) (ranks : List ℕ) where
      pub survey_over : (e : Refusal) → NumberedAs text ranks (Err e) → SurveyedAs text ids names ranks (Err e)
      survey_over e d =
          subst (λ (x : Refusal). SurveyedAs text ids names ranks (Err x)) (sym d.is.0) (record { is = record { well = known; is = d.is.1.is (slots_of (tags_of text)) } })

      pub survey_planned : (c : Counts) → NumberedAs text ranks (Ok c) → (z : Pass) →
          SurveyedAs text ids names ranks (Ok (record { rows = c.rows; transitions = c.transitions; ids = i; slots = m; pass = z }))
      survey_planned c d z =
          record {
            is =
                record {
                  well = known;
                  numbered = d.is;
                  ids_noted = well.gathered.noted;
                  ids_are = well.gathered.ids_are;
                  names_noted = h.slots_are_lem.noted;
                  names_are = h.slots_are_lem.are;
                  names_few = h.slots_are_lem.few;
                };
          }
