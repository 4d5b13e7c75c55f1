-- From a text to its tables in a work place.
use Rattle.std.specs.Prelude.{◌≡◌, List, ℕ, ◌≤◌, length}
use Rattle.std.specs.declared.result.Result.{Result}
use Rattle.std.specs.declared.result.Result.TheVariants.{Ok, Err}
use Rattle.std.proofs.Common.{sym, subst}
use Rattle.reading.specs.Tags.{tags_of}
use Rattle.reading.specs.Content.{slots_of}
use Rattle.values.specs.Ids.{Noted, ids_from}
use Rattle.walks.specs.declared.plan.Plan.{Plan}
use Rattle.read_text.specs.declared.refused.Refusal.{Refusal}
use Rattle.read_text.specs.declared.tabled.Tabled.{Tabled}
use Rattle.read_text.specs.Hand.{Well}
use Rattle.read_text.specs.Survey.{SurveyRoom, RefusedCase, SurveyedAs}
use Rattle.read_text.specs.Fill.{TablesIn, LaidAs}

pub record TabledRoom (text levels ids names spots noted next ranks work : List ℕ) : Type 0 where
  pub surveys : SurveyRoom text levels ids names spots noted next ranks
  pub work_room : length work ≡ 27756

-- the tables stand at the beginning of the work place, and their names are noted
pub record TabledBy (text names work : List ℕ) (s m : ℕ) : Type 0 where
  pub well : Well text
  pub names_noted : Noted text names m
  pub names_are : ids_from text names m 0 ≡ slots_of (tags_of text)
  pub names_few : m ≤ 768
  pub tables : TablesIn text work s

abbrev pub TabledCase : List ℕ → List ℕ → List ℕ → Result Tabled Refusal → Type 0
TabledCase text names work (Err e) = RefusedCase text e
TabledCase text names work (Ok t) = TabledBy text names work t.size t.slots

pub record TabledAs (text names work : List ℕ) (r : Result Tabled Refusal) : Type 0 where
  pub is : TabledCase text names work r

module _ (text ids names ranks : List ℕ) (p : Plan) (s : SurveyedAs text ids names ranks (Ok p)) where
  pub tabled_over : (work : List ℕ) (e : Refusal) → LaidAs text work (Err e) → TabledAs text names work (Err e)
  tabled_over work e l = subst (λ (x : Refusal). TabledAs text names work (Err x)) (sym l.is.0) (record { is = l.is.1 })

  pub tabled_done : (work : List ℕ) (size : ℕ) → LaidAs text work (Ok size) → TabledAs text names work (Ok (record { size = size; slots = p.slots }))
  tabled_done work size l = let w = s.is in record { is = record { well = w.well; names_noted = w.names_noted; names_are = w.names_are; names_few = w.names_few; tables = l.is } }
