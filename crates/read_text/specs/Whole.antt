-- The whole call, with its work places.
use Rattle.std.specs.Prelude.{◌≡◌, refl, Bool, true, false, not, ◌&&◌, List, ℕ, length}
use Rattle.std.specs.declared.result.Result.{Result}
use Rattle.std.specs.declared.result.Result.TheVariants.{Ok, Err}
use Rattle.std.proofs.Math.Path.{sym}
use Rattle.std.proofs.Common.{ap, subst, ◌∙◌}
use Rattle.std.proofs.Math.Dec.{eqb}
use borrow.Author.Tests.{eqb-true, not-true, not-false}
use Rattle.reading.specs.Calls.{Outcome, call_of}
use Rattle.reader.specs.Outcomes.{refusal, call_faulty, call_size}
use Rattle.read_text.specs.declared.hand_out.Read.{Read}
use Rattle.read_text.specs.Outcome.{refused, outcome_of}
use Rattle.read_text.specs.Hand.{HandRoom}
use Rattle.read_text.specs.declared.tabled.Tabled.{Tabled}
use Rattle.read_text.specs.declared.refused.Refusal.{Refusal}
use Rattle.read_text.specs.declared.refused.Refusal.TheVariants.{Faulty, Many}
use Rattle.read_text.specs.Survey.{Oversize}
use Rattle.read_text.specs.Tabled.{TabledAs}

-- ---- the work places

unfoldable pub places_fit : ℕ → ℕ → ℕ → ℕ → ℕ → ℕ → Bool
places_fit work names_work ids spots noted ranks =
    eqb work 27756 && eqb names_work 49152 && eqb ids 24434 && eqb spots 16388 && eqb noted 2913 && eqb ranks 2913

pub places_are : (work names_work ids spots noted ranks : ℕ) →
    (eqb work 27756 && eqb names_work 49152 && eqb ids 24434 && eqb spots 16388 && eqb noted 2913 && eqb ranks 2913) ≡ places_fit work names_work ids spots noted ranks
unfolding places_fit
places_are work names_work ids spots noted ranks = refl

pub record ReadRoom (work names_work ids spots noted ranks : ℕ) : Type 0 where
  pub work_room : work ≡ 27756
  pub name_room : names_work ≡ 49152
  pub ids_room : ids ≡ 24434
  pub spots_room : spots ≡ 16388
  pub noted_room : noted ≡ 2913
  pub ranks_room : ranks ≡ 2913

-- work places of other lengths: 199, and nothing is written
abbrev pub read_with : Bool → List ℕ → List ℕ → List ℕ → Outcome
read_with true text place name_place_is = call_of text place name_place_is
read_with false text place name_place_is = refusal 199 0 place name_place_is

-- nor in the work places; else what they hold is free
abbrev pub kept_unless : Bool → List ℕ → List ℕ → List ℕ
kept_unless true before behind = behind
kept_unless false before behind = before

pub record WorkKept (fit : Bool) (work names_work ids spots noted ranks work' name_work' ids' spots' noted' ranks' : List ℕ) : Type 0 where
  pub work_kept : work' ≡ kept_unless fit work work'
  pub name_work_kept : name_work' ≡ kept_unless fit names_work name_work'
  pub ids_kept : ids' ≡ kept_unless fit ids ids'
  pub spots_kept : spots' ≡ kept_unless fit spots spots'
  pub noted_kept : noted' ≡ kept_unless fit noted noted'
  pub ranks_kept : ranks' ≡ kept_unless fit ranks ranks'

pub kept_all : (fit : Bool) (work names_work ids spots noted ranks : List ℕ) → WorkKept fit work names_work ids spots noted ranks work names_work ids spots noted ranks
kept_all fit work names_work ids spots noted ranks =
    record { work_kept = same fit work; name_work_kept = same fit names_work; ids_kept = same fit ids; spots_kept = same fit spots; noted_kept = same fit noted; ranks_kept = same fit ranks }
  where
    same : (z : Bool) (xs : List ℕ) → xs ≡ kept_unless z xs xs
    same true xs = refl
    same false xs = refl

left : (a b : Bool) → (a && b) ≡ true → a ≡ true
left true b e = refl
left false b e = e

right : (a b : Bool) → (a && b) ≡ true → b ≡ true
right true b e = e
right false true e = refl
right false false e = e

module _ (work names_work ids spots noted ranks : ℕ) (fit : Bool) (e : fit ≡ places_fit work names_work ids spots noted ranks) where
  pub places_room : not fit ≡ false → ReadRoom work names_work ids spots noted ranks
  unfolding places_fit
  places_room q =
      let six = sym e ∙ not-false fit q in
      let five = left (eqb work 27756 && eqb names_work 49152 && eqb ids 24434 && eqb spots 16388 && eqb noted 2913) (eqb ranks 2913) six in
      let four = left (eqb work 27756 && eqb names_work 49152 && eqb ids 24434 && eqb spots 16388) (eqb noted 2913) five in
      let three = left (eqb work 27756 && eqb names_work 49152 && eqb ids 24434) (eqb spots 16388) four in
      let two = left (eqb work 27756 && eqb names_work 49152) (eqb ids 24434) three in
      record {
        work_room = eqb-true work 27756 (left (eqb work 27756) (eqb names_work 49152) two);
        name_room = eqb-true names_work 49152 (right (eqb work 27756) (eqb names_work 49152) two);
        ids_room = eqb-true ids 24434 (right (eqb work 27756 && eqb names_work 49152) (eqb ids 24434) three);
        spots_room = eqb-true spots 16388 (right (eqb work 27756 && eqb names_work 49152 && eqb ids 24434) (eqb spots 16388) four);
        noted_room = eqb-true noted 2913 (right (eqb work 27756 && eqb names_work 49152 && eqb ids 24434 && eqb spots 16388) (eqb noted 2913) five);
        ranks_room = eqb-true ranks 2913 (right (eqb work 27756 && eqb names_work 49152 && eqb ids 24434 && eqb spots 16388 && eqb noted 2913) (eqb ranks 2913) six);
      }

  pub places_no : not fit ≡ true → (text place name_place_is : List ℕ) (r : Read) → r ≡ refused 199 0 →
      outcome_of r place name_place_is ≡ read_with (places_fit work names_work ids spots noted ranks) text place name_place_is
  places_no q text place name_place_is r i =
      ap (λ (x : Read). outcome_of x place name_place_is) i ∙ ap (λ (z : Bool). read_with z text place name_place_is) (sym (sym e ∙ not-true fit q))

  pub places_yes : not fit ≡ false → (text place name_place_is : List ℕ) (o : Outcome) → o ≡ call_of text place name_place_is →
      o ≡ read_with (places_fit work names_work ids spots noted ranks) text place name_place_is
  places_yes q text place name_place_is o i = i ∙ ap (λ (z : Bool). read_with z text place name_place_is) (sym (sym e ∙ not-false fit q))

  pub places_free : not fit ≡ false → (w n i s o r w' n' i' s' o' r' : List ℕ) → WorkKept (places_fit work names_work ids spots noted ranks) w n i s o r w' n' i' s' o' r'
  places_free q w n i s o r w' n' i' s' o' r' =
      subst (λ (z : Bool). WorkKept z w n i s o r w' n' i' s' o' r') (sym (not-false fit q) ∙ e) (record { work_kept = refl; name_work_kept = refl; ids_kept = refl; spots_kept = refl; noted_kept = refl; ranks_kept = refl })

-- ---- what is answered

oversize : (text place name_place_is : List ℕ) → Oversize text → (r : Read) → r ≡ refused 1 0 → outcome_of r place name_place_is ≡ call_of text place name_place_is
oversize text place name_place_is o r i =
    ap (λ (x : Read). outcome_of x place name_place_is) i ∙ sym (call_size text place name_place_is o.well.levels o.well.ids o.well.count o.well.is o.is)

module _ (text names work : List ℕ) (tabled : Result Tabled Refusal) (s : TabledAs text names work tabled) where
  pub read_faulty : (e : Refusal) → tabled ≡ Err e → (at : ℕ) → e ≡ Faulty at → (place name_place_is : List ℕ) (r : Read) → r ≡ refused 12 at → outcome_of r place name_place_is ≡ call_of text place name_place_is
  read_faulty e q at f place name_place_is r i =
      let k = subst (TabledAs text names work) (q ∙ ap Err f) s in
      ap (λ (x : Read). outcome_of x place name_place_is) i ∙ sym (call_faulty text place name_place_is at k.is.is)

  pub read_many : (e : Refusal) → tabled ≡ Err e → e ≡ Many → (place name_place_is : List ℕ) (r : Read) → r ≡ refused 1 0 → outcome_of r place name_place_is ≡ call_of text place name_place_is
  read_many e q f place name_place_is r i = let k = subst (TabledAs text names work) (q ∙ ap Err f) s in oversize text place name_place_is k.is r i

  pub read_hand : (t : Tabled) → tabled ≡ Ok t → (names_work : List ℕ) → length names_work ≡ 49152 → HandRoom text names t.slots work t.size names_work
  read_hand t e names_work b =
      let k = subst (TabledAs text names work) e s in
      record {
        well = k.is.well;
        noted = k.is.names_noted;
        slots_are_lem = k.is.names_are;
        few = k.is.names_few;
        room = b;
        there = k.is.tables.there;
        size_is = k.is.tables.size_is;
        tables_are = k.is.tables.tables_are;
      }
