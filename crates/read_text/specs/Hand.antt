-- Tables in a work place, handed out.
use Rattle.std.specs.Prelude.{◌≡◌, Bool, ◌&&◌, List, ◌++◌, ℕ, zero, suc, ◌*◌, ◌-◌, ◌^◌, ◌≤◌, ◌<◌, leb, length, take, drop}
use Rattle.std.proofs.Math.Path.{refl}
use Rattle.std.proofs.Common.{sym, ap, ap₂, ◌∙◌, arith, length-append, take_at}
use Rattle.std.proofs.Math.Bool.{true, false}
use borrow.Author.Tests.{lt-leb, le-leb}
use Rattle.definition.specs.declared.Answer.{Answer}
use Rattle.definition.specs.Rules.{keeps_rules}
use Rattle.definition.specs.Answers.{answer_no}
use Rattle.laws.specs.Answers.{answer_done}
use Rattle.reading.specs.Tags.{tags_of}
use Rattle.reading.specs.Content.{content_of, slots_of}
use Rattle.reading.specs.Layout.{numbers_of, names_of}
use Rattle.reading.specs.Calls.{have_room, Outcome, call_of}
use Rattle.values.specs.Ids.{Noted, ids_from, ids_length}
use Rattle.lay.specs.Sizes.{names_size_lem}
use Rattle.lay.specs.Names.{NamesRoom}
use Rattle.reader.specs.Judged.{WellRead}
use Rattle.reader.specs.Outcomes.{call_small, call_refused, call_tables}
use Rattle.read_text.specs.declared.hand_out.Read.{Read}
use Rattle.read_text.specs.Outcome.{refused, outcome_of}

-- the text reads well: with the places that this was found by
pub record Well (text : List ℕ) : Type 0 where
  pub levels : List ℕ
  pub ids : List ℕ
  pub count : ℕ
  pub is : WellRead text levels ids count

abbrev pub tables_of : List ℕ → List ℕ
tables_of text = numbers_of (slots_of (tags_of text)) (content_of (tags_of text))

abbrev pub slots_in : List ℕ → List ℕ
slots_in text = names_of (slots_of (tags_of text))

pub record HandRoom (text slots : List ℕ) (m : ℕ) (work : List ℕ) (size : ℕ) (names : List ℕ) : Type 0 where
  pub well : Well text
  pub noted : Noted text slots m
  pub slots_are_lem : ids_from text slots m 0 ≡ slots_of (tags_of text)
  pub few : m ≤ 768
  pub room : length names ≡ 49152
  pub there : size ≤ length work
  pub size_is : size ≡ length (tables_of text)
  pub tables_are : take size work ≡ tables_of text

module _ (text slots : List ℕ) (m : ℕ) (work : List ℕ) (size : ℕ) (names : List ℕ) (h : HandRoom text slots m work size names) where
  pub hand_names : NamesRoom text slots m names
  hand_names = let f = h.few in let r = h.room in record { noted = h.noted; room = omega arith }

  slots_long : length (slots_of (tags_of text)) ≡ m
  slots_long = ap length (sym h.slots_are_lem) ∙ ids_length text slots m 0

  pub hand_bytes : length (slots_in text) ≡ m * 64
  hand_bytes = let l = slots_long in names_size_lem (slots_of (tags_of text)) ∙ ap (λ (k : ℕ). k * 64) l

  pub hand_fits : m * 64 < 2 ^ 64
  hand_fits = let f = h.few in omega arith

  module _ (place name_place_is : List ℕ) where
    abbrev fits : Bool
    fits = have_room (tags_of text) (length place) (length name_place_is)

    small : fits ≡ false → (r : Read) → r ≡ refused 1 0 → outcome_of r place name_place_is ≡ call_of text place name_place_is
    small q r e = ap (λ (x : Read). outcome_of x place name_place_is) e ∙ sym (call_small text place name_place_is h.well.levels h.well.ids h.well.count h.well.is q)

    -- too few cells, too few bytes
    pub hand_short : length place < size → (r : Read) → r ≡ refused 1 0 → outcome_of r place name_place_is ≡ call_of text place name_place_is
    unfolding have_room
    hand_short l = small (let s = h.size_is in rw (lt-leb (length (tables_of text)) (length place) (omega arith)) refl)

    pub hand_narrow : length name_place_is < m * 64 → (r : Read) → r ≡ refused 1 0 → outcome_of r place name_place_is ≡ call_of text place name_place_is
    unfolding have_room
    hand_narrow l = small (let s = hand_bytes in rw (lt-leb (length (slots_in text)) (length name_place_is) (omega arith)) (second (leb (length (tables_of text)) (length place))))
      where
        second : (z : Bool) → (z && false) ≡ false
        second true = refl
        second false = refl

    module _ (wide : size ≤ length place) (broad : m * 64 ≤ length name_place_is) where
      has_room : fits ≡ true
      unfolding have_room
      has_room =
          let s = h.size_is in let b = hand_bytes in
          rw (le-leb (length (tables_of text)) (length place) (omega arith), le-leb (length (slots_in text)) (length name_place_is) (omega arith)) refl

      module _ (names' : List ℕ) (laid : names' ≡ names_of (ids_from text slots m 0) ++ drop (m * 64) names) where
        names_are : take (m * 64) names' ≡ slots_in text
        names_are =
            ap (take (m * 64)) (laid ∙ ap (λ (x : List (List ℕ)). names_of x ++ drop (m * 64) names) h.slots_are_lem) ∙ take_at (slots_in text) (drop (m * 64) names) (m * 64) hand_bytes

        names_there : m * 64 ≤ length names'
        names_there =
            let l = ap length (laid ∙ ap (λ (x : List (List ℕ)). names_of x ++ drop (m * 64) names) h.slots_are_lem) in
            let a = length-append (slots_in text) (drop (m * 64) names) in let b = hand_bytes in omega arith

        module _ (a : Answer) (n : ℕ) (judged : a ≡ keeps_rules (take (size - 0) (drop 0 work)) (take (m * 64 - 0) (drop 0 names'))) (number : n ≡ answer_no a) where
          verdict : a ≡ keeps_rules (tables_of text) (slots_in text)
          verdict = judged ∙ ap₂ keeps_rules (ap (λ (k : ℕ). take k work) (sub-zero size) ∙ h.tables_are) (ap (λ (k : ℕ). take k names') (sub-zero (m * 64)) ∙ names_are)
            where
              sub-zero : (k : ℕ) → k - 0 ≡ k
              sub-zero k = omega arith

          pub hand_refused : (n ≡ 0 → ⊥) → (r : Read) → r ≡ refused n 0 → outcome_of r place name_place_is ≡ call_of text place name_place_is
          hand_refused f r e = by n number f e
            where
              by : (k : ℕ) → k ≡ answer_no a → (k ≡ 0 → ⊥) → r ≡ refused k 0 → outcome_of r place name_place_is ≡ call_of text place name_place_is
              by zero q g d = absurd (g refl)
              by (suc k) q g d =
                  ap (λ (x : Read). outcome_of x place name_place_is) d ∙
                  sym (call_refused text place name_place_is h.well.levels h.well.ids h.well.count h.well.is k has_room (sym (q ∙ ap answer_no verdict)))

          pub hand_tables : n ≡ 0 → (place' name_place' : List ℕ) → place' ≡ take size work ++ drop size place → name_place' ≡ take (m * 64) names' ++ drop (m * 64) name_place_is →
              outcome_of (record { answer = 0; offset = 0; cells = size; bytes = m * 64 }) place' name_place' ≡ call_of text place name_place_is
          hand_tables z place' name_place' p q =
              outcome h.size_is (sym hand_bytes) (p ∙ ap₂ (λ (x : List ℕ) (k : ℕ). x ++ drop k place) h.tables_are h.size_is)
              (q ∙ ap₂ (λ (x : List ℕ) (k : ℕ). x ++ drop k name_place_is) names_are (sym hand_bytes)) ∙
              sym (call_tables text place name_place_is h.well.levels h.well.ids h.well.count h.well.is has_room (sym verdict ∙ answer_done a (sym number ∙ z)))
            where
              outcome : {c c' b b' : ℕ} {u u' v v' : List ℕ} → c ≡ c' → b ≡ b' → u ≡ u' → v ≡ v' →
                  ◌≡◌ {A = Outcome} (record { answer = 0; offset = 0; cells = c; bytes = b; numbers = u; names = v }) (record { answer = 0; offset = 0; cells = c'; bytes = b'; numbers = u'; names = v' })
              outcome e1 e2 e3 e4 = cc
