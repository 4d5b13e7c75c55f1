-- What the call answers, by what is found on the way: a fault, too small a place, a rule that is broken, or none of them.
use Rattle.std.specs.Prelude.{◌≡◌, Bool, List, ◌++◌, ℕ, zero, suc, length, drop}
use Rattle.std.proofs.Math.Path.{refl, ap}
use Rattle.std.proofs.Common.{◌∙◌}
use Rattle.std.proofs.Math.Bool.{true, false, cond}
use Rattle.std.proofs.Math.Option.{Option}
use Rattle.definition.specs.declared.Answer.TheVariants.{Done, Size}
use Rattle.definition.specs.Rules.{keeps_rules}
use Rattle.definition.specs.Answers.{answer_no}
use Rattle.grammar.specs.Grammar.{grammar_fault}
use Rattle.reading.specs.Tags.{tags_of}
use Rattle.reading.specs.Faults.{first_fault}
use Rattle.reading.specs.Content.{content_of, slots_of}
use Rattle.reading.specs.Layout.{numbers_of, names_of, Reading, faulty, refused, tables, judged, meaning, searched, read_of}
use Rattle.reading.specs.Calls.{have_room, confined, read_into, Outcome, outcome, call_of}
use Rattle.reader.specs.Judged.{WellRead}

-- a refusal leaves both places as they were
abbrev pub refusal : ℕ → ℕ → List ℕ → List ℕ → Outcome
refusal a at place name_place_is = record { answer = a; offset = at; cells = 0; bytes = 0; numbers = place; names = name_place_is }

module _ (text place name_place_is : List ℕ) where
  abbrev fits : Bool
  fits = have_room (tags_of text) (length place) (length name_place_is)

  by_reading : (r : Reading) (z : Bool) → read_of text ≡ r → fits ≡ z → call_of text place name_place_is ≡ outcome (confined z r) place name_place_is
  unfolding call_of read_into
  by_reading r z e q = ap (λ (x : Reading). outcome (confined fits x) place name_place_is) e ∙ ap (λ (x : Bool). outcome (confined x r) place name_place_is) q

  pub call_faulty : (at : ℕ) → read_of text ≡ faulty at → call_of text place name_place_is ≡ refusal 12 at place name_place_is
  call_faulty at e = by_reading (faulty at) fits e refl

  module _ (levels ids : List ℕ) (n : ℕ) (w : WellRead text levels ids n) where
    abbrev numbers : List ℕ
    numbers = numbers_of (slots_of (tags_of text)) (content_of (tags_of text))

    abbrev names : List ℕ
    names = names_of (slots_of (tags_of text))

    well : (k : ℕ) → answer_no (keeps_rules numbers names) ≡ k → read_of text ≡ judged k numbers names
    unfolding read_of meaning
    well k e =
        ap (λ (z : Bool). cond z (searched (first_fault (tags_of text)) (tags_of text)) (faulty (grammar_fault text))) w.is_text_lem ∙
        ap (λ (o : Option ℕ). searched o (tags_of text)) w.no_fault ∙ ap (λ (j : ℕ). judged j numbers names) e

    small : (k : ℕ) → outcome (confined false (judged k numbers names)) place name_place_is ≡ refusal 1 0 place name_place_is
    small zero = refl
    small (suc k) = refl

    -- "the place lent .. of the size": 1, whatever rules 2 to 5 say
    pub call_small : have_room (tags_of text) (length place) (length name_place_is) ≡ false → call_of text place name_place_is ≡ refusal 1 0 place name_place_is
    call_small q = let k = answer_no (keeps_rules numbers names) in by_reading (judged k numbers names) false (well k refl) q ∙ small k

    -- "one of more than rule 1 allows gets 1", whatever the places are
    pub call_size : keeps_rules numbers names ≡ Size → call_of text place name_place_is ≡ refusal 1 0 place name_place_is
    unfolding answer_no
    call_size e = by fits refl
      where
        by : (z : Bool) → fits ≡ z → call_of text place name_place_is ≡ refusal 1 0 place name_place_is
        by true q = by_reading (refused 1) true (well 1 (ap answer_no e)) q
        by false q = by_reading (refused 1) false (well 1 (ap answer_no e)) q

    pub call_refused : (k : ℕ) → have_room (tags_of text) (length place) (length name_place_is) ≡ true → answer_no (keeps_rules numbers names) ≡ suc k →
        call_of text place name_place_is ≡ refusal (suc k) 0 place name_place_is
    call_refused k q e = by_reading (refused (suc k)) true (well (suc k) e) q

    pub call_tables : have_room (tags_of text) (length place) (length name_place_is) ≡ true → keeps_rules numbers names ≡ Done →
        call_of text place name_place_is ≡
        record { answer = 0; offset = 0; cells = length numbers; bytes = length names; numbers = numbers ++ drop (length numbers) place; names = names ++ drop (length names) name_place_is }
    unfolding answer_no
    call_tables q e = by_reading (tables numbers names) true (well 0 (ap answer_no e)) q
