-- "Where 13 is not given, two documents read to equal charts exactly when they are written alike" (R-4, 4.4), of the texts that stand in the buffers.
use Rattle.std.specs.Prelude.{◌≡◌, refl, Bool, true, false, ◌&&◌, cond, List, ℕ, leb, length}
use Rattle.std.proofs.Common.{sym, ap, ◌∙◌}
use Rattle.definition.specs.declared.Answer.TheVariants.{Done}
use Rattle.definition.specs.Rules.{keeps_rules}
use Rattle.reading.specs.Layout.{tables, read_of, content}
use Rattle.reading.specs.Print.{print}
use Rattle.writing.specs.Calls.{Outcome, longest, outcome, call_of}
use Rattle.written.specs.Accepted.{alike}
use Rattle.written.specs.Documents.{read_accepted}
use Rattle.written.specs.Equal.{equal_content, content_equal}
use Rattle.round_trip.specs.Written.{text_in, Equal, accepted_call, written_text}

-- two charts, each written into a buffer of its own: they are equal exactly when the same text stands in both
pub record WrittenAlike (numbers names first others other_names second : List ℕ) : Type 0 where
  pub equal_alike : Equal numbers names others other_names → text_in (call_of numbers names first) ≡ text_in (call_of others other_names second)
  pub alike_equal : text_in (call_of numbers names first) ≡ text_in (call_of others other_names second) → Equal numbers names others other_names

-- of any two charts that are written, whether texts gave them or not (4.4, 4.5)
pub charts_written_alike : (numbers names first others other_names second : List ℕ) → (call_of numbers names first).answer ≡ 0 → (call_of others other_names second).answer ≡ 0 → WrittenAlike numbers names first others other_names second
charts_written_alike numbers names first others other_names second h k =
    let v = written_text numbers names first h in
    let w = written_text others other_names second k in
    record {
      equal_alike =
          λ e. v.text ∙ ap print (equal_content numbers names others other_names v.accepted w.accepted e.same_numbers e.same_names) ∙ sym w.text;
      alike_equal =
          λ t.
          let e = content_equal numbers names others other_names (alike numbers names others other_names v.accepted w.accepted (sym v.text ∙ t ∙ w.text)) in
          record { same_numbers = e.0; same_names = e.1 };
    }

-- an accepted chart is written or gets 13
one_of : (z : Bool) (x y : Outcome) → x.answer ≡ 0 → y.answer ≡ 13 → ((cond z x y).answer ≡ 13 → ⊥) → (cond z x y).answer ≡ 0
one_of true x y e f n = e
one_of false x y e f n = absurd (n f)

outcome_written : (text buffer : List ℕ) → ((outcome text buffer).answer ≡ 13 → ⊥) → (outcome text buffer).answer ≡ 0
unfolding outcome
outcome_written text buffer n = one_of (leb (length text) longest && leb (length text) (length buffer)) _ _ refl refl n

accepted_written : (numbers names buffer : List ℕ) → keeps_rules numbers names ≡ Done → ((call_of numbers names buffer).answer ≡ 13 → ⊥) → (call_of numbers names buffer).answer ≡ 0
accepted_written numbers names buffer h n =
    let e : (call_of numbers names buffer).answer ≡ (outcome (print (content numbers names)) buffer).answer = ap (λ (o : Outcome). o.answer) (accepted_call numbers names buffer h) in
    e ∙ outcome_written (print (content numbers names)) buffer (λ k. n (e ∙ k))

-- "Where 13 is not given, two documents read to equal charts exactly when they are written alike" (4.4)
pub documents_written_alike : (a b numbers names first others other_names second : List ℕ) → read_of a ≡ tables numbers names → read_of b ≡ tables others other_names →
    ((call_of numbers names first).answer ≡ 13 → ⊥) → ((call_of others other_names second).answer ≡ 13 → ⊥) → WrittenAlike numbers names first others other_names second
documents_written_alike a b numbers names first others other_names second r s h k =
    charts_written_alike numbers names first others other_names second
    (accepted_written numbers names first (read_accepted a numbers names r) h) (accepted_written others other_names second (read_accepted b others other_names s) k)
