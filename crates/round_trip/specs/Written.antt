-- What a call that writes a chart and answers 0 leaves in the buffer (R-4), and how that reads.
use Rattle.std.specs.Prelude.{◌≡◌, Bool, true, false, ◌&&◌, cond, List, ◌++◌, ℕ, zero, suc, ◌≤◌, leb, length, take, drop}
use Rattle.std.proofs.Math.Path.{refl}
use Rattle.std.proofs.Common.{sym, ap, ◌∙◌, subst, arith, le-leb, leb-true}
use Rattle.definition.specs.declared.Answer.{Answer}
use Rattle.definition.specs.declared.Answer.TheVariants.{Done}
use Rattle.definition.specs.Answers.{answer_no}
use Rattle.definition.specs.Rules.{keeps_rules}
use Rattle.laws.specs.Bools.{and_true, and_left}
use Rattle.laws.specs.Answers.{answer_done}
use Rattle.reading.specs.Layout.{tables, read_of, content}
use Rattle.reading.specs.Print.{print}
use Rattle.writing.specs.Calls.{Outcome, longest, text_of, outcome, judged, call_of}
use Rattle.written.specs.Held.{take_all, drop_all}
use Rattle.written.specs.ReadWhole.{reads_back}
use Rattle.written.specs.Equal.{normal_numbers, normal_names, content_equal}

-- the text that stands in the buffer behind a call
abbrev pub text_in : Outcome → List ℕ
text_in o = take o.length o.buffer

-- ""Equal" means the same rows and transitions after equal names are joined, unused ones dropped and the rest numbered by first use" (4.5)
pub record Equal (numbers names others other_names : List ℕ) : Type 0 where
  pub same_numbers : normal_numbers (content numbers names) ≡ normal_numbers (content others other_names)
  pub same_names : normal_names (content numbers names) ≡ normal_names (content others other_names)

-- ---- what a call does that puts a text

abbrev put : List ℕ → List ℕ → Outcome
put text buffer = record { answer = 0; length = length text; buffer = text ++ drop (length text) buffer }

abbrev fits : List ℕ → List ℕ → Bool
fits text buffer = leb (length text) longest && leb (length text) (length buffer)

chosen : (z : Bool) (text buffer : List ℕ) (n : ℕ) → (cond z (put text buffer) (record { answer = 13; length = n; buffer = buffer })).answer ≡ 0 → z ≡ true
chosen true text buffer n h = refl
chosen false text buffer n h = absurd (let e : ◌≡◌ {A = ℕ} 13 0 = h in omega arith)

outcome_fits : (text buffer : List ℕ) → (outcome text buffer).answer ≡ 0 → fits text buffer ≡ true
unfolding outcome
outcome_fits text buffer h = chosen (fits text buffer) text buffer (cond (leb (length text) longest) (length text) 0) h

outcome_put : (text buffer : List ℕ) → fits text buffer ≡ true → outcome text buffer ≡ put text buffer
unfolding outcome
outcome_put text buffer e = rw e

judged_zero : (n : ℕ) (text buffer : List ℕ) → (judged n text buffer).answer ≡ 0 → (n ≡ 0) × ((outcome text buffer).answer ≡ 0)
judged_zero zero text buffer h = (refl, h)
judged_zero (suc n) text buffer h = absurd (let e : ◌≡◌ {A = ℕ} (suc n) 0 = h in omega arith)

call_is : (numbers names buffer : List ℕ) → call_of numbers names buffer ≡ judged (answer_no (keeps_rules numbers names)) (print (content numbers names)) buffer
unfolding call_of text_of
call_is numbers names buffer = refl

-- what is asked of an accepted chart goes by its text alone
pub accepted_call : (numbers names buffer : List ℕ) → keeps_rules numbers names ≡ Done → call_of numbers names buffer ≡ outcome (print (content numbers names)) buffer
accepted_call numbers names buffer h = call_is numbers names buffer ∙ ap (λ (a : Answer). judged (answer_no a) (print (content numbers names)) buffer) h ∙ done
  where
    done : judged (answer_no Done) (print (content numbers names)) buffer ≡ outcome (print (content numbers names)) buffer
    done = unfold answer_no in refl

-- an accepted chart is written where its text has at most 32,768 bytes and fits the buffer
accepted_put : (numbers names buffer : List ℕ) → keeps_rules numbers names ≡ Done → length (print (content numbers names)) ≤ longest → length (print (content numbers names)) ≤ length buffer →
    call_of numbers names buffer ≡ put (print (content numbers names)) buffer
accepted_put numbers names buffer h l m =
    let text = print (content numbers names) in
    accepted_call numbers names buffer h ∙ outcome_put text buffer (and_true (leb (length text) longest) (leb (length text) (length buffer)) (le-leb (length text) longest l) (le-leb (length text) (length buffer) m))

-- "From an accepted chart write SCXML text" (4.2): every accepted chart can be written. Where its text has at most the reader's 32,768 bytes the call answers 0 for
-- every buffer that is long enough; what it then leaves there says written_text
pub accepted_writes : (numbers names buffer : List ℕ) → keeps_rules numbers names ≡ Done → length (print (content numbers names)) ≤ longest → length (print (content numbers names)) ≤ length buffer → (call_of numbers names buffer).answer ≡ 0
accepted_writes numbers names buffer h l m = ap (λ (o : Outcome). o.answer) (accepted_put numbers names buffer h l m)

-- ---- the text in the buffer

-- "From an accepted chart write SCXML text" (4.2): where the answer is 0 the chart is accepted, its text has at most the reader's 32,768 bytes and stands in the
-- buffer, whose other bytes are as they were
pub record WrittenText (numbers names buffer : List ℕ) : Type 0 where
  pub accepted : keeps_rules numbers names ≡ Done
  pub short : length (print (content numbers names)) ≤ longest
  pub counted : (call_of numbers names buffer).length ≡ length (print (content numbers names))
  pub text : text_in (call_of numbers names buffer) ≡ print (content numbers names)
  pub rest : drop (call_of numbers names buffer).length (call_of numbers names buffer).buffer ≡ drop (call_of numbers names buffer).length buffer

pub written_text : (numbers names buffer : List ℕ) → (call_of numbers names buffer).answer ≡ 0 → WrittenText numbers names buffer
written_text numbers names buffer h =
    let text = print (content numbers names) in
    let z = judged_zero (answer_no (keeps_rules numbers names)) text buffer (ap (λ (o : Outcome). o.answer) (sym (call_is numbers names buffer)) ∙ h) in
    let done = answer_done (keeps_rules numbers names) z.0 in
    let room = outcome_fits text buffer z.1 in
    let is : call_of numbers names buffer ≡ put text buffer = accepted_call numbers names buffer done ∙ outcome_put text buffer room in
    record {
      accepted = done;
      short = leb-true (length text) longest (and_left (leb (length text) longest) (leb (length text) (length buffer)) room);
      counted = ap (λ (o : Outcome). o.length) is;
      text = ap text_in is ∙ take_all text (drop (length text) buffer);
      rest = ap (λ (o : Outcome). drop o.length o.buffer) is ∙ drop_all text (drop (length text) buffer) ∙ ap (λ (n : ℕ). drop n buffer) (sym (ap (λ (o : Outcome). o.length) is));
    }

-- ---- reading it

-- "Reading what was written gives an equal chart" (4.3); "writing twice changes nothing" (4.4): whatever the buffer, the chart that was read is written as the
-- first was, and where the buffer is long enough the same bytes stand in it
pub record WrittenReads (numbers names buffer : List ℕ) : Type 0 where
  pub others : List ℕ
  pub other_names : List ℕ
  pub read : read_of (text_in (call_of numbers names buffer)) ≡ tables others other_names
  pub accepted : keeps_rules others other_names ≡ Done
  pub equal : Equal others other_names numbers names
  pub again : (place : List ℕ) → call_of others other_names place ≡ call_of numbers names place
  pub same : (place : List ℕ) → (call_of numbers names buffer).length ≤ length place → ((call_of others other_names place).answer ≡ 0) × (text_in (call_of others other_names place) ≡ text_in (call_of numbers names buffer))

pub written_reads : (numbers names buffer : List ℕ) → (call_of numbers names buffer).answer ≡ 0 → WrittenReads numbers names buffer
written_reads numbers names buffer h =
    let w = written_text numbers names buffer h in
    let r = reads_back numbers names w.accepted w.short in
    let e = content_equal r.others r.other_names numbers names r.equal in
    let text = print (content numbers names) in
    let again : (place : List ℕ) → call_of r.others r.other_names place ≡ call_of numbers names place =
    λ place. accepted_call r.others r.other_names place r.accepted ∙ ap (λ (t : List ℕ). outcome t place) r.again ∙ sym (accepted_call numbers names place w.accepted) in
    record {
      others = r.others;
      other_names = r.other_names;
      read = ap read_of w.text ∙ r.read;
      accepted = r.accepted;
      equal = record { same_numbers = e.0; same_names = e.1 };
      again = again;
      same =
          λ place l.
          let is : call_of r.others r.other_names place ≡ put text place = again place ∙ accepted_put numbers names place w.accepted w.short (subst (λ (n : ℕ). n ≤ length place) w.counted l) in
          (ap (λ (o : Outcome). o.answer) is, ap text_in is ∙ take_all text (drop (length text) place) ∙ sym w.text);
    }
