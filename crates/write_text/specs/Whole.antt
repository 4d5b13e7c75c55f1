-- The whole call: measured, judged, laid.
use Rattle.std.specs.Prelude.{◌≡◌, List, [], ◌∷◌, ◌++◌, ℕ, zero, suc, ◌+◌, ◌≤◌, ◌<◌, leb, drop, set}
use Rattle.std.proofs.Math.Path.{refl, sym, ap}
use Rattle.std.proofs.Common.{◌∙◌, add-one}
use native.Mathlib.Omega.{arith}
use Rattle.std.proofs.Math.ListN.{length}
use Rattle.std.proofs.lemmas.List.Edits.{sets, sets-eq}
use borrow.Author.Tests.{leb-true, leb-false, le-leb, lt-leb, lt-ltb}
use Rattle.laws.specs.Bools.{bool_case}
use Rattle.laws.specs.Answers.{answer_done}
use Rattle.definition.specs.declared.Answer.{Answer}
use Rattle.definition.specs.Rules.{keeps_rules}
use Rattle.definition.specs.Answers.{answer_no}
use Rattle.reading.specs.Layout.{content}
use Rattle.reading.specs.Print.{print}
use Rattle.writing.specs.Calls.{Outcome, text_of, outcome, judged, call_of}
use Rattle.spell.specs.Laid.{longest, put, step, laid, after, Laid}
use Rattle.spell.specs.Ready.{Ready, ready}
use Rattle.write_text.specs.declared.Written.{Written}

abbrev pub outcome_of : Written → List ℕ → Outcome
outcome_of w buffer = record { answer = w.answer; length = w.length; buffer = buffer }

-- ---- where a text ends, and what then lies there

step_on : (at : ℕ) → at ≤ longest → step at ≡ suc at
unfolding step
step_on at l = rw (le-leb at longest l) (add-one at)

step_past : (at : ℕ) → longest < at → step at ≡ at
unfolding step
step_past at l = rw (lt-leb at longest l)

end_at : (text : List ℕ) (at : ℕ) → at + length text ≤ suc longest → after text at ≡ at + length text
unfolding after
end_at [] at l = omega arith
end_at (b ∷ bs) at l = ap (after bs) (step_on at (omega arith)) ∙ end_at bs (suc at) (omega arith) ∙ moved at (length bs)
  where
    moved : (x y : ℕ) → suc x + y ≡ x + suc y
    moved x y = omega arith

end_past : (text : List ℕ) (at : ℕ) → at ≤ suc longest → suc longest ≤ at + length text → longest < after text at
unfolding after
end_past [] at l m = omega arith
end_past (b ∷ bs) at l m =
    bool_case (leb at longest)
    (λ e. let k : at ≤ longest = leb-true at longest e in let s = step_on at k in rw s (end_past bs (suc at) (omega arith) (omega arith)))
    (λ e. let k : longest < at = leb-false at longest e in let s = step_past at k in rw s (end_past bs at l (omega arith)))

laid_sets : (text place : List ℕ) (at : ℕ) → at + length text ≤ longest → laid text place at ≡ sets place at text
unfolding laid put
laid_sets [] place at l = refl
laid_sets (b ∷ bs) place at l = rw (lt-ltb at longest (omega arith), step_on at (omega arith)) (laid_sets bs (set place at b) (suc at) (omega arith))

laid_front : (text place : List ℕ) → length text ≤ longest → length text ≤ length place → laid text place 0 ≡ text ++ drop (length text) place
laid_front text place l m =
    laid_sets text place 0 (omega arith) ∙ sets-eq text place 0 (omega arith) ∙ ap (λ (k : ℕ). text ++ drop k place) (zero_more (length text))
  where
    zero_more : (k : ℕ) → 0 + k ≡ k
    zero_more k = omega arith

-- ---- what is answered

outcome_is : {a a' n n' : ℕ} {b b' : List ℕ} → a ≡ a' → n ≡ n' → b ≡ b' → ◌≡◌ {A = Outcome} (record { answer = a; length = n; buffer = b }) (record { answer = a'; length = n'; buffer = b' })
outcome_is e f g = cc

-- the writer's answer and length
pub record Answers (w : Written) (answer many : ℕ) : Type 0 where
  pub answer_is : w.answer ≡ answer
  pub length_is : w.length ≡ many

module _ (numbers names buffer : List ℕ) (a : Answer) (judged_as : a ≡ keeps_rules numbers names) (n : ℕ) (number : n ≡ answer_no a) where
  abbrev text : List ℕ
  text = print (content numbers names)

  call_is : (k : ℕ) → k ≡ n → call_of numbers names buffer ≡ judged k (text_of numbers names) buffer
  unfolding call_of
  call_is k e = ap (λ (m : ℕ). judged m (text_of numbers names) buffer) (sym (e ∙ number ∙ ap answer_no judged_as))

  pub write_refused : (n ≡ 0 → ⊥) → (w : Written) → Answers w n 0 → outcome_of w buffer ≡ call_of numbers names buffer
  write_refused d w i = by n refl d i.answer_is
    where
      by : (k : ℕ) → k ≡ n → (k ≡ 0 → ⊥) → w.answer ≡ k → outcome_of w buffer ≡ call_of numbers names buffer
      by zero e f q = absurd (f refl)
      by (suc k) e f q = outcome_is q i.length_is refl ∙ sym (call_is (suc k) e)

  module _ (z : n ≡ 0) where
    pub write_ready : Ready numbers names
    write_ready = ready numbers names (sym judged_as ∙ answer_done a (sym number ∙ z))

    whole : call_of numbers names buffer ≡ outcome text buffer
    unfolding text_of
    whole = call_is 0 (sym z)

    module _ (nothing out : List ℕ) (many : ℕ) (m : Laid (print (content numbers names)) nothing 0 out many) where
      short : many ≤ longest → many ≡ length text
      short l =
          bool_case (leb (length text) longest)
          (λ e. let k : length text ≤ longest = leb-true (length text) longest e in m.next ∙ end_at text 0 (omega arith) ∙ zero_more (length text))
          (λ e. let k : longest < length text = leb-false (length text) longest e in let p = end_past text 0 (omega arith) (omega arith) in let q = m.next in absurd (omega arith))
        where
          zero_more : (k : ℕ) → 0 + k ≡ k
          zero_more k = omega arith

      long : longest < many → longest < length text
      long l =
          bool_case (leb (length text) longest)
          (λ e. let k : length text ≤ longest = leb-true (length text) longest e in let p = end_at text 0 (omega arith) in let q = m.next in absurd (omega arith))
          (λ e. leb-false (length text) longest e)

      pub write_long : longest < many → (w : Written) → Answers w 13 0 → outcome_of w buffer ≡ call_of numbers names buffer
      unfolding outcome
      write_long l w i = outcome_is i.answer_is i.length_is refl ∙ sym (whole ∙ rw (lt-leb (length text) longest (long l)))

      module _ (l : many ≤ longest) where
        fits : length text ≤ longest
        fits = let s = short l in omega arith

        pub write_small : length buffer < many → (w : Written) → Answers w 13 many → outcome_of w buffer ≡ call_of numbers names buffer
        unfolding outcome
        write_small b w i =
            let s = short l in
            outcome_is i.answer_is (i.length_is ∙ s) refl ∙ sym (whole ∙ rw (le-leb (length text) longest fits, lt-leb (length text) (length buffer) (omega arith)))

        pub write_done : many ≤ length buffer → (buffer' : List ℕ) (end : ℕ) → Laid (print (content numbers names)) buffer 0 buffer' end → (w : Written) → Answers w 0 end → outcome_of w buffer' ≡ call_of numbers names buffer
        unfolding outcome
        write_done b buffer' end p w i =
            let s = short l in
            let f : length text ≤ length buffer = omega arith in
            outcome_is i.answer_is (i.length_is ∙ p.next ∙ end_at text 0 (let g = fits in omega arith) ∙ zero_more (length text)) (p.is ∙ laid_front text buffer fits f) ∙
            sym (whole ∙ rw (le-leb (length text) longest fits, le-leb (length text) (length buffer) f))
          where
            zero_more : (k : ℕ) → 0 + k ≡ k
            zero_more k = omega arith
