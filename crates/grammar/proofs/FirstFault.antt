-- "other text is 12 at the first byte that no text of the grammar has there, at its end or at 32,768, whichever is first" (1.13), as a theorem about
-- every text.
use Rattle.std.specs.Prelude.{◌≡◌, refl, Bool, true, false, cond, List, [], ◌∷◌, ◌++◌, ℕ, zero, suc, ◌≤◌, ◌<◌, length, take}
use Rattle.std.proofs.Common.{sym, ap, subst, ◌∙◌, arith}
use Rattle.grammar.specs.Grammar.{State, next, start, is_dead, is_text, live_bytes, most_bytes, grammar_fault}
use Rattle.grammar.proofs.Viable.{Viable, fault_viable, fault_first}

take-take : (n m : ℕ) (xs : List ℕ) → n ≤ m → take n (take m xs) ≡ take n xs
take-take zero m xs le = refl
take-take (suc n) zero xs le = absurd (omega arith)
take-take (suc n) (suc m) [] le = refl
take-take (suc n) (suc m) (x ∷ xs) le = ap (λ (z : List ℕ). x ∷ z) (take-take n m xs (omega arith))

take_short : (n : ℕ) (xs : List ℕ) → length (take n xs) ≤ n
take_short zero xs = omega arith
take_short (suc n) [] = omega arith
take_short (suc n) (x ∷ xs) = let h = take_short n xs in omega arith

take_inside : (n : ℕ) (xs : List ℕ) → length (take n xs) ≤ length xs
take_inside zero xs = omega arith
take_inside (suc n) [] = omega arith
take_inside (suc n) (x ∷ xs) = let h = take_inside n xs in omega arith

-- a byte of the list below both stands in what is taken
take_holds : (k n : ℕ) (xs : List ℕ) → k < length xs → k < n → k < length (take n xs)
take_holds k zero xs l m = absurd (omega arith)
take_holds k (suc n) [] l m = absurd (omega arith)
take_holds zero (suc n) (x ∷ xs) l m = omega arith
take_holds (suc k) (suc n) (x ∷ xs) l m = let h = take_holds k n xs (omega arith) (omega arith) in omega arith

live_bound : (xs : List ℕ) (s : State) → live_bytes s xs ≤ length xs
unfolding live_bytes
live_bound [] s = omega arith
live_bound (x ∷ xs) s = by (is_dead (next s x)) (live_bound xs (next s x))
  where
    by : (z : Bool) → live_bytes (next s x) xs ≤ length xs → cond z 0 (suc (live_bytes (next s x) xs)) ≤ suc (length xs)
    by true h = omega arith
    by false h = omega arith

pub record FirstFault (text : List ℕ) : Type 0 where
  -- it stands at the text's end or at 32,768 at the latest
  pub in_text_lem : grammar_fault text ≤ length text
  pub in_most : grammar_fault text ≤ most_bytes
  -- some text of the grammar begins with all that stands before it
  pub viable : Viable (take (grammar_fault text) text)
  -- and none with one byte more, if there is one below 32,768
  pub first : (ws : List ℕ) → grammar_fault text < length text → grammar_fault text < most_bytes → is_text (take (suc (grammar_fault text)) text ++ ws) ≡ false

pub fault_place : (text : List ℕ) → FirstFault text
unfolding grammar_fault
fault_place text =
    let xs = take most_bytes text in
    let n = live_bytes start xs in
    let bound : n ≤ length xs = live_bound xs start in
    let short : length xs ≤ most_bytes = take_short most_bytes text in
    let inside : length xs ≤ length text = take_inside most_bytes text in
    record {
      in_text_lem = omega arith;
      in_most = omega arith;
      viable = subst Viable (take-take n most_bytes text (omega arith)) (fault_viable xs);
      first = λ (ws : List ℕ) (l : n < length text) (m : n < most_bytes).
          ap (λ (z : List ℕ). is_text (z ++ ws)) (sym (take-take (suc n) most_bytes text (omega arith))) ∙ fault_first xs ws (take_holds n most_bytes text l m);
    }
