-- A pass over the text: what is left of the definition equals the whole.
use Rattle.std.proofs.Math.Path.{◌≡◌, refl, sym, ap}
use Rattle.std.proofs.Common.{◌∙◌, add-one, drop_of_length-le, drop-cons, get_or-take, le-leb}
use Rattle.std.specs.Prelude.{Bool, ◌&&◌, cond, eqb, leb, length, get_or, take, drop}
use Rattle.std.proofs.Math.Bool.{true, false}
use mathlib.Core.List.{List, [], ◌∷◌}
use Prim.Native.Nat.{ℕ, suc, ◌+◌, ◌≤◌, ◌<◌}
use native.Mathlib.Omega.{arith}
use Rattle.std.proofs.Math.ListN.{length-take}
use Rattle.grammar.specs.declared.Place.{Place}
use Rattle.markup.specs.declared.Fault.{Fault}
use Rattle.std.specs.declared.result.Result.{Result}
use Rattle.std.specs.declared.result.Result.TheVariants.{Ok, Err}
use Rattle.grammar.specs.Grammar.{State, dead, live, next, run, start, is_content, accepts, is_text, is_dead, live_bytes, grammar_fault, in_grammar}

pub record Reached (text : List ℕ) (i : ℕ) (s : State) : Type 0 where
  pub counted : live_bytes start (take 32768 text) ≡ i + live_bytes s (drop i (take 32768 text))
  pub judged : is_text text ≡ accepts (run s (drop i text))

pub reached_start : (text : List ℕ) → Reached text 0 start
unfolding is_text
reached_start text = record { counted = plus (live_bytes start (take 32768 text)); judged = refl }
  where
    plus : (n : ℕ) → n ≡ 0 + n
    plus n = omega arith

module _ (text : List ℕ) (i : ℕ) (s : State) (r : Reached text i s) where
  long : i < length text → i < 32768 → i < length (take 32768 text)
  long h l = simp length-take (omega arith)

  at_i : i < length text → i < 32768 → drop i (take 32768 text) ≡ get_or text i 0 ∷ drop (i + 1) (take 32768 text)
  at_i h l = drop-cons (take 32768 text) i 0 (long h l) ∙ rw (add-one i) (ap (λ (b : ℕ). b ∷ drop (suc i) (take 32768 text)) (get_or-take 32768 text i 0 l))

  text_at : i < length text → drop i text ≡ get_or text i 0 ∷ drop (i + 1) text
  text_at h = drop-cons text i 0 h ∙ ap (λ (n : ℕ). get_or text i 0 ∷ drop n text) (sym (add-one i))

  pub reached_more : i < length text → i < 32768 → is_dead (next s (get_or text i 0)) ≡ false → Reached text (i + 1) (next s (get_or text i 0))
  unfolding live_bytes run
  reached_more h l e =
      record {
        counted = r.counted ∙ ap (λ (n : ℕ). i + n) (ap (live_bytes s) (at_i h l) ∙ rw e) ∙ shift i (live_bytes (next s (get_or text i 0)) (drop (i + 1) (take 32768 text)));
        judged = r.judged ∙ ap (λ (l : List ℕ). accepts (run s l)) (text_at h);
      }
    where
      shift : (a n : ℕ) → a + suc n ≡ a + 1 + n
      shift a n = omega arith

  pub dead_at : i < length text → i < 32768 → is_dead (next s (get_or text i 0)) ≡ true → i ≡ grammar_fault text
  unfolding live_bytes grammar_fault
  dead_at h l e = sym (r.counted ∙ ap (λ (n : ℕ). i + n) (ap (live_bytes s) (at_i h l) ∙ rw e) ∙ plus i)
    where
      plus : (a : ℕ) → a + 0 ≡ a
      plus a = omega arith

  dies : (z : State) (xs : List ℕ) → is_dead z ≡ true → accepts (run z xs) ≡ false
  unfolding run accepts next
  dies dead [] e = refl
  dies dead (x ∷ xs) e = dies dead xs refl
  dies (live p t st) xs e = absurd (let z : ◌≡◌ {A = ℕ} 0 1 = cc in omega arith)

  pub dead_not : i < length text → is_dead (next s (get_or text i 0)) ≡ true → false ≡ in_grammar text
  unfolding in_grammar run
  dead_not h e = sym (rw (r.judged ∙ ap (λ (l : List ℕ). accepts (run s l)) (text_at h) ∙ dies (next s (get_or text i 0)) (drop (i + 1) text) e) (and_false (leb (length text) 32768)))
    where
      and_false : (b : Bool) → (b && false) ≡ false
      and_false true = refl
      and_false false = refl

  pub end_at : length text ≤ i → i ≤ 32768 → i ≡ grammar_fault text
  unfolding live_bytes grammar_fault
  end_at h u = sym (r.counted ∙ ap (λ (xs : List ℕ). i + live_bytes s xs) (drop_of_length-le (take 32768 text) {i = i} (simp length-take (omega arith))) ∙ plus i)
    where
      plus : (a : ℕ) → a + 0 ≡ a
      plus a = omega arith

  pub end_whole : (w : Bool) → length text ≤ i → i ≤ 32768 → w ≡ accepts s → w ≡ in_grammar text
  unfolding in_grammar run
  end_whole w h u e = e ∙ sym (rw (le-leb (length text) 32768 (omega arith), r.judged) (ap (λ (l : List ℕ). accepts (run s l)) (drop_of_length-le text h)))

-- a text is of the grammar, and then no byte of it is a fault; or the first fault stands at an offset
abbrev pub Found : List ℕ → Result (Unit {0}) Fault → Type 0
Found text (Ok u) = (length text ≡ grammar_fault text) × (true ≡ in_grammar text)
Found text (Err f) = (f.at ≡ grammar_fault text) × (false ≡ in_grammar text)

-- what is known once the bytes before i are read, of n
unfoldable pub finished : ℕ → Place → ℕ → ℕ → Result (Unit {0}) Fault
finished n p t i = cond (leb n i && is_content p && eqb t 1) (Ok (tt {0})) (Err (record { at = i }))
