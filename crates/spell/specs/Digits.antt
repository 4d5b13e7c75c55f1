-- A number in decimal, spelt from its last digit on into the end of ten places.
use Rattle.std.specs.Prelude.{◌≡◌, cond, List, [], ◌∷◌, ◌++◌, ℕ, suc, ◌+◌, ◌-◌, ◌/◌, ◌%◌, ◌≤◌, ◌<◌, leb, length, take, drop, set, replicate}
use Rattle.std.proofs.Math.Path.{refl}
use Rattle.std.proofs.Common.{sym, ap, subst, ◌∙◌, append_assoc, append-nil, arith, length-drop, length-set, take_all, drop_at, length-take-le, le-leb}
use Rattle.std.proofs.lemmas.List.{set_split}
use Rattle.std.proofs.lemmas.Bool.{lt-leb}
use Rattle.reading.specs.Print.{digits, number}
use Rattle.spell.specs.Laid.{Laid, laid_as}

-- the digits from place i on are spelt; m is what is left of the number before them
pub record Spelling (n : ℕ) (place₀ place spelt : List ℕ) (m i : ℕ) : Type 0 where
  pub kept : place ≡ place₀
  pub size : length spelt ≡ 10
  pub low : i ≤ 10
  pub left : number n ≡ digits i m ++ drop i spelt

pub spell_begin : (n : ℕ) (place : List ℕ) → Spelling n place place (replicate 10 0) n 10
spell_begin n place = record { kept = refl; size = refl; low = omega arith; left = sym (append-nil (digits 10 n)) }

one_more : (spelt : List ℕ) (j d : ℕ) → j < length spelt → drop j (set spelt j d) ≡ d ∷ drop (suc j) spelt
one_more spelt j d l = ap (drop j) (set_split spelt j d l) ∙ drop_at (take j spelt) (d ∷ drop (suc j) spelt) j (length-take-le j spelt (omega arith))

module _ (n : ℕ) (place₀ place spelt : List ℕ) (m i : ℕ) (h : Spelling n place₀ place spelt m i) where
  pub spell_in : 0 < i → i - 1 < length spelt
  spell_in l = let s = h.size in let w = h.low in omega arith

  module _ (l : 0 < i) (d : ℕ) (e : d ≡ 48 + m % 10) where
    more : digits i m ++ drop i spelt ≡ cond (leb m 9) ((48 + m) ∷ []) (digits (i - 1) (m / 10) ++ (48 + m % 10) ∷ []) ++ drop i spelt
    more = ap (λ (k : ℕ). digits k m ++ drop i spelt) (let q : i ≡ suc (i - 1) = omega arith in q) ∙ unfold digits in refl

    laid_on : drop (i - 1) (set spelt (i - 1) d) ≡ d ∷ drop i spelt
    laid_on = let s = h.size in let w = h.low in let q : suc (i - 1) ≡ i = omega arith in one_more spelt (i - 1) d (omega arith) ∙ ap (λ (k : ℕ). d ∷ drop k spelt) q

    pub spell_long : 10 ≤ length (set spelt (i - 1) d)
    spell_long = let s = h.size in let t = length-set spelt (i - 1) d in omega arith

    all_taken : take (10 - (i - 1)) (drop (i - 1) (set spelt (i - 1) d)) ≡ drop (i - 1) (set spelt (i - 1) d)
    all_taken =
        let s = h.size in let t = length-set spelt (i - 1) d in let u = length-drop (i - 1) (set spelt (i - 1) d) in
        take_all (10 - (i - 1)) (drop (i - 1) (set spelt (i - 1) d)) (omega arith)

    pub spell_last : m ≤ 9 → (out : List ℕ) (from at : ℕ) → Laid (take (10 - (i - 1)) (drop (i - 1) (set spelt (i - 1) d))) place from out at → Laid (number n) place₀ from out at
    spell_last b out from at p =
        subst (λ (x : List ℕ). Laid (number n) x from out at) h.kept
        (laid_as (h.left ∙ more ∙ rw (le-leb m 9 b) (let q : 48 + m ≡ d = omega arith in ap (λ (x : ℕ). x ∷ drop i spelt) q ∙ sym laid_on) ∙ sym all_taken) p)

    pub spell_turn : 9 < m → Spelling n place₀ place (set spelt (i - 1) d) (m / 10) (i - 1)
    spell_turn b =
        let w = h.low in
        record {
          kept = h.kept;
          size = length-set spelt (i - 1) d ∙ h.size;
          low = omega arith;
          left = h.left ∙ more ∙ rw (lt-leb m 9 b) (append_assoc (digits (i - 1) (m / 10)) ((48 + m % 10) ∷ []) (drop i spelt) ∙ ap (λ (x : List ℕ). digits (i - 1) (m / 10) ++ x) (ap (λ (x : ℕ). x ∷ drop i spelt) (sym e) ∙ sym laid_on));
        }

  none_left : digits 0 m ++ drop 0 spelt ≡ spelt
  unfolding digits
  none_left = refl

  pub spell_end : i ≤ 0 → (out : List ℕ) (from at : ℕ) → Laid spelt place from out at → Laid (number n) place₀ from out at
  spell_end z out from at p =
      subst (λ (x : List ℕ). Laid (number n) x from out at) h.kept
      (laid_as (h.left ∙ ap (λ (k : ℕ). digits k m ++ drop k spelt) (let q : i ≡ 0 = omega arith in q) ∙ none_left) p)
