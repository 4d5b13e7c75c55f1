-- How long the names of elements are.
use Rattle.std.specs.Prelude.{◌≡◌, refl, Bool, true, false, not, ◌||◌, cond, List, [], ◌∷◌, ℕ, zero, suc, ◌+◌, ◌*◌, ◌≤◌, ◌<◌, eqb, leb, length, get_or, drop}
use Rattle.std.proofs.Common.{sym, ap, subst, ◌∙◌, arith, get_or-drop, leb-true, leb-false, eqb-true, eq-eqb}
use Rattle.std.proofs.lemmas.Bool.{lt-leb, eqb-false}
use Rattle.grammar.specs.Tables.{words}
use Rattle.grammar.specs.Grammar.{word_byte}
use Rattle.grammar.specs.Words.{AllBelow, each, until_zero}

-- the bytes of a word
unfoldable pub word_size : ℕ → ℕ
word_size w = length (until_zero (drop (w * 11) words))

zero_at : (xs : List ℕ) (k : ℕ) → get_or xs k 0 ≡ 0 → length (until_zero xs) ≤ k
unfolding until_zero
zero_at [] k e = omega arith
zero_at (b ∷ bs) k e = by (eqb b 0) refl (λ n f. zero_at bs n f) k e
  where
    by : (z : Bool) → eqb b 0 ≡ z → ((n : ℕ) → get_or bs n 0 ≡ 0 → length (until_zero bs) ≤ n) → (k : ℕ) → get_or (b ∷ bs) k 0 ≡ 0 → length (cond z [] (b ∷ until_zero bs)) ≤ k
    by true q r k e = omega arith
    by false q r zero e = absurd (eqb-false b 0 q e)
    by false q r (suc k) e = let h = r k e in omega arith

word_ended : (w k : ℕ) → word_byte w k ≡ 0 → word_size w ≤ k
unfolding word_size word_byte
word_ended w k e = zero_at (drop (w * 11) words) k (get_or-drop (w * 11) words k 0 ∙ e)

-- the elements are the first 17 words; no text comes to another, so it may count for as long as is wanted
abbrev pub is_known : ℕ → Bool
is_known e = leb e 16

unfoldable pub name_size : ℕ → ℕ
name_size e = cond (is_known e) (word_size e) 3

-- what a name that ends behind k bytes may count for besides them
abbrev pub spare : ℕ → ℕ
spare e = cond (is_known e) 0 3

pub name_ended : (e k : ℕ) → word_byte e k ≡ 0 → name_size e ≤ k + spare e
unfolding name_size
name_ended e k h = by (is_known e) (word_ended e k h)
  where
    by : (z : Bool) → word_size e ≤ k → cond z (word_size e) 3 ≤ k + cond z 0 3
    by true l = omega arith
    by false l = omega arith

pub spare_none : (e : ℕ) → is_known e ≡ true → spare e ≡ 0
spare_none e h = ap (λ (z : Bool). cond z 0 3) h

-- ---- each of them

abbrev Long : ℕ → Type 0
Long e = (eqb e 12 || leb 3 (name_size e)) ≡ true

longs : AllBelow Long 17
unfolding AllBelow name_size word_size until_zero words
longs = (((((((((((((((((refl, refl), refl), refl), refl), refl), refl), refl), refl), refl), refl), refl), refl), refl), refl), refl), refl), refl)

known_below : (e : ℕ) → is_known e ≡ true → e < 17
known_below e h = let l = leb-true e 16 h in omega arith

-- if is the only one of two bytes
pub name_long : (e : ℕ) → eqb e 12 ≡ false → 3 ≤ name_size e
unfolding name_size
name_long e h = by (is_known e) refl
  where
    known : is_known e ≡ true → leb 3 (name_size e) ≡ true
    known k = ap (λ (z : Bool). z || leb 3 (name_size e)) (sym h) ∙ each Long 17 longs e (known_below e k)

    by : (z : Bool) → is_known e ≡ z → 3 ≤ cond (is_known e) (word_size e) 3
    by true k = leb-true 3 (name_size e) (known k)
    by false k = subst (λ (z : Bool). 3 ≤ cond z (word_size e) 3) (sym k) (omega arith)

pub if_size : name_size 12 ≡ 2
unfolding name_size word_size until_zero words
if_size = refl

transition_size : name_size 6 ≡ 10
unfolding name_size word_size until_zero words
transition_size = refl

default_size : name_size 11 ≡ 10
unfolding name_size word_size until_zero words
default_size = refl

pub transition_long : (e : ℕ) → (eqb e 6 || eqb e 11) ≡ true → 10 ≤ name_size e
transition_long e h = by (eqb e 6) refl h
  where
    by : (z : Bool) → eqb e 6 ≡ z → (z || eqb e 11) ≡ true → 10 ≤ name_size e
    by true q g = let s = transition_size in let i = ap name_size (eqb-true e 6 q) in omega arith
    by false q g = let s = default_size in let i = ap name_size (eqb-true e 11 g) in omega arith

abbrev RowLong : ℕ → Type 0
RowLong e = leb 5 (name_size e) ≡ true

rows_long : AllBelow RowLong 5
unfolding AllBelow name_size word_size until_zero words
rows_long = (((((refl, refl), refl), refl), refl), refl)

-- the names of rows
pub row_long : (e : ℕ) → leb e 4 ≡ true → 5 ≤ name_size e
row_long e h = let l = leb-true e 4 h in leb-true 5 (name_size e) (each RowLong 5 rows_long e (omega arith))

pub name_two : (e : ℕ) → 2 ≤ name_size e
name_two e = by (eqb e 12) refl
  where
    by : (z : Bool) → eqb e 12 ≡ z → 2 ≤ name_size e
    by true q = let s = if_size in let i = ap name_size (eqb-true e 12 q) in omega arith
    by false q = let l = name_long e q in omega arith
