-- The members of a set, word by word.
use Rattle.std.specs.Prelude.{◌≡◌, Bool, true, false, ◌&&◌, ◌||◌, cond, List, [], ◌∷◌, eqb, ltb}
use Rattle.std.proofs.Math.Path.{refl, sym, ap}
use Rattle.std.proofs.Common.{ap₂, ◌∙◌, arith, eqb-true, eq-eqb, ne_eqb, lt-ltb, le-ltb, lit<}
use Prim.Native.Nat.{ℕ, zero, suc, ◌+◌, ◌-◌, ◌*◌, ◌/◌, ◌%◌, ◌^◌, ◌≤◌, ◌<◌}
use Rattle.std.proofs.lemmas.Bool.{eqb-false}
use Rattle.definition.specs.Rows.{mem}
use Rattle.definition.specs.Compiled.{word}
use Rattle.laws.specs.Bools.{and_false, both_ways}
use Rattle.laws.specs.Sets.{Ascends, mem_low}
use Rattle.laws.specs.Orders.{lt_case}
use Rattle.rowset.specs.declared.RowSet.{RowSet}
use Rattle.rowset.specs.Member.{bit, word_of, member, Fitting}
use Rattle.rowset.specs.Bits.{bit_zero, bit_past, bit_add, bits_same}

-- ---- a row is a bit of a word

-- a word is 0 from the fourth on
pub word_past : (s : RowSet) (q : ℕ) → 4 ≤ q → word_of s q ≡ 0
unfolding word_of
word_past s zero h = absurd (omega arith)
word_past s (suc zero) h = absurd (omega arith)
word_past s (suc (suc zero)) h = absurd (omega arith)
word_past s (suc (suc (suc zero))) h = absurd (omega arith)
word_past s (suc (suc (suc (suc q)))) h = refl

pub member_past : (s : RowSet) (k : ℕ) → 256 ≤ k → member s k ≡ false
unfolding member
member_past s k h = ap (λ (x : ℕ). bit x (k % 64)) (word_past s (k / 64) (omega arith)) ∙ bit_zero (k % 64)

pub member_at : (s : RowSet) (q j : ℕ) → j < 64 → member s (q * 64 + j) ≡ bit (word_of s q) j
unfolding member
member_at s q j h =
    let eq : (q * 64 + j) / 64 ≡ q = omega arith in
    let ej : (q * 64 + j) % 64 ≡ j = omega arith in
    ap₂ (λ (x y : ℕ). bit (word_of s x) y) eq ej

pub member_in : (s : RowSet) (q m : ℕ) → q * 64 ≤ m → m < q * 64 + 64 → member s m ≡ bit (word_of s q) (m - q * 64)
member_in s q m l h = let e : m ≡ q * 64 + (m - q * 64) = omega arith in ap (member s) e ∙ member_at s q (m - q * 64) (omega arith)

-- a set given by its words, each bit of which is a test of its row
pub member_is : (s : RowSet) (w : ℕ → ℕ) (p : ℕ → Bool) → s.w0 ≡ w 0 → s.w1 ≡ w 1 → s.w2 ≡ w 2 → s.w3 ≡ w 3 →
    ((q j : ℕ) → q < 4 → j < 64 → bit (w q) j ≡ p (q * 64 + j)) → ((k : ℕ) → 256 ≤ k → p k ≡ false) → (k : ℕ) → member s k ≡ p k
member_is s w p e0 e1 e2 e3 bits past k = lt_case k 256 inside (λ l. member_past s k l ∙ sym (past k l))
  where
    at : (q : ℕ) → q < 4 → word_of s q ≡ w q
    at zero h = unfold word_of in e0
    at (suc zero) h = unfold word_of in e1
    at (suc (suc zero)) h = unfold word_of in e2
    at (suc (suc (suc zero))) h = unfold word_of in e3
    at (suc (suc (suc (suc q)))) h = absurd (omega arith)

    inside : k < 256 → member s k ≡ p k
    inside l =
        let f : k / 64 * 64 + k % 64 ≡ k = omega arith in
        let g : member s k ≡ bit (w (k / 64)) (k % 64) = unfold member in ap (λ (x : ℕ). bit x (k % 64)) (at (k / 64) (omega arith)) in
        g ∙ bits (k / 64) (k % 64) (omega arith) (omega arith) ∙ ap p f

-- ---- an operation on the words is one on the members

abbrev pub wordwise : (ℕ → ℕ → ℕ) → RowSet → RowSet → RowSet
wordwise op a b = record { w0 = op a.w0 b.w0; w1 = op a.w1 b.w1; w2 = op a.w2 b.w2; w3 = op a.w3 b.w3 }

module _ (op : ℕ → ℕ → ℕ) (f : Bool → Bool → Bool) (zeros : op 0 0 ≡ 0) (bits : (x y j : ℕ) → bit (op x y) j ≡ f (bit x j) (bit y j)) (a b : RowSet) where
  words_op : (q : ℕ) → word_of (wordwise op a b) q ≡ op (word_of a q) (word_of b q)
  unfolding word_of
  words_op zero = refl
  words_op (suc zero) = refl
  words_op (suc (suc zero)) = refl
  words_op (suc (suc (suc zero))) = refl
  words_op (suc (suc (suc (suc q)))) = sym zeros

  pub member_op : (k : ℕ) → member (wordwise op a b) k ≡ f (member a k) (member b k)
  unfolding member
  member_op k = ap (λ (x : ℕ). bit x (k % 64)) (words_op (k / 64)) ∙ bits (word_of a (k / 64)) (word_of b (k / 64)) (k % 64)

-- ---- sets with the same members are equal

word_fits : (s : RowSet) → Fitting s → (q : ℕ) → word_of s q < 2 ^ 64
unfolding word_of
word_fits s f zero = f.fit0
word_fits s f (suc zero) = f.fit1
word_fits s f (suc (suc zero)) = f.fit2
word_fits s f (suc (suc (suc zero))) = f.fit3
word_fits s f (suc (suc (suc (suc q)))) = lit< tt

-- a number whose bits are the rows of word q is that word
pub word_is : (s : RowSet) → Fitting s → (q w : ℕ) → ((j : ℕ) → bit w j ≡ (ltb j 64 && member s (q * 64 + j))) → w ≡ word_of s q
word_is s f q w h = bits_same w (word_of s q) (λ j. h j ∙ lt_case j 64 (inside j) (past j))
  where
    inside : (j : ℕ) → j < 64 → (ltb j 64 && member s (q * 64 + j)) ≡ bit (word_of s q) j
    inside j l = ap (λ (x : Bool). x && member s (q * 64 + j)) (lt-ltb j 64 l) ∙ member_at s q j l

    past : (j : ℕ) → 64 ≤ j → (ltb j 64 && member s (q * 64 + j)) ≡ bit (word_of s q) j
    past j l = ap (λ (x : Bool). x && member s (q * 64 + j)) (le-ltb j 64 l) ∙ sym (bit_past (word_of s q) 64 j (word_fits s f q) l)

-- ---- the words of a list of rows

module _ (i : ℕ) (is : List ℕ) (q : ℕ) (rest : (j : ℕ) → bit (word is q) j ≡ (ltb j 64 && mem (q * 64 + j) is)) (new : mem i is ≡ false) where
  fresh : i / 64 ≡ q → bit (word is q) (i % 64) ≡ false
  fresh e = let f : q * 64 + i % 64 ≡ i = omega arith in rest (i % 64) ∙ rw (lt-ltb (i % 64) 64 (omega arith), f) new

  same_place : (j : ℕ) → i / 64 ≡ q → j < 64 → eqb j (i % 64) ≡ eqb (q * 64 + j) i
  same_place j e l =
      both_ways (eqb j (i % 64)) (eqb (q * 64 + j) i) (λ h. let g : j ≡ i % 64 = eqb-true j (i % 64) h in eq-eqb (q * 64 + j) i (omega arith))
      (λ h. let g : q * 64 + j ≡ i = eqb-true (q * 64 + j) i h in eq-eqb j (i % 64) (omega arith))

  word_step : (j : ℕ) (b : Bool) → eqb (i / 64) q ≡ b → bit (cond b (2 ^ (i % 64) + word is q) (word is q)) j ≡ (ltb j 64 && (eqb (q * 64 + j) i || mem (q * 64 + j) is))
  word_step j true e =
      let f : i / 64 ≡ q = eqb-true (i / 64) q e in
      bit_add (word is q) (i % 64) j (fresh f) ∙
      lt_case j 64 (λ l. rw (rest j, lt-ltb j 64 l, same_place j f l)) (λ g. rw (rest j, le-ltb j 64 g, ne_eqb j (i % 64) (omega arith)))
  word_step j false e =
      let d : (i / 64 ≡ q → ⊥) = eqb-false (i / 64) q e in
      rest j ∙ lt_case j 64 (λ l. rw (ne_eqb (q * 64 + j) i (omega arith))) (λ g. rw (le-ltb j 64 g))

-- bit j of word q stands for row 64 q + j
pub bit_word : (lo : ℕ) (xs : List ℕ) → Ascends lo xs → (q j : ℕ) → bit (word xs q) j ≡ (ltb j 64 && mem (q * 64 + j) xs)
unfolding word mem
bit_word lo [] a q j = bit_zero j ∙ sym (and_false (ltb j 64))
bit_word lo (i ∷ is) a q j = word_step i is q (bit_word (suc i) is a.1 q) (mem_low i (suc i) is a.1 (omega arith)) j (eqb (i / 64) q) refl
