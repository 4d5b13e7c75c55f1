-- The list of a set's rows: what determines it, and what each operation on the words does to it.
use Rattle.std.specs.Prelude.{◌≡◌, Bool, true, not, ◌&&◌, ◌||◌, List, [], ◌∷◌, ℕ, ◌+◌, ◌*◌, ◌/◌, ◌%◌, ◌^◌, ◌-◌, ◌<◌, min, eqb, ltb}
use Rattle.std.proofs.Math.Path.{refl}
use Rattle.std.proofs.Common.{sym, ap, ◌∙◌, zero-add, arith, eqb-true, eq-eqb, lt-ltb, le-ltb, le-leb, ltb-true, lit<}
use Rattle.std.specs.Int.Bits.{bit_and, bit_or, bit_xor}
use Rattle.definition.specs.Rows.{from, mem, is_in, is_empty, union, intersection, minus, same, is_set}
use Rattle.definition.specs.Compiled.{word, words}
use Rattle.laws.specs.Bools.{both_ways, not_so, no, and_left, and_right}
use Rattle.laws.specs.Sets.{Ascends, ascends_ext, ascends_those, mem_those, those_low, mem_union, mem_intersection, mem_minus, ascends_union, ascends_intersection, ascends_minus, ascends_from, mem_from}
use Rattle.laws.specs.Lists.{mem_cases, same_eq, same_self, ascends_set, empty_list}
use Rattle.laws.specs.Orders.{lt_case, union_none}
use Rattle.rowset.specs.declared.RowSet.{RowSet}
use Rattle.rowset.specs.Member.{bit, word_of, member, rows_of, Fitting}
use Rattle.rowset.specs.Bits.{bit_and_lem, bit_or_lem, bit_minus, bit_ones, or_none_lem}
use Rattle.rowset.specs.Words.{member_past, member_is, wordwise, member_op, word_is, bit_word}

-- ---- the list

pub mem_rows : (s : RowSet) (k : ℕ) → mem k (rows_of s) ≡ member s k
unfolding rows_of
mem_rows s k =
    mem_those 256 (member s) k ∙
    lt_case k 256 (λ l. ap (λ (x : Bool). x && member s k) (lt-ltb k 256 l)) (λ l. ap (λ (x : Bool). x && member s k) (le-ltb k 256 l) ∙ sym (member_past s k l))

-- row k, where it stands in word q
pub has_in : (s : RowSet) (k q j : ℕ) → k ≡ q * 64 + j → j < 64 → bit (word_of s q) j ≡ mem k (rows_of s)
unfolding member
has_in s k q j at low = let e : k / 64 ≡ q = omega arith in let f : k % 64 ≡ j = omega arith in sym (mem_rows s k ∙ rw (e, f))

pub ascends_rows : (s : RowSet) → Ascends 0 (rows_of s)
unfolding rows_of
ascends_rows s = ascends_those 256 (member s)

pub rows_low : (s : RowSet) (k : ℕ) → mem k (rows_of s) ≡ true → k < 256
unfolding rows_of
rows_low s k = those_low 256 (member s) k

-- an ascending list with the set's members is its list
pub rows_are : (s : RowSet) (xs : List ℕ) → Ascends 0 xs → ((k : ℕ) → member s k ≡ mem k xs) → rows_of s ≡ xs
rows_are s xs a h = ascends_ext 0 0 (rows_of s) xs (ascends_rows s) a (λ k. mem_rows s k ∙ h k)

pub rows_set : (s : RowSet) → is_set 256 (rows_of s) ≡ true
rows_set s = ascends_set 256 (rows_of s) (ascends_rows s) (rows_low s)

-- ---- the list and the words

-- the set whose words are those of an ascending list of rows has that list
pub rows_of_words : (s : RowSet) (xs : List ℕ) → Ascends 0 xs → ((k : ℕ) → mem k xs ≡ true → k < 256) →
    s.w0 ≡ word xs 0 → s.w1 ≡ word xs 1 → s.w2 ≡ word xs 2 → s.w3 ≡ word xs 3 → rows_of s ≡ xs
rows_of_words s xs a low e0 e1 e2 e3 =
    rows_are s xs a (member_is s (word xs) (is_in xs) e0 e1 e2 e3 (λ q j h l. bit_word 0 xs a q j ∙ rw (lt-ltb j 64 l))
    (λ k g. not_so (mem k xs) (λ m. let h : k < 256 = low k m in omega arith)))

-- so it is with the four words of any list of rows
pub rows_read : (s : RowSet) (xs : List ℕ) → ((k : ℕ) → mem k xs ≡ true → k < 256) → words xs ≡ s.w0 ∷ s.w1 ∷ s.w2 ∷ s.w3 ∷ [] → rows_of s ≡ union [] xs
unfolding words
rows_read s xs low e =
    rows_of_words s (union [] xs) (ascends_union [] xs tt) (λ k m. low k (sym (mem_union k [] xs ∙ unfold mem in refl) ∙ m)) (cc) (cc) (cc) (cc)

-- and the other way: a set that has the rows of a list has its words
pub words_written : (s : RowSet) (xs : List ℕ) → Fitting s → rows_of s ≡ union [] xs → words xs ≡ s.w0 ∷ s.w1 ∷ s.w2 ∷ s.w3 ∷ []
unfolding words word_of
words_written s xs f e = rw (← e, at 0, at 1, at 2, at 3)
  where
    at : (q : ℕ) → word (rows_of s) q ≡ word_of s q
    at q = word_is s f q (word (rows_of s) q) (λ j. bit_word 0 (rows_of s) (ascends_rows s) q j ∙ rw (mem_rows s (q * 64 + j)))

pub words_of_rows : (s : RowSet) → Fitting s → words (rows_of s) ≡ s.w0 ∷ s.w1 ∷ s.w2 ∷ s.w3 ∷ []
words_of_rows s f = words_written s (rows_of s) f (sym (union_none 0 (rows_of s) (ascends_rows s)))

same_words : (a b : RowSet) → a.w0 ≡ b.w0 → a.w1 ≡ b.w1 → a.w2 ≡ b.w2 → a.w3 ≡ b.w3 → a ≡ b
same_words a b e0 e1 e2 e3 i = record { w0 = e0 i; w1 = e1 i; w2 = e2 i; w3 = e3 i }

-- two sets of the same rows are equal
pub rows_ext : (a b : RowSet) → Fitting a → Fitting b → rows_of a ≡ rows_of b → a ≡ b
rows_ext a b fa fb e =
    let w : a.w0 ∷ a.w1 ∷ a.w2 ∷ a.w3 ∷ [] ≡ b.w0 ∷ b.w1 ∷ b.w2 ∷ b.w3 ∷ [] = sym (words_of_rows a fa) ∙ ap words e ∙ words_of_rows b fb in
    same_words a b (cc) (cc) (cc) (cc)

-- one row
pub rows_single : (s : RowSet) (r : ℕ) → r < 256 → s.w0 ≡ word (r ∷ []) 0 → s.w1 ≡ word (r ∷ []) 1 → s.w2 ≡ word (r ∷ []) 2 →
    s.w3 ≡ word (r ∷ []) 3 → rows_of s ≡ r ∷ []
unfolding mem
rows_single s r h = rows_of_words s (r ∷ []) (omega arith, tt) (λ k m. mem_cases k r [] (λ e. omega arith) (λ n. absurd (no n)) m)

-- the rows below n
pub rows_below : (s : RowSet) (n : ℕ) → s.w0 ≡ 2 ^ min n 64 - 1 → s.w1 ≡ 2 ^ min (n - 64) 64 - 1 → s.w2 ≡ 2 ^ min (n - 128) 64 - 1 →
    s.w3 ≡ 2 ^ min (n - 192) 64 - 1 → rows_of s ≡ from (min n 256) 0
rows_below s n e0 e1 e2 e3 =
    let z : n - 0 ≡ n = omega arith in
    rows_are s (from (min n 256) 0) (ascends_from (min n 256) 0)
    (λ k. member_is s (λ q. 2 ^ min (n - q * 64) 64 - 1) (λ i. ltb i (min n 256)) (rw z e0) e1 e2 e3
    (λ q j h l. bit_ones (min (n - q * 64) 64) j ∙
    both_ways (ltb j (min (n - q * 64) 64)) (ltb (q * 64 + j) (min n 256))
    (λ t. let u : j < min (n - q * 64) 64 = ltb-true _ _ t in lt-ltb (q * 64 + j) (min n 256) (omega arith))
    (λ t. let u : q * 64 + j < min n 256 = ltb-true _ _ t in lt-ltb j (min (n - q * 64) 64) (omega arith)))
    (λ i g. le-ltb i (min n 256) (omega arith)) k ∙ sym (mem_from k (min n 256) 0 ∙ rw (le-leb 0 k (omega arith), zero-add (min n 256))))

-- ---- operations

module _ (a b : RowSet) where
  pub rows_union : rows_of (wordwise bit_or a b) ≡ union (rows_of a) (rows_of b)
  rows_union =
      rows_are (wordwise bit_or a b) (union (rows_of a) (rows_of b)) (ascends_union (rows_of a) (rows_of b) (ascends_rows a))
      (λ k. member_op bit_or ◌||◌ refl bit_or_lem a b k ∙ sym (mem_union k (rows_of a) (rows_of b) ∙ rw (mem_rows a k, mem_rows b k)))

  pub rows_intersection : rows_of (wordwise bit_and a b) ≡ intersection (rows_of a) (rows_of b)
  rows_intersection =
      rows_are (wordwise bit_and a b) (intersection (rows_of a) (rows_of b)) (ascends_intersection (rows_of a) (rows_of b) (ascends_rows a))
      (λ k. member_op bit_and ◌&&◌ refl bit_and_lem a b k ∙ sym (mem_intersection k (rows_of a) (rows_of b) ∙ rw (mem_rows a k, mem_rows b k)))

  pub rows_minus : rows_of (wordwise (λ x y. bit_and x (bit_xor x y)) a b) ≡ minus (rows_of a) (rows_of b)
  rows_minus =
      rows_are (wordwise (λ x y. bit_and x (bit_xor x y)) a b) (minus (rows_of a) (rows_of b)) (ascends_minus (rows_of a) (rows_of b) (ascends_rows a))
      (λ k. member_op (λ x y. bit_and x (bit_xor x y)) (λ p q. p && not q) refl bit_minus a b k ∙ sym (mem_minus k (rows_of a) (rows_of b) ∙ rw (mem_rows a k, mem_rows b k)))

-- ---- tests

abbrev no_rows : RowSet
no_rows = record { w0 = 0; w1 = 0; w2 = 0; w3 = 0 }

no_words : (s : RowSet) → s.w0 ≡ 0 → s.w1 ≡ 0 → s.w2 ≡ 0 → s.w3 ≡ 0 → rows_of s ≡ []
unfolding word mem
no_words s e0 e1 e2 e3 = rows_of_words s [] tt (λ k m. absurd (no m)) e0 e1 e2 e3

pub rows_empty : rows_of no_rows ≡ []
rows_empty = no_words no_rows refl refl refl refl

-- a set is empty if no word has a bit
abbrev any_bit : RowSet → ℕ
any_bit s = bit_or (bit_or (bit_or s.w0 s.w1) s.w2) s.w3

pub rows_none : (s : RowSet) → Fitting s → eqb (any_bit s) 0 ≡ is_empty (rows_of s)
rows_none s f = both_ways (eqb (any_bit s) 0) (is_empty (rows_of s)) there back
  where
    there : eqb (any_bit s) 0 ≡ true → is_empty (rows_of s) ≡ true
    there h =
        let a = or_none_lem (bit_or (bit_or s.w0 s.w1) s.w2) s.w3 (eqb-true _ _ h) in
        let b = or_none_lem (bit_or s.w0 s.w1) s.w2 a.0 in
        let d = or_none_lem s.w0 s.w1 b.0 in
        ap is_empty (no_words s d.0 d.1 b.1 a.1) ∙ unfold is_empty in refl

    back : is_empty (rows_of s) ≡ true → eqb (any_bit s) 0 ≡ true
    back h =
        let f₀ : Fitting no_rows = record { fit0 = lit< tt; fit1 = lit< tt; fit2 = lit< tt; fit3 = lit< tt } in
        ap (λ (t : RowSet). eqb (any_bit t) 0) (rows_ext s no_rows f f₀ (empty_list (rows_of s) h ∙ sym rows_empty))

-- two sets are the same if their words are
abbrev alike : RowSet → RowSet → Bool
alike a b = eqb a.w0 b.w0 && (eqb a.w1 b.w1 && (eqb a.w2 b.w2 && eqb a.w3 b.w3))

pub rows_same : (a b : RowSet) → Fitting a → Fitting b → alike a b ≡ same (rows_of a) (rows_of b)
rows_same a b fa fb =
    both_ways (alike a b) (same (rows_of a) (rows_of b))
    (λ h. let f = and_right (eqb a.w0 b.w0) _ h in
    let g = and_right (eqb a.w1 b.w1) _ f in
    let q : a ≡ b = same_words a b (eqb-true _ _ (and_left (eqb a.w0 b.w0) _ h)) (eqb-true _ _ (and_left (eqb a.w1 b.w1) _ f)) (eqb-true _ _ (and_left (eqb a.w2 b.w2) _ g)) (eqb-true _ _ (and_right (eqb a.w2 b.w2) _ g)) in
    ap (λ (t : RowSet). same (rows_of a) (rows_of t)) (sym q) ∙ same_self (rows_of a))
    (λ h. let e : a ≡ b = rows_ext a b fa fb (same_eq (rows_of a) (rows_of b) h) in
    ap (alike a) (sym e) ∙
    rw (eq-eqb a.w0 a.w0 refl, eq-eqb a.w1 a.w1 refl, eq-eqb a.w2 a.w2 refl, eq-eqb a.w3 a.w3 refl))
