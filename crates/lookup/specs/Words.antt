-- A set of rows among numbers of 16 bits: four to a word, the lowest first.
use Rattle.std.specs.Prelude.{◌≡◌, refl, List, [], ◌∷◌, ◌++◌, ℕ, ◌+◌, ◌*◌, ◌/◌, ◌%◌, ◌<◌, get_or, take, drop, set}
use Rattle.std.proofs.Common.{sym, ◌∙◌, append_assoc, arith, take_at, get_or-take, get_or-drop}
use Rattle.std.proofs.Math.Path.{ap}
use Rattle.std.proofs.Math.ListN.{length, length-append, length-drop}
use Rattle.std.proofs.Math.Seq.{drop_at}
use Rattle.rowset.specs.declared.RowSet.{RowSet}

unfoldable pub word_in : List ℕ → ℕ → ℕ
word_in xs at = get_or xs at 0 + get_or xs (at + 1) 0 * 65536 + get_or xs (at + 2) 0 * 4294967296 + get_or xs (at + 3) 0 * 281474976710656

unfoldable pub rows_in : List ℕ → ℕ → RowSet
rows_in xs at = record { w0 = word_in xs at; w1 = word_in xs (at + 4); w2 = word_in xs (at + 8); w3 = word_in xs (at + 12) }

-- ---- what is written is read

quarters : (w : ℕ) → w < 18446744073709551616 → w % 65536 + w / 65536 % 65536 * 65536 + w / 4294967296 % 65536 * 4294967296 + w / 281474976710656 * 281474976710656 ≡ w
quarters w l = omega arith

pub word_put : (old : List ℕ) (w : ℕ) → length old ≡ 4 → w < 18446744073709551616 →
    let new = set (set (set (set old 0 (w % 65536)) 1 (w / 65536 % 65536)) 2 (w / 4294967296 % 65536)) 3 (w / 281474976710656) in (length new ≡ 4) × (word_in new 0 ≡ w)
unfolding word_in
word_put [] w l h = absurd (omega arith)
word_put (a ∷ []) w l h = absurd (omega arith)
word_put (a ∷ b ∷ []) w l h = absurd (omega arith)
word_put (a ∷ b ∷ c ∷ []) w l h = absurd (omega arith)
word_put (a ∷ b ∷ c ∷ d ∷ xs) w l h = (l, quarters w h)

-- ---- where they stand behind others

behind : (xs new more : List ℕ) (at i : ℕ) → drop at xs ≡ new ++ more → i < length new → get_or xs (at + i) 0 ≡ get_or new i 0
behind xs new more at i e l =
    sym (get_or-drop at xs i 0) ∙ ap (λ (ys : List ℕ). get_or ys i 0) e ∙ sym (get_or-take (length new) (new ++ more) i 0 l) ∙ ap (λ (ys : List ℕ). get_or ys i 0) (take_at new more (length new) refl)

word_behind : (xs new more : List ℕ) (at i : ℕ) → drop at xs ≡ new ++ more → i + 3 < length new → word_in xs (at + i) ≡ word_in new i
unfolding word_in
word_behind xs new more at i e l =
    let a : (k : ℕ) → k < 4 → get_or xs (at + i + k) 0 ≡ get_or new (i + k) 0 = λ k h. ap (λ (n : ℕ). get_or xs n 0) (omega arith) ∙ behind xs new more at (i + k) e (omega arith) in
    rw (behind xs new more at i e (omega arith), a 1 (omega arith), a 2 (omega arith), a 3 (omega arith))

pub rows_behind : (xs new more : List ℕ) (at : ℕ) → drop at xs ≡ new ++ more → length new ≡ 16 → rows_in xs at ≡ rows_in new 0
unfolding rows_in
rows_behind xs new more at e l =
    rw (
      word_behind xs new more at 4 e (omega arith),
      word_behind xs new more at 8 e (omega arith),
      word_behind xs new more at 12 e (omega arith),
    ) (ap (λ (w : ℕ). record { w0 = w; w1 = word_in new 4; w2 = word_in new 8; w3 = word_in new 12 }) (ap (word_in xs) (omega arith) ∙ word_behind xs new more at 0 e (omega arith)))

-- ---- a part that is lent and put back

abbrev pub put : List ℕ → ℕ → ℕ → List ℕ → List ℕ
put xs at n new = take at xs ++ (new ++ drop n (drop at xs))

pub put_behind : (front back new : List ℕ) (at n : ℕ) → length front ≡ at → put (front ++ back) at n new ≡ front ++ new ++ drop n back
put_behind front back new at n e = rw (take_at front back at e, drop_at front back at e) (sym (append_assoc front new (drop n back)))

-- the four words of a set, one behind the other
module _ (place a b c d : List ℕ) (s : RowSet) (size : length place ≡ 16)
    (h0 : (length a ≡ 4) × (word_in a 0 ≡ s.w0)) (h1 : (length b ≡ 4) × (word_in b 0 ≡ s.w1)) (h2 : (length c ≡ 4) × (word_in c 0 ≡ s.w2)) (h3 : (length d ≡ 4) × (word_in d 0 ≡ s.w3)) where
  abbrev back : List ℕ
  back = drop 4 place

  abbrev whole : List ℕ
  whole = put (put (put (a ++ back) 4 4 b) 8 4 c) 12 4 d

  abbrev last : List ℕ
  last = drop 4 (drop 4 (drop 4 back))

  two : length (a ++ b) ≡ 8
  two = let x = h0.0 in let y = h1.0 in omega (arith, length-append a b)

  three : length (a ++ b ++ c) ≡ 12
  three = let x = two in let y = h2.0 in omega (arith, length-append (a ++ b) c)

  third_at : whole ≡ a ++ b ++ c ++ (d ++ last)
  third_at =
      rw (put_behind a back b 4 4 h0.0, put_behind (a ++ b) (drop 4 back) c 8 4 two, put_behind (a ++ b ++ c) (drop 4 (drop 4 back)) d 12 4 three)
      (append_assoc (a ++ b ++ c) d last)

  second_at : whole ≡ a ++ b ++ (c ++ (d ++ last))
  second_at = third_at ∙ append_assoc (a ++ b) c (d ++ last)

  first_at : whole ≡ a ++ (b ++ (c ++ (d ++ last)))
  first_at = second_at ∙ append_assoc a b (c ++ (d ++ last))

  pub rows_put : (length whole ≡ 16) × (rows_in whole 0 ≡ s)
  unfolding rows_in
  rows_put =
      let x = three in
      let y = h3.0 in (
        ap {B = ℕ} length third_at ∙ rw (length-append (a ++ b ++ c) (d ++ last), length-append d last, length-drop, length-drop, length-drop, length-drop) (omega arith),
        rw (
          word_behind whole a _ 0 0 first_at (omega arith) ∙ h0.1,
          word_behind whole b _ 4 0 (ap (drop 4) first_at ∙ drop_at a _ 4 h0.0) (omega arith) ∙ h1.1,
          word_behind whole c _ 8 0 (ap (drop 8) second_at ∙ drop_at (a ++ b) _ 8 two) (omega arith) ∙ h2.1,
          word_behind whole d _ 12 0 (ap (drop 12) third_at ∙ drop_at (a ++ b ++ c) _ 12 three) (omega arith) ∙ h3.1,
        ),
      )
