-- The columns of sets: how long one is, one set more, and the set that stands at a row's place.
use Rattle.std.specs.Prelude.{◌≡◌, true, ℕ, ◌+◌, ◌*◌, ◌-◌, ◌<◌, length, get_or}
use Rattle.std.proofs.Math.Path.{refl, ap}
use Rattle.std.proofs.Common.{◌∙◌, length-append, get_or-append-add}
use mathlib.Core.List.{List, [], ◌∷◌, ◌++◌, append_assoc}
use native.Mathlib.Omega.{arith}
use Rattle.std.proofs.lemmas.List.{get_or_at}
use Rattle.definition.specs.Rows.{from, flat, union, mem}
use Rattle.definition.specs.Compiled.{word, words, words_at, column}
use Rattle.laws.specs.Lists.{flat_app, length_from}
use Rattle.laws.specs.Loops.{from_last, from_at}
use Rattle.rowset.specs.declared.RowSet.{RowSet}
use Rattle.rowset.specs.Member.{rows_of}
use Rattle.rowset.specs.Rows.{rows_read}
use Rattle.chart.specs.Ready.{row_set_at}

-- ---- a list's set

unfoldable pub set_of : List ℕ → RowSet
set_of xs = record { w0 = word (union [] xs) 0; w1 = word (union [] xs) 1; w2 = word (union [] xs) 2; w3 = word (union [] xs) 3 }

pub rows_set_of : (xs : List ℕ) → ((k : ℕ) → mem k xs ≡ true → k < 256) → rows_of (set_of xs) ≡ union [] xs
unfolding set_of words
rows_set_of xs low = rows_read (set_of xs) xs low refl

-- the set whose words stand behind p
set_behind : (p q xs : List ℕ) (w : ℕ) → length p ≡ w → row_set_at (p ++ (words xs ++ q)) w ≡ set_of xs
unfolding row_set_at set_of words
set_behind p q xs w e =
    let s : List ℕ = words xs ++ q in
    let e0 : get_or (p ++ s) w 0 ≡ word (union [] xs) 0 = get_or_at p _ _ 0 w e in
    let e1 : get_or (p ++ s) (w + 1) 0 ≡ word (union [] xs) 1 = rw (← e) (get_or-append-add p s 1 0) in
    let e2 : get_or (p ++ s) (w + 2) 0 ≡ word (union [] xs) 2 = rw (← e) (get_or-append-add p s 2 0) in
    let e3 : get_or (p ++ s) (w + 3) 0 ≡ word (union [] xs) 3 = rw (← e) (get_or-append-add p s 3 0) in
    λ i. record { w0 = e0 i; w1 = e1 i; w2 = e2 i; w3 = e3 i }

-- ---- a column

module _ (f : ℕ → List ℕ) where
  length-sets : (xs : List ℕ) → length (flat (words_at f) xs) ≡ length xs * 4
  unfolding flat words_at words
  length-sets [] = refl
  length-sets (x ∷ xs) = let h = length-sets xs in omega arith

  pub length_column : (n : ℕ) → length (column f n) ≡ n * 4
  unfolding column
  length_column n = length-sets (from n 0) ∙ ap (λ (k : ℕ). k * 4) (length_from n 0)

  -- nothing, and one set more
  pub column_none : column f 0 ≡ []
  unfolding column flat from
  column_none = refl

  pub column_more : (i : ℕ) → column f (i + 1) ≡ column f i ++ words (f i)
  unfolding column flat words_at words
  column_more i = ap (flat (words_at f)) (from_last i) ∙ flat_app (words_at f) (from i 0) (i ∷ [])

  -- the set of i stands behind those before it
  pub column_at : (n i : ℕ) → i < n → column f n ≡ column f i ++ (words (f i) ++ flat (words_at f) (from (n - (i + 1)) (i + 1)))
  unfolding column flat words_at
  column_at n i l = ap (flat (words_at f)) (from_at i n l) ∙ flat_app (words_at f) (from i 0) (i ∷ from (n - (i + 1)) (i + 1))

  pub set_in_column : (chart pre post : List ℕ) (n i b : ℕ) → chart ≡ pre ++ (column f n ++ post) → length pre ≡ b → i < n → row_set_at chart (b + i * 4) ≡ set_of (f i)
  set_in_column chart pre post n i b e s l =
      let rest : List ℕ = flat (words_at f) (from (n - (i + 1)) (i + 1)) in
      let split : chart ≡ (pre ++ column f i) ++ (words (f i) ++ (rest ++ post)) = e ∙ rw (column_at n i l) (simp append_assoc) in
      let size : length (pre ++ column f i) ≡ b + i * 4 = length-append pre (column f i) ∙ rw (s, length_column i) in
      rw split (set_behind (pre ++ column f i) (rest ++ post) (f i) (b + i * 4) size)
