-- What a RowSet means: the ascending list of its rows, read off the bits of its words; and what its searches find in that list.
use Rattle.std.specs.Prelude.{◌≡◌, Bool, true, false, List, ℕ, zero, suc, ◌/◌, ◌%◌, ◌^◌, ◌≤◌, ◌<◌, eqb, leb, ltb}
use Rattle.std.proofs.Math.Option.{Option, none, some}
use Rattle.definition.specs.Rows.{those, first, backwards}
use Rattle.numbers.specs.declared.Row.{Row}
use Rattle.rowset.specs.declared.RowSet.{RowSet}
use Rattle.std.specs.declared.option.Option as program
use Rattle.std.specs.declared.option.Option.TheVariants.{Some, None}

-- bit j of w is set
unfoldable pub bit : ℕ → ℕ → Bool
bit w j = eqb (w / 2 ^ j % 2) 1

-- the word that holds rows 64 q to 64 q + 63
unfoldable pub word_of : RowSet → ℕ → ℕ
word_of s zero = s.w0
word_of s (suc zero) = s.w1
word_of s (suc (suc zero)) = s.w2
word_of s (suc (suc (suc zero))) = s.w3
word_of s (suc (suc (suc (suc q)))) = 0

-- s has row k
unfoldable pub member : RowSet → ℕ → Bool
member s k = bit (word_of s (k / 64)) (k % 64)

-- the rows of s, ascending
unfoldable pub rows_of : RowSet → List ℕ
rows_of s = those 256 (member s)

-- ---- searches

abbrev pub is_from : ℕ → ℕ → Bool
is_from k x = leb k x

abbrev pub is_below : ℕ → ℕ → Bool
is_below k x = ltb x k

unfoldable pub found : Option ℕ → program.Option Row
found none = None
found (some x) = Some (record { 0 = x })

-- the first of an ascending list at or above k
unfoldable pub next_in : List ℕ → ℕ → program.Option Row
next_in xs k = found (first (is_from k) xs)

-- the last of an ascending list below k
unfoldable pub prev_in : List ℕ → ℕ → program.Option Row
prev_in xs k = found (first (is_below k) (backwards xs))

-- ---- what the functions on one word say

-- every word of s is one of 64 bits
pub record Fitting (s : RowSet) : Type 0 where
  pub fit0 : s.w0 < 2 ^ 64
  pub fit1 : s.w1 < 2 ^ 64
  pub fit2 : s.w2 < 2 ^ 64
  pub fit3 : s.w3 < 2 ^ 64

-- r is the lowest set bit of w at or above k, or 64 where there is none
pub record LowFrom (w k r : ℕ) : Type 0 where
  pub most : r ≤ 64
  pub least : k ≤ r
  pub set : r < 64 → bit w r ≡ true
  pub clear : (j : ℕ) → k ≤ j → j < r → bit w j ≡ false

-- r is the highest set bit of w below k, or 64 where there is none
pub record HighBelow (w k r : ℕ) : Type 0 where
  pub most : r ≤ 64
  pub set : r < 64 → (r < k) × (bit w r ≡ true) × ((j : ℕ) → r < j → j < k → bit w j ≡ false)
  pub clear : r ≡ 64 → (j : ℕ) → j < k → bit w j ≡ false
