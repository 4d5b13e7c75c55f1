-- A start and a count inside a table, without a sum that could be too large.
use Rattle.std.specs.Prelude.{◌≡◌, refl, Bool, true, false, ◌&&◌, ℕ, ◌+◌, ◌-◌, ◌<◌, ◌≤◌, eqb, leb, List}
use Rattle.std.proofs.Common.{sym, ◌∙◌, arith}
use borrow.Author.Tests.{eqb-true, leb-true, le-leb, lt-leb, lt-ltb, le-ltb}
use Rattle.definition.specs.Tables.{most_actions, row_count, name_count, reference_count, action_count, row_cell, reference_cell, descriptor_cell}
use Rattle.definition.specs.Rules.{inside, optional_below, block_fits, row_in_range, reference_in_range, descriptor_in_range}
use Rattle.laws.specs.Bools.{both_ways, and_left, and_right, and_true, and4}

-- a list inside its table and no longer than it may be
abbrev pub is_short_list : ℕ → ℕ → ℕ → ℕ → Bool
is_short_list total most start count = inside total start count && leb count most

module _ (total start count : ℕ) where
  pub inside_long : total < count → false ≡ inside total start count
  inside_long l = sym (lt-leb (start + count) total (omega arith))

  pub inside_start : count ≤ total → leb start (total - count) ≡ inside total start count
  inside_start l =
      both_ways (leb start (total - count)) (leb (start + count) total)
      (λ e. let h : start ≤ total - count = leb-true _ _ e in le-leb (start + count) total (omega arith))
      (λ e. let h : start + count ≤ total = leb-true _ _ e in le-leb start (total - count) (omega arith))

-- ---- nothing, at the start of any table

abbrev pub is_nothing : ℕ → ℕ → Bool
is_nothing start count = eqb start 0 && eqb count 0

-- no block and no list
unfoldable pub has_no_parts : List ℕ → ℕ → Bool
has_no_parts numbers i =
    is_nothing (row_cell numbers i 3) (row_cell numbers i 4) && is_nothing (row_cell numbers i 5) (row_cell numbers i 6) &&
    is_nothing (row_cell numbers i 7) (row_cell numbers i 8) && is_nothing (row_cell numbers i 9) (row_cell numbers i 10)

module _ (start count : ℕ) (h : is_nothing start count ≡ true) where
  nothing_sum : start + count ≡ 0
  nothing_sum =
      let s = eqb-true start 0 (and_left (eqb start 0) (eqb count 0) h) in
      let n = eqb-true count 0 (and_right (eqb start 0) (eqb count 0) h) in
      omega arith

  nothing_inside : (total : ℕ) → inside total start count ≡ true
  nothing_inside total = let e = nothing_sum in le-leb (start + count) total (omega arith)

  nothing_fits : (numbers : List ℕ) → block_fits numbers start count ≡ true
  unfolding block_fits
  nothing_fits numbers = and_true _ _ (nothing_inside (action_count numbers)) (let e = nothing_sum in le-leb count most_actions (omega arith))

-- each part counts nothing
pub record Bare (numbers : List ℕ) (i : ℕ) : Type 0 where
  pub entry : row_cell numbers i 4 ≡ 0
  pub exit : row_cell numbers i 6 ≡ 0
  pub list : row_cell numbers i 8 ≡ 0
  pub block : row_cell numbers i 10 ≡ 0

pub bare_row : (numbers : List ℕ) (i : ℕ) → has_no_parts numbers i ≡ true → Bare numbers i
unfolding has_no_parts
bare_row numbers i h =
    let parts = and4 (is_nothing (row_cell numbers i 3) (row_cell numbers i 4)) _ _ _ h in
    record {
      entry = none (row_cell numbers i 3) (row_cell numbers i 4) parts.0;
      exit = none (row_cell numbers i 5) (row_cell numbers i 6) parts.1;
      list = none (row_cell numbers i 7) (row_cell numbers i 8) parts.2;
      block = none (row_cell numbers i 9) (row_cell numbers i 10) parts.3;
    }
  where
    none : (start count : ℕ) → is_nothing start count ≡ true → count ≡ 0
    none start count e = eqb-true count 0 (and_right (eqb start 0) (eqb count 0) e)

pub no_parts : (numbers : List ℕ) (i : ℕ) (t : Bool) → has_no_parts numbers i ≡ true →
    t ≡ (leb (row_cell numbers i 0) 5 && optional_below (row_count numbers) (row_cell numbers i 1) && optional_below (name_count numbers) (row_cell numbers i 2)) →
    t ≡ row_in_range numbers i
unfolding row_in_range has_no_parts
no_parts numbers i t h e =
    let parts = and4 (is_nothing (row_cell numbers i 3) (row_cell numbers i 4)) _ _ _ h in
    e ∙ sym (rw (
      nothing_fits (row_cell numbers i 3) (row_cell numbers i 4) parts.0 numbers,
      nothing_fits (row_cell numbers i 5) (row_cell numbers i 6) parts.1 numbers,
      nothing_inside (row_cell numbers i 7) (row_cell numbers i 8) parts.2 (reference_count numbers),
      nothing_fits (row_cell numbers i 9) (row_cell numbers i 10) parts.3 numbers,
    ) (yes4 (leb (row_cell numbers i 0) 5 && optional_below (row_count numbers) (row_cell numbers i 1) && optional_below (name_count numbers) (row_cell numbers i 2))))
  where
    yes4 : (x : Bool) → (x && true && true && true && true) ≡ x
    yes4 true = refl
    yes4 false = refl

-- a number that was read, x, and the size of what it is a number of
module _ (numbers : List ℕ) (k x n : ℕ) where
  pub reference_in : x ≡ reference_cell numbers k → n ≡ row_count numbers → x < n → reference_in_range numbers k ≡ true
  unfolding reference_in_range
  reference_in e q l = rw (← e, ← q) (lt-ltb x n l)

  pub reference_out : x ≡ reference_cell numbers k → n ≡ row_count numbers → n ≤ x → reference_in_range numbers k ≡ false
  unfolding reference_in_range
  reference_out e q l = rw (← e, ← q) (le-ltb x n l)

  pub descriptor_in : x ≡ descriptor_cell numbers k → n ≡ name_count numbers → x < n → descriptor_in_range numbers k ≡ true
  unfolding descriptor_in_range
  descriptor_in e q l = rw (← e, ← q) (lt-ltb x n l)

  pub descriptor_out : x ≡ descriptor_cell numbers k → n ≡ name_count numbers → n ≤ x → descriptor_in_range numbers k ≡ false
  unfolding descriptor_in_range
  descriptor_out e q l = rw (← e, ← q) (le-ltb x n l)
