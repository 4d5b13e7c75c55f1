-- Lists of rows and of transitions: every number is one of the chart's.
use Rattle.std.specs.Prelude.{◌≡◌, true, List, [], ◌∷◌, ℕ, zero, suc, ◌≤◌, ◌<◌, length, get_or}
use Rattle.std.proofs.Common.{sym, ◌∙◌, arith}
use Rattle.definition.specs.Rows.{mem, append}
use Rattle.laws.specs.Bools.{no, or_elim}
use Rattle.laws.specs.Sets.{mem_head, mem_one}
use Rattle.laws.specs.Lists.{mem_app, mem_tail}

-- every number of the list is below n
pub record Within (n : ℕ) (xs : List ℕ) : Type 0 where
  pub at : (i : ℕ) → mem i xs ≡ true → i < n

-- at most 256, each the number of one of so many transitions
pub record Taken (transitions : ℕ) (ts : List ℕ) : Type 0 where
  pub most : length ts ≤ 256
  pub inside : Within transitions ts

-- an element that is read by its place is in the list
at_mem : (xs : List ℕ) (i : ℕ) → i < length xs → mem (get_or xs i 0) xs ≡ true
at_mem [] i l = absurd (omega arith)
at_mem (x ∷ xs) zero l = mem_head x xs
at_mem (x ∷ xs) (suc i) l = mem_tail x (get_or xs i 0) xs (at_mem xs i (omega arith))

pub within_low : (k : ℕ) (ts : List ℕ) (i : ℕ) → Within k ts → i < length ts → get_or ts i 0 < k
within_low k ts i h l = h.at (get_or ts i 0) (at_mem ts i l)

-- ---- none, and one more

pub within_none : (n : ℕ) → Within n []
unfolding mem
within_none n = record { at = λ i m. absurd (no m) }

pub within_append : (n : ℕ) (xs : List ℕ) (t : ℕ) → Within n xs → t < n → Within n (append xs t)
unfolding append
within_append n xs t w l = record {
  at = λ i m. or_elim (mem i xs) (mem i (t ∷ [])) (λ k. w.at i k) (λ k. rw (mem_one i t k) l) (sym (mem_app i xs (t ∷ [])) ∙ m);
}
