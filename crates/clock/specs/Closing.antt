-- A cell of a place goes and those behind it move up: one law for every width.
use Rattle.std.specs.Prelude.{◌≡◌, refl, take, drop}
use Rattle.std.proofs.Common.{ap, zero-mul, arith, length-drop}
use mathlib.Core.List.{List, [], ◌∷◌, ◌++◌, append_assoc, append-nil}
use Prim.Native.Nat.{ℕ, zero, suc, ◌+◌, ◌-◌, ◌*◌, ◌≤◌, ◌<◌}
use Rattle.std.proofs.Math.ListN.{length}
use Rattle.std.proofs.Math.Seq.{take-append-add, drop-append-add}
use Rattle.follower.specs.Clock.{Timer, without_at}
use Rattle.laws.specs.Cells.{blank, cells, cells_rest, cells_none}
use Rattle.laws.specs.Parts.{part_end}
use Rattle.queue.specs.Queues.{Waiting}

-- the place without its cell i of w numbers, w zeros at its end
unfoldable pub closed : ℕ → List ℕ → ℕ → List ℕ
closed w place i = take (i * w) place ++ (drop w (drop (i * w) place) ++ blank w)

-- slots i to n of the place are in use, zeros behind them
pub record Behind (slots : List ℕ) (i n : ℕ) : Type 0 where
  pub low : i < n
  pub waits : Waiting (drop (i * 64) slots) (n - i)
  pub inside : i * 64 ≤ length slots

module _ (f : Timer → List ℕ) (w : ℕ) (size : (x : Timer) → length (f x) ≡ w) where
  pub cells_closed : (k i : ℕ) (xs : List Timer) → i < length xs → length xs ≤ k → closed w (cells f w k xs) i ≡ cells f w k (without_at i xs)
  unfolding closed without_at cells
  cells_closed k i [] l m = absurd (omega arith)
  cells_closed zero i (x ∷ xs) l m = absurd (omega arith)
  cells_closed (suc k) zero (x ∷ xs) l m = rw (zero-mul w) (cells_rest f w size k x xs (omega arith))
  cells_closed (suc k) (suc i) (x ∷ xs) l m =
      let s : suc i * w ≡ length (f x) + i * w = omega (arith, size x) in
      rw (s, take-append-add (f x) (cells f w k xs) (i * w), drop-append-add (f x) (cells f w k xs) (i * w), append_assoc)
      (ap {B = List ℕ} (λ r. f x ++ r) (cells_closed k i xs (omega arith) (omega arith)))

-- ---- the part from a place on

none_behind : (xs : List ℕ) (k : ℕ) → length xs ≤ k → drop k xs ≡ []
none_behind [] zero l = refl
none_behind [] (suc k) l = refl
none_behind (x ∷ xs) zero l = absurd (omega arith)
none_behind (x ∷ xs) (suc k) l = none_behind xs k (omega arith)

pub whole_waits : (q : List ℕ) (i n : ℕ) → Behind q i n → Waiting (take (length q - i * 64) (drop (i * 64) q)) (n - i)
whole_waits q i n h = rw (part_end (i * 64) q) h.waits

pub closed_part : (w : ℕ) (q : List ℕ) (i : ℕ) (part : List ℕ) → part ≡ drop w (take (length q - i * w) (drop (i * w) q)) ++ blank w →
    take (i * w) q ++ (part ++ drop (length q - i * w) (drop (i * w) q)) ≡ closed w q i
unfolding closed
closed_part w q i part e =
    rw (e, part_end (i * w) q, none_behind (drop (i * w) q) (length q - i * w) (omega (arith, length-drop (i * w) q)), append-nil (drop w (drop (i * w) q) ++ blank w))

-- ---- behind the last cell there are zeros

pub cells_behind : (f : Timer → List ℕ) (w : ℕ) → ((x : Timer) → length (f x) ≡ w) → (k : ℕ) (xs : List Timer) → length xs ≤ k → drop (length xs * w) (cells f w k xs) ≡ blank (k * w - length xs * w)
unfolding cells
cells_behind f w size k [] l = let z : 0 * w ≡ 0 = zero-mul w in let y : k * w - 0 ≡ k * w = omega arith in rw (z, y) (cells_none f w k)
cells_behind f w size zero (x ∷ xs) l = absurd (omega arith)
cells_behind f w size (suc k) (x ∷ xs) l =
    let s : suc (length xs) * w ≡ length (f x) + length xs * w = omega (arith, size x) in
    let d : suc k * w - (length (f x) + length xs * w) ≡ k * w - length xs * w = omega (arith, size x) in
    rw (s, d, drop-append-add (f x) (cells f w k xs) (length xs * w)) (cells_behind f w size k xs (omega arith))
