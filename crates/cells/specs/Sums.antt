-- Sums of counts: where a bin begins says how much stands in the bins before it, and a part's two cells are what its entries are.
use Rattle.std.specs.Prelude.{◌≡◌, List, [], ◌∷◌, map, length, get_or, take, drop}
use Rattle.std.proofs.Common.{sym, ap, ◌∙◌, zero-add, length-append, length-drop, get_or-take, get_or-drop, length-take-le}
use Prim.Native.Nat.{ℕ, zero, suc, ◌+◌, ◌*◌, ◌-◌, ◌/◌, ◌≤◌, ◌<◌}
use native.Mathlib.Omega.{arith}
use Rattle.definition.specs.Rows.{flat, from}
use Rattle.laws.specs.Maps.{map_reads}
use Rattle.bins.specs.Bins.{start_of}
use Rattle.bins.specs.Binned.{Item, values_of, Binned}
use Rattle.cells.specs.Starts.{start_in, Rising, entries_in}

-- the next bin begins behind this one
pub start_next : (c : ℕ → ℕ) (k : ℕ) → start_of c (k + 1) ≡ start_of c k + c k
unfolding start_of
start_next c k = let e : k + 1 ≡ suc k = omega arith in ap (start_of c) e

-- the bins from a on, s for each of some elements, of u cells for each entry
pub starts_sum : {A B : Type 0} (c : ℕ → ℕ) (g : A → List B) (d : A) (s u : ℕ) (xs : List A) (a : ℕ) →
    ((i : ℕ) → i < length xs → start_of c (a + suc i * s) ≡ start_of c (a + i * s) + length (g (get_or xs i d)) * u) → start_of c (a + length xs * s) ≡ start_of c a + length (flat g xs) * u
unfolding flat
starts_sum c g d s u [] a h =
    let e : a + 0 * s ≡ a = omega arith in
    let q = ap (start_of c) e in
    let z : 0 * u ≡ 0 = omega arith in
    omega arith
starts_sum c g d s u (x ∷ xs) a h =
    let first = h 0 (omega arith) in
    let e : a + 1 * s ≡ a + s = omega arith in
    let q = ap (start_of c) e in
    let e' : a + 0 * s ≡ a = omega arith in
    let q' = ap (start_of c) e' in
    let more = starts_sum c g d s u xs (a + s) (λ i l. ap (start_of c) (on i) ∙ h (suc i) (omega arith) ∙ ap (λ (k : ℕ). start_of c k + length (g (get_or xs i d)) * u) (sym (before i))) in
    let w : a + suc (length xs) * s ≡ a + s + length xs * s = omega arith in
    let q'' = ap (start_of c) w in
    let l = length-append (g x) (flat g xs) in
    let p = ap (λ (k : ℕ). k * u) l in
    let m : (length (g x) + length (flat g xs)) * u ≡ length (g x) * u + length (flat g xs) * u = omega arith in
    omega arith
  where
    on : (i : ℕ) → a + s + suc i * s ≡ a + suc (suc i) * s
    on i = omega arith

    before : (i : ℕ) → a + s + i * s ≡ a + suc i * s
    before i = omega arith

-- ---- full bins

module _ (bins base : ℕ) (c : ℕ → ℕ) (out next : List ℕ) (items : List Item) (b : Binned bins base c out next items) (full : (k : ℕ) → k < bins → length (values_of items k) ≡ c k) where
  pub full_start : (k : ℕ) → k ≤ bins → start_in base next k ≡ base + start_of c k
  unfolding start_in start_of
  full_start zero h = omega arith
  full_start (suc k) h = let e = b.next_is k (omega arith) in let f = full k (omega arith) in omega arith

  pub full_rising : Rising base next bins
  unfolding start_of
  full_rising =
      record {
        there = b.bins;
        up = λ k h. let e = full_start k (omega arith) in let q = full_start (suc k) (omega arith) in omega arith;
      }

-- ---- the two cells of a part

by_four : (x y a : ℕ) → x ≡ y + a * 4 → (x - y) / 4 ≡ a
by_four x y a h = omega arith

by_one : (x y a : ℕ) → x ≡ y + a * 1 → (x - y) / 1 ≡ a
by_one x y a h = omega arith

module _ (bins base : ℕ) (c : ℕ → ℕ) (next : List ℕ) (begins : (k : ℕ) → k ≤ bins → start_in base next k ≡ base + start_of c k) where
  pub start_four : (first from a : ℕ) → first ≤ bins → from ≤ bins → start_of c from ≡ start_of c first + a * 4 → entries_in base next first from 4 ≡ a
  start_four first from a h l e =
      by_four (start_in base next from) (start_in base next first) a (let x = begins first h in let y = begins from l in omega arith)

  pub start_one : (first from a : ℕ) → first ≤ bins → from ≤ bins → start_of c from ≡ start_of c first + a * 1 → entries_in base next first from 1 ≡ a
  start_one first from a h l e =
      by_one (start_in base next from) (start_in base next first) a (let x = begins first h in let y = begins from l in omega arith)

-- ---- cells one behind the other

pub cells_read : (out : List ℕ) (at m : ℕ) → at + m ≤ length out → take m (drop at out) ≡ map (λ (k : ℕ). get_or out (at + k) 0) (from m 0)
cells_read out at m h =
    let d = length-drop at out in
    let l = length-take-le m (drop at out) (omega arith) in
    sym
    (ap (λ (j : ℕ). map (λ (k : ℕ). get_or out (at + k) 0) (from j 0)) (sym l) ∙
    map_reads (λ (k : ℕ). get_or out (at + k) 0) (take m (drop at out)) 0 0
    (λ k b. ap (λ (j : ℕ). get_or out (at + j) 0) (zero-add k) ∙ sym (get_or-take m (drop at out) k 0 (omega arith) ∙ get_or-drop at out k 0)))
