-- Zeros over a place, one after the other.
use Rattle.std.specs.Prelude.{◌≡◌, refl, List, ◌++◌, ℕ, ◌≤◌, ◌<◌, ◌+◌, length, drop, set, replicate}
use Rattle.std.proofs.Common.{◌∙◌, append-nil, arith, length-set}
use Rattle.std.proofs.Math.Seq.{drop-length}
use Rattle.std.proofs.lemmas.List.Edits.{fill_none, fill_more}

-- the first i are zeros
pub record Clearing (place₀ place : List ℕ) (i : ℕ) : Type 0 where
  pub most : i ≤ length place₀
  pub size : length place ≡ length place₀
  pub is : place ≡ replicate i 0 ++ drop i place₀

module _ (place₀ : List ℕ) where
  pub clear_begin : Clearing place₀ place₀ 0
  clear_begin = record { most = omega arith; size = refl; is = fill_none place₀ 0 }

  module _ (place : List ℕ) (i : ℕ) (h : Clearing place₀ place i) where
    pub clear_turn : i < length place → Clearing place₀ (set place i 0) (i + 1)
    clear_turn l =
        let s = h.size in
        record { most = omega arith; size = length-set place i 0 ∙ s; is = rw h.is (fill_more i 0 place₀ (omega arith)) }

    pub clear_end : length place ≤ i → place ≡ replicate (length place₀) 0
    clear_end l =
        let s = h.size in
        let m = h.most in
        let e : i ≡ length place₀ = omega arith in
        h.is ∙ rw (e, drop-length place₀) (append-nil {A = ℕ} (replicate (length place₀) 0))
