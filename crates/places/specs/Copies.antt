-- A copy to the beginning of a place, number by number.
use Rattle.std.specs.Prelude.{◌≡◌, refl, List, [], ◌∷◌, ◌++◌, ℕ, suc, ◌+◌, ◌≤◌, ◌<◌, length, get_or, take, drop, set}
use Rattle.std.proofs.Common.{sym, ap, ◌∙◌, append_assoc, append-nil, add-one, arith, length-append, length-drop, take_all, take-suc, drop-cons, length-take-le}
use Rattle.std.proofs.Math.Seq.{drop-length}
use Rattle.std.proofs.lemmas.List.{set_at}

-- the first i numbers are copied
pub record Copying (from place₀ place : List ℕ) (i : ℕ) : Type 0 where
  pub most : i ≤ length from
  pub room : length from ≤ length place₀
  pub size : length place ≡ length place₀
  pub is : place ≡ take i from ++ drop i place₀

module _ (from place₀ : List ℕ) where
  pub copy_begin : length from ≤ length place₀ → Copying from place₀ place₀ 0
  copy_begin l = record { most = omega arith; room = l; size = refl; is = refl }

  pub copy_turn : (place : List ℕ) (i : ℕ) → Copying from place₀ place i → i < length from → Copying from place₀ (set place i (get_or from i 0)) (i + 1)
  copy_turn place i h l =
      let r = h.room in
      let is : set place i (get_or from i 0) ≡ take (i + 1) from ++ drop (i + 1) place₀ =
      rw (
        h.is,
        drop-cons place₀ i 0 (omega arith),
        set_at (take i from) (get_or place₀ i 0) (drop (suc i) place₀) (get_or from i 0) i (length-take-le i from (omega arith)),
        add-one i,
        take-suc from i 0 l,
      ) (sym (append_assoc (take i from) (get_or from i 0 ∷ []) (drop (suc i) place₀))) in
      record {
        most = omega arith;
        room = r;
        size = ap length is ∙ length-append (take (i + 1) from) (drop (i + 1) place₀) ∙ rw (length-take-le (i + 1) from (omega arith), length-drop (i + 1) place₀) (omega arith);
        is = is;
      }

  pub copy_end : (place : List ℕ) (i : ℕ) → Copying from place₀ place i → length from ≤ i → place ≡ from ++ drop (length from) place₀
  copy_end place i h l =
      let m = h.most in
      let e : i ≡ length from = omega arith in
      h.is ∙ rw (take_all i from l, e)

-- where the place has no more, or the copy is of the first n alone
pub copy_whole : (from place : List ℕ) → length place ≡ length from → from ++ drop (length from) place ≡ from
copy_whole from place e = ap (λ (k : ℕ). from ++ drop k place) (sym e) ∙ rw (drop-length place) (append-nil from)

pub copy_first : (from place : List ℕ) (n : ℕ) → n ≤ length from → take n from ++ drop (length (take n from)) place ≡ take n from ++ drop n place
copy_first from place n l = ap (λ (k : ℕ). take n from ++ drop k place) (length-take-le n from l)
