-- How many names a value has, one behind the other.
use Rattle.std.specs.Prelude.{◌≡◌, Bool, true, false, get_or, drop}
use Rattle.std.proofs.Math.Path.{refl, ap}
use Rattle.std.proofs.Common.{sym, subst, ◌∙◌, add-one, length-drop, drop_of_length-le, drop-cons, drop-drop}
use mathlib.Core.List.{List, [], ◌∷◌, map}
use Prim.Native.Nat.{ℕ, suc, ◌+◌, ◌-◌, ◌≤◌, ◌<◌}
use native.Mathlib.Omega.{arith}
use Rattle.std.proofs.Math.ListN.{length}
use Rattle.grammar.specs.Grammar.{is_space}
use Rattle.reading.specs.Faults.{Item, item_bytes, items_at, names_in}
use Rattle.values.specs.Items.{spread, spread_inside, first_item_lem}

map_length : (xs : List Item) → length (map item_bytes xs) ≡ length xs
map_length [] = refl
map_length (x ∷ xs) = ap suc (map_length xs)

-- n names stand before i
pub record Counting (v : List ℕ) (n i : ℕ) : Type 0 where
  pub inside : i ≤ length v
  pub few : n ≤ i
  pub left : length (items_at 0 v) ≡ n + length (items_at i (drop i v))

pub items_start : (v : List ℕ) → Counting v 0 0
items_start v = record { inside = omega arith; few = omega arith; left = omega arith }

module _ (v : List ℕ) (n i : ℕ) (k : Counting v n i) where
  pub items_end : length v ≤ i → n ≡ length (names_in v)
  unfolding items_at
  items_end h =
      let none : length (items_at i (drop i v)) ≡ 0 = ap (λ (l : List ℕ). length (items_at i l)) (drop_of_length-le v {i = i} h) in
      let l = k.left in let m = map_length (items_at 0 v) in
      omega arith

  module _ (h : i < length v) (space : Bool) (is : space ≡ is_space (get_or v i 0)) where
    at_i : drop i v ≡ get_or v i 0 ∷ drop (i + 1) v
    at_i = drop-cons v i 0 h ∙ ap (λ (j : ℕ). get_or v i 0 ∷ drop j v) (sym (add-one i))

    pub items_space : space ≡ true → Counting v n (i + 1)
    unfolding items_at
    items_space q =
        let f = k.few in
        record {
          inside = omega arith;
          few = omega arith;
          left = k.left ∙ ap (λ (l : List ℕ). n + length (items_at i l)) at_i ∙ rw (sym is ∙ q) (ap (λ (j : ℕ). n + length (items_at j (drop (i + 1) v))) (sym (add-one i)));
        }

    module _ (q : space ≡ false) (j : ℕ) (to : j ≡ i + spread (drop i v)) where
      ends : j ≤ length v
      ends = let s = spread_inside (drop i v) in let d = length-drop i v in omega arith

      pub items_further : i < j
      unfolding spread
      items_further = let one : spread (drop i v) ≡ suc (spread (drop (i + 1) v)) = ap spread at_i ∙ rw (sym is ∙ q) refl in omega arith

      pub items_less : length v - j < length v - i
      items_less = let f = items_further in let e = ends in omega arith

      pub items_name : Counting v (n + 1) j
      items_name =
          let s = spread (drop i v) in
          let step : length (items_at i (drop i v)) ≡ suc (length (items_at (i + s) (drop s (drop i v)))) =
          subst (λ (l : List ℕ). length (items_at i l) ≡ suc (length (items_at (i + spread l) (drop (spread l) l)))) (sym at_i)
          (ap (λ (l : List Item). length l) (first_item_lem (drop (i + 1) v) i (get_or v i 0) (sym is ∙ q))) in
          let there : items_at (i + s) (drop s (drop i v)) ≡ items_at j (drop j v) =
          ap (items_at (i + s)) (drop-drop s i v) ∙ ap (λ (m : ℕ). items_at m (drop m v)) (sym to) in
          let same = ap (λ (l : List Item). length l) there in
          let l = k.left in let f = k.few in let g = items_further in
          record { inside = ends; few = omega arith; left = omega arith }
