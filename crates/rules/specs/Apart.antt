-- Lists whose rows stand apart, held against the rows before them one by one.
use Rattle.std.specs.Prelude.{◌≡◌, Bool, ◌&&◌, ℕ, ◌+◌, ◌<◌, ◌≤◌, get_or, take, drop}
use Rattle.std.proofs.Math.Path.{refl}
use Rattle.std.proofs.Common.{sym, ◌∙◌, add-one, arith, take-append-drop, take-suc, take_all}
use Rattle.std.proofs.Math.Bool.{true, false}
use mathlib.Core.List.{List, [], ◌∷◌, ◌++◌}
use Rattle.std.proofs.Math.ListN.{length}
use Rattle.definition.specs.Rows.{all}
use Rattle.definition.specs.Chart.{Chart}
use Rattle.definition.specs.Rules.{is_apart, are_apart}
use Rattle.laws.specs.Bools.{clash, and_left, and_right, and_true, bool_case}
use Rattle.laws.specs.Loops.{all_append}

-- ---- one pair

-- the later row first
unfoldable pub is_apart_from : Chart → ℕ → ℕ → Bool
is_apart_from c y x = is_apart c x y

-- ---- a list, from its start

pub take_more : (xs : List ℕ) (k : ℕ) → k < length xs → take (k + 1) xs ≡ take k xs ++ (get_or xs k 0 ∷ [])
take_more xs k l = rw (add-one k) (take-suc xs k 0 l)

module _ (c : Chart) where
  apart_last : (xs : List ℕ) (y : ℕ) → are_apart c (xs ++ (y ∷ [])) ≡ (are_apart c xs && all (is_apart_from c y) xs)
  unfolding are_apart all is_apart_from
  apart_last [] y = refl
  apart_last (x ∷ xs) y =
      rw (all_append (is_apart c x) xs (y ∷ []), apart_last xs y) (turn (all (is_apart c x) xs) (is_apart c x y) (are_apart c xs) (all (is_apart_from c y) xs))
    where
      turn : (p q r s : Bool) → ((p && (q && true)) && (r && s)) ≡ ((p && r) && (q && s))
      turn true true r s = refl
      turn true false true s = refl
      turn true false false s = refl
      turn false q r s = refl

  -- the start of a list that stands apart does
  apart_start : (xs ys : List ℕ) → are_apart c (xs ++ ys) ≡ true → are_apart c xs ≡ true
  unfolding are_apart
  apart_start [] ys h = refl
  apart_start (x ∷ xs) ys h =
      and_true (all (is_apart c x) xs) (are_apart c xs)
      (and_left (all (is_apart c x) xs) (all (is_apart c x) ys) (sym (all_append (is_apart c x) xs ys) ∙ and_left (all (is_apart c x) (xs ++ ys)) _ h))
      (apart_start xs ys (and_right (all (is_apart c x) (xs ++ ys)) _ h))

  module _ (xs : List ℕ) where
    -- a list that was read, l
    pub few_apart : (l : List ℕ) → l ≡ xs → length l < 2 → are_apart c xs ≡ true
    unfolding are_apart all
    few_apart l e h = rw (← e) (go l h)
      where
        go : (ys : List ℕ) → length ys < 2 → are_apart c ys ≡ true
        go [] h = refl
        go (y ∷ []) h = refl
        go (y ∷ z ∷ ys) h = absurd (omega arith)

    pub apart_begin : are_apart c (take 0 xs) ≡ true
    unfolding are_apart
    apart_begin = refl

    pub apart_turn : (k y : ℕ) → k < length xs → y ≡ get_or xs k 0 → are_apart c (take k xs) ≡ true → all (is_apart_from c y) (take k xs) ≡ true → are_apart c (take (k + 1) xs) ≡ true
    apart_turn k y l e h g = rw (take_more xs k l) (apart_last (take k xs) (get_or xs k 0) ∙ and_true _ _ h (rw (← e) g))

    pub apart_leave : (k y : ℕ) → k < length xs → y ≡ get_or xs k 0 → all (is_apart_from c y) (take k xs) ≡ false → false ≡ are_apart c xs
    apart_leave k y l e h =
        bool_case (are_apart c xs)
        (λ w.
        let start : are_apart c (take (k + 1) xs) ≡ true = apart_start (take (k + 1) xs) (drop (k + 1) xs) (rw (take-append-drop (k + 1) xs) w) in
        let last : (are_apart c (take k xs) && all (is_apart_from c (get_or xs k 0)) (take k xs)) ≡ true = sym (apart_last (take k xs) (get_or xs k 0)) ∙ rw (← take_more xs k l) start in
        absurd (clash _ (and_right (are_apart c (take k xs)) _ last) (rw e at h)))
        (λ w. sym w)

    pub apart_done : (k : ℕ) → length xs ≤ k → are_apart c (take k xs) ≡ true → true ≡ are_apart c xs
    apart_done k l h = sym (rw (take_all k xs l) at h)
