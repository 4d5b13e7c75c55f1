-- Names by their first use, one behind the other.
use Rattle.std.specs.Prelude.{◌≡◌, refl, Bool, true, false, cond, List, [], ◌∷◌, ◌++◌, ℕ, ◌≤◌, length}
use Rattle.std.proofs.Common.{arith, length-append}
use Rattle.reading.specs.Faults.{is_among}
use Rattle.reading.specs.Content.{fresh}

pub fresh_append : (xs s ys : List (List ℕ)) → fresh s (xs ++ ys) ≡ fresh (fresh s xs) ys
unfolding fresh
fresh_append [] s ys = refl
fresh_append (x ∷ xs) s ys = by (is_among x s) (fresh_append xs s ys) (fresh_append xs (s ++ x ∷ []) ys)
  where
    by : (z : Bool) → fresh s (xs ++ ys) ≡ fresh (fresh s xs) ys → fresh (s ++ x ∷ []) (xs ++ ys) ≡ fresh (fresh (s ++ x ∷ []) xs) ys →
        cond z (fresh s (xs ++ ys)) (fresh (s ++ x ∷ []) (xs ++ ys)) ≡ fresh (cond z (fresh s xs) (fresh (s ++ x ∷ []) xs)) ys
    by true h k = h
    by false h k = k

pub fresh_grows : (xs s : List (List ℕ)) → length s ≤ length (fresh s xs)
unfolding fresh
fresh_grows [] s = omega arith
fresh_grows (x ∷ xs) s = by (is_among x s) (fresh_grows xs s) (fresh_grows xs (s ++ x ∷ []))
  where
    by : (z : Bool) → length s ≤ length (fresh s xs) → length (s ++ x ∷ []) ≤ length (fresh (s ++ x ∷ []) xs) → length s ≤ length (cond z (fresh s xs) (fresh (s ++ x ∷ []) xs))
    by true h k = h
    by false h k = let l = length-append s (x ∷ []) in omega arith

pub fresh_known : (s : List (List ℕ)) (x : List ℕ) → is_among x s ≡ true → fresh s (x ∷ []) ≡ s
unfolding fresh
fresh_known s x e = rw e refl

pub fresh_new : (s : List (List ℕ)) (x : List ℕ) → is_among x s ≡ false → fresh s (x ∷ []) ≡ s ++ x ∷ []
unfolding fresh
fresh_new s x e = rw e refl
