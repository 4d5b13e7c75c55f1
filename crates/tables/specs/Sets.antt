-- A set of rows put into four words of a place.
use Rattle.std.specs.Prelude.{◌≡◌, List, [], ◌∷◌, ◌++◌, ℕ, suc, ◌+◌, ◌≤◌, length, set, take, drop}
use Rattle.std.proofs.Common.{◌∙◌, append_assoc, arith}
use Rattle.std.proofs.lemmas.List.Edits.{sets-eq}
use Rattle.definition.specs.Compiled.{words}
use Rattle.rowset.specs.declared.RowSet.{RowSet}
use Rattle.rowset.specs.Member.{rows_of, Fitting}
use Rattle.rowset.specs.Rows.{words_of_rows}

-- the place with the set of a list from w on
unfoldable pub put_at : List ℕ → ℕ → List ℕ → List ℕ
put_at sets w xs = take w sets ++ (words xs ++ drop (w + 4) sets)

-- four words written one after the other
pub set_words : (sets : List ℕ) (w : ℕ) (s : RowSet) → Fitting s → w + 4 ≤ length sets →
    set (set (set (set sets w s.w0) (w + 1) s.w1) (w + 2) s.w2) (w + 3) s.w3 ≡ put_at sets w (rows_of s)
unfolding put_at
set_words sets w s f l =
    let e1 : w + 1 ≡ suc w = omega arith in
    let e2 : w + 2 ≡ suc (suc w) = omega arith in
    let e3 : w + 3 ≡ suc (suc (suc w)) = omega arith in
    rw (words_of_rows s f, e1, e2, e3) (sets-eq (s.w0 ∷ s.w1 ∷ s.w2 ∷ s.w3 ∷ []) sets w l ∙ append_assoc (take w sets) (s.w0 ∷ s.w1 ∷ s.w2 ∷ s.w3 ∷ []) (drop (w + 4) sets))
