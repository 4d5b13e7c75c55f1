-- Facts one behind the other: what is gathered of them is gathered of each part. A walk over the tags adds up so.
use Rattle.std.specs.Prelude.{◌≡◌, refl, Bool, true, false, cond, List, [], ◌∷◌, ◌++◌, ℕ, suc, ◌+◌, eqb, length}
use Rattle.std.proofs.Common.{sym, ap, ◌∙◌, append_assoc, arith}
use Rattle.reading.specs.Content.{Act, Row, Fact, row_fact, list_fact, transition_fact, action_fact, is_block, acts_in, list_of, rows_from, transitions_from}

-- ---- actions and lists

pub acts_append : (p i : ℕ) (fs gs : List Fact) → acts_in p i (fs ++ gs) ≡ acts_in p i fs ++ acts_in p i gs
unfolding acts_in
acts_append p i [] gs = refl
acts_append p i (row_fact k q n l ∷ fs) gs = acts_append p i fs gs
acts_append p i (list_fact j l ∷ fs) gs = acts_append p i fs gs
acts_append p i (transition_fact s d c y g ∷ fs) gs = acts_append p i fs gs
acts_append p i (action_fact k a ∷ fs) gs = by (is_block p i k) (acts_append p i fs gs)
  where
    by : (z : Bool) → acts_in p i (fs ++ gs) ≡ acts_in p i fs ++ acts_in p i gs →
        cond z (a ∷ acts_in p i (fs ++ gs)) (acts_in p i (fs ++ gs)) ≡ cond z (a ∷ acts_in p i fs) (acts_in p i fs) ++ acts_in p i gs
    by true h = ap (λ (l : List Act). a ∷ l) h
    by false h = h

pub list_append : (i : ℕ) (fs gs : List Fact) → list_of i (fs ++ gs) ≡ list_of i fs ++ list_of i gs
unfolding list_of
list_append i [] gs = refl
list_append i (row_fact k q n l ∷ fs) gs = list_append i fs gs
list_append i (list_fact j l ∷ fs) gs = by (eqb i j) (list_append i fs gs)
  where
    by : (z : Bool) → list_of i (fs ++ gs) ≡ list_of i fs ++ list_of i gs →
        cond z (l ++ list_of i (fs ++ gs)) (list_of i (fs ++ gs)) ≡ cond z (l ++ list_of i fs) (list_of i fs) ++ list_of i gs
    by true h = ap (λ (r : List ℕ). l ++ r) h ∙ sym (append_assoc l (list_of i fs) (list_of i gs))
    by false h = h
list_append i (transition_fact s d c y g ∷ fs) gs = list_append i fs gs
list_append i (action_fact k a ∷ fs) gs = list_append i fs gs

-- ---- rows and transitions: how many there are, and their order

unfoldable pub row_facts : List Fact → ℕ
row_facts [] = 0
row_facts (row_fact k q n l ∷ fs) = suc (row_facts fs)
row_facts (list_fact j l ∷ fs) = row_facts fs
row_facts (transition_fact s d c y g ∷ fs) = row_facts fs
row_facts (action_fact k a ∷ fs) = row_facts fs

unfoldable pub transition_facts : List Fact → ℕ
transition_facts [] = 0
transition_facts (row_fact k q n l ∷ fs) = transition_facts fs
transition_facts (list_fact j l ∷ fs) = transition_facts fs
transition_facts (transition_fact s d c y g ∷ fs) = suc (transition_facts fs)
transition_facts (action_fact k a ∷ fs) = transition_facts fs

pub rows_length : (whole : List Fact) (i : ℕ) (fs : List Fact) → length (rows_from whole i fs) ≡ row_facts fs
unfolding rows_from row_facts
rows_length whole i [] = refl
rows_length whole i (row_fact k q n l ∷ fs) = ap suc (rows_length whole (suc i) fs)
rows_length whole i (list_fact j l ∷ fs) = rows_length whole i fs
rows_length whole i (transition_fact s d c y g ∷ fs) = rows_length whole i fs
rows_length whole i (action_fact k a ∷ fs) = rows_length whole i fs

pub transitions_length : (whole : List Fact) (i : ℕ) (fs : List Fact) → length (transitions_from whole i fs) ≡ transition_facts fs
unfolding transitions_from transition_facts
transitions_length whole i [] = refl
transitions_length whole i (row_fact k q n l ∷ fs) = transitions_length whole i fs
transitions_length whole i (list_fact j l ∷ fs) = transitions_length whole i fs
transitions_length whole i (transition_fact s d c y g ∷ fs) = ap suc (transitions_length whole (suc i) fs)
transitions_length whole i (action_fact k a ∷ fs) = transitions_length whole i fs

pub row_facts_append : (fs gs : List Fact) → row_facts (fs ++ gs) ≡ row_facts fs + row_facts gs
unfolding row_facts
row_facts_append [] gs = omega arith
row_facts_append (row_fact k q n l ∷ fs) gs = let h = row_facts_append fs gs in omega arith
row_facts_append (list_fact j l ∷ fs) gs = row_facts_append fs gs
row_facts_append (transition_fact s d c y g ∷ fs) gs = row_facts_append fs gs
row_facts_append (action_fact k a ∷ fs) gs = row_facts_append fs gs

pub transition_facts_append : (fs gs : List Fact) → transition_facts (fs ++ gs) ≡ transition_facts fs + transition_facts gs
unfolding transition_facts
transition_facts_append [] gs = omega arith
transition_facts_append (row_fact k q n l ∷ fs) gs = transition_facts_append fs gs
transition_facts_append (list_fact j l ∷ fs) gs = transition_facts_append fs gs
transition_facts_append (transition_fact s d c y g ∷ fs) gs = let h = transition_facts_append fs gs in omega arith
transition_facts_append (action_fact k a ∷ fs) gs = transition_facts_append fs gs

-- the rows of facts one behind the other, the second numbered on
pub rows_append : (whole : List Fact) (i : ℕ) (fs gs : List Fact) → rows_from whole i (fs ++ gs) ≡ rows_from whole i fs ++ rows_from whole (i + row_facts fs) gs
unfolding rows_from row_facts
rows_append whole i [] gs = ap (λ (k : ℕ). rows_from whole k gs) (plus i)
  where
    plus : (k : ℕ) → k ≡ k + 0
    plus k = omega arith
rows_append whole i (row_fact k q n l ∷ fs) gs =
    let r : Row = record { kind = k; parent = q; id = n; entry = acts_in 1 i whole; exit = acts_in 2 i whole; list = l ++ list_of i whole; block = acts_in 3 i whole } in
    ap (λ (rs : List Row). r ∷ rs) (rows_append whole (suc i) fs gs ∙ ap (λ (m : ℕ). rows_from whole (suc i) fs ++ rows_from whole m gs) (shift i (row_facts fs)))
  where
    shift : (a b : ℕ) → suc a + b ≡ a + suc b
    shift a b = omega arith
rows_append whole i (list_fact j l ∷ fs) gs = rows_append whole i fs gs
rows_append whole i (transition_fact s d c y g ∷ fs) gs = rows_append whole i fs gs
rows_append whole i (action_fact k a ∷ fs) gs = rows_append whole i fs gs
