-- Chart A by its tables, and the names of its events.
use Rattle.std.specs.Prelude.{List, [], ◌∷◌, ◌++◌, ℕ, replicate}
use Rattle.definition.specs.Rows.{flat}
use Rattle.definition.specs.Names.{Name, done_name}
use Rattle.definition.specs.Tables.{no_number, slot_of}

-- ---- chart A, "the parallel example of section 3.1.3" (95)

-- a row with empty blocks and an empty list, by kind, parent and id
abbrev pub plain_row : ℕ → ℕ → ℕ → List ℕ
plain_row k p n = k ∷ p ∷ n ∷ replicate 8 0

-- an external transition on one descriptor to one target, with no block; its cells in the two tables have one number
abbrev pub plain_transition : ℕ → ℕ → List ℕ
plain_transition s k = s ∷ k ∷ 1 ∷ no_number ∷ 0 ∷ k ∷ 1 ∷ 0 ∷ 0 ∷ []

abbrev pub numbers_a : List ℕ
numbers_a =
    (11 ∷ 5 ∷ 5 ∷ 5 ∷ 0 ∷ 14 ∷ []) ++ plain_row 0 no_number no_number ++ plain_row 2 0 0 ++ plain_row 1 1 1 ++ plain_row 1 2 2 ++ plain_row 1 2 3 ++
    plain_row 3 2 4 ++ plain_row 1 1 5 ++ plain_row 1 6 6 ++ plain_row 1 6 7 ++ plain_row 3 6 8 ++ plain_row 1 0 9 ++ plain_transition 1 0 ++
    plain_transition 3 1 ++ plain_transition 4 2 ++ plain_transition 7 3 ++ plain_transition 8 4 ++ (10 ∷ 4 ∷ 5 ∷ 8 ∷ 9 ∷ []) ++
    (10 ∷ 11 ∷ 12 ∷ 12 ∷ 13 ∷ [])

abbrev pub e1 : Name
e1 = 101 ∷ 49 ∷ []

abbrev pub e2 : Name
e2 = 101 ∷ 50 ∷ []

abbrev pub e4 : Name
e4 = 101 ∷ 52 ∷ []

-- p, S1, S11, S12, S1Final, S2, S21, S22, S2Final; the id of row 10; done.state.p, e4, e1, e2
abbrev pub names_with : Name → List ℕ
names_with other =
    flat slot_of
    ((112 ∷ []) ∷ (83 ∷ 49 ∷ []) ∷ (83 ∷ 49 ∷ 49 ∷ []) ∷ (83 ∷ 49 ∷ 50 ∷ []) ∷ (83 ∷ 49 ∷ 70 ∷ 105 ∷ 110 ∷ 97 ∷ 108 ∷ []) ∷
    (83 ∷ 50 ∷ []) ∷ (83 ∷ 50 ∷ 49 ∷ []) ∷ (83 ∷ 50 ∷ 50 ∷ []) ∷ (83 ∷ 50 ∷ 70 ∷ 105 ∷ 110 ∷ 97 ∷ 108 ∷ []) ∷ other ∷
    done_name (112 ∷ []) ∷ e4 ∷ e1 ∷ e2 ∷ [])

-- someOtherState
abbrev pub names_a : List ℕ
names_a = names_with (115 ∷ 111 ∷ 109 ∷ 101 ∷ 79 ∷ 116 ∷ 104 ∷ 101 ∷ 114 ∷ 83 ∷ 116 ∷ 97 ∷ 116 ∷ 101 ∷ [])
