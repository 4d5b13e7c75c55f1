-- Worked examples of the state that chose a transition (R-6).
use Rattle.std.specs.Prelude.{◌≡◌, refl, true, List, [], ◌∷◌, ◌++◌, ℕ}
use Rattle.definition.specs.Tables.{no_number, slot_of}
use Rattle.follower.specs.Calls.{starts, posts, runs}
use Rattle.definition.specs.ChartA.{plain_row}
use Rattle.follower.specs.Marked.{at}
use Rattle.follower.specs.Open.{everything}
use Rattle.follower.specs.MarkedRuns.{alike}
use Rattle.worked.specs.Play.{hosts, shown, shown_all, played}

-- chosen twice counts once, by the first in document order; kind 7 ahead of the block
abbrev numbers_first_of_two : List ℕ
numbers_first_of_two =
    (7 ∷ 6 ∷ 4 ∷ 6 ∷ 1 ∷ 9 ∷ []) ++ plain_row 0 no_number no_number ++ plain_row 2 0 0 ++ plain_row 1 1 1 ++ plain_row 1 2 2 ++ plain_row 1 2 3 ++
    plain_row 1 1 4 ++ plain_row 1 5 5 ++ (1 ∷ 0 ∷ 1 ∷ no_number ∷ 0 ∷ 0 ∷ 0 ∷ 0 ∷ 1 ∷ []) ++
    (1 ∷ 1 ∷ 1 ∷ no_number ∷ 0 ∷ 0 ∷ 1 ∷ 0 ∷ 0 ∷ []) ++ (1 ∷ 2 ∷ 1 ∷ no_number ∷ 0 ∷ 1 ∷ 1 ∷ 0 ∷ 0 ∷ []) ++
    (3 ∷ 3 ∷ 1 ∷ no_number ∷ 0 ∷ 2 ∷ 1 ∷ 0 ∷ 0 ∷ []) ++ (5 ∷ 4 ∷ 1 ∷ no_number ∷ 0 ∷ 3 ∷ 1 ∷ 0 ∷ 0 ∷ []) ++
    (6 ∷ 5 ∷ 1 ∷ no_number ∷ 0 ∷ 0 ∷ 0 ∷ 0 ∷ 0 ∷ []) ++ (4 ∷ 6 ∷ 4 ∷ 6 ∷ []) ++ (6 ∷ 7 ∷ 8 ∷ 8 ∷ 7 ∷ 8 ∷ []) ++ hosts 1

-- p, a, a1, a2, c, c1, e, f, g
abbrev names_first_of_two : List ℕ
names_first_of_two =
    slot_of (112 ∷ []) ++ slot_of (97 ∷ []) ++ slot_of (97 ∷ 49 ∷ []) ++ slot_of (97 ∷ 50 ∷ []) ++ slot_of (99 ∷ []) ++ slot_of (99 ∷ 49 ∷ []) ++
    slot_of (101 ∷ []) ++ slot_of (102 ∷ []) ++ slot_of (103 ∷ [])

pub example_first_of_two : alike (played numbers_first_of_two names_first_of_two (starts 200 ∷ posts (101 ∷ []) ∷ runs 1 200 ∷ []))
    ((0 ∷ []) ∷
    (0 ∷ 0 ∷ []) ∷ (at 3 1 ∷ at 3 2 ∷ at 3 3 ∷ at 3 5 ∷ at 3 6 ∷ []) ∷ (1 ∷ 2 ∷ 3 ∷ 5 ∷ 6 ∷ []) ∷
    (101 ∷ 1 ∷ []) ∷ (at 2 0 ∷ at 7 3 ∷ at 4 1 ∷ []) ∷ (1 ∷ 2 ∷ 3 ∷ 5 ∷ 6 ∷ []) ∷ []) ≡ true
unfolding everything shown shown_all played alike
example_first_of_two = refl

-- p's transition, chosen by a1, is removed by c's, chosen by c1
abbrev numbers_removed : List ℕ
numbers_removed =
    (7 ∷ 6 ∷ 4 ∷ 6 ∷ 1 ∷ 9 ∷ []) ++ plain_row 0 no_number no_number ++ plain_row 2 0 0 ++ plain_row 1 1 1 ++ plain_row 1 2 2 ++ plain_row 1 2 3 ++
    plain_row 1 1 4 ++ plain_row 1 5 5 ++ (1 ∷ 0 ∷ 1 ∷ no_number ∷ 0 ∷ 0 ∷ 0 ∷ 0 ∷ 1 ∷ []) ++
    (1 ∷ 1 ∷ 1 ∷ no_number ∷ 0 ∷ 0 ∷ 1 ∷ 0 ∷ 0 ∷ []) ++ (1 ∷ 2 ∷ 1 ∷ no_number ∷ 0 ∷ 1 ∷ 1 ∷ 0 ∷ 0 ∷ []) ++
    (3 ∷ 3 ∷ 1 ∷ no_number ∷ 0 ∷ 2 ∷ 1 ∷ 0 ∷ 0 ∷ []) ++ (5 ∷ 4 ∷ 1 ∷ no_number ∷ 0 ∷ 3 ∷ 1 ∷ 0 ∷ 0 ∷ []) ++
    (6 ∷ 5 ∷ 1 ∷ no_number ∷ 0 ∷ 0 ∷ 0 ∷ 0 ∷ 0 ∷ []) ++ (4 ∷ 6 ∷ 4 ∷ 6 ∷ []) ++ (6 ∷ 7 ∷ 8 ∷ 8 ∷ 7 ∷ 8 ∷ []) ++ hosts 1

-- p, a, a1, a2, c, c1, e, f, g
abbrev names_removed : List ℕ
names_removed =
    slot_of (112 ∷ []) ++ slot_of (97 ∷ []) ++ slot_of (97 ∷ 49 ∷ []) ++ slot_of (97 ∷ 50 ∷ []) ++ slot_of (99 ∷ []) ++ slot_of (99 ∷ 49 ∷ []) ++
    slot_of (101 ∷ []) ++ slot_of (102 ∷ []) ++ slot_of (103 ∷ [])

pub example_removed : alike (played numbers_removed names_removed (starts 200 ∷ posts (102 ∷ []) ∷ runs 1 200 ∷ []))
    ((0 ∷ []) ∷
    (0 ∷ 0 ∷ []) ∷ (at 3 1 ∷ at 3 2 ∷ at 3 3 ∷ at 3 5 ∷ at 3 6 ∷ []) ∷ (1 ∷ 2 ∷ 3 ∷ 5 ∷ 6 ∷ []) ∷
    (101 ∷ 1 ∷ []) ∷ (at 1 6 ∷ at 1 5 ∷ at 1 3 ∷ at 1 2 ∷ at 1 1 ∷ at 2 4 ∷ at 7 6 ∷ at 3 1 ∷ at 3 2 ∷ at 3 3 ∷ at 3 5 ∷ at 3 6 ∷ []) ∷
    (1 ∷ 2 ∷ 3 ∷ 5 ∷ 6 ∷ []) ∷ []) ≡ true
unfolding everything shown shown_all played alike
example_removed = refl

-- two transitions, each with its own chooser, one without targets
abbrev numbers_two_choosers : List ℕ
numbers_two_choosers =
    (7 ∷ 6 ∷ 4 ∷ 6 ∷ 1 ∷ 9 ∷ []) ++ plain_row 0 no_number no_number ++ plain_row 2 0 0 ++ plain_row 1 1 1 ++ plain_row 1 2 2 ++ plain_row 1 2 3 ++
    plain_row 1 1 4 ++ plain_row 1 5 5 ++ (1 ∷ 0 ∷ 1 ∷ no_number ∷ 0 ∷ 0 ∷ 0 ∷ 0 ∷ 1 ∷ []) ++
    (1 ∷ 1 ∷ 1 ∷ no_number ∷ 0 ∷ 0 ∷ 1 ∷ 0 ∷ 0 ∷ []) ++ (1 ∷ 2 ∷ 1 ∷ no_number ∷ 0 ∷ 1 ∷ 1 ∷ 0 ∷ 0 ∷ []) ++
    (3 ∷ 3 ∷ 1 ∷ no_number ∷ 0 ∷ 2 ∷ 1 ∷ 0 ∷ 0 ∷ []) ++ (5 ∷ 4 ∷ 1 ∷ no_number ∷ 0 ∷ 3 ∷ 1 ∷ 0 ∷ 0 ∷ []) ++
    (6 ∷ 5 ∷ 1 ∷ no_number ∷ 0 ∷ 0 ∷ 0 ∷ 0 ∷ 0 ∷ []) ++ (4 ∷ 6 ∷ 4 ∷ 6 ∷ []) ++ (6 ∷ 7 ∷ 8 ∷ 8 ∷ 7 ∷ 8 ∷ []) ++ hosts 1

-- p, a, a1, a2, c, c1, e, f, g
abbrev names_two_choosers : List ℕ
names_two_choosers =
    slot_of (112 ∷ []) ++ slot_of (97 ∷ []) ++ slot_of (97 ∷ 49 ∷ []) ++ slot_of (97 ∷ 50 ∷ []) ++ slot_of (99 ∷ []) ++ slot_of (99 ∷ 49 ∷ []) ++
    slot_of (101 ∷ []) ++ slot_of (102 ∷ []) ++ slot_of (103 ∷ [])

pub example_two_choosers : alike (played numbers_two_choosers names_two_choosers (starts 200 ∷ posts (103 ∷ []) ∷ runs 1 200 ∷ []))
    ((0 ∷ []) ∷
    (0 ∷ 0 ∷ []) ∷ (at 3 1 ∷ at 3 2 ∷ at 3 3 ∷ at 3 5 ∷ at 3 6 ∷ []) ∷ (1 ∷ 2 ∷ 3 ∷ 5 ∷ 6 ∷ []) ∷
    (101 ∷ 1 ∷ []) ∷ (at 1 3 ∷ at 2 3 ∷ at 7 3 ∷ at 2 5 ∷ at 7 6 ∷ at 3 4 ∷ []) ∷ (1 ∷ 2 ∷ 4 ∷ 5 ∷ 6 ∷ []) ∷ []) ≡ true
unfolding everything shown shown_all played alike
example_two_choosers = refl

-- kind 7 entries count towards 10
abbrev numbers_counts : List ℕ
numbers_counts =
    (7 ∷ 6 ∷ 4 ∷ 6 ∷ 1 ∷ 9 ∷ []) ++ plain_row 0 no_number no_number ++ plain_row 2 0 0 ++ plain_row 1 1 1 ++ plain_row 1 2 2 ++ plain_row 1 2 3 ++
    plain_row 1 1 4 ++ plain_row 1 5 5 ++ (1 ∷ 0 ∷ 1 ∷ no_number ∷ 0 ∷ 0 ∷ 0 ∷ 0 ∷ 1 ∷ []) ++
    (1 ∷ 1 ∷ 1 ∷ no_number ∷ 0 ∷ 0 ∷ 1 ∷ 0 ∷ 0 ∷ []) ++ (1 ∷ 2 ∷ 1 ∷ no_number ∷ 0 ∷ 1 ∷ 1 ∷ 0 ∷ 0 ∷ []) ++
    (3 ∷ 3 ∷ 1 ∷ no_number ∷ 0 ∷ 2 ∷ 1 ∷ 0 ∷ 0 ∷ []) ++ (5 ∷ 4 ∷ 1 ∷ no_number ∷ 0 ∷ 3 ∷ 1 ∷ 0 ∷ 0 ∷ []) ++
    (6 ∷ 5 ∷ 1 ∷ no_number ∷ 0 ∷ 0 ∷ 0 ∷ 0 ∷ 0 ∷ []) ++ (4 ∷ 6 ∷ 4 ∷ 6 ∷ []) ++ (6 ∷ 7 ∷ 8 ∷ 8 ∷ 7 ∷ 8 ∷ []) ++ hosts 1

-- p, a, a1, a2, c, c1, e, f, g
abbrev names_counts : List ℕ
names_counts =
    slot_of (112 ∷ []) ++ slot_of (97 ∷ []) ++ slot_of (97 ∷ 49 ∷ []) ++ slot_of (97 ∷ 50 ∷ []) ++ slot_of (99 ∷ []) ++ slot_of (99 ∷ 49 ∷ []) ++
    slot_of (101 ∷ []) ++ slot_of (102 ∷ []) ++ slot_of (103 ∷ [])

pub example_counts : alike (played numbers_counts names_counts (starts 200 ∷ posts (101 ∷ []) ∷ runs 1 2 ∷ runs 1 3 ∷ []))
    ((0 ∷ []) ∷
    (0 ∷ 0 ∷ []) ∷ (at 3 1 ∷ at 3 2 ∷ at 3 3 ∷ at 3 5 ∷ at 3 6 ∷ []) ∷ (1 ∷ 2 ∷ 3 ∷ 5 ∷ 6 ∷ []) ∷
    (10 ∷ 0 ∷ []) ∷ [] ∷ (1 ∷ 2 ∷ 3 ∷ 5 ∷ 6 ∷ []) ∷
    (101 ∷ 1 ∷ []) ∷ (at 2 0 ∷ at 7 3 ∷ at 4 1 ∷ []) ∷ (1 ∷ 2 ∷ 3 ∷ 5 ∷ 6 ∷ []) ∷ []) ≡ true
unfolding everything shown shown_all played alike
example_counts = refl
