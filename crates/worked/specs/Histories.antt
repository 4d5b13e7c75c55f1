-- Worked examples of a history in an initial list (R-3).
use Rattle.std.specs.Prelude.{◌≡◌, refl, true, List, [], ◌∷◌, ◌++◌, ℕ}
use Rattle.definition.specs.Tables.{no_number, slot_of}
use Rattle.definition.specs.Rules.{keeps_rules}
use Rattle.definition.specs.Answers.{answer_no}
use Rattle.follower.specs.Calls.{starts, posts, runs}
use Rattle.definition.specs.ChartA.{plain_row}
use Rattle.follower.specs.Marked.{at}
use Rattle.follower.specs.Open.{everything}
use Rattle.follower.specs.MarkedRuns.{alike}
use Rattle.worked.specs.Play.{hosts, shown, shown_all, played}

-- own history, nothing stored: entry, initial, default block, then the default list
abbrev numbers_own_fallen : List ℕ
numbers_own_fallen =
    (6 ∷ 0 ∷ 2 ∷ 0 ∷ 3 ∷ 5 ∷ []) ++ plain_row 0 no_number no_number ++ (1 ∷ 0 ∷ 0 ∷ 0 ∷ 1 ∷ 0 ∷ 0 ∷ 0 ∷ 1 ∷ 1 ∷ 1 ∷ []) ++ plain_row 1 1 1 ++
    plain_row 1 1 2 ++ (4 ∷ 1 ∷ 3 ∷ 0 ∷ 0 ∷ 0 ∷ 0 ∷ 1 ∷ 1 ∷ 2 ∷ 1 ∷ []) ++ plain_row 1 0 4 ++ (4 ∷ 3 ∷ []) ++ hosts 1 ++ hosts 2 ++ hosts 3

-- s, a, b, h, z
abbrev names_own_fallen : List ℕ
names_own_fallen =
    slot_of (115 ∷ []) ++ slot_of (97 ∷ []) ++ slot_of (98 ∷ []) ++ slot_of (104 ∷ []) ++ slot_of (122 ∷ [])

pub example_own_fallen : alike (played numbers_own_fallen names_own_fallen (starts 200 ∷ []))
    ((0 ∷ []) ∷
    (0 ∷ 0 ∷ []) ∷ (at 3 1 ∷ at 4 1 ∷ at 4 2 ∷ at 4 3 ∷ at 3 3 ∷ []) ∷ (1 ∷ 3 ∷ []) ∷ []) ≡ true
unfolding everything shown shown_all played alike
example_own_fallen = refl

-- own history, stored: the initial block runs, the default block does not
abbrev numbers_own_stored : List ℕ
numbers_own_stored =
    (6 ∷ 3 ∷ 5 ∷ 3 ∷ 3 ∷ 8 ∷ []) ++ plain_row 0 no_number no_number ++ (1 ∷ 0 ∷ 0 ∷ 0 ∷ 1 ∷ 0 ∷ 0 ∷ 0 ∷ 1 ∷ 1 ∷ 1 ∷ []) ++ plain_row 1 1 1 ++
    plain_row 1 1 2 ++ (4 ∷ 1 ∷ 3 ∷ 0 ∷ 0 ∷ 0 ∷ 0 ∷ 1 ∷ 1 ∷ 2 ∷ 1 ∷ []) ++ plain_row 1 0 4 ++
    (1 ∷ 0 ∷ 1 ∷ no_number ∷ 0 ∷ 2 ∷ 1 ∷ 0 ∷ 0 ∷ []) ++ (3 ∷ 1 ∷ 1 ∷ no_number ∷ 0 ∷ 3 ∷ 1 ∷ 0 ∷ 0 ∷ []) ++
    (5 ∷ 2 ∷ 1 ∷ no_number ∷ 0 ∷ 4 ∷ 1 ∷ 0 ∷ 0 ∷ []) ++ (4 ∷ 3 ∷ 5 ∷ 2 ∷ 1 ∷ []) ++ (5 ∷ 6 ∷ 7 ∷ []) ++ hosts 1 ++ hosts 2 ++ hosts 3

-- s, a, b, h, z, out, e, in
abbrev names_own_stored : List ℕ
names_own_stored =
    slot_of (115 ∷ []) ++ slot_of (97 ∷ []) ++ slot_of (98 ∷ []) ++ slot_of (104 ∷ []) ++ slot_of (122 ∷ []) ++ slot_of (111 ∷ 117 ∷ 116 ∷ []) ++
    slot_of (101 ∷ []) ++ slot_of (105 ∷ 110 ∷ [])

pub example_own_stored : alike (played numbers_own_stored names_own_stored (starts 200 ∷ posts (101 ∷ []) ∷ posts (111 ∷ 117 ∷ 116 ∷ []) ∷ posts (105 ∷ 110 ∷ []) ∷ runs 9 200 ∷ []))
    ((0 ∷ []) ∷
    (0 ∷ 0 ∷ []) ∷ (at 3 1 ∷ at 4 1 ∷ at 4 2 ∷ at 4 3 ∷ at 3 3 ∷ []) ∷ (1 ∷ 3 ∷ []) ∷
    (101 ∷ 3 ∷ []) ∷ (at 1 3 ∷ at 2 1 ∷ at 7 3 ∷ at 3 2 ∷ at 1 2 ∷ at 1 1 ∷ at 2 0 ∷ at 7 2 ∷ at 3 5 ∷ at 1 5 ∷ at 2 2 ∷ at 7 5 ∷ at 3 1 ∷
    at 4 1 ∷ at 4 2 ∷ at 3 2 ∷ []) ∷ (1 ∷ 2 ∷ []) ∷ []) ≡ true
unfolding everything shown shown_all played alike
example_own_stored = refl

-- the history as this round's exits left it: an external self transition restores what it exits
abbrev numbers_left_by_exits : List ℕ
numbers_left_by_exits =
    (6 ∷ 2 ∷ 4 ∷ 2 ∷ 3 ∷ 7 ∷ []) ++ plain_row 0 no_number no_number ++ (1 ∷ 0 ∷ 0 ∷ 0 ∷ 1 ∷ 0 ∷ 0 ∷ 0 ∷ 1 ∷ 1 ∷ 1 ∷ []) ++ plain_row 1 1 1 ++
    plain_row 1 1 2 ++ (4 ∷ 1 ∷ 3 ∷ 0 ∷ 0 ∷ 0 ∷ 0 ∷ 1 ∷ 1 ∷ 2 ∷ 1 ∷ []) ++ plain_row 1 0 4 ++
    (1 ∷ 0 ∷ 1 ∷ no_number ∷ 0 ∷ 2 ∷ 1 ∷ 0 ∷ 0 ∷ []) ++ (3 ∷ 1 ∷ 1 ∷ no_number ∷ 0 ∷ 3 ∷ 1 ∷ 0 ∷ 0 ∷ []) ++ (4 ∷ 3 ∷ 1 ∷ 2 ∷ []) ++
    (5 ∷ 6 ∷ []) ++ hosts 1 ++ hosts 2 ++ hosts 3

-- s, a, b, h, z, again, e
abbrev names_left_by_exits : List ℕ
names_left_by_exits =
    slot_of (115 ∷ []) ++ slot_of (97 ∷ []) ++ slot_of (98 ∷ []) ++ slot_of (104 ∷ []) ++ slot_of (122 ∷ []) ++
    slot_of (97 ∷ 103 ∷ 97 ∷ 105 ∷ 110 ∷ []) ++ slot_of (101 ∷ [])

pub example_left_by_exits : alike (played numbers_left_by_exits names_left_by_exits (starts 200 ∷ posts (101 ∷ []) ∷ posts (97 ∷ 103 ∷ 97 ∷ 105 ∷ 110 ∷ []) ∷ runs 9 200 ∷ []))
    ((0 ∷ []) ∷
    (0 ∷ 0 ∷ []) ∷ (at 3 1 ∷ at 4 1 ∷ at 4 2 ∷ at 4 3 ∷ at 3 3 ∷ []) ∷ (1 ∷ 3 ∷ []) ∷
    (101 ∷ 2 ∷ []) ∷ (at 1 3 ∷ at 2 1 ∷ at 7 3 ∷ at 3 2 ∷ at 1 2 ∷ at 1 1 ∷ at 2 0 ∷ at 7 2 ∷ at 3 1 ∷ at 4 1 ∷ at 4 2 ∷ at 3 2 ∷ []) ∷
    (1 ∷ 2 ∷ []) ∷ []) ≡ true
unfolding everything shown shown_all played alike
example_left_by_exits = refl

-- a history of a descendant: the default block in that row's entry, its own initial block not
abbrev numbers_descendant : List ℕ
numbers_descendant =
    (7 ∷ 0 ∷ 3 ∷ 0 ∷ 5 ∷ 6 ∷ []) ++ plain_row 0 no_number no_number ++ (1 ∷ 0 ∷ 0 ∷ 0 ∷ 1 ∷ 0 ∷ 0 ∷ 0 ∷ 1 ∷ 1 ∷ 1 ∷ []) ++ plain_row 1 1 1 ++
    (1 ∷ 1 ∷ 2 ∷ 2 ∷ 1 ∷ 0 ∷ 0 ∷ 1 ∷ 1 ∷ 3 ∷ 1 ∷ []) ++ plain_row 1 3 3 ++ plain_row 1 3 4 ++
    (4 ∷ 3 ∷ 5 ∷ 0 ∷ 0 ∷ 0 ∷ 0 ∷ 2 ∷ 1 ∷ 4 ∷ 1 ∷ []) ++ (6 ∷ 4 ∷ 5 ∷ []) ++ hosts 1 ++ hosts 2 ++ hosts 4 ++ hosts 5 ++ hosts 3

-- s, a, q, q1, q2, h
abbrev names_descendant : List ℕ
names_descendant =
    slot_of (115 ∷ []) ++ slot_of (97 ∷ []) ++ slot_of (113 ∷ []) ++ slot_of (113 ∷ 49 ∷ []) ++ slot_of (113 ∷ 50 ∷ []) ++ slot_of (104 ∷ [])

pub example_descendant : alike (played numbers_descendant names_descendant (starts 200 ∷ []))
    ((0 ∷ []) ∷
    (0 ∷ 0 ∷ []) ∷ (at 3 1 ∷ at 4 1 ∷ at 4 2 ∷ at 3 3 ∷ at 4 4 ∷ at 4 3 ∷ at 3 5 ∷ []) ∷ (1 ∷ 3 ∷ 5 ∷ []) ∷ []) ≡ true
unfolding everything shown shown_all played alike
example_descendant = refl

-- a history of a parallel below; the other region comes by its own initial list, which names its own history
abbrev numbers_parallel : List ℕ
numbers_parallel =
    (11 ∷ 0 ∷ 4 ∷ 0 ∷ 4 ∷ 10 ∷ []) ++ plain_row 0 no_number no_number ++ (1 ∷ 0 ∷ 0 ∷ 0 ∷ 0 ∷ 0 ∷ 0 ∷ 0 ∷ 1 ∷ 0 ∷ 0 ∷ []) ++
    (2 ∷ 1 ∷ 1 ∷ 0 ∷ 1 ∷ 0 ∷ 0 ∷ 0 ∷ 0 ∷ 0 ∷ 0 ∷ []) ++ (1 ∷ 2 ∷ 2 ∷ 0 ∷ 0 ∷ 0 ∷ 0 ∷ 1 ∷ 1 ∷ 1 ∷ 1 ∷ []) ++ plain_row 1 3 3 ++
    plain_row 1 3 4 ++ (4 ∷ 3 ∷ 5 ∷ 0 ∷ 0 ∷ 0 ∷ 0 ∷ 2 ∷ 1 ∷ 2 ∷ 1 ∷ []) ++ plain_row 1 2 6 ++ plain_row 1 7 7 ++ plain_row 1 7 8 ++
    (5 ∷ 2 ∷ 9 ∷ 0 ∷ 0 ∷ 0 ∷ 0 ∷ 3 ∷ 1 ∷ 3 ∷ 1 ∷ []) ++ (10 ∷ 6 ∷ 5 ∷ 9 ∷ []) ++ hosts 4 ++ hosts 5 ++ hosts 6 ++ hosts 3

-- s, p, c, c1, c2, hc, d, d1, d2, h
abbrev names_parallel : List ℕ
names_parallel =
    slot_of (115 ∷ []) ++ slot_of (112 ∷ []) ++ slot_of (99 ∷ []) ++ slot_of (99 ∷ 49 ∷ []) ++ slot_of (99 ∷ 50 ∷ []) ++
    slot_of (104 ∷ 99 ∷ []) ++ slot_of (100 ∷ []) ++ slot_of (100 ∷ 49 ∷ []) ++ slot_of (100 ∷ 50 ∷ []) ++ slot_of (104 ∷ [])

pub example_parallel : alike (played numbers_parallel names_parallel (starts 200 ∷ []))
    ((0 ∷ []) ∷
    (0 ∷ 0 ∷ []) ∷ (at 3 1 ∷ at 3 2 ∷ at 4 4 ∷ at 4 3 ∷ at 3 3 ∷ at 4 5 ∷ at 4 6 ∷ at 3 5 ∷ at 3 7 ∷ at 3 9 ∷ []) ∷
    (1 ∷ 2 ∷ 3 ∷ 5 ∷ 7 ∷ 9 ∷ []) ∷ []) ≡ true
unfolding everything shown shown_all played alike
example_parallel = refl

-- the root's initial list names a history: default block in the parent's entry, no initial block above it
abbrev numbers_root : List ℕ
numbers_root =
    (7 ∷ 0 ∷ 4 ∷ 0 ∷ 5 ∷ 6 ∷ []) ++ (0 ∷ no_number ∷ no_number ∷ 0 ∷ 0 ∷ 0 ∷ 0 ∷ 0 ∷ 1 ∷ 0 ∷ 0 ∷ []) ++
    (1 ∷ 0 ∷ 0 ∷ 0 ∷ 1 ∷ 0 ∷ 0 ∷ 1 ∷ 1 ∷ 1 ∷ 1 ∷ []) ++ plain_row 1 1 1 ++ (1 ∷ 1 ∷ 2 ∷ 2 ∷ 1 ∷ 0 ∷ 0 ∷ 2 ∷ 1 ∷ 3 ∷ 1 ∷ []) ++
    plain_row 1 3 3 ++ plain_row 1 3 4 ++ (4 ∷ 3 ∷ 5 ∷ 0 ∷ 0 ∷ 0 ∷ 0 ∷ 3 ∷ 1 ∷ 4 ∷ 1 ∷ []) ++ (6 ∷ 6 ∷ 4 ∷ 5 ∷ []) ++ hosts 1 ++ hosts 2 ++
    hosts 4 ++ hosts 5 ++ hosts 3

-- s, a, q, q1, q2, h
abbrev names_root : List ℕ
names_root =
    slot_of (115 ∷ []) ++ slot_of (97 ∷ []) ++ slot_of (113 ∷ []) ++ slot_of (113 ∷ 49 ∷ []) ++ slot_of (113 ∷ 50 ∷ []) ++ slot_of (104 ∷ [])

pub example_root : alike (played numbers_root names_root (starts 200 ∷ []))
    ((0 ∷ []) ∷
    (0 ∷ 0 ∷ []) ∷ (at 3 1 ∷ at 4 1 ∷ at 3 3 ∷ at 4 4 ∷ at 4 3 ∷ at 3 5 ∷ []) ∷ (1 ∷ 3 ∷ 5 ∷ []) ∷ []) ≡ true
unfolding everything shown shown_all played alike
example_root = refl

-- the owner's own history beside another row: 4
abbrev numbers_own_not_alone : List ℕ
numbers_own_not_alone =
    (6 ∷ 0 ∷ 3 ∷ 0 ∷ 2 ∷ 5 ∷ []) ++ plain_row 0 no_number no_number ++ (1 ∷ 0 ∷ 0 ∷ 0 ∷ 1 ∷ 0 ∷ 0 ∷ 0 ∷ 2 ∷ 0 ∷ 0 ∷ []) ++ plain_row 1 1 1 ++
    plain_row 1 1 2 ++ (4 ∷ 1 ∷ 3 ∷ 0 ∷ 0 ∷ 0 ∷ 0 ∷ 2 ∷ 1 ∷ 1 ∷ 1 ∷ []) ++ plain_row 1 0 4 ++ (4 ∷ 2 ∷ 3 ∷ []) ++ hosts 1 ++ hosts 3

-- s, a, b, h, z
abbrev names_own_not_alone : List ℕ
names_own_not_alone =
    slot_of (115 ∷ []) ++ slot_of (97 ∷ []) ++ slot_of (98 ∷ []) ++ slot_of (104 ∷ []) ++ slot_of (122 ∷ [])

pub example_own_not_alone : answer_no (keeps_rules numbers_own_not_alone names_own_not_alone) ≡ 4
unfolding everything
example_own_not_alone = refl

-- a history and a row below its parent: 4
abbrev numbers_below_parent : List ℕ
numbers_below_parent =
    (7 ∷ 0 ∷ 4 ∷ 0 ∷ 4 ∷ 6 ∷ []) ++ plain_row 0 no_number no_number ++ (1 ∷ 0 ∷ 0 ∷ 0 ∷ 1 ∷ 0 ∷ 0 ∷ 0 ∷ 2 ∷ 0 ∷ 0 ∷ []) ++ plain_row 1 1 1 ++
    (1 ∷ 1 ∷ 2 ∷ 1 ∷ 1 ∷ 0 ∷ 0 ∷ 2 ∷ 1 ∷ 2 ∷ 1 ∷ []) ++ plain_row 1 3 3 ++ plain_row 1 3 4 ++
    (4 ∷ 3 ∷ 5 ∷ 0 ∷ 0 ∷ 0 ∷ 0 ∷ 3 ∷ 1 ∷ 3 ∷ 1 ∷ []) ++ (6 ∷ 4 ∷ 4 ∷ 5 ∷ []) ++ hosts 1 ++ hosts 4 ++ hosts 5 ++ hosts 3

-- s, a, q, q1, q2, h
abbrev names_below_parent : List ℕ
names_below_parent =
    slot_of (115 ∷ []) ++ slot_of (97 ∷ []) ++ slot_of (113 ∷ []) ++ slot_of (113 ∷ 49 ∷ []) ++ slot_of (113 ∷ 50 ∷ []) ++ slot_of (104 ∷ [])

pub example_below_parent : answer_no (keeps_rules numbers_below_parent names_below_parent) ≡ 4
unfolding everything
example_below_parent = refl

-- two histories of one row: 4
abbrev numbers_two_of_one : List ℕ
numbers_two_of_one =
    (8 ∷ 0 ∷ 5 ∷ 0 ∷ 4 ∷ 7 ∷ []) ++ plain_row 0 no_number no_number ++ (1 ∷ 0 ∷ 0 ∷ 0 ∷ 1 ∷ 0 ∷ 0 ∷ 0 ∷ 2 ∷ 0 ∷ 0 ∷ []) ++ plain_row 1 1 1 ++
    (1 ∷ 1 ∷ 2 ∷ 1 ∷ 1 ∷ 0 ∷ 0 ∷ 2 ∷ 1 ∷ 2 ∷ 1 ∷ []) ++ plain_row 1 3 3 ++ plain_row 1 3 4 ++
    (4 ∷ 3 ∷ 5 ∷ 0 ∷ 0 ∷ 0 ∷ 0 ∷ 3 ∷ 1 ∷ 3 ∷ 1 ∷ []) ++ (5 ∷ 3 ∷ 6 ∷ 0 ∷ 0 ∷ 0 ∷ 0 ∷ 4 ∷ 1 ∷ 0 ∷ 0 ∷ []) ++ (6 ∷ 7 ∷ 4 ∷ 5 ∷ 4 ∷ []) ++
    hosts 1 ++ hosts 4 ++ hosts 5 ++ hosts 3

-- s, a, q, q1, q2, h, h2
abbrev names_two_of_one : List ℕ
names_two_of_one =
    slot_of (115 ∷ []) ++ slot_of (97 ∷ []) ++ slot_of (113 ∷ []) ++ slot_of (113 ∷ 49 ∷ []) ++ slot_of (113 ∷ 50 ∷ []) ++ slot_of (104 ∷ []) ++
    slot_of (104 ∷ 50 ∷ [])

pub example_two_of_one : answer_no (keeps_rules numbers_two_of_one names_two_of_one) ≡ 4
unfolding everything
example_two_of_one = refl

-- a history that stands outside the owner: 4
abbrev numbers_outside : List ℕ
numbers_outside =
    (6 ∷ 0 ∷ 2 ∷ 0 ∷ 0 ∷ 5 ∷ []) ++ plain_row 0 no_number no_number ++ (1 ∷ 0 ∷ 0 ∷ 0 ∷ 0 ∷ 0 ∷ 0 ∷ 0 ∷ 1 ∷ 0 ∷ 0 ∷ []) ++ plain_row 1 1 1 ++
    plain_row 1 0 2 ++ plain_row 1 3 3 ++ (4 ∷ 3 ∷ 4 ∷ 0 ∷ 0 ∷ 0 ∷ 0 ∷ 1 ∷ 1 ∷ 0 ∷ 0 ∷ []) ++ (5 ∷ 4 ∷ [])

-- s, a, q, q1, h
abbrev names_outside : List ℕ
names_outside =
    slot_of (115 ∷ []) ++ slot_of (97 ∷ []) ++ slot_of (113 ∷ []) ++ slot_of (113 ∷ 49 ∷ []) ++ slot_of (104 ∷ [])

pub example_outside : answer_no (keeps_rules numbers_outside names_outside) ≡ 4
unfolding everything
example_outside = refl

-- a default list still holds no history: 4
abbrev numbers_in_default : List ℕ
numbers_in_default =
    (5 ∷ 0 ∷ 2 ∷ 0 ∷ 0 ∷ 4 ∷ []) ++ plain_row 0 no_number no_number ++ plain_row 1 0 0 ++ plain_row 1 1 1 ++
    (4 ∷ 1 ∷ 2 ∷ 0 ∷ 0 ∷ 0 ∷ 0 ∷ 0 ∷ 1 ∷ 0 ∷ 0 ∷ []) ++ (5 ∷ 1 ∷ 3 ∷ 0 ∷ 0 ∷ 0 ∷ 0 ∷ 1 ∷ 1 ∷ 0 ∷ 0 ∷ []) ++ (2 ∷ 3 ∷ [])

-- s, a, h, g
abbrev names_in_default : List ℕ
names_in_default =
    slot_of (115 ∷ []) ++ slot_of (97 ∷ []) ++ slot_of (104 ∷ []) ++ slot_of (103 ∷ [])

pub example_in_default : answer_no (keeps_rules numbers_in_default names_in_default) ≡ 4
unfolding everything
example_in_default = refl
