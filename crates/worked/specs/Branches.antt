-- Worked examples of if, elseif and else in blocks (R-5).
use Rattle.std.specs.Prelude.{◌≡◌, refl, true, List, [], ◌∷◌, ◌++◌, ℕ}
use Rattle.definition.specs.Tables.{no_number, slot_of}
use Rattle.definition.specs.Rules.{keeps_rules}
use Rattle.definition.specs.Answers.{answer_no}
use Rattle.follower.specs.Calls.{starts, posts, runs}
use Rattle.definition.specs.ChartA.{plain_row}
use Rattle.follower.specs.Marked.{at}
use Rattle.follower.specs.Open.{everything}
use Rattle.follower.specs.MarkedRuns.{alike}
use Rattle.worked.specs.Play.{raises, hosts, if_in, else_if_in, otherwise, ends, shown, shown_all, played}

-- exit blocks: those exited before are not active, the row itself is; transition: neither; entry: those entered so far
abbrev numbers_moments : List ℕ
numbers_moments =
    (6 ∷ 1 ∷ 1 ∷ 1 ∷ 52 ∷ 6 ∷ []) ++ plain_row 0 no_number no_number ++ (2 ∷ 0 ∷ 0 ∷ 0 ∷ 0 ∷ 0 ∷ 9 ∷ 0 ∷ 0 ∷ 0 ∷ 0 ∷ []) ++
    (1 ∷ 1 ∷ 1 ∷ 0 ∷ 0 ∷ 9 ∷ 9 ∷ 0 ∷ 0 ∷ 0 ∷ 0 ∷ []) ++ (1 ∷ 1 ∷ 2 ∷ 0 ∷ 0 ∷ 18 ∷ 9 ∷ 0 ∷ 0 ∷ 0 ∷ 0 ∷ []) ++
    (1 ∷ 0 ∷ 3 ∷ 27 ∷ 9 ∷ 0 ∷ 0 ∷ 0 ∷ 0 ∷ 0 ∷ 0 ∷ []) ++ (1 ∷ 4 ∷ 4 ∷ 36 ∷ 9 ∷ 0 ∷ 0 ∷ 0 ∷ 0 ∷ 0 ∷ 0 ∷ []) ++
    (1 ∷ 0 ∷ 1 ∷ no_number ∷ 0 ∷ 0 ∷ 1 ∷ 45 ∷ 7 ∷ []) ++ (4 ∷ []) ++ (5 ∷ []) ++ if_in 1 ++ hosts 11 ++ ends ++ if_in 2 ++ hosts 12 ++ ends ++
    if_in 3 ++ hosts 13 ++ ends ++ if_in 1 ++ hosts 21 ++ ends ++ if_in 2 ++ hosts 22 ++ ends ++ if_in 3 ++ hosts 23 ++ ends ++ if_in 1 ++
    hosts 31 ++ ends ++ if_in 2 ++ hosts 32 ++ ends ++ if_in 3 ++ hosts 33 ++ ends ++ if_in 4 ++ hosts 41 ++ ends ++ if_in 5 ++ hosts 42 ++ ends ++
    if_in 1 ++ hosts 43 ++ ends ++ if_in 4 ++ hosts 51 ++ ends ++ if_in 5 ++ hosts 52 ++ ends ++ if_in 1 ++ hosts 53 ++ ends ++ if_in 1 ++
    hosts 61 ++ else_if_in 4 ++ hosts 62 ++ otherwise ++ hosts 63 ++ ends

-- p, a, c, z, y, e
abbrev names_moments : List ℕ
names_moments =
    slot_of (112 ∷ []) ++ slot_of (97 ∷ []) ++ slot_of (99 ∷ []) ++ slot_of (122 ∷ []) ++ slot_of (121 ∷ []) ++ slot_of (101 ∷ [])

pub example_moments : alike (played numbers_moments names_moments (starts 200 ∷ posts (101 ∷ []) ∷ runs 1 200 ∷ []))
    ((0 ∷ []) ∷
    (0 ∷ 0 ∷ []) ∷ (at 3 1 ∷ at 3 2 ∷ at 3 3 ∷ []) ∷ (1 ∷ 2 ∷ 3 ∷ []) ∷
    (101 ∷ 1 ∷ []) ∷ (at 1 3 ∷ at 4 31 ∷ at 4 32 ∷ at 4 33 ∷ at 1 2 ∷ at 4 21 ∷ at 4 22 ∷ at 1 1 ∷ at 4 11 ∷ at 2 0 ∷ at 7 2 ∷ at 4 63 ∷
    at 3 4 ∷ at 4 41 ∷ at 3 5 ∷ at 4 51 ∷ at 4 52 ∷ []) ∷ (4 ∷ 5 ∷ []) ∷ []) ≡ true
unfolding everything shown shown_all played alike
example_moments = refl

-- nested branches; an initial block sees its row and not yet the child
abbrev numbers_nested : List ℕ
numbers_nested =
    (4 ∷ 0 ∷ 1 ∷ 0 ∷ 20 ∷ 3 ∷ []) ++ plain_row 0 no_number no_number ++ (1 ∷ 0 ∷ 0 ∷ 0 ∷ 0 ∷ 0 ∷ 0 ∷ 0 ∷ 1 ∷ 0 ∷ 20 ∷ []) ++ plain_row 1 1 1 ++
    plain_row 1 1 2 ++ (2 ∷ []) ++ if_in 1 ++ if_in 2 ++ hosts 1 ++ otherwise ++ hosts 2 ++ if_in 3 ++ hosts 3 ++ else_if_in 1 ++ hosts 4 ++ otherwise ++
    hosts 5 ++ ends ++ ends ++ hosts 6 ++ otherwise ++ if_in 1 ++ hosts 7 ++ ends ++ ends ++ hosts 8

-- s, a, b
abbrev names_nested : List ℕ
names_nested =
    slot_of (115 ∷ []) ++ slot_of (97 ∷ []) ++ slot_of (98 ∷ [])

pub example_nested : alike (played numbers_nested names_nested (starts 200 ∷ []))
    ((0 ∷ []) ∷
    (0 ∷ 0 ∷ []) ∷ (at 3 1 ∷ at 4 2 ∷ at 4 4 ∷ at 4 6 ∷ at 4 8 ∷ at 3 2 ∷ []) ∷ (1 ∷ 2 ∷ []) ∷ []) ≡ true
unfolding everything shown shown_all played alike
example_nested = refl

-- the closing round: the final is active in its own exit block, its raise is shown
abbrev numbers_closing : List ℕ
numbers_closing =
    (3 ∷ 1 ∷ 1 ∷ 1 ∷ 5 ∷ 4 ∷ []) ++ plain_row 0 no_number no_number ++ plain_row 1 0 0 ++ (3 ∷ 0 ∷ 1 ∷ 0 ∷ 0 ∷ 0 ∷ 5 ∷ 0 ∷ 0 ∷ 0 ∷ 0 ∷ []) ++
    (1 ∷ 0 ∷ 1 ∷ no_number ∷ 0 ∷ 0 ∷ 1 ∷ 0 ∷ 0 ∷ []) ++ (2 ∷ []) ++ (2 ∷ []) ++ if_in 2 ++ raises 3 ++ otherwise ++ hosts 1 ++ ends

-- s, f, e, x
abbrev names_closing : List ℕ
names_closing =
    slot_of (115 ∷ []) ++ slot_of (102 ∷ []) ++ slot_of (101 ∷ []) ++ slot_of (120 ∷ [])

pub example_closing : alike (played numbers_closing names_closing (starts 200 ∷ posts (101 ∷ []) ∷ runs 5 200 ∷ []))
    ((0 ∷ []) ∷
    (0 ∷ 0 ∷ []) ∷ (at 3 1 ∷ []) ∷ (1 ∷ []) ∷
    (102 ∷ 2 ∷ []) ∷ (at 1 1 ∷ at 2 0 ∷ at 7 1 ∷ at 3 2 ∷ at 1 2 ∷ at 5 3 ∷ []) ∷ [] ∷ []) ≡ true
unfolding everything shown shown_all played alike
example_closing = refl

-- 7 and 10 count only the branch taken: no branch here, room 4 suffices
abbrev numbers_counted : List ℕ
numbers_counted =
    (3 ∷ 1 ∷ 1 ∷ 1 ∷ 31 ∷ 4 ∷ []) ++ plain_row 0 no_number no_number ++ plain_row 1 0 0 ++ plain_row 1 0 1 ++
    (1 ∷ 0 ∷ 1 ∷ no_number ∷ 0 ∷ 0 ∷ 1 ∷ 0 ∷ 31 ∷ []) ++ (2 ∷ []) ++ (2 ∷ []) ++ if_in 2 ++ raises 3 ++ raises 3 ++ raises 3 ++ raises 3 ++
    raises 3 ++ raises 3 ++ raises 3 ++ raises 3 ++ raises 3 ++ raises 3 ++ raises 3 ++ raises 3 ++ raises 3 ++ raises 3 ++ ends ++
    if_in 1 ++ raises 3 ++ raises 3 ++ raises 3 ++ raises 3 ++ raises 3 ++ raises 3 ++ raises 3 ++ raises 3 ++ raises 3 ++ raises 3 ++
    raises 3 ++ raises 3 ++ raises 3 ++ ends

-- s, t, e, x
abbrev names_counted : List ℕ
names_counted =
    slot_of (115 ∷ []) ++ slot_of (116 ∷ []) ++ slot_of (101 ∷ []) ++ slot_of (120 ∷ [])

pub example_counted : alike (played numbers_counted names_counted (starts 1 ∷ posts (101 ∷ []) ∷ runs 1 4 ∷ []))
    ((0 ∷ []) ∷
    (0 ∷ 0 ∷ []) ∷ (at 3 1 ∷ []) ∷ (1 ∷ []) ∷
    (101 ∷ 1 ∷ []) ∷ (at 1 1 ∷ at 2 0 ∷ at 7 1 ∷ at 3 2 ∷ []) ∷ (2 ∷ []) ∷ []) ≡ true
unfolding everything shown shown_all played alike
example_counted = refl

-- elseif without an open if: 5
abbrev numbers_elseif_outside : List ℕ
numbers_elseif_outside =
    (3 ∷ 0 ∷ 0 ∷ 0 ∷ 2 ∷ 2 ∷ []) ++ plain_row 0 no_number no_number ++ plain_row 1 0 0 ++ (1 ∷ 1 ∷ 1 ∷ 0 ∷ 0 ∷ 0 ∷ 2 ∷ 0 ∷ 0 ∷ 0 ∷ 0 ∷ []) ++
    else_if_in 1 ++ ends

-- s, a
abbrev names_elseif_outside : List ℕ
names_elseif_outside =
    slot_of (115 ∷ []) ++ slot_of (97 ∷ [])

pub example_elseif_outside : answer_no (keeps_rules numbers_elseif_outside names_elseif_outside) ≡ 5
unfolding everything
example_elseif_outside = refl

-- else without an open if: 5
abbrev numbers_else_outside : List ℕ
numbers_else_outside =
    (3 ∷ 0 ∷ 0 ∷ 0 ∷ 1 ∷ 2 ∷ []) ++ plain_row 0 no_number no_number ++ plain_row 1 0 0 ++ (1 ∷ 1 ∷ 1 ∷ 0 ∷ 0 ∷ 0 ∷ 1 ∷ 0 ∷ 0 ∷ 0 ∷ 0 ∷ []) ++
    otherwise

-- s, a
abbrev names_else_outside : List ℕ
names_else_outside =
    slot_of (115 ∷ []) ++ slot_of (97 ∷ [])

pub example_else_outside : answer_no (keeps_rules numbers_else_outside names_else_outside) ≡ 5
unfolding everything
example_else_outside = refl

-- end without an open if: 5
abbrev numbers_end_outside : List ℕ
numbers_end_outside =
    (3 ∷ 0 ∷ 0 ∷ 0 ∷ 1 ∷ 2 ∷ []) ++ plain_row 0 no_number no_number ++ plain_row 1 0 0 ++ (1 ∷ 1 ∷ 1 ∷ 0 ∷ 0 ∷ 0 ∷ 1 ∷ 0 ∷ 0 ∷ 0 ∷ 0 ∷ []) ++
    ends

-- s, a
abbrev names_end_outside : List ℕ
names_end_outside =
    slot_of (115 ∷ []) ++ slot_of (97 ∷ [])

pub example_end_outside : answer_no (keeps_rules numbers_end_outside names_end_outside) ≡ 5
unfolding everything
example_end_outside = refl

-- elseif after else: 5
abbrev numbers_elseif_after_else : List ℕ
numbers_elseif_after_else =
    (3 ∷ 0 ∷ 0 ∷ 0 ∷ 4 ∷ 2 ∷ []) ++ plain_row 0 no_number no_number ++ plain_row 1 0 0 ++ (1 ∷ 1 ∷ 1 ∷ 0 ∷ 0 ∷ 0 ∷ 4 ∷ 0 ∷ 0 ∷ 0 ∷ 0 ∷ []) ++
    if_in 1 ++ otherwise ++ else_if_in 1 ++ ends

-- s, a
abbrev names_elseif_after_else : List ℕ
names_elseif_after_else =
    slot_of (115 ∷ []) ++ slot_of (97 ∷ [])

pub example_elseif_after_else : answer_no (keeps_rules numbers_elseif_after_else names_elseif_after_else) ≡ 5
unfolding everything
example_elseif_after_else = refl

-- else after else: 5
abbrev numbers_else_after_else : List ℕ
numbers_else_after_else =
    (3 ∷ 0 ∷ 0 ∷ 0 ∷ 4 ∷ 2 ∷ []) ++ plain_row 0 no_number no_number ++ plain_row 1 0 0 ++ (1 ∷ 1 ∷ 1 ∷ 0 ∷ 0 ∷ 0 ∷ 4 ∷ 0 ∷ 0 ∷ 0 ∷ 0 ∷ []) ++
    if_in 1 ++ otherwise ++ otherwise ++ ends

-- s, a
abbrev names_else_after_else : List ℕ
names_else_after_else =
    slot_of (115 ∷ []) ++ slot_of (97 ∷ [])

pub example_else_after_else : answer_no (keeps_rules numbers_else_after_else names_else_after_else) ≡ 5
unfolding everything
example_else_after_else = refl

-- unclosed if: 5
abbrev numbers_unclosed : List ℕ
numbers_unclosed =
    (3 ∷ 0 ∷ 0 ∷ 0 ∷ 2 ∷ 2 ∷ []) ++ plain_row 0 no_number no_number ++ plain_row 1 0 0 ++ (1 ∷ 1 ∷ 1 ∷ 0 ∷ 0 ∷ 0 ∷ 2 ∷ 0 ∷ 0 ∷ 0 ∷ 0 ∷ []) ++
    if_in 1 ++ hosts 1

-- s, a
abbrev names_unclosed : List ℕ
names_unclosed =
    slot_of (115 ∷ []) ++ slot_of (97 ∷ [])

pub example_unclosed : answer_no (keeps_rules numbers_unclosed names_unclosed) ≡ 5
unfolding everything
example_unclosed = refl

-- a fifth level: 5
abbrev numbers_five_levels : List ℕ
numbers_five_levels =
    (3 ∷ 0 ∷ 0 ∷ 0 ∷ 10 ∷ 2 ∷ []) ++ plain_row 0 no_number no_number ++ plain_row 1 0 0 ++ (1 ∷ 1 ∷ 1 ∷ 0 ∷ 0 ∷ 0 ∷ 10 ∷ 0 ∷ 0 ∷ 0 ∷ 0 ∷ []) ++
    if_in 1 ++ if_in 1 ++ if_in 1 ++ if_in 1 ++ if_in 1 ++ ends ++ ends ++ ends ++ ends ++ ends

-- s, a
abbrev names_five_levels : List ℕ
names_five_levels =
    slot_of (115 ∷ []) ++ slot_of (97 ∷ [])

pub example_five_levels : answer_no (keeps_rules numbers_five_levels names_five_levels) ≡ 5
unfolding everything
example_five_levels = refl

-- In names the root: 5
abbrev numbers_in_root : List ℕ
numbers_in_root =
    (3 ∷ 0 ∷ 0 ∷ 0 ∷ 2 ∷ 2 ∷ []) ++ plain_row 0 no_number no_number ++ plain_row 1 0 0 ++ (1 ∷ 1 ∷ 1 ∷ 0 ∷ 0 ∷ 0 ∷ 2 ∷ 0 ∷ 0 ∷ 0 ∷ 0 ∷ []) ++
    if_in 0 ++ ends

-- s, a
abbrev names_in_root : List ℕ
names_in_root =
    slot_of (115 ∷ []) ++ slot_of (97 ∷ [])

pub example_in_root : answer_no (keeps_rules numbers_in_root names_in_root) ≡ 5
unfolding everything
example_in_root = refl

-- four levels: accepted
abbrev numbers_four_levels : List ℕ
numbers_four_levels =
    (3 ∷ 0 ∷ 0 ∷ 0 ∷ 9 ∷ 2 ∷ []) ++ plain_row 0 no_number no_number ++ plain_row 1 0 0 ++ (1 ∷ 1 ∷ 1 ∷ 0 ∷ 0 ∷ 0 ∷ 9 ∷ 0 ∷ 0 ∷ 0 ∷ 0 ∷ []) ++
    if_in 1 ++ if_in 1 ++ if_in 1 ++ if_in 1 ++ hosts 1 ++ ends ++ ends ++ ends ++ ends

-- s, a
abbrev names_four_levels : List ℕ
names_four_levels =
    slot_of (115 ∷ []) ++ slot_of (97 ∷ [])

pub example_four_levels : answer_no (keeps_rules numbers_four_levels names_four_levels) ≡ 0
unfolding everything
example_four_levels = refl

-- 32 actions: accepted
abbrev numbers_most_actions : List ℕ
numbers_most_actions =
    (2 ∷ 0 ∷ 0 ∷ 0 ∷ 32 ∷ 1 ∷ []) ++ plain_row 0 no_number no_number ++ (1 ∷ 0 ∷ 0 ∷ 0 ∷ 32 ∷ 0 ∷ 0 ∷ 0 ∷ 0 ∷ 0 ∷ 0 ∷ []) ++ hosts 0 ++
    hosts 1 ++ hosts 2 ++ hosts 3 ++ hosts 4 ++ hosts 5 ++ hosts 6 ++ hosts 7 ++ hosts 8 ++ hosts 9 ++ hosts 10 ++ hosts 11 ++ hosts 12 ++ hosts 13 ++
    hosts 14 ++ hosts 15 ++ hosts 16 ++ hosts 17 ++ hosts 18 ++ hosts 19 ++ hosts 20 ++ hosts 21 ++ hosts 22 ++ hosts 23 ++ hosts 24 ++ hosts 25 ++
    hosts 26 ++ hosts 27 ++ hosts 28 ++ hosts 29 ++ hosts 30 ++ hosts 31

-- s
abbrev names_most_actions : List ℕ
names_most_actions =
    slot_of (115 ∷ [])

pub example_most_actions : alike (played numbers_most_actions names_most_actions (starts 200 ∷ []))
    ((0 ∷ []) ∷
    (0 ∷ 0 ∷ []) ∷ (at 3 1 ∷ at 4 0 ∷ at 4 1 ∷ at 4 2 ∷ at 4 3 ∷ at 4 4 ∷ at 4 5 ∷ at 4 6 ∷ at 4 7 ∷ at 4 8 ∷ at 4 9 ∷ at 4 10 ∷ at 4 11 ∷
    at 4 12 ∷ at 4 13 ∷ at 4 14 ∷ at 4 15 ∷ at 4 16 ∷ at 4 17 ∷ at 4 18 ∷ at 4 19 ∷ at 4 20 ∷ at 4 21 ∷ at 4 22 ∷ at 4 23 ∷ at 4 24 ∷
    at 4 25 ∷ at 4 26 ∷ at 4 27 ∷ at 4 28 ∷ at 4 29 ∷ at 4 30 ∷ at 4 31 ∷ []) ∷ (1 ∷ []) ∷ []) ≡ true
unfolding everything shown shown_all played alike
example_most_actions = refl

-- 33 actions: 1
abbrev numbers_too_many_actions : List ℕ
numbers_too_many_actions =
    (2 ∷ 0 ∷ 0 ∷ 0 ∷ 33 ∷ 1 ∷ []) ++ plain_row 0 no_number no_number ++ (1 ∷ 0 ∷ 0 ∷ 0 ∷ 33 ∷ 0 ∷ 0 ∷ 0 ∷ 0 ∷ 0 ∷ 0 ∷ []) ++ hosts 0 ++
    hosts 1 ++ hosts 2 ++ hosts 3 ++ hosts 4 ++ hosts 5 ++ hosts 6 ++ hosts 7 ++ hosts 8 ++ hosts 9 ++ hosts 10 ++ hosts 11 ++ hosts 12 ++ hosts 13 ++
    hosts 14 ++ hosts 15 ++ hosts 16 ++ hosts 17 ++ hosts 18 ++ hosts 19 ++ hosts 20 ++ hosts 21 ++ hosts 22 ++ hosts 23 ++ hosts 24 ++ hosts 25 ++
    hosts 26 ++ hosts 27 ++ hosts 28 ++ hosts 29 ++ hosts 30 ++ hosts 31 ++ hosts 32

-- s
abbrev names_too_many_actions : List ℕ
names_too_many_actions =
    slot_of (115 ∷ [])

pub example_too_many_actions : answer_no (keeps_rules numbers_too_many_actions names_too_many_actions) ≡ 1
unfolding everything
example_too_many_actions = refl

-- In of a row past the table: 1
abbrev numbers_in_past_table : List ℕ
numbers_in_past_table =
    (2 ∷ 0 ∷ 0 ∷ 0 ∷ 2 ∷ 1 ∷ []) ++ plain_row 0 no_number no_number ++ (1 ∷ 0 ∷ 0 ∷ 0 ∷ 2 ∷ 0 ∷ 0 ∷ 0 ∷ 0 ∷ 0 ∷ 0 ∷ []) ++ if_in 2 ++ ends

-- s
abbrev names_in_past_table : List ℕ
names_in_past_table =
    slot_of (115 ∷ [])

pub example_in_past_table : answer_no (keeps_rules numbers_in_past_table names_in_past_table) ≡ 1
unfolding everything
example_in_past_table = refl
