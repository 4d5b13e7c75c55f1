-- Charts for the requests of document 02, worked out by hand. Written by second/ and compared, never edited by hand.
use Rattle.std.specs.Prelude.{◌≡◌, refl, Bool, true, false, List, [], ◌∷◌, ◌++◌, ℕ}
use Rattle.definition.specs.Rows.{same}
use Rattle.definition.specs.declared.Mode.{Mode}
use Rattle.definition.specs.declared.Mode.TheVariants.{Running, Closing, Ended}
use Rattle.definition.specs.Tables.{slot_of}
use Rattle.follower.specs.Follower.{Follower}
use Rattle.follower.specs.Clock.{Timer, Clock}
use Rattle.follower.specs.Calls.{starts, posts, clocks, runs}
use Rattle.follower.specs.Open.{everything}
use Rattle.examples.specs.Play.{joined, history_shown, queue_shown, pending_shown, shown, played_if, played, judged, counts_kept, compiled_sets, opens, fits, timer, record_fits, alike}

-- R-6: chosen twice counts once, by the first in document order; kind 7 ahead of the block
abbrev numbers_001 : List ℕ
numbers_001 = 7 ∷ 6 ∷ 4 ∷ 6 ∷ 1 ∷ 9 ∷ 0 ∷ 65535 ∷ 65535 ∷ 0 ∷ 0 ∷ 0 ∷ 0 ∷ 0 ∷ 0 ∷ 0 ∷ 0 ∷ 2 ∷ 0 ∷ 0 ∷ 0 ∷ 0 ∷ 0 ∷ 0 ∷
    0 ∷ 0 ∷ 0 ∷ 0 ∷ 1 ∷ 1 ∷ 1 ∷ 0 ∷ 0 ∷ 0 ∷ 0 ∷ 0 ∷ 0 ∷ 0 ∷ 0 ∷ 1 ∷ 2 ∷ 2 ∷ 0 ∷ 0 ∷ 0 ∷ 0 ∷ 0 ∷ 0 ∷ 0 ∷ 0 ∷ 1 ∷ 2 ∷ 3 ∷
    0 ∷ 0 ∷ 0 ∷ 0 ∷ 0 ∷ 0 ∷ 0 ∷ 0 ∷ 1 ∷ 1 ∷ 4 ∷ 0 ∷ 0 ∷ 0 ∷ 0 ∷ 0 ∷ 0 ∷ 0 ∷ 0 ∷ 1 ∷ 5 ∷ 5 ∷ 0 ∷ 0 ∷ 0 ∷ 0 ∷ 0 ∷ 0 ∷ 0 ∷
    0 ∷ 1 ∷ 0 ∷ 1 ∷ 65535 ∷ 0 ∷ 0 ∷ 0 ∷ 0 ∷ 1 ∷ 1 ∷ 1 ∷ 1 ∷ 65535 ∷ 0 ∷ 0 ∷ 1 ∷ 0 ∷ 0 ∷ 1 ∷ 2 ∷ 1 ∷ 65535 ∷ 0 ∷ 1 ∷ 1 ∷
    0 ∷ 0 ∷ 3 ∷ 3 ∷ 1 ∷ 65535 ∷ 0 ∷ 2 ∷ 1 ∷ 0 ∷ 0 ∷ 5 ∷ 4 ∷ 1 ∷ 65535 ∷ 0 ∷ 3 ∷ 1 ∷ 0 ∷ 0 ∷ 6 ∷ 5 ∷ 1 ∷ 65535 ∷ 0 ∷ 0 ∷
    0 ∷ 0 ∷ 0 ∷ 1 ∷ 1 ∷ 4 ∷ 1 ∷ 6 ∷ 7 ∷ 8 ∷ 8 ∷ 7 ∷ 8 ∷ 1 ∷ 1 ∷ 0 ∷ 0 ∷ []

abbrev names_001 : List ℕ
names_001 = joined (slot_of (112 ∷ []) ∷ slot_of (97 ∷ []) ∷ slot_of (97 ∷ 49 ∷ []) ∷ slot_of (97 ∷ 50 ∷ []) ∷
    slot_of (99 ∷ []) ∷ slot_of (99 ∷ 49 ∷ []) ∷ slot_of (101 ∷ []) ∷ slot_of (103 ∷ []) ∷ slot_of (107 ∷ []) ∷ [])

example_001 : alike (played numbers_001 names_001 (starts 200 ∷ posts (101 ∷ []) ∷ runs 1 200 ∷ [])) ((0 ∷ []) ∷ (0 ∷
    0 ∷ []) ∷ (196609 ∷ 196610 ∷ 196611 ∷ 196613 ∷ 196614 ∷ []) ∷ (1 ∷ 2 ∷ 3 ∷ 5 ∷ 6 ∷ []) ∷ [] ∷ [] ∷ [] ∷ (1 ∷ []) ∷
    (0 ∷ []) ∷ (0 ∷ 0 ∷ []) ∷ [] ∷ (1 ∷ 2 ∷ 3 ∷ 5 ∷ 6 ∷ []) ∷ [] ∷ [] ∷ (1 ∷ 101 ∷ []) ∷ (1 ∷ []) ∷ (0 ∷ []) ∷ (101 ∷
    1 ∷ []) ∷ (131072 ∷ 458755 ∷ 262145 ∷ []) ∷ (1 ∷ 2 ∷ 3 ∷ 5 ∷ 6 ∷ []) ∷ [] ∷ [] ∷ [] ∷ (1 ∷ []) ∷ (0 ∷ []) ∷
    []) ≡ true
unfolding everything joined history_shown queue_shown pending_shown shown played_if played alike
example_001 = refl

-- R-6: p's transition, chosen by a1, is removed by c's, chosen by c1
abbrev numbers_002 : List ℕ
numbers_002 = 7 ∷ 6 ∷ 4 ∷ 6 ∷ 1 ∷ 9 ∷ 0 ∷ 65535 ∷ 65535 ∷ 0 ∷ 0 ∷ 0 ∷ 0 ∷ 0 ∷ 0 ∷ 0 ∷ 0 ∷ 2 ∷ 0 ∷ 0 ∷ 0 ∷ 0 ∷ 0 ∷ 0 ∷
    0 ∷ 0 ∷ 0 ∷ 0 ∷ 1 ∷ 1 ∷ 1 ∷ 0 ∷ 0 ∷ 0 ∷ 0 ∷ 0 ∷ 0 ∷ 0 ∷ 0 ∷ 1 ∷ 2 ∷ 2 ∷ 0 ∷ 0 ∷ 0 ∷ 0 ∷ 0 ∷ 0 ∷ 0 ∷ 0 ∷ 1 ∷ 2 ∷ 3 ∷
    0 ∷ 0 ∷ 0 ∷ 0 ∷ 0 ∷ 0 ∷ 0 ∷ 0 ∷ 1 ∷ 1 ∷ 4 ∷ 0 ∷ 0 ∷ 0 ∷ 0 ∷ 0 ∷ 0 ∷ 0 ∷ 0 ∷ 1 ∷ 5 ∷ 5 ∷ 0 ∷ 0 ∷ 0 ∷ 0 ∷ 0 ∷ 0 ∷ 0 ∷
    0 ∷ 1 ∷ 0 ∷ 1 ∷ 65535 ∷ 0 ∷ 0 ∷ 0 ∷ 0 ∷ 1 ∷ 1 ∷ 1 ∷ 1 ∷ 65535 ∷ 0 ∷ 0 ∷ 1 ∷ 0 ∷ 0 ∷ 1 ∷ 2 ∷ 1 ∷ 65535 ∷ 0 ∷ 1 ∷ 1 ∷
    0 ∷ 0 ∷ 3 ∷ 3 ∷ 1 ∷ 65535 ∷ 0 ∷ 2 ∷ 1 ∷ 0 ∷ 0 ∷ 5 ∷ 4 ∷ 1 ∷ 65535 ∷ 0 ∷ 3 ∷ 1 ∷ 0 ∷ 0 ∷ 6 ∷ 5 ∷ 1 ∷ 65535 ∷ 0 ∷ 0 ∷
    0 ∷ 0 ∷ 0 ∷ 1 ∷ 1 ∷ 4 ∷ 1 ∷ 6 ∷ 7 ∷ 8 ∷ 8 ∷ 7 ∷ 8 ∷ 1 ∷ 1 ∷ 0 ∷ 0 ∷ []

abbrev names_002 : List ℕ
names_002 = joined (slot_of (112 ∷ []) ∷ slot_of (97 ∷ []) ∷ slot_of (97 ∷ 49 ∷ []) ∷ slot_of (97 ∷ 50 ∷ []) ∷
    slot_of (99 ∷ []) ∷ slot_of (99 ∷ 49 ∷ []) ∷ slot_of (101 ∷ []) ∷ slot_of (103 ∷ []) ∷ slot_of (107 ∷ []) ∷ [])

example_002 : alike (played numbers_002 names_002 (starts 200 ∷ posts (103 ∷ []) ∷ runs 1 200 ∷ [])) ((0 ∷ []) ∷ (0 ∷
    0 ∷ []) ∷ (196609 ∷ 196610 ∷ 196611 ∷ 196613 ∷ 196614 ∷ []) ∷ (1 ∷ 2 ∷ 3 ∷ 5 ∷ 6 ∷ []) ∷ [] ∷ [] ∷ [] ∷ (1 ∷ []) ∷
    (0 ∷ []) ∷ (0 ∷ 0 ∷ []) ∷ [] ∷ (1 ∷ 2 ∷ 3 ∷ 5 ∷ 6 ∷ []) ∷ [] ∷ [] ∷ (1 ∷ 103 ∷ []) ∷ (1 ∷ []) ∷ (0 ∷ []) ∷ (101 ∷
    1 ∷ []) ∷ (65542 ∷ 65541 ∷ 65539 ∷ 65538 ∷ 65537 ∷ 131076 ∷ 458758 ∷ 196609 ∷ 196610 ∷ 196611 ∷ 196613 ∷ 196614 ∷
    []) ∷ (1 ∷ 2 ∷ 3 ∷ 5 ∷ 6 ∷ []) ∷ [] ∷ [] ∷ [] ∷ (1 ∷ []) ∷ (0 ∷ []) ∷ []) ≡ true
unfolding everything joined history_shown queue_shown pending_shown shown played_if played alike
example_002 = refl

-- R-6: two transitions, each with its own chooser, one without targets
abbrev numbers_003 : List ℕ
numbers_003 = 7 ∷ 6 ∷ 4 ∷ 6 ∷ 1 ∷ 9 ∷ 0 ∷ 65535 ∷ 65535 ∷ 0 ∷ 0 ∷ 0 ∷ 0 ∷ 0 ∷ 0 ∷ 0 ∷ 0 ∷ 2 ∷ 0 ∷ 0 ∷ 0 ∷ 0 ∷ 0 ∷ 0 ∷
    0 ∷ 0 ∷ 0 ∷ 0 ∷ 1 ∷ 1 ∷ 1 ∷ 0 ∷ 0 ∷ 0 ∷ 0 ∷ 0 ∷ 0 ∷ 0 ∷ 0 ∷ 1 ∷ 2 ∷ 2 ∷ 0 ∷ 0 ∷ 0 ∷ 0 ∷ 0 ∷ 0 ∷ 0 ∷ 0 ∷ 1 ∷ 2 ∷ 3 ∷
    0 ∷ 0 ∷ 0 ∷ 0 ∷ 0 ∷ 0 ∷ 0 ∷ 0 ∷ 1 ∷ 1 ∷ 4 ∷ 0 ∷ 0 ∷ 0 ∷ 0 ∷ 0 ∷ 0 ∷ 0 ∷ 0 ∷ 1 ∷ 5 ∷ 5 ∷ 0 ∷ 0 ∷ 0 ∷ 0 ∷ 0 ∷ 0 ∷ 0 ∷
    0 ∷ 1 ∷ 0 ∷ 1 ∷ 65535 ∷ 0 ∷ 0 ∷ 0 ∷ 0 ∷ 1 ∷ 1 ∷ 1 ∷ 1 ∷ 65535 ∷ 0 ∷ 0 ∷ 1 ∷ 0 ∷ 0 ∷ 1 ∷ 2 ∷ 1 ∷ 65535 ∷ 0 ∷ 1 ∷ 1 ∷
    0 ∷ 0 ∷ 3 ∷ 3 ∷ 1 ∷ 65535 ∷ 0 ∷ 2 ∷ 1 ∷ 0 ∷ 0 ∷ 5 ∷ 4 ∷ 1 ∷ 65535 ∷ 0 ∷ 3 ∷ 1 ∷ 0 ∷ 0 ∷ 6 ∷ 5 ∷ 1 ∷ 65535 ∷ 0 ∷ 0 ∷
    0 ∷ 0 ∷ 0 ∷ 1 ∷ 1 ∷ 4 ∷ 1 ∷ 6 ∷ 7 ∷ 8 ∷ 8 ∷ 7 ∷ 8 ∷ 1 ∷ 1 ∷ 0 ∷ 0 ∷ []

abbrev names_003 : List ℕ
names_003 = joined (slot_of (112 ∷ []) ∷ slot_of (97 ∷ []) ∷ slot_of (97 ∷ 49 ∷ []) ∷ slot_of (97 ∷ 50 ∷ []) ∷
    slot_of (99 ∷ []) ∷ slot_of (99 ∷ 49 ∷ []) ∷ slot_of (101 ∷ []) ∷ slot_of (103 ∷ []) ∷ slot_of (107 ∷ []) ∷ [])

example_003 : alike (played numbers_003 names_003 (starts 200 ∷ posts (107 ∷ []) ∷ runs 1 200 ∷ [])) ((0 ∷ []) ∷ (0 ∷
    0 ∷ []) ∷ (196609 ∷ 196610 ∷ 196611 ∷ 196613 ∷ 196614 ∷ []) ∷ (1 ∷ 2 ∷ 3 ∷ 5 ∷ 6 ∷ []) ∷ [] ∷ [] ∷ [] ∷ (1 ∷ []) ∷
    (0 ∷ []) ∷ (0 ∷ 0 ∷ []) ∷ [] ∷ (1 ∷ 2 ∷ 3 ∷ 5 ∷ 6 ∷ []) ∷ [] ∷ [] ∷ (1 ∷ 107 ∷ []) ∷ (1 ∷ []) ∷ (0 ∷ []) ∷ (101 ∷
    1 ∷ []) ∷ (65539 ∷ 131075 ∷ 458755 ∷ 131077 ∷ 458758 ∷ 196612 ∷ []) ∷ (1 ∷ 2 ∷ 4 ∷ 5 ∷ 6 ∷ []) ∷ [] ∷ [] ∷ [] ∷
    (1 ∷ []) ∷ (0 ∷ []) ∷ []) ≡ true
unfolding everything joined history_shown queue_shown pending_shown shown played_if played alike
example_003 = refl

-- R-6: kind 7 entries count towards 10
abbrev numbers_004 : List ℕ
numbers_004 = 7 ∷ 6 ∷ 4 ∷ 6 ∷ 1 ∷ 9 ∷ 0 ∷ 65535 ∷ 65535 ∷ 0 ∷ 0 ∷ 0 ∷ 0 ∷ 0 ∷ 0 ∷ 0 ∷ 0 ∷ 2 ∷ 0 ∷ 0 ∷ 0 ∷ 0 ∷ 0 ∷ 0 ∷
    0 ∷ 0 ∷ 0 ∷ 0 ∷ 1 ∷ 1 ∷ 1 ∷ 0 ∷ 0 ∷ 0 ∷ 0 ∷ 0 ∷ 0 ∷ 0 ∷ 0 ∷ 1 ∷ 2 ∷ 2 ∷ 0 ∷ 0 ∷ 0 ∷ 0 ∷ 0 ∷ 0 ∷ 0 ∷ 0 ∷ 1 ∷ 2 ∷ 3 ∷
    0 ∷ 0 ∷ 0 ∷ 0 ∷ 0 ∷ 0 ∷ 0 ∷ 0 ∷ 1 ∷ 1 ∷ 4 ∷ 0 ∷ 0 ∷ 0 ∷ 0 ∷ 0 ∷ 0 ∷ 0 ∷ 0 ∷ 1 ∷ 5 ∷ 5 ∷ 0 ∷ 0 ∷ 0 ∷ 0 ∷ 0 ∷ 0 ∷ 0 ∷
    0 ∷ 1 ∷ 0 ∷ 1 ∷ 65535 ∷ 0 ∷ 0 ∷ 0 ∷ 0 ∷ 1 ∷ 1 ∷ 1 ∷ 1 ∷ 65535 ∷ 0 ∷ 0 ∷ 1 ∷ 0 ∷ 0 ∷ 1 ∷ 2 ∷ 1 ∷ 65535 ∷ 0 ∷ 1 ∷ 1 ∷
    0 ∷ 0 ∷ 3 ∷ 3 ∷ 1 ∷ 65535 ∷ 0 ∷ 2 ∷ 1 ∷ 0 ∷ 0 ∷ 5 ∷ 4 ∷ 1 ∷ 65535 ∷ 0 ∷ 3 ∷ 1 ∷ 0 ∷ 0 ∷ 6 ∷ 5 ∷ 1 ∷ 65535 ∷ 0 ∷ 0 ∷
    0 ∷ 0 ∷ 0 ∷ 1 ∷ 1 ∷ 4 ∷ 1 ∷ 6 ∷ 7 ∷ 8 ∷ 8 ∷ 7 ∷ 8 ∷ 1 ∷ 1 ∷ 0 ∷ 0 ∷ []

abbrev names_004 : List ℕ
names_004 = joined (slot_of (112 ∷ []) ∷ slot_of (97 ∷ []) ∷ slot_of (97 ∷ 49 ∷ []) ∷ slot_of (97 ∷ 50 ∷ []) ∷
    slot_of (99 ∷ []) ∷ slot_of (99 ∷ 49 ∷ []) ∷ slot_of (101 ∷ []) ∷ slot_of (103 ∷ []) ∷ slot_of (107 ∷ []) ∷ [])

example_004 : alike (played numbers_004 names_004 (starts 200 ∷ posts (101 ∷ []) ∷ runs 1 2 ∷ runs 1 3 ∷ [])) ((0 ∷
    []) ∷ (0 ∷ 0 ∷ []) ∷ (196609 ∷ 196610 ∷ 196611 ∷ 196613 ∷ 196614 ∷ []) ∷ (1 ∷ 2 ∷ 3 ∷ 5 ∷ 6 ∷ []) ∷ [] ∷ [] ∷ [] ∷
    (1 ∷ []) ∷ (0 ∷ []) ∷ (0 ∷ 0 ∷ []) ∷ [] ∷ (1 ∷ 2 ∷ 3 ∷ 5 ∷ 6 ∷ []) ∷ [] ∷ [] ∷ (1 ∷ 101 ∷ []) ∷ (1 ∷ []) ∷ (0 ∷
    []) ∷ (10 ∷ 0 ∷ []) ∷ [] ∷ (1 ∷ 2 ∷ 3 ∷ 5 ∷ 6 ∷ []) ∷ [] ∷ [] ∷ (1 ∷ 101 ∷ []) ∷ (1 ∷ []) ∷ (0 ∷ []) ∷ (101 ∷ 1 ∷
    []) ∷ (131072 ∷ 458755 ∷ 262145 ∷ []) ∷ (1 ∷ 2 ∷ 3 ∷ 5 ∷ 6 ∷ []) ∷ [] ∷ [] ∷ [] ∷ (1 ∷ []) ∷ (0 ∷ []) ∷ []) ≡ true
unfolding everything joined history_shown queue_shown pending_shown shown played_if played alike
example_004 = refl

-- R-7: eventless, no targets, a condition
abbrev numbers_005 : List ℕ
numbers_005 = 3 ∷ 1 ∷ 0 ∷ 0 ∷ 0 ∷ 2 ∷ 0 ∷ 65535 ∷ 65535 ∷ 0 ∷ 0 ∷ 0 ∷ 0 ∷ 0 ∷ 0 ∷ 0 ∷ 0 ∷ 1 ∷ 0 ∷ 0 ∷ 0 ∷ 0 ∷ 0 ∷ 0 ∷
    0 ∷ 0 ∷ 0 ∷ 0 ∷ 1 ∷ 0 ∷ 1 ∷ 0 ∷ 0 ∷ 0 ∷ 0 ∷ 0 ∷ 0 ∷ 0 ∷ 0 ∷ 1 ∷ 0 ∷ 0 ∷ 1 ∷ 0 ∷ 0 ∷ 0 ∷ 0 ∷ 0 ∷ []

abbrev names_005 : List ℕ
names_005 = joined (slot_of (115 ∷ []) ∷ slot_of (122 ∷ []) ∷ [])

example_005 : alike (played numbers_005 names_005 []) ((5 ∷ []) ∷ []) ≡ true
unfolding everything joined history_shown queue_shown pending_shown shown played_if played alike
example_005 = refl

-- R-7: eventless, no condition, its own source
abbrev numbers_006 : List ℕ
numbers_006 = 3 ∷ 1 ∷ 1 ∷ 0 ∷ 0 ∷ 2 ∷ 0 ∷ 65535 ∷ 65535 ∷ 0 ∷ 0 ∷ 0 ∷ 0 ∷ 0 ∷ 0 ∷ 0 ∷ 0 ∷ 1 ∷ 0 ∷ 0 ∷ 0 ∷ 0 ∷ 0 ∷ 0 ∷
    0 ∷ 0 ∷ 0 ∷ 0 ∷ 1 ∷ 0 ∷ 1 ∷ 0 ∷ 0 ∷ 0 ∷ 0 ∷ 0 ∷ 0 ∷ 0 ∷ 0 ∷ 1 ∷ 0 ∷ 0 ∷ 65535 ∷ 0 ∷ 0 ∷ 1 ∷ 0 ∷ 0 ∷ 1 ∷ []

abbrev names_006 : List ℕ
names_006 = joined (slot_of (115 ∷ []) ∷ slot_of (122 ∷ []) ∷ [])

example_006 : alike (played numbers_006 names_006 []) ((5 ∷ []) ∷ []) ≡ true
unfolding everything joined history_shown queue_shown pending_shown shown played_if played alike
example_006 = refl

-- R-7: internal, its own source
abbrev numbers_007 : List ℕ
numbers_007 = 3 ∷ 1 ∷ 1 ∷ 0 ∷ 0 ∷ 2 ∷ 0 ∷ 65535 ∷ 65535 ∷ 0 ∷ 0 ∷ 0 ∷ 0 ∷ 0 ∷ 0 ∷ 0 ∷ 0 ∷ 1 ∷ 0 ∷ 0 ∷ 0 ∷ 0 ∷ 0 ∷ 0 ∷
    0 ∷ 0 ∷ 0 ∷ 0 ∷ 1 ∷ 0 ∷ 1 ∷ 0 ∷ 0 ∷ 0 ∷ 0 ∷ 0 ∷ 0 ∷ 0 ∷ 0 ∷ 1 ∷ 0 ∷ 0 ∷ 65535 ∷ 1 ∷ 0 ∷ 1 ∷ 0 ∷ 0 ∷ 1 ∷ []

abbrev names_007 : List ℕ
names_007 = joined (slot_of (115 ∷ []) ∷ slot_of (122 ∷ []) ∷ [])

example_007 : alike (played numbers_007 names_007 []) ((5 ∷ []) ∷ []) ≡ true
unfolding everything joined history_shown queue_shown pending_shown shown played_if played alike
example_007 = refl

-- R-7: its own source among several targets
abbrev numbers_008 : List ℕ
numbers_008 = 4 ∷ 1 ∷ 2 ∷ 0 ∷ 0 ∷ 3 ∷ 0 ∷ 65535 ∷ 65535 ∷ 0 ∷ 0 ∷ 0 ∷ 0 ∷ 0 ∷ 0 ∷ 0 ∷ 0 ∷ 2 ∷ 0 ∷ 0 ∷ 0 ∷ 0 ∷ 0 ∷ 0 ∷
    0 ∷ 0 ∷ 0 ∷ 0 ∷ 1 ∷ 1 ∷ 1 ∷ 0 ∷ 0 ∷ 0 ∷ 0 ∷ 0 ∷ 0 ∷ 0 ∷ 0 ∷ 1 ∷ 1 ∷ 2 ∷ 0 ∷ 0 ∷ 0 ∷ 0 ∷ 0 ∷ 0 ∷ 0 ∷ 0 ∷ 2 ∷ 0 ∷ 0 ∷
    65535 ∷ 0 ∷ 0 ∷ 2 ∷ 0 ∷ 0 ∷ 3 ∷ 2 ∷ []

abbrev names_008 : List ℕ
names_008 = joined (slot_of (112 ∷ []) ∷ slot_of (97 ∷ []) ∷ slot_of (98 ∷ []) ∷ [])

example_008 : alike (played numbers_008 names_008 []) ((5 ∷ []) ∷ []) ≡ true
unfolding everything joined history_shown queue_shown pending_shown shown played_if played alike
example_008 = refl

-- R-7: to its own source with a condition
abbrev numbers_009 : List ℕ
numbers_009 = 3 ∷ 1 ∷ 1 ∷ 0 ∷ 0 ∷ 2 ∷ 0 ∷ 65535 ∷ 65535 ∷ 0 ∷ 0 ∷ 0 ∷ 0 ∷ 0 ∷ 0 ∷ 0 ∷ 0 ∷ 1 ∷ 0 ∷ 0 ∷ 0 ∷ 0 ∷ 0 ∷ 0 ∷
    0 ∷ 0 ∷ 0 ∷ 0 ∷ 1 ∷ 0 ∷ 1 ∷ 0 ∷ 0 ∷ 0 ∷ 0 ∷ 0 ∷ 0 ∷ 0 ∷ 0 ∷ 1 ∷ 0 ∷ 0 ∷ 2 ∷ 0 ∷ 0 ∷ 1 ∷ 0 ∷ 0 ∷ 1 ∷ []

abbrev names_009 : List ℕ
names_009 = joined (slot_of (115 ∷ []) ∷ slot_of (122 ∷ []) ∷ [])

example_009 : alike (played numbers_009 names_009 (starts 200 ∷ runs 3 200 ∷ [])) ((0 ∷ []) ∷ (0 ∷ 0 ∷ []) ∷ (196609 ∷
    []) ∷ (1 ∷ []) ∷ [] ∷ [] ∷ [] ∷ (1 ∷ []) ∷ (0 ∷ []) ∷ (101 ∷ 0 ∷ []) ∷ [] ∷ (1 ∷ []) ∷ [] ∷ [] ∷ [] ∷ (1 ∷ []) ∷
    (0 ∷ []) ∷ []) ≡ true
unfolding everything joined history_shown queue_shown pending_shown shown played_if played alike
example_009 = refl

-- R-7: to its own source with an event
abbrev numbers_010 : List ℕ
numbers_010 = 3 ∷ 1 ∷ 1 ∷ 1 ∷ 0 ∷ 3 ∷ 0 ∷ 65535 ∷ 65535 ∷ 0 ∷ 0 ∷ 0 ∷ 0 ∷ 0 ∷ 0 ∷ 0 ∷ 0 ∷ 1 ∷ 0 ∷ 0 ∷ 0 ∷ 0 ∷ 0 ∷ 0 ∷
    0 ∷ 0 ∷ 0 ∷ 0 ∷ 1 ∷ 0 ∷ 1 ∷ 0 ∷ 0 ∷ 0 ∷ 0 ∷ 0 ∷ 0 ∷ 0 ∷ 0 ∷ 1 ∷ 0 ∷ 1 ∷ 65535 ∷ 0 ∷ 0 ∷ 1 ∷ 0 ∷ 0 ∷ 1 ∷ 2 ∷ []

abbrev names_010 : List ℕ
names_010 = joined (slot_of (115 ∷ []) ∷ slot_of (122 ∷ []) ∷ slot_of (101 ∷ []) ∷ [])

example_010 : alike (played numbers_010 names_010 (starts 200 ∷ posts (101 ∷ []) ∷ [])) ((0 ∷ []) ∷ (0 ∷ 0 ∷ []) ∷
    (196609 ∷ []) ∷ (1 ∷ []) ∷ [] ∷ [] ∷ [] ∷ (1 ∷ []) ∷ (0 ∷ []) ∷ (0 ∷ 0 ∷ []) ∷ [] ∷ (1 ∷ []) ∷ [] ∷ [] ∷ (1 ∷ 101 ∷
    []) ∷ (1 ∷ []) ∷ (0 ∷ []) ∷ []) ≡ true
unfolding everything joined history_shown queue_shown pending_shown shown played_if played alike
example_010 = refl

-- R-7: a longer loop
abbrev numbers_011 : List ℕ
numbers_011 = 4 ∷ 2 ∷ 2 ∷ 0 ∷ 0 ∷ 3 ∷ 0 ∷ 65535 ∷ 65535 ∷ 0 ∷ 0 ∷ 0 ∷ 0 ∷ 0 ∷ 0 ∷ 0 ∷ 0 ∷ 1 ∷ 0 ∷ 0 ∷ 0 ∷ 0 ∷ 0 ∷ 0 ∷
    0 ∷ 0 ∷ 0 ∷ 0 ∷ 1 ∷ 1 ∷ 1 ∷ 0 ∷ 0 ∷ 0 ∷ 0 ∷ 0 ∷ 0 ∷ 0 ∷ 0 ∷ 1 ∷ 1 ∷ 2 ∷ 0 ∷ 0 ∷ 0 ∷ 0 ∷ 0 ∷ 0 ∷ 0 ∷ 0 ∷ 2 ∷ 0 ∷ 0 ∷
    65535 ∷ 0 ∷ 0 ∷ 1 ∷ 0 ∷ 0 ∷ 3 ∷ 0 ∷ 0 ∷ 65535 ∷ 0 ∷ 1 ∷ 1 ∷ 0 ∷ 0 ∷ 3 ∷ 2 ∷ []

abbrev names_011 : List ℕ
names_011 = joined (slot_of (115 ∷ []) ∷ slot_of (97 ∷ []) ∷ slot_of (98 ∷ []) ∷ [])

example_011 : alike (played numbers_011 names_011 (starts 200 ∷ runs 3 200 ∷ [])) ((0 ∷ []) ∷ (0 ∷ 0 ∷ []) ∷ (196609 ∷
    196610 ∷ []) ∷ (1 ∷ 2 ∷ []) ∷ [] ∷ [] ∷ [] ∷ (1 ∷ []) ∷ (0 ∷ []) ∷ (100 ∷ 3 ∷ []) ∷ (65538 ∷ 131072 ∷ 458754 ∷
    196611 ∷ 65539 ∷ 131073 ∷ 458755 ∷ 196610 ∷ 65538 ∷ 131072 ∷ 458754 ∷ 196611 ∷ []) ∷ (1 ∷ 3 ∷ []) ∷ [] ∷ [] ∷ [] ∷
    (1 ∷ []) ∷ (0 ∷ []) ∷ []) ≡ true
unfolding everything joined history_shown queue_shown pending_shown shown played_if played alike
example_011 = refl

-- R-7: to an ancestor, a longer loop
abbrev numbers_012 : List ℕ
numbers_012 = 4 ∷ 1 ∷ 1 ∷ 0 ∷ 0 ∷ 3 ∷ 0 ∷ 65535 ∷ 65535 ∷ 0 ∷ 0 ∷ 0 ∷ 0 ∷ 0 ∷ 0 ∷ 0 ∷ 0 ∷ 1 ∷ 0 ∷ 0 ∷ 0 ∷ 0 ∷ 0 ∷ 0 ∷
    0 ∷ 0 ∷ 0 ∷ 0 ∷ 1 ∷ 1 ∷ 1 ∷ 0 ∷ 0 ∷ 0 ∷ 0 ∷ 0 ∷ 0 ∷ 0 ∷ 0 ∷ 1 ∷ 1 ∷ 2 ∷ 0 ∷ 0 ∷ 0 ∷ 0 ∷ 0 ∷ 0 ∷ 0 ∷ 0 ∷ 2 ∷ 0 ∷ 0 ∷
    65535 ∷ 0 ∷ 0 ∷ 1 ∷ 0 ∷ 0 ∷ 1 ∷ []

abbrev names_012 : List ℕ
names_012 = joined (slot_of (115 ∷ []) ∷ slot_of (97 ∷ []) ∷ slot_of (98 ∷ []) ∷ [])

example_012 : alike (played numbers_012 names_012 (starts 200 ∷ runs 2 200 ∷ [])) ((0 ∷ []) ∷ (0 ∷ 0 ∷ []) ∷ (196609 ∷
    196610 ∷ []) ∷ (1 ∷ 2 ∷ []) ∷ [] ∷ [] ∷ [] ∷ (1 ∷ []) ∷ (0 ∷ []) ∷ (100 ∷ 2 ∷ []) ∷ (65538 ∷ 65537 ∷ 131072 ∷
    458754 ∷ 196609 ∷ 196610 ∷ 65538 ∷ 65537 ∷ 131072 ∷ 458754 ∷ 196609 ∷ 196610 ∷ []) ∷ (1 ∷ 2 ∷ []) ∷ [] ∷ [] ∷ [] ∷
    (1 ∷ []) ∷ (0 ∷ []) ∷ []) ≡ true
unfolding everything joined history_shown queue_shown pending_shown shown played_if played alike
example_012 = refl

-- R-3: own history, nothing stored: entry, initial, default block, then the default list
abbrev numbers_013 : List ℕ
numbers_013 = 6 ∷ 3 ∷ 5 ∷ 3 ∷ 3 ∷ 8 ∷ 0 ∷ 65535 ∷ 65535 ∷ 0 ∷ 0 ∷ 0 ∷ 0 ∷ 0 ∷ 0 ∷ 0 ∷ 0 ∷ 1 ∷ 0 ∷ 0 ∷ 0 ∷ 1 ∷ 0 ∷ 0 ∷
    0 ∷ 1 ∷ 1 ∷ 1 ∷ 1 ∷ 1 ∷ 1 ∷ 0 ∷ 0 ∷ 0 ∷ 0 ∷ 0 ∷ 0 ∷ 0 ∷ 0 ∷ 1 ∷ 1 ∷ 2 ∷ 0 ∷ 0 ∷ 0 ∷ 0 ∷ 0 ∷ 0 ∷ 0 ∷ 0 ∷ 4 ∷ 1 ∷ 3 ∷
    0 ∷ 0 ∷ 0 ∷ 0 ∷ 1 ∷ 1 ∷ 2 ∷ 1 ∷ 1 ∷ 0 ∷ 4 ∷ 0 ∷ 0 ∷ 0 ∷ 0 ∷ 0 ∷ 0 ∷ 0 ∷ 0 ∷ 1 ∷ 0 ∷ 1 ∷ 65535 ∷ 0 ∷ 2 ∷ 1 ∷ 0 ∷ 0 ∷
    3 ∷ 1 ∷ 1 ∷ 65535 ∷ 0 ∷ 3 ∷ 1 ∷ 0 ∷ 0 ∷ 5 ∷ 2 ∷ 1 ∷ 65535 ∷ 0 ∷ 4 ∷ 1 ∷ 0 ∷ 0 ∷ 4 ∷ 3 ∷ 5 ∷ 2 ∷ 1 ∷ 5 ∷ 6 ∷ 7 ∷ 1 ∷
    1 ∷ 0 ∷ 0 ∷ 1 ∷ 2 ∷ 0 ∷ 0 ∷ 1 ∷ 3 ∷ 0 ∷ 0 ∷ []

abbrev names_013 : List ℕ
names_013 = joined (slot_of (115 ∷ []) ∷ slot_of (97 ∷ []) ∷ slot_of (98 ∷ []) ∷ slot_of (104 ∷ []) ∷ slot_of (111 ∷
    []) ∷ slot_of (111 ∷ 117 ∷ 116 ∷ []) ∷ slot_of (103 ∷ []) ∷ slot_of (98 ∷ 97 ∷ 99 ∷ 107 ∷ []) ∷ [])

example_013 : alike (played numbers_013 names_013 (starts 200 ∷ [])) ((0 ∷ []) ∷ (0 ∷ 0 ∷ []) ∷ (196609 ∷ 262145 ∷
    262146 ∷ 262147 ∷ 196611 ∷ []) ∷ (1 ∷ 3 ∷ []) ∷ [] ∷ [] ∷ [] ∷ (1 ∷ []) ∷ (0 ∷ []) ∷ []) ≡ true
unfolding everything joined history_shown queue_shown pending_shown shown played_if played alike
example_013 = refl

-- R-3: own history, stored: the initial block runs, the default block does not
abbrev numbers_014 : List ℕ
numbers_014 = 6 ∷ 3 ∷ 5 ∷ 3 ∷ 3 ∷ 8 ∷ 0 ∷ 65535 ∷ 65535 ∷ 0 ∷ 0 ∷ 0 ∷ 0 ∷ 0 ∷ 0 ∷ 0 ∷ 0 ∷ 1 ∷ 0 ∷ 0 ∷ 0 ∷ 1 ∷ 0 ∷ 0 ∷
    0 ∷ 1 ∷ 1 ∷ 1 ∷ 1 ∷ 1 ∷ 1 ∷ 0 ∷ 0 ∷ 0 ∷ 0 ∷ 0 ∷ 0 ∷ 0 ∷ 0 ∷ 1 ∷ 1 ∷ 2 ∷ 0 ∷ 0 ∷ 0 ∷ 0 ∷ 0 ∷ 0 ∷ 0 ∷ 0 ∷ 4 ∷ 1 ∷ 3 ∷
    0 ∷ 0 ∷ 0 ∷ 0 ∷ 1 ∷ 1 ∷ 2 ∷ 1 ∷ 1 ∷ 0 ∷ 4 ∷ 0 ∷ 0 ∷ 0 ∷ 0 ∷ 0 ∷ 0 ∷ 0 ∷ 0 ∷ 1 ∷ 0 ∷ 1 ∷ 65535 ∷ 0 ∷ 2 ∷ 1 ∷ 0 ∷ 0 ∷
    3 ∷ 1 ∷ 1 ∷ 65535 ∷ 0 ∷ 3 ∷ 1 ∷ 0 ∷ 0 ∷ 5 ∷ 2 ∷ 1 ∷ 65535 ∷ 0 ∷ 4 ∷ 1 ∷ 0 ∷ 0 ∷ 4 ∷ 3 ∷ 5 ∷ 2 ∷ 1 ∷ 5 ∷ 6 ∷ 7 ∷ 1 ∷
    1 ∷ 0 ∷ 0 ∷ 1 ∷ 2 ∷ 0 ∷ 0 ∷ 1 ∷ 3 ∷ 0 ∷ 0 ∷ []

abbrev names_014 : List ℕ
names_014 = joined (slot_of (115 ∷ []) ∷ slot_of (97 ∷ []) ∷ slot_of (98 ∷ []) ∷ slot_of (104 ∷ []) ∷ slot_of (111 ∷
    []) ∷ slot_of (111 ∷ 117 ∷ 116 ∷ []) ∷ slot_of (103 ∷ []) ∷ slot_of (98 ∷ 97 ∷ 99 ∷ 107 ∷ []) ∷ [])

example_014 : alike (played numbers_014 names_014 (starts 200 ∷ posts (103 ∷ []) ∷ posts (111 ∷ 117 ∷ 116 ∷ []) ∷
    posts (98 ∷ 97 ∷ 99 ∷ 107 ∷ []) ∷ runs 9 200 ∷ [])) ((0 ∷ []) ∷ (0 ∷ 0 ∷ []) ∷ (196609 ∷ 262145 ∷ 262146 ∷ 262147 ∷
    196611 ∷ []) ∷ (1 ∷ 3 ∷ []) ∷ [] ∷ [] ∷ [] ∷ (1 ∷ []) ∷ (0 ∷ []) ∷ (0 ∷ 0 ∷ []) ∷ [] ∷ (1 ∷ 3 ∷ []) ∷ [] ∷ [] ∷
    (1 ∷ 103 ∷ []) ∷ (1 ∷ []) ∷ (0 ∷ []) ∷ (0 ∷ 0 ∷ []) ∷ [] ∷ (1 ∷ 3 ∷ []) ∷ [] ∷ [] ∷ (1 ∷ 103 ∷ 3 ∷ 111 ∷ 117 ∷
    116 ∷ []) ∷ (1 ∷ []) ∷ (0 ∷ []) ∷ (0 ∷ 0 ∷ []) ∷ [] ∷ (1 ∷ 3 ∷ []) ∷ [] ∷ [] ∷ (1 ∷ 103 ∷ 3 ∷ 111 ∷ 117 ∷ 116 ∷ 4 ∷
    98 ∷ 97 ∷ 99 ∷ 107 ∷ []) ∷ (1 ∷ []) ∷ (0 ∷ []) ∷ (101 ∷ 3 ∷ []) ∷ (65539 ∷ 131073 ∷ 458755 ∷ 196610 ∷ 65538 ∷
    65537 ∷ 131072 ∷ 458754 ∷ 196613 ∷ 65541 ∷ 131074 ∷ 458757 ∷ 196609 ∷ 262145 ∷ 262146 ∷ 196610 ∷ []) ∷ (1 ∷ 2 ∷
    []) ∷ (4 ∷ 1 ∷ 2 ∷ []) ∷ [] ∷ [] ∷ (1 ∷ []) ∷ (0 ∷ []) ∷ []) ≡ true
unfolding everything joined history_shown queue_shown pending_shown shown played_if played alike
example_014 = refl

-- R-3: the history as this round's exits left it: an external self transition restores what it exits
abbrev numbers_015 : List ℕ
numbers_015 = 6 ∷ 3 ∷ 5 ∷ 3 ∷ 3 ∷ 8 ∷ 0 ∷ 65535 ∷ 65535 ∷ 0 ∷ 0 ∷ 0 ∷ 0 ∷ 0 ∷ 0 ∷ 0 ∷ 0 ∷ 1 ∷ 0 ∷ 0 ∷ 0 ∷ 1 ∷ 0 ∷ 0 ∷
    0 ∷ 1 ∷ 1 ∷ 1 ∷ 1 ∷ 1 ∷ 1 ∷ 0 ∷ 0 ∷ 0 ∷ 0 ∷ 0 ∷ 0 ∷ 0 ∷ 0 ∷ 1 ∷ 1 ∷ 2 ∷ 0 ∷ 0 ∷ 0 ∷ 0 ∷ 0 ∷ 0 ∷ 0 ∷ 0 ∷ 4 ∷ 1 ∷ 3 ∷
    0 ∷ 0 ∷ 0 ∷ 0 ∷ 1 ∷ 1 ∷ 2 ∷ 1 ∷ 1 ∷ 0 ∷ 4 ∷ 0 ∷ 0 ∷ 0 ∷ 0 ∷ 0 ∷ 0 ∷ 0 ∷ 0 ∷ 1 ∷ 0 ∷ 1 ∷ 65535 ∷ 0 ∷ 2 ∷ 1 ∷ 0 ∷ 0 ∷
    3 ∷ 1 ∷ 1 ∷ 65535 ∷ 0 ∷ 3 ∷ 1 ∷ 0 ∷ 0 ∷ 5 ∷ 2 ∷ 1 ∷ 65535 ∷ 0 ∷ 4 ∷ 1 ∷ 0 ∷ 0 ∷ 4 ∷ 3 ∷ 1 ∷ 2 ∷ 1 ∷ 5 ∷ 6 ∷ 7 ∷ 1 ∷
    1 ∷ 0 ∷ 0 ∷ 1 ∷ 2 ∷ 0 ∷ 0 ∷ 1 ∷ 3 ∷ 0 ∷ 0 ∷ []

abbrev names_015 : List ℕ
names_015 = joined (slot_of (115 ∷ []) ∷ slot_of (97 ∷ []) ∷ slot_of (98 ∷ []) ∷ slot_of (104 ∷ []) ∷ slot_of (111 ∷
    []) ∷ slot_of (111 ∷ 117 ∷ 116 ∷ []) ∷ slot_of (103 ∷ []) ∷ slot_of (98 ∷ 97 ∷ 99 ∷ 107 ∷ []) ∷ [])

example_015 : alike (played numbers_015 names_015 (starts 200 ∷ posts (103 ∷ []) ∷ posts (111 ∷ 117 ∷ 116 ∷ []) ∷
    runs 9 200 ∷ [])) ((0 ∷ []) ∷ (0 ∷ 0 ∷ []) ∷ (196609 ∷ 262145 ∷ 262146 ∷ 262147 ∷ 196611 ∷ []) ∷ (1 ∷ 3 ∷ []) ∷
    [] ∷ [] ∷ [] ∷ (1 ∷ []) ∷ (0 ∷ []) ∷ (0 ∷ 0 ∷ []) ∷ [] ∷ (1 ∷ 3 ∷ []) ∷ [] ∷ [] ∷ (1 ∷ 103 ∷ []) ∷ (1 ∷ []) ∷ (0 ∷
    []) ∷ (0 ∷ 0 ∷ []) ∷ [] ∷ (1 ∷ 3 ∷ []) ∷ [] ∷ [] ∷ (1 ∷ 103 ∷ 3 ∷ 111 ∷ 117 ∷ 116 ∷ []) ∷ (1 ∷ []) ∷ (0 ∷ []) ∷
    (101 ∷ 2 ∷ []) ∷ (65539 ∷ 131073 ∷ 458755 ∷ 196610 ∷ 65538 ∷ 65537 ∷ 131072 ∷ 458754 ∷ 196609 ∷ 262145 ∷ 262146 ∷
    196610 ∷ []) ∷ (1 ∷ 2 ∷ []) ∷ (4 ∷ 1 ∷ 2 ∷ []) ∷ [] ∷ [] ∷ (1 ∷ []) ∷ (0 ∷ []) ∷ []) ≡ true
unfolding everything joined history_shown queue_shown pending_shown shown played_if played alike
example_015 = refl

-- R-3: a history of a descendant: the default block in that row's entry, its own initial block not
abbrev numbers_016 : List ℕ
numbers_016 = 7 ∷ 0 ∷ 3 ∷ 0 ∷ 5 ∷ 6 ∷ 0 ∷ 65535 ∷ 65535 ∷ 0 ∷ 0 ∷ 0 ∷ 0 ∷ 0 ∷ 0 ∷ 0 ∷ 0 ∷ 1 ∷ 0 ∷ 0 ∷ 0 ∷ 1 ∷ 0 ∷ 0 ∷
    0 ∷ 1 ∷ 1 ∷ 1 ∷ 1 ∷ 1 ∷ 1 ∷ 0 ∷ 0 ∷ 0 ∷ 0 ∷ 0 ∷ 0 ∷ 0 ∷ 0 ∷ 1 ∷ 1 ∷ 2 ∷ 2 ∷ 1 ∷ 0 ∷ 0 ∷ 1 ∷ 1 ∷ 3 ∷ 1 ∷ 1 ∷ 3 ∷ 3 ∷
    0 ∷ 0 ∷ 0 ∷ 0 ∷ 0 ∷ 0 ∷ 0 ∷ 0 ∷ 1 ∷ 3 ∷ 4 ∷ 0 ∷ 0 ∷ 0 ∷ 0 ∷ 0 ∷ 0 ∷ 0 ∷ 0 ∷ 4 ∷ 3 ∷ 5 ∷ 0 ∷ 0 ∷ 0 ∷ 0 ∷ 2 ∷ 1 ∷ 4 ∷
    1 ∷ 6 ∷ 4 ∷ 5 ∷ 1 ∷ 1 ∷ 0 ∷ 0 ∷ 1 ∷ 2 ∷ 0 ∷ 0 ∷ 1 ∷ 4 ∷ 0 ∷ 0 ∷ 1 ∷ 9 ∷ 0 ∷ 0 ∷ 1 ∷ 3 ∷ 0 ∷ 0 ∷ []

abbrev names_016 : List ℕ
names_016 = joined (slot_of (115 ∷ []) ∷ slot_of (97 ∷ []) ∷ slot_of (113 ∷ []) ∷ slot_of (113 ∷ 49 ∷ []) ∷
    slot_of (113 ∷ 50 ∷ []) ∷ slot_of (104 ∷ []) ∷ [])

example_016 : alike (played numbers_016 names_016 (starts 200 ∷ [])) ((0 ∷ []) ∷ (0 ∷ 0 ∷ []) ∷ (196609 ∷ 262145 ∷
    262146 ∷ 196611 ∷ 262148 ∷ 262147 ∷ 196613 ∷ []) ∷ (1 ∷ 3 ∷ 5 ∷ []) ∷ [] ∷ [] ∷ [] ∷ (1 ∷ []) ∷ (0 ∷ []) ∷
    []) ≡ true
unfolding everything joined history_shown queue_shown pending_shown shown played_if played alike
example_016 = refl

-- R-3: a history of a parallel below; the other region comes by its own initial list, which names its own history
abbrev numbers_017 : List ℕ
numbers_017 = 11 ∷ 0 ∷ 4 ∷ 0 ∷ 4 ∷ 10 ∷ 0 ∷ 65535 ∷ 65535 ∷ 0 ∷ 0 ∷ 0 ∷ 0 ∷ 0 ∷ 0 ∷ 0 ∷ 0 ∷ 1 ∷ 0 ∷ 0 ∷ 0 ∷ 0 ∷ 0 ∷ 0 ∷
    0 ∷ 1 ∷ 0 ∷ 0 ∷ 2 ∷ 1 ∷ 1 ∷ 0 ∷ 1 ∷ 0 ∷ 0 ∷ 0 ∷ 0 ∷ 0 ∷ 0 ∷ 1 ∷ 2 ∷ 2 ∷ 0 ∷ 0 ∷ 0 ∷ 0 ∷ 1 ∷ 1 ∷ 1 ∷ 1 ∷ 1 ∷ 3 ∷ 3 ∷
    0 ∷ 0 ∷ 0 ∷ 0 ∷ 0 ∷ 0 ∷ 0 ∷ 0 ∷ 1 ∷ 3 ∷ 4 ∷ 0 ∷ 0 ∷ 0 ∷ 0 ∷ 0 ∷ 0 ∷ 0 ∷ 0 ∷ 4 ∷ 3 ∷ 5 ∷ 0 ∷ 0 ∷ 0 ∷ 0 ∷ 2 ∷ 1 ∷ 2 ∷
    1 ∷ 1 ∷ 2 ∷ 6 ∷ 0 ∷ 0 ∷ 0 ∷ 0 ∷ 0 ∷ 0 ∷ 0 ∷ 0 ∷ 1 ∷ 7 ∷ 7 ∷ 0 ∷ 0 ∷ 0 ∷ 0 ∷ 0 ∷ 0 ∷ 0 ∷ 0 ∷ 1 ∷ 7 ∷ 8 ∷ 0 ∷ 0 ∷ 0 ∷
    0 ∷ 0 ∷ 0 ∷ 0 ∷ 0 ∷ 5 ∷ 2 ∷ 9 ∷ 0 ∷ 0 ∷ 0 ∷ 0 ∷ 3 ∷ 1 ∷ 3 ∷ 1 ∷ 10 ∷ 6 ∷ 5 ∷ 9 ∷ 1 ∷ 4 ∷ 0 ∷ 0 ∷ 1 ∷ 5 ∷ 0 ∷ 0 ∷
    1 ∷ 6 ∷ 0 ∷ 0 ∷ 1 ∷ 3 ∷ 0 ∷ 0 ∷ []

abbrev names_017 : List ℕ
names_017 = joined (slot_of (115 ∷ []) ∷ slot_of (112 ∷ []) ∷ slot_of (99 ∷ []) ∷ slot_of (99 ∷ 49 ∷ []) ∷
    slot_of (99 ∷ 50 ∷ []) ∷ slot_of (104 ∷ 99 ∷ []) ∷ slot_of (100 ∷ []) ∷ slot_of (100 ∷ 49 ∷ []) ∷ slot_of (100 ∷
    50 ∷ []) ∷ slot_of (104 ∷ []) ∷ [])

example_017 : alike (played numbers_017 names_017 (starts 200 ∷ [])) ((0 ∷ []) ∷ (0 ∷ 0 ∷ []) ∷ (196609 ∷ 196610 ∷
    262148 ∷ 262147 ∷ 196611 ∷ 262149 ∷ 262150 ∷ 196613 ∷ 196615 ∷ 196617 ∷ []) ∷ (1 ∷ 2 ∷ 3 ∷ 5 ∷ 7 ∷ 9 ∷ []) ∷ [] ∷
    [] ∷ [] ∷ (1 ∷ []) ∷ (0 ∷ []) ∷ []) ≡ true
unfolding everything joined history_shown queue_shown pending_shown shown played_if played alike
example_017 = refl

-- R-3: the root's initial list names a history: default block in the parent's entry, no initial block above it
abbrev numbers_018 : List ℕ
numbers_018 = 7 ∷ 0 ∷ 4 ∷ 0 ∷ 5 ∷ 6 ∷ 0 ∷ 65535 ∷ 65535 ∷ 0 ∷ 0 ∷ 0 ∷ 0 ∷ 0 ∷ 1 ∷ 0 ∷ 0 ∷ 1 ∷ 0 ∷ 0 ∷ 0 ∷ 1 ∷ 0 ∷ 0 ∷
    1 ∷ 1 ∷ 1 ∷ 1 ∷ 1 ∷ 1 ∷ 1 ∷ 0 ∷ 0 ∷ 0 ∷ 0 ∷ 0 ∷ 0 ∷ 0 ∷ 0 ∷ 1 ∷ 1 ∷ 2 ∷ 2 ∷ 1 ∷ 0 ∷ 0 ∷ 2 ∷ 1 ∷ 3 ∷ 1 ∷ 1 ∷ 3 ∷ 3 ∷
    0 ∷ 0 ∷ 0 ∷ 0 ∷ 0 ∷ 0 ∷ 0 ∷ 0 ∷ 1 ∷ 3 ∷ 4 ∷ 0 ∷ 0 ∷ 0 ∷ 0 ∷ 0 ∷ 0 ∷ 0 ∷ 0 ∷ 4 ∷ 3 ∷ 5 ∷ 0 ∷ 0 ∷ 0 ∷ 0 ∷ 3 ∷ 1 ∷ 4 ∷
    1 ∷ 6 ∷ 6 ∷ 4 ∷ 5 ∷ 1 ∷ 1 ∷ 0 ∷ 0 ∷ 1 ∷ 2 ∷ 0 ∷ 0 ∷ 1 ∷ 4 ∷ 0 ∷ 0 ∷ 1 ∷ 9 ∷ 0 ∷ 0 ∷ 1 ∷ 3 ∷ 0 ∷ 0 ∷ []

abbrev names_018 : List ℕ
names_018 = joined (slot_of (115 ∷ []) ∷ slot_of (97 ∷ []) ∷ slot_of (113 ∷ []) ∷ slot_of (113 ∷ 49 ∷ []) ∷
    slot_of (113 ∷ 50 ∷ []) ∷ slot_of (104 ∷ []) ∷ [])

example_018 : alike (played numbers_018 names_018 (starts 200 ∷ [])) ((0 ∷ []) ∷ (0 ∷ 0 ∷ []) ∷ (196609 ∷ 262145 ∷
    196611 ∷ 262148 ∷ 262147 ∷ 196613 ∷ []) ∷ (1 ∷ 3 ∷ 5 ∷ []) ∷ [] ∷ [] ∷ [] ∷ (1 ∷ []) ∷ (0 ∷ []) ∷ []) ≡ true
unfolding everything joined history_shown queue_shown pending_shown shown played_if played alike
example_018 = refl

-- R-3: the owner's own history stands alone in the list
abbrev numbers_019 : List ℕ
numbers_019 = 11 ∷ 0 ∷ 5 ∷ 0 ∷ 0 ∷ 10 ∷ 0 ∷ 65535 ∷ 65535 ∷ 0 ∷ 0 ∷ 0 ∷ 0 ∷ 0 ∷ 0 ∷ 0 ∷ 0 ∷ 1 ∷ 0 ∷ 0 ∷ 0 ∷ 0 ∷ 0 ∷ 0 ∷
    0 ∷ 2 ∷ 0 ∷ 0 ∷ 1 ∷ 1 ∷ 1 ∷ 0 ∷ 0 ∷ 0 ∷ 0 ∷ 0 ∷ 0 ∷ 0 ∷ 0 ∷ 1 ∷ 1 ∷ 2 ∷ 0 ∷ 0 ∷ 0 ∷ 0 ∷ 0 ∷ 0 ∷ 0 ∷ 0 ∷ 1 ∷ 3 ∷ 3 ∷
    0 ∷ 0 ∷ 0 ∷ 0 ∷ 0 ∷ 0 ∷ 0 ∷ 0 ∷ 1 ∷ 3 ∷ 4 ∷ 0 ∷ 0 ∷ 0 ∷ 0 ∷ 0 ∷ 0 ∷ 0 ∷ 0 ∷ 4 ∷ 3 ∷ 5 ∷ 0 ∷ 0 ∷ 0 ∷ 0 ∷ 2 ∷ 1 ∷ 0 ∷
    0 ∷ 5 ∷ 3 ∷ 6 ∷ 0 ∷ 0 ∷ 0 ∷ 0 ∷ 3 ∷ 1 ∷ 0 ∷ 0 ∷ 4 ∷ 1 ∷ 7 ∷ 0 ∷ 0 ∷ 0 ∷ 0 ∷ 4 ∷ 1 ∷ 0 ∷ 0 ∷ 1 ∷ 0 ∷ 8 ∷ 0 ∷ 0 ∷ 0 ∷
    0 ∷ 0 ∷ 0 ∷ 0 ∷ 0 ∷ 1 ∷ 9 ∷ 9 ∷ 0 ∷ 0 ∷ 0 ∷ 0 ∷ 0 ∷ 0 ∷ 0 ∷ 0 ∷ 8 ∷ 2 ∷ 4 ∷ 5 ∷ 2 ∷ []

abbrev names_019 : List ℕ
names_019 = joined (slot_of (115 ∷ []) ∷ slot_of (97 ∷ []) ∷ slot_of (113 ∷ []) ∷ slot_of (113 ∷ 49 ∷ []) ∷
    slot_of (113 ∷ 50 ∷ []) ∷ slot_of (104 ∷ []) ∷ slot_of (103 ∷ []) ∷ slot_of (104 ∷ 115 ∷ []) ∷ slot_of (122 ∷ []) ∷
    slot_of (122 ∷ 49 ∷ []) ∷ [])

example_019 : alike (played numbers_019 names_019 []) ((4 ∷ []) ∷ []) ≡ true
unfolding everything joined history_shown queue_shown pending_shown shown played_if played alike
example_019 = refl

-- R-3: a history and a row below its parent
abbrev numbers_020 : List ℕ
numbers_020 = 11 ∷ 0 ∷ 5 ∷ 0 ∷ 0 ∷ 10 ∷ 0 ∷ 65535 ∷ 65535 ∷ 0 ∷ 0 ∷ 0 ∷ 0 ∷ 0 ∷ 0 ∷ 0 ∷ 0 ∷ 1 ∷ 0 ∷ 0 ∷ 0 ∷ 0 ∷ 0 ∷ 0 ∷
    0 ∷ 2 ∷ 0 ∷ 0 ∷ 1 ∷ 1 ∷ 1 ∷ 0 ∷ 0 ∷ 0 ∷ 0 ∷ 0 ∷ 0 ∷ 0 ∷ 0 ∷ 1 ∷ 1 ∷ 2 ∷ 0 ∷ 0 ∷ 0 ∷ 0 ∷ 0 ∷ 0 ∷ 0 ∷ 0 ∷ 1 ∷ 3 ∷ 3 ∷
    0 ∷ 0 ∷ 0 ∷ 0 ∷ 0 ∷ 0 ∷ 0 ∷ 0 ∷ 1 ∷ 3 ∷ 4 ∷ 0 ∷ 0 ∷ 0 ∷ 0 ∷ 0 ∷ 0 ∷ 0 ∷ 0 ∷ 4 ∷ 3 ∷ 5 ∷ 0 ∷ 0 ∷ 0 ∷ 0 ∷ 2 ∷ 1 ∷ 0 ∷
    0 ∷ 5 ∷ 3 ∷ 6 ∷ 0 ∷ 0 ∷ 0 ∷ 0 ∷ 3 ∷ 1 ∷ 0 ∷ 0 ∷ 4 ∷ 1 ∷ 7 ∷ 0 ∷ 0 ∷ 0 ∷ 0 ∷ 4 ∷ 1 ∷ 0 ∷ 0 ∷ 1 ∷ 0 ∷ 8 ∷ 0 ∷ 0 ∷ 0 ∷
    0 ∷ 0 ∷ 0 ∷ 0 ∷ 0 ∷ 1 ∷ 9 ∷ 9 ∷ 0 ∷ 0 ∷ 0 ∷ 0 ∷ 0 ∷ 0 ∷ 0 ∷ 0 ∷ 6 ∷ 4 ∷ 4 ∷ 5 ∷ 2 ∷ []

abbrev names_020 : List ℕ
names_020 = joined (slot_of (115 ∷ []) ∷ slot_of (97 ∷ []) ∷ slot_of (113 ∷ []) ∷ slot_of (113 ∷ 49 ∷ []) ∷
    slot_of (113 ∷ 50 ∷ []) ∷ slot_of (104 ∷ []) ∷ slot_of (103 ∷ []) ∷ slot_of (104 ∷ 115 ∷ []) ∷ slot_of (122 ∷ []) ∷
    slot_of (122 ∷ 49 ∷ []) ∷ [])

example_020 : alike (played numbers_020 names_020 []) ((4 ∷ []) ∷ []) ≡ true
unfolding everything joined history_shown queue_shown pending_shown shown played_if played alike
example_020 = refl

-- R-3: two histories of one row
abbrev numbers_021 : List ℕ
numbers_021 = 11 ∷ 0 ∷ 5 ∷ 0 ∷ 0 ∷ 10 ∷ 0 ∷ 65535 ∷ 65535 ∷ 0 ∷ 0 ∷ 0 ∷ 0 ∷ 0 ∷ 0 ∷ 0 ∷ 0 ∷ 1 ∷ 0 ∷ 0 ∷ 0 ∷ 0 ∷ 0 ∷ 0 ∷
    0 ∷ 2 ∷ 0 ∷ 0 ∷ 1 ∷ 1 ∷ 1 ∷ 0 ∷ 0 ∷ 0 ∷ 0 ∷ 0 ∷ 0 ∷ 0 ∷ 0 ∷ 1 ∷ 1 ∷ 2 ∷ 0 ∷ 0 ∷ 0 ∷ 0 ∷ 0 ∷ 0 ∷ 0 ∷ 0 ∷ 1 ∷ 3 ∷ 3 ∷
    0 ∷ 0 ∷ 0 ∷ 0 ∷ 0 ∷ 0 ∷ 0 ∷ 0 ∷ 1 ∷ 3 ∷ 4 ∷ 0 ∷ 0 ∷ 0 ∷ 0 ∷ 0 ∷ 0 ∷ 0 ∷ 0 ∷ 4 ∷ 3 ∷ 5 ∷ 0 ∷ 0 ∷ 0 ∷ 0 ∷ 2 ∷ 1 ∷ 0 ∷
    0 ∷ 5 ∷ 3 ∷ 6 ∷ 0 ∷ 0 ∷ 0 ∷ 0 ∷ 3 ∷ 1 ∷ 0 ∷ 0 ∷ 4 ∷ 1 ∷ 7 ∷ 0 ∷ 0 ∷ 0 ∷ 0 ∷ 4 ∷ 1 ∷ 0 ∷ 0 ∷ 1 ∷ 0 ∷ 8 ∷ 0 ∷ 0 ∷ 0 ∷
    0 ∷ 0 ∷ 0 ∷ 0 ∷ 0 ∷ 1 ∷ 9 ∷ 9 ∷ 0 ∷ 0 ∷ 0 ∷ 0 ∷ 0 ∷ 0 ∷ 0 ∷ 0 ∷ 6 ∷ 7 ∷ 4 ∷ 5 ∷ 2 ∷ []

abbrev names_021 : List ℕ
names_021 = joined (slot_of (115 ∷ []) ∷ slot_of (97 ∷ []) ∷ slot_of (113 ∷ []) ∷ slot_of (113 ∷ 49 ∷ []) ∷
    slot_of (113 ∷ 50 ∷ []) ∷ slot_of (104 ∷ []) ∷ slot_of (103 ∷ []) ∷ slot_of (104 ∷ 115 ∷ []) ∷ slot_of (122 ∷ []) ∷
    slot_of (122 ∷ 49 ∷ []) ∷ [])

example_021 : alike (played numbers_021 names_021 []) ((4 ∷ []) ∷ []) ≡ true
unfolding everything joined history_shown queue_shown pending_shown shown played_if played alike
example_021 = refl

-- R-3: a history that stands outside the owner
abbrev numbers_022 : List ℕ
numbers_022 = 11 ∷ 0 ∷ 4 ∷ 0 ∷ 0 ∷ 10 ∷ 0 ∷ 65535 ∷ 65535 ∷ 0 ∷ 0 ∷ 0 ∷ 0 ∷ 0 ∷ 0 ∷ 0 ∷ 0 ∷ 1 ∷ 0 ∷ 0 ∷ 0 ∷ 0 ∷ 0 ∷ 0 ∷
    0 ∷ 0 ∷ 0 ∷ 0 ∷ 1 ∷ 1 ∷ 1 ∷ 0 ∷ 0 ∷ 0 ∷ 0 ∷ 0 ∷ 0 ∷ 0 ∷ 0 ∷ 1 ∷ 1 ∷ 2 ∷ 0 ∷ 0 ∷ 0 ∷ 0 ∷ 0 ∷ 0 ∷ 0 ∷ 0 ∷ 1 ∷ 3 ∷ 3 ∷
    0 ∷ 0 ∷ 0 ∷ 0 ∷ 0 ∷ 0 ∷ 0 ∷ 0 ∷ 1 ∷ 3 ∷ 4 ∷ 0 ∷ 0 ∷ 0 ∷ 0 ∷ 0 ∷ 0 ∷ 0 ∷ 0 ∷ 4 ∷ 3 ∷ 5 ∷ 0 ∷ 0 ∷ 0 ∷ 0 ∷ 0 ∷ 1 ∷ 0 ∷
    0 ∷ 5 ∷ 3 ∷ 6 ∷ 0 ∷ 0 ∷ 0 ∷ 0 ∷ 1 ∷ 1 ∷ 0 ∷ 0 ∷ 4 ∷ 1 ∷ 7 ∷ 0 ∷ 0 ∷ 0 ∷ 0 ∷ 2 ∷ 1 ∷ 0 ∷ 0 ∷ 1 ∷ 0 ∷ 8 ∷ 0 ∷ 0 ∷ 0 ∷
    0 ∷ 3 ∷ 1 ∷ 0 ∷ 0 ∷ 1 ∷ 9 ∷ 9 ∷ 0 ∷ 0 ∷ 0 ∷ 0 ∷ 0 ∷ 0 ∷ 0 ∷ 0 ∷ 4 ∷ 5 ∷ 2 ∷ 6 ∷ []

abbrev names_022 : List ℕ
names_022 = joined (slot_of (115 ∷ []) ∷ slot_of (97 ∷ []) ∷ slot_of (113 ∷ []) ∷ slot_of (113 ∷ 49 ∷ []) ∷
    slot_of (113 ∷ 50 ∷ []) ∷ slot_of (104 ∷ []) ∷ slot_of (103 ∷ []) ∷ slot_of (104 ∷ 115 ∷ []) ∷ slot_of (122 ∷ []) ∷
    slot_of (122 ∷ 49 ∷ []) ∷ [])

example_022 : alike (played numbers_022 names_022 []) ((4 ∷ []) ∷ []) ≡ true
unfolding everything joined history_shown queue_shown pending_shown shown played_if played alike
example_022 = refl

-- R-3: a default list still holds no history
abbrev numbers_023 : List ℕ
numbers_023 = 11 ∷ 0 ∷ 3 ∷ 0 ∷ 0 ∷ 10 ∷ 0 ∷ 65535 ∷ 65535 ∷ 0 ∷ 0 ∷ 0 ∷ 0 ∷ 0 ∷ 0 ∷ 0 ∷ 0 ∷ 1 ∷ 0 ∷ 0 ∷ 0 ∷ 0 ∷ 0 ∷ 0 ∷
    0 ∷ 0 ∷ 0 ∷ 0 ∷ 1 ∷ 1 ∷ 1 ∷ 0 ∷ 0 ∷ 0 ∷ 0 ∷ 0 ∷ 0 ∷ 0 ∷ 0 ∷ 1 ∷ 1 ∷ 2 ∷ 0 ∷ 0 ∷ 0 ∷ 0 ∷ 0 ∷ 0 ∷ 0 ∷ 0 ∷ 1 ∷ 3 ∷ 3 ∷
    0 ∷ 0 ∷ 0 ∷ 0 ∷ 0 ∷ 0 ∷ 0 ∷ 0 ∷ 1 ∷ 3 ∷ 4 ∷ 0 ∷ 0 ∷ 0 ∷ 0 ∷ 0 ∷ 0 ∷ 0 ∷ 0 ∷ 4 ∷ 3 ∷ 5 ∷ 0 ∷ 0 ∷ 0 ∷ 0 ∷ 0 ∷ 1 ∷ 0 ∷
    0 ∷ 5 ∷ 3 ∷ 6 ∷ 0 ∷ 0 ∷ 0 ∷ 0 ∷ 1 ∷ 1 ∷ 0 ∷ 0 ∷ 4 ∷ 1 ∷ 7 ∷ 0 ∷ 0 ∷ 0 ∷ 0 ∷ 2 ∷ 1 ∷ 0 ∷ 0 ∷ 1 ∷ 0 ∷ 8 ∷ 0 ∷ 0 ∷ 0 ∷
    0 ∷ 0 ∷ 0 ∷ 0 ∷ 0 ∷ 1 ∷ 9 ∷ 9 ∷ 0 ∷ 0 ∷ 0 ∷ 0 ∷ 0 ∷ 0 ∷ 0 ∷ 0 ∷ 4 ∷ 5 ∷ 6 ∷ []

abbrev names_023 : List ℕ
names_023 = joined (slot_of (115 ∷ []) ∷ slot_of (97 ∷ []) ∷ slot_of (113 ∷ []) ∷ slot_of (113 ∷ 49 ∷ []) ∷
    slot_of (113 ∷ 50 ∷ []) ∷ slot_of (104 ∷ []) ∷ slot_of (103 ∷ []) ∷ slot_of (104 ∷ 115 ∷ []) ∷ slot_of (122 ∷ []) ∷
    slot_of (122 ∷ 49 ∷ []) ∷ [])

example_023 : alike (played numbers_023 names_023 []) ((4 ∷ []) ∷ []) ≡ true
unfolding everything joined history_shown queue_shown pending_shown shown played_if played alike
example_023 = refl

-- R-5: exit blocks: those exited before are not active, the row itself is; transition: neither; entry: those entered so far
abbrev numbers_024 : List ℕ
numbers_024 = 6 ∷ 1 ∷ 1 ∷ 1 ∷ 55 ∷ 6 ∷ 0 ∷ 65535 ∷ 65535 ∷ 0 ∷ 0 ∷ 0 ∷ 0 ∷ 0 ∷ 0 ∷ 0 ∷ 0 ∷ 2 ∷ 0 ∷ 0 ∷ 0 ∷ 0 ∷ 0 ∷ 9 ∷
    0 ∷ 0 ∷ 0 ∷ 0 ∷ 1 ∷ 1 ∷ 1 ∷ 0 ∷ 0 ∷ 9 ∷ 9 ∷ 0 ∷ 0 ∷ 0 ∷ 0 ∷ 1 ∷ 1 ∷ 2 ∷ 0 ∷ 0 ∷ 18 ∷ 12 ∷ 0 ∷ 0 ∷ 0 ∷ 0 ∷ 1 ∷ 0 ∷
    3 ∷ 30 ∷ 9 ∷ 0 ∷ 0 ∷ 0 ∷ 0 ∷ 0 ∷ 0 ∷ 1 ∷ 4 ∷ 4 ∷ 39 ∷ 9 ∷ 0 ∷ 0 ∷ 0 ∷ 0 ∷ 0 ∷ 0 ∷ 1 ∷ 0 ∷ 1 ∷ 65535 ∷ 0 ∷ 0 ∷ 1 ∷
    48 ∷ 7 ∷ 4 ∷ 5 ∷ 2 ∷ 1 ∷ 0 ∷ 0 ∷ 1 ∷ 11 ∷ 0 ∷ 0 ∷ 5 ∷ 0 ∷ 0 ∷ 0 ∷ 2 ∷ 2 ∷ 0 ∷ 0 ∷ 1 ∷ 12 ∷ 0 ∷ 0 ∷ 5 ∷ 0 ∷ 0 ∷ 0 ∷
    2 ∷ 3 ∷ 0 ∷ 0 ∷ 1 ∷ 13 ∷ 0 ∷ 0 ∷ 5 ∷ 0 ∷ 0 ∷ 0 ∷ 2 ∷ 1 ∷ 0 ∷ 0 ∷ 1 ∷ 21 ∷ 0 ∷ 0 ∷ 5 ∷ 0 ∷ 0 ∷ 0 ∷ 2 ∷ 2 ∷ 0 ∷ 0 ∷
    1 ∷ 22 ∷ 0 ∷ 0 ∷ 5 ∷ 0 ∷ 0 ∷ 0 ∷ 2 ∷ 3 ∷ 0 ∷ 0 ∷ 1 ∷ 23 ∷ 0 ∷ 0 ∷ 5 ∷ 0 ∷ 0 ∷ 0 ∷ 2 ∷ 1 ∷ 0 ∷ 0 ∷ 1 ∷ 31 ∷ 0 ∷ 0 ∷
    5 ∷ 0 ∷ 0 ∷ 0 ∷ 2 ∷ 2 ∷ 0 ∷ 0 ∷ 1 ∷ 32 ∷ 0 ∷ 0 ∷ 5 ∷ 0 ∷ 0 ∷ 0 ∷ 2 ∷ 3 ∷ 0 ∷ 0 ∷ 1 ∷ 33 ∷ 0 ∷ 0 ∷ 5 ∷ 0 ∷ 0 ∷ 0 ∷
    2 ∷ 4 ∷ 0 ∷ 0 ∷ 1 ∷ 34 ∷ 0 ∷ 0 ∷ 5 ∷ 0 ∷ 0 ∷ 0 ∷ 2 ∷ 4 ∷ 0 ∷ 0 ∷ 1 ∷ 41 ∷ 0 ∷ 0 ∷ 5 ∷ 0 ∷ 0 ∷ 0 ∷ 2 ∷ 5 ∷ 0 ∷ 0 ∷
    1 ∷ 42 ∷ 0 ∷ 0 ∷ 5 ∷ 0 ∷ 0 ∷ 0 ∷ 2 ∷ 1 ∷ 0 ∷ 0 ∷ 1 ∷ 43 ∷ 0 ∷ 0 ∷ 5 ∷ 0 ∷ 0 ∷ 0 ∷ 2 ∷ 4 ∷ 0 ∷ 0 ∷ 1 ∷ 51 ∷ 0 ∷ 0 ∷
    5 ∷ 0 ∷ 0 ∷ 0 ∷ 2 ∷ 5 ∷ 0 ∷ 0 ∷ 1 ∷ 52 ∷ 0 ∷ 0 ∷ 5 ∷ 0 ∷ 0 ∷ 0 ∷ 2 ∷ 1 ∷ 0 ∷ 0 ∷ 1 ∷ 53 ∷ 0 ∷ 0 ∷ 5 ∷ 0 ∷ 0 ∷ 0 ∷
    2 ∷ 1 ∷ 0 ∷ 0 ∷ 1 ∷ 61 ∷ 0 ∷ 0 ∷ 3 ∷ 4 ∷ 0 ∷ 0 ∷ 1 ∷ 62 ∷ 0 ∷ 0 ∷ 4 ∷ 0 ∷ 0 ∷ 0 ∷ 1 ∷ 63 ∷ 0 ∷ 0 ∷ 5 ∷ 0 ∷ 0 ∷ 0 ∷
    []

abbrev names_024 : List ℕ
names_024 = joined (slot_of (112 ∷ []) ∷ slot_of (97 ∷ []) ∷ slot_of (98 ∷ []) ∷ slot_of (113 ∷ []) ∷ slot_of (99 ∷
    []) ∷ slot_of (101 ∷ []) ∷ [])

example_024 : alike (played numbers_024 names_024 (starts 200 ∷ posts (101 ∷ []) ∷ runs 1 200 ∷ [])) ((0 ∷ []) ∷ (0 ∷
    0 ∷ []) ∷ (196609 ∷ 196610 ∷ 196611 ∷ []) ∷ (1 ∷ 2 ∷ 3 ∷ []) ∷ [] ∷ [] ∷ [] ∷ (1 ∷ []) ∷ (0 ∷ []) ∷ (0 ∷ 0 ∷ []) ∷
    [] ∷ (1 ∷ 2 ∷ 3 ∷ []) ∷ [] ∷ [] ∷ (1 ∷ 101 ∷ []) ∷ (1 ∷ []) ∷ (0 ∷ []) ∷ (101 ∷ 1 ∷ []) ∷ (65539 ∷ 262175 ∷
    262176 ∷ 262177 ∷ 65538 ∷ 262165 ∷ 262166 ∷ 65537 ∷ 262155 ∷ 131072 ∷ 458754 ∷ 262207 ∷ 196612 ∷ 262185 ∷ 196613 ∷
    262195 ∷ 262196 ∷ []) ∷ (4 ∷ 5 ∷ []) ∷ [] ∷ [] ∷ [] ∷ (1 ∷ []) ∷ (0 ∷ []) ∷ []) ≡ true
unfolding everything joined history_shown queue_shown pending_shown shown played_if played alike
example_024 = refl

-- R-5: nested branches; an initial block sees its row and not yet the child
abbrev numbers_025 : List ℕ
numbers_025 = 3 ∷ 0 ∷ 1 ∷ 0 ∷ 20 ∷ 2 ∷ 0 ∷ 65535 ∷ 65535 ∷ 0 ∷ 0 ∷ 0 ∷ 0 ∷ 0 ∷ 0 ∷ 0 ∷ 0 ∷ 1 ∷ 0 ∷ 0 ∷ 0 ∷ 13 ∷ 0 ∷ 0 ∷
    0 ∷ 1 ∷ 13 ∷ 7 ∷ 1 ∷ 1 ∷ 1 ∷ 0 ∷ 0 ∷ 0 ∷ 0 ∷ 0 ∷ 0 ∷ 0 ∷ 0 ∷ 2 ∷ 2 ∷ 2 ∷ 0 ∷ 0 ∷ 1 ∷ 1 ∷ 0 ∷ 0 ∷ 4 ∷ 0 ∷ 0 ∷ 0 ∷
    1 ∷ 2 ∷ 0 ∷ 0 ∷ 2 ∷ 2 ∷ 0 ∷ 0 ∷ 1 ∷ 3 ∷ 0 ∷ 0 ∷ 3 ∷ 1 ∷ 0 ∷ 0 ∷ 1 ∷ 4 ∷ 0 ∷ 0 ∷ 4 ∷ 0 ∷ 0 ∷ 0 ∷ 1 ∷ 5 ∷ 0 ∷ 0 ∷ 5 ∷
    0 ∷ 0 ∷ 0 ∷ 5 ∷ 0 ∷ 0 ∷ 0 ∷ 1 ∷ 6 ∷ 0 ∷ 0 ∷ 2 ∷ 2 ∷ 0 ∷ 0 ∷ 1 ∷ 7 ∷ 0 ∷ 0 ∷ 3 ∷ 1 ∷ 0 ∷ 0 ∷ 1 ∷ 8 ∷ 0 ∷ 0 ∷ 4 ∷ 0 ∷
    0 ∷ 0 ∷ 1 ∷ 9 ∷ 0 ∷ 0 ∷ 5 ∷ 0 ∷ 0 ∷ 0 ∷ []

abbrev names_025 : List ℕ
names_025 = joined (slot_of (115 ∷ []) ∷ slot_of (97 ∷ []) ∷ [])

example_025 : alike (played numbers_025 names_025 (starts 200 ∷ [])) ((0 ∷ []) ∷ (0 ∷ 0 ∷ []) ∷ (196609 ∷ 262146 ∷
    262148 ∷ 262150 ∷ 262152 ∷ 196610 ∷ []) ∷ (1 ∷ 2 ∷ []) ∷ [] ∷ [] ∷ [] ∷ (1 ∷ []) ∷ (0 ∷ []) ∷ []) ≡ true
unfolding everything joined history_shown queue_shown pending_shown shown played_if played alike
example_025 = refl

-- R-5: the closing round: the final is active in its own exit block, its raise is shown
abbrev numbers_026 : List ℕ
numbers_026 = 3 ∷ 1 ∷ 1 ∷ 1 ∷ 5 ∷ 4 ∷ 0 ∷ 65535 ∷ 65535 ∷ 0 ∷ 0 ∷ 0 ∷ 0 ∷ 0 ∷ 0 ∷ 0 ∷ 0 ∷ 1 ∷ 0 ∷ 0 ∷ 0 ∷ 0 ∷ 0 ∷ 0 ∷
    0 ∷ 0 ∷ 0 ∷ 0 ∷ 3 ∷ 0 ∷ 1 ∷ 0 ∷ 0 ∷ 0 ∷ 5 ∷ 0 ∷ 0 ∷ 0 ∷ 0 ∷ 1 ∷ 0 ∷ 1 ∷ 65535 ∷ 0 ∷ 0 ∷ 1 ∷ 0 ∷ 0 ∷ 2 ∷ 2 ∷ 2 ∷ 1 ∷
    0 ∷ 0 ∷ 1 ∷ 1 ∷ 0 ∷ 0 ∷ 3 ∷ 2 ∷ 0 ∷ 0 ∷ 0 ∷ 3 ∷ 0 ∷ 0 ∷ 5 ∷ 0 ∷ 0 ∷ 0 ∷ []

abbrev names_026 : List ℕ
names_026 = joined (slot_of (115 ∷ []) ∷ slot_of (102 ∷ []) ∷ slot_of (101 ∷ []) ∷ slot_of (108 ∷ 97 ∷ 116 ∷ 101 ∷
    []) ∷ [])

example_026 : alike (played numbers_026 names_026 (starts 200 ∷ posts (101 ∷ []) ∷ runs 9 200 ∷ [])) ((0 ∷ []) ∷ (0 ∷
    0 ∷ []) ∷ (196609 ∷ []) ∷ (1 ∷ []) ∷ [] ∷ [] ∷ [] ∷ (1 ∷ []) ∷ (0 ∷ []) ∷ (0 ∷ 0 ∷ []) ∷ [] ∷ (1 ∷ []) ∷ [] ∷ [] ∷
    (1 ∷ 101 ∷ []) ∷ (1 ∷ []) ∷ (0 ∷ []) ∷ (102 ∷ 2 ∷ []) ∷ (65537 ∷ 131072 ∷ 458753 ∷ 196610 ∷ 65538 ∷ 327683 ∷ []) ∷
    [] ∷ [] ∷ [] ∷ [] ∷ (0 ∷ []) ∷ (0 ∷ []) ∷ []) ≡ true
unfolding everything joined history_shown queue_shown pending_shown shown played_if played alike
example_026 = refl

-- R-5: 7 and 10 count only the branch taken: no branch here, room 4 suffices
abbrev numbers_027 : List ℕ
numbers_027 = 3 ∷ 1 ∷ 1 ∷ 1 ∷ 64 ∷ 4 ∷ 0 ∷ 65535 ∷ 65535 ∷ 0 ∷ 0 ∷ 0 ∷ 0 ∷ 0 ∷ 0 ∷ 0 ∷ 0 ∷ 1 ∷ 0 ∷ 0 ∷ 0 ∷ 0 ∷ 0 ∷ 32 ∷
    0 ∷ 0 ∷ 0 ∷ 0 ∷ 1 ∷ 0 ∷ 1 ∷ 0 ∷ 0 ∷ 0 ∷ 0 ∷ 0 ∷ 0 ∷ 0 ∷ 0 ∷ 1 ∷ 0 ∷ 1 ∷ 65535 ∷ 0 ∷ 0 ∷ 1 ∷ 32 ∷ 32 ∷ 2 ∷ 2 ∷ 2 ∷
    2 ∷ 0 ∷ 0 ∷ 0 ∷ 3 ∷ 0 ∷ 0 ∷ 0 ∷ 3 ∷ 0 ∷ 0 ∷ 0 ∷ 3 ∷ 0 ∷ 0 ∷ 0 ∷ 3 ∷ 0 ∷ 0 ∷ 0 ∷ 3 ∷ 0 ∷ 0 ∷ 0 ∷ 3 ∷ 0 ∷ 0 ∷ 0 ∷ 3 ∷
    0 ∷ 0 ∷ 0 ∷ 3 ∷ 0 ∷ 0 ∷ 0 ∷ 3 ∷ 0 ∷ 0 ∷ 0 ∷ 3 ∷ 0 ∷ 0 ∷ 0 ∷ 3 ∷ 0 ∷ 0 ∷ 0 ∷ 3 ∷ 0 ∷ 0 ∷ 0 ∷ 3 ∷ 0 ∷ 0 ∷ 0 ∷ 3 ∷ 0 ∷
    0 ∷ 0 ∷ 3 ∷ 0 ∷ 0 ∷ 0 ∷ 3 ∷ 0 ∷ 0 ∷ 0 ∷ 3 ∷ 0 ∷ 0 ∷ 0 ∷ 3 ∷ 0 ∷ 0 ∷ 0 ∷ 3 ∷ 0 ∷ 0 ∷ 0 ∷ 3 ∷ 0 ∷ 0 ∷ 0 ∷ 3 ∷ 0 ∷ 0 ∷
    0 ∷ 3 ∷ 0 ∷ 0 ∷ 0 ∷ 3 ∷ 0 ∷ 0 ∷ 0 ∷ 3 ∷ 0 ∷ 0 ∷ 0 ∷ 3 ∷ 0 ∷ 0 ∷ 0 ∷ 3 ∷ 0 ∷ 0 ∷ 0 ∷ 3 ∷ 0 ∷ 0 ∷ 0 ∷ 3 ∷ 0 ∷ 0 ∷ 0 ∷
    3 ∷ 0 ∷ 0 ∷ 0 ∷ 3 ∷ 0 ∷ 0 ∷ 5 ∷ 0 ∷ 0 ∷ 0 ∷ 2 ∷ 2 ∷ 0 ∷ 0 ∷ 0 ∷ 3 ∷ 0 ∷ 0 ∷ 0 ∷ 3 ∷ 0 ∷ 0 ∷ 0 ∷ 3 ∷ 0 ∷ 0 ∷ 0 ∷ 3 ∷
    0 ∷ 0 ∷ 0 ∷ 3 ∷ 0 ∷ 0 ∷ 0 ∷ 3 ∷ 0 ∷ 0 ∷ 0 ∷ 3 ∷ 0 ∷ 0 ∷ 0 ∷ 3 ∷ 0 ∷ 0 ∷ 0 ∷ 3 ∷ 0 ∷ 0 ∷ 0 ∷ 3 ∷ 0 ∷ 0 ∷ 0 ∷ 3 ∷ 0 ∷
    0 ∷ 0 ∷ 3 ∷ 0 ∷ 0 ∷ 0 ∷ 3 ∷ 0 ∷ 0 ∷ 0 ∷ 3 ∷ 0 ∷ 0 ∷ 0 ∷ 3 ∷ 0 ∷ 0 ∷ 0 ∷ 3 ∷ 0 ∷ 0 ∷ 0 ∷ 3 ∷ 0 ∷ 0 ∷ 0 ∷ 3 ∷ 0 ∷ 0 ∷
    0 ∷ 3 ∷ 0 ∷ 0 ∷ 0 ∷ 3 ∷ 0 ∷ 0 ∷ 0 ∷ 3 ∷ 0 ∷ 0 ∷ 0 ∷ 3 ∷ 0 ∷ 0 ∷ 0 ∷ 3 ∷ 0 ∷ 0 ∷ 0 ∷ 3 ∷ 0 ∷ 0 ∷ 0 ∷ 3 ∷ 0 ∷ 0 ∷ 0 ∷
    3 ∷ 0 ∷ 0 ∷ 0 ∷ 3 ∷ 0 ∷ 0 ∷ 0 ∷ 3 ∷ 0 ∷ 0 ∷ 0 ∷ 3 ∷ 0 ∷ 0 ∷ 0 ∷ 3 ∷ 0 ∷ 0 ∷ 5 ∷ 0 ∷ 0 ∷ 0 ∷ []

abbrev names_027 : List ℕ
names_027 = joined (slot_of (115 ∷ []) ∷ slot_of (116 ∷ []) ∷ slot_of (101 ∷ []) ∷ slot_of (120 ∷ []) ∷ [])

example_027 : alike (played numbers_027 names_027 (starts 200 ∷ posts (101 ∷ []) ∷ runs 1 4 ∷ [])) ((0 ∷ []) ∷ (0 ∷ 0 ∷
    []) ∷ (196609 ∷ []) ∷ (1 ∷ []) ∷ [] ∷ [] ∷ [] ∷ (1 ∷ []) ∷ (0 ∷ []) ∷ (0 ∷ 0 ∷ []) ∷ [] ∷ (1 ∷ []) ∷ [] ∷ [] ∷ (1 ∷
    101 ∷ []) ∷ (1 ∷ []) ∷ (0 ∷ []) ∷ (101 ∷ 1 ∷ []) ∷ (65537 ∷ 131072 ∷ 458753 ∷ 196610 ∷ []) ∷ (2 ∷ []) ∷ [] ∷ [] ∷
    [] ∷ (1 ∷ []) ∷ (0 ∷ []) ∷ []) ≡ true
unfolding everything joined history_shown queue_shown pending_shown shown played_if played alike
example_027 = refl

-- R-5: elseif without an open if
abbrev numbers_028 : List ℕ
numbers_028 = 2 ∷ 0 ∷ 0 ∷ 0 ∷ 2 ∷ 1 ∷ 0 ∷ 65535 ∷ 65535 ∷ 0 ∷ 0 ∷ 0 ∷ 0 ∷ 0 ∷ 0 ∷ 0 ∷ 0 ∷ 1 ∷ 0 ∷ 0 ∷ 0 ∷ 2 ∷ 0 ∷ 0 ∷
    0 ∷ 0 ∷ 0 ∷ 0 ∷ 3 ∷ 1 ∷ 0 ∷ 0 ∷ 5 ∷ 0 ∷ 0 ∷ 0 ∷ []

abbrev names_028 : List ℕ
names_028 = joined (slot_of (115 ∷ []) ∷ [])

example_028 : alike (played numbers_028 names_028 []) ((5 ∷ []) ∷ []) ≡ true
unfolding everything joined history_shown queue_shown pending_shown shown played_if played alike
example_028 = refl

-- R-5: else without an open if
abbrev numbers_029 : List ℕ
numbers_029 = 2 ∷ 0 ∷ 0 ∷ 0 ∷ 2 ∷ 1 ∷ 0 ∷ 65535 ∷ 65535 ∷ 0 ∷ 0 ∷ 0 ∷ 0 ∷ 0 ∷ 0 ∷ 0 ∷ 0 ∷ 1 ∷ 0 ∷ 0 ∷ 0 ∷ 2 ∷ 0 ∷ 0 ∷
    0 ∷ 0 ∷ 0 ∷ 0 ∷ 4 ∷ 0 ∷ 0 ∷ 0 ∷ 5 ∷ 0 ∷ 0 ∷ 0 ∷ []

abbrev names_029 : List ℕ
names_029 = joined (slot_of (115 ∷ []) ∷ [])

example_029 : alike (played numbers_029 names_029 []) ((5 ∷ []) ∷ []) ≡ true
unfolding everything joined history_shown queue_shown pending_shown shown played_if played alike
example_029 = refl

-- R-5: end without an open if
abbrev numbers_030 : List ℕ
numbers_030 = 2 ∷ 0 ∷ 0 ∷ 0 ∷ 1 ∷ 1 ∷ 0 ∷ 65535 ∷ 65535 ∷ 0 ∷ 0 ∷ 0 ∷ 0 ∷ 0 ∷ 0 ∷ 0 ∷ 0 ∷ 1 ∷ 0 ∷ 0 ∷ 0 ∷ 1 ∷ 0 ∷ 0 ∷
    0 ∷ 0 ∷ 0 ∷ 0 ∷ 5 ∷ 0 ∷ 0 ∷ 0 ∷ []

abbrev names_030 : List ℕ
names_030 = joined (slot_of (115 ∷ []) ∷ [])

example_030 : alike (played numbers_030 names_030 []) ((5 ∷ []) ∷ []) ≡ true
unfolding everything joined history_shown queue_shown pending_shown shown played_if played alike
example_030 = refl

-- R-5: elseif after else
abbrev numbers_031 : List ℕ
numbers_031 = 2 ∷ 0 ∷ 0 ∷ 0 ∷ 4 ∷ 1 ∷ 0 ∷ 65535 ∷ 65535 ∷ 0 ∷ 0 ∷ 0 ∷ 0 ∷ 0 ∷ 0 ∷ 0 ∷ 0 ∷ 1 ∷ 0 ∷ 0 ∷ 0 ∷ 4 ∷ 0 ∷ 0 ∷
    0 ∷ 0 ∷ 0 ∷ 0 ∷ 2 ∷ 1 ∷ 0 ∷ 0 ∷ 4 ∷ 0 ∷ 0 ∷ 0 ∷ 3 ∷ 1 ∷ 0 ∷ 0 ∷ 5 ∷ 0 ∷ 0 ∷ 0 ∷ []

abbrev names_031 : List ℕ
names_031 = joined (slot_of (115 ∷ []) ∷ [])

example_031 : alike (played numbers_031 names_031 []) ((5 ∷ []) ∷ []) ≡ true
unfolding everything joined history_shown queue_shown pending_shown shown played_if played alike
example_031 = refl

-- R-5: else after else
abbrev numbers_032 : List ℕ
numbers_032 = 2 ∷ 0 ∷ 0 ∷ 0 ∷ 4 ∷ 1 ∷ 0 ∷ 65535 ∷ 65535 ∷ 0 ∷ 0 ∷ 0 ∷ 0 ∷ 0 ∷ 0 ∷ 0 ∷ 0 ∷ 1 ∷ 0 ∷ 0 ∷ 0 ∷ 4 ∷ 0 ∷ 0 ∷
    0 ∷ 0 ∷ 0 ∷ 0 ∷ 2 ∷ 1 ∷ 0 ∷ 0 ∷ 4 ∷ 0 ∷ 0 ∷ 0 ∷ 4 ∷ 0 ∷ 0 ∷ 0 ∷ 5 ∷ 0 ∷ 0 ∷ 0 ∷ []

abbrev names_032 : List ℕ
names_032 = joined (slot_of (115 ∷ []) ∷ [])

example_032 : alike (played numbers_032 names_032 []) ((5 ∷ []) ∷ []) ≡ true
unfolding everything joined history_shown queue_shown pending_shown shown played_if played alike
example_032 = refl

-- R-5: unclosed if
abbrev numbers_033 : List ℕ
numbers_033 = 2 ∷ 0 ∷ 0 ∷ 0 ∷ 2 ∷ 1 ∷ 0 ∷ 65535 ∷ 65535 ∷ 0 ∷ 0 ∷ 0 ∷ 0 ∷ 0 ∷ 0 ∷ 0 ∷ 0 ∷ 1 ∷ 0 ∷ 0 ∷ 0 ∷ 2 ∷ 0 ∷ 0 ∷
    0 ∷ 0 ∷ 0 ∷ 0 ∷ 2 ∷ 1 ∷ 0 ∷ 0 ∷ 1 ∷ 1 ∷ 0 ∷ 0 ∷ []

abbrev names_033 : List ℕ
names_033 = joined (slot_of (115 ∷ []) ∷ [])

example_033 : alike (played numbers_033 names_033 []) ((5 ∷ []) ∷ []) ≡ true
unfolding everything joined history_shown queue_shown pending_shown shown played_if played alike
example_033 = refl

-- R-5: a fifth level
abbrev numbers_034 : List ℕ
numbers_034 = 2 ∷ 0 ∷ 0 ∷ 0 ∷ 10 ∷ 1 ∷ 0 ∷ 65535 ∷ 65535 ∷ 0 ∷ 0 ∷ 0 ∷ 0 ∷ 0 ∷ 0 ∷ 0 ∷ 0 ∷ 1 ∷ 0 ∷ 0 ∷ 0 ∷ 10 ∷ 0 ∷ 0 ∷
    0 ∷ 0 ∷ 0 ∷ 0 ∷ 2 ∷ 1 ∷ 0 ∷ 0 ∷ 2 ∷ 1 ∷ 0 ∷ 0 ∷ 2 ∷ 1 ∷ 0 ∷ 0 ∷ 2 ∷ 1 ∷ 0 ∷ 0 ∷ 2 ∷ 1 ∷ 0 ∷ 0 ∷ 5 ∷ 0 ∷ 0 ∷ 0 ∷ 5 ∷
    0 ∷ 0 ∷ 0 ∷ 5 ∷ 0 ∷ 0 ∷ 0 ∷ 5 ∷ 0 ∷ 0 ∷ 0 ∷ 5 ∷ 0 ∷ 0 ∷ 0 ∷ []

abbrev names_034 : List ℕ
names_034 = joined (slot_of (115 ∷ []) ∷ [])

example_034 : alike (played numbers_034 names_034 []) ((5 ∷ []) ∷ []) ≡ true
unfolding everything joined history_shown queue_shown pending_shown shown played_if played alike
example_034 = refl

-- R-5: In names the root
abbrev numbers_035 : List ℕ
numbers_035 = 2 ∷ 0 ∷ 0 ∷ 0 ∷ 2 ∷ 1 ∷ 0 ∷ 65535 ∷ 65535 ∷ 0 ∷ 0 ∷ 0 ∷ 0 ∷ 0 ∷ 0 ∷ 0 ∷ 0 ∷ 1 ∷ 0 ∷ 0 ∷ 0 ∷ 2 ∷ 0 ∷ 0 ∷
    0 ∷ 0 ∷ 0 ∷ 0 ∷ 2 ∷ 0 ∷ 0 ∷ 0 ∷ 5 ∷ 0 ∷ 0 ∷ 0 ∷ []

abbrev names_035 : List ℕ
names_035 = joined (slot_of (115 ∷ []) ∷ [])

example_035 : alike (played numbers_035 names_035 []) ((5 ∷ []) ∷ []) ≡ true
unfolding everything joined history_shown queue_shown pending_shown shown played_if played alike
example_035 = refl

-- R-5: four levels
abbrev numbers_036 : List ℕ
numbers_036 = 2 ∷ 0 ∷ 0 ∷ 0 ∷ 8 ∷ 1 ∷ 0 ∷ 65535 ∷ 65535 ∷ 0 ∷ 0 ∷ 0 ∷ 0 ∷ 0 ∷ 0 ∷ 0 ∷ 0 ∷ 1 ∷ 0 ∷ 0 ∷ 0 ∷ 8 ∷ 0 ∷ 0 ∷
    0 ∷ 0 ∷ 0 ∷ 0 ∷ 2 ∷ 1 ∷ 0 ∷ 0 ∷ 2 ∷ 1 ∷ 0 ∷ 0 ∷ 2 ∷ 1 ∷ 0 ∷ 0 ∷ 2 ∷ 1 ∷ 0 ∷ 0 ∷ 5 ∷ 0 ∷ 0 ∷ 0 ∷ 5 ∷ 0 ∷ 0 ∷ 0 ∷ 5 ∷
    0 ∷ 0 ∷ 0 ∷ 5 ∷ 0 ∷ 0 ∷ 0 ∷ []

abbrev names_036 : List ℕ
names_036 = joined (slot_of (115 ∷ []) ∷ [])

example_036 : alike (played numbers_036 names_036 (starts 200 ∷ [])) ((0 ∷ []) ∷ (0 ∷ 0 ∷ []) ∷ (196609 ∷ []) ∷ (1 ∷
    []) ∷ [] ∷ [] ∷ [] ∷ (1 ∷ []) ∷ (0 ∷ []) ∷ []) ≡ true
unfolding everything joined history_shown queue_shown pending_shown shown played_if played alike
example_036 = refl

-- R-5: 32 actions
abbrev numbers_037 : List ℕ
numbers_037 = 2 ∷ 0 ∷ 0 ∷ 0 ∷ 32 ∷ 1 ∷ 0 ∷ 65535 ∷ 65535 ∷ 0 ∷ 0 ∷ 0 ∷ 0 ∷ 0 ∷ 0 ∷ 0 ∷ 0 ∷ 1 ∷ 0 ∷ 0 ∷ 0 ∷ 32 ∷ 0 ∷ 0 ∷
    0 ∷ 0 ∷ 0 ∷ 0 ∷ 1 ∷ 0 ∷ 0 ∷ 0 ∷ 1 ∷ 1 ∷ 0 ∷ 0 ∷ 1 ∷ 2 ∷ 0 ∷ 0 ∷ 1 ∷ 3 ∷ 0 ∷ 0 ∷ 1 ∷ 4 ∷ 0 ∷ 0 ∷ 1 ∷ 5 ∷ 0 ∷ 0 ∷ 1 ∷
    6 ∷ 0 ∷ 0 ∷ 1 ∷ 7 ∷ 0 ∷ 0 ∷ 1 ∷ 8 ∷ 0 ∷ 0 ∷ 1 ∷ 9 ∷ 0 ∷ 0 ∷ 1 ∷ 10 ∷ 0 ∷ 0 ∷ 1 ∷ 11 ∷ 0 ∷ 0 ∷ 1 ∷ 12 ∷ 0 ∷ 0 ∷ 1 ∷
    13 ∷ 0 ∷ 0 ∷ 1 ∷ 14 ∷ 0 ∷ 0 ∷ 1 ∷ 15 ∷ 0 ∷ 0 ∷ 1 ∷ 16 ∷ 0 ∷ 0 ∷ 1 ∷ 17 ∷ 0 ∷ 0 ∷ 1 ∷ 18 ∷ 0 ∷ 0 ∷ 1 ∷ 19 ∷ 0 ∷ 0 ∷
    1 ∷ 20 ∷ 0 ∷ 0 ∷ 1 ∷ 21 ∷ 0 ∷ 0 ∷ 1 ∷ 22 ∷ 0 ∷ 0 ∷ 1 ∷ 23 ∷ 0 ∷ 0 ∷ 1 ∷ 24 ∷ 0 ∷ 0 ∷ 1 ∷ 25 ∷ 0 ∷ 0 ∷ 1 ∷ 26 ∷ 0 ∷
    0 ∷ 1 ∷ 27 ∷ 0 ∷ 0 ∷ 1 ∷ 28 ∷ 0 ∷ 0 ∷ 1 ∷ 29 ∷ 0 ∷ 0 ∷ 1 ∷ 30 ∷ 0 ∷ 0 ∷ 1 ∷ 31 ∷ 0 ∷ 0 ∷ []

abbrev names_037 : List ℕ
names_037 = joined (slot_of (115 ∷ []) ∷ [])

example_037 : alike (played numbers_037 names_037 (starts 200 ∷ [])) ((0 ∷ []) ∷ (0 ∷ 0 ∷ []) ∷ (196609 ∷ 262144 ∷
    262145 ∷ 262146 ∷ 262147 ∷ 262148 ∷ 262149 ∷ 262150 ∷ 262151 ∷ 262152 ∷ 262153 ∷ 262154 ∷ 262155 ∷ 262156 ∷
    262157 ∷ 262158 ∷ 262159 ∷ 262160 ∷ 262161 ∷ 262162 ∷ 262163 ∷ 262164 ∷ 262165 ∷ 262166 ∷ 262167 ∷ 262168 ∷
    262169 ∷ 262170 ∷ 262171 ∷ 262172 ∷ 262173 ∷ 262174 ∷ 262175 ∷ []) ∷ (1 ∷ []) ∷ [] ∷ [] ∷ [] ∷ (1 ∷ []) ∷ (0 ∷
    []) ∷ []) ≡ true
unfolding everything joined history_shown queue_shown pending_shown shown played_if played alike
example_037 = refl

-- R-5: 33 actions
abbrev numbers_038 : List ℕ
numbers_038 = 2 ∷ 0 ∷ 0 ∷ 0 ∷ 33 ∷ 1 ∷ 0 ∷ 65535 ∷ 65535 ∷ 0 ∷ 0 ∷ 0 ∷ 0 ∷ 0 ∷ 0 ∷ 0 ∷ 0 ∷ 1 ∷ 0 ∷ 0 ∷ 0 ∷ 33 ∷ 0 ∷ 0 ∷
    0 ∷ 0 ∷ 0 ∷ 0 ∷ 1 ∷ 0 ∷ 0 ∷ 0 ∷ 1 ∷ 1 ∷ 0 ∷ 0 ∷ 1 ∷ 2 ∷ 0 ∷ 0 ∷ 1 ∷ 3 ∷ 0 ∷ 0 ∷ 1 ∷ 4 ∷ 0 ∷ 0 ∷ 1 ∷ 5 ∷ 0 ∷ 0 ∷ 1 ∷
    6 ∷ 0 ∷ 0 ∷ 1 ∷ 7 ∷ 0 ∷ 0 ∷ 1 ∷ 8 ∷ 0 ∷ 0 ∷ 1 ∷ 9 ∷ 0 ∷ 0 ∷ 1 ∷ 10 ∷ 0 ∷ 0 ∷ 1 ∷ 11 ∷ 0 ∷ 0 ∷ 1 ∷ 12 ∷ 0 ∷ 0 ∷ 1 ∷
    13 ∷ 0 ∷ 0 ∷ 1 ∷ 14 ∷ 0 ∷ 0 ∷ 1 ∷ 15 ∷ 0 ∷ 0 ∷ 1 ∷ 16 ∷ 0 ∷ 0 ∷ 1 ∷ 17 ∷ 0 ∷ 0 ∷ 1 ∷ 18 ∷ 0 ∷ 0 ∷ 1 ∷ 19 ∷ 0 ∷ 0 ∷
    1 ∷ 20 ∷ 0 ∷ 0 ∷ 1 ∷ 21 ∷ 0 ∷ 0 ∷ 1 ∷ 22 ∷ 0 ∷ 0 ∷ 1 ∷ 23 ∷ 0 ∷ 0 ∷ 1 ∷ 24 ∷ 0 ∷ 0 ∷ 1 ∷ 25 ∷ 0 ∷ 0 ∷ 1 ∷ 26 ∷ 0 ∷
    0 ∷ 1 ∷ 27 ∷ 0 ∷ 0 ∷ 1 ∷ 28 ∷ 0 ∷ 0 ∷ 1 ∷ 29 ∷ 0 ∷ 0 ∷ 1 ∷ 30 ∷ 0 ∷ 0 ∷ 1 ∷ 31 ∷ 0 ∷ 0 ∷ 1 ∷ 32 ∷ 0 ∷ 0 ∷ []

abbrev names_038 : List ℕ
names_038 = joined (slot_of (115 ∷ []) ∷ [])

example_038 : alike (played numbers_038 names_038 []) ((1 ∷ []) ∷ []) ≡ true
unfolding everything joined history_shown queue_shown pending_shown shown played_if played alike
example_038 = refl

-- R-5: In of a row past the table
abbrev numbers_039 : List ℕ
numbers_039 = 2 ∷ 0 ∷ 0 ∷ 0 ∷ 2 ∷ 1 ∷ 0 ∷ 65535 ∷ 65535 ∷ 0 ∷ 0 ∷ 0 ∷ 0 ∷ 0 ∷ 0 ∷ 0 ∷ 0 ∷ 1 ∷ 0 ∷ 0 ∷ 0 ∷ 2 ∷ 0 ∷ 0 ∷
    0 ∷ 0 ∷ 0 ∷ 0 ∷ 2 ∷ 2 ∷ 0 ∷ 0 ∷ 5 ∷ 0 ∷ 0 ∷ 0 ∷ []

abbrev names_039 : List ℕ
names_039 = joined (slot_of (115 ∷ []) ∷ [])

example_039 : alike (played numbers_039 names_039 []) ((1 ∷ []) ∷ []) ≡ true
unfolding everything joined history_shown queue_shown pending_shown shown played_if played alike
example_039 = refl

-- R-9: a delay of 0 waits for a clock call, which may stand still; no run delivers it
abbrev numbers_040 : List ℕ
numbers_040 = 3 ∷ 1 ∷ 1 ∷ 1 ∷ 1 ∷ 3 ∷ 0 ∷ 65535 ∷ 65535 ∷ 0 ∷ 0 ∷ 0 ∷ 0 ∷ 0 ∷ 0 ∷ 0 ∷ 0 ∷ 1 ∷ 0 ∷ 0 ∷ 0 ∷ 1 ∷ 0 ∷ 0 ∷
    0 ∷ 0 ∷ 0 ∷ 0 ∷ 1 ∷ 0 ∷ 1 ∷ 0 ∷ 0 ∷ 0 ∷ 0 ∷ 0 ∷ 0 ∷ 0 ∷ 0 ∷ 1 ∷ 0 ∷ 1 ∷ 65535 ∷ 0 ∷ 0 ∷ 1 ∷ 0 ∷ 0 ∷ 2 ∷ 2 ∷ 6 ∷ 2 ∷
    0 ∷ 65535 ∷ []

abbrev names_040 : List ℕ
names_040 = joined (slot_of (115 ∷ []) ∷ slot_of (116 ∷ []) ∷ slot_of (120 ∷ []) ∷ [])

example_040 : alike (played numbers_040 names_040 (starts 200 ∷ runs 5 200 ∷ clocks 0 ∷ runs 5 200 ∷ [])) ((0 ∷ []) ∷
    (0 ∷ 0 ∷ []) ∷ (196609 ∷ 524290 ∷ []) ∷ (1 ∷ []) ∷ [] ∷ [] ∷ [] ∷ (1 ∷ []) ∷ (0 ∷ 0 ∷ 1 ∷ 120 ∷ 0 ∷ []) ∷ (101 ∷
    0 ∷ []) ∷ [] ∷ (1 ∷ []) ∷ [] ∷ [] ∷ [] ∷ (1 ∷ []) ∷ (0 ∷ 0 ∷ 1 ∷ 120 ∷ 0 ∷ []) ∷ (0 ∷ 0 ∷ []) ∷ [] ∷ (1 ∷ []) ∷
    [] ∷ [] ∷ (1 ∷ 120 ∷ []) ∷ (1 ∷ []) ∷ (0 ∷ []) ∷ (101 ∷ 1 ∷ []) ∷ (65537 ∷ 131072 ∷ 458753 ∷ 196610 ∷ []) ∷ (2 ∷
    []) ∷ [] ∷ [] ∷ [] ∷ (1 ∷ []) ∷ (0 ∷ []) ∷ []) ≡ true
unfolding everything joined history_shown queue_shown pending_shown shown played_if played alike
example_040 = refl

-- R-9: what is due joins by due time, then by order of sending, as far as the queue has room
abbrev numbers_041 : List ℕ
numbers_041 = 2 ∷ 0 ∷ 0 ∷ 0 ∷ 3 ∷ 4 ∷ 0 ∷ 65535 ∷ 65535 ∷ 0 ∷ 0 ∷ 0 ∷ 0 ∷ 0 ∷ 0 ∷ 0 ∷ 0 ∷ 1 ∷ 0 ∷ 0 ∷ 0 ∷ 3 ∷ 0 ∷ 0 ∷
    0 ∷ 0 ∷ 0 ∷ 0 ∷ 6 ∷ 1 ∷ 9 ∷ 65535 ∷ 6 ∷ 2 ∷ 3 ∷ 65535 ∷ 6 ∷ 3 ∷ 3 ∷ 65535 ∷ []

abbrev names_041 : List ℕ
names_041 = joined (slot_of (115 ∷ []) ∷ slot_of (120 ∷ []) ∷ slot_of (121 ∷ []) ∷ slot_of (122 ∷ []) ∷ [])

example_041 : alike (played numbers_041 names_041 (starts 200 ∷ posts (101 ∷ []) ∷ posts (101 ∷ []) ∷ posts (101 ∷
    []) ∷ posts (101 ∷ []) ∷ posts (101 ∷ []) ∷ posts (101 ∷ []) ∷ posts (101 ∷ []) ∷ posts (101 ∷ []) ∷ posts (101 ∷
    []) ∷ posts (101 ∷ []) ∷ posts (101 ∷ []) ∷ posts (101 ∷ []) ∷ posts (101 ∷ []) ∷ posts (101 ∷ []) ∷ posts (101 ∷
    []) ∷ posts (101 ∷ []) ∷ posts (101 ∷ []) ∷ posts (101 ∷ []) ∷ posts (101 ∷ []) ∷ posts (101 ∷ []) ∷ posts (101 ∷
    []) ∷ posts (101 ∷ []) ∷ posts (101 ∷ []) ∷ posts (101 ∷ []) ∷ posts (101 ∷ []) ∷ posts (101 ∷ []) ∷ posts (101 ∷
    []) ∷ posts (101 ∷ []) ∷ posts (101 ∷ []) ∷ posts (101 ∷ []) ∷ clocks 10 ∷ runs 31 200 ∷ clocks 10 ∷ [])) ((0 ∷
    []) ∷ (0 ∷ 0 ∷ []) ∷ (196609 ∷ 524289 ∷ 524290 ∷ 524291 ∷ []) ∷ (1 ∷ []) ∷ [] ∷ [] ∷ [] ∷ (1 ∷ []) ∷ (0 ∷ 9 ∷ 1 ∷
    120 ∷ 0 ∷ 3 ∷ 1 ∷ 121 ∷ 0 ∷ 3 ∷ 1 ∷ 122 ∷ 0 ∷ []) ∷ (0 ∷ 0 ∷ []) ∷ [] ∷ (1 ∷ []) ∷ [] ∷ [] ∷ (1 ∷ 101 ∷ []) ∷ (1 ∷
    []) ∷ (0 ∷ 9 ∷ 1 ∷ 120 ∷ 0 ∷ 3 ∷ 1 ∷ 121 ∷ 0 ∷ 3 ∷ 1 ∷ 122 ∷ 0 ∷ []) ∷ (0 ∷ 0 ∷ []) ∷ [] ∷ (1 ∷ []) ∷ [] ∷ [] ∷
    (1 ∷ 101 ∷ 1 ∷ 101 ∷ []) ∷ (1 ∷ []) ∷ (0 ∷ 9 ∷ 1 ∷ 120 ∷ 0 ∷ 3 ∷ 1 ∷ 121 ∷ 0 ∷ 3 ∷ 1 ∷ 122 ∷ 0 ∷ []) ∷ (0 ∷ 0 ∷
    []) ∷ [] ∷ (1 ∷ []) ∷ [] ∷ [] ∷ (1 ∷ 101 ∷ 1 ∷ 101 ∷ 1 ∷ 101 ∷ []) ∷ (1 ∷ []) ∷ (0 ∷ 9 ∷ 1 ∷ 120 ∷ 0 ∷ 3 ∷ 1 ∷
    121 ∷ 0 ∷ 3 ∷ 1 ∷ 122 ∷ 0 ∷ []) ∷ (0 ∷ 0 ∷ []) ∷ [] ∷ (1 ∷ []) ∷ [] ∷ [] ∷ (1 ∷ 101 ∷ 1 ∷ 101 ∷ 1 ∷ 101 ∷ 1 ∷ 101 ∷
    []) ∷ (1 ∷ []) ∷ (0 ∷ 9 ∷ 1 ∷ 120 ∷ 0 ∷ 3 ∷ 1 ∷ 121 ∷ 0 ∷ 3 ∷ 1 ∷ 122 ∷ 0 ∷ []) ∷ (0 ∷ 0 ∷ []) ∷ [] ∷ (1 ∷ []) ∷
    [] ∷ [] ∷ (1 ∷ 101 ∷ 1 ∷ 101 ∷ 1 ∷ 101 ∷ 1 ∷ 101 ∷ 1 ∷ 101 ∷ []) ∷ (1 ∷ []) ∷ (0 ∷ 9 ∷ 1 ∷ 120 ∷ 0 ∷ 3 ∷ 1 ∷ 121 ∷
    0 ∷ 3 ∷ 1 ∷ 122 ∷ 0 ∷ []) ∷ (0 ∷ 0 ∷ []) ∷ [] ∷ (1 ∷ []) ∷ [] ∷ [] ∷ (1 ∷ 101 ∷ 1 ∷ 101 ∷ 1 ∷ 101 ∷ 1 ∷ 101 ∷ 1 ∷
    101 ∷ 1 ∷ 101 ∷ []) ∷ (1 ∷ []) ∷ (0 ∷ 9 ∷ 1 ∷ 120 ∷ 0 ∷ 3 ∷ 1 ∷ 121 ∷ 0 ∷ 3 ∷ 1 ∷ 122 ∷ 0 ∷ []) ∷ (0 ∷ 0 ∷ []) ∷
    [] ∷ (1 ∷ []) ∷ [] ∷ [] ∷ (1 ∷ 101 ∷ 1 ∷ 101 ∷ 1 ∷ 101 ∷ 1 ∷ 101 ∷ 1 ∷ 101 ∷ 1 ∷ 101 ∷ 1 ∷ 101 ∷ []) ∷ (1 ∷ []) ∷
    (0 ∷ 9 ∷ 1 ∷ 120 ∷ 0 ∷ 3 ∷ 1 ∷ 121 ∷ 0 ∷ 3 ∷ 1 ∷ 122 ∷ 0 ∷ []) ∷ (0 ∷ 0 ∷ []) ∷ [] ∷ (1 ∷ []) ∷ [] ∷ [] ∷ (1 ∷
    101 ∷ 1 ∷ 101 ∷ 1 ∷ 101 ∷ 1 ∷ 101 ∷ 1 ∷ 101 ∷ 1 ∷ 101 ∷ 1 ∷ 101 ∷ 1 ∷ 101 ∷ []) ∷ (1 ∷ []) ∷ (0 ∷ 9 ∷ 1 ∷ 120 ∷ 0 ∷
    3 ∷ 1 ∷ 121 ∷ 0 ∷ 3 ∷ 1 ∷ 122 ∷ 0 ∷ []) ∷ (0 ∷ 0 ∷ []) ∷ [] ∷ (1 ∷ []) ∷ [] ∷ [] ∷ (1 ∷ 101 ∷ 1 ∷ 101 ∷ 1 ∷ 101 ∷
    1 ∷ 101 ∷ 1 ∷ 101 ∷ 1 ∷ 101 ∷ 1 ∷ 101 ∷ 1 ∷ 101 ∷ 1 ∷ 101 ∷ []) ∷ (1 ∷ []) ∷ (0 ∷ 9 ∷ 1 ∷ 120 ∷ 0 ∷ 3 ∷ 1 ∷ 121 ∷
    0 ∷ 3 ∷ 1 ∷ 122 ∷ 0 ∷ []) ∷ (0 ∷ 0 ∷ []) ∷ [] ∷ (1 ∷ []) ∷ [] ∷ [] ∷ (1 ∷ 101 ∷ 1 ∷ 101 ∷ 1 ∷ 101 ∷ 1 ∷ 101 ∷ 1 ∷
    101 ∷ 1 ∷ 101 ∷ 1 ∷ 101 ∷ 1 ∷ 101 ∷ 1 ∷ 101 ∷ 1 ∷ 101 ∷ []) ∷ (1 ∷ []) ∷ (0 ∷ 9 ∷ 1 ∷ 120 ∷ 0 ∷ 3 ∷ 1 ∷ 121 ∷ 0 ∷
    3 ∷ 1 ∷ 122 ∷ 0 ∷ []) ∷ (0 ∷ 0 ∷ []) ∷ [] ∷ (1 ∷ []) ∷ [] ∷ [] ∷ (1 ∷ 101 ∷ 1 ∷ 101 ∷ 1 ∷ 101 ∷ 1 ∷ 101 ∷ 1 ∷ 101 ∷
    1 ∷ 101 ∷ 1 ∷ 101 ∷ 1 ∷ 101 ∷ 1 ∷ 101 ∷ 1 ∷ 101 ∷ 1 ∷ 101 ∷ []) ∷ (1 ∷ []) ∷ (0 ∷ 9 ∷ 1 ∷ 120 ∷ 0 ∷ 3 ∷ 1 ∷ 121 ∷
    0 ∷ 3 ∷ 1 ∷ 122 ∷ 0 ∷ []) ∷ (0 ∷ 0 ∷ []) ∷ [] ∷ (1 ∷ []) ∷ [] ∷ [] ∷ (1 ∷ 101 ∷ 1 ∷ 101 ∷ 1 ∷ 101 ∷ 1 ∷ 101 ∷ 1 ∷
    101 ∷ 1 ∷ 101 ∷ 1 ∷ 101 ∷ 1 ∷ 101 ∷ 1 ∷ 101 ∷ 1 ∷ 101 ∷ 1 ∷ 101 ∷ 1 ∷ 101 ∷ []) ∷ (1 ∷ []) ∷ (0 ∷ 9 ∷ 1 ∷ 120 ∷ 0 ∷
    3 ∷ 1 ∷ 121 ∷ 0 ∷ 3 ∷ 1 ∷ 122 ∷ 0 ∷ []) ∷ (0 ∷ 0 ∷ []) ∷ [] ∷ (1 ∷ []) ∷ [] ∷ [] ∷ (1 ∷ 101 ∷ 1 ∷ 101 ∷ 1 ∷ 101 ∷
    1 ∷ 101 ∷ 1 ∷ 101 ∷ 1 ∷ 101 ∷ 1 ∷ 101 ∷ 1 ∷ 101 ∷ 1 ∷ 101 ∷ 1 ∷ 101 ∷ 1 ∷ 101 ∷ 1 ∷ 101 ∷ 1 ∷ 101 ∷ []) ∷ (1 ∷
    []) ∷ (0 ∷ 9 ∷ 1 ∷ 120 ∷ 0 ∷ 3 ∷ 1 ∷ 121 ∷ 0 ∷ 3 ∷ 1 ∷ 122 ∷ 0 ∷ []) ∷ (0 ∷ 0 ∷ []) ∷ [] ∷ (1 ∷ []) ∷ [] ∷ [] ∷
    (1 ∷ 101 ∷ 1 ∷ 101 ∷ 1 ∷ 101 ∷ 1 ∷ 101 ∷ 1 ∷ 101 ∷ 1 ∷ 101 ∷ 1 ∷ 101 ∷ 1 ∷ 101 ∷ 1 ∷ 101 ∷ 1 ∷ 101 ∷ 1 ∷ 101 ∷ 1 ∷
    101 ∷ 1 ∷ 101 ∷ 1 ∷ 101 ∷ []) ∷ (1 ∷ []) ∷ (0 ∷ 9 ∷ 1 ∷ 120 ∷ 0 ∷ 3 ∷ 1 ∷ 121 ∷ 0 ∷ 3 ∷ 1 ∷ 122 ∷ 0 ∷ []) ∷ (0 ∷
    0 ∷ []) ∷ [] ∷ (1 ∷ []) ∷ [] ∷ [] ∷ (1 ∷ 101 ∷ 1 ∷ 101 ∷ 1 ∷ 101 ∷ 1 ∷ 101 ∷ 1 ∷ 101 ∷ 1 ∷ 101 ∷ 1 ∷ 101 ∷ 1 ∷
    101 ∷ 1 ∷ 101 ∷ 1 ∷ 101 ∷ 1 ∷ 101 ∷ 1 ∷ 101 ∷ 1 ∷ 101 ∷ 1 ∷ 101 ∷ 1 ∷ 101 ∷ []) ∷ (1 ∷ []) ∷ (0 ∷ 9 ∷ 1 ∷ 120 ∷ 0 ∷
    3 ∷ 1 ∷ 121 ∷ 0 ∷ 3 ∷ 1 ∷ 122 ∷ 0 ∷ []) ∷ (0 ∷ 0 ∷ []) ∷ [] ∷ (1 ∷ []) ∷ [] ∷ [] ∷ (1 ∷ 101 ∷ 1 ∷ 101 ∷ 1 ∷ 101 ∷
    1 ∷ 101 ∷ 1 ∷ 101 ∷ 1 ∷ 101 ∷ 1 ∷ 101 ∷ 1 ∷ 101 ∷ 1 ∷ 101 ∷ 1 ∷ 101 ∷ 1 ∷ 101 ∷ 1 ∷ 101 ∷ 1 ∷ 101 ∷ 1 ∷ 101 ∷ 1 ∷
    101 ∷ 1 ∷ 101 ∷ []) ∷ (1 ∷ []) ∷ (0 ∷ 9 ∷ 1 ∷ 120 ∷ 0 ∷ 3 ∷ 1 ∷ 121 ∷ 0 ∷ 3 ∷ 1 ∷ 122 ∷ 0 ∷ []) ∷ (0 ∷ 0 ∷ []) ∷
    [] ∷ (1 ∷ []) ∷ [] ∷ [] ∷ (1 ∷ 101 ∷ 1 ∷ 101 ∷ 1 ∷ 101 ∷ 1 ∷ 101 ∷ 1 ∷ 101 ∷ 1 ∷ 101 ∷ 1 ∷ 101 ∷ 1 ∷ 101 ∷ 1 ∷
    101 ∷ 1 ∷ 101 ∷ 1 ∷ 101 ∷ 1 ∷ 101 ∷ 1 ∷ 101 ∷ 1 ∷ 101 ∷ 1 ∷ 101 ∷ 1 ∷ 101 ∷ 1 ∷ 101 ∷ []) ∷ (1 ∷ []) ∷ (0 ∷ 9 ∷ 1 ∷
    120 ∷ 0 ∷ 3 ∷ 1 ∷ 121 ∷ 0 ∷ 3 ∷ 1 ∷ 122 ∷ 0 ∷ []) ∷ (0 ∷ 0 ∷ []) ∷ [] ∷ (1 ∷ []) ∷ [] ∷ [] ∷ (1 ∷ 101 ∷ 1 ∷ 101 ∷
    1 ∷ 101 ∷ 1 ∷ 101 ∷ 1 ∷ 101 ∷ 1 ∷ 101 ∷ 1 ∷ 101 ∷ 1 ∷ 101 ∷ 1 ∷ 101 ∷ 1 ∷ 101 ∷ 1 ∷ 101 ∷ 1 ∷ 101 ∷ 1 ∷ 101 ∷ 1 ∷
    101 ∷ 1 ∷ 101 ∷ 1 ∷ 101 ∷ 1 ∷ 101 ∷ 1 ∷ 101 ∷ []) ∷ (1 ∷ []) ∷ (0 ∷ 9 ∷ 1 ∷ 120 ∷ 0 ∷ 3 ∷ 1 ∷ 121 ∷ 0 ∷ 3 ∷ 1 ∷
    122 ∷ 0 ∷ []) ∷ (0 ∷ 0 ∷ []) ∷ [] ∷ (1 ∷ []) ∷ [] ∷ [] ∷ (1 ∷ 101 ∷ 1 ∷ 101 ∷ 1 ∷ 101 ∷ 1 ∷ 101 ∷ 1 ∷ 101 ∷ 1 ∷
    101 ∷ 1 ∷ 101 ∷ 1 ∷ 101 ∷ 1 ∷ 101 ∷ 1 ∷ 101 ∷ 1 ∷ 101 ∷ 1 ∷ 101 ∷ 1 ∷ 101 ∷ 1 ∷ 101 ∷ 1 ∷ 101 ∷ 1 ∷ 101 ∷ 1 ∷ 101 ∷
    1 ∷ 101 ∷ 1 ∷ 101 ∷ []) ∷ (1 ∷ []) ∷ (0 ∷ 9 ∷ 1 ∷ 120 ∷ 0 ∷ 3 ∷ 1 ∷ 121 ∷ 0 ∷ 3 ∷ 1 ∷ 122 ∷ 0 ∷ []) ∷ (0 ∷ 0 ∷
    []) ∷ [] ∷ (1 ∷ []) ∷ [] ∷ [] ∷ (1 ∷ 101 ∷ 1 ∷ 101 ∷ 1 ∷ 101 ∷ 1 ∷ 101 ∷ 1 ∷ 101 ∷ 1 ∷ 101 ∷ 1 ∷ 101 ∷ 1 ∷ 101 ∷
    1 ∷ 101 ∷ 1 ∷ 101 ∷ 1 ∷ 101 ∷ 1 ∷ 101 ∷ 1 ∷ 101 ∷ 1 ∷ 101 ∷ 1 ∷ 101 ∷ 1 ∷ 101 ∷ 1 ∷ 101 ∷ 1 ∷ 101 ∷ 1 ∷ 101 ∷ 1 ∷
    101 ∷ []) ∷ (1 ∷ []) ∷ (0 ∷ 9 ∷ 1 ∷ 120 ∷ 0 ∷ 3 ∷ 1 ∷ 121 ∷ 0 ∷ 3 ∷ 1 ∷ 122 ∷ 0 ∷ []) ∷ (0 ∷ 0 ∷ []) ∷ [] ∷ (1 ∷
    []) ∷ [] ∷ [] ∷ (1 ∷ 101 ∷ 1 ∷ 101 ∷ 1 ∷ 101 ∷ 1 ∷ 101 ∷ 1 ∷ 101 ∷ 1 ∷ 101 ∷ 1 ∷ 101 ∷ 1 ∷ 101 ∷ 1 ∷ 101 ∷ 1 ∷
    101 ∷ 1 ∷ 101 ∷ 1 ∷ 101 ∷ 1 ∷ 101 ∷ 1 ∷ 101 ∷ 1 ∷ 101 ∷ 1 ∷ 101 ∷ 1 ∷ 101 ∷ 1 ∷ 101 ∷ 1 ∷ 101 ∷ 1 ∷ 101 ∷ 1 ∷ 101 ∷
    []) ∷ (1 ∷ []) ∷ (0 ∷ 9 ∷ 1 ∷ 120 ∷ 0 ∷ 3 ∷ 1 ∷ 121 ∷ 0 ∷ 3 ∷ 1 ∷ 122 ∷ 0 ∷ []) ∷ (0 ∷ 0 ∷ []) ∷ [] ∷ (1 ∷ []) ∷
    [] ∷ [] ∷ (1 ∷ 101 ∷ 1 ∷ 101 ∷ 1 ∷ 101 ∷ 1 ∷ 101 ∷ 1 ∷ 101 ∷ 1 ∷ 101 ∷ 1 ∷ 101 ∷ 1 ∷ 101 ∷ 1 ∷ 101 ∷ 1 ∷ 101 ∷ 1 ∷
    101 ∷ 1 ∷ 101 ∷ 1 ∷ 101 ∷ 1 ∷ 101 ∷ 1 ∷ 101 ∷ 1 ∷ 101 ∷ 1 ∷ 101 ∷ 1 ∷ 101 ∷ 1 ∷ 101 ∷ 1 ∷ 101 ∷ 1 ∷ 101 ∷ 1 ∷ 101 ∷
    []) ∷ (1 ∷ []) ∷ (0 ∷ 9 ∷ 1 ∷ 120 ∷ 0 ∷ 3 ∷ 1 ∷ 121 ∷ 0 ∷ 3 ∷ 1 ∷ 122 ∷ 0 ∷ []) ∷ (0 ∷ 0 ∷ []) ∷ [] ∷ (1 ∷ []) ∷
    [] ∷ [] ∷ (1 ∷ 101 ∷ 1 ∷ 101 ∷ 1 ∷ 101 ∷ 1 ∷ 101 ∷ 1 ∷ 101 ∷ 1 ∷ 101 ∷ 1 ∷ 101 ∷ 1 ∷ 101 ∷ 1 ∷ 101 ∷ 1 ∷ 101 ∷ 1 ∷
    101 ∷ 1 ∷ 101 ∷ 1 ∷ 101 ∷ 1 ∷ 101 ∷ 1 ∷ 101 ∷ 1 ∷ 101 ∷ 1 ∷ 101 ∷ 1 ∷ 101 ∷ 1 ∷ 101 ∷ 1 ∷ 101 ∷ 1 ∷ 101 ∷ 1 ∷ 101 ∷
    1 ∷ 101 ∷ []) ∷ (1 ∷ []) ∷ (0 ∷ 9 ∷ 1 ∷ 120 ∷ 0 ∷ 3 ∷ 1 ∷ 121 ∷ 0 ∷ 3 ∷ 1 ∷ 122 ∷ 0 ∷ []) ∷ (0 ∷ 0 ∷ []) ∷ [] ∷
    (1 ∷ []) ∷ [] ∷ [] ∷ (1 ∷ 101 ∷ 1 ∷ 101 ∷ 1 ∷ 101 ∷ 1 ∷ 101 ∷ 1 ∷ 101 ∷ 1 ∷ 101 ∷ 1 ∷ 101 ∷ 1 ∷ 101 ∷ 1 ∷ 101 ∷ 1 ∷
    101 ∷ 1 ∷ 101 ∷ 1 ∷ 101 ∷ 1 ∷ 101 ∷ 1 ∷ 101 ∷ 1 ∷ 101 ∷ 1 ∷ 101 ∷ 1 ∷ 101 ∷ 1 ∷ 101 ∷ 1 ∷ 101 ∷ 1 ∷ 101 ∷ 1 ∷ 101 ∷
    1 ∷ 101 ∷ 1 ∷ 101 ∷ 1 ∷ 101 ∷ []) ∷ (1 ∷ []) ∷ (0 ∷ 9 ∷ 1 ∷ 120 ∷ 0 ∷ 3 ∷ 1 ∷ 121 ∷ 0 ∷ 3 ∷ 1 ∷ 122 ∷ 0 ∷ []) ∷
    (0 ∷ 0 ∷ []) ∷ [] ∷ (1 ∷ []) ∷ [] ∷ [] ∷ (1 ∷ 101 ∷ 1 ∷ 101 ∷ 1 ∷ 101 ∷ 1 ∷ 101 ∷ 1 ∷ 101 ∷ 1 ∷ 101 ∷ 1 ∷ 101 ∷ 1 ∷
    101 ∷ 1 ∷ 101 ∷ 1 ∷ 101 ∷ 1 ∷ 101 ∷ 1 ∷ 101 ∷ 1 ∷ 101 ∷ 1 ∷ 101 ∷ 1 ∷ 101 ∷ 1 ∷ 101 ∷ 1 ∷ 101 ∷ 1 ∷ 101 ∷ 1 ∷ 101 ∷
    1 ∷ 101 ∷ 1 ∷ 101 ∷ 1 ∷ 101 ∷ 1 ∷ 101 ∷ 1 ∷ 101 ∷ 1 ∷ 101 ∷ []) ∷ (1 ∷ []) ∷ (0 ∷ 9 ∷ 1 ∷ 120 ∷ 0 ∷ 3 ∷ 1 ∷ 121 ∷
    0 ∷ 3 ∷ 1 ∷ 122 ∷ 0 ∷ []) ∷ (0 ∷ 0 ∷ []) ∷ [] ∷ (1 ∷ []) ∷ [] ∷ [] ∷ (1 ∷ 101 ∷ 1 ∷ 101 ∷ 1 ∷ 101 ∷ 1 ∷ 101 ∷ 1 ∷
    101 ∷ 1 ∷ 101 ∷ 1 ∷ 101 ∷ 1 ∷ 101 ∷ 1 ∷ 101 ∷ 1 ∷ 101 ∷ 1 ∷ 101 ∷ 1 ∷ 101 ∷ 1 ∷ 101 ∷ 1 ∷ 101 ∷ 1 ∷ 101 ∷ 1 ∷ 101 ∷
    1 ∷ 101 ∷ 1 ∷ 101 ∷ 1 ∷ 101 ∷ 1 ∷ 101 ∷ 1 ∷ 101 ∷ 1 ∷ 101 ∷ 1 ∷ 101 ∷ 1 ∷ 101 ∷ 1 ∷ 101 ∷ 1 ∷ 101 ∷ []) ∷ (1 ∷
    []) ∷ (0 ∷ 9 ∷ 1 ∷ 120 ∷ 0 ∷ 3 ∷ 1 ∷ 121 ∷ 0 ∷ 3 ∷ 1 ∷ 122 ∷ 0 ∷ []) ∷ (0 ∷ 0 ∷ []) ∷ [] ∷ (1 ∷ []) ∷ [] ∷ [] ∷
    (1 ∷ 101 ∷ 1 ∷ 101 ∷ 1 ∷ 101 ∷ 1 ∷ 101 ∷ 1 ∷ 101 ∷ 1 ∷ 101 ∷ 1 ∷ 101 ∷ 1 ∷ 101 ∷ 1 ∷ 101 ∷ 1 ∷ 101 ∷ 1 ∷ 101 ∷ 1 ∷
    101 ∷ 1 ∷ 101 ∷ 1 ∷ 101 ∷ 1 ∷ 101 ∷ 1 ∷ 101 ∷ 1 ∷ 101 ∷ 1 ∷ 101 ∷ 1 ∷ 101 ∷ 1 ∷ 101 ∷ 1 ∷ 101 ∷ 1 ∷ 101 ∷ 1 ∷ 101 ∷
    1 ∷ 101 ∷ 1 ∷ 101 ∷ 1 ∷ 101 ∷ 1 ∷ 101 ∷ []) ∷ (1 ∷ []) ∷ (0 ∷ 9 ∷ 1 ∷ 120 ∷ 0 ∷ 3 ∷ 1 ∷ 121 ∷ 0 ∷ 3 ∷ 1 ∷ 122 ∷ 0 ∷
    []) ∷ (0 ∷ 0 ∷ []) ∷ [] ∷ (1 ∷ []) ∷ [] ∷ [] ∷ (1 ∷ 101 ∷ 1 ∷ 101 ∷ 1 ∷ 101 ∷ 1 ∷ 101 ∷ 1 ∷ 101 ∷ 1 ∷ 101 ∷ 1 ∷
    101 ∷ 1 ∷ 101 ∷ 1 ∷ 101 ∷ 1 ∷ 101 ∷ 1 ∷ 101 ∷ 1 ∷ 101 ∷ 1 ∷ 101 ∷ 1 ∷ 101 ∷ 1 ∷ 101 ∷ 1 ∷ 101 ∷ 1 ∷ 101 ∷ 1 ∷ 101 ∷
    1 ∷ 101 ∷ 1 ∷ 101 ∷ 1 ∷ 101 ∷ 1 ∷ 101 ∷ 1 ∷ 101 ∷ 1 ∷ 101 ∷ 1 ∷ 101 ∷ 1 ∷ 101 ∷ 1 ∷ 101 ∷ 1 ∷ 101 ∷ []) ∷ (1 ∷
    []) ∷ (0 ∷ 9 ∷ 1 ∷ 120 ∷ 0 ∷ 3 ∷ 1 ∷ 121 ∷ 0 ∷ 3 ∷ 1 ∷ 122 ∷ 0 ∷ []) ∷ (0 ∷ 0 ∷ []) ∷ [] ∷ (1 ∷ []) ∷ [] ∷ [] ∷
    (1 ∷ 101 ∷ 1 ∷ 101 ∷ 1 ∷ 101 ∷ 1 ∷ 101 ∷ 1 ∷ 101 ∷ 1 ∷ 101 ∷ 1 ∷ 101 ∷ 1 ∷ 101 ∷ 1 ∷ 101 ∷ 1 ∷ 101 ∷ 1 ∷ 101 ∷ 1 ∷
    101 ∷ 1 ∷ 101 ∷ 1 ∷ 101 ∷ 1 ∷ 101 ∷ 1 ∷ 101 ∷ 1 ∷ 101 ∷ 1 ∷ 101 ∷ 1 ∷ 101 ∷ 1 ∷ 101 ∷ 1 ∷ 101 ∷ 1 ∷ 101 ∷ 1 ∷ 101 ∷
    1 ∷ 101 ∷ 1 ∷ 101 ∷ 1 ∷ 101 ∷ 1 ∷ 101 ∷ 1 ∷ 101 ∷ 1 ∷ 101 ∷ []) ∷ (1 ∷ []) ∷ (0 ∷ 9 ∷ 1 ∷ 120 ∷ 0 ∷ 3 ∷ 1 ∷ 121 ∷
    0 ∷ 3 ∷ 1 ∷ 122 ∷ 0 ∷ []) ∷ (0 ∷ 0 ∷ []) ∷ [] ∷ (1 ∷ []) ∷ [] ∷ [] ∷ (1 ∷ 101 ∷ 1 ∷ 101 ∷ 1 ∷ 101 ∷ 1 ∷ 101 ∷ 1 ∷
    101 ∷ 1 ∷ 101 ∷ 1 ∷ 101 ∷ 1 ∷ 101 ∷ 1 ∷ 101 ∷ 1 ∷ 101 ∷ 1 ∷ 101 ∷ 1 ∷ 101 ∷ 1 ∷ 101 ∷ 1 ∷ 101 ∷ 1 ∷ 101 ∷ 1 ∷ 101 ∷
    1 ∷ 101 ∷ 1 ∷ 101 ∷ 1 ∷ 101 ∷ 1 ∷ 101 ∷ 1 ∷ 101 ∷ 1 ∷ 101 ∷ 1 ∷ 101 ∷ 1 ∷ 101 ∷ 1 ∷ 101 ∷ 1 ∷ 101 ∷ 1 ∷ 101 ∷ 1 ∷
    101 ∷ 1 ∷ 101 ∷ 1 ∷ 101 ∷ []) ∷ (1 ∷ []) ∷ (0 ∷ 9 ∷ 1 ∷ 120 ∷ 0 ∷ 3 ∷ 1 ∷ 121 ∷ 0 ∷ 3 ∷ 1 ∷ 122 ∷ 0 ∷ []) ∷ (0 ∷
    0 ∷ []) ∷ [] ∷ (1 ∷ []) ∷ [] ∷ [] ∷ (1 ∷ 101 ∷ 1 ∷ 101 ∷ 1 ∷ 101 ∷ 1 ∷ 101 ∷ 1 ∷ 101 ∷ 1 ∷ 101 ∷ 1 ∷ 101 ∷ 1 ∷
    101 ∷ 1 ∷ 101 ∷ 1 ∷ 101 ∷ 1 ∷ 101 ∷ 1 ∷ 101 ∷ 1 ∷ 101 ∷ 1 ∷ 101 ∷ 1 ∷ 101 ∷ 1 ∷ 101 ∷ 1 ∷ 101 ∷ 1 ∷ 101 ∷ 1 ∷ 101 ∷
    1 ∷ 101 ∷ 1 ∷ 101 ∷ 1 ∷ 101 ∷ 1 ∷ 101 ∷ 1 ∷ 101 ∷ 1 ∷ 101 ∷ 1 ∷ 101 ∷ 1 ∷ 101 ∷ 1 ∷ 101 ∷ 1 ∷ 101 ∷ 1 ∷ 101 ∷ 1 ∷
    121 ∷ 1 ∷ 122 ∷ []) ∷ (1 ∷ []) ∷ (10 ∷ 9 ∷ 1 ∷ 120 ∷ 0 ∷ []) ∷ (100 ∷ 31 ∷ []) ∷ [] ∷ (1 ∷ []) ∷ [] ∷ [] ∷ (1 ∷
    122 ∷ []) ∷ (1 ∷ []) ∷ (10 ∷ 9 ∷ 1 ∷ 120 ∷ 0 ∷ []) ∷ (0 ∷ 0 ∷ []) ∷ [] ∷ (1 ∷ []) ∷ [] ∷ [] ∷ (1 ∷ 122 ∷ 1 ∷ 120 ∷
    []) ∷ (1 ∷ []) ∷ (10 ∷ []) ∷ []) ≡ true
unfolding everything joined history_shown queue_shown pending_shown shown played_if played alike
example_041 = refl

-- R-9: what is due at the clock joins, what is due a tick later stays
abbrev numbers_042 : List ℕ
numbers_042 = 2 ∷ 0 ∷ 0 ∷ 0 ∷ 3 ∷ 4 ∷ 0 ∷ 65535 ∷ 65535 ∷ 0 ∷ 0 ∷ 0 ∷ 0 ∷ 0 ∷ 0 ∷ 0 ∷ 0 ∷ 1 ∷ 0 ∷ 0 ∷ 0 ∷ 3 ∷ 0 ∷ 0 ∷
    0 ∷ 0 ∷ 0 ∷ 0 ∷ 6 ∷ 1 ∷ 9 ∷ 65535 ∷ 6 ∷ 2 ∷ 3 ∷ 65535 ∷ 6 ∷ 3 ∷ 3 ∷ 65535 ∷ []

abbrev names_042 : List ℕ
names_042 = joined (slot_of (115 ∷ []) ∷ slot_of (120 ∷ []) ∷ slot_of (121 ∷ []) ∷ slot_of (122 ∷ []) ∷ [])

example_042 : alike (played numbers_042 names_042 (starts 200 ∷ clocks 2 ∷ clocks 3 ∷ clocks 8 ∷ clocks 9 ∷ [])) ((0 ∷
    []) ∷ (0 ∷ 0 ∷ []) ∷ (196609 ∷ 524289 ∷ 524290 ∷ 524291 ∷ []) ∷ (1 ∷ []) ∷ [] ∷ [] ∷ [] ∷ (1 ∷ []) ∷ (0 ∷ 9 ∷ 1 ∷
    120 ∷ 0 ∷ 3 ∷ 1 ∷ 121 ∷ 0 ∷ 3 ∷ 1 ∷ 122 ∷ 0 ∷ []) ∷ (0 ∷ 0 ∷ []) ∷ [] ∷ (1 ∷ []) ∷ [] ∷ [] ∷ [] ∷ (1 ∷ []) ∷ (2 ∷
    9 ∷ 1 ∷ 120 ∷ 0 ∷ 3 ∷ 1 ∷ 121 ∷ 0 ∷ 3 ∷ 1 ∷ 122 ∷ 0 ∷ []) ∷ (0 ∷ 0 ∷ []) ∷ [] ∷ (1 ∷ []) ∷ [] ∷ [] ∷ (1 ∷ 121 ∷ 1 ∷
    122 ∷ []) ∷ (1 ∷ []) ∷ (3 ∷ 9 ∷ 1 ∷ 120 ∷ 0 ∷ []) ∷ (0 ∷ 0 ∷ []) ∷ [] ∷ (1 ∷ []) ∷ [] ∷ [] ∷ (1 ∷ 121 ∷ 1 ∷ 122 ∷
    []) ∷ (1 ∷ []) ∷ (8 ∷ 9 ∷ 1 ∷ 120 ∷ 0 ∷ []) ∷ (0 ∷ 0 ∷ []) ∷ [] ∷ (1 ∷ []) ∷ [] ∷ [] ∷ (1 ∷ 121 ∷ 1 ∷ 122 ∷ 1 ∷
    120 ∷ []) ∷ (1 ∷ []) ∷ (9 ∷ []) ∷ []) ≡ true
unfolding everything joined history_shown queue_shown pending_shown shown played_if played alike
example_042 = refl

-- R-9: cancel takes every pending send of an equal id, of its own round too, and none without an id
abbrev numbers_043 : List ℕ
numbers_043 = 2 ∷ 1 ∷ 0 ∷ 1 ∷ 9 ∷ 8 ∷ 0 ∷ 65535 ∷ 65535 ∷ 0 ∷ 0 ∷ 0 ∷ 0 ∷ 0 ∷ 0 ∷ 0 ∷ 0 ∷ 1 ∷ 0 ∷ 0 ∷ 0 ∷ 5 ∷ 0 ∷ 0 ∷
    0 ∷ 0 ∷ 0 ∷ 0 ∷ 1 ∷ 0 ∷ 1 ∷ 65535 ∷ 0 ∷ 0 ∷ 0 ∷ 5 ∷ 4 ∷ 6 ∷ 6 ∷ 1 ∷ 5 ∷ 2 ∷ 6 ∷ 3 ∷ 6 ∷ 65535 ∷ 6 ∷ 4 ∷ 7 ∷ 5 ∷ 6 ∷
    3 ∷ 0 ∷ 2 ∷ 6 ∷ 2 ∷ 1 ∷ 65535 ∷ 6 ∷ 1 ∷ 1 ∷ 2 ∷ 7 ∷ 2 ∷ 0 ∷ 0 ∷ 7 ∷ 7 ∷ 0 ∷ 0 ∷ 6 ∷ 4 ∷ 2 ∷ 2 ∷ []

abbrev names_043 : List ℕ
names_043 = joined (slot_of (115 ∷ []) ∷ slot_of (120 ∷ []) ∷ slot_of (105 ∷ []) ∷ slot_of (121 ∷ []) ∷ slot_of (122 ∷
    []) ∷ slot_of (106 ∷ []) ∷ slot_of (101 ∷ []) ∷ slot_of (110 ∷ 105 ∷ 120 ∷ []) ∷ [])

example_043 : alike (played numbers_043 names_043 (starts 200 ∷ posts (101 ∷ []) ∷ runs 1 200 ∷ [])) ((0 ∷ []) ∷ (0 ∷
    0 ∷ []) ∷ (196609 ∷ 524289 ∷ 524291 ∷ 524292 ∷ 524291 ∷ 524290 ∷ []) ∷ (1 ∷ []) ∷ [] ∷ [] ∷ [] ∷ (1 ∷ []) ∷ (0 ∷
    5 ∷ 1 ∷ 120 ∷ 1 ∷ 105 ∷ 6 ∷ 1 ∷ 121 ∷ 0 ∷ 7 ∷ 1 ∷ 122 ∷ 1 ∷ 106 ∷ 0 ∷ 1 ∷ 121 ∷ 1 ∷ 105 ∷ 1 ∷ 1 ∷ 105 ∷ 0 ∷ []) ∷
    (0 ∷ 0 ∷ []) ∷ [] ∷ (1 ∷ []) ∷ [] ∷ [] ∷ (1 ∷ 101 ∷ []) ∷ (1 ∷ []) ∷ (0 ∷ 5 ∷ 1 ∷ 120 ∷ 1 ∷ 105 ∷ 6 ∷ 1 ∷ 121 ∷ 0 ∷
    7 ∷ 1 ∷ 122 ∷ 1 ∷ 106 ∷ 0 ∷ 1 ∷ 121 ∷ 1 ∷ 105 ∷ 1 ∷ 1 ∷ 105 ∷ 0 ∷ []) ∷ (101 ∷ 1 ∷ []) ∷ (131072 ∷ 458753 ∷
    524289 ∷ 589826 ∷ 589831 ∷ 524292 ∷ []) ∷ (1 ∷ []) ∷ [] ∷ [] ∷ [] ∷ (1 ∷ []) ∷ (0 ∷ 6 ∷ 1 ∷ 121 ∷ 0 ∷ 7 ∷ 1 ∷ 122 ∷
    1 ∷ 106 ∷ 1 ∷ 1 ∷ 105 ∷ 0 ∷ 2 ∷ 1 ∷ 122 ∷ 1 ∷ 105 ∷ []) ∷ []) ≡ true
unfolding everything joined history_shown queue_shown pending_shown shown played_if played alike
example_043 = refl

-- R-9: a cancel before the thirty-third send makes room for it
abbrev numbers_044 : List ℕ
numbers_044 = 2 ∷ 2 ∷ 0 ∷ 2 ∷ 36 ∷ 6 ∷ 0 ∷ 65535 ∷ 65535 ∷ 0 ∷ 0 ∷ 0 ∷ 0 ∷ 0 ∷ 0 ∷ 0 ∷ 0 ∷ 1 ∷ 0 ∷ 0 ∷ 0 ∷ 32 ∷ 0 ∷ 0 ∷
    0 ∷ 0 ∷ 0 ∷ 0 ∷ 1 ∷ 0 ∷ 1 ∷ 65535 ∷ 0 ∷ 0 ∷ 0 ∷ 32 ∷ 2 ∷ 1 ∷ 1 ∷ 1 ∷ 65535 ∷ 0 ∷ 0 ∷ 0 ∷ 34 ∷ 2 ∷ 3 ∷ 5 ∷ 6 ∷ 1 ∷
    1 ∷ 2 ∷ 6 ∷ 1 ∷ 1 ∷ 2 ∷ 6 ∷ 1 ∷ 1 ∷ 2 ∷ 6 ∷ 1 ∷ 1 ∷ 2 ∷ 6 ∷ 1 ∷ 1 ∷ 2 ∷ 6 ∷ 1 ∷ 1 ∷ 2 ∷ 6 ∷ 1 ∷ 1 ∷ 2 ∷ 6 ∷ 1 ∷ 1 ∷
    2 ∷ 6 ∷ 1 ∷ 1 ∷ 2 ∷ 6 ∷ 1 ∷ 1 ∷ 2 ∷ 6 ∷ 1 ∷ 1 ∷ 2 ∷ 6 ∷ 1 ∷ 1 ∷ 2 ∷ 6 ∷ 1 ∷ 1 ∷ 2 ∷ 6 ∷ 1 ∷ 1 ∷ 2 ∷ 6 ∷ 1 ∷ 1 ∷ 2 ∷
    6 ∷ 1 ∷ 1 ∷ 2 ∷ 6 ∷ 1 ∷ 1 ∷ 2 ∷ 6 ∷ 1 ∷ 1 ∷ 2 ∷ 6 ∷ 1 ∷ 1 ∷ 2 ∷ 6 ∷ 1 ∷ 1 ∷ 2 ∷ 6 ∷ 1 ∷ 1 ∷ 2 ∷ 6 ∷ 1 ∷ 1 ∷ 2 ∷ 6 ∷
    1 ∷ 1 ∷ 2 ∷ 6 ∷ 1 ∷ 1 ∷ 2 ∷ 6 ∷ 1 ∷ 1 ∷ 2 ∷ 6 ∷ 1 ∷ 1 ∷ 2 ∷ 6 ∷ 1 ∷ 1 ∷ 2 ∷ 6 ∷ 1 ∷ 1 ∷ 2 ∷ 6 ∷ 1 ∷ 1 ∷ 2 ∷ 6 ∷ 1 ∷
    1 ∷ 2 ∷ 6 ∷ 1 ∷ 1 ∷ 2 ∷ 6 ∷ 1 ∷ 1 ∷ 2 ∷ 7 ∷ 2 ∷ 0 ∷ 0 ∷ 6 ∷ 4 ∷ 0 ∷ 65535 ∷ 6 ∷ 4 ∷ 0 ∷ 65535 ∷ 7 ∷ 2 ∷ 0 ∷ 0 ∷ []

abbrev names_044 : List ℕ
names_044 = joined (slot_of (115 ∷ []) ∷ slot_of (120 ∷ []) ∷ slot_of (105 ∷ []) ∷ slot_of (97 ∷ []) ∷ slot_of (121 ∷
    []) ∷ slot_of (98 ∷ []) ∷ [])

example_044 : alike (played numbers_044 names_044 (starts 200 ∷ posts (97 ∷ []) ∷ runs 1 200 ∷ [])) ((0 ∷ []) ∷ (0 ∷
    0 ∷ []) ∷ (196609 ∷ 524289 ∷ 524289 ∷ 524289 ∷ 524289 ∷ 524289 ∷ 524289 ∷ 524289 ∷ 524289 ∷ 524289 ∷ 524289 ∷
    524289 ∷ 524289 ∷ 524289 ∷ 524289 ∷ 524289 ∷ 524289 ∷ 524289 ∷ 524289 ∷ 524289 ∷ 524289 ∷ 524289 ∷ 524289 ∷
    524289 ∷ 524289 ∷ 524289 ∷ 524289 ∷ 524289 ∷ 524289 ∷ 524289 ∷ 524289 ∷ 524289 ∷ 524289 ∷ []) ∷ (1 ∷ []) ∷ [] ∷
    [] ∷ [] ∷ (1 ∷ []) ∷ (0 ∷ 1 ∷ 1 ∷ 120 ∷ 1 ∷ 105 ∷ 1 ∷ 1 ∷ 120 ∷ 1 ∷ 105 ∷ 1 ∷ 1 ∷ 120 ∷ 1 ∷ 105 ∷ 1 ∷ 1 ∷ 120 ∷ 1 ∷
    105 ∷ 1 ∷ 1 ∷ 120 ∷ 1 ∷ 105 ∷ 1 ∷ 1 ∷ 120 ∷ 1 ∷ 105 ∷ 1 ∷ 1 ∷ 120 ∷ 1 ∷ 105 ∷ 1 ∷ 1 ∷ 120 ∷ 1 ∷ 105 ∷ 1 ∷ 1 ∷ 120 ∷
    1 ∷ 105 ∷ 1 ∷ 1 ∷ 120 ∷ 1 ∷ 105 ∷ 1 ∷ 1 ∷ 120 ∷ 1 ∷ 105 ∷ 1 ∷ 1 ∷ 120 ∷ 1 ∷ 105 ∷ 1 ∷ 1 ∷ 120 ∷ 1 ∷ 105 ∷ 1 ∷ 1 ∷
    120 ∷ 1 ∷ 105 ∷ 1 ∷ 1 ∷ 120 ∷ 1 ∷ 105 ∷ 1 ∷ 1 ∷ 120 ∷ 1 ∷ 105 ∷ 1 ∷ 1 ∷ 120 ∷ 1 ∷ 105 ∷ 1 ∷ 1 ∷ 120 ∷ 1 ∷ 105 ∷ 1 ∷
    1 ∷ 120 ∷ 1 ∷ 105 ∷ 1 ∷ 1 ∷ 120 ∷ 1 ∷ 105 ∷ 1 ∷ 1 ∷ 120 ∷ 1 ∷ 105 ∷ 1 ∷ 1 ∷ 120 ∷ 1 ∷ 105 ∷ 1 ∷ 1 ∷ 120 ∷ 1 ∷ 105 ∷
    1 ∷ 1 ∷ 120 ∷ 1 ∷ 105 ∷ 1 ∷ 1 ∷ 120 ∷ 1 ∷ 105 ∷ 1 ∷ 1 ∷ 120 ∷ 1 ∷ 105 ∷ 1 ∷ 1 ∷ 120 ∷ 1 ∷ 105 ∷ 1 ∷ 1 ∷ 120 ∷ 1 ∷
    105 ∷ 1 ∷ 1 ∷ 120 ∷ 1 ∷ 105 ∷ 1 ∷ 1 ∷ 120 ∷ 1 ∷ 105 ∷ 1 ∷ 1 ∷ 120 ∷ 1 ∷ 105 ∷ 1 ∷ 1 ∷ 120 ∷ 1 ∷ 105 ∷ []) ∷ (0 ∷
    0 ∷ []) ∷ [] ∷ (1 ∷ []) ∷ [] ∷ [] ∷ (1 ∷ 97 ∷ []) ∷ (1 ∷ []) ∷ (0 ∷ 1 ∷ 1 ∷ 120 ∷ 1 ∷ 105 ∷ 1 ∷ 1 ∷ 120 ∷ 1 ∷ 105 ∷
    1 ∷ 1 ∷ 120 ∷ 1 ∷ 105 ∷ 1 ∷ 1 ∷ 120 ∷ 1 ∷ 105 ∷ 1 ∷ 1 ∷ 120 ∷ 1 ∷ 105 ∷ 1 ∷ 1 ∷ 120 ∷ 1 ∷ 105 ∷ 1 ∷ 1 ∷ 120 ∷ 1 ∷
    105 ∷ 1 ∷ 1 ∷ 120 ∷ 1 ∷ 105 ∷ 1 ∷ 1 ∷ 120 ∷ 1 ∷ 105 ∷ 1 ∷ 1 ∷ 120 ∷ 1 ∷ 105 ∷ 1 ∷ 1 ∷ 120 ∷ 1 ∷ 105 ∷ 1 ∷ 1 ∷ 120 ∷
    1 ∷ 105 ∷ 1 ∷ 1 ∷ 120 ∷ 1 ∷ 105 ∷ 1 ∷ 1 ∷ 120 ∷ 1 ∷ 105 ∷ 1 ∷ 1 ∷ 120 ∷ 1 ∷ 105 ∷ 1 ∷ 1 ∷ 120 ∷ 1 ∷ 105 ∷ 1 ∷ 1 ∷
    120 ∷ 1 ∷ 105 ∷ 1 ∷ 1 ∷ 120 ∷ 1 ∷ 105 ∷ 1 ∷ 1 ∷ 120 ∷ 1 ∷ 105 ∷ 1 ∷ 1 ∷ 120 ∷ 1 ∷ 105 ∷ 1 ∷ 1 ∷ 120 ∷ 1 ∷ 105 ∷ 1 ∷
    1 ∷ 120 ∷ 1 ∷ 105 ∷ 1 ∷ 1 ∷ 120 ∷ 1 ∷ 105 ∷ 1 ∷ 1 ∷ 120 ∷ 1 ∷ 105 ∷ 1 ∷ 1 ∷ 120 ∷ 1 ∷ 105 ∷ 1 ∷ 1 ∷ 120 ∷ 1 ∷ 105 ∷
    1 ∷ 1 ∷ 120 ∷ 1 ∷ 105 ∷ 1 ∷ 1 ∷ 120 ∷ 1 ∷ 105 ∷ 1 ∷ 1 ∷ 120 ∷ 1 ∷ 105 ∷ 1 ∷ 1 ∷ 120 ∷ 1 ∷ 105 ∷ 1 ∷ 1 ∷ 120 ∷ 1 ∷
    105 ∷ 1 ∷ 1 ∷ 120 ∷ 1 ∷ 105 ∷ []) ∷ (101 ∷ 1 ∷ []) ∷ (131072 ∷ 458753 ∷ 589826 ∷ 524292 ∷ []) ∷ (1 ∷ []) ∷ [] ∷
    [] ∷ [] ∷ (1 ∷ []) ∷ (0 ∷ 0 ∷ 1 ∷ 121 ∷ 0 ∷ []) ∷ []) ≡ true
unfolding everything joined history_shown queue_shown pending_shown shown played_if played alike
example_044 = refl

-- R-9: a cancel behind the thirty-third send does not; 7 before 10; a clock call empties the table
abbrev numbers_045 : List ℕ
numbers_045 = 2 ∷ 2 ∷ 0 ∷ 2 ∷ 36 ∷ 6 ∷ 0 ∷ 65535 ∷ 65535 ∷ 0 ∷ 0 ∷ 0 ∷ 0 ∷ 0 ∷ 0 ∷ 0 ∷ 0 ∷ 1 ∷ 0 ∷ 0 ∷ 0 ∷ 32 ∷ 0 ∷ 0 ∷
    0 ∷ 0 ∷ 0 ∷ 0 ∷ 1 ∷ 0 ∷ 1 ∷ 65535 ∷ 0 ∷ 0 ∷ 0 ∷ 32 ∷ 2 ∷ 1 ∷ 1 ∷ 1 ∷ 65535 ∷ 0 ∷ 0 ∷ 0 ∷ 34 ∷ 2 ∷ 3 ∷ 5 ∷ 6 ∷ 1 ∷
    1 ∷ 2 ∷ 6 ∷ 1 ∷ 1 ∷ 2 ∷ 6 ∷ 1 ∷ 1 ∷ 2 ∷ 6 ∷ 1 ∷ 1 ∷ 2 ∷ 6 ∷ 1 ∷ 1 ∷ 2 ∷ 6 ∷ 1 ∷ 1 ∷ 2 ∷ 6 ∷ 1 ∷ 1 ∷ 2 ∷ 6 ∷ 1 ∷ 1 ∷
    2 ∷ 6 ∷ 1 ∷ 1 ∷ 2 ∷ 6 ∷ 1 ∷ 1 ∷ 2 ∷ 6 ∷ 1 ∷ 1 ∷ 2 ∷ 6 ∷ 1 ∷ 1 ∷ 2 ∷ 6 ∷ 1 ∷ 1 ∷ 2 ∷ 6 ∷ 1 ∷ 1 ∷ 2 ∷ 6 ∷ 1 ∷ 1 ∷ 2 ∷
    6 ∷ 1 ∷ 1 ∷ 2 ∷ 6 ∷ 1 ∷ 1 ∷ 2 ∷ 6 ∷ 1 ∷ 1 ∷ 2 ∷ 6 ∷ 1 ∷ 1 ∷ 2 ∷ 6 ∷ 1 ∷ 1 ∷ 2 ∷ 6 ∷ 1 ∷ 1 ∷ 2 ∷ 6 ∷ 1 ∷ 1 ∷ 2 ∷ 6 ∷
    1 ∷ 1 ∷ 2 ∷ 6 ∷ 1 ∷ 1 ∷ 2 ∷ 6 ∷ 1 ∷ 1 ∷ 2 ∷ 6 ∷ 1 ∷ 1 ∷ 2 ∷ 6 ∷ 1 ∷ 1 ∷ 2 ∷ 6 ∷ 1 ∷ 1 ∷ 2 ∷ 6 ∷ 1 ∷ 1 ∷ 2 ∷ 6 ∷ 1 ∷
    1 ∷ 2 ∷ 6 ∷ 1 ∷ 1 ∷ 2 ∷ 6 ∷ 1 ∷ 1 ∷ 2 ∷ 7 ∷ 2 ∷ 0 ∷ 0 ∷ 6 ∷ 4 ∷ 0 ∷ 65535 ∷ 6 ∷ 4 ∷ 0 ∷ 65535 ∷ 7 ∷ 2 ∷ 0 ∷ 0 ∷ []

abbrev names_045 : List ℕ
names_045 = joined (slot_of (115 ∷ []) ∷ slot_of (120 ∷ []) ∷ slot_of (105 ∷ []) ∷ slot_of (97 ∷ []) ∷ slot_of (121 ∷
    []) ∷ slot_of (98 ∷ []) ∷ [])

example_045 : alike (played numbers_045 names_045 (starts 200 ∷ posts (98 ∷ []) ∷ runs 1 200 ∷ runs 1 0 ∷ clocks 1 ∷
    runs 1 200 ∷ [])) ((0 ∷ []) ∷ (0 ∷ 0 ∷ []) ∷ (196609 ∷ 524289 ∷ 524289 ∷ 524289 ∷ 524289 ∷ 524289 ∷ 524289 ∷
    524289 ∷ 524289 ∷ 524289 ∷ 524289 ∷ 524289 ∷ 524289 ∷ 524289 ∷ 524289 ∷ 524289 ∷ 524289 ∷ 524289 ∷ 524289 ∷
    524289 ∷ 524289 ∷ 524289 ∷ 524289 ∷ 524289 ∷ 524289 ∷ 524289 ∷ 524289 ∷ 524289 ∷ 524289 ∷ 524289 ∷ 524289 ∷
    524289 ∷ 524289 ∷ []) ∷ (1 ∷ []) ∷ [] ∷ [] ∷ [] ∷ (1 ∷ []) ∷ (0 ∷ 1 ∷ 1 ∷ 120 ∷ 1 ∷ 105 ∷ 1 ∷ 1 ∷ 120 ∷ 1 ∷ 105 ∷
    1 ∷ 1 ∷ 120 ∷ 1 ∷ 105 ∷ 1 ∷ 1 ∷ 120 ∷ 1 ∷ 105 ∷ 1 ∷ 1 ∷ 120 ∷ 1 ∷ 105 ∷ 1 ∷ 1 ∷ 120 ∷ 1 ∷ 105 ∷ 1 ∷ 1 ∷ 120 ∷ 1 ∷
    105 ∷ 1 ∷ 1 ∷ 120 ∷ 1 ∷ 105 ∷ 1 ∷ 1 ∷ 120 ∷ 1 ∷ 105 ∷ 1 ∷ 1 ∷ 120 ∷ 1 ∷ 105 ∷ 1 ∷ 1 ∷ 120 ∷ 1 ∷ 105 ∷ 1 ∷ 1 ∷ 120 ∷
    1 ∷ 105 ∷ 1 ∷ 1 ∷ 120 ∷ 1 ∷ 105 ∷ 1 ∷ 1 ∷ 120 ∷ 1 ∷ 105 ∷ 1 ∷ 1 ∷ 120 ∷ 1 ∷ 105 ∷ 1 ∷ 1 ∷ 120 ∷ 1 ∷ 105 ∷ 1 ∷ 1 ∷
    120 ∷ 1 ∷ 105 ∷ 1 ∷ 1 ∷ 120 ∷ 1 ∷ 105 ∷ 1 ∷ 1 ∷ 120 ∷ 1 ∷ 105 ∷ 1 ∷ 1 ∷ 120 ∷ 1 ∷ 105 ∷ 1 ∷ 1 ∷ 120 ∷ 1 ∷ 105 ∷ 1 ∷
    1 ∷ 120 ∷ 1 ∷ 105 ∷ 1 ∷ 1 ∷ 120 ∷ 1 ∷ 105 ∷ 1 ∷ 1 ∷ 120 ∷ 1 ∷ 105 ∷ 1 ∷ 1 ∷ 120 ∷ 1 ∷ 105 ∷ 1 ∷ 1 ∷ 120 ∷ 1 ∷ 105 ∷
    1 ∷ 1 ∷ 120 ∷ 1 ∷ 105 ∷ 1 ∷ 1 ∷ 120 ∷ 1 ∷ 105 ∷ 1 ∷ 1 ∷ 120 ∷ 1 ∷ 105 ∷ 1 ∷ 1 ∷ 120 ∷ 1 ∷ 105 ∷ 1 ∷ 1 ∷ 120 ∷ 1 ∷
    105 ∷ 1 ∷ 1 ∷ 120 ∷ 1 ∷ 105 ∷ []) ∷ (0 ∷ 0 ∷ []) ∷ [] ∷ (1 ∷ []) ∷ [] ∷ [] ∷ (1 ∷ 98 ∷ []) ∷ (1 ∷ []) ∷ (0 ∷ 1 ∷
    1 ∷ 120 ∷ 1 ∷ 105 ∷ 1 ∷ 1 ∷ 120 ∷ 1 ∷ 105 ∷ 1 ∷ 1 ∷ 120 ∷ 1 ∷ 105 ∷ 1 ∷ 1 ∷ 120 ∷ 1 ∷ 105 ∷ 1 ∷ 1 ∷ 120 ∷ 1 ∷ 105 ∷
    1 ∷ 1 ∷ 120 ∷ 1 ∷ 105 ∷ 1 ∷ 1 ∷ 120 ∷ 1 ∷ 105 ∷ 1 ∷ 1 ∷ 120 ∷ 1 ∷ 105 ∷ 1 ∷ 1 ∷ 120 ∷ 1 ∷ 105 ∷ 1 ∷ 1 ∷ 120 ∷ 1 ∷
    105 ∷ 1 ∷ 1 ∷ 120 ∷ 1 ∷ 105 ∷ 1 ∷ 1 ∷ 120 ∷ 1 ∷ 105 ∷ 1 ∷ 1 ∷ 120 ∷ 1 ∷ 105 ∷ 1 ∷ 1 ∷ 120 ∷ 1 ∷ 105 ∷ 1 ∷ 1 ∷ 120 ∷
    1 ∷ 105 ∷ 1 ∷ 1 ∷ 120 ∷ 1 ∷ 105 ∷ 1 ∷ 1 ∷ 120 ∷ 1 ∷ 105 ∷ 1 ∷ 1 ∷ 120 ∷ 1 ∷ 105 ∷ 1 ∷ 1 ∷ 120 ∷ 1 ∷ 105 ∷ 1 ∷ 1 ∷
    120 ∷ 1 ∷ 105 ∷ 1 ∷ 1 ∷ 120 ∷ 1 ∷ 105 ∷ 1 ∷ 1 ∷ 120 ∷ 1 ∷ 105 ∷ 1 ∷ 1 ∷ 120 ∷ 1 ∷ 105 ∷ 1 ∷ 1 ∷ 120 ∷ 1 ∷ 105 ∷ 1 ∷
    1 ∷ 120 ∷ 1 ∷ 105 ∷ 1 ∷ 1 ∷ 120 ∷ 1 ∷ 105 ∷ 1 ∷ 1 ∷ 120 ∷ 1 ∷ 105 ∷ 1 ∷ 1 ∷ 120 ∷ 1 ∷ 105 ∷ 1 ∷ 1 ∷ 120 ∷ 1 ∷ 105 ∷
    1 ∷ 1 ∷ 120 ∷ 1 ∷ 105 ∷ 1 ∷ 1 ∷ 120 ∷ 1 ∷ 105 ∷ 1 ∷ 1 ∷ 120 ∷ 1 ∷ 105 ∷ []) ∷ (7 ∷ 0 ∷ []) ∷ [] ∷ (1 ∷ []) ∷ [] ∷
    [] ∷ (1 ∷ 98 ∷ []) ∷ (1 ∷ []) ∷ (0 ∷ 1 ∷ 1 ∷ 120 ∷ 1 ∷ 105 ∷ 1 ∷ 1 ∷ 120 ∷ 1 ∷ 105 ∷ 1 ∷ 1 ∷ 120 ∷ 1 ∷ 105 ∷ 1 ∷
    1 ∷ 120 ∷ 1 ∷ 105 ∷ 1 ∷ 1 ∷ 120 ∷ 1 ∷ 105 ∷ 1 ∷ 1 ∷ 120 ∷ 1 ∷ 105 ∷ 1 ∷ 1 ∷ 120 ∷ 1 ∷ 105 ∷ 1 ∷ 1 ∷ 120 ∷ 1 ∷ 105 ∷
    1 ∷ 1 ∷ 120 ∷ 1 ∷ 105 ∷ 1 ∷ 1 ∷ 120 ∷ 1 ∷ 105 ∷ 1 ∷ 1 ∷ 120 ∷ 1 ∷ 105 ∷ 1 ∷ 1 ∷ 120 ∷ 1 ∷ 105 ∷ 1 ∷ 1 ∷ 120 ∷ 1 ∷
    105 ∷ 1 ∷ 1 ∷ 120 ∷ 1 ∷ 105 ∷ 1 ∷ 1 ∷ 120 ∷ 1 ∷ 105 ∷ 1 ∷ 1 ∷ 120 ∷ 1 ∷ 105 ∷ 1 ∷ 1 ∷ 120 ∷ 1 ∷ 105 ∷ 1 ∷ 1 ∷ 120 ∷
    1 ∷ 105 ∷ 1 ∷ 1 ∷ 120 ∷ 1 ∷ 105 ∷ 1 ∷ 1 ∷ 120 ∷ 1 ∷ 105 ∷ 1 ∷ 1 ∷ 120 ∷ 1 ∷ 105 ∷ 1 ∷ 1 ∷ 120 ∷ 1 ∷ 105 ∷ 1 ∷ 1 ∷
    120 ∷ 1 ∷ 105 ∷ 1 ∷ 1 ∷ 120 ∷ 1 ∷ 105 ∷ 1 ∷ 1 ∷ 120 ∷ 1 ∷ 105 ∷ 1 ∷ 1 ∷ 120 ∷ 1 ∷ 105 ∷ 1 ∷ 1 ∷ 120 ∷ 1 ∷ 105 ∷ 1 ∷
    1 ∷ 120 ∷ 1 ∷ 105 ∷ 1 ∷ 1 ∷ 120 ∷ 1 ∷ 105 ∷ 1 ∷ 1 ∷ 120 ∷ 1 ∷ 105 ∷ 1 ∷ 1 ∷ 120 ∷ 1 ∷ 105 ∷ 1 ∷ 1 ∷ 120 ∷ 1 ∷ 105 ∷
    []) ∷ (7 ∷ 0 ∷ []) ∷ [] ∷ (1 ∷ []) ∷ [] ∷ [] ∷ (1 ∷ 98 ∷ []) ∷ (1 ∷ []) ∷ (0 ∷ 1 ∷ 1 ∷ 120 ∷ 1 ∷ 105 ∷ 1 ∷ 1 ∷
    120 ∷ 1 ∷ 105 ∷ 1 ∷ 1 ∷ 120 ∷ 1 ∷ 105 ∷ 1 ∷ 1 ∷ 120 ∷ 1 ∷ 105 ∷ 1 ∷ 1 ∷ 120 ∷ 1 ∷ 105 ∷ 1 ∷ 1 ∷ 120 ∷ 1 ∷ 105 ∷ 1 ∷
    1 ∷ 120 ∷ 1 ∷ 105 ∷ 1 ∷ 1 ∷ 120 ∷ 1 ∷ 105 ∷ 1 ∷ 1 ∷ 120 ∷ 1 ∷ 105 ∷ 1 ∷ 1 ∷ 120 ∷ 1 ∷ 105 ∷ 1 ∷ 1 ∷ 120 ∷ 1 ∷ 105 ∷
    1 ∷ 1 ∷ 120 ∷ 1 ∷ 105 ∷ 1 ∷ 1 ∷ 120 ∷ 1 ∷ 105 ∷ 1 ∷ 1 ∷ 120 ∷ 1 ∷ 105 ∷ 1 ∷ 1 ∷ 120 ∷ 1 ∷ 105 ∷ 1 ∷ 1 ∷ 120 ∷ 1 ∷
    105 ∷ 1 ∷ 1 ∷ 120 ∷ 1 ∷ 105 ∷ 1 ∷ 1 ∷ 120 ∷ 1 ∷ 105 ∷ 1 ∷ 1 ∷ 120 ∷ 1 ∷ 105 ∷ 1 ∷ 1 ∷ 120 ∷ 1 ∷ 105 ∷ 1 ∷ 1 ∷ 120 ∷
    1 ∷ 105 ∷ 1 ∷ 1 ∷ 120 ∷ 1 ∷ 105 ∷ 1 ∷ 1 ∷ 120 ∷ 1 ∷ 105 ∷ 1 ∷ 1 ∷ 120 ∷ 1 ∷ 105 ∷ 1 ∷ 1 ∷ 120 ∷ 1 ∷ 105 ∷ 1 ∷ 1 ∷
    120 ∷ 1 ∷ 105 ∷ 1 ∷ 1 ∷ 120 ∷ 1 ∷ 105 ∷ 1 ∷ 1 ∷ 120 ∷ 1 ∷ 105 ∷ 1 ∷ 1 ∷ 120 ∷ 1 ∷ 105 ∷ 1 ∷ 1 ∷ 120 ∷ 1 ∷ 105 ∷ 1 ∷
    1 ∷ 120 ∷ 1 ∷ 105 ∷ 1 ∷ 1 ∷ 120 ∷ 1 ∷ 105 ∷ []) ∷ (0 ∷ 0 ∷ []) ∷ [] ∷ (1 ∷ []) ∷ [] ∷ [] ∷ (1 ∷ 98 ∷ 1 ∷ 120 ∷ 1 ∷
    120 ∷ 1 ∷ 120 ∷ 1 ∷ 120 ∷ 1 ∷ 120 ∷ 1 ∷ 120 ∷ 1 ∷ 120 ∷ 1 ∷ 120 ∷ 1 ∷ 120 ∷ 1 ∷ 120 ∷ 1 ∷ 120 ∷ 1 ∷ 120 ∷ 1 ∷ 120 ∷
    1 ∷ 120 ∷ 1 ∷ 120 ∷ 1 ∷ 120 ∷ 1 ∷ 120 ∷ 1 ∷ 120 ∷ 1 ∷ 120 ∷ 1 ∷ 120 ∷ 1 ∷ 120 ∷ 1 ∷ 120 ∷ 1 ∷ 120 ∷ 1 ∷ 120 ∷ 1 ∷
    120 ∷ 1 ∷ 120 ∷ 1 ∷ 120 ∷ 1 ∷ 120 ∷ 1 ∷ 120 ∷ 1 ∷ 120 ∷ 1 ∷ 120 ∷ []) ∷ (1 ∷ []) ∷ (1 ∷ 1 ∷ 1 ∷ 120 ∷ 1 ∷ 105 ∷
    []) ∷ (100 ∷ 1 ∷ []) ∷ (131073 ∷ 458753 ∷ 524292 ∷ 589826 ∷ []) ∷ (1 ∷ []) ∷ [] ∷ [] ∷ (1 ∷ 120 ∷ 1 ∷ 120 ∷ 1 ∷
    120 ∷ 1 ∷ 120 ∷ 1 ∷ 120 ∷ 1 ∷ 120 ∷ 1 ∷ 120 ∷ 1 ∷ 120 ∷ 1 ∷ 120 ∷ 1 ∷ 120 ∷ 1 ∷ 120 ∷ 1 ∷ 120 ∷ 1 ∷ 120 ∷ 1 ∷ 120 ∷
    1 ∷ 120 ∷ 1 ∷ 120 ∷ 1 ∷ 120 ∷ 1 ∷ 120 ∷ 1 ∷ 120 ∷ 1 ∷ 120 ∷ 1 ∷ 120 ∷ 1 ∷ 120 ∷ 1 ∷ 120 ∷ 1 ∷ 120 ∷ 1 ∷ 120 ∷ 1 ∷
    120 ∷ 1 ∷ 120 ∷ 1 ∷ 120 ∷ 1 ∷ 120 ∷ 1 ∷ 120 ∷ 1 ∷ 120 ∷ []) ∷ (1 ∷ []) ∷ (1 ∷ 1 ∷ 1 ∷ 121 ∷ 0 ∷ []) ∷ []) ≡ true
unfolding everything joined history_shown queue_shown pending_shown shown played_if played alike
example_045 = refl

-- R-9: a closing round's sends are only shown, and the table is empty behind it; the clock stays
abbrev numbers_046 : List ℕ
numbers_046 = 3 ∷ 1 ∷ 1 ∷ 1 ∷ 34 ∷ 5 ∷ 0 ∷ 65535 ∷ 65535 ∷ 0 ∷ 0 ∷ 0 ∷ 0 ∷ 0 ∷ 0 ∷ 0 ∷ 0 ∷ 1 ∷ 0 ∷ 0 ∷ 0 ∷ 31 ∷ 0 ∷ 0 ∷
    0 ∷ 0 ∷ 0 ∷ 0 ∷ 3 ∷ 0 ∷ 1 ∷ 31 ∷ 1 ∷ 32 ∷ 2 ∷ 0 ∷ 0 ∷ 0 ∷ 0 ∷ 1 ∷ 0 ∷ 1 ∷ 65535 ∷ 0 ∷ 0 ∷ 1 ∷ 0 ∷ 0 ∷ 2 ∷ 4 ∷ 6 ∷
    2 ∷ 9 ∷ 3 ∷ 6 ∷ 2 ∷ 9 ∷ 3 ∷ 6 ∷ 2 ∷ 9 ∷ 3 ∷ 6 ∷ 2 ∷ 9 ∷ 3 ∷ 6 ∷ 2 ∷ 9 ∷ 3 ∷ 6 ∷ 2 ∷ 9 ∷ 3 ∷ 6 ∷ 2 ∷ 9 ∷ 3 ∷ 6 ∷ 2 ∷
    9 ∷ 3 ∷ 6 ∷ 2 ∷ 9 ∷ 3 ∷ 6 ∷ 2 ∷ 9 ∷ 3 ∷ 6 ∷ 2 ∷ 9 ∷ 3 ∷ 6 ∷ 2 ∷ 9 ∷ 3 ∷ 6 ∷ 2 ∷ 9 ∷ 3 ∷ 6 ∷ 2 ∷ 9 ∷ 3 ∷ 6 ∷ 2 ∷ 9 ∷
    3 ∷ 6 ∷ 2 ∷ 9 ∷ 3 ∷ 6 ∷ 2 ∷ 9 ∷ 3 ∷ 6 ∷ 2 ∷ 9 ∷ 3 ∷ 6 ∷ 2 ∷ 9 ∷ 3 ∷ 6 ∷ 2 ∷ 9 ∷ 3 ∷ 6 ∷ 2 ∷ 9 ∷ 3 ∷ 6 ∷ 2 ∷ 9 ∷ 3 ∷
    6 ∷ 2 ∷ 9 ∷ 3 ∷ 6 ∷ 2 ∷ 9 ∷ 3 ∷ 6 ∷ 2 ∷ 9 ∷ 3 ∷ 6 ∷ 2 ∷ 9 ∷ 3 ∷ 6 ∷ 2 ∷ 9 ∷ 3 ∷ 6 ∷ 2 ∷ 9 ∷ 3 ∷ 6 ∷ 2 ∷ 9 ∷ 3 ∷ 6 ∷
    2 ∷ 9 ∷ 3 ∷ 6 ∷ 2 ∷ 9 ∷ 3 ∷ 6 ∷ 2 ∷ 3 ∷ 3 ∷ 6 ∷ 2 ∷ 3 ∷ 65535 ∷ 7 ∷ 3 ∷ 0 ∷ 0 ∷ []

abbrev names_046 : List ℕ
names_046 = joined (slot_of (115 ∷ []) ∷ slot_of (102 ∷ []) ∷ slot_of (120 ∷ []) ∷ slot_of (105 ∷ []) ∷ slot_of (101 ∷
    []) ∷ [])

example_046 : alike (played numbers_046 names_046 (starts 200 ∷ clocks 2 ∷ posts (101 ∷ []) ∷ runs 1 200 ∷ clocks 3 ∷
    runs 1 2 ∷ runs 1 200 ∷ clocks 3 ∷ [])) ((0 ∷ []) ∷ (0 ∷ 0 ∷ []) ∷ (196609 ∷ 524290 ∷ 524290 ∷ 524290 ∷ 524290 ∷
    524290 ∷ 524290 ∷ 524290 ∷ 524290 ∷ 524290 ∷ 524290 ∷ 524290 ∷ 524290 ∷ 524290 ∷ 524290 ∷ 524290 ∷ 524290 ∷
    524290 ∷ 524290 ∷ 524290 ∷ 524290 ∷ 524290 ∷ 524290 ∷ 524290 ∷ 524290 ∷ 524290 ∷ 524290 ∷ 524290 ∷ 524290 ∷
    524290 ∷ 524290 ∷ 524290 ∷ []) ∷ (1 ∷ []) ∷ [] ∷ [] ∷ [] ∷ (1 ∷ []) ∷ (0 ∷ 9 ∷ 1 ∷ 120 ∷ 1 ∷ 105 ∷ 9 ∷ 1 ∷ 120 ∷
    1 ∷ 105 ∷ 9 ∷ 1 ∷ 120 ∷ 1 ∷ 105 ∷ 9 ∷ 1 ∷ 120 ∷ 1 ∷ 105 ∷ 9 ∷ 1 ∷ 120 ∷ 1 ∷ 105 ∷ 9 ∷ 1 ∷ 120 ∷ 1 ∷ 105 ∷ 9 ∷ 1 ∷
    120 ∷ 1 ∷ 105 ∷ 9 ∷ 1 ∷ 120 ∷ 1 ∷ 105 ∷ 9 ∷ 1 ∷ 120 ∷ 1 ∷ 105 ∷ 9 ∷ 1 ∷ 120 ∷ 1 ∷ 105 ∷ 9 ∷ 1 ∷ 120 ∷ 1 ∷ 105 ∷ 9 ∷
    1 ∷ 120 ∷ 1 ∷ 105 ∷ 9 ∷ 1 ∷ 120 ∷ 1 ∷ 105 ∷ 9 ∷ 1 ∷ 120 ∷ 1 ∷ 105 ∷ 9 ∷ 1 ∷ 120 ∷ 1 ∷ 105 ∷ 9 ∷ 1 ∷ 120 ∷ 1 ∷ 105 ∷
    9 ∷ 1 ∷ 120 ∷ 1 ∷ 105 ∷ 9 ∷ 1 ∷ 120 ∷ 1 ∷ 105 ∷ 9 ∷ 1 ∷ 120 ∷ 1 ∷ 105 ∷ 9 ∷ 1 ∷ 120 ∷ 1 ∷ 105 ∷ 9 ∷ 1 ∷ 120 ∷ 1 ∷
    105 ∷ 9 ∷ 1 ∷ 120 ∷ 1 ∷ 105 ∷ 9 ∷ 1 ∷ 120 ∷ 1 ∷ 105 ∷ 9 ∷ 1 ∷ 120 ∷ 1 ∷ 105 ∷ 9 ∷ 1 ∷ 120 ∷ 1 ∷ 105 ∷ 9 ∷ 1 ∷ 120 ∷
    1 ∷ 105 ∷ 9 ∷ 1 ∷ 120 ∷ 1 ∷ 105 ∷ 9 ∷ 1 ∷ 120 ∷ 1 ∷ 105 ∷ 9 ∷ 1 ∷ 120 ∷ 1 ∷ 105 ∷ 9 ∷ 1 ∷ 120 ∷ 1 ∷ 105 ∷ 9 ∷ 1 ∷
    120 ∷ 1 ∷ 105 ∷ []) ∷ (0 ∷ 0 ∷ []) ∷ [] ∷ (1 ∷ []) ∷ [] ∷ [] ∷ [] ∷ (1 ∷ []) ∷ (2 ∷ 9 ∷ 1 ∷ 120 ∷ 1 ∷ 105 ∷ 9 ∷ 1 ∷
    120 ∷ 1 ∷ 105 ∷ 9 ∷ 1 ∷ 120 ∷ 1 ∷ 105 ∷ 9 ∷ 1 ∷ 120 ∷ 1 ∷ 105 ∷ 9 ∷ 1 ∷ 120 ∷ 1 ∷ 105 ∷ 9 ∷ 1 ∷ 120 ∷ 1 ∷ 105 ∷ 9 ∷
    1 ∷ 120 ∷ 1 ∷ 105 ∷ 9 ∷ 1 ∷ 120 ∷ 1 ∷ 105 ∷ 9 ∷ 1 ∷ 120 ∷ 1 ∷ 105 ∷ 9 ∷ 1 ∷ 120 ∷ 1 ∷ 105 ∷ 9 ∷ 1 ∷ 120 ∷ 1 ∷ 105 ∷
    9 ∷ 1 ∷ 120 ∷ 1 ∷ 105 ∷ 9 ∷ 1 ∷ 120 ∷ 1 ∷ 105 ∷ 9 ∷ 1 ∷ 120 ∷ 1 ∷ 105 ∷ 9 ∷ 1 ∷ 120 ∷ 1 ∷ 105 ∷ 9 ∷ 1 ∷ 120 ∷ 1 ∷
    105 ∷ 9 ∷ 1 ∷ 120 ∷ 1 ∷ 105 ∷ 9 ∷ 1 ∷ 120 ∷ 1 ∷ 105 ∷ 9 ∷ 1 ∷ 120 ∷ 1 ∷ 105 ∷ 9 ∷ 1 ∷ 120 ∷ 1 ∷ 105 ∷ 9 ∷ 1 ∷ 120 ∷
    1 ∷ 105 ∷ 9 ∷ 1 ∷ 120 ∷ 1 ∷ 105 ∷ 9 ∷ 1 ∷ 120 ∷ 1 ∷ 105 ∷ 9 ∷ 1 ∷ 120 ∷ 1 ∷ 105 ∷ 9 ∷ 1 ∷ 120 ∷ 1 ∷ 105 ∷ 9 ∷ 1 ∷
    120 ∷ 1 ∷ 105 ∷ 9 ∷ 1 ∷ 120 ∷ 1 ∷ 105 ∷ 9 ∷ 1 ∷ 120 ∷ 1 ∷ 105 ∷ 9 ∷ 1 ∷ 120 ∷ 1 ∷ 105 ∷ 9 ∷ 1 ∷ 120 ∷ 1 ∷ 105 ∷ 9 ∷
    1 ∷ 120 ∷ 1 ∷ 105 ∷ []) ∷ (0 ∷ 0 ∷ []) ∷ [] ∷ (1 ∷ []) ∷ [] ∷ [] ∷ (1 ∷ 101 ∷ []) ∷ (1 ∷ []) ∷ (2 ∷ 9 ∷ 1 ∷ 120 ∷
    1 ∷ 105 ∷ 9 ∷ 1 ∷ 120 ∷ 1 ∷ 105 ∷ 9 ∷ 1 ∷ 120 ∷ 1 ∷ 105 ∷ 9 ∷ 1 ∷ 120 ∷ 1 ∷ 105 ∷ 9 ∷ 1 ∷ 120 ∷ 1 ∷ 105 ∷ 9 ∷ 1 ∷
    120 ∷ 1 ∷ 105 ∷ 9 ∷ 1 ∷ 120 ∷ 1 ∷ 105 ∷ 9 ∷ 1 ∷ 120 ∷ 1 ∷ 105 ∷ 9 ∷ 1 ∷ 120 ∷ 1 ∷ 105 ∷ 9 ∷ 1 ∷ 120 ∷ 1 ∷ 105 ∷ 9 ∷
    1 ∷ 120 ∷ 1 ∷ 105 ∷ 9 ∷ 1 ∷ 120 ∷ 1 ∷ 105 ∷ 9 ∷ 1 ∷ 120 ∷ 1 ∷ 105 ∷ 9 ∷ 1 ∷ 120 ∷ 1 ∷ 105 ∷ 9 ∷ 1 ∷ 120 ∷ 1 ∷ 105 ∷
    9 ∷ 1 ∷ 120 ∷ 1 ∷ 105 ∷ 9 ∷ 1 ∷ 120 ∷ 1 ∷ 105 ∷ 9 ∷ 1 ∷ 120 ∷ 1 ∷ 105 ∷ 9 ∷ 1 ∷ 120 ∷ 1 ∷ 105 ∷ 9 ∷ 1 ∷ 120 ∷ 1 ∷
    105 ∷ 9 ∷ 1 ∷ 120 ∷ 1 ∷ 105 ∷ 9 ∷ 1 ∷ 120 ∷ 1 ∷ 105 ∷ 9 ∷ 1 ∷ 120 ∷ 1 ∷ 105 ∷ 9 ∷ 1 ∷ 120 ∷ 1 ∷ 105 ∷ 9 ∷ 1 ∷ 120 ∷
    1 ∷ 105 ∷ 9 ∷ 1 ∷ 120 ∷ 1 ∷ 105 ∷ 9 ∷ 1 ∷ 120 ∷ 1 ∷ 105 ∷ 9 ∷ 1 ∷ 120 ∷ 1 ∷ 105 ∷ 9 ∷ 1 ∷ 120 ∷ 1 ∷ 105 ∷ 9 ∷ 1 ∷
    120 ∷ 1 ∷ 105 ∷ 9 ∷ 1 ∷ 120 ∷ 1 ∷ 105 ∷ []) ∷ (100 ∷ 1 ∷ []) ∷ (65537 ∷ 131072 ∷ 458753 ∷ 196610 ∷ 524290 ∷ []) ∷
    (2 ∷ []) ∷ [] ∷ [] ∷ [] ∷ (2 ∷ []) ∷ (2 ∷ 9 ∷ 1 ∷ 120 ∷ 1 ∷ 105 ∷ 9 ∷ 1 ∷ 120 ∷ 1 ∷ 105 ∷ 9 ∷ 1 ∷ 120 ∷ 1 ∷ 105 ∷
    9 ∷ 1 ∷ 120 ∷ 1 ∷ 105 ∷ 9 ∷ 1 ∷ 120 ∷ 1 ∷ 105 ∷ 9 ∷ 1 ∷ 120 ∷ 1 ∷ 105 ∷ 9 ∷ 1 ∷ 120 ∷ 1 ∷ 105 ∷ 9 ∷ 1 ∷ 120 ∷ 1 ∷
    105 ∷ 9 ∷ 1 ∷ 120 ∷ 1 ∷ 105 ∷ 9 ∷ 1 ∷ 120 ∷ 1 ∷ 105 ∷ 9 ∷ 1 ∷ 120 ∷ 1 ∷ 105 ∷ 9 ∷ 1 ∷ 120 ∷ 1 ∷ 105 ∷ 9 ∷ 1 ∷ 120 ∷
    1 ∷ 105 ∷ 9 ∷ 1 ∷ 120 ∷ 1 ∷ 105 ∷ 9 ∷ 1 ∷ 120 ∷ 1 ∷ 105 ∷ 9 ∷ 1 ∷ 120 ∷ 1 ∷ 105 ∷ 9 ∷ 1 ∷ 120 ∷ 1 ∷ 105 ∷ 9 ∷ 1 ∷
    120 ∷ 1 ∷ 105 ∷ 9 ∷ 1 ∷ 120 ∷ 1 ∷ 105 ∷ 9 ∷ 1 ∷ 120 ∷ 1 ∷ 105 ∷ 9 ∷ 1 ∷ 120 ∷ 1 ∷ 105 ∷ 9 ∷ 1 ∷ 120 ∷ 1 ∷ 105 ∷ 9 ∷
    1 ∷ 120 ∷ 1 ∷ 105 ∷ 9 ∷ 1 ∷ 120 ∷ 1 ∷ 105 ∷ 9 ∷ 1 ∷ 120 ∷ 1 ∷ 105 ∷ 9 ∷ 1 ∷ 120 ∷ 1 ∷ 105 ∷ 9 ∷ 1 ∷ 120 ∷ 1 ∷ 105 ∷
    9 ∷ 1 ∷ 120 ∷ 1 ∷ 105 ∷ 9 ∷ 1 ∷ 120 ∷ 1 ∷ 105 ∷ 9 ∷ 1 ∷ 120 ∷ 1 ∷ 105 ∷ 9 ∷ 1 ∷ 120 ∷ 1 ∷ 105 ∷ 5 ∷ 1 ∷ 120 ∷ 1 ∷
    105 ∷ []) ∷ (0 ∷ 0 ∷ []) ∷ [] ∷ (2 ∷ []) ∷ [] ∷ [] ∷ [] ∷ (2 ∷ []) ∷ (3 ∷ 9 ∷ 1 ∷ 120 ∷ 1 ∷ 105 ∷ 9 ∷ 1 ∷ 120 ∷ 1 ∷
    105 ∷ 9 ∷ 1 ∷ 120 ∷ 1 ∷ 105 ∷ 9 ∷ 1 ∷ 120 ∷ 1 ∷ 105 ∷ 9 ∷ 1 ∷ 120 ∷ 1 ∷ 105 ∷ 9 ∷ 1 ∷ 120 ∷ 1 ∷ 105 ∷ 9 ∷ 1 ∷ 120 ∷
    1 ∷ 105 ∷ 9 ∷ 1 ∷ 120 ∷ 1 ∷ 105 ∷ 9 ∷ 1 ∷ 120 ∷ 1 ∷ 105 ∷ 9 ∷ 1 ∷ 120 ∷ 1 ∷ 105 ∷ 9 ∷ 1 ∷ 120 ∷ 1 ∷ 105 ∷ 9 ∷ 1 ∷
    120 ∷ 1 ∷ 105 ∷ 9 ∷ 1 ∷ 120 ∷ 1 ∷ 105 ∷ 9 ∷ 1 ∷ 120 ∷ 1 ∷ 105 ∷ 9 ∷ 1 ∷ 120 ∷ 1 ∷ 105 ∷ 9 ∷ 1 ∷ 120 ∷ 1 ∷ 105 ∷ 9 ∷
    1 ∷ 120 ∷ 1 ∷ 105 ∷ 9 ∷ 1 ∷ 120 ∷ 1 ∷ 105 ∷ 9 ∷ 1 ∷ 120 ∷ 1 ∷ 105 ∷ 9 ∷ 1 ∷ 120 ∷ 1 ∷ 105 ∷ 9 ∷ 1 ∷ 120 ∷ 1 ∷ 105 ∷
    9 ∷ 1 ∷ 120 ∷ 1 ∷ 105 ∷ 9 ∷ 1 ∷ 120 ∷ 1 ∷ 105 ∷ 9 ∷ 1 ∷ 120 ∷ 1 ∷ 105 ∷ 9 ∷ 1 ∷ 120 ∷ 1 ∷ 105 ∷ 9 ∷ 1 ∷ 120 ∷ 1 ∷
    105 ∷ 9 ∷ 1 ∷ 120 ∷ 1 ∷ 105 ∷ 9 ∷ 1 ∷ 120 ∷ 1 ∷ 105 ∷ 9 ∷ 1 ∷ 120 ∷ 1 ∷ 105 ∷ 9 ∷ 1 ∷ 120 ∷ 1 ∷ 105 ∷ 9 ∷ 1 ∷ 120 ∷
    1 ∷ 105 ∷ 5 ∷ 1 ∷ 120 ∷ 1 ∷ 105 ∷ []) ∷ (10 ∷ 0 ∷ []) ∷ [] ∷ (2 ∷ []) ∷ [] ∷ [] ∷ [] ∷ (2 ∷ []) ∷ (3 ∷ 9 ∷ 1 ∷
    120 ∷ 1 ∷ 105 ∷ 9 ∷ 1 ∷ 120 ∷ 1 ∷ 105 ∷ 9 ∷ 1 ∷ 120 ∷ 1 ∷ 105 ∷ 9 ∷ 1 ∷ 120 ∷ 1 ∷ 105 ∷ 9 ∷ 1 ∷ 120 ∷ 1 ∷ 105 ∷ 9 ∷
    1 ∷ 120 ∷ 1 ∷ 105 ∷ 9 ∷ 1 ∷ 120 ∷ 1 ∷ 105 ∷ 9 ∷ 1 ∷ 120 ∷ 1 ∷ 105 ∷ 9 ∷ 1 ∷ 120 ∷ 1 ∷ 105 ∷ 9 ∷ 1 ∷ 120 ∷ 1 ∷ 105 ∷
    9 ∷ 1 ∷ 120 ∷ 1 ∷ 105 ∷ 9 ∷ 1 ∷ 120 ∷ 1 ∷ 105 ∷ 9 ∷ 1 ∷ 120 ∷ 1 ∷ 105 ∷ 9 ∷ 1 ∷ 120 ∷ 1 ∷ 105 ∷ 9 ∷ 1 ∷ 120 ∷ 1 ∷
    105 ∷ 9 ∷ 1 ∷ 120 ∷ 1 ∷ 105 ∷ 9 ∷ 1 ∷ 120 ∷ 1 ∷ 105 ∷ 9 ∷ 1 ∷ 120 ∷ 1 ∷ 105 ∷ 9 ∷ 1 ∷ 120 ∷ 1 ∷ 105 ∷ 9 ∷ 1 ∷ 120 ∷
    1 ∷ 105 ∷ 9 ∷ 1 ∷ 120 ∷ 1 ∷ 105 ∷ 9 ∷ 1 ∷ 120 ∷ 1 ∷ 105 ∷ 9 ∷ 1 ∷ 120 ∷ 1 ∷ 105 ∷ 9 ∷ 1 ∷ 120 ∷ 1 ∷ 105 ∷ 9 ∷ 1 ∷
    120 ∷ 1 ∷ 105 ∷ 9 ∷ 1 ∷ 120 ∷ 1 ∷ 105 ∷ 9 ∷ 1 ∷ 120 ∷ 1 ∷ 105 ∷ 9 ∷ 1 ∷ 120 ∷ 1 ∷ 105 ∷ 9 ∷ 1 ∷ 120 ∷ 1 ∷ 105 ∷ 9 ∷
    1 ∷ 120 ∷ 1 ∷ 105 ∷ 9 ∷ 1 ∷ 120 ∷ 1 ∷ 105 ∷ 5 ∷ 1 ∷ 120 ∷ 1 ∷ 105 ∷ []) ∷ (102 ∷ 1 ∷ []) ∷ (65538 ∷ 524290 ∷
    589827 ∷ []) ∷ [] ∷ [] ∷ [] ∷ [] ∷ (0 ∷ []) ∷ (3 ∷ []) ∷ (11 ∷ 0 ∷ []) ∷ [] ∷ [] ∷ [] ∷ [] ∷ [] ∷ (0 ∷ []) ∷ (3 ∷
    []) ∷ []) ≡ true
unfolding everything joined history_shown queue_shown pending_shown shown played_if played alike
example_046 = refl

-- R-9: a start of 33 sends gets 7, and leaves a new record
abbrev numbers_047 : List ℕ
numbers_047 = 3 ∷ 0 ∷ 0 ∷ 0 ∷ 34 ∷ 4 ∷ 0 ∷ 65535 ∷ 65535 ∷ 0 ∷ 0 ∷ 0 ∷ 0 ∷ 0 ∷ 0 ∷ 0 ∷ 0 ∷ 1 ∷ 0 ∷ 0 ∷ 0 ∷ 32 ∷ 0 ∷ 0 ∷
    0 ∷ 0 ∷ 0 ∷ 0 ∷ 1 ∷ 1 ∷ 1 ∷ 32 ∷ 2 ∷ 0 ∷ 0 ∷ 0 ∷ 0 ∷ 0 ∷ 0 ∷ 6 ∷ 2 ∷ 1 ∷ 3 ∷ 6 ∷ 2 ∷ 1 ∷ 3 ∷ 6 ∷ 2 ∷ 1 ∷ 3 ∷ 6 ∷
    2 ∷ 1 ∷ 3 ∷ 6 ∷ 2 ∷ 1 ∷ 3 ∷ 6 ∷ 2 ∷ 1 ∷ 3 ∷ 6 ∷ 2 ∷ 1 ∷ 3 ∷ 6 ∷ 2 ∷ 1 ∷ 3 ∷ 6 ∷ 2 ∷ 1 ∷ 3 ∷ 6 ∷ 2 ∷ 1 ∷ 3 ∷ 6 ∷ 2 ∷
    1 ∷ 3 ∷ 6 ∷ 2 ∷ 1 ∷ 3 ∷ 6 ∷ 2 ∷ 1 ∷ 3 ∷ 6 ∷ 2 ∷ 1 ∷ 3 ∷ 6 ∷ 2 ∷ 1 ∷ 3 ∷ 6 ∷ 2 ∷ 1 ∷ 3 ∷ 6 ∷ 2 ∷ 1 ∷ 3 ∷ 6 ∷ 2 ∷ 1 ∷
    3 ∷ 6 ∷ 2 ∷ 1 ∷ 3 ∷ 6 ∷ 2 ∷ 1 ∷ 3 ∷ 6 ∷ 2 ∷ 1 ∷ 3 ∷ 6 ∷ 2 ∷ 1 ∷ 3 ∷ 6 ∷ 2 ∷ 1 ∷ 3 ∷ 6 ∷ 2 ∷ 1 ∷ 3 ∷ 6 ∷ 2 ∷ 1 ∷ 3 ∷
    6 ∷ 2 ∷ 1 ∷ 3 ∷ 6 ∷ 2 ∷ 1 ∷ 3 ∷ 6 ∷ 2 ∷ 1 ∷ 3 ∷ 6 ∷ 2 ∷ 1 ∷ 3 ∷ 6 ∷ 2 ∷ 1 ∷ 3 ∷ 6 ∷ 2 ∷ 1 ∷ 3 ∷ 6 ∷ 2 ∷ 1 ∷ 3 ∷ 6 ∷
    2 ∷ 1 ∷ 65535 ∷ 7 ∷ 3 ∷ 0 ∷ 0 ∷ []

abbrev names_047 : List ℕ
names_047 = joined (slot_of (115 ∷ []) ∷ slot_of (99 ∷ []) ∷ slot_of (120 ∷ []) ∷ slot_of (105 ∷ []) ∷ [])

example_047 : alike (played numbers_047 names_047 (starts 200 ∷ starts 0 ∷ [])) ((0 ∷ []) ∷ (7 ∷ 0 ∷ []) ∷ [] ∷ [] ∷
    [] ∷ [] ∷ [] ∷ (0 ∷ []) ∷ (0 ∷ []) ∷ (7 ∷ 0 ∷ []) ∷ [] ∷ [] ∷ [] ∷ [] ∷ [] ∷ (0 ∷ []) ∷ (0 ∷ []) ∷ []) ≡ true
unfolding everything joined history_shown queue_shown pending_shown shown played_if played alike
example_047 = refl

-- R-9: any start sets the clock to 0 and drops what was pending, a refused one too
abbrev numbers_048 : List ℕ
numbers_048 = 2 ∷ 0 ∷ 0 ∷ 0 ∷ 3 ∷ 4 ∷ 0 ∷ 65535 ∷ 65535 ∷ 0 ∷ 0 ∷ 0 ∷ 0 ∷ 0 ∷ 0 ∷ 0 ∷ 0 ∷ 1 ∷ 0 ∷ 0 ∷ 0 ∷ 3 ∷ 0 ∷ 0 ∷
    0 ∷ 0 ∷ 0 ∷ 0 ∷ 6 ∷ 1 ∷ 9 ∷ 65535 ∷ 6 ∷ 2 ∷ 3 ∷ 65535 ∷ 6 ∷ 3 ∷ 3 ∷ 65535 ∷ []

abbrev names_048 : List ℕ
names_048 = joined (slot_of (115 ∷ []) ∷ slot_of (120 ∷ []) ∷ slot_of (121 ∷ []) ∷ slot_of (122 ∷ []) ∷ [])

example_048 : alike (played numbers_048 names_048 (starts 200 ∷ clocks 8 ∷ starts 200 ∷ clocks 7 ∷ starts 3 ∷
    [])) ((0 ∷ []) ∷ (0 ∷ 0 ∷ []) ∷ (196609 ∷ 524289 ∷ 524290 ∷ 524291 ∷ []) ∷ (1 ∷ []) ∷ [] ∷ [] ∷ [] ∷ (1 ∷ []) ∷
    (0 ∷ 9 ∷ 1 ∷ 120 ∷ 0 ∷ 3 ∷ 1 ∷ 121 ∷ 0 ∷ 3 ∷ 1 ∷ 122 ∷ 0 ∷ []) ∷ (0 ∷ 0 ∷ []) ∷ [] ∷ (1 ∷ []) ∷ [] ∷ [] ∷ (1 ∷
    121 ∷ 1 ∷ 122 ∷ []) ∷ (1 ∷ []) ∷ (8 ∷ 9 ∷ 1 ∷ 120 ∷ 0 ∷ []) ∷ (0 ∷ 0 ∷ []) ∷ (196609 ∷ 524289 ∷ 524290 ∷ 524291 ∷
    []) ∷ (1 ∷ []) ∷ [] ∷ [] ∷ [] ∷ (1 ∷ []) ∷ (0 ∷ 9 ∷ 1 ∷ 120 ∷ 0 ∷ 3 ∷ 1 ∷ 121 ∷ 0 ∷ 3 ∷ 1 ∷ 122 ∷ 0 ∷ []) ∷ (0 ∷
    0 ∷ []) ∷ [] ∷ (1 ∷ []) ∷ [] ∷ [] ∷ (1 ∷ 121 ∷ 1 ∷ 122 ∷ []) ∷ (1 ∷ []) ∷ (7 ∷ 9 ∷ 1 ∷ 120 ∷ 0 ∷ []) ∷ (10 ∷ 0 ∷
    []) ∷ [] ∷ [] ∷ [] ∷ [] ∷ [] ∷ (0 ∷ []) ∷ (0 ∷ []) ∷ []) ≡ true
unfolding everything joined history_shown queue_shown pending_shown shown played_if played alike
example_048 = refl

-- R-9: a send is due at the last clock plus its delay; a refused round leaves the record as before
abbrev numbers_049 : List ℕ
numbers_049 = 2 ∷ 1 ∷ 0 ∷ 1 ∷ 2 ∷ 3 ∷ 0 ∷ 65535 ∷ 65535 ∷ 0 ∷ 0 ∷ 0 ∷ 0 ∷ 0 ∷ 0 ∷ 0 ∷ 0 ∷ 1 ∷ 0 ∷ 0 ∷ 0 ∷ 0 ∷ 0 ∷ 0 ∷
    0 ∷ 0 ∷ 0 ∷ 0 ∷ 1 ∷ 0 ∷ 1 ∷ 65535 ∷ 0 ∷ 0 ∷ 0 ∷ 0 ∷ 2 ∷ 1 ∷ 6 ∷ 2 ∷ 5 ∷ 65535 ∷ 6 ∷ 2 ∷ 4294967295 ∷ 65535 ∷ []

abbrev names_049 : List ℕ
names_049 = joined (slot_of (115 ∷ []) ∷ slot_of (101 ∷ []) ∷ slot_of (120 ∷ []) ∷ [])

example_049 : alike (played numbers_049 names_049 (starts 200 ∷ clocks 100 ∷ posts (101 ∷ []) ∷ posts (101 ∷ []) ∷
    runs 2 7 ∷ clocks 105 ∷ [])) ((0 ∷ []) ∷ (0 ∷ 0 ∷ []) ∷ (196609 ∷ []) ∷ (1 ∷ []) ∷ [] ∷ [] ∷ [] ∷ (1 ∷ []) ∷ (0 ∷
    []) ∷ (0 ∷ 0 ∷ []) ∷ [] ∷ (1 ∷ []) ∷ [] ∷ [] ∷ [] ∷ (1 ∷ []) ∷ (100 ∷ []) ∷ (0 ∷ 0 ∷ []) ∷ [] ∷ (1 ∷ []) ∷ [] ∷
    [] ∷ (1 ∷ 101 ∷ []) ∷ (1 ∷ []) ∷ (100 ∷ []) ∷ (0 ∷ 0 ∷ []) ∷ [] ∷ (1 ∷ []) ∷ [] ∷ [] ∷ (1 ∷ 101 ∷ 1 ∷ 101 ∷ []) ∷
    (1 ∷ []) ∷ (100 ∷ []) ∷ (10 ∷ 1 ∷ []) ∷ (131072 ∷ 458753 ∷ 524290 ∷ 524290 ∷ []) ∷ (1 ∷ []) ∷ [] ∷ [] ∷ (1 ∷ 101 ∷
    []) ∷ (1 ∷ []) ∷ (100 ∷ 105 ∷ 1 ∷ 120 ∷ 0 ∷ 4294967395 ∷ 1 ∷ 120 ∷ 0 ∷ []) ∷ (0 ∷ 0 ∷ []) ∷ [] ∷ (1 ∷ []) ∷ [] ∷
    [] ∷ (1 ∷ 101 ∷ 1 ∷ 120 ∷ []) ∷ (1 ∷ []) ∷ (105 ∷ 4294967395 ∷ 1 ∷ 120 ∷ 0 ∷ []) ∷ []) ≡ true
unfolding everything joined history_shown queue_shown pending_shown shown played_if played alike
example_049 = refl

-- R-9: 14 for an earlier clock and for one over 2^62; the greatest due time
abbrev numbers_050 : List ℕ
numbers_050 = 2 ∷ 1 ∷ 0 ∷ 1 ∷ 2 ∷ 3 ∷ 0 ∷ 65535 ∷ 65535 ∷ 0 ∷ 0 ∷ 0 ∷ 0 ∷ 0 ∷ 0 ∷ 0 ∷ 0 ∷ 1 ∷ 0 ∷ 0 ∷ 0 ∷ 0 ∷ 0 ∷ 0 ∷
    0 ∷ 0 ∷ 0 ∷ 0 ∷ 1 ∷ 0 ∷ 1 ∷ 65535 ∷ 0 ∷ 0 ∷ 0 ∷ 0 ∷ 2 ∷ 1 ∷ 6 ∷ 2 ∷ 5 ∷ 65535 ∷ 6 ∷ 2 ∷ 4294967295 ∷ 65535 ∷ []

abbrev names_050 : List ℕ
names_050 = joined (slot_of (115 ∷ []) ∷ slot_of (101 ∷ []) ∷ slot_of (120 ∷ []) ∷ [])

example_050 : alike (played numbers_050 names_050 (starts 200 ∷ clocks 5 ∷ clocks 4 ∷ clocks 4611686018427387905 ∷
    clocks 18446744073709551615 ∷ clocks 4611686018427387904 ∷ clocks 4611686018427387903 ∷ posts (101 ∷ []) ∷
    runs 1 200 ∷ clocks 4611686018427387904 ∷ [])) ((0 ∷ []) ∷ (0 ∷ 0 ∷ []) ∷ (196609 ∷ []) ∷ (1 ∷ []) ∷ [] ∷ [] ∷ [] ∷
    (1 ∷ []) ∷ (0 ∷ []) ∷ (0 ∷ 0 ∷ []) ∷ [] ∷ (1 ∷ []) ∷ [] ∷ [] ∷ [] ∷ (1 ∷ []) ∷ (5 ∷ []) ∷ (14 ∷ 0 ∷ []) ∷ [] ∷ (1 ∷
    []) ∷ [] ∷ [] ∷ [] ∷ (1 ∷ []) ∷ (5 ∷ []) ∷ (14 ∷ 0 ∷ []) ∷ [] ∷ (1 ∷ []) ∷ [] ∷ [] ∷ [] ∷ (1 ∷ []) ∷ (5 ∷ []) ∷
    (14 ∷ 0 ∷ []) ∷ [] ∷ (1 ∷ []) ∷ [] ∷ [] ∷ [] ∷ (1 ∷ []) ∷ (5 ∷ []) ∷ (0 ∷ 0 ∷ []) ∷ [] ∷ (1 ∷ []) ∷ [] ∷ [] ∷ [] ∷
    (1 ∷ []) ∷ (4611686018427387904 ∷ []) ∷ (14 ∷ 0 ∷ []) ∷ [] ∷ (1 ∷ []) ∷ [] ∷ [] ∷ [] ∷ (1 ∷ []) ∷
    (4611686018427387904 ∷ []) ∷ (0 ∷ 0 ∷ []) ∷ [] ∷ (1 ∷ []) ∷ [] ∷ [] ∷ (1 ∷ 101 ∷ []) ∷ (1 ∷ []) ∷
    (4611686018427387904 ∷ []) ∷ (101 ∷ 1 ∷ []) ∷ (131072 ∷ 458753 ∷ 524290 ∷ 524290 ∷ []) ∷ (1 ∷ []) ∷ [] ∷ [] ∷ [] ∷
    (1 ∷ []) ∷ (4611686018427387904 ∷ 4611686018427387909 ∷ 1 ∷ 120 ∷ 0 ∷ 4611686022722355199 ∷ 1 ∷ 120 ∷ 0 ∷ []) ∷
    (0 ∷ 0 ∷ []) ∷ [] ∷ (1 ∷ []) ∷ [] ∷ [] ∷ [] ∷ (1 ∷ []) ∷ (4611686018427387904 ∷ 4611686018427387909 ∷ 1 ∷ 120 ∷ 0 ∷
    4611686022722355199 ∷ 1 ∷ 120 ∷ 0 ∷ []) ∷ []) ≡ true
unfolding everything joined history_shown queue_shown pending_shown shown played_if played alike
example_050 = refl

-- R-9: 11 before 14, for a session that no start has made
abbrev numbers_051 : List ℕ
numbers_051 = 2 ∷ 1 ∷ 0 ∷ 1 ∷ 2 ∷ 3 ∷ 0 ∷ 65535 ∷ 65535 ∷ 0 ∷ 0 ∷ 0 ∷ 0 ∷ 0 ∷ 0 ∷ 0 ∷ 0 ∷ 1 ∷ 0 ∷ 0 ∷ 0 ∷ 0 ∷ 0 ∷ 0 ∷
    0 ∷ 0 ∷ 0 ∷ 0 ∷ 1 ∷ 0 ∷ 1 ∷ 65535 ∷ 0 ∷ 0 ∷ 0 ∷ 0 ∷ 2 ∷ 1 ∷ 6 ∷ 2 ∷ 5 ∷ 65535 ∷ 6 ∷ 2 ∷ 4294967295 ∷ 65535 ∷ []

abbrev names_051 : List ℕ
names_051 = joined (slot_of (115 ∷ []) ∷ slot_of (101 ∷ []) ∷ slot_of (120 ∷ []) ∷ [])

example_051 : alike (played numbers_051 names_051 (clocks 5 ∷ clocks 18446744073709551615 ∷ starts 200 ∷ [])) ((0 ∷
    []) ∷ (11 ∷ 0 ∷ []) ∷ [] ∷ [] ∷ [] ∷ [] ∷ [] ∷ (0 ∷ []) ∷ (0 ∷ []) ∷ (11 ∷ 0 ∷ []) ∷ [] ∷ [] ∷ [] ∷ [] ∷ [] ∷ (0 ∷
    []) ∷ (0 ∷ []) ∷ (0 ∷ 0 ∷ []) ∷ (196609 ∷ []) ∷ (1 ∷ []) ∷ [] ∷ [] ∷ [] ∷ (1 ∷ []) ∷ (0 ∷ []) ∷ []) ≡ true
unfolding everything joined history_shown queue_shown pending_shown shown played_if played alike
example_051 = refl
