-- One chart for each way to come near to breaking a rule without breaking it. Written by second/ and compared, never edited by hand.
use Rattle.std.specs.Prelude.{◌≡◌, refl, Bool, true, false, List, [], ◌∷◌, ◌++◌, ℕ}
use Rattle.definition.specs.Rows.{same}
use Rattle.definition.specs.declared.Mode.{Mode}
use Rattle.definition.specs.declared.Mode.TheVariants.{Running, Closing, Ended}
use Rattle.definition.specs.Tables.{slot_of}
use Rattle.follower.specs.Follower.{Follower}
use Rattle.follower.specs.Clock.{Timer, Clock}
use Rattle.follower.specs.Calls.{starts, posts, clocks, runs}
use Rattle.follower.specs.Open.{everything}
use Rattle.examples.specs.Play.{joined, history_shown, queue_shown, pending_shown, shown, played_if, played, judged, counts_kept, compiled_sets, opens, fits, timer, record_fits, alike}

-- eventless to itself, in itself
abbrev numbers_001 : List ℕ
numbers_001 = 2 ∷ 2 ∷ 2 ∷ 2 ∷ 2 ∷ 3 ∷ 0 ∷ 65535 ∷ 65535 ∷ 0 ∷ 0 ∷ 0 ∷ 0 ∷ 0 ∷ 0 ∷ 0 ∷ 0 ∷ 1 ∷ 0 ∷ 0 ∷ 0 ∷ 0 ∷ 0 ∷ 0 ∷
    0 ∷ 0 ∷ 0 ∷ 0 ∷ 1 ∷ 0 ∷ 2 ∷ 65535 ∷ 0 ∷ 0 ∷ 1 ∷ 0 ∷ 2 ∷ 1 ∷ 0 ∷ 0 ∷ 1 ∷ 0 ∷ 1 ∷ 1 ∷ 0 ∷ 0 ∷ 1 ∷ 1 ∷ 1 ∷ 2 ∷ 0 ∷ 1 ∷
    0 ∷ 0 ∷ 1 ∷ 1 ∷ 0 ∷ 0 ∷ []

abbrev names_001 : List ℕ
names_001 = joined (slot_of (115 ∷ []) ∷ slot_of (101 ∷ []) ∷ slot_of (42 ∷ []) ∷ [])

example_001 : alike (played numbers_001 names_001 (starts 200 ∷ posts (115 ∷ []) ∷ runs 2 200 ∷ [])) ((0 ∷ []) ∷ (0 ∷
    0 ∷ []) ∷ (196609 ∷ []) ∷ (1 ∷ []) ∷ [] ∷ [] ∷ [] ∷ (1 ∷ []) ∷ (0 ∷ []) ∷ (0 ∷ 0 ∷ []) ∷ [] ∷ (1 ∷ []) ∷ [] ∷ [] ∷
    (1 ∷ 115 ∷ []) ∷ (1 ∷ []) ∷ (0 ∷ []) ∷ (100 ∷ 2 ∷ []) ∷ (65537 ∷ 131073 ∷ 458753 ∷ 196609 ∷ 65537 ∷ 131073 ∷
    458753 ∷ 196609 ∷ []) ∷ (1 ∷ []) ∷ [] ∷ [] ∷ (1 ∷ 115 ∷ []) ∷ (1 ∷ []) ∷ (0 ∷ []) ∷ []) ≡ true
unfolding everything joined history_shown queue_shown pending_shown shown played_if played alike
example_001 = refl

-- eventless to itself, in another row
abbrev numbers_002 : List ℕ
numbers_002 = 3 ∷ 2 ∷ 2 ∷ 1 ∷ 0 ∷ 3 ∷ 0 ∷ 65535 ∷ 65535 ∷ 0 ∷ 0 ∷ 0 ∷ 0 ∷ 0 ∷ 0 ∷ 0 ∷ 0 ∷ 1 ∷ 0 ∷ 0 ∷ 0 ∷ 0 ∷ 0 ∷ 0 ∷
    0 ∷ 0 ∷ 0 ∷ 0 ∷ 3 ∷ 0 ∷ 1 ∷ 0 ∷ 0 ∷ 0 ∷ 0 ∷ 0 ∷ 0 ∷ 0 ∷ 0 ∷ 1 ∷ 0 ∷ 1 ∷ 65535 ∷ 0 ∷ 0 ∷ 1 ∷ 0 ∷ 0 ∷ 1 ∷ 0 ∷ 0 ∷ 2 ∷
    0 ∷ 1 ∷ 1 ∷ 0 ∷ 0 ∷ 2 ∷ 1 ∷ 2 ∷ []

abbrev names_002 : List ℕ
names_002 = joined (slot_of (115 ∷ []) ∷ slot_of (102 ∷ []) ∷ slot_of (101 ∷ []) ∷ [])

example_002 : alike (played numbers_002 names_002 (starts 200 ∷ posts (115 ∷ []) ∷ runs 2 200 ∷ [])) ((0 ∷ []) ∷ (0 ∷
    0 ∷ []) ∷ (196609 ∷ []) ∷ (1 ∷ []) ∷ [] ∷ [] ∷ [] ∷ (1 ∷ []) ∷ (0 ∷ []) ∷ (0 ∷ 0 ∷ []) ∷ [] ∷ (1 ∷ []) ∷ [] ∷ [] ∷
    (1 ∷ 115 ∷ []) ∷ (1 ∷ []) ∷ (0 ∷ []) ∷ (101 ∷ 1 ∷ []) ∷ [] ∷ (1 ∷ []) ∷ [] ∷ [] ∷ [] ∷ (1 ∷ []) ∷ (0 ∷ []) ∷
    []) ≡ true
unfolding everything joined history_shown queue_shown pending_shown shown played_if played alike
example_002 = refl

-- eventless to itself and another row, in itself
abbrev numbers_003 : List ℕ
numbers_003 = 4 ∷ 2 ∷ 3 ∷ 1 ∷ 0 ∷ 4 ∷ 0 ∷ 65535 ∷ 65535 ∷ 0 ∷ 0 ∷ 0 ∷ 0 ∷ 0 ∷ 0 ∷ 0 ∷ 0 ∷ 2 ∷ 0 ∷ 0 ∷ 0 ∷ 0 ∷ 0 ∷ 0 ∷
    0 ∷ 0 ∷ 0 ∷ 0 ∷ 1 ∷ 1 ∷ 1 ∷ 0 ∷ 0 ∷ 0 ∷ 0 ∷ 0 ∷ 0 ∷ 0 ∷ 0 ∷ 1 ∷ 1 ∷ 2 ∷ 0 ∷ 0 ∷ 0 ∷ 0 ∷ 0 ∷ 0 ∷ 0 ∷ 0 ∷ 2 ∷ 0 ∷ 1 ∷
    65535 ∷ 0 ∷ 0 ∷ 1 ∷ 0 ∷ 0 ∷ 3 ∷ 0 ∷ 0 ∷ 3 ∷ 0 ∷ 1 ∷ 2 ∷ 0 ∷ 0 ∷ 3 ∷ 3 ∷ 2 ∷ 3 ∷ []

abbrev names_003 : List ℕ
names_003 = joined (slot_of (112 ∷ []) ∷ slot_of (97 ∷ []) ∷ slot_of (98 ∷ []) ∷ slot_of (101 ∷ []) ∷ [])

example_003 : alike (played numbers_003 names_003 (starts 200 ∷ posts (115 ∷ []) ∷ runs 2 200 ∷ [])) ((0 ∷ []) ∷ (0 ∷
    0 ∷ []) ∷ (196609 ∷ 196610 ∷ 196611 ∷ []) ∷ (1 ∷ 2 ∷ 3 ∷ []) ∷ [] ∷ [] ∷ [] ∷ (1 ∷ []) ∷ (0 ∷ []) ∷ (0 ∷ 0 ∷ []) ∷
    [] ∷ (1 ∷ 2 ∷ 3 ∷ []) ∷ [] ∷ [] ∷ (1 ∷ 115 ∷ []) ∷ (1 ∷ []) ∷ (0 ∷ []) ∷ (100 ∷ 2 ∷ []) ∷ (65539 ∷ 65538 ∷ 65537 ∷
    131073 ∷ 458755 ∷ 196609 ∷ 196610 ∷ 196611 ∷ 65539 ∷ 65538 ∷ 65537 ∷ 131073 ∷ 458755 ∷ 196609 ∷ 196610 ∷ 196611 ∷
    []) ∷ (1 ∷ 2 ∷ 3 ∷ []) ∷ [] ∷ [] ∷ (1 ∷ 115 ∷ []) ∷ (1 ∷ []) ∷ (0 ∷ []) ∷ []) ≡ true
unfolding everything joined history_shown queue_shown pending_shown shown played_if played alike
example_003 = refl

-- an event and no targets
abbrev numbers_004 : List ℕ
numbers_004 = 2 ∷ 2 ∷ 1 ∷ 3 ∷ 2 ∷ 3 ∷ 0 ∷ 65535 ∷ 65535 ∷ 0 ∷ 0 ∷ 0 ∷ 0 ∷ 0 ∷ 0 ∷ 0 ∷ 0 ∷ 1 ∷ 0 ∷ 0 ∷ 0 ∷ 0 ∷ 0 ∷ 0 ∷
    0 ∷ 0 ∷ 0 ∷ 0 ∷ 1 ∷ 0 ∷ 2 ∷ 65535 ∷ 0 ∷ 0 ∷ 1 ∷ 0 ∷ 2 ∷ 1 ∷ 2 ∷ 1 ∷ 65535 ∷ 0 ∷ 0 ∷ 0 ∷ 0 ∷ 0 ∷ 1 ∷ 1 ∷ 2 ∷ 0 ∷ 0 ∷
    1 ∷ 0 ∷ 0 ∷ 1 ∷ 1 ∷ 0 ∷ 0 ∷ []

abbrev names_004 : List ℕ
names_004 = joined (slot_of (115 ∷ []) ∷ slot_of (101 ∷ []) ∷ slot_of (42 ∷ []) ∷ [])

example_004 : alike (played numbers_004 names_004 (starts 200 ∷ posts (115 ∷ []) ∷ runs 2 200 ∷ [])) ((0 ∷ []) ∷ (0 ∷
    0 ∷ []) ∷ (196609 ∷ []) ∷ (1 ∷ []) ∷ [] ∷ [] ∷ [] ∷ (1 ∷ []) ∷ (0 ∷ []) ∷ (0 ∷ 0 ∷ []) ∷ [] ∷ (1 ∷ []) ∷ [] ∷ [] ∷
    (1 ∷ 115 ∷ []) ∷ (1 ∷ []) ∷ (0 ∷ []) ∷ (100 ∷ 2 ∷ []) ∷ (65537 ∷ 131072 ∷ 458753 ∷ 327681 ∷ 262145 ∷ 196609 ∷
    65537 ∷ 131072 ∷ 458753 ∷ 327681 ∷ 262145 ∷ 196609 ∷ []) ∷ (1 ∷ []) ∷ [] ∷ (1 ∷ 101 ∷ []) ∷ [] ∷ (1 ∷ []) ∷ (0 ∷
    []) ∷ []) ≡ true
unfolding everything joined history_shown queue_shown pending_shown shown played_if played alike
example_004 = refl

-- an event, to itself
abbrev numbers_005 : List ℕ
numbers_005 = 2 ∷ 2 ∷ 2 ∷ 3 ∷ 2 ∷ 3 ∷ 0 ∷ 65535 ∷ 65535 ∷ 0 ∷ 0 ∷ 0 ∷ 0 ∷ 0 ∷ 0 ∷ 0 ∷ 0 ∷ 1 ∷ 0 ∷ 0 ∷ 0 ∷ 0 ∷ 0 ∷ 0 ∷
    0 ∷ 0 ∷ 0 ∷ 0 ∷ 1 ∷ 0 ∷ 2 ∷ 65535 ∷ 0 ∷ 0 ∷ 1 ∷ 0 ∷ 2 ∷ 1 ∷ 2 ∷ 1 ∷ 65535 ∷ 0 ∷ 1 ∷ 1 ∷ 0 ∷ 0 ∷ 1 ∷ 1 ∷ 1 ∷ 2 ∷ 0 ∷
    0 ∷ 1 ∷ 0 ∷ 0 ∷ 1 ∷ 1 ∷ 0 ∷ 0 ∷ []

abbrev names_005 : List ℕ
names_005 = joined (slot_of (115 ∷ []) ∷ slot_of (101 ∷ []) ∷ slot_of (42 ∷ []) ∷ [])

example_005 : alike (played numbers_005 names_005 (starts 200 ∷ posts (115 ∷ []) ∷ runs 2 200 ∷ [])) ((0 ∷ []) ∷ (0 ∷
    0 ∷ []) ∷ (196609 ∷ []) ∷ (1 ∷ []) ∷ [] ∷ [] ∷ [] ∷ (1 ∷ []) ∷ (0 ∷ []) ∷ (0 ∷ 0 ∷ []) ∷ [] ∷ (1 ∷ []) ∷ [] ∷ [] ∷
    (1 ∷ 115 ∷ []) ∷ (1 ∷ []) ∷ (0 ∷ []) ∷ (100 ∷ 2 ∷ []) ∷ (65537 ∷ 131072 ∷ 458753 ∷ 327681 ∷ 262145 ∷ 196609 ∷
    65537 ∷ 131072 ∷ 458753 ∷ 327681 ∷ 262145 ∷ 196609 ∷ []) ∷ (1 ∷ []) ∷ [] ∷ (1 ∷ 101 ∷ []) ∷ [] ∷ (1 ∷ []) ∷ (0 ∷
    []) ∷ []) ≡ true
unfolding everything joined history_shown queue_shown pending_shown shown played_if played alike
example_005 = refl

-- an event, to itself, internal
abbrev numbers_006 : List ℕ
numbers_006 = 2 ∷ 2 ∷ 2 ∷ 3 ∷ 2 ∷ 3 ∷ 0 ∷ 65535 ∷ 65535 ∷ 0 ∷ 0 ∷ 0 ∷ 0 ∷ 0 ∷ 0 ∷ 0 ∷ 0 ∷ 1 ∷ 0 ∷ 0 ∷ 0 ∷ 0 ∷ 0 ∷ 0 ∷
    0 ∷ 0 ∷ 0 ∷ 0 ∷ 1 ∷ 0 ∷ 2 ∷ 65535 ∷ 0 ∷ 0 ∷ 1 ∷ 0 ∷ 2 ∷ 1 ∷ 2 ∷ 1 ∷ 65535 ∷ 1 ∷ 1 ∷ 1 ∷ 0 ∷ 0 ∷ 1 ∷ 1 ∷ 1 ∷ 2 ∷ 0 ∷
    0 ∷ 1 ∷ 0 ∷ 0 ∷ 1 ∷ 1 ∷ 0 ∷ 0 ∷ []

abbrev names_006 : List ℕ
names_006 = joined (slot_of (115 ∷ []) ∷ slot_of (101 ∷ []) ∷ slot_of (42 ∷ []) ∷ [])

example_006 : alike (played numbers_006 names_006 (starts 200 ∷ posts (115 ∷ []) ∷ runs 2 200 ∷ [])) ((0 ∷ []) ∷ (0 ∷
    0 ∷ []) ∷ (196609 ∷ []) ∷ (1 ∷ []) ∷ [] ∷ [] ∷ [] ∷ (1 ∷ []) ∷ (0 ∷ []) ∷ (0 ∷ 0 ∷ []) ∷ [] ∷ (1 ∷ []) ∷ [] ∷ [] ∷
    (1 ∷ 115 ∷ []) ∷ (1 ∷ []) ∷ (0 ∷ []) ∷ (100 ∷ 2 ∷ []) ∷ (65537 ∷ 131072 ∷ 458753 ∷ 327681 ∷ 262145 ∷ 196609 ∷
    65537 ∷ 131072 ∷ 458753 ∷ 327681 ∷ 262145 ∷ 196609 ∷ []) ∷ (1 ∷ []) ∷ [] ∷ (1 ∷ 101 ∷ []) ∷ [] ∷ (1 ∷ []) ∷ (0 ∷
    []) ∷ []) ≡ true
unfolding everything joined history_shown queue_shown pending_shown shown played_if played alike
example_006 = refl

-- eventless to its parent
abbrev numbers_007 : List ℕ
numbers_007 = 4 ∷ 3 ∷ 3 ∷ 2 ∷ 0 ∷ 4 ∷ 0 ∷ 65535 ∷ 65535 ∷ 0 ∷ 0 ∷ 0 ∷ 0 ∷ 0 ∷ 0 ∷ 0 ∷ 0 ∷ 1 ∷ 0 ∷ 0 ∷ 0 ∷ 0 ∷ 0 ∷ 0 ∷
    0 ∷ 0 ∷ 0 ∷ 0 ∷ 1 ∷ 1 ∷ 1 ∷ 0 ∷ 0 ∷ 0 ∷ 0 ∷ 0 ∷ 0 ∷ 0 ∷ 0 ∷ 1 ∷ 1 ∷ 2 ∷ 0 ∷ 0 ∷ 0 ∷ 0 ∷ 0 ∷ 0 ∷ 0 ∷ 0 ∷ 1 ∷ 0 ∷ 1 ∷
    65535 ∷ 0 ∷ 0 ∷ 1 ∷ 0 ∷ 0 ∷ 2 ∷ 1 ∷ 1 ∷ 65535 ∷ 0 ∷ 1 ∷ 1 ∷ 0 ∷ 0 ∷ 3 ∷ 0 ∷ 0 ∷ 65535 ∷ 0 ∷ 2 ∷ 1 ∷ 0 ∷ 0 ∷ 3 ∷ 3 ∷
    1 ∷ 3 ∷ 3 ∷ []

abbrev names_007 : List ℕ
names_007 = joined (slot_of (115 ∷ []) ∷ slot_of (97 ∷ []) ∷ slot_of (98 ∷ []) ∷ slot_of (101 ∷ []) ∷ [])

example_007 : alike (played numbers_007 names_007 (starts 200 ∷ posts (115 ∷ []) ∷ runs 2 200 ∷ [])) ((0 ∷ []) ∷ (0 ∷
    0 ∷ []) ∷ (196609 ∷ 196610 ∷ []) ∷ (1 ∷ 2 ∷ []) ∷ [] ∷ [] ∷ [] ∷ (1 ∷ []) ∷ (0 ∷ []) ∷ (0 ∷ 0 ∷ []) ∷ [] ∷ (1 ∷ 2 ∷
    []) ∷ [] ∷ [] ∷ (1 ∷ 115 ∷ []) ∷ (1 ∷ []) ∷ (0 ∷ []) ∷ (101 ∷ 1 ∷ []) ∷ [] ∷ (1 ∷ 2 ∷ []) ∷ [] ∷ [] ∷ [] ∷ (1 ∷
    []) ∷ (0 ∷ []) ∷ []) ≡ true
unfolding everything joined history_shown queue_shown pending_shown shown played_if played alike
example_007 = refl

-- eventless to a history of itself
abbrev numbers_008 : List ℕ
numbers_008 = 6 ∷ 1 ∷ 3 ∷ 0 ∷ 0 ∷ 6 ∷ 0 ∷ 65535 ∷ 65535 ∷ 0 ∷ 0 ∷ 0 ∷ 0 ∷ 0 ∷ 0 ∷ 0 ∷ 0 ∷ 1 ∷ 0 ∷ 0 ∷ 0 ∷ 0 ∷ 0 ∷ 0 ∷
    0 ∷ 0 ∷ 0 ∷ 0 ∷ 1 ∷ 1 ∷ 1 ∷ 0 ∷ 0 ∷ 0 ∷ 0 ∷ 0 ∷ 0 ∷ 0 ∷ 0 ∷ 1 ∷ 1 ∷ 2 ∷ 0 ∷ 0 ∷ 0 ∷ 0 ∷ 0 ∷ 0 ∷ 0 ∷ 0 ∷ 4 ∷ 1 ∷ 3 ∷
    0 ∷ 0 ∷ 0 ∷ 0 ∷ 0 ∷ 1 ∷ 0 ∷ 0 ∷ 5 ∷ 1 ∷ 4 ∷ 0 ∷ 0 ∷ 0 ∷ 0 ∷ 1 ∷ 1 ∷ 0 ∷ 0 ∷ 1 ∷ 0 ∷ 0 ∷ 65535 ∷ 0 ∷ 2 ∷ 1 ∷ 0 ∷ 0 ∷
    2 ∷ 3 ∷ 4 ∷ []

abbrev names_008 : List ℕ
names_008 = joined (slot_of (115 ∷ []) ∷ slot_of (97 ∷ []) ∷ slot_of (98 ∷ []) ∷ slot_of (104 ∷ []) ∷ slot_of (100 ∷
    []) ∷ slot_of (101 ∷ []) ∷ [])

example_008 : alike (played numbers_008 names_008 (starts 200 ∷ posts (115 ∷ []) ∷ runs 2 200 ∷ [])) ((0 ∷ []) ∷ (0 ∷
    0 ∷ []) ∷ (196609 ∷ 196610 ∷ []) ∷ (1 ∷ 2 ∷ []) ∷ [] ∷ [] ∷ [] ∷ (1 ∷ []) ∷ (0 ∷ []) ∷ (0 ∷ 0 ∷ []) ∷ [] ∷ (1 ∷ 2 ∷
    []) ∷ [] ∷ [] ∷ (1 ∷ 115 ∷ []) ∷ (1 ∷ []) ∷ (0 ∷ []) ∷ (100 ∷ 2 ∷ []) ∷ (65538 ∷ 65537 ∷ 131072 ∷ 458754 ∷ 196609 ∷
    196610 ∷ 65538 ∷ 65537 ∷ 131072 ∷ 458754 ∷ 196609 ∷ 196610 ∷ []) ∷ (1 ∷ 2 ∷ []) ∷ (4 ∷ 1 ∷ 2 ∷ 5 ∷ 1 ∷ 2 ∷ []) ∷
    [] ∷ (1 ∷ 115 ∷ []) ∷ (1 ∷ []) ∷ (0 ∷ []) ∷ []) ≡ true
unfolding everything joined history_shown queue_shown pending_shown shown played_if played alike
example_008 = refl

-- eventless to its child
abbrev numbers_009 : List ℕ
numbers_009 = 4 ∷ 2 ∷ 2 ∷ 1 ∷ 0 ∷ 4 ∷ 0 ∷ 65535 ∷ 65535 ∷ 0 ∷ 0 ∷ 0 ∷ 0 ∷ 0 ∷ 0 ∷ 0 ∷ 0 ∷ 1 ∷ 0 ∷ 0 ∷ 0 ∷ 0 ∷ 0 ∷ 0 ∷
    0 ∷ 0 ∷ 0 ∷ 0 ∷ 1 ∷ 1 ∷ 1 ∷ 0 ∷ 0 ∷ 0 ∷ 0 ∷ 0 ∷ 0 ∷ 0 ∷ 0 ∷ 1 ∷ 1 ∷ 2 ∷ 0 ∷ 0 ∷ 0 ∷ 0 ∷ 0 ∷ 0 ∷ 0 ∷ 0 ∷ 1 ∷ 0 ∷ 1 ∷
    65535 ∷ 0 ∷ 0 ∷ 1 ∷ 0 ∷ 0 ∷ 1 ∷ 0 ∷ 0 ∷ 65535 ∷ 0 ∷ 1 ∷ 1 ∷ 0 ∷ 0 ∷ 3 ∷ 2 ∷ 3 ∷ []

abbrev names_009 : List ℕ
names_009 = joined (slot_of (115 ∷ []) ∷ slot_of (97 ∷ []) ∷ slot_of (98 ∷ []) ∷ slot_of (101 ∷ []) ∷ [])

example_009 : alike (played numbers_009 names_009 (starts 200 ∷ posts (115 ∷ []) ∷ runs 2 200 ∷ [])) ((0 ∷ []) ∷ (0 ∷
    0 ∷ []) ∷ (196609 ∷ 196610 ∷ []) ∷ (1 ∷ 2 ∷ []) ∷ [] ∷ [] ∷ [] ∷ (1 ∷ []) ∷ (0 ∷ []) ∷ (0 ∷ 0 ∷ []) ∷ [] ∷ (1 ∷ 2 ∷
    []) ∷ [] ∷ [] ∷ (1 ∷ 115 ∷ []) ∷ (1 ∷ []) ∷ (0 ∷ []) ∷ (100 ∷ 2 ∷ []) ∷ (65538 ∷ 65537 ∷ 131073 ∷ 458754 ∷ 196609 ∷
    196610 ∷ 65538 ∷ 65537 ∷ 131073 ∷ 458754 ∷ 196609 ∷ 196610 ∷ []) ∷ (1 ∷ 2 ∷ []) ∷ [] ∷ [] ∷ (1 ∷ 115 ∷ []) ∷ (1 ∷
    []) ∷ (0 ∷ []) ∷ []) ≡ true
unfolding everything joined history_shown queue_shown pending_shown shown played_if played alike
example_009 = refl

-- eventless to its child, internal
abbrev numbers_010 : List ℕ
numbers_010 = 4 ∷ 2 ∷ 2 ∷ 1 ∷ 0 ∷ 4 ∷ 0 ∷ 65535 ∷ 65535 ∷ 0 ∷ 0 ∷ 0 ∷ 0 ∷ 0 ∷ 0 ∷ 0 ∷ 0 ∷ 1 ∷ 0 ∷ 0 ∷ 0 ∷ 0 ∷ 0 ∷ 0 ∷
    0 ∷ 0 ∷ 0 ∷ 0 ∷ 1 ∷ 1 ∷ 1 ∷ 0 ∷ 0 ∷ 0 ∷ 0 ∷ 0 ∷ 0 ∷ 0 ∷ 0 ∷ 1 ∷ 1 ∷ 2 ∷ 0 ∷ 0 ∷ 0 ∷ 0 ∷ 0 ∷ 0 ∷ 0 ∷ 0 ∷ 1 ∷ 0 ∷ 1 ∷
    65535 ∷ 0 ∷ 0 ∷ 1 ∷ 0 ∷ 0 ∷ 1 ∷ 0 ∷ 0 ∷ 65535 ∷ 1 ∷ 1 ∷ 1 ∷ 0 ∷ 0 ∷ 3 ∷ 2 ∷ 3 ∷ []

abbrev names_010 : List ℕ
names_010 = joined (slot_of (115 ∷ []) ∷ slot_of (97 ∷ []) ∷ slot_of (98 ∷ []) ∷ slot_of (101 ∷ []) ∷ [])

example_010 : alike (played numbers_010 names_010 (starts 200 ∷ posts (115 ∷ []) ∷ runs 2 200 ∷ [])) ((0 ∷ []) ∷ (0 ∷
    0 ∷ []) ∷ (196609 ∷ 196610 ∷ []) ∷ (1 ∷ 2 ∷ []) ∷ [] ∷ [] ∷ [] ∷ (1 ∷ []) ∷ (0 ∷ []) ∷ (0 ∷ 0 ∷ []) ∷ [] ∷ (1 ∷ 2 ∷
    []) ∷ [] ∷ [] ∷ (1 ∷ 115 ∷ []) ∷ (1 ∷ []) ∷ (0 ∷ []) ∷ (100 ∷ 2 ∷ []) ∷ (65538 ∷ 131073 ∷ 458754 ∷ 196610 ∷ 65538 ∷
    131073 ∷ 458754 ∷ 196610 ∷ []) ∷ (1 ∷ 2 ∷ []) ∷ [] ∷ [] ∷ (1 ∷ 115 ∷ []) ∷ (1 ∷ []) ∷ (0 ∷ []) ∷ []) ≡ true
unfolding everything joined history_shown queue_shown pending_shown shown played_if played alike
example_010 = refl

-- two that lead to each other
abbrev numbers_011 : List ℕ
numbers_011 = 4 ∷ 4 ∷ 4 ∷ 2 ∷ 0 ∷ 4 ∷ 0 ∷ 65535 ∷ 65535 ∷ 0 ∷ 0 ∷ 0 ∷ 0 ∷ 0 ∷ 0 ∷ 0 ∷ 0 ∷ 1 ∷ 0 ∷ 0 ∷ 0 ∷ 0 ∷ 0 ∷ 0 ∷
    0 ∷ 0 ∷ 0 ∷ 0 ∷ 1 ∷ 1 ∷ 1 ∷ 0 ∷ 0 ∷ 0 ∷ 0 ∷ 0 ∷ 0 ∷ 0 ∷ 0 ∷ 1 ∷ 1 ∷ 2 ∷ 0 ∷ 0 ∷ 0 ∷ 0 ∷ 0 ∷ 0 ∷ 0 ∷ 0 ∷ 1 ∷ 0 ∷ 1 ∷
    65535 ∷ 0 ∷ 0 ∷ 1 ∷ 0 ∷ 0 ∷ 2 ∷ 1 ∷ 1 ∷ 65535 ∷ 0 ∷ 1 ∷ 1 ∷ 0 ∷ 0 ∷ 2 ∷ 0 ∷ 0 ∷ 65535 ∷ 0 ∷ 2 ∷ 1 ∷ 0 ∷ 0 ∷ 3 ∷ 0 ∷
    0 ∷ 65535 ∷ 0 ∷ 3 ∷ 1 ∷ 0 ∷ 0 ∷ 3 ∷ 3 ∷ 3 ∷ 2 ∷ 3 ∷ 3 ∷ []

abbrev names_011 : List ℕ
names_011 = joined (slot_of (115 ∷ []) ∷ slot_of (97 ∷ []) ∷ slot_of (98 ∷ []) ∷ slot_of (101 ∷ []) ∷ [])

example_011 : alike (played numbers_011 names_011 (starts 200 ∷ posts (115 ∷ []) ∷ runs 2 200 ∷ [])) ((0 ∷ []) ∷ (0 ∷
    0 ∷ []) ∷ (196609 ∷ 196610 ∷ []) ∷ (1 ∷ 2 ∷ []) ∷ [] ∷ [] ∷ [] ∷ (1 ∷ []) ∷ (0 ∷ []) ∷ (0 ∷ 0 ∷ []) ∷ [] ∷ (1 ∷ 2 ∷
    []) ∷ [] ∷ [] ∷ (1 ∷ 115 ∷ []) ∷ (1 ∷ []) ∷ (0 ∷ []) ∷ (100 ∷ 2 ∷ []) ∷ (65538 ∷ 131074 ∷ 458754 ∷ 196611 ∷ 65539 ∷
    131075 ∷ 458755 ∷ 196610 ∷ []) ∷ (1 ∷ 2 ∷ []) ∷ [] ∷ [] ∷ (1 ∷ 115 ∷ []) ∷ (1 ∷ []) ∷ (0 ∷ []) ∷ []) ≡ true
unfolding everything joined history_shown queue_shown pending_shown shown played_if played alike
example_011 = refl

-- initial list holds its owner's history
abbrev numbers_012 : List ℕ
numbers_012 = 6 ∷ 1 ∷ 4 ∷ 1 ∷ 0 ∷ 6 ∷ 0 ∷ 65535 ∷ 65535 ∷ 0 ∷ 0 ∷ 0 ∷ 0 ∷ 0 ∷ 0 ∷ 0 ∷ 0 ∷ 1 ∷ 0 ∷ 0 ∷ 0 ∷ 0 ∷ 0 ∷ 0 ∷
    0 ∷ 1 ∷ 0 ∷ 0 ∷ 1 ∷ 1 ∷ 1 ∷ 0 ∷ 0 ∷ 0 ∷ 0 ∷ 0 ∷ 0 ∷ 0 ∷ 0 ∷ 1 ∷ 1 ∷ 2 ∷ 0 ∷ 0 ∷ 0 ∷ 0 ∷ 0 ∷ 0 ∷ 0 ∷ 0 ∷ 4 ∷ 1 ∷ 3 ∷
    0 ∷ 0 ∷ 0 ∷ 0 ∷ 1 ∷ 1 ∷ 0 ∷ 0 ∷ 5 ∷ 1 ∷ 4 ∷ 0 ∷ 0 ∷ 0 ∷ 0 ∷ 2 ∷ 1 ∷ 0 ∷ 0 ∷ 2 ∷ 0 ∷ 1 ∷ 65535 ∷ 0 ∷ 3 ∷ 1 ∷ 0 ∷ 0 ∷
    4 ∷ 2 ∷ 3 ∷ 4 ∷ 5 ∷ []

abbrev names_012 : List ℕ
names_012 = joined (slot_of (115 ∷ []) ∷ slot_of (97 ∷ []) ∷ slot_of (98 ∷ []) ∷ slot_of (104 ∷ []) ∷ slot_of (100 ∷
    []) ∷ slot_of (101 ∷ []) ∷ [])

example_012 : alike (played numbers_012 names_012 (starts 200 ∷ posts (115 ∷ []) ∷ runs 2 200 ∷ [])) ((0 ∷ []) ∷ (0 ∷
    0 ∷ []) ∷ (196609 ∷ 196610 ∷ []) ∷ (1 ∷ 2 ∷ []) ∷ [] ∷ [] ∷ [] ∷ (1 ∷ []) ∷ (0 ∷ []) ∷ (0 ∷ 0 ∷ []) ∷ [] ∷ (1 ∷ 2 ∷
    []) ∷ [] ∷ [] ∷ (1 ∷ 115 ∷ []) ∷ (1 ∷ []) ∷ (0 ∷ []) ∷ (101 ∷ 1 ∷ []) ∷ [] ∷ (1 ∷ 2 ∷ []) ∷ [] ∷ [] ∷ [] ∷ (1 ∷
    []) ∷ (0 ∷ []) ∷ []) ≡ true
unfolding everything joined history_shown queue_shown pending_shown shown played_if played alike
example_012 = refl

-- initial list holds its owner's other history
abbrev numbers_013 : List ℕ
numbers_013 = 6 ∷ 1 ∷ 4 ∷ 1 ∷ 0 ∷ 6 ∷ 0 ∷ 65535 ∷ 65535 ∷ 0 ∷ 0 ∷ 0 ∷ 0 ∷ 0 ∷ 0 ∷ 0 ∷ 0 ∷ 1 ∷ 0 ∷ 0 ∷ 0 ∷ 0 ∷ 0 ∷ 0 ∷
    0 ∷ 1 ∷ 0 ∷ 0 ∷ 1 ∷ 1 ∷ 1 ∷ 0 ∷ 0 ∷ 0 ∷ 0 ∷ 0 ∷ 0 ∷ 0 ∷ 0 ∷ 1 ∷ 1 ∷ 2 ∷ 0 ∷ 0 ∷ 0 ∷ 0 ∷ 0 ∷ 0 ∷ 0 ∷ 0 ∷ 4 ∷ 1 ∷ 3 ∷
    0 ∷ 0 ∷ 0 ∷ 0 ∷ 1 ∷ 1 ∷ 0 ∷ 0 ∷ 5 ∷ 1 ∷ 4 ∷ 0 ∷ 0 ∷ 0 ∷ 0 ∷ 2 ∷ 1 ∷ 0 ∷ 0 ∷ 2 ∷ 0 ∷ 1 ∷ 65535 ∷ 0 ∷ 3 ∷ 1 ∷ 0 ∷ 0 ∷
    5 ∷ 2 ∷ 3 ∷ 4 ∷ 5 ∷ []

abbrev names_013 : List ℕ
names_013 = joined (slot_of (115 ∷ []) ∷ slot_of (97 ∷ []) ∷ slot_of (98 ∷ []) ∷ slot_of (104 ∷ []) ∷ slot_of (100 ∷
    []) ∷ slot_of (101 ∷ []) ∷ [])

example_013 : alike (played numbers_013 names_013 (starts 200 ∷ posts (115 ∷ []) ∷ runs 2 200 ∷ [])) ((0 ∷ []) ∷ (0 ∷
    0 ∷ []) ∷ (196609 ∷ 196611 ∷ []) ∷ (1 ∷ 3 ∷ []) ∷ [] ∷ [] ∷ [] ∷ (1 ∷ []) ∷ (0 ∷ []) ∷ (0 ∷ 0 ∷ []) ∷ [] ∷ (1 ∷ 3 ∷
    []) ∷ [] ∷ [] ∷ (1 ∷ 115 ∷ []) ∷ (1 ∷ []) ∷ (0 ∷ []) ∷ (101 ∷ 1 ∷ []) ∷ [] ∷ (1 ∷ 3 ∷ []) ∷ [] ∷ [] ∷ [] ∷ (1 ∷
    []) ∷ (0 ∷ []) ∷ []) ≡ true
unfolding everything joined history_shown queue_shown pending_shown shown played_if played alike
example_013 = refl

-- initial list holds a history of a row below
abbrev numbers_014 : List ℕ
numbers_014 = 6 ∷ 1 ∷ 4 ∷ 1 ∷ 0 ∷ 6 ∷ 0 ∷ 65535 ∷ 65535 ∷ 0 ∷ 0 ∷ 0 ∷ 0 ∷ 0 ∷ 1 ∷ 0 ∷ 0 ∷ 1 ∷ 0 ∷ 0 ∷ 0 ∷ 0 ∷ 0 ∷ 0 ∷
    0 ∷ 0 ∷ 0 ∷ 0 ∷ 1 ∷ 1 ∷ 1 ∷ 0 ∷ 0 ∷ 0 ∷ 0 ∷ 0 ∷ 0 ∷ 0 ∷ 0 ∷ 1 ∷ 1 ∷ 2 ∷ 0 ∷ 0 ∷ 0 ∷ 0 ∷ 0 ∷ 0 ∷ 0 ∷ 0 ∷ 4 ∷ 1 ∷ 3 ∷
    0 ∷ 0 ∷ 0 ∷ 0 ∷ 1 ∷ 1 ∷ 0 ∷ 0 ∷ 5 ∷ 1 ∷ 4 ∷ 0 ∷ 0 ∷ 0 ∷ 0 ∷ 2 ∷ 1 ∷ 0 ∷ 0 ∷ 2 ∷ 0 ∷ 1 ∷ 65535 ∷ 0 ∷ 3 ∷ 1 ∷ 0 ∷ 0 ∷
    4 ∷ 2 ∷ 3 ∷ 4 ∷ 5 ∷ []

abbrev names_014 : List ℕ
names_014 = joined (slot_of (115 ∷ []) ∷ slot_of (97 ∷ []) ∷ slot_of (98 ∷ []) ∷ slot_of (104 ∷ []) ∷ slot_of (100 ∷
    []) ∷ slot_of (101 ∷ []) ∷ [])

example_014 : alike (played numbers_014 names_014 (starts 200 ∷ posts (115 ∷ []) ∷ runs 2 200 ∷ [])) ((0 ∷ []) ∷ (0 ∷
    0 ∷ []) ∷ (196609 ∷ 196610 ∷ []) ∷ (1 ∷ 2 ∷ []) ∷ [] ∷ [] ∷ [] ∷ (1 ∷ []) ∷ (0 ∷ []) ∷ (0 ∷ 0 ∷ []) ∷ [] ∷ (1 ∷ 2 ∷
    []) ∷ [] ∷ [] ∷ (1 ∷ 115 ∷ []) ∷ (1 ∷ []) ∷ (0 ∷ []) ∷ (101 ∷ 1 ∷ []) ∷ [] ∷ (1 ∷ 2 ∷ []) ∷ [] ∷ [] ∷ [] ∷ (1 ∷
    []) ∷ (0 ∷ []) ∷ []) ≡ true
unfolding everything joined history_shown queue_shown pending_shown shown played_if played alike
example_014 = refl

-- initial list of the root holds a history
abbrev numbers_015 : List ℕ
numbers_015 = 6 ∷ 1 ∷ 4 ∷ 1 ∷ 0 ∷ 6 ∷ 0 ∷ 65535 ∷ 65535 ∷ 0 ∷ 0 ∷ 0 ∷ 0 ∷ 0 ∷ 1 ∷ 0 ∷ 0 ∷ 1 ∷ 0 ∷ 0 ∷ 0 ∷ 0 ∷ 0 ∷ 0 ∷
    0 ∷ 0 ∷ 0 ∷ 0 ∷ 1 ∷ 1 ∷ 1 ∷ 0 ∷ 0 ∷ 0 ∷ 0 ∷ 0 ∷ 0 ∷ 0 ∷ 0 ∷ 1 ∷ 1 ∷ 2 ∷ 0 ∷ 0 ∷ 0 ∷ 0 ∷ 0 ∷ 0 ∷ 0 ∷ 0 ∷ 4 ∷ 1 ∷ 3 ∷
    0 ∷ 0 ∷ 0 ∷ 0 ∷ 1 ∷ 1 ∷ 0 ∷ 0 ∷ 5 ∷ 1 ∷ 4 ∷ 0 ∷ 0 ∷ 0 ∷ 0 ∷ 2 ∷ 1 ∷ 0 ∷ 0 ∷ 2 ∷ 0 ∷ 1 ∷ 65535 ∷ 0 ∷ 3 ∷ 1 ∷ 0 ∷ 0 ∷
    4 ∷ 2 ∷ 3 ∷ 4 ∷ 5 ∷ []

abbrev names_015 : List ℕ
names_015 = joined (slot_of (115 ∷ []) ∷ slot_of (97 ∷ []) ∷ slot_of (98 ∷ []) ∷ slot_of (104 ∷ []) ∷ slot_of (100 ∷
    []) ∷ slot_of (101 ∷ []) ∷ [])

example_015 : alike (played numbers_015 names_015 (starts 200 ∷ posts (115 ∷ []) ∷ runs 2 200 ∷ [])) ((0 ∷ []) ∷ (0 ∷
    0 ∷ []) ∷ (196609 ∷ 196610 ∷ []) ∷ (1 ∷ 2 ∷ []) ∷ [] ∷ [] ∷ [] ∷ (1 ∷ []) ∷ (0 ∷ []) ∷ (0 ∷ 0 ∷ []) ∷ [] ∷ (1 ∷ 2 ∷
    []) ∷ [] ∷ [] ∷ (1 ∷ 115 ∷ []) ∷ (1 ∷ []) ∷ (0 ∷ []) ∷ (101 ∷ 1 ∷ []) ∷ [] ∷ (1 ∷ 2 ∷ []) ∷ [] ∷ [] ∷ [] ∷ (1 ∷
    []) ∷ (0 ∷ []) ∷ []) ≡ true
unfolding everything joined history_shown queue_shown pending_shown shown played_if played alike
example_015 = refl

-- initial list holds a history and a row of another region
abbrev numbers_016 : List ℕ
numbers_016 = 20 ∷ 7 ∷ 17 ∷ 7 ∷ 6 ∷ 24 ∷ 0 ∷ 65535 ∷ 65535 ∷ 0 ∷ 0 ∷ 0 ∷ 0 ∷ 0 ∷ 2 ∷ 0 ∷ 0 ∷ 2 ∷ 0 ∷ 0 ∷ 0 ∷ 0 ∷ 0 ∷
    0 ∷ 0 ∷ 0 ∷ 0 ∷ 0 ∷ 1 ∷ 1 ∷ 1 ∷ 0 ∷ 0 ∷ 0 ∷ 0 ∷ 2 ∷ 1 ∷ 0 ∷ 1 ∷ 1 ∷ 2 ∷ 2 ∷ 0 ∷ 0 ∷ 0 ∷ 0 ∷ 0 ∷ 0 ∷ 0 ∷ 0 ∷ 1 ∷ 2 ∷
    3 ∷ 0 ∷ 0 ∷ 0 ∷ 0 ∷ 0 ∷ 0 ∷ 0 ∷ 0 ∷ 3 ∷ 2 ∷ 4 ∷ 0 ∷ 0 ∷ 0 ∷ 0 ∷ 0 ∷ 0 ∷ 0 ∷ 0 ∷ 4 ∷ 2 ∷ 5 ∷ 0 ∷ 0 ∷ 0 ∷ 0 ∷ 3 ∷ 1 ∷
    1 ∷ 1 ∷ 1 ∷ 1 ∷ 6 ∷ 0 ∷ 0 ∷ 0 ∷ 0 ∷ 0 ∷ 0 ∷ 0 ∷ 0 ∷ 2 ∷ 7 ∷ 7 ∷ 0 ∷ 0 ∷ 0 ∷ 0 ∷ 0 ∷ 0 ∷ 0 ∷ 0 ∷ 1 ∷ 8 ∷ 8 ∷ 0 ∷ 0 ∷
    0 ∷ 0 ∷ 0 ∷ 0 ∷ 0 ∷ 0 ∷ 1 ∷ 9 ∷ 9 ∷ 0 ∷ 0 ∷ 0 ∷ 0 ∷ 0 ∷ 0 ∷ 0 ∷ 0 ∷ 1 ∷ 8 ∷ 10 ∷ 0 ∷ 0 ∷ 0 ∷ 0 ∷ 0 ∷ 0 ∷ 0 ∷ 0 ∷
    5 ∷ 7 ∷ 11 ∷ 0 ∷ 0 ∷ 0 ∷ 0 ∷ 4 ∷ 2 ∷ 0 ∷ 0 ∷ 5 ∷ 7 ∷ 12 ∷ 0 ∷ 0 ∷ 0 ∷ 0 ∷ 6 ∷ 1 ∷ 0 ∷ 0 ∷ 4 ∷ 1 ∷ 13 ∷ 0 ∷ 0 ∷ 0 ∷
    0 ∷ 7 ∷ 2 ∷ 0 ∷ 0 ∷ 1 ∷ 0 ∷ 14 ∷ 2 ∷ 2 ∷ 0 ∷ 0 ∷ 0 ∷ 0 ∷ 0 ∷ 0 ∷ 1 ∷ 0 ∷ 15 ∷ 0 ∷ 0 ∷ 0 ∷ 0 ∷ 0 ∷ 0 ∷ 0 ∷ 0 ∷ 1 ∷
    16 ∷ 16 ∷ 0 ∷ 0 ∷ 4 ∷ 1 ∷ 0 ∷ 0 ∷ 0 ∷ 0 ∷ 3 ∷ 16 ∷ 17 ∷ 0 ∷ 0 ∷ 0 ∷ 0 ∷ 0 ∷ 0 ∷ 0 ∷ 0 ∷ 3 ∷ 0 ∷ 18 ∷ 0 ∷ 0 ∷ 0 ∷
    0 ∷ 0 ∷ 0 ∷ 0 ∷ 0 ∷ 1 ∷ 0 ∷ 1 ∷ 65535 ∷ 0 ∷ 9 ∷ 1 ∷ 0 ∷ 0 ∷ 3 ∷ 1 ∷ 2 ∷ 65535 ∷ 0 ∷ 10 ∷ 1 ∷ 5 ∷ 1 ∷ 4 ∷ 3 ∷ 1 ∷
    65535 ∷ 0 ∷ 11 ∷ 1 ∷ 0 ∷ 0 ∷ 15 ∷ 4 ∷ 1 ∷ 65535 ∷ 0 ∷ 12 ∷ 2 ∷ 0 ∷ 0 ∷ 15 ∷ 5 ∷ 1 ∷ 15 ∷ 0 ∷ 14 ∷ 1 ∷ 0 ∷ 0 ∷ 16 ∷
    0 ∷ 0 ∷ 17 ∷ 1 ∷ 15 ∷ 1 ∷ 0 ∷ 0 ∷ 17 ∷ 6 ∷ 1 ∷ 65535 ∷ 0 ∷ 16 ∷ 1 ∷ 0 ∷ 0 ∷ 7 ∷ 6 ∷ 4 ∷ 3 ∷ 10 ∷ 11 ∷ 8 ∷ 2 ∷ 7 ∷
    16 ∷ 4 ∷ 5 ∷ 6 ∷ 12 ∷ 1 ∷ 18 ∷ 19 ∷ 20 ∷ 19 ∷ 21 ∷ 19 ∷ 22 ∷ 23 ∷ 19 ∷ 1 ∷ 1 ∷ 0 ∷ 0 ∷ 0 ∷ 19 ∷ 0 ∷ 0 ∷ 0 ∷ 19 ∷
    0 ∷ 0 ∷ 1 ∷ 65535 ∷ 0 ∷ 0 ∷ 1 ∷ 0 ∷ 0 ∷ 0 ∷ 0 ∷ 18 ∷ 0 ∷ 0 ∷ []

abbrev names_016 : List ℕ
names_016 = joined (slot_of (112 ∷ []) ∷ slot_of (97 ∷ []) ∷ slot_of (97 ∷ 49 ∷ []) ∷ slot_of (97 ∷ 50 ∷ []) ∷
    slot_of (97 ∷ 102 ∷ []) ∷ slot_of (104 ∷ 97 ∷ []) ∷ slot_of (98 ∷ []) ∷ slot_of (113 ∷ []) ∷ slot_of (113 ∷ 49 ∷
    []) ∷ slot_of (113 ∷ 49 ∷ 97 ∷ []) ∷ slot_of (113 ∷ 50 ∷ []) ∷ slot_of (104 ∷ 98 ∷ []) ∷ slot_of (104 ∷ 99 ∷ []) ∷
    slot_of (104 ∷ 112 ∷ []) ∷ slot_of (115 ∷ []) ∷ slot_of (99 ∷ []) ∷ slot_of (99 ∷ 49 ∷ []) ∷ slot_of (99 ∷ 102 ∷
    []) ∷ slot_of (102 ∷ []) ∷ slot_of (101 ∷ []) ∷ slot_of (100 ∷ 111 ∷ 110 ∷ 101 ∷ 46 ∷ 115 ∷ 116 ∷ 97 ∷ 116 ∷ 101 ∷
    46 ∷ 112 ∷ []) ∷ slot_of (102 ∷ 46 ∷ 42 ∷ []) ∷ slot_of (103 ∷ []) ∷ slot_of (42 ∷ []) ∷ [])

example_016 : alike (played numbers_016 names_016 (starts 200 ∷ posts (115 ∷ []) ∷ runs 2 200 ∷ [])) ((0 ∷ []) ∷ (0 ∷
    0 ∷ []) ∷ (196609 ∷ 196610 ∷ 327699 ∷ 196611 ∷ 196615 ∷ 196616 ∷ 196617 ∷ 196618 ∷ 196619 ∷ []) ∷ (1 ∷ 2 ∷ 3 ∷ 7 ∷
    8 ∷ 9 ∷ 10 ∷ 11 ∷ []) ∷ [] ∷ (1 ∷ 101 ∷ []) ∷ [] ∷ (1 ∷ []) ∷ (0 ∷ []) ∷ (0 ∷ 0 ∷ []) ∷ [] ∷ (1 ∷ 2 ∷ 3 ∷ 7 ∷ 8 ∷
    9 ∷ 10 ∷ 11 ∷ []) ∷ [] ∷ (1 ∷ 101 ∷ []) ∷ (1 ∷ 115 ∷ []) ∷ (1 ∷ []) ∷ (0 ∷ []) ∷ (100 ∷ 2 ∷ []) ∷ (65539 ∷ 131073 ∷
    458755 ∷ 327698 ∷ 196612 ∷ []) ∷ (1 ∷ 2 ∷ 4 ∷ 7 ∷ 8 ∷ 9 ∷ 10 ∷ 11 ∷ []) ∷ [] ∷ [] ∷ (1 ∷ 115 ∷ []) ∷ (1 ∷ []) ∷
    (0 ∷ []) ∷ []) ≡ true
unfolding everything joined history_shown queue_shown pending_shown shown played_if played alike
example_016 = refl

-- an if with nothing inside
abbrev numbers_017 : List ℕ
numbers_017 = 2 ∷ 1 ∷ 1 ∷ 2 ∷ 2 ∷ 3 ∷ 0 ∷ 65535 ∷ 65535 ∷ 0 ∷ 0 ∷ 0 ∷ 0 ∷ 0 ∷ 0 ∷ 0 ∷ 0 ∷ 1 ∷ 0 ∷ 0 ∷ 0 ∷ 0 ∷ 0 ∷ 0 ∷
    0 ∷ 0 ∷ 0 ∷ 0 ∷ 1 ∷ 0 ∷ 2 ∷ 65535 ∷ 0 ∷ 0 ∷ 1 ∷ 0 ∷ 2 ∷ 1 ∷ 1 ∷ 2 ∷ 2 ∷ 1 ∷ 0 ∷ 0 ∷ 5 ∷ 0 ∷ 0 ∷ 0 ∷ []

abbrev names_017 : List ℕ
names_017 = joined (slot_of (115 ∷ []) ∷ slot_of (101 ∷ []) ∷ slot_of (42 ∷ []) ∷ [])

example_017 : alike (played numbers_017 names_017 (starts 200 ∷ posts (115 ∷ []) ∷ runs 2 200 ∷ [])) ((0 ∷ []) ∷ (0 ∷
    0 ∷ []) ∷ (196609 ∷ []) ∷ (1 ∷ []) ∷ [] ∷ [] ∷ [] ∷ (1 ∷ []) ∷ (0 ∷ []) ∷ (0 ∷ 0 ∷ []) ∷ [] ∷ (1 ∷ []) ∷ [] ∷ [] ∷
    (1 ∷ 115 ∷ []) ∷ (1 ∷ []) ∷ (0 ∷ []) ∷ (101 ∷ 1 ∷ []) ∷ (65537 ∷ 131072 ∷ 458753 ∷ 196609 ∷ []) ∷ (1 ∷ []) ∷ [] ∷
    [] ∷ [] ∷ (1 ∷ []) ∷ (0 ∷ []) ∷ []) ≡ true
unfolding everything joined history_shown queue_shown pending_shown shown played_if played alike
example_017 = refl

-- an else with nothing inside
abbrev numbers_018 : List ℕ
numbers_018 = 2 ∷ 1 ∷ 1 ∷ 2 ∷ 5 ∷ 3 ∷ 0 ∷ 65535 ∷ 65535 ∷ 0 ∷ 0 ∷ 0 ∷ 0 ∷ 0 ∷ 0 ∷ 0 ∷ 0 ∷ 1 ∷ 0 ∷ 0 ∷ 0 ∷ 0 ∷ 0 ∷ 0 ∷
    0 ∷ 0 ∷ 0 ∷ 0 ∷ 1 ∷ 0 ∷ 2 ∷ 65535 ∷ 0 ∷ 0 ∷ 1 ∷ 0 ∷ 5 ∷ 1 ∷ 1 ∷ 2 ∷ 2 ∷ 1 ∷ 0 ∷ 0 ∷ 3 ∷ 1 ∷ 0 ∷ 0 ∷ 3 ∷ 1 ∷ 0 ∷ 0 ∷
    4 ∷ 0 ∷ 0 ∷ 0 ∷ 5 ∷ 0 ∷ 0 ∷ 0 ∷ []

abbrev names_018 : List ℕ
names_018 = joined (slot_of (115 ∷ []) ∷ slot_of (101 ∷ []) ∷ slot_of (42 ∷ []) ∷ [])

example_018 : alike (played numbers_018 names_018 (starts 200 ∷ posts (115 ∷ []) ∷ runs 2 200 ∷ [])) ((0 ∷ []) ∷ (0 ∷
    0 ∷ []) ∷ (196609 ∷ []) ∷ (1 ∷ []) ∷ [] ∷ [] ∷ [] ∷ (1 ∷ []) ∷ (0 ∷ []) ∷ (0 ∷ 0 ∷ []) ∷ [] ∷ (1 ∷ []) ∷ [] ∷ [] ∷
    (1 ∷ 115 ∷ []) ∷ (1 ∷ []) ∷ (0 ∷ []) ∷ (101 ∷ 1 ∷ []) ∷ (65537 ∷ 131072 ∷ 458753 ∷ 196609 ∷ []) ∷ (1 ∷ []) ∷ [] ∷
    [] ∷ [] ∷ (1 ∷ []) ∷ (0 ∷ []) ∷ []) ≡ true
unfolding everything joined history_shown queue_shown pending_shown shown played_if played alike
example_018 = refl

-- four levels
abbrev numbers_019 : List ℕ
numbers_019 = 2 ∷ 1 ∷ 1 ∷ 2 ∷ 8 ∷ 3 ∷ 0 ∷ 65535 ∷ 65535 ∷ 0 ∷ 0 ∷ 0 ∷ 0 ∷ 0 ∷ 0 ∷ 0 ∷ 0 ∷ 1 ∷ 0 ∷ 0 ∷ 0 ∷ 0 ∷ 0 ∷ 0 ∷
    0 ∷ 0 ∷ 0 ∷ 0 ∷ 1 ∷ 0 ∷ 2 ∷ 65535 ∷ 0 ∷ 0 ∷ 1 ∷ 0 ∷ 8 ∷ 1 ∷ 1 ∷ 2 ∷ 2 ∷ 1 ∷ 0 ∷ 0 ∷ 2 ∷ 1 ∷ 0 ∷ 0 ∷ 2 ∷ 1 ∷ 0 ∷ 0 ∷
    2 ∷ 1 ∷ 0 ∷ 0 ∷ 5 ∷ 0 ∷ 0 ∷ 0 ∷ 5 ∷ 0 ∷ 0 ∷ 0 ∷ 5 ∷ 0 ∷ 0 ∷ 0 ∷ 5 ∷ 0 ∷ 0 ∷ 0 ∷ []

abbrev names_019 : List ℕ
names_019 = joined (slot_of (115 ∷ []) ∷ slot_of (101 ∷ []) ∷ slot_of (42 ∷ []) ∷ [])

example_019 : alike (played numbers_019 names_019 (starts 200 ∷ posts (115 ∷ []) ∷ runs 2 200 ∷ [])) ((0 ∷ []) ∷ (0 ∷
    0 ∷ []) ∷ (196609 ∷ []) ∷ (1 ∷ []) ∷ [] ∷ [] ∷ [] ∷ (1 ∷ []) ∷ (0 ∷ []) ∷ (0 ∷ 0 ∷ []) ∷ [] ∷ (1 ∷ []) ∷ [] ∷ [] ∷
    (1 ∷ 115 ∷ []) ∷ (1 ∷ []) ∷ (0 ∷ []) ∷ (101 ∷ 1 ∷ []) ∷ (65537 ∷ 131072 ∷ 458753 ∷ 196609 ∷ []) ∷ (1 ∷ []) ∷ [] ∷
    [] ∷ [] ∷ (1 ∷ []) ∷ (0 ∷ []) ∷ []) ≡ true
unfolding everything joined history_shown queue_shown pending_shown shown played_if played alike
example_019 = refl

-- a fourth level twice
abbrev numbers_020 : List ℕ
numbers_020 = 2 ∷ 1 ∷ 1 ∷ 2 ∷ 12 ∷ 3 ∷ 0 ∷ 65535 ∷ 65535 ∷ 0 ∷ 0 ∷ 0 ∷ 0 ∷ 0 ∷ 0 ∷ 0 ∷ 0 ∷ 1 ∷ 0 ∷ 0 ∷ 0 ∷ 0 ∷ 0 ∷ 0 ∷
    0 ∷ 0 ∷ 0 ∷ 0 ∷ 1 ∷ 0 ∷ 2 ∷ 65535 ∷ 0 ∷ 0 ∷ 1 ∷ 0 ∷ 12 ∷ 1 ∷ 1 ∷ 2 ∷ 2 ∷ 1 ∷ 0 ∷ 0 ∷ 2 ∷ 1 ∷ 0 ∷ 0 ∷ 2 ∷ 1 ∷ 0 ∷
    0 ∷ 2 ∷ 1 ∷ 0 ∷ 0 ∷ 5 ∷ 0 ∷ 0 ∷ 0 ∷ 2 ∷ 1 ∷ 0 ∷ 0 ∷ 4 ∷ 0 ∷ 0 ∷ 0 ∷ 1 ∷ 7 ∷ 0 ∷ 0 ∷ 5 ∷ 0 ∷ 0 ∷ 0 ∷ 5 ∷ 0 ∷ 0 ∷ 0 ∷
    5 ∷ 0 ∷ 0 ∷ 0 ∷ 5 ∷ 0 ∷ 0 ∷ 0 ∷ []

abbrev names_020 : List ℕ
names_020 = joined (slot_of (115 ∷ []) ∷ slot_of (101 ∷ []) ∷ slot_of (42 ∷ []) ∷ [])

example_020 : alike (played numbers_020 names_020 (starts 200 ∷ posts (115 ∷ []) ∷ runs 2 200 ∷ [])) ((0 ∷ []) ∷ (0 ∷
    0 ∷ []) ∷ (196609 ∷ []) ∷ (1 ∷ []) ∷ [] ∷ [] ∷ [] ∷ (1 ∷ []) ∷ (0 ∷ []) ∷ (0 ∷ 0 ∷ []) ∷ [] ∷ (1 ∷ []) ∷ [] ∷ [] ∷
    (1 ∷ 115 ∷ []) ∷ (1 ∷ []) ∷ (0 ∷ []) ∷ (101 ∷ 1 ∷ []) ∷ (65537 ∷ 131072 ∷ 458753 ∷ 196609 ∷ []) ∷ (1 ∷ []) ∷ [] ∷
    [] ∷ [] ∷ (1 ∷ []) ∷ (0 ∷ []) ∷ []) ≡ true
unfolding everything joined history_shown queue_shown pending_shown shown played_if played alike
example_020 = refl

-- a fourth level in an else
abbrev numbers_021 : List ℕ
numbers_021 = 2 ∷ 1 ∷ 1 ∷ 2 ∷ 11 ∷ 3 ∷ 0 ∷ 65535 ∷ 65535 ∷ 0 ∷ 0 ∷ 0 ∷ 0 ∷ 0 ∷ 0 ∷ 0 ∷ 0 ∷ 1 ∷ 0 ∷ 0 ∷ 0 ∷ 0 ∷ 0 ∷ 0 ∷
    0 ∷ 0 ∷ 0 ∷ 0 ∷ 1 ∷ 0 ∷ 2 ∷ 65535 ∷ 0 ∷ 0 ∷ 1 ∷ 0 ∷ 11 ∷ 1 ∷ 1 ∷ 2 ∷ 2 ∷ 1 ∷ 0 ∷ 0 ∷ 3 ∷ 1 ∷ 0 ∷ 0 ∷ 4 ∷ 0 ∷ 0 ∷
    0 ∷ 2 ∷ 1 ∷ 0 ∷ 0 ∷ 2 ∷ 1 ∷ 0 ∷ 0 ∷ 2 ∷ 1 ∷ 0 ∷ 0 ∷ 1 ∷ 7 ∷ 0 ∷ 0 ∷ 5 ∷ 0 ∷ 0 ∷ 0 ∷ 5 ∷ 0 ∷ 0 ∷ 0 ∷ 5 ∷ 0 ∷ 0 ∷ 0 ∷
    5 ∷ 0 ∷ 0 ∷ 0 ∷ []

abbrev names_021 : List ℕ
names_021 = joined (slot_of (115 ∷ []) ∷ slot_of (101 ∷ []) ∷ slot_of (42 ∷ []) ∷ [])

example_021 : alike (played numbers_021 names_021 (starts 200 ∷ posts (115 ∷ []) ∷ runs 2 200 ∷ [])) ((0 ∷ []) ∷ (0 ∷
    0 ∷ []) ∷ (196609 ∷ []) ∷ (1 ∷ []) ∷ [] ∷ [] ∷ [] ∷ (1 ∷ []) ∷ (0 ∷ []) ∷ (0 ∷ 0 ∷ []) ∷ [] ∷ (1 ∷ []) ∷ [] ∷ [] ∷
    (1 ∷ 115 ∷ []) ∷ (1 ∷ []) ∷ (0 ∷ []) ∷ (101 ∷ 1 ∷ []) ∷ (65537 ∷ 131072 ∷ 458753 ∷ 196609 ∷ []) ∷ (1 ∷ []) ∷ [] ∷
    [] ∷ [] ∷ (1 ∷ []) ∷ (0 ∷ []) ∷ []) ≡ true
unfolding everything joined history_shown queue_shown pending_shown shown played_if played alike
example_021 = refl

-- an if behind an if
abbrev numbers_022 : List ℕ
numbers_022 = 2 ∷ 1 ∷ 1 ∷ 2 ∷ 7 ∷ 3 ∷ 0 ∷ 65535 ∷ 65535 ∷ 0 ∷ 0 ∷ 0 ∷ 0 ∷ 0 ∷ 0 ∷ 0 ∷ 0 ∷ 1 ∷ 0 ∷ 0 ∷ 0 ∷ 0 ∷ 0 ∷ 0 ∷
    0 ∷ 0 ∷ 0 ∷ 0 ∷ 1 ∷ 0 ∷ 2 ∷ 65535 ∷ 0 ∷ 0 ∷ 1 ∷ 0 ∷ 7 ∷ 1 ∷ 1 ∷ 2 ∷ 2 ∷ 1 ∷ 0 ∷ 0 ∷ 1 ∷ 7 ∷ 0 ∷ 0 ∷ 5 ∷ 0 ∷ 0 ∷ 0 ∷
    2 ∷ 1 ∷ 0 ∷ 0 ∷ 4 ∷ 0 ∷ 0 ∷ 0 ∷ 1 ∷ 7 ∷ 0 ∷ 0 ∷ 5 ∷ 0 ∷ 0 ∷ 0 ∷ []

abbrev names_022 : List ℕ
names_022 = joined (slot_of (115 ∷ []) ∷ slot_of (101 ∷ []) ∷ slot_of (42 ∷ []) ∷ [])

example_022 : alike (played numbers_022 names_022 (starts 200 ∷ posts (115 ∷ []) ∷ runs 2 200 ∷ [])) ((0 ∷ []) ∷ (0 ∷
    0 ∷ []) ∷ (196609 ∷ []) ∷ (1 ∷ []) ∷ [] ∷ [] ∷ [] ∷ (1 ∷ []) ∷ (0 ∷ []) ∷ (0 ∷ 0 ∷ []) ∷ [] ∷ (1 ∷ []) ∷ [] ∷ [] ∷
    (1 ∷ 115 ∷ []) ∷ (1 ∷ []) ∷ (0 ∷ []) ∷ (101 ∷ 1 ∷ []) ∷ (65537 ∷ 131072 ∷ 458753 ∷ 262151 ∷ 196609 ∷ []) ∷ (1 ∷
    []) ∷ [] ∷ [] ∷ [] ∷ (1 ∷ []) ∷ (0 ∷ []) ∷ []) ≡ true
unfolding everything joined history_shown queue_shown pending_shown shown played_if played alike
example_022 = refl

-- thirty-two actions with an if
abbrev numbers_023 : List ℕ
numbers_023 = 2 ∷ 1 ∷ 1 ∷ 2 ∷ 32 ∷ 3 ∷ 0 ∷ 65535 ∷ 65535 ∷ 0 ∷ 0 ∷ 0 ∷ 0 ∷ 0 ∷ 0 ∷ 0 ∷ 0 ∷ 1 ∷ 0 ∷ 0 ∷ 0 ∷ 0 ∷ 0 ∷ 0 ∷
    0 ∷ 0 ∷ 0 ∷ 0 ∷ 1 ∷ 0 ∷ 2 ∷ 65535 ∷ 0 ∷ 0 ∷ 1 ∷ 0 ∷ 32 ∷ 1 ∷ 1 ∷ 2 ∷ 2 ∷ 1 ∷ 0 ∷ 0 ∷ 1 ∷ 7 ∷ 0 ∷ 0 ∷ 1 ∷ 7 ∷ 0 ∷
    0 ∷ 1 ∷ 7 ∷ 0 ∷ 0 ∷ 1 ∷ 7 ∷ 0 ∷ 0 ∷ 1 ∷ 7 ∷ 0 ∷ 0 ∷ 1 ∷ 7 ∷ 0 ∷ 0 ∷ 1 ∷ 7 ∷ 0 ∷ 0 ∷ 1 ∷ 7 ∷ 0 ∷ 0 ∷ 1 ∷ 7 ∷ 0 ∷ 0 ∷
    1 ∷ 7 ∷ 0 ∷ 0 ∷ 1 ∷ 7 ∷ 0 ∷ 0 ∷ 1 ∷ 7 ∷ 0 ∷ 0 ∷ 1 ∷ 7 ∷ 0 ∷ 0 ∷ 1 ∷ 7 ∷ 0 ∷ 0 ∷ 1 ∷ 7 ∷ 0 ∷ 0 ∷ 1 ∷ 7 ∷ 0 ∷ 0 ∷ 1 ∷
    7 ∷ 0 ∷ 0 ∷ 1 ∷ 7 ∷ 0 ∷ 0 ∷ 1 ∷ 7 ∷ 0 ∷ 0 ∷ 1 ∷ 7 ∷ 0 ∷ 0 ∷ 1 ∷ 7 ∷ 0 ∷ 0 ∷ 1 ∷ 7 ∷ 0 ∷ 0 ∷ 1 ∷ 7 ∷ 0 ∷ 0 ∷ 1 ∷ 7 ∷
    0 ∷ 0 ∷ 1 ∷ 7 ∷ 0 ∷ 0 ∷ 1 ∷ 7 ∷ 0 ∷ 0 ∷ 1 ∷ 7 ∷ 0 ∷ 0 ∷ 1 ∷ 7 ∷ 0 ∷ 0 ∷ 1 ∷ 7 ∷ 0 ∷ 0 ∷ 1 ∷ 7 ∷ 0 ∷ 0 ∷ 5 ∷ 0 ∷ 0 ∷
    0 ∷ []

abbrev names_023 : List ℕ
names_023 = joined (slot_of (115 ∷ []) ∷ slot_of (101 ∷ []) ∷ slot_of (42 ∷ []) ∷ [])

example_023 : alike (played numbers_023 names_023 (starts 200 ∷ posts (115 ∷ []) ∷ runs 2 200 ∷ [])) ((0 ∷ []) ∷ (0 ∷
    0 ∷ []) ∷ (196609 ∷ []) ∷ (1 ∷ []) ∷ [] ∷ [] ∷ [] ∷ (1 ∷ []) ∷ (0 ∷ []) ∷ (0 ∷ 0 ∷ []) ∷ [] ∷ (1 ∷ []) ∷ [] ∷ [] ∷
    (1 ∷ 115 ∷ []) ∷ (1 ∷ []) ∷ (0 ∷ []) ∷ (101 ∷ 1 ∷ []) ∷ (65537 ∷ 131072 ∷ 458753 ∷ 196609 ∷ []) ∷ (1 ∷ []) ∷ [] ∷
    [] ∷ [] ∷ (1 ∷ []) ∷ (0 ∷ []) ∷ []) ≡ true
unfolding everything joined history_shown queue_shown pending_shown shown played_if played alike
example_023 = refl

-- if In names a final
abbrev numbers_024 : List ℕ
numbers_024 = 3 ∷ 1 ∷ 1 ∷ 1 ∷ 3 ∷ 3 ∷ 0 ∷ 65535 ∷ 65535 ∷ 0 ∷ 0 ∷ 0 ∷ 0 ∷ 0 ∷ 0 ∷ 0 ∷ 0 ∷ 1 ∷ 0 ∷ 0 ∷ 0 ∷ 0 ∷ 0 ∷ 0 ∷
    0 ∷ 0 ∷ 0 ∷ 0 ∷ 3 ∷ 0 ∷ 1 ∷ 0 ∷ 3 ∷ 0 ∷ 0 ∷ 0 ∷ 0 ∷ 0 ∷ 0 ∷ 1 ∷ 0 ∷ 1 ∷ 65535 ∷ 0 ∷ 0 ∷ 1 ∷ 0 ∷ 0 ∷ 2 ∷ 2 ∷ 2 ∷ 2 ∷
    0 ∷ 0 ∷ 1 ∷ 7 ∷ 0 ∷ 0 ∷ 5 ∷ 0 ∷ 0 ∷ 0 ∷ []

abbrev names_024 : List ℕ
names_024 = joined (slot_of (115 ∷ []) ∷ slot_of (102 ∷ []) ∷ slot_of (101 ∷ []) ∷ [])

example_024 : alike (played numbers_024 names_024 (starts 200 ∷ posts (115 ∷ []) ∷ runs 2 200 ∷ [])) ((0 ∷ []) ∷ (0 ∷
    0 ∷ []) ∷ (196609 ∷ []) ∷ (1 ∷ []) ∷ [] ∷ [] ∷ [] ∷ (1 ∷ []) ∷ (0 ∷ []) ∷ (0 ∷ 0 ∷ []) ∷ [] ∷ (1 ∷ []) ∷ [] ∷ [] ∷
    (1 ∷ 115 ∷ []) ∷ (1 ∷ []) ∷ (0 ∷ []) ∷ (101 ∷ 1 ∷ []) ∷ [] ∷ (1 ∷ []) ∷ [] ∷ [] ∷ [] ∷ (1 ∷ []) ∷ (0 ∷ []) ∷
    []) ≡ true
unfolding everything joined history_shown queue_shown pending_shown shown played_if played alike
example_024 = refl

-- elseif In names a parallel
abbrev numbers_025 : List ℕ
numbers_025 = 4 ∷ 1 ∷ 1 ∷ 1 ∷ 4 ∷ 4 ∷ 0 ∷ 65535 ∷ 65535 ∷ 0 ∷ 0 ∷ 0 ∷ 0 ∷ 0 ∷ 0 ∷ 0 ∷ 0 ∷ 2 ∷ 0 ∷ 0 ∷ 0 ∷ 0 ∷ 0 ∷ 0 ∷
    0 ∷ 0 ∷ 0 ∷ 0 ∷ 1 ∷ 1 ∷ 1 ∷ 0 ∷ 0 ∷ 0 ∷ 0 ∷ 0 ∷ 0 ∷ 0 ∷ 0 ∷ 1 ∷ 1 ∷ 2 ∷ 0 ∷ 4 ∷ 0 ∷ 0 ∷ 0 ∷ 0 ∷ 0 ∷ 0 ∷ 2 ∷ 0 ∷ 1 ∷
    65535 ∷ 0 ∷ 0 ∷ 1 ∷ 0 ∷ 0 ∷ 3 ∷ 3 ∷ 2 ∷ 1 ∷ 0 ∷ 0 ∷ 3 ∷ 1 ∷ 0 ∷ 0 ∷ 1 ∷ 7 ∷ 0 ∷ 0 ∷ 5 ∷ 0 ∷ 0 ∷ 0 ∷ []

abbrev names_025 : List ℕ
names_025 = joined (slot_of (112 ∷ []) ∷ slot_of (97 ∷ []) ∷ slot_of (98 ∷ []) ∷ slot_of (101 ∷ []) ∷ [])

example_025 : alike (played numbers_025 names_025 (starts 200 ∷ posts (115 ∷ []) ∷ runs 2 200 ∷ [])) ((0 ∷ []) ∷ (0 ∷
    0 ∷ []) ∷ (196609 ∷ 196610 ∷ 196611 ∷ []) ∷ (1 ∷ 2 ∷ 3 ∷ []) ∷ [] ∷ [] ∷ [] ∷ (1 ∷ []) ∷ (0 ∷ []) ∷ (0 ∷ 0 ∷ []) ∷
    [] ∷ (1 ∷ 2 ∷ 3 ∷ []) ∷ [] ∷ [] ∷ (1 ∷ 115 ∷ []) ∷ (1 ∷ []) ∷ (0 ∷ []) ∷ (101 ∷ 1 ∷ []) ∷ [] ∷ (1 ∷ 2 ∷ 3 ∷ []) ∷
    [] ∷ [] ∷ [] ∷ (1 ∷ []) ∷ (0 ∷ []) ∷ []) ≡ true
unfolding everything joined history_shown queue_shown pending_shown shown played_if played alike
example_025 = refl

-- unused end
abbrev numbers_026 : List ℕ
numbers_026 = 2 ∷ 1 ∷ 1 ∷ 2 ∷ 3 ∷ 3 ∷ 0 ∷ 65535 ∷ 65535 ∷ 0 ∷ 0 ∷ 0 ∷ 0 ∷ 0 ∷ 0 ∷ 0 ∷ 0 ∷ 1 ∷ 0 ∷ 0 ∷ 0 ∷ 0 ∷ 0 ∷ 0 ∷
    0 ∷ 0 ∷ 0 ∷ 0 ∷ 1 ∷ 0 ∷ 2 ∷ 65535 ∷ 0 ∷ 0 ∷ 1 ∷ 0 ∷ 2 ∷ 1 ∷ 1 ∷ 2 ∷ 0 ∷ 1 ∷ 0 ∷ 0 ∷ 1 ∷ 1 ∷ 0 ∷ 0 ∷ 5 ∷ 0 ∷ 0 ∷ 0 ∷
    []

abbrev names_026 : List ℕ
names_026 = joined (slot_of (115 ∷ []) ∷ slot_of (101 ∷ []) ∷ slot_of (42 ∷ []) ∷ [])

example_026 : alike (played numbers_026 names_026 (starts 200 ∷ posts (115 ∷ []) ∷ runs 2 200 ∷ [])) ((0 ∷ []) ∷ (0 ∷
    0 ∷ []) ∷ (196609 ∷ []) ∷ (1 ∷ []) ∷ [] ∷ [] ∷ [] ∷ (1 ∷ []) ∷ (0 ∷ []) ∷ (0 ∷ 0 ∷ []) ∷ [] ∷ (1 ∷ []) ∷ [] ∷ [] ∷
    (1 ∷ 115 ∷ []) ∷ (1 ∷ []) ∷ (0 ∷ []) ∷ (100 ∷ 2 ∷ []) ∷ (65537 ∷ 131072 ∷ 458753 ∷ 327681 ∷ 262145 ∷ 196609 ∷
    65537 ∷ 131072 ∷ 458753 ∷ 327681 ∷ 262145 ∷ 196609 ∷ []) ∷ (1 ∷ []) ∷ [] ∷ (1 ∷ 101 ∷ []) ∷ [] ∷ (1 ∷ []) ∷ (0 ∷
    []) ∷ []) ≡ true
unfolding everything joined history_shown queue_shown pending_shown shown played_if played alike
example_026 = refl

-- unused else
abbrev numbers_027 : List ℕ
numbers_027 = 2 ∷ 1 ∷ 1 ∷ 2 ∷ 3 ∷ 3 ∷ 0 ∷ 65535 ∷ 65535 ∷ 0 ∷ 0 ∷ 0 ∷ 0 ∷ 0 ∷ 0 ∷ 0 ∷ 0 ∷ 1 ∷ 0 ∷ 0 ∷ 0 ∷ 0 ∷ 0 ∷ 0 ∷
    0 ∷ 0 ∷ 0 ∷ 0 ∷ 1 ∷ 0 ∷ 2 ∷ 65535 ∷ 0 ∷ 0 ∷ 1 ∷ 0 ∷ 2 ∷ 1 ∷ 1 ∷ 2 ∷ 0 ∷ 1 ∷ 0 ∷ 0 ∷ 1 ∷ 1 ∷ 0 ∷ 0 ∷ 4 ∷ 0 ∷ 0 ∷ 0 ∷
    []

abbrev names_027 : List ℕ
names_027 = joined (slot_of (115 ∷ []) ∷ slot_of (101 ∷ []) ∷ slot_of (42 ∷ []) ∷ [])

example_027 : alike (played numbers_027 names_027 (starts 200 ∷ posts (115 ∷ []) ∷ runs 2 200 ∷ [])) ((0 ∷ []) ∷ (0 ∷
    0 ∷ []) ∷ (196609 ∷ []) ∷ (1 ∷ []) ∷ [] ∷ [] ∷ [] ∷ (1 ∷ []) ∷ (0 ∷ []) ∷ (0 ∷ 0 ∷ []) ∷ [] ∷ (1 ∷ []) ∷ [] ∷ [] ∷
    (1 ∷ 115 ∷ []) ∷ (1 ∷ []) ∷ (0 ∷ []) ∷ (100 ∷ 2 ∷ []) ∷ (65537 ∷ 131072 ∷ 458753 ∷ 327681 ∷ 262145 ∷ 196609 ∷
    65537 ∷ 131072 ∷ 458753 ∷ 327681 ∷ 262145 ∷ 196609 ∷ []) ∷ (1 ∷ []) ∷ [] ∷ (1 ∷ 101 ∷ []) ∷ [] ∷ (1 ∷ []) ∷ (0 ∷
    []) ∷ []) ≡ true
unfolding everything joined history_shown queue_shown pending_shown shown played_if played alike
example_027 = refl

-- unused if of the root
abbrev numbers_028 : List ℕ
numbers_028 = 2 ∷ 1 ∷ 1 ∷ 2 ∷ 3 ∷ 3 ∷ 0 ∷ 65535 ∷ 65535 ∷ 0 ∷ 0 ∷ 0 ∷ 0 ∷ 0 ∷ 0 ∷ 0 ∷ 0 ∷ 1 ∷ 0 ∷ 0 ∷ 0 ∷ 0 ∷ 0 ∷ 0 ∷
    0 ∷ 0 ∷ 0 ∷ 0 ∷ 1 ∷ 0 ∷ 2 ∷ 65535 ∷ 0 ∷ 0 ∷ 1 ∷ 0 ∷ 2 ∷ 1 ∷ 1 ∷ 2 ∷ 0 ∷ 1 ∷ 0 ∷ 0 ∷ 1 ∷ 1 ∷ 0 ∷ 0 ∷ 2 ∷ 0 ∷ 0 ∷ 0 ∷
    []

abbrev names_028 : List ℕ
names_028 = joined (slot_of (115 ∷ []) ∷ slot_of (101 ∷ []) ∷ slot_of (42 ∷ []) ∷ [])

example_028 : alike (played numbers_028 names_028 (starts 200 ∷ posts (115 ∷ []) ∷ runs 2 200 ∷ [])) ((0 ∷ []) ∷ (0 ∷
    0 ∷ []) ∷ (196609 ∷ []) ∷ (1 ∷ []) ∷ [] ∷ [] ∷ [] ∷ (1 ∷ []) ∷ (0 ∷ []) ∷ (0 ∷ 0 ∷ []) ∷ [] ∷ (1 ∷ []) ∷ [] ∷ [] ∷
    (1 ∷ 115 ∷ []) ∷ (1 ∷ []) ∷ (0 ∷ []) ∷ (100 ∷ 2 ∷ []) ∷ (65537 ∷ 131072 ∷ 458753 ∷ 327681 ∷ 262145 ∷ 196609 ∷
    65537 ∷ 131072 ∷ 458753 ∷ 327681 ∷ 262145 ∷ 196609 ∷ []) ∷ (1 ∷ []) ∷ [] ∷ (1 ∷ 101 ∷ []) ∷ [] ∷ (1 ∷ []) ∷ (0 ∷
    []) ∷ []) ≡ true
unfolding everything joined history_shown queue_shown pending_shown shown played_if played alike
example_028 = refl

-- unused send with the longest delay
abbrev numbers_029 : List ℕ
numbers_029 = 2 ∷ 1 ∷ 1 ∷ 2 ∷ 3 ∷ 3 ∷ 0 ∷ 65535 ∷ 65535 ∷ 0 ∷ 0 ∷ 0 ∷ 0 ∷ 0 ∷ 0 ∷ 0 ∷ 0 ∷ 1 ∷ 0 ∷ 0 ∷ 0 ∷ 0 ∷ 0 ∷ 0 ∷
    0 ∷ 0 ∷ 0 ∷ 0 ∷ 1 ∷ 0 ∷ 2 ∷ 65535 ∷ 0 ∷ 0 ∷ 1 ∷ 0 ∷ 2 ∷ 1 ∷ 1 ∷ 2 ∷ 0 ∷ 1 ∷ 0 ∷ 0 ∷ 1 ∷ 1 ∷ 0 ∷ 0 ∷ 6 ∷ 0 ∷
    4294967295 ∷ 65535 ∷ []

abbrev names_029 : List ℕ
names_029 = joined (slot_of (115 ∷ []) ∷ slot_of (101 ∷ []) ∷ slot_of (42 ∷ []) ∷ [])

example_029 : alike (played numbers_029 names_029 (starts 200 ∷ posts (115 ∷ []) ∷ runs 2 200 ∷ [])) ((0 ∷ []) ∷ (0 ∷
    0 ∷ []) ∷ (196609 ∷ []) ∷ (1 ∷ []) ∷ [] ∷ [] ∷ [] ∷ (1 ∷ []) ∷ (0 ∷ []) ∷ (0 ∷ 0 ∷ []) ∷ [] ∷ (1 ∷ []) ∷ [] ∷ [] ∷
    (1 ∷ 115 ∷ []) ∷ (1 ∷ []) ∷ (0 ∷ []) ∷ (100 ∷ 2 ∷ []) ∷ (65537 ∷ 131072 ∷ 458753 ∷ 327681 ∷ 262145 ∷ 196609 ∷
    65537 ∷ 131072 ∷ 458753 ∷ 327681 ∷ 262145 ∷ 196609 ∷ []) ∷ (1 ∷ []) ∷ [] ∷ (1 ∷ 101 ∷ []) ∷ [] ∷ (1 ∷ []) ∷ (0 ∷
    []) ∷ []) ≡ true
unfolding everything joined history_shown queue_shown pending_shown shown played_if played alike
example_029 = refl

-- unused send as the first slot
abbrev numbers_030 : List ℕ
numbers_030 = 2 ∷ 1 ∷ 1 ∷ 2 ∷ 3 ∷ 3 ∷ 0 ∷ 65535 ∷ 65535 ∷ 0 ∷ 0 ∷ 0 ∷ 0 ∷ 0 ∷ 0 ∷ 0 ∷ 0 ∷ 1 ∷ 0 ∷ 0 ∷ 0 ∷ 0 ∷ 0 ∷ 0 ∷
    0 ∷ 0 ∷ 0 ∷ 0 ∷ 1 ∷ 0 ∷ 2 ∷ 65535 ∷ 0 ∷ 0 ∷ 1 ∷ 0 ∷ 2 ∷ 1 ∷ 1 ∷ 2 ∷ 0 ∷ 1 ∷ 0 ∷ 0 ∷ 1 ∷ 1 ∷ 0 ∷ 0 ∷ 6 ∷ 0 ∷ 0 ∷ 0 ∷
    []

abbrev names_030 : List ℕ
names_030 = joined (slot_of (115 ∷ []) ∷ slot_of (101 ∷ []) ∷ slot_of (42 ∷ []) ∷ [])

example_030 : alike (played numbers_030 names_030 (starts 200 ∷ posts (115 ∷ []) ∷ runs 2 200 ∷ [])) ((0 ∷ []) ∷ (0 ∷
    0 ∷ []) ∷ (196609 ∷ []) ∷ (1 ∷ []) ∷ [] ∷ [] ∷ [] ∷ (1 ∷ []) ∷ (0 ∷ []) ∷ (0 ∷ 0 ∷ []) ∷ [] ∷ (1 ∷ []) ∷ [] ∷ [] ∷
    (1 ∷ 115 ∷ []) ∷ (1 ∷ []) ∷ (0 ∷ []) ∷ (100 ∷ 2 ∷ []) ∷ (65537 ∷ 131072 ∷ 458753 ∷ 327681 ∷ 262145 ∷ 196609 ∷
    65537 ∷ 131072 ∷ 458753 ∷ 327681 ∷ 262145 ∷ 196609 ∷ []) ∷ (1 ∷ []) ∷ [] ∷ (1 ∷ 101 ∷ []) ∷ [] ∷ (1 ∷ []) ∷ (0 ∷
    []) ∷ []) ≡ true
unfolding everything joined history_shown queue_shown pending_shown shown played_if played alike
example_030 = refl

-- unused cancel
abbrev numbers_031 : List ℕ
numbers_031 = 2 ∷ 1 ∷ 1 ∷ 2 ∷ 3 ∷ 3 ∷ 0 ∷ 65535 ∷ 65535 ∷ 0 ∷ 0 ∷ 0 ∷ 0 ∷ 0 ∷ 0 ∷ 0 ∷ 0 ∷ 1 ∷ 0 ∷ 0 ∷ 0 ∷ 0 ∷ 0 ∷ 0 ∷
    0 ∷ 0 ∷ 0 ∷ 0 ∷ 1 ∷ 0 ∷ 2 ∷ 65535 ∷ 0 ∷ 0 ∷ 1 ∷ 0 ∷ 2 ∷ 1 ∷ 1 ∷ 2 ∷ 0 ∷ 1 ∷ 0 ∷ 0 ∷ 1 ∷ 1 ∷ 0 ∷ 0 ∷ 7 ∷ 0 ∷ 0 ∷ 0 ∷
    []

abbrev names_031 : List ℕ
names_031 = joined (slot_of (115 ∷ []) ∷ slot_of (101 ∷ []) ∷ slot_of (42 ∷ []) ∷ [])

example_031 : alike (played numbers_031 names_031 (starts 200 ∷ posts (115 ∷ []) ∷ runs 2 200 ∷ [])) ((0 ∷ []) ∷ (0 ∷
    0 ∷ []) ∷ (196609 ∷ []) ∷ (1 ∷ []) ∷ [] ∷ [] ∷ [] ∷ (1 ∷ []) ∷ (0 ∷ []) ∷ (0 ∷ 0 ∷ []) ∷ [] ∷ (1 ∷ []) ∷ [] ∷ [] ∷
    (1 ∷ 115 ∷ []) ∷ (1 ∷ []) ∷ (0 ∷ []) ∷ (100 ∷ 2 ∷ []) ∷ (65537 ∷ 131072 ∷ 458753 ∷ 327681 ∷ 262145 ∷ 196609 ∷
    65537 ∷ 131072 ∷ 458753 ∷ 327681 ∷ 262145 ∷ 196609 ∷ []) ∷ (1 ∷ []) ∷ [] ∷ (1 ∷ 101 ∷ []) ∷ [] ∷ (1 ∷ []) ∷ (0 ∷
    []) ∷ []) ≡ true
unfolding everything joined history_shown queue_shown pending_shown shown played_if played alike
example_031 = refl

-- send id of 63 bytes
abbrev numbers_032 : List ℕ
numbers_032 = 2 ∷ 1 ∷ 1 ∷ 2 ∷ 1 ∷ 4 ∷ 0 ∷ 65535 ∷ 65535 ∷ 0 ∷ 0 ∷ 0 ∷ 0 ∷ 0 ∷ 0 ∷ 0 ∷ 0 ∷ 1 ∷ 0 ∷ 0 ∷ 0 ∷ 0 ∷ 0 ∷ 0 ∷
    0 ∷ 0 ∷ 0 ∷ 0 ∷ 1 ∷ 0 ∷ 2 ∷ 65535 ∷ 0 ∷ 0 ∷ 1 ∷ 0 ∷ 1 ∷ 1 ∷ 1 ∷ 2 ∷ 6 ∷ 0 ∷ 5 ∷ 3 ∷ []

abbrev names_032 : List ℕ
names_032 = joined (slot_of (115 ∷ []) ∷ slot_of (101 ∷ []) ∷ slot_of (42 ∷ []) ∷ slot_of (116 ∷ 116 ∷ 116 ∷ 116 ∷
    116 ∷ 116 ∷ 116 ∷ 116 ∷ 116 ∷ 116 ∷ 116 ∷ 116 ∷ 116 ∷ 116 ∷ 116 ∷ 116 ∷ 116 ∷ 116 ∷ 116 ∷ 116 ∷ 116 ∷ 116 ∷ 116 ∷
    116 ∷ 116 ∷ 116 ∷ 116 ∷ 116 ∷ 116 ∷ 116 ∷ 116 ∷ 116 ∷ 116 ∷ 116 ∷ 116 ∷ 116 ∷ 116 ∷ 116 ∷ 116 ∷ 116 ∷ 116 ∷ 116 ∷
    116 ∷ 116 ∷ 116 ∷ 116 ∷ 116 ∷ 116 ∷ 116 ∷ 116 ∷ 116 ∷ 116 ∷ 116 ∷ 116 ∷ 116 ∷ 116 ∷ 116 ∷ 116 ∷ 116 ∷ 116 ∷ 116 ∷
    116 ∷ 116 ∷ []) ∷ [])

example_032 : alike (played numbers_032 names_032 (starts 200 ∷ posts (115 ∷ []) ∷ runs 2 200 ∷ [])) ((0 ∷ []) ∷ (0 ∷
    0 ∷ []) ∷ (196609 ∷ []) ∷ (1 ∷ []) ∷ [] ∷ [] ∷ [] ∷ (1 ∷ []) ∷ (0 ∷ []) ∷ (0 ∷ 0 ∷ []) ∷ [] ∷ (1 ∷ []) ∷ [] ∷ [] ∷
    (1 ∷ 115 ∷ []) ∷ (1 ∷ []) ∷ (0 ∷ []) ∷ (101 ∷ 1 ∷ []) ∷ (65537 ∷ 131072 ∷ 458753 ∷ 524288 ∷ 196609 ∷ []) ∷ (1 ∷
    []) ∷ [] ∷ [] ∷ [] ∷ (1 ∷ []) ∷ (0 ∷ 5 ∷ 1 ∷ 115 ∷ 63 ∷ 116 ∷ 116 ∷ 116 ∷ 116 ∷ 116 ∷ 116 ∷ 116 ∷ 116 ∷ 116 ∷ 116 ∷
    116 ∷ 116 ∷ 116 ∷ 116 ∷ 116 ∷ 116 ∷ 116 ∷ 116 ∷ 116 ∷ 116 ∷ 116 ∷ 116 ∷ 116 ∷ 116 ∷ 116 ∷ 116 ∷ 116 ∷ 116 ∷ 116 ∷
    116 ∷ 116 ∷ 116 ∷ 116 ∷ 116 ∷ 116 ∷ 116 ∷ 116 ∷ 116 ∷ 116 ∷ 116 ∷ 116 ∷ 116 ∷ 116 ∷ 116 ∷ 116 ∷ 116 ∷ 116 ∷ 116 ∷
    116 ∷ 116 ∷ 116 ∷ 116 ∷ 116 ∷ 116 ∷ 116 ∷ 116 ∷ 116 ∷ 116 ∷ 116 ∷ 116 ∷ 116 ∷ 116 ∷ 116 ∷ []) ∷ []) ≡ true
unfolding everything joined history_shown queue_shown pending_shown shown played_if played alike
example_032 = refl

-- send id that begins with a digit
abbrev numbers_033 : List ℕ
numbers_033 = 2 ∷ 1 ∷ 1 ∷ 2 ∷ 1 ∷ 4 ∷ 0 ∷ 65535 ∷ 65535 ∷ 0 ∷ 0 ∷ 0 ∷ 0 ∷ 0 ∷ 0 ∷ 0 ∷ 0 ∷ 1 ∷ 0 ∷ 0 ∷ 0 ∷ 0 ∷ 0 ∷ 0 ∷
    0 ∷ 0 ∷ 0 ∷ 0 ∷ 1 ∷ 0 ∷ 2 ∷ 65535 ∷ 0 ∷ 0 ∷ 1 ∷ 0 ∷ 1 ∷ 1 ∷ 1 ∷ 2 ∷ 6 ∷ 0 ∷ 5 ∷ 3 ∷ []

abbrev names_033 : List ℕ
names_033 = joined (slot_of (115 ∷ []) ∷ slot_of (101 ∷ []) ∷ slot_of (42 ∷ []) ∷ slot_of (57 ∷ 46 ∷ 116 ∷ []) ∷ [])

example_033 : alike (played numbers_033 names_033 (starts 200 ∷ posts (115 ∷ []) ∷ runs 2 200 ∷ [])) ((0 ∷ []) ∷ (0 ∷
    0 ∷ []) ∷ (196609 ∷ []) ∷ (1 ∷ []) ∷ [] ∷ [] ∷ [] ∷ (1 ∷ []) ∷ (0 ∷ []) ∷ (0 ∷ 0 ∷ []) ∷ [] ∷ (1 ∷ []) ∷ [] ∷ [] ∷
    (1 ∷ 115 ∷ []) ∷ (1 ∷ []) ∷ (0 ∷ []) ∷ (101 ∷ 1 ∷ []) ∷ (65537 ∷ 131072 ∷ 458753 ∷ 524288 ∷ 196609 ∷ []) ∷ (1 ∷
    []) ∷ [] ∷ [] ∷ [] ∷ (1 ∷ []) ∷ (0 ∷ 5 ∷ 1 ∷ 115 ∷ 3 ∷ 57 ∷ 46 ∷ 116 ∷ []) ∷ []) ≡ true
unfolding everything joined history_shown queue_shown pending_shown shown played_if played alike
example_033 = refl

-- cancel of an id that no send has
abbrev numbers_034 : List ℕ
numbers_034 = 2 ∷ 1 ∷ 1 ∷ 2 ∷ 1 ∷ 4 ∷ 0 ∷ 65535 ∷ 65535 ∷ 0 ∷ 0 ∷ 0 ∷ 0 ∷ 0 ∷ 0 ∷ 0 ∷ 0 ∷ 1 ∷ 0 ∷ 0 ∷ 0 ∷ 0 ∷ 0 ∷ 0 ∷
    0 ∷ 0 ∷ 0 ∷ 0 ∷ 1 ∷ 0 ∷ 2 ∷ 65535 ∷ 0 ∷ 0 ∷ 1 ∷ 0 ∷ 1 ∷ 1 ∷ 1 ∷ 2 ∷ 7 ∷ 3 ∷ 0 ∷ 0 ∷ []

abbrev names_034 : List ℕ
names_034 = joined (slot_of (115 ∷ []) ∷ slot_of (101 ∷ []) ∷ slot_of (42 ∷ []) ∷ slot_of (45 ∷ 110 ∷ 111 ∷ 110 ∷ 101 ∷
    45 ∷ []) ∷ [])

example_034 : alike (played numbers_034 names_034 (starts 200 ∷ posts (115 ∷ []) ∷ runs 2 200 ∷ [])) ((0 ∷ []) ∷ (0 ∷
    0 ∷ []) ∷ (196609 ∷ []) ∷ (1 ∷ []) ∷ [] ∷ [] ∷ [] ∷ (1 ∷ []) ∷ (0 ∷ []) ∷ (0 ∷ 0 ∷ []) ∷ [] ∷ (1 ∷ []) ∷ [] ∷ [] ∷
    (1 ∷ 115 ∷ []) ∷ (1 ∷ []) ∷ (0 ∷ []) ∷ (101 ∷ 1 ∷ []) ∷ (65537 ∷ 131072 ∷ 458753 ∷ 589827 ∷ 196609 ∷ []) ∷ (1 ∷
    []) ∷ [] ∷ [] ∷ [] ∷ (1 ∷ []) ∷ (0 ∷ []) ∷ []) ≡ true
unfolding everything joined history_shown queue_shown pending_shown shown played_if played alike
example_034 = refl

-- send id that a row has, twice
abbrev numbers_035 : List ℕ
numbers_035 = 2 ∷ 1 ∷ 1 ∷ 2 ∷ 3 ∷ 3 ∷ 0 ∷ 65535 ∷ 65535 ∷ 0 ∷ 0 ∷ 0 ∷ 0 ∷ 0 ∷ 0 ∷ 0 ∷ 0 ∷ 1 ∷ 0 ∷ 0 ∷ 0 ∷ 0 ∷ 0 ∷ 0 ∷
    0 ∷ 0 ∷ 0 ∷ 0 ∷ 1 ∷ 0 ∷ 2 ∷ 65535 ∷ 0 ∷ 0 ∷ 1 ∷ 0 ∷ 3 ∷ 1 ∷ 1 ∷ 2 ∷ 6 ∷ 0 ∷ 5 ∷ 0 ∷ 6 ∷ 0 ∷ 5 ∷ 0 ∷ 7 ∷ 0 ∷ 0 ∷ 0 ∷
    []

abbrev names_035 : List ℕ
names_035 = joined (slot_of (115 ∷ []) ∷ slot_of (101 ∷ []) ∷ slot_of (42 ∷ []) ∷ [])

example_035 : alike (played numbers_035 names_035 (starts 200 ∷ posts (115 ∷ []) ∷ runs 2 200 ∷ [])) ((0 ∷ []) ∷ (0 ∷
    0 ∷ []) ∷ (196609 ∷ []) ∷ (1 ∷ []) ∷ [] ∷ [] ∷ [] ∷ (1 ∷ []) ∷ (0 ∷ []) ∷ (0 ∷ 0 ∷ []) ∷ [] ∷ (1 ∷ []) ∷ [] ∷ [] ∷
    (1 ∷ 115 ∷ []) ∷ (1 ∷ []) ∷ (0 ∷ []) ∷ (101 ∷ 1 ∷ []) ∷ (65537 ∷ 131072 ∷ 458753 ∷ 524288 ∷ 524288 ∷ 589824 ∷
    196609 ∷ []) ∷ (1 ∷ []) ∷ [] ∷ [] ∷ [] ∷ (1 ∷ []) ∷ (0 ∷ []) ∷ []) ≡ true
unfolding everything joined history_shown queue_shown pending_shown shown played_if played alike
example_035 = refl

-- thirty-two sends in a block
abbrev numbers_036 : List ℕ
numbers_036 = 2 ∷ 1 ∷ 1 ∷ 2 ∷ 32 ∷ 3 ∷ 0 ∷ 65535 ∷ 65535 ∷ 0 ∷ 0 ∷ 0 ∷ 0 ∷ 0 ∷ 0 ∷ 0 ∷ 0 ∷ 1 ∷ 0 ∷ 0 ∷ 0 ∷ 0 ∷ 0 ∷ 0 ∷
    0 ∷ 0 ∷ 0 ∷ 0 ∷ 1 ∷ 0 ∷ 2 ∷ 65535 ∷ 0 ∷ 0 ∷ 1 ∷ 0 ∷ 32 ∷ 1 ∷ 1 ∷ 2 ∷ 6 ∷ 0 ∷ 1 ∷ 65535 ∷ 6 ∷ 0 ∷ 1 ∷ 65535 ∷ 6 ∷
    0 ∷ 1 ∷ 65535 ∷ 6 ∷ 0 ∷ 1 ∷ 65535 ∷ 6 ∷ 0 ∷ 1 ∷ 65535 ∷ 6 ∷ 0 ∷ 1 ∷ 65535 ∷ 6 ∷ 0 ∷ 1 ∷ 65535 ∷ 6 ∷ 0 ∷ 1 ∷ 65535 ∷
    6 ∷ 0 ∷ 1 ∷ 65535 ∷ 6 ∷ 0 ∷ 1 ∷ 65535 ∷ 6 ∷ 0 ∷ 1 ∷ 65535 ∷ 6 ∷ 0 ∷ 1 ∷ 65535 ∷ 6 ∷ 0 ∷ 1 ∷ 65535 ∷ 6 ∷ 0 ∷ 1 ∷
    65535 ∷ 6 ∷ 0 ∷ 1 ∷ 65535 ∷ 6 ∷ 0 ∷ 1 ∷ 65535 ∷ 6 ∷ 0 ∷ 1 ∷ 65535 ∷ 6 ∷ 0 ∷ 1 ∷ 65535 ∷ 6 ∷ 0 ∷ 1 ∷ 65535 ∷ 6 ∷ 0 ∷
    1 ∷ 65535 ∷ 6 ∷ 0 ∷ 1 ∷ 65535 ∷ 6 ∷ 0 ∷ 1 ∷ 65535 ∷ 6 ∷ 0 ∷ 1 ∷ 65535 ∷ 6 ∷ 0 ∷ 1 ∷ 65535 ∷ 6 ∷ 0 ∷ 1 ∷ 65535 ∷ 6 ∷
    0 ∷ 1 ∷ 65535 ∷ 6 ∷ 0 ∷ 1 ∷ 65535 ∷ 6 ∷ 0 ∷ 1 ∷ 65535 ∷ 6 ∷ 0 ∷ 1 ∷ 65535 ∷ 6 ∷ 0 ∷ 1 ∷ 65535 ∷ 6 ∷ 0 ∷ 1 ∷ 65535 ∷
    6 ∷ 0 ∷ 1 ∷ 65535 ∷ []

abbrev names_036 : List ℕ
names_036 = joined (slot_of (115 ∷ []) ∷ slot_of (101 ∷ []) ∷ slot_of (42 ∷ []) ∷ [])

example_036 : alike (played numbers_036 names_036 (starts 200 ∷ posts (115 ∷ []) ∷ runs 2 200 ∷ [])) ((0 ∷ []) ∷ (0 ∷
    0 ∷ []) ∷ (196609 ∷ []) ∷ (1 ∷ []) ∷ [] ∷ [] ∷ [] ∷ (1 ∷ []) ∷ (0 ∷ []) ∷ (0 ∷ 0 ∷ []) ∷ [] ∷ (1 ∷ []) ∷ [] ∷ [] ∷
    (1 ∷ 115 ∷ []) ∷ (1 ∷ []) ∷ (0 ∷ []) ∷ (101 ∷ 1 ∷ []) ∷ (65537 ∷ 131072 ∷ 458753 ∷ 524288 ∷ 524288 ∷ 524288 ∷
    524288 ∷ 524288 ∷ 524288 ∷ 524288 ∷ 524288 ∷ 524288 ∷ 524288 ∷ 524288 ∷ 524288 ∷ 524288 ∷ 524288 ∷ 524288 ∷
    524288 ∷ 524288 ∷ 524288 ∷ 524288 ∷ 524288 ∷ 524288 ∷ 524288 ∷ 524288 ∷ 524288 ∷ 524288 ∷ 524288 ∷ 524288 ∷
    524288 ∷ 524288 ∷ 524288 ∷ 524288 ∷ 524288 ∷ 196609 ∷ []) ∷ (1 ∷ []) ∷ [] ∷ [] ∷ [] ∷ (1 ∷ []) ∷ (0 ∷ 1 ∷ 1 ∷ 115 ∷
    0 ∷ 1 ∷ 1 ∷ 115 ∷ 0 ∷ 1 ∷ 1 ∷ 115 ∷ 0 ∷ 1 ∷ 1 ∷ 115 ∷ 0 ∷ 1 ∷ 1 ∷ 115 ∷ 0 ∷ 1 ∷ 1 ∷ 115 ∷ 0 ∷ 1 ∷ 1 ∷ 115 ∷ 0 ∷ 1 ∷
    1 ∷ 115 ∷ 0 ∷ 1 ∷ 1 ∷ 115 ∷ 0 ∷ 1 ∷ 1 ∷ 115 ∷ 0 ∷ 1 ∷ 1 ∷ 115 ∷ 0 ∷ 1 ∷ 1 ∷ 115 ∷ 0 ∷ 1 ∷ 1 ∷ 115 ∷ 0 ∷ 1 ∷ 1 ∷
    115 ∷ 0 ∷ 1 ∷ 1 ∷ 115 ∷ 0 ∷ 1 ∷ 1 ∷ 115 ∷ 0 ∷ 1 ∷ 1 ∷ 115 ∷ 0 ∷ 1 ∷ 1 ∷ 115 ∷ 0 ∷ 1 ∷ 1 ∷ 115 ∷ 0 ∷ 1 ∷ 1 ∷ 115 ∷
    0 ∷ 1 ∷ 1 ∷ 115 ∷ 0 ∷ 1 ∷ 1 ∷ 115 ∷ 0 ∷ 1 ∷ 1 ∷ 115 ∷ 0 ∷ 1 ∷ 1 ∷ 115 ∷ 0 ∷ 1 ∷ 1 ∷ 115 ∷ 0 ∷ 1 ∷ 1 ∷ 115 ∷ 0 ∷ 1 ∷
    1 ∷ 115 ∷ 0 ∷ 1 ∷ 1 ∷ 115 ∷ 0 ∷ 1 ∷ 1 ∷ 115 ∷ 0 ∷ 1 ∷ 1 ∷ 115 ∷ 0 ∷ 1 ∷ 1 ∷ 115 ∷ 0 ∷ 1 ∷ 1 ∷ 115 ∷ 0 ∷ []) ∷
    []) ≡ true
unfolding everything joined history_shown queue_shown pending_shown shown played_if played alike
example_036 = refl

-- a send and a cancel in branches
abbrev numbers_037 : List ℕ
numbers_037 = 2 ∷ 1 ∷ 1 ∷ 2 ∷ 7 ∷ 3 ∷ 0 ∷ 65535 ∷ 65535 ∷ 0 ∷ 0 ∷ 0 ∷ 0 ∷ 0 ∷ 0 ∷ 0 ∷ 0 ∷ 1 ∷ 0 ∷ 0 ∷ 0 ∷ 5 ∷ 0 ∷ 0 ∷
    0 ∷ 0 ∷ 0 ∷ 0 ∷ 1 ∷ 0 ∷ 2 ∷ 65535 ∷ 0 ∷ 0 ∷ 1 ∷ 5 ∷ 2 ∷ 1 ∷ 1 ∷ 2 ∷ 2 ∷ 1 ∷ 0 ∷ 0 ∷ 6 ∷ 0 ∷ 1 ∷ 65535 ∷ 4 ∷ 0 ∷ 0 ∷
    0 ∷ 7 ∷ 0 ∷ 0 ∷ 0 ∷ 5 ∷ 0 ∷ 0 ∷ 0 ∷ 0 ∷ 1 ∷ 0 ∷ 0 ∷ 1 ∷ 1 ∷ 0 ∷ 0 ∷ []

abbrev names_037 : List ℕ
names_037 = joined (slot_of (115 ∷ []) ∷ slot_of (101 ∷ []) ∷ slot_of (42 ∷ []) ∷ [])

example_037 : alike (played numbers_037 names_037 (starts 200 ∷ posts (115 ∷ []) ∷ runs 2 200 ∷ [])) ((0 ∷ []) ∷ (0 ∷
    0 ∷ []) ∷ (196609 ∷ 524288 ∷ []) ∷ (1 ∷ []) ∷ [] ∷ [] ∷ [] ∷ (1 ∷ []) ∷ (0 ∷ 1 ∷ 1 ∷ 115 ∷ 0 ∷ []) ∷ (0 ∷ 0 ∷ []) ∷
    [] ∷ (1 ∷ []) ∷ [] ∷ [] ∷ (1 ∷ 115 ∷ []) ∷ (1 ∷ []) ∷ (0 ∷ 1 ∷ 1 ∷ 115 ∷ 0 ∷ []) ∷ (100 ∷ 2 ∷ []) ∷ (65537 ∷
    131072 ∷ 458753 ∷ 327681 ∷ 262145 ∷ 196609 ∷ 524288 ∷ 65537 ∷ 131072 ∷ 458753 ∷ 327681 ∷ 262145 ∷ 196609 ∷ 524288 ∷
    []) ∷ (1 ∷ []) ∷ [] ∷ (1 ∷ 101 ∷ []) ∷ [] ∷ (1 ∷ []) ∷ (0 ∷ 1 ∷ 1 ∷ 115 ∷ 0 ∷ 1 ∷ 1 ∷ 115 ∷ 0 ∷ 1 ∷ 1 ∷ 115 ∷ 0 ∷
    []) ∷ []) ≡ true
unfolding everything joined history_shown queue_shown pending_shown shown played_if played alike
example_037 = refl
