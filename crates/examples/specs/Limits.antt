-- Headers at the limits and past them, and a chart with as much of everything as a transition may have. Written by second/ and compared, never edited by hand.
use Rattle.std.specs.Prelude.{◌≡◌, refl, Bool, true, false, List, [], ◌∷◌, ◌++◌, ℕ}
use Rattle.definition.specs.Rows.{same}
use Rattle.definition.specs.declared.Mode.{Mode}
use Rattle.definition.specs.declared.Mode.TheVariants.{Running, Closing, Ended}
use Rattle.definition.specs.Tables.{slot_of}
use Rattle.follower.specs.Follower.{Follower}
use Rattle.follower.specs.Clock.{Timer, Clock}
use Rattle.follower.specs.Calls.{starts, posts, clocks, runs}
use Rattle.follower.specs.Open.{everything}
use Rattle.examples.specs.Play.{joined, history_shown, queue_shown, pending_shown, shown, played_if, played, judged, counts_kept, compiled_sets, opens, fits, timer, record_fits, alike}

-- every count at its limit
header_001 : counts_kept (256 ∷ 512 ∷ 69632 ∷ 2048 ∷ 40960 ∷ 768 ∷ []) ≡ true
unfolding everything counts_kept
header_001 = refl

-- one row and nothing else
header_002 : counts_kept (1 ∷ 0 ∷ 0 ∷ 0 ∷ 0 ∷ 0 ∷ []) ≡ true
unfolding everything counts_kept
header_002 = refl

-- no row
header_003 : counts_kept (0 ∷ 0 ∷ 0 ∷ 0 ∷ 0 ∷ 0 ∷ []) ≡ false
unfolding everything counts_kept
header_003 = refl

-- one row too many
header_004 : counts_kept (257 ∷ 512 ∷ 69632 ∷ 2048 ∷ 40960 ∷ 768 ∷ []) ≡ false
unfolding everything counts_kept
header_004 = refl

-- one transition too many
header_005 : counts_kept (256 ∷ 513 ∷ 69632 ∷ 2048 ∷ 40960 ∷ 768 ∷ []) ≡ false
unfolding everything counts_kept
header_005 = refl

-- one reference too many
header_006 : counts_kept (256 ∷ 512 ∷ 69633 ∷ 2048 ∷ 40960 ∷ 768 ∷ []) ≡ false
unfolding everything counts_kept
header_006 = refl

-- one descriptor too many
header_007 : counts_kept (256 ∷ 512 ∷ 69632 ∷ 2049 ∷ 40960 ∷ 768 ∷ []) ≡ false
unfolding everything counts_kept
header_007 = refl

-- one action too many
header_008 : counts_kept (256 ∷ 512 ∷ 69632 ∷ 2048 ∷ 40961 ∷ 768 ∷ []) ≡ false
unfolding everything counts_kept
header_008 = refl

-- one slot too many
header_009 : counts_kept (256 ∷ 512 ∷ 69632 ∷ 2048 ∷ 40960 ∷ 769 ∷ []) ≡ false
unfolding everything counts_kept
header_009 = refl

-- 4 descriptors, 8 targets, 32 actions
abbrev numbers_001 : List ℕ
numbers_001 = 11 ∷ 1 ∷ 8 ∷ 4 ∷ 32 ∷ 14 ∷ 0 ∷ 65535 ∷ 65535 ∷ 0 ∷ 0 ∷ 0 ∷ 0 ∷ 0 ∷ 0 ∷ 0 ∷ 0 ∷ 1 ∷ 0 ∷ 0 ∷ 0 ∷ 0 ∷ 0 ∷
    0 ∷ 0 ∷ 0 ∷ 0 ∷ 0 ∷ 2 ∷ 0 ∷ 1 ∷ 0 ∷ 0 ∷ 0 ∷ 0 ∷ 0 ∷ 0 ∷ 0 ∷ 0 ∷ 1 ∷ 2 ∷ 2 ∷ 0 ∷ 0 ∷ 0 ∷ 0 ∷ 0 ∷ 0 ∷ 0 ∷ 0 ∷ 1 ∷ 2 ∷
    3 ∷ 0 ∷ 0 ∷ 0 ∷ 0 ∷ 0 ∷ 0 ∷ 0 ∷ 0 ∷ 1 ∷ 2 ∷ 4 ∷ 0 ∷ 0 ∷ 0 ∷ 0 ∷ 0 ∷ 0 ∷ 0 ∷ 0 ∷ 1 ∷ 2 ∷ 5 ∷ 0 ∷ 0 ∷ 0 ∷ 0 ∷ 0 ∷ 0 ∷
    0 ∷ 0 ∷ 1 ∷ 2 ∷ 6 ∷ 0 ∷ 0 ∷ 0 ∷ 0 ∷ 0 ∷ 0 ∷ 0 ∷ 0 ∷ 1 ∷ 2 ∷ 7 ∷ 0 ∷ 0 ∷ 0 ∷ 0 ∷ 0 ∷ 0 ∷ 0 ∷ 0 ∷ 1 ∷ 2 ∷ 8 ∷ 0 ∷ 0 ∷
    0 ∷ 0 ∷ 0 ∷ 0 ∷ 0 ∷ 0 ∷ 1 ∷ 2 ∷ 9 ∷ 0 ∷ 0 ∷ 0 ∷ 0 ∷ 0 ∷ 0 ∷ 0 ∷ 0 ∷ 1 ∷ 0 ∷ 4 ∷ 65535 ∷ 0 ∷ 0 ∷ 8 ∷ 0 ∷ 32 ∷ 3 ∷
    4 ∷ 5 ∷ 6 ∷ 7 ∷ 8 ∷ 9 ∷ 10 ∷ 10 ∷ 11 ∷ 12 ∷ 13 ∷ 1 ∷ 1 ∷ 0 ∷ 0 ∷ 1 ∷ 2 ∷ 0 ∷ 0 ∷ 1 ∷ 3 ∷ 0 ∷ 0 ∷ 1 ∷ 4 ∷ 0 ∷ 0 ∷
    1 ∷ 5 ∷ 0 ∷ 0 ∷ 1 ∷ 6 ∷ 0 ∷ 0 ∷ 1 ∷ 7 ∷ 0 ∷ 0 ∷ 1 ∷ 8 ∷ 0 ∷ 0 ∷ 1 ∷ 9 ∷ 0 ∷ 0 ∷ 1 ∷ 10 ∷ 0 ∷ 0 ∷ 1 ∷ 11 ∷ 0 ∷ 0 ∷
    1 ∷ 12 ∷ 0 ∷ 0 ∷ 1 ∷ 13 ∷ 0 ∷ 0 ∷ 1 ∷ 14 ∷ 0 ∷ 0 ∷ 1 ∷ 15 ∷ 0 ∷ 0 ∷ 1 ∷ 16 ∷ 0 ∷ 0 ∷ 1 ∷ 17 ∷ 0 ∷ 0 ∷ 1 ∷ 18 ∷ 0 ∷
    0 ∷ 1 ∷ 19 ∷ 0 ∷ 0 ∷ 1 ∷ 20 ∷ 0 ∷ 0 ∷ 1 ∷ 21 ∷ 0 ∷ 0 ∷ 1 ∷ 22 ∷ 0 ∷ 0 ∷ 1 ∷ 23 ∷ 0 ∷ 0 ∷ 1 ∷ 24 ∷ 0 ∷ 0 ∷ 1 ∷ 25 ∷
    0 ∷ 0 ∷ 1 ∷ 26 ∷ 0 ∷ 0 ∷ 1 ∷ 27 ∷ 0 ∷ 0 ∷ 1 ∷ 28 ∷ 0 ∷ 0 ∷ 1 ∷ 29 ∷ 0 ∷ 0 ∷ 1 ∷ 30 ∷ 0 ∷ 0 ∷ 1 ∷ 31 ∷ 0 ∷ 0 ∷ 1 ∷
    32 ∷ 0 ∷ 0 ∷ []

abbrev names_001 : List ℕ
names_001 = joined (slot_of (122 ∷ []) ∷ slot_of (112 ∷ []) ∷ slot_of (114 ∷ 48 ∷ []) ∷ slot_of (114 ∷ 49 ∷ []) ∷
    slot_of (114 ∷ 50 ∷ []) ∷ slot_of (114 ∷ 51 ∷ []) ∷ slot_of (114 ∷ 52 ∷ []) ∷ slot_of (114 ∷ 53 ∷ []) ∷
    slot_of (114 ∷ 54 ∷ []) ∷ slot_of (114 ∷ 55 ∷ []) ∷ slot_of (97 ∷ []) ∷ slot_of (98 ∷ []) ∷ slot_of (99 ∷ []) ∷
    slot_of (100 ∷ []) ∷ [])

example_001 : alike (played numbers_001 names_001 (starts 200 ∷ posts (100 ∷ []) ∷ runs 1 200 ∷ [])) ((0 ∷ []) ∷ (0 ∷
    0 ∷ []) ∷ (196609 ∷ []) ∷ (1 ∷ []) ∷ [] ∷ [] ∷ [] ∷ (1 ∷ []) ∷ (0 ∷ []) ∷ (0 ∷ 0 ∷ []) ∷ [] ∷ (1 ∷ []) ∷ [] ∷ [] ∷
    (1 ∷ 100 ∷ []) ∷ (1 ∷ []) ∷ (0 ∷ []) ∷ (101 ∷ 1 ∷ []) ∷ (65537 ∷ 131072 ∷ 458753 ∷ 262145 ∷ 262146 ∷ 262147 ∷
    262148 ∷ 262149 ∷ 262150 ∷ 262151 ∷ 262152 ∷ 262153 ∷ 262154 ∷ 262155 ∷ 262156 ∷ 262157 ∷ 262158 ∷ 262159 ∷
    262160 ∷ 262161 ∷ 262162 ∷ 262163 ∷ 262164 ∷ 262165 ∷ 262166 ∷ 262167 ∷ 262168 ∷ 262169 ∷ 262170 ∷ 262171 ∷
    262172 ∷ 262173 ∷ 262174 ∷ 262175 ∷ 262176 ∷ 196610 ∷ 196611 ∷ 196612 ∷ 196613 ∷ 196614 ∷ 196615 ∷ 196616 ∷
    196617 ∷ 196618 ∷ []) ∷ (2 ∷ 3 ∷ 4 ∷ 5 ∷ 6 ∷ 7 ∷ 8 ∷ 9 ∷ 10 ∷ []) ∷ [] ∷ [] ∷ [] ∷ (1 ∷ []) ∷ (0 ∷ []) ∷ []) ≡ true
unfolding everything joined history_shown queue_shown pending_shown shown played_if played alike
example_001 = refl

-- a list of 20 rows
abbrev numbers_002 : List ℕ
numbers_002 = 22 ∷ 0 ∷ 20 ∷ 0 ∷ 0 ∷ 21 ∷ 0 ∷ 65535 ∷ 65535 ∷ 0 ∷ 0 ∷ 0 ∷ 0 ∷ 0 ∷ 20 ∷ 0 ∷ 0 ∷ 2 ∷ 0 ∷ 0 ∷ 0 ∷ 0 ∷ 0 ∷
    0 ∷ 0 ∷ 0 ∷ 0 ∷ 0 ∷ 1 ∷ 1 ∷ 1 ∷ 0 ∷ 0 ∷ 0 ∷ 0 ∷ 0 ∷ 0 ∷ 0 ∷ 0 ∷ 1 ∷ 1 ∷ 2 ∷ 0 ∷ 0 ∷ 0 ∷ 0 ∷ 0 ∷ 0 ∷ 0 ∷ 0 ∷ 1 ∷ 1 ∷
    3 ∷ 0 ∷ 0 ∷ 0 ∷ 0 ∷ 0 ∷ 0 ∷ 0 ∷ 0 ∷ 1 ∷ 1 ∷ 4 ∷ 0 ∷ 0 ∷ 0 ∷ 0 ∷ 0 ∷ 0 ∷ 0 ∷ 0 ∷ 1 ∷ 1 ∷ 5 ∷ 0 ∷ 0 ∷ 0 ∷ 0 ∷ 0 ∷ 0 ∷
    0 ∷ 0 ∷ 1 ∷ 1 ∷ 6 ∷ 0 ∷ 0 ∷ 0 ∷ 0 ∷ 0 ∷ 0 ∷ 0 ∷ 0 ∷ 1 ∷ 1 ∷ 7 ∷ 0 ∷ 0 ∷ 0 ∷ 0 ∷ 0 ∷ 0 ∷ 0 ∷ 0 ∷ 1 ∷ 1 ∷ 8 ∷ 0 ∷ 0 ∷
    0 ∷ 0 ∷ 0 ∷ 0 ∷ 0 ∷ 0 ∷ 1 ∷ 1 ∷ 9 ∷ 0 ∷ 0 ∷ 0 ∷ 0 ∷ 0 ∷ 0 ∷ 0 ∷ 0 ∷ 1 ∷ 1 ∷ 10 ∷ 0 ∷ 0 ∷ 0 ∷ 0 ∷ 0 ∷ 0 ∷ 0 ∷ 0 ∷
    1 ∷ 1 ∷ 11 ∷ 0 ∷ 0 ∷ 0 ∷ 0 ∷ 0 ∷ 0 ∷ 0 ∷ 0 ∷ 1 ∷ 1 ∷ 12 ∷ 0 ∷ 0 ∷ 0 ∷ 0 ∷ 0 ∷ 0 ∷ 0 ∷ 0 ∷ 1 ∷ 1 ∷ 13 ∷ 0 ∷ 0 ∷ 0 ∷
    0 ∷ 0 ∷ 0 ∷ 0 ∷ 0 ∷ 1 ∷ 1 ∷ 14 ∷ 0 ∷ 0 ∷ 0 ∷ 0 ∷ 0 ∷ 0 ∷ 0 ∷ 0 ∷ 1 ∷ 1 ∷ 15 ∷ 0 ∷ 0 ∷ 0 ∷ 0 ∷ 0 ∷ 0 ∷ 0 ∷ 0 ∷ 1 ∷
    1 ∷ 16 ∷ 0 ∷ 0 ∷ 0 ∷ 0 ∷ 0 ∷ 0 ∷ 0 ∷ 0 ∷ 1 ∷ 1 ∷ 17 ∷ 0 ∷ 0 ∷ 0 ∷ 0 ∷ 0 ∷ 0 ∷ 0 ∷ 0 ∷ 1 ∷ 1 ∷ 18 ∷ 0 ∷ 0 ∷ 0 ∷ 0 ∷
    0 ∷ 0 ∷ 0 ∷ 0 ∷ 1 ∷ 1 ∷ 19 ∷ 0 ∷ 0 ∷ 0 ∷ 0 ∷ 0 ∷ 0 ∷ 0 ∷ 0 ∷ 1 ∷ 1 ∷ 20 ∷ 0 ∷ 0 ∷ 0 ∷ 0 ∷ 0 ∷ 0 ∷ 0 ∷ 0 ∷ 2 ∷ 3 ∷
    4 ∷ 5 ∷ 6 ∷ 7 ∷ 8 ∷ 9 ∷ 10 ∷ 11 ∷ 12 ∷ 13 ∷ 14 ∷ 15 ∷ 16 ∷ 17 ∷ 18 ∷ 19 ∷ 20 ∷ 21 ∷ []

abbrev names_002 : List ℕ
names_002 = joined (slot_of (112 ∷ []) ∷ slot_of (114 ∷ 48 ∷ []) ∷ slot_of (114 ∷ 49 ∷ []) ∷ slot_of (114 ∷ 50 ∷ []) ∷
    slot_of (114 ∷ 51 ∷ []) ∷ slot_of (114 ∷ 52 ∷ []) ∷ slot_of (114 ∷ 53 ∷ []) ∷ slot_of (114 ∷ 54 ∷ []) ∷
    slot_of (114 ∷ 55 ∷ []) ∷ slot_of (114 ∷ 56 ∷ []) ∷ slot_of (114 ∷ 57 ∷ []) ∷ slot_of (114 ∷ 49 ∷ 48 ∷ []) ∷
    slot_of (114 ∷ 49 ∷ 49 ∷ []) ∷ slot_of (114 ∷ 49 ∷ 50 ∷ []) ∷ slot_of (114 ∷ 49 ∷ 51 ∷ []) ∷ slot_of (114 ∷ 49 ∷
    52 ∷ []) ∷ slot_of (114 ∷ 49 ∷ 53 ∷ []) ∷ slot_of (114 ∷ 49 ∷ 54 ∷ []) ∷ slot_of (114 ∷ 49 ∷ 55 ∷ []) ∷
    slot_of (114 ∷ 49 ∷ 56 ∷ []) ∷ slot_of (114 ∷ 49 ∷ 57 ∷ []) ∷ [])

example_002 : alike (played numbers_002 names_002 []) ((0 ∷ []) ∷ []) ≡ true
unfolding everything joined history_shown queue_shown pending_shown shown played_if played alike
example_002 = refl
