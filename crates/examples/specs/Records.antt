-- Clock records that are well formed, and such that are not. Written by second/ and compared, never edited by hand.
use Rattle.std.specs.Prelude.{◌≡◌, refl, Bool, true, false, List, [], ◌∷◌, ◌++◌, ℕ}
use Rattle.definition.specs.Rows.{same}
use Rattle.definition.specs.declared.Mode.{Mode}
use Rattle.definition.specs.declared.Mode.TheVariants.{Running, Closing, Ended}
use Rattle.definition.specs.Tables.{slot_of}
use Rattle.follower.specs.Follower.{Follower}
use Rattle.follower.specs.Clock.{Timer, Clock}
use Rattle.follower.specs.Calls.{starts, posts, clocks, runs}
use Rattle.follower.specs.Open.{everything}
use Rattle.examples.specs.Play.{joined, history_shown, queue_shown, pending_shown, shown, played_if, played, judged, counts_kept, compiled_sets, opens, fits, timer, record_fits, alike}

-- a new record
record_001 : record_fits Running 0 [] ≡ true
unfolding everything record_fits
record_001 = refl

-- the greatest clock
record_002 : record_fits Running 4611686018427387904 [] ≡ true
unfolding everything record_fits
record_002 = refl

-- a clock over 2^62
record_003 : record_fits Running 4611686018427387905 [] ≡ false
unfolding everything record_fits
record_003 = refl

-- the latest due time
record_004 : record_fits Running 7 (timer 4294967302 (101 ∷ []) [] ∷ []) ≡ true
unfolding everything record_fits
record_004 = refl

-- a due time too late
record_005 : record_fits Running 7 (timer 4294967303 (101 ∷ []) [] ∷ []) ≡ false
unfolding everything record_fits
record_005 = refl

-- the greatest due time
record_006 : record_fits Running 4611686018427387904 (timer 4611686022722355199 (101 ∷ []) [] ∷ []) ≡ true
unfolding everything record_fits
record_006 = refl

-- a due time past the greatest
record_007 : record_fits Running 4611686018427387904 (timer 4611686022722355200 (101 ∷ []) [] ∷ []) ≡ false
unfolding everything record_fits
record_007 = refl

-- a due time in the past
record_008 : record_fits Running 7 (timer 0 (101 ∷ []) (105 ∷ []) ∷ []) ≡ true
unfolding everything record_fits
record_008 = refl

-- a due time too late behind a good one
record_009 : record_fits Running 0 (timer 1 (101 ∷ []) [] ∷ timer 4294967296 (101 ∷ []) [] ∷ []) ≡ false
unfolding everything record_fits
record_009 = refl

-- due times in any order, sends alike
record_010 : record_fits Running 5 (timer 9 (101 ∷ []) (105 ∷ []) ∷ timer 6 (101 ∷ []) (105 ∷ []) ∷ timer 9 (101 ∷
    []) (105 ∷ []) ∷ []) ≡ true
unfolding everything record_fits
record_010 = refl

-- names of 63 bytes
record_011 : record_fits Running 0 (timer 0 (110 ∷ 110 ∷ 110 ∷ 110 ∷ 110 ∷ 110 ∷ 110 ∷ 110 ∷ 110 ∷ 110 ∷ 110 ∷ 110 ∷
    110 ∷ 110 ∷ 110 ∷ 110 ∷ 110 ∷ 110 ∷ 110 ∷ 110 ∷ 110 ∷ 110 ∷ 110 ∷ 110 ∷ 110 ∷ 110 ∷ 110 ∷ 110 ∷ 110 ∷ 110 ∷ 110 ∷
    110 ∷ 110 ∷ 110 ∷ 110 ∷ 110 ∷ 110 ∷ 110 ∷ 110 ∷ 110 ∷ 110 ∷ 110 ∷ 110 ∷ 110 ∷ 110 ∷ 110 ∷ 110 ∷ 110 ∷ 110 ∷ 110 ∷
    110 ∷ 110 ∷ 110 ∷ 110 ∷ 110 ∷ 110 ∷ 110 ∷ 110 ∷ 110 ∷ 110 ∷ 110 ∷ 110 ∷ 110 ∷ []) (110 ∷ 110 ∷ 110 ∷ 110 ∷ 110 ∷
    110 ∷ 110 ∷ 110 ∷ 110 ∷ 110 ∷ 110 ∷ 110 ∷ 110 ∷ 110 ∷ 110 ∷ 110 ∷ 110 ∷ 110 ∷ 110 ∷ 110 ∷ 110 ∷ 110 ∷ 110 ∷ 110 ∷
    110 ∷ 110 ∷ 110 ∷ 110 ∷ 110 ∷ 110 ∷ 110 ∷ 110 ∷ 110 ∷ 110 ∷ 110 ∷ 110 ∷ 110 ∷ 110 ∷ 110 ∷ 110 ∷ 110 ∷ 110 ∷ 110 ∷
    110 ∷ 110 ∷ 110 ∷ 110 ∷ 110 ∷ 110 ∷ 110 ∷ 110 ∷ 110 ∷ 110 ∷ 110 ∷ 110 ∷ 110 ∷ 110 ∷ 110 ∷ 110 ∷ 110 ∷ 110 ∷ 110 ∷
    110 ∷ []) ∷ []) ≡ true
unfolding everything record_fits
record_011 = refl

-- an event of 64 bytes
record_012 : record_fits Running 0 (timer 0 (110 ∷ 110 ∷ 110 ∷ 110 ∷ 110 ∷ 110 ∷ 110 ∷ 110 ∷ 110 ∷ 110 ∷ 110 ∷ 110 ∷
    110 ∷ 110 ∷ 110 ∷ 110 ∷ 110 ∷ 110 ∷ 110 ∷ 110 ∷ 110 ∷ 110 ∷ 110 ∷ 110 ∷ 110 ∷ 110 ∷ 110 ∷ 110 ∷ 110 ∷ 110 ∷ 110 ∷
    110 ∷ 110 ∷ 110 ∷ 110 ∷ 110 ∷ 110 ∷ 110 ∷ 110 ∷ 110 ∷ 110 ∷ 110 ∷ 110 ∷ 110 ∷ 110 ∷ 110 ∷ 110 ∷ 110 ∷ 110 ∷ 110 ∷
    110 ∷ 110 ∷ 110 ∷ 110 ∷ 110 ∷ 110 ∷ 110 ∷ 110 ∷ 110 ∷ 110 ∷ 110 ∷ 110 ∷ 110 ∷ 110 ∷ []) [] ∷ []) ≡ false
unfolding everything record_fits
record_012 = refl

-- an id of 64 bytes
record_013 : record_fits Running 0 (timer 0 (101 ∷ []) (110 ∷ 110 ∷ 110 ∷ 110 ∷ 110 ∷ 110 ∷ 110 ∷ 110 ∷ 110 ∷ 110 ∷
    110 ∷ 110 ∷ 110 ∷ 110 ∷ 110 ∷ 110 ∷ 110 ∷ 110 ∷ 110 ∷ 110 ∷ 110 ∷ 110 ∷ 110 ∷ 110 ∷ 110 ∷ 110 ∷ 110 ∷ 110 ∷ 110 ∷
    110 ∷ 110 ∷ 110 ∷ 110 ∷ 110 ∷ 110 ∷ 110 ∷ 110 ∷ 110 ∷ 110 ∷ 110 ∷ 110 ∷ 110 ∷ 110 ∷ 110 ∷ 110 ∷ 110 ∷ 110 ∷ 110 ∷
    110 ∷ 110 ∷ 110 ∷ 110 ∷ 110 ∷ 110 ∷ 110 ∷ 110 ∷ 110 ∷ 110 ∷ 110 ∷ 110 ∷ 110 ∷ 110 ∷ 110 ∷ 110 ∷ []) ∷ []) ≡ false
unfolding everything record_fits
record_013 = refl

-- no event
record_014 : record_fits Running 0 (timer 0 [] (105 ∷ []) ∷ []) ≡ false
unfolding everything record_fits
record_014 = refl

-- a star for an event
record_015 : record_fits Running 0 (timer 0 (42 ∷ []) (105 ∷ []) ∷ []) ≡ false
unfolding everything record_fits
record_015 = refl

-- a descriptor for an id
record_016 : record_fits Running 0 (timer 0 (101 ∷ []) (105 ∷ 46 ∷ 42 ∷ []) ∷ []) ≡ false
unfolding everything record_fits
record_016 = refl

-- an id with an empty token
record_017 : record_fits Running 0 (timer 0 (101 ∷ []) (105 ∷ 46 ∷ 46 ∷ 106 ∷ []) ∷ []) ≡ false
unfolding everything record_fits
record_017 = refl

-- an id that begins with a digit
record_018 : record_fits Running 0 (timer 0 (55 ∷ 46 ∷ 117 ∷ 112 ∷ []) (57 ∷ []) ∷ []) ≡ true
unfolding everything record_fits
record_018 = refl

-- the second event none
record_019 : record_fits Running 0 (timer 0 (101 ∷ []) [] ∷ timer 0 (97 ∷ 32 ∷ 98 ∷ []) [] ∷ []) ≡ false
unfolding everything record_fits
record_019 = refl

-- 32 sends
record_020 : record_fits Running 0 (timer 0 (101 ∷ []) (105 ∷ []) ∷ timer 0 (101 ∷ []) (105 ∷ []) ∷ timer 0 (101 ∷
    []) (105 ∷ []) ∷ timer 0 (101 ∷ []) (105 ∷ []) ∷ timer 0 (101 ∷ []) (105 ∷ []) ∷ timer 0 (101 ∷ []) (105 ∷ []) ∷
    timer 0 (101 ∷ []) (105 ∷ []) ∷ timer 0 (101 ∷ []) (105 ∷ []) ∷ timer 0 (101 ∷ []) (105 ∷ []) ∷ timer 0 (101 ∷
    []) (105 ∷ []) ∷ timer 0 (101 ∷ []) (105 ∷ []) ∷ timer 0 (101 ∷ []) (105 ∷ []) ∷ timer 0 (101 ∷ []) (105 ∷ []) ∷
    timer 0 (101 ∷ []) (105 ∷ []) ∷ timer 0 (101 ∷ []) (105 ∷ []) ∷ timer 0 (101 ∷ []) (105 ∷ []) ∷ timer 0 (101 ∷
    []) (105 ∷ []) ∷ timer 0 (101 ∷ []) (105 ∷ []) ∷ timer 0 (101 ∷ []) (105 ∷ []) ∷ timer 0 (101 ∷ []) (105 ∷ []) ∷
    timer 0 (101 ∷ []) (105 ∷ []) ∷ timer 0 (101 ∷ []) (105 ∷ []) ∷ timer 0 (101 ∷ []) (105 ∷ []) ∷ timer 0 (101 ∷
    []) (105 ∷ []) ∷ timer 0 (101 ∷ []) (105 ∷ []) ∷ timer 0 (101 ∷ []) (105 ∷ []) ∷ timer 0 (101 ∷ []) (105 ∷ []) ∷
    timer 0 (101 ∷ []) (105 ∷ []) ∷ timer 0 (101 ∷ []) (105 ∷ []) ∷ timer 0 (101 ∷ []) (105 ∷ []) ∷ timer 0 (101 ∷
    []) (105 ∷ []) ∷ timer 0 (101 ∷ []) (105 ∷ []) ∷ []) ≡ true
unfolding everything record_fits
record_020 = refl

-- 33 sends
record_021 : record_fits Running 0 (timer 0 (101 ∷ []) (105 ∷ []) ∷ timer 0 (101 ∷ []) (105 ∷ []) ∷ timer 0 (101 ∷
    []) (105 ∷ []) ∷ timer 0 (101 ∷ []) (105 ∷ []) ∷ timer 0 (101 ∷ []) (105 ∷ []) ∷ timer 0 (101 ∷ []) (105 ∷ []) ∷
    timer 0 (101 ∷ []) (105 ∷ []) ∷ timer 0 (101 ∷ []) (105 ∷ []) ∷ timer 0 (101 ∷ []) (105 ∷ []) ∷ timer 0 (101 ∷
    []) (105 ∷ []) ∷ timer 0 (101 ∷ []) (105 ∷ []) ∷ timer 0 (101 ∷ []) (105 ∷ []) ∷ timer 0 (101 ∷ []) (105 ∷ []) ∷
    timer 0 (101 ∷ []) (105 ∷ []) ∷ timer 0 (101 ∷ []) (105 ∷ []) ∷ timer 0 (101 ∷ []) (105 ∷ []) ∷ timer 0 (101 ∷
    []) (105 ∷ []) ∷ timer 0 (101 ∷ []) (105 ∷ []) ∷ timer 0 (101 ∷ []) (105 ∷ []) ∷ timer 0 (101 ∷ []) (105 ∷ []) ∷
    timer 0 (101 ∷ []) (105 ∷ []) ∷ timer 0 (101 ∷ []) (105 ∷ []) ∷ timer 0 (101 ∷ []) (105 ∷ []) ∷ timer 0 (101 ∷
    []) (105 ∷ []) ∷ timer 0 (101 ∷ []) (105 ∷ []) ∷ timer 0 (101 ∷ []) (105 ∷ []) ∷ timer 0 (101 ∷ []) (105 ∷ []) ∷
    timer 0 (101 ∷ []) (105 ∷ []) ∷ timer 0 (101 ∷ []) (105 ∷ []) ∷ timer 0 (101 ∷ []) (105 ∷ []) ∷ timer 0 (101 ∷
    []) (105 ∷ []) ∷ timer 0 (101 ∷ []) (105 ∷ []) ∷ timer 0 (101 ∷ []) (105 ∷ []) ∷ []) ≡ false
unfolding everything record_fits
record_021 = refl

-- pending while closing
record_022 : record_fits Closing 3 (timer 4 (101 ∷ []) [] ∷ []) ≡ true
unfolding everything record_fits
record_022 = refl

-- pending once ended
record_023 : record_fits Ended 3 (timer 4 (101 ∷ []) [] ∷ []) ≡ false
unfolding everything record_fits
record_023 = refl

-- ended, nothing pending, a clock that stays
record_024 : record_fits Ended 3 [] ≡ true
unfolding everything record_fits
record_024 = refl

-- ended, a clock over 2^62
record_025 : record_fits Ended 4611686018427387905 [] ≡ false
unfolding everything record_fits
record_025 = refl
