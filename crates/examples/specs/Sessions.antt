-- Sessions that are well formed, and such that are not. Written by second/ and compared, never edited by hand.
use Rattle.std.specs.Prelude.{◌≡◌, refl, Bool, true, false, List, [], ◌∷◌, ◌++◌, ℕ}
use Rattle.definition.specs.Rows.{same}
use Rattle.definition.specs.declared.Mode.{Mode}
use Rattle.definition.specs.declared.Mode.TheVariants.{Running, Closing, Ended}
use Rattle.definition.specs.Tables.{slot_of}
use Rattle.follower.specs.Follower.{Follower}
use Rattle.follower.specs.Clock.{Timer, Clock}
use Rattle.follower.specs.Calls.{starts, posts, clocks, runs}
use Rattle.follower.specs.Open.{everything}
use Rattle.examples.specs.Play.{joined, history_shown, queue_shown, pending_shown, shown, played_if, played, judged, counts_kept, compiled_sets, opens, fits, timer, record_fits, alike}

abbrev numbers_001 : List ℕ
numbers_001 = 11 ∷ 5 ∷ 7 ∷ 5 ∷ 0 ∷ 14 ∷ 0 ∷ 65535 ∷ 65535 ∷ 0 ∷ 0 ∷ 0 ∷ 0 ∷ 0 ∷ 0 ∷ 0 ∷ 0 ∷ 2 ∷ 0 ∷ 0 ∷ 0 ∷ 0 ∷ 0 ∷ 0 ∷
    0 ∷ 0 ∷ 0 ∷ 0 ∷ 1 ∷ 1 ∷ 1 ∷ 0 ∷ 0 ∷ 0 ∷ 0 ∷ 0 ∷ 1 ∷ 0 ∷ 0 ∷ 1 ∷ 2 ∷ 2 ∷ 0 ∷ 0 ∷ 0 ∷ 0 ∷ 0 ∷ 0 ∷ 0 ∷ 0 ∷ 1 ∷ 2 ∷ 3 ∷
    0 ∷ 0 ∷ 0 ∷ 0 ∷ 0 ∷ 0 ∷ 0 ∷ 0 ∷ 3 ∷ 2 ∷ 4 ∷ 0 ∷ 0 ∷ 0 ∷ 0 ∷ 0 ∷ 0 ∷ 0 ∷ 0 ∷ 1 ∷ 1 ∷ 5 ∷ 0 ∷ 0 ∷ 0 ∷ 0 ∷ 1 ∷ 1 ∷ 0 ∷
    0 ∷ 1 ∷ 6 ∷ 6 ∷ 0 ∷ 0 ∷ 0 ∷ 0 ∷ 0 ∷ 0 ∷ 0 ∷ 0 ∷ 1 ∷ 6 ∷ 7 ∷ 0 ∷ 0 ∷ 0 ∷ 0 ∷ 0 ∷ 0 ∷ 0 ∷ 0 ∷ 3 ∷ 6 ∷ 8 ∷ 0 ∷ 0 ∷ 0 ∷
    0 ∷ 0 ∷ 0 ∷ 0 ∷ 0 ∷ 1 ∷ 0 ∷ 9 ∷ 0 ∷ 0 ∷ 0 ∷ 0 ∷ 0 ∷ 0 ∷ 0 ∷ 0 ∷ 1 ∷ 0 ∷ 1 ∷ 65535 ∷ 0 ∷ 2 ∷ 1 ∷ 0 ∷ 0 ∷ 3 ∷ 1 ∷ 1 ∷
    65535 ∷ 0 ∷ 3 ∷ 1 ∷ 0 ∷ 0 ∷ 4 ∷ 2 ∷ 1 ∷ 65535 ∷ 0 ∷ 4 ∷ 1 ∷ 0 ∷ 0 ∷ 7 ∷ 3 ∷ 1 ∷ 65535 ∷ 0 ∷ 5 ∷ 1 ∷ 0 ∷ 0 ∷ 8 ∷ 4 ∷
    1 ∷ 65535 ∷ 0 ∷ 6 ∷ 1 ∷ 0 ∷ 0 ∷ 3 ∷ 7 ∷ 10 ∷ 4 ∷ 5 ∷ 8 ∷ 9 ∷ 10 ∷ 11 ∷ 12 ∷ 12 ∷ 13 ∷ []

-- well formed
session_001 : fits numbers_001 (record {
  configuration = 1 ∷ 2 ∷ 3 ∷ 6 ∷ 7 ∷ [];
  history = [] ∷ [] ∷ [] ∷ [] ∷ [] ∷ [] ∷ [] ∷ [] ∷ [] ∷ [] ∷ [] ∷ [];
  internal = [];
  external = [];
  mode = Running;
}) ≡ true
unfolding everything fits
session_001 = refl

-- an atomic row is missing
session_002 : fits numbers_001 (record {
  configuration = 1 ∷ 2 ∷ 6 ∷ 7 ∷ [];
  history = [] ∷ [] ∷ [] ∷ [] ∷ [] ∷ [] ∷ [] ∷ [] ∷ [] ∷ [] ∷ [] ∷ [];
  internal = [];
  external = [];
  mode = Running;
}) ≡ false
unfolding everything fits
session_002 = refl

-- a compound row is missing
session_003 : fits numbers_001 (record {
  configuration = 1 ∷ 3 ∷ 6 ∷ 7 ∷ [];
  history = [] ∷ [] ∷ [] ∷ [] ∷ [] ∷ [] ∷ [] ∷ [] ∷ [] ∷ [] ∷ [] ∷ [];
  internal = [];
  external = [];
  mode = Running;
}) ≡ false
unfolding everything fits
session_003 = refl

-- the parallel is missing
session_004 : fits numbers_001 (record {
  configuration = 2 ∷ 3 ∷ 6 ∷ 7 ∷ [];
  history = [] ∷ [] ∷ [] ∷ [] ∷ [] ∷ [] ∷ [] ∷ [] ∷ [] ∷ [] ∷ [] ∷ [];
  internal = [];
  external = [];
  mode = Running;
}) ≡ false
unfolding everything fits
session_004 = refl

-- a region is missing
session_005 : fits numbers_001 (record {
  configuration = 1 ∷ 2 ∷ 3 ∷ [];
  history = [] ∷ [] ∷ [] ∷ [] ∷ [] ∷ [] ∷ [] ∷ [] ∷ [] ∷ [] ∷ [] ∷ [];
  internal = [];
  external = [];
  mode = Running;
}) ≡ false
unfolding everything fits
session_005 = refl

-- a second child of a state
session_006 : fits numbers_001 (record {
  configuration = 1 ∷ 2 ∷ 3 ∷ 4 ∷ 6 ∷ 7 ∷ [];
  history = [] ∷ [] ∷ [] ∷ [] ∷ [] ∷ [] ∷ [] ∷ [] ∷ [] ∷ [] ∷ [] ∷ [];
  internal = [];
  external = [];
  mode = Running;
}) ≡ false
unfolding everything fits
session_006 = refl

-- a second child of the root
session_007 : fits numbers_001 (record {
  configuration = 1 ∷ 2 ∷ 3 ∷ 6 ∷ 7 ∷ 10 ∷ [];
  history = [] ∷ [] ∷ [] ∷ [] ∷ [] ∷ [] ∷ [] ∷ [] ∷ [] ∷ [] ∷ [] ∷ [];
  internal = [];
  external = [];
  mode = Running;
}) ≡ false
unfolding everything fits
session_007 = refl

-- another child of a state
session_008 : fits numbers_001 (record {
  configuration = 1 ∷ 2 ∷ 4 ∷ 6 ∷ 7 ∷ [];
  history = [] ∷ [] ∷ [] ∷ [] ∷ [] ∷ [] ∷ [] ∷ [] ∷ [] ∷ [] ∷ [] ∷ [];
  internal = [];
  external = [];
  mode = Running;
}) ≡ true
unfolding everything fits
session_008 = refl

-- a final child of a state
session_009 : fits numbers_001 (record {
  configuration = 1 ∷ 2 ∷ 5 ∷ 6 ∷ 7 ∷ [];
  history = [] ∷ [] ∷ [] ∷ [] ∷ [] ∷ [] ∷ [] ∷ [] ∷ [] ∷ [] ∷ [] ∷ [];
  internal = [];
  external = [];
  mode = Running;
}) ≡ true
unfolding everything fits
session_009 = refl

-- another child of the root
session_010 : fits numbers_001 (record {
  configuration = 10 ∷ [];
  history = [] ∷ [] ∷ [] ∷ [] ∷ [] ∷ [] ∷ [] ∷ [] ∷ [] ∷ [] ∷ [] ∷ [];
  internal = [];
  external = [];
  mode = Running;
}) ≡ true
unfolding everything fits
session_010 = refl

-- a row whose parent is missing
session_011 : fits numbers_001 (record {
  configuration = 3 ∷ 10 ∷ [];
  history = [] ∷ [] ∷ [] ∷ [] ∷ [] ∷ [] ∷ [] ∷ [] ∷ [] ∷ [] ∷ [] ∷ [];
  internal = [];
  external = [];
  mode = Running;
}) ≡ false
unfolding everything fits
session_011 = refl

-- a permuted configuration
session_012 : fits numbers_001 (record {
  configuration = 1 ∷ 2 ∷ 6 ∷ 3 ∷ 7 ∷ [];
  history = [] ∷ [] ∷ [] ∷ [] ∷ [] ∷ [] ∷ [] ∷ [] ∷ [] ∷ [] ∷ [] ∷ [];
  internal = [];
  external = [];
  mode = Running;
}) ≡ false
unfolding everything fits
session_012 = refl

-- a reversed configuration
session_013 : fits numbers_001 (record {
  configuration = 7 ∷ 6 ∷ 3 ∷ 2 ∷ 1 ∷ [];
  history = [] ∷ [] ∷ [] ∷ [] ∷ [] ∷ [] ∷ [] ∷ [] ∷ [] ∷ [] ∷ [] ∷ [];
  internal = [];
  external = [];
  mode = Running;
}) ≡ false
unfolding everything fits
session_013 = refl

-- a row twice
session_014 : fits numbers_001 (record {
  configuration = 1 ∷ 2 ∷ 3 ∷ 3 ∷ 6 ∷ 7 ∷ [];
  history = [] ∷ [] ∷ [] ∷ [] ∷ [] ∷ [] ∷ [] ∷ [] ∷ [] ∷ [] ∷ [] ∷ [];
  internal = [];
  external = [];
  mode = Running;
}) ≡ false
unfolding everything fits
session_014 = refl

-- the root listed
session_015 : fits numbers_001 (record {
  configuration = 0 ∷ 1 ∷ 2 ∷ 3 ∷ 6 ∷ 7 ∷ [];
  history = [] ∷ [] ∷ [] ∷ [] ∷ [] ∷ [] ∷ [] ∷ [] ∷ [] ∷ [] ∷ [] ∷ [];
  internal = [];
  external = [];
  mode = Running;
}) ≡ false
unfolding everything fits
session_015 = refl

-- a row past the count
session_016 : fits numbers_001 (record {
  configuration = 1 ∷ 2 ∷ 3 ∷ 6 ∷ 7 ∷ 11 ∷ [];
  history = [] ∷ [] ∷ [] ∷ [] ∷ [] ∷ [] ∷ [] ∷ [] ∷ [] ∷ [] ∷ [] ∷ [];
  internal = [];
  external = [];
  mode = Running;
}) ≡ false
unfolding everything fits
session_016 = refl

-- a row far past the count
session_017 : fits numbers_001 (record {
  configuration = 1 ∷ 2 ∷ 3 ∷ 6 ∷ 7 ∷ 255 ∷ [];
  history = [] ∷ [] ∷ [] ∷ [] ∷ [] ∷ [] ∷ [] ∷ [] ∷ [] ∷ [] ∷ [] ∷ [];
  internal = [];
  external = [];
  mode = Running;
}) ≡ false
unfolding everything fits
session_017 = refl

-- closing without a final under root
session_018 : fits numbers_001 (record {
  configuration = 1 ∷ 2 ∷ 3 ∷ 6 ∷ 7 ∷ [];
  history = [] ∷ [] ∷ [] ∷ [] ∷ [] ∷ [] ∷ [] ∷ [] ∷ [] ∷ [] ∷ [] ∷ [];
  internal = [];
  external = [];
  mode = Closing;
}) ≡ false
unfolding everything fits
session_018 = refl

-- ended with active rows
session_019 : fits numbers_001 (record {
  configuration = 1 ∷ 2 ∷ 3 ∷ 6 ∷ 7 ∷ [];
  history = [] ∷ [] ∷ [] ∷ [] ∷ [] ∷ [] ∷ [] ∷ [] ∷ [] ∷ [] ∷ [] ∷ [];
  internal = [];
  external = [];
  mode = Ended;
}) ≡ false
unfolding everything fits
session_019 = refl

-- nothing active, yet running
session_020 : fits numbers_001 (record {
  configuration = [];
  history = [] ∷ [] ∷ [] ∷ [] ∷ [] ∷ [] ∷ [] ∷ [] ∷ [] ∷ [] ∷ [] ∷ [];
  internal = [];
  external = [];
  mode = Running;
}) ≡ false
unfolding everything fits
session_020 = refl

-- nothing active, yet closing
session_021 : fits numbers_001 (record {
  configuration = [];
  history = [] ∷ [] ∷ [] ∷ [] ∷ [] ∷ [] ∷ [] ∷ [] ∷ [] ∷ [] ∷ [] ∷ [];
  internal = [];
  external = [];
  mode = Closing;
}) ≡ false
unfolding everything fits
session_021 = refl

-- ended
session_022 : fits numbers_001 (record {
  configuration = [];
  history = [] ∷ [] ∷ [] ∷ [] ∷ [] ∷ [] ∷ [] ∷ [] ∷ [] ∷ [] ∷ [] ∷ [];
  internal = [];
  external = [];
  mode = Ended;
}) ≡ true
unfolding everything fits
session_022 = refl

-- ended with an internal name
session_023 : fits numbers_001 (record {
  configuration = [];
  history = [] ∷ [] ∷ [] ∷ [] ∷ [] ∷ [] ∷ [] ∷ [] ∷ [] ∷ [] ∷ [] ∷ [];
  internal = (101 ∷ []) ∷ [];
  external = [];
  mode = Ended;
}) ≡ false
unfolding everything fits
session_023 = refl

-- ended with an external name
session_024 : fits numbers_001 (record {
  configuration = [];
  history = [] ∷ [] ∷ [] ∷ [] ∷ [] ∷ [] ∷ [] ∷ [] ∷ [] ∷ [] ∷ [] ∷ [];
  internal = [];
  external = (101 ∷ []) ∷ [];
  mode = Ended;
}) ≡ false
unfolding everything fits
session_024 = refl

-- stored at a row that is no history
session_025 : fits numbers_001 (record {
  configuration = 1 ∷ 2 ∷ 3 ∷ 6 ∷ 7 ∷ [];
  history = [] ∷ (2 ∷ []) ∷ [] ∷ [] ∷ [] ∷ [] ∷ [] ∷ [] ∷ [] ∷ [] ∷ [] ∷ [];
  internal = [];
  external = [];
  mode = Running;
}) ≡ false
unfolding everything fits
session_025 = refl

-- stored at the root
session_026 : fits numbers_001 (record {
  configuration = 1 ∷ 2 ∷ 3 ∷ 6 ∷ 7 ∷ [];
  history = (1 ∷ []) ∷ [] ∷ [] ∷ [] ∷ [] ∷ [] ∷ [] ∷ [] ∷ [] ∷ [] ∷ [] ∷ [];
  internal = [];
  external = [];
  mode = Running;
}) ≡ false
unfolding everything fits
session_026 = refl

-- a history list too short
session_027 : fits numbers_001 (record {
  configuration = 1 ∷ 2 ∷ 3 ∷ 6 ∷ 7 ∷ [];
  history = [] ∷ [] ∷ [] ∷ [] ∷ [] ∷ [] ∷ [] ∷ [] ∷ [] ∷ [] ∷ [];
  internal = [];
  external = [];
  mode = Running;
}) ≡ false
unfolding everything fits
session_027 = refl

-- a history list too long
session_028 : fits numbers_001 (record {
  configuration = 1 ∷ 2 ∷ 3 ∷ 6 ∷ 7 ∷ [];
  history = [] ∷ [] ∷ [] ∷ [] ∷ [] ∷ [] ∷ [] ∷ [] ∷ [] ∷ [] ∷ [] ∷ [] ∷ [];
  internal = [];
  external = [];
  mode = Running;
}) ≡ false
unfolding everything fits
session_028 = refl

-- no history lists
session_029 : fits numbers_001 (record {
  configuration = 1 ∷ 2 ∷ 3 ∷ 6 ∷ 7 ∷ [];
  history = [];
  internal = [];
  external = [];
  mode = Running;
}) ≡ false
unfolding everything fits
session_029 = refl

-- names in both queues
session_030 : fits numbers_001 (record {
  configuration = 1 ∷ 2 ∷ 3 ∷ 6 ∷ 7 ∷ [];
  history = [] ∷ [] ∷ [] ∷ [] ∷ [] ∷ [] ∷ [] ∷ [] ∷ [] ∷ [] ∷ [] ∷ [];
  internal = (101 ∷ 49 ∷ []) ∷ (100 ∷ 111 ∷ 110 ∷ 101 ∷ 46 ∷ 115 ∷ 116 ∷ 97 ∷ 116 ∷ 101 ∷ 46 ∷ 83 ∷ 49 ∷ []) ∷ [];
  external = (97 ∷ 45 ∷ 98 ∷ 46 ∷ 95 ∷ 57 ∷ []) ∷ (55 ∷ []) ∷ [];
  mode = Running;
}) ≡ true
unfolding everything fits
session_030 = refl

-- an empty name
session_031 : fits numbers_001 (record {
  configuration = 1 ∷ 2 ∷ 3 ∷ 6 ∷ 7 ∷ [];
  history = [] ∷ [] ∷ [] ∷ [] ∷ [] ∷ [] ∷ [] ∷ [] ∷ [] ∷ [] ∷ [] ∷ [];
  internal = [] ∷ [];
  external = [];
  mode = Running;
}) ≡ false
unfolding everything fits
session_031 = refl

-- a star in the internal queue
session_032 : fits numbers_001 (record {
  configuration = 1 ∷ 2 ∷ 3 ∷ 6 ∷ 7 ∷ [];
  history = [] ∷ [] ∷ [] ∷ [] ∷ [] ∷ [] ∷ [] ∷ [] ∷ [] ∷ [] ∷ [] ∷ [];
  internal = (42 ∷ []) ∷ [];
  external = [];
  mode = Running;
}) ≡ false
unfolding everything fits
session_032 = refl

-- a star in the external queue
session_033 : fits numbers_001 (record {
  configuration = 1 ∷ 2 ∷ 3 ∷ 6 ∷ 7 ∷ [];
  history = [] ∷ [] ∷ [] ∷ [] ∷ [] ∷ [] ∷ [] ∷ [] ∷ [] ∷ [] ∷ [] ∷ [];
  internal = [];
  external = (101 ∷ []) ∷ (42 ∷ []) ∷ [];
  mode = Running;
}) ≡ false
unfolding everything fits
session_033 = refl

-- a descriptor in a queue
session_034 : fits numbers_001 (record {
  configuration = 1 ∷ 2 ∷ 3 ∷ 6 ∷ 7 ∷ [];
  history = [] ∷ [] ∷ [] ∷ [] ∷ [] ∷ [] ∷ [] ∷ [] ∷ [] ∷ [] ∷ [] ∷ [];
  internal = [];
  external = (97 ∷ 46 ∷ 42 ∷ []) ∷ [];
  mode = Running;
}) ≡ false
unfolding everything fits
session_034 = refl

-- a name with an empty token
session_035 : fits numbers_001 (record {
  configuration = 1 ∷ 2 ∷ 3 ∷ 6 ∷ 7 ∷ [];
  history = [] ∷ [] ∷ [] ∷ [] ∷ [] ∷ [] ∷ [] ∷ [] ∷ [] ∷ [] ∷ [] ∷ [];
  internal = [];
  external = (97 ∷ 46 ∷ 46 ∷ 98 ∷ []) ∷ [];
  mode = Running;
}) ≡ false
unfolding everything fits
session_035 = refl

-- a name that ends with a dot
session_036 : fits numbers_001 (record {
  configuration = 1 ∷ 2 ∷ 3 ∷ 6 ∷ 7 ∷ [];
  history = [] ∷ [] ∷ [] ∷ [] ∷ [] ∷ [] ∷ [] ∷ [] ∷ [] ∷ [] ∷ [] ∷ [];
  internal = (97 ∷ 46 ∷ []) ∷ [];
  external = [];
  mode = Running;
}) ≡ false
unfolding everything fits
session_036 = refl

-- a name with a zero
session_037 : fits numbers_001 (record {
  configuration = 1 ∷ 2 ∷ 3 ∷ 6 ∷ 7 ∷ [];
  history = [] ∷ [] ∷ [] ∷ [] ∷ [] ∷ [] ∷ [] ∷ [] ∷ [] ∷ [] ∷ [] ∷ [];
  internal = (97 ∷ 0 ∷ []) ∷ [];
  external = [];
  mode = Running;
}) ≡ false
unfolding everything fits
session_037 = refl

-- a name with byte 128
session_038 : fits numbers_001 (record {
  configuration = 1 ∷ 2 ∷ 3 ∷ 6 ∷ 7 ∷ [];
  history = [] ∷ [] ∷ [] ∷ [] ∷ [] ∷ [] ∷ [] ∷ [] ∷ [] ∷ [] ∷ [] ∷ [];
  internal = [];
  external = (97 ∷ 128 ∷ []) ∷ [];
  mode = Running;
}) ≡ false
unfolding everything fits
session_038 = refl

-- a name of 63 bytes
session_039 : fits numbers_001 (record {
  configuration = 1 ∷ 2 ∷ 3 ∷ 6 ∷ 7 ∷ [];
  history = [] ∷ [] ∷ [] ∷ [] ∷ [] ∷ [] ∷ [] ∷ [] ∷ [] ∷ [] ∷ [] ∷ [];
  internal = [];
  external = (97 ∷ 97 ∷ 97 ∷ 97 ∷ 97 ∷ 97 ∷ 97 ∷ 97 ∷ 97 ∷ 97 ∷ 97 ∷ 97 ∷ 97 ∷ 97 ∷ 97 ∷ 97 ∷ 97 ∷ 97 ∷ 97 ∷ 97 ∷ 97 ∷
      97 ∷ 97 ∷ 97 ∷ 97 ∷ 97 ∷ 97 ∷ 97 ∷ 97 ∷ 97 ∷ 97 ∷ 97 ∷ 97 ∷ 97 ∷ 97 ∷ 97 ∷ 97 ∷ 97 ∷ 97 ∷ 97 ∷ 97 ∷ 97 ∷ 97 ∷
      97 ∷ 97 ∷ 97 ∷ 97 ∷ 97 ∷ 97 ∷ 97 ∷ 97 ∷ 97 ∷ 97 ∷ 97 ∷ 97 ∷ 97 ∷ 97 ∷ 97 ∷ 97 ∷ 97 ∷ 97 ∷ 97 ∷ 97 ∷ []) ∷ [];
  mode = Running;
}) ≡ true
unfolding everything fits
session_039 = refl

-- a name of 64 bytes
session_040 : fits numbers_001 (record {
  configuration = 1 ∷ 2 ∷ 3 ∷ 6 ∷ 7 ∷ [];
  history = [] ∷ [] ∷ [] ∷ [] ∷ [] ∷ [] ∷ [] ∷ [] ∷ [] ∷ [] ∷ [] ∷ [];
  internal = [];
  external = (97 ∷ 97 ∷ 97 ∷ 97 ∷ 97 ∷ 97 ∷ 97 ∷ 97 ∷ 97 ∷ 97 ∷ 97 ∷ 97 ∷ 97 ∷ 97 ∷ 97 ∷ 97 ∷ 97 ∷ 97 ∷ 97 ∷ 97 ∷ 97 ∷
      97 ∷ 97 ∷ 97 ∷ 97 ∷ 97 ∷ 97 ∷ 97 ∷ 97 ∷ 97 ∷ 97 ∷ 97 ∷ 97 ∷ 97 ∷ 97 ∷ 97 ∷ 97 ∷ 97 ∷ 97 ∷ 97 ∷ 97 ∷ 97 ∷ 97 ∷
      97 ∷ 97 ∷ 97 ∷ 97 ∷ 97 ∷ 97 ∷ 97 ∷ 97 ∷ 97 ∷ 97 ∷ 97 ∷ 97 ∷ 97 ∷ 97 ∷ 97 ∷ 97 ∷ 97 ∷ 97 ∷ 97 ∷ 97 ∷ 97 ∷ []) ∷ [];
  mode = Running;
}) ≡ false
unfolding everything fits
session_040 = refl

-- 32 names
session_041 : fits numbers_001 (record {
  configuration = 1 ∷ 2 ∷ 3 ∷ 6 ∷ 7 ∷ [];
  history = [] ∷ [] ∷ [] ∷ [] ∷ [] ∷ [] ∷ [] ∷ [] ∷ [] ∷ [] ∷ [] ∷ [];
  internal = (101 ∷ []) ∷ (101 ∷ []) ∷ (101 ∷ []) ∷ (101 ∷ []) ∷ (101 ∷ []) ∷ (101 ∷ []) ∷ (101 ∷ []) ∷ (101 ∷ []) ∷
      (101 ∷ []) ∷ (101 ∷ []) ∷ (101 ∷ []) ∷ (101 ∷ []) ∷ (101 ∷ []) ∷ (101 ∷ []) ∷ (101 ∷ []) ∷ (101 ∷ []) ∷ (101 ∷
      []) ∷ (101 ∷ []) ∷ (101 ∷ []) ∷ (101 ∷ []) ∷ (101 ∷ []) ∷ (101 ∷ []) ∷ (101 ∷ []) ∷ (101 ∷ []) ∷ (101 ∷ []) ∷
      (101 ∷ []) ∷ (101 ∷ []) ∷ (101 ∷ []) ∷ (101 ∷ []) ∷ (101 ∷ []) ∷ (101 ∷ []) ∷ (101 ∷ []) ∷ [];
  external = [];
  mode = Running;
}) ≡ true
unfolding everything fits
session_041 = refl

-- 33 internal names
session_042 : fits numbers_001 (record {
  configuration = 1 ∷ 2 ∷ 3 ∷ 6 ∷ 7 ∷ [];
  history = [] ∷ [] ∷ [] ∷ [] ∷ [] ∷ [] ∷ [] ∷ [] ∷ [] ∷ [] ∷ [] ∷ [];
  internal = (101 ∷ []) ∷ (101 ∷ []) ∷ (101 ∷ []) ∷ (101 ∷ []) ∷ (101 ∷ []) ∷ (101 ∷ []) ∷ (101 ∷ []) ∷ (101 ∷ []) ∷
      (101 ∷ []) ∷ (101 ∷ []) ∷ (101 ∷ []) ∷ (101 ∷ []) ∷ (101 ∷ []) ∷ (101 ∷ []) ∷ (101 ∷ []) ∷ (101 ∷ []) ∷ (101 ∷
      []) ∷ (101 ∷ []) ∷ (101 ∷ []) ∷ (101 ∷ []) ∷ (101 ∷ []) ∷ (101 ∷ []) ∷ (101 ∷ []) ∷ (101 ∷ []) ∷ (101 ∷ []) ∷
      (101 ∷ []) ∷ (101 ∷ []) ∷ (101 ∷ []) ∷ (101 ∷ []) ∷ (101 ∷ []) ∷ (101 ∷ []) ∷ (101 ∷ []) ∷ (101 ∷ []) ∷ [];
  external = [];
  mode = Running;
}) ≡ false
unfolding everything fits
session_042 = refl

-- 33 external names
session_043 : fits numbers_001 (record {
  configuration = 1 ∷ 2 ∷ 3 ∷ 6 ∷ 7 ∷ [];
  history = [] ∷ [] ∷ [] ∷ [] ∷ [] ∷ [] ∷ [] ∷ [] ∷ [] ∷ [] ∷ [] ∷ [];
  internal = [];
  external = (101 ∷ []) ∷ (101 ∷ []) ∷ (101 ∷ []) ∷ (101 ∷ []) ∷ (101 ∷ []) ∷ (101 ∷ []) ∷ (101 ∷ []) ∷ (101 ∷ []) ∷
      (101 ∷ []) ∷ (101 ∷ []) ∷ (101 ∷ []) ∷ (101 ∷ []) ∷ (101 ∷ []) ∷ (101 ∷ []) ∷ (101 ∷ []) ∷ (101 ∷ []) ∷ (101 ∷
      []) ∷ (101 ∷ []) ∷ (101 ∷ []) ∷ (101 ∷ []) ∷ (101 ∷ []) ∷ (101 ∷ []) ∷ (101 ∷ []) ∷ (101 ∷ []) ∷ (101 ∷ []) ∷
      (101 ∷ []) ∷ (101 ∷ []) ∷ (101 ∷ []) ∷ (101 ∷ []) ∷ (101 ∷ []) ∷ (101 ∷ []) ∷ (101 ∷ []) ∷ (101 ∷ []) ∷ [];
  mode = Running;
}) ≡ false
unfolding everything fits
session_043 = refl

abbrev numbers_002 : List ℕ
numbers_002 = 11 ∷ 2 ∷ 4 ∷ 2 ∷ 0 ∷ 12 ∷ 0 ∷ 65535 ∷ 65535 ∷ 0 ∷ 0 ∷ 0 ∷ 0 ∷ 0 ∷ 0 ∷ 0 ∷ 0 ∷ 1 ∷ 0 ∷ 0 ∷ 0 ∷ 0 ∷ 0 ∷ 0 ∷
    0 ∷ 0 ∷ 0 ∷ 0 ∷ 1 ∷ 1 ∷ 1 ∷ 0 ∷ 0 ∷ 0 ∷ 0 ∷ 0 ∷ 0 ∷ 0 ∷ 0 ∷ 2 ∷ 1 ∷ 2 ∷ 0 ∷ 0 ∷ 0 ∷ 0 ∷ 0 ∷ 0 ∷ 0 ∷ 0 ∷ 1 ∷ 3 ∷ 3 ∷
    0 ∷ 0 ∷ 0 ∷ 0 ∷ 0 ∷ 0 ∷ 0 ∷ 0 ∷ 1 ∷ 4 ∷ 4 ∷ 0 ∷ 0 ∷ 0 ∷ 0 ∷ 0 ∷ 0 ∷ 0 ∷ 0 ∷ 1 ∷ 4 ∷ 5 ∷ 0 ∷ 0 ∷ 0 ∷ 0 ∷ 0 ∷ 0 ∷ 0 ∷
    0 ∷ 1 ∷ 3 ∷ 6 ∷ 0 ∷ 0 ∷ 0 ∷ 0 ∷ 0 ∷ 0 ∷ 0 ∷ 0 ∷ 5 ∷ 1 ∷ 7 ∷ 0 ∷ 0 ∷ 0 ∷ 0 ∷ 0 ∷ 1 ∷ 0 ∷ 0 ∷ 4 ∷ 1 ∷ 8 ∷ 0 ∷ 0 ∷ 0 ∷
    0 ∷ 1 ∷ 1 ∷ 0 ∷ 0 ∷ 1 ∷ 0 ∷ 9 ∷ 0 ∷ 0 ∷ 0 ∷ 0 ∷ 0 ∷ 0 ∷ 0 ∷ 0 ∷ 1 ∷ 0 ∷ 1 ∷ 65535 ∷ 0 ∷ 2 ∷ 1 ∷ 0 ∷ 0 ∷ 2 ∷ 1 ∷ 1 ∷
    65535 ∷ 0 ∷ 3 ∷ 1 ∷ 0 ∷ 0 ∷ 2 ∷ 2 ∷ 10 ∷ 3 ∷ 11 ∷ 10 ∷ []

-- well formed
session_044 : fits numbers_002 (record {
  configuration = 10 ∷ [];
  history = [] ∷ [] ∷ [] ∷ [] ∷ [] ∷ [] ∷ [] ∷ [] ∷ (5 ∷ 7 ∷ []) ∷ (3 ∷ []) ∷ [] ∷ [];
  internal = [];
  external = [];
  mode = Running;
}) ≡ true
unfolding everything fits
session_044 = refl

-- nothing stored
session_045 : fits numbers_002 (record {
  configuration = 10 ∷ [];
  history = [] ∷ [] ∷ [] ∷ [] ∷ [] ∷ [] ∷ [] ∷ [] ∷ [] ∷ [] ∷ [] ∷ [];
  internal = [];
  external = [];
  mode = Running;
}) ≡ true
unfolding everything fits
session_045 = refl

-- the deep history alone stored
session_046 : fits numbers_002 (record {
  configuration = 10 ∷ [];
  history = [] ∷ [] ∷ [] ∷ [] ∷ [] ∷ [] ∷ [] ∷ [] ∷ (5 ∷ 7 ∷ []) ∷ [] ∷ [] ∷ [];
  internal = [];
  external = [];
  mode = Running;
}) ≡ true
unfolding everything fits
session_046 = refl

-- the shallow history alone stored
session_047 : fits numbers_002 (record {
  configuration = 10 ∷ [];
  history = [] ∷ [] ∷ [] ∷ [] ∷ [] ∷ [] ∷ [] ∷ [] ∷ [] ∷ (3 ∷ []) ∷ [] ∷ [];
  internal = [];
  external = [];
  mode = Running;
}) ≡ true
unfolding everything fits
session_047 = refl

-- histories that do not agree
session_048 : fits numbers_002 (record {
  configuration = 10 ∷ [];
  history = [] ∷ [] ∷ [] ∷ [] ∷ [] ∷ [] ∷ [] ∷ [] ∷ (5 ∷ 7 ∷ []) ∷ (2 ∷ []) ∷ [] ∷ [];
  internal = [];
  external = [];
  mode = Running;
}) ≡ true
unfolding everything fits
session_048 = refl

-- another deep set
session_049 : fits numbers_002 (record {
  configuration = 10 ∷ [];
  history = [] ∷ [] ∷ [] ∷ [] ∷ [] ∷ [] ∷ [] ∷ [] ∷ (6 ∷ 7 ∷ []) ∷ (3 ∷ []) ∷ [] ∷ [];
  internal = [];
  external = [];
  mode = Running;
}) ≡ true
unfolding everything fits
session_049 = refl

-- a deep set of one state
session_050 : fits numbers_002 (record {
  configuration = 10 ∷ [];
  history = [] ∷ [] ∷ [] ∷ [] ∷ [] ∷ [] ∷ [] ∷ [] ∷ (2 ∷ []) ∷ (3 ∷ []) ∷ [] ∷ [];
  internal = [];
  external = [];
  mode = Running;
}) ≡ true
unfolding everything fits
session_050 = refl

-- a deep set without a region
session_051 : fits numbers_002 (record {
  configuration = 10 ∷ [];
  history = [] ∷ [] ∷ [] ∷ [] ∷ [] ∷ [] ∷ [] ∷ [] ∷ (5 ∷ []) ∷ (3 ∷ []) ∷ [] ∷ [];
  internal = [];
  external = [];
  mode = Running;
}) ≡ false
unfolding everything fits
session_051 = refl

-- a deep set with two children of a state
session_052 : fits numbers_002 (record {
  configuration = 10 ∷ [];
  history = [] ∷ [] ∷ [] ∷ [] ∷ [] ∷ [] ∷ [] ∷ [] ∷ (5 ∷ 6 ∷ 7 ∷ []) ∷ (3 ∷ []) ∷ [] ∷ [];
  internal = [];
  external = [];
  mode = Running;
}) ≡ false
unfolding everything fits
session_052 = refl

-- a deep set across two children
session_053 : fits numbers_002 (record {
  configuration = 10 ∷ [];
  history = [] ∷ [] ∷ [] ∷ [] ∷ [] ∷ [] ∷ [] ∷ [] ∷ (2 ∷ 7 ∷ []) ∷ (3 ∷ []) ∷ [] ∷ [];
  internal = [];
  external = [];
  mode = Running;
}) ≡ false
unfolding everything fits
session_053 = refl

-- a deep set with a row that is not atomic
session_054 : fits numbers_002 (record {
  configuration = 10 ∷ [];
  history = [] ∷ [] ∷ [] ∷ [] ∷ [] ∷ [] ∷ [] ∷ [] ∷ (4 ∷ 7 ∷ []) ∷ (3 ∷ []) ∷ [] ∷ [];
  internal = [];
  external = [];
  mode = Running;
}) ≡ false
unfolding everything fits
session_054 = refl

-- a deep set with all that was active
session_055 : fits numbers_002 (record {
  configuration = 10 ∷ [];
  history = [] ∷ [] ∷ [] ∷ [] ∷ [] ∷ [] ∷ [] ∷ [] ∷ (3 ∷ 4 ∷ 5 ∷ 7 ∷ []) ∷ (3 ∷ []) ∷ [] ∷ [];
  internal = [];
  external = [];
  mode = Running;
}) ≡ false
unfolding everything fits
session_055 = refl

-- a deep set with a row outside
session_056 : fits numbers_002 (record {
  configuration = 10 ∷ [];
  history = [] ∷ [] ∷ [] ∷ [] ∷ [] ∷ [] ∷ [] ∷ [] ∷ (10 ∷ []) ∷ (3 ∷ []) ∷ [] ∷ [];
  internal = [];
  external = [];
  mode = Running;
}) ≡ false
unfolding everything fits
session_056 = refl

-- a deep set with a history
session_057 : fits numbers_002 (record {
  configuration = 10 ∷ [];
  history = [] ∷ [] ∷ [] ∷ [] ∷ [] ∷ [] ∷ [] ∷ [] ∷ (9 ∷ []) ∷ (3 ∷ []) ∷ [] ∷ [];
  internal = [];
  external = [];
  mode = Running;
}) ≡ false
unfolding everything fits
session_057 = refl

-- a shallow set of two children
session_058 : fits numbers_002 (record {
  configuration = 10 ∷ [];
  history = [] ∷ [] ∷ [] ∷ [] ∷ [] ∷ [] ∷ [] ∷ [] ∷ (5 ∷ 7 ∷ []) ∷ (2 ∷ 3 ∷ []) ∷ [] ∷ [];
  internal = [];
  external = [];
  mode = Running;
}) ≡ false
unfolding everything fits
session_058 = refl

-- a shallow set with a grandchild
session_059 : fits numbers_002 (record {
  configuration = 10 ∷ [];
  history = [] ∷ [] ∷ [] ∷ [] ∷ [] ∷ [] ∷ [] ∷ [] ∷ (5 ∷ 7 ∷ []) ∷ (4 ∷ []) ∷ [] ∷ [];
  internal = [];
  external = [];
  mode = Running;
}) ≡ false
unfolding everything fits
session_059 = refl

-- a shallow set with the parent
session_060 : fits numbers_002 (record {
  configuration = 10 ∷ [];
  history = [] ∷ [] ∷ [] ∷ [] ∷ [] ∷ [] ∷ [] ∷ [] ∷ (5 ∷ 7 ∷ []) ∷ (1 ∷ []) ∷ [] ∷ [];
  internal = [];
  external = [];
  mode = Running;
}) ≡ false
unfolding everything fits
session_060 = refl

-- a shallow set with a row outside
session_061 : fits numbers_002 (record {
  configuration = 10 ∷ [];
  history = [] ∷ [] ∷ [] ∷ [] ∷ [] ∷ [] ∷ [] ∷ [] ∷ (5 ∷ 7 ∷ []) ∷ (10 ∷ []) ∷ [] ∷ [];
  internal = [];
  external = [];
  mode = Running;
}) ≡ false
unfolding everything fits
session_061 = refl

-- a stored row past the count
session_062 : fits numbers_002 (record {
  configuration = 10 ∷ [];
  history = [] ∷ [] ∷ [] ∷ [] ∷ [] ∷ [] ∷ [] ∷ [] ∷ (5 ∷ 7 ∷ []) ∷ (11 ∷ []) ∷ [] ∷ [];
  internal = [];
  external = [];
  mode = Running;
}) ≡ false
unfolding everything fits
session_062 = refl

-- stored at the parent of a history, what the history stored
session_063 : fits numbers_002 (record {
  configuration = 10 ∷ [];
  history = [] ∷ (3 ∷ []) ∷ [] ∷ [] ∷ [] ∷ [] ∷ [] ∷ [] ∷ (5 ∷ 7 ∷ []) ∷ (3 ∷ []) ∷ [] ∷ [];
  internal = [];
  external = [];
  mode = Running;
}) ≡ false
unfolding everything fits
session_063 = refl

-- stored at an atomic state, itself
session_064 : fits numbers_002 (record {
  configuration = 10 ∷ [];
  history = [] ∷ [] ∷ (2 ∷ []) ∷ [] ∷ [] ∷ [] ∷ [] ∷ [] ∷ (5 ∷ 7 ∷ []) ∷ (3 ∷ []) ∷ [] ∷ [];
  internal = [];
  external = [];
  mode = Running;
}) ≡ false
unfolding everything fits
session_064 = refl

-- stored at a parallel, its regions
session_065 : fits numbers_002 (record {
  configuration = 10 ∷ [];
  history = [] ∷ [] ∷ [] ∷ (4 ∷ 7 ∷ []) ∷ [] ∷ [] ∷ [] ∷ [] ∷ (5 ∷ 7 ∷ []) ∷ (3 ∷ []) ∷ [] ∷ [];
  internal = [];
  external = [];
  mode = Running;
}) ≡ false
unfolding everything fits
session_065 = refl

-- stored at a compound state, its child
session_066 : fits numbers_002 (record {
  configuration = 10 ∷ [];
  history = [] ∷ [] ∷ [] ∷ [] ∷ (5 ∷ []) ∷ [] ∷ [] ∷ [] ∷ (5 ∷ 7 ∷ []) ∷ (3 ∷ []) ∷ [] ∷ [];
  internal = [];
  external = [];
  mode = Running;
}) ≡ false
unfolding everything fits
session_066 = refl

-- stored at the row behind a history, what the history stored
session_067 : fits numbers_002 (record {
  configuration = 10 ∷ [];
  history = [] ∷ [] ∷ [] ∷ [] ∷ [] ∷ [] ∷ [] ∷ [] ∷ (5 ∷ 7 ∷ []) ∷ (3 ∷ []) ∷ (3 ∷ []) ∷ [];
  internal = [];
  external = [];
  mode = Running;
}) ≡ false
unfolding everything fits
session_067 = refl

-- stored at another row and at no history
session_068 : fits numbers_002 (record {
  configuration = 10 ∷ [];
  history = [] ∷ (3 ∷ []) ∷ [] ∷ [] ∷ [] ∷ [] ∷ [] ∷ [] ∷ [] ∷ [] ∷ [] ∷ [];
  internal = [];
  external = [];
  mode = Running;
}) ≡ false
unfolding everything fits
session_068 = refl

-- a history row listed
session_069 : fits numbers_002 (record {
  configuration = 1 ∷ 2 ∷ 8 ∷ [];
  history = [] ∷ [] ∷ [] ∷ [] ∷ [] ∷ [] ∷ [] ∷ [] ∷ (5 ∷ 7 ∷ []) ∷ (3 ∷ []) ∷ [] ∷ [];
  internal = [];
  external = [];
  mode = Running;
}) ≡ false
unfolding everything fits
session_069 = refl

-- a history row in place of a child
session_070 : fits numbers_002 (record {
  configuration = 1 ∷ 9 ∷ [];
  history = [] ∷ [] ∷ [] ∷ [] ∷ [] ∷ [] ∷ [] ∷ [] ∷ (5 ∷ 7 ∷ []) ∷ (3 ∷ []) ∷ [] ∷ [];
  internal = [];
  external = [];
  mode = Running;
}) ≡ false
unfolding everything fits
session_070 = refl

-- inside, with what was stored
session_071 : fits numbers_002 (record {
  configuration = 1 ∷ 3 ∷ 4 ∷ 6 ∷ 7 ∷ [];
  history = [] ∷ [] ∷ [] ∷ [] ∷ [] ∷ [] ∷ [] ∷ [] ∷ (5 ∷ 7 ∷ []) ∷ (3 ∷ []) ∷ [] ∷ [];
  internal = [];
  external = [];
  mode = Running;
}) ≡ true
unfolding everything fits
session_071 = refl

-- ended, with what was stored
session_072 : fits numbers_002 (record {
  configuration = [];
  history = [] ∷ [] ∷ [] ∷ [] ∷ [] ∷ [] ∷ [] ∷ [] ∷ (5 ∷ 7 ∷ []) ∷ (3 ∷ []) ∷ [] ∷ [];
  internal = [];
  external = [];
  mode = Ended;
}) ≡ true
unfolding everything fits
session_072 = refl

abbrev numbers_003 : List ℕ
numbers_003 = 11 ∷ 1 ∷ 3 ∷ 1 ∷ 0 ∷ 11 ∷ 0 ∷ 65535 ∷ 65535 ∷ 0 ∷ 0 ∷ 0 ∷ 0 ∷ 0 ∷ 0 ∷ 0 ∷ 0 ∷ 2 ∷ 0 ∷ 0 ∷ 0 ∷ 0 ∷ 0 ∷ 0 ∷
    0 ∷ 0 ∷ 0 ∷ 0 ∷ 1 ∷ 1 ∷ 1 ∷ 0 ∷ 0 ∷ 0 ∷ 0 ∷ 0 ∷ 0 ∷ 0 ∷ 0 ∷ 1 ∷ 2 ∷ 2 ∷ 0 ∷ 0 ∷ 0 ∷ 0 ∷ 0 ∷ 0 ∷ 0 ∷ 0 ∷ 1 ∷ 2 ∷ 3 ∷
    0 ∷ 0 ∷ 0 ∷ 0 ∷ 0 ∷ 0 ∷ 0 ∷ 0 ∷ 2 ∷ 1 ∷ 4 ∷ 0 ∷ 0 ∷ 0 ∷ 0 ∷ 0 ∷ 0 ∷ 0 ∷ 0 ∷ 1 ∷ 5 ∷ 5 ∷ 0 ∷ 0 ∷ 0 ∷ 0 ∷ 0 ∷ 0 ∷ 0 ∷
    0 ∷ 1 ∷ 5 ∷ 6 ∷ 0 ∷ 0 ∷ 0 ∷ 0 ∷ 0 ∷ 0 ∷ 0 ∷ 0 ∷ 5 ∷ 1 ∷ 7 ∷ 0 ∷ 0 ∷ 0 ∷ 0 ∷ 0 ∷ 1 ∷ 0 ∷ 0 ∷ 4 ∷ 1 ∷ 8 ∷ 0 ∷ 0 ∷ 0 ∷
    0 ∷ 1 ∷ 1 ∷ 0 ∷ 0 ∷ 1 ∷ 0 ∷ 9 ∷ 0 ∷ 0 ∷ 0 ∷ 0 ∷ 0 ∷ 0 ∷ 0 ∷ 0 ∷ 1 ∷ 0 ∷ 1 ∷ 65535 ∷ 0 ∷ 2 ∷ 1 ∷ 0 ∷ 0 ∷ 4 ∷ 2 ∷
    10 ∷ 10 ∷ []

-- well formed
session_073 : fits numbers_003 (record {
  configuration = 10 ∷ [];
  history = [] ∷ [] ∷ [] ∷ [] ∷ [] ∷ [] ∷ [] ∷ [] ∷ (3 ∷ 6 ∷ 7 ∷ []) ∷ (2 ∷ 5 ∷ []) ∷ [] ∷ [];
  internal = [];
  external = [];
  mode = Running;
}) ≡ true
unfolding everything fits
session_073 = refl

-- a shallow set without a region
session_074 : fits numbers_003 (record {
  configuration = 10 ∷ [];
  history = [] ∷ [] ∷ [] ∷ [] ∷ [] ∷ [] ∷ [] ∷ [] ∷ (3 ∷ 6 ∷ 7 ∷ []) ∷ (2 ∷ []) ∷ [] ∷ [];
  internal = [];
  external = [];
  mode = Running;
}) ≡ false
unfolding everything fits
session_074 = refl

-- a shallow set of another region
session_075 : fits numbers_003 (record {
  configuration = 10 ∷ [];
  history = [] ∷ [] ∷ [] ∷ [] ∷ [] ∷ [] ∷ [] ∷ [] ∷ (3 ∷ 6 ∷ 7 ∷ []) ∷ (5 ∷ []) ∷ [] ∷ [];
  internal = [];
  external = [];
  mode = Running;
}) ≡ false
unfolding everything fits
session_075 = refl

-- a deep set of other states
session_076 : fits numbers_003 (record {
  configuration = 10 ∷ [];
  history = [] ∷ [] ∷ [] ∷ [] ∷ [] ∷ [] ∷ [] ∷ [] ∷ (4 ∷ 6 ∷ 7 ∷ []) ∷ (2 ∷ 5 ∷ []) ∷ [] ∷ [];
  internal = [];
  external = [];
  mode = Running;
}) ≡ true
unfolding everything fits
session_076 = refl

-- a deep set without a nested region
session_077 : fits numbers_003 (record {
  configuration = 10 ∷ [];
  history = [] ∷ [] ∷ [] ∷ [] ∷ [] ∷ [] ∷ [] ∷ [] ∷ (3 ∷ 6 ∷ []) ∷ (2 ∷ 5 ∷ []) ∷ [] ∷ [];
  internal = [];
  external = [];
  mode = Running;
}) ≡ false
unfolding everything fits
session_077 = refl

-- a deep set without a region
session_078 : fits numbers_003 (record {
  configuration = 10 ∷ [];
  history = [] ∷ [] ∷ [] ∷ [] ∷ [] ∷ [] ∷ [] ∷ [] ∷ (6 ∷ 7 ∷ []) ∷ (2 ∷ 5 ∷ []) ∷ [] ∷ [];
  internal = [];
  external = [];
  mode = Running;
}) ≡ false
unfolding everything fits
session_078 = refl

-- all regions active
session_079 : fits numbers_003 (record {
  configuration = 1 ∷ 2 ∷ 4 ∷ 5 ∷ 6 ∷ 7 ∷ [];
  history = [] ∷ [] ∷ [] ∷ [] ∷ [] ∷ [] ∷ [] ∷ [] ∷ (3 ∷ 6 ∷ 7 ∷ []) ∷ (2 ∷ 5 ∷ []) ∷ [] ∷ [];
  internal = [];
  external = [];
  mode = Running;
}) ≡ true
unfolding everything fits
session_079 = refl

-- a nested region missing
session_080 : fits numbers_003 (record {
  configuration = 1 ∷ 2 ∷ 4 ∷ 5 ∷ 6 ∷ [];
  history = [] ∷ [] ∷ [] ∷ [] ∷ [] ∷ [] ∷ [] ∷ [] ∷ (3 ∷ 6 ∷ 7 ∷ []) ∷ (2 ∷ 5 ∷ []) ∷ [] ∷ [];
  internal = [];
  external = [];
  mode = Running;
}) ≡ false
unfolding everything fits
session_080 = refl

-- a nested parallel missing
session_081 : fits numbers_003 (record {
  configuration = 1 ∷ 2 ∷ 4 ∷ 6 ∷ 7 ∷ [];
  history = [] ∷ [] ∷ [] ∷ [] ∷ [] ∷ [] ∷ [] ∷ [] ∷ (3 ∷ 6 ∷ 7 ∷ []) ∷ (2 ∷ 5 ∷ []) ∷ [] ∷ [];
  internal = [];
  external = [];
  mode = Running;
}) ≡ false
unfolding everything fits
session_081 = refl

-- a nested parallel without regions
session_082 : fits numbers_003 (record {
  configuration = 1 ∷ 2 ∷ 4 ∷ 5 ∷ [];
  history = [] ∷ [] ∷ [] ∷ [] ∷ [] ∷ [] ∷ [] ∷ [] ∷ (3 ∷ 6 ∷ 7 ∷ []) ∷ (2 ∷ 5 ∷ []) ∷ [] ∷ [];
  internal = [];
  external = [];
  mode = Running;
}) ≡ false
unfolding everything fits
session_082 = refl

abbrev numbers_004 : List ℕ
numbers_004 = 5 ∷ 1 ∷ 1 ∷ 1 ∷ 1 ∷ 6 ∷ 0 ∷ 65535 ∷ 65535 ∷ 0 ∷ 0 ∷ 0 ∷ 0 ∷ 0 ∷ 0 ∷ 0 ∷ 0 ∷ 1 ∷ 0 ∷ 0 ∷ 0 ∷ 0 ∷ 0 ∷ 0 ∷
    0 ∷ 0 ∷ 0 ∷ 0 ∷ 3 ∷ 1 ∷ 1 ∷ 0 ∷ 0 ∷ 0 ∷ 0 ∷ 0 ∷ 0 ∷ 0 ∷ 0 ∷ 3 ∷ 0 ∷ 2 ∷ 0 ∷ 1 ∷ 0 ∷ 0 ∷ 0 ∷ 0 ∷ 0 ∷ 0 ∷ 3 ∷ 0 ∷ 3 ∷
    0 ∷ 0 ∷ 0 ∷ 0 ∷ 0 ∷ 0 ∷ 0 ∷ 0 ∷ 1 ∷ 0 ∷ 1 ∷ 65535 ∷ 0 ∷ 0 ∷ 1 ∷ 0 ∷ 0 ∷ 3 ∷ 4 ∷ 0 ∷ 5 ∷ 0 ∷ 0 ∷ []

-- well formed
session_083 : fits numbers_004 (record {
  configuration = 1 ∷ 2 ∷ [];
  history = [] ∷ [] ∷ [] ∷ [] ∷ [] ∷ [];
  internal = (100 ∷ 111 ∷ 110 ∷ 101 ∷ 46 ∷ 115 ∷ 116 ∷ 97 ∷ 116 ∷ 101 ∷ 46 ∷ 115 ∷ []) ∷ [];
  external = [];
  mode = Running;
}) ≡ true
unfolding everything fits
session_083 = refl

-- closing, the final not under root
session_084 : fits numbers_004 (record {
  configuration = 1 ∷ 2 ∷ [];
  history = [] ∷ [] ∷ [] ∷ [] ∷ [] ∷ [];
  internal = (100 ∷ 111 ∷ 110 ∷ 101 ∷ 46 ∷ 115 ∷ 116 ∷ 97 ∷ 116 ∷ 101 ∷ 46 ∷ 115 ∷ []) ∷ [];
  external = [];
  mode = Closing;
}) ≡ false
unfolding everything fits
session_084 = refl

-- closing
session_085 : fits numbers_004 (record {
  configuration = 3 ∷ [];
  history = [] ∷ [] ∷ [] ∷ [] ∷ [] ∷ [];
  internal = (100 ∷ 111 ∷ 110 ∷ 101 ∷ 46 ∷ 115 ∷ 116 ∷ 97 ∷ 116 ∷ 101 ∷ 46 ∷ 115 ∷ []) ∷ [];
  external = [];
  mode = Closing;
}) ≡ true
unfolding everything fits
session_085 = refl

-- closing on another final, names queued
session_086 : fits numbers_004 (record {
  configuration = 4 ∷ [];
  history = [] ∷ [] ∷ [] ∷ [] ∷ [] ∷ [];
  internal = (101 ∷ []) ∷ [];
  external = (120 ∷ []) ∷ [];
  mode = Closing;
}) ≡ true
unfolding everything fits
session_086 = refl

-- running on a final under root
session_087 : fits numbers_004 (record {
  configuration = 3 ∷ [];
  history = [] ∷ [] ∷ [] ∷ [] ∷ [] ∷ [];
  internal = (100 ∷ 111 ∷ 110 ∷ 101 ∷ 46 ∷ 115 ∷ 116 ∷ 97 ∷ 116 ∷ 101 ∷ 46 ∷ 115 ∷ []) ∷ [];
  external = [];
  mode = Running;
}) ≡ false
unfolding everything fits
session_087 = refl

-- ended on a final under root
session_088 : fits numbers_004 (record {
  configuration = 3 ∷ [];
  history = [] ∷ [] ∷ [] ∷ [] ∷ [] ∷ [];
  internal = (100 ∷ 111 ∷ 110 ∷ 101 ∷ 46 ∷ 115 ∷ 116 ∷ 97 ∷ 116 ∷ 101 ∷ 46 ∷ 115 ∷ []) ∷ [];
  external = [];
  mode = Ended;
}) ≡ false
unfolding everything fits
session_088 = refl

-- closing on two finals
session_089 : fits numbers_004 (record {
  configuration = 3 ∷ 4 ∷ [];
  history = [] ∷ [] ∷ [] ∷ [] ∷ [] ∷ [];
  internal = (100 ∷ 111 ∷ 110 ∷ 101 ∷ 46 ∷ 115 ∷ 116 ∷ 97 ∷ 116 ∷ 101 ∷ 46 ∷ 115 ∷ []) ∷ [];
  external = [];
  mode = Closing;
}) ≡ false
unfolding everything fits
session_089 = refl

-- closing with another row
session_090 : fits numbers_004 (record {
  configuration = 1 ∷ 2 ∷ 3 ∷ [];
  history = [] ∷ [] ∷ [] ∷ [] ∷ [] ∷ [];
  internal = (100 ∷ 111 ∷ 110 ∷ 101 ∷ 46 ∷ 115 ∷ 116 ∷ 97 ∷ 116 ∷ 101 ∷ 46 ∷ 115 ∷ []) ∷ [];
  external = [];
  mode = Closing;
}) ≡ false
unfolding everything fits
session_090 = refl

-- closing with the root
session_091 : fits numbers_004 (record {
  configuration = 0 ∷ 3 ∷ [];
  history = [] ∷ [] ∷ [] ∷ [] ∷ [] ∷ [];
  internal = (100 ∷ 111 ∷ 110 ∷ 101 ∷ 46 ∷ 115 ∷ 116 ∷ 97 ∷ 116 ∷ 101 ∷ 46 ∷ 115 ∷ []) ∷ [];
  external = [];
  mode = Closing;
}) ≡ false
unfolding everything fits
session_091 = refl
