-- A list of calls as it is lent: seven cells a call. The first four are its kind, its room, a and b, which stay; into the other three goes what it gives. The room is the length of the call's
-- own window of the lent trace; the windows stand one behind the other.
use Rattle.std.specs.Prelude.{Bool, true, ◌&&◌, cond, List, [], ◌∷◌, ℕ, ◌-◌, eqb, leb, length, take, drop}
use Rattle.follower.specs.Calls.{Call, starts, posts, clocks, runs}

-- "a number of rounds from 0 to 4,294,967,295"
abbrev pub most_rounds : ℕ
most_rounds = 4294967295

-- a start, a post of a part of the text of so many bytes, a run of a rounds, a clock call of a ticks
unfoldable pub is_kind : ℕ → ℕ → ℕ → ℕ → Bool
is_kind kind a b size = cond (eqb kind 0) true (cond (eqb kind 1) (leb a b && leb b size) (cond (eqb kind 2) (leb a most_rounds) (eqb kind 3)))

-- and there is room for its window
unfoldable pub is_call : ℕ → ℕ → ℕ → ℕ → ℕ → ℕ → Bool
is_call kind room a b size left = leb room left && is_kind kind a b size

unfoldable pub call_of : ℕ → ℕ → ℕ → ℕ → List ℕ → Call
call_of kind room a b text = cond (eqb kind 0) (starts room) (cond (eqb kind 1) (posts (take (b - a) (drop a text))) (cond (eqb kind 2) (runs a room) (clocks a)))

-- the calls from the beginning of the cells up to the first that is none
unfoldable pub calls_of : List ℕ → List ℕ → ℕ → List Call
calls_of [] text left = []
calls_of (kind ∷ []) text left = []
calls_of (kind ∷ room ∷ []) text left = []
calls_of (kind ∷ room ∷ a ∷ []) text left = []
calls_of (kind ∷ room ∷ a ∷ b ∷ []) text left = []
calls_of (kind ∷ room ∷ a ∷ b ∷ n ∷ []) text left = []
calls_of (kind ∷ room ∷ a ∷ b ∷ n ∷ r ∷ []) text left = []
calls_of (kind ∷ room ∷ a ∷ b ∷ n ∷ r ∷ m ∷ cells) text left =
    cond (is_call kind room a b (length text) left) (call_of kind room a b text ∷ calls_of cells text (left - room)) []
