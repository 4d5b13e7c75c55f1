-- A queue of names as bytes: 32 slots of 64 bytes, the names from slot 0 on and zeros behind them.
use Rattle.std.specs.Prelude.{◌≡◌, refl, Bool, ◌&&◌, ℕ, zero, suc, ◌+◌, ◌-◌, ◌*◌, ◌≤◌, ◌<◌, eqb, leb, ltb, get_or, take, replicate}
use Rattle.std.proofs.Math.Path.{sym, ap}
use Rattle.std.proofs.Common.{◌∙◌, zero-add, drop_at, drop-drop}
use Rattle.std.proofs.Math.Bool.{true, false}
use mathlib.Core.List.{List, [], ◌∷◌, ◌++◌, map}
use native.Mathlib.Omega.{arith}
use Rattle.std.proofs.Math.ListN.{length, drop, length-drop}
use Rattle.std.proofs.Math.Seq.{length-take-le}
use borrow.Author.Tests.{ltb-true, ltb-false, lt-ltb, le-leb, leb-true}
use Rattle.definition.specs.Rows.{from, all, same, flat}
use Rattle.definition.specs.Names.{Name, is_name, before_zero, zeros_after}
use Rattle.definition.specs.Tables.{slot_at, name_at, slot_of}
use Rattle.follower.specs.Follower.{most_queued}
use Rattle.follower.specs.Legal.{queue_fits}
use Rattle.laws.specs.Bools.{no, both_ways, bool_case, and_left, and_right, and_true}
use Rattle.laws.specs.Lists.{same_eq, same_self}
use Rattle.laws.specs.Loops.{each_below, below_each}
use Rattle.laws.specs.Parts.{part_end}
use Rattle.laws.specs.Cells.{cells, blank, cells_ext, cells_none, cells_length, cells_cut, cell_in, cell_behind, cells_last, cells_rest, zeros_blank, blank_zeros}
use Rattle.laws.specs.Maps.{map_length, map_at, map_reads, each_map, all_at}
use Rattle.names.specs.Slots.{slot_length, name_in_slot, zeros_in_slot, slot_of_name}

-- slot k is inside the bytes: there is one to read, or room for a name behind k names
pub record SlotInside (bytes : List ℕ) (k : ℕ) : Type 0 where
  pub inside : k * 64 + 64 ≤ length bytes

-- the bytes of 32 slots
pub record QueueSized (bytes : List ℕ) : Type 0 where
  pub size : length bytes ≡ 2048

-- the bytes have count slots, one at least, and zeros behind them
pub record Waiting (bytes : List ℕ) (count : ℕ) : Type 0 where
  pub some : 1 ≤ count
  pub inside : count * 64 ≤ length bytes
  pub behind : drop (count * 64) bytes ≡ replicate (length bytes - count * 64) 0

-- the bytes that hold the names
unfoldable pub queue_bytes : List Name → List ℕ
queue_bytes names = take 2048 (flat slot_of names ++ replicate 2048 0)

-- the first names that the bytes hold
unfoldable pub queue_of : List ℕ → ℕ → List Name
queue_of bytes count = map (name_at bytes) (from count 0)

-- the bytes are those of their names, and the names may wait in a queue
unfoldable pub is_queue : List ℕ → ℕ → Bool
is_queue bytes count = same bytes (queue_bytes (queue_of bytes count)) && queue_fits (queue_of bytes count)

-- a slot that holds a name, or one behind the names
unfoldable pub slot_holds : Bool → List ℕ → Bool
slot_holds true slot = zeros_after slot && is_name (before_zero slot)
slot_holds false slot = all (eqb 0) slot

unfoldable pub holds_at : List ℕ → ℕ → ℕ → Bool
holds_at bytes count k = slot_holds (ltb k count) (slot_at bytes k)

-- a slot that a name waits in
unfoldable pub named_at : List ℕ → ℕ → Bool
named_at bytes k = zeros_after (slot_at bytes k) && is_name (before_zero (slot_at bytes k))

pub named_slot : (bytes : List ℕ) (k : ℕ) (slot : List ℕ) (b : Bool) → slot ≡ slot_at bytes k → b ≡ (zeros_after slot && is_name (before_zero slot)) → b ≡ named_at bytes k
unfolding named_at
named_slot bytes k slot b e h = h ∙ rw e

-- ---- the bytes, slot by slot

pub queue_cells : (names : List Name) → queue_bytes names ≡ cells slot_of 64 32 names
unfolding queue_bytes
queue_cells names = cells_cut slot_of 64 slot_length 32 2048 names (omega arith)

pub queue_length : (names : List Name) → length (queue_bytes names) ≡ 2048
queue_length names = ap length (queue_cells names) ∙ cells_length slot_of 64 slot_length 32 names

pub queue_none : queue_bytes [] ≡ blank 2048
queue_none = queue_cells [] ∙ cells_none slot_of 64 32

-- a name put last, in the slot behind the count names that are in
pub queue_last : (bytes : List ℕ) (count : ℕ) (names : List Name) (name : Name) → bytes ≡ queue_bytes names → count ≡ length names → count < 32 →
    take (count * 64) bytes ++ (slot_of name ++ drop (count * 64 + 64) bytes) ≡ queue_bytes (names ++ (name ∷ []))
queue_last bytes count names name e n h =
    rw (e, n, queue_cells names, queue_cells (names ++ (name ∷ []))) (cells_last slot_of 64 slot_length 32 names name (rw (← n) h))

-- the first name taken
pub queue_rest : (bytes : List ℕ) (name : Name) (names : List Name) → bytes ≡ queue_bytes (name ∷ names) → length names < 32 → drop 64 bytes ++ blank 64 ≡ queue_bytes names
queue_rest bytes name names e h = rw (e, queue_cells (name ∷ names), queue_cells names) (cells_rest slot_of 64 slot_length 31 name names (omega arith))

-- behind the names there are zeros
cells_behind : (n : ℕ) (names : List Name) → length names ≤ n → drop (length names * 64) (cells slot_of 64 n names) ≡ blank (n * 64 - length names * 64)
unfolding cells
cells_behind n [] l = let z : n * 64 - 0 ≡ n * 64 = omega arith in rw z (cells_none slot_of 64 n)
cells_behind zero (name ∷ names) l = absurd (omega arith)
cells_behind (suc n) (name ∷ names) l =
    let m : ℕ = length names in
    let a : suc m * 64 ≡ 64 + m * 64 = omega arith in
    let b : suc n * 64 - suc m * 64 ≡ n * 64 - m * 64 = omega arith in
    rw (b, a, ← drop-drop (m * 64) 64 (slot_of name ++ cells slot_of 64 n names), drop_at (slot_of name) (cells slot_of 64 n names) 64 (slot_length name)) (cells_behind n names (omega arith))

pub queue_waits : (bytes : List ℕ) (names : List Name) (count : ℕ) → bytes ≡ queue_bytes names → count ≡ length names → 0 < count → count ≤ 32 → Waiting bytes count
queue_waits bytes names count e n some few =
    let size : length bytes ≡ 2048 = ap length e ∙ queue_length names in
    record {
      some = omega arith;
      inside = omega arith;
      behind = rw (size, e, n, queue_cells names) (cells_behind 32 names (omega arith));
    }

-- ---- the names of the bytes

pub names_length : (bytes : List ℕ) (count : ℕ) → length (queue_of bytes count) ≡ count
unfolding queue_of
names_length bytes count = map_length (name_at bytes) count 0

pub name_at_lem : (bytes : List ℕ) (count k : ℕ) → k < count → get_or (queue_of bytes count) k [] ≡ name_at bytes k
unfolding queue_of
name_at_lem bytes count k h = map_at (name_at bytes) count 0 k [] h ∙ ap (name_at bytes) (zero-add k)

-- the slot of a name of the queue
slot_in_lem : (names : List Name) (k : ℕ) → k < 32 → k < length names → slot_at (queue_bytes names) k ≡ slot_of (get_or names k [])
unfolding slot_at
slot_in_lem names k h g = rw (queue_cells names) (cell_in slot_of 64 slot_length 32 k names [] h g)

slot_behind : (names : List Name) (k : ℕ) → k < 32 → length names ≤ k → slot_at (queue_bytes names) k ≡ blank 64
unfolding slot_at
slot_behind names k h g = rw (queue_cells names) (cell_behind slot_of 64 slot_length 32 k names h g)

pub first_name : (name : Name) (names : List Name) → is_name name ≡ true → name_at (queue_bytes (name ∷ names)) 0 ≡ name
unfolding name_at
first_name name names h = ap before_zero (slot_in_lem (name ∷ names) 0 (omega arith) (omega arith)) ∙ name_in_slot name h

-- the names are found again
pub names_again : (names : List Name) → queue_fits names ≡ true → queue_of (queue_bytes names) (length names) ≡ names
unfolding queue_of queue_fits name_at
names_again names h =
    let short : length names ≤ 32 = leb-true _ _ (and_left (leb (length names) most_queued) _ h) in
    map_reads (name_at (queue_bytes names)) names 0 []
    (λ k l. ap before_zero (ap (slot_at (queue_bytes names)) (zero-add k) ∙ slot_in_lem names k (omega arith) l) ∙
    name_in_slot (get_or names k []) (all_at is_name names [] (and_right (leb (length names) most_queued) _ h) k l))

-- ---- tests of all bytes, of some of them

all_drop : (p : ℕ → Bool) (n : ℕ) (xs : List ℕ) → all p xs ≡ true → all p (drop n xs) ≡ true
unfolding all
all_drop p zero xs h = h
all_drop p (suc n) [] h = h
all_drop p (suc n) (x ∷ xs) h = all_drop p n xs (and_right (p x) _ h)

all_take : (p : ℕ → Bool) (n : ℕ) (xs : List ℕ) → all p xs ≡ true → all p (take n xs) ≡ true
unfolding all
all_take p zero xs h = refl
all_take p (suc n) [] h = refl
all_take p (suc n) (x ∷ xs) h = and_true (p x) _ (and_left (p x) _ h) (all_take p n xs (and_right (p x) _ h))

-- ---- the test of the bytes, slot by slot

module _ (bytes : List ℕ) (count : ℕ) (sized : QueueSized bytes) where
  slot_size_lem : (k : ℕ) → k < 32 → length (slot_at bytes k) ≡ 64
  unfolding slot_at
  slot_size_lem k h = let size = sized.size in length-take-le 64 (drop (k * 64) bytes) (omega (arith, length-drop (k * 64) bytes))

  -- a slot as the queue of its names has it
  slot_again : (k : ℕ) → k < 32 → holds_at bytes count k ≡ true → slot_at bytes k ≡ slot_at (queue_bytes (queue_of bytes count)) k
  unfolding holds_at slot_holds name_at
  slot_again k h t =
      let n = names_length bytes count in
      bool_case (ltb k count)
      (λ b. let l : k < count = ltb-true _ _ b in
      let z : (zeros_after (slot_at bytes k) && is_name (before_zero (slot_at bytes k))) ≡ true = rw b at t in
      sym (slot_in_lem (queue_of bytes count) k h (omega arith) ∙ ap slot_of (name_at_lem bytes count k l) ∙
      slot_of_name (slot_at bytes k) (slot_size_lem k h) (and_left (zeros_after (slot_at bytes k)) _ z)))
      (λ b. let l : count ≤ k = ltb-false _ _ b in
      let z : all (eqb 0) (slot_at bytes k) ≡ true = rw b at t in
      zeros_blank (slot_at bytes k) z ∙ ap blank (slot_size_lem k h) ∙ sym (slot_behind (queue_of bytes count) k h (omega arith)))

  named : (k : ℕ) → k < count → holds_at bytes count k ≡ true → is_name (name_at bytes k) ≡ true
  unfolding holds_at slot_holds name_at
  named k l t = and_right (zeros_after (slot_at bytes k)) _ (rw (lt-ltb k count l) at t)

  holds_queue : count ≤ 32 → all (holds_at bytes count) (from 32 0) ≡ true → is_queue bytes count ≡ true
  unfolding is_queue queue_fits queue_of
  holds_queue short h =
      let e : bytes ≡ queue_bytes (queue_of bytes count) =
      cells_ext 64 32 bytes (queue_bytes (queue_of bytes count)) sized.size (queue_length (queue_of bytes count))
      (λ k l. unfold slot_at in slot_again k l (each_below (holds_at bytes count) 32 h k l)) in
      and_true (same bytes (queue_bytes (queue_of bytes count))) _ (ap (same bytes) (sym e) ∙ same_self bytes)
      (and_true (leb (length (queue_of bytes count)) most_queued) _ (le-leb (length (queue_of bytes count)) most_queued (rw (names_length bytes count) short))
      (each_map (name_at bytes) is_name count 0
      (λ k l. ap (λ (i : ℕ). is_name (name_at bytes i)) (zero-add k) ∙ named k l (each_below (holds_at bytes count) 32 h k (omega arith)))))

  queue_each : is_queue bytes count ≡ true → (k : ℕ) → k < 32 → holds_at bytes count k ≡ true
  unfolding is_queue queue_fits holds_at slot_holds
  queue_each h k l =
      let e : bytes ≡ queue_bytes (queue_of bytes count) = same_eq _ _ (and_left (same bytes (queue_bytes (queue_of bytes count))) _ h) in
      let q = and_right (same bytes (queue_bytes (queue_of bytes count))) _ h in
      let n = names_length bytes count in
      bool_case (ltb k count)
      (λ b. let m : k < length (queue_of bytes count) = rw n (ltb-true _ _ b) in
      let s : slot_at bytes k ≡ slot_of (get_or (queue_of bytes count) k []) = ap (λ (x : List ℕ). slot_at x k) e ∙ slot_in_lem (queue_of bytes count) k l m in
      let i : is_name (get_or (queue_of bytes count) k []) ≡ true = all_at is_name (queue_of bytes count) [] (and_right (leb (length (queue_of bytes count)) most_queued) _ q) k m in
      rw (b, s) (and_true (zeros_after (slot_of (get_or (queue_of bytes count) k []))) _ (zeros_in_slot _ i) (ap is_name (name_in_slot _ i) ∙ i)))
      (λ b. let m : length (queue_of bytes count) ≤ k = rw n (ltb-false _ _ b) in
      let s : slot_at bytes k ≡ blank 64 = ap (λ (x : List ℕ). slot_at x k) e ∙ slot_behind (queue_of bytes count) k l m in
      rw (b, s) (blank_zeros 64))

  pub queue_long : 32 < count → false ≡ is_queue bytes count
  unfolding is_queue queue_fits
  queue_long long =
      both_ways false (is_queue bytes count) (λ h. absurd (no h))
      (λ h. let l : length (queue_of bytes count) ≤ 32 = leb-true _ _ (and_left (leb (length (queue_of bytes count)) most_queued) _ (and_right (same bytes (queue_bytes (queue_of bytes count))) _ h)) in
      let n = names_length bytes count in absurd (omega arith))

  -- ---- the test with all that is unused as one part

  module _ (short : count ≤ 32) where
    unused : all (eqb 0) (drop (count * 64) bytes) ≡ true → (k : ℕ) → k < 32 → count ≤ k → all (eqb 0) (slot_at bytes k) ≡ true
    unfolding slot_at
    unused h k l m =
        let e : count * 64 + (k * 64 - count * 64) ≡ k * 64 = omega arith in
        let d : drop (k * 64) bytes ≡ drop (k * 64 - count * 64) (drop (count * 64) bytes) = sym (drop-drop (k * 64 - count * 64) (count * 64) bytes ∙ ap (λ (i : ℕ). drop i bytes) e) in
        rw d (all_take (eqb 0) 64 (drop (k * 64 - count * 64) (drop (count * 64) bytes)) (all_drop (eqb 0) (k * 64 - count * 64) (drop (count * 64) bytes) h))

    parts_hold : (all (eqb 0) (drop (count * 64) bytes) && all (named_at bytes) (from count 0)) ≡ true → (k : ℕ) → k < 32 → holds_at bytes count k ≡ true
    unfolding holds_at slot_holds named_at
    parts_hold h k l =
        bool_case (ltb k count)
        (λ b. rw b (each_below (named_at bytes) count (and_right (all (eqb 0) (drop (count * 64) bytes)) _ h) k (ltb-true _ _ b)))
        (λ b. rw b (unused (and_left (all (eqb 0) (drop (count * 64) bytes)) _ h) k l (ltb-false _ _ b)))

    behind_names : is_queue bytes count ≡ true → all (eqb 0) (drop (count * 64) bytes) ≡ true
    unfolding is_queue
    behind_names h =
        let n = names_length bytes count in
        let e : bytes ≡ cells slot_of 64 32 (queue_of bytes count) = same_eq _ _ (and_left (same bytes (queue_bytes (queue_of bytes count))) _ h) ∙ queue_cells (queue_of bytes count) in
        let z : drop (count * 64) bytes ≡ blank (32 * 64 - length (queue_of bytes count) * 64) =
        ap (drop (count * 64)) e ∙ ap (λ (i : ℕ). drop (i * 64) (cells slot_of 64 32 (queue_of bytes count))) (sym n) ∙ cells_behind 32 (queue_of bytes count) (omega arith) in
        ap (all (eqb 0)) z ∙ blank_zeros (32 * 64 - length (queue_of bytes count) * 64)

    pub queue_parts : (all (eqb 0) (drop (count * 64) bytes) && all (named_at bytes) (from count 0)) ≡ is_queue bytes count
    unfolding named_at
    queue_parts =
        both_ways (all (eqb 0) (drop (count * 64) bytes) && all (named_at bytes) (from count 0)) (is_queue bytes count)
        (λ h. holds_queue short (below_each (holds_at bytes count) 32 (parts_hold h)))
        (λ h. and_true (all (eqb 0) (drop (count * 64) bytes)) _ (behind_names h)
        (below_each (named_at bytes) count (λ k l. unfold holds_at slot_holds in rw (lt-ltb k count l) at (queue_each h k (omega arith)))))

    -- what each way out of the test says
    pub unused_filled : all (eqb 0) (drop (count * 64) bytes) ≡ false → false ≡ is_queue bytes count
    unused_filled h = sym (sym queue_parts ∙ rw h)

    pub unused_blank : all (eqb 0) (drop (count * 64) bytes) ≡ true → (t : Bool) → t ≡ all (named_at bytes) (from count 0) → t ≡ is_queue bytes count
    unused_blank h t e = e ∙ sym (sym queue_parts ∙ rw h)

-- the part behind the names, as it is lent
pub unused_said : (bytes : List ℕ) (n : ℕ) (b t : Bool) → b ≡ all (eqb 0) (take (length bytes - n) (drop n bytes)) → b ≡ t → all (eqb 0) (drop n bytes) ≡ t
unused_said bytes n b t e h = ap (all (eqb 0)) (sym (part_end n bytes)) ∙ sym e ∙ h
