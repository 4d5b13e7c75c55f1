-- What the code does to the bytes of a queue: a part that is one slot, and the first slot that goes.
use Rattle.std.specs.Prelude.{◌≡◌, List, ◌++◌, ℕ, ◌+◌, ◌-◌, ◌*◌, ◌≤◌, length, take, drop, replicate}
use Rattle.std.proofs.Common.{sym, ap, ◌∙◌, append_assoc, arith, length-drop, take-append-drop, drop-drop, length-take-le}
use Rattle.std.proofs.lemmas.List.{replicate-append-replicate, drop-append-le}
use Rattle.definition.specs.Tables.{slot_at, slot_of}
use Rattle.names.specs.Slots.{padded, slot_padded}
use Rattle.queue.specs.Queues.{SlotInside, Waiting}

-- the part from a to e
part_length : (q : List ℕ) (a e : ℕ) → a ≤ e → e ≤ length q → length (take (e - a) (drop a q)) ≡ e - a
part_length q a e h g = length-take-le (e - a) (drop a q) (omega (arith, length-drop a q))

part_behind : (q : List ℕ) (a e : ℕ) → a ≤ e → drop (e - a) (drop a q) ≡ drop e q
part_behind q a e h = let s : a + (e - a) ≡ e = omega arith in rw (drop-drop (e - a) a q, s)

pub slot_part : (q : List ℕ) (k : ℕ) → take (k * 64 + 64 - k * 64) (drop (k * 64) q) ≡ slot_at q k
unfolding slot_at
slot_part q k = let e : k * 64 + 64 - k * 64 ≡ 64 = omega arith in rw e

-- a name in the slot behind count names
pub put_slot : (q : List ℕ) (count : ℕ) (name slot : List ℕ) → SlotInside q count →
    slot ≡ padded (length (take (count * 64 + 64 - count * 64) (drop (count * 64) q))) name →
    take (count * 64) q ++ (slot ++ drop (count * 64 + 64 - count * 64) (drop (count * 64) q)) ≡ take (count * 64) q ++ (slot_of name ++ drop (count * 64 + 64) q)
put_slot q count name slot h e =
    let w : count * 64 + 64 - count * 64 ≡ 64 = omega arith in
    let s : slot ≡ slot_of name = e ∙ rw (part_length q (count * 64) (count * 64 + 64) (omega arith) h.inside, w) (sym (slot_padded name)) in
    rw (s, part_behind q (count * 64) (count * 64 + 64) (omega arith))

-- the first of the names leaves the part that they fill
pub oldest_left : (q part : List ℕ) (count : ℕ) → Waiting q count → part ≡ drop 64 (take (count * 64) q) ++ replicate 64 0 → part ++ drop (count * 64) q ≡ drop 64 q ++ replicate 64 0
oldest_left q part count h e =
    let some = h.some in
    let inside = h.inside in
    let front : List ℕ = take (count * 64) q in
    let size : length front ≡ count * 64 = length-take-le (count * 64) q inside in
    let n : ℕ = length q - count * 64 in
    let swap : 64 + n ≡ n + 64 = omega arith in
    let back : drop 64 q ≡ drop 64 front ++ drop (count * 64) q = ap (drop 64) (sym (take-append-drop (count * 64) q)) ∙ drop-append-le 64 front (drop (count * 64) q) (omega arith) in
    rw (e, back, h.behind, append_assoc (drop 64 front) (replicate 64 0) (replicate n 0), append_assoc (drop 64 front) (replicate n 0) (replicate 64 0), replicate-append-replicate {A = ℕ} 64 n 0, replicate-append-replicate {A = ℕ} n 64 0, swap)
