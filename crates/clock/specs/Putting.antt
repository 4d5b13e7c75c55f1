-- A part of the record anew while the others stay: one cell of it written, or one gone.
use Rattle.std.specs.Prelude.{◌≡◌, List, [], ◌∷◌, ◌++◌, ℕ, ◌+◌, ◌*◌, ◌≤◌, ◌<◌, length, take, drop}
use Rattle.std.proofs.Common.{ap, ◌∙◌, arith, length-append, length-drop, drop-drop, length-take-le}
use Rattle.std.proofs.lemmas.List.{length-replicate}
use Rattle.definition.specs.Names.{Name}
use Rattle.definition.specs.Tables.{slot_of}
use Rattle.follower.specs.Clock.{Timer}
use Rattle.laws.specs.Cells.{blank, cells, cells_last}
use Rattle.names.specs.Slots.{slot_length}
use Rattle.clock.specs.Records.{bytes_of}
use Rattle.clock.specs.Numbers.{bytes_length}
use Rattle.clock.specs.Parts.{Parts, put_due, put_events, put_ids, put_count}
use Rattle.clock.specs.Closing.{closed, Behind}

-- a part of w bytes from place a on, anew
pub record Put (a w : ℕ) (old new part : List ℕ) : Type 0 where
  pub is : new ≡ take a old ++ (part ++ drop w (drop a old))
  pub size : length new ≡ 4368

-- cell n of a part, of w bytes, anew
unfoldable pub cell_put : ℕ → List ℕ → ℕ → List ℕ → List ℕ
cell_put w part n new = take (n * w) part ++ (new ++ drop (n * w + w) part)

-- ---- as a call on a lent part leaves it

put_part : (a w : ℕ) (old part is : List ℕ) → length old ≡ 4368 → a + w ≤ 4368 → part ≡ is → length is ≡ w → Put a w old (take a old ++ (part ++ drop w (drop a old))) is
put_part a w old part is n l e s =
    let g : take a old ++ (part ++ drop w (drop a old)) ≡ take a old ++ (is ++ drop w (drop a old)) = rw e in
    record {
      is = g;
      size =
          ap length g ∙
          length-append (take a old) (is ++ drop w (drop a old)) ∙
          omega (arith, length-append is (drop w (drop a old)), length-take-le a old (omega arith), length-drop w (drop a old), length-drop a old);
    }

pub part_size : (a w : ℕ) (old : List ℕ) → length old ≡ 4368 → a + w ≤ 4368 → length (take w (drop a old)) ≡ w
part_size a w old n l = length-take-le w (drop a old) (omega (arith, length-drop a old))

pub cell_put_length : (w : ℕ) (part : List ℕ) (n : ℕ) (new : List ℕ) → length new ≡ w → n * w + w ≤ length part → length (cell_put w part n new) ≡ length part
unfolding cell_put
cell_put_length w part n new s l =
    length-append (take (n * w) part) (new ++ drop (n * w + w) part) ∙
    omega (arith, length-append new (drop (n * w + w) part), length-take-le (n * w) part (omega arith), length-drop (n * w + w) part)

pub closed_length : (w : ℕ) (part : List ℕ) (i : ℕ) → i * w + w ≤ length part → length (closed w part i) ≡ length part
unfolding closed
closed_length w part i l =
    length-append (take (i * w) part) (drop w (drop (i * w) part) ++ blank w) ∙
    omega (arith, length-append (drop w (drop (i * w) part)) (blank w), length-take-le (i * w) part (omega arith), length-drop w (drop (i * w) part), length-drop (i * w) part, length-replicate {A = ℕ} w 0)

number_cell : (part : List ℕ) (n : ℕ) (new : List ℕ) → take (n * 8) part ++ (new ++ drop 8 (drop (n * 8) part)) ≡ cell_put 8 part n new
unfolding cell_put
number_cell part n new = ap {B = List ℕ} (λ r. take (n * 8) part ++ (new ++ r)) (drop-drop 8 (n * 8) part)

pub number_put_in : (old p : List ℕ) (n x : ℕ) → length old ≡ 4368 → n < 32 → p ≡ take (n * 8) (take 256 (drop 16 old)) ++ (bytes_of x ++ drop 8 (drop (n * 8) (take 256 (drop 16 old)))) →
    Put 16 256 old (take 16 old ++ (p ++ drop 256 (drop 16 old))) (cell_put 8 (take 256 (drop 16 old)) n (bytes_of x))
number_put_in old p n x s l e =
    let part : List ℕ = take 256 (drop 16 old) in
    let w = part_size 16 256 old s (omega arith) in
    put_part 16 256 old p (cell_put 8 part n (bytes_of x)) s (omega arith)
    (e ∙ number_cell part n (bytes_of x))
    (cell_put_length 8 part n (bytes_of x) (bytes_length x) (omega arith) ∙ w)

pub slot_put_in : (a : ℕ) (old p : List ℕ) (n : ℕ) (name : Name) → length old ≡ 4368 → a + 2048 ≤ 4368 → n < 32 →
    p ≡ take (n * 64) (take 2048 (drop a old)) ++ (slot_of name ++ drop (n * 64 + 64) (take 2048 (drop a old))) →
    Put a 2048 old (take a old ++ (p ++ drop 2048 (drop a old))) (cell_put 64 (take 2048 (drop a old)) n (slot_of name))
slot_put_in a old p n name s l m e =
    let part : List ℕ = take 2048 (drop a old) in
    let w = part_size a 2048 old s l in
    put_part a 2048 old p (cell_put 64 part n (slot_of name)) s l (unfold cell_put in e) (cell_put_length 64 part n (slot_of name) (slot_length name) (omega arith) ∙ w)

pub cell_closed_in : (a w m : ℕ) (old p : List ℕ) (i : ℕ) → length old ≡ 4368 → a + m ≤ 4368 → i * w + w ≤ m → p ≡ closed w (take m (drop a old)) i →
    Put a m old (take a old ++ (p ++ drop m (drop a old))) (closed w (take m (drop a old)) i)
cell_closed_in a w m old p i s l h e =
    let part : List ℕ = take m (drop a old) in
    let k = part_size a m old s l in
    put_part a m old p (closed w part i) s l e (closed_length w part i (omega arith) ∙ k)

-- ---- the parts of a record of which one is new

module _ (old new a b c d e part : List ℕ) (p : Parts old a b c d e) where
  pub dues_put : Put 16 256 old new part → length part ≡ 256 → Parts new a b part d e
  dues_put q n = rw q.is (put_due old a b c d e p part n)

  pub events_put : Put 272 2048 old new part → length part ≡ 2048 → Parts new a b c part e
  events_put q n = rw q.is (put_events old a b c d e p part n)

  pub ids_put : Put 2320 2048 old new part → length part ≡ 2048 → Parts new a b c d part
  ids_put q n = rw q.is (put_ids old a b c d e p part n)

  pub count_put : new ≡ take 8 old ++ (part ++ drop 8 (drop 8 old)) → length part ≡ 8 → Parts new a part c d e
  count_put q n = rw q (put_count old a b c d e p part n)

-- one send more in its cell
pub cell_more : (f : Timer → List ℕ) (w : ℕ) → ((x : Timer) → length (f x) ≡ w) → (part : List ℕ) (n : ℕ) (ss : List Timer) (s : Timer) →
    part ≡ cells f w 32 ss → n ≡ length ss → n < 32 → cell_put w part n (f s) ≡ cells f w 32 (ss ++ (s ∷ []))
unfolding cell_put
cell_more f w size part n ss s e m l = rw (e, m) (cells_last f w size 32 ss s (omega arith))

-- the slot that goes stands inside its part
pub slot_inside : (old : List ℕ) (a i n : ℕ) → length old ≡ 4368 → a + 2048 ≤ 4368 → Behind (take 2048 (drop a old)) i n → i * 64 + 64 ≤ 2048
slot_inside old a i n s l h =
    let w = part_size a 2048 old s l in
    let k = h.waits.inside in
    let m = h.low in
    omega (arith, length-drop (i * 64) (take 2048 (drop a old)))
