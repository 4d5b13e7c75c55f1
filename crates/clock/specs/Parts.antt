-- The record's bytes by their five parts, each read and each written while the others stay.
use Rattle.std.specs.Prelude.{◌≡◌, refl, List, [], ◌∷◌, ◌++◌, ℕ, zero, suc, ◌+◌, ◌*◌, ◌≤◌, ◌<◌, length, take, drop}
use Rattle.std.proofs.Common.{sym, ap₂, ◌∙◌, append_assoc, append-nil, arith, length-append, length-drop, take-append-drop, take_at, drop_at, take-take, take_all, drop-drop, length-take-le}
use Rattle.std.proofs.Math.Path.{ap}
use Rattle.definition.specs.Names.{before_zero}
use Rattle.definition.specs.Tables.{name_at, slot_at}
use Rattle.clock.specs.Records.{number_at}
use Rattle.clock.specs.Numbers.{number_part}

pub record Parts (bytes ticks count due events ids : List ℕ) : Type 0 where
  pub spells : bytes ≡ ticks ++ (count ++ (due ++ (events ++ ids)))
  pub ticks_size : length ticks ≡ 8
  pub count_size : length count ≡ 8
  pub due_size : length due ≡ 256
  pub events_size : length events ≡ 2048
  pub ids_size : length ids ≡ 2048

-- the parts of due times, events and ids
abbrev pub dues_of : List ℕ → List ℕ
dues_of bytes = take 256 (drop 16 bytes)

abbrev pub events_of : List ℕ → List ℕ
events_of bytes = take 2048 (drop 272 bytes)

abbrev pub ids_of : List ℕ → List ℕ
ids_of bytes = take 2048 (drop 2320 bytes)

-- ---- a part between two others

module _ (x y z : List ℕ) (a w : ℕ) (s : length x ≡ a) (t : length y ≡ w) where
  part_read : take w (drop a (x ++ (y ++ z))) ≡ y
  part_read = ap (take w) (drop_at x (y ++ z) a s) ∙ take_at y z w t

  part_put : (new : List ℕ) → take a (x ++ (y ++ z)) ++ (new ++ drop w (drop a (x ++ (y ++ z)))) ≡ x ++ (new ++ z)
  part_put new =
      ap₂ {C = List ℕ} (λ p q. p ++ q) (take_at x (y ++ z) a s)
      (ap {B = List ℕ} (λ q. new ++ q) (ap (drop w) (drop_at x (y ++ z) a s) ∙ drop_at y z w t))

-- a part of a part
pub inner_part : (w j m : ℕ) (xs : List ℕ) → j + w ≤ m → take w (drop j (take m xs)) ≡ take w (drop j xs)
inner_part w zero m xs l = take-take w m xs (omega arith)
inner_part w (suc j) zero xs l = absurd (omega arith)
inner_part w (suc j) (suc m) [] l = refl
inner_part w (suc j) (suc m) (x ∷ xs) l = inner_part w j m xs (omega arith)

module _ (bytes ticks count due events ids : List ℕ) (p : Parts bytes ticks count due events ids) where
  abbrev two : List ℕ
  two = ticks ++ count

  abbrev three : List ℕ
  three = (ticks ++ count) ++ due

  abbrev four : List ℕ
  four = ((ticks ++ count) ++ due) ++ events

  behind_two : bytes ≡ two ++ (due ++ (events ++ ids))
  behind_two = p.spells ∙ sym (append_assoc ticks count (due ++ (events ++ ids)))

  behind_three : bytes ≡ three ++ (events ++ ids)
  behind_three = behind_two ∙ sym (append_assoc (ticks ++ count) due (events ++ ids))

  behind_four : bytes ≡ four ++ (ids ++ [])
  behind_four = behind_three ∙ sym (append_assoc ((ticks ++ count) ++ due) events ids) ∙ ap {B = List ℕ} (λ r. four ++ r) (sym (append-nil ids))

  two_size : length two ≡ 16
  two_size = let h = p.ticks_size in let g = p.count_size in omega (arith, length-append ticks count)

  three_size : length three ≡ 272
  three_size = let h = p.due_size in let g = two_size in omega (arith, length-append (ticks ++ count) due)

  four_size : length four ≡ 2320
  four_size = let h = p.events_size in let g = three_size in omega (arith, length-append ((ticks ++ count) ++ due) events)

  pub parts_length : length bytes ≡ 4368
  parts_length =
      let h = p.ids_size in
      let g = four_size in
      let n : length (ids ++ []) ≡ length ids = ap length (append-nil ids) in
      ap length behind_four ∙ length-append four (ids ++ []) ∙ omega arith

  pub ticks_part : take 8 bytes ≡ ticks
  ticks_part = ap (take 8) p.spells ∙ take_at ticks _ 8 p.ticks_size

  pub count_part : take 8 (drop 8 bytes) ≡ count
  count_part = ap (λ (b : List ℕ). take 8 (drop 8 b)) p.spells ∙ part_read ticks count _ 8 8 p.ticks_size p.count_size

  pub due_part : take 256 (drop 16 bytes) ≡ due
  due_part = ap (λ (b : List ℕ). take 256 (drop 16 b)) behind_two ∙ part_read two due _ 16 256 two_size p.due_size

  pub events_part : take 2048 (drop 272 bytes) ≡ events
  events_part = ap (λ (b : List ℕ). take 2048 (drop 272 b)) behind_three ∙ part_read three events _ 272 2048 three_size p.events_size

  pub ids_part : take 2048 (drop 2320 bytes) ≡ ids
  ids_part = ap (λ (b : List ℕ). take 2048 (drop 2320 b)) behind_four ∙ part_read four ids [] 2320 2048 four_size p.ids_size

  -- ---- a part anew

  pub put_ticks : (new : List ℕ) → length new ≡ 8 → Parts (new ++ drop 8 bytes) new count due events ids
  put_ticks new n =
      record {
        spells = ap {B = List ℕ} (λ r. new ++ r) (ap (drop 8) p.spells ∙ drop_at ticks _ 8 p.ticks_size);
        ticks_size = n;
        count_size = p.count_size;
        due_size = p.due_size;
        events_size = p.events_size;
        ids_size = p.ids_size;
      }

  pub put_count : (new : List ℕ) → length new ≡ 8 → Parts (take 8 bytes ++ (new ++ drop 8 (drop 8 bytes))) ticks new due events ids
  put_count new n =
      record {
        spells = ap (λ (b : List ℕ). take 8 b ++ (new ++ drop 8 (drop 8 b))) p.spells ∙ part_put ticks count _ 8 8 p.ticks_size p.count_size new;
        ticks_size = p.ticks_size;
        count_size = n;
        due_size = p.due_size;
        events_size = p.events_size;
        ids_size = p.ids_size;
      }

  pub put_due : (new : List ℕ) → length new ≡ 256 → Parts (take 16 bytes ++ (new ++ drop 256 (drop 16 bytes))) ticks count new events ids
  put_due new n =
      record {
        spells = ap (λ (b : List ℕ). take 16 b ++ (new ++ drop 256 (drop 16 b))) behind_two ∙ part_put two due _ 16 256 two_size p.due_size new ∙ append_assoc ticks count (new ++ (events ++ ids));
        ticks_size = p.ticks_size;
        count_size = p.count_size;
        due_size = n;
        events_size = p.events_size;
        ids_size = p.ids_size;
      }

  pub put_events : (new : List ℕ) → length new ≡ 2048 → Parts (take 272 bytes ++ (new ++ drop 2048 (drop 272 bytes))) ticks count due new ids
  put_events new n =
      record {
        spells =
            ap (λ (b : List ℕ). take 272 b ++ (new ++ drop 2048 (drop 272 b))) behind_three ∙ part_put three events _ 272 2048 three_size p.events_size new ∙
            append_assoc (ticks ++ count) due (new ++ ids) ∙
            append_assoc ticks count (due ++ (new ++ ids));
        ticks_size = p.ticks_size;
        count_size = p.count_size;
        due_size = p.due_size;
        events_size = n;
        ids_size = p.ids_size;
      }

  pub put_ids : (new : List ℕ) → length new ≡ 2048 → Parts (take 2320 bytes ++ (new ++ drop 2048 (drop 2320 bytes))) ticks count due events new
  put_ids new n =
      record {
        spells =
            ap (λ (b : List ℕ). take 2320 b ++ (new ++ drop 2048 (drop 2320 b))) behind_four ∙ part_put four ids [] 2320 2048 four_size p.ids_size new ∙
            ap {B = List ℕ} (λ r. four ++ r) (append-nil new) ∙
            append_assoc ((ticks ++ count) ++ due) events new ∙
            append_assoc (ticks ++ count) due (events ++ new) ∙
            append_assoc ticks count (due ++ (events ++ new));
        ticks_size = p.ticks_size;
        count_size = p.count_size;
        due_size = p.due_size;
        events_size = p.events_size;
        ids_size = n;
      }

  -- ---- what stands where

  pub ticks_number : number_at bytes 0 ≡ number_at ticks 0
  ticks_number = sym (number_part bytes 0) ∙ ap (λ (q : List ℕ). number_at q 0) ticks_part

  pub count_number : number_at bytes 8 ≡ number_at count 0
  count_number = sym (number_part bytes 8) ∙ ap (λ (q : List ℕ). number_at q 0) count_part

  pub due_cell : (i : ℕ) → i < 32 → take 8 (drop (16 + i * 8) bytes) ≡ take 8 (drop (i * 8) due)
  due_cell i l =
      ap (take 8) (sym (drop-drop (i * 8) 16 bytes)) ∙ sym (inner_part 8 (i * 8) 256 (drop 16 bytes) (omega arith)) ∙
      ap (λ (q : List ℕ). take 8 (drop (i * 8) q)) due_part

  pub due_number : (i : ℕ) → i < 32 → number_at bytes (16 + i * 8) ≡ number_at (take 8 (drop (i * 8) due)) 0
  due_number i l = sym (number_part bytes (16 + i * 8)) ∙ ap (λ (q : List ℕ). number_at q 0) (due_cell i l)

  pub event_cell : (i : ℕ) → i < 32 → take 64 (drop (i * 64) (drop 272 bytes)) ≡ take 64 (drop (i * 64) events)
  event_cell i l = sym (inner_part 64 (i * 64) 2048 (drop 272 bytes) (omega arith)) ∙ ap (λ (q : List ℕ). take 64 (drop (i * 64) q)) events_part

  pub id_cell_lem : (i : ℕ) → i < 32 → take 64 (drop (i * 64) (drop 2320 bytes)) ≡ take 64 (drop (i * 64) ids)
  id_cell_lem i l = sym (inner_part 64 (i * 64) 2048 (drop 2320 bytes) (omega arith)) ∙ ap (λ (q : List ℕ). take 64 (drop (i * 64) q)) ids_part

  pub event_name : (i : ℕ) → i < 32 → name_at (drop 272 bytes) i ≡ name_at events i
  unfolding name_at slot_at
  event_name i l = ap before_zero (event_cell i l)

  pub id_name : (i : ℕ) → i < 32 → name_at (drop 2320 bytes) i ≡ name_at ids i
  unfolding name_at slot_at
  id_name i l = ap before_zero (id_cell_lem i l)

-- a place of that length has these parts
module _ (bytes : List ℕ) (n : length bytes ≡ 4368) where
  cut : (a w : ℕ) → drop a bytes ≡ take w (drop a bytes) ++ drop (a + w) bytes
  cut a w = sym (take-append-drop w (drop a bytes)) ∙ ap {B = List ℕ} (λ r. take w (drop a bytes) ++ r) (drop-drop w a bytes)

  size : (w a : ℕ) → a + w ≤ 4368 → length (take w (drop a bytes)) ≡ w
  size w a l = length-take-le w (drop a bytes) (omega (arith, length-drop a bytes))

  pub parts_of_lem : Parts bytes (take 8 bytes) (take 8 (drop 8 bytes)) (take 256 (drop 16 bytes)) (take 2048 (drop 272 bytes)) (take 2048 (drop 2320 bytes))
  parts_of_lem =
      record {
        spells =
            cut 0 8 ∙
            ap {B = List ℕ} (λ r. take 8 bytes ++ r)
            (cut 8 8 ∙
            ap {B = List ℕ} (λ r. take 8 (drop 8 bytes) ++ r)
            (cut 16 256 ∙
            ap {B = List ℕ} (λ r. take 256 (drop 16 bytes) ++ r)
            (cut 272 2048 ∙ ap {B = List ℕ} (λ r. take 2048 (drop 272 bytes) ++ r) (sym (take_all 2048 (drop 2320 bytes) (omega (arith, length-drop 2320 bytes)))))));
        ticks_size = size 8 0 (omega arith);
        count_size = size 8 8 (omega arith);
        due_size = size 256 16 (omega arith);
        events_size = size 2048 272 (omega arith);
        ids_size = size 2048 2320 (omega arith);
      }
