-- What the readers hand out: a part of the numbers that lists rows or names, a block, a condition, a row number.
use Rattle.std.specs.Prelude.{◌≡◌, refl, true, List, [], ◌∷◌, ℕ, zero, suc, ◌+◌, ◌*◌, ◌/◌, ◌-◌, ◌≤◌, ◌<◌, length, get_or, take, drop}
use Rattle.std.proofs.Common.{ap, sym, ◌∙◌, add-zero, arith, length-take, length-drop, drop-cons, get_or-take, get_or-drop, length-take-le, take-add, drop-drop, ltb-true, ne_eqb}
use Rattle.std.proofs.Math.Option.{Option, none, some}
use Rattle.definition.specs.declared.Action.{Action}
use Rattle.definition.specs.declared.Action.TheVariants.{Send}
use Rattle.numbers.specs.declared.Row.{Row}
use Rattle.rowset.specs.declared.RowSet.{RowSet}
use Rattle.definition.specs.Rows.{from, all, insert, with}
use Rattle.laws.specs.Maps.{map_length, each_map}
use Rattle.definition.specs.Tables.{most_actions, slot_size, no_number, row_count, name_count, reference_base, descriptor_base, action_base, reference_cell, descriptor_cell, transition_cell, part, references_at, descriptors_at, block_at, id_at, condition_at, slot_at, action_cell, action_at, action_of}
use Rattle.definition.specs.Rules.{optional_below, reference_in_range, descriptor_in_range}
use Rattle.std.specs.declared.option.Option as program
use Rattle.std.specs.declared.option.Option.TheVariants.{None, Some}
use Rattle.tables.specs.Ranges.{RowIn, RowsIn, NamesIn, TransitionIn, ActionIn, SlotIn, ReferencesIn, DescriptorsIn, BlockIn, layout, condition_below}
use Rattle.tables.specs.Actions.{IsAction, fits_number, number_fits}

-- the list xs, as a part of the numbers: at most so many, each in its table
pub record Listed (Within : List ℕ → Type 0) (most : ℕ) (xs l : List ℕ) : Type 0 where
  pub is : l ≡ xs
  pub within : Within l
  pub short : length l ≤ most

-- the row of number x
pub record RowOf (numbers : List ℕ) (x i : ℕ) : Type 0 where
  pub is : i ≡ x
  pub row : RowIn numbers i

-- the name of number x
pub record NameOf (numbers : List ℕ) (x n : ℕ) : Type 0 where
  pub is : n ≡ x
  pub below : n < name_count numbers

-- the id of row i, or none
pub record IdOf (numbers : List ℕ) (i n : ℕ) : Type 0 where
  pub is : n ≡ id_at numbers i
  pub low : optional_below (name_count numbers) n ≡ true

-- the actions of a part of their table, in order: four cells an action
unfoldable pub actions_of : List ℕ → List Action
actions_of [] = []
actions_of (k ∷ []) = []
actions_of (k ∷ x ∷ []) = []
actions_of (k ∷ x ∷ y ∷ []) = []
actions_of (k ∷ x ∷ y ∷ z ∷ b) = action_of k x y z ∷ actions_of b

-- action k of such a part
pub record ActionInBlock (b : List ℕ) (k : ℕ) : Type 0 where
  pub below : k < length (actions_of b)

-- the block of these actions, as a part of the numbers
pub record BlockOf (numbers : List ℕ) (actions : List Action) (b : List ℕ) : Type 0 where
  pub is : actions_of b ≡ actions
  pub width : length b ≡ 4 * length actions
  pub short : length actions ≤ most_actions
  pub fits : all (fits_number numbers) actions ≡ true

abbrev pub condition_of : program.Option Row → Option ℕ
condition_of None = none
condition_of (Some r) = some r.0

pub record ConditionIn (numbers : List ℕ) (t : ℕ) (c : program.Option Row) : Type 0 where
  pub is : condition_of c ≡ condition_at numbers t
  pub row : (i : ℕ) → condition_of c ≡ some i → RowIn numbers i

-- a name's slot
pub record SlotOf (names : List ℕ) (n : ℕ) (slot : List ℕ) : Type 0 where
  pub is : slot ≡ slot_at names n
  pub size : length slot ≡ slot_size

-- count numbers of a table from start on, where its cells are all below n
part_listed : (Within : List ℕ → Type 0) (numbers : List ℕ) (base b start count n : ℕ) → ((l : List ℕ) → ((k : ℕ) → k < length l → get_or l k 0 < n) → Within l) →
    ((k : ℕ) → k < start + count → get_or numbers (base + k) 0 < n) → b ≡ base →
    Listed Within count (part numbers (base + start) count) (take (b + start + count - (b + start)) (drop (b + start) numbers))
unfolding part
part_listed Within numbers base b start count n make low e =
    let c : b + start + count - (b + start) ≡ count = omega arith in
    let s : length (take count (drop (base + start) numbers)) ≤ count = omega (arith, length-take count (drop (base + start) numbers)) in
    rw (c, e) (record {
      is = refl;
      within = make _ (λ k l. let q : base + start + k ≡ base + (start + k) = omega arith in
          rw (get_or-take count (drop (base + start) numbers) k 0 (omega arith), get_or-drop (base + start) numbers k 0, q) (low (start + k) (omega arith)));
      short = s;
    })

pub references_listed : (numbers : List ℕ) (b start count : ℕ) → ReferencesIn numbers start count → b ≡ reference_base numbers →
    Listed (RowsIn numbers) count (references_at numbers start count) (take (b + start + count - (b + start)) (drop (b + start) numbers))
unfolding references_at reference_in_range reference_cell
references_listed numbers b start count h e =
    let l = h.inside in
    part_listed (RowsIn numbers) numbers (reference_base numbers) b start count (row_count numbers) (λ xs f. record { tables = h.tables; low = f })
    (λ k m. ltb-true _ _ (h.tables.reference k (omega arith))) e

pub descriptors_listed : (numbers : List ℕ) (b start count : ℕ) → DescriptorsIn numbers start count → b ≡ descriptor_base numbers →
    Listed (NamesIn numbers) count (descriptors_at numbers start count) (take (b + start + count - (b + start)) (drop (b + start) numbers))
unfolding descriptors_at descriptor_in_range descriptor_cell
descriptors_listed numbers b start count h e =
    let l = h.inside in
    part_listed (NamesIn numbers) numbers (descriptor_base numbers) b start count (name_count numbers) (λ xs f. record { tables = h.tables; low = f })
    (λ k m. ltb-true _ _ (h.tables.descriptor k (omega arith))) e

-- a list that was read by a start and a count of the tables
pub listed_as : (Within : List ℕ → Type 0) (f : ℕ → ℕ → List ℕ) (most s c s' c' : ℕ) (l : List ℕ) → s ≡ s' → c ≡ c' → c' ≤ most → Listed Within c (f s c) l →
    Listed Within most (f s' c') l
listed_as Within f most s c s' c' l e q m h = let z = h.short in record { is = h.is ∙ rw (e, q); within = h.within; short = omega arith }

pub condition_always : (numbers : List ℕ) (t : ℕ) → transition_cell numbers t 3 ≡ no_number → ConditionIn numbers t None
unfolding condition_at
condition_always numbers t e =
    record { is = rw e; row = λ i q. let z : ◌≡◌ {A = ℕ} 0 1 = cc in absurd (omega arith) }

pub condition_in_lem : (numbers : List ℕ) (t : ℕ) (r : Row) → TransitionIn numbers t → r.0 ≡ transition_cell numbers t 3 → (r.0 ≡ no_number → ⊥) → ConditionIn numbers t (Some r)
unfolding condition_at
condition_in_lem numbers t r h e d =
    let l : r.0 < row_count numbers = condition_below numbers t r.0 h e d in
    record {
      is = rw (← e, ne_eqb r.0 no_number d);
      row = λ i q. let z : r.0 ≡ i = cc in record { tables = h.tables; below = rw (← z) l };
    }

pub slot_is : (names : List ℕ) (n : ℕ) → SlotIn names n → SlotOf names n (take (n * slot_size + slot_size - n * slot_size) (drop (n * slot_size) names))
unfolding slot_at
slot_is names n h =
    let i = h.inside in
    let e : n * slot_size + slot_size - n * slot_size ≡ slot_size = omega arith in
    rw e (record { is = refl; size = length-take-le slot_size (drop (n * slot_size) names) (omega (arith, length-drop (n * slot_size) names)) })

-- a set of a pass takes in the row that was read
pub with_read : (xs ys : List ℕ) (r x : ℕ) → r ≡ x → ys ≡ insert r xs → ys ≡ with xs x
unfolding with
with_read xs ys r x e q = q ∙ rw e

-- the set whose four words stand from w on
unfoldable pub row_set_at : List ℕ → ℕ → RowSet
row_set_at place w = record { w0 = get_or place w 0; w1 = get_or place (w + 1) 0; w2 = get_or place (w + 2) 0; w3 = get_or place (w + 3) 0 }

-- four numbers, one after the other
part_four : (place : List ℕ) (at : ℕ) → at + 4 ≤ length place →
    get_or place at 0 ∷ get_or place (at + 1) 0 ∷ get_or place (at + 2) 0 ∷ get_or place (at + 3) 0 ∷ [] ≡ part place at 4
unfolding part
part_four place at l =
    let a : at + 1 ≡ suc at = omega arith in
    let b : at + 2 ≡ suc (suc at) = omega arith in
    let c : at + 3 ≡ suc (suc (suc at)) = omega arith in
    rw (
      a,
      b,
      c,
      drop-cons place at 0 (omega arith),
      drop-cons place (suc at) 0 (omega arith),
      drop-cons place (suc (suc at)) 0 (omega arith),
      drop-cons place (suc (suc (suc at))) 0 (omega arith),
    )

-- ---- blocks

-- an action of the table, read by its number
action_fits : (numbers : List ℕ) (a : ℕ) (y : Action) → ActionIn numbers a → y ≡ action_at numbers a → (y ≡ action_at numbers a) × (fits_number numbers y ≡ true)
action_fits numbers a y h w = (w, ap (fits_number numbers) w ∙ number_fits numbers a h)

pub action_read : (numbers : List ℕ) (a k x : ℕ) (y : Action) → ActionIn numbers a → k ≡ action_cell numbers a 0 → x ≡ action_cell numbers a 1 → (k ≡ 6 → ⊥) → IsAction k x y →
    (y ≡ action_at numbers a) × (fits_number numbers y ≡ true)
unfolding action_at
action_read numbers a k x y h e q d z = action_fits numbers a y h (z.is (action_cell numbers a 2) (action_cell numbers a 3) d ∙ rw (e, q))

-- a send has something in all four cells
pub send_read : (numbers : List ℕ) (a k x y z : ℕ) → ActionIn numbers a → k ≡ action_cell numbers a 0 → x ≡ action_cell numbers a 1 → y ≡ action_cell numbers a 2 → z ≡ action_cell numbers a 3 → k ≡ 6 →
    (Send x y z ≡ action_at numbers a) × (fits_number numbers (Send x y z) ≡ true)
unfolding action_at
send_read numbers a k x y z h e q p r s = action_fits numbers a (Send x y z) h (ap (λ (n : ℕ). action_of n x y z) (sym s) ∙ rw (e, q, p, r))

-- how many actions a part has
pub actions_count : (b : List ℕ) → length b / 4 ≡ length (actions_of b)
unfolding actions_of
actions_count [] = refl
actions_count (k ∷ []) = refl
actions_count (k ∷ x ∷ []) = refl
actions_count (k ∷ x ∷ y ∷ []) = refl
actions_count (k ∷ x ∷ y ∷ z ∷ b) = let h = actions_count b in omega arith

-- the cells of action k lie inside
pub actions_inside : (b : List ℕ) (k : ℕ) → ActionInBlock b k → k * 4 + 4 ≤ length b
actions_inside b k i = let l = i.below in let h = actions_count b in omega arith

pub actions_at : (b : List ℕ) (k : ℕ) (d : Action) → k < length (actions_of b) →
    action_of (get_or b (k * 4) 0) (get_or b (k * 4 + 1) 0) (get_or b (k * 4 + 2) 0) (get_or b (k * 4 + 3) 0) ≡ get_or (actions_of b) k d
unfolding actions_of
actions_at [] k d l = absurd (omega arith)
actions_at (k₀ ∷ []) k d l = absurd (omega arith)
actions_at (k₀ ∷ x ∷ []) k d l = absurd (omega arith)
actions_at (k₀ ∷ x ∷ y ∷ []) k d l = absurd (omega arith)
actions_at (k₀ ∷ x ∷ y ∷ z ∷ b) zero d l = refl
actions_at (k₀ ∷ x ∷ y ∷ z ∷ b) (suc k) d l =
    let e : suc k * 4 ≡ suc (suc (suc (suc (k * 4)))) = omega arith in
    let q : suc (suc (suc (suc (k * 4)))) + 1 ≡ suc (suc (suc (suc (k * 4 + 1)))) = omega arith in
    let p : suc (suc (suc (suc (k * 4)))) + 2 ≡ suc (suc (suc (suc (k * 4 + 2)))) = omega arith in
    let r : suc (suc (suc (suc (k * 4)))) + 3 ≡ suc (suc (suc (suc (k * 4 + 3)))) = omega arith in
    rw (e, q, p, r) (actions_at b k d (omega arith))

-- an action read by its first two cells
pub actions_read : (b : List ℕ) (k : ℕ) (d a : Action) → k < length (actions_of b) → (get_or b (k * 4 + 0) 0 ≡ 6 → ⊥) → IsAction (get_or b (k * 4 + 0) 0) (get_or b (k * 4 + 1) 0) a → a ≡ get_or (actions_of b) k d
actions_read b k d a l n i =
    i.is (get_or b (k * 4 + 2) 0) (get_or b (k * 4 + 3) 0) n ∙ rw add-zero (actions_at b k d l)

pub send_at : (b : List ℕ) (k : ℕ) (d : Action) → k < length (actions_of b) → get_or b (k * 4 + 0) 0 ≡ 6 → Send (get_or b (k * 4 + 1) 0) (get_or b (k * 4 + 2) 0) (get_or b (k * 4 + 3) 0) ≡ get_or (actions_of b) k d
send_at b k d l e =
    ap (λ (n : ℕ). action_of n (get_or b (k * 4 + 1) 0) (get_or b (k * 4 + 2) 0) (get_or b (k * 4 + 3) 0)) (sym e) ∙ rw add-zero (actions_at b k d l)

-- so many actions from start on
actions_from : (numbers : List ℕ) (start count : ℕ) → action_base numbers + (start + count) * 4 ≤ length numbers →
    actions_of (part numbers (action_base numbers + start * 4) (count * 4)) ≡ block_at numbers start count
unfolding part actions_of action_at action_cell block_at from
actions_from numbers start zero l = refl
actions_from numbers start (suc n) l =
    let at = action_base numbers + start * 4 in
    let w : suc n * 4 ≡ 4 + n * 4 = omega arith in
    let s : at + 4 ≡ action_base numbers + suc start * 4 = omega arith in
    rw (w, take-add 4 (n * 4) (drop at numbers), ← part_four numbers at (omega arith), drop-drop 4 at numbers, s, actions_from numbers (suc start) n (omega arith), add-zero)

pub block_listed : (numbers : List ℕ) (b start count : ℕ) → BlockIn numbers start count → b ≡ action_base numbers →
    BlockOf numbers (block_at numbers start count) (take (b + start * 4 + count * 4 - (b + start * 4)) (drop (b + start * 4) numbers))
unfolding layout part block_at
block_listed numbers b start count h e =
    let l = h.fits.inside in
    let m = h.fits.short in
    let c : b + start * 4 + count * 4 - (b + start * 4) ≡ count * 4 = omega arith in
    let z = h.tables.sized.size in
    let n = map_length (action_at numbers) count start in
    rw (c, e) (record {
      is = actions_from numbers start count (omega arith);
      width = length-take-le (count * 4) (drop (action_base numbers + start * 4) numbers) (omega (arith, length-drop (action_base numbers + start * 4) numbers)) ∙ omega arith;
      short = omega arith;
      fits = each_map (action_at numbers) (fits_number numbers) count start (λ k q. number_fits numbers (start + k) (record { tables = h.tables; below = omega arith }));
    })

pub block_none : (numbers : List ℕ) (start count : ℕ) → count ≡ 0 → BlockOf numbers (block_at numbers start count) []
unfolding block_at from all actions_of
block_none numbers start count e = rw e (record { is = refl; width = refl; short = omega arith; fits = refl })

-- a block that was read by a start and a count of the tables
pub block_as : (numbers : List ℕ) (s c s' c' : ℕ) (b : List ℕ) → s ≡ s' → c ≡ c' → BlockOf numbers (block_at numbers s c) b → BlockOf numbers (block_at numbers s' c') b
block_as numbers s c s' c' b e q h = rw (← e, ← q) h
