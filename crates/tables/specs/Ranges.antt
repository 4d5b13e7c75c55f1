-- What rule 1 gives a reader: the counts are within their limits, the tables lie inside the numbers, and every number is within its
-- table or range. The numbers may be more than the tables: a compiled chart has its sets behind them.
use Rattle.std.specs.Prelude.{◌≡◌, true, ◌&&◌, List, ℕ, ◌+◌, ◌*◌, ◌≤◌, ◌<◌, eqb, leb, ltb, length, get_or}
use Rattle.std.proofs.Common.{ap, ◌∙◌, arith}
use borrow.Author.Tests.{eqb-true, leb-true, ltb-true}
use Rattle.definition.specs.Tables.{most_rows, most_transitions, most_names, most_descriptors, most_targets, most_actions, slot_size, no_number, row_count, transition_count, reference_count, descriptor_count, action_count, name_count, transition_base, reference_base, descriptor_base, action_base, tables_size, row_cell, transition_cell, action_cell, action_at, parent_at}
use Rattle.definition.specs.Rules.{counts_fit, sizes_fit, compiled_size, optional_below, inside, block_fits, row_in_range, transition_in_range, reference_in_range, descriptor_in_range, arguments_fit, action_in_range, rule1}
use Rattle.laws.specs.Bools.{and_left, and_right, and4, and7, or_elim}
use Rattle.laws.specs.Loops.{each_below}

-- to unfold at once the five places where a table ends and the next begins
unfoldable pub layout : Unit {0}
unfolding tables_size action_base descriptor_base reference_base transition_base
layout = tt

-- the counts of the header
pub record Counts (numbers : List ℕ) : Type 0 where
  pub some : 1 ≤ row_count numbers
  pub rows : row_count numbers ≤ most_rows
  pub transitions : transition_count numbers ≤ most_transitions
  pub names : name_count numbers ≤ most_names
  pub references : reference_count numbers ≤ most_rows * most_rows + most_transitions * most_targets
  pub descriptors : descriptor_count numbers ≤ most_transitions * most_descriptors
  pub actions : action_count numbers ≤ (most_rows * 3 + most_transitions) * most_actions

-- and every table is inside
pub record Sized (numbers : List ℕ) : Type 0 where
  pub counts : Counts numbers
  pub size : tables_size numbers ≤ length numbers

-- a cell: its line and its column are of its table, and the table is inside. References and descriptors have one column
pub record CellOfRow (numbers : List ℕ) (i column : ℕ) : Type 0 where
  pub sized : Sized numbers
  pub row : i < row_count numbers
  pub width : column < 11

pub record CellOfTransition (numbers : List ℕ) (t column : ℕ) : Type 0 where
  pub sized : Sized numbers
  pub transition : t < transition_count numbers
  pub width : column < 9

pub record CellOfAction (numbers : List ℕ) (a column : ℕ) : Type 0 where
  pub sized : Sized numbers
  pub action : a < action_count numbers
  pub width : column < 4

pub record ReferenceIn (numbers : List ℕ) (k : ℕ) : Type 0 where
  pub sized : Sized numbers
  pub below : k < reference_count numbers

pub record DescriptorIn (numbers : List ℕ) (k : ℕ) : Type 0 where
  pub sized : Sized numbers
  pub below : k < descriptor_count numbers

-- every number is within its table or range
pub record InTables (numbers : List ℕ) : Type 0 where
  pub sized : Sized numbers
  pub row : (i : ℕ) → i < row_count numbers → row_in_range numbers i ≡ true
  pub transition : (t : ℕ) → t < transition_count numbers → transition_in_range numbers t ≡ true
  pub reference : (k : ℕ) → k < reference_count numbers → reference_in_range numbers k ≡ true
  pub descriptor : (k : ℕ) → k < descriptor_count numbers → descriptor_in_range numbers k ≡ true
  pub action : (a : ℕ) → a < action_count numbers → action_in_range numbers a ≡ true

-- a row, a transition, an action of the tables
pub record RowIn (numbers : List ℕ) (i : ℕ) : Type 0 where
  pub tables : InTables numbers
  pub below : i < row_count numbers

pub record TransitionIn (numbers : List ℕ) (t : ℕ) : Type 0 where
  pub tables : InTables numbers
  pub below : t < transition_count numbers

pub record ActionIn (numbers : List ℕ) (a : ℕ) : Type 0 where
  pub tables : InTables numbers
  pub below : a < action_count numbers

-- a row whose parent is a row of the tables: every row but the root, once rule 3 holds
pub record HasParent (numbers : List ℕ) (i : ℕ) : Type 0 where
  pub row : RowIn numbers i
  pub parent : parent_at numbers i < row_count numbers

-- count references, descriptors, actions from start on
pub record ReferencesIn (numbers : List ℕ) (start count : ℕ) : Type 0 where
  pub tables : InTables numbers
  pub inside : start + count ≤ reference_count numbers

pub record DescriptorsIn (numbers : List ℕ) (start count : ℕ) : Type 0 where
  pub tables : InTables numbers
  pub inside : start + count ≤ descriptor_count numbers

pub record BlockFits (numbers : List ℕ) (start count : ℕ) : Type 0 where
  pub inside : start + count ≤ action_count numbers
  pub short : count ≤ most_actions

pub record BlockIn (numbers : List ℕ) (start count : ℕ) : Type 0 where
  pub tables : InTables numbers
  pub fits : BlockFits numbers start count

-- row numbers of the tables, and name numbers, one beside the other
pub record RowsIn (numbers l : List ℕ) : Type 0 where
  pub tables : InTables numbers
  pub low : (k : ℕ) → k < length l → get_or l k 0 < row_count numbers

pub record NamesIn (numbers l : List ℕ) : Type 0 where
  pub tables : InTables numbers
  pub low : (k : ℕ) → k < length l → get_or l k 0 < name_count numbers

-- member k of such a list
pub record RowInList (numbers l : List ℕ) (k : ℕ) : Type 0 where
  pub rows : RowsIn numbers l
  pub below : k < length l

pub record NameInList (numbers l : List ℕ) (k : ℕ) : Type 0 where
  pub names : NamesIn numbers l
  pub below : k < length l

-- the slots that the header counts, and one of them
pub record SlotsIn (numbers names : List ℕ) : Type 0 where
  pub size : name_count numbers * slot_size ≤ length names

pub record SlotIn (names : List ℕ) (n : ℕ) : Type 0 where
  pub inside : n * slot_size + slot_size ≤ length names

-- the four words of a set, in any place
pub record SetIn (place : List ℕ) (at : ℕ) : Type 0 where
  pub inside : at + 4 ≤ length place

-- ---- rule 1, read as facts

pub counts_of : (numbers : List ℕ) → counts_fit numbers ≡ true → Counts numbers
unfolding counts_fit
counts_of numbers h =
    let p = and7 _ _ _ _ _ _ _ h in
    record {
      some = leb-true _ _ p.0;
      rows = leb-true _ _ p.1;
      transitions = leb-true _ _ p.2;
      names = leb-true _ _ p.3;
      references = leb-true _ _ p.4;
      descriptors = leb-true _ _ p.5;
      actions = leb-true _ _ p.6;
    }

module _ (numbers names : List ℕ) (room names_room : ℕ) where
  sizes_of : sizes_fit numbers names room names_room ≡ true → (length numbers ≡ tables_size numbers) × (length names ≡ name_count numbers * slot_size)
  unfolding sizes_fit
  sizes_of h =
      let p = and4 (eqb (length numbers) (tables_size numbers)) (eqb (length names) (name_count numbers * slot_size)) (eqb room (compiled_size numbers)) (eqb names_room (length names)) h in
      (eqb-true _ _ p.0, eqb-true _ _ p.1)

  pub sized_of : counts_fit numbers ≡ true → sizes_fit numbers names room names_room ≡ true → Sized numbers
  sized_of h s = let e = (sizes_of s).0 in record { counts = counts_of numbers h; size = omega arith }

  pub slots_of_lem : sizes_fit numbers names room names_room ≡ true → SlotsIn numbers names
  slots_of_lem s = let e = (sizes_of s).1 in record { size = omega arith }

  rule1_facts : rule1 numbers names room names_room ≡ true → InTables numbers × SlotsIn numbers names
  unfolding rule1
  rule1_facts h =
      let p = and7 _ _ _ _ _ _ _ h in (
        record {
          sized = sized_of p.0 p.1;
          row = each_below _ _ p.2;
          transition = each_below _ _ p.3;
          reference = each_below _ _ p.4;
          descriptor = each_below _ _ p.5;
          action = each_below _ _ p.6;
        },
        slots_of_lem p.1,
      )

  pub rule1_tables : rule1 numbers names room names_room ≡ true → InTables numbers
  rule1_tables h = (rule1_facts h).0

  pub rule1_slots : rule1 numbers names room names_room ≡ true → SlotsIn numbers names
  rule1_slots h = (rule1_facts h).1

pub slot_in_lem : (numbers names : List ℕ) (n : ℕ) → SlotsIn numbers names → n < name_count numbers → SlotIn names n
slot_in_lem numbers names n h l = let s = h.size in record { inside = omega arith }

within : (total start count most : ℕ) → (inside total start count && leb count most) ≡ true → (start + count ≤ total) × (count ≤ most)
within total start count most h =
    (leb-true _ _ (and_left (inside total start count) (leb count most) h), leb-true _ _ (and_right (inside total start count) (leb count most) h))

block_fits_lem : (numbers : List ℕ) (start count : ℕ) → block_fits numbers start count ≡ true → BlockFits numbers start count
unfolding block_fits
block_fits_lem numbers start count h = let p = within (action_count numbers) start count most_actions h in record { inside = p.0; short = p.1 }

pub record RowFits (numbers : List ℕ) (i : ℕ) : Type 0 where
  pub kind : row_cell numbers i 0 ≤ 5
  pub parent : optional_below (row_count numbers) (row_cell numbers i 1) ≡ true
  pub id : optional_below (name_count numbers) (row_cell numbers i 2) ≡ true
  pub entry : BlockFits numbers (row_cell numbers i 3) (row_cell numbers i 4)
  pub exit : BlockFits numbers (row_cell numbers i 5) (row_cell numbers i 6)
  pub list : row_cell numbers i 7 + row_cell numbers i 8 ≤ reference_count numbers
  pub block : BlockFits numbers (row_cell numbers i 9) (row_cell numbers i 10)

pub row_fits : (numbers : List ℕ) (i : ℕ) → RowIn numbers i → RowFits numbers i
unfolding row_in_range
row_fits numbers i h =
    let p = and7 _ _ _ _ _ _ _ (h.tables.row i h.below) in
    record {
      kind = leb-true _ _ p.0;
      parent = p.1;
      id = p.2;
      entry = block_fits_lem _ _ _ p.3;
      exit = block_fits_lem _ _ _ p.4;
      list = leb-true _ _ p.5;
      block = block_fits_lem _ _ _ p.6;
    }

pub record TransitionFits (numbers : List ℕ) (t : ℕ) : Type 0 where
  pub source : transition_cell numbers t 0 < row_count numbers
  pub events : transition_cell numbers t 1 + transition_cell numbers t 2 ≤ descriptor_count numbers
  pub few_events : transition_cell numbers t 2 ≤ most_descriptors
  pub condition : optional_below (row_count numbers) (transition_cell numbers t 3) ≡ true
  pub targets : transition_cell numbers t 5 + transition_cell numbers t 6 ≤ reference_count numbers
  pub few_targets : transition_cell numbers t 6 ≤ most_targets
  pub block : BlockFits numbers (transition_cell numbers t 7) (transition_cell numbers t 8)

pub transition_fits_lem : (numbers : List ℕ) (t : ℕ) → TransitionIn numbers t → TransitionFits numbers t
unfolding transition_in_range
transition_fits_lem numbers t h =
    let p = and7 true _ _ _ _ _ _ (h.tables.transition t h.below) in
    let e = within (descriptor_count numbers) (transition_cell numbers t 1) (transition_cell numbers t 2) most_descriptors p.2 in
    let g = within (reference_count numbers) (transition_cell numbers t 5) (transition_cell numbers t 6) most_targets p.5 in
    record {
      source = ltb-true _ _ p.1;
      events = e.0;
      few_events = e.1;
      condition = p.3;
      targets = g.0;
      few_targets = g.1;
      block = block_fits_lem _ _ _ p.6;
    }

pub arguments_fit_lem : (numbers : List ℕ) (a : ℕ) → ActionIn numbers a → arguments_fit numbers (action_at numbers a) (action_cell numbers a 1) (action_cell numbers a 2) (action_cell numbers a 3) ≡ true
unfolding action_in_range
arguments_fit_lem numbers a h = and_right (leb (action_cell numbers a 0) 7) _ (h.tables.action a h.below)

-- a number that is not none is below its bound
pub optional_below_lem : (n x : ℕ) → optional_below n x ≡ true → (x ≡ no_number → ⊥) → x < n
optional_below_lem n x h d = or_elim (eqb x no_number) (ltb x n) (λ e. absurd (d (eqb-true _ _ e))) (λ e. ltb-true _ _ e) h

pub condition_below : (numbers : List ℕ) (t x : ℕ) → TransitionIn numbers t → x ≡ transition_cell numbers t 3 → (x ≡ no_number → ⊥) → x < row_count numbers
condition_below numbers t x h e d = optional_below_lem _ _ (ap (optional_below (row_count numbers)) e ∙ (transition_fits_lem numbers t h).condition) d

-- and none is no large number
pub optional_small : (n x : ℕ) → n ≤ no_number → optional_below n x ≡ true → x ≤ no_number
optional_small n x l h =
    or_elim (eqb x no_number) (ltb x n) (λ e. let q : x ≡ no_number = eqb-true _ _ e in omega arith) (λ e. let q : x < n = ltb-true _ _ e in omega arith) h

pub id_small : (numbers : List ℕ) (i : ℕ) → RowIn numbers i → row_cell numbers i 2 ≤ no_number
id_small numbers i h =
    let n = h.tables.sized.counts.names in optional_small (name_count numbers) (row_cell numbers i 2) (omega arith) (row_fits numbers i h).id
