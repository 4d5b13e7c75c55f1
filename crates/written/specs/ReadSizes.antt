-- The tables that are read from what was written of an accepted chart keep rule 1: counts, sizes, ranges.
use Rattle.std.specs.Prelude.{◌≡◌, Bool, true, ◌&&◌, List, [], ◌∷◌, ◌++◌, map, ℕ, ◌≤◌, ◌<◌, ◌+◌, ◌*◌, leb}
use Rattle.std.proofs.Math.Path.{refl}
use Rattle.std.proofs.Common.{arith}
use Rattle.std.proofs.Math.ListN.{length, length-append}
use borrow.Author.Tests.{leb-true, le-leb, eq-eqb}
use Rattle.definition.specs.declared.Answer.TheVariants.{Done}
use Rattle.definition.specs.Rows.{flat}
use Rattle.definition.specs.Tables.{most_rows, most_transitions, most_names, row_count, transition_count, reference_count, descriptor_count, action_count, name_count, tables_size, transition_base, reference_base, descriptor_base, action_base, list_at, chart_of}
use Rattle.definition.specs.Tree.{listed}
use Rattle.definition.specs.Rules.{each, counts_fit, sizes_fit, compiled_size, row_in_range, transition_in_range, reference_in_range, descriptor_in_range, action_in_range, are_apart, list_fits, blocks_fit, row_lists_fit, rule1, keeps_rules}
use Rattle.reading.specs.Content.{Row, Transition, Content, place_of}
use Rattle.reading.specs.Layout.{row_acts, row_list, target_list, descriptor_list, transition_acts, row_back, content}
use Rattle.laws.specs.Bools.{and3, and7}
use Rattle.laws.specs.Loops.{below_each}
use Rattle.accepted.specs.Sound.{accepted_rule1}
use Rattle.lay.specs.Sizes.{row_count_lem, transition_count_lem, reference_count_lem, descriptor_count_lem, action_count_lem, name_count_lem, tables_size_lem, names_size_lem}
use Rattle.written.specs.Sound.{AllOf, no_more, more}
use Rattle.written.specs.Values.{all_both}
use Rattle.written.specs.Held.{holds_at}
use Rattle.written.specs.Whole.{all_fit}
use Rattle.written.specs.Accepted.{count_rows, few_rows}
use Rattle.written.specs.AcceptedRows.{some_row, list_refs}
use Rattle.written.specs.TableRows.{row_lists}
use Rattle.written.specs.TableContent.{rows_held, transitions_held, refs_held, events_held, acts_held}
use Rattle.written.specs.ReadBack.{s, transitions_named, transitions_speak, slots_few, few_names}
use Rattle.written.specs.ReadRule2.{chart, own, new_numbers, new_names, count, acts}
use Rattle.written.specs.Ranges.{references_in, descriptors_in, actions_in, RowOK, rows_in, TransitionOK, transitions_in}
use Rattle.written.specs.Limits.{Most, flat_most, map_most, list_most}
use Rattle.written.specs.ReadRule1.{all_built, lists_below, targets_below, places_below, events_slotted, rows_ok, transitions_ok, actions_ok, rows_number, names_are, transitions_many}

all_seven : (a b c d e f g : Bool) → a ≡ true → b ≡ true → c ≡ true → d ≡ true → e ≡ true → f ≡ true → g ≡ true → (a && b && c && d && e && f && g) ≡ true
all_seven a b c d e f g p q r s t u v = rw (p, q, r, s, t, u, v)

goals_most : (numbers : List ℕ) (slots : List (List ℕ)) (ts : List Transition) → AllOf (TransitionOK numbers slots) ts → AllOf (Most target_list 8) ts
goals_most numbers slots [] no_more = no_more
goals_most numbers slots (t ∷ ts) (more f g) = more (record { most = f.goals }) (goals_most numbers slots ts g)

events_most : (numbers : List ℕ) (slots : List (List ℕ)) (ts : List Transition) → AllOf (TransitionOK numbers slots) ts → AllOf (Most descriptor_list 4) ts
events_most numbers slots [] no_more = no_more
events_most numbers slots (t ∷ ts) (more f g) = more (record { most = f.events }) (events_most numbers slots ts g)

blocks_most : (numbers : List ℕ) (slots : List (List ℕ)) (ts : List Transition) → AllOf (TransitionOK numbers slots) ts → AllOf (Most transition_acts 32) ts
blocks_most numbers slots [] no_more = no_more
blocks_most numbers slots (t ∷ ts) (more f g) = more (record { most = f.blocks }) (blocks_most numbers slots ts g)

acts_most : (numbers : List ℕ) (slots : List (List ℕ)) (rs : List Row) → AllOf (RowOK numbers slots) rs → AllOf (Most row_acts 96) rs
acts_most numbers slots [] no_more = no_more
acts_most numbers slots (r ∷ rs) (more f g) =
    let b : length (row_acts r) ≤ 96 = (let p = length-append (r.entry ++ r.exit) r.block in
    let q = length-append r.entry r.exit in
    let x = f.entries in
    let y = f.exits in
    let z = f.blocks in
    omega arith) in
    more (record { most = b }) (acts_most numbers slots rs g)

module _ (numbers names : List ℕ) (h : keeps_rules numbers names ≡ Done) where
  abbrev new : List ℕ
  new = new_numbers numbers names h

  abbrev new_bytes : List ℕ
  new_bytes = new_names numbers names h

  abbrev mine : List (List ℕ)
  mine = own numbers names h

  abbrev whole : Content
  whole = chart numbers names h

  abbrev n : ℕ
  n = count numbers names h

  few_transitions : transition_count numbers ≤ 512
  unfolding rule1 counts_fit
  few_transitions =
      leb-true (transition_count numbers) 512
      (and7 (leb 1 (row_count numbers)) (leb (row_count numbers) most_rows) (leb (transition_count numbers) most_transitions) (leb (name_count numbers) most_names) _ _ _
      (and7 (counts_fit numbers) (sizes_fit numbers names (compiled_size numbers) (length names)) _ _ _ _ _ (accepted_rule1 numbers names h)).0).2

  -- ---- counts

  list_short : (i : ℕ) → i < row_count numbers → length (row_back numbers names i).list ≤ 256
  list_short i l =
      let a = few_rows numbers names h in
      let b : length (row_back numbers names i).list ≤ row_count numbers = list_most (chart_of numbers) (row_count numbers) (row_back numbers names i).list stands (list_refs numbers names h i l) in
      omega arith
    where
      lists : are_apart (chart_of numbers) (listed (chart_of numbers) i) ≡ true
      lists = unfold row_lists_fit in (and3 (are_apart (chart_of numbers) (listed (chart_of numbers) i)) (list_fits (chart_of numbers) i) (blocks_fit (chart_of numbers) i) (row_lists numbers names h i l)).0

      stands : are_apart (chart_of numbers) (row_back numbers names i).list ≡ true
      stands = unfold row_back list_at in lists

  lists_most : AllOf (Most row_list 256) whole.rows
  unfolding content
  lists_most = all_built (row_back numbers names) (row_count numbers) 0 (λ (j : ℕ) (a : 0 ≤ j) (b : j < 0 + row_count numbers). record { most = list_short j (omega arith) })

  abbrev refs : List ℕ
  refs = flat row_list whole.rows ++ flat target_list whole.transitions

  abbrev events : List (List ℕ)
  events = flat descriptor_list whole.transitions

  counts_1 : counts_fit new ≡ true
  unfolding counts_fit
  counts_1 =
      let rows = row_count_lem mine whole in
      let cr = count_rows numbers names h in
      let fr = few_rows numbers names h in
      let sr = some_row numbers names h in
      let ts = transition_count_lem mine whole in
      let tm = transitions_many numbers names h in
      let ft = few_transitions in
      let ns = name_count_lem mine whole in
      let sf = slots_few numbers names h in
      let fn = few_names numbers names h in
      let rc = reference_count_lem mine whole in
      let ra = length-append (flat row_list whole.rows) (flat target_list whole.transitions) in
      let rl = flat_most row_list 256 whole.rows lists_most in
      let rt = flat_most target_list 8 whole.transitions (goals_most new mine whole.transitions (transitions_ok numbers names h)) in
      let dc = descriptor_count_lem mine whole in
      let dm = flat_most descriptor_list 4 whole.transitions (events_most new mine whole.transitions (transitions_ok numbers names h)) in
      let ac = action_count_lem mine whole in
      let aa = length-append (flat row_acts whole.rows) (flat transition_acts whole.transitions) in
      let ar = flat_most row_acts 96 whole.rows (acts_most new mine whole.rows (rows_ok numbers names h)) in
      let at = flat_most transition_acts 32 whole.transitions (blocks_most new mine whole.transitions (transitions_ok numbers names h)) in
      all_seven (leb 1 (row_count new)) (leb (row_count new) 256) (leb (transition_count new) 512) (leb (name_count new) 768) (leb (reference_count new) 69632) (leb (descriptor_count new) 2048) (leb (action_count new) 40960)
      (le-leb 1 (row_count new) (omega arith)) (le-leb (row_count new) 256 (omega arith)) (le-leb (transition_count new) 512 (omega arith)) (le-leb (name_count new) 768 (omega arith)) (le-leb (reference_count new) 69632 (omega arith))
      (le-leb (descriptor_count new) 2048 (omega arith)) (le-leb (action_count new) 40960 (omega arith))

  -- ---- sizes

  sizes_1 : sizes_fit new new_bytes (compiled_size new) (length new_bytes) ≡ true
  unfolding sizes_fit
  sizes_1 = rw (eq-eqb (length new) (tables_size new) size, eq-eqb (length new_bytes) (name_count new * 64) bytes, eq-eqb (compiled_size new) (compiled_size new) refl, eq-eqb (length new_bytes) (length new_bytes) refl)
    where
      size : length new ≡ tables_size new
      size =
          let a = tables_size_lem mine whole in
          let rows = row_count_lem mine whole in
          let ts = transition_count_lem mine whole in
          let rc = reference_count_lem mine whole in
          let dc = descriptor_count_lem mine whole in
          let ac = action_count_lem mine whole in
          unfold tables_size action_base descriptor_base reference_base transition_base in (omega arith)

      bytes : length new_bytes ≡ name_count new * 64
      bytes = let a = names_size_lem mine in let b = name_count_lem mine whole in omega arith

  -- ---- ranges

  rows_1 : each (row_count new) (row_in_range new) ≡ true
  rows_1 =
      below_each (row_in_range new) (row_count new)
      (λ (j : ℕ) (m : j < row_count new).
      let rows = row_count_lem mine whole in
      let rc = reference_count_lem mine whole in
      let ra = length-append (flat row_list whole.rows) (flat target_list whole.transitions) in
      let ac = action_count_lem mine whole in
      let aa = length-append (flat row_acts whole.rows) (flat transition_acts whole.transitions) in
      rows_in new mine whole.rows 0 0 0 (omega arith) (rows_held mine whole) (omega arith) (omega arith) (rows_ok numbers names h) j (omega arith) (omega arith))

  transitions_1 : each (transition_count new) (transition_in_range new) ≡ true
  transitions_1 =
      below_each (transition_in_range new) (transition_count new)
      (λ (j : ℕ) (m : j < transition_count new).
      let ts = transition_count_lem mine whole in
      let rc = reference_count_lem mine whole in
      let ra = length-append (flat row_list whole.rows) (flat target_list whole.transitions) in
      let dc = descriptor_count_lem mine whole in
      let ac = action_count_lem mine whole in
      let aa = length-append (flat row_acts whole.rows) (flat transition_acts whole.transitions) in
      transitions_in new mine whole.transitions 0 (length (flat row_list whole.rows)) 0 (length (flat row_acts whole.rows)) (omega arith) (transitions_held mine whole) (omega arith) (omega arith) (omega arith)
      (transitions_ok numbers names h) j (omega arith) (omega arith))

  references_1 : each (reference_count new) (reference_in_range new) ≡ true
  references_1 =
      below_each (reference_in_range new) (reference_count new)
      (λ (k : ℕ) (m : k < reference_count new).
      let rc = reference_count_lem mine whole in
      references_in new mine refs (holds_at (reference_base new + 0) (reference_base new) (omega arith) (refs_held mine whole))
      (all_both (lists_below n (row_count new) (rows_number numbers names h) new mine whole.rows (all_fit whole (s numbers names h)))
      (targets_below n (row_count new) (rows_number numbers names h) new mine whole.transitions (s numbers names h).transitions_fit)) k (omega arith))

  abbrev places : List ℕ
  places = map (λ (v : List ℕ). place_of v mine) events

  descriptors_1 : each (descriptor_count new) (descriptor_in_range new) ≡ true
  descriptors_1 =
      below_each (descriptor_in_range new) (descriptor_count new)
      (λ (k : ℕ) (m : k < descriptor_count new).
      let dc = descriptor_count_lem mine whole in
      let pl = map_most (λ (v : List ℕ). place_of v mine) events in
      descriptors_in new mine places (holds_at (descriptor_base new + 0) (descriptor_base new) (omega arith) (events_held mine whole))
      (places_below (name_count new) new mine events (names_are numbers names h)
      (events_slotted mine whole.transitions (transitions_named mine n (s numbers names h).few whole.transitions (s numbers names h).transitions_fit (transitions_speak numbers names h)))) k (omega arith))

  actions_1 : each (action_count new) (action_in_range new) ≡ true
  actions_1 =
      below_each (action_in_range new) (action_count new)
      (λ (k : ℕ) (m : k < action_count new).
      let ac = action_count_lem mine whole in
      actions_in new mine (acts numbers names h) 0 (acts_held mine whole) (actions_ok numbers names h) k (omega arith) (omega arith))

  -- the tables that are read keep rule 1
  pub read_rule1 : rule1 new new_bytes (compiled_size new) (length new_bytes) ≡ true
  unfolding rule1
  read_rule1 =
      all_seven (counts_fit new) (sizes_fit new new_bytes (compiled_size new) (length new_bytes)) (each (row_count new) (row_in_range new)) (each (transition_count new) (transition_in_range new))
      (each (reference_count new) (reference_in_range new)) (each (descriptor_count new) (descriptor_in_range new)) (each (action_count new) (action_in_range new)) counts_1 sizes_1 rows_1 transitions_1 references_1 descriptors_1 actions_1
