-- The tables that are read from what was written of an accepted chart keep rule 1.
use Rattle.std.specs.Prelude.{◌≡◌, refl, Bool, true, false, ◌&&◌, ◌||◌, cond, List, [], ◌∷◌, map, ℕ, zero, suc, ◌≤◌, ◌<◌, ◌+◌, eqb, length, take, drop}
use Rattle.std.proofs.Common.{sym, ap, ◌∙◌, zero-add}
use Rattle.std.proofs.Math.Path.{subst}
use Rattle.std.proofs.Math.Option.{Option, none, some}
use native.Mathlib.Omega.{arith}
use Rattle.std.proofs.Math.Dec.{leb, ltb}
use borrow.Author.Tests.{leb-true, lt-ltb}
use Rattle.definition.specs.declared.Answer.TheVariants.{Done}
use Rattle.definition.specs.Rows.{from, flat, is_empty}
use Rattle.definition.specs.Tables.{no_number, row_count, transition_count, reference_count, descriptor_count, action_count, name_count, reference_base, descriptor_base, row_cell, transition_cell, part, references_at, descriptors_at, name_at}
use Rattle.definition.specs.Rules.{each, inside, optional_below, counts_fit, sizes_fit, compiled_size, block_fits, row_in_range, transition_in_range, rule1, keeps_rules}
use Rattle.reading.specs.Content.{Act, raises, hosts, if_in, elseif_in, otherwise, end_if, sends, cancels, Row, Transition, Content, place_of}
use Rattle.reading.specs.Layout.{or_none, id_cell, row_list, target_list, descriptor_list, acts_at, row_back, transition_back, content}
use Rattle.laws.specs.Bools.{and_left, and_right, and7}
use Rattle.laws.specs.Maps.{map_length}
use Rattle.laws.specs.Loops.{each_below}
use Rattle.accepted.specs.Sound.{accepted_rule1}
use Rattle.lay.specs.Sizes.{row_count_lem, name_count_lem}
use Rattle.written.specs.Sound.{AllOf, no_more, more, always, Ref, ActFits, ConditionFits, RowFits, TransitionFits}
use Rattle.written.specs.Values.{all_both}
use Rattle.written.specs.TableBlocks.{accepted_root, look}
use Rattle.written.specs.TableRows.{row_range}
use Rattle.written.specs.SlotNames.{Slotted, place_low}
use Rattle.written.specs.TablesBack.{ActNamed, RowNamed}
use Rattle.written.specs.TableTransitions.{TransitionNamed}
use Rattle.written.specs.ReadBack.{s, rows_have}
use Rattle.written.specs.ReadNames.{all_mapped_at}
use Rattle.written.specs.ReadRule2.{chart, own, new_numbers, count, acts, acts_fit, acts_have, rows_count}
use Rattle.written.specs.Ranges.{Below, ActOK, RowOK, TransitionOK}
use Rattle.written.specs.Limits.{take_most, map_most}

pub all_built : {A : Type 0} {P : A → Type 0} (f : ℕ → A) (k i : ℕ) → ((j : ℕ) → i ≤ j → j < i + k → P (f j)) → AllOf P (map f (from k i))
unfolding from
all_built f zero i g = no_more
all_built f (suc k) i g = more (g i (omega arith) (omega arith)) (all_built f k (suc i) (λ (j : ℕ) (l : suc i ≤ j) (h : j < suc i + k). g j (omega arith) (omega arith)))

-- ---- actions

act_ok : (numbers : List ℕ) (slots : List (List ℕ)) (n : ℕ) → n ≡ row_count numbers → length slots ≡ name_count numbers → (a : Act) → ActFits n a → ActNamed slots a → ActOK numbers slots a
act_ok numbers slots n e q (raises v) f g = let l = place_low v slots g.among in omega arith
act_ok numbers slots n e q (hosts x) f g = f
act_ok numbers slots n e q (if_in i) f g = let l = f.below in omega arith
act_ok numbers slots n e q (elseif_in i) f g = let l = f.below in omega arith
act_ok numbers slots n e q otherwise f g = always
act_ok numbers slots n e q end_if f g = always
act_ok numbers slots n e q (sends v d none) (f, l) g = let p = place_low v slots g.among in (omega arith, l)
act_ok numbers slots n e q (sends v d (some w)) (f, l, i) (g, k) = let p = place_low v slots g.among in let r = place_low w slots k.among in (omega arith, l, omega arith)
act_ok numbers slots n e q (cancels v) f g = let l = place_low v slots g.among in omega arith

acts_ok : (numbers : List ℕ) (slots : List (List ℕ)) (n : ℕ) → n ≡ row_count numbers → length slots ≡ name_count numbers → (xs : List Act) → AllOf (ActFits n) xs → AllOf (ActNamed slots) xs → AllOf (ActOK numbers slots) xs
acts_ok numbers slots n e q [] no_more no_more = no_more
acts_ok numbers slots n e q (a ∷ xs) (more f fs) (more g gs) = more (act_ok numbers slots n e q a f g) (acts_ok numbers slots n e q xs fs gs)

-- ---- lists of numbers

refs_below : (n m : ℕ) → n ≡ m → (numbers : List ℕ) (slots : List (List ℕ)) (xs : List ℕ) → AllOf (Ref n) xs → AllOf (Below numbers slots m) xs
refs_below n m e numbers slots [] no_more = no_more
refs_below n m e numbers slots (x ∷ xs) (more f g) = let b : x < m = (let l = f.below in omega arith) in more (record { below = b }) (refs_below n m e numbers slots xs g)

pub lists_below : (n m : ℕ) → n ≡ m → (numbers : List ℕ) (slots : List (List ℕ)) (rs : List Row) → AllOf (RowFits n) rs → AllOf (Below numbers slots m) (flat row_list rs)
unfolding flat
lists_below n m e numbers slots [] no_more = no_more
lists_below n m e numbers slots (r ∷ rs) (more f g) = all_both (refs_below n m e numbers slots r.list f.list) (lists_below n m e numbers slots rs g)

pub targets_below : (n m : ℕ) → n ≡ m → (numbers : List ℕ) (slots : List (List ℕ)) (ts : List Transition) → AllOf (TransitionFits n) ts → AllOf (Below numbers slots m) (flat target_list ts)
unfolding flat
targets_below n m e numbers slots [] no_more = no_more
targets_below n m e numbers slots (t ∷ ts) (more f g) = all_both (refs_below n m e numbers slots t.targets f.targets) (targets_below n m e numbers slots ts g)

pub places_below : (m : ℕ) (numbers : List ℕ) (slots vs : List (List ℕ)) → length slots ≡ m → AllOf (Slotted slots) vs → AllOf (Below numbers slots m) (map (λ (n : List ℕ). place_of n slots) vs)
places_below m numbers slots [] e no_more = no_more
places_below m numbers slots (v ∷ vs) e (more f g) = let b : place_of v slots < m = (let l = place_low v slots f.among in omega arith) in more (record { below = b }) (places_below m numbers slots vs e g)

pub events_slotted : (slots : List (List ℕ)) (ts : List Transition) → AllOf (TransitionNamed slots) ts → AllOf (Slotted slots) (flat descriptor_list ts)
unfolding flat
events_slotted slots [] no_more = no_more
events_slotted slots (t ∷ ts) (more f g) = all_both f.events_named (events_slotted slots ts g)

condition_ok : (n m : ℕ) → n ≡ m → (o : Option ℕ) → ConditionFits n o → optional_below m (or_none o) ≡ true
condition_ok n m e none f = refl
condition_ok n m e (some i) f = by (eqb i no_number) (lt-ltb i m (let l = f.below in omega arith))
  where
    by : (z : Bool) {y : Bool} → y ≡ true → (z || y) ≡ true
    by true q = refl
    by false q = q

id_ok : (m : ℕ) (slots : List (List ℕ)) → length slots ≡ m → (v : List ℕ) → (is_empty v ≡ false → Slotted slots v) → optional_below m (id_cell slots v) ≡ true
id_ok m slots e v f = by (is_empty v) refl
  where
    or : (z : Bool) {y : Bool} → y ≡ true → (z || y) ≡ true
    or true q = refl
    or false q = q

    by : (z : Bool) → is_empty v ≡ z → optional_below m (cond z no_number (place_of v slots)) ≡ true
    by true q = refl
    by false q = or (eqb (place_of v slots) no_number) (lt-ltb (place_of v slots) m (let l = place_low v slots (f q).among in omega arith))

module _ (numbers names : List ℕ) (h : keeps_rules numbers names ≡ Done) where
  abbrev new : List ℕ
  new = new_numbers numbers names h

  abbrev mine : List (List ℕ)
  mine = own numbers names h

  abbrev whole : Content
  whole = chart numbers names h

  abbrev n : ℕ
  n = count numbers names h

  pub names_are : length mine ≡ name_count new
  names_are = sym (name_count_lem mine whole)

  pub rows_number : n ≡ row_count new
  rows_number = sym (row_count_lem mine whole)

  -- ---- rows

  block_short : (start count : ℕ) → block_fits numbers start count ≡ true → length (acts_at numbers names start count) ≤ 32
  unfolding block_fits acts_at
  block_short start count f =
      let l = leb-true count 32 (and_right (inside (action_count numbers) start count) (leb count 32) f) in
      subst (λ (k : ℕ). k ≤ 32) (sym (map_length (look numbers names (accepted_root numbers names h)) count start)) l

  pub row_ok : (i : ℕ) → i < row_count numbers → RowOK new mine (row_back numbers names i)
  unfolding row_in_range
  row_ok i l =
      let k = and7 (leb (row_cell numbers i 0) 5) (optional_below (row_count numbers) (row_cell numbers i 1)) (optional_below (name_count numbers) (row_cell numbers i 2)) (block_fits numbers (row_cell numbers i 3) (row_cell numbers i 4))
      (block_fits numbers (row_cell numbers i 5) (row_cell numbers i 6)) (inside (reference_count numbers) (row_cell numbers i 7) (row_cell numbers i 8)) (block_fits numbers (row_cell numbers i 9) (row_cell numbers i 10)) (row_range numbers names h i l) in
      record {
        kinds = unfold row_back in leb-true (row_cell numbers i 0) 5 k.0;
        parents = unfold row_back in (ap (λ (m : ℕ). optional_below m (row_cell numbers i 1)) (rows_count numbers names h) ∙ k.1);
        ids = id_ok (name_count new) mine names_are (row_back numbers names i).id named_row.id_named_lem;
        entries = unfold row_back in block_short (row_cell numbers i 3) (row_cell numbers i 4) k.3;
        exits = unfold row_back in block_short (row_cell numbers i 5) (row_cell numbers i 6) k.4;
        blocks = unfold row_back in block_short (row_cell numbers i 9) (row_cell numbers i 10) k.6;
      }
    where
      all_named : AllOf (RowNamed mine) (map (row_back numbers names) (from (row_count numbers) 0))
      all_named = unfold content in rows_have numbers names h

      named_row : RowNamed mine (row_back numbers names i)
      named_row = subst (λ (x : ℕ). RowNamed mine (row_back numbers names x)) (zero-add i) (all_mapped_at (row_back numbers names) (row_count numbers) 0 i l all_named)

  pub rows_ok : AllOf (RowOK new mine) whole.rows
  unfolding content
  rows_ok = all_built (row_back numbers names) (row_count numbers) 0 (λ (j : ℕ) (a : 0 ≤ j) (b : j < 0 + row_count numbers). row_ok j (omega arith))

  -- ---- transitions

  in_range : (t : ℕ) → t < transition_count numbers → transition_in_range numbers t ≡ true
  unfolding rule1
  in_range t l =
      each_below (transition_in_range numbers) (transition_count numbers)
      (and7 (counts_fit numbers) (sizes_fit numbers names (compiled_size numbers) (length names)) (each (row_count numbers) (row_in_range numbers)) (each (transition_count numbers) (transition_in_range numbers)) _ _ _ (accepted_rule1 numbers names h)).3 t l

  counts : (t : ℕ) → t < transition_count numbers → (transition_cell numbers t 2 ≤ 4) × (transition_cell numbers t 6 ≤ 8) × (block_fits numbers (transition_cell numbers t 7) (transition_cell numbers t 8) ≡ true)
  unfolding transition_in_range
  counts t l =
      let a = ltb (transition_cell numbers t 0) (row_count numbers) in
      let b = inside (descriptor_count numbers) (transition_cell numbers t 1) (transition_cell numbers t 2) && leb (transition_cell numbers t 2) 4 in
      let c = optional_below (row_count numbers) (transition_cell numbers t 3) in
      let d = leb (transition_cell numbers t 4) 1 in
      let e = inside (reference_count numbers) (transition_cell numbers t 5) (transition_cell numbers t 6) && leb (transition_cell numbers t 6) 8 in
      let f = block_fits numbers (transition_cell numbers t 7) (transition_cell numbers t 8) in
      let r = in_range t l in
      let u = and_left (a && b && c && d && e) f r in
      let v = and_left (a && b) c (and_left (a && b && c) d (and_left (a && b && c && d) e u)) in (
        leb-true (transition_cell numbers t 2) 4 (and_right (inside (descriptor_count numbers) (transition_cell numbers t 1) (transition_cell numbers t 2)) _ (and_right a b v)),
        leb-true (transition_cell numbers t 6) 8 (and_right (inside (reference_count numbers) (transition_cell numbers t 5) (transition_cell numbers t 6)) _ (and_right (a && b && c && d) e u)),
        and_right (a && b && c && d && e) f r,
      )

  pub events_short : (t : ℕ) → t < transition_count numbers → length (transition_back numbers names t).descriptors ≤ 4
  unfolding transition_back descriptors_at part
  events_short t l =
      let a = map_most (name_at names) (take (transition_cell numbers t 2) (drop (descriptor_base numbers + transition_cell numbers t 1) numbers)) in
      let b = take_most (transition_cell numbers t 2) (drop (descriptor_base numbers + transition_cell numbers t 1) numbers) in
      let c = (counts t l).0 in
      omega arith

  pub targets_short : (t : ℕ) → t < transition_count numbers → length (transition_back numbers names t).targets ≤ 8
  unfolding transition_back references_at part
  targets_short t l =
      let b = take_most (transition_cell numbers t 6) (drop (reference_base numbers + transition_cell numbers t 5) numbers) in
      let c = (counts t l).1 in
      omega arith

  pub transition_block_short : (t : ℕ) → t < transition_count numbers → length (transition_back numbers names t).block ≤ 32
  unfolding transition_back
  transition_block_short t l = block_short (transition_cell numbers t 7) (transition_cell numbers t 8) (counts t l).2

  pub transitions_many : length whole.transitions ≡ transition_count numbers
  unfolding content
  transitions_many = map_length (transition_back numbers names) (transition_count numbers) 0

  fits_at_lem : (t : ℕ) → t < transition_count numbers → TransitionFits n (transition_back numbers names t)
  fits_at_lem t l = subst (λ (x : ℕ). TransitionFits n (transition_back numbers names x)) (zero-add t) (all_mapped_at (transition_back numbers names) (transition_count numbers) 0 t l every)
    where
      every : AllOf (TransitionFits n) (map (transition_back numbers names) (from (transition_count numbers) 0))
      every = unfold content in (s numbers names h).transitions_fit

  transition_ok : (t : ℕ) → t < transition_count numbers → TransitionOK new mine (transition_back numbers names t)
  transition_ok t l =
      let f = fits_at_lem t l in
      record {
        sources = subst (λ (m : ℕ). (transition_back numbers names t).source < m) rows_number f.source;
        events = events_short t l;
        conditions = condition_ok n (row_count new) rows_number (transition_back numbers names t).condition f.condition;
        goals = targets_short t l;
        blocks = transition_block_short t l;
      }

  pub transitions_ok : AllOf (TransitionOK new mine) whole.transitions
  unfolding content
  transitions_ok = all_built (transition_back numbers names) (transition_count numbers) 0 (λ (j : ℕ) (a : 0 ≤ j) (b : j < 0 + transition_count numbers). transition_ok j (omega arith))

  -- ---- actions

  pub actions_ok : AllOf (ActOK new mine) (acts numbers names h)
  actions_ok = acts_ok new mine n rows_number names_are (acts numbers names h) (acts_fit numbers names h) (acts_have numbers names h)
