-- The tables of a content mean the content again: equal charts, laid out in tables, stay equal.
use Rattle.std.specs.Prelude.{◌≡◌, refl, ℕ, suc, ◌≤◌, ◌+◌, ◌*◌, length}
use Rattle.std.proofs.Common.{ap, ◌∙◌, subst}
use Rattle.std.proofs.Math.Path.{ap₂}
use mathlib.Core.List.{List, [], ◌∷◌, ◌++◌, map}
use native.Mathlib.Omega.{arith}
use Rattle.std.proofs.Math.ListN.{length-append}
use Rattle.definition.specs.Rows.{flat, from}
use Rattle.definition.specs.Tables.{transition_base, reference_base, descriptor_base, action_base}
use Rattle.reading.specs.Content.{Act, Row, Transition, Content, place_of}
use Rattle.reading.specs.Layout.{act_cells, row_acts, row_cells, transition_cells, row_list, target_list, descriptor_list, transition_acts, numbers_of, names_of, row_back, transition_back, content}
use Rattle.lay.specs.Sizes.{row_count_lem, transition_count_lem, reference_count_lem, descriptor_count_lem}
use Rattle.written.specs.Sound.{AllOf}
use Rattle.written.specs.Held.{Holds, holds_whole, holds_left, holds_right, holds_at}
use Rattle.written.specs.TablesBack.{RowNamed, acts_left, acts_right}
use Rattle.written.specs.TableCells.{rows_back}
use Rattle.written.specs.TableTransitions.{TransitionNamed, transitions_back}

row_cells_lem : (slots : List (List ℕ)) (rs : List Row) (f a : ℕ) → length (row_cells slots f a rs) ≡ length rs * 11
unfolding row_cells
row_cells_lem slots [] f a = refl
row_cells_lem slots (r ∷ rs) f a =
    let later = row_cells_lem slots rs (f + length r.list) (a + length r.entry + length r.exit + length r.block) in
    omega arith

transition_cells_lem : (slots : List (List ℕ)) (ts : List Transition) (f d a : ℕ) → length (transition_cells slots f d a ts) ≡ length ts * 9
unfolding transition_cells
transition_cells_lem slots [] f d a = refl
transition_cells_lem slots (t ∷ ts) f d a =
    let later = transition_cells_lem slots ts (f + length t.targets) (d + length t.descriptors) (a + length t.block) in
    omega arith

map_long : (slots vs : List (List ℕ)) → length (map (λ (n : List ℕ). place_of n slots) vs) ≡ length vs
map_long slots [] = refl
map_long slots (v ∷ vs) = ap suc (map_long slots vs)

module _ (slots : List (List ℕ)) (c : Content) where
  abbrev tables : List ℕ
  tables = numbers_of slots c

  abbrev row_refs : List ℕ
  row_refs = flat row_list c.rows

  abbrev refs : List ℕ
  refs = row_refs ++ flat target_list c.transitions

  abbrev events : List (List ℕ)
  events = flat descriptor_list c.transitions

  abbrev row_blocks : List Act
  row_blocks = flat row_acts c.rows

  abbrev acts : List Act
  acts = row_blocks ++ flat transition_acts c.transitions

  abbrev header : List ℕ
  header = length c.rows ∷ length c.transitions ∷ length refs ∷ length events ∷ length acts ∷ length slots ∷ []

  abbrev row_part : List ℕ
  row_part = row_cells slots 0 0 c.rows

  abbrev transition_part : List ℕ
  transition_part = transition_cells slots (length row_refs) 0 (length row_blocks) c.transitions

  abbrev event_part : List ℕ
  event_part = map (λ (n : List ℕ). place_of n slots) events

  abbrev act_part : List ℕ
  act_part = flat (act_cells slots) acts

  whole : Holds tables 0 (header ++ row_part ++ transition_part ++ refs ++ event_part ++ act_part)
  unfolding numbers_of
  whole = holds_whole (header ++ row_part ++ transition_part ++ refs ++ event_part ++ act_part)

  -- where each table begins
  sizes : (length (header ++ row_part) ≡ transition_base tables) × (length (header ++ row_part ++ transition_part) ≡ reference_base tables) × (length (header ++ row_part ++ transition_part ++ refs) ≡ descriptor_base tables) ×
      (length (header ++ row_part ++ transition_part ++ refs ++ event_part) ≡ action_base tables)
  unfolding transition_base reference_base descriptor_base action_base
  sizes =
      let a = length-append header row_part in
      let b = length-append (header ++ row_part) transition_part in
      let d = length-append (header ++ row_part ++ transition_part) refs in
      let e = length-append (header ++ row_part ++ transition_part ++ refs) event_part in
      let r = row_cells_lem slots c.rows 0 0 in
      let t = transition_cells_lem slots c.transitions (length row_refs) 0 (length row_blocks) in
      let n = map_long slots events in
      let w = row_count_lem slots c in
      let x = transition_count_lem slots c in
      let y = reference_count_lem slots c in
      let z = descriptor_count_lem slots c in
      (omega arith, omega arith, omega arith, omega arith)

  plus : (k : ℕ) → 0 + k ≡ k + 0
  plus k = omega arith

  pub acts_held : Holds tables (action_base tables + 0 * 4) act_part
  acts_held = holds_at _ _ (let s = sizes.3 in omega arith) (holds_right (header ++ row_part ++ transition_part ++ refs ++ event_part) act_part whole)

  to_events : Holds tables 0 (header ++ row_part ++ transition_part ++ refs ++ event_part)
  to_events = holds_left (header ++ row_part ++ transition_part ++ refs ++ event_part) act_part whole

  pub events_held : Holds tables (descriptor_base tables + 0) event_part
  events_held = holds_at _ _ (let s = sizes.2 in omega arith) (holds_right (header ++ row_part ++ transition_part ++ refs) event_part to_events)

  to_refs : Holds tables 0 (header ++ row_part ++ transition_part ++ refs)
  to_refs = holds_left (header ++ row_part ++ transition_part ++ refs) event_part to_events

  pub refs_held : Holds tables (reference_base tables + 0) refs
  refs_held = holds_at _ _ (let s = sizes.1 in omega arith) (holds_right (header ++ row_part ++ transition_part) refs to_refs)

  to_transitions : Holds tables 0 (header ++ row_part ++ transition_part)
  to_transitions = holds_left (header ++ row_part ++ transition_part) refs to_refs

  pub transitions_held : Holds tables (transition_base tables + 0 * 9) transition_part
  transitions_held = holds_at _ _ (let s = sizes.0 in omega arith) (holds_right (header ++ row_part) transition_part to_transitions)

  pub rows_held : Holds tables (6 + 0 * 11) row_part
  rows_held = holds_at _ _ (omega arith) (holds_right header row_part (holds_left (header ++ row_part) transition_part to_transitions))

  module _ (few : length slots ≤ 65535) (rs : AllOf (RowNamed slots) c.rows) (ts : AllOf (TransitionNamed slots) c.transitions) where
    rows_again : map (row_back tables (names_of slots)) (from (length c.rows) 0) ≡ c.rows
    rows_again =
        rows_back tables slots few c.rows 0 0 0 (let w = row_count_lem slots c in omega arith) rows_held (holds_left row_refs (flat target_list c.transitions) refs_held)
        (acts_left tables slots few row_blocks (flat transition_acts c.transitions) 0 acts_held) rs

    transitions_again : map (transition_back tables (names_of slots)) (from (length c.transitions) 0) ≡ c.transitions
    transitions_again =
        transitions_back tables slots few c.transitions 0 (length row_refs) 0 (length row_blocks) (let w = transition_count_lem slots c in omega arith) transitions_held
        (holds_at (reference_base tables + 0 + length row_refs) (reference_base tables + length row_refs) (omega arith) (holds_right row_refs (flat target_list c.transitions) refs_held)) events_held
        (subst (λ (k : ℕ). Holds tables (action_base tables + k * 4) (flat (act_cells slots) (flat transition_acts c.transitions))) (zero_more (length row_blocks))
        (acts_right tables slots few row_blocks (flat transition_acts c.transitions) 0 acts_held)) ts
      where
        zero_more : (k : ℕ) → 0 + k ≡ k
        zero_more k = omega arith

    -- the tables of a content mean it
    pub content_back : content tables (names_of slots) ≡ c
    unfolding content
    content_back =
        ap₂ (λ (x : List Row) (y : List Transition). record { rows = x; transitions = y }) (ap (λ (k : ℕ). map (row_back tables (names_of slots)) (from k 0)) (row_count_lem slots c) ∙ rows_again)
        (ap (λ (k : ℕ). map (transition_back tables (names_of slots)) (from k 0)) (transition_count_lem slots c) ∙ transitions_again)
