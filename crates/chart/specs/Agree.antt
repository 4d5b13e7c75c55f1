-- Numbers that begin with the same tables mean the same chart, whatever stands behind the tables.
use Rattle.std.specs.Prelude.{◌≡◌, Bool, length, get_or, drop}
use Rattle.std.proofs.Math.Path.{refl, sym, ap, ap₂}
use Rattle.std.proofs.Common.{◌∙◌, get_or-take, take-take}
use Rattle.std.proofs.Math.Bool.{true, false, cond}
use mathlib.Core.List.{List, [], ◌∷◌}
use Prim.Native.Nat.{ℕ, zero, suc, ◌+◌, ◌*◌, ◌≤◌, ◌<◌}
use native.Mathlib.Omega.{arith}
use Rattle.std.proofs.Math.Dec.{eqb, ltb}
use Rattle.std.proofs.Math.ListN.{take}
use borrow.Author.Tests.{ltb-true}
use Rattle.definition.specs.declared.Action.{Action}
use Rattle.definition.specs.declared.Action.TheVariants.{Raise, Host, If, ElseIf, Else, End, Send, Cancel}
use Rattle.definition.specs.Rows.{from}
use Rattle.definition.specs.Tables.{no_row, kind_of, optional, row_count, transition_count, reference_count, descriptor_count, action_count, name_count, transition_base, reference_base, descriptor_base, action_base, tables_size, row_cell, transition_cell, reference_cell, descriptor_cell, action_cell, action_at, part, references_at, descriptors_at, block_at, kind_at, parent_at, id_at, entry_at, exit_at, list_at, list_block_at, source_at, events_at, condition_at, internal_at, targets_at, transition_block_at, row_at, transition_at, chart_of}
use Rattle.definition.specs.Rules.{row_in_range, transition_in_range, reference_in_range, descriptor_in_range, arguments_fit, action_in_range, block_fits, compiled_size}
use Rattle.laws.specs.Bools.{bool_case}
use Rattle.tables.specs.Ranges.{layout, Counts, InTables, row_fits, transition_fits_lem}

-- a part that lies within the first m
part_take : (m s n : ℕ) (xs : List ℕ) → s + n ≤ m → take n (drop s (take m xs)) ≡ take n (drop s xs)
part_take m zero n xs l = take-take n m xs (omega arith)
part_take zero (suc s) n xs l = absurd (omega arith)
part_take (suc m) (suc s) n [] l = refl
part_take (suc m) (suc s) n (x ∷ xs) l = part_take m s n xs (omega arith)

-- ---- what the tables of a row and a transition use lies inside; past the counts nothing is used

row_spans : (numbers : List ℕ) → InTables numbers → (i : ℕ) →
    (row_cell numbers i 3 + row_cell numbers i 4 ≤ action_count numbers) × (row_cell numbers i 5 + row_cell numbers i 6 ≤ action_count numbers) ×
    (row_cell numbers i 7 + row_cell numbers i 8 ≤ reference_count numbers) × (row_cell numbers i 9 + row_cell numbers i 10 ≤ action_count numbers)
row_spans numbers h i =
    bool_case (ltb i (row_count numbers))
    (λ e. let f = row_fits numbers i (record { tables = h; below = ltb-true _ _ e }) in (f.entry.inside, f.exit.inside, f.list, f.block.inside))
    (λ e. unfold row_cell in rw e (omega arith, omega arith, omega arith, omega arith))

transition_spans : (numbers : List ℕ) → InTables numbers → (t : ℕ) →
    (transition_cell numbers t 1 + transition_cell numbers t 2 ≤ descriptor_count numbers) × (transition_cell numbers t 5 + transition_cell numbers t 6 ≤ reference_count numbers) ×
    (transition_cell numbers t 7 + transition_cell numbers t 8 ≤ action_count numbers)
transition_spans numbers h t =
    bool_case (ltb t (transition_count numbers))
    (λ e. let f = transition_fits_lem numbers t (record { tables = h; below = ltb-true _ _ e }) in (f.events, f.targets, f.block.inside))
    (λ e. unfold transition_cell in rw e (omega arith, omega arith, omega arith))

module _ (a b : List ℕ) (same : take (tables_size b) a ≡ take (tables_size b) b) where
  at : (k : ℕ) → k < tables_size b → get_or a k 0 ≡ get_or b k 0
  at k l = sym (get_or-take (tables_size b) a k 0 l) ∙ ap (λ (xs : List ℕ). get_or xs k 0) same ∙ get_or-take (tables_size b) b k 0 l

  header : (k : ℕ) → k < 6 → get_or a k 0 ≡ get_or b k 0
  unfolding layout
  header k l = at k (omega arith)

  pub agree_rows : row_count a ≡ row_count b
  unfolding row_count
  agree_rows = header 0 (omega arith)

  pub agree_transitions : transition_count a ≡ transition_count b
  unfolding transition_count
  agree_transitions = header 1 (omega arith)

  agree_references : reference_count a ≡ reference_count b
  unfolding reference_count
  agree_references = header 2 (omega arith)

  agree_descriptors : descriptor_count a ≡ descriptor_count b
  unfolding descriptor_count
  agree_descriptors = header 3 (omega arith)

  agree_actions : action_count a ≡ action_count b
  unfolding action_count
  agree_actions = header 4 (omega arith)

  pub agree_names : name_count a ≡ name_count b
  unfolding name_count
  agree_names = header 5 (omega arith)

  transition_base_lem : transition_base a ≡ transition_base b
  unfolding transition_base
  transition_base_lem = rw agree_rows

  reference_base_lem : reference_base a ≡ reference_base b
  unfolding reference_base
  reference_base_lem = rw (transition_base_lem, agree_transitions)

  descriptor_base_lem : descriptor_base a ≡ descriptor_base b
  unfolding descriptor_base
  descriptor_base_lem = rw (reference_base_lem, agree_references)

  action_base_lem : action_base a ≡ action_base b
  unfolding action_base
  action_base_lem = rw (descriptor_base_lem, agree_descriptors)

  pub agree_size : tables_size a ≡ tables_size b
  unfolding tables_size
  agree_size = rw (action_base_lem, agree_actions)

  pub agree_compiled_size : compiled_size a ≡ compiled_size b
  unfolding compiled_size
  agree_compiled_size = rw (agree_size, agree_rows, agree_transitions)

  -- ---- cells

  row_cell_lem : (i k : ℕ) → k < 11 → row_cell a i k ≡ row_cell b i k
  unfolding row_cell
  row_cell_lem i k l = rw agree_rows (go (ltb i (row_count b)) refl)
    where
      go : (x : Bool) → ltb i (row_count b) ≡ x → cond x (get_or a (6 + i * 11 + k) 0) (no_row k) ≡ cond x (get_or b (6 + i * 11 + k) 0) (no_row k)
      go true e = let m : i < row_count b = ltb-true _ _ e in at (6 + i * 11 + k) (unfold layout in omega arith)
      go false e = refl

  transition_cell_lem : (t k : ℕ) → k < 9 → transition_cell a t k ≡ transition_cell b t k
  unfolding transition_cell
  transition_cell_lem t k l = rw (agree_transitions, transition_base_lem) (go (ltb t (transition_count b)) refl)
    where
      go : (x : Bool) → ltb t (transition_count b) ≡ x → cond x (get_or a (transition_base b + t * 9 + k) 0) 0 ≡ cond x (get_or b (transition_base b + t * 9 + k) 0) 0
      go true e = let m : t < transition_count b = ltb-true _ _ e in at (transition_base b + t * 9 + k) (unfold layout in omega arith)
      go false e = refl

  reference_cell_lem : (k : ℕ) → k < reference_count b → reference_cell a k ≡ reference_cell b k
  unfolding reference_cell
  reference_cell_lem k l = rw reference_base_lem (at (reference_base b + k) (unfold layout in omega arith))

  descriptor_cell_lem : (k : ℕ) → k < descriptor_count b → descriptor_cell a k ≡ descriptor_cell b k
  unfolding descriptor_cell
  descriptor_cell_lem k l = rw descriptor_base_lem (at (descriptor_base b + k) (unfold layout in omega arith))

  action_cell_lem : (x k : ℕ) → x < action_count b → k < 4 → action_cell a x k ≡ action_cell b x k
  unfolding action_cell
  action_cell_lem x k l m = rw action_base_lem (at (action_base b + x * 4 + k) (unfold layout in omega arith))

  action_at_lem : (x : ℕ) → x < action_count b → action_at a x ≡ action_at b x
  unfolding action_at
  action_at_lem x l = rw (action_cell_lem x 0 l (omega arith), action_cell_lem x 1 l (omega arith), action_cell_lem x 2 l (omega arith), action_cell_lem x 3 l (omega arith))

  -- ---- lists and blocks

  part_same : (s n : ℕ) → s + n ≤ tables_size b → part a s n ≡ part b s n
  unfolding part
  part_same s n l = sym (part_take (tables_size b) s n a l) ∙ ap (λ (xs : List ℕ). take n (drop s xs)) same ∙ part_take (tables_size b) s n b l

  references_at_lem : (s n : ℕ) → s + n ≤ reference_count b → references_at a s n ≡ references_at b s n
  unfolding references_at
  references_at_lem s n l = rw reference_base_lem (part_same (reference_base b + s) n (unfold layout in omega arith))

  descriptors_at_lem : (s n : ℕ) → s + n ≤ descriptor_count b → descriptors_at a s n ≡ descriptors_at b s n
  unfolding descriptors_at
  descriptors_at_lem s n l = rw descriptor_base_lem (part_same (descriptor_base b + s) n (unfold layout in omega arith))

  block_at_lem : (s n : ℕ) → s + n ≤ action_count b → block_at a s n ≡ block_at b s n
  unfolding block_at from
  block_at_lem s zero l = refl
  block_at_lem s (suc n) l = ap₂ {C = List Action} (λ x xs. x ∷ xs) (action_at_lem s (omega arith)) (block_at_lem (suc s) n (omega arith))

  -- ---- the chart

  module _ (h : InTables b) where
    row_at_lem : (i : ℕ) → row_at a i ≡ row_at b i
    unfolding kind_at parent_at id_at entry_at exit_at list_at list_block_at
    row_at_lem i =
        let f = row_spans b h i in
        let cell : (k : ℕ) → k < 11 → row_cell a i k ≡ row_cell b i k = row_cell_lem i in
        let kind : kind_at a i ≡ kind_at b i = ap kind_of (cell 0 (omega arith)) in
        let parent : parent_at a i ≡ parent_at b i = cell 1 (omega arith) in
        let id : id_at a i ≡ id_at b i = cell 2 (omega arith) in
        let entry : entry_at a i ≡ entry_at b i = rw (cell 3 (omega arith), cell 4 (omega arith)) (block_at_lem _ _ f.0) in
        let exit : exit_at a i ≡ exit_at b i = rw (cell 5 (omega arith), cell 6 (omega arith)) (block_at_lem _ _ f.1) in
        let list : list_at a i ≡ list_at b i = rw (cell 7 (omega arith), cell 8 (omega arith)) (references_at_lem _ _ f.2) in
        let block : list_block_at a i ≡ list_block_at b i = rw (cell 9 (omega arith), cell 10 (omega arith)) (block_at_lem _ _ f.3) in
        λ j. record { kind = kind j; parent = parent j; id = id j; entry = entry j; exit = exit j; list = list j; block = block j }

    transition_at_lem : (t : ℕ) → transition_at a t ≡ transition_at b t
    unfolding source_at events_at condition_at internal_at targets_at transition_block_at
    transition_at_lem t =
        let f = transition_spans b h t in
        let cell : (k : ℕ) → k < 9 → transition_cell a t k ≡ transition_cell b t k = transition_cell_lem t in
        let source : source_at a t ≡ source_at b t = cell 0 (omega arith) in
        let descriptors : events_at a t ≡ events_at b t = rw (cell 1 (omega arith), cell 2 (omega arith)) (descriptors_at_lem _ _ f.0) in
        let condition : condition_at a t ≡ condition_at b t = ap optional (cell 3 (omega arith)) in
        let internal : internal_at a t ≡ internal_at b t = ap (λ (x : ℕ). eqb x 1) (cell 4 (omega arith)) in
        let targets : targets_at a t ≡ targets_at b t = rw (cell 5 (omega arith), cell 6 (omega arith)) (references_at_lem _ _ f.1) in
        let block : transition_block_at a t ≡ transition_block_at b t = rw (cell 7 (omega arith), cell 8 (omega arith)) (block_at_lem _ _ f.2) in
        λ j. record { source = source j; descriptors = descriptors j; condition = condition j; internal = internal j; targets = targets j; block = block j }

    pub agree_chart : chart_of a ≡ chart_of b
    agree_chart =
        let rows : row_count a ≡ row_count b = agree_rows in
        let transitions : transition_count a ≡ transition_count b = agree_transitions in
        λ j. record { rows = rows j; row = λ i. row_at_lem i j; transitions = transitions j; transition = λ t. transition_at_lem t j }

    counts : Counts a
    counts =
        let c = h.sized.counts in
        record {
          some = rw agree_rows c.some;
          rows = rw agree_rows c.rows;
          transitions = rw agree_transitions c.transitions;
          names = rw agree_names c.names;
          references = rw agree_references c.references;
          descriptors = rw agree_descriptors c.descriptors;
          actions = rw agree_actions c.actions;
        }

    row_in_range_lem : (i : ℕ) → row_in_range a i ≡ row_in_range b i
    unfolding row_in_range block_fits
    row_in_range_lem i =
        let cell : (k : ℕ) → k < 11 → row_cell a i k ≡ row_cell b i k = row_cell_lem i in
        rw (
          agree_rows,
          agree_names,
          agree_references,
          agree_actions,
          cell 0 (omega arith),
          cell 1 (omega arith),
          cell 2 (omega arith),
          cell 3 (omega arith),
          cell 4 (omega arith),
          cell 5 (omega arith),
          cell 6 (omega arith),
          cell 7 (omega arith),
          cell 8 (omega arith),
          cell 9 (omega arith),
          cell 10 (omega arith),
        )

    transition_in_range_lem : (t : ℕ) → transition_in_range a t ≡ transition_in_range b t
    unfolding transition_in_range block_fits
    transition_in_range_lem t =
        let cell : (k : ℕ) → k < 9 → transition_cell a t k ≡ transition_cell b t k = transition_cell_lem t in
        rw (
          agree_rows,
          agree_descriptors,
          agree_references,
          agree_actions,
          cell 0 (omega arith),
          cell 1 (omega arith),
          cell 2 (omega arith),
          cell 3 (omega arith),
          cell 4 (omega arith),
          cell 5 (omega arith),
          cell 6 (omega arith),
          cell 7 (omega arith),
          cell 8 (omega arith),
        )

    arguments_fit_lem : (x : Action) (n y z : ℕ) → arguments_fit a x n y z ≡ arguments_fit b x n y z
    unfolding arguments_fit
    arguments_fit_lem (Raise x) n y z = rw agree_names
    arguments_fit_lem (Host x) n y z = refl
    arguments_fit_lem (If i) n y z = rw agree_rows
    arguments_fit_lem (ElseIf i) n y z = rw agree_rows
    arguments_fit_lem Else n y z = refl
    arguments_fit_lem End n y z = refl
    arguments_fit_lem (Send x delay id) n y z = rw agree_names
    arguments_fit_lem (Cancel x) n y z = rw agree_names

    action_in_range_lem : (x : ℕ) → x < action_count b → action_in_range a x ≡ action_in_range b x
    unfolding action_in_range
    action_in_range_lem x l =
        rw (action_cell_lem x 0 l (omega arith), action_cell_lem x 1 l (omega arith), action_cell_lem x 2 l (omega arith), action_cell_lem x 3 l (omega arith), action_at_lem x l, arguments_fit_lem (action_at b x) (action_cell b x 1) (action_cell b x 2) (action_cell b x 3))

    pub agree_tables : tables_size b ≤ length a → InTables a
    unfolding reference_in_range descriptor_in_range
    agree_tables l = record {
      sized = record { counts = counts; size = rw agree_size l };
      row = λ i m. row_in_range_lem i ∙ h.row i (rw agree_rows at m);
      transition = λ t m. transition_in_range_lem t ∙ h.transition t (rw agree_transitions at m);
      reference = λ k m. let n : k < reference_count b = rw agree_references at m in rw (reference_cell_lem k n, agree_rows) (h.reference k n);
      descriptor = λ k m. let n : k < descriptor_count b = rw agree_descriptors at m in rw (descriptor_cell_lem k n, agree_names) (h.descriptor k n);
      action = λ x m. let n : x < action_count b = rw agree_actions at m in action_in_range_lem x n ∙ h.action x n;
    }
