-- The tables as a whole: a header, the cells of rows and transitions and full bins are the tables of the content whose lists and blocks the bins hold.
use Rattle.std.proofs.Math.Path.{◌≡◌, refl, ap, ap₂, subst}
use Rattle.std.proofs.Common.{sym, ◌∙◌, length-drop, get_or-drop, ext_get_or, length-take-le}
use mathlib.Core.List.{List, [], ◌∷◌, ◌++◌, map, append_assoc}
use Prim.Native.Nat.{ℕ, ◌+◌, ◌*◌, ◌≤◌, ◌<◌}
use native.Mathlib.Omega.{arith}
use Rattle.std.proofs.Math.ListN.{length, take, length-append}
use Rattle.std.specs.Prelude.{get_or, drop}
use Rattle.std.proofs.Math.Seq.{take-add}
use Rattle.definition.specs.Rows.{flat, from}
use Rattle.reading.specs.Content.{Content, place_of}
use Rattle.reading.specs.Layout.{act_cells, row_acts, row_cells, transition_cells, row_list, target_list, descriptor_list, transition_acts, numbers_of}
use Rattle.lay.specs.Sizes.{references, descriptors, actions}
use Rattle.bins.specs.Bins.{start_of}
use Rattle.bins.specs.Binned.{Item, values_of, Binned, binned_end}
use Rattle.items.specs.Items.{bin_count}
use Rattle.items.specs.Order.{no_transition}
use Rattle.items.specs.Picked.{no_row}
use Rattle.cells.specs.Starts.{table_base, start_in, Few}
use Rattle.cells.specs.Parts.{blocks, CellsRoom}
use Rattle.cells.specs.Sums.{full_start, full_rising, start_four, start_one}
use Rattle.cells.specs.Cells.{Held, Said, RowKnown, rows_laid, TransitionKnown, transitions_laid}
use Rattle.cells.specs.Counts.{row_refs, row_blocks, list_starts, entry_starts, exit_starts, block_starts, target_starts, descriptor_starts, act_starts, list_sum, target_sum, descriptor_sum, row_block_sum, block_sum}
use Rattle.cells.specs.Header.{CellsLaid}

-- the lists and blocks of the content behind its rows and transitions
abbrev pub behind_cells : List (List ℕ) → Content → List ℕ
behind_cells slots c =
    flat row_list c.rows ++ flat target_list c.transitions ++ map (λ (d : List ℕ). place_of d slots) (flat descriptor_list c.transitions) ++
    flat (act_cells slots) (flat row_acts c.rows ++ flat transition_acts c.transitions)

-- what the filling leaves: full bins of the content's lists and blocks, and the cells that the tags say
pub record Filled (slots : List (List ℕ)) (n t : ℕ) (counts : ℕ → ℕ) (out next : List ℕ) (items : List Item) (c : Content) : Type 0 where
  pub few : Few n t
  pub binned : Binned (bin_count n t) (table_base n t) counts out next items
  pub full : (k : ℕ) → k < bin_count n t → length (values_of items k) ≡ counts k
  pub held : Held slots n t items c
  pub together : flat (values_of items) (from (bin_count n t) 0) ≡ behind_cells slots c
  pub said : Said slots n t out c

module _ (slots : List (List ℕ)) (n t : ℕ) (c : ℕ → ℕ) (out next : List ℕ) (items : List Item) (x : Content) (f : Filled slots n t c out next items x) where
  begins : (k : ℕ) → k ≤ bin_count n t → start_in (table_base n t) next k ≡ table_base n t + start_of c k
  begins = full_start (bin_count n t) (table_base n t) c out next items f.binned f.full

  pub filled_room : CellsRoom out next n t
  filled_room =
      let r = f.binned.room in
      record { few = f.few; room = omega arith; rising = full_rising (bin_count n t) (table_base n t) c out next items f.binned f.full }

  module _ (names : ℕ) (out' : List ℕ) (l : CellsLaid out out' next n t names) where
    row_known : (i : ℕ) → i < n → RowKnown slots n t c next begins out' i (get_or x.rows i no_row)
    row_known i h =
        let s = f.said.row i h in
        record {
          said = record { kind = l.firsts i 0 h (omega arith) ∙ s.kind; parent = l.firsts i 1 h (omega arith) ∙ s.parent; id = l.firsts i 2 h (omega arith) ∙ s.id };
          is = l.rows i h;
          list = list_starts slots n t c items x f.full f.held i h;
          entry = entry_starts slots n t c items x f.full f.held i h;
          exit = exit_starts slots n t c items x f.full f.held i h;
          block = block_starts slots n t c items x f.full f.held i h;
        }

    transition_known : (r : ℕ) → r < t → TransitionKnown slots n t c next begins out' r (get_or x.transitions r no_transition)
    transition_known r h =
        let s = f.said.transition r h in
        let k = l.own r h in
        record {
          said = record { source = k.source ∙ s.source; condition = k.condition ∙ s.condition; type = k.type ∙ s.type };
          is = l.transitions r h;
          targets = target_starts slots n t c items x f.full f.held r h;
          descriptors = descriptor_starts slots n t c items x f.full f.held r h;
          block = act_starts slots n t c items x f.full f.held r h;
        }

    -- ---- the parts of the tables

    long : table_base n t + start_of c (bin_count n t) ≤ length out'
    long = let r = f.binned.room in let s = l.size in omega arith

    header_is : names ≡ length slots → take 6 out' ≡ length x.rows ∷ length x.transitions ∷ length (references x) ∷ length (descriptors x) ∷ length (actions x) ∷ length slots ∷ []
    unfolding start_of
    header_is e =
        let a = list_sum slots n t c items x f.full f.held in let b = target_sum slots n t c items x f.full f.held in let d = descriptor_sum slots n t c items x f.full f.held in let g = row_block_sum slots n t c items x f.full f.held in let h = block_sum slots n t c items x f.full f.held in
        let u = length-append (row_refs x) (flat target_list x.transitions) in
        let v = length-append (row_blocks x) (flat transition_acts x.transitions) in
        l.front ∙
        six f.held.rows_are f.held.transitions_are (start_one (bin_count n t) (table_base n t) c next begins 0 (n * 2 + t) (length (references x)) (omega arith) (omega arith) (omega arith))
        (start_one (bin_count n t) (table_base n t) c next begins (n * 2 + t) (blocks n t) (length (descriptors x)) (omega arith) (omega arith) (omega arith))
        (start_four (bin_count n t) (table_base n t) c next begins (blocks n t) (bin_count n t) (length (actions x)) (omega arith) (omega arith) (omega arith)) e
      where
        six : {a0 a1 a2 a3 a4 a5 b0 b1 b2 b3 b4 b5 : ℕ} → a0 ≡ b0 → a1 ≡ b1 → a2 ≡ b2 → a3 ≡ b3 → a4 ≡ b4 → a5 ≡ b5 → ◌≡◌ {A = List ℕ} (a0 ∷ a1 ∷ a2 ∷ a3 ∷ a4 ∷ a5 ∷ []) (b0 ∷ b1 ∷ b2 ∷ b3 ∷ b4 ∷ b5 ∷ [])
        six p0 p1 p2 p3 p4 p5 = cc

    rows_are : take (n * 11) (drop 6 out') ≡ row_cells slots 0 0 x.rows
    unfolding start_of
    rows_are =
        let s = long in let u = f.held.rows_are in
        let w : n * 11 ≡ length x.rows * 11 = omega arith in
        ap (λ (k : ℕ). take k (drop 6 out')) w ∙
        rows_laid slots n t c next begins out' (omega arith) x.rows 0 0 0 (omega arith) (λ j h. subst (λ (k : ℕ). RowKnown slots n t c next begins out' k (get_or x.rows j no_row)) (zero_left j) (row_known j (omega arith)))
        refl (let e : blocks n t + 0 * 3 ≡ blocks n t = omega arith in let q = ap (start_of c) e in omega arith)
      where
        zero_left : (k : ℕ) → k ≡ 0 + k
        zero_left k = omega arith

    transitions_are : take (t * 9) (drop (6 + n * 11) out') ≡ transition_cells slots (length (row_refs x)) 0 (length (row_blocks x)) x.transitions
    transitions_are =
        let s = long in let u = f.held.transitions_are in
        let w : t * 9 ≡ length x.transitions * 9 = omega arith in
        let z : 6 + n * 11 ≡ 6 + n * 11 + 0 * 9 = omega arith in
        let a = list_sum slots n t c items x f.full f.held in let b = row_block_sum slots n t c items x f.full f.held in
        ap (λ (k : ℕ). take k (drop (6 + n * 11) out')) w ∙ ap (λ (k : ℕ). take (length x.transitions * 9) (drop k out')) z ∙
        transitions_laid slots n t c next begins out' (omega arith) x.transitions 0 (length (row_refs x)) 0 (length (row_blocks x)) (omega arith)
        (λ j h. subst (λ (k : ℕ). TransitionKnown slots n t c next begins out' k (get_or x.transitions j no_transition)) (zero_left j) (transition_known j (omega arith)))
        (ap (start_of c) (no_more (n * 2)) ∙ a) (ap (start_of c) (no_more (n * 2 + t)) ∙ no_more' (start_of c (n * 2 + t))) (ap (start_of c) (no_more (blocks n t + n * 3)) ∙ b)
      where
        zero_left : (k : ℕ) → k ≡ 0 + k
        zero_left k = omega arith

        no_more : (k : ℕ) → k + 0 ≡ k
        no_more k = omega arith

        no_more' : (k : ℕ) → k ≡ k + 0
        no_more' k = omega arith

    behind_is : take (start_of c (bin_count n t)) (drop (table_base n t) out') ≡ behind_cells slots x
    behind_is =
        let s = l.size in let a = length-drop (table_base n t) out in let b = length-drop (table_base n t) out' in
        ap (take (start_of c (bin_count n t)))
        (ext_get_or 0 (drop (table_base n t) out') (drop (table_base n t) out) (omega arith)
        (λ j h. get_or-drop (table_base n t) out' j 0 ∙ l.behind (table_base n t + j) (omega arith) ∙ sym (get_or-drop (table_base n t) out j 0))) ∙
        binned_end (bin_count n t) (table_base n t) c out next items f.binned (bin_count n t) (omega arith) f.full ∙ f.together

    pub tables_are : names ≡ length slots → take (table_base n t + start_of c (bin_count n t)) out' ≡ numbers_of slots x
    unfolding numbers_of
    tables_are e =
        take-add (6 + n * 11 + t * 9) (start_of c (bin_count n t)) out' ∙
        ap₂ (λ (a b : List ℕ). a ++ b)
        (take-add (6 + n * 11) (t * 9) out' ∙ ap₂ (λ (a b : List ℕ). a ++ b) (take-add 6 (n * 11) out' ∙ ap₂ (λ (a b : List ℕ). a ++ b) (header_is e) rows_are) transitions_are)
        behind_is ∙
        regroup front (references x) (map (λ (d : List ℕ). place_of d slots) (descriptors x)) (flat (act_cells slots) (actions x))
      where
        front : List ℕ
        front =
            (length x.rows ∷ length x.transitions ∷ length (references x) ∷ length (descriptors x) ∷ length (actions x) ∷ length slots ∷ []) ++ row_cells slots 0 0 x.rows ++
            transition_cells slots (length (row_refs x)) 0 (length (row_blocks x)) x.transitions

        regroup : (h a b d : List ℕ) → h ++ (a ++ b ++ d) ≡ h ++ a ++ b ++ d
        regroup h a b d = sym (append_assoc (h ++ a) b d ∙ append_assoc h a (b ++ d) ∙ ap (λ (k : List ℕ). h ++ k) (sym (append_assoc a b d)))

    pub tables_long : names ≡ length slots → table_base n t + start_of c (bin_count n t) ≡ length (numbers_of slots x)
    tables_long e = sym (length-take-le (table_base n t + start_of c (bin_count n t)) out' long) ∙ ap length (tables_are e)
