-- The header and the size of the tables of a content, and the answer where it counts more than rule 1 allows.
use Rattle.std.specs.Prelude.{◌≡◌, Bool, true, false, ◌&&◌, ℕ, suc, ◌+◌, ◌*◌, ◌<◌, replicate}
use Rattle.std.proofs.Math.Path.{refl}
use Rattle.std.proofs.Common.{ap, ◌∙◌, length-take-le}
use mathlib.Core.List.{List, [], ◌∷◌, ◌++◌, map}
use Rattle.std.proofs.Math.Option.{none, some}
use native.Mathlib.Omega.{arith}
use Rattle.std.proofs.Math.Dec.{leb}
use Rattle.std.proofs.Math.ListN.{length, length-append}
use borrow.Author.Tests.{lt-leb}
use Rattle.definition.specs.declared.Answer.TheVariants.{Size}
use Rattle.definition.specs.Rows.{flat}
use Rattle.definition.specs.Tables.{slot_of, most_rows, most_transitions, most_names, most_descriptors, most_targets, most_actions, row_count, transition_count, reference_count, descriptor_count, action_count, name_count}
use Rattle.definition.specs.Rules.{counts_fit, rule1, first_broken, verdict, keeps_rules}
use Rattle.reading.specs.Content.{Act, raises, hosts, if_in, elseif_in, otherwise, end_if, sends, cancels, Row, Transition, Content, place_of}
use Rattle.reading.specs.Layout.{act_cells, row_acts, row_cells, transition_cells, row_list, target_list, descriptor_list, transition_acts, numbers_of, names_of}

-- ---- the header

abbrev pub references : Content → List ℕ
references c = flat row_list c.rows ++ flat target_list c.transitions

abbrev pub descriptors : Content → List (List ℕ)
descriptors c = flat descriptor_list c.transitions

abbrev pub actions : Content → List Act
actions c = flat row_acts c.rows ++ flat transition_acts c.transitions

module _ (slots : List (List ℕ)) (c : Content) where
  pub row_count_lem : row_count (numbers_of slots c) ≡ length c.rows
  unfolding row_count numbers_of
  row_count_lem = refl

  pub transition_count_lem : transition_count (numbers_of slots c) ≡ length c.transitions
  unfolding transition_count numbers_of
  transition_count_lem = refl

  pub reference_count_lem : reference_count (numbers_of slots c) ≡ length (references c)
  unfolding reference_count numbers_of
  reference_count_lem = refl

  pub descriptor_count_lem : descriptor_count (numbers_of slots c) ≡ length (descriptors c)
  unfolding descriptor_count numbers_of
  descriptor_count_lem = refl

  pub action_count_lem : action_count (numbers_of slots c) ≡ length (actions c)
  unfolding action_count numbers_of
  action_count_lem = refl

  pub name_count_lem : name_count (numbers_of slots c) ≡ length slots
  unfolding name_count numbers_of
  name_count_lem = refl

-- ---- the size

pub row_cells_lem : (slots : List (List ℕ)) (rs : List Row) (f a : ℕ) → length (row_cells slots f a rs) ≡ length rs * 11
unfolding row_cells
row_cells_lem slots [] f a = refl
row_cells_lem slots (r ∷ rs) f a =
    let more = row_cells_lem slots rs (f + length r.list) (a + length r.entry + length r.exit + length r.block) in
    omega arith

pub transition_cells_lem : (slots : List (List ℕ)) (ts : List Transition) (f d a : ℕ) → length (transition_cells slots f d a ts) ≡ length ts * 9
unfolding transition_cells
transition_cells_lem slots [] f d a = refl
transition_cells_lem slots (t ∷ ts) f d a =
    let more = transition_cells_lem slots ts (f + length t.targets) (d + length t.descriptors) (a + length t.block) in
    omega arith

act_cells_lem : (slots : List (List ℕ)) (a : Act) → length (act_cells slots a) ≡ 4
act_cells_lem slots (raises n) = refl
act_cells_lem slots (hosts k) = refl
act_cells_lem slots (if_in i) = refl
act_cells_lem slots (elseif_in i) = refl
act_cells_lem slots otherwise = refl
act_cells_lem slots end_if = refl
act_cells_lem slots (sends n d none) = refl
act_cells_lem slots (sends n d (some i)) = refl
act_cells_lem slots (cancels n) = refl

pub all_cells : (slots : List (List ℕ)) (xs : List Act) → length (flat (act_cells slots) xs) ≡ length xs * 4
unfolding flat
all_cells slots [] = refl
all_cells slots (a ∷ xs) =
    let one = act_cells_lem slots a in
    let more = all_cells slots xs in
    let both = length-append (act_cells slots a) (flat (act_cells slots) xs) in
    omega arith

pub map_length : (f : List ℕ → ℕ) (xs : List (List ℕ)) → length (map f xs) ≡ length xs
map_length f [] = refl
map_length f (x ∷ xs) = ap suc (map_length f xs)

module _ (slots : List (List ℕ)) (c : Content) where
  abbrev named : List ℕ → ℕ
  named n = place_of n slots

  pub tables_size_lem : length (numbers_of slots c) ≡ 6 + length c.rows * 11 + length c.transitions * 9 + length (references c) + length (descriptors c) + length (actions c) * 4
  unfolding numbers_of
  tables_size_lem =
      let header = length c.rows ∷ length c.transitions ∷ length (references c) ∷ length (descriptors c) ∷ length (actions c) ∷ length slots ∷ [] in
      let rows = row_cells slots 0 0 c.rows in
      let transitions = transition_cells slots (length (flat row_list c.rows)) 0 (length (flat row_acts c.rows)) c.transitions in
      let names = map (λ (n : List ℕ). place_of n slots) (descriptors c) in
      let cells = flat (act_cells slots) (actions c) in
      let a = length-append header rows in
      let b = length-append (header ++ rows) transitions in
      let d = length-append (header ++ rows ++ transitions) (references c) in
      let e = length-append (header ++ rows ++ transitions ++ references c) names in
      let f = length-append (header ++ rows ++ transitions ++ references c ++ names) cells in
      let r = row_cells_lem slots c.rows 0 0 in
      let t = transition_cells_lem slots c.transitions (length (flat row_list c.rows)) 0 (length (flat row_acts c.rows)) in
      let n = map_length (λ (n : List ℕ). place_of n slots) (descriptors c) in
      let x = all_cells slots (actions c) in
      omega arith

pub slot_size_lem : (n : List ℕ) → length (slot_of n) ≡ 64
unfolding slot_of
slot_size_lem n = length-take-le 64 (n ++ replicate 64 0) (let l = length-append n (replicate 64 0) in omega arith)

pub names_size_lem : (slots : List (List ℕ)) → length (names_of slots) ≡ length slots * 64
unfolding names_of flat
names_size_lem [] = refl
names_size_lem (n ∷ ns) =
    let one = slot_size_lem n in
    let more : length (flat slot_of ns) ≡ length ns * 64 = names_size_lem ns in
    let both = length-append (slot_of n) (flat slot_of ns) in
    omega arith

-- ---- "one of more than rule 1 allows gets 1" (1.21)

second : (a b c d e f g : Bool) → b ≡ false → (a && b && c && d && e && f && g) ≡ false
second true b c d e f g q = rw q refl
second false b c d e f g q = refl

third : (a b c d e f g : Bool) → c ≡ false → (a && b && c && d && e && f && g) ≡ false
third true true c d e f g q = rw q refl
third true false c d e f g q = refl
third false b c d e f g q = refl

fourth : (a b c d e f g : Bool) → d ≡ false → (a && b && c && d && e && f && g) ≡ false
fourth true true true d e f g q = rw q refl
fourth true true false d e f g q = refl
fourth true false c d e f g q = refl
fourth false b c d e f g q = refl

fifth : (a b c d e f g : Bool) → e ≡ false → (a && b && c && d && e && f && g) ≡ false
fifth true true true true e f g q = rw q refl
fifth true true true false e f g q = refl
fifth true true false d e f g q = refl
fifth true false c d e f g q = refl
fifth false b c d e f g q = refl

sixth : (a b c d e f g : Bool) → f ≡ false → (a && b && c && d && e && f && g) ≡ false
sixth true true true true true f g q = rw q refl
sixth true true true true false f g q = refl
sixth true true true false e f g q = refl
sixth true true false d e f g q = refl
sixth true false c d e f g q = refl
sixth false b c d e f g q = refl

last : (a b c d e f g : Bool) → g ≡ false → (a && b && c && d && e && f && g) ≡ false
last true true true true true true g q = rw q refl
last true true true true true false g q = refl
last true true true true false f g q = refl
last true true true false e f g q = refl
last true true false d e f g q = refl
last true false c d e f g q = refl
last false b c d e f g q = refl

module _ (slots : List (List ℕ)) (c : Content) where
  no_fit : counts_fit (numbers_of slots c) ≡ false → keeps_rules (numbers_of slots c) (names_of slots) ≡ Size
  unfolding keeps_rules verdict rule1 first_broken
  no_fit e = rw e refl

  abbrev N : List ℕ
  N = numbers_of slots c

  abbrev few_references : Bool
  few_references = leb (reference_count N) (most_rows * most_rows + most_transitions * most_targets)

  abbrev few_descriptors : Bool
  few_descriptors = leb (descriptor_count N) (most_transitions * most_descriptors)

  abbrev few_actions : Bool
  few_actions = leb (action_count N) ((most_rows * 3 + most_transitions) * most_actions)

  pub many_rows : most_rows < length c.rows → keeps_rules (numbers_of slots c) (names_of slots) ≡ Size
  unfolding counts_fit
  many_rows h =
      no_fit
      (second (leb 1 (row_count N)) (leb (row_count N) most_rows) (leb (transition_count N) most_transitions) (leb (name_count N) most_names) few_references few_descriptors few_actions
      (ap (λ (n : ℕ). leb n most_rows) (row_count_lem slots c) ∙ lt-leb (length c.rows) most_rows h))

  pub many_transitions : most_transitions < length c.transitions → keeps_rules (numbers_of slots c) (names_of slots) ≡ Size
  unfolding counts_fit
  many_transitions h =
      no_fit
      (third (leb 1 (row_count N)) (leb (row_count N) most_rows) (leb (transition_count N) most_transitions) (leb (name_count N) most_names) few_references few_descriptors few_actions
      (ap (λ (n : ℕ). leb n most_transitions) (transition_count_lem slots c) ∙ lt-leb (length c.transitions) most_transitions h))

  pub many_names : most_names < length slots → keeps_rules (numbers_of slots c) (names_of slots) ≡ Size
  unfolding counts_fit
  many_names h =
      no_fit
      (fourth (leb 1 (row_count N)) (leb (row_count N) most_rows) (leb (transition_count N) most_transitions) (leb (name_count N) most_names) few_references few_descriptors few_actions
      (ap (λ (n : ℕ). leb n most_names) (name_count_lem slots c) ∙ lt-leb (length slots) most_names h))

  pub many_references : most_rows * most_rows + most_transitions * most_targets < length (references c) → keeps_rules (numbers_of slots c) (names_of slots) ≡ Size
  unfolding counts_fit
  many_references h =
      no_fit
      (fifth (leb 1 (row_count N)) (leb (row_count N) most_rows) (leb (transition_count N) most_transitions) (leb (name_count N) most_names) few_references few_descriptors few_actions
      (ap (λ (n : ℕ). leb n (most_rows * most_rows + most_transitions * most_targets)) (reference_count_lem slots c) ∙ lt-leb (length (references c)) (most_rows * most_rows + most_transitions * most_targets) h))

  pub many_descriptors : most_transitions * most_descriptors < length (descriptors c) → keeps_rules (numbers_of slots c) (names_of slots) ≡ Size
  unfolding counts_fit
  many_descriptors h =
      no_fit
      (sixth (leb 1 (row_count N)) (leb (row_count N) most_rows) (leb (transition_count N) most_transitions) (leb (name_count N) most_names) few_references few_descriptors few_actions
      (ap (λ (n : ℕ). leb n (most_transitions * most_descriptors)) (descriptor_count_lem slots c) ∙ lt-leb (length (descriptors c)) (most_transitions * most_descriptors) h))

  pub many_actions : (most_rows * 3 + most_transitions) * most_actions < length (actions c) → keeps_rules (numbers_of slots c) (names_of slots) ≡ Size
  unfolding counts_fit
  many_actions h =
      no_fit
      (last (leb 1 (row_count N)) (leb (row_count N) most_rows) (leb (transition_count N) most_transitions) (leb (name_count N) most_names) few_references few_descriptors few_actions
      (ap (λ (n : ℕ). leb n ((most_rows * 3 + most_transitions) * most_actions)) (action_count_lem slots c) ∙ lt-leb (length (actions c)) ((most_rows * 3 + most_transitions) * most_actions) h))
