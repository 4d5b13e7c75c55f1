-- What the rules give of an accepted chart: the facts of its rows and transitions.
use Rattle.std.specs.Prelude.{◌≡◌, refl, Bool, true, false, ◌&&◌, List, [], ◌∷◌, ℕ, zero, suc, ◌+◌, ◌<◌, ◌≤◌, ltb, length, take, drop}
use Rattle.std.proofs.Math.Path.{ap, sym}
use Rattle.std.proofs.Common.{◌∙◌, get_or-drop}
use native.Mathlib.Omega.{arith}
use Rattle.std.proofs.Math.Dec.{leb}
use Rattle.std.proofs.Math.ListN.{get_or}
use borrow.Author.Tests.{lt-ltb, le-ltb, leb-true, ltb-true, ltb-false}
use Rattle.definition.specs.declared.Answer.TheVariants.{Done}
use Rattle.definition.specs.Rows.{mem}
use Rattle.definition.specs.Chart.{Chart}
use Rattle.definition.specs.Tables.{most_rows, most_transitions, most_names, most_targets, row_count, transition_count, reference_count, name_count, row_cell, transition_cell, reference_cell, reference_base, part, references_at, kind_at, parent_at, list_at, source_at, targets_at, chart_of}
use Rattle.definition.specs.Tree.{is_descendant, descendants, listed}
use Rattle.definition.specs.Rules.{inside, each, counts_fit, sizes_fit, row_in_range, transition_in_range, reference_in_range, compiled_size, rule1, rule2, rule3, rule4, rule5, first_broken, verdict, keeps_rules}
use Rattle.laws.specs.Bools.{no, and3, bool_case, and_left, and_right, and_true, and7}
use Rattle.laws.specs.Sets.{mem_those}
use Rattle.laws.specs.Loops.{each_below}
use Rattle.laws.specs.Lists.{mem_cases}
use Rattle.accepted.specs.Tree.{Tree}

-- ---- a chart that keeps rules 1, 3, 4 and 5, as facts of its rows and transitions

pub record Sound (c : Chart) : Type 0 where
  pub tree : Tree c
  -- every number of a list, a source and a target is a row
  pub is_list_inside : (i x : ℕ) → mem x (listed c i) ≡ true → x < c.rows
  pub source_inside : (t : ℕ) → t < c.transitions → (c.transition t).source < c.rows
  pub target_inside : (t : ℕ) → t < c.transitions → (x : ℕ) → mem x (c.transition t).targets ≡ true → x < c.rows
  pub list_rule : rule4 c ≡ true
  pub transition_rule : rule5 c ≡ true

-- ---- what the tables give

-- an element of a stretch of a list, by its place
mem_take : (n : ℕ) (xs : List ℕ) (x : ℕ) → mem x (take n xs) ≡ true → (k : ℕ) × (k < n) × (get_or xs k 0 ≡ x)
unfolding mem
mem_take zero xs x h = absurd (no h)
mem_take (suc n) [] x h = absurd (no h)
mem_take (suc n) (y ∷ ys) x h =
    mem_cases x y (take n ys) (λ e. (0, omega arith, sym e))
    (λ m. let r = mem_take n ys x m in let l = r.1 in (suc r.0, omega arith, r.2)) h

rules_of : (a b c d e : Bool) → first_broken a b c d e ≡ Done → (a ≡ true) × (b ≡ true) × (c ≡ true) × (d ≡ true) × (e ≡ true)
unfolding first_broken
rules_of true true true true true h = (refl, refl, refl, refl, refl)
rules_of true true true true false h = let z : ◌≡◌ {A = ℕ} 0 1 = cc in absurd (omega arith)
rules_of true true true false e h = let z : ◌≡◌ {A = ℕ} 0 1 = cc in absurd (omega arith)
rules_of true true false d e h = let z : ◌≡◌ {A = ℕ} 0 1 = cc in absurd (omega arith)
rules_of true false c d e h = let z : ◌≡◌ {A = ℕ} 0 1 = cc in absurd (omega arith)
rules_of false b c d e h = let z : ◌≡◌ {A = ℕ} 0 1 = cc in absurd (omega arith)

-- parts of a test of six, from the left
and6 : (a b c d e f : Bool) → (a && b && c && d && e && f) ≡ true → (a ≡ true) × (b ≡ true) × (c ≡ true) × (d ≡ true) × (e ≡ true) × (f ≡ true)
and6 true true true d e f h = let k = and3 d e f h in (refl, refl, refl, k.0, k.1, k.2)
and6 true true false d e f h = absurd (no h)
and6 true false c d e f h = absurd (no h)
and6 false b c d e f h = absurd (no h)

-- a row past the count has an empty list
beyond_list : (numbers : List ℕ) (i : ℕ) → row_count numbers ≤ i → list_at numbers i ≡ []
unfolding list_at references_at part row_cell
beyond_list numbers i l = rw (le-ltb i (row_count numbers) l)

module _ (numbers names : List ℕ) (room names_room : ℕ) (r1 : rule1 numbers names room names_room ≡ true) where
  parts1 : (counts_fit numbers ≡ true) × (each (row_count numbers) (row_in_range numbers) ≡ true) ×
      (each (transition_count numbers) (transition_in_range numbers) ≡ true) × (each (reference_count numbers) (reference_in_range numbers) ≡ true)
  unfolding rule1
  parts1 =
      let k = and7 (counts_fit numbers) (sizes_fit numbers names room names_room) (each (row_count numbers) (row_in_range numbers))
      (each (transition_count numbers) (transition_in_range numbers)) (each (reference_count numbers) (reference_in_range numbers)) _ _ r1 in
      (k.0, k.2, k.3, k.4)

  some_row : 0 < row_count numbers
  unfolding counts_fit
  some_row =
      leb-true _ _ (and7 (leb 1 (row_count numbers)) (leb (row_count numbers) most_rows) (leb (transition_count numbers) most_transitions) (leb (name_count numbers) most_names)
      _ _ _ parts1.0).0

  reference_inside : (start count x : ℕ) → start + count ≤ reference_count numbers → mem x (references_at numbers start count) ≡ true → x < row_count numbers
  unfolding references_at part reference_in_range reference_cell
  reference_inside start count x l h =
      let r = mem_take count (drop (reference_base numbers + start) numbers) x h in
      let k = r.1 in
      let i : start + r.0 < reference_count numbers = omega arith in
      let q : reference_base numbers + start + r.0 ≡ reference_base numbers + (start + r.0) = omega arith in
      let e : get_or numbers (reference_base numbers + (start + r.0)) 0 ≡ x = ap (λ (k : ℕ). get_or numbers k 0) (sym q) ∙ sym (get_or-drop (reference_base numbers + start) numbers r.0 0) ∙ r.2 in
      rw (← e) (ltb-true _ _ (each_below (reference_in_range numbers) (reference_count numbers) parts1.3 (start + r.0) i))

  list_inside : (i x : ℕ) → mem x (list_at numbers i) ≡ true → x < row_count numbers
  unfolding list_at row_in_range mem
  list_inside i x h =
      bool_case (ltb i (row_count numbers))
      (λ e. reference_inside (row_cell numbers i 7) (row_cell numbers i 8) x
      (leb-true _ _ (and7 (leb (row_cell numbers i 0) 5) _ _ _ _ (inside (reference_count numbers) (row_cell numbers i 7) (row_cell numbers i 8)) _
      (each_below (row_in_range numbers) (row_count numbers) parts1.1 i (ltb-true _ _ e))).5) h)
      (λ e. absurd (no (rw (beyond_list numbers i (ltb-false _ _ e)) at h)))

  transition_parts : (t : ℕ) → t < transition_count numbers →
      (transition_cell numbers t 0 < row_count numbers) × (transition_cell numbers t 5 + transition_cell numbers t 6 ≤ reference_count numbers)
  unfolding transition_in_range
  transition_parts t l =
      let k = and6 (ltb (transition_cell numbers t 0) (row_count numbers)) _ _ _
      (inside (reference_count numbers) (transition_cell numbers t 5) (transition_cell numbers t 6) && leb (transition_cell numbers t 6) most_targets) _
      (each_below (transition_in_range numbers) (transition_count numbers) parts1.2 t l) in
      (ltb-true _ _ k.0, leb-true _ _ (and_left (inside (reference_count numbers) (transition_cell numbers t 5) (transition_cell numbers t 6)) _ k.4))

-- tables with no rule broken mean a sound chart, whatever places they are compiled into
module _ (numbers names : List ℕ) (room names_room : ℕ) (h : verdict numbers names room names_room ≡ Done) where
  rules : (rule1 numbers names room names_room ≡ true) × (rule2 numbers names ≡ true) × (rule3 (chart_of numbers) ≡ true) × (rule4 (chart_of numbers) ≡ true) × (rule5 (chart_of numbers) ≡ true)
  unfolding verdict
  rules = rules_of (rule1 numbers names room names_room) (rule2 numbers names) (rule3 (chart_of numbers)) (rule4 (chart_of numbers)) (rule5 (chart_of numbers)) h

  pub verdict_rule1 : rule1 numbers names room names_room ≡ true
  verdict_rule1 = rules.0

  pub verdict_rule2 : rule2 numbers names ≡ true
  verdict_rule2 = rules.1

  verdict_tree : Tree (chart_of numbers)
  unfolding kind_at parent_at row_cell
  verdict_tree =
      record {
        rule = rules.2;
        some = some_row numbers names room names_room verdict_rule1;
        beyond_kind = λ i l. rw (le-ltb i (row_count numbers) l);
        beyond_parent = λ i l. rw (le-ltb i (row_count numbers) l);
      }

  pub verdict_sound : Sound (chart_of numbers)
  unfolding source_at targets_at
  verdict_sound =
      record {
        tree = verdict_tree;
        is_list_inside = list_inside numbers names room names_room verdict_rule1;
        source_inside = λ t l. (transition_parts numbers names room names_room verdict_rule1 t l).0;
        target_inside = λ t l x m. reference_inside numbers names room names_room verdict_rule1 (transition_cell numbers t 5) (transition_cell numbers t 6) x
            (transition_parts numbers names room names_room verdict_rule1 t l).1 m;
        list_rule = rules.3;
        transition_rule = rules.4;
      }

-- an accepted chart is sound
module _ (numbers names : List ℕ) (h : keeps_rules numbers names ≡ Done) where
  pub accepted_rule1 : rule1 numbers names (compiled_size numbers) (length names) ≡ true
  unfolding keeps_rules
  accepted_rule1 = verdict_rule1 numbers names (compiled_size numbers) (length names) h

  pub accepted_rule2 : rule2 numbers names ≡ true
  unfolding keeps_rules
  accepted_rule2 = verdict_rule2 numbers names (compiled_size numbers) (length names) h

  pub accepted_sound : Sound (chart_of numbers)
  unfolding keeps_rules
  accepted_sound = verdict_sound numbers names (compiled_size numbers) (length names) h

-- ---- the set of descendants

pub mem_descendants : (c : Chart) (a i : ℕ) → mem i (descendants c a) ≡ true → (i < c.rows) × (is_descendant c a i ≡ true)
unfolding descendants
mem_descendants c a i h =
    let k : (ltb i c.rows && is_descendant c a i) ≡ true = sym (mem_those c.rows (is_descendant c a) i) ∙ h in
    (ltb-true _ _ (and_left (ltb i c.rows) _ k), and_right (ltb i c.rows) _ k)

pub descendants_mem : (c : Chart) (a i : ℕ) → i < c.rows → is_descendant c a i ≡ true → mem i (descendants c a) ≡ true
unfolding descendants
descendants_mem c a i l h = mem_those c.rows (is_descendant c a) i ∙ and_true (ltb i c.rows) _ (lt-ltb i c.rows l) h
