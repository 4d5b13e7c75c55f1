-- The rows of an accepted chart, as the writer finds them in its tables.
use Rattle.std.specs.Prelude.{◌≡◌, refl, Bool, not, ◌&&◌, ◌||◌, List, [], ◌∷◌, ℕ, zero, suc, ◌≤◌, ◌<◌, ◌+◌, leb, ltb, length}
use Rattle.std.proofs.Common.{sym, ap, ◌∙◌}
use Rattle.std.proofs.Math.Bool.{true, false, cond}
use native.Mathlib.Omega.{arith}
use Rattle.std.proofs.Math.Dec.{eqb}
use borrow.Author.Tests.{leb-true, ltb-true}
use Rattle.definition.specs.declared.Kind.{Kind}
use Rattle.definition.specs.declared.Answer.TheVariants.{Done}
use Rattle.definition.specs.Rows.{all, mem, is_empty}
use Rattle.definition.specs.Chart.{Chart, kind, parent, is_root, is_state, is_shallow, is_history}
use Rattle.definition.specs.Tables.{row_count, transition_count, reference_count, action_count, name_count, row_cell, kind_of, chart_of}
use Rattle.definition.specs.Tree.{ancestors, is_descendant, is_child, is_domain_kind, is_compound, listed}
use Rattle.definition.specs.Rules.{each, inside, counts_fit, sizes_fit, row_in_range, block_fits, compiled_size, rule1, rule2, slot_fits, id_fits, action_named, is_under, initial_fits, default_fits, list_fits, row_lists_fit, rule4, row_branches_fit, transition_fits, transition_branches_fit, rule5, keeps_rules}
use Rattle.laws.specs.Bools.{and_left, and_right, and3, and7, no, bool_case}
use Rattle.laws.specs.Loops.{each_below}
use Rattle.laws.specs.Sets.{mem_head}
use Rattle.laws.specs.Lists.{empty_list, all_mem, mem_tail}
use Rattle.accepted.specs.Tree.{ancestor_low}
use Rattle.accepted.specs.Sound.{Sound, accepted_rule1, accepted_rule2, accepted_sound}
use Rattle.written.specs.Sound.{AllOf, no_more, more}

pub empty_mem : (x : ℕ) → false ≡ mem x []
unfolding mem
empty_mem x = refl

-- ---- what rule 4 says of a row's list and its block

module _ (c : Chart) (i : ℕ) (f : list_fits c i ≡ true) where
  -- a row that is no history: without a list it has no block for it
  pub no_list_block : is_history (kind c i) ≡ false → is_empty (listed c i) ≡ true → is_empty (c.row i).block ≡ true
  unfolding list_fits initial_fits
  no_list_block h e = by (is_domain_kind c i) (is_history (kind c i)) h (is_empty (listed c i)) e f
    where
      by : (d y : Bool) → y ≡ false → (z : Bool) → z ≡ true →
          cond d (all (is_under c i) (listed c i) && (not z || is_empty (c.row i).block)) (cond y (default_fits c i) (z && is_empty (c.row i).block)) ≡ true → is_empty (c.row i).block ≡ true
      by true y q true w g = and_right (all (is_under c i) (listed c i)) (is_empty (c.row i).block) g
      by true y q false w g = absurd (no w)
      by false true q z w g = absurd (no (sym q))
      by false false q true w g = g
      by false false q false w g = absurd (no w)

  -- a row with no use for a list
  pub no_use : is_domain_kind c i ≡ false → is_history (kind c i) ≡ false → (is_empty (listed c i) && is_empty (c.row i).block) ≡ true
  unfolding list_fits
  no_use d h = by (is_domain_kind c i) d (is_history (kind c i)) h f
    where
      by : (z : Bool) → z ≡ false → (y : Bool) → y ≡ false → cond z (initial_fits c i) (cond y (default_fits c i) (is_empty (listed c i) && is_empty (c.row i).block)) ≡ true →
          (is_empty (listed c i) && is_empty (c.row i).block) ≡ true
      by true e y q g = absurd (no (sym e))
      by false e true q g = absurd (no (sym q))
      by false e false q g = g

  pub history_default : is_domain_kind c i ≡ false → is_history (kind c i) ≡ true → default_fits c i ≡ true
  unfolding list_fits
  history_default d h = by (is_domain_kind c i) d (is_history (kind c i)) h f
    where
      by : (z : Bool) → z ≡ false → (y : Bool) → y ≡ true → cond z (initial_fits c i) (cond y (default_fits c i) (is_empty (listed c i) && is_empty (c.row i).block)) ≡ true → default_fits c i ≡ true
      by true e y q g = absurd (no (sym e))
      by false e true q g = g
      by false e false q g = absurd (no q)

  domain_initial : is_domain_kind c i ≡ true → initial_fits c i ≡ true
  unfolding list_fits
  domain_initial d = by (is_domain_kind c i) d f
    where
      by : (z : Bool) → z ≡ true → cond z (initial_fits c i) (cond (is_history (kind c i)) (default_fits c i) (is_empty (listed c i) && is_empty (c.row i).block)) ≡ true → initial_fits c i ≡ true
      by true e g = g
      by false e g = absurd (no e)

  -- a list never names the root
  under_above : (a x : ℕ) → mem a (ancestors c x) ≡ true → 1 ≤ x
  under_above a x m = let l = ancestor_low c x a m in omega arith

  descendant_above : (a x : ℕ) → is_descendant c a x ≡ true → 1 ≤ x
  unfolding is_descendant
  descendant_above a x m = under_above a x (and_right (not (is_history (kind c x))) (mem a (ancestors c x)) m)

  child_above : (a x : ℕ) → is_child c a x ≡ true → 1 ≤ x
  unfolding is_child
  child_above a x m =
      let l = ltb-true (parent c x) x (and_left (ltb (parent c x) x) (eqb a (parent c x)) (and_right (not (is_history (kind c x))) (ltb (parent c x) x && eqb a (parent c x)) m)) in
      omega arith

  pub list_above : (x : ℕ) → mem x (listed c i) ≡ true → 1 ≤ x
  unfolding initial_fits default_fits is_under
  list_above x m =
      bool_case (is_domain_kind c i) (λ d. under_above i x (all_mem (is_under c i) (listed c i) (and_left (all (is_under c i) (listed c i)) _ (domain_initial d)) x m))
      (λ d. bool_case (is_history (kind c i)) (λ h. by (is_shallow (kind c i)) (and_right (not (is_empty (listed c i))) _ (history_default d h)))
      (λ h. absurd (none (empty_list (listed c i) (and_left (is_empty (listed c i)) _ (no_use d h))))))
    where
      by : (z : Bool) → cond z (all (is_child c (parent c i)) (listed c i)) (all (is_descendant c (parent c i)) (listed c i)) ≡ true → 1 ≤ x
      by true g = child_above (parent c i) x (all_mem (is_child c (parent c i)) (listed c i) g x m)
      by false g = descendant_above (parent c i) x (all_mem (is_descendant c (parent c i)) (listed c i) g x m)

      none : listed c i ≡ [] → ⊥
      none e = no (empty_mem x ∙ ap (mem x) (sym e) ∙ m)

-- by the kind's number
pub not_domain : (c : Chart) (i : ℕ) (k : Kind) → kind c i ≡ k → is_root k ≡ false → is_state k ≡ false → is_domain_kind c i ≡ false
unfolding is_domain_kind is_compound
not_domain c i k e r s = rw (e, r, s)

pub kind_zero : (k : ℕ) → is_root (kind_of k) ≡ true → k ≡ 0
kind_zero zero h = refl
kind_zero (suc zero) h = absurd (no h)
kind_zero (suc (suc zero)) h = absurd (no h)
kind_zero (suc (suc (suc zero))) h = absurd (no h)
kind_zero (suc (suc (suc (suc zero)))) h = absurd (no h)
kind_zero (suc (suc (suc (suc (suc k))))) h = absurd (no h)

pub kind_above : (k : ℕ) → is_root (kind_of k) ≡ false → 1 ≤ k
kind_above zero h = absurd (no (sym h))
kind_above (suc k) h = omega arith

pub all_of_mem : {P : ℕ → Type 0} (xs : List ℕ) → ((x : ℕ) → mem x xs ≡ true → P x) → AllOf P xs
all_of_mem [] f = no_more
all_of_mem (x ∷ xs) f = more (f x (mem_head x xs)) (all_of_mem xs (λ (y : ℕ) (m : mem y xs ≡ true). f y (mem_tail x y xs m)))

-- ---- the rows of an accepted chart

module _ (numbers names : List ℕ) (h : keeps_rules numbers names ≡ Done) where
  abbrev chart : Chart
  chart = chart_of numbers

  abbrev sound : Sound chart
  sound = accepted_sound numbers names h

  pub row_range : (i : ℕ) → i < row_count numbers → row_in_range numbers i ≡ true
  unfolding rule1
  row_range i l =
      each_below (row_in_range numbers) (row_count numbers)
      (and7 (counts_fit numbers) (sizes_fit numbers names (compiled_size numbers) (length names)) (each (row_count numbers) (row_in_range numbers)) _ _ _ _ (accepted_rule1 numbers names h)).2 i l

  pub row_lists : (i : ℕ) → i < row_count numbers → row_lists_fit chart i ≡ true
  unfolding rule4
  row_lists i l = each_below (row_lists_fit chart) (row_count numbers) (and_left (each (row_count numbers) (row_lists_fit chart)) _ sound.list_rule) i l

  pub row_branches : (i : ℕ) → i < row_count numbers → row_branches_fit chart i ≡ true
  unfolding rule5
  row_branches i l =
      each_below (row_branches_fit chart) (row_count numbers)
      (and3 (each (transition_count numbers) (transition_fits chart)) (each (row_count numbers) (row_branches_fit chart)) (each (transition_count numbers) (transition_branches_fit chart)) sound.transition_rule).1 i l

  pub row_id : (i : ℕ) → i < row_count numbers → id_fits numbers names i ≡ true
  unfolding rule2
  row_id i l =
      each_below (id_fits numbers names) (row_count numbers)
      (and3 (each (name_count numbers) (slot_fits names)) (each (row_count numbers) (id_fits numbers names)) (each (action_count numbers) (action_named numbers names)) (accepted_rule2 numbers names h)).1 i l

  -- the parts of a row stand in their tables
  pub record Inside (i : ℕ) : Type 0 where
    pub kinds : row_cell numbers i 0 ≤ 5
    pub entries : row_cell numbers i 3 + row_cell numbers i 4 ≤ action_count numbers
    pub exits : row_cell numbers i 5 + row_cell numbers i 6 ≤ action_count numbers
    pub blocks : row_cell numbers i 9 + row_cell numbers i 10 ≤ action_count numbers

  block_inside : (start count : ℕ) → block_fits numbers start count ≡ true → start + count ≤ action_count numbers
  unfolding block_fits
  block_inside start count f = leb-true (start + count) (action_count numbers) (and_left (inside (action_count numbers) start count) _ f)

  pub row_inside : (i : ℕ) → i < row_count numbers → Inside i
  unfolding row_in_range
  row_inside i l =
      let k = and7 (leb (row_cell numbers i 0) 5) _ _ (block_fits numbers (row_cell numbers i 3) (row_cell numbers i 4)) (block_fits numbers (row_cell numbers i 5) (row_cell numbers i 6))
      (inside (reference_count numbers) (row_cell numbers i 7) (row_cell numbers i 8)) (block_fits numbers (row_cell numbers i 9) (row_cell numbers i 10)) (row_range i l) in
      record {
        kinds = leb-true (row_cell numbers i 0) 5 k.0;
        entries = block_inside (row_cell numbers i 3) (row_cell numbers i 4) k.3;
        exits = block_inside (row_cell numbers i 5) (row_cell numbers i 6) k.4;
        blocks = block_inside (row_cell numbers i 9) (row_cell numbers i 10) k.6;
      }
