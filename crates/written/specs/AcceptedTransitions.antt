-- The transitions of an accepted chart are such that they can be written and read back.
use Rattle.std.specs.Prelude.{◌≡◌, Bool, true, false, ◌&&◌, ◌||◌, cond, List, [], ◌∷◌, map, eqb, ltb, length, take, drop}
use Rattle.std.proofs.Math.Path.{refl, sym, ap, subst}
use Rattle.std.proofs.Common.{◌∙◌, get_or-drop}
use Rattle.std.proofs.Math.Bool.{not}
use Rattle.std.proofs.Math.Option.{none, some}
use Prim.Native.Nat.{ℕ, zero, suc, ◌≤◌, ◌<◌, ◌+◌}
use native.Mathlib.Omega.{arith}
use Rattle.std.proofs.Math.Dec.{leb}
use Rattle.std.proofs.Math.ListN.{get_or}
use borrow.Author.Tests.{leb-true, ltb-true, not-true}
use Rattle.definition.specs.declared.Answer.TheVariants.{Done}
use Rattle.definition.specs.Rows.{from, all, mem}
use Rattle.definition.specs.Names.{is_descriptor, zeros_after}
use Rattle.definition.specs.Chart.{Chart, kind, is_root}
use Rattle.definition.specs.Tables.{no_number, most_descriptors, most_targets, row_count, transition_count, reference_count, descriptor_count, action_count, name_count, transition_cell, descriptor_cell, descriptor_base, part, descriptors_at, optional, source_at, condition_at, targets_at, transition_block_at, slot_at, name_at, chart_of}
use Rattle.definition.specs.Rules.{each, inside, optional_below, counts_fit, sizes_fit, row_in_range, transition_in_range, reference_in_range, descriptor_in_range, block_fits, compiled_size, rule1, rule2, slot_fits, id_fits, action_named, are_apart, is_no_root, targets_fit, row_lists_fit, rule4, is_in_order, is_source_kind, has_use, spins, condition_fits, branches_fit, row_branches_fit, transition_fits, transition_branches_fit, rule5, keeps_rules}
use Rattle.reading.specs.Content.{Transition}
use Rattle.reading.specs.Layout.{transition_back}
use Rattle.laws.specs.Bools.{and_left, and_right, and3, and7, clash}
use Rattle.laws.specs.Loops.{each_below}
use Rattle.laws.specs.Lists.{all_mem}
use Rattle.accepted.specs.Sound.{accepted_rule1, accepted_rule2, accepted_sound}
use Rattle.written.specs.Sound.{AllOf, no_more, more, always, Ref, BlockFits, ConditionFits, DescriptorFits, TransitionFits}
use Rattle.written.specs.Order.{Ordered, none_left, ordered}
use Rattle.written.specs.TableBlocks.{accepted_root, in_no_root, block_fits_lem}
use Rattle.written.specs.TableRows.{all_of_mem}

-- the elements of a stretch of a list
all_taken : {P : ℕ → Type 0} (n : ℕ) (xs : List ℕ) → ((k : ℕ) → k < n → P (get_or xs k 0)) → AllOf P (take n xs)
all_taken zero xs f = no_more
all_taken (suc n) [] f = no_more
all_taken (suc n) (x ∷ xs) f = more (f 0 (omega arith)) (all_taken n xs (λ (k : ℕ) (h : k < n). f (suc k) (omega arith)))

pub all_mapped : {A B : Type 0} {P : B → Type 0} (f : A → B) {Q : A → Type 0} → ((x : A) → Q x → P (f x)) → (xs : List A) → AllOf Q xs → AllOf P (map f xs)
all_mapped f g [] no_more = no_more
all_mapped f g (x ∷ xs) (more h m) = more (g x h) (all_mapped f g xs m)

module _ (numbers names : List ℕ) (h : keeps_rules numbers names ≡ Done) where
  abbrev chart : Chart
  chart = chart_of numbers

  abbrev back : ℕ → Transition
  back t = transition_back numbers names t

  rule1_parts : (each (transition_count numbers) (transition_in_range numbers) ≡ true) × (each (descriptor_count numbers) (descriptor_in_range numbers) ≡ true)
  unfolding rule1
  rule1_parts =
      let k = and7 (counts_fit numbers) (sizes_fit numbers names (compiled_size numbers) (length names)) (each (row_count numbers) (row_in_range numbers)) (each (transition_count numbers) (transition_in_range numbers))
      (each (reference_count numbers) (reference_in_range numbers)) (each (descriptor_count numbers) (descriptor_in_range numbers)) _ (accepted_rule1 numbers names h) in
      (k.3, k.5)

  -- a name of the table is a descriptor
  pub name_fits : (d : ℕ) → d < name_count numbers → is_descriptor (name_at names d) ≡ true
  unfolding rule2 slot_fits
  name_fits d l =
      and_right (zeros_after (slot_at names d)) (is_descriptor (name_at names d))
      (each_below (slot_fits names) (name_count numbers)
      (and3 (each (name_count numbers) (slot_fits names)) (each (row_count numbers) (id_fits numbers names)) (each (action_count numbers) (action_named numbers names)) (accepted_rule2 numbers names h)).0 d l)

  -- the parts of a transition stand in their tables
  pub record Inside (t : ℕ) : Type 0 where
    pub names_in : transition_cell numbers t 1 + transition_cell numbers t 2 ≤ descriptor_count numbers
    pub condition_in_lem : optional_below (row_count numbers) (transition_cell numbers t 3) ≡ true
    pub block_in : transition_cell numbers t 7 + transition_cell numbers t 8 ≤ action_count numbers

  six : (a b c d e f : Bool) → (a && b && c && d && e && f) ≡ true → (b ≡ true) × (c ≡ true) × (f ≡ true)
  six a b c d e f g =
      let k = and_left (a && b && c && d) e (and_left (a && b && c && d && e) f g) in
      let j = and_left (a && b && c) d k in
      (and_right a b (and_left (a && b) c j), and_right (a && b) c j, and_right (a && b && c && d && e) f g)

  pub transition_inside : (t : ℕ) → t < transition_count numbers → Inside t
  unfolding transition_in_range block_fits
  transition_inside t l =
      let k = six (ltb (transition_cell numbers t 0) (row_count numbers)) (inside (descriptor_count numbers) (transition_cell numbers t 1) (transition_cell numbers t 2) && leb (transition_cell numbers t 2) most_descriptors)
      (optional_below (row_count numbers) (transition_cell numbers t 3)) (leb (transition_cell numbers t 4) 1)
      (inside (reference_count numbers) (transition_cell numbers t 5) (transition_cell numbers t 6) && leb (transition_cell numbers t 6) most_targets)
      (block_fits numbers (transition_cell numbers t 7) (transition_cell numbers t 8)) (each_below (transition_in_range numbers) (transition_count numbers) rule1_parts.0 t l) in
      record {
        names_in = leb-true _ _ (and_left (inside (descriptor_count numbers) (transition_cell numbers t 1) (transition_cell numbers t 2)) _ k.0);
        condition_in_lem = k.1;
        block_in = leb-true _ _ (and_left (inside (action_count numbers) (transition_cell numbers t 7) (transition_cell numbers t 8)) _ k.2);
      }

  -- what rules 4 and 5 say of a transition
  record Ruled (t : ℕ) : Type 0 where
    pub no_roots : all (is_no_root chart) (targets_at numbers t) ≡ true
    pub in_order : is_in_order chart t ≡ true
    pub tested : condition_fits chart (condition_at numbers t) ≡ true
    pub branches : branches_fit chart (transition_block_at numbers t) ≡ true

  ruled : (t : ℕ) → t < transition_count numbers → Ruled t
  unfolding rule4 rule5 targets_fit transition_fits transition_branches_fit
  ruled t l =
      let a = each_below (targets_fit chart) (transition_count numbers) (and_right (each (row_count numbers) (row_lists_fit chart)) (each (transition_count numbers) (targets_fit chart)) (accepted_sound numbers names h).list_rule) t l in
      let b = and3 (each (transition_count numbers) (transition_fits chart)) (each (row_count numbers) (row_branches_fit chart)) (each (transition_count numbers) (transition_branches_fit chart)) (accepted_sound numbers names h).transition_rule in
      let f = each_below (transition_fits chart) (transition_count numbers) b.0 t l in
      let i = is_in_order chart t in
      let s = is_source_kind (kind chart (source_at numbers t)) in
      let u = has_use (chart.transition t) in
      let w = condition_fits chart (condition_at numbers t) in
      let z = not (spins (chart.transition t)) in
      record {
        no_roots = and_right (are_apart chart (targets_at numbers t)) (all (is_no_root chart) (targets_at numbers t)) a;
        in_order = and_left i s (and_left (i && s) u (and_left (i && s && u) w (and_left (i && s && u && w) z f)));
        tested = and_right (i && s && u) w (and_left (i && s && u && w) z f);
        branches = each_below (transition_branches_fit chart) (transition_count numbers) b.2 t l;
      }

  -- ---- descriptors

  descriptor_range : (k : ℕ) → k < descriptor_count numbers → descriptor_cell numbers k < name_count numbers
  unfolding descriptor_in_range
  descriptor_range k l = ltb-true (descriptor_cell numbers k) (name_count numbers) (each_below (descriptor_in_range numbers) (descriptor_count numbers) rule1_parts.1 k l)

  pub record Named (d : ℕ) : Type 0 where
    pub below : d < name_count numbers

  pub named : (start count : ℕ) → start + count ≤ descriptor_count numbers → AllOf Named (descriptors_at numbers start count)
  unfolding descriptors_at part
  named start count l =
      all_taken count (drop (descriptor_base numbers + start) numbers)
      (λ (k : ℕ) (b : k < count). record { below = subst (λ (x : ℕ). x < name_count numbers) (at k) (descriptor_range (start + k) (omega arith)) })
    where
      at : (k : ℕ) → descriptor_cell numbers (start + k) ≡ get_or (drop (descriptor_base numbers + start) numbers) k 0
      at k = cell ∙ ap (λ (x : ℕ). get_or numbers x 0) (moved (descriptor_base numbers) start k) ∙ sym (get_or-drop (descriptor_base numbers + start) numbers k 0)
        where
          cell : descriptor_cell numbers (start + k) ≡ get_or numbers (descriptor_base numbers + (start + k)) 0
          cell = unfold descriptor_cell in refl

          moved : (a b c : ℕ) → a + (b + c) ≡ a + b + c
          moved a b c = omega arith

  descriptors_fit : (t : ℕ) → t < transition_count numbers → AllOf DescriptorFits (back t).descriptors
  unfolding transition_back
  descriptors_fit t l =
      all_mapped (name_at names) (λ (d : ℕ) (n : Named d). name_fits d n.below) (descriptors_at numbers (transition_cell numbers t 1) (transition_cell numbers t 2))
      (named (transition_cell numbers t 1) (transition_cell numbers t 2) (transition_inside t l).names_in)

  -- ---- condition, targets, block

  condition_fits_lem : (x : ℕ) → optional_below (row_count numbers) x ≡ true → condition_fits chart (optional x) ≡ true → ConditionFits (row_count numbers) (optional x)
  condition_fits_lem x b f = by (eqb x no_number) b f
    where
      by : (z : Bool) → (z || ltb x (row_count numbers)) ≡ true → condition_fits chart (cond z none (some x)) ≡ true → ConditionFits (row_count numbers) (cond z none (some x))
      by true g k = always
      by false g k = record { above = in_no_root chart (accepted_root numbers names h) x k; below = ltb-true x (row_count numbers) g }

  condition_of_lem : (t : ℕ) → t < transition_count numbers → ConditionFits (row_count numbers) (back t).condition
  unfolding transition_back condition_at
  condition_of_lem t l = condition_fits_lem (transition_cell numbers t 3) (transition_inside t l).condition_in_lem (ruled t l).tested

  no_root_above : (x : ℕ) → is_no_root chart x ≡ true → 1 ≤ x
  unfolding is_no_root
  no_root_above zero e = absurd (clash (is_root (kind chart 0)) (accepted_root numbers names h) (not-true (is_root (kind chart 0)) e))
  no_root_above (suc x) e = omega arith

  targets_fit_lem : (t : ℕ) → t < transition_count numbers → AllOf (Ref (row_count numbers)) (back t).targets
  unfolding transition_back targets_at
  targets_fit_lem t l =
      all_of_mem (targets_at numbers t)
      (λ (x : ℕ) (m : mem x (targets_at numbers t) ≡ true).
      record { above = no_root_above x (all_mem (is_no_root chart) (targets_at numbers t) (ruled t l).no_roots x m); below = (accepted_sound numbers names h).target_inside t l x m })

  block_of_lem : (t : ℕ) → t < transition_count numbers → BlockFits (row_count numbers) (back t).block
  unfolding transition_back transition_block_at
  block_of_lem t l = block_fits_lem numbers names h (transition_cell numbers t 7) (transition_cell numbers t 8) (transition_inside t l).block_in (ruled t l).branches

  source_is : (t : ℕ) → (back t).source ≡ source_at numbers t
  unfolding transition_back source_at
  source_is t = refl

  source_in : (t : ℕ) → t < transition_count numbers → (back t).source < row_count numbers
  source_in t l = subst (λ (s : ℕ). s < row_count numbers) (sym (source_is t)) ((accepted_sound numbers names h).source_inside t l)

  pub transition_fits_lem : (t : ℕ) → t < transition_count numbers → TransitionFits (row_count numbers) (back t)
  transition_fits_lem t l = record { source = source_in t l; descriptors = descriptors_fit t l; condition = condition_of_lem t l; targets = targets_fit_lem t l; block = block_of_lem t l }

  -- ---- order

  next_source : (t : ℕ) → suc t < transition_count numbers → (back t).source ≤ (back (suc t)).source
  unfolding is_in_order
  next_source t l = subst (λ (a : ℕ). a ≤ (back (suc t)).source) (sym (source_is t)) (subst (λ (b : ℕ). source_at numbers t ≤ b) (sym (source_is (suc t))) (leb-true (source_at numbers t) (source_at numbers (suc t)) (ruled (suc t) l).in_order))

  in_order_from : (k t lo : ℕ) → t + k ≤ transition_count numbers → (0 < k → lo ≤ (back t).source) → Ordered (row_count numbers) lo (map back (from k t))
  unfolding from
  in_order_from zero t lo l f = none_left
  in_order_from (suc k) t lo l f =
      ordered (f (omega arith)) (source_in t (omega arith)) (in_order_from k (suc t) (back t).source (omega arith) (λ (p : 0 < k). next_source t (omega arith)))

  pub transitions_ordered : Ordered (row_count numbers) 0 (map back (from (transition_count numbers) 0))
  transitions_ordered = in_order_from (transition_count numbers) 0 0 (omega arith) (λ (p : 0 < transition_count numbers). omega arith)
