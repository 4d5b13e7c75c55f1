-- The rows that a compiled set lists are rows of the chart.
use Rattle.std.specs.Prelude.{◌≡◌, true, ℕ, zero, suc, ◌<◌}
use Rattle.std.proofs.Common.{sym, ◌∙◌, arith, subst}
use mathlib.Core.List.{List, [], ◌∷◌, map}
use Rattle.definition.specs.Rows.{mem, is_empty, first_of}
use Rattle.definition.specs.Chart.{Chart, kind, is_history}
use Rattle.definition.specs.Tree.{ancestors, descendants, children, is_domain_kind, listed, default_targets, anchor, anchors}
use Rattle.laws.specs.Bools.{no, bool_case}
use Rattle.laws.specs.Sets.{mem_head, mem_union}
use Rattle.laws.specs.Lists.{mem_cases, mem_tail}
use Rattle.kinds.specs.Stands.{root_no_history}
use Rattle.accepted.specs.Tree.{ancestor_low, low, root_kind, mem_children}
use Rattle.accepted.specs.Fork.{anchor_self, anchor_parent}
use Rattle.accepted.specs.Sound.{Sound, mem_descendants}

-- what every element of a list becomes passes
map_mem : (f : ℕ → ℕ) (P : ℕ → Type 0) (xs : List ℕ) → ((x : ℕ) → mem x xs ≡ true → P (f x)) → (a : ℕ) → mem a (map f xs) ≡ true → P a
unfolding mem
map_mem f P [] h a m = absurd (no m)
map_mem f P (x ∷ xs) h a m =
    mem_cases a (f x) (map f xs) (λ e. rw e (h x (mem_head x xs))) (map_mem f P xs (λ y n. h y (mem_tail x y xs n)) a) m

-- the first of a list is in it
first_mem : (xs : List ℕ) (a : ℕ) → mem a (first_of xs) ≡ true → mem a xs ≡ true
unfolding first_of mem
first_mem [] a m = m
first_mem (x ∷ xs) a m = mem_cases a x [] (λ e. subst (λ z. mem z (x ∷ xs) ≡ true) (sym e) (mem_head x xs)) (λ k. absurd (no k)) m

module _ (c : Chart) (g : Sound c) where
  pub ancestor_inside : (i : ℕ) → i < c.rows → (a : ℕ) → mem a (ancestors c i) ≡ true → a < c.rows
  ancestor_inside i l a m = omega (arith, ancestor_low c i a m)

  pub descendant_inside : (i a : ℕ) → mem a (descendants c i) ≡ true → a < c.rows
  descendant_inside i a m = (mem_descendants c i a m).0

  pub child_inside : (i a : ℕ) → mem a (children c i) ≡ true → a < c.rows
  child_inside i a m = (mem_children c g.tree i a m).0

  pub default_inside : (i : ℕ) → i < c.rows → (a : ℕ) → mem a (default_targets c i) ≡ true → a < c.rows
  unfolding default_targets mem
  default_inside i l a m =
      bool_case (is_domain_kind c i)
      (λ e. bool_case (is_empty (listed c i)) (λ n. child_inside i a (first_mem (children c i) a (rw (e, n) at m))) (λ n. g.is_list_inside i a (rw (e, n) at m)))
      (λ e. absurd (no (rw e at m)))

  pub anchor_row : (x : ℕ) → x < c.rows → anchor c x < c.rows
  anchor_row zero l = rw (anchor_self c g.tree 0 (root_no_history (kind c 0) (root_kind c g.tree))) l
  anchor_row (suc x) l =
      bool_case (is_history (kind c (suc x))) (λ e. rw (anchor_parent c g.tree (suc x) e) (omega (arith, low c g.tree x)))
      (λ e. rw (anchor_self c g.tree (suc x) e) l)

  pub anchors_inside : (t : ℕ) → t < c.transitions → (a : ℕ) → mem a (anchors c t) ≡ true → a < c.rows
  unfolding anchors mem
  anchors_inside t l a m =
      map_mem (anchor c) (λ x. x < c.rows) (c.transition t).targets (λ x n. anchor_row x (g.target_inside t l x n)) a
      (sym (mem_union a [] (map (anchor c) (c.transition t).targets)) ∙ m)
