-- Rules 3 to 5 do not go by names: what they say of a chart they say of it with its names left out.
use Rattle.std.specs.Prelude.{◌≡◌, Bool, false, ◌&&◌, ◌||◌, length}
use Rattle.std.proofs.Math.Path.{refl, ap, ap₂}
use Rattle.std.proofs.Math.Bool.{not, cond}
use mathlib.Core.List.{List, [], ◌∷◌, map}
use Rattle.std.proofs.Math.Option.{Option, none, some}
use Prim.Native.Nat.{ℕ, zero, suc}
use Rattle.std.proofs.Math.Dec.{ltb}
use Rattle.definition.specs.declared.Action.{Action}
use Rattle.definition.specs.declared.Action.TheVariants.{Raise, Host, If, ElseIf, Else, End, Send, Cancel}
use Rattle.definition.specs.Rows.{from, all, any, mem, is_empty}
use Rattle.definition.specs.Chart.{Row, Transition, Chart, kind, parent, is_shallow}
use Rattle.definition.specs.Tree.{ancestors, is_descendant, is_child, children, is_domain_kind, is_compound, listed, anchor}
use Rattle.definition.specs.Rules.{parent_fits, is_history_of, needs_child, stands_well, rule3, nearest_common, is_apart, are_apart, is_under, initial_fits, default_fits, list_fits, blocks_fit, row_lists_fit, is_no_root, targets_fit, rule4, is_in_order, is_empty_option, condition_fits, has_use, spins, transition_fits, awaits_else, with_else, closed, nests, test_fits, branches_fit, row_branches_fit, transition_branches_fit, rule5}

abbrev pub erase : Action → Action
erase (Raise n) = Raise 0
erase (Host k) = Host k
erase (If i) = If i
erase (ElseIf i) = ElseIf i
erase Else = Else
erase End = End
erase (Send n delay id) = Send 0 delay 0
erase (Cancel n) = Cancel 0

abbrev pub no_name : ℕ → ℕ
no_name d = 0

abbrev pub erased_row : Row → Row
erased_row r = record { kind = r.kind; parent = r.parent; id = 0; entry = map erase r.entry; exit = map erase r.exit; list = r.list; block = map erase r.block }

abbrev pub erased_transition : Transition → Transition
erased_transition t = record { source = t.source; descriptors = map no_name t.descriptors; condition = t.condition; internal = t.internal; targets = t.targets; block = map erase t.block }

abbrev pub erased : Chart → Chart
erased c = record { rows = c.rows; row = λ (i : ℕ). erased_row (c.row i); transitions = c.transitions; transition = λ (t : ℕ). erased_transition (c.transition t) }

all_same : (p q : ℕ → Bool) (xs : List ℕ) → ((i : ℕ) → p i ≡ q i) → all p xs ≡ all q xs
unfolding all
all_same p q [] f = refl
all_same p q (x ∷ xs) f = ap₂ (λ (a b : Bool). a && b) (f x) (all_same p q xs f)

empty_map : {A B : Type 0} (f : A → B) (xs : List A) → is_empty (map f xs) ≡ is_empty xs
unfolding is_empty
empty_map f [] = refl
empty_map f (x ∷ xs) = refl

module _ (c : Chart) where
  -- ---- rule 3

  stands_same : (i : ℕ) → stands_well (erased c) i ≡ stands_well c i
  unfolding stands_well parent_fits needs_child is_history_of children is_child ancestors any
  stands_same zero = refl
  stands_same (suc i) = refl

  pub erased_3 : rule3 (erased c) ≡ rule3 c
  unfolding rule3
  erased_3 = all_same (stands_well (erased c)) (stands_well c) (from c.rows 0) stands_same

  -- ---- rule 4

  apart_same : (xs : List ℕ) → are_apart (erased c) xs ≡ are_apart c xs
  unfolding are_apart
  apart_same [] = refl
  apart_same (x ∷ xs) = ap₂ (λ (a b : Bool). a && b) (all_same (is_apart (erased c) x) (is_apart c x) xs (λ (y : ℕ). unfold is_apart nearest_common anchor ancestors in refl)) (apart_same xs)

  domain_same : (i : ℕ) → is_domain_kind (erased c) i ≡ is_domain_kind c i
  unfolding is_domain_kind is_compound children is_child
  domain_same i = refl

  under_same : (i x : ℕ) → is_under (erased c) i x ≡ is_under c i x
  unfolding is_under ancestors
  under_same i x = refl

  initial_same : (i : ℕ) → initial_fits (erased c) i ≡ initial_fits c i
  unfolding initial_fits
  initial_same i =
      ap₂ (λ (a b : Bool). a && (not (is_empty (listed c i)) || b)) (all_same (is_under (erased c) i) (is_under c i) (listed c i) (under_same i)) (empty_map erase (c.row i).block)

  default_same : (i : ℕ) → default_fits (erased c) i ≡ default_fits c i
  unfolding default_fits
  default_same i =
      ap₂ (λ (a b : Bool). not (is_empty (listed c i)) && cond (is_shallow (kind c i)) a b) (all_same (is_child (erased c) (parent c i)) (is_child c (parent c i)) (listed c i) (λ (x : ℕ). unfold is_child in refl))
      (all_same (is_descendant (erased c) (parent c i)) (is_descendant c (parent c i)) (listed c i) (λ (x : ℕ). unfold is_descendant ancestors in refl))

  lists_same : (i : ℕ) → list_fits (erased c) i ≡ list_fits c i
  unfolding list_fits
  lists_same i = rw (domain_same i, initial_same i, default_same i, empty_map erase (c.row i).block)

  blocks_same : (i : ℕ) → blocks_fit (erased c) i ≡ blocks_fit c i
  unfolding blocks_fit
  blocks_same i = rw (empty_map erase (c.row i).block, empty_map erase (c.row i).entry, empty_map erase (c.row i).exit)

  row_lists_same : (i : ℕ) → row_lists_fit (erased c) i ≡ row_lists_fit c i
  unfolding row_lists_fit
  row_lists_same i = rw (apart_same (listed c i), lists_same i, blocks_same i)

  targets_same : (t : ℕ) → targets_fit (erased c) t ≡ targets_fit c t
  unfolding targets_fit
  targets_same t =
      ap₂ (λ (a b : Bool). a && b) (apart_same (c.transition t).targets) (all_same (is_no_root (erased c)) (is_no_root c) (c.transition t).targets (λ (x : ℕ). unfold is_no_root in refl))

  pub erased_4 : rule4 (erased c) ≡ rule4 c
  unfolding rule4
  erased_4 =
      ap₂ (λ (a b : Bool). a && b) (all_same (row_lists_fit (erased c)) (row_lists_fit c) (from c.rows 0) row_lists_same) (all_same (targets_fit (erased c)) (targets_fit c) (from c.transitions 0) targets_same)

  -- ---- rule 5

  order_same : (t : ℕ) → is_in_order (erased c) t ≡ is_in_order c t
  unfolding is_in_order
  order_same zero = refl
  order_same (suc t) = refl

  condition_same : (o : Option ℕ) → condition_fits (erased c) o ≡ condition_fits c o
  unfolding condition_fits
  condition_same none = refl
  condition_same (some i) = refl

  use_same : (t : Transition) → has_use (erased_transition t) ≡ has_use t
  unfolding has_use
  use_same t = ap (λ (z : Bool). not (z && is_empty_option t.condition && is_empty t.targets)) (empty_map no_name t.descriptors)

  spins_same : (t : Transition) → spins (erased_transition t) ≡ spins t
  unfolding spins
  spins_same t = ap (λ (z : Bool). z && (is_empty t.targets || (is_empty_option t.condition && mem t.source t.targets))) (empty_map no_name t.descriptors)

  transition_same : (t : ℕ) → transition_fits (erased c) t ≡ transition_fits c t
  unfolding transition_fits
  transition_same t = rw (order_same t, use_same (c.transition t), condition_same (c.transition t).condition, spins_same (c.transition t))

  nests_same : (xs : List Action) (ifs : List Bool) → nests ifs (map erase xs) ≡ nests ifs xs
  unfolding nests
  nests_same [] ifs = refl
  nests_same (Raise n ∷ xs) ifs = nests_same xs ifs
  nests_same (Host k ∷ xs) ifs = nests_same xs ifs
  nests_same (If i ∷ xs) ifs = ap (λ (z : Bool). ltb (length ifs) 4 && z) (nests_same xs (false ∷ ifs))
  nests_same (ElseIf i ∷ xs) ifs = ap (λ (z : Bool). awaits_else ifs && z) (nests_same xs ifs)
  nests_same (Else ∷ xs) ifs = ap (λ (z : Bool). awaits_else ifs && z) (nests_same xs (with_else ifs))
  nests_same (End ∷ xs) ifs = ap (λ (z : Bool). not (is_empty ifs) && z) (nests_same xs (closed ifs))
  nests_same (Send n delay id ∷ xs) ifs = nests_same xs ifs
  nests_same (Cancel n ∷ xs) ifs = nests_same xs ifs

  test_same : (a : Action) → test_fits (erased c) (erase a) ≡ test_fits c a
  unfolding test_fits
  test_same (Raise n) = refl
  test_same (Host k) = refl
  test_same (If i) = condition_same (some i)
  test_same (ElseIf i) = condition_same (some i)
  test_same Else = refl
  test_same End = refl
  test_same (Send n delay id) = refl
  test_same (Cancel n) = refl

  tests_same : (xs : List Action) → all (test_fits (erased c)) (map erase xs) ≡ all (test_fits c) xs
  unfolding all
  tests_same [] = refl
  tests_same (a ∷ xs) = ap₂ (λ (x y : Bool). x && y) (test_same a) (tests_same xs)

  branches_same : (xs : List Action) → branches_fit (erased c) (map erase xs) ≡ branches_fit c xs
  unfolding branches_fit
  branches_same xs = ap₂ (λ (x y : Bool). x && y) (nests_same xs []) (tests_same xs)

  row_branches_same : (i : ℕ) → row_branches_fit (erased c) i ≡ row_branches_fit c i
  unfolding row_branches_fit
  row_branches_same i = rw (branches_same (c.row i).entry, branches_same (c.row i).exit, branches_same (c.row i).block)

  transition_branches_same : (t : ℕ) → transition_branches_fit (erased c) t ≡ transition_branches_fit c t
  unfolding transition_branches_fit
  transition_branches_same t = branches_same (c.transition t).block

  pub erased_5 : rule5 (erased c) ≡ rule5 c
  unfolding rule5
  erased_5 =
      ap₂ (λ (x y : Bool). x && y)
      (ap₂ (λ (x y : Bool). x && y) (all_same (transition_fits (erased c)) (transition_fits c) (from c.transitions 0) transition_same)
      (all_same (row_branches_fit (erased c)) (row_branches_fit c) (from c.rows 0) row_branches_same))
      (all_same (transition_branches_fit (erased c)) (transition_branches_fit c) (from c.transitions 0) transition_branches_same)
