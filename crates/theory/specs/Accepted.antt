-- What rules 4 and 5 give of an accepted chart: default entry, what stands in for a target.
use Rattle.std.specs.Prelude.{◌≡◌, refl, Bool, ◌&&◌, ℕ, zero, suc, ◌<◌}
use Rattle.std.proofs.Common.{◌∙◌}
use Rattle.std.proofs.Math.Path.{sym}
use Rattle.std.proofs.Math.Bool.{true, false, not, cond}
use mathlib.Core.List.{List, [], ◌∷◌}
use borrow.Author.Tests.{not-true}
use Rattle.definition.specs.declared.Kind.{Kind}
use Rattle.definition.specs.declared.Kind.TheVariants.{Root, State, Parallel, Final, Shallow, Deep}
use Rattle.definition.specs.Rows.{those, mem, is_in, all, is_empty, intersection}
use Rattle.definition.specs.Chart.{Chart, kind, parent, is_root, is_state, is_shallow, is_history}
use Rattle.definition.specs.Tree.{ancestors, is_descendant, is_child, descendants, children, is_compound, is_atomic, is_domain_kind, listed, anchor}
use Rattle.definition.specs.Rules.{each, rule4, rule5, needs_child, are_apart, initial_fits, default_fits, list_fits, blocks_fit, row_lists_fit, is_no_root, targets_fit, is_in_order, is_source_kind, has_use, condition_fits, spins, transition_fits, is_under, row_branches_fit, transition_branches_fit}
use Rattle.follower.specs.Selection.{History, atomic_states, or_default, stand_ins}
use Rattle.follower.specs.Microstep.{would_store}
use Rattle.laws.specs.Bools.{no, and3, and4, clash, or_elim, bool_case, and_left, and_right}
use Rattle.laws.specs.Sets.{mem_head, mem_intersection}
use Rattle.laws.specs.Loops.{each_below}
use Rattle.laws.specs.Lists.{mem_cases, all_mem, full_mem, keep_mem}
use Rattle.laws.specs.Ways.{Way, eq_way, Below, below_way, below_trans, siblings}
use Rattle.accepted.specs.Tree.{low, root_kind, way_zero, has_child_lem, under_below, under_plain, below_under, child_facts, mem_children}
use Rattle.accepted.specs.Fork.{anchor_parent, Legal, Forks, part_forks, list_forks, anchor_self}
use Rattle.theory.specs.Entry.{live_of}
use Rattle.accepted.specs.Sound.{Sound, mem_descendants}

-- ---- what rules 4 and 5 say of a row and a transition

-- what a history's parent stores of a legal configuration that holds it
pub record Kept (c : Chart) (h : ℕ) (set : List ℕ) : Type 0 where
  pub configuration : List ℕ
  pub in_order : configuration ≡ those c.rows (is_in configuration)
  pub legal : Legal c (is_in configuration)
  pub holds : mem (parent c h) configuration ≡ true
  pub stores : would_store c configuration h ≡ set

unfoldable pub HistOk : Chart → History → Type 0
HistOk c hist = (h : ℕ) → is_history (kind c h) ≡ true → is_empty (hist h) ≡ false → Kept c h (hist h)

-- what stands in for the target x
pub record Stand (c : Chart) (x : ℕ) (xs : List ℕ) : Type 0 where
  pub inside : (e : ℕ) → mem e xs ≡ true → e < c.rows
  pub rooted : (e : ℕ) → mem e xs ≡ true → is_descendant c 0 e ≡ true
  pub anchored : (e : ℕ) → mem e xs ≡ true → Way (parent c) (anchor c x) e
  pub strict : is_history (kind c x) ≡ true → (e : ℕ) → mem e xs ≡ true → Below (parent c) (parent c x) e
  pub forks : Forks c xs
  pub full : (e : ℕ) × (mem e xs ≡ true)

history_no_initial : (k : Kind) → is_history k ≡ true → (is_root k ≡ false) × (is_state k ≡ false)
history_no_initial Root h = absurd (no h)
history_no_initial State h = absurd (no h)
history_no_initial Parallel h = absurd (no h)
history_no_initial Final h = absurd (no h)
history_no_initial Shallow h = (refl, refl)
history_no_initial Deep h = (refl, refl)

-- the rows of a list with one element
pub only : (a y : ℕ) → mem a (y ∷ []) ≡ true → a ≡ y
unfolding mem
only a y m = mem_cases a y [] (λ e. e) (λ k. absurd (no k)) m

module _ (c : Chart) (g : Sound c) where
  row4 : (i : ℕ) → i < c.rows → (are_apart c (listed c i) ≡ true) × (list_fits c i ≡ true) × (blocks_fit c i ≡ true)
  unfolding rule4 row_lists_fit
  row4 i l =
      and3 (are_apart c (listed c i)) (list_fits c i) (blocks_fit c i)
      (each_below (row_lists_fit c) c.rows (and_left (each c.rows (row_lists_fit c)) _ g.list_rule) i l)

  pub blocks_fit_lem : (i : ℕ) → i < c.rows → blocks_fit c i ≡ true
  blocks_fit_lem i l = (row4 i l).2

  transition4 : (t : ℕ) → t < c.transitions → targets_fit c t ≡ true
  unfolding rule4
  transition4 t l = each_below (targets_fit c) c.transitions (and_right (each c.rows (row_lists_fit c)) _ g.list_rule) t l

  pub targets_apart : (t : ℕ) → t < c.transitions → are_apart c (c.transition t).targets ≡ true
  unfolding targets_fit
  targets_apart t l = and_left (are_apart c (c.transition t).targets) _ (transition4 t l)

  pub target_not_root : (t : ℕ) → t < c.transitions → (x : ℕ) → mem x (c.transition t).targets ≡ true → is_root (kind c x) ≡ false
  unfolding targets_fit is_no_root
  target_not_root t l x m =
      not-true _ (all_mem (is_no_root c) (c.transition t).targets (and_right (are_apart c (c.transition t).targets) _ (transition4 t l)) x m)

  rule5_transitions : each c.transitions (transition_fits c) ≡ true
  unfolding rule5
  rule5_transitions = (and3 (each c.transitions (transition_fits c)) (each c.rows (row_branches_fit c)) (each c.transitions (transition_branches_fit c)) g.transition_rule).0

  transition5 : (t : ℕ) → t < c.transitions →
      (is_in_order c t ≡ true) × (is_source_kind (kind c (c.transition t).source) ≡ true) × (has_use (c.transition t) ≡ true) × (condition_fits c (c.transition t).condition ≡ true)
  unfolding transition_fits
  transition5 t l =
      and4 (is_in_order c t) (is_source_kind (kind c (c.transition t).source)) (has_use (c.transition t)) (condition_fits c (c.transition t).condition)
      (and_left (is_in_order c t && is_source_kind (kind c (c.transition t).source) && has_use (c.transition t) && condition_fits c (c.transition t).condition) _
      (each_below (transition_fits c) c.transitions rule5_transitions t l))

  -- no transition spins
  pub not_spins : (t : ℕ) → t < c.transitions → spins (c.transition t) ≡ false
  unfolding transition_fits
  not_spins t l =
      not-true _
      (and_right (is_in_order c t && is_source_kind (kind c (c.transition t).source) && has_use (c.transition t) && condition_fits c (c.transition t).condition) _
      (each_below (transition_fits c) c.transitions rule5_transitions t l))

  pub sources_in_order : (t : ℕ) → t < c.transitions → is_in_order c t ≡ true
  sources_in_order t l = (transition5 t l).0

  pub source_kind : (t : ℕ) → t < c.transitions → is_source_kind (kind c (c.transition t).source) ≡ true
  source_kind t l = (transition5 t l).1

  pub has_use_lem : (t : ℕ) → t < c.transitions → has_use (c.transition t) ≡ true
  has_use_lem t l = (transition5 t l).2

  pub condition_fits_lem : (t : ℕ) → t < c.transitions → condition_fits c (c.transition t).condition ≡ true
  condition_fits_lem t l = (transition5 t l).3

  -- the row's list: of the root or a compound, of a history
  pub list_apart : (i : ℕ) → i < c.rows → are_apart c (listed c i) ≡ true
  list_apart i l = (row4 i l).0

  pub initial_list : (i : ℕ) → i < c.rows → is_domain_kind c i ≡ true → (x : ℕ) → mem x (listed c i) ≡ true → mem i (ancestors c x) ≡ true
  unfolding list_fits initial_fits is_under
  initial_list i l q x m =
      all_mem (is_under c i) (listed c i) (and_left (all (is_under c i) (listed c i)) _ (rw q at (row4 i l).1)) x m

  pub history_no_domain : (i : ℕ) → is_history (kind c i) ≡ true → is_domain_kind c i ≡ false
  unfolding is_domain_kind is_compound
  history_no_domain i q = rw ((history_no_initial (kind c i) q).0, (history_no_initial (kind c i) q).1)

  default_fits_lem : (i : ℕ) → i < c.rows → is_history (kind c i) ≡ true → default_fits c i ≡ true
  unfolding list_fits
  default_fits_lem i l q = let n : is_domain_kind c i ≡ false = history_no_domain i q in rw (n, q) at (row4 i l).1

  pub default_full : (i : ℕ) → i < c.rows → is_history (kind c i) ≡ true → is_empty (listed c i) ≡ false
  unfolding default_fits
  default_full i l q = not-true _ (and_left (not (is_empty (listed c i))) _ (default_fits_lem i l q))

  pub child_under : (a j : ℕ) → is_child c a j ≡ true → is_descendant c a j ≡ true
  child_under a j h =
      let f = child_facts c g.tree a j h in
      rw f.1 (below_under c g.tree a (suc f.0) f.3 (eq_way (parent c) (sym f.2)))

  pub default_under : (i : ℕ) → i < c.rows → is_history (kind c i) ≡ true → (e : ℕ) → mem e (listed c i) ≡ true → is_descendant c (parent c i) e ≡ true
  unfolding default_fits
  default_under i l q e m = go (is_shallow (kind c i)) (and_right (not (is_empty (listed c i))) _ (default_fits_lem i l q))
    where
      go : (b : Bool) → cond b (all (is_child c (parent c i)) (listed c i)) (all (is_descendant c (parent c i)) (listed c i)) ≡ true → is_descendant c (parent c i) e ≡ true
      go true h = child_under (parent c i) e (all_mem (is_child c (parent c i)) (listed c i) h e m)
      go false h = all_mem (is_descendant c (parent c i)) (listed c i) h e m

  alone_forks : (y : ℕ) → Forks c (y ∷ [])
  alone_forks y a b m n i j v w e q =
      siblings (parent c) (low c g.tree) i j y (rw (only a y m) at v) (rw (only b y n) at w) e

  -- the root and a compound have a child
  pub domain_child : (k : ℕ) → k < c.rows → is_domain_kind c k ≡ true → is_empty (children c k) ≡ false
  unfolding is_domain_kind is_compound needs_child
  domain_child k l q =
      or_elim (is_root (kind c k)) (is_state (kind c k) && not (is_empty (children c k)))
      (λ e. has_child_lem c g.tree k l (rw e)) (λ e. not-true _ (and_right (is_state (kind c k)) _ e)) q

  -- ---- stand-ins

  under_zero : (p e : ℕ) → is_descendant c p e ≡ true → is_descendant c 0 e ≡ true
  under_zero p e h =
      below_under c g.tree 0 e (under_plain c g.tree p e h)
      (below_trans (parent c) 0 p e (way_zero c g.tree p) (under_below c g.tree p e h))

  -- a list of rows under the history's parent
  stand_under : (x : ℕ) (xs : List ℕ) → is_history (kind c x) ≡ true → ((e : ℕ) → mem e xs ≡ true → e < c.rows) →
      ((e : ℕ) → mem e xs ≡ true → is_descendant c (parent c x) e ≡ true) → Forks c xs → is_empty xs ≡ false → Stand c x xs
  stand_under x xs q h u f n =
      record {
        inside = h;
        rooted = λ e m. under_zero (parent c x) e (u e m);
        anchored = λ e m. rw (anchor_parent c g.tree x q) (below_way (parent c) (parent c x) e (under_below c g.tree (parent c x) e (u e m)));
        strict = λ q' e m. under_below c g.tree (parent c x) e (u e m);
        forks = f;
        full = full_mem xs n;
      }

  stand_self : (x : ℕ) → x < c.rows → is_root (kind c x) ≡ false → is_history (kind c x) ≡ false → Stand c x (x ∷ [])
  stand_self zero l r q = absurd (clash _ (root_kind c g.tree) r)
  stand_self (suc x) l r q =
      record {
        inside = λ e m. rw (only e (suc x) m) l;
        rooted = λ e m. rw (only e (suc x) m) (below_under c g.tree 0 (suc x) q (way_zero c g.tree (parent c (suc x))));
        anchored = λ e m. rw (anchor_self c g.tree (suc x) q) (eq_way (parent c) (sym (only e (suc x) m)));
        strict = λ q'. absurd (clash _ q' q);
        forks = alone_forks (suc x);
        full = (suc x, mem_head (suc x) []);
      }

  -- what a history's parent would store is active and below it
  pub stored_facts : (x : ℕ) (conf : List ℕ) (e : ℕ) → mem e (would_store c conf x) ≡ true → (mem e conf ≡ true) × (is_descendant c (parent c x) e ≡ true)
  unfolding would_store atomic_states
  stored_facts x conf e h = go (is_shallow (kind c x)) h
    where
      go : (b : Bool) → mem e (cond b (intersection conf (children c (parent c x))) (intersection (atomic_states c conf) (descendants c (parent c x)))) ≡ true →
          (mem e conf ≡ true) × (is_descendant c (parent c x) e ≡ true)
      go true h =
          let k : (mem e conf && mem e (children c (parent c x))) ≡ true = sym (mem_intersection e conf (children c (parent c x))) ∙ h in
          (and_left (mem e conf) _ k, child_under (parent c x) e (mem_children c g.tree (parent c x) e (and_right (mem e conf) _ k)).1)
      go false h =
          let k : (mem e (atomic_states c conf) && mem e (descendants c (parent c x))) ≡ true = sym (mem_intersection e (atomic_states c conf) (descendants c (parent c x))) ∙ h in (
            (keep_mem (is_atomic c) conf e (and_left (mem e (atomic_states c conf)) _ k)).0,
            (mem_descendants c (parent c x) e (and_right (mem e (atomic_states c conf)) _ k)).1,
          )

  kept_stand : (x : ℕ) (set : List ℕ) → is_history (kind c x) ≡ true → Kept c x set → is_empty set ≡ false → Stand c x set
  kept_stand x set q k n =
      stand_under x set q (λ e m. k.legal.part.inside e (inn e m)) (λ e m. (stored_facts x k.configuration e (rw k.stores m)).1)
      (part_forks c (is_in k.configuration) k.legal.part set (λ a m. live_of (is_in k.configuration) a (inn a m))) n
    where
      inn : (e : ℕ) → mem e set ≡ true → mem e k.configuration ≡ true
      inn e m = (stored_facts x k.configuration e (rw k.stores m)).0

  pub stand : (hist : History) → HistOk c hist → (x : ℕ) → x < c.rows → is_root (kind c x) ≡ false → Stand c x (stand_ins c hist x)
  unfolding stand_ins or_default HistOk is_empty
  stand hist ok x l r =
      bool_case (is_history (kind c x)) (λ q. rw q (go q (hist x) refl)) (λ q. rw q (stand_self x l r q))
    where
      go : is_history (kind c x) ≡ true → (set : List ℕ) → hist x ≡ set → Stand c x (or_default set (listed c x))
      go q [] e =
          stand_under x (listed c x) q (g.is_list_inside x) (default_under x l q)
          (list_forks c g.tree (listed c x) (list_apart x l) (λ e m. under_plain c g.tree (parent c x) e (default_under x l q e m)))
          (default_full x l q)
      go q (s ∷ set) e = rw (← e) (kept_stand x (hist x) q (ok x q (rw e)) (rw e))
