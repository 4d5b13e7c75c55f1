-- The paths to a set of atomic rows below a row p: which rows stand on them, told from the children of each.
use Rattle.std.specs.Prelude.{◌≡◌, true, false, not, ◌&&◌, ◌||◌, List, ℕ, suc, ◌<◌, eqb}
use Rattle.std.proofs.Common.{sym, ap, ⊎_elim, arith, eqb-true, eq-eqb}
use Rattle.std.proofs.lemmas.Bool.{not-true}
use Rattle.definition.specs.declared.Kind.{Kind}
use Rattle.definition.specs.declared.Kind.TheVariants.{Root, State, Parallel, Final, Shallow, Deep}
use Rattle.definition.specs.Rows.{mem, is_in, any, is_empty}
use Rattle.definition.specs.Chart.{Chart, kind, parent, is_final, is_state, is_history}
use Rattle.definition.specs.Tree.{is_descendant, children, is_atomic}
use Rattle.definition.specs.Rules.{may_stand}
use Rattle.follower.specs.Microstep.{paths_below}
use Rattle.follower.specs.Legal.{is_atomic_below}
use Rattle.laws.specs.Bools.{no, clash, or_elim, or_left, or_right, both_ways, not_so, and_left, and_right, and_true}
use Rattle.laws.specs.Sets.{empty_some}
use Rattle.laws.specs.Lists.{any_true, any_mem, full_mem}
use Rattle.laws.specs.Ways.{Way, here, up, Below, way_cases, below_way}
use Rattle.accepted.specs.Tree.{Tree, stands, under_below, under_plain, below_under, child_facts, mem_children, parent_plain}
use Rattle.accepted.specs.Sound.{Sound}
use Rattle.theory.specs.Entry.{down_facts, down_intro, path_up, path_after, path_parent}
use Rattle.theory.specs.DefaultBlocks.{path_child}

final_alone : (k l : Kind) → is_final k ≡ true → may_stand k l ≡ true → ⊥
unfolding may_stand
final_alone Root l f h = no f
final_alone State l f h = no f
final_alone Parallel l f h = no f
final_alone Final l f h = no h
final_alone Shallow l f h = no f
final_alone Deep l f h = no f

module _ (c : Chart) (g : Sound c) where
  abbrev t : Tree c
  t = g.tree

  -- an atomic row has no child
  pub atomic_alone : (r w : ℕ) → is_atomic c r ≡ true → mem w (children c r) ≡ true → ⊥
  unfolding is_atomic
  atomic_alone r w a m =
      or_elim (is_final (kind c r)) (is_state (kind c r) && is_empty (children c r))
      (λ f. let k = child_facts c t r w (mem_children c t r w m).1 in final_alone (kind c r) (kind c (suc k.0)) f (rw k.2 at (stands c t k.0)))
      (λ f. clash _ (and_right (is_state (kind c r)) _ f) (empty_some (children c r) w m)) a

  -- the parent of a child is no history, and stands on the way to it
  child_up : (r j : ℕ) → mem j (children c r) ≡ true → (is_history (kind c r) ≡ false) × Way (parent c) r j
  child_up r j m =
      let k = child_facts c t r j (mem_children c t r j m).1 in
      (rw k.2 at (parent_plain c t k.0), rw k.1 (up k.0 (rw k.2 here)))

  module _ (p : ℕ) (set : List ℕ) (inside : (x : ℕ) → mem x set ≡ true → x < c.rows) (each : (x : ℕ) → mem x set ≡ true → is_atomic_below c p x ≡ true) where
    abbrev paths : List ℕ
    paths = paths_below c p set

    under : (x : ℕ) → mem x set ≡ true → is_descendant c p x ≡ true
    unfolding is_atomic_below
    under x m = and_left (is_descendant c p x) _ (each x m)

    atomic : (x : ℕ) → mem x set ≡ true → is_atomic c x ≡ true
    unfolding is_atomic_below
    atomic x m = and_right (is_descendant c p x) _ (each x m)

    -- a row between p and one of the set has a child on the paths
    next_child : (r x : ℕ) → mem x set ≡ true → Way (parent c) p r → Below (parent c) r x → any (is_in paths) (children c r) ≡ true
    next_child r x m w b =
        let k = path_child c g p set r x m (inside x m) (under_plain c t p x (under x m)) w b in
        any_mem (is_in paths) (children c r) k.0 k.1 k.2

    pub top_child : (x : ℕ) → mem x set ≡ true → any (is_in paths) (children c p) ≡ true
    top_child x m = next_child p x m here (under_below c t p x (under x m))

    -- a row on the paths is of the set, or has a child on them
    on_paths : (r : ℕ) → mem r paths ≡ true → (mem r set || any (is_in paths) (children c r)) ≡ true
    on_paths r h =
        let f = down_facts c t p set r h in
        ⊎_elim (λ (e : r ≡ f.1.0). or_left (mem r set) _ (rw e f.1.1))
        (λ (b : Below (parent c) r f.1.0). or_right (mem r set) _ (next_child r f.1.0 f.1.1 (below_way (parent c) p r (under_below c t p r f.0)) b))
        (way_cases (parent c) f.1.2)

    -- a row of the set has no children, so that there is one on the paths where a row on them has any
    pub inner_child : (r : ℕ) → is_empty (children c r) ≡ false → mem r paths ≡ true → any (is_in paths) (children c r) ≡ true
    inner_child r k h =
        let w = full_mem (children c r) k in
        or_elim (mem r set) (any (is_in paths) (children c r)) (λ m. absurd (atomic_alone r w.0 (atomic r m) w.1)) (λ e. e) (on_paths r h)

    -- what has a child on the paths is on them, or p
    pub outer {ℓ} : {A : Type ℓ} (r : ℕ) → any (is_in paths) (children c r) ≡ true → (r ≡ p → A) → (mem r paths ≡ true → A) → A
    outer r h f k =
        let w = any_true (is_in paths) (children c r) h in
        let u = child_up r w.0 w.1 in
        ⊎_elim (λ (e : p ≡ r). f (sym e)) (λ (b : Below (parent c) p r). k (path_up c t p set r w.2 u.1 (below_under c t p r u.0 b)))
        (way_cases (parent c) (path_parent c t p set r w.0 w.2 w.1))

    -- a row without children is on the paths if it is of the set; it is not p
    pub bare_path : (x r : ℕ) → mem x set ≡ true → r < c.rows → is_empty (children c r) ≡ true → (mem r set || eqb r p) ≡ mem r paths
    bare_path x r m l k =
        both_ways (mem r set || eqb r p) (mem r paths)
        (or_elim (mem r set) (eqb r p) (λ n. down_intro c t p set r r l (under r n) n here)
        (λ e. let w = any_true (is_in paths) (children c p) (top_child x m) in absurd (clash _ k (empty_some (children c r) w.0 (rw (eqb-true r p e) w.1)))))
        (λ h. or_elim (mem r set) (any (is_in paths) (children c r)) (λ n. or_left (mem r set) _ n)
        (λ e. let w = any_true (is_in paths) (children c r) e in absurd (clash _ k (empty_some (children c r) w.0 w.1))) (on_paths r h))

    -- one that has children is on them if a child is, and it is not p
    pub inner_path : (r : ℕ) → is_empty (children c r) ≡ false → (any (is_in paths) (children c r) && not (mem r set || eqb r p)) ≡ mem r paths
    inner_path r k =
        let w = full_mem (children c r) k in
        both_ways (any (is_in paths) (children c r) && not (mem r set || eqb r p)) (mem r paths)
        (λ h. outer r (and_left (any (is_in paths) (children c r)) _ h)
        (λ e. absurd (clash _ (or_right (mem r set) (eqb r p) (eq-eqb r p e)) (not-true _ (and_right (any (is_in paths) (children c r)) _ h)))) (λ m. m))
        (λ h. and_true (any (is_in paths) (children c r)) _ (inner_child r k h)
        (ap not (not_so (mem r set || eqb r p)
        (or_elim (mem r set) (eqb r p) (λ m. atomic_alone r w.0 (atomic r m) w.1)
        (λ e. let q = eqb-true r p e in omega (arith, path_after c t p set r h))))))
