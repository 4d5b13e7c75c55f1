-- The entry set: what a row of it asks for; one pass in document order leaves nothing missing; with the rows that stay it is legal.
use Rattle.std.specs.Prelude.{◌≡◌, Bool, ◌&&◌, ◌||◌, cond, eqb, ltb}
use Rattle.std.proofs.Math.Path.{refl, ap, sym}
use Rattle.std.proofs.Common.{◌∙◌, ⊎_elim, arith}
use Rattle.std.proofs.Math.Bool.{true, false}
use mathlib.Core.List.{List, [], ◌∷◌}
use Prim.Native.Nat.{ℕ, zero, suc, ◌+◌, ◌<◌, ◌≤◌}
use borrow.Author.Tests.{eqb-true, eq-eqb, lt-ltb, ltb-true, ltb-false, not-true}
use Rattle.definition.specs.Rows.{fold, from, with, mem, any, insert, union, meets}
use Rattle.definition.specs.Chart.{Chart, kind, parent, is_root, is_parallel, is_history}
use Rattle.definition.specs.Tree.{ancestors, descendants, is_descendant, is_child, children, is_compound, is_domain_kind}
use Rattle.follower.specs.Microstep.{add_path, paths_below, Entry, has_no_child_in, complete, entry_set}
use Rattle.laws.specs.Bools.{no, clash, or_elim, or_left, or_right, or_false, bool_case, not_so, eq_case, and_left, and_right, and_true}
use Rattle.laws.specs.Sets.{Ascends, mem_those, those_low, mem_insert, mem_one, mem_insert_one, mem_union, mem_intersection, ascends_insert, ascends_union, ascends_intersection}
use Rattle.laws.specs.Lists.{any_true, any_mem, meets_none, none_meets, meets_some}
use Rattle.laws.specs.Passes.{fold_keeps, count-keeps}
use Rattle.laws.specs.Ways.{Way, here, eq_way, up, Below, way_cases, way_trans, below_way, way_le, below_lt, child_way}
use Rattle.accepted.specs.Tree.{Tree, low, not_root, anc_below, below_anc, under_below, under_plain, below_under, child_of, child_facts, children_mem, mem_children, parent_plain, compound_kind}
use Rattle.accepted.specs.Fork.{live, Partial, Legal, Forks, live_up}

-- ---- the rows of a list and their ancestors

-- row j is x or an ancestor of it
abbrev pub is_on_path : Chart → ℕ → ℕ → Bool
is_on_path c j x = eqb j x || mem j (ancestors c x)

module _ (c : Chart) where
  mem_add_paths : (j : ℕ) (set xs : List ℕ) → mem j (fold (add_path c) set xs) ≡ (mem j set || any (is_on_path c j) xs)
  unfolding fold add_path any
  mem_add_paths j set [] = sym (or_false (mem j set))
  mem_add_paths j set (x ∷ xs) =
      mem_add_paths j (union (insert x set) (ancestors c x)) xs ∙
      rw (mem_union j (insert x set) (ancestors c x), mem_insert j x set) (turn (eqb j x) (mem j set) (mem j (ancestors c x)) (any (is_on_path c j) xs))
    where
      turn : (p q r s : Bool) → (((p || q) || r) || s) ≡ (q || ((p || r) || s))
      turn true true r s = refl
      turn true false r s = refl
      turn false true r s = refl
      turn false false r s = refl

  pub mem_paths : (d : ℕ) (xs : List ℕ) (j : ℕ) → mem j (paths_below c d xs) ≡ (any (is_on_path c j) xs && mem j (descendants c d))
  unfolding paths_below mem
  mem_paths d xs j =
      mem_intersection j (fold (add_path c) [] xs) (descendants c d) ∙ ap (λ (b : Bool). b && mem j (descendants c d)) (mem_add_paths j [] xs)

  pub ascends_paths : (d : ℕ) (xs : List ℕ) → Ascends 0 (paths_below c d xs)
  unfolding paths_below add_path
  ascends_paths d xs =
      ascends_intersection (fold (add_path c) [] xs) (descendants c d)
      (fold_keeps (add_path c) (Ascends 0) xs [] (λ x set m a. ascends_union (insert x set) (ancestors c x) (ascends_insert x set a)) tt)

  mem_descendants : (d j : ℕ) → mem j (descendants c d) ≡ (ltb j c.rows && is_descendant c d j)
  unfolding descendants
  mem_descendants d j = mem_those c.rows (is_descendant c d) j

  path_facts : (d : ℕ) (xs : List ℕ) (j : ℕ) → mem j (paths_below c d xs) ≡ true →
      (any (is_on_path c j) xs ≡ true) × (j < c.rows) × (is_descendant c d j ≡ true)
  path_facts d xs j h =
      let k : (any (is_on_path c j) xs && mem j (descendants c d)) ≡ true = sym (mem_paths d xs j) ∙ h in
      let l : (ltb j c.rows && is_descendant c d j) ≡ true = sym (mem_descendants d j) ∙ and_right (any (is_on_path c j) xs) _ k in
      (and_left (any (is_on_path c j) xs) _ k, ltb-true _ _ (and_left (ltb j c.rows) _ l), and_right (ltb j c.rows) _ l)

  -- a row on a path below d is a row of the chart
  pub path_inside : (d : ℕ) (xs : List ℕ) (j : ℕ) → mem j (paths_below c d xs) ≡ true → j < c.rows
  path_inside d xs j h = (path_facts d xs j h).1

  pub path_descends : (d : ℕ) (xs : List ℕ) (j : ℕ) → mem j (paths_below c d xs) ≡ true → is_descendant c d j ≡ true
  path_descends d xs j h = (path_facts d xs j h).2

module _ (c : Chart) (t : Tree c) where
  -- on the way from d to one of the rows
  pub down_facts : (d : ℕ) (xs : List ℕ) (j : ℕ) → mem j (paths_below c d xs) ≡ true →
      (is_descendant c d j ≡ true) × ((x : ℕ) × (mem x xs ≡ true) × Way (parent c) j x)
  down_facts d xs j h = (
    path_descends c d xs j h,
    (let r = any_true (is_on_path c j) xs (path_facts c d xs j h).0 in (
      r.0,
      r.1,
      or_elim (eqb j r.0) (mem j (ancestors c r.0)) (λ e. eq_way (parent c) (eqb-true j r.0 e))
          (λ m. below_way (parent c) j r.0 (anc_below c t j r.0 m)) r.2,
    )),
  )

  pub down_intro : (d : ℕ) (xs : List ℕ) (j x : ℕ) → j < c.rows → is_descendant c d j ≡ true → mem x xs ≡ true → Way (parent c) j x → mem j (paths_below c d xs) ≡ true
  down_intro d xs j x l u m w =
      mem_paths c d xs j ∙
      and_true (any (is_on_path c j) xs) (mem j (descendants c d))
      (any_mem (is_on_path c j) xs x m
      (⊎_elim (λ (e : j ≡ x). or_left (eqb j x) _ (eq-eqb j x e))
      (λ (h : Below (parent c) j x). or_right (eqb j x) _ (below_anc c t j x h)) (way_cases (parent c) w)))
      (mem_descendants c d j ∙ and_true (ltb j c.rows) _ (lt-ltb j c.rows l) u)

  -- a row between one on a path and where the path begins is on it
  pub path_up : (d : ℕ) (xs : List ℕ) (a : ℕ) {j : ℕ} → mem j (paths_below c d xs) ≡ true → Way (parent c) a j → is_descendant c d a ≡ true → mem a (paths_below c d xs) ≡ true
  path_up d xs a {j} h w u =
      let f = down_facts d xs j h in
      down_intro d xs a f.1.0 (omega (arith, way_le (parent c) (low c t) w, path_inside c d xs j h)) u f.1.1 (way_trans (parent c) w f.1.2)

  pub child_after : (i j : ℕ) → mem j (children c i) ≡ true → i < j
  child_after i j n = let f = child_facts c t i j (mem_children c t i j n).1 in omega (arith, f.1, f.2, low c t f.0)

  pub one_parent : (i k j : ℕ) → mem j (children c i) ≡ true → mem j (children c k) ≡ true → i ≡ k
  one_parent i k j m n =
      let f = child_facts c t i j (mem_children c t i j m).1 in
      let g = child_facts c t k j (mem_children c t k j n).1 in
      let e : suc f.0 ≡ suc g.0 = sym f.1 ∙ g.1 in
      sym f.2 ∙ ap (parent c) e ∙ g.2

  pub path_after : (d : ℕ) (xs : List ℕ) (j : ℕ) → mem j (paths_below c d xs) ≡ true → d < j
  path_after d xs j n = below_lt (parent c) (low c t) d j (under_below c t d j (path_descends c d xs j n))

  -- a path that meets a child of row k begins at k or above it
  pub path_parent : (d : ℕ) (xs : List ℕ) (k j : ℕ) → mem j (paths_below c d xs) ≡ true → mem j (children c k) ≡ true → Way (parent c) d k
  path_parent d xs k j n h =
      let f = child_facts c t k j (mem_children c t k j h).1 in
      rw f.2 at (under_below c t d (suc f.0) (rw f.1 at (path_descends c d xs j n)))

-- ---- what a row asks for

pub bare_facts : (c : Chart) (set : List ℕ) (i : ℕ) → has_no_child_in c set i ≡ true → (is_compound c i ≡ true) × (meets (children c i) set ≡ false)
unfolding has_no_child_in
bare_facts c set i h = (and_left (is_compound c i) _ h, not-true _ (and_right (is_compound c i) _ h))

pub bare_intro : (c : Chart) (set : List ℕ) (i : ℕ) → is_compound c i ≡ true → meets (children c i) set ≡ false → has_no_child_in c set i ≡ true
unfolding has_no_child_in
bare_intro c set i q e = rw (q, e)

-- what has no child in a set has none in a part of it
pub bare_less : (c : Chart) (set less : List ℕ) (i : ℕ) → ((j : ℕ) → mem j less ≡ true → mem j set ≡ true) → has_no_child_in c set i ≡ true → has_no_child_in c less i ≡ true
bare_less c set less i f h =
    let k = bare_facts c set i h in
    bare_intro c less i k.0 (none_meets (children c i) less (λ a m n. meets_none (children c i) set k.1 a m (f a n)))

-- row i of the set asks for row j: all children of a parallel, and the initial targets of a compound that has no child in the set,
-- with their ancestors below it
unfoldable pub asks_for : Chart → (ℕ → List ℕ) → List ℕ → ℕ → ℕ → Bool
asks_for c targets set i j =
    mem i set && ((is_parallel (kind c i) && mem j (children c i)) || (has_no_child_in c set i && mem j (paths_below c i (targets i))))

module _ (c : Chart) (targets : ℕ → List ℕ) where
  pub asks-elim {ℓ} : {A : Type ℓ} (set : List ℕ) (i j : ℕ) →
      (mem i set ≡ true → is_parallel (kind c i) ≡ true → mem j (children c i) ≡ true → A) →
      (mem i set ≡ true → has_no_child_in c set i ≡ true → mem j (paths_below c i (targets i)) ≡ true → A) → asks_for c targets set i j ≡ true → A
  unfolding asks_for
  asks-elim set i j f g h =
      let m = and_left (mem i set) _ h in
      or_elim (is_parallel (kind c i) && mem j (children c i)) (has_no_child_in c set i && mem j (paths_below c i (targets i)))
      (λ k. f m (and_left (is_parallel (kind c i)) _ k) (and_right (is_parallel (kind c i)) _ k))
      (λ k. g m (and_left (has_no_child_in c set i) _ k) (and_right (has_no_child_in c set i) _ k)) (and_right (mem i set) _ h)

  pub asks_child : (set : List ℕ) (i j : ℕ) → mem i set ≡ true → is_parallel (kind c i) ≡ true → mem j (children c i) ≡ true → asks_for c targets set i j ≡ true
  unfolding asks_for
  asks_child set i j m p n = rw (m, p, n)

  pub asks_initial : (set : List ℕ) (i j : ℕ) → mem i set ≡ true → has_no_child_in c set i ≡ true → mem j (paths_below c i (targets i)) ≡ true → asks_for c targets set i j ≡ true
  unfolding asks_for
  asks_initial set i j m b n = rw (m, b, n) (or_right (is_parallel (kind c i) && mem j (children c i)) true refl)

  -- the set after row i's turn: what was there and what row i asked for
  pub mem_complete : (e : Entry) (i j : ℕ) → mem j (complete c targets e i).set ≡ (mem j e.set || asks_for c targets e.set i j)
  unfolding complete asks_for
  mem_complete e i j =
      pick (mem i e.set) (is_parallel (kind c i)) (has_no_child_in c e.set i) (λ p. not_so _ (λ b. clash _ p (compound_kind c i (bare_facts c e.set i b).0)))
    where
      pick : (h p b : Bool) → (p ≡ true → b ≡ false) →
          mem j (cond h
          (cond p (record { set = union e.set (children c i); entered_by_default = e.entered_by_default })
          (cond b (record { set = union e.set (paths_below c i (targets i)); entered_by_default = insert i e.entered_by_default }) e))
          e).set ≡
          (mem j e.set || (h && ((p && mem j (children c i)) || (b && mem j (paths_below c i (targets i))))))
      pick false p b f = sym (or_false (mem j e.set))
      pick true true b f = rw (f refl, or_false (mem j (children c i))) (mem_union j e.set (children c i))
      pick true false true f = mem_union j e.set (paths_below c i (targets i))
      pick true false false f = sym (or_false (mem j e.set))

  -- what a row asks for is a row of the chart
  pub asked_inside : (set : List ℕ) (i j : ℕ) → asks_for c targets set i j ≡ true → j < c.rows
  unfolding children
  asked_inside set i j h = asks-elim set i j (λ m p n. those_low c.rows (is_child c i) j n) (λ m b n. path_inside c i (targets i) j n) h

-- ---- the steps by which the entry set grows, in any order

abbrev pub with_child : Entry → ℕ → Entry
with_child e j = record { set = insert j e.set; entered_by_default = e.entered_by_default }

abbrev pub with_targets : Chart → (ℕ → List ℕ) → Entry → ℕ → Entry
with_targets c targets e i = record { set = union e.set (paths_below c i (targets i)); entered_by_default = insert i e.entered_by_default }

-- the set before anything is added to what is aimed at
abbrev pub aimed_at : List ℕ → Entry
aimed_at aim = record { set = aim; entered_by_default = [] }

-- one step: a child of a parallel of the set joins; or, for a compound of the set with no child in it, its initial targets and
-- their ancestors below it
pub data Step (c : Chart) (targets : ℕ → List ℕ) (e : Entry) : Entry → Type 0 where
  child : (i j : ℕ) → mem i e.set ≡ true → is_parallel (kind c i) ≡ true → mem j (children c i) ≡ true → Step c targets e (with_child e j)
  initial : (i : ℕ) → mem i e.set ≡ true → has_no_child_in c e.set i ≡ true → Step c targets e (with_targets c targets e i)

pub data Steps (c : Chart) (targets : ℕ → List ℕ) (e : Entry) : Entry → Type 0 where
  begin : Steps c targets e e
  then : {f g : Entry} → Steps c targets e f → Step c targets f g → Steps c targets e g

module _ (c : Chart) (targets : ℕ → List ℕ) where
  -- what each step keeps
  pub steps-keep {ℓ} : (P : Entry → Type ℓ) → ((e f : Entry) → Step c targets e f → P e → P f) → {e f : Entry} → Steps c targets e f → P e → P f
  steps-keep P h begin p = p
  steps-keep P h (then {f = f} {g = g} s one) p = h f g one (steps-keep P h s p)

  -- a row's turn is such steps
  turn_steps : (a e : Entry) (i : ℕ) → Steps c targets a e → Steps c targets a (complete c targets e i)
  unfolding complete union with
  turn_steps a e i s = pick (mem i e.set) (is_parallel (kind c i)) (has_no_child_in c e.set i) refl refl refl
    where
      pick : (h p b : Bool) → mem i e.set ≡ h → is_parallel (kind c i) ≡ p → has_no_child_in c e.set i ≡ b → Steps c targets a (cond h
          (cond p (record { set = union e.set (children c i); entered_by_default = e.entered_by_default })
          (cond b (record { set = union e.set (paths_below c i (targets i)); entered_by_default = insert i e.entered_by_default }) e))
          e)
      pick false p b m q r = s
      pick true false true m q r = then s (initial i m r)
      pick true false false m q r = s
      pick true true b m q r =
          (fold_keeps with (λ set. (Steps c targets a (record { set = set; entered_by_default = e.entered_by_default })) × (mem i set ≡ true)) (children c i) e.set
          (λ j set n k. (then k.0 (child i j k.1 q n), mem_insert i j set ∙ or_right (eqb i j) (mem i set) k.1))
          (s, m)).0

  -- the entry set is reached from what is aimed at
  pub entry_steps : (aim : List ℕ) → Steps c targets (aimed_at aim) (entry_set c targets aim)
  unfolding entry_set
  entry_steps aim = fold_keeps (complete c targets) (Steps c targets (aimed_at aim)) (from c.rows 0) (aimed_at aim) (λ i e m s. turn_steps (aimed_at aim) e i s) begin

  -- a step's set is what was there and one list more, of rows that a row of the set asks for
  step_sets {ℓ} : (P : List ℕ → Type ℓ) (e f : Entry) →
      ((i : ℕ) (new next : List ℕ) → ((j : ℕ) → mem j next ≡ (mem j e.set || mem j new)) → (Ascends 0 e.set → Ascends 0 next) →
      ((j : ℕ) → mem j new ≡ true → asks_for c targets e.set i j ≡ true) → P next) → Step c targets e f → P f.set
  step_sets P e _ h (child i j m p n) =
      h i (j ∷ []) (insert j e.set) (λ x. mem_insert_one x j e.set) (ascends_insert j e.set)
      (λ x k. rw (mem_one x j k) (asks_child c targets e.set i j m p n))
  step_sets P e _ h (initial i m b) =
      h i (paths_below c i (targets i)) (union e.set (paths_below c i (targets i))) (λ x. mem_union x e.set (paths_below c i (targets i)))
      (ascends_union e.set (paths_below c i (targets i))) (λ x k. asks_initial c targets e.set i x m b k)

  pub step_grows : (e f : Entry) → Step c targets e f → (j : ℕ) → mem j e.set ≡ true → mem j f.set ≡ true
  step_grows e f s j m = step_sets (λ set. mem j set ≡ true) e f (λ i new next q a r. q j ∙ or_left (mem j e.set) (mem j new) m) s

  pub step_ascends : (e f : Entry) → Step c targets e f → Ascends 0 e.set → Ascends 0 f.set
  step_ascends e f s h = step_sets (Ascends 0) e f (λ i new next q a r. a h) s

  pub step_default_ascends : (e f : Entry) → Step c targets e f → Ascends 0 e.entered_by_default → Ascends 0 f.entered_by_default
  step_default_ascends e _ (child i j m p n) a = a
  step_default_ascends e _ (initial i m b) a = ascends_insert i e.entered_by_default a

  pub step_inside : (e f : Entry) → Step c targets e f → ((j : ℕ) → mem j e.set ≡ true → j < c.rows) → (j : ℕ) → mem j f.set ≡ true → j < c.rows
  step_inside e f s h j =
      step_sets (λ set. mem j set ≡ true → j < c.rows) e f
      (λ i new next q a r m. or_elim (mem j e.set) (mem j new) (h j) (λ k. asked_inside c targets e.set i j (r j k)) (sym (q j) ∙ m)) s

  -- what is aimed at is in the entry set
  pub entry_holds : (aim : List ℕ) (j : ℕ) → mem j aim ≡ true → mem j (entry_set c targets aim).set ≡ true
  entry_holds aim j m = steps-keep (λ e. mem j e.set ≡ true) (λ e f s. step_grows e f s j) (entry_steps aim) m

  pub entry_ascends : (aim : List ℕ) → Ascends 0 aim → Ascends 0 (entry_set c targets aim).set
  entry_ascends aim a = steps-keep (λ e. Ascends 0 e.set) step_ascends (entry_steps aim) a

  pub default_ascends : (aim : List ℕ) → Ascends 0 (entry_set c targets aim).entered_by_default
  default_ascends aim = steps-keep (λ e. Ascends 0 e.entered_by_default) step_default_ascends (entry_steps aim) tt

  pub entry_inside : (aim : List ℕ) → ((j : ℕ) → mem j aim ≡ true → j < c.rows) → (j : ℕ) → mem j (entry_set c targets aim).set ≡ true → j < c.rows
  entry_inside aim h = steps-keep (λ e. (j : ℕ) → mem j e.set ≡ true → j < c.rows) step_inside (entry_steps aim) h

-- ---- nothing is missing

-- no row of the set asks for a row that is not in it
pub record Complete (c : Chart) (targets : ℕ → List ℕ) (set : List ℕ) : Type 0 where
  pub at : (i j : ℕ) → asks_for c targets set i j ≡ true → mem j set ≡ true

module _ (c : Chart) (t : Tree c) (targets : ℕ → List ℕ) where
  -- what a row asks for stands after it
  pub asked_after : (set : List ℕ) (i j : ℕ) → asks_for c targets set i j ≡ true → i < j
  asked_after set i j h = asks-elim c targets set i j (λ m p n. child_after c t i j n) (λ m b n. path_after c t i (targets i) j n) h

  -- a row past the last asks for nothing
  asks_inside : (set : List ℕ) (i j : ℕ) → asks_for c targets set i j ≡ true → i < c.rows
  unfolding is_compound
  asks_inside set i j h =
      bool_case (ltb i c.rows) (λ e. ltb-true i c.rows e)
      (λ e. let k = t.beyond_kind i (ltb-false i c.rows e) in
      absurd (asks-elim c targets set i j (λ m p n. no (rw k at p)) (λ m b n. no (rw k at (bare_facts c set i b).0)) h))

  -- later sets ask for less: up to a row whose turn was, nothing is new
  asks_less : (set next : List ℕ) (i j : ℕ) → ((a : ℕ) → mem a set ≡ true → mem a next ≡ true) → (mem i next ≡ true → mem i set ≡ true) →
      asks_for c targets next i j ≡ true → asks_for c targets set i j ≡ true
  asks_less set next i j f g h =
      asks-elim c targets next i j (λ m p n. asks_child c targets set i j (g m) p n) (λ m b n. asks_initial c targets set i j (g m) (bare_less c next set i f b) n) h

  pub nothing_missing : (aim : List ℕ) → Complete c targets (entry_set c targets aim).set
  unfolding entry_set
  nothing_missing aim =
      record { at = λ i j h. count-keeps (complete c targets) Served c.rows 0 (aimed_at aim) turn (λ i j l. absurd (omega arith)) i j (let l = asks_inside _ i j h in omega arith) h }
    where
      Served : ℕ → Entry → Type 0
      Served n e = (i j : ℕ) → i < n → asks_for c targets e.set i j ≡ true → mem j e.set ≡ true

      turn : (n : ℕ) (e : Entry) → 0 ≤ n → n < 0 + c.rows → Served n e → Served (suc n) (complete c targets e n)
      turn n e lo hi s i j l h =
          eq_case i n (λ q. mem_complete c targets e n j ∙ or_right (mem j e.set) _ (rw q at asked)) (λ d. grows j (s i j (omega arith) asked))
        where
          grows : (a : ℕ) → mem a e.set ≡ true → mem a (complete c targets e n).set ≡ true
          grows a m = mem_complete c targets e n a ∙ or_left (mem a e.set) _ m

          asked : asks_for c targets e.set i j ≡ true
          asked =
              asks_less e.set (complete c targets e n).set i j grows
              (λ m. or_elim (mem i e.set) (asks_for c targets e.set n i) (λ k. k) (λ k. absurd (omega (arith, asked_after e.set n i k)))
              (sym (mem_complete c targets e n i) ∙ m)) h

-- ---- what is aimed at, beside what stays

-- the rows may serve as the initial targets of row k: rows of the chart below it, at least one, that part only at parallels
pub record Initial (c : Chart) (k : ℕ) (xs : List ℕ) : Type 0 where
  pub inside : (x : ℕ) → mem x xs ≡ true → x < c.rows
  pub beneath : (x : ℕ) → mem x xs ≡ true → is_descendant c k x ≡ true
  pub forks : Forks c xs
  pub full : (x : ℕ) × (mem x xs ≡ true)

pub live_of : (on : ℕ → Bool) (k : ℕ) → on k ≡ true → live on k ≡ true
live_of on zero h = refl
live_of on (suc k) h = h

pub live_more : (on more : ℕ → Bool) → ((i : ℕ) → on i ≡ true → more i ≡ true) → (k : ℕ) → live on k ≡ true → live more k ≡ true
live_more on more f zero h = refl
live_more on more f (suc k) h = f (suc k) h

module _ (c : Chart) (t : Tree c) where
  pub way_plain : (z : ℕ) {x : ℕ} → Way (parent c) z x → is_history (kind c x) ≡ false → is_history (kind c z) ≡ false
  way_plain z here h = h
  way_plain z (up i w) h = way_plain z w (parent_plain c t i)

  pub compound_of : (k : ℕ) → is_domain_kind c (suc k) ≡ true → is_compound c (suc k) ≡ true
  unfolding is_domain_kind
  compound_of k q = or_elim (is_root (kind c (suc k))) _ (λ e. absurd (clash _ e (not_root c t k))) (λ e. e) q

  pub domain_of_lem : (k : ℕ) → is_compound c k ≡ true → is_domain_kind c k ≡ true
  unfolding is_domain_kind
  domain_of_lem k q = or_right (is_root (kind c k)) _ q

  -- the paths to initial targets begin with a child
  pub first_child : (k : ℕ) (xs : List ℕ) → Initial c k xs → (j : ℕ) × (mem (suc j) (paths_below c k xs) ≡ true) × (parent c (suc j) ≡ k)
  first_child k xs n =
      let x = n.full.0 in
      let u = n.beneath x n.full.1 in
      let z = child_way (parent c) (low c t) k x (under_below c t k x u) in (
        z.0,
        down_intro c t k xs (suc z.0) x (omega (arith, way_le (parent c) (low c t) z.2, n.inside x n.full.1))
            (below_under c t k (suc z.0) (way_plain (suc z.0) z.2 (under_plain c t k x u)) (eq_way (parent c) (sym z.1)))
            n.full.1 z.2,
        z.1,
      )

  module _ {targets : ℕ → List ℕ} (ini : (k : ℕ) → k < c.rows → is_domain_kind c k ≡ true → Initial c k (targets k)) (stay : ℕ → Bool) (stays : Partial c stay) where
    abbrev pub both : List ℕ → ℕ → Bool
    both set j = stay j || mem j set

    -- the invariant of filling
    pub record Inv (set : List ℕ) : Type 0 where
      pub part : Partial c (both set)
      pub new : (i : ℕ) → mem i set ≡ true → stay i ≡ false

    -- no row of the set has what stays below it
    none_below : (set : List ℕ) → Inv set → (i : ℕ) {j : ℕ} → mem i set ≡ true → Way (parent c) i j → live stay j ≡ true → ⊥
    none_below set v zero m w h = clash _ (or_right (stay 0) (mem 0 set) m) v.part.no_root
    none_below set v (suc i) m w h = clash _ (live_up c stay stays (suc i) w h) (v.new (suc i) m)

    -- a row below a row of the set that is in has a child of that row above it in the set
    pub child_in : (set : List ℕ) → Inv set → (i : ℕ) → mem i set ≡ true → (j : ℕ) → both set j ≡ true → Below (parent c) i j →
        (z : ℕ) × (mem (suc z) set ≡ true) × (mem (suc z) (children c i) ≡ true) × Way (parent c) (suc z) j
    child_in set v i m j h b =
        let z = child_way (parent c) (low c t) i j b in
        let on : both set (suc z.0) ≡ true = live_up c (both set) v.part (suc z.0) z.2 (live_of (both set) j h) in (
          z.0,
          or_elim (stay (suc z.0)) (mem (suc z.0) set)
              (λ s. absurd (none_below set v i {j = suc z.0} m (up z.0 (eq_way (parent c) (sym z.1))) s)) (λ n. n) on,
          children_mem c t i (suc z.0) (v.part.inside (suc z.0) on) (rw z.1 at (child_of c t z.0 (v.part.plain (suc z.0) on))),
          z.2,
        )

    -- rows below row i of the set join it
    module _ (set : List ℕ) (v : Inv set) (i : ℕ) (m : mem i set ≡ true) (new next : List ℕ) (eq : (j : ℕ) → mem j next ≡ (mem j set || mem j new)) where
      old_in : (j : ℕ) → both set j ≡ true → both next j ≡ true
      old_in j h = or_elim (stay j) (mem j set) (λ e. or_left (stay j) _ e) (λ e. or_right (stay j) _ (eq j ∙ or_left (mem j set) _ e)) h

      cases {ℓ} : {A : Type ℓ} (j : ℕ) → (both set j ≡ true → A) → (mem j new ≡ true → A) → both next j ≡ true → A
      cases j f g h =
          or_elim (stay j) (mem j next) (λ e. f (or_left (stay j) _ e))
          (λ e. or_elim (mem j set) (mem j new) (λ k. f (or_right (stay j) _ k)) g (sym (eq j) ∙ e)) h

      grown : ((j : ℕ) → mem j new ≡ true → (j < c.rows) × (is_descendant c i j ≡ true)) →
          ((j : ℕ) → mem (suc j) new ≡ true → both next (parent c (suc j)) ≡ true) →
          ((a b : ℕ) → mem (suc a) new ≡ true → both next (suc b) ≡ true → parent c (suc a) ≡ parent c (suc b) → is_parallel (kind c (parent c (suc a))) ≡ false → suc a ≡ suc b) →
          Inv next
      grown d u s =
          record {
            part = record {
              inside = λ j h. cases j (λ o. v.part.inside j o) (λ n. (d j n).0) h;
              plain = λ j h. cases j (λ o. v.part.plain j o) (λ n. under_plain c t i j (d j n).1) h;
              no_root = not_so _ (λ h. cases 0 (λ o. clash _ o v.part.no_root) (λ n. under_below c t i 0 (d 0 n).1) h);
              upward = λ j h. cases (suc j) (λ o. live_more (both set) (both next) old_in (parent c (suc j)) (v.part.upward j o))
                  (λ n. live_of (both next) (parent c (suc j)) (u j n)) h;
              alone = λ a b h k e q. cases (suc a)
                  (λ o. cases (suc b) (λ o'. v.part.alone a b o o' e q) (λ n. sym (s b a n h (sym e) (rw e at q))) k) (λ n. s a b n k e q) h;
            };
            new = λ j h. not_so (stay j) (λ on. or_elim (mem j set) (mem j new) (λ k. clash _ on (v.new j k))
                (λ n. none_below set v i {j = j} m (below_way (parent c) i j (under_below c t i j (d j n).1)) (live_of stay j on)) (sym (eq j) ∙ h));
          }

    child_inv : (set : List ℕ) → Inv set → (i j : ℕ) → mem i set ≡ true → is_parallel (kind c i) ≡ true → mem j (children c i) ≡ true → Inv (insert j set)
    child_inv set v i j m p n =
        grown set v i m (j ∷ []) (insert j set) (λ x. mem_insert_one x j set)
        (λ x k. rw (mem_one x j k) ((mem_children c t i j n).0, below_under c t i j plain below))
        (λ x k. rw (up_to x k) (or_right (stay i) _ (mem_insert_one i j set ∙ or_left (mem i set) _ m)))
        (λ a b k h e q. absurd (clash _ p (rw (up_to a k) at q)))
      where
        f : (k : ℕ) × (j ≡ suc k) × (parent c (suc k) ≡ i) × (is_history (kind c (suc k)) ≡ false)
        f = child_facts c t i j (mem_children c t i j n).1

        plain : is_history (kind c j) ≡ false
        plain = rw f.1 f.3

        below : Below (parent c) i j
        below = rw (f.1, f.2) here

        up_to : (x : ℕ) → mem (suc x) (j ∷ []) ≡ true → parent c (suc x) ≡ i
        up_to x k = let e : suc x ≡ suc f.0 = mem_one (suc x) j k ∙ f.1 in ap (parent c) e ∙ f.2

    initial_inv : (set : List ℕ) → Inv set → (i : ℕ) → i < c.rows → mem i set ≡ true → has_no_child_in c set i ≡ true → Inv (union set (paths_below c i (targets i)))
    initial_inv set v i l m b =
        grown set v i m (paths_below c i (targets i)) (union set (paths_below c i (targets i))) eq
        (λ j n. (path_inside c i (targets i) j n, path_descends c i (targets i) j n)) above
        (λ a k n h e q. cases set v i m (paths_below c i (targets i)) (union set (paths_below c i (targets i))) eq (suc k)
        (λ o. absurd (no_sibling a k n o e))
        (λ n'. let x = down_facts c t i (targets i) (suc a) n in let y = down_facts c t i (targets i) (suc k) n' in
        (ini i l (domain_of_lem i (bare_facts c set i b).0)).forks x.1.0 y.1.0 x.1.1 y.1.1 a k x.1.2 y.1.2 e q) h)
      where
        eq : (j : ℕ) → mem j (union set (paths_below c i (targets i))) ≡ (mem j set || mem j (paths_below c i (targets i)))
        eq j = mem_union j set (paths_below c i (targets i))

        above : (j : ℕ) → mem (suc j) (paths_below c i (targets i)) ≡ true → both (union set (paths_below c i (targets i))) (parent c (suc j)) ≡ true
        above j n =
            or_right (stay (parent c (suc j))) _
            (eq (parent c (suc j)) ∙
            ⊎_elim (λ (e : i ≡ parent c (suc j)). or_left (mem (parent c (suc j)) set) _ (rw (← e) m))
            (λ (w : Below (parent c) i (parent c (suc j))). or_right (mem (parent c (suc j)) set) _
            (path_up c t i (targets i) (parent c (suc j)) n (up j here) (below_under c t i (parent c (suc j)) (parent_plain c t j) w)))
            (way_cases (parent c) (under_below c t i (suc j) (path_descends c i (targets i) (suc j) n))))

        -- a row on the path has no sibling that was in: row i had no child in the set
        no_sibling : (a k : ℕ) → mem (suc a) (paths_below c i (targets i)) ≡ true → both set (suc k) ≡ true → parent c (suc a) ≡ parent c (suc k) → ⊥
        no_sibling a k n o e =
            let z = child_in set v i m (suc k) o (rw (← e) (under_below c t i (suc a) (path_descends c i (targets i) (suc a) n))) in
            meets_none (children c i) set (bare_facts c set i b).1 (suc z.0) z.2 z.1

    pub step_inv : (e f : Entry) → Step c targets e f → Inv e.set → Inv f.set
    step_inv e _ (child i j m p n) v = child_inv e.set v i j m p n
    step_inv e _ (initial i m b) v = initial_inv e.set v i (v.part.inside i (or_right (stay i) _ m)) m b

    pub entering_inv : (aim : List ℕ) → Inv aim → Inv (entry_set c targets aim).set
    entering_inv aim v = steps-keep c targets (λ e. Inv e.set) step_inv (entry_steps c targets aim) v

    -- where nothing is missing, a compound of the set has a child in it
    pub complete_child : (set : List ℕ) → Complete c targets set → (a : ℕ) → a < c.rows → is_compound c a ≡ true → mem a set ≡ true →
        (j : ℕ) × (mem (suc j) set ≡ true) × (parent c (suc j) ≡ a)
    complete_child set f a l q m =
        bool_case (meets (children c a) set)
        (λ e. let r = meets_some (children c a) set e in
        let k = child_facts c t a r.0 (mem_children c t a r.0 r.1).1 in
        (k.0, rw k.1 at r.2, k.2))
        (λ e. let z = first_child a (targets a) (ini a l (domain_of_lem a q)) in
        (z.0, f.at a (suc z.0) (asks_initial c targets set a (suc z.0) m (bare_intro c set a q e) z.1), z.2))

    -- an entered compound has an entered child
    pub compound_full : (aim : List ℕ) (a : ℕ) → a < c.rows → is_compound c a ≡ true → mem a (entry_set c targets aim).set ≡ true →
        (j : ℕ) × (mem (suc j) (entry_set c targets aim).set ≡ true) × (parent c (suc j) ≡ a)
    compound_full aim a l q h = complete_child (entry_set c targets aim).set (nothing_missing c t targets aim) a l q h

    -- all children of an entered parallel are entered
    pub parallel_full : (aim : List ℕ) (a j : ℕ) → a < c.rows → j < c.rows → is_parallel (kind c a) ≡ true → is_child c a j ≡ true →
        mem a (entry_set c targets aim).set ≡ true → mem j (entry_set c targets aim).set ≡ true
    parallel_full aim a j l l' p q h =
        (nothing_missing c t targets aim).at a j (asks_child c targets (entry_set c targets aim).set a j h p (children_mem c t a j l' q))

    aim_in : (aim : List ℕ) (j : ℕ) → both aim j ≡ true → both (entry_set c targets aim).set j ≡ true
    aim_in aim j h = or_elim (stay j) (mem j aim) (λ e. or_left (stay j) _ e) (λ e. or_right (stay j) _ (entry_holds c targets aim j e)) h

    -- what stays has its children, there or among what is aimed at
    pub record Ready (aim : List ℕ) : Type 0 where
      pub inv : Inv aim
      pub any_stay : (k : ℕ) → live stay k ≡ true → is_domain_kind c k ≡ true → (j : ℕ) × (both aim (suc j) ≡ true) × (parent c (suc j) ≡ k)
      pub every_stay : (j : ℕ) → suc j < c.rows → is_history (kind c (suc j)) ≡ false → stay (parent c (suc j)) ≡ true → is_parallel (kind c (parent c (suc j))) ≡ true → stay (suc j) ≡ true

    pub filled_legal : (aim : List ℕ) → Ready aim → Legal c (both (entry_set c targets aim).set)
    filled_legal aim r =
        record {
          part = (entering_inv aim r.inv).part;
          some_child = some_child_lem;
          every_child = λ j l p h q. or_elim (stay (parent c (suc j))) (mem (parent c (suc j)) (entry_set c targets aim).set)
              (λ s. or_left (stay (suc j)) _ (r.every_stay j l p s q))
              (λ m. or_right (stay (suc j)) _ (parallel_full aim (parent c (suc j)) (suc j) (omega (arith, low c t j)) l q (child_of c t j p) m)) h;
        }
      where
        by_stay : (k : ℕ) → live stay k ≡ true → is_domain_kind c k ≡ true → (j : ℕ) × (both (entry_set c targets aim).set (suc j) ≡ true) × (parent c (suc j) ≡ k)
        by_stay k l q = let z = r.any_stay k l q in (z.0, aim_in aim (suc z.0) z.1, z.2)

        some_child_lem : (k : ℕ) → live (both (entry_set c targets aim).set) k ≡ true → is_domain_kind c k ≡ true → (j : ℕ) × (both (entry_set c targets aim).set (suc j) ≡ true) × (parent c (suc j) ≡ k)
        some_child_lem zero l q = by_stay 0 refl q
        some_child_lem (suc k) l q =
            or_elim (stay (suc k)) (mem (suc k) (entry_set c targets aim).set) (λ s. by_stay (suc k) s q)
            (λ m. let z = compound_full aim (suc k) ((entering_inv aim r.inv).part.inside (suc k) l) (compound_of k q) m in
            (z.0, or_right (stay (suc z.0)) _ z.1, z.2)) l
