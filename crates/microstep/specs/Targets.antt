-- The entry set's targets: paths, effective targets and fallen histories hang on the members and on what is stored for the targets alone.
use Rattle.std.specs.Prelude.{◌≡◌, refl, Bool, true, false, not, ◌&&◌, ◌||◌, cond, ℕ, zero, suc, ◌<◌, eqb, length, get_or}
use Rattle.std.proofs.Math.Path.{ap, sym}
use Rattle.std.proofs.Common.{◌∙◌}
use mathlib.Core.List.{List, [], ◌∷◌}
use native.Mathlib.Omega.{arith}
use borrow.Author.Tests.{eqb-true, eq-eqb}
use Rattle.definition.specs.Rows.{fold, keep, any, mem, is_empty, insert, union, with}
use Rattle.definition.specs.Chart.{Chart, Transition, kind, parent, is_root, is_history}
use Rattle.definition.specs.Tree.{ancestors, is_descendant, descendants, listed, default_targets, anchor, anchors}
use Rattle.follower.specs.Selection.{History, or_default, stand_ins, add_stand_ins, resolved, effective_targets, domain}
use Rattle.follower.specs.Microstep.{paths_below, add_targets, targeted, fell_to_default, add_fallen, fallen}
use Rattle.laws.specs.Bools.{no, clash, not_so, or_left, or_right, or_elim, or_false, and_left, and_right, and_true, both_ways}
use Rattle.laws.specs.Sets.{ascends_ext, mem_union, mem_one}
use Rattle.laws.specs.Lists.{keep_cong}
use Rattle.laws.specs.Folds.{fold_same, fold_kept, any_same}
use Rattle.accepted.specs.Sound.{Sound, mem_descendants, descendants_mem}
use Rattle.theory.specs.Accepted.{target_not_root}
use Rattle.accepted.specs.Tree.{root_kind, low, ancestors_on, ancestor_low}
use Rattle.theory.specs.Domain.{effective_of}
use Rattle.theory.specs.Entry.{is_on_path, mem_paths, ascends_paths}
use Rattle.chart.specs.Inside.{default_inside, anchors_inside}
use Rattle.chart.specs.Within.{Within}
use Rattle.matching.specs.Histories.{is_history_row}
use Rattle.selection.specs.FixedDomains.{has_fixed_targets, FixedDomain, none_history, anchors_stand, fixed_targets, fixed_is_domain}

-- the order of the list does not matter
pub paths_same : (c : Chart) (d : ℕ) (xs ys : List ℕ) → ((a : ℕ) → mem a xs ≡ mem a ys) → paths_below c d xs ≡ paths_below c d ys
paths_same c d xs ys h =
    ascends_ext 0 0 (paths_below c d xs) (paths_below c d ys) (ascends_paths c d xs) (ascends_paths c d ys)
    (λ j. mem_paths c d xs j ∙ ap (λ (b : Bool). b && mem j (descendants c d)) (any_same (is_on_path c j) xs ys h) ∙ sym (mem_paths c d ys j))

-- a list that was made a set
pub paths_set : (c : Chart) (d : ℕ) (xs : List ℕ) → paths_below c d (union [] xs) ≡ paths_below c d xs
unfolding mem
paths_set c d xs = paths_same c d (union [] xs) xs (λ a. mem_union a [] xs)

-- ---- two histories that agree on the targets of a transition

module _ (c : Chart) (before after : History) where
  pub effective_same : (t : Transition) → ((x : ℕ) → mem x t.targets ≡ true → before x ≡ after x) → effective_targets c before t ≡ effective_targets c after t
  unfolding effective_targets resolved add_stand_ins stand_ins
  effective_same t h = fold_same (add_stand_ins c before) (add_stand_ins c after) t.targets [] (λ x set m. rw (h x m))

  pub fell_same : (t : Transition) → ((x : ℕ) → mem x t.targets ≡ true → before x ≡ after x) → keep (fell_to_default c before) t.targets ≡ keep (fell_to_default c after) t.targets
  unfolding fell_to_default
  fell_same t h = keep_cong (fell_to_default c before) (fell_to_default c after) t.targets (λ x m. rw (h x m))

-- a function that agrees with the stored history after the exits on the targets of the transitions
module _ (c : Chart) (before after other : History) (ts : List ℕ) (agree : (t x : ℕ) → mem t ts ≡ true → mem x (c.transition t).targets ≡ true → after x ≡ other x) where
  pub targeted_same : targeted c before after ts ≡ targeted c before other ts
  unfolding targeted add_targets
  targeted_same =
      fold_same (add_targets c before after) (add_targets c before other) ts []
      (λ t set m. rw (effective_same c after other (c.transition t) (λ x n. agree t x m n)))

  pub fallen_same : fallen c after ts ≡ fallen c other ts
  unfolding fallen add_fallen
  fallen_same = fold_same (add_fallen c after) (add_fallen c other) ts [] (λ t set m. rw (fell_same c after other (c.transition t) (λ x n. agree t x m n)))

-- the fallen histories of one transition, target by target
unfoldable pub add_fell : Chart → History → List ℕ → ℕ → List ℕ
add_fell c after set x = cond (fell_to_default c after x) (insert x set) set

pub fell_pass : (c : Chart) (after : History) (set : List ℕ) (t : ℕ) → fold (add_fell c after) set (c.transition t).targets ≡ add_fallen c after set t
unfolding add_fallen add_fell
fell_pass c after set t = fold_kept (fell_to_default c after) (add_fell c after) (λ s x. refl) set (c.transition t).targets

module _ (c : Chart) (after : History) (set : List ℕ) (x : ℕ) where
  pub fell_in : is_history (kind c x) ≡ true → is_empty (after x) ≡ true → insert x set ≡ add_fell c after set x
  unfolding add_fell fell_to_default
  fell_in h e = rw (h, e)

  pub fell_stored : is_history (kind c x) ≡ true → is_empty (after x) ≡ false → set ≡ add_fell c after set x
  unfolding add_fell fell_to_default
  fell_stored h e = rw (h, e)

  pub fell_plain : is_history (kind c x) ≡ false → set ≡ add_fell c after set x
  unfolding add_fell fell_to_default
  fell_plain h = rw h

-- ---- a transition whose domain is fixed has no history among its targets

none_fell : (c : Chart) (after : History) (xs : List ℕ) → any (is_history_row c) xs ≡ false → keep (fell_to_default c after) xs ≡ []
unfolding any is_history_row fell_to_default
none_fell c after [] h = refl
none_fell c after (x ∷ xs) h =
    let p : is_history (kind c x) ≡ false = not_so (is_history (kind c x)) (λ e. no (sym h ∙ or_left (is_history (kind c x)) (any (is_history_row c) xs) e)) in
    let q : any (is_history_row c) xs ≡ false = not_so (any (is_history_row c) xs) (λ e. no (sym h ∙ or_right (is_history (kind c x)) (any (is_history_row c) xs) e)) in
    rw p (none_fell c after xs q)

module _ (c : Chart) (before after : History) (set : List ℕ) (t d : ℕ) (r : FixedDomain c t d) (known : d < 256) where
  pub fixed_fallen : set ≡ add_fallen c after set t
  unfolding add_fallen union fold
  fixed_fallen = rw (none_fell c after (c.transition t).targets (none_history c after t (fixed_targets c after t d r known)))

  pub fixed_anchors : (to : List ℕ) → to ≡ anchors c t → to ≡ effective_targets c after (c.transition t)
  fixed_anchors to e = e ∙ sym (anchors_stand c after t (fixed_targets c after t d r known))

  pub fixed_aim : (to paths all : List ℕ) → to ≡ anchors c t → paths ≡ paths_below c d to → all ≡ union set paths → all ≡ add_targets c before after set t
  unfolding add_targets
  fixed_aim to paths all e f h = h ∙ ap (union set) (f ∙ ap (paths_below c d) (fixed_anchors to e) ∙ ap (λ (a : ℕ). paths_below c a (effective_targets c after (c.transition t))) (fixed_is_domain c before t d r known))

-- ---- a transition whose only target is a child of its domain aims at that child alone

module _ (c : Chart) (g : Sound c) (t x d : ℕ) (l : t < c.transitions) (p : has_fixed_targets c t ≡ true) (e : (c.transition t).targets ≡ x ∷ []) (q : parent c x ≡ d) where
  among : mem x (c.transition t).targets ≡ true
  unfolding mem
  among = rw (e, eq-eqb x x refl)

  plain : is_history (kind c x) ≡ false
  unfolding any is_history_row
  plain = not_so (is_history (kind c x)) (λ h. no (sym (none_history c (λ i. []) t p) ∙ rw (e, h)))

  later : d < x
  later = go x (target_not_root c g t l x among) q
    where
      go : (y : ℕ) → is_root (kind c y) ≡ false → parent c y ≡ d → d < y
      go zero h r = absurd (clash _ (root_kind c g.tree) h)
      go (suc i) h r = let k = low c g.tree i in omega arith

  only_anchor : anchors c t ≡ x ∷ []
  unfolding anchors union fold with insert anchor
  only_anchor = rw (e, plain)

  above : ancestors c x ≡ d ∷ ancestors c d
  above = ancestors_on c x (let k = later in omega arith) ∙ rw q

  -- what is on the way to the child and below the domain
  on_way : (j : ℕ) → (eqb j x || mem j (ancestors c x)) ≡ true → mem j (descendants c d) ≡ true → eqb j x ≡ true
  unfolding is_descendant mem
  on_way j m n =
      or_elim (eqb j x) (mem j (ancestors c x)) (λ h. h) (λ h. absurd (not_above (rw above at h))) m
    where
      under : d < j
      under = ancestor_low c j d (and_right (not (is_history (kind c j))) _ (mem_descendants c d j n).1)

      not_above : mem j (d ∷ ancestors c d) ≡ true → ⊥
      not_above h = or_elim (eqb j d) (mem j (ancestors c d)) (λ r. let s = eqb-true j d r in let u = under in omega arith) (λ r. let s = ancestor_low c d j r in let u = under in omega arith) h

  child_below : mem x (descendants c d) ≡ true
  unfolding is_descendant mem
  child_below = descendants_mem c d x (g.target_inside t l x among) (rw (plain, above, eq-eqb d d refl))

  child_alone : x ∷ [] ≡ paths_below c d (anchors c t)
  unfolding any mem
  child_alone =
      sym (ap (paths_below c d) only_anchor ∙
      ascends_ext 0 0 (paths_below c d (x ∷ [])) (x ∷ []) (ascends_paths c d (x ∷ [])) (omega arith, tt)
      (λ j. mem_paths c d (x ∷ []) j ∙ same_members j))
    where
      same_members : (j : ℕ) → (any (is_on_path c j) (x ∷ []) && mem j (descendants c d)) ≡ mem j (x ∷ [])
      same_members j =
          rw (or_false (eqb j x || mem j (ancestors c x)), or_false (eqb j x))
          (both_ways ((eqb j x || mem j (ancestors c x)) && mem j (descendants c d)) (eqb j x)
          (λ h. on_way j (and_left _ _ h) (and_right (eqb j x || mem j (ancestors c x)) _ h))
          (λ h. and_true (eqb j x || mem j (ancestors c x)) (mem j (descendants c d)) (or_left (eqb j x) _ h) (rw (eqb-true j x h) child_below)))

only_one : (l : List ℕ) (x : ℕ) → length l ≡ 1 → x ≡ get_or l 0 0 → l ≡ x ∷ []
only_one [] x h e = absurd (omega arith)
only_one (y ∷ []) x h e = ap (λ (z : ℕ). z ∷ []) (sym e)
only_one (y ∷ z ∷ l) x h e = absurd (omega arith)

-- as the code finds it: a list of one target, and its parent
pub child_aim : (c : Chart) → Sound c → (t x d : ℕ) → t < c.transitions → has_fixed_targets c t ≡ true → (targets : List ℕ) → targets ≡ (c.transition t).targets →
    length targets ≡ 1 → x ≡ get_or targets 0 0 → (p : ℕ) → p ≡ parent c x → p ≡ d → (set : List ℕ) → set ≡ x ∷ [] → set ≡ paths_below c d (anchors c t)
child_aim c g t x d l h targets e n v p q r set s = s ∙ child_alone c g t x d l h (sym e ∙ only_one targets x n v) (sym q ∙ r)

pub anchors_within : (c : Chart) → Sound c → (t : ℕ) → t < c.transitions → (to : List ℕ) → to ≡ anchors c t → Within c.rows to
anchors_within c g t l to e = record { at = λ a m. anchors_inside c g t l a (sym (ap (mem a) e) ∙ m) }

-- ---- what is aimed at lies inside the chart

default_rows : (P : ℕ → Type 0) (xs default : List ℕ) → ((e : ℕ) → mem e xs ≡ true → P e) → ((e : ℕ) → mem e default ≡ true → P e) → (e : ℕ) → mem e (or_default xs default) ≡ true → P e
unfolding or_default
default_rows P [] default f g = g
default_rows P (x ∷ xs) default f g = f

-- what stands in for a row
pub stand_ins_within : (c : Chart) → Sound c → (hist : History) → ((h : ℕ) → h < c.rows → Within c.rows (hist h)) → (x : ℕ) → x < c.rows → (e : ℕ) → mem e (stand_ins c hist x) ≡ true → e < c.rows
unfolding stand_ins
stand_ins_within c g hist w x k e m = go (is_history (kind c x)) m
  where
    go : (b : Bool) → mem e (cond b (or_default (hist x) (listed c x)) (x ∷ [])) ≡ true → e < c.rows
    go true m = default_rows (λ i. i < c.rows) (hist x) (listed c x) (w x k).at (g.is_list_inside x) e m
    go false m = rw (mem_one e x m) k

pub effective_within : (c : Chart) → Sound c → (hist : History) → ((h : ℕ) → h < c.rows → Within c.rows (hist h)) → (t : ℕ) → t < c.transitions → (to : List ℕ) →
    to ≡ effective_targets c hist (c.transition t) → Within c.rows to
effective_within c g hist w t l to q = record {
  at = λ e m. let x = effective_of c hist t e (sym (ap (mem e) q) ∙ m) in stand_ins_within c g hist w x.0 (g.target_inside t l x.0 x.1) e x.2;
}

pub default_within : (c : Chart) → Sound c → (i : ℕ) → i < c.rows → (xs : List ℕ) → xs ≡ union [] (default_targets c i) → Within c.rows xs
unfolding mem
default_within c g i l xs e = record { at = λ a m. default_inside c g i l a (sym (ap (mem a) e ∙ mem_union a [] (default_targets c i)) ∙ m) }

-- one transition's targets more
pub targets_added : (c : Chart) (before after : History) (set : List ℕ) (t d : ℕ) (to paths all : List ℕ) → all ≡ union set paths → paths ≡ paths_below c d to →
    d ≡ domain c before (c.transition t) → to ≡ effective_targets c after (c.transition t) → all ≡ add_targets c before after set t
unfolding add_targets
targets_added c before after set t d to paths all e f g h = e ∙ rw (f, g, h)
