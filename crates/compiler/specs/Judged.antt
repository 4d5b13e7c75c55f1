-- The columns judged where they lie: the set of a row against those of its parent or its children, which are judged too.
use Rattle.std.specs.Prelude.{◌≡◌, Bool, false, ◌&&◌, ◌||◌, ℕ, zero, suc, ◌+◌, ◌*◌, ◌≤◌, ◌<◌, eqb, ltb, length}
use Rattle.std.proofs.Math.Path.{refl, sym, ap}
use Rattle.std.proofs.Common.{◌∙◌, ⊎_elim, arith, eqb-true, eq-eqb, lt-ltb, ltb-true}
use Rattle.std.proofs.Math.Bool.{true}
use mathlib.Core.List.{List, [], ◌∷◌}
use Rattle.definition.specs.Rows.{from, all, any, mem, is_empty, same, insert, union, fold}
use Rattle.definition.specs.Chart.{Chart, kind, parent, is_history}
use Rattle.definition.specs.Tables.{row_count, chart_of}
use Rattle.definition.specs.Tree.{ancestors, is_descendant, is_child, descendants, children, default_targets, anchors}
use Rattle.laws.specs.Bools.{or_false, both_ways, bool_case, and_left, and_right, and_true, or_left, or_right, or_elim}
use Rattle.laws.specs.Sets.{Ascends, ascends_ext, ascends_union, ascends_those, mem_insert, mem_union, mem_those}
use Rattle.laws.specs.Lists.{any_true, any_mem, all_mem, mem_all, same_eq, same_self, empty_list}
use Rattle.laws.specs.Loops.{each_below, below_each}
use Rattle.laws.specs.Passes.{fold_keeps}
use Rattle.laws.specs.Ways.{Below, eq_way, below_way, below_trans, way_cases, way_le, child_way, from_parent}
use Rattle.accepted.specs.Tree.{Tree, low, climb_one, below_anc, under_below, under_plain, below_under, child_of, child_facts, children_mem, mem_children}
use Rattle.rowset.specs.Member.{rows_of}
use Rattle.rowset.specs.Rows.{ascends_rows}
use Rattle.chart.specs.Ready.{row_set_at}
use Rattle.rules3.specs.Parents.{TreeIn}
use Rattle.rules3.specs.Ancestry.{insert_union}
use Rattle.compiler.specs.Compilable.{Compilable}
use Rattle.compiler.specs.Downward.{ancestor_plain}

-- the rows of set i of a column
unfoldable pub rows_in : List ℕ → ℕ → List ℕ
rows_in sets i = rows_of (row_set_at sets (i * 4))

-- the parent and its ancestors
unfoldable pub is_above : Chart → List ℕ → ℕ → Bool
is_above c sets zero = is_empty (rows_in sets 0)
is_above c sets (suc i) = same (rows_in sets (suc i)) (insert (parent c (suc i)) (rows_in sets (parent c (suc i))))

-- a row that is no history is among its parent's children
unfoldable pub is_joined : Chart → List ℕ → ℕ → Bool
is_joined c kids zero = true
is_joined c kids (suc i) = is_history (kind c (suc i)) || mem (suc i) (rows_in kids (parent c (suc i)))

-- x is a row of the chart, and a child of p
unfoldable pub is_child_row : Chart → ℕ → ℕ → Bool
is_child_row c p x = ltb x c.rows && is_child c p x

-- a set with row r and those below it
unfoldable pub with_below : List ℕ → List ℕ → ℕ → List ℕ
with_below below set r = union set (insert r (rows_in below r))

-- all that the children have below them, and the children
unfoldable pub is_down : Chart → List ℕ → List ℕ → ℕ → Bool
is_down c below kids p = all (is_child_row c p) (rows_in kids p) && same (rows_in below p) (fold (with_below below) [] (rows_in kids p))

unfoldable pub is_aimed : Chart → List ℕ → ℕ → Bool
is_aimed c targets i = same (rows_in targets i) (union [] (default_targets c i))

unfoldable pub is_anchored : Chart → List ℕ → ℕ → Bool
is_anchored c sets t = same (rows_in sets t) (anchors c t)

-- rows in a tree, and room for a set of each
pub record TreeRoom (numbers sets : List ℕ) : Type 0 where
  pub tree : TreeIn numbers
  pub room : row_count numbers * 4 ≤ length sets

-- a column of the ancestors, judged
pub record AboveKnown (numbers sets : List ℕ) : Type 0 where
  pub are : all (is_above (chart_of numbers) sets) (from (row_count numbers) 0) ≡ true

-- a column of the children, judged
pub record KidsKnown (numbers kids : List ℕ) : Type 0 where
  pub numbers_keep : Compilable numbers
  pub room : row_count numbers * 4 ≤ length kids
  pub are : (p : ℕ) → p < row_count numbers → rows_in kids p ≡ children (chart_of numbers) p

ascends_in : (sets : List ℕ) (i : ℕ) → Ascends 0 (rows_in sets i)
unfolding rows_in
ascends_in sets i = ascends_rows (row_set_at sets (i * 4))

same_is : (xs ys : List ℕ) → xs ≡ ys → same xs ys ≡ true
same_is xs ys e = ap (same xs) (sym e) ∙ same_self xs

module _ (c : Chart) (t : Tree c) where
  -- ---- ancestors

  pub above_are : (sets : List ℕ) → all (is_above c sets) (from c.rows 0) ≡ true → (i : ℕ) → i < c.rows → rows_in sets i ≡ union [] (ancestors c i)
  unfolding is_above ancestors union fold
  above_are sets h =
      from_parent (parent c) (low c t) (λ i. i < c.rows → rows_in sets i ≡ union [] (ancestors c i))
      (λ l. empty_list (rows_in sets 0) (each_below (is_above c sets) c.rows h 0 l))
      (λ i q l. let p = low c t i in
      same_eq (rows_in sets (suc i)) (insert (parent c (suc i)) (rows_in sets (parent c (suc i)))) (each_below (is_above c sets) c.rows h (suc i) l) ∙
      ap (insert (parent c (suc i))) (q (omega arith)) ∙ insert_union (parent c (suc i)) (ancestors c (parent c (suc i))) ∙ ap (union []) (sym (climb_one c t i)))

  first_above : (sets : List ℕ) → rows_in sets 0 ≡ union [] (ancestors c 0) → is_above c sets 0 ≡ true
  unfolding is_above ancestors union fold is_empty
  first_above sets e = rw e

  pub are_above : (sets : List ℕ) → ((i : ℕ) → i < c.rows → rows_in sets i ≡ union [] (ancestors c i)) → all (is_above c sets) (from c.rows 0) ≡ true
  are_above sets h = below_each (is_above c sets) c.rows go
    where
      go : (i : ℕ) → i < c.rows → is_above c sets i ≡ true
      go zero l = first_above sets (h 0 l)
      go (suc i) l =
          let p = low c t i in
          unfold is_above in
          same_is (rows_in sets (suc i)) (insert (parent c (suc i)) (rows_in sets (parent c (suc i))))
          (h (suc i) l ∙ ap (union []) (climb_one c t i) ∙ sym (ap (insert (parent c (suc i))) (h (parent c (suc i)) (omega arith)) ∙ insert_union (parent c (suc i)) (ancestors c (parent c (suc i)))))

  -- ---- children

  module _ (kids : List ℕ) where
    joined_in : (i : ℕ) → is_joined c kids (suc i) ≡ true → is_history (kind c (suc i)) ≡ false → mem (suc i) (rows_in kids (parent c (suc i))) ≡ true
    unfolding is_joined
    joined_in i h p = rw p at h

    pub kids_are : all (is_joined c kids) (from c.rows 0) ≡ true → (p : ℕ) → all (is_child_row c p) (rows_in kids p) ≡ true → rows_in kids p ≡ children c p
    kids_are h p g =
        ascends_ext 0 0 (rows_in kids p) (children c p) (ascends_in kids p) (unfold children in ascends_those c.rows (is_child c p))
        (λ x. both_ways (mem x (rows_in kids p)) (mem x (children c p))
        (λ m. unfold is_child_row in
        let k : (ltb x c.rows && is_child c p x) ≡ true = all_mem (is_child_row c p) (rows_in kids p) g x m in
        children_mem c t p x (ltb-true _ _ (and_left (ltb x c.rows) _ k)) (and_right (ltb x c.rows) _ k))
        (λ m. let f = mem_children c t p x m in
        let g = child_facts c t p x f.1 in
        let k : mem (suc g.0) (rows_in kids (parent c (suc g.0))) ≡ true =
        joined_in g.0 (each_below (is_joined c kids) c.rows h (suc g.0) (rw (← g.1) f.0)) g.3 in
        rw g.1 (rw g.2 at k)))

    pub are_joined : ((p : ℕ) → p < c.rows → rows_in kids p ≡ children c p) → all (is_joined c kids) (from c.rows 0) ≡ true
    are_joined h = below_each (is_joined c kids) c.rows go
      where
        go : (i : ℕ) → i < c.rows → is_joined c kids i ≡ true
        go zero l = unfold is_joined in refl
        go (suc i) l =
            let p = low c t i in
            unfold is_joined in
            bool_case (is_history (kind c (suc i))) (λ e. rw e)
            (λ e. or_right (is_history (kind c (suc i))) _ (ap (mem (suc i)) (h (parent c (suc i)) (omega arith)) ∙ children_mem c t (parent c (suc i)) (suc i) l (child_of c t i e)))

    pub are_rows : (p : ℕ) → rows_in kids p ≡ children c p → all (is_child_row c p) (rows_in kids p) ≡ true
    are_rows p e =
        rw e (mem_all (is_child_row c p) (children c p) (λ x m. unfold is_child_row in let f = mem_children c t p x m in and_true (ltb x c.rows) _ (lt-ltb x c.rows f.0) f.1))

  -- ---- descendants: the children, and what they have below them

  mem_below : (a x : ℕ) → x < c.rows → is_descendant c a x ≡ true → mem x (descendants c a) ≡ true
  unfolding descendants
  mem_below a x l d = mem_those c.rows (is_descendant c a) x ∙ and_true (ltb x c.rows) _ (lt-ltb x c.rows l) d

  below_mem : (a x : ℕ) → mem x (descendants c a) ≡ true → (x < c.rows) × (is_descendant c a x ≡ true)
  unfolding descendants
  below_mem a x m =
      let k : (ltb x c.rows && is_descendant c a x) ≡ true = sym (mem_those c.rows (is_descendant c a) x) ∙ m in
      (ltb-true _ _ (and_left (ltb x c.rows) _ k), and_right (ltb x c.rows) _ k)

  module _ (below : List ℕ) where
    -- x is r, or below it
    abbrev is_under : ℕ → ℕ → Bool
    is_under x r = eqb x r || mem x (rows_in below r)

    group : (a b d : Bool) → ((a || b) || d) ≡ (a || (b || d))
    group true b d = refl
    group false b d = refl

    mem_fold : (x : ℕ) (set rs : List ℕ) → mem x (fold (with_below below) set rs) ≡ (mem x set || any (is_under x) rs)
    unfolding fold any with_below
    mem_fold x set [] = sym (or_false (mem x set))
    mem_fold x set (r ∷ rs) =
        mem_fold x (union set (insert r (rows_in below r))) rs ∙
        rw (mem_union x set (insert r (rows_in below r)), mem_insert x r (rows_in below r)) (group (mem x set) (is_under x r) (any (is_under x) rs))

    module _ (p : ℕ) (are : (r : ℕ) → mem r (children c p) ≡ true → rows_in below r ≡ descendants c r) where
      child_below : (r : ℕ) → mem r (children c p) ≡ true → (r < c.rows) × (is_history (kind c r) ≡ false) × Below (parent c) p r
      child_below r m =
          let f = mem_children c t p r m in
          let g = child_facts c t p r f.1 in
          (f.0, rw g.1 g.3, rw g.1 (eq_way (parent c) (sym g.2)))

      under_down : (x : ℕ) → any (is_under x) (children c p) ≡ true → mem x (descendants c p) ≡ true
      under_down x h =
          let u = any_true (is_under x) (children c p) h in
          let r : ℕ = u.0 in
          let k = child_below r u.1 in
          or_elim (eqb x r) (mem x (rows_in below r))
          (λ e. let q : x ≡ r = eqb-true x r e in rw q (mem_below p r k.0 (below_under c t p r k.1 k.2)))
          (λ e. let d = below_mem r x (rw (are r u.1) at e) in
          mem_below p x d.0 (below_under c t p x (under_plain c t r x d.1) (below_trans (parent c) p r x (below_way (parent c) p r k.2) (under_below c t r x d.1))))
          u.2

      down_under : (x : ℕ) → mem x (descendants c p) ≡ true → any (is_under x) (children c p) ≡ true
      down_under x m =
          let d = below_mem p x m in
          let w = child_way (parent c) (low c t) p x (under_below c t p x d.1) in
          let r : ℕ = suc w.0 in
          let l : r ≤ x = way_le (parent c) (low c t) w.2 in
          let plain : is_history (kind c r) ≡ false =
          ⊎_elim (λ e. rw e (under_plain c t p x d.1)) (λ b. ancestor_plain c t r x (below_anc c t r x b)) (way_cases (parent c) w.2) in
          let k : mem r (children c p) ≡ true = children_mem c t p r (omega arith) (rw w.1 at (child_of c t w.0 plain)) in
          any_mem (is_under x) (children c p) r k
          (⊎_elim (λ e. or_left (eqb x r) _ (eq-eqb x r (sym e)))
          (λ b. or_right (eqb x r) _ (rw (are r k) (mem_below r x d.0 (below_under c t r x (under_plain c t p x d.1) b)))) (way_cases (parent c) w.2))

      pub gathered_are : fold (with_below below) [] (children c p) ≡ descendants c p
      unfolding mem
      gathered_are =
          ascends_ext 0 0 (fold (with_below below) [] (children c p)) (descendants c p)
          (fold_keeps (with_below below) (Ascends 0) (children c p) [] (λ x b m a. unfold with_below in ascends_union b (insert x (rows_in below x)) a) tt)
          (unfold descendants in ascends_those c.rows (is_descendant c p))
          (λ x. mem_fold x [] (children c p) ∙ both_ways (any (is_under x) (children c p)) (mem x (descendants c p)) (under_down x) (down_under x))

    module _ (kids : List ℕ) where
      pub downs_are : all (is_down c below kids) (from c.rows 0) ≡ true → ((p : ℕ) → p < c.rows → rows_in kids p ≡ children c p) →
          (p : ℕ) → p < c.rows → rows_in below p ≡ descendants c p
      downs_are h k p l = go c.rows p l (omega arith)
        where
          go : (d p : ℕ) → p < c.rows → c.rows ≤ p + d → rows_in below p ≡ descendants c p
          go zero p l m = absurd (omega arith)
          go (suc d) p l m =
              same_eq (rows_in below p) (fold (with_below below) [] (rows_in kids p)) (unfold is_down in and_right (all (is_child_row c p) (rows_in kids p)) _ (each_below (is_down c below kids) c.rows h p l)) ∙
              ap (fold (with_below below) []) (k p l) ∙
              gathered_are p (λ r i. let f = mem_children c t p r i in
              let g = child_facts c t p r f.1 in
              let q = low c t g.0 in
              let e = g.1 in
              let w = g.2 in
              go d r f.0 (omega arith))

      pub down_rows : all (is_down c below kids) (from c.rows 0) ≡ true → (p : ℕ) → p < c.rows → all (is_child_row c p) (rows_in kids p) ≡ true
      down_rows h p l = unfold is_down in and_left (all (is_child_row c p) (rows_in kids p)) _ (each_below (is_down c below kids) c.rows h p l)

      pub are_downs : ((p : ℕ) → p < c.rows → rows_in kids p ≡ children c p) → ((p : ℕ) → p < c.rows → rows_in below p ≡ descendants c p) →
          all (is_down c below kids) (from c.rows 0) ≡ true
      are_downs k d =
          below_each (is_down c below kids) c.rows
          (λ p l. unfold is_down in and_true (all (is_child_row c p) (rows_in kids p)) _ (are_rows kids p (k p l))
          (same_is (rows_in below p) (fold (with_below below) [] (rows_in kids p))
          (d p l ∙ sym (ap (fold (with_below below) []) (k p l) ∙ gathered_are p (λ r m. d r (mem_children c t p r m).0)))))

  -- ---- the other two

  pub aims_are : (targets : List ℕ) → all (is_aimed c targets) (from c.rows 0) ≡ true → (i : ℕ) → i < c.rows → rows_in targets i ≡ union [] (default_targets c i)
  aims_are targets h i l = same_eq _ _ (unfold is_aimed in each_below (is_aimed c targets) c.rows h i l)

  pub are_aims : (targets : List ℕ) → ((i : ℕ) → i < c.rows → rows_in targets i ≡ union [] (default_targets c i)) → all (is_aimed c targets) (from c.rows 0) ≡ true
  are_aims targets h = below_each (is_aimed c targets) c.rows (λ i l. unfold is_aimed in same_is _ _ (h i l))

  pub anchors_are : (sets : List ℕ) → all (is_anchored c sets) (from c.transitions 0) ≡ true → (i : ℕ) → i < c.transitions → rows_in sets i ≡ anchors c i
  anchors_are sets h i l = same_eq _ _ (unfold is_anchored in each_below (is_anchored c sets) c.transitions h i l)

  pub are_anchors : (sets : List ℕ) → ((i : ℕ) → i < c.transitions → rows_in sets i ≡ anchors c i) → all (is_anchored c sets) (from c.transitions 0) ≡ true
  are_anchors sets h = below_each (is_anchored c sets) c.transitions (λ i l. unfold is_anchored in same_is _ _ (h i l))
