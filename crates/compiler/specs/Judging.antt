-- What each test of a set says, way out by way out.
use Rattle.std.specs.Prelude.{◌≡◌, Bool, true, false, ◌&&◌, List, [], ◌∷◌, eqb, ltb, length}
use Rattle.std.proofs.Math.Path.{refl, sym, ap}
use Rattle.std.proofs.Common.{◌∙◌, arith, lt-ltb, le-ltb, ltb-true}
use Prim.Native.Nat.{ℕ, zero, suc, ◌+◌, ◌*◌, ◌≤◌, ◌<◌}
use Rattle.definition.specs.Rows.{all, mem, is_empty, same, insert, union, fold}
use Rattle.definition.specs.Chart.{Chart, kind, parent, is_history}
use Rattle.definition.specs.Tables.{row_count, chart_of}
use Rattle.definition.specs.Tree.{is_child, children, is_domain_kind, default_targets, anchors}
use Rattle.laws.specs.Bools.{and_left}
use Rattle.laws.specs.Lists.{empty_list}
use Rattle.rowset.specs.declared.RowSet.{RowSet}
use Rattle.rowset.specs.Member.{rows_of}
use Rattle.tables.specs.Ranges.{HasParent}
use Rattle.rules3.specs.Parents.{TreeIn, tree_parent}
use Rattle.chart.specs.Ready.{row_set_at}
use Rattle.compiler.specs.Compilable.{RowRoom}
use Rattle.compiler.specs.Judged.{rows_in, is_above, is_joined, is_child_row, with_below, is_down, is_aimed, is_anchored, KidsKnown}

module _ (c : Chart) (sets : List ℕ) (i : ℕ) (own : RowSet) (is : own ≡ row_set_at sets (i * 4)) where
  abbrev here : rows_of own ≡ rows_in sets i
  here = unfold rows_in in ap rows_of is

  pub above_none : i ≡ 0 → (b : Bool) → b ≡ is_empty (rows_of own) → b ≡ is_above c sets i
  unfolding is_above
  above_none z b e = go i here z
    where
      go : (j : ℕ) → rows_of own ≡ rows_in sets j → j ≡ 0 → b ≡ is_above c sets j
      go zero h z = e ∙ ap is_empty h
      go (suc j) h z = absurd (omega arith)

  pub above_same : (i ≡ 0 → ⊥) → (p : ℕ) (over more : RowSet) → p ≡ parent c i → over ≡ row_set_at sets (p * 4) → rows_of more ≡ insert p (rows_of over) →
      (b : Bool) → b ≡ same (rows_of own) (rows_of more) → b ≡ is_above c sets i
  unfolding is_above rows_in
  above_same z p over more q o m b e = go i here z q
    where
      go : (j : ℕ) → rows_of own ≡ rows_in sets j → (j ≡ 0 → ⊥) → p ≡ parent c j → b ≡ is_above c sets j
      go zero h z q = absurd (z refl)
      go (suc j) h z q = e ∙ rw (m, o, h, q)

  pub aimed_same : (b : Bool) → b ≡ same (rows_of own) (union [] (default_targets c i)) → b ≡ is_aimed c sets i
  unfolding is_aimed
  aimed_same b e = e ∙ rw here

  pub anchored_same : (set : RowSet) → rows_of set ≡ anchors c i → (b : Bool) → b ≡ same (rows_of own) (rows_of set) → b ≡ is_anchored c sets i
  unfolding is_anchored
  anchored_same set f b e = e ∙ rw (here, f)

module _ (c : Chart) (kids : List ℕ) where
  pub joined_root : (i : ℕ) → i ≡ 0 → true ≡ is_joined c kids i
  unfolding is_joined
  joined_root zero z = refl
  joined_root (suc i) z = absurd (omega arith)

  pub joined_history : (i : ℕ) → (i ≡ 0 → ⊥) → is_history (kind c i) ≡ true → true ≡ is_joined c kids i
  unfolding is_joined
  joined_history zero z h = absurd (z refl)
  joined_history (suc i) z h = sym (rw h)

  pub joined_has : (i : ℕ) → (i ≡ 0 → ⊥) → is_history (kind c i) ≡ false → (p : ℕ) → p ≡ parent c i → (s : RowSet) → s ≡ row_set_at kids (p * 4) →
      (b : Bool) → b ≡ mem i (rows_of s) → b ≡ is_joined c kids i
  unfolding is_joined rows_in
  joined_has zero z h p q s o b e = absurd (z refl)
  joined_has (suc i) z h p q s o b e = e ∙ rw (h, ← q, ← o)

module _ (c : Chart) (p x : ℕ) where
  pub child_past : c.rows ≤ x → false ≡ is_child_row c p x
  unfolding is_child_row
  child_past l = sym (rw (le-ltb x c.rows l))

  pub child_history : x < c.rows → is_history (kind c x) ≡ true → false ≡ is_child_row c p x
  unfolding is_child_row is_child
  child_history l h = sym (rw (lt-ltb x c.rows l, h))

  pub child_is : x < c.rows → is_history (kind c x) ≡ false → (q : ℕ) → q ≡ parent c x → (ltb q x && eqb p q) ≡ is_child_row c p x
  unfolding is_child_row is_child
  child_is l h q e = sym (rw (lt-ltb x c.rows l, h, e))

-- one more row of a set, with what it has below it
pub gather_turn : (below : List ℕ) (all own more next : RowSet) (x : ℕ) → own ≡ row_set_at below (x * 4) → rows_of more ≡ insert x (rows_of own) →
    rows_of next ≡ union (rows_of all) (rows_of more) → rows_of next ≡ with_below below (rows_of all) x
unfolding with_below rows_in
gather_turn below all own more next x o m e = e ∙ rw (m, o)

-- a child is a row of the chart, so its set is there
pub child_set : (numbers : List ℕ) (p x : ℕ) (sets : List ℕ) (b : Bool) → RowRoom numbers sets → b ≡ is_child_row (chart_of numbers) p x → b ≡ true → x * 4 + 4 ≤ length sets
unfolding is_child_row
child_set numbers p x sets b r e h =
    let l : x < row_count numbers = ltb-true _ _ (and_left (ltb x (row_count numbers)) (is_child (chart_of numbers) p x) (sym e ∙ h)) in
    let m = r.room in
    omega arith

-- the walk over the children: one of them is none, or all are there
pub own_not : (p q : Bool) → false ≡ p → false ≡ (p && q)
own_not p q e = rw (← e)

pub own_same : (p t : Bool) (own found : RowSet) (xs : List ℕ) → true ≡ p → rows_of found ≡ xs → t ≡ same (rows_of own) (rows_of found) → t ≡ (p && same (rows_of own) xs)
own_same p t own found xs e f g = g ∙ rw (f, ← e)

same_none : (xs : List ℕ) → is_empty xs ≡ same xs []
unfolding is_empty same
same_none [] = refl
same_none (x ∷ xs) = refl

pub aim_none : (c : Chart) (i : ℕ) (own : RowSet) (b : Bool) → is_domain_kind c i ≡ false → b ≡ is_empty (rows_of own) → b ≡ same (rows_of own) (union [] (default_targets c i))
unfolding default_targets union fold
aim_none c i own b d e = e ∙ rw d (same_none (rows_of own))

module _ (c : Chart) (below kids : List ℕ) (i : ℕ) (own set : RowSet) (is : own ≡ row_set_at below (i * 4)) (of : set ≡ row_set_at kids (i * 4)) where
  abbrev mine : rows_of own ≡ rows_in below i
  mine = unfold rows_in in ap rows_of is

  abbrev ours : rows_of set ≡ rows_in kids i
  ours = unfold rows_in in ap rows_of of

  pub down_none : (n b : Bool) → n ≡ is_empty (rows_of set) → n ≡ true → b ≡ is_empty (rows_of own) → b ≡ is_down c below kids i
  unfolding is_down all fold
  down_none n b e h f = f ∙ rw (← ours, empty_list (rows_of set) (sym e ∙ h), ← mine) (same_none (rows_of own))

  pub down_some : (b : Bool) → b ≡ (all (is_child_row c i) (rows_of set) && same (rows_of own) (fold (with_below below) [] (rows_of set))) → b ≡ is_down c below kids i
  unfolding is_down
  down_some b e = e ∙ rw (← ours, ← mine)

-- the children of a row, read from their column
pub kids_read : (numbers kids : List ℕ) (i : ℕ) (s : RowSet) → KidsKnown numbers kids → i < row_count numbers → s ≡ row_set_at kids (i * 4) → rows_of s ≡ children (chart_of numbers) i
kids_read numbers kids i s h l e = ap rows_of e ∙ unfold rows_in in h.are i l

-- a row of a tree has a parent
pub tree_has_parent : (numbers : List ℕ) → TreeIn numbers → (i : ℕ) → i < row_count numbers → 0 < i → HasParent numbers i
tree_has_parent numbers t i l s = let p = tree_parent numbers t i s l in record { row = record { tables = t.tables; below = l }; parent = omega arith }
