-- One pass over the rows in document order gives each row's children.
use Rattle.std.specs.Prelude.{◌≡◌, true, false, List, [], ℕ, zero, suc, ◌+◌, ◌<◌}
use Rattle.std.proofs.Math.Path.{refl, sym, ap}
use Rattle.std.proofs.Common.{◌∙◌, arith, le-ltb, ne_eqb}
use Rattle.definition.specs.Rows.{from, mem, those, insert, union, nothing_at}
use Rattle.definition.specs.Chart.{Chart, kind, parent, is_history}
use Rattle.definition.specs.Tree.{is_child, children}
use Rattle.definition.specs.Compiled.{words, column}
use Rattle.laws.specs.Bools.{and_false}
use Rattle.laws.specs.Sets.{ascends_those, those_low}
use Rattle.laws.specs.Orders.{union_none}
use Rattle.laws.specs.Loops.{those_insert, those_skip}
use Rattle.accepted.specs.Tree.{Tree, child_of}
use Rattle.chart.specs.Writing.{column_cong}

-- the children of a among the rows below i
unfoldable pub children_below : Chart → ℕ → ℕ → List ℕ
children_below c i a = those i (is_child c a)

module _ (c : Chart) (n : ℕ) where
  -- row 0 is no one's child
  pub children_begin : column nothing_at n ≡ column (children_below c 1) n
  unfolding children_below those from is_child
  children_begin = column_cong nothing_at (children_below c 1) n (λ a l. rw (le-ltb (parent c 0) 0 (omega arith), and_false))

  -- nor is a history
  pub children_skip : (i : ℕ) → is_history (kind c i) ≡ true → column (children_below c i) n ≡ column (children_below c (i + 1)) n
  unfolding children_below
  children_skip i h = column_cong (children_below c i) (children_below c (i + 1)) n (λ a l. ap words (those_skip (is_child c a) _ i refl (unfold is_child in rw h)))

  pub children_end : children_below c c.rows ≡ children c
  unfolding children_below children
  children_end = refl

module _ (c : Chart) (t : Tree c) (i p : ℕ) (some : 0 < i) (is : p ≡ parent c i) (plain : is_history (kind c i) ≡ false) where
  own_child : is_child c p i ≡ true
  own_child = go i some is plain
    where
      go : (i : ℕ) → 0 < i → p ≡ parent c i → is_history (kind c i) ≡ false → is_child c p i ≡ true
      go zero l e h = absurd (omega arith)
      go (suc j) l e h = rw e (child_of c t j h)

  -- one more child of its parent
  pub child_words : (xs ys : List ℕ) → xs ≡ union [] (children_below c i p) → ys ≡ insert i xs → words ys ≡ words (children_below c (i + 1) p)
  unfolding children_below
  child_words xs ys e f =
      ap words (those_insert (is_child c p) xs ys i (e ∙ union_none 0 (those i (is_child c p)) (ascends_those i (is_child c p))) f own_child)

  -- and of no other row
  pub other_children : (a : ℕ) → (a ≡ p → ⊥) → words (children_below c i a) ≡ words (children_below c (i + 1) a)
  unfolding children_below is_child
  other_children a d = ap words (those_skip (is_child c a) _ i refl (rw (ne_eqb a (parent c i) (λ q. d (q ∙ sym is)), and_false, and_false)))

  -- the rows of the parent's children
  pub child_low : (x : ℕ) → mem x (children_below c i p) ≡ true → x < i
  unfolding children_below
  child_low x m = those_low i (is_child c p) x m
