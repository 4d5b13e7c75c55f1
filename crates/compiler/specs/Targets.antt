-- Default entry targets and target anchors: what the row's list, or a transition's targets, give.
use Rattle.std.specs.Prelude.{◌≡◌, true, false, ℕ, ◌<◌, length}
use Rattle.std.proofs.Math.Path.{refl}
use Rattle.std.proofs.Common.{sym, ◌∙◌}
use mathlib.Core.List.{List, [], ◌∷◌, map}
use native.Mathlib.Omega.{arith}
use Rattle.definition.specs.Rows.{fold, is_empty, first_of, insert, with, union}
use Rattle.definition.specs.Chart.{Chart}
use Rattle.definition.specs.Tables.{row_count, transition_count, chart_of}
use Rattle.definition.specs.Tree.{children, is_domain_kind, listed, default_targets, anchor, anchors}
use Rattle.laws.specs.Orders.{union_none}
use Rattle.rowset.specs.declared.RowSet.{RowSet}
use Rattle.rowset.specs.Member.{rows_of}
use Rattle.chart.specs.Ready.{RowWith}
use Rattle.compiler.specs.Compilable.{Compilable, row_in_lem}

-- a row of numbers that keep the rules, and its children
pub record WithChildren (numbers : List ℕ) (i : ℕ) (kids : RowSet) : Type 0 where
  pub numbers_keep : Compilable numbers
  pub inside : i < row_count numbers
  pub are : rows_of kids ≡ children (chart_of numbers) i

pub with_in : (numbers : List ℕ) (i : ℕ) (kids : RowSet) → WithChildren numbers i kids → RowWith numbers i kids
with_in numbers i kids h = record { row = row_in_lem numbers h.numbers_keep i h.inside; are = h.are }

pub record TransitionKept (numbers : List ℕ) (t : ℕ) : Type 0 where
  pub numbers_keep : Compilable numbers
  pub inside : t < transition_count numbers

-- ---- default entry targets

length_empty : (xs : List ℕ) → length xs ≡ 0 → is_empty xs ≡ true
unfolding is_empty
length_empty [] e = refl
length_empty (x ∷ xs) e = absurd (omega arith)

length_full : (xs : List ℕ) → (length xs ≡ 0 → ⊥) → is_empty xs ≡ false
unfolding is_empty
length_full [] n = absurd (n refl)
length_full (x ∷ xs) n = refl

module _ (c : Chart) (i : ℕ) (s : RowSet) where
  -- of a row with no use for a list
  pub default_none : is_domain_kind c i ≡ false → rows_of s ≡ [] → rows_of s ≡ union [] (default_targets c i)
  unfolding default_targets union fold
  default_none d e = rw (d) e

  -- those of the list
  pub default_listed : (l : List ℕ) (e : RowSet) → is_domain_kind c i ≡ true → l ≡ listed c i → (length l ≡ 0 → ⊥) → rows_of e ≡ [] → rows_of s ≡ union (rows_of e) l →
      rows_of s ≡ union [] (default_targets c i)
  unfolding default_targets
  default_listed l e d q n z f = f ∙ rw (z, d, ← q, length_full l n)

  -- the first child
  pub default_first : (l : List ℕ) (x : ℕ) (kids : RowSet) → is_domain_kind c i ≡ true → l ≡ listed c i → length l ≡ 0 → rows_of kids ≡ children c i →
      first_of (rows_of kids) ≡ x ∷ [] → rows_of s ≡ x ∷ [] → rows_of s ≡ union [] (default_targets c i)
  unfolding default_targets
  default_first l x kids d q n k f e = e ∙ rw (d, ← q, length_empty l n, ← k, f) (sym (union_none 0 (x ∷ []) (omega arith, tt)))

  -- or none, where no child is
  pub default_childless : (l : List ℕ) (kids : RowSet) → is_domain_kind c i ≡ true → l ≡ listed c i → length l ≡ 0 → rows_of kids ≡ children c i →
      rows_of kids ≡ [] → rows_of s ≡ [] → rows_of s ≡ union [] (default_targets c i)
  unfolding default_targets union fold first_of
  default_childless l kids d q n k f e = e ∙ rw (d, ← q, length_empty l n, ← k, f)

-- ---- anchors

-- the set with the anchor of one more target
unfoldable pub with_anchor : Chart → List ℕ → ℕ → List ℕ
with_anchor c set x = insert (anchor c x) set

module _ (c : Chart) where
  -- one more target was read
  pub anchor_turn : (set next : List ℕ) (a r x : ℕ) → r ≡ x → a ≡ anchor c r → next ≡ insert a set → next ≡ with_anchor c set x
  unfolding with_anchor
  anchor_turn set next a r x e f g = g ∙ rw (f, e)

  fold_anchors : (set xs : List ℕ) → fold (with_anchor c) set xs ≡ union set (map (anchor c) xs)
  unfolding fold with_anchor union with
  fold_anchors set [] = refl
  fold_anchors set (x ∷ xs) = fold_anchors (insert (anchor c x) set) xs

  pub anchors_fold : (t : ℕ) (xs : List ℕ) → xs ≡ (c.transition t).targets → fold (with_anchor c) [] xs ≡ anchors c t
  unfolding anchors
  anchors_fold t xs e = fold_anchors [] xs ∙ rw e
