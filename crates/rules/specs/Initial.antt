-- The list of a row: a row that has a row under it has a child, so that a state whose list holds rows under it is compound.
use Rattle.std.specs.Prelude.{◌≡◌, Bool, true, false, not, ◌&&◌, ◌||◌, eqb, ltb, length}
use Rattle.std.proofs.Math.Path.{refl}
use Rattle.std.proofs.Common.{sym, ◌∙◌, arith}
use mathlib.Core.List.{List, [], ◌∷◌}
use Prim.Native.Nat.{ℕ, zero, suc, ◌<◌}
use borrow.Author.Tests.{eq-eqb, lt-ltb}
use Rattle.definition.specs.declared.Kind.{Kind}
use Rattle.definition.specs.declared.Kind.TheVariants.{Root, State, Parallel, Final, Shallow, Deep}
use Rattle.definition.specs.Rows.{all, mem, from, is_empty}
use Rattle.definition.specs.Chart.{Chart, kind, parent, is_root, is_state, is_parallel, is_history}
use Rattle.definition.specs.Tables.{row_count, kind_at, list_at, list_block_at, chart_of}
use Rattle.definition.specs.Tree.{is_child, children, is_compound, is_domain_kind, ancestors}
use Rattle.definition.specs.Rules.{is_history_of, needs_child, is_under, default_fits, list_fits}
use Rattle.laws.specs.Bools.{no, and_left, and_true, or_right, bool_case, clash}
use Rattle.laws.specs.Sets.{mem_those, mem_below, empty_some}
use Rattle.laws.specs.Lists.{mem_cases, any_mem}
use Rattle.accepted.specs.Tree.{ancestors_on, ancestors_top, has_child_lem}
use Rattle.tables.specs.Parts.{BlockOf}
use Rattle.tables.specs.Ranges.{RowsIn}
use Rattle.rules3.specs.Parents.{tree_parent, history_parent, plain_child, tree_of}
use Rattle.rules3.specs.Ancestry.{Climbed}
use Rattle.rules.specs.Lists.{history_no_domain, read_none, read_some, initial_none, initial_some, block_none, list_initial, list_default, list_unused}

-- ---- kinds

domain_by_child : (k : Kind) (b : Bool) → (is_root k || is_state k) ≡ true → b ≡ true → (is_root k || (is_state k && b)) ≡ true
domain_by_child Root b h e = refl
domain_by_child State b h e = e
domain_by_child Parallel b h e = absurd (no h)
domain_by_child Final b h e = absurd (no h)
domain_by_child Shallow b h e = absurd (no h)
domain_by_child Deep b h e = absurd (no h)

no_domain : (k : Kind) (b : Bool) → (is_root k || is_state k) ≡ false → (is_root k || (is_state k && b)) ≡ false
no_domain Root b h = absurd (no (sym h))
no_domain State b h = absurd (no (sym h))
no_domain Parallel b h = refl
no_domain Final b h = refl
no_domain Shallow b h = refl
no_domain Deep b h = refl

-- a kind that was read, k
pub owner_is : (numbers : List ℕ) (i : ℕ) (k : Kind) (r s t : Bool) → k ≡ kind_at numbers i → r ≡ is_root k → s ≡ is_state k → (r || s) ≡ t → (is_root (kind_at numbers i) || is_state (kind_at numbers i)) ≡ t
owner_is numbers i k r s t e f g h = rw (f, g, e) at h

-- ---- a row under it gives a child

module _ (numbers sets : List ℕ) (t : Climbed numbers sets) where
  abbrev chart : Chart
  chart = chart_of numbers

  -- "each state that has a history has at least one child that is no history" (26)
  history_child : (h : ℕ) → h < row_count numbers → is_history (kind chart h) ≡ true → is_empty (children chart (parent chart h)) ≡ false
  unfolding needs_child is_history_of
  history_child h l q =
      let p : parent chart h < h = history_parent numbers t.tree h (record { tables = t.tree.tables; below = l }) q in
      has_child_lem chart (tree_of numbers t.tree.tables t.rule) (parent chart h) (omega arith)
      (or_right (is_root (kind chart (parent chart h)) || is_parallel (kind chart (parent chart h))) _
      (any_mem (is_history_of chart (parent chart h)) (from chart.rows 0) h (mem_below chart.rows h l)
      (and_true (is_history (kind chart h)) _ q (eq-eqb (parent chart h) (parent chart h) refl))))

  under_child : (a n i : ℕ) → i < n → i < row_count numbers → mem a (ancestors chart i) ≡ true → is_empty (children chart a) ≡ false
  unfolding children mem
  under_child a zero i f l m = absurd (omega arith)
  under_child a (suc n) zero f l m = absurd (no (rw (ancestors_top chart 0 (omega arith)) at m))
  under_child a (suc n) (suc i) f l m =
      let p : parent chart (suc i) < suc i = tree_parent numbers t.tree (suc i) (omega arith) l in
      mem_cases a (parent chart (suc i)) (ancestors chart (parent chart (suc i)))
      (λ e. bool_case (is_history (kind chart (suc i))) (λ h. rw e (history_child (suc i) l h))
      (λ h. empty_some (children chart a) (suc i) (mem_those chart.rows (is_child chart a) (suc i) ∙
      and_true (ltb (suc i) chart.rows) _ (lt-ltb (suc i) chart.rows l) (plain_child chart (suc i) (parent chart (suc i)) h p refl a ∙ eq-eqb a (parent chart (suc i)) e))))
      (λ k. under_child a n (parent chart (suc i)) (omega arith) (omega arith) k)
      (rw (ancestors_on chart (suc i) p) at m)

  -- so does a list of them that is not empty
  listed_child : (a : ℕ) (l : List ℕ) → RowsIn numbers l → is_empty l ≡ false → all (is_under chart a) l ≡ true → is_empty (children chart a) ≡ false
  unfolding is_under all is_empty
  listed_child a [] r e h = absurd (no (sym e))
  listed_child a (x ∷ xs) r e h = under_child a (suc x) x (omega arith) (r.low 0 (omega arith)) (and_left (mem a (ancestors chart x)) _ h)

-- ---- the list, way out by way out

module _ (c : Chart) (i : ℕ) where
  pub fits_default : (t : Bool) → is_history (kind c i) ≡ true → t ≡ default_fits c i → t ≡ list_fits c i
  fits_default t h e = list_default c i t (history_no_domain c i h) h e

module _ (numbers : List ℕ) (i : ℕ) (l : List ℕ) (e : l ≡ list_at numbers i) (h : is_history (kind (chart_of numbers) i) ≡ false) where
  abbrev owner : Kind
  owner = kind (chart_of numbers) i

  pub fits_none : (b : List ℕ) → length l ≡ 0 → BlockOf numbers (list_block_at numbers i) b → eqb (length b) 0 ≡ list_fits (chart_of numbers) i
  fits_none b z k =
      bool_case (is_domain_kind (chart_of numbers) i)
      (λ d. list_initial (chart_of numbers) i _ d (initial_none numbers i l e b z k))
      (λ d. list_unused (chart_of numbers) i _ d h (block_none numbers (list_block_at numbers i) b k ∙ sym (rw (read_none (list_at numbers i) l e z))))

  by_child : (is_root owner || is_state owner) ≡ true → is_empty (children (chart_of numbers) i) ≡ false → is_domain_kind (chart_of numbers) i ≡ true
  unfolding is_domain_kind is_compound
  by_child k full = domain_by_child owner (not (is_empty (children (chart_of numbers) i))) k (rw full)

  module _ (s : length l ≡ 0 → ⊥) where
    fits_unused : is_domain_kind (chart_of numbers) i ≡ false → false ≡ list_fits (chart_of numbers) i
    fits_unused d = list_unused (chart_of numbers) i false d h (sym (rw (read_some (list_at numbers i) l e s)))

    pub fits_other : (is_root owner || is_state owner) ≡ false → false ≡ list_fits (chart_of numbers) i
    fits_other k = fits_unused (unfold is_domain_kind in unfold is_compound in no_domain owner _ k)

    pub fits_under : (t : Bool) (sets : List ℕ) → Climbed numbers sets → RowsIn numbers l → (is_root owner || is_state owner) ≡ true → t ≡ all (is_under (chart_of numbers) i) l → t ≡ list_fits (chart_of numbers) i
    fits_under t sets climbed r k f =
        bool_case (is_domain_kind (chart_of numbers) i)
        (λ d. list_initial (chart_of numbers) i t d (initial_some numbers i l e t s f))
        (λ d. bool_case t
        (λ y. absurd (clash _ (by_child k (listed_child numbers sets climbed i l r (rw e (read_some (list_at numbers i) l e s)) (sym f ∙ y))) d))
        (λ n. n ∙ fits_unused d))
