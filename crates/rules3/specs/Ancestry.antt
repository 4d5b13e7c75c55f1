-- The ancestors of every row, as sets of four words each, one after the other; and the anchor of a row.
use Rattle.std.specs.Prelude.{◌≡◌, true, false, ℕ, ◌+◌, ◌*◌, ◌<◌, ◌≤◌}
use Rattle.std.proofs.Math.Path.{refl, sym, ap}
use Rattle.std.proofs.Common.{◌∙◌, arith}
use mathlib.Core.List.{List, [], ◌∷◌}
use Rattle.std.proofs.Math.ListN.{length}
use Rattle.definition.specs.Rows.{mem, insert, union}
use Rattle.definition.specs.Chart.{Chart, parent, is_history}
use Rattle.definition.specs.Tables.{row_count, kind_at, parent_at, chart_of}
use Rattle.definition.specs.Tree.{ancestors, anchor}
use Rattle.definition.specs.Rules.{rule3}
use Rattle.definition.specs.Compiled.{words}
use Rattle.laws.specs.Sets.{ascends_ext, ascends_insert, ascends_union, mem_insert, mem_union}
use Rattle.accepted.specs.Tree.{ancestors_on, ancestor_low}
use Rattle.rowset.specs.declared.RowSet.{RowSet}
use Rattle.rowset.specs.Member.{rows_of}
use Rattle.tables.specs.Ranges.{RowIn}
use Rattle.tables.specs.Parts.{row_set_at, RowOf}
use Rattle.chart.specs.Writing.{put_at, column_over, words_set, over_begin, over_next, over_read, length_over, Filling, filling_turn, filling_end, ready_over, ready_filling}
use Rattle.rules3.specs.Parents.{TreeIn, tree_parent}

-- ---- sets of four words

unfoldable pub set_of : List ℕ → ℕ → RowSet
set_of sets i = row_set_at sets (i * 4)

-- ---- the ancestors of the first n rows

pub record Ancestry (numbers : List ℕ) (n : ℕ) (sets : List ℕ) : Type 0 where
  pub size : row_count numbers * 4 ≤ length sets
  pub at : (i : ℕ) → i < n → (a : ℕ) → mem a (rows_of (set_of sets i)) ≡ mem a (ancestors (chart_of numbers) i)

-- tables whose parents fit, and beside them the sets
pub record Climbed (numbers sets : List ℕ) : Type 0 where
  pub tree : TreeIn numbers
  pub rule : rule3 (chart_of numbers) ≡ true
  pub ancestry : Ancestry numbers (row_count numbers) sets

-- the set of row i, as it was read
pub set_mem : (numbers sets : List ℕ) (i : ℕ) (s : RowSet) → Climbed numbers sets → i < row_count numbers → s ≡ set_of sets i → (a : ℕ) → mem a (rows_of s) ≡ mem a (ancestors (chart_of numbers) i)
set_mem numbers sets i s h l e a = rw e (h.ancestry.at i l a)

-- ---- one row more

pub insert_union : (x : ℕ) (xs : List ℕ) → insert x (union [] xs) ≡ union [] (x ∷ xs)
insert_union x xs =
    ascends_ext 0 0 (insert x (union [] xs)) (union [] (x ∷ xs)) (ascends_insert x (union [] xs) (ascends_union [] xs tt)) (ascends_union [] (x ∷ xs) tt)
    (λ a. rw (mem_insert a x (union [] xs), mem_union a [] xs, mem_union a [] (x ∷ xs)) (unfold mem in refl))

module _ (numbers : List ℕ) where
  abbrev c : Chart
  c = chart_of numbers

  abbrev n : ℕ
  n = row_count numbers

  -- the root has none
  first_over : (place ready : List ℕ) (s : RowSet) → 4 ≤ length place → rows_of s ≡ [] → ready ≡ put_at place 0 (rows_of s) → ready ≡ column_over (ancestors c) 1 place
  unfolding ancestors
  first_over place ready s l q e = e ∙ over_next (ancestors c) 0 place place 0 (rows_of s) (over_begin (ancestors c) place) refl l (ap words q)

  -- the parent, and the parent's
  ancestor_words : (i p : ℕ) (xs ys : List ℕ) → parent c i < i → p ≡ parent c i → xs ≡ union [] (ancestors c p) → ys ≡ insert p xs → words ys ≡ words (ancestors c i)
  ancestor_words i p xs ys m e f g = rw (g, f, insert_union p (ancestors c p), words_set (p ∷ ancestors c p), ancestors_on c i m, e)

  module _ (t : TreeIn numbers) where
    few : n ≤ 256
    few = let m = t.tables.sized.counts.rows in omega arith

    some : 1 ≤ n
    some = t.tables.sized.counts.some

    pub ancestors_begin : (place ready : List ℕ) (s : RowSet) → n * 4 ≤ length place → rows_of s ≡ [] → ready ≡ put_at place 0 (rows_of s) → Filling (ancestors c) n 1 ready ready
    ancestors_begin place ready s l q e =
        let k = some in ready_filling (ancestors c) 1 n place ready l k (first_over place ready s (omega arith) q e) (ancestors c) refl

    pub ancestors_turn : (i p : ℕ) (sets₀ sets next : List ℕ) (above s : RowSet) → Filling (ancestors c) n i sets₀ sets → 0 < i → i < n → p ≡ parent_at numbers i →
        above ≡ set_of sets p → rows_of s ≡ insert p (rows_of above) → next ≡ put_at sets (i * 4) (rows_of s) → Filling (ancestors c) n (i + 1) sets₀ next
    unfolding set_of
    ancestors_turn i p sets₀ sets next above s h z l e f g q =
        let b = tree_parent numbers t i z l in
        let m = few in
        filling_turn (ancestors c) n i sets₀ sets next (rows_of s) h l
        (ancestor_words i p (rows_of above) (rows_of s) b e
        (over_read (ancestors c) i p sets₀ sets (p * 4) above h.is (omega arith) refl (λ x y. omega (arith, ancestor_low c p x y)) f) g) q

    pub ancestors_end : (i : ℕ) (place ready sets : List ℕ) (s : RowSet) → n * 4 ≤ length place → rows_of s ≡ [] → ready ≡ put_at place 0 (rows_of s) →
        Filling (ancestors c) n i ready sets → n ≤ i → sets ≡ column_over (ancestors c) n place
    ancestors_end i place ready sets s l q e h g =
        let k = some in
        filling_end (ancestors c) n i ready sets h g ∙ ready_over (ancestors c) 1 n place ready l k (first_over place ready s (omega arith) q e) (ancestors c)

    -- as rule 4 reads them
    pub over_ancestry : (place sets : List ℕ) → n * 4 ≤ length place → sets ≡ column_over (ancestors c) n place → Ancestry numbers n sets
    unfolding set_of mem
    over_ancestry place sets l e =
        let m = few in
        let z = ap length e ∙ length_over (ancestors c) n place l in
        record {
          size = omega arith;
          at = λ i b a.
              ap (mem a) (over_read (ancestors c) n i place sets (i * 4) (row_set_at sets (i * 4)) e b refl (λ x y. omega (arith, ancestor_low c i x y)) refl) ∙ mem_union a [] (ancestors c i);
        }

-- ---- the anchor of a row

module _ (numbers : List ℕ) (i : ℕ) (r : RowIn numbers i) where
  pub anchor_self : is_history (kind_at numbers i) ≡ false → RowOf numbers (anchor (chart_of numbers) i) i
  unfolding anchor
  anchor_self h = record { is = sym (rw h); row = r }

  pub anchor_parent : (p : ℕ) → is_history (kind_at numbers i) ≡ true → RowOf numbers (parent_at numbers i) p → RowOf numbers (anchor (chart_of numbers) i) p
  unfolding anchor
  anchor_parent p h q = record { is = q.is ∙ sym (rw h); row = q.row }
