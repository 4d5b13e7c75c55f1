-- The open rows: one row and its ancestors, or none; and their end tags.
use Rattle.std.specs.Prelude.{◌≡◌, true, not, cond, eqb, ltb}
use Rattle.std.proofs.Math.Path.{refl}
use Rattle.std.proofs.Common.{sym, ap, ◌∙◌, subst, arith}
use mathlib.Core.List.{List, [], ◌∷◌, ◌++◌, map, append_assoc}
use Prim.Native.Nat.{ℕ, zero, suc, ◌≤◌, ◌<◌}
use borrow.Author.Tests.{eqb-true, eqb-false, eq-eqb, ne_eqb, lt-ltb, le-ltb}
use Rattle.definition.specs.Rows.{mem}
use Rattle.definition.specs.declared.Kind.{Kind}
use Rattle.definition.specs.Chart.{kind_no, kind, parent, is_root}
use Rattle.definition.specs.Tables.{no_number, row_count, kind_at, row_cell, parent_at, chart_of}
use Rattle.definition.specs.Tree.{ancestors}
use Rattle.definition.specs.Rules.{parent_fits, may_stand}
use Rattle.laws.specs.Bools.{no, and_right, and3, bool_case}
use Rattle.laws.specs.Lists.{mem_cases}
use Rattle.accepted.specs.Tree.{Tree, parent_fits_lem, climb_one, low}
use Rattle.accepted.specs.Sound.{accepted_sound}
use Rattle.tables.specs.Ranges.{InTables}
use Rattle.reading.specs.Print.{kind_name, Around, close_text, close_to}
use Rattle.elements.specs.Starts.{kind_name_of}
use Rattle.spell.specs.Laid.{Laid, laid_as, laid_then, Left, left_begin, left_turn, left_end}
use Rattle.spell.specs.Ready.{Ready}

pub record TreeReady (numbers : List ℕ) : Type 0 where
  pub tables : InTables numbers
  pub tree : Tree (chart_of numbers)

pub record TreeRow (numbers : List ℕ) (i : ℕ) : Type 0 where
  pub tables : InTables numbers
  pub below : i < row_count numbers

pub tree_ready : (numbers names : List ℕ) → Ready numbers names → TreeReady numbers
tree_ready numbers names h = record { tables = h.tables; tree = (accepted_sound numbers names h.accepted).tree }

abbrev pub tag_of : List ℕ → ℕ → Around
tag_of numbers i = record { row = i; name = kind_name (row_cell numbers i 0) }

-- row i and those around it; none where i is no row
unfoldable pub path_of : List ℕ → ℕ → List Around
path_of numbers i = cond (ltb i (row_count numbers)) (map (tag_of numbers) (i ∷ ancestors (chart_of numbers) i)) []

-- the end tag of a row
abbrev pub end_text : List ℕ → ℕ → List ℕ
end_text numbers i = (60 ∷ 47 ∷ []) ++ kind_name (row_cell numbers i 0) ++ (62 ∷ [])

pub end_laid : (numbers : List ℕ) (i : ℕ) (k : Kind) → k ≡ kind_at numbers i → {place o1 o2 out : List ℕ} {from a1 a2 at : ℕ} → Laid (60 ∷ 47 ∷ []) place from o1 a1 → Laid (kind_name (kind_no k)) o1 a1 o2 a2 → Laid (62 ∷ []) o2 a2 out at →
    Laid (end_text numbers i) place from out at
unfolding kind_at
end_laid numbers i k e p q r = laid_then (laid_then p (laid_as (sym (kind_name_of (row_cell numbers i 0)) ∙ ap (λ (x : Kind). kind_name (kind_no x)) (sym e)) q)) r

-- ---- the path

pub path_none : (numbers : List ℕ) (i : ℕ) → row_count numbers ≤ i → path_of numbers i ≡ []
unfolding path_of
path_none numbers i l = rw (le-ltb i (row_count numbers) l)

path_row : (numbers : List ℕ) (i : ℕ) → i < row_count numbers → path_of numbers i ≡ map (tag_of numbers) (i ∷ ancestors (chart_of numbers) i)
unfolding path_of
path_row numbers i l = rw (lt-ltb i (row_count numbers) l)

pub record Closing (numbers : List ℕ) (i p : ℕ) (place : List ℕ) (from : ℕ) (out : List ℕ) (at j : ℕ) : Type 0 where
  pub tree : TreeReady numbers
  pub left : Left (close_text p (path_of numbers i)) place from (close_text p (path_of numbers j)) out at

-- a climb ends: each row outwards is before the last, and the root's parent is no row
unfoldable pub height : List ℕ → ℕ → ℕ
height numbers j = cond (ltb j (row_count numbers)) (suc j) 0

module _ (numbers : List ℕ) (h : TreeReady numbers) where
  few : row_count numbers ≤ 256
  few = h.tables.sized.counts.rows

  pub root_parent : row_cell numbers 0 1 ≡ no_number
  unfolding parent_fits parent_at
  root_parent = eqb-true (row_cell numbers 0 1) no_number (and_right (is_root (kind (chart_of numbers) 0)) (eqb (row_cell numbers 0 1) no_number) (parent_fits_lem (chart_of numbers) h.tree 0 h.tree.some))

  up : (i : ℕ) → row_cell numbers (suc i) 1 ≡ parent (chart_of numbers) (suc i)
  unfolding parent_at
  up i = refl

  pub parent_low : (i : ℕ) → row_cell numbers (suc i) 1 ≤ i
  parent_low i = let l = low (chart_of numbers) h.tree i in let e = up i in omega arith

  no_ancestors : ancestors (chart_of numbers) 0 ≡ []
  unfolding ancestors
  no_ancestors = refl

  -- a row, and the path of its parent
  pub path_step : (i : ℕ) → i < row_count numbers → path_of numbers i ≡ tag_of numbers i ∷ path_of numbers (row_cell numbers i 1)
  path_step zero l =
      path_row numbers 0 l ∙ ap (λ (xs : List ℕ). map (tag_of numbers) (0 ∷ xs)) no_ancestors ∙
      ap (λ (xs : List Around). tag_of numbers 0 ∷ xs) (sym (path_none numbers (row_cell numbers 0 1) (let f = few in let r = root_parent in omega arith)))
  path_step (suc i) l =
      path_row numbers (suc i) l ∙ ap (λ (xs : List ℕ). map (tag_of numbers) (suc i ∷ xs)) (climb_one (chart_of numbers) h.tree i ∙ ap (λ (p : ℕ). p ∷ ancestors (chart_of numbers) p) (sym (up i))) ∙
      ap (λ (xs : List Around). tag_of numbers (suc i) ∷ xs) (sym (path_row numbers (row_cell numbers (suc i) 1) (let p = parent_low i in omega arith)))

  -- ---- closing rows

  close_here : (p : ℕ) (i : ℕ) (more : List Around) → i ≡ p → close_text p (tag_of numbers i ∷ more) ≡ []
  unfolding close_text
  close_here p i more e = rw (eq-eqb i p e)

  close_there : (p : ℕ) (i : ℕ) (more : List Around) → (i ≡ p → ⊥) → close_text p (tag_of numbers i ∷ more) ≡ end_text numbers i ++ close_text p more
  unfolding close_text
  close_there p i more d = rw (ne_eqb i p d) (regroup (kind_name (row_cell numbers i 0)) (close_text p more))
    where
      regroup : (a b : List ℕ) → (60 ∷ 47 ∷ []) ++ a ++ 62 ∷ b ≡ ((60 ∷ 47 ∷ []) ++ a ++ (62 ∷ [])) ++ b
      regroup a b = simp append_assoc

  pub close_begin : (i p : ℕ) (place : List ℕ) (from : ℕ) → Closing numbers i p place from place from i
  close_begin i p place from = record { tree = h; left = left_begin }

  module _ (i p : ℕ) (place : List ℕ) (from : ℕ) (out : List ℕ) (at j : ℕ) (w : Closing numbers i p place from out at j) where
    pub close_row : (n : ℕ) → n ≡ row_count numbers → j < n → TreeRow numbers j
    close_row n e l = record { tables = h.tables; below = omega arith }

    pub close_found : (n : ℕ) → n ≡ row_count numbers → j < n → j ≡ p → Laid (close_text p (path_of numbers i)) place from out at
    close_found n e l q = left_end w.left (ap (close_text p) (path_step j (omega arith)) ∙ close_here p j _ q)

    pub close_turn : (n : ℕ) → n ≡ row_count numbers → j < n → (j ≡ p → ⊥) → {out' : List ℕ} {at' : ℕ} → Laid (end_text numbers j) out at out' at' → (k : ℕ) → k ≡ row_cell numbers j 1 → Closing numbers i p place from out' at' k
    close_turn n e l d {out'} {at'} q k f =
        record { tree = h; left = subst (λ (x : ℕ). Left (close_text p (path_of numbers i)) place from (close_text p (path_of numbers x)) out' at') (sym f) (left_turn w.left (ap (close_text p) (path_step j (omega arith)) ∙ close_there p j _ d) q) }

    pub close_done : (n : ℕ) → n ≡ row_count numbers → n ≤ j → Laid (close_text p (path_of numbers i)) place from out at
    unfolding close_text
    close_done n e l = left_end w.left (ap (close_text p) (path_none numbers j (omega arith)))

  pub height_less : (n j k : ℕ) → n ≡ row_count numbers → j < n → k ≡ row_cell numbers j 1 → height numbers k < height numbers j
  unfolding height
  height_less n zero k e l f = let g = root_parent in let w = few in rw (lt-ltb 0 (row_count numbers) (omega arith), le-ltb k (row_count numbers) (omega arith)) (omega arith)
  height_less n (suc j) k e l f = let g = parent_low j in rw (lt-ltb (suc j) (row_count numbers) (omega arith), lt-ltb k (row_count numbers) (omega arith)) (omega arith)

  -- ---- the rows that stay open

  to_here : (p i : ℕ) (more : List Around) → i ≡ p → close_to p (tag_of numbers i ∷ more) ≡ tag_of numbers i ∷ more
  unfolding close_to
  to_here p i more e = rw (eq-eqb i p e)

  to_there : (p i : ℕ) (more : List Around) → (i ≡ p → ⊥) → close_to p (tag_of numbers i ∷ more) ≡ close_to p more
  unfolding close_to
  to_there p i more d = rw (ne_eqb i p d)

  found : (p i : ℕ) → i < row_count numbers → i ≡ p → close_to p (path_of numbers i) ≡ path_of numbers p
  found p i l e = ap (close_to p) (path_step i l) ∙ to_here p i _ e ∙ sym (path_step i l) ∙ ap (path_of numbers) e

  behind_first : (p i : ℕ) → (i ≡ p → ⊥) → mem p (i ∷ ancestors (chart_of numbers) i) ≡ true → mem p (ancestors (chart_of numbers) i) ≡ true
  behind_first p i d m = mem_cases p i (ancestors (chart_of numbers) i) (λ q. absurd (d (sym q))) (λ q. q) m

  not_in_none : (p : ℕ) → mem p (ancestors (chart_of numbers) 0) ≡ true → ⊥
  unfolding ancestors mem
  not_in_none p m = no m

  -- one row further in
  inwards : (n p : ℕ) → ((i : ℕ) → i ≤ n → i < row_count numbers → mem p (i ∷ ancestors (chart_of numbers) i) ≡ true → close_to p (path_of numbers i) ≡ path_of numbers p) →
      (i : ℕ) → i ≤ suc n → i < row_count numbers → mem p (i ∷ ancestors (chart_of numbers) i) ≡ true → close_to p (path_of numbers i) ≡ path_of numbers p
  inwards n p f zero b l m = bool_case (eqb 0 p) (λ e. found p 0 l (eqb-true 0 p e)) (λ e. absurd (not_in_none p (behind_first p 0 (eqb-false 0 p e) m)))
  inwards n p f (suc i) b l m =
      bool_case (eqb (suc i) p) (λ e. found p (suc i) l (eqb-true (suc i) p e))
      (λ e. ap (close_to p) (path_step (suc i) l) ∙ to_there p (suc i) _ (eqb-false (suc i) p e) ∙
      f (row_cell numbers (suc i) 1) (let q = parent_low i in omega arith) (let q = parent_low i in omega arith)
      (ap (mem p) (ap (λ (x : ℕ). x ∷ ancestors (chart_of numbers) x) (up i) ∙ sym (climb_one (chart_of numbers) h.tree i)) ∙ behind_first p (suc i) (eqb-false (suc i) p e) m))

  closed_at : (n p i : ℕ) → i ≤ n → i < row_count numbers → mem p (i ∷ ancestors (chart_of numbers) i) ≡ true → close_to p (path_of numbers i) ≡ path_of numbers p
  closed_at zero p zero b l m = bool_case (eqb 0 p) (λ e. found p 0 l (eqb-true 0 p e)) (λ e. absurd (not_in_none p (behind_first p 0 (eqb-false 0 p e) m)))
  closed_at zero p (suc i) b l m = absurd (omega arith)
  closed_at (suc n) p i b l m = inwards n p (λ j c k q. closed_at n p j c k q) i b l m

  parent_in : (i : ℕ) → suc i < row_count numbers → mem (row_cell numbers (suc i) 1) (i ∷ ancestors (chart_of numbers) i) ≡ true
  unfolding parent_fits parent_at
  parent_in i l =
      let c = chart_of numbers in
      (and3 (not (is_root (kind c (suc i)))) (mem (parent c (suc i)) (i ∷ ancestors c i)) (may_stand (kind c (parent c (suc i))) (kind c (suc i))) (parent_fits_lem c h.tree (suc i) l)).1

  -- behind row i its path is open: the next row's parent is on it
  pub next_open : (i : ℕ) → suc i < row_count numbers → close_to (row_cell numbers (suc i) 1) (path_of numbers i) ≡ path_of numbers (row_cell numbers (suc i) 1)
  next_open i l = closed_at i (row_cell numbers (suc i) 1) i (omega arith) (omega arith) (parent_in i l)

  -- and on its parent's, where the next row is no child
  pub next_beside : (i : ℕ) → suc i < row_count numbers → (i ≡ row_cell numbers (suc i) 1 → ⊥) → close_to (row_cell numbers (suc i) 1) (path_of numbers (row_cell numbers i 1)) ≡ path_of numbers (row_cell numbers (suc i) 1)
  next_beside i l d =
      sym (to_there (row_cell numbers (suc i) 1) i (path_of numbers (row_cell numbers i 1)) d) ∙ ap (close_to (row_cell numbers (suc i) 1)) (sym (path_step i (omega arith))) ∙ next_open i l
