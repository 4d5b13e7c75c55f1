-- The rows of an accepted chart are such that they can be written and read back.
use Rattle.std.specs.Prelude.{◌≡◌, Bool, true, false, not, ◌&&◌, ◌||◌, cond, List, [], ℕ, zero, suc, ◌≤◌, ◌<◌, eqb}
use Rattle.std.proofs.Math.Path.{refl, ap}
use Rattle.std.proofs.Common.{sym, ◌∙◌, subst, arith}
use borrow.Author.Tests.{not-true}
use Rattle.definition.specs.declared.Kind.{Kind}
use Rattle.definition.specs.declared.Kind.TheVariants.{Parallel, Final, Shallow, Deep}
use Rattle.definition.specs.declared.Answer.TheVariants.{Done}
use Rattle.definition.specs.Rows.{mem, is_empty}
use Rattle.definition.specs.Names.{is_name, is_id}
use Rattle.definition.specs.Chart.{Chart, kind, is_root, is_state, is_history}
use Rattle.definition.specs.Tables.{no_number, row_count, row_cell, kind_of, kind_at, id_at, entry_at, exit_at, list_at, list_block_at, name_at, chart_of}
use Rattle.definition.specs.Tree.{listed}
use Rattle.definition.specs.Rules.{each, are_apart, default_fits, list_fits, blocks_fit, row_lists_fit, branches_fit, row_branches_fit, id_fits, id_differs, keeps_rules}
use Rattle.reading.specs.Content.{Row}
use Rattle.reading.specs.Layout.{row_back}
use Rattle.laws.specs.Bools.{and_left, and_right, and3, no}
use Rattle.laws.specs.Lists.{empty_list}
use Rattle.accepted.specs.NameFacts.{id_parts}
use Rattle.accepted.specs.Tree.{Tree, not_root}
use Rattle.accepted.specs.Sound.{accepted_sound}
use Rattle.written.specs.Sound.{AllOf, Ref, BlockFits, Shaped, RowFits}
use Rattle.written.specs.TableBlocks.{accepted_root, block_fits_lem, no_block}
use Rattle.written.specs.TableRows.{no_list_block, no_use, history_default, list_above, not_domain, kind_zero, all_of_mem, row_lists, row_branches, row_id, row_inside}

module _ (numbers names : List ℕ) (h : keeps_rules numbers names ≡ Done) where
  abbrev chart : Chart
  chart = chart_of numbers

  abbrev tree : Tree chart
  tree = (accepted_sound numbers names h).tree

  abbrev back : ℕ → Row
  back i = row_back numbers names i

  -- ---- names

  pub id_parts_of : (i : ℕ) → suc i < row_count numbers → (not (eqb (id_at numbers (suc i)) no_number) ≡ true) × (is_id (name_at names (id_at numbers (suc i))) ≡ true) × (each (row_count numbers) (id_differs numbers names (suc i)) ≡ true)
  unfolding id_fits
  id_parts_of i l = and3 (not (eqb (id_at numbers (suc i)) no_number)) (is_id (name_at names (id_at numbers (suc i)))) _ (row_id numbers names h (suc i) l)

  -- the id of a row is the name in its slot
  pub id_is : (i : ℕ) → suc i < row_count numbers → (back (suc i)).id ≡ name_at names (id_at numbers (suc i))
  id_is i l = shown ∙ ap (λ (z : Bool). cond z [] (name_at names (id_at numbers (suc i)))) (not-true (eqb (id_at numbers (suc i)) no_number) (id_parts_of i l).0)
    where
      shown : (back (suc i)).id ≡ cond (eqb (id_at numbers (suc i)) no_number) [] (name_at names (id_at numbers (suc i)))
      shown = unfold row_back id_at in refl

  id_name : (i : ℕ) → suc i < row_count numbers → is_name (back (suc i)).id ≡ true
  id_name i l = ap is_name (id_is i l) ∙ (id_parts (name_at names (id_at numbers (suc i))) (id_parts_of i l).1).0

  root_id : 0 < row_count numbers → (back 0).id ≡ []
  root_id l = shown ∙ ap (λ (z : Bool). cond z [] (name_at names (id_at numbers 0))) none
    where
      none : eqb (id_at numbers 0) no_number ≡ true
      none = unfold id_fits in row_id numbers names h 0 l

      shown : (back 0).id ≡ cond (eqb (id_at numbers 0) no_number) [] (name_at names (id_at numbers 0))
      shown = unfold row_back id_at in refl

  -- ---- lists and blocks

  module _ (i : ℕ) (l : i < row_count numbers) where
    lists_parts : (are_apart chart (listed chart i) ≡ true) × (list_fits chart i ≡ true) × (blocks_fit chart i ≡ true)
    unfolding row_lists_fit
    lists_parts = and3 (are_apart chart (listed chart i)) (list_fits chart i) (blocks_fit chart i) (row_lists numbers names h i l)

    branch_parts : (branches_fit chart (entry_at numbers i) ≡ true) × (branches_fit chart (exit_at numbers i) ≡ true) × (branches_fit chart (list_block_at numbers i) ≡ true)
    unfolding row_branches_fit
    branch_parts = and3 (branches_fit chart (entry_at numbers i)) (branches_fit chart (exit_at numbers i)) (branches_fit chart (list_block_at numbers i)) (row_branches numbers names h i l)

    entry_fits : BlockFits (row_count numbers) (back i).entry
    unfolding row_back entry_at
    entry_fits = block_fits_lem numbers names h (row_cell numbers i 3) (row_cell numbers i 4) (row_inside numbers names h i l).entries branch_parts.0

    exit_fits : BlockFits (row_count numbers) (back i).exit
    unfolding row_back exit_at
    exit_fits = block_fits_lem numbers names h (row_cell numbers i 5) (row_cell numbers i 6) (row_inside numbers names h i l).exits branch_parts.1

    list_block_fits : BlockFits (row_count numbers) (back i).block
    unfolding row_back list_block_at
    list_block_fits = block_fits_lem numbers names h (row_cell numbers i 9) (row_cell numbers i 10) (row_inside numbers names h i l).blocks branch_parts.2

    pub list_refs : AllOf (Ref (row_count numbers)) (back i).list
    unfolding row_back list_at
    list_refs = all_of_mem (listed chart i) (λ (x : ℕ) (m : mem x (listed chart i) ≡ true). record { above = list_above chart i lists_parts.1 x m; below = (accepted_sound numbers names h).is_list_inside i x m })

    no_block_of : is_empty (list_block_at numbers i) ≡ true → (back i).block ≡ []
    unfolding row_back list_block_at
    no_block_of e = no_block numbers names (row_cell numbers i 9) (row_cell numbers i 10) e

    list_same : (back i).list ≡ listed chart i
    unfolding row_back list_at
    list_same = refl

    no_list_of : is_empty (listed chart i) ≡ true → (back i).list ≡ []
    no_list_of e = list_same ∙ empty_list (listed chart i) e

    kind_is : (k : ℕ) → row_cell numbers i 0 ≡ k → kind chart i ≡ kind_of k
    unfolding kind_at
    kind_is k e = ap kind_of e

    -- a state
    state_list : is_history (kind chart i) ≡ false → (back i).list ≡ [] → (back i).block ≡ []
    state_list y e = no_block_of (no_list_block chart i lists_parts.1 y (ap (is_empty {A = ℕ}) (sym list_same ∙ e) ∙ unfold is_empty in refl))

    -- a parallel or a final
    unused : (k : Kind) → kind chart i ≡ k → is_root k ≡ false → is_state k ≡ false → is_history k ≡ false → ((back i).list ≡ []) × ((back i).block ≡ [])
    unused k e r s y =
        let g = no_use chart i lists_parts.1 (not_domain chart i k e r s) (ap is_history e ∙ y) in
        (no_list_of (and_left (is_empty (listed chart i)) _ g), no_block_of (and_right (is_empty (listed chart i)) (is_empty (list_block_at numbers i)) g))

    -- a history
    default_list : (k : Kind) → kind chart i ≡ k → is_root k ≡ false → is_state k ≡ false → is_history k ≡ true → is_empty (back i).list ≡ false
    unfolding default_fits
    default_list k e r s y =
        ap (is_empty {A = ℕ}) list_same ∙ not-true (is_empty (listed chart i)) (and_left (not (is_empty (listed chart i))) _ (history_default chart i lists_parts.1 (not_domain chart i k e r s) (ap is_history e ∙ y)))

  -- ---- a row

  shaped : (i : ℕ) → (l : suc i < row_count numbers) → (k : ℕ) → row_cell numbers (suc i) 0 ≡ k → k ≤ 5 → Shaped k (back (suc i))
  shaped i l zero e b = absurd (no (sym (not_root chart tree i) ∙ ap is_root (kind_is (suc i) l 0 e)))
  shaped i l (suc zero) e b = (id_name i l, λ (q : (back (suc i)).list ≡ []). state_list (suc i) l (ap is_history (kind_is (suc i) l 1 e)) q)
  shaped i l (suc (suc zero)) e b = let u = unused (suc i) l Parallel (kind_is (suc i) l 2 e) refl refl refl in (id_name i l, u.0, u.1)
  shaped i l (suc (suc (suc zero))) e b = let u = unused (suc i) l Final (kind_is (suc i) l 3 e) refl refl refl in (id_name i l, u.0, u.1)
  shaped i l (suc (suc (suc (suc zero)))) e b = (id_name i l, default_list (suc i) l Shallow (kind_is (suc i) l 4 e) refl refl refl)
  shaped i l (suc (suc (suc (suc (suc zero))))) e b = (id_name i l, default_list (suc i) l Deep (kind_is (suc i) l 5 e) refl refl refl)
  shaped i l (suc (suc (suc (suc (suc (suc k)))))) e b = absurd (omega arith)

  kind_cell : (i : ℕ) → (back i).kind ≡ row_cell numbers i 0
  unfolding row_back
  kind_cell i = refl

  pub row_fits : (i : ℕ) → suc i < row_count numbers → RowFits (row_count numbers) (back (suc i))
  row_fits i l =
      record {
        shaped = subst (λ (k : ℕ). Shaped k (back (suc i))) (sym (kind_cell (suc i))) (shaped i l (row_cell numbers (suc i) 0) refl (row_inside numbers names h (suc i) l).kinds);
        list = list_refs (suc i) l;
        entry = entry_fits (suc i) l;
        exit = exit_fits (suc i) l;
        block = list_block_fits (suc i) l;
      }

  pub some_row : 0 < row_count numbers
  some_row = tree.some

  pub root_kind_is : (back 0).kind ≡ 0
  root_kind_is = kind_cell 0 ∙ kind_zero (row_cell numbers 0 0) (unfold kind_at in accepted_root numbers names h)

  root_block : (back 0).block ≡ []
  root_block = no_block_of 0 some_row (by (is_root (kind chart 0)) (accepted_root numbers names h) (and_left (not (is_root (kind chart 0)) || is_empty (list_block_at numbers 0)) _ parts))
    where
      parts : ((not (is_root (kind chart 0)) || is_empty (list_block_at numbers 0)) && (not (is_root (kind chart 0) || is_history (kind chart 0)) || (is_empty (entry_at numbers 0) && is_empty (exit_at numbers 0)))) ≡ true
      parts = unfold blocks_fit in (lists_parts 0 some_row).2

      by : (z : Bool) → z ≡ true → (not z || is_empty (list_block_at numbers 0)) ≡ true → is_empty (list_block_at numbers 0) ≡ true
      by true e g = g
      by false e g = absurd (no e)

  pub root_fits : RowFits (row_count numbers) (back 0)
  root_fits =
      record {
        shaped = subst (λ (k : ℕ). Shaped k (back 0)) (sym root_kind_is) (root_id some_row, root_block);
        list = list_refs 0 some_row;
        entry = entry_fits 0 some_row;
        exit = exit_fits 0 some_row;
        block = list_block_fits 0 some_row;
      }
