-- "Reading what was written gives an equal chart" (R-4, 4.3) for every accepted chart.
use Rattle.std.specs.Prelude.{◌≡◌, false, ◌||◌, leb, length}
use Rattle.std.proofs.Math.Path.{refl, ap}
use Rattle.std.proofs.Common.{sym, ap₂, ◌∙◌, subst}
use Rattle.std.proofs.Math.Bool.{true, not}
use mathlib.Core.List.{List, [], ◌∷◌, map}
use Rattle.std.proofs.Math.Option.{none}
use Prim.Native.Nat.{ℕ, zero, suc, ◌≤◌, ◌<◌, ◌+◌}
use native.Mathlib.Omega.{arith}
use Rattle.std.proofs.Math.Dec.{eqb}
use borrow.Author.Tests.{eqb-true, eqb-false, eq-eqb, ne_eqb, leb-true, not-true}
use Rattle.definition.specs.declared.Answer.TheVariants.{Done}
use Rattle.definition.specs.Rows.{from, mem, same}
use Rattle.definition.specs.Chart.{Chart, kind, parent, is_root}
use Rattle.definition.specs.Tables.{no_number, most_rows, most_transitions, most_names, row_count, transition_count, name_count, row_cell, kind_at, parent_at, id_at, name_at, chart_of}
use Rattle.definition.specs.Tree.{ancestors}
use Rattle.definition.specs.Rules.{counts_fit, sizes_fit, id_differs, parent_fits, may_stand, compiled_size, rule1, keeps_rules}
use Rattle.grammar.specs.Grammar.{is_text, in_grammar}
use Rattle.reading.specs.Tags.{tags_of}
use Rattle.reading.specs.Faults.{first_fault}
use Rattle.reading.specs.Content.{Row, content_of}
use Rattle.reading.specs.Layout.{row_back, transition_back, content}
use Rattle.reading.specs.Print.{id_of, print}
use Rattle.laws.specs.Bools.{and_right, and3, and7, no, bool_case, or_elim, clash}
use Rattle.laws.specs.Maps.{map_length}
use Rattle.laws.specs.Loops.{each_below}
use Rattle.laws.specs.Lists.{mem_cases}
use Rattle.accepted.specs.Tree.{Tree, parent_fits_lem, climb_one, low, not_root}
use Rattle.accepted.specs.Sound.{accepted_rule1, accepted_sound}
use Rattle.written.specs.Sound.{AllOf, no_more, more, RowFits, TransitionFits}
use Rattle.written.specs.Laid.{closed_rows, Laid, laid_out, lays}
use Rattle.written.specs.Order.{Ordered}
use Rattle.written.specs.Whole.{Differ, Sound, written_text, written_grammar, written_faultless, written_content, written_alike}
use Rattle.written.specs.TableRows.{kind_above, empty_mem}
use Rattle.written.specs.AcceptedRows.{id_parts_of, id_is, row_fits, some_row, root_kind_is, root_fits}
use Rattle.written.specs.AcceptedTransitions.{transition_fits_lem, transitions_ordered}

-- ---- rows in document order

module _ (c : Chart) (t : Tree c) where
  here : (p : ℕ) (xs : List ℕ) → closed_rows p (p ∷ xs) ≡ p ∷ xs
  unfolding closed_rows
  here p xs = rw (eq-eqb p p refl)

  there : (x p : ℕ) (xs : List ℕ) → (x ≡ p → ⊥) → closed_rows p (x ∷ xs) ≡ closed_rows p xs
  unfolding closed_rows
  there x p xs h = rw (ne_eqb x p h)

  no_ancestors : ancestors c 0 ≡ []
  unfolding ancestors
  no_ancestors = refl

  found : (i p : ℕ) → i ≡ p → closed_rows p (i ∷ ancestors c i) ≡ p ∷ ancestors c p
  found i p e = ap (λ (x : ℕ). closed_rows p (x ∷ ancestors c x)) e ∙ here p (ancestors c p)

  behind_first : (i p : ℕ) → eqb i p ≡ false → mem p (i ∷ ancestors c i) ≡ true → mem p (ancestors c i) ≡ true
  behind_first i p e m = mem_cases p i (ancestors c i) (λ q. absurd (eqb-false i p e (sym q))) (λ q. q) m

  at_root : (p : ℕ) → mem p (0 ∷ ancestors c 0) ≡ true → closed_rows p (0 ∷ ancestors c 0) ≡ p ∷ ancestors c p
  at_root p m = bool_case (eqb 0 p) (λ e. found 0 p (eqb-true 0 p e)) (λ e. absurd (no (empty_mem p ∙ ap (mem p) (sym no_ancestors) ∙ behind_first 0 p e m)))

  -- one row further in
  inwards : (n p : ℕ) → ((i : ℕ) → i ≤ n → mem p (i ∷ ancestors c i) ≡ true → closed_rows p (i ∷ ancestors c i) ≡ p ∷ ancestors c p) → (i : ℕ) → i ≤ suc n → mem p (i ∷ ancestors c i) ≡ true →
      closed_rows p (i ∷ ancestors c i) ≡ p ∷ ancestors c p
  inwards n p up zero l m = at_root p m
  inwards n p up (suc i) l m =
      bool_case (eqb (suc i) p) (λ e. found (suc i) p (eqb-true (suc i) p e))
      (λ e. there (suc i) p (ancestors c (suc i)) (eqb-false (suc i) p e) ∙ ap (closed_rows p) (climb_one c t i) ∙
      up (parent c (suc i)) (let b = low c t i in omega arith) (ap (mem p) (sym (climb_one c t i)) ∙ behind_first (suc i) p e m))

  -- a row of the path of row i is where the path to it begins
  path_closed : (n p i : ℕ) → i ≤ n → mem p (i ∷ ancestors c i) ≡ true → closed_rows p (i ∷ ancestors c i) ≡ p ∷ ancestors c p
  path_closed zero p i l m = inwards 0 p (λ (j : ℕ) (k : j ≤ 0) (q : mem p (j ∷ ancestors c j) ≡ true). let z : j ≡ 0 = omega arith in subst (λ (x : ℕ). closed_rows p (x ∷ ancestors c x) ≡ p ∷ ancestors c p) (sym z) (at_root p (ap (λ (x : ℕ). mem p (x ∷ ancestors c x)) (sym z) ∙ q))) i (omega arith) m
  path_closed (suc n) p i l m = inwards n p (λ (j : ℕ) (k : j ≤ n) (q : mem p (j ∷ ancestors c j) ≡ true). path_closed n p j k q) i l m

-- ---- the content of an accepted chart

module _ (numbers names : List ℕ) (h : keeps_rules numbers names ≡ Done) where
  abbrev chart : Chart
  chart = chart_of numbers

  abbrev tree : Tree chart
  tree = (accepted_sound numbers names h).tree

  abbrev back : ℕ → Row
  back i = row_back numbers names i

  parent_is : (i : ℕ) → (back i).parent ≡ parent chart i
  unfolding row_back parent_at
  parent_is i = refl

  parent_in : (i : ℕ) → suc i < row_count numbers → mem (parent chart (suc i)) (i ∷ ancestors chart i) ≡ true
  unfolding parent_fits
  parent_in i l =
      (and3 (not (is_root (kind chart (suc i)))) (mem (parent chart (suc i)) (i ∷ ancestors chart i)) (may_stand (kind chart (parent chart (suc i))) (kind chart (suc i))) (parent_fits_lem chart tree (suc i) l)).1

  row_above : (i : ℕ) → 1 ≤ (back (suc i)).kind
  unfolding row_back
  row_above i = kind_above (row_cell numbers (suc i) 0) (unfold kind_at in not_root chart tree i)

  laid_from : (k i : ℕ) → suc i + k ≤ row_count numbers → Laid (i ∷ ancestors chart i) (suc i) (map back (from k (suc i)))
  unfolding from
  laid_from zero i l = laid_out
  laid_from (suc k) i l =
      lays (ancestors chart (back (suc i)).parent) (row_above i)
      (subst (λ (p : ℕ). closed_rows p (i ∷ ancestors chart i) ≡ p ∷ ancestors chart p) (sym (parent_is (suc i))) (path_closed chart tree i (parent chart (suc i)) i (omega arith) (parent_in i (omega arith))))
      (subst (λ (path : List ℕ). Laid (suc i ∷ path) (suc (suc i)) (map back (from k (suc (suc i))))) (climb_one chart tree i ∙ ap (λ (p : ℕ). p ∷ ancestors chart p) (sym (parent_is (suc i)))) (laid_from k (suc i) (omega arith)))

  -- ---- ids

  id_at_lem : (k i j : ℕ) → j < k → id_of (map back (from k i)) j ≡ (back (i + j)).id
  unfolding from id_of
  id_at_lem zero i j l = absurd (omega arith)
  id_at_lem (suc k) i zero l = ap (λ (x : ℕ). (back x).id) (plus i)
    where
      plus : (a : ℕ) → a ≡ a + 0
      plus a = omega arith
  id_at_lem (suc k) i (suc j) l = id_at_lem k (suc i) j (omega arith) ∙ ap (λ (x : ℕ). (back x).id) (shift i j)
    where
      shift : (a b : ℕ) → suc a + b ≡ a + suc b
      shift a b = omega arith

  ids_differ : (i j : ℕ) → suc i < row_count numbers → suc j < row_count numbers → same (back (suc i)).id (back (suc j)).id ≡ true → i ≡ j
  unfolding id_differs
  ids_differ i j l m e =
      by (each_below (id_differs numbers names (suc i)) (row_count numbers) (id_parts_of numbers names h i l).2 (suc j) m) (ap₂ same (sym (id_is numbers names h i l)) (sym (id_is numbers names h j m)) ∙ e)
    where
      by : (eqb (suc j) 0 || eqb (suc i) (suc j) || not (same (name_at names (id_at numbers (suc i))) (name_at names (id_at numbers (suc j))))) ≡ true →
          same (name_at names (id_at numbers (suc i))) (name_at names (id_at numbers (suc j))) ≡ true → i ≡ j
      by d s =
          or_elim (eqb (suc j) 0 || eqb (suc i) (suc j)) (not (same (name_at names (id_at numbers (suc i))) (name_at names (id_at numbers (suc j)))))
          (λ x. or_elim (eqb (suc j) 0) (eqb (suc i) (suc j)) (λ y. let q : suc j ≡ 0 = eqb-true (suc j) 0 y in absurd (omega arith)) (λ y. let q : suc i ≡ suc j = eqb-true (suc i) (suc j) y in omega arith) x)
          (λ x. absurd (clash _ s (not-true _ x))) d

  differ : (m : ℕ) → row_count numbers ≡ suc m → Differ (map back (from m 1))
  differ m e =
      record {
        only =
            λ (i j : ℕ) (a : i < length (map back (from m 1))) (b : j < length (map back (from m 1))) (s : same (id_of (map back (from m 1)) i) (id_of (map back (from m 1)) j) ≡ true).
            let u : i < m = subst (λ (k : ℕ). i < k) (map_length back m 1) a in
            let v : j < m = subst (λ (k : ℕ). j < k) (map_length back m 1) b in
            ids_differ i j (omega arith) (omega arith)
            (ap₂ same (ap (λ (x : ℕ). (back x).id) (one_more i) ∙ sym (id_at_lem m 1 i u)) (ap (λ (x : ℕ). (back x).id) (one_more j) ∙ sym (id_at_lem m 1 j v)) ∙ s);
      }
    where
      one_more : (a : ℕ) → suc a ≡ 1 + a
      one_more a = omega arith

  -- ---- rows and transitions

  pub few_rows : row_count numbers ≤ 256
  unfolding rule1 counts_fit
  few_rows =
      leb-true (row_count numbers) 256
      (and7 (leb 1 (row_count numbers)) (leb (row_count numbers) most_rows) (leb (transition_count numbers) most_transitions) (leb (name_count numbers) most_names) _ _ _
      (and7 (counts_fit numbers) (sizes_fit numbers names (compiled_size numbers) (length names)) _ _ _ _ _ (accepted_rule1 numbers names h)).0).1

  all_rows : (k i : ℕ) → suc i + k ≤ row_count numbers → AllOf (RowFits (row_count numbers)) (map back (from k (suc i)))
  unfolding from
  all_rows zero i l = no_more
  all_rows (suc k) i l = more (row_fits numbers names h i (omega arith)) (all_rows k (suc i) (omega arith))

  all_transitions : (k t : ℕ) → t + k ≤ transition_count numbers → AllOf (TransitionFits (row_count numbers)) (map (transition_back numbers names) (from k t))
  unfolding from
  all_transitions zero t l = no_more
  all_transitions (suc k) t l = more (transition_fits_lem numbers names h t (omega arith)) (all_transitions k (suc t) (omega arith))

  root_parent : (back 0).parent ≡ no_number
  root_parent = parent_is 0 ∙ eqb-true (parent chart 0) no_number (and_right (is_root (kind chart 0)) (eqb (parent chart 0) no_number) (unfold parent_fits in parent_fits_lem chart tree 0 (some_row numbers names h)))

  pub count_rows : length (content numbers names).rows ≡ row_count numbers
  unfolding content
  count_rows = map_length back (row_count numbers) 0

  pub with_root : (m : ℕ) → row_count numbers ≡ suc m → (content numbers names).rows ≡ back 0 ∷ map back (from m 1)
  with_root m e = shown ∙ ap (λ (k : ℕ). map back (from k 0)) e ∙ first
    where
      shown : (content numbers names).rows ≡ map back (from (row_count numbers) 0)
      shown = unfold content in refl

      first : map back (from (suc m) 0) ≡ back 0 ∷ map back (from m 1)
      first = unfold from in refl

  transitions_are : (content numbers names).transitions ≡ map (transition_back numbers names) (from (transition_count numbers) 0)
  unfolding content
  transitions_are = refl

  sound_by : (m : ℕ) → row_count numbers ≡ suc m → Sound (content numbers names)
  sound_by m e =
      record {
        root = back 0;
        others = map back (from m 1);
        rows_are = with_root m e;
        root_kind = root_kind_is numbers names h;
        root_parent = root_parent;
        laid = subst (λ (p : List ℕ). Laid (0 ∷ p) 1 (map back (from m 1))) (no_ancestors chart tree) (laid_from m 0 (omega arith));
        root_fits = subst (λ (k : ℕ). RowFits k (back 0)) (sym count_rows) (root_fits numbers names h);
        rows_fit = subst (λ (k : ℕ). AllOf (RowFits k) (map back (from m 1))) (sym count_rows) (all_rows m 0 (omega arith));
        transitions_fit =
            subst (λ (k : ℕ). AllOf (TransitionFits k) (content numbers names).transitions) (sym count_rows)
            (subst (AllOf (TransitionFits (row_count numbers))) (sym transitions_are) (all_transitions (transition_count numbers) 0 (omega arith)));
        ordered =
            subst (λ (k : ℕ). Ordered k 0 (content numbers names).transitions) (sym count_rows) (subst (Ordered (row_count numbers) 0) (sym transitions_are) (transitions_ordered numbers names h));
        few = let a = few_rows in let b = count_rows in omega arith;
        differ = differ m e;
      }

  -- the content of an accepted chart is sound
  pub content_sound : Sound (content numbers names)
  content_sound = by (row_count numbers) refl (some_row numbers names h)
    where
      by : (k : ℕ) → row_count numbers ≡ k → 0 < k → Sound (content numbers names)
      by zero e l = absurd (omega arith)
      by (suc m) e l = sound_by m e

  -- ---- what is written of an accepted chart

  -- every accepted chart can be written: its text is of the grammar, whatever its length
  pub text_stands : is_text (print (content numbers names)) ≡ true
  text_stands = written_text (content numbers names) content_sound

  -- of at most 32,768 bytes it is of the grammar and has no fault
  pub text_read : length (print (content numbers names)) ≤ 32768 → (in_grammar (print (content numbers names)) ≡ true) × (first_fault (tags_of (print (content numbers names))) ≡ none)
  text_read l = (written_grammar (content numbers names) content_sound l, written_faultless (content numbers names) content_sound)

  -- and its content is the chart's
  pub text_content : content_of (tags_of (print (content numbers names))) ≡ content numbers names
  text_content = written_content (content numbers names) content_sound

-- "written alike" (4.4): accepted charts with the same text have the same content
pub alike : (numbers names others other_names : List ℕ) → keeps_rules numbers names ≡ Done → keeps_rules others other_names ≡ Done → print (content numbers names) ≡ print (content others other_names) →
    content numbers names ≡ content others other_names
alike numbers names others other_names h k e = written_alike (content numbers names) (content others other_names) (content_sound numbers names h) (content_sound others other_names k) e
