-- A chart that passes the check behind refusal 8 is ready to be read.
use Rattle.std.specs.Prelude.{◌≡◌, true, ℕ, ◌+◌, ◌*◌, ◌≤◌, ◌<◌, eqb, length, take}
use Rattle.std.proofs.Math.Path.{sym, ap}
use Rattle.std.proofs.Common.{◌∙◌, le_refl, length-append, take-take, eqb-true}
use mathlib.Core.List.{List, [], ◌++◌, map, append_assoc, append-nil}
use native.Mathlib.Omega.{arith}
use Rattle.definition.specs.declared.Answer.TheVariants.{Done}
use Rattle.definition.specs.Rows.{union}
use Rattle.definition.specs.Chart.{Chart}
use Rattle.definition.specs.Tables.{slot_size, row_count, transition_count, name_count, tables_size, chart_of}
use Rattle.definition.specs.Tree.{ancestors, is_descendant, is_child, descendants, children, default_targets, anchor, anchors}
use Rattle.definition.specs.Rules.{compiled_size, sizes_fit, counts_fit, rule1, verdict}
use Rattle.definition.specs.Answers.{answer_no}
use Rattle.definition.specs.Compiled.{column, columns, compiled, own_numbers, is_compiled}
use Rattle.laws.specs.Bools.{and_left, and_right, and4, and7}
use Rattle.laws.specs.Sets.{ascends_those, ascends_union}
use Rattle.laws.specs.Lists.{same_eq}
use Rattle.laws.specs.Orders.{union_none}
use Rattle.laws.specs.Answers.{answer_done}
use Rattle.accepted.specs.Sound.{Sound, verdict_rule1, verdict_rule2, verdict_sound}
use Rattle.tables.specs.Ranges.{InTables, rule1_tables}
use Rattle.rowset.specs.Member.{rows_of}
use Rattle.chart.specs.Ready.{ancestor_base, descendant_base, child_base, default_base, anchor_base, row_set_at, Ready, CompiledWith}
use Rattle.chart.specs.Columns.{set_of, rows_set_of, length_column, set_in_column}
use Rattle.chart.specs.Inside.{ancestor_inside, descendant_inside, child_inside, default_inside, anchors_inside}
use Rattle.chart.specs.Agree.{agree_names, agree_size, agree_compiled_size, agree_chart, agree_tables}

-- ---- the numbers that a place holds for itself

own_same : (place : List ℕ) → take (tables_size place) (own_numbers place) ≡ take (tables_size place) place
unfolding own_numbers
own_same place = take-take (tables_size place) (tables_size place) place (le_refl (tables_size place))

pub own_size : (place : List ℕ) → tables_size (own_numbers place) ≡ tables_size place
own_size place = agree_size (own_numbers place) place (own_same place)

-- a chart reads its numbers as they are without the sets
pub own_chart : (chart : List ℕ) → InTables chart → chart_of (own_numbers chart) ≡ chart_of chart
own_chart chart h = agree_chart (own_numbers chart) chart (own_same chart) h

-- ---- the sets

module _ (place numbers : List ℕ) (is : place ≡ numbers ++ columns (chart_of place)) (size : length numbers ≡ tables_size place) where
  abbrev c : Chart
  c = chart_of place

  abbrev n : ℕ
  n = row_count place

  ancestor_set : (i : ℕ) → i < n → row_set_at place (ancestor_base place + i * 4) ≡ set_of (ancestors c i)
  unfolding columns
  ancestor_set i l = set_in_column (ancestors c) place numbers
      (column (descendants c) n ++ (column (children c) n ++ (column (default_targets c) n ++ column (anchors c) (transition_count place))))
      n i (ancestor_base place) (is ∙ simp append_assoc) size l

  descendant_set : (i : ℕ) → i < n → row_set_at place (descendant_base place + i * 4) ≡ set_of (descendants c i)
  unfolding columns
  descendant_set i l = set_in_column (descendants c) place (numbers ++ column (ancestors c) n)
      (column (children c) n ++ (column (default_targets c) n ++ column (anchors c) (transition_count place)))
      n i (descendant_base place) (is ∙ simp append_assoc) (simp (length-append, length_column) (omega arith)) l

  child_set : (i : ℕ) → i < n → row_set_at place (child_base place + i * 4) ≡ set_of (children c i)
  unfolding columns
  child_set i l = set_in_column (children c) place (numbers ++ (column (ancestors c) n ++ column (descendants c) n))
      (column (default_targets c) n ++ column (anchors c) (transition_count place))
      n i (child_base place) (is ∙ simp append_assoc) (simp (length-append, length_column) (omega arith)) l

  default_set : (i : ℕ) → i < n → row_set_at place (default_base place + i * 4) ≡ set_of (default_targets c i)
  unfolding columns
  default_set i l = set_in_column (default_targets c) place (numbers ++ (column (ancestors c) n ++ (column (descendants c) n ++ column (children c) n)))
      (column (anchors c) (transition_count place))
      n i (default_base place) (is ∙ simp append_assoc) (simp (length-append, length_column) (omega arith)) l

  anchor_set : (t : ℕ) → t < transition_count place → row_set_at place (anchor_base place + t * 4) ≡ set_of (anchors c t)
  unfolding columns
  anchor_set t l = set_in_column (anchors c) place (numbers ++ (column (ancestors c) n ++ (column (descendants c) n ++ (column (children c) n ++ column (default_targets c) n)))) []
      (transition_count place) t (anchor_base place) (is ∙ simp (append_assoc, append-nil)) (simp (length-append, length_column) (omega arith)) l

  -- what each set lists, of a chart that keeps the rules

  module _ (g : Sound (chart_of place)) (few : row_count place ≤ 256) where
    above_of : (i : ℕ) → i < n → rows_of (row_set_at place (ancestor_base place + i * 4)) ≡ union [] (ancestors c i)
    above_of i l = ap rows_of (ancestor_set i l) ∙ rows_set_of (ancestors c i) (λ k m. omega (arith, ancestor_inside c g i l k m))

    below_of : (i : ℕ) → i < n → rows_of (row_set_at place (descendant_base place + i * 4)) ≡ descendants c i
    below_of i l =
        ap rows_of (descendant_set i l) ∙ rows_set_of (descendants c i) (λ k m. omega (arith, descendant_inside c g i k m)) ∙
        union_none 0 (descendants c i) (unfold descendants in ascends_those c.rows (is_descendant c i))

    kids_of : (i : ℕ) → i < n → rows_of (row_set_at place (child_base place + i * 4)) ≡ children c i
    kids_of i l =
        ap rows_of (child_set i l) ∙ rows_set_of (children c i) (λ k m. omega (arith, child_inside c g i k m)) ∙
        union_none 0 (children c i) (unfold children in ascends_those c.rows (is_child c i))

    defaults_of : (i : ℕ) → i < n → rows_of (row_set_at place (default_base place + i * 4)) ≡ union [] (default_targets c i)
    defaults_of i l = ap rows_of (default_set i l) ∙ rows_set_of (default_targets c i) (λ k m. omega (arith, default_inside c g i l k m))

    anchors_of : (t : ℕ) → t < transition_count place → rows_of (row_set_at place (anchor_base place + t * 4)) ≡ anchors c t
    anchors_of t l =
        ap rows_of (anchor_set t l) ∙ rows_set_of (anchors c t) (λ k m. omega (arith, anchors_inside c g t l k m)) ∙
        union_none 0 (anchors c t) (unfold anchors in ascends_union [] (map (anchor c) (c.transition t).targets) tt)

    pub sets_ready : InTables place → compiled_size place ≡ length place → Ready place
    sets_ready t s = record { tables = t; size = s; above = above_of; below = below_of; kids = kids_of; defaults = defaults_of; anchor_sets = anchors_of; sound = g }

-- ---- the check

-- the sizes of rule 1
pub record Sizes (numbers names : List ℕ) (room names_room : ℕ) : Type 0 where
  pub tables : length numbers ≡ tables_size numbers
  pub slots : length names ≡ name_count numbers * slot_size
  pub place : room ≡ compiled_size numbers
  pub name_place_is : names_room ≡ length names

pub rule1_sizes : (numbers names : List ℕ) (room names_room : ℕ) → rule1 numbers names room names_room ≡ true → Sizes numbers names room names_room
unfolding rule1 sizes_fit
rule1_sizes numbers names room names_room h =
    let p = and4 (eqb (length numbers) (tables_size numbers)) (eqb (length names) (name_count numbers * slot_size)) (eqb room (compiled_size numbers)) (eqb names_room (length names))
    (and7 (counts_fit numbers) (sizes_fit numbers names room names_room) _ _ _ _ _ h).1 in
    record { tables = eqb-true _ _ p.0; slots = eqb-true _ _ p.1; place = eqb-true _ _ p.2; name_place_is = eqb-true _ _ p.3 }

module _ (place names : List ℕ) (h : is_compiled place names ≡ true) where
  kept : verdict (own_numbers place) names (length place) (length names) ≡ Done
  unfolding is_compiled
  kept = answer_done _ (eqb-true _ _ (and_left (eqb (answer_no (verdict (own_numbers place) names (length place) (length names))) 0) _ h))

  equal : place ≡ compiled (own_numbers place)
  unfolding is_compiled
  equal = same_eq place (compiled (own_numbers place)) (and_right (eqb (answer_no (verdict (own_numbers place) names (length place) (length names))) 0) _ h)

  abbrev own : List ℕ
  own = own_numbers place

  first_rule : rule1 own names (length place) (length names) ≡ true
  first_rule = verdict_rule1 own names (length place) (length names) kept

  -- read the other way round
  back : take (tables_size own) place ≡ take (tables_size own) own
  back = rw (own_size place) (sym (own_same place))

  chart_same : chart_of place ≡ chart_of own
  chart_same = agree_chart place own back (rule1_tables own names (length place) (length names) first_rule)

  tables_inside : length place ≡ compiled_size own → tables_size own ≤ length place
  unfolding compiled_size
  tables_inside e = omega arith

  pub compiled_ready : CompiledWith place names
  compiled_ready =
      let z = rule1_sizes own names (length place) (length names) first_rule in
      let inn : InTables place = agree_tables place own back (rule1_tables own names (length place) (length names) first_rule) (tables_inside z.place) in
      let few = inn.sized.counts.rows in
      record {
        ready = sets_ready place own (equal ∙ unfold compiled in ap (λ (c : Chart). own ++ columns c) (sym chart_same)) (z.tables ∙ own_size place)
            (rw chart_same (verdict_sound own names (length place) (length names) kept)) (omega arith) inn (agree_compiled_size place own back ∙ sym z.place);
        names_size = z.slots ∙ ap (λ (k : ℕ). k * slot_size) (agree_names own place (own_same place));
        rule2 = verdict_rule2 own names (length place) (length names) kept;
      }
