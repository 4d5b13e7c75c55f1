-- Compiling loses nothing. What compile wrote passes the check, and the chart that it means is the chart that was lent; what passes the check
-- is what its own numbers compile to.
use Rattle.std.specs.Prelude.{◌≡◌, true, List, ◌++◌, ℕ, ◌+◌, ◌*◌, eqb, length}
use Rattle.std.proofs.Math.Path.{sym}
use Rattle.std.proofs.Common.{ap, ◌∙◌, arith}
use Rattle.std.proofs.Math.ListN.{length-append}
use Rattle.std.proofs.Math.Seq.{take_at}
use Rattle.std.proofs.lemmas.List.{take-append-le}
use borrow.Author.Tests.{eq-eqb, eqb-true}
use Rattle.definition.specs.declared.Answer.{Answer}
use Rattle.definition.specs.declared.Answer.TheVariants.{Done}
use Rattle.definition.specs.Chart.{Chart}
use Rattle.definition.specs.Tables.{tables_size, chart_of}
use Rattle.definition.specs.Tree.{ancestors, descendants, children, default_targets, anchors}
use Rattle.definition.specs.Rules.{compiled_size, verdict}
use Rattle.definition.specs.Answers.{answer_no}
use Rattle.definition.specs.Compiled.{columns, compiled, own_numbers, is_compiled}
use Rattle.laws.specs.Bools.{and_left, and_right}
use Rattle.laws.specs.Lists.{same_eq, same_self}
use Rattle.laws.specs.Answers.{answer_done}
use Rattle.chart.specs.Agree.{agree_size}
use Rattle.chart.specs.Columns.{length_column}
use Rattle.chart.specs.Own.{own_chart, compiled_ready}
use Rattle.compiler.specs.Results.{Compiles, verdict_sizes}

-- ---- from a lent chart to the place

-- the place passes the check, and holds the lent numbers and so the lent chart
pub record Holds (numbers names place : List ℕ) : Type 0 where
  pub checks : is_compiled place names ≡ true
  pub own : own_numbers place ≡ numbers
  pub chart : chart_of (own_numbers place) ≡ chart_of numbers
  -- read from the place itself, sets behind the numbers and all
  pub read : chart_of place ≡ chart_of numbers

length_columns : (c : Chart) → length (columns c) ≡ c.rows * 16 + c.transitions * 4
unfolding columns
length_columns c =
    simp (
      length-append,
      length_column (ancestors c) c.rows,
      length_column (descendants c) c.rows,
      length_column (children c) c.rows,
      length_column (default_targets c) c.rows,
      length_column (anchors c) c.transitions,
    ) (omega arith)

module _ (numbers names : List ℕ) (room names_room : ℕ) (accepted : answer_no (verdict numbers names room names_room) ≡ 0) where
  done : verdict numbers names room names_room ≡ Done
  done = answer_done _ accepted

  own_numbers_lem : own_numbers (compiled numbers) ≡ numbers
  unfolding own_numbers compiled
  own_numbers_lem =
      let e = (verdict_sizes numbers names room names_room done).tables in
      take_at numbers (columns (chart_of numbers)) (tables_size (numbers ++ columns (chart_of numbers)))
      (e ∙ sym (agree_size (numbers ++ columns (chart_of numbers)) numbers (take-append-le (tables_size numbers) numbers (columns (chart_of numbers)) (omega arith))))

  -- what is compiled fills the place
  pub compiled_length : length (compiled numbers) ≡ room
  unfolding compiled compiled_size
  compiled_length =
      let z = verdict_sizes numbers names room names_room done in
      length-append numbers (columns (chart_of numbers)) ∙ rw (length_columns (chart_of numbers), z.tables, z.place) (omega arith)

  passes : is_compiled (compiled numbers) names ≡ true
  unfolding is_compiled
  passes =
      let z = verdict_sizes numbers names room names_room done in
      rw (own_numbers_lem, compiled_length, ← z.name_place_is, eq-eqb _ _ accepted) (same_self (compiled numbers))

  -- numbers and names that keep the rules: their compiled chart holds them
  pub compile_checks : Holds numbers names (compiled numbers)
  compile_checks =
      let e = ap chart_of own_numbers_lem in
      record { checks = passes; own = own_numbers_lem; chart = e; read = sym (own_chart (compiled numbers) (compiled_ready (compiled numbers) names passes).ready.tables) ∙ e }

-- the places that compile leaves with answer 0
module _ (numbers names place name_place_is after names_after : List ℕ) (a : Answer) (c : Compiles numbers names place name_place_is a after names_after) (z : answer_no a ≡ 0) where
  pub names_written : names_after ≡ names
  names_written = c.slots ∙ rw z

  pub place_written : Holds numbers names_after after
  place_written =
      rw (names_written, c.chart, z)
      (compile_checks numbers names (length place) (length name_place_is) (ap answer_no (sym c.is) ∙ z))

-- ---- from a place that passes the check to its chart

-- the numbers that it holds keep the rules, and the place is what they compile to
pub record Checked (place names : List ℕ) : Type 0 where
  pub answer : answer_no (verdict (own_numbers place) names (length place) (length names)) ≡ 0
  pub is : place ≡ compiled (own_numbers place)

pub check_compiled : (place names : List ℕ) → is_compiled place names ≡ true → Checked place names
unfolding is_compiled
check_compiled place names h =
    let said = eqb (answer_no (verdict (own_numbers place) names (length place) (length names))) 0 in
    record { answer = eqb-true _ _ (and_left said _ h); is = same_eq place (compiled (own_numbers place)) (and_right said _ h) }
