-- What compiling answers and leaves behind, and what the check says of a place.
use Rattle.std.specs.Prelude.{◌≡◌, Bool, true, false, cond, ℕ, ◌+◌, ◌≤◌, ◌<◌, eqb, length, take, drop}
use Rattle.std.proofs.Math.Path.{refl, sym, ap}
use Rattle.std.proofs.Common.{◌∙◌, length-append, take-append-drop, eq-eqb, eqb-true}
use mathlib.Core.List.{List, [], ◌∷◌, ◌++◌, append-nil}
use native.Mathlib.Omega.{arith}
use Rattle.std.proofs.Math.ListN.{length-drop}
use Rattle.std.proofs.Math.Seq.{length-take-le}
use Rattle.definition.specs.declared.Answer.{Answer}
use Rattle.definition.specs.declared.Answer.TheVariants.{Done}
use Rattle.definition.specs.Rows.{same, all, from, mem}
use Rattle.definition.specs.Tables.{tables_size, row_count, chart_of}
use Rattle.definition.specs.Tree.{ancestors}
use Rattle.definition.specs.Rules.{counts_fit, compiled_size, rule1, rule2, rule3, rule4, rule5, verdict}
use Rattle.definition.specs.Answers.{answer_no}
use Rattle.definition.specs.Compiled.{columns, compiled, own_numbers, is_compiled}
use Rattle.laws.specs.Bools.{clash, not_so, and_left}
use Rattle.laws.specs.Sets.{mem_union}
use Rattle.laws.specs.Passes.{drop_end}
use Rattle.laws.specs.Parts.{part_end}
use Rattle.laws.specs.Answers.{answer_done}
use Rattle.accepted.specs.Sound.{verdict_rule1, verdict_rule2, verdict_sound}
use Rattle.tables.specs.Ranges.{InTables, rule1_tables}
use Rattle.rules3.specs.Parents.{tree_kept, tree_of}
use Rattle.rules3.specs.Ancestry.{set_of, Climbed}
use Rattle.rules.specs.Verdict.{first_three, three_3, three_parts, unbroken}
use Rattle.chart.specs.Own.{Sizes, rule1_sizes, compiled_ready}
use Rattle.chart.specs.Readers.{counts_fit_lem}
use Rattle.compiler.specs.Compilable.{Compilable, ColumnsRoom}
use Rattle.compiler.specs.Whole.{lent, back, lent_is, back_is}
use Rattle.compiler.specs.Judged.{rows_in, is_above, above_are, TreeRoom}
use Rattle.compiler.specs.Compared.{above_differ}

abbrev pub is_done : Answer → Bool
is_done a = eqb (answer_no a) 0

-- the answer; and the two places afterwards: the compiled chart and its names, or what was there
pub record Compiles (numbers names place name_place_is : List ℕ) (answer : Answer) (after names_after : List ℕ) : Type 0 where
  pub is : answer ≡ verdict numbers names (length place) (length name_place_is)
  pub chart : after ≡ cond (is_done answer) (compiled numbers) place
  pub slots : names_after ≡ cond (is_done answer) names name_place_is

-- ---- the sizes that the counts ask for

pub size_none : (fit : Bool) (n : ℕ) → fit ≡ false → 0 ≡ cond fit n 0
size_none fit n e = rw e

pub size_some : (fit : Bool) (n r : ℕ) → fit ≡ true → r ≡ n → r ≡ cond fit n 0
size_some fit n r e f = rw (e) f

-- ---- numbers that keep the rules

module _ (numbers names : List ℕ) (room names_room : ℕ) (kept : verdict numbers names room names_room ≡ Done) where
  pub verdict_compilable : Compilable numbers
  verdict_compilable = record {
    tables = rule1_tables numbers names room names_room (verdict_rule1 numbers names room names_room kept);
    sound = verdict_sound numbers names room names_room kept;
  }

  pub verdict_sizes : Sizes numbers names room names_room
  verdict_sizes = rule1_sizes numbers names room names_room (verdict_rule1 numbers names room names_room kept)

  -- the sets fill what the numbers leave
  pub columns_room : (sets : List ℕ) → length numbers + length sets ≡ room → ColumnsRoom numbers sets
  unfolding compiled_size
  columns_room sets e =
      let z = verdict_sizes in
      let p = z.place in
      let q = z.tables in
      record { numbers_keep = verdict_compilable; room = omega arith }

-- ---- compiling

pub refused : (numbers names place name_place_is : List ℕ) (a : Answer) → a ≡ verdict numbers names (length place) (length name_place_is) → is_done a ≡ false →
    Compiles numbers names place name_place_is a place name_place_is
refused numbers names place name_place_is a e d = record { is = e; chart = rw d; slots = rw d }

module _ (numbers names place name_place_is copy : List ℕ) (a : Answer) (e : a ≡ verdict numbers names (length place) (length name_place_is)) (d : a ≡ Done)
    (copied : copy ≡ numbers ++ drop (length numbers) place) where
  kept : verdict numbers names (length place) (length name_place_is) ≡ Done
  kept = sym e ∙ d

  inside : length numbers ≤ length place
  unfolding compiled_size
  inside = let z = verdict_sizes numbers names (length place) (length name_place_is) kept in let p = z.place in let q = z.tables in omega arith

  copy_size : length copy ≡ length place
  copy_size = let l = inside in ap length copied ∙ length-append numbers (drop (length numbers) place) ∙ rw (length-drop (length numbers) place) (omega arith)

  behind : lent (length numbers) copy ≡ drop (length numbers) place
  behind = lent_is numbers (drop (length numbers) place) copy (length numbers) copied refl

  pub behind_room : ColumnsRoom numbers (lent (length numbers) copy)
  behind_room =
      let l = inside in
      columns_room numbers names (length place) (length name_place_is) kept (lent (length numbers) copy)
      (rw behind (rw (length-drop (length numbers) place) (omega arith)))

  pub accepted : (sets slots : List ℕ) → sets ≡ columns (chart_of numbers) → slots ≡ names ++ drop (length names) name_place_is →
      Compiles numbers names place name_place_is Done (back (length numbers) copy sets) slots
  unfolding compiled answer_no
  accepted sets slots f g =
      let s = (verdict_sizes numbers names (length place) (length name_place_is) kept).name_place_is in
      record {
        is = sym kept;
        chart = back_is numbers (drop (length numbers) place) copy (length numbers) copied refl sets ∙ rw f;
        slots = g ∙ rw (drop_end (length names) name_place_is (omega arith), append-nil names);
      }

-- the copy holds the numbers
pub copy_holds : (numbers place copy : List ℕ) → copy ≡ numbers ++ drop (length numbers) place → length numbers ≤ length copy
copy_holds numbers place copy e = let s = ap length e ∙ length-append numbers (drop (length numbers) place) in omega arith

-- the copies fit
pub numbers_fit : (numbers names place name_place_is : List ℕ) (a : Answer) → a ≡ verdict numbers names (length place) (length name_place_is) → a ≡ Done → length numbers ≤ length place
numbers_fit numbers names place name_place_is a e d = inside numbers names place name_place_is (numbers ++ drop (length numbers) place) a e d refl

pub names_fit : (numbers names place name_place_is : List ℕ) (a : Answer) → a ≡ verdict numbers names (length place) (length name_place_is) → a ≡ Done → length names ≤ length name_place_is
names_fit numbers names place name_place_is a e d =
    let s = (verdict_sizes numbers names (length place) (length name_place_is) (sym e ∙ d)).name_place_is in omega arith

-- ---- the check

module _ (place names : List ℕ) where
  pub no_counts : counts_fit place ≡ false → false ≡ is_compiled place names
  no_counts h =
      sym (not_so (is_compiled place names) (λ e. clash (counts_fit place) (counts_fit_lem place (compiled_ready place names e).ready.tables.sized.counts) h))

  pub too_short : (n : ℕ) → n ≡ tables_size place → length place < n → false ≡ is_compiled place names
  too_short n e l =
      sym (not_so (is_compiled place names) (λ h. let s = (compiled_ready place names h).ready.tables.sized.size in omega arith))

same_behind : (p xs ys : List ℕ) → same (p ++ xs) (p ++ ys) ≡ same xs ys
unfolding same
same_behind [] xs ys = refl
same_behind (x ∷ p) xs ys = rw (eq-eqb x x refl) (same_behind p xs ys)

module _ (place names : List ℕ) (n : ℕ) (a : Answer) (size : n ≡ tables_size place) (e : a ≡ verdict (take n place) names (length place) (length names)) (d : a ≡ Done)
    (l : n ≤ length place) where
  pub check_room : ColumnsRoom (take n place) (lent n place)
  check_room =
      columns_room (take n place) names (length place) (length names) (sym e ∙ d) (lent n place)
      (rw (part_end n place, length-take-le n place l, length-drop n place) (omega arith))

  pub checked : (b : Bool) → b ≡ same (lent n place) (columns (chart_of (take n place))) → b ≡ is_compiled place names
  unfolding is_compiled own_numbers compiled answer_no
  checked b f =
      f ∙ rw (part_end n place, ← size, ← e, d)
      (sym (ap (λ (xs : List ℕ). same xs (take n place ++ columns (chart_of (take n place)))) (sym (take-append-drop n place)) ∙
      same_behind (take n place) (drop n place) (columns (chart_of (take n place)))))

-- ---- the check, rule by rule

module _ (place names : List ℕ) (n : ℕ) (size : n ≡ tables_size place) (l : n ≤ length place) where
  abbrev own : List ℕ
  own = take n place

  abbrev held : List ℕ
  held = lent n place

  kept_done : is_compiled place names ≡ true → verdict own names (length place) (length names) ≡ Done
  unfolding is_compiled own_numbers
  kept_done h =
      rw size (answer_done _ (eqb-true _ _ (and_left (eqb (answer_no (verdict (take (tables_size place) place) names (length place) (length names))) 0) _ h)))

  refuse : (b : Bool) → (verdict own names (length place) (length names) ≡ Done → b ≡ true) → b ≡ false → false ≡ is_compiled place names
  refuse b f h = sym (not_so (is_compiled place names) (λ e. clash b (f (kept_done e)) h))

  pub refused_tables : (b : Bool) → b ≡ first_three own names (length place) (length names) → b ≡ false → false ≡ is_compiled place names
  refused_tables b e =
      refuse b (λ d. e ∙ sym (three_3 own names (length place) (length names) true (verdict_rule1 own names (length place) (length names) d)
      (verdict_rule2 own names (length place) (length names) d) (sym (verdict_sound own names (length place) (length names) d).tree.rule)))

  pub refused_lists : (b : Bool) → b ≡ rule4 (chart_of own) → b ≡ false → false ≡ is_compiled place names
  refused_lists b e = refuse b (λ d. e ∙ (verdict_sound own names (length place) (length names) d).list_rule)

  pub refused_transitions : (b : Bool) → b ≡ rule5 (chart_of own) → b ≡ false → false ≡ is_compiled place names
  refused_transitions b e = refuse b (λ d. e ∙ (verdict_sound own names (length place) (length names) d).transition_rule)

  pub refused_above : (b : Bool) → b ≡ all (is_above (chart_of own) held) (from (row_count own) 0) → b ≡ false → false ≡ is_compiled place names
  refused_above b e h =
      sym (not_so (is_compiled place names) (λ k.
      let d = kept_done k in
      let r = check_room place names n Done size (sym d) refl l in
      clash (is_compiled place names) k
      (sym (above_differ own (row_count own) refl r.numbers_keep held r.room b e h ∙ checked place names n Done size (sym d) refl l (same held (columns (chart_of own))) refl))))

  module _ (b1 : Bool) (e1 : b1 ≡ first_three own names (length place) (length names)) (g1 : b1 ≡ true) where
    abbrev parts : (rule1 own names (length place) (length names) ≡ true) × (rule2 own names ≡ true) × (rule3 (chart_of own) ≡ true)
    parts = three_parts own names (length place) (length names) (sym e1 ∙ g1)

    pub own_tables : InTables own
    own_tables = rule1_tables own names (length place) (length names) parts.0

    pub own_tree : TreeRoom own held
    unfolding compiled_size
    own_tree =
        let z = rule1_sizes own names (length place) (length names) parts.0 in
        let p = z.place in
        let q = z.tables in
        let s = length-take-le n place l in
        record { tree = tree_kept own own_tables parts.2; room = rw (part_end n place, length-drop n place) (omega arith) }

    pub own_climbed : (b2 : Bool) → b2 ≡ all (is_above (chart_of own) held) (from (row_count own) 0) → b2 ≡ true → Climbed own held
    unfolding set_of rows_in mem
    own_climbed b2 e2 g2 =
        record {
          tree = own_tree.tree;
          rule = parts.2;
          ancestry = record {
            size = own_tree.room;
            at = λ i k a. ap (mem a) (above_are (chart_of own) (tree_of own own_tables parts.2) held (sym e2 ∙ g2) i k) ∙ mem_union a [] (ancestors (chart_of own) i);
          };
        }

    pub own_kept : (b4 b5 : Bool) → b4 ≡ rule4 (chart_of own) → b4 ≡ true → b5 ≡ rule5 (chart_of own) → b5 ≡ true → Done ≡ verdict own names (length place) (length names)
    own_kept b4 b5 e4 g4 e5 g5 = unbroken own names (length place) (length names) parts.0 parts.1 parts.2 (sym e4 ∙ g4) (sym e5 ∙ g5)
