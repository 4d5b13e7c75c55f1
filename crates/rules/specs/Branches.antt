-- Rule 5 of blocks, as they are read: one pass over a block, and charts without an if.
use Rattle.std.specs.Prelude.{◌≡◌, Bool, ◌&&◌, eqb, leb, get_or}
use Rattle.std.proofs.Math.Path.{refl, sym}
use Rattle.std.proofs.Common.{ap, ◌∙◌, add-one, drop-cons}
use Rattle.std.proofs.Math.Bool.{true, false}
use mathlib.Core.List.{List, [], ◌∷◌, map}
use Rattle.std.proofs.Math.Option.{some}
use Prim.Native.Nat.{ℕ, zero, suc, ◌+◌, ◌≤◌, ◌<◌}
use native.Mathlib.Omega.{arith}
use Rattle.std.proofs.Math.ListN.{length, drop, drop_of_length-le}
use borrow.Author.Tests.{leb-true, le-leb, lt-leb, ltb-true}
use Rattle.definition.specs.declared.Action.{Action}
use Rattle.definition.specs.declared.Action.TheVariants.{Raise, Host, If, ElseIf, Else, End, Send, Cancel}
use Rattle.definition.specs.Rows.{all, from, is_empty}
use Rattle.definition.specs.Chart.{Chart}
use Rattle.definition.specs.Tables.{row_count, transition_count, action_count, row_cell, transition_cell, action_cell, action_at, action_of, block_at, entry_at, exit_at, list_block_at, transition_block_at, chart_of}
use Rattle.definition.specs.Rules.{condition_fits, nests, test_fits, branches_fit, row_branches_fit, transition_branches_fit, transition_fits, rule5}
use Rattle.laws.specs.Bools.{and_false, and_true}
use Rattle.laws.specs.Loops.{each_below, below_each}
use Rattle.laws.specs.Maps.{all_at}
use Rattle.tables.specs.Ranges.{InTables, RowIn, row_fits, transition_fits_lem}
use Rattle.tables.specs.Actions.{fits_number}
use Rattle.tables.specs.Parts.{actions_of, BlockOf}
use Rattle.rules.specs.Nesting.{step_no, nests_no, nests_begin, step_low}

-- ---- the row of an In

module _ (numbers : List ℕ) (a : Action) (i : ℕ) (h : InTables numbers) (f : fits_number numbers a ≡ true) where
  pub if_row : a ≡ If i → RowIn numbers i
  unfolding fits_number
  if_row e = record { tables = h; below = ltb-true _ _ (rw e at f) }

  pub elseif_row : a ≡ ElseIf i → RowIn numbers i
  unfolding fits_number
  elseif_row e = record { tables = h; below = ltb-true _ _ (rw e at f) }

module _ (c : Chart) (a : Action) where
  pub test_raise : (n : ℕ) → a ≡ Raise n → true ≡ test_fits c a
  unfolding test_fits
  test_raise n e = sym (rw e)

  pub test_host : (n : ℕ) → a ≡ Host n → true ≡ test_fits c a
  unfolding test_fits
  test_host n e = sym (rw e)

  pub test_send : (n delay id : ℕ) → a ≡ Send n delay id → true ≡ test_fits c a
  unfolding test_fits
  test_send n delay id e = sym (rw e)

  pub test_cancel : (n : ℕ) → a ≡ Cancel n → true ≡ test_fits c a
  unfolding test_fits
  test_cancel n e = sym (rw e)

  pub test_if : (i k : ℕ) (b : Bool) → a ≡ If i → k ≡ i → b ≡ condition_fits c (some k) → b ≡ test_fits c a
  unfolding test_fits
  test_if i k b e q h = h ∙ sym (rw (e, q))

  pub test_elseif : (i k : ℕ) (b : Bool) → a ≡ ElseIf i → k ≡ i → b ≡ condition_fits c (some k) → b ≡ test_fits c a
  unfolding test_fits
  test_elseif i k b e q h = h ∙ sym (rw (e, q))

  pub test_else : a ≡ Else → true ≡ test_fits c a
  unfolding test_fits
  test_else e = sym (rw e)

  pub test_end : a ≡ End → true ≡ test_fits c a
  unfolding test_fits
  test_end e = sym (rw e)

-- ---- one pass over a block: what is left says what the whole says

pub record Judging (c : Chart) (xs : List Action) (n ifs k : ℕ) : Type 0 where
  pub size : n ≡ length xs
  pub low : ifs < 32
  pub nested : nests [] xs ≡ nests_no ifs (drop k xs)
  pub tested : all (test_fits c) xs ≡ all (test_fits c) (drop k xs)

pub judging_begin : (c : Chart) (xs : List Action) (n : ℕ) → n ≡ length xs → Judging c xs n 1 0
judging_begin c xs n e = record { size = e; low = omega arith; nested = nests_begin xs; tested = refl }

module _ (c : Chart) (xs : List Action) (n ifs k : ℕ) (p : Judging c xs n ifs k) where
  pub judging_end : n ≤ k → eqb ifs 1 ≡ branches_fit c xs
  unfolding branches_fit nests_no all
  judging_end l =
      let e = p.size in
      let g : length xs ≤ k = omega arith in
      let q : drop k xs ≡ [] = drop_of_length-le xs g in
      sym (rw (p.nested, p.tested, q) (both (eqb ifs 1)))
    where
      both : (b : Bool) → (b && true) ≡ b
      both true = refl
      both false = refl

  module _ (l : k < n) (a : Action) (e : a ≡ get_or xs k (Raise 0)) where
    next : drop k xs ≡ get_or xs k (Raise 0) ∷ drop (k + 1) xs
    next = let q = p.size in rw (add-one k) (drop-cons xs k (Raise 0) (omega arith))

    pub judging_fits : (numbers : List ℕ) → all (fits_number numbers) xs ≡ true → fits_number numbers a ≡ true
    judging_fits numbers h = let q = p.size in rw e (all_at (fits_number numbers) xs (Raise 0) h k (omega arith))

    pub judging_leave : test_fits c a ≡ false → false ≡ branches_fit c xs
    unfolding branches_fit all
    judging_leave h = sym (rw (p.tested, next, ← e, h) (and_false (nests [] xs)))

    pub judging_turn : (m : ℕ) → test_fits c a ≡ true → m ≡ step_no ifs a → Judging c xs n m (k + 1)
    unfolding nests_no all
    judging_turn m h q = record {
      size = p.size;
      low = rw q (step_low ifs a p.low);
      nested = p.nested ∙ rw (next, ← e, q);
      tested = p.tested ∙ rw (next, ← e, h);
    }

pub judging_inside : (b : List ℕ) (n k : ℕ) → n ≡ length (actions_of b) → k < n → k < length (actions_of b)
judging_inside b n k e l = omega arith

-- a block that was read from the tables, for the actions xs
module _ (numbers : List ℕ) (xs : List Action) (b : List ℕ) (h : BlockOf numbers xs b) where
  pub block_numbers : all (fits_number numbers) (actions_of b) ≡ true
  block_numbers = ap (all (fits_number numbers)) h.is ∙ h.fits

  pub block_judged : (r : Bool) → r ≡ branches_fit (chart_of numbers) (actions_of b) → r ≡ branches_fit (chart_of numbers) xs
  block_judged r e = e ∙ ap (branches_fit (chart_of numbers)) h.is

-- ---- a chart without ifs

abbrev pub is_plain_at : List ℕ → ℕ → Bool
is_plain_at numbers a = leb (action_cell numbers a 0) 1

module _ (numbers : List ℕ) (a x : ℕ) (e : x ≡ action_cell numbers a 0) where
  pub plain_said : x < 2 → is_plain_at numbers a ≡ true
  plain_said l = rw (← e) (le-leb x 1 (omega arith))

  pub branch_said : 2 ≤ x → is_plain_at numbers a ≡ false
  branch_said l = rw (← e) (lt-leb x 1 (omega arith))

plain_nests : (k x y z : ℕ) (rest : List Action) → k ≤ 1 → nests [] (action_of k x y z ∷ rest) ≡ nests [] rest
unfolding nests
plain_nests zero x y z rest l = refl
plain_nests (suc zero) x y z rest l = refl
plain_nests (suc (suc k)) x y z rest l = absurd (omega arith)

plain_tests : (c : Chart) (k x y z : ℕ) → k ≤ 1 → test_fits c (action_of k x y z) ≡ true
unfolding test_fits
plain_tests c zero x y z l = refl
plain_tests c (suc zero) x y z l = refl
plain_tests c (suc (suc k)) x y z l = absurd (omega arith)

module _ (numbers : List ℕ) (h : InTables numbers) (plain : all (is_plain_at numbers) (from (action_count numbers) 0) ≡ true) where
  plain_at : (a : ℕ) → a < action_count numbers → action_cell numbers a 0 ≤ 1
  plain_at a l = leb-true _ _ (each_below (is_plain_at numbers) (action_count numbers) plain a l)

  plain_block : (count start : ℕ) → start + count ≤ action_count numbers → (nests [] (map (action_at numbers) (from count start)) ≡ true) × (all (test_fits (chart_of numbers)) (map (action_at numbers) (from count start)) ≡ true)
  unfolding from all nests is_empty action_at
  plain_block zero start l = (refl, refl)
  plain_block (suc count) start l =
      let r = plain_block count (suc start) (omega arith) in
      let m = plain_at start (omega arith) in (
        plain_nests (action_cell numbers start 0) (action_cell numbers start 1) (action_cell numbers start 2) (action_cell numbers start 3) (map (action_at numbers) (from count (suc start))) m ∙ r.0,
        and_true _ _ (plain_tests (chart_of numbers) (action_cell numbers start 0) (action_cell numbers start 1) (action_cell numbers start 2) (action_cell numbers start 3) m) r.1,
      )

  plain_fits : (start count : ℕ) → start + count ≤ action_count numbers → branches_fit (chart_of numbers) (block_at numbers start count) ≡ true
  unfolding branches_fit block_at
  plain_fits start count l = let r = plain_block count start l in and_true _ _ r.0 r.1

  plain_row : (i : ℕ) → i < row_count numbers → row_branches_fit (chart_of numbers) i ≡ true
  unfolding row_branches_fit entry_at exit_at list_block_at
  plain_row i l =
      let f = row_fits numbers i (record { tables = h; below = l }) in
      and_true _ _
      (and_true _ _ (plain_fits (row_cell numbers i 3) (row_cell numbers i 4) f.entry.inside) (plain_fits (row_cell numbers i 5) (row_cell numbers i 6) f.exit.inside))
      (plain_fits (row_cell numbers i 9) (row_cell numbers i 10) f.block.inside)

  plain_transition_lem : (t : ℕ) → t < transition_count numbers → transition_branches_fit (chart_of numbers) t ≡ true
  unfolding transition_branches_fit transition_block_at
  plain_transition_lem t l =
      let f = transition_fits_lem numbers t (record { tables = h; below = l }) in
      plain_fits (transition_cell numbers t 7) (transition_cell numbers t 8) f.block.inside

  pub plain_chart : true ≡ (all (row_branches_fit (chart_of numbers)) (from (row_count numbers) 0) && all (transition_branches_fit (chart_of numbers)) (from (transition_count numbers) 0))
  plain_chart = sym (and_true _ _ (below_each (row_branches_fit (chart_of numbers)) (row_count numbers) plain_row) (below_each (transition_branches_fit (chart_of numbers)) (transition_count numbers) plain_transition_lem))

-- ---- the whole of rule 5

pub both_broken : (a b : Bool) → a ≡ false → false ≡ (a && b)
both_broken a b h = sym (rw h)

pub both_kept : (a b r : Bool) → a ≡ true → r ≡ b → r ≡ (a && b)
both_kept a b r h e = e ∙ sym (rw h)

module _ (c : Chart) where
  pub rule5_broken : all (transition_fits c) (from c.transitions 0) ≡ false → false ≡ rule5 c
  unfolding rule5
  rule5_broken h = sym (rw h)

  pub rule5_kept : (r : Bool) → all (transition_fits c) (from c.transitions 0) ≡ true → r ≡ (all (row_branches_fit c) (from c.rows 0) && all (transition_branches_fit c) (from c.transitions 0)) → r ≡ rule5 c
  unfolding rule5
  rule5_kept r h e = e ∙ sym (rw h)
