-- Every name that an accepted chart uses stands in its table of names.
use Rattle.std.specs.Prelude.{◌≡◌, Bool, true, false, ◌||◌, cond, eqb, leb, ltb}
use Rattle.std.proofs.Math.Path.{refl}
use Rattle.std.proofs.Common.{sym, arith}
use mathlib.Core.List.{List, [], ◌∷◌, ◌++◌, map}
use Rattle.std.proofs.Math.Option.{none, some}
use Prim.Native.Nat.{ℕ, zero, suc, ◌≤◌, ◌<◌, ◌+◌}
use borrow.Author.Tests.{ltb-true, not-true}
use Rattle.definition.specs.declared.Answer.TheVariants.{Done}
use Rattle.definition.specs.Rows.{from, flat}
use Rattle.definition.specs.Tables.{most_delay, no_number, row_count, transition_count, action_count, name_count, row_cell, transition_cell, action_cell, action_of, action_at, id_at, descriptors_at, name_at}
use Rattle.definition.specs.Rules.{optional_below, arguments_fit, row_in_range, keeps_rules}
use Rattle.reading.specs.Content.{sends, Transition, Content, of_source}
use Rattle.reading.specs.Layout.{act_of, acts_at, row_back, transition_back, content}
use Rattle.laws.specs.Bools.{and3, and7, or_elim, clash}
use Rattle.written.specs.Sound.{AllOf, no_more, more}
use Rattle.written.specs.Values.{all_both}
use Rattle.written.specs.Laid.{all_of_source}
use Rattle.written.specs.Uses.{act_uses}
use Rattle.written.specs.RowUses.{transition_uses, inner_uses, uses_from}
use Rattle.written.specs.TableBlocks.{accepted_root, Acts, act_stands, look, all_from}
use Rattle.written.specs.TableRows.{row_range, row_inside}
use Rattle.written.specs.AcceptedRows.{id_parts_of, id_is}
use Rattle.written.specs.AcceptedTransitions.{Named, named, transition_inside, all_mapped}

-- the name of a number of the table
pub record Origin (numbers names v : List ℕ) : Type 0 where
  pub number : ℕ
  pub below : number < name_count numbers
  pub is : name_at names number ≡ v

module _ (numbers names : List ℕ) (h : keeps_rules numbers names ≡ Done) where
  origin : (x : ℕ) → ltb x (name_count numbers) ≡ true → Origin numbers names (name_at names x)
  origin x l = record { number = x; below = ltb-true x (name_count numbers) l; is = refl }

  send_origin : (x y z : ℕ) → ltb x (name_count numbers) ≡ true → optional_below (name_count numbers) z ≡ true →
      AllOf (Origin numbers names) (act_uses (sends (name_at names x) y (cond (eqb z no_number) none (some (name_at names z)))))
  send_origin x y z l o = by (eqb z no_number) o
    where
      by : (b : Bool) → (b || ltb z (name_count numbers)) ≡ true → AllOf (Origin numbers names) (act_uses (sends (name_at names x) y (cond b none (some (name_at names z)))))
      by true h = more (origin x l) no_more
      by false h = more (origin z h) (more (origin x l) no_more)

  act_origin : (k x y z : ℕ) → k ≤ 7 → arguments_fit numbers (action_of k x y z) x y z ≡ true → AllOf (Origin numbers names) (act_uses (act_of (name_at names) k x y z))
  unfolding arguments_fit
  act_origin zero x y z l a = more (origin x (and3 (ltb x (name_count numbers)) (eqb y 0) (eqb z 0) a).0) no_more
  act_origin (suc zero) x y z l a = no_more
  act_origin (suc (suc zero)) x y z l a = no_more
  act_origin (suc (suc (suc zero))) x y z l a = no_more
  act_origin (suc (suc (suc (suc zero)))) x y z l a = no_more
  act_origin (suc (suc (suc (suc (suc zero))))) x y z l a = no_more
  act_origin (suc (suc (suc (suc (suc (suc zero)))))) x y z l a =
      let f = and3 (ltb x (name_count numbers)) (leb y most_delay) (optional_below (name_count numbers) z) a in
      send_origin x y z f.0 f.2
  act_origin (suc (suc (suc (suc (suc (suc (suc zero))))))) x y z l a = more (origin x (and3 (ltb x (name_count numbers)) (eqb y 0) (eqb z 0) a).0) no_more
  act_origin (suc (suc (suc (suc (suc (suc (suc (suc k)))))))) x y z l a = absurd (omega arith)

  acts_origin : (xs : List ℕ) → AllOf (Acts numbers names (accepted_root numbers names h)) xs → AllOf (Origin numbers names) (flat act_uses (map (look numbers names (accepted_root numbers names h)) xs))
  unfolding flat action_at
  acts_origin [] no_more = no_more
  acts_origin (a ∷ xs) (more f g) =
      all_both (act_origin (action_cell numbers a 0) (action_cell numbers a 1) (action_cell numbers a 2) (action_cell numbers a 3) f.low f.arguments) (acts_origin xs g)

  block_origin : (start count : ℕ) → start + count ≤ action_count numbers → AllOf (Origin numbers names) (flat act_uses (acts_at numbers names start count))
  unfolding acts_at
  block_origin start count l =
      acts_origin (from count start) (all_from {P = Acts numbers names (accepted_root numbers names h)} count start (λ (j : ℕ) (g : start ≤ j) (k : j < start + count). act_stands numbers names h j (omega arith)))

  -- ---- rows

  id_below : (i : ℕ) → suc i < row_count numbers → id_at numbers (suc i) < name_count numbers
  unfolding row_in_range id_at
  id_below i l =
      or_elim (eqb (row_cell numbers (suc i) 2) no_number) (ltb (row_cell numbers (suc i) 2) (name_count numbers))
      (λ e. absurd (clash _ e (not-true (eqb (id_at numbers (suc i)) no_number) (id_parts_of numbers names h i l).0))) (λ e. ltb-true _ _ e)
      (and7 (leb (row_cell numbers (suc i) 0) 5) (optional_below (row_count numbers) (row_cell numbers (suc i) 1)) (optional_below (name_count numbers) (row_cell numbers (suc i) 2)) _ _ _ _ (row_range numbers names h (suc i) l)).2

  id_origin : (i : ℕ) → suc i < row_count numbers → Origin numbers names (row_back numbers names (suc i)).id
  id_origin i l = record { number = id_at numbers (suc i); below = id_below i l; is = sym (id_is numbers names h i l) }

  entry_origin : (i : ℕ) → i < row_count numbers → AllOf (Origin numbers names) (flat act_uses (row_back numbers names i).entry)
  unfolding row_back
  entry_origin i l = block_origin (row_cell numbers i 3) (row_cell numbers i 4) (row_inside numbers names h i l).entries

  exit_origin : (i : ℕ) → i < row_count numbers → AllOf (Origin numbers names) (flat act_uses (row_back numbers names i).exit)
  unfolding row_back
  exit_origin i l = block_origin (row_cell numbers i 5) (row_cell numbers i 6) (row_inside numbers names h i l).exits

  list_origin : (i : ℕ) → i < row_count numbers → AllOf (Origin numbers names) (flat act_uses (row_back numbers names i).block)
  unfolding row_back
  list_origin i l = block_origin (row_cell numbers i 9) (row_cell numbers i 10) (row_inside numbers names h i l).blocks

  -- ---- transitions

  record FromTable (t : Transition) : Type 0 where
    pub origins : AllOf (Origin numbers names) (transition_uses t)

  transition_origin : (t : ℕ) → t < transition_count numbers → FromTable (transition_back numbers names t)
  unfolding transition_back
  transition_origin t l =
      record {
        origins =
            all_both
            (all_mapped (name_at names) (λ (d : ℕ) (n : Named numbers names h d). record { number = d; below = n.below; is = refl }) (descriptors_at numbers (transition_cell numbers t 1) (transition_cell numbers t 2))
            (named numbers names h (transition_cell numbers t 1) (transition_cell numbers t 2) (transition_inside numbers names h t l).names_in))
            (block_origin (transition_cell numbers t 7) (transition_cell numbers t 8) (transition_inside numbers names h t l).block_in);
      }

  all_from_table : (k t : ℕ) → t + k ≤ transition_count numbers → AllOf FromTable (map (transition_back numbers names) (from k t))
  unfolding from
  all_from_table zero t l = no_more
  all_from_table (suc k) t l = more (transition_origin t (omega arith)) (all_from_table k (suc t) (omega arith))

  flat_origins : (ts : List Transition) → AllOf FromTable ts → AllOf (Origin numbers names) (flat transition_uses ts)
  unfolding flat
  flat_origins [] no_more = no_more
  flat_origins (t ∷ ts) (more f g) = all_both f.origins (flat_origins ts g)

  abbrev c : Content
  c = content numbers names

  every_transition : AllOf FromTable c.transitions
  unfolding content
  every_transition = all_from_table (transition_count numbers) 0 (omega arith)

  inner_origins : (i : ℕ) → i < row_count numbers → AllOf (Origin numbers names) (inner_uses c i (row_back numbers names i))
  inner_origins i l = all_both (entry_origin i l) (all_both (exit_origin i l) (all_both (list_origin i l) (flat_origins (of_source c.transitions i) (all_of_source c.transitions i every_transition))))

  rows_origins : (k i : ℕ) → suc i + k ≤ row_count numbers → AllOf (Origin numbers names) (uses_from c (suc i) (map (row_back numbers names) (from k (suc i))))
  unfolding from uses_from
  rows_origins zero i l = no_more
  rows_origins (suc k) i l = more (id_origin i (omega arith)) (all_both (inner_origins (suc i) (omega arith)) (rows_origins k (suc i) (omega arith)))

  -- all names that are used
  pub used_origins : (m : ℕ) → row_count numbers ≡ suc m → AllOf (Origin numbers names) (inner_uses c 0 (row_back numbers names 0) ++ uses_from c 1 (map (row_back numbers names) (from m 1)))
  used_origins m e = all_both (inner_origins 0 (omega arith)) (rows_origins m 0 (omega arith))
