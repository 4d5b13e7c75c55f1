-- The blocks of an accepted chart, as the writer finds them in its tables.
use Rattle.std.specs.Prelude.{◌≡◌, Bool, true, false, not, ◌&&◌, ◌||◌, cond, eqb, leb, ltb, length}
use Rattle.std.proofs.Math.Path.{refl}
use Rattle.std.proofs.Common.{sym, ap, ◌∙◌, arith}
use mathlib.Core.List.{List, [], ◌∷◌, map}
use Rattle.std.proofs.Math.Option.{none, some}
use Prim.Native.Nat.{ℕ, zero, suc, ◌≤◌, ◌<◌, ◌+◌}
use borrow.Author.Tests.{leb-true, ltb-true}
use Rattle.definition.specs.declared.Kind.{Kind}
use Rattle.definition.specs.declared.Kind.TheVariants.{Root, State, Parallel, Final, Shallow, Deep}
use Rattle.definition.specs.declared.Action.{Action}
use Rattle.definition.specs.declared.Answer.TheVariants.{Done}
use Rattle.definition.specs.Rows.{from, all, is_empty}
use Rattle.definition.specs.Names.{is_name}
use Rattle.definition.specs.Chart.{Chart, kind, is_root, is_state, is_parallel, is_final}
use Rattle.definition.specs.Tables.{most_delay, no_number, name_count, row_count, transition_count, action_count, action_cell, action_of, action_at, block_at, name_at, chart_of}
use Rattle.definition.specs.Rules.{each, counts_fit, sizes_fit, row_in_range, transition_in_range, optional_below, arguments_fit, action_in_range, compiled_size, rule1, rule2, slot_fits, id_fits, raise_fits, action_named, condition_fits, awaits_else, with_else, closed, nests, test_fits, branches_fit, keeps_rules}
use Rattle.reading.specs.Content.{Act, sends}
use Rattle.reading.specs.Layout.{act_of, acts_at}
use Rattle.laws.specs.Bools.{and_left, and_right, and3, and7, no}
use Rattle.laws.specs.Loops.{each_below}
use Rattle.accepted.specs.Tree.{root_kind}
use Rattle.accepted.specs.Sound.{accepted_rule1, accepted_rule2, accepted_sound}
use Rattle.written.specs.Sound.{AllOf, no_more, more, always, ActFits, balanced, BlockFits}

-- a row that In names is not the root
pub in_no_root : (c : Chart) → is_root (kind c 0) ≡ true → (i : ℕ) → condition_fits c (some i) ≡ true → 1 ≤ i
unfolding condition_fits
in_no_root c r zero h = absurd (by (kind c 0) r h)
  where
    by : (k : Kind) → is_root k ≡ true → (is_state k || is_parallel k || is_final k) ≡ true → ⊥
    by Root r h = no h
    by State r h = no r
    by Parallel r h = no r
    by Final r h = no r
    by Shallow r h = no r
    by Deep r h = no r
in_no_root c r (suc i) h = omega arith

module _ (numbers names : List ℕ) (root : is_root (kind (chart_of numbers) 0) ≡ true) where
  send_fits : (x y z : ℕ) → leb y most_delay ≡ true → (is_name (name_at names x) && (eqb z no_number || is_name (name_at names z))) ≡ true →
      ActFits (row_count numbers) (sends (name_at names x) y (cond (eqb z no_number) none (some (name_at names z))))
  send_fits x y z l r = by (eqb z no_number) (and_right (is_name (name_at names x)) (eqb z no_number || is_name (name_at names z)) r)
    where
      event : is_name (name_at names x) ≡ true
      event = and_left (is_name (name_at names x)) (eqb z no_number || is_name (name_at names z)) r

      by : (b : Bool) → (b || is_name (name_at names z)) ≡ true → ActFits (row_count numbers) (sends (name_at names x) y (cond b none (some (name_at names z))))
      by true h = (event, leb-true y most_delay l)
      by false h = (event, leb-true y most_delay l, h)

  act_fits_lem : (k x y z : ℕ) → k ≤ 7 → arguments_fit numbers (action_of k x y z) x y z ≡ true → raise_fits names (action_of k x y z) ≡ true → test_fits (chart_of numbers) (action_of k x y z) ≡ true →
      ActFits (row_count numbers) (act_of (name_at names) k x y z)
  unfolding arguments_fit raise_fits test_fits
  act_fits_lem zero x y z l a r t = r
  act_fits_lem (suc zero) x y z l a r t = leb-true x 65535 (and3 (leb x 65535) (eqb y 0) (eqb z 0) a).0
  act_fits_lem (suc (suc zero)) x y z l a r t = record { above = in_no_root (chart_of numbers) root x t; below = ltb-true x (row_count numbers) (and3 (ltb x (row_count numbers)) (eqb y 0) (eqb z 0) a).0 }
  act_fits_lem (suc (suc (suc zero))) x y z l a r t = record { above = in_no_root (chart_of numbers) root x t; below = ltb-true x (row_count numbers) (and3 (ltb x (row_count numbers)) (eqb y 0) (eqb z 0) a).0 }
  act_fits_lem (suc (suc (suc (suc zero)))) x y z l a r t = always
  act_fits_lem (suc (suc (suc (suc (suc zero))))) x y z l a r t = always
  act_fits_lem (suc (suc (suc (suc (suc (suc zero)))))) x y z l a r t = send_fits x y z (and3 (ltb x (name_count numbers)) (leb y most_delay) (optional_below (name_count numbers) z) a).1 r
  act_fits_lem (suc (suc (suc (suc (suc (suc (suc zero))))))) x y z l a r t = r
  act_fits_lem (suc (suc (suc (suc (suc (suc (suc (suc k)))))))) x y z l a r t = absurd (omega arith)

  -- the actions of a block by their numbers
  abbrev pub look : ℕ → Act
  look a = act_of (name_at names) (action_cell numbers a 0) (action_cell numbers a 1) (action_cell numbers a 2) (action_cell numbers a 3)

  pub record Acts (a : ℕ) : Type 0 where
    pub low : action_cell numbers a 0 ≤ 7
    pub arguments : arguments_fit numbers (action_at numbers a) (action_cell numbers a 1) (action_cell numbers a 2) (action_cell numbers a 3) ≡ true
    pub raised : raise_fits names (action_at numbers a) ≡ true

  pub look_fits : (a : ℕ) → Acts a → test_fits (chart_of numbers) (action_at numbers a) ≡ true → ActFits (row_count numbers) (look a)
  unfolding action_at
  look_fits a f t = act_fits_lem (action_cell numbers a 0) (action_cell numbers a 1) (action_cell numbers a 2) (action_cell numbers a 3) f.low f.arguments f.raised t

  acts_fit : (xs : List ℕ) → AllOf Acts xs → all (test_fits (chart_of numbers)) (map (action_at numbers) xs) ≡ true → AllOf (ActFits (row_count numbers)) (map look xs)
  unfolding all
  acts_fit [] no_more t = no_more
  acts_fit (a ∷ xs) (more f g) t =
      more (look_fits a f (and_left (test_fits (chart_of numbers) (action_at numbers a)) _ t)) (acts_fit xs g (and_right (test_fits (chart_of numbers) (action_at numbers a)) _ t))

-- ---- ifs

with_else_lem : (ifs : List Bool) → length (with_else ifs) ≡ length ifs
unfolding with_else
with_else_lem [] = refl
with_else_lem (s ∷ outer) = refl

-- one action, and those behind it
nest_one : (nm : ℕ → List ℕ) (k x y z : ℕ) → k ≤ 7 → (ifs : List Bool) (rest : List Action) (acts : List Act) → nests ifs (action_of k x y z ∷ rest) ≡ true →
    ((outer : List Bool) → nests outer rest ≡ true → balanced (length outer) acts ≡ true) → balanced (length ifs) (act_of nm k x y z ∷ acts) ≡ true
unfolding nests balanced
nest_one nm zero x y z l ifs rest acts h r = r ifs h
nest_one nm (suc zero) x y z l ifs rest acts h r = r ifs h
nest_one nm (suc (suc zero)) x y z l ifs rest acts h r = r (false ∷ ifs) (and_right (ltb (length ifs) 4) _ h)
nest_one nm (suc (suc (suc zero))) x y z l ifs rest acts h r = r ifs (and_right (awaits_else ifs) _ h)
nest_one nm (suc (suc (suc (suc zero)))) x y z l ifs rest acts h r = ap (λ (d : ℕ). balanced d acts) (sym (with_else_lem ifs)) ∙ r (with_else ifs) (and_right (awaits_else ifs) _ h)
nest_one nm (suc (suc (suc (suc (suc zero))))) x y z l [] rest acts h r = absurd (none h)
  where
    none : (not (is_empty {A = Bool} []) && nests (closed []) rest) ≡ true → ⊥
    none e = no (unfold is_empty in e)
nest_one nm (suc (suc (suc (suc (suc zero))))) x y z l (s ∷ outer) rest acts h r = r outer (unfold closed in and_right (not (is_empty (s ∷ outer))) _ h)
nest_one nm (suc (suc (suc (suc (suc (suc zero)))))) x y z l ifs rest acts h r = r ifs h
nest_one nm (suc (suc (suc (suc (suc (suc (suc zero))))))) x y z l ifs rest acts h r = r ifs h
nest_one nm (suc (suc (suc (suc (suc (suc (suc (suc k)))))))) x y z l ifs rest acts h r = absurd (omega arith)

module _ (numbers names : List ℕ) (root : is_root (kind (chart_of numbers) 0) ≡ true) where
  nest_all : (xs : List ℕ) → AllOf (Acts numbers names root) xs → (ifs : List Bool) → nests ifs (map (action_at numbers) xs) ≡ true → balanced (length ifs) (map (look numbers names root) xs) ≡ true
  unfolding action_at
  nest_all [] no_more [] h = unfold balanced in refl
  nest_all [] no_more (s ∷ ifs) h = absurd (no (unfold nests is_empty in h))
  nest_all (a ∷ xs) (more f g) ifs h =
      nest_one (name_at names) (action_cell numbers a 0) (action_cell numbers a 1) (action_cell numbers a 2) (action_cell numbers a 3) f.low ifs (map (action_at numbers) xs) (map (look numbers names root) xs) h
      (λ (outer : List Bool) (e : nests outer (map (action_at numbers) xs) ≡ true). nest_all xs g outer e)

-- ---- blocks of an accepted chart

pub all_from : {P : ℕ → Type 0} (k i : ℕ) → ((j : ℕ) → i ≤ j → j < i + k → P j) → AllOf P (from k i)
unfolding from
all_from zero i f = no_more
all_from (suc k) i f = more (f i (omega arith) (omega arith)) (all_from k (suc i) (λ (j : ℕ) (l : suc i ≤ j) (h : j < suc i + k). f j (omega arith) (omega arith)))

module _ (numbers names : List ℕ) (h : keeps_rules numbers names ≡ Done) where
  pub accepted_root : is_root (kind (chart_of numbers) 0) ≡ true
  accepted_root = root_kind (chart_of numbers) (accepted_sound numbers names h).tree

  action_range : (a : ℕ) → a < action_count numbers → action_in_range numbers a ≡ true
  unfolding rule1
  action_range a l =
      each_below (action_in_range numbers) (action_count numbers)
      (and7 (counts_fit numbers) (sizes_fit numbers names (compiled_size numbers) (length names)) (each (row_count numbers) (row_in_range numbers)) (each (transition_count numbers) (transition_in_range numbers)) _ _
      (each (action_count numbers) (action_in_range numbers)) (accepted_rule1 numbers names h)).6 a l

  action_named_lem : (a : ℕ) → a < action_count numbers → action_named numbers names a ≡ true
  unfolding rule2
  action_named_lem a l = each_below (action_named numbers names) (action_count numbers) (and_right (each (name_count numbers) (slot_fits names) && each (row_count numbers) (id_fits numbers names)) (each (action_count numbers) (action_named numbers names)) (accepted_rule2 numbers names h)) a l

  pub act_stands : (a : ℕ) → a < action_count numbers → Acts numbers names accepted_root a
  unfolding action_in_range action_named
  act_stands a l =
      let k = arguments_fit numbers (action_at numbers a) (action_cell numbers a 1) (action_cell numbers a 2) (action_cell numbers a 3) in
      record {
        low = leb-true (action_cell numbers a 0) 7 (and_left (leb (action_cell numbers a 0) 7) k (action_range a l));
        arguments = and_right (leb (action_cell numbers a 0) 7) k (action_range a l);
        raised = action_named_lem a l;
      }

  -- a block that stands in its table and keeps rule 5
  pub block_fits_lem : (start count : ℕ) → start + count ≤ action_count numbers → branches_fit (chart_of numbers) (block_at numbers start count) ≡ true → BlockFits (row_count numbers) (acts_at numbers names start count)
  unfolding branches_fit block_at acts_at
  block_fits_lem start count l b =
      let f = all_from {P = Acts numbers names accepted_root} count start (λ (j : ℕ) (g : start ≤ j) (k : j < start + count). act_stands j (omega arith)) in
      record {
        each = acts_fit numbers names accepted_root (from count start) f (and_right (nests [] (map (action_at numbers) (from count start))) _ b);
        closed = nest_all numbers names accepted_root (from count start) f [] (and_left (nests [] (map (action_at numbers) (from count start))) _ b);
      }

-- an empty block of the chart is an empty block of the content
pub no_block : (numbers names : List ℕ) (start count : ℕ) → is_empty (block_at numbers start count) ≡ true → acts_at numbers names start count ≡ []
unfolding block_at acts_at is_empty from
no_block numbers names start zero h = refl
no_block numbers names start (suc count) h = absurd (no h)
