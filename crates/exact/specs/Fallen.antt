-- Which histories fall to their default lists in a round and at a start: exactly those with nothing stored that are named where the
-- entry set is taken from (R-3). For every chart, no rule is asked. Of a chart that keeps the rules: each one named in an initial list
-- has its default block performed in its parent's entry.
use Rattle.std.specs.Prelude.{◌≡◌, true, ◌||◌, ℕ}
use Rattle.std.proofs.Math.Path.{refl}
use Rattle.std.proofs.Common.{sym, ◌∙◌}
use mathlib.Core.List.{List, [], ◌∷◌, ◌++◌}
use Rattle.std.proofs.Math.Option.{Option}
use Rattle.definition.specs.declared.Mode.TheVariants.{Running}
use Rattle.definition.specs.declared.Answer.TheVariants.{Done}
use Rattle.definition.specs.Rows.{fold, keep, mem, any, is_empty, union, nothing_at}
use Rattle.definition.specs.Names.{Name}
use Rattle.definition.specs.Chart.{Chart, kind, parent, is_history}
use Rattle.definition.specs.Tree.{default_targets}
use Rattle.definition.specs.Tables.{chart_of, name_at}
use Rattle.definition.specs.Rules.{keeps_rules}
use Rattle.follower.specs.Selection.{History}
use Rattle.follower.specs.Blocks.{entered, performed}
use Rattle.follower.specs.Microstep.{Entry, fell_to_default, add_fallen, fallen, add_fallen_initial, with_initial, initial_block, done_effects, active_at, entry_effects, stored_in, staying, history_after, entry_of, fallen_of}
use Rattle.follower.specs.Follower.{Follower, selected_by, first_entry, first_fallen}
use Rattle.follower.specs.Legal.{WellFormed}
use Rattle.laws.specs.Bools.{or_elim, or_left, or_right, and_true}
use Rattle.laws.specs.Lists.{any_true, any_mem, keep_mem, mem_kept}
use Rattle.accepted.specs.Unions.{mem_fold_union, union_mem, mem_in_union}
use Rattle.theory.specs.DefaultBlocks.{DefaultBlocks, default_runs}
use Rattle.theory.specs.Theorems.{start_blocks, round_blocks}

-- row h is named where a round's entry set is taken from: among the targets of one of the transitions ts, or in the initial list of one
-- of the rows, those whose child came by default
pub data NamedIn (c : Chart) (ts rows : List ℕ) (h : ℕ) : Type 0 where
  target : (t : ℕ) → mem t ts ≡ true → mem h (c.transition t).targets ≡ true → NamedIn c ts rows h
  initial : (i : ℕ) → mem i rows ≡ true → mem h (default_targets c i) ≡ true → NamedIn c ts rows h

-- the set fell holds exactly the histories with nothing stored that are named
pub record FallsExactly (c : Chart) (after : History) (ts rows fell : List ℕ) : Type 0 where
  pub only : (h : ℕ) → mem h fell ≡ true → (fell_to_default c after h ≡ true) × NamedIn c ts rows h
  pub every : (h : ℕ) → fell_to_default c after h ≡ true → NamedIn c ts rows h → mem h fell ≡ true

module _ (c : Chart) (after : History) where
  abbrev of_row : ℕ → List ℕ
  of_row i = keep (fell_to_default c after) (default_targets c i)

  abbrev of_transition : ℕ → List ℕ
  of_transition t = keep (fell_to_default c after) (c.transition t).targets

  joins_row : (set : List ℕ) (i : ℕ) → add_fallen_initial c after set i ≡ union set (of_row i)
  unfolding add_fallen_initial
  joins_row set i = refl

  joins_transition : (set : List ℕ) (t : ℕ) → add_fallen c after set t ≡ union set (of_transition t)
  unfolding add_fallen
  joins_transition set t = refl

  with_rows : (h : ℕ) (set rows : List ℕ) → mem h (with_initial c after set rows) ≡ (mem h set || any (λ i. mem h (of_row i)) rows)
  unfolding with_initial
  with_rows h set rows = mem_fold_union (add_fallen_initial c after) of_row joins_row h set rows

  of_transitions : (h : ℕ) (ts : List ℕ) → mem h (fallen c after ts) ≡ true → (fell_to_default c after h ≡ true) × ((rows : List ℕ) → NamedIn c ts rows h)
  unfolding fallen
  of_transitions h ts m =
      let r = union_mem (add_fallen c after) of_transition joins_transition ts h m in
      let k = keep_mem (fell_to_default c after) (c.transition r.0).targets h r.2 in (k.1, λ rows. target r.0 r.1 k.0)

  in_fallen : (h : ℕ) (ts : List ℕ) (t : ℕ) → fell_to_default c after h ≡ true → mem t ts ≡ true → mem h (c.transition t).targets ≡ true → mem h (fallen c after ts) ≡ true
  unfolding fallen
  in_fallen h ts t f m n =
      mem_in_union (add_fallen c after) of_transition joins_transition ts t h m (mem_kept (fell_to_default c after) (c.transition t).targets h n f)

  of_rows : (h : ℕ) (ts rows : List ℕ) → any (λ i. mem h (of_row i)) rows ≡ true → (fell_to_default c after h ≡ true) × NamedIn c ts rows h
  of_rows h ts rows q =
      let r = any_true (λ i. mem h (of_row i)) rows q in
      let k = keep_mem (fell_to_default c after) (default_targets c r.0) h r.2 in (k.1, initial r.0 r.1 k.0)

  pub falls_exactly : (ts rows : List ℕ) → FallsExactly c after ts rows (with_initial c after (fallen c after ts) rows)
  falls_exactly ts rows =
      record {
        only =
            λ h m. or_elim (mem h (fallen c after ts)) (any (λ i. mem h (of_row i)) rows) (λ n. let r = of_transitions h ts n in (r.0, r.1 rows)) (of_rows h ts rows)
            (sym (with_rows h (fallen c after ts) rows) ∙ m);
        every = λ h f n. with_rows h (fallen c after ts) rows ∙ there h f n;
      }
    where
      there : (h : ℕ) → fell_to_default c after h ≡ true → NamedIn c ts rows h → (mem h (fallen c after ts) || any (λ i. mem h (of_row i)) rows) ≡ true
      there h f (target t m n) = or_left (mem h (fallen c after ts)) (any (λ i. mem h (of_row i)) rows) (in_fallen h ts t f m n)
      there h f (initial i m n) =
          or_right (mem h (fallen c after ts)) (any (λ i. mem h (of_row i)) rows)
          (any_mem (λ i. mem h (of_row i)) rows i m (mem_kept (fell_to_default c after) (default_targets c i) h n f))

-- of a round: by the history as its exits left it
pub round_falls : (c : Chart) (conf : List ℕ) (hist : History) (ts : List ℕ) →
    FallsExactly c (stored_in (history_after c conf hist ts)) ts (entry_of c conf hist ts).entered_by_default (fallen_of c conf hist ts)
unfolding fallen_of
round_falls c conf hist ts = falls_exactly c (stored_in (history_after c conf hist ts)) ts (entry_of c conf hist ts).entered_by_default

-- of a start: no transition is taken, nothing is stored, and the root's own initial list is read with those of the rows whose child came
-- by default
pub start_falls : (c : Chart) → FallsExactly c nothing_at [] (0 ∷ (first_entry c).entered_by_default) (first_fallen c)
unfolding first_fallen fallen fold
start_falls c = falls_exactly c nothing_at [] (0 ∷ (first_entry c).entered_by_default)

-- ---- the default block of such a history

-- a history with nothing stored
pub fell_intro : (c : Chart) (after : History) (h : ℕ) → is_history (kind c h) ≡ true → is_empty (after h) ≡ true → fell_to_default c after h ≡ true
unfolding fell_to_default
fell_intro c after h q e = and_true (is_history (kind c h)) (is_empty (after h)) q e

-- the default block of history h is performed where its parent is entered: behind that row's entry block and initial block, and no other
-- default block is
pub record BlockRuns (c : Chart) (stay : List ℕ) (e : Entry) (fell : List ℕ) (h : ℕ) : Type 0 where
  pub enters : mem (parent c h) e.set ≡ true
  pub performs :
      entry_effects c stay e fell (parent c h) ≡
      entered (parent c h) ∷
      (performed (active_at stay e.set (parent c h)) (c.row (parent c h)).entry ++
      performed (active_at stay e.set (parent c h)) (initial_block c e.entered_by_default (parent c h)) ++
      performed (active_at stay e.set (parent c h)) (c.row h).block ++ done_effects c (active_at stay e.set (parent c h)) (parent c h))

block_runs : (c : Chart) (after : History) (stay : List ℕ) (e : Entry) (ts owners fell : List ℕ) → DefaultBlocks c e owners fell → FallsExactly c after ts owners fell → (k h : ℕ) → mem k owners ≡ true →
    mem h (default_targets c k) ≡ true → is_history (kind c h) ≡ true → is_empty (after h) ≡ true → BlockRuns c stay e fell h
unfolding entry_effects
block_runs c after stay e ts owners fell d x k h o m q n =
    let f : mem h fell ≡ true = x.every h (fell_intro c after h q n) (initial k o m) in
    record { enters = d.entered k h o m f; performs = rw (default_runs c e owners fell d (active_at stay e.set (parent c h)) k h o m f) refl }

module _ (numbers names : List ℕ) (accepted : keeps_rules numbers names ≡ Done) where
  abbrev c : Chart
  c = chart_of numbers

  -- at a start: the default block of each history that the root's initial list names, or that of a row whose child came by default
  pub start_block_runs : (k h : ℕ) → mem k (0 ∷ (first_entry (chart_of numbers)).entered_by_default) ≡ true → mem h (default_targets (chart_of numbers) k) ≡ true → is_history (kind (chart_of numbers) h) ≡ true →
      BlockRuns (chart_of numbers) [] (first_entry (chart_of numbers)) (first_fallen (chart_of numbers)) h
  unfolding is_empty
  start_block_runs k h o m q =
      block_runs c nothing_at [] (first_entry c) [] (0 ∷ (first_entry c).entered_by_default) (first_fallen c) (start_blocks numbers names accepted) (start_falls c) k h o m q refl

  abbrev chosen : Follower → Option Name → List ℕ
  chosen s event = selected_by c (name_at names) s event

  -- in a round: that of each history in the initial list of a row whose child came by default, with nothing stored once the exits are done
  pub round_block_runs : (s : Follower) → WellFormed (chart_of numbers) s → s.mode ≡ Running → (event : Option Name) (k h : ℕ) →
      mem k (entry_of (chart_of numbers) s.configuration (stored_in s.history) (selected_by (chart_of numbers) (name_at names) s event)).entered_by_default ≡ true →
      mem h (default_targets (chart_of numbers) k) ≡ true → is_history (kind (chart_of numbers) h) ≡ true →
      is_empty (stored_in (history_after (chart_of numbers) s.configuration (stored_in s.history) (selected_by (chart_of numbers) (name_at names) s event)) h) ≡ true →
      BlockRuns (chart_of numbers) (staying (chart_of numbers) s.configuration (stored_in s.history) (selected_by (chart_of numbers) (name_at names) s event))
      (entry_of (chart_of numbers) s.configuration (stored_in s.history) (selected_by (chart_of numbers) (name_at names) s event))
      (fallen_of (chart_of numbers) s.configuration (stored_in s.history) (selected_by (chart_of numbers) (name_at names) s event)) h
  round_block_runs s w r event k h o m q n =
      let conf = s.configuration in
      let hist = stored_in s.history in
      block_runs c (stored_in (history_after c conf hist (chosen s event))) (staying c conf hist (chosen s event)) (entry_of c conf hist (chosen s event)) (chosen s event)
      (entry_of c conf hist (chosen s event)).entered_by_default (fallen_of c conf hist (chosen s event)) (round_blocks numbers names accepted s w r event)
      (round_falls c conf hist (chosen s event)) k h o m q n
