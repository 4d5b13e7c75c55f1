-- The status of a run whose rounds are all done: an eventless round has to be looked for only where no name waits.
use Rattle.std.specs.Prelude.{◌≡◌, Bool, true, false, ◌||◌, ℕ, ◌≤◌, ◌<◌}
use Rattle.std.proofs.Math.Path.{refl}
use Rattle.std.proofs.Common.{sym, ap, ◌∙◌, arith, lt-ltb}
use Rattle.std.proofs.Math.Bool.{cond}
use mathlib.Core.List.{List, [], ◌∷◌}
use Rattle.std.proofs.Math.Option.{none}
use Rattle.std.proofs.Math.Dec.{ltb}
use Rattle.std.proofs.Math.ListN.{length}
use Rattle.definition.specs.declared.Mode.{Mode}
use Rattle.definition.specs.declared.Mode.TheVariants.{Running, Closing, Ended}
use Rattle.definition.specs.declared.Status.{Status}
use Rattle.definition.specs.declared.Status.TheVariants as status
use Rattle.definition.specs.Rows.{is_empty}
use Rattle.definition.specs.Names.{Name}
use Rattle.definition.specs.Chart.{Chart, Names}
use Rattle.definition.specs.Tables.{name_at, chart_of}
use Rattle.follower.specs.Selection.{History, selected}
use Rattle.follower.specs.Microstep.{stored_in}
use Rattle.follower.specs.Follower.{Follower, taking, selected_by, by_external, by_internal, by_eventless, closing_round, round_in, round, rest_status}
use Rattle.rowset.specs.Member.{rows_of}
use Rattle.chart.specs.Ready.{CompiledWith}
use Rattle.matching.specs.Chosen.{chosen_length}
use Rattle.selection.specs.declared.Selected.{Selected}
use Rattle.selection.specs.History.{stored_at}
use Rattle.selection.specs.Ready.{IsSelected}
use Rattle.state.specs.State.{configuration_in, history_in, internal_in, external_in, mode_in, state_at, HoldsAt}
use Rattle.state.specs.Places.{reads_internal, reads_external}
use Rattle.events.specs.Choosing.{conf_read, history_read}
use Rattle.rounds.specs.Closing.{round_mode}

-- by the mode, how many names wait in each queue, and what an eventless round selects
unfoldable pub rest_by : Mode → ℕ → ℕ → List ℕ → Status
rest_by Running internal external ts = cond (ltb 0 internal || ltb 0 external) status.More (cond (is_empty ts) status.Idle status.More)
rest_by Closing internal external ts = status.More
rest_by Ended internal external ts = status.Ended

-- ---- what the code answers

pub rest_ended : (m : Mode) (i e : ℕ) (ts : List ℕ) → m ≡ Ended → status.Ended ≡ rest_by m i e ts
unfolding rest_by
rest_ended m i e ts h = rw h

pub rest_closing : (m : Mode) (i e : ℕ) (ts : List ℕ) → m ≡ Closing → status.More ≡ rest_by m i e ts
unfolding rest_by
rest_closing m i e ts h = rw h

pub rest_waits : (m : Mode) (i e : ℕ) (ts : List ℕ) → m ≡ Running → (ltb 0 i || ltb 0 e) ≡ true → status.More ≡ rest_by m i e ts
unfolding rest_by
rest_waits m i e ts h w = rw (h, w)

module _ (c : Chart) (conf : List ℕ) (hist : History) (ts items : List ℕ) (r : Selected) (k : IsSelected c conf hist ts items r) (m : Mode) (i e : ℕ) (h : m ≡ Running) (w : (ltb 0 i || ltb 0 e) ≡ false) where
  size : length ts ≡ r.len
  size = ap length (sym k.is) ∙ chosen_length c.transitions items r.len k.fits

  pub rest_eventless : 0 < r.len → status.More ≡ rest_by m i e ts
  unfolding rest_by is_empty
  rest_eventless l = rw (h, w) (go ts (let n = size in omega arith))
    where
      go : (xs : List ℕ) → 0 < length xs → status.More ≡ cond (is_empty xs) status.Idle status.More
      go [] l = absurd (omega arith)
      go (x ∷ xs) l = refl

  pub rest_idle : r.len ≤ 0 → status.Idle ≡ rest_by m i e ts
  unfolding rest_by is_empty
  rest_idle l = rw (h, w) (go ts (let n = size in omega arith))
    where
      go : (xs : List ℕ) → length xs ≤ 0 → status.Idle ≡ cond (is_empty xs) status.Idle status.More
      go [] l = refl
      go (x ∷ xs) l = absurd (omega arith)

-- ---- it is the definition's

more_so : (b : Bool) → cond b status.More status.More ≡ status.More
more_so true = refl
more_so false = refl

module _ (c : Chart) (names : Names) (f : Follower) where
  by_external_lem : (queue : List Name) → cond (ltb 0 (length queue)) status.More status.Idle ≡ rest_status (by_external c names f queue)
  unfolding by_external taking rest_status
  by_external_lem [] = refl
  by_external_lem (name ∷ queue) = rw (lt-ltb 0 (length (name ∷ queue)) (omega arith))

  by_internal_lem : (queue : List Name) → cond (ltb 0 (length queue) || ltb 0 (length f.external)) status.More status.Idle ≡ rest_status (by_internal c names f queue)
  unfolding by_internal taking rest_status
  by_internal_lem [] = by_external_lem f.external
  by_internal_lem (name ∷ queue) = rw (lt-ltb 0 (length (name ∷ queue)) (omega arith))

  by_eventless_lem : (ts : List ℕ) → rest_by Running (length f.internal) (length f.external) ts ≡ rest_status (by_eventless c names f ts)
  unfolding rest_by is_empty by_eventless taking rest_status
  by_eventless_lem [] = by_internal_lem f.internal
  by_eventless_lem (t ∷ ts) = more_so (ltb 0 (length f.internal) || ltb 0 (length f.external))

  by_mode : (m : Mode) → rest_by m (length f.internal) (length f.external) (selected_by c names f none) ≡ rest_status (round_in m c names f)
  unfolding rest_by round_in closing_round rest_status
  by_mode Running = by_eventless_lem (selected_by c names f none)
  by_mode Closing = refl
  by_mode Ended = refl

  by_counts : (m : Mode) (i e : ℕ) (conf : List ℕ) (hist : History) → i ≡ length f.internal → e ≡ length f.external → conf ≡ f.configuration → hist ≡ stored_in f.history →
      rest_by m i e (selected c names conf hist none) ≡ rest_status (round_in m c names f)
  unfolding selected_by
  by_counts m i e conf hist a b p q = rw (a, b, p, q) (by_mode m)

module _ (chart names : List ℕ) (k : CompiledWith chart names) (numbers internal external : List ℕ) (h : HoldsAt chart numbers internal external) where
  abbrev f : Follower
  f = state_at chart numbers internal external

  pub rest_is : (st : Status) →
      st ≡ rest_by (mode_in numbers) (internal_in numbers) (external_in numbers) (selected (chart_of chart) (name_at names) (rows_of (configuration_in numbers)) (stored_at (history_in numbers)) none) →
      st ≡ rest_status (round (chart_of chart) (name_at names) f)
  rest_is st e =
      e ∙
      by_counts (chart_of chart) (name_at names) f (mode_in numbers) (internal_in numbers) (external_in numbers) (rows_of (configuration_in numbers)) (stored_at (history_in numbers))
      (reads_internal f numbers internal external h.spells) (reads_external f numbers internal external h.spells) (conf_read chart names k f numbers internal external h)
      (history_read chart names k f numbers internal external h) ∙
      ap rest_status (round_mode chart names numbers internal external h (mode_in numbers) refl)
