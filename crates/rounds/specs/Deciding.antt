-- What a round of a running session decides before anything is written: the choice, the plan, and whether it is refused.
use Rattle.std.specs.Prelude.{◌≡◌, Bool, List, ℕ, ◌≤◌, length, take}
use Rattle.std.proofs.Math.Path.{refl, ap}
use Rattle.std.proofs.Common.{sym, subst, ◌∙◌}
use Rattle.std.proofs.Math.Option.{none}
use native.Mathlib.Omega.{arith}
use Rattle.std.proofs.Math.ListN.{length-append}
use Rattle.definition.specs.declared.Mode.{Mode}
use Rattle.definition.specs.declared.Mode.TheVariants.{Running}
use Rattle.definition.specs.Rows.{flat}
use Rattle.definition.specs.Chart.{Chart}
use Rattle.definition.specs.Tables.{name_at, chart_of}
use Rattle.follower.specs.Blocks.{Effect, queued}
use Rattle.follower.specs.Selection.{History}
use Rattle.follower.specs.Follower.{Follower, did, round_in, refusal, Timed, table_in, timed}
use Rattle.theory.specs.Runs.{Fits, not_refused, next_of, refused_by}
use Rattle.rowset.specs.Member.{rows_of}
use Rattle.matching.specs.Chosen.{list_of, Taken}
use Rattle.selection.specs.declared.Selected.{Selected}
use Rattle.selection.specs.History.{stored_at}
use Rattle.selection.specs.Ready.{Selects}
use Rattle.effects.specs.declared.Tally.{Tally}
use Rattle.effects.specs.Trace.{queues_all}
use Rattle.microstep.specs.Stored.{RoundReady}
use Rattle.microstep.specs.Plan.{Planned, PlanReady}
use Rattle.lookup.specs.Lookup.{atomic_in, IndexOf, Lookup}
use Rattle.clock.specs.Records.{clock_bytes, clock_in, ClockHolds}
use Rattle.state.specs.State.{configuration_in, history_in, internal_in, mode_in, Spells, state_at, HoldsAt}
use Rattle.state.specs.Places.{numbers_size, reads_mode}
use Rattle.events.specs.declared.Source.{Source}
use Rattle.events.specs.declared.Source.TheVariants.{Nothing}
use Rattle.events.specs.declared.Choice.{Choice}
use Rattle.events.specs.Rounds.{internal_after, internal_bytes, round_by, Chooses}
use Rattle.events.specs.Left.{internal_left, QueueIs}
use Rattle.events.specs.Choosing.{conf_read}
use Rattle.events.specs.Timers.{TimersStand}
use Rattle.rounds.specs.declared.Outcome.TheVariants.{Idle, Did}
use Rattle.rounds.specs.declared.Turn.{Turn}
use Rattle.rounds.specs.declared.Step.{Step}
use Rattle.rounds.specs.declared.Shown.{Shown}
use Rattle.rounds.specs.Calls.{timed_at, SpellsTimed, room_in}
use Rattle.rounds.specs.Turns.{judged, judged_none, untouched, Turned, turned_idle, turned_refused, turned_did}
use Rattle.rounds.specs.Traces.{joined_all, joined_in, joined_size}
use Rattle.rounds.specs.Judging.{refusal_judged}
use Rattle.rounds.specs.Windows.{table_left}
use Rattle.rounds.specs.Timing.{step_effects, Shows}
use Rattle.rounds.specs.Taking.{round_effects, next_by, round_did, step_takes, by_in, lent_taken, StepReady, Decided, Commits, round_ready, left, shown, sent}

-- ---- the choice

pub chosen_fit : (c : Chart) (conf : List ℕ) (hist : History) (items : List ℕ) (r : Selected) → Selects c conf hist items r → Taken c.transitions (list_of items r.len)
chosen_fit c conf hist items r h = lent_taken c.transitions items r.len h.fits

module _ (chart names index numbers internal external : List ℕ) (g : Lookup chart names index) (h : HoldsAt chart numbers internal external)
    (items : List ℕ) (choice : Choice) (ch : Chooses (chart_of chart) (name_at names) (state_at chart numbers internal external) (stored_at (history_in numbers)) items choice) where
  abbrev f : Follower
  f = state_at chart numbers internal external

  abbrev ts : List ℕ
  ts = list_of items choice.selected.len

  -- nothing is left to choose
  pub taken_idle : (quiet : Bool) (room : ℕ) (clock : List ℕ) → ClockHolds Running clock → (t : Turn) (old : List ℕ) → t ≡ untouched Idle → choice.source ≡ Nothing →
      Turned (chart_of chart) (name_at names) quiet room (round_in Running (chart_of chart) (name_at names) f) (timed_at chart numbers internal external clock) t numbers internal external clock old old
  unfolding round_by
  taken_idle quiet room clock k t old q e =
      turned_idle (chart_of chart) (name_at names) quiet room (round_in Running (chart_of chart) (name_at names) f) (timed_at chart numbers internal external clock) t numbers internal external clock old (h.spells, k.spells) q
      (ch.is ∙ ap (λ (source : Source). round_by source (chart_of chart) (name_at names) f (by_in items) ts) e)

  pub plan_asks : IndexOf (chart_of chart) index × (length numbers ≡ 1031) × RoundReady chart (history_in numbers) (atomic_in index) (configuration_in numbers) ×
      Selects (chart_of chart) (rows_of (configuration_in numbers)) (stored_at (history_in numbers)) items choice.selected
  plan_asks = (
    g.indexed,
    numbers_size f numbers internal external h.spells,
    round_ready chart names g.compiled f numbers internal external h (atomic_in index) g.indexed.atomic,
    subst (λ (conf : List ℕ). Selects (chart_of chart) conf (stored_at (history_in numbers)) items choice.selected) (sym (conf_read chart names g.compiled f numbers internal external h)) ch.selected,
  )

  pub step_ready : (choice.source ≡ Nothing → ⊥) → (step : Step) → (step.source ≡ choice.source) × (step.len ≡ choice.selected.len) ×
      Planned (chart_of chart) (rows_of (configuration_in numbers)) (stored_at (history_in numbers)) ts step.plan × PlanReady chart step.plan → StepReady chart names index numbers internal external step items
  step_ready z step p = record {
    compiled = g.compiled;
    indexed = g.indexed;
    holds = h;
    is = rw (p.0, p.1) ch.is;
    lent = rw p.1 ch.selected.fits;
    inner = rw p.0 ch.internal;
    outer = rw p.0 ch.external;
    some = rw p.0 z;
    planned = rw p.1 p.2;
    ready = p.3;
  }

-- ---- 7 and 10

module _ (chart names index numbers internal external : List ℕ) (step : Step) (items : List ℕ) (g : StepReady chart names index numbers internal external step items)
    (kept : ℕ) (n : kept ≡ internal_left step.source (internal_in numbers)) where
  abbrev from : Follower
  from = state_at chart numbers internal external

  abbrev takes : List ℕ
  takes = step_takes items step

  abbrev who : ℕ → ℕ
  who = by_in items

  abbrev es : List Effect
  es = round_effects (chart_of chart) from who takes

  abbrev next : Follower
  next = next_by step.source (chart_of chart) (name_at names) from who takes

  waiting : QueueIs (internal_after step.source from) (internal_bytes step.source internal) kept
  waiting = rw n (left chart names index numbers internal external step items g).internal

  pub few_kept : kept ≤ 32
  few_kept = waiting.short

  is_round : round_in Running (chart_of chart) (name_at names) from ≡ did next es
  is_round = g.is ∙ round_did step.source (chart_of chart) (name_at names) from who takes g.some

  -- what its sends and cancels speak of stands in the tables
  pub step_sent : TimersStand names (step_effects chart items step)
  step_sent = subst (TimersStand names) (sym (shown chart names index numbers internal external step items g)) (sent chart names index numbers internal external step items g)

  module _ (clock : List ℕ) (k : ClockHolds Running clock) (running : mode_in numbers ≡ Running) (quiet : Bool) (clock_now old new notes : List ℕ) (sh : Shown)
      (v : Shows names (step_effects chart items step) kept quiet clock clock_now old new notes sh) where
    abbrev here : Timed
    here = timed_at chart numbers internal external clock

    abbrev t : Tally
    t = sh.tally

    abbrev room : ℕ
    room = room_in quiet (length old)

    abbrev full : Bool
    full = (table_left names clock es).full

    shows : Shows names es kept quiet clock clock_now old new notes sh
    shows = subst (λ (xs : List Effect). Shows names xs kept quiet clock clock_now old new notes sh) (shown chart names index numbers internal external step items g) v

    mode_is : from.mode ≡ Running
    mode_is = sym (reads_mode from numbers internal external g.holds.spells) ∙ running

    refused_is : refusal room next full es ≡ refused_by (chart_of chart) (name_at names) room here next es
    unfolding refused_by
    refused_is = ap (λ (m : Mode). refusal room next (table_in m (name_at names) (clock_in clock) es).full es) (sym mode_is)

    is_judged : sh.outcome ≡ judged (refused_by (chart_of chart) (name_at names) room here next es)
    unfolding next_by
    is_judged =
        shows.judges.judges ∙
        ap judged (refusal_judged (chart_of chart) (name_at names) room kept t full (internal_after step.source from) next es shows.counted waiting.count refl ∙ refused_is)

    pub taken_refused : (u : Turn) → u ≡ untouched sh.outcome → (sh.outcome ≡ Did → ⊥) →
        Turned (chart_of chart) (name_at names) quiet room (round_in Running (chart_of chart) (name_at names) from) here u numbers internal external clock_now old new
    taken_refused u y z =
        rw (shows.stays z, shows.judges.stays z)
        (turned_refused (chart_of chart) (name_at names) quiet room (round_in Running (chart_of chart) (name_at names) from) here u numbers internal external clock old (g.holds.spells, k.spells) sh.outcome y next es is_round is_judged z)

    module _ (e : sh.outcome ≡ Did) where
      goes : refused_by (chart_of chart) (name_at names) room here next es ≡ none
      goes = judged_none (refused_by (chart_of chart) (name_at names) room here next es) (sym is_judged ∙ e)

      fits : Fits room next full es
      fits = not_refused room next full es (refused_is ∙ goes)

      -- no more join than are kept
      pub few_join : t.names ≤ 32
      unfolding next_by
      few_join =
          let a = fits.short in
          let b = shows.noted.names in
          let d = length-append (internal_after step.source from) (flat (queued (chart_of chart) (name_at names)) es) in
          let e = queues_all (chart_of chart) (name_at names) es in
          omega arith

      pub joins_fit : t.names ≤ length notes
      joins_fit = joined_in notes t es shows.noted few_join

      pub joins_size : t.names ≡ length (take t.names notes)
      joins_size = joined_size notes t es shows.noted few_join

      pub is_decided : Decided chart names index numbers internal external step (take t.names notes)
      is_decided = record { items = items; made = g; joined = joined_all notes t es shows.noted few_join; short = fits.short }

      spells_next : (cells inner outer : List ℕ) → Spells next cells inner outer → SpellsTimed (next_of (chart_of chart) (name_at names) here next es) cells inner outer clock_now
      unfolding next_of timed
      spells_next cells inner outer a = (
        a,
        shows.judges.left e ∙ ap (λ (m : Mode). clock_bytes (record { ticks = (clock_in clock).ticks; pending = (table_in m (name_at names) (clock_in clock) es).pending })) (sym mode_is),
      )

      -- shown and kept, it is done
      pub taken_did : (numbers_now internal_now external_now : List ℕ) → Commits chart names index numbers internal external step (take t.names notes) numbers_now internal_now external_now →
          Turned (chart_of chart) (name_at names) quiet room (round_in Running (chart_of chart) (name_at names) from) here (record { outcome = Did; count = sh.count; entries = t.entries }) numbers_now internal_now external_now clock_now old new
      unfolding is_decided
      taken_did numbers_now internal_now external_now c =
          turned_did (chart_of chart) (name_at names) quiet room (round_in Running (chart_of chart) (name_at names) from) here (record { outcome = Did; count = sh.count; entries = t.entries }) numbers_now internal_now external_now clock_now old new
          next es is_round goes refl (spells_next numbers_now internal_now external_now (c.next is_decided)) shows.counted.entries (shows.count e) (shows.written e)
