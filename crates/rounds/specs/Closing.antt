-- The round of a closing session, and a round of any.
use Rattle.std.specs.Prelude.{◌≡◌, Bool, false, List, [], ◌++◌, ℕ, ◌+◌, ◌≤◌, ltb, length, take, drop, replicate}
use Rattle.std.proofs.Math.Path.{refl, sym, ap, subst}
use Rattle.std.proofs.Common.{◌∙◌, arith}
use Rattle.std.proofs.Math.Option.{none}
use Rattle.std.proofs.Math.Nat.{zero-add}
use Rattle.definition.specs.declared.Mode.{Mode}
use Rattle.definition.specs.declared.Mode.TheVariants.{Running, Closing, Ended}
use Rattle.definition.specs.Rows.{mem}
use Rattle.definition.specs.Chart.{Names}
use Rattle.definition.specs.Tables.{row_count, name_at, chart_of}
use Rattle.definition.specs.Answers.{mode_no}
use Rattle.definition.specs.Compiled.{words}
use Rattle.follower.specs.Blocks.{Effect}
use Rattle.follower.specs.Microstep.{exiting}
use Rattle.follower.specs.Clock.{Table, emptied}
use Rattle.follower.specs.Follower.{Follower, Round, closing_round, round_in, round, refusal_if, refusal, Timed, table_in, timed}
use Rattle.laws.specs.Lists.{set_below}
use Rattle.theory.specs.Runs.{not_refused, next_of, refused_by}
use Rattle.rowset.specs.declared.RowSet.{RowSet}
use Rattle.rowset.specs.Member.{rows_of}
use Rattle.chart.specs.Ready.{Ready}
use Rattle.matching.specs.Chosen.{Within}
use Rattle.effects.specs.declared.Tally.{Tally}
use Rattle.queue.specs.Queues.{queue_bytes, queue_none}
use Rattle.state.specs.declared.State.{State}
use Rattle.clock.specs.Records.{clock_bytes, clock_in, ClockHolds, emptied_bytes}
use Rattle.state.specs.State.{history_words, numbers_of, configuration_in, history_in, mode_in, Spells, state_at, HoldsAt}
use Rattle.state.specs.Found.{configuration_set}
use Rattle.state.specs.Places.{internal_size, external_size, reads_history, reads_mode, reads_configuration}
use Rattle.rounds.specs.declared.Outcome.{Outcome}
use Rattle.rounds.specs.declared.Outcome.TheVariants.{Over, Did}
use Rattle.rounds.specs.declared.Turn.{Turn}
use Rattle.rounds.specs.Calls.{timed_at, SpellsTimed, room_in, shown_count}
use Rattle.rounds.specs.Turns.{judged, judged_none, untouched, Turned, turned_over, turned_refused, turned_did}
use Rattle.rounds.specs.Traces.{Filled, part_shown, shown_count_lem}
use Rattle.rounds.specs.Judging.{Counted}

-- the state of an ended session
pub record IsEnded (s : State) : Type 0 where
  pub configuration : rows_of s.configuration ≡ []
  pub internal : s.internal ≡ 0
  pub external : s.external ≡ 0
  pub mode : s.mode ≡ Ended

-- the round of a closing session came to turn t, whatever the names are: its sends and cancels are shown alone
pub record Closed (quiet : Bool) (chart numbers internal external clock : List ℕ) (t : Turn) (numbers_now internal_now external_now clock_now old new : List ℕ) : Type 0 where
  pub turned : (names : Names) →
      Turned (chart_of chart) names quiet (room_in quiet (length old)) (closing_round (chart_of chart) (state_at chart numbers internal external)) (timed_at chart numbers internal external clock) t numbers_now internal_now external_now clock_now old new

abbrev closed_by : Follower → Follower
closed_by f = record { configuration = []; history = f.history; internal = []; external = []; mode = Ended }

pub no_names : (xs ys : List ℕ) → ys ≡ replicate (length xs) 0 → length xs ≡ 2048 → ys ≡ queue_bytes []
no_names xs ys e n = e ∙ ap (λ (k : ℕ). replicate k 0) n ∙ sym queue_none

-- the numbers of an ended session that keeps its stored history
pub ended_numbers : (cells history : List ℕ) (s : State) (sets : List (List ℕ)) → cells ≡ numbers_of (words (rows_of s.configuration)) history s.internal s.external (mode_no s.mode) → IsEnded s → history ≡ history_words sets →
    cells ≡ numbers_of (words []) (history_words sets) 0 0 (mode_no Ended)
ended_numbers cells history s sets e i h =
    let a = i.configuration in
    let b = i.internal in
    let d = i.external in
    let m = i.mode in
    e ∙ (λ j. numbers_of (words (a j)) (h j) (b j) (d j) (mode_no (m j)))

module _ (chart numbers internal external : List ℕ) (r : Ready chart) (h : HoldsAt chart numbers internal external) where
  abbrev f : Follower
  f = state_at chart numbers internal external

  few : row_count chart ≤ 256
  few = let n = r.tables.sized.counts.rows in omega arith

  conf_is : rows_of (configuration_in numbers) ≡ f.configuration
  conf_is = reads_configuration (chart_of chart) r.sound.tree few f numbers internal external h

  module _ (conf : RowSet) (at : conf ≡ configuration_in numbers) where
    rows_are : rows_of conf ≡ f.configuration
    rows_are = ap rows_of at ∙ conf_is

    pub closing_within : Within (row_count chart) (rows_of conf)
    closing_within =
        record { at = λ i m. set_below (row_count chart) f.configuration (configuration_set (chart_of chart) r.sound.tree f h.formed) i (sym (ap (mem i) rows_are) ∙ m) }

    abbrev es : List Effect
    es = exiting (chart_of chart) f.configuration f.configuration

    module _ (closing : mode_in numbers ≡ Closing) (clock : List ℕ) (k : ClockHolds Closing clock) where
      abbrev s : Timed
      s = timed_at chart numbers internal external clock

      mode_is : f.mode ≡ Closing
      mode_is = sym (reads_mode f numbers internal external h.spells) ∙ closing

      -- nothing is sent: the table is never full, and is emptied
      table_is : (names : Names) → table_in f.mode names (clock_in clock) es ≡ emptied
      unfolding table_in
      table_is names = ap (λ (m : Mode). table_in m names (clock_in clock) es) mode_is

      module _ (quiet : Bool) (old : List ℕ) (t : Tally) (n : Counted t (exiting (chart_of chart) (rows_of conf) (rows_of conf))) (o : Outcome)
          (j : o ≡ judged (refusal_if (ltb 32 (0 + 0)) (ltb (room_in quiet (length old)) t.entries))) where
        abbrev room : ℕ
        room = room_in quiet (length old)

        refused_is : (names : Names) → refusal room (closed_by f) false es ≡ refused_by (chart_of chart) names room s (closed_by f) es
        unfolding refused_by
        refused_is names = ap (λ (x : Table). refusal room (closed_by f) x.full es) (sym (table_is names))

        closing_judged : (names : Names) → o ≡ judged (refused_by (chart_of chart) names room s (closed_by f) es)
        unfolding refusal
        closing_judged names = j ∙ rw (n.entries, rows_are) (ap judged (refused_is names))

        pub closed_refused : (u : Turn) → u ≡ untouched o → (o ≡ Did → ⊥) → Closed quiet chart numbers internal external clock u numbers internal external clock old old
        closed_refused u y z = record {
          turned = λ names.
              turned_refused (chart_of chart) names quiet room (closing_round (chart_of chart) f) s u numbers internal external clock old (h.spells, k.spells) o y (closed_by f) es (unfold closing_round in refl) (closing_judged names) z;
        }

        spells_next : (names : Names) (cells inner outer clock_now : List ℕ) → Spells (closed_by f) cells inner outer → clock_now ≡ emptied_bytes clock →
            SpellsTimed (next_of (chart_of chart) names s (closed_by f) es) cells inner outer clock_now
        unfolding next_of timed emptied_bytes
        spells_next names cells inner outer clock_now a b =
            (a, b ∙ ap (λ (x : Table). clock_bytes (record { ticks = (clock_in clock).ticks; pending = x.pending })) (sym (table_is names)))

        pub closed_did : o ≡ Did → (e : State) → IsEnded e → (cells inner outer clock_now part : List ℕ) (w : Tally) (end shown : ℕ) → end ≡ shown_count quiet (length old) → shown ≡ shown_count quiet w.entries → Filled (take end old) part w (exiting (chart_of chart) (rows_of conf) (rows_of conf)) →
            inner ≡ replicate (length internal) 0 → outer ≡ replicate (length external) 0 → clock_now ≡ emptied_bytes clock →
            cells ≡ numbers_of (words (rows_of e.configuration)) (history_in numbers) e.internal e.external (mode_no e.mode) →
            Closed quiet chart numbers internal external clock (record { outcome = Did; count = shown; entries = w.entries }) cells inner outer clock_now old (part ++ drop end old)
        closed_did q e i cells inner outer clock_now part w end shown en sn v x y z n = record { turned = λ names. go names }
          where
            u : Filled (take end old) part w es
            u = rw rows_are at v

            go : (names : Names) → Turned (chart_of chart) names quiet room (closing_round (chart_of chart) f) s (record { outcome = Did; count = shown; entries = w.entries }) cells inner outer clock_now old (part ++ drop end old)
            go names =
                let goes : refused_by (chart_of chart) names room s (closed_by f) es ≡ none = judged_none _ (sym (closing_judged names) ∙ q) in
                let roomy : length es ≤ room = (not_refused room (closed_by f) false es (refused_is names ∙ goes)).roomy in
                turned_did (chart_of chart) names quiet room (closing_round (chart_of chart) f) s (record { outcome = Did; count = shown; entries = w.entries }) cells inner outer clock_now old (part ++ drop end old) (closed_by f) es
                (unfold closing_round in refl) goes refl
                (spells_next names cells inner outer clock_now
                (record {
                  numbers_are = ended_numbers cells (history_in numbers) e f.history n i (reads_history f numbers internal external h.spells);
                  internal_is = no_names internal inner x (internal_size f numbers internal external h.spells);
                  external_is = no_names external outer y (external_size f numbers internal external h.spells);
                }) z)
                (u.entries ∙ zero-add (length es)) (sn ∙ ap (shown_count quiet) (u.entries ∙ zero-add (length es)) ∙ sym (shown_count_lem quiet es)) (part_shown quiet old part w es end en roomy u)

-- ---- a round, by the mode

module _ (chart names numbers internal external : List ℕ) (h : HoldsAt chart numbers internal external) where
  abbrev this : Follower
  this = state_at chart numbers internal external

  pub round_mode : (m : Mode) → mode_in numbers ≡ m → round_in m (chart_of chart) (name_at names) this ≡ round (chart_of chart) (name_at names) this
  unfolding round
  round_mode m e = ap (λ (x : Mode). round_in x (chart_of chart) (name_at names) this) (sym e ∙ reads_mode this numbers internal external h.spells)

  module _ (clock : List ℕ) (mode : Mode) (at : mode ≡ mode_in numbers) where
    abbrev here : Timed
    here = timed_at chart numbers internal external clock

    -- the record is one beside a session of that mode
    pub record_holds : (m : Mode) → mode ≡ m → ClockHolds (mode_in numbers) clock → ClockHolds m clock
    record_holds m e = subst (λ (x : Mode). ClockHolds x clock) (sym at ∙ e)

    module _ (quiet : Bool) (t : Turn) (cells inner outer clock_now old new : List ℕ) where
      pub round_running : mode ≡ Running → Turned (chart_of chart) (name_at names) quiet (room_in quiet (length old)) (round_in Running (chart_of chart) (name_at names) this) here t cells inner outer clock_now old new →
          Turned (chart_of chart) (name_at names) quiet (room_in quiet (length old)) (round (chart_of chart) (name_at names) this) here t cells inner outer clock_now old new
      round_running e = subst (λ (r : Round). Turned (chart_of chart) (name_at names) quiet (room_in quiet (length old)) r here t cells inner outer clock_now old new) (round_mode Running (sym at ∙ e))

      pub round_closing : mode ≡ Closing → (b : Bool) → b ≡ quiet → Closed b chart numbers internal external clock t cells inner outer clock_now old new →
          Turned (chart_of chart) (name_at names) quiet (room_in quiet (length old)) (round (chart_of chart) (name_at names) this) here t cells inner outer clock_now old new
      unfolding round_in
      round_closing e b q c = subst (λ (r : Round). Turned (chart_of chart) (name_at names) quiet (room_in quiet (length old)) r here t cells inner outer clock_now old new) (round_mode Closing (sym at ∙ e)) ((subst (λ (x : Bool). Closed x chart numbers internal external clock t cells inner outer clock_now old new) q c).turned (name_at names))

    pub round_over : (quiet : Bool) (room : ℕ) (u : Turn) (old : List ℕ) → ClockHolds (mode_in numbers) clock → u ≡ untouched Over → mode ≡ Ended →
        Turned (chart_of chart) (name_at names) quiet room (round (chart_of chart) (name_at names) this) here u numbers internal external clock old old
    unfolding round_in
    round_over quiet room u old k y e =
        turned_over (chart_of chart) (name_at names) quiet room (round (chart_of chart) (name_at names) this) here u numbers internal external clock old (h.spells, k.spells) y (sym (round_mode Ended (sym at ∙ e)))
