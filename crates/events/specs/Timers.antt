-- The sends and cancels of a round, a start or a closing round (R-9): the names that they speak of stand in their slots, and their numbers are those that
-- two cells of the notes hold.
use Rattle.std.specs.Prelude.{◌≡◌, Bool, false, ◌&&◌, ◌||◌, List, ℕ, ◌+◌, ◌*◌, ◌≤◌, ◌<◌, eqb, ltb, length, get_or}
use Rattle.std.proofs.Math.Path.{refl}
use Rattle.std.proofs.Common.{arith, ltb-true, lt-ltb, le-leb}
use Rattle.std.proofs.Math.Bool.{true}
use Rattle.std.proofs.Math.Dec.{leb}
use Rattle.std.proofs.Math.Seq.{get_or-take}
use Rattle.definition.specs.declared.Action.{Action}
use Rattle.definition.specs.declared.Action.TheVariants.{Raise, Host, If, ElseIf, Else, End, Send, Cancel}
use Rattle.definition.specs.Rows.{all}
use Rattle.definition.specs.Names.{is_name}
use Rattle.definition.specs.Tables.{no_number, most_delay, row_count, transition_count, reference_count, descriptor_count, action_count, name_count, transition_base, reference_base, descriptor_base, action_base, tables_size, action_cell, action_at, name_at, chart_of}
use Rattle.definition.specs.Rules.{each, optional_below, slot_fits, id_fits, raise_fits, action_named, rule2}
use Rattle.definition.specs.Compiled.{own_numbers}
use Rattle.follower.specs.Selection.{History}
use Rattle.follower.specs.Blocks.{Effect, perform}
use Rattle.follower.specs.Microstep.{exiting, effects}
use Rattle.follower.specs.Follower.{first_effects}
use Rattle.laws.specs.Bools.{and3, and_left, and_right, and_true}
use Rattle.laws.specs.Loops.{each_below}
use Rattle.tables.specs.Ranges.{layout, optional_small}
use Rattle.tables.specs.Actions.{fits_number, number_fits}
use Rattle.chart.specs.Ready.{CompiledWith}
use Rattle.matching.specs.Chosen.{Within}
use Rattle.clock.specs.Records.{is_slot, timer_known}
use Rattle.clock.specs.Tabled.{numbered}
use Rattle.events.specs.Entries.{Passes, exiting_passes, round_passes, start_passes}

-- ---- the actions of a compiled chart are those of the numbers that were compiled

module _ (chart : List ℕ) where
  own_cell : (k : ℕ) → k < tables_size chart → get_or (own_numbers chart) k 0 ≡ get_or chart k 0
  unfolding own_numbers
  own_cell k l = get_or-take (tables_size chart) chart k 0 l

  own_header : (k : ℕ) → k < 6 → get_or (own_numbers chart) k 0 ≡ get_or chart k 0
  own_header k l = own_cell k (unfold layout in omega arith)

  own_rows : row_count (own_numbers chart) ≡ row_count chart
  unfolding row_count
  own_rows = own_header 0 (omega arith)

  own_transitions : transition_count (own_numbers chart) ≡ transition_count chart
  unfolding transition_count
  own_transitions = own_header 1 (omega arith)

  own_references : reference_count (own_numbers chart) ≡ reference_count chart
  unfolding reference_count
  own_references = own_header 2 (omega arith)

  own_descriptors : descriptor_count (own_numbers chart) ≡ descriptor_count chart
  unfolding descriptor_count
  own_descriptors = own_header 3 (omega arith)

  own_actions : action_count (own_numbers chart) ≡ action_count chart
  unfolding action_count
  own_actions = own_header 4 (omega arith)

  own_base : action_base (own_numbers chart) ≡ action_base chart
  unfolding action_base descriptor_base reference_base transition_base
  own_base = rw (own_rows, own_transitions, own_references, own_descriptors)

  own_action_cell : (a k : ℕ) → a < action_count chart → k < 4 → action_cell (own_numbers chart) a k ≡ action_cell chart a k
  unfolding action_cell
  own_action_cell a k l m = rw own_base (own_cell (action_base chart + a * 4 + k) (unfold layout in omega arith))

  own_action : (a : ℕ) → a < action_count chart → action_at (own_numbers chart) a ≡ action_at chart a
  unfolding action_at
  own_action a l = rw (own_action_cell a 0 l (omega arith), own_action_cell a 1 l (omega arith), own_action_cell a 2 l (omega arith), own_action_cell a 3 l (omega arith))

-- ---- what the tables give

module _ (chart names : List ℕ) (size : length names ≡ name_count chart * 64) where
  slot_known : (n : ℕ) → n < name_count chart → is_name (name_at names n) ≡ true → is_slot names n ≡ true
  unfolding is_slot
  slot_known n l h = and_true (leb (n * 64 + 64) (length names)) _ (le-leb (n * 64 + 64) (length names) (omega arith)) h

  id_known_lem : (id : ℕ) (b : Bool) → eqb id no_number ≡ b → (eqb id no_number || ltb id (name_count chart)) ≡ true → (eqb id no_number || is_name (name_at names id)) ≡ true → (b || is_slot names id) ≡ true
  id_known_lem id true e h k = refl
  id_known_lem id false e h k = slot_known id (ltb-true _ _ (rw e at h)) (rw e at k)

  action_known : (a : Action) → fits_number chart a ≡ true → raise_fits names a ≡ true → all (timer_known names) (perform a) ≡ true
  unfolding fits_number raise_fits timer_known perform all
  action_known (Raise n) h k = refl
  action_known (Host n) h k = refl
  action_known (If i) h k = refl
  action_known (ElseIf i) h k = refl
  action_known Else h k = refl
  action_known End h k = refl
  action_known (Send n delay id) h k =
      let p = and3 (ltb n (name_count chart)) (leb delay most_delay) (optional_below (name_count chart) id) h in
      let s = slot_known n (ltb-true _ _ p.0) (and_left (is_name (name_at names n)) _ k) in
      let i = id_known_lem id (eqb id no_number) refl p.2 (and_right (is_name (name_at names n)) _ k) in
      and_true (is_slot names n && leb delay most_delay && (eqb id no_number || is_slot names id)) true (and_true (is_slot names n && leb delay most_delay) _ (and_true (is_slot names n) _ s p.1) i) refl
  action_known (Cancel n) h k = and_true (is_slot names n) true (slot_known n (ltb-true _ _ h) k) refl

action_numbered : (chart : List ℕ) (a : Action) → name_count chart ≤ 65534 → fits_number chart a ≡ true → all numbered (perform a) ≡ true
unfolding fits_number numbered perform all
action_numbered chart (Raise n) l h = refl
action_numbered chart (Host n) l h = refl
action_numbered chart (If i) l h = refl
action_numbered chart (ElseIf i) l h = refl
action_numbered chart Else l h = refl
action_numbered chart End l h = refl
action_numbered chart (Send n delay id) l h =
    let p = and3 (ltb n (name_count chart)) (leb delay most_delay) (optional_below (name_count chart) id) h in
    let m : n < name_count chart = ltb-true _ _ p.0 in
    let s = lt-ltb n no_number (omega arith) in
    let i = le-leb id no_number (optional_small (name_count chart) id (omega arith) p.2) in
    and_true (ltb n no_number && leb id no_number) true (and_true (ltb n no_number) _ s i) refl
action_numbered chart (Cancel n) l h = let m : n < name_count chart = ltb-true _ _ h in and_true (ltb n no_number) true (lt-ltb n no_number (omega arith)) refl

pub record TimersStand (names : List ℕ) (es : List Effect) : Type 0 where
  pub known : all (timer_known names) es ≡ true
  pub small : all numbered es ≡ true

module _ (chart names : List ℕ) (k : CompiledWith chart names) where
  -- "ids and raises names": events and send ids too (rule 2)
  action_named_lem : (a : ℕ) → a < action_count chart → raise_fits names (action_at chart a) ≡ true
  unfolding rule2 action_named
  action_named_lem a l =
      let own = own_numbers chart in
      let e = own_actions chart in
      let q = and3 (each (name_count own) (slot_fits names)) (each (row_count own) (id_fits own names)) (each (action_count own) (action_named own names)) k.rule2 in
      rw (own_action chart a l) at (each_below (action_named own names) (action_count own) q.2 a (omega arith))

  known_pass : Passes chart (timer_known names)
  unfolding timer_known
  known_pass = record {
    exit = λ i l. refl;
    take = λ i l. refl;
    enter = λ i l. refl;
    chose = λ i. refl;
    act = λ a l. action_known chart names k.names_size (action_at chart a) (number_fits chart a (record { tables = k.ready.tables; below = l })) (action_named_lem a l);
    finish = λ i l. refl;
  }

  small_pass : Passes chart numbered
  unfolding numbered
  small_pass =
      let n = k.ready.tables.sized.counts.names in
      record {
        exit = λ i l. refl;
        take = λ i l. refl;
        enter = λ i l. refl;
        chose = λ i. refl;
        act = λ a l. action_numbered chart (action_at chart a) (omega arith) (number_fits chart a (record { tables = k.ready.tables; below = l }));
        finish = λ i l. refl;
      }

  -- of a round from this configuration
  pub round_timers : (conf : List ℕ) (hist : History) (by : ℕ → ℕ) (ts : List ℕ) → Within (row_count chart) conf → Within (transition_count chart) ts → TimersStand names (effects (chart_of chart) conf hist by ts)
  round_timers conf hist by ts w v = record {
    known = round_passes chart k.ready (timer_known names) known_pass conf hist by ts w v;
    small = round_passes chart k.ready numbered small_pass conf hist by ts w v;
  }

  -- of a start
  pub start_timers : TimersStand names (first_effects (chart_of chart))
  start_timers = record { known = start_passes chart k.ready (timer_known names) known_pass; small = start_passes chart k.ready numbered small_pass }

  -- and of a closing round
  pub closing_timers : (conf : List ℕ) → Within (row_count chart) conf → TimersStand names (exiting (chart_of chart) conf conf)
  closing_timers conf w = record {
    known = exiting_passes chart k.ready (timer_known names) known_pass conf conf w;
    small = exiting_passes chart k.ready numbered small_pass conf conf w;
  }
