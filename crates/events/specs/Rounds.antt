-- Where the event of a round comes from, and the queues once it has left.
use Rattle.std.specs.Prelude.{◌≡◌, Bool, true, ◌&&◌, List, [], ◌++◌, map, ℕ, ◌+◌, ◌/◌, ◌%◌, ltb, length, drop, replicate}
use Rattle.std.proofs.Math.Option.{Option}
use Rattle.definition.specs.declared.Mode.TheVariants.{Running}
use Rattle.definition.specs.Rows.{all, flat}
use Rattle.definition.specs.Names.{Name}
use Rattle.definition.specs.Chart.{Chart, Names}
use Rattle.definition.specs.Tables.{row_count, name_count, name_at, id_at, chart_of}
use Rattle.follower.specs.Selection.{History}
use Rattle.follower.specs.Blocks.{Effect, exited, taken, entered, acted, raised, done, chosen, sent, cancelled, queued}
use Rattle.follower.specs.Follower.{Follower, Round, idle, round_in}
use Rattle.rowset.specs.Member.{rows_of}
use Rattle.matching.specs.Chosen.{list_of, Within}
use Rattle.matching.specs.Choosers.{choosers_in}
use Rattle.selection.specs.declared.Selected.{Selected}
use Rattle.selection.specs.History.{stored_at}
use Rattle.selection.specs.Ready.{Selects}
use Rattle.selection.specs.Choosers.{IsSelectedBy}
use Rattle.lookup.specs.Lookup.{Lookup}
use Rattle.state.specs.State.{configuration_in, history_in}
use Rattle.effects.specs.Kinds.{effect_of}
use Rattle.effects.specs.Choosers.{chooser_in}
use Rattle.queue.specs.Queues.{queue_bytes, Waiting}
use Rattle.events.specs.Choosers.{taking_by}
use Rattle.events.specs.declared.Source.{Source}
use Rattle.events.specs.declared.Source.TheVariants.{Nothing, Eventless, Internal, External}
use Rattle.events.specs.declared.Choice.{Choice}

unfoldable pub internal_after : Source → Follower → List Name
internal_after Nothing f = f.internal
internal_after Eventless f = f.internal
internal_after Internal f = drop 1 f.internal
internal_after External f = f.internal

unfoldable pub external_after : Source → Follower → List Name
external_after Nothing f = f.external
external_after Eventless f = f.external
external_after Internal f = f.external
external_after External f = drop 1 f.external

-- the round that takes these transitions, which by says who chose, for an event from there
unfoldable pub round_by : Source → Chart → Names → Follower → (ℕ → ℕ) → List ℕ → Round
round_by Nothing c names f by ts = idle
round_by Eventless c names f by ts = taking_by c names f by (internal_after Eventless f) (external_after Eventless f) ts
round_by Internal c names f by ts = taking_by c names f by (internal_after Internal f) (external_after Internal f) ts
round_by External c names f by ts = taking_by c names f by (internal_after External f) (external_after External f) ts

-- all that the selection for an event is given: what is worked out of the chart, the session's numbers, room for the items
pub record EventReady (chart names index numbers items : List ℕ) : Type 0 where
  pub looked : Lookup chart names index
  pub size : length numbers ≡ 1031
  pub inside : Within (row_count chart) (rows_of (configuration_in numbers))
  pub places : length items ≡ 768

-- what was selected for the event, and who chose it
abbrev pub Found : List ℕ → List ℕ → List ℕ → Option Name → List ℕ → Selected → Type 0
Found chart names numbers event items r =
    IsSelectedBy (chart_of chart) (name_at names) (rows_of (configuration_in numbers)) (stored_at (history_in numbers)) event items r

-- the choice of a running session's next round: hist reads the stored history of f; the places behind the items say who chose (R-6)
pub record Chooses (c : Chart) (names : Names) (f : Follower) (hist : History) (items : List ℕ) (r : Choice) : Type 0 where
  pub is : round_in Running c names f ≡ round_by r.source c names f (chooser_in (choosers_in items)) (list_of items r.selected.len)
  pub selected : Selects c f.configuration hist items r.selected
  pub internal : r.source ≡ Internal → f.internal ≡ [] → ⊥
  pub external : r.source ≡ External → f.external ≡ [] → ⊥

-- ---- the queues' bytes once the event has left

unfoldable pub internal_bytes : Source → List ℕ → List ℕ
internal_bytes Nothing bytes = bytes
internal_bytes Eventless bytes = bytes
internal_bytes Internal bytes = drop 64 bytes ++ replicate 64 0
internal_bytes External bytes = bytes

unfoldable pub external_bytes : Source → List ℕ → List ℕ
external_bytes Nothing bytes = bytes
external_bytes Eventless bytes = bytes
external_bytes Internal bytes = bytes
external_bytes External bytes = drop 64 bytes ++ replicate 64 0

-- where the event comes from a queue, names wait in it
pub record Waits (source : Source) (internal external : List ℕ) (internal_total external_total : ℕ) : Type 0 where
  pub inner : source ≡ Internal → Waiting internal internal_total
  pub outer : source ≡ External → Waiting external external_total

-- ---- the names that joins stand for

unfoldable pub effect_at : ℕ → Effect
effect_at join = effect_of (join / 65536) (join % 65536)

unfoldable pub queued_names : Chart → Names → List ℕ → List Name
queued_names c names joins = flat (queued c names) (map effect_at joins)

-- what an effect queues stands in the tables: a raised name is one of theirs, a done event is of a row that has an id
unfoldable pub is_known : List ℕ → Effect → Bool
is_known chart (exited i) = true
is_known chart (taken t) = true
is_known chart (entered i) = true
is_known chart (acted n) = true
is_known chart (raised n) = ltb n (name_count chart)
is_known chart (chosen i) = true
is_known chart (sent n delay id) = true
is_known chart (cancelled n) = true
is_known chart (done i) = ltb i (row_count chart) && ltb (id_at chart i) (name_count chart)

pub record JoinsIn (chart joins : List ℕ) : Type 0 where
  pub known : all (is_known chart) (map effect_at joins) ≡ true

-- these names join whatever count names the bytes of a queue hold
pub record Joins (more : List Name) (before after : List ℕ) (count n : ℕ) : Type 0 where
  pub bytes : (names : List Name) → before ≡ queue_bytes names → count ≡ length names → after ≡ queue_bytes (names ++ more)
  pub number : n ≡ count + length more
