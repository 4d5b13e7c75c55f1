-- The laws of the function: the actions of a block are few, and each turn of a loop adds one row's or transition's room.
use Rattle.std.specs.Prelude.{◌≡◌, refl, Bool, true, false, not, List, ℕ, ◌+◌, ◌*◌, ◌≤◌, ◌<◌, length}
use Rattle.std.proofs.Common.{sym, ap, ◌∙◌, arith}
use Rattle.definition.specs.declared.Action.{Action}
use Rattle.definition.specs.Tables.{most_actions, chart_of}
use Rattle.definition.specs.Compiled.{is_compiled}
use Rattle.laws.specs.Loops.{said_not_yes, said_not_no}
use Rattle.laws.specs.Passes.{Counted, count_begin, count_turn}
use Rattle.tables.specs.Parts.{actions_of, BlockOf}
use Rattle.tables.specs.Ranges.{InTables}
use Rattle.chart.specs.Own.{own_chart, compiled_ready}
use Rattle.room.specs.Room.{rows_room, transitions_room, room_for, room_of}

-- the number that is meant, and at most so many: no sum of these is too long for a machine's number
pub record Few (meant most n : ℕ) : Type 0 where
  pub is : n ≡ meant
  pub few : n ≤ most

pub block_few : (numbers b : List ℕ) (actions : List Action) (n : ℕ) → BlockOf numbers actions b → n ≡ length (actions_of b) → Few (length actions) most_actions n
block_few numbers b actions n h e = let s = h.short in let q = e ∙ ap {B = ℕ} length h.is in record { is = q; few = omega arith }

-- what a loop has added up for the numbers below i, each at most so much
pub record Added (step : ℕ → ℕ → ℕ) (most n i sum : ℕ) : Type 0 where
  pub counted : Counted step 0 sum n i
  pub low : sum ≤ i * most

pub added_begin : (step : ℕ → ℕ → ℕ) (most n : ℕ) → Added step most n 0 0
added_begin step most n = record { counted = count_begin step 0 0 n refl; low = omega arith }

pub added_turn : (step : ℕ → ℕ → ℕ) (f : ℕ → ℕ) (most n i sum x : ℕ) → ((a k : ℕ) → step a k ≡ a + f k) → i < n → Added step most n i sum → Few (f i) most x → Added step most n (i + 1) (sum + x)
added_turn step f most n i sum x e l a h =
    let q = h.is in
    let b = h.few in
    let m = a.low in
    let s : sum + x ≡ step sum i = ap {B = ℕ} (λ y. sum + y) q ∙ sym (e sum i) in
    record { counted = count_turn step 0 sum n (sum + x) i l a.counted s; low = omega arith }

-- ---- the check's answer

module _ (chart names : List ℕ) (r : Bool) (e : r ≡ is_compiled chart names) where
  pub no_chart : not r ≡ true → 0 ≡ room_of chart names
  unfolding room_of
  no_chart h = rw (said_not_yes r (is_compiled chart names) e h)

  pub chart_tables : not r ≡ false → InTables chart
  chart_tables h = (compiled_ready chart names (said_not_no r (is_compiled chart names) e h)).ready.tables

  pub chart_room : not r ≡ false → (x y m k : ℕ) → Few (rows_room (chart_of chart)) m x → Few (transitions_room (chart_of chart)) k y → x + y ≡ room_of chart names
  unfolding room_of room_for
  chart_room h x y m k f g =
      let a = f.is in
      let b = g.is in
      rw (said_not_no r (is_compiled chart names) e h, own_chart chart (chart_tables h)) (omega arith)
