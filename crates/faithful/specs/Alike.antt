-- When a step of the program and an outcome of the plain follower are alike.
use Rattle.std.specs.Prelude.{◌≡◌, List, ◌++◌, ℕ, length, drop}
use Rattle.follower.specs.Calls.{Outcome}
use Rattle.laws.specs.Simulation.{Pairwise}
use Rattle.clock.specs.Records.{clock_bytes, clock_in}
use Rattle.session.specs.Sessions.{session_of, view, record_of}
use Rattle.faithful.specs.Program.{Step, both_of}

pub record Alike (rows : ℕ) (a : Step) (o : Outcome) : Type 0 where
  pub number : a.number ≡ o.number
  pub rounds : a.rounds ≡ o.rounds
  -- as many entries are reported, and a lent trace begins with them; "Trace places beyond the reported count keep their numbers."
  pub count : a.count ≡ length o.trace
  pub trace : (old : List ℕ) → a.left old ≡ o.trace ++ drop (length o.trace) old
  -- configuration, stored history, both queues in order and mode
  pub state : view rows a.after.session ≡ o.after.follower
  -- "the clock and the pending sends in order" (R-9)
  pub clock : clock_in a.after.clock.bytes ≡ o.after.clock
  -- and no other bit of the session or of the record is set
  pub spelled : a.after.session ≡ session_of o.after.follower
  pub recorded : a.after.clock.bytes ≡ clock_bytes o.after.clock

-- so both are those that spell the state
pub alike_both : (rows : ℕ) (a : Step) (o : Outcome) → Alike rows a o → a.after ≡ both_of o.after
unfolding both_of record_of
alike_both rows a o h = let s = h.spelled in let k = h.recorded in λ j. record { session = s j; clock = record { bytes = k j } }

-- step by step, and as many steps as outcomes
abbrev pub AllAlike : ℕ → List Step → List Outcome → Type 0
AllAlike rows xs os = Pairwise (Alike rows) xs os
