-- 7 and 10, judged by the counts of a round; and how many names wait once its event has left.
use Rattle.std.specs.Prelude.{◌≡◌, refl, Bool, true, false, ◌||◌, List, ◌++◌, ℕ, ◌+◌, ◌-◌, ◌≤◌, ◌<◌, ltb, length}
use Rattle.std.proofs.Common.{sym, ap, ◌∙◌, arith, length-append}
use Rattle.std.proofs.Math.Option.{none}
use borrow.Author.Tests.{ltb-false, lt-ltb, le-ltb}
use Rattle.definition.specs.declared.Answer.TheVariants.{Full, NoRoom}
use Rattle.definition.specs.Rows.{flat}
use Rattle.definition.specs.Names.{Name}
use Rattle.definition.specs.Chart.{Chart, Names}
use Rattle.follower.specs.Blocks.{Effect, queued}
use Rattle.follower.specs.Follower.{Follower, refusal_if, refusal}
use Rattle.effects.specs.declared.Tally.{Tally}
use Rattle.paths.specs.Timing.{all_times}
use Rattle.effects.specs.Trace.{all_queues, queues_all, Places, Wrote}
use Rattle.events.specs.declared.Source.{Source}
use Rattle.events.specs.declared.Source.TheVariants.{Internal, External}
use Rattle.events.specs.Left.{internal_left, external_left}
use Rattle.rounds.specs.declared.Outcome.{Outcome}
use Rattle.rounds.specs.declared.Outcome.TheVariants.{Refused, Did}
use Rattle.rounds.specs.Turns.{judged, judged_none}
use Rattle.rounds.specs.Traces.{nothing}

-- how many entries the effects make, how many names they queue, and how many of them send or cancel
pub record Counted (t : Tally) (es : List Effect) : Type 0 where
  pub entries : t.entries ≡ length es
  pub names : t.names ≡ all_queues es
  pub timers : t.timers ≡ all_times es

pub wrote_counted : (old new : Places) (t : Tally) (es : List Effect) → Wrote old new nothing t es → Counted t es
wrote_counted old new t es w = let e = w.entries in let n = w.names in let m = w.timers in record { entries = omega arith; names = omega arith; timers = omega arith }

-- ---- each answer of the code

module _ (kept room : ℕ) (t : Tally) (l : kept ≤ 32) where
  pub judged_full : 32 - kept < t.names → Refused Full ≡ judged (refusal_if (ltb 32 (kept + t.names)) (ltb room t.entries))
  unfolding judged refusal_if
  judged_full h = rw (lt-ltb 32 (kept + t.names) (omega arith))

  module _ (few : t.names ≤ 32 - kept) where
    pub judged_room : room < t.entries → Refused NoRoom ≡ judged (refusal_if (ltb 32 (kept + t.names)) (ltb room t.entries))
    unfolding judged refusal_if
    judged_room h = rw (le-ltb 32 (kept + t.names) (omega arith), lt-ltb room t.entries h)

    pub judged_did : t.entries ≤ room → Did ≡ judged (refusal_if (ltb 32 (kept + t.names)) (ltb room t.entries))
    unfolding judged refusal_if
    judged_did h = rw (le-ltb 32 (kept + t.names) (omega arith), le-ltb room t.entries h)

-- done only where the entries have room
roomy_if : (a b : Bool) → refusal_if a b ≡ none → b ≡ false
unfolding refusal_if
roomy_if true b e = let z : ◌≡◌ {A = ℕ} 0 1 = cc in absurd (omega arith)
roomy_if false true e = let z : ◌≡◌ {A = ℕ} 0 1 = cc in absurd (omega arith)
roomy_if false false e = refl

pub did_roomy : (o : Outcome) (full : Bool) (room : ℕ) (t : Tally) → o ≡ judged (refusal_if full (ltb room t.entries)) → o ≡ Did → t.entries ≤ room
did_roomy o full room t j e = ltb-false _ _ (roomy_if full (ltb room t.entries) (judged_none (refusal_if full (ltb room t.entries)) (sym j ∙ e)))

-- by a room that is equal
pub judged_by : (o : Outcome) (full : Bool) (room other n : ℕ) → room ≡ other → o ≡ judged (refusal_if full (ltb room n)) → o ≡ judged (refusal_if full (ltb other n))
judged_by o full room other n e j = j ∙ ap (λ (k : ℕ). judged (refusal_if full (ltb k n))) e

-- what was judged is what the definition refuses
pub refusal_judged : (c : Chart) (names : Names) (room kept : ℕ) (t : Tally) (full : Bool) (waiting : List Name) (next : Follower) (es : List Effect) → Counted t es → kept ≡ length waiting →
    next.internal ≡ waiting ++ flat (queued c names) es → refusal_if (ltb 32 (kept + t.names) || full) (ltb room t.entries) ≡ refusal room next full es
unfolding refusal
refusal_judged c names room kept t full waiting next es n k e =
    let m : kept + t.names ≡ length next.internal = sym (ap {B = ℕ} length e ∙ omega (arith, length-append waiting (flat (queued c names) es), queues_all c names es, n.names)) in
    rw (m, n.entries)

-- ---- names that wait

-- a queue that the event comes from has a name
pub record LeavesInternal (source : Source) (n : ℕ) : Type 0 where
  pub some : source ≡ Internal → 0 < n

pub record LeavesExternal (source : Source) (n : ℕ) : Type 0 where
  pub some : source ≡ External → 0 < n

module _ (source : Source) (n : ℕ) where
  pub one_left : source ≡ Internal → n - 1 ≡ internal_left source n
  unfolding internal_left
  one_left e = rw e

  pub one_out : source ≡ External → n - 1 ≡ external_left source n
  unfolding external_left
  one_out e = rw e
