-- Every completed round of every run of the program, whatever session the run is given.
use Rattle.std.specs.Prelude.{◌≡◌, true, false}
use Rattle.std.proofs.Math.Path.{refl, ap}
use Rattle.std.proofs.Common.{sym, ◌∙◌, arith, length-append, drop_at}
use mathlib.Core.List.{List}
use Prim.Native.Nat.{ℕ, suc, ◌-◌, ◌<◌}
use Rattle.std.proofs.Math.ListN.{length}
use Rattle.std.proofs.Math.Seq.{take_at}
use Rattle.definition.specs.declared.Mode.TheVariants.{Ended}
use Rattle.definition.specs.declared.Answer.TheVariants.{Done}
use Rattle.definition.specs.Chart.{Chart, Names}
use Rattle.definition.specs.Tables.{row_count, chart_of, name_at}
use Rattle.definition.specs.Rules.{keeps_rules}
use Rattle.follower.specs.Follower.{Follower, Timed, Ran, run}
use Rattle.follower.specs.Legal.{is_legal, WellFormed, WellTimed}
use Rattle.laws.specs.Bools.{bool_case}
use Rattle.theory.specs.Runs.{run_rounds, joined, on_from}
use Rattle.theory.specs.Shown.{taken_in, DisjointExits}
use Rattle.theory.specs.Theorems.{timed_exact, run_keeps, round_disjoint}
use Rattle.state.specs.State.{rows_at, mode_from}
use Rattle.session.specs.declared.Session.{Session}
use Rattle.session.specs.declared.Clock.{Clock}
use Rattle.session.specs.declared.Ran as handed
use Rattle.session.specs.Sessions.{view, view_timed, is_timed, refused_run, ran_as, run_from, run_of, run_effects}
use Rattle.session.specs.Timing.{timed_well}
use Rattle.faithful.specs.Program.{Step, run_step, joined_runs, going_on, round_effects}
use Rattle.faithful.proofs.Faithful.{Means, found, run_by}
use Rattle.faithful.specs.Cuts.{all_done, cut, one_more, next_round}

pub record LegalStep (c : Chart) (a : Step) : Type 0 where
  pub legal : (mode_from a.after.session.mode ≡ Ended → ⊥) → is_legal c (rows_at a.after.session.configuration 0) ≡ true

-- a step whose session is read as a well-formed state
pub step_legal : (c : Chart) (rows : ℕ) (a : Step) (f : Follower) → view rows a.after.session ≡ f → WellFormed c f → LegalStep c a
unfolding view
step_legal c rows a f e w = record { legal = λ n. ap (λ (x : Follower). is_legal c x.configuration) e ∙ w.legal (λ m. n (ap (λ (x : Follower). x.mode) e ∙ m)) }

-- round k, counted from 0, of a run
pub record CompletedRound (c : Chart) (chart names : List ℕ) (s : Session) (y : Clock) (rounds room k : ℕ) : Type 0 where
  -- a run of k + 1 rounds does them, and this one goes on where that one ends
  pub done : (run_of s y chart names (suc k) room).rounds ≡ suc k
  pub passes : run_of s y chart names rounds room ≡ joined_runs (run_of s y chart names (suc k) room) (going_on chart names rounds room (run_of s y chart names (suc k) room))
  -- the configuration there is legal, unless the session has ended
  pub legal : LegalStep c (run_step chart names (record { session = s; clock = y }) (suc k) room)
  -- the transitions that the round takes, read off the trace, have disjoint exit sets by configuration and stored history before it
  pub disjoint : DisjointExits c (view c.rows (run_of s y chart names k room).session) (taken_in (round_effects chart names s y rounds room k))

pub joined_as : (r q : Ran) (c : Chart) (names : Names) → ran_as (joined c names r q) ≡ joined_runs (ran_as r) (ran_as q)
unfolding ran_as joined joined_runs
joined_as r q c names = rw (length-append r.effects q.effects)

module _ (numbers names chart slots : List ℕ) (accepted : keeps_rules numbers names ≡ Done) (m : Means numbers names chart slots) where
  abbrev c : Chart
  c = chart_of numbers

  -- a run that does a round has been given a well-formed session
  pub refused_none : (s : Session) (y : Clock) (rounds room : ℕ) → is_timed c s y ≡ false → (run_of s y chart slots rounds room).rounds ≡ 0
  unfolding run_of refused_run
  refused_none s y rounds room h = rw (m.checks, m.chart_is, h)

  module _ (s : Session) (y : Clock) (h : is_timed c s y ≡ true) (rounds room : ℕ) where
    abbrev f : Timed
    f = view_timed (row_count numbers) s y

    well : WellTimed c f
    well = (timed_exact numbers names accepted f).0 (timed_well c s y h)

    -- the follower's run of so many rounds
    abbrev r : ℕ → Ran
    r k = run c (name_at names) k f room

    runs_from : (k : ℕ) → run_from c slots s y k room ≡ r k
    unfolding run_from
    runs_from k = ap (λ (x : List ℕ). run c (name_at x) k f room) m.slots_are

    pub runs_as : (k : ℕ) → run_of s y chart slots k room ≡ ran_as (r k)
    unfolding run_of
    runs_as k = rw (m.checks, m.chart_is, h) (ap ran_as (runs_from k))

    pub effects_as : run_effects s y chart slots rounds room ≡ (r rounds).effects
    unfolding run_effects
    effects_as = rw (m.checks, m.chart_is, h) (ap (λ (x : Ran). x.effects) (runs_from rounds))

    pub kept : (k : ℕ) → WellTimed c (r k).state
    kept k = run_keeps numbers names accepted f well k room

    pub seen : (k : ℕ) → view (row_count numbers) (run_of s y chart slots k room).session ≡ (r k).state.follower
    unfolding ran_as view_timed
    seen k = rw (runs_as k) (ap (λ (x : Timed). x.follower) (found numbers names chart slots accepted m (r k).state (kept k)))

    module _ (k : ℕ) (l : k < (r rounds).rounds) where
      done : (run_of s y chart slots (suc k) room).rounds ≡ suc k
      unfolding ran_as
      done = rw (runs_as (suc k)) (all_done c (name_at names) (suc k) rounds f room (omega arith))

      whole : r rounds ≡ joined c (name_at names) (r (suc k)) (on_from c (name_at names) (rounds - suc k) (r (suc k)) room)
      whole = let b = run_rounds c (name_at names) rounds f room in cut c (name_at names) (suc k) rounds f room (omega arith) (omega arith)

      passes : run_of s y chart slots rounds room ≡ joined_runs (run_of s y chart slots (suc k) room) (going_on chart slots rounds room (run_of s y chart slots (suc k) room))
      unfolding going_on
      passes =
          runs_as rounds ∙ ap ran_as whole ∙ joined_as (r (suc k)) (on_from c (name_at names) (rounds - suc k) (r (suc k)) room) c (name_at names) ∙
          ap (joined_runs (ran_as (r (suc k)))) (sym goes) ∙
          ap (λ (x : handed.Ran). joined_runs x (run_of x.session x.clock chart slots (rounds - x.rounds) (room - x.count))) (sym (runs_as (suc k)))
        where
          goes : run_of (ran_as (r (suc k))).session (ran_as (r (suc k))).clock chart slots (rounds - (ran_as (r (suc k))).rounds) (room - (ran_as (r (suc k))).count) ≡ ran_as (on_from c (name_at names) (rounds - suc k) (r (suc k)) room)
          goes =
              unfold ran_as on_from in
              rw (all_done c (name_at names) (suc k) rounds f room (omega arith))
              (run_by numbers names chart slots accepted m (r (suc k)).state (kept (suc k)) (rounds - suc k) (room - length (r (suc k)).effects))

      pub entries : round_effects chart slots s y rounds room k ≡ (on_from c (name_at names) 1 (r k) room).effects
      unfolding round_effects ran_as joined
      entries =
          rw (
            runs_as k,
            runs_as (suc k),
            effects_as,
            whole,
            take_at (r (suc k)).effects (on_from c (name_at names) (rounds - suc k) (r (suc k)) room).effects (length (r (suc k)).effects) refl,
            one_more c (name_at names) k f room,
          )
          (drop_at (r k).effects (on_from c (name_at names) 1 (r k) room).effects (length (r k).effects) refl)

      taken_apart : DisjointExits c (r k).state.follower (taken_in (on_from c (name_at names) 1 (r k) room).effects)
      taken_apart =
          let o = next_round c (name_at names) k rounds f room l in
          rw o.left (round_disjoint numbers names accepted (r k).state.follower o.next o.effects o.did_it)

      round_completed : CompletedRound c chart slots s y rounds room k
      unfolding run_step
      round_completed = record {
        done = done;
        passes = passes;
        legal = step_legal c (row_count numbers) (run_step chart slots (record { session = s; clock = y }) (suc k) room) (r (suc k)).state.follower (seen (suc k)) (kept (suc k)).session;
        disjoint = rw (seen k, entries) taken_apart;
      }

  pub completed : (s : Session) (y : Clock) (rounds room k : ℕ) → k < (run_of s y chart slots rounds room).rounds → CompletedRound c chart slots s y rounds room k
  unfolding ran_as
  completed s y rounds room k l =
      bool_case (is_timed c s y)
      (λ h. round_completed s y h rounds room k (rw (runs_as s y h rounds room rounds) at l))
      (λ h. absurd (let z = refused_none s y rounds room h in omega arith))
