-- Demand 3: compiling loses nothing.
use Rattle.std.specs.Prelude.{◌≡◌, refl, true, ℕ, suc, ◌≤◌, drop}
use Rattle.std.proofs.Common.{sym, ◌∙◌}
use Rattle.std.proofs.Math.Path.{ap}
use mathlib.Core.List.{List, [], ◌∷◌, ◌++◌, map}
use Rattle.std.proofs.Math.ListN.{length}
use Rattle.definition.specs.declared.Answer.TheVariants.{Done}
use Rattle.definition.specs.Names.{Name}
use Rattle.definition.specs.Chart.{Chart}
use Rattle.definition.specs.Tables.{row_count, chart_of, name_at}
use Rattle.definition.specs.Rules.{keeps_rules}
use Rattle.follower.specs.Blocks.{Effect, trace_no}
use Rattle.definition.specs.Answers.{answer_no}
use Rattle.follower.specs.Follower.{Follower, Timed, Started, Ran, start, post, post_answer, clock_answer, clock, run}
use Rattle.follower.specs.Calls.{Outcome, started_outcome, ran_outcome, Call, starts, posts, clocks, runs, follow, follow_all, at_rest}
use Rattle.follower.specs.Legal.{WellTimed, is_well_timed}
use Rattle.definition.specs.Compiled.{own_numbers, is_compiled}
use Rattle.accepted.specs.Sound.{Sound, accepted_sound}
use Rattle.laws.specs.Simulation.{Pairwise, Answers, simulation, pairwise_map}
use Rattle.theory.specs.Theorems.{timed_exact, start_keeps, follow_keeps, rest_well_timed, follower_answers}
use Rattle.clock.specs.Records.{clock_bytes, clock_in}
use Rattle.clock.specs.Spelled.{zeros_are_new}
use Rattle.state.specs.State.{trace_with}
use Rattle.session.specs.declared.Posted.{Posted}
use Rattle.session.specs.Sessions.{session_of, view, record_of, view_timed, is_timed, start_by, started_as, start_of, start_effects, post_of, post_checked, run_from, ran_as, run_of, run_effects, clocked_as, clock_of}
use Rattle.session.specs.Spelling.{session_passes, ended_spells}
use Rattle.session.specs.Timing.{view_timed_lem, timed_passes}
use Rattle.session.specs.Posting.{post_answers, post_spells}
use Rattle.session.specs.Clocking.{clock_follows}
use Rattle.faithful.specs.Program.{Both, both_of, zeros, Step, start_step, post_step, clock_step, run_step, call, call_all}
use Rattle.faithful.specs.Alike.{Alike, alike_both, AllAlike}

-- the program is a machine of calls
program_answers : (chart slots : List ℕ) → Answers (call chart slots) (λ (x : Step). x.after) (call_all chart slots)
unfolding call_all
program_answers chart slots = record { stop = λ s. refl; go = λ s x xs. refl }

numbered : (es : List Effect) → length es ≡ length (map trace_no es)
numbered [] = refl
numbered (e ∷ es) = ap suc (numbered es)

traced : (es : List Effect) (old : List ℕ) → trace_with old es ≡ map trace_no es ++ drop (length (map trace_no es)) old
unfolding trace_with
traced es old = ap (λ (n : ℕ). map trace_no es ++ drop n old) (numbered es)

zeros_spell : (c : Chart) → zeros ≡ both_of (at_rest c)
unfolding zeros both_of at_rest record_of
zeros_spell c = let s = ended_spells c in let k = sym zeros_are_new in λ j. record { session = s j; clock = record { bytes = k j } }

-- a lent compiled chart that means the chart of these numbers
pub record Means (numbers names chart slots : List ℕ) : Type 0 where
  pub checks : is_compiled chart slots ≡ true
  pub chart_is : chart_of (own_numbers chart) ≡ chart_of numbers
  pub slots_are : slots ≡ names
  pub few : row_count numbers ≤ 256

module _ (numbers names chart slots : List ℕ) (accepted : keeps_rules numbers names ≡ Done) (m : Means numbers names chart slots) where
  abbrev c : Chart
  c = chart_of numbers

  sound : Sound c
  sound = accepted_sound numbers names accepted

  exact : (t : Timed) → WellTimed c t → is_well_timed c t ≡ true
  exact t w = (timed_exact numbers names accepted t).1 w

  -- session and record that spell a well-formed state are read back as that state
  pub found : (t : Timed) → WellTimed c t → view_timed (row_count numbers) (session_of t.follower) (record_of t.clock) ≡ t
  found t w = view_timed_lem c sound m.few t (exact t w)

  pub passes : (t : Timed) → WellTimed c t → is_timed c (session_of t.follower) (record_of t.clock) ≡ true
  passes t w = timed_passes c sound m.few t (exact t w)

  found_session : (t : Timed) → WellTimed c t → view (row_count numbers) (session_of t.follower) ≡ t.follower
  unfolding view_timed
  found_session t w = ap (λ (x : Timed). x.follower) (found t w)

  found_clock : (t : Timed) → WellTimed c t → clock_in (clock_bytes t.clock) ≡ t.clock
  unfolding view_timed record_of
  found_clock t w = ap (λ (x : Timed). x.clock) (found t w)

  -- ---- each call

  start_by_lem : (room : ℕ) → start_by chart slots room ≡ start c (name_at names) room
  unfolding start_by
  start_by_lem room = rw (m.checks, m.chart_is, m.slots_are)

  pub start_alike : (t : Timed) (b : Both) (room : ℕ) → WellTimed c (follow c (name_at names) t (starts room)).after → Alike (row_count numbers) (call chart slots b (starts room)) (follow c (name_at names) t (starts room))
  unfolding call start_step start_of started_as start_effects follow started_outcome record_of
  start_alike t b room w = record {
    number = ap (λ (r : Started). answer_no r.answer) (start_by_lem room);
    rounds = refl;
    count = ap (λ (r : Started). length r.effects) (start_by_lem room) ∙ numbered (start c (name_at names) room).effects;
    trace = λ old. ap (λ (r : Started). trace_with old r.effects) (start_by_lem room) ∙ traced (start c (name_at names) room).effects old;
    state = ap (λ (r : Started). view (row_count numbers) (session_of r.state.follower)) (start_by_lem room) ∙ found_session (start c (name_at names) room).state w;
    clock = ap (λ (r : Started). clock_in (clock_bytes r.state.clock)) (start_by_lem room) ∙ found_clock (start c (name_at names) room).state w;
    spelled = ap (λ (r : Started). session_of r.state.follower) (start_by_lem room);
    recorded = ap (λ (r : Started). clock_bytes r.state.clock) (start_by_lem room);
  }

  post_by : (f : Follower) (name : Name) → post_of (session_of f) chart slots name ≡ post_checked c (session_of f) name
  unfolding post_of
  post_by f name = rw (m.checks, m.chart_is)

  post_alike : (t : Timed) → WellTimed c t → (name : Name) → WellTimed c (follow c (name_at names) t (posts name)).after →
      Alike (row_count numbers) (call chart slots (both_of t) (posts name)) (follow c (name_at names) t (posts name))
  unfolding call post_step follow both_of record_of
  post_alike t w name v =
      let f : Follower = t.follower in
      let p = session_passes c sound t.follower m.few w.session in
      let e = found_session t w in
      let a = post_answers c sound m.few (session_of t.follower) p name in
      let s : (post_checked c (session_of t.follower) name).session ≡ session_of (post t.follower name) =
      post_spells c sound m.few (session_of t.follower) p name ∙ ap (λ (x : Follower). session_of (post x name)) e in
      record {
        number = ap answer_no (ap (λ (x : Posted). x.answer) (post_by t.follower name) ∙ a ∙ ap (λ (x : Follower). post_answer x name) e);
        rounds = refl;
        count = refl;
        trace = λ old. refl;
        state = ap (λ (x : Posted). view (row_count numbers) x.session) (post_by t.follower name) ∙ ap (view (row_count numbers)) s ∙ found_session (record { follower = post t.follower name; clock = t.clock }) v;
        clock = found_clock t w;
        spelled = ap (λ (x : Posted). x.session) (post_by t.follower name) ∙ s;
        recorded = refl;
      }

  clock_by : (t : Timed) → WellTimed c t → (ticks : ℕ) → clock_of (session_of t.follower) (record_of t.clock) chart slots ticks ≡
      clocked_as (session_of (clock t ticks).follower) (record_of (clock t ticks).clock) (clock_answer t ticks)
  unfolding clock_of
  clock_by t w ticks = rw (m.checks, m.chart_is) (clock_follows c sound m.few t (exact t w) ticks)

  clock_alike : (t : Timed) → WellTimed c t → (ticks : ℕ) → WellTimed c (clock t ticks) →
      Alike (row_count numbers) (call chart slots (both_of t) (clocks ticks)) (follow c (name_at names) t (clocks ticks))
  unfolding call clock_step follow both_of
  clock_alike t w ticks v = record {
    number = rw (clock_by t w ticks);
    rounds = refl;
    count = refl;
    trace = λ old. refl;
    state = rw (clock_by t w ticks) (found_session (clock t ticks) v);
    clock = rw (clock_by t w ticks) (unfold record_of in found_clock (clock t ticks) v);
    spelled = rw (clock_by t w ticks);
    recorded = rw (clock_by t w ticks) (unfold record_of in refl);
  }

  run_from_lem : (t : Timed) → WellTimed c t → (rounds room : ℕ) → run_from c slots (session_of t.follower) (record_of t.clock) rounds room ≡ run c (name_at names) rounds t room
  unfolding run_from
  run_from_lem t w rounds room =
      ap (λ (x : List ℕ). run c (name_at x) rounds (view_timed (row_count numbers) (session_of t.follower) (record_of t.clock)) room) m.slots_are ∙
      ap (λ (x : Timed). run c (name_at names) rounds x room) (found t w)

  pub run_by : (t : Timed) → WellTimed c t → (rounds room : ℕ) → run_of (session_of t.follower) (record_of t.clock) chart slots rounds room ≡ ran_as (run c (name_at names) rounds t room)
  unfolding run_of
  run_by t w rounds room = rw (m.checks, m.chart_is, passes t w) (ap ran_as (run_from_lem t w rounds room))

  pub run_effects_lem : (t : Timed) → WellTimed c t → (rounds room : ℕ) → run_effects (session_of t.follower) (record_of t.clock) chart slots rounds room ≡ (run c (name_at names) rounds t room).effects
  unfolding run_effects
  run_effects_lem t w rounds room = rw (m.checks, m.chart_is, passes t w) (ap (λ (r : Ran). r.effects) (run_from_lem t w rounds room))

  run_alike : (t : Timed) → WellTimed c t → (rounds room : ℕ) → WellTimed c (run c (name_at names) rounds t room).state →
      Alike (row_count numbers) (call chart slots (both_of t) (runs rounds room)) (follow c (name_at names) t (runs rounds room))
  unfolding call run_step follow ran_outcome ran_as both_of
  run_alike t w rounds room v = record {
    number = rw (run_by t w rounds room);
    rounds = rw (run_by t w rounds room);
    count = rw (run_by t w rounds room) (numbered (run c (name_at names) rounds t room).effects);
    trace = λ old. ap (trace_with old) (run_effects_lem t w rounds room) ∙ traced (run c (name_at names) rounds t room).effects old;
    state = rw (run_by t w rounds room) (found_session (run c (name_at names) rounds t room).state v);
    clock = rw (run_by t w rounds room) (unfold record_of in found_clock (run c (name_at names) rounds t room).state v);
    spelled = rw (run_by t w rounds room);
    recorded = rw (run_by t w rounds room) (unfold record_of in refl);
  }

  pub call_alike : (t : Timed) → WellTimed c t → (x : Call) → Alike (row_count numbers) (call chart slots (both_of t) x) (follow c (name_at names) t x)
  call_alike t w (starts room) = start_alike t (both_of t) room (follow_keeps numbers names accepted t w (starts room))
  call_alike t w (posts name) = post_alike t w name (follow_keeps numbers names accepted t w (posts name))
  call_alike t w (clocks ticks) = clock_alike t w ticks (unfold follow in follow_keeps numbers names accepted t w (clocks ticks))
  call_alike t w (runs rounds room) = run_alike t w rounds room (unfold follow ran_outcome in follow_keeps numbers names accepted t w (runs rounds room))

  -- ---- every list of calls, from session and record that spell a well-formed state

  -- the program spells the follower's state, which is well formed
  abbrev Spells : Both → Timed → Type 0
  Spells b t = (b ≡ both_of t) × WellTimed c t

  -- a step and an outcome are alike, and the outcome's state is well formed
  abbrev pub AlikeFormed : Step → Outcome → Type 0
  AlikeFormed x o = Alike (row_count numbers) x o × WellTimed c o.after

  step_spells : (b : Both) (t : Timed) (x : Call) → Spells b t →
      AlikeFormed (call chart slots b x) (follow c (name_at names) t x) × Spells (call chart slots b x).after (follow c (name_at names) t x).after
  step_spells b t x r =
      let w = follow_keeps numbers names accepted t r.1 x in
      let a : Alike (row_count numbers) (call chart slots b x) (follow c (name_at names) t x) = rw r.0 (call_alike t r.1 x) in
      ((a, w), (alike_both (row_count numbers) (call chart slots b x) (follow c (name_at names) t x) a, w))

  pub calls_alike : (calls : List Call) (t : Timed) → WellTimed c t → Pairwise AlikeFormed (call_all chart slots (both_of t) calls) (follow_all c (name_at names) t calls)
  calls_alike calls t w = simulation (program_answers chart slots) (follower_answers c (name_at names)) Spells AlikeFormed step_spells calls (both_of t) t (refl, w)

  -- ---- demand 3

  -- from a start, refused or not, whatever session and record it is given and wherever the follower stood
  pub formed_from_start : (b : Both) (t : Timed) (room : ℕ) (calls : List Call) →
      Pairwise AlikeFormed (call_all chart slots b (starts room ∷ calls)) (follow_all c (name_at names) t (starts room ∷ calls))
  unfolding call_all follow_all
  formed_from_start b t room calls =
      let w : WellTimed c (follow c (name_at names) t (starts room)).after = unfold follow started_outcome in start_keeps numbers names accepted room in
      let a = start_alike t b room w in
      let s = alike_both (row_count numbers) (call chart slots b (starts room)) (follow c (name_at names) t (starts room)) a in
      ((a, w), rw s (calls_alike calls (follow c (name_at names) t (starts room)).after w))

  pub faithful : (b : Both) (t : Timed) (room : ℕ) (calls : List Call) →
      AllAlike (row_count numbers) (call_all chart slots b (starts room ∷ calls)) (follow_all c (name_at names) t (starts room ∷ calls))
  faithful b t room calls =
      pairwise_map (Alike (row_count numbers)) (λ x o h. h.0) (call_all chart slots b (starts room ∷ calls)) (follow_all c (name_at names) t (starts room ∷ calls)) (formed_from_start b t room calls)

  -- and from a session and a record of zeros, before any start
  pub formed_from_zeros : (calls : List Call) → Pairwise AlikeFormed (call_all chart slots zeros calls) (follow_all c (name_at names) (at_rest c) calls)
  formed_from_zeros calls = rw (zeros_spell c) (calls_alike calls (at_rest c) (unfold at_rest in rest_well_timed numbers names accepted))

  pub faithful_ended : (calls : List Call) → AllAlike (row_count numbers) (call_all chart slots zeros calls) (follow_all c (name_at names) (at_rest c) calls)
  faithful_ended calls =
      pairwise_map (Alike (row_count numbers)) (λ x o h. h.0) (call_all chart slots zeros calls) (follow_all c (name_at names) (at_rest c) calls) (formed_from_zeros calls)
