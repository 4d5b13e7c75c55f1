-- The theorems in one place: for tables that keep the rules, every call keeps a session and its clock record well formed.
use Rattle.std.specs.Prelude.{◌≡◌, Bool, not, ◌&&◌, ◌||◌, cond, ◌↔◌, ℕ, ◌-◌, ◌≤◌}
use Rattle.std.proofs.Math.Path.{refl, subst}
use Rattle.std.proofs.Common.{sym, ◌∙◌, inl, inr, arith}
use Rattle.std.proofs.Math.Bool.{true, false}
use mathlib.Core.List.{List, [], ◌∷◌, ◌++◌}
use Rattle.std.proofs.Math.Option.{Option, none, some}
use Rattle.std.proofs.Math.Dec.{eqb, leb, ltb}
use Rattle.std.proofs.Math.ListN.{length, length-append}
use borrow.Author.Tests.{leb-true, le-leb, ltb-false}
use Rattle.definition.specs.declared.Action.{Action}
use Rattle.definition.specs.declared.Mode.{Mode}
use Rattle.definition.specs.declared.Mode.TheVariants.{Running, Closing, Ended}
use Rattle.definition.specs.declared.Answer.{Answer}
use Rattle.definition.specs.declared.Answer.TheVariants.{Done, SessionEnded, ClockBack}
use Rattle.definition.specs.Rows.{mem, any, all, is_empty, nothing_at}
use Rattle.definition.specs.Names.{Name, is_name}
use Rattle.definition.specs.Chart.{Chart, Names}
use Rattle.definition.specs.Tables.{chart_of, name_at}
use Rattle.definition.specs.Rules.{keeps_rules}
use Rattle.follower.specs.Selection.{initial_targets, chooser}
use Rattle.definition.specs.Answers.{answer_no}
use Rattle.follower.specs.Blocks.{Effect, performed}
use Rattle.follower.specs.Microstep.{paths_below, targeted, stored_in, history_after, entry_of, fallen_of}
use Rattle.follower.specs.Clock.{Timer, new_clock, most_ticks, most_pending, emptied, join_due}
use Rattle.follower.specs.Follower.{Follower, ended_follower, is_final_under_root, most_queued, Round, idle, over, did, taking, closing_round, round, refusal, selected_by, first_entry, first_fallen, first_follower, first_effects, first_table, Timed, timed, table_in, start_or, start, is_ended, post_answer, with_external, post, clock_answer, with_names, clocked_by, clocked, clock, run}
use Rattle.follower.specs.Legal.{is_legal, WellFormed, is_well_formed, timer_fits, WellTimed, clock_fits, is_well_timed}
use Rattle.follower.specs.Calls.{Call, starts, posts, clocks, runs, Outcome, started_outcome, ran_outcome, follow, follow_all, at_rest}
use Rattle.laws.specs.Bools.{no, clash, and4, bool_case, and_left, and_right, and_true}
use Rattle.laws.specs.Lists.{all_both}
use Rattle.laws.specs.Simulation.{Every, Answers, simulation, every_first}
use Rattle.accepted.specs.Sound.{Sound, accepted_sound, accepted_rule1, accepted_rule2}
use Rattle.theory.specs.Runs.{refusal_not_done, round_cases, next_of, refused_by, run-invariant}
use Rattle.theory.specs.Queues.{Queued, ended_queued, first_queued, first_sends, post_queued, round_queued, round_sends}
use Rattle.theory.specs.Shown.{taken_in, DisjointExits}
use Rattle.theory.specs.Shown as shown
use Rattle.theory.specs.EntryOrder.{EntrySet}
use Rattle.theory.specs.Seed.{first_means}
use Rattle.theory.specs.Choosers.{FirstChooser}
use Rattle.theory.specs.DefaultBlocks.{DefaultBlocks}
use Rattle.theory.specs.Fallen.{start_default_blocks}
use Rattle.theory.specs.Nested.{Branch, whole_if, NestedParts, NestedBlocks, nested_blocks}
use Rattle.theory.specs.Branches.{branch_taken, if_takes}
use Rattle.theory.specs.Keeps as keeps
use Rattle.theory.specs.Keeps.{Fit, FitAfter, ended_over, first_fits, post_fits, names_fit, round_fits}
use Rattle.theory.specs.Timers.{Timely, none_timely, table_timely, later_timely, due_joins}
use Rattle.theory.specs.WellFormed.{running_closing, mode_lives, parts_well_formed, well_formed_queues, well_formed_fit, well_formed_exact}

-- every outcome's state
abbrev pub EveryAfter : (Timed → Type 0) → List Outcome → Type 0
EveryAfter P os = Every (λ (o : Outcome). P o.after) os

-- the follower is a machine of calls
pub follower_answers : (c : Chart) (names : Names) → Answers (follow c names) (λ (o : Outcome). o.after) (follow_all c names)
unfolding follow_all
follower_answers c names = record { stop = λ s. refl; go = λ s x xs. refl }

module _ (numbers names : List ℕ) (accepted : keeps_rules numbers names ≡ Done) where
  sound : Sound (chart_of numbers)
  sound = accepted_sound numbers names accepted

  made : (s : Follower) → Queued s → Fit (chart_of numbers) s → WellFormed (chart_of numbers) s
  made s q f = parts_well_formed (chart_of numbers) sound s q f

  -- ---- the test of a session is exact

  pub test_exact : (s : Follower) → (is_well_formed (chart_of numbers) s ≡ true) ↔ WellFormed (chart_of numbers) s
  test_exact s = well_formed_exact (chart_of numbers) sound s

  -- ---- every call keeps a session well formed

  pub ended_well_formed : WellFormed (chart_of numbers) (ended_follower (chart_of numbers))
  ended_well_formed = made (ended_follower (chart_of numbers)) (ended_queued (chart_of numbers)) (inr (ended_over (chart_of numbers)))

  -- a completed round: one that is not refused
  pub round_keeps : (s : Follower) → WellFormed (chart_of numbers) s → (room : ℕ) (next : Follower) (full : Bool) (es : List Effect) →
      round (chart_of numbers) (name_at names) s ≡ did next es → refusal room next full es ≡ none → WellFormed (chart_of numbers) next
  round_keeps s w room next full es e q =
      made next
      (round_queued numbers names (accepted_rule1 numbers names accepted) (accepted_rule2 numbers names accepted) sound.tree s next full es room (well_formed_queues (chart_of numbers) sound s w) e q)
      (subst (FitAfter (chart_of numbers)) e (round_fits (chart_of numbers) sound (name_at names) s (well_formed_fit (chart_of numbers) sound s w)))

  pub post_keeps : (s : Follower) → WellFormed (chart_of numbers) s → (name : Name) → WellFormed (chart_of numbers) (post s name)
  post_keeps s w name =
      made (post s name) (post_queued s name (well_formed_queues (chart_of numbers) sound s w)) (post_fits (chart_of numbers) s name (well_formed_fit (chart_of numbers) sound s w))

  -- ---- and its clock record (R-9)

  timely_made : (s : Timed) → WellFormed (chart_of numbers) s.follower → s.clock.ticks ≤ most_ticks → Timely s.clock.ticks s.clock.pending →
      (s.follower.mode ≡ Ended → s.clock.pending ≡ []) → WellTimed (chart_of numbers) s
  timely_made s w l t e = record { session = w; ticks = l; few = t.few; timers = t.fit; emptied = e }

  pub rest_well_timed : WellTimed (chart_of numbers) (record { follower = ended_follower (chart_of numbers); clock = new_clock })
  rest_well_timed = timely_made (record { follower = ended_follower (chart_of numbers); clock = new_clock }) ended_well_formed (omega arith) (none_timely 0) (λ e. refl)

  -- the test of a session with its clock record is exact
  pub timed_exact : (s : Timed) → (is_well_timed (chart_of numbers) s ≡ true) ↔ WellTimed (chart_of numbers) s
  unfolding is_well_timed clock_fits is_ended is_empty
  timed_exact s = (
    (λ h. let k = and4 (leb s.clock.ticks most_ticks) (leb (length s.clock.pending) most_pending) (all (timer_fits s.clock.ticks) s.clock.pending) (not (is_ended s.follower.mode) || is_empty s.clock.pending)
        (and_right (is_well_formed (chart_of numbers) s.follower) _ h) in
        record {
          session = (test_exact s.follower).0 (and_left (is_well_formed (chart_of numbers) s.follower) _ h);
          ticks = leb-true _ _ k.0;
          few = leb-true _ _ k.1;
          timers = k.2;
          emptied = λ e. emptied_then s.follower.mode s.clock.pending k.3 e;
        }),
    (λ w. and_true (is_well_formed (chart_of numbers) s.follower) _ ((test_exact s.follower).1 w.session)
        (and_true (leb s.clock.ticks most_ticks && leb (length s.clock.pending) most_pending && all (timer_fits s.clock.ticks) s.clock.pending) _
        (rw (le-leb s.clock.ticks most_ticks w.ticks, le-leb (length s.clock.pending) most_pending w.few, w.timers)) (then_emptied s.follower.mode s.clock.pending w.emptied))),
  )
    where
      emptied_then : (m : Mode) (ss : List Timer) → (not (is_ended m) || is_empty ss) ≡ true → m ≡ Ended → ss ≡ []
      emptied_then m [] h e = refl
      emptied_then m (x ∷ ss) h e = absurd (no (rw e at h))

      then_emptied : (m : Mode) (ss : List Timer) → (m ≡ Ended → ss ≡ []) → (not (is_ended m) || is_empty ss) ≡ true
      then_emptied Running ss h = refl
      then_emptied Closing ss h = refl
      then_emptied Ended ss h = rw (h refl)

  pub first_keeps : (full : Bool) (room : ℕ) → refusal room (first_follower (chart_of numbers) (name_at names)) full (first_effects (chart_of numbers)) ≡ none →
      WellTimed (chart_of numbers) (timed (first_follower (chart_of numbers) (name_at names)) 0 (first_table (chart_of numbers) (name_at names)))
  unfolding timed first_table
  first_keeps full room q =
      timely_made (timed (first_follower (chart_of numbers) (name_at names)) 0 (first_table (chart_of numbers) (name_at names)))
      (made (first_follower (chart_of numbers) (name_at names))
      (first_queued numbers names (accepted_rule1 numbers names accepted) (accepted_rule2 numbers names accepted) sound.tree full room q) (inl (first_fits (chart_of numbers) sound (name_at names))))
      (omega arith)
      (table_timely (name_at names) 0 emptied (first_effects (chart_of numbers))
      (first_sends numbers names (accepted_rule1 numbers names accepted) (accepted_rule2 numbers names accepted) sound.tree) (none_timely 0))
      (λ e. absurd (mode_lives (chart_of numbers) (first_entry (chart_of numbers)).set (unfold first_follower in e)))

  pub start_keeps : (room : ℕ) → WellTimed (chart_of numbers) (start (chart_of numbers) (name_at names) room).state
  unfolding start start_or
  start_keeps room = go (refusal room (first_follower (chart_of numbers) (name_at names)) (first_table (chart_of numbers) (name_at names)).full (first_effects (chart_of numbers))) refl
    where
      go : (o : Option Answer) → refusal room (first_follower (chart_of numbers) (name_at names)) (first_table (chart_of numbers) (name_at names)).full (first_effects (chart_of numbers)) ≡ o →
          WellTimed (chart_of numbers) (start_or (chart_of numbers) (name_at names) o).state
      go none q = first_keeps (first_table (chart_of numbers) (name_at names)).full room q
      go (some x) q = rest_well_timed

  -- a running session's round does not end it
  abbrev Lives : Round → Type 0
  Lives idle = Unit {0}
  Lives over = Unit {0}
  Lives (did s es) = s.mode ≡ Ended → ⊥

  round_lives : (s next : Follower) (es : List Effect) → s.mode ≡ Running → round (chart_of numbers) (name_at names) s ≡ did next es → next.mode ≡ Ended → ⊥
  unfolding taking closing_round
  round_lives s next es m e =
      subst Lives e (round_cases (chart_of numbers) (name_at names) s Lives (λ q. tt) (λ q. tt) (λ q. absurd (running_closing s.mode m q))
      (λ q internal external event h. mode_lives (chart_of numbers) _))

  table_in_lem : (s : Timed) → WellTimed (chart_of numbers) s → (next : Follower) (es : List Effect) → round (chart_of numbers) (name_at names) s.follower ≡ did next es →
      (m : Mode) → s.follower.mode ≡ m →
      Timely s.clock.ticks (table_in m (name_at names) s.clock es).pending × (next.mode ≡ Ended → (table_in m (name_at names) s.clock es).pending ≡ [])
  unfolding table_in
  table_in_lem s w next es e Running m = (
    table_timely (name_at names) s.clock.ticks (record { pending = s.clock.pending; full = false }) es
        (round_sends numbers names (accepted_rule1 numbers names accepted) (accepted_rule2 numbers names accepted) sound.tree s.follower next es e) (record { few = w.few; fit = w.timers }),
    (λ q. absurd (round_lives s.follower next es m e q)),
  )
  table_in_lem s w next es e Closing m = (none_timely s.clock.ticks, (λ q. refl))
  table_in_lem s w next es e Ended m = (none_timely s.clock.ticks, (λ q. refl))

  -- a completed round
  pub timed_round_keeps : (s : Timed) (next : Follower) (es : List Effect) (room : ℕ) → WellTimed (chart_of numbers) s → round (chart_of numbers) (name_at names) s.follower ≡ did next es →
      refused_by (chart_of numbers) (name_at names) room s next es ≡ none → WellTimed (chart_of numbers) (next_of (chart_of numbers) (name_at names) s next es)
  unfolding next_of refused_by timed
  timed_round_keeps s next es room w e q =
      let k = table_in_lem s w next es e s.follower.mode refl in
      timely_made (next_of (chart_of numbers) (name_at names) s next es)
      (round_keeps s.follower w.session room next (table_in s.follower.mode (name_at names) s.clock es).full es e q) w.ticks k.0 k.1

  pub run_keeps : (s : Timed) → WellTimed (chart_of numbers) s → (k room : ℕ) → WellTimed (chart_of numbers) (run (chart_of numbers) (name_at names) k s room).state
  run_keeps s w k room = run-invariant (chart_of numbers) (name_at names) (WellTimed (chart_of numbers)) timed_round_keeps k s room w

  -- a clock call that is taken
  clock_free : (s : Timed) (ticks : ℕ) → eqb (answer_no (clock_answer s ticks)) 0 ≡ true → (is_ended s.follower.mode ≡ false) × (s.clock.ticks ≤ ticks) × (ticks ≤ most_ticks)
  unfolding clock_answer answer_no
  clock_free s ticks h = go (is_ended s.follower.mode) (ltb ticks s.clock.ticks) (ltb most_ticks ticks) refl refl refl h
    where
      go : (a b d : Bool) → is_ended s.follower.mode ≡ a → ltb ticks s.clock.ticks ≡ b → ltb most_ticks ticks ≡ d →
          eqb (answer_no (cond a SessionEnded (cond (b || d) ClockBack Done))) 0 ≡ true → (is_ended s.follower.mode ≡ false) × (s.clock.ticks ≤ ticks) × (ticks ≤ most_ticks)
      go true b d e f g h = absurd (no h)
      go false true d e f g h = absurd (no h)
      go false false true e f g h = absurd (no h)
      go false false false e f g h = (e, ltb-false _ _ f, ltb-false _ _ g)

  pub clocked_keeps : (s : Timed) → WellTimed (chart_of numbers) s → (ticks : ℕ) → eqb (answer_no (clock_answer s ticks)) 0 ≡ true → WellTimed (chart_of numbers) (clocked s ticks)
  unfolding clocked clocked_by with_names
  clocked_keeps s w ticks h =
      let k = clock_free s ticks h in
      let j = due_joins (most_queued - length s.follower.external) ticks s.clock.pending (later_timely s.clock.ticks ticks k.1 s.clock.pending (record { few = w.few; fit = w.timers })) in
      let f = names_fit (chart_of numbers) s.follower (join_due (most_queued - length s.follower.external) ticks s.clock.pending).names k.0 (well_formed_fit (chart_of numbers) sound s.follower w.session) in
      timely_made (clocked s ticks)
      (made (with_names s.follower (join_due (most_queued - length s.follower.external) ticks s.clock.pending).names)
      (names_queued s.follower _ w.session.external_short j.named j.roomy (well_formed_queues (chart_of numbers) sound s.follower w.session)) f)
      k.2 j.left (λ e. absurd (clash (is_ended s.follower.mode) (unfold is_ended in (unfold with_names in rw e)) k.0))
    where
      names_queued : (s : Follower) (more : List Name) → length s.external ≤ most_queued → all is_name more ≡ true → length more ≤ most_queued - length s.external → Queued s → Queued (with_names s more)
      names_queued s more l h r q =
          record {
            named = record { internal = q.named.internal; external = all_both is_name s.external more q.named.external h; short = simp length-append (omega arith) };
            short = q.short;
          }

  pub clock_keeps : (s : Timed) → WellTimed (chart_of numbers) s → (ticks : ℕ) → WellTimed (chart_of numbers) (clock s ticks)
  unfolding clock
  clock_keeps s w ticks = bool_case (eqb (answer_no (clock_answer s ticks)) 0) (λ e. rw e (clocked_keeps s w ticks e)) (λ e. rw e w)

  -- a post touches no clock record
  ended_post : (s : Follower) (name : Name) → (post s name).mode ≡ s.mode
  unfolding post with_external
  ended_post s name = bool_case (eqb (answer_no (post_answer s name)) 0) (λ q. rw q) (λ q. rw q)

  pub timed_post_keeps : (s : Timed) → WellTimed (chart_of numbers) s → (name : Name) → WellTimed (chart_of numbers) (record { follower = post s.follower name; clock = s.clock })
  timed_post_keeps s w name =
      timely_made (record { follower = post s.follower name; clock = s.clock }) (post_keeps s.follower w.session name) w.ticks (record { few = w.few; fit = w.timers })
      (λ e. w.emptied (sym (ended_post s.follower name) ∙ e))

  -- ---- one call, and whole lists of calls

  pub follow_keeps : (s : Timed) → WellTimed (chart_of numbers) s → (call : Call) → WellTimed (chart_of numbers) (follow (chart_of numbers) (name_at names) s call).after
  unfolding follow started_outcome ran_outcome
  follow_keeps s w (starts room) = start_keeps room
  follow_keeps s w (posts name) = timed_post_keeps s w name
  follow_keeps s w (clocks ticks) = clock_keeps s w ticks
  follow_keeps s w (runs k room) = run_keeps s w k room

  -- whole lists of calls
  pub calls_keep : (calls : List Call) (s : Timed) → WellTimed (chart_of numbers) s → EveryAfter (WellTimed (chart_of numbers)) (follow_all (chart_of numbers) (name_at names) s calls)
  calls_keep calls s w =
      let m = follower_answers (chart_of numbers) (name_at names) in
      every_first (λ (o : Outcome). WellTimed (chart_of numbers) o.after) (λ x y k. k) (follow_all (chart_of numbers) (name_at names) s calls) (follow_all (chart_of numbers) (name_at names) s calls)
      (simulation m m (λ (f g : Timed). WellTimed (chart_of numbers) f) (λ (x y : Outcome). WellTimed (chart_of numbers) x.after)
      (λ f g call v. let k = follow_keeps f v call in (k, k)) calls s s w)

  -- from nothing on
  pub all_calls_keep : (calls : List Call) → EveryAfter (WellTimed (chart_of numbers)) (follow_all (chart_of numbers) (name_at names) (at_rest (chart_of numbers)) calls)
  unfolding at_rest
  all_calls_keep calls = calls_keep calls (at_rest (chart_of numbers)) rest_well_timed

  -- ---- what a well-formed session says

  pub legal_live : (s : Follower) → WellFormed (chart_of numbers) s → (s.mode ≡ Ended → ⊥) → is_legal (chart_of numbers) s.configuration ≡ true
  legal_live s w n = w.legal n

  pub closing_exact : (s : Follower) → WellFormed (chart_of numbers) s → (s.mode ≡ Closing) ↔ (any (is_final_under_root (chart_of numbers)) s.configuration ≡ true)
  closing_exact s w = w.closing

  pub ended_exact : (s : Follower) → WellFormed (chart_of numbers) s → (s.mode ≡ Ended) ↔ (s.configuration ≡ [])
  ended_exact s w = w.ended

  -- after a start that was accepted
  pub start_legal : (room : ℕ) → (start (chart_of numbers) (name_at names) room).answer ≡ Done →
      is_legal (chart_of numbers) (start (chart_of numbers) (name_at names) room).state.follower.configuration ≡ true
  unfolding start start_or timed
  start_legal room e = go (refusal room (first_follower (chart_of numbers) (name_at names)) (first_table (chart_of numbers) (name_at names)).full (first_effects (chart_of numbers))) refl e
    where
      go : (o : Option Answer) → refusal room (first_follower (chart_of numbers) (name_at names)) (first_table (chart_of numbers) (name_at names)).full (first_effects (chart_of numbers)) ≡ o →
          (start_or (chart_of numbers) (name_at names) o).answer ≡ Done → is_legal (chart_of numbers) (start_or (chart_of numbers) (name_at names) o).state.follower.configuration ≡ true
      go none q a = (first_fits (chart_of numbers) sound (name_at names)).legal
      go (some x) q a = absurd (refusal_not_done room (first_follower (chart_of numbers) (name_at names)) (first_table (chart_of numbers) (name_at names)).full (first_effects (chart_of numbers)) (rw a at q))

  -- and after every completed round, until the session has ended
  pub round_legal : (s : Follower) → WellFormed (chart_of numbers) s → (room : ℕ) (next : Follower) (full : Bool) (es : List Effect) →
      round (chart_of numbers) (name_at names) s ≡ did next es → refusal room next full es ≡ none → (next.mode ≡ Ended → ⊥) → is_legal (chart_of numbers) next.configuration ≡ true
  round_legal s w room next full es e q n = legal_live next (round_keeps s w room next full es e q) n

  -- the transitions that a round takes have disjoint exit sets
  pub round_disjoint : (s next : Follower) (es : List Effect) → round (chart_of numbers) (name_at names) s ≡ did next es → DisjointExits (chart_of numbers) s (taken_in es)
  round_disjoint s next es e = shown.round_disjoint (chart_of numbers) (name_at names) s next es e

  -- ---- the entry set in the words of document 01, and in any order

  pub start_entry : EntrySet (chart_of numbers) (initial_targets (chart_of numbers) nothing_at) (paths_below (chart_of numbers) 0 (initial_targets (chart_of numbers) nothing_at 0)) (first_entry (chart_of numbers))
  start_entry = first_means (chart_of numbers) sound

  -- of the round that takes what the event selects, or no event
  pub round_entry : (s : Follower) → WellFormed (chart_of numbers) s → s.mode ≡ Running → (event : Option Name) →
      EntrySet (chart_of numbers)
      (initial_targets (chart_of numbers) (stored_in (history_after (chart_of numbers) s.configuration (stored_in s.history) (selected_by (chart_of numbers) (name_at names) s event))))
      (targeted (chart_of numbers) (stored_in s.history)
      (stored_in (history_after (chart_of numbers) s.configuration (stored_in s.history) (selected_by (chart_of numbers) (name_at names) s event))) (selected_by (chart_of numbers) (name_at names) s event))
      (entry_of (chart_of numbers) s.configuration (stored_in s.history) (selected_by (chart_of numbers) (name_at names) s event))
  round_entry s w m event = keeps.round_entry (chart_of numbers) sound (name_at names) s (well_formed_fit (chart_of numbers) sound s w) m event

  -- ---- who chose: "with each transition the first active atomic state that chose it"

  -- of each transition that a round takes (R-6)
  pub round_choosers : (s : Follower) → WellFormed (chart_of numbers) s → s.mode ≡ Running → (event : Option Name) (t : ℕ) →
      mem t (selected_by (chart_of numbers) (name_at names) s event) ≡ true →
      FirstChooser (chart_of numbers) (name_at names) s.configuration event t (chooser (chart_of numbers) (name_at names) s.configuration event t)
  round_choosers s w m event t n = keeps.round_choosers (chart_of numbers) sound (name_at names) s (well_formed_fit (chart_of numbers) sound s w) m event t n

  -- ---- default blocks: that of a history in an initial list runs; an entered row has at most one, and beside its initial block only that of
  -- the history which its own initial list names alone

  -- of a start, which enters the root's initial list too (R-3)
  pub start_blocks : DefaultBlocks (chart_of numbers) (first_entry (chart_of numbers)) (0 ∷ (first_entry (chart_of numbers)).entered_by_default) (first_fallen (chart_of numbers))
  start_blocks = start_default_blocks (chart_of numbers) sound

  -- of a round (R-3)
  pub round_blocks : (s : Follower) → WellFormed (chart_of numbers) s → s.mode ≡ Running → (event : Option Name) →
      DefaultBlocks (chart_of numbers) (entry_of (chart_of numbers) s.configuration (stored_in s.history) (selected_by (chart_of numbers) (name_at names) s event))
      (entry_of (chart_of numbers) s.configuration (stored_in s.history) (selected_by (chart_of numbers) (name_at names) s event)).entered_by_default
      (fallen_of (chart_of numbers) s.configuration (stored_in s.history) (selected_by (chart_of numbers) (name_at names) s event))
  round_blocks s w m event = keeps.round_blocks (chart_of numbers) sound (name_at names) s (well_formed_fit (chart_of numbers) sound s w) m event

  -- ---- blocks: "only the branch taken"

  -- every block is made of actions and whole ifs (R-5)
  pub blocks_nested : NestedBlocks (chart_of numbers)
  blocks_nested = nested_blocks (chart_of numbers) sound.transition_rule

-- of an if the first branch whose test holds is performed, its else if none does, and no other; then what follows the if (R-5)
pub branch_taken_lem : (conf : List ℕ) (b : Branch) (bs : List Branch) (last : Option (List Action)) → NestedParts (b ∷ bs) last → (rest : List Action) →
    performed conf (whole_if b bs last ++ rest) ≡ performed conf (branch_taken conf (b ∷ bs) last) ++ performed conf rest
branch_taken_lem conf b bs last v rest = if_takes conf b bs last v rest
