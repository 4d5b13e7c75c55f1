-- A run's rounds can be done again without a room, and what can be done without a room is a run's in any room that suffices: an entry of a run says enough (R-10).
use Rattle.std.proofs.Math.Path.{◌≡◌, refl, sym, ap}
use Rattle.std.proofs.Common.{◌∙◌, arith, length-append}
use Rattle.std.specs.Prelude.{Bool, ◌||◌, eqb, ltb}
use Rattle.std.proofs.Math.Bool.{true, false}
use mathlib.Core.List.{List, [], ◌++◌}
use Rattle.std.proofs.Math.Option.{Option, none, some}
use Prim.Native.Nat.{ℕ, zero, suc, ◌+◌, ◌-◌, ◌≤◌}
use Rattle.std.proofs.Math.ListN.{length}
use borrow.Author.Tests.{le-ltb}
use Rattle.definition.specs.declared.Answer.{Answer}
use Rattle.definition.specs.declared.Answer.TheVariants.{Full, NoRoom}
use Rattle.definition.specs.Chart.{Chart, Names}
use Rattle.definition.specs.Answers.{answer_no, status_no}
use Rattle.follower.specs.Blocks.{Effect}
use Rattle.follower.specs.Follower.{Follower, most_queued, Round, idle, over, did, round, refusal_if, refusal, Timed, table_in, stopped, counted, rest_status, run}
use Rattle.laws.specs.Bools.{bool_case}
use Rattle.theory.specs.Runs.{next_of, refused_by, run_zero, run_round, run_cases}
use Rattle.recorded.specs.Journal.{At, behind, unless_full, onwards, exactly}

module _ (c : Chart) (names : Names) where
  -- a round is refused with 7
  abbrev is_full_by : Timed → Follower → List Effect → Bool
  is_full_by s next es = ltb most_queued (length next.internal) || (table_in s.follower.mode names s.clock es).full

  -- ---- the rounds that a run did

  exactly_did : (k : ℕ) (s : Timed) (next : Follower) (es : List Effect) (room : ℕ) → round c names s.follower ≡ did next es → refused_by c names room s next es ≡ none →
      exactly c names (suc k) s ≡ behind es (exactly c names k (next_of c names s next es))
  unfolding exactly onwards unless_full next_of refused_by refusal refusal_if
  exactly_did k s next es room e q = rw (e, pick (is_full_by s next es) (ltb room (length es)) q)
    where
      pick : (f x : Bool) → refusal_if f x ≡ none → f ≡ false
      pick true x h = let w : ◌≡◌ {A = ℕ} 0 1 = cc in absurd (omega arith)
      pick false x h = refl

  pub run_exactly : (k : ℕ) (s : Timed) (room : ℕ) → exactly c names (run c names k s room).rounds s ≡ some (record { state = (run c names k s room).state; effects = (run c names k s room).effects })
  unfolding exactly stopped counted behind
  run_exactly zero s room = rw (run_zero c names s room)
  run_exactly (suc k) s room =
      run_cases c names (λ r. exactly c names r.rounds s ≡ some (record { state = r.state; effects = r.effects })) k s room
      (λ e. refl) (λ e. refl) (λ next es a e q. refl)
      (λ next es e q. exactly_did (run c names k (next_of c names s next es) (room - length es)).rounds s next es room e q ∙ rw (run_exactly k (next_of c names s next es) (room - length es)))

  -- ---- and the other way

  -- a run of k rounds that does them all and comes to a
  pub record Does (k : ℕ) (s : Timed) (room : ℕ) (a : At) : Type 0 where
    pub rounds : (run c names k s room).rounds ≡ k
    pub state : (run c names k s room).state ≡ a.state
    pub effects : (run c names k s room).effects ≡ a.effects

  behind_some : (es : List Effect) (o : Option At) (a : At) → behind es o ≡ some a → (P : Type 0) → ((b : At) → o ≡ some b → b.state ≡ a.state → es ++ b.effects ≡ a.effects → P) → P
  unfolding behind
  behind_some es none a h P f = let w : ◌≡◌ {A = ℕ} 0 1 = cc in absurd (omega arith)
  behind_some es (some b) a h P f =
      let e : record { state = b.state; effects = es ++ b.effects } ≡ a = cc in
      f b refl (ap (λ (x : At). x.state) e) (ap (λ (x : At). x.effects) e)

  -- from the next state on
  abbrev DoesAll : ℕ → Type 0
  DoesAll k = (s : Timed) (a : At) → exactly c names k s ≡ some a → (room : ℕ) → length a.effects ≤ room → Does k s room a

  module _ (k : ℕ) (s : Timed) (a : At) (room : ℕ) (l : length a.effects ≤ room) (ih : DoesAll k) (next : Follower) (es : List Effect) (e : round c names s.follower ≡ did next es) where
    goes : is_full_by s next es ≡ false → length es ≤ room → refused_by c names room s next es ≡ none
    unfolding refused_by refusal refusal_if
    goes f m = rw (f, le-ltb room (length es) m)

    round_more : is_full_by s next es ≡ false → (b : At) → exactly c names k (next_of c names s next es) ≡ some b → b.state ≡ a.state → es ++ b.effects ≡ a.effects → Does (suc k) s room a
    unfolding counted
    round_more f b q u v =
        let m : length es + length b.effects ≡ length a.effects = sym (length-append es b.effects) ∙ ap {B = ℕ} length v in
        let r = goes f (omega arith) in
        let d = ih (next_of c names s next es) b q (room - length es) (omega arith) in
        record {
          rounds = rw (run_round c names k s room next es e r, d.rounds);
          state = rw (run_round c names k s room next es e r) (d.state ∙ u);
          effects = rw (run_round c names k s room next es e r, d.effects) v;
        }

    round_on : onwards (exactly c names k) names s (did next es) ≡ some a → Does (suc k) s room a
    unfolding onwards unless_full next_of
    round_on q =
        bool_case (is_full_by s next es) (λ f. behind_some es none a (rw f at q) _ (λ b x y z. let w : ◌≡◌ {A = ℕ} 0 1 = cc in absurd (omega arith)))
        (λ f. behind_some es (exactly c names k (next_of c names s next es)) a (rw f at q) _ (round_more f))

  pub exactly_run : (k : ℕ) → DoesAll k
  unfolding exactly stopped
  exactly_run zero s a h room l =
      let e : record { state = s; effects = [] } ≡ a = cc in
      record {
        rounds = rw (run_zero c names s room);
        state = rw (run_zero c names s room) (ap (λ (x : At). x.state) e);
        effects = rw (run_zero c names s room) (ap (λ (x : At). x.effects) e);
      }
  exactly_run (suc k) s a h room l = go (round c names s.follower) refl h (exactly_run k)
    where
      go : (o : Round) → round c names s.follower ≡ o → onwards (exactly c names k) names s o ≡ some a → DoesAll k → Does (suc k) s room a
      go idle e q ih = unfold onwards in let w : ◌≡◌ {A = ℕ} 0 1 = cc in absurd (omega arith)
      go over e q ih = unfold onwards in let w : ◌≡◌ {A = ℕ} 0 1 = cc in absurd (omega arith)
      go (did next es) e q ih = round_on k s a room l ih next es e q

  -- ---- no run of the follower is answered by 8 or 9

  abbrev pub is_refused_hard : ℕ → Bool
  is_refused_hard n = eqb n 8 || eqb n 9

  rest_number : (o : Round) → is_refused_hard (status_no (rest_status o)) ≡ false
  unfolding rest_status status_no
  rest_number idle = refl
  rest_number over = refl
  rest_number (did next es) = refl

  refusal_number : (f x : Bool) (a : Answer) → refusal_if f x ≡ some a → is_refused_hard (answer_no a) ≡ false
  unfolding refusal_if answer_no
  refusal_number true x a h = let e : Full ≡ a = cc in rw (← e)
  refusal_number false true a h = let e : NoRoom ≡ a = cc in rw (← e)
  refusal_number false false a h = let w : ◌≡◌ {A = ℕ} 0 1 = cc in absurd (omega arith)

  pub run_number : (k : ℕ) (s : Timed) (room : ℕ) → is_refused_hard (status_no (run c names k s room).status) ≡ false
  unfolding stopped counted status_no
  run_number zero s room = rw (run_zero c names s room) (rest_number (round c names s.follower))
  run_number (suc k) s room =
      run_cases c names (λ r. is_refused_hard (status_no r.status) ≡ false) k s room (λ e. refl) (λ e. refl)
      (λ next es a e q. refusal_number (is_full_by s next es) (ltb room (length es)) a (unfold refused_by refusal in q))
      (λ next es e q. run_number k (next_of c names s next es) (room - length es))
