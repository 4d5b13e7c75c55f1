-- A run of the plain follower by its completed rounds: behind each it stands where a run of so many rounds ends, and goes on from there.
use Rattle.std.specs.Prelude.{◌≡◌}
use Rattle.std.proofs.Math.Path.{refl, ap}
use mathlib.Core.List.{List, append-nil}
use Rattle.std.proofs.Common.{⊎_elim}
use Rattle.std.proofs.Math.Option.{Option, none, some}
use Prim.Native.Nat.{ℕ, zero, suc, ◌+◌, ◌-◌, ◌≤◌, ◌<◌}
use native.Mathlib.Omega.{arith}
use Rattle.std.proofs.Math.ListN.{length}
use Rattle.definition.specs.declared.Answer.{Answer}
use Rattle.definition.specs.Chart.{Chart, Names}
use Rattle.follower.specs.Blocks.{Effect}
use Rattle.follower.specs.Follower.{Follower, Timed, Round, idle, over, did, round, Ran, stopped, counted, rest_status, timed, run}
use Rattle.theory.specs.Runs.{next_of, refused_by, run_zero, run_idle, run_over, run_refused, run_round, run_cases, run_refusal, RefusedRound, run_status, joined, on_from, run_split}

module _ (c : Chart) (names : Names) where
  -- a run of fewer rounds than another one does does them all
  pub all_done : (k n : ℕ) (s : Timed) (room : ℕ) → k ≤ (run c names n s room).rounds → (run c names k s room).rounds ≡ k
  unfolding stopped counted
  all_done zero n s room h = rw (run_zero c names s room)
  all_done (suc k) zero s room h = absurd (let z : suc k ≤ 0 = rw (run_zero c names s room) at h in omega arith)
  all_done (suc k) (suc n) s room h = go (round c names s.follower) refl (all_done k n)
    where
      none_done : (run c names (suc n) s room).rounds ≡ 0 → (run c names (suc k) s room).rounds ≡ suc k
      none_done e = absurd (omega arith)

      go : (o : Round) → round c names s.follower ≡ o → ((next : Timed) (room : ℕ) → k ≤ (run c names n next room).rounds → (run c names k next room).rounds ≡ k) →
          (run c names (suc k) s room).rounds ≡ suc k
      go idle e ih = none_done (rw (run_idle c names (suc n) s room e))
      go over e ih = none_done (rw (run_over c names (suc n) s room e))
      go (did next es) e ih = inner (refused_by c names room s next es) refl
        where
          inner : (o : Option Answer) → refused_by c names room s next es ≡ o → (run c names (suc k) s room).rounds ≡ suc k
          inner (some x) q = none_done (rw (run_refused c names n s room next es x e q))
          inner none q =
              let l : suc k ≤ suc (run c names n (next_of c names s next es) (room - length es)).rounds = rw (run_round c names n s room next es e q) at h in
              rw (run_round c names k s room next es e q) (ap suc (ih (next_of c names s next es) (room - length es) (omega arith)))

  -- with all its rounds done a run says what its last state would do next
  rest : (k : ℕ) (s : Timed) (room : ℕ) → (run c names k s room).rounds ≡ k → (run c names k s room).status ≡ rest_status (round c names (run c names k s room).state.follower)
  rest k s room h =
      ⊎_elim (λ (e : (run c names k s room).status ≡ rest_status (round c names (run c names k s room).state.follower)). e)
      (λ (r : RefusedRound c names room (run c names k s room)). let l = run_refusal c names k s room r.answer r.refused in absurd (omega arith))
      (run_status c names k s room)

  cut_last : (k : ℕ) (s : Timed) (room : ℕ) → (run c names k s room).rounds ≡ k →
      run c names k s room ≡ joined c names (run c names k s room) (on_from c names 0 (run c names k s room) room)
  unfolding joined on_from stopped
  cut_last k s room h =
      let e : (run c names k s room).rounds + 0 ≡ (run c names k s room).rounds = omega arith in
      rw (run_zero c names (run c names k s room).state (room - length (run c names k s room).effects), e, append-nil, ← rest k s room h)

  pub cut : (k n : ℕ) (s : Timed) (room : ℕ) → k ≤ (run c names n s room).rounds → k ≤ n →
      run c names n s room ≡ joined c names (run c names k s room) (on_from c names (n - k) (run c names k s room) room)
  cut k n s room h l = go (n - k) refl
    where
      go : (b : ℕ) → n - k ≡ b → run c names n s room ≡ joined c names (run c names k s room) (on_from c names b (run c names k s room) room)
      go zero e = let z : n ≡ k = omega arith in rw z (cut_last k s room (all_done k n s room h))
      go (suc b) e = let z : n ≡ k + suc b = omega arith in rw z (run_split c names k b s room)

  -- a run of one round that does it
  pub record OneRound (s : Timed) (r : Ran) : Type 0 where
    pub next : Follower
    pub effects : List Effect
    pub did_it : round c names s.follower ≡ did next effects
    pub reached : r.state.follower ≡ next
    pub left : r.effects ≡ effects

  one_round : (s : Timed) (room : ℕ) → (run c names 1 s room).rounds ≡ 1 → OneRound s (run c names 1 s room)
  unfolding stopped counted
  one_round s room =
      run_cases c names (λ r. r.rounds ≡ 1 → OneRound s r) 0 s room (λ e h. absurd (omega arith)) (λ e h. absurd (omega arith)) (λ next es a e q h. absurd (omega arith))
      (λ next es e q h. record { next = next; effects = es; did_it = e; reached = rw (run_zero c names (next_of c names s next es) (room - length es)) (unfold next_of timed in refl); left = rw (run_zero c names (next_of c names s next es) (room - length es)) (append-nil es) })

  pub one_more : (k : ℕ) (s : Timed) (room : ℕ) → run c names (suc k) s room ≡ joined c names (run c names k s room) (on_from c names 1 (run c names k s room) room)
  one_more k s room = let e : suc k ≡ k + suc 0 = omega arith in rw e (run_split c names k 0 s room)

  -- the round behind the first k of a run
  pub next_round : (k n : ℕ) (s : Timed) (room : ℕ) → k < (run c names n s room).rounds →
      OneRound (run c names k s room).state (on_from c names 1 (run c names k s room) room)
  unfolding joined on_from
  next_round k n s room h =
      let a = all_done k n s room (omega arith) in
      let b = all_done (suc k) n s room (omega arith) in
      let m = ap (λ (r : Ran). r.rounds) (one_more k s room) in
      one_round (run c names k s room).state (room - length (run c names k s room).effects) (omega arith)
