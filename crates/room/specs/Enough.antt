-- With as much room as room_for says, no start is refused with 10, nor the first round of a run; a run that is refused with 10 has less room left.
use Rattle.std.proofs.Math.Path.{◌≡◌, refl}
use Rattle.std.proofs.Common.{subst, ⊎_elim, ltb-true}
use Rattle.std.specs.Prelude.{Bool, true, false, ◌||◌, List, ltb}
use Rattle.std.proofs.Math.Option.{Option, none, some}
use Prim.Native.Nat.{ℕ, zero, suc, ◌+◌, ◌-◌, ◌≤◌, ◌<◌}
use native.Mathlib.Omega.{arith}
use Rattle.std.proofs.Math.ListN.{length, length-append}
use Rattle.definition.specs.declared.Mode.TheVariants.{Closing}
use Rattle.definition.specs.declared.Answer.{Answer}
use Rattle.definition.specs.declared.Answer.TheVariants.{NoRoom}
use Rattle.definition.specs.declared.Status.TheVariants.{Refused}
use Rattle.definition.specs.Rows.{all, is_set}
use Rattle.definition.specs.Chart.{Chart, Names}
use Rattle.follower.specs.Blocks.{Effect}
use Rattle.follower.specs.Follower.{Follower, most_queued, did, round, refusal_if, refusal, Timed, timed, table_in, first_effects, first_follower, first_table, start_or, start, stopped, counted, run}
use Rattle.follower.specs.Legal.{is_legal, fits_row, children_fit, WellFormed}
use Rattle.laws.specs.Bools.{and3}
use Rattle.accepted.specs.Sound.{Sound}
use Rattle.theory.specs.Runs.{not_refused, next_of, refused_by, run_cases, run_zero_no_refusal}
use Rattle.theory.specs.Keeps.{Live, Over, Fit, FitAfter, round_fits}
use Rattle.theory.specs.WellFormed.{well_formed_fit}
use Rattle.room.specs.Room.{room_for}
use Rattle.room.specs.Entries.{first_few, round_few}

-- 10 is answered only where the entries do not fit
refused_room : (room : ℕ) (next : Follower) (full : Bool) (es : List Effect) → refusal room next full es ≡ some NoRoom → room < length es
unfolding refusal refusal_if
refused_room room next full es h = go (ltb most_queued (length next.internal) || full) (ltb room (length es)) refl h
  where
    go : (seven has_no_room : Bool) → ltb room (length es) ≡ has_no_room → refusal_if seven has_no_room ≡ some NoRoom → room < length es
    go true has_no_room e h = let z : ◌≡◌ {A = ℕ} 0 1 = cc in absurd (omega arith)
    go false true e h = ltb-true room (length es) e
    go false false e h = let z : ◌≡◌ {A = ℕ} 0 1 = cc in absurd (omega arith)

closing_set : (c : Chart) (s : Follower) → Fit c s → s.mode ≡ Closing → is_set c.rows s.configuration ≡ true
unfolding is_legal
closing_set c s f m =
    ⊎_elim (λ (a : Live c s). (and3 (is_set c.rows s.configuration) (all (fits_row c s.configuration) s.configuration) (children_fit c s.configuration 0) a.legal).0)
    (λ (o : Over c s). let q = o.mode in let z : ◌≡◌ {A = ℕ} 0 1 = cc in absurd (omega arith)) f

module _ (c : Chart) (g : Sound c) (names : Names) where
  pub start_enough : (room : ℕ) → (start c names room).answer ≡ NoRoom → room < room_for c
  unfolding start start_or
  start_enough room = go (refusal room (first_follower c names) (first_table c names).full (first_effects c)) refl
    where
      go : (o : Option Answer) → refusal room (first_follower c names) (first_table c names).full (first_effects c) ≡ o → (start_or c names o).answer ≡ NoRoom → room < room_for c
      go none q h = let z : ◌≡◌ {A = ℕ} 0 1 = cc in absurd (omega arith)
      go (some a) q h =
          let l = refused_room room (first_follower c names) (first_table c names).full (first_effects c) (rw h at q) in
          let f = first_few c g.tree in
          omega arith

  -- a round that is refused with 10
  refused_short : (s : Timed) → Fit c s.follower → (room : ℕ) (next : Follower) (es : List Effect) (a : Answer) →
      round c names s.follower ≡ did next es → refused_by c names room s next es ≡ some a → a ≡ NoRoom → room < room_for c
  unfolding refused_by
  refused_short s f room next es a e q h =
      let l = refused_room room next (table_in s.follower.mode names s.clock es).full es (rw h at q) in
      let k = round_few c g.tree names s.follower (closing_set c s.follower f) next es e in
      omega arith

  run_short : (k : ℕ) (s : Timed) (room : ℕ) → Fit c s.follower → (run c names k s room).status ≡ Refused NoRoom → room < room_for c + length (run c names k s room).effects
  unfolding stopped counted next_of timed
  run_short zero s room f = λ h. absurd (run_zero_no_refusal c names s room NoRoom h)
  run_short (suc k) s room f =
      run_cases c names (λ r. r.status ≡ Refused NoRoom → room < room_for c + length r.effects) k s room
      (λ e h. let z : ◌≡◌ {A = ℕ} 0 1 = cc in absurd (omega arith))
      (λ e h. let z : ◌≡◌ {A = ℕ} 0 1 = cc in absurd (omega arith))
      (λ next es a e q h. let l = refused_short s f room next es a e q (cc) in omega arith)
      (λ next es e q h.
      let i = run_short k (next_of c names s next es) (room - length es) (subst (FitAfter c) e (round_fits c g names s.follower f)) h in
      let r = (not_refused room next (table_in s.follower.mode names s.clock es).full es (unfold refused_by in q)).roomy in
      let p = length-append es (run c names k (next_of c names s next es) (room - length es)).effects in
      omega arith)

  run_first : (k : ℕ) (s : Timed) (room : ℕ) → Fit c s.follower → room_for c ≤ room → (run c names k s room).status ≡ Refused NoRoom → 1 ≤ (run c names k s room).rounds
  unfolding stopped counted
  run_first zero s room f l = λ h. absurd (run_zero_no_refusal c names s room NoRoom h)
  run_first (suc k) s room f l =
      run_cases c names (λ r. r.status ≡ Refused NoRoom → 1 ≤ r.rounds) k s room
      (λ e h. let z : ◌≡◌ {A = ℕ} 0 1 = cc in absurd (omega arith))
      (λ e h. let z : ◌≡◌ {A = ℕ} 0 1 = cc in absurd (omega arith))
      (λ next es a e q h. let m = refused_short s f room next es a e q (cc) in absurd (omega arith))
      (λ next es e q h. omega arith)

  -- a run that is refused with 10 leaves fewer places than suffice for every round
  pub run_enough : (k : ℕ) (s : Timed) (room : ℕ) → WellFormed c s.follower → (run c names k s room).status ≡ Refused NoRoom → room < room_for c + length (run c names k s room).effects
  run_enough k s room w = run_short k s room (well_formed_fit c g s.follower w)

  -- and where there are enough at first, its first round is done
  pub first_round_enough : (k : ℕ) (s : Timed) (room : ℕ) → WellFormed c s.follower → room_for c ≤ room → (run c names k s room).status ≡ Refused NoRoom → 1 ≤ (run c names k s room).rounds
  first_round_enough k s room w = run_first k s room (well_formed_fit c g s.follower w)
