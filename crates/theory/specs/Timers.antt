-- Pending sends stay well formed (R-9): through the effects of a round, and through a clock call.
use Rattle.std.specs.Prelude.{◌≡◌, refl, ◌||◌, List, [], ◌∷◌, ℕ, zero, suc, ◌+◌, ◌≤◌, ◌<◌, leb, ltb, length}
use Rattle.std.proofs.Math.Bool.{true}
use Rattle.std.proofs.Common.{arith, length-append, leb-true, leb-false, le-leb, ltb-true}
use Rattle.definition.specs.Rows.{all, is_empty, same}
use Rattle.definition.specs.Names.{Name, is_name}
use Rattle.definition.specs.Chart.{Names}
use Rattle.definition.specs.Tables.{most_delay}
use Rattle.follower.specs.Blocks.{Effect, exited, taken, entered, acted, raised, done, chosen, sent, cancelled}
use Rattle.follower.specs.Clock.{Timer, most_pending, Table, id_of, send_of, with_send, without, table_step, table_after, next_place, event_at, without_at, Joining, joining, join_due}
use Rattle.follower.specs.Legal.{timer_fits}
use Rattle.laws.specs.Bools.{and3, bool_case, and_left, and_right, and_true}
use Rattle.laws.specs.Lists.{all_both}
use Rattle.theory.specs.Queues.{sends_well}

pub record Timely (ticks : ℕ) (ss : List Timer) : Type 0 where
  pub few : length ss ≤ most_pending
  pub fit : all (timer_fits ticks) ss ≡ true

pub none_timely : (ticks : ℕ) → Timely ticks []
unfolding all
none_timely ticks = record { few = omega arith; fit = refl }

-- ---- the effects of a round

without_few : (id : Name) (ss : List Timer) → length (without id ss) ≤ length ss
unfolding without
without_few id [] = omega arith
without_few id (s ∷ ss) = let h = without_few id ss in bool_case (same s.id id) (λ e. rw e (omega arith)) (λ e. rw e (omega arith))

without_fit : (ticks : ℕ) (id : Name) (ss : List Timer) → all (timer_fits ticks) ss ≡ true → all (timer_fits ticks) (without id ss) ≡ true
unfolding without all
without_fit ticks id [] h = refl
without_fit ticks id (s ∷ ss) h =
    let k = without_fit ticks id ss (and_right (timer_fits ticks s) _ h) in
    bool_case (same s.id id) (λ e. rw e k) (λ e. rw e (and_true (timer_fits ticks s) _ (and_left (timer_fits ticks s) _ h) k))

send_timely : (ticks : ℕ) (t : Table) (s : Timer) → timer_fits ticks s ≡ true → Timely ticks t.pending → Timely ticks (with_send t s).pending
unfolding with_send
send_timely ticks t s h f =
    bool_case (leb most_pending (length t.pending)) (λ e. rw e f)
    (λ e. let l = leb-false most_pending (length t.pending) e in
    rw e (record { few = simp length-append (omega arith); fit = all_both (timer_fits ticks) t.pending (s ∷ []) f.fit (unfold all in and_true (timer_fits ticks s) true h refl) }))

sent_fits : (names : Names) (ticks n delay id : ℕ) → sends_well names (sent n delay id) ≡ true → timer_fits ticks (send_of names ticks n delay id) ≡ true
unfolding sends_well timer_fits send_of
sent_fits names ticks n delay id h =
    let k = and3 (is_name (names n)) (leb delay most_delay) (is_empty (id_of names id) || is_name (id_of names id)) h in
    let l = leb-true delay most_delay k.1 in
    rw (le-leb (ticks + delay) (ticks + most_delay) (omega arith), k.0, k.2)

step_timely : (names : Names) (ticks : ℕ) (t : Table) (e : Effect) → sends_well names e ≡ true → Timely ticks t.pending → Timely ticks (table_step names ticks t e).pending
unfolding table_step
step_timely names ticks t (exited i) h f = f
step_timely names ticks t (taken i) h f = f
step_timely names ticks t (entered i) h f = f
step_timely names ticks t (acted n) h f = f
step_timely names ticks t (raised n) h f = f
step_timely names ticks t (done i) h f = f
step_timely names ticks t (chosen i) h f = f
step_timely names ticks t (sent n delay id) h f = send_timely ticks t (send_of names ticks n delay id) (sent_fits names ticks n delay id h) f
step_timely names ticks t (cancelled n) h f =
    let l = without_few (names n) t.pending in
    let m = f.few in
    record { few = omega arith; fit = without_fit ticks (names n) t.pending f.fit }

pub table_timely : (names : Names) (ticks : ℕ) (t : Table) (es : List Effect) → all (sends_well names) es ≡ true → Timely ticks t.pending → Timely ticks (table_after names ticks t es).pending
unfolding table_after all
table_timely names ticks t [] h f = f
table_timely names ticks t (e ∷ es) h f =
    table_timely names ticks (table_step names ticks t e) es (and_right (sends_well names e) _ h) (step_timely names ticks t e (and_left (sends_well names e) _ h) f)

-- ---- a clock call

-- a later clock only allows more
later_fit : (ticks next : ℕ) → ticks ≤ next → (ss : List Timer) → all (timer_fits ticks) ss ≡ true → all (timer_fits next) ss ≡ true
unfolding all timer_fits
later_fit ticks next l [] h = refl
later_fit ticks next l (s ∷ ss) h =
    let k = and3 (leb s.due (ticks + most_delay)) (is_name s.event) (is_empty s.id || is_name s.id) (and_left (timer_fits ticks s) _ h) in
    let d = leb-true s.due (ticks + most_delay) k.0 in
    and_true (timer_fits next s) _ (rw (le-leb s.due (next + most_delay) (omega arith), k.1, k.2)) (later_fit ticks next l ss (and_right (timer_fits ticks s) _ h))

pub later_timely : (ticks next : ℕ) → ticks ≤ next → (ss : List Timer) → Timely ticks ss → Timely next ss
later_timely ticks next l ss f = record { few = f.few; fit = later_fit ticks next l ss f.fit }

event_named : (ticks i : ℕ) (ss : List Timer) → i < length ss → all (timer_fits ticks) ss ≡ true → is_name (event_at i ss) ≡ true
unfolding event_at all timer_fits
event_named ticks i [] l h = absurd (omega arith)
event_named ticks zero (s ∷ ss) l h =
    (and3 (leb s.due (ticks + most_delay)) (is_name s.event) (is_empty s.id || is_name s.id) (and_left (timer_fits ticks s) _ h)).1
event_named ticks (suc i) (s ∷ ss) l h = event_named ticks i ss (omega arith) (and_right (timer_fits ticks s) _ h)

gone_few : (i : ℕ) (ss : List Timer) → length (without_at i ss) ≤ length ss
unfolding without_at
gone_few i [] = omega arith
gone_few zero (s ∷ ss) = omega arith
gone_few (suc i) (s ∷ ss) = let h = gone_few i ss in omega arith

gone_fit : (ticks i : ℕ) (ss : List Timer) → all (timer_fits ticks) ss ≡ true → all (timer_fits ticks) (without_at i ss) ≡ true
unfolding without_at all
gone_fit ticks i [] h = refl
gone_fit ticks zero (s ∷ ss) h = and_right (timer_fits ticks s) _ h
gone_fit ticks (suc i) (s ∷ ss) h = and_true (timer_fits ticks s) _ (and_left (timer_fits ticks s) _ h) (gone_fit ticks i ss (and_right (timer_fits ticks s) _ h))

-- the names that join are names, no more than there is room for; what is left is timely
pub record Joins (room ticks : ℕ) (j : Joining) : Type 0 where
  pub named : all is_name j.names ≡ true
  pub roomy : length j.names ≤ room
  pub left : Timely ticks j.left

pub due_joins : (room ticks : ℕ) (ss : List Timer) → Timely ticks ss → Joins room ticks (join_due room ticks ss)
unfolding join_due joining all
due_joins zero ticks ss f = record { named = refl; roomy = omega arith; left = f }
due_joins (suc room) ticks ss f =
    bool_case (ltb (next_place ticks ss) (length ss))
    (λ e. let i = next_place ticks ss in
    let l = gone_few (next_place ticks ss) ss in
    let m = f.few in
    let j = due_joins room ticks (without_at (next_place ticks ss) ss) (record { few = omega arith; fit = gone_fit ticks (next_place ticks ss) ss f.fit }) in
    let r = j.roomy in
    rw e (record {
      named = and_true (is_name (event_at (next_place ticks ss) ss)) _ (event_named ticks (next_place ticks ss) ss (ltb-true _ _ e) f.fit) j.named;
      roomy = omega arith;
      left = j.left;
    }))
    (λ e. rw e (record { named = refl; roomy = omega arith; left = f }))
