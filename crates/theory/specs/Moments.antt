-- "a round or start would hold more than 32 internal names at any moment" (78) is what the definition tests where it refuses with 7.
use Rattle.std.proofs.Math.Path.{◌≡◌, refl, ap, subst}
use Rattle.std.specs.Prelude.{Bool, ◌||◌, cond, ◌↔◌, ◌⊎◌, ℕ, ◌<◌, ◌≤◌, leb, length}
use Rattle.std.proofs.Math.Bool.{true, false}
use mathlib.Core.List.{List, [], ◌∷◌, ◌++◌, append_assoc, append-nil}
use Rattle.std.proofs.Math.Logic.{inl, inr, ⊎_elim}
use Rattle.std.proofs.Math.Option.{Option, some}
use native.Mathlib.Omega.{arith}
use Rattle.std.proofs.Math.Dec.{ltb}
use Rattle.std.proofs.Math.ListN.{length-append}
use borrow.Author.Tests.{ltb-true, lt-ltb, leb-true, le-leb}
use Rattle.definition.specs.declared.Mode.TheVariants.{Running}
use Rattle.definition.specs.declared.Answer.TheVariants.{Full}
use Rattle.definition.specs.Rows.{mem, flat}
use Rattle.definition.specs.Names.{Name}
use Rattle.definition.specs.Chart.{Chart, Names}
use Rattle.follower.specs.Blocks.{Effect, exited, taken, entered, acted, raised, done, chosen, sent, cancelled, queued}
use Rattle.follower.specs.Clock.{most_pending, Table, send_of, with_send, table_step, table_after}
use Rattle.follower.specs.Follower.{Follower, most_queued, Round, idle, over, did, taking, closing_round, round, refusal_if, refusal, first_effects, first_follower, first_table}
use Rattle.laws.specs.Bools.{no, clash, bool_case, or_right}
use Rattle.laws.specs.Sets.{mem_head}
use Rattle.laws.specs.Lists.{mem_cases, mem_tail}
use Rattle.theory.specs.Runs.{ChosenEvent, round_cases}

module _ (c : Chart) (names : Names) where
  -- an effect queues one name at most, so between two effects every length is seen
  pub queued_one : (e : Effect) → length (queued c names e) ≤ 1
  unfolding queued
  queued_one (exited i) = omega arith
  queued_one (taken t) = omega arith
  queued_one (entered i) = omega arith
  queued_one (acted n) = omega arith
  queued_one (raised n) = omega arith
  queued_one (done i) = omega arith
  queued_one (chosen i) = omega arith
  queued_one (sent n delay id) = omega arith
  queued_one (cancelled n) = omega arith

  -- the lengths of the queue: at first, which is without the taken event, and after each effect
  unfoldable pub moments : List Name → List Effect → List ℕ
  moments queue [] = length queue ∷ []
  moments queue (e ∷ es) = length queue ∷ moments (queue ++ queued c names e) es

  -- names only join, so the queue is longest at the end
  longest : (queue : List Name) (es : List Effect) (n : ℕ) → mem n (moments queue es) ≡ true → n ≤ length (queue ++ flat (queued c names) es)
  unfolding moments flat mem
  longest queue [] n h = mem_cases n (length queue) [] (λ e. simp length-append (omega arith)) (λ z. absurd (no z)) h
  longest queue (e ∷ es) n h =
      mem_cases n (length queue) (moments (queue ++ queued c names e) es) (λ q. simp length-append (omega arith))
      (λ m. rw (← append_assoc) (longest (queue ++ queued c names e) es n m)) h

  at_end_lem : (queue : List Name) (es : List Effect) → mem (length (queue ++ flat (queued c names) es)) (moments queue es) ≡ true
  unfolding moments flat
  at_end_lem queue [] = rw (append-nil queue) (mem_head (length queue) [])
  at_end_lem queue (e ∷ es) =
      mem_tail (length queue) (length (queue ++ (queued c names e ++ flat (queued c names) es))) (moments (queue ++ queued c names e) es)
      (rw (← append_assoc) (at_end_lem (queue ++ queued c names e) es))

  -- at some moment there are more than 32
  pub record Overfull (queue : List Name) (es : List Effect) : Type 0 where
    pub held : ℕ
    pub moment : mem held (moments queue es) ≡ true
    pub too_many : most_queued < held

  pub overfull_at_end : (queue : List Name) (es : List Effect) → Overfull queue es ↔ (ltb most_queued (length (queue ++ flat (queued c names) es)) ≡ true)
  overfull_at_end queue es = (
    (λ o. let l = longest queue es o.held o.moment in let m = o.too_many in lt-ltb most_queued (length (queue ++ flat (queued c names) es)) (omega arith)),
    (λ h. record { held = length (queue ++ flat (queued c names) es); moment = at_end_lem queue es; too_many = ltb-true most_queued _ h }),
  )

  -- ---- so 7 is answered exactly if some moment has more, or a send found the table full

  refused_full : (room : ℕ) (next : Follower) (full : Bool) (es : List Effect) → (refusal room next full es ≡ some Full) ↔ ((ltb most_queued (length next.internal) ≡ true) ⊎ (full ≡ true))
  unfolding refusal refusal_if
  refused_full room next full es = (
    (λ h. go (ltb most_queued (length next.internal)) full (ltb room (length es)) h),
    (λ h. ⊎_elim (λ (e : ltb most_queued (length next.internal) ≡ true). rw e) (λ (e : full ≡ true). rw (e, or_right (ltb most_queued (length next.internal)) true refl)) h),
  )
    where
      go : (long full has_no_room : Bool) → refusal_if (long || full) has_no_room ≡ some Full → (long ≡ true) ⊎ (full ≡ true)
      go true full has_no_room h = inl refl
      go false true has_no_room h = inr refl
      go false false true h = let z : ◌≡◌ {A = ℕ} 0 1 = cc in absurd (omega arith)
      go false false false h = let z : ◌≡◌ {A = ℕ} 0 1 = cc in absurd (omega arith)

  exact : (room : ℕ) (queue : List Name) (next : Follower) (full : Bool) (es : List Effect) → next.internal ≡ queue ++ flat (queued c names) es →
      (refusal room next full es ≡ some Full) ↔ (Overfull queue es ⊎ (full ≡ true))
  exact room queue next full es e =
      let r = refused_full room next full es in
      let o = overfull_at_end queue es in (
        (λ h. ⊎_elim (λ (q : ltb most_queued (length next.internal) ≡ true). inl (o.1 (rw e at q))) (λ (q : full ≡ true). inr q) (r.0 h)),
        (λ h. r.1 (⊎_elim (λ (q : Overfull queue es). inl (rw e (o.0 q))) (λ (q : full ≡ true). inr q) h)),
      )

  -- a round of a running session: internal is its queue without the taken event
  pub record FullAt (room : ℕ) (s next : Follower) (full : Bool) (es : List Effect) : Type 0 where
    pub internal : List Name
    pub external : List Name
    pub event : Option Name
    pub chosen : ChosenEvent s internal external event
    -- it is the queue that the round's names join
    pub joined : next.internal ≡ internal ++ flat (queued c names) es
    pub exactly : (refusal room next full es ≡ some Full) ↔ (Overfull internal es ⊎ (full ≡ true))

  pub round_full : (room : ℕ) (s next : Follower) (full : Bool) (es : List Effect) → s.mode ≡ Running → round c names s ≡ did next es → FullAt room s next full es
  unfolding taking closing_round
  round_full room s next full es m e =
      subst Exact e (round_cases c names s Exact (λ q. tt) (λ q. tt) (λ q. let z : ◌≡◌ {A = ℕ} 0 1 = cc in absurd (omega arith))
      (λ q internal external event h. record { internal = internal; external = external; event = event; chosen = h; joined = refl; exactly = exact room internal _ full _ refl }))
    where
      Exact : Round → Type 0
      Exact idle = Unit {0}
      Exact over = Unit {0}
      Exact (did next es) = FullAt room s next full es

  pub start_full : (room : ℕ) → (refusal room (first_follower c names) (first_table c names).full (first_effects c) ≡ some Full) ↔ (Overfull [] (first_effects c) ⊎ ((first_table c names).full ≡ true))
  unfolding first_follower
  start_full room = exact room [] (first_follower c names) (first_table c names).full (first_effects c) refl

  -- ---- the table is full exactly if some send is performed while 32 are pending: before it come some effects, behind it others

  pub record NoPlace (ticks : ℕ) (t : Table) (es : List Effect) : Type 0 where
    pub before : List Effect
    pub event : ℕ
    pub delay : ℕ
    pub id : ℕ
    pub behind : List Effect
    pub parted : es ≡ before ++ (sent event delay id ∷ behind)
    pub pending : most_pending ≤ length (table_after names ticks t before).pending

  -- once full, full for good
  stays_full : (ticks : ℕ) (t : Table) (es : List Effect) → t.full ≡ true → (table_after names ticks t es).full ≡ true
  unfolding table_after table_step with_send
  stays_full ticks t [] h = h
  stays_full ticks t (exited i ∷ es) h = stays_full ticks t es h
  stays_full ticks t (taken i ∷ es) h = stays_full ticks t es h
  stays_full ticks t (entered i ∷ es) h = stays_full ticks t es h
  stays_full ticks t (acted n ∷ es) h = stays_full ticks t es h
  stays_full ticks t (raised n ∷ es) h = stays_full ticks t es h
  stays_full ticks t (done i ∷ es) h = stays_full ticks t es h
  stays_full ticks t (chosen i ∷ es) h = stays_full ticks t es h
  stays_full ticks t (sent n d id ∷ es) h = stays_full ticks (with_send t (send_of names ticks n d id)) es (unfold with_send in go (leb most_pending (length t.pending)))
    where
      go : (b : Bool) → (cond {A = Table} b (record { pending = t.pending; full = true }) (record { pending = t.pending ++ (send_of names ticks n d id ∷ []); full = t.full })).full ≡ true
      go true = refl
      go false = h
  stays_full ticks t (cancelled n ∷ es) h = stays_full ticks _ es h

  after_app : (ticks : ℕ) (t : Table) (xs ys : List Effect) → table_after names ticks t (xs ++ ys) ≡ table_after names ticks (table_after names ticks t xs) ys
  unfolding table_after
  after_app ticks t [] ys = refl
  after_app ticks t (x ∷ xs) ys = after_app ticks (table_step names ticks t x) xs ys

  one_more : (ticks : ℕ) (t : Table) (e : Effect) (es : List Effect) → NoPlace ticks (table_step names ticks t e) es → NoPlace ticks t (e ∷ es)
  unfolding table_after
  one_more ticks t e es p =
      record { before = e ∷ p.before; event = p.event; delay = p.delay; id = p.id; behind = p.behind; parted = ap {B = List Effect} (λ l. e ∷ l) p.parted; pending = p.pending }

  full_place : (ticks : ℕ) (t : Table) (es : List Effect) → t.full ≡ false → (table_after names ticks t es).full ≡ true → NoPlace ticks t es
  unfolding table_after table_step with_send
  full_place ticks t [] f h = absurd (clash _ h f)
  full_place ticks t (exited i ∷ es) f h = one_more ticks t (exited i) es (full_place ticks t es f h)
  full_place ticks t (taken i ∷ es) f h = one_more ticks t (taken i) es (full_place ticks t es f h)
  full_place ticks t (entered i ∷ es) f h = one_more ticks t (entered i) es (full_place ticks t es f h)
  full_place ticks t (acted n ∷ es) f h = one_more ticks t (acted n) es (full_place ticks t es f h)
  full_place ticks t (raised n ∷ es) f h = one_more ticks t (raised n) es (full_place ticks t es f h)
  full_place ticks t (done i ∷ es) f h = one_more ticks t (done i) es (full_place ticks t es f h)
  full_place ticks t (chosen i ∷ es) f h = one_more ticks t (chosen i) es (full_place ticks t es f h)
  full_place ticks t (sent n d id ∷ es) f h =
      bool_case (leb most_pending (length t.pending))
      (λ e. record { before = []; event = n; delay = d; id = id; behind = es; parted = refl; pending = leb-true _ _ e })
      (λ e. one_more ticks t (sent n d id) es (full_place ticks (with_send t (send_of names ticks n d id)) es (unfold with_send in rw e f) h))
  full_place ticks t (cancelled n ∷ es) f h = one_more ticks t (cancelled n) es (full_place ticks _ es f h)

  place_full : (ticks : ℕ) (t : Table) (es : List Effect) → NoPlace ticks t es → (table_after names ticks t es).full ≡ true
  unfolding table_step with_send
  place_full ticks t es p =
      rw (p.parted, after_app ticks t p.before (sent p.event p.delay p.id ∷ p.behind))
      (unfold table_after in stays_full ticks _ p.behind (rw (le-leb most_pending _ p.pending)))

  pub table_full : (ticks : ℕ) (t : Table) (es : List Effect) → t.full ≡ false → ((table_after names ticks t es).full ≡ true) ↔ NoPlace ticks t es
  table_full ticks t es f = (full_place ticks t es f, place_full ticks t es)
