-- The transitions that a round takes, read off its effects, are those that it selects: no two exit a common row.
use Rattle.std.specs.Prelude.{◌≡◌, refl, Bool, true, false, not, ◌&&◌, cond, List, [], ◌∷◌, ◌++◌, ℕ}
use Rattle.std.proofs.Common.{ap, ◌∙◌, append-nil}
use Rattle.std.proofs.Math.Path.{subst}
use Rattle.std.proofs.Math.Option.{Option}
use Rattle.definition.specs.declared.Action.{Action}
use Rattle.definition.specs.declared.Action.TheVariants.{Raise, Host, If, ElseIf, Else, End, Send, Cancel}
use Rattle.definition.specs.declared.Reach.{Reach}
use Rattle.definition.specs.declared.Reach.TheVariants.{Live, Waiting, Past}
use Rattle.definition.specs.Rows.{mem, meets, flat, backwards}
use Rattle.definition.specs.Names.{Name}
use Rattle.definition.specs.Chart.{Chart, Names, kind, parent, is_root, is_final}
use Rattle.follower.specs.Selection.{History, exit_set, chooser}
use Rattle.follower.specs.Blocks.{Effect, exited, taken, entered, acted, raised, done, chosen, sent, cancelled, perform, perform_if, performed_from, performed, after}
use Rattle.follower.specs.Microstep.{active_at, default_block, initial_block, default_effects, staying, exits, exit_effects, exiting, transition_effects, Entry, is_done_above, done_effects, entry_effects, entering, stored_in, effects}
use Rattle.follower.specs.Follower.{Follower, Round, idle, over, did, taking, selected_by, closing_round, round}
use Rattle.laws.specs.Bools.{no}
use Rattle.laws.specs.Sets.{NoTwice}
use Rattle.laws.specs.Lists.{flat_app}
use Rattle.theory.specs.Runs.{round_cases}
use Rattle.theory.specs.Disjoint.{selected_apart, selected_once}

unfoldable pub if_taken : Effect → List ℕ
if_taken (exited i) = []
if_taken (taken t) = t ∷ []
if_taken (entered i) = []
if_taken (acted n) = []
if_taken (raised n) = []
if_taken (done i) = []
if_taken (chosen i) = []
if_taken (sent n delay id) = []
if_taken (cancelled n) = []

-- the transitions that the effects show, in their order
unfoldable pub taken_in : List Effect → List ℕ
taken_in es = flat if_taken es

taken_app : (xs ys : List Effect) → taken_in (xs ++ ys) ≡ taken_in xs ++ taken_in ys
unfolding taken_in
taken_app xs ys = flat_app if_taken xs ys

taken_perform : (r : Reach) (a : Action) → taken_in (perform_if r a) ≡ []
unfolding taken_in perform_if perform flat if_taken
taken_perform Live (Raise n) = refl
taken_perform Live (Host n) = refl
taken_perform Live (If i) = refl
taken_perform Live (ElseIf i) = refl
taken_perform Live Else = refl
taken_perform Live End = refl
taken_perform Live (Send n delay id) = refl
taken_perform Live (Cancel n) = refl
taken_perform (Waiting k) a = refl
taken_perform (Past k) a = refl

taken_performed_from : (conf : List ℕ) (r : Reach) (block : List Action) → taken_in (performed_from conf r block) ≡ []
unfolding taken_in performed_from flat
taken_performed_from conf r [] = refl
taken_performed_from conf r (a ∷ block) = taken_app (perform_if r a) (performed_from conf (after conf a r) block) ∙ rw (taken_perform r a) (taken_performed_from conf (after conf a r) block)

taken_performed : (conf : List ℕ) (block : List Action) → taken_in (performed conf block) ≡ []
unfolding performed
taken_performed conf block = taken_performed_from conf Live block

taken_flat : (f : ℕ → List Effect) (xs : List ℕ) → ((x : ℕ) → taken_in (f x) ≡ []) → taken_in (flat f xs) ≡ []
unfolding taken_in flat
taken_flat f [] h = refl
taken_flat f (x ∷ xs) h = taken_app (f x) (flat f xs) ∙ rw (h x) (taken_flat f xs h)

taken_exiting : (c : Chart) (conf out : List ℕ) → taken_in (exiting c conf out) ≡ []
unfolding exiting exit_effects taken_in flat if_taken
taken_exiting c conf out = taken_flat (exit_effects c conf out) (backwards out) (λ i. taken_performed _ (c.row i).exit)

taken_done : (c : Chart) (conf : List ℕ) (i : ℕ) → taken_in (done_effects c conf i) ≡ []
unfolding done_effects taken_in flat if_taken
taken_done c conf i = go (is_final (kind c i) && not (is_root (kind c (parent c i)))) (is_done_above c conf (parent c (parent c i)))
  where
    go : (a b : Bool) → taken_in (cond a (done (parent c i) ∷ cond b (done (parent c (parent c i)) ∷ []) []) []) ≡ []
    go true true = refl
    go true false = refl
    go false b = refl

taken_default : (c : Chart) (conf : List ℕ) (i h : ℕ) → taken_in (default_effects c conf i h) ≡ []
unfolding default_effects
taken_default c conf i h = taken_performed conf (default_block c i h)

taken_entering : (c : Chart) (stay : List ℕ) (e : Entry) (fell : List ℕ) → taken_in (entering c stay e fell) ≡ []
unfolding entering entry_effects taken_in flat if_taken
taken_entering c stay e fell =
    taken_flat (entry_effects c stay e fell) e.set
    (λ i. taken_app (performed (active_at stay e.set i) (c.row i).entry ++ performed (active_at stay e.set i) (initial_block c e.entered_by_default i) ++ flat (default_effects c (active_at stay e.set i) i) fell) _ ∙
    rw (
      taken_app (performed (active_at stay e.set i) (c.row i).entry ++ performed (active_at stay e.set i) (initial_block c e.entered_by_default i)) (flat (default_effects c (active_at stay e.set i) i) fell),
      taken_app (performed (active_at stay e.set i) (c.row i).entry) (performed (active_at stay e.set i) (initial_block c e.entered_by_default i)),
      taken_performed (active_at stay e.set i) (c.row i).entry,
      taken_performed (active_at stay e.set i) (initial_block c e.entered_by_default i),
      taken_flat (default_effects c (active_at stay e.set i) i) fell (λ h. taken_default c (active_at stay e.set i) i h),
    ) (taken_done c (active_at stay e.set i) i))

taken_blocks : (c : Chart) (stay : List ℕ) (by : ℕ → ℕ) (ts : List ℕ) → taken_in (flat (transition_effects c stay by) ts) ≡ ts
unfolding transition_effects taken_in flat if_taken
taken_blocks c stay by [] = refl
taken_blocks c stay by (t ∷ ts) =
    ap {B = List ℕ} (λ l. t ∷ l)
    (taken_app (performed stay (c.transition t).block) (flat (transition_effects c stay by) ts) ∙ rw (taken_performed stay (c.transition t).block) (taken_blocks c stay by ts))

pub taken_effects : (c : Chart) (conf : List ℕ) (hist : History) (by : ℕ → ℕ) (ts : List ℕ) → taken_in (effects c conf hist by ts) ≡ ts
unfolding effects
taken_effects c conf hist by ts =
    taken_app (exiting c conf (exits c conf hist ts) ++ flat (transition_effects c (staying c conf hist ts) by) ts) _ ∙
    rw (taken_app (exiting c conf (exits c conf hist ts)) (flat (transition_effects c (staying c conf hist ts) by) ts), taken_exiting c conf (exits c conf hist ts), taken_entering) (append-nil _ ∙ taken_blocks c (staying c conf hist ts) by ts)

-- ---- the exit sets of what a round takes, by the configuration and the history before the round

pub record DisjointExits (c : Chart) (s : Follower) (ts : List ℕ) : Type 0 where
  pub once : NoTwice ts
  pub disjoint : (t u : ℕ) → mem t ts ≡ true → mem u ts ≡ true → (t ≡ u → ⊥) →
      meets (exit_set c s.configuration (stored_in s.history) (c.transition t)) (exit_set c s.configuration (stored_in s.history) (c.transition u)) ≡ false

module _ (c : Chart) (names : Names) (s : Follower) where
  abbrev Exits : Round → Type 0
  Exits idle = Unit {0}
  Exits over = Unit {0}
  Exits (did next es) = DisjointExits c s (taken_in es)

  selected_exits : (event : Option Name) → DisjointExits c s (selected_by c names s event)
  unfolding selected_by
  selected_exits event =
      record {
        once = selected_once c names s.configuration (stored_in s.history) event;
        disjoint = selected_apart c names s.configuration (stored_in s.history) event;
      }

  taking_exits : (event : Option Name) (internal external : List Name) (ts : List ℕ) → DisjointExits c s ts → Exits (taking c names s event internal external ts)
  unfolding taking
  taking_exits event internal external ts h = rw (taken_effects c s.configuration (stored_in s.history) (chooser c names s.configuration event) ts) h

  -- of any session, well formed or not
  pub round_disjoint : (next : Follower) (es : List Effect) → round c names s ≡ did next es → DisjointExits c s (taken_in es)
  unfolding closing_round mem
  round_disjoint next es e =
      subst Exits e (round_cases c names s Exits (λ m. tt) (λ m. tt)
      (λ m. rw (taken_exiting c s.configuration s.configuration) (record { once = tt; disjoint = λ t u m n d. absurd (no m) }))
      (λ m internal external event h. taking_exits event internal external (selected_by c names s event) (selected_exits event)))
