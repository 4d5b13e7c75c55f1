-- What became of one round of the definition, for the room that there is.
use Rattle.std.specs.Prelude.{◌≡◌, Bool, true, false, List, [], ℕ, ◌≤◌, length}
use Rattle.std.proofs.Math.Path.{refl, ap}
use Rattle.std.proofs.Common.{sym, subst, ◌∙◌, arith}
use Rattle.std.proofs.Math.Option.{Option, none, some}
use borrow.Author.Tests.{le-ltb}
use Rattle.definition.specs.declared.Answer.{Answer}
use Rattle.definition.specs.declared.Status.{Status}
use Rattle.definition.specs.declared.Status.TheVariants as status
use Rattle.definition.specs.Chart.{Chart, Names}
use Rattle.follower.specs.Blocks.{Effect}
use Rattle.follower.specs.Follower.{Follower, Round, idle, over, did, refusal, Timed}
use Rattle.theory.specs.Runs.{next_of, refused_by}
use Rattle.state.specs.State.{trace_with}
use Rattle.rounds.specs.declared.Outcome.{Outcome}
use Rattle.rounds.specs.declared.Outcome.TheVariants.{Idle, Over, Refused, Did}
use Rattle.rounds.specs.declared.Turn.{Turn}
use Rattle.rounds.specs.Calls.{SpellsTimed, shown_of}

-- by the refusal of the round, if there is one: what it came to, the state after it, and its effects
unfoldable pub judged : Option Answer → Outcome
judged none = Did
judged (some a) = Refused a

unfoldable pub next_unless : Option Answer → Timed → Timed → Timed
next_unless none s next = next
next_unless (some a) s next = s

unfoldable pub shown_unless : Option Answer → List Effect → List Effect
shown_unless none es = es
shown_unless (some a) es = []

unfoldable pub outcome_of : Chart → Names → ℕ → Timed → Round → Outcome
outcome_of c names room s idle = Idle
outcome_of c names room s over = Over
outcome_of c names room s (did next es) = judged (refused_by c names room s next es)

unfoldable pub state_after : Chart → Names → ℕ → Timed → Round → Timed
state_after c names room s idle = s
state_after c names room s over = s
state_after c names room s (did next es) = next_unless (refused_by c names room s next es) s (next_of c names s next es)

unfoldable pub effects_of : Chart → Names → ℕ → Timed → Round → List Effect
effects_of c names room s idle = []
effects_of c names room s over = []
effects_of c names room s (did next es) = shown_unless (refused_by c names room s next es) es

-- how a run that stops there stops
unfoldable pub status_of : Outcome → Status
status_of Idle = status.Idle
status_of Over = status.Ended
status_of (Refused a) = status.Refused a
status_of Did = status.More

-- nothing changed
abbrev pub untouched : Outcome → Turn
untouched o = record { outcome = o; count = 0; entries = 0 }

-- round r from state s, with that room, came to turn t: old and new are the trace before and after
pub record Turned (c : Chart) (names : Names) (quiet : Bool) (room : ℕ) (r : Round) (s : Timed) (t : Turn) (numbers internal external clock old new : List ℕ) : Type 0 where
  pub outcome : t.outcome ≡ outcome_of c names room s r
  pub state : SpellsTimed (state_after c names room s r) numbers internal external clock
  pub entries : t.entries ≡ length (effects_of c names room s r)
  pub count : t.count ≡ length (shown_of quiet (effects_of c names room s r))
  pub written : new ≡ trace_with old (shown_of quiet (effects_of c names room s r))

-- a quiet round is lent no place to write into
pub record Hushed (quiet : Bool) (trace : List ℕ) : Type 0 where
  pub none : quiet ≡ true → length trace ≡ 0

-- ---- of no effects, none are shown

pub shown_none : (quiet : Bool) → shown_of quiet [] ≡ []
shown_none true = refl
shown_none false = refl

none_shown : (quiet : Bool) → 0 ≡ length (shown_of quiet [])
none_shown quiet = sym (ap {B = ℕ} length (shown_none quiet))

pub trace_stays : (quiet : Bool) (old : List ℕ) → old ≡ trace_with old (shown_of quiet [])
unfolding trace_with
trace_stays quiet old = sym (ap (trace_with old) (shown_none quiet))

-- ---- a refusal, or none

pub judged_none : (o : Option Answer) → judged o ≡ Did → o ≡ none
unfolding judged
judged_none none e = refl
judged_none (some a) e = let z : ◌≡◌ {A = ℕ} 0 1 = cc in absurd (omega arith)

pub judged_some : (o : Option Answer) (a : Answer) → judged o ≡ Refused a → o ≡ some a
unfolding judged
judged_some none a e = let z : ◌≡◌ {A = ℕ} 0 1 = cc in absurd (omega arith)
judged_some (some b) a e = cc

-- ---- each way that a turn is made

module _ (c : Chart) (names : Names) (quiet : Bool) (room : ℕ) (r : Round) (s : Timed) where
  module _ (t : Turn) (numbers internal external clock old : List ℕ) (w : SpellsTimed s numbers internal external clock) where
    pub turned_idle : t ≡ untouched Idle → r ≡ idle → Turned c names quiet room r s t numbers internal external clock old old
    unfolding outcome_of state_after effects_of
    turned_idle q e = rw (q, e) (record { outcome = refl; state = w; entries = refl; count = none_shown quiet; written = trace_stays quiet old })

    pub turned_over : t ≡ untouched Over → r ≡ over → Turned c names quiet room r s t numbers internal external clock old old
    unfolding outcome_of state_after effects_of
    turned_over q e = rw (q, e) (record { outcome = refl; state = w; entries = refl; count = none_shown quiet; written = trace_stays quiet old })

    pub turned_refused : (o : Outcome) → t ≡ untouched o → (next : Follower) (es : List Effect) → r ≡ did next es → o ≡ judged (refused_by c names room s next es) → (o ≡ Did → ⊥) →
        Turned c names quiet room r s t numbers internal external clock old old
    unfolding outcome_of state_after effects_of judged next_unless shown_unless
    turned_refused o y next es e q n = rw (y, e) (go (refused_by c names room s next es) refl)
      where
        go : (a : Option Answer) → refused_by c names room s next es ≡ a → Turned c names quiet room (did next es) s (untouched o) numbers internal external clock old old
        go none h = absurd (n (q ∙ ap judged h))
        go (some a) h = record { outcome = q; state = rw h w; entries = rw h; count = rw h (none_shown quiet); written = rw h (trace_stays quiet old) }

  -- done: the places spell the next state
  pub turned_did : (t : Turn) (numbers internal external clock old new : List ℕ) (next : Follower) (es : List Effect) → r ≡ did next es → refused_by c names room s next es ≡ none →
      t.outcome ≡ Did → SpellsTimed (next_of c names s next es) numbers internal external clock → t.entries ≡ length es → t.count ≡ length (shown_of quiet es) → new ≡ trace_with old (shown_of quiet es) →
      Turned c names quiet room r s t numbers internal external clock old new
  unfolding outcome_of state_after effects_of judged next_unless shown_unless
  turned_did t numbers internal external clock old new next es e q o w m n h = rw e (record { outcome = rw q o; state = rw q w; entries = rw q m; count = rw q n; written = rw q h })

  -- ---- where the entries fit another room too, the turn is that of the other room

  fits_both : (other : ℕ) (next : Follower) (es : List Effect) → length es ≤ room → length es ≤ other → refused_by c names room s next es ≡ refused_by c names other s next es
  unfolding refused_by refusal
  fits_both other next es l m = rw (le-ltb room (length es) l, le-ltb other (length es) m)

  record Alike (other : ℕ) (x : Round) : Type 0 where
    outcome : outcome_of c names room s x ≡ outcome_of c names other s x
    state : state_after c names room s x ≡ state_after c names other s x
    effects : effects_of c names room s x ≡ effects_of c names other s x

  alike : (other : ℕ) (x : Round) → ((next : Follower) (es : List Effect) → x ≡ did next es → (length es ≤ room) × (length es ≤ other)) → Alike other x
  unfolding outcome_of state_after effects_of
  alike other idle l = record { outcome = refl; state = refl; effects = refl }
  alike other over l = record { outcome = refl; state = refl; effects = refl }
  alike other (did next es) l =
      let e = fits_both other next es (l next es refl).0 (l next es refl).1 in
      record { outcome = ap judged e; state = ap (λ (o : Option Answer). next_unless o s (next_of c names s next es)) e; effects = ap (λ (o : Option Answer). shown_unless o es) e }

  pub turned_roomy : (other : ℕ) → ((next : Follower) (es : List Effect) → r ≡ did next es → (length es ≤ room) × (length es ≤ other)) →
      (t : Turn) (numbers internal external clock old new : List ℕ) → Turned c names quiet room r s t numbers internal external clock old new → Turned c names quiet other r s t numbers internal external clock old new
  turned_roomy other l t numbers internal external clock old new w =
      let a : Alike other r = alike other r l in
      record {
        outcome = w.outcome ∙ a.outcome;
        state = subst (λ (x : Timed). SpellsTimed x numbers internal external clock) a.state w.state;
        entries = w.entries ∙ ap {B = ℕ} length a.effects;
        count = w.count ∙ ap {B = ℕ} (λ (es : List Effect). length (shown_of quiet es)) a.effects;
        written = w.written ∙ ap (λ (es : List Effect). trace_with old (shown_of quiet es)) a.effects;
      }
