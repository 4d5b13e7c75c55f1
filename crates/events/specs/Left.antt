-- The queues once the event of a round has left: they hold the names that the definition says.
use Rattle.std.specs.Prelude.{◌≡◌, refl, true, List, [], ◌∷◌, ◌++◌, ℕ, ◌-◌, ◌≤◌, length, drop, replicate}
use Rattle.std.proofs.Common.{sym, ap, ◌∙◌, arith}
use Rattle.definition.specs.Rows.{all}
use Rattle.definition.specs.Names.{Name, is_name}
use Rattle.definition.specs.Chart.{Chart}
use Rattle.follower.specs.Follower.{Follower, most_queued}
use Rattle.laws.specs.Bools.{and_right}
use Rattle.queue.specs.Queues.{queue_bytes, queue_of, queue_length, queue_rest}
use Rattle.state.specs.State.{internal_in, external_in, Holds}
use Rattle.state.specs.Places.{reads_internal, reads_external}
use Rattle.state.specs.Found.{queue_again}
use Rattle.events.specs.declared.Source.{Source}
use Rattle.events.specs.declared.Source.TheVariants.{Nothing, Eventless, Internal, External}
use Rattle.events.specs.Rounds.{internal_after, external_after, internal_bytes, external_bytes}

-- ---- what the code does to the bytes, by the source of the event

module _ (source : Source) (xs ys : List ℕ) where
  pub left_nothing : source ≡ Nothing → (xs ≡ internal_bytes source xs) × (ys ≡ external_bytes source ys)
  unfolding internal_bytes external_bytes
  left_nothing e = rw e (refl, refl)

  pub left_eventless : source ≡ Eventless → (xs ≡ internal_bytes source xs) × (ys ≡ external_bytes source ys)
  unfolding internal_bytes external_bytes
  left_eventless e = rw e (refl, refl)

  pub left_internal : (rest : List ℕ) → source ≡ Internal → rest ≡ drop 64 xs ++ replicate 64 0 → (rest ≡ internal_bytes source xs) × (ys ≡ external_bytes source ys)
  unfolding internal_bytes external_bytes
  left_internal rest e h = rw e (h, refl)

  pub left_external : (rest : List ℕ) → source ≡ External → rest ≡ drop 64 ys ++ replicate 64 0 → (xs ≡ internal_bytes source xs) × (rest ≡ external_bytes source ys)
  unfolding internal_bytes external_bytes
  left_external rest e h = rw e (refl, h)

-- ---- the names that the bytes then hold

-- how many of n names stay
unfoldable pub internal_left : Source → ℕ → ℕ
internal_left Nothing n = n
internal_left Eventless n = n
internal_left Internal n = n - 1
internal_left External n = n

unfoldable pub external_left : Source → ℕ → ℕ
external_left Nothing n = n
external_left Eventless n = n
external_left Internal n = n
external_left External n = n - 1

-- bytes and a number that hold this queue of names
pub record QueueIs (queue : List Name) (xs : List ℕ) (n : ℕ) : Type 0 where
  pub bytes : xs ≡ queue_bytes queue
  pub count : n ≡ length queue
  pub names : queue_of xs n ≡ queue
  pub again : xs ≡ queue_bytes (queue_of xs n)
  pub size : length xs ≡ 2048
  pub short : n ≤ 32

-- what the queues' bytes xs and ys hold once the event has left
pub record EventLeft (source : Source) (f : Follower) (numbers xs ys : List ℕ) : Type 0 where
  pub internal : QueueIs (internal_after source f) (internal_bytes source xs) (internal_left source (internal_in numbers))
  pub external : QueueIs (external_after source f) (external_bytes source ys) (external_left source (external_in numbers))

queue_is : (queue : List Name) (xs : List ℕ) (n : ℕ) → xs ≡ queue_bytes queue → n ≡ length queue → length queue ≤ most_queued → all is_name queue ≡ true → QueueIs queue xs n
queue_is queue xs n e q l h =
    let b : queue_of xs n ≡ queue = rw (e, q) (queue_again queue l h) in
    record { bytes = e; count = q; names = b; again = e ∙ sym (ap queue_bytes b); size = ap length e ∙ queue_length queue; short = omega arith }

rest_is : (queue : List Name) (xs : List ℕ) (n : ℕ) → (queue ≡ [] → ⊥) → xs ≡ queue_bytes queue → n ≡ length queue → length queue ≤ most_queued → all is_name queue ≡ true →
    QueueIs (drop 1 queue) (internal_bytes Internal xs) (n - 1)
unfolding internal_bytes all
rest_is [] xs n z e q l h = absurd (z refl)
rest_is (name ∷ names) xs n z e q l h =
    queue_is names _ (n - 1) (queue_rest xs name names e (omega arith)) (omega arith) (omega arith) (and_right (is_name name) _ h)

-- from a state that is spelled, where the queue that the event comes from has a name
pub event_left : (c : Chart) (f : Follower) (numbers internal external : List ℕ) (source : Source) → Holds c f numbers internal external →
    (source ≡ Internal → f.internal ≡ [] → ⊥) → (source ≡ External → f.external ≡ [] → ⊥) → EventLeft source f numbers internal external
unfolding internal_after external_after internal_bytes external_bytes internal_left external_left
event_left c f numbers internal external source h = go source
  where
    inner : QueueIs f.internal internal (internal_in numbers)
    inner = queue_is f.internal internal (internal_in numbers) h.spells.internal_is (reads_internal f numbers internal external h.spells) h.formed.internal_short h.formed.internal_names

    outer : QueueIs f.external external (external_in numbers)
    outer = queue_is f.external external (external_in numbers) h.spells.external_is (reads_external f numbers internal external h.spells) h.formed.external_short h.formed.external_names

    go : (source : Source) → (source ≡ Internal → f.internal ≡ [] → ⊥) → (source ≡ External → f.external ≡ [] → ⊥) → EventLeft source f numbers internal external
    go Nothing i x = record { internal = inner; external = outer }
    go Eventless i x = record { internal = inner; external = outer }
    go Internal i x = record {
      internal = rest_is f.internal internal (internal_in numbers) (i refl) h.spells.internal_is (reads_internal f numbers internal external h.spells) h.formed.internal_short h.formed.internal_names;
      external = outer;
    }
    go External i x = record {
      internal = inner;
      external = rest_is f.external external (external_in numbers) (x refl) h.spells.external_is (reads_external f numbers internal external h.spells) h.formed.external_short h.formed.external_names;
    }
