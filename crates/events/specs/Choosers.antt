-- A round by who chose its transitions: only what is said of the transitions that it takes counts (R-6).
use Rattle.std.specs.Prelude.{◌≡◌, refl, true, List, [], ◌∷◌, ◌++◌, ℕ}
use Rattle.std.proofs.Math.Option.{Option}
use Rattle.definition.specs.Rows.{mem, flat}
use Rattle.definition.specs.Names.{Name}
use Rattle.definition.specs.Chart.{Chart, Names}
use Rattle.follower.specs.Blocks.{queued}
use Rattle.follower.specs.Selection.{History, chooser}
use Rattle.follower.specs.Microstep.{stored_in, staying, configuration_after, history_after, transition_effects, effects}
use Rattle.follower.specs.Follower.{Follower, Round, did, mode_of, taking}
use Rattle.laws.specs.Sets.{mem_head}
use Rattle.laws.specs.Lists.{mem_tail}

-- the definition's `taking`, with who chose each transition instead of the event that they were chosen for
unfoldable pub taking_by : Chart → Names → Follower → (ℕ → ℕ) → List Name → List Name → List ℕ → Round
taking_by c names s by internal external ts =
    did
    (record {
      configuration = configuration_after c s.configuration (stored_in s.history) ts;
      history = history_after c s.configuration (stored_in s.history) ts;
      internal = internal ++ flat (queued c names) (effects c s.configuration (stored_in s.history) by ts);
      external = external;
      mode = mode_of c (configuration_after c s.configuration (stored_in s.history) ts);
    })
    (effects c s.configuration (stored_in s.history) by ts)

flat_alike : {B : Type 0} (f g : ℕ → List B) (xs : List ℕ) → ((x : ℕ) → mem x xs ≡ true → f x ≡ g x) → flat f xs ≡ flat g xs
unfolding flat
flat_alike f g [] h = refl
flat_alike f g (x ∷ xs) h = rw (h x (mem_head x xs), flat_alike f g xs (λ y m. h y (mem_tail x y xs m)))

module _ (c : Chart) (by other : ℕ → ℕ) (ts : List ℕ) (alike : (t : ℕ) → mem t ts ≡ true → by t ≡ other t) where
  transitions_alike : (stay : List ℕ) → flat (transition_effects c stay by) ts ≡ flat (transition_effects c stay other) ts
  unfolding transition_effects
  transitions_alike stay = flat_alike (transition_effects c stay by) (transition_effects c stay other) ts (λ t m. rw (alike t m))

  effects_alike : (conf : List ℕ) (hist : History) → effects c conf hist by ts ≡ effects c conf hist other ts
  unfolding effects
  effects_alike conf hist = rw (transitions_alike (staying c conf hist ts))

pub taking_by_lem : (c : Chart) (names : Names) (s : Follower) (by : ℕ → ℕ) (event : Option Name) (internal external : List Name) (ts : List ℕ) →
    ((t : ℕ) → mem t ts ≡ true → by t ≡ chooser c names s.configuration event t) → taking c names s event internal external ts ≡ taking_by c names s by internal external ts
unfolding taking taking_by
taking_by_lem c names s by event internal external ts h = rw (effects_alike c by (chooser c names s.configuration event) ts h s.configuration (stored_in s.history))
