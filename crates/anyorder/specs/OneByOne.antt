-- R-13, second half, as a statement: transitions applied one by one, each with the domain that it was selected with.
use Rattle.std.specs.Prelude.{◌≡◌, cond, List, [], ℕ}
use Rattle.definition.specs.Rows.{fold, mem, is_empty, union, intersection, minus}
use Rattle.definition.specs.Chart.{Chart}
use Rattle.definition.specs.Tree.{descendants}
use Rattle.follower.specs.Selection.{History, effective_targets, initial_targets, domain}
use Rattle.follower.specs.Microstep.{storing, paths_below, entry_set, stored_in}
use Rattle.follower.specs.Follower.{Follower}
use Rattle.laws.specs.Sets.{NoTwice}

-- "the configuration and stored history"
pub record Snapshot : Type 0 where
  pub configuration : List ℕ
  pub history : List (List ℕ)

abbrev pub snapshot_of : Follower → Snapshot
snapshot_of s = record { configuration = s.configuration; history = s.history }

-- "each kept with the domain it was selected with": "Domain and exit set use the history stored before the round."
abbrev pub kept_domain : Chart → Follower → ℕ → ℕ
kept_domain c s t = domain c (stored_in s.history) (c.transition t)

-- its exits: "The exit set is the domain's active proper descendants; with no targets it is empty."
unfoldable pub exits_under : Chart → List ℕ → ℕ → ℕ → List ℕ
exits_under c conf d t = cond (is_empty (c.transition t).targets) [] (intersection conf (descendants c d))

-- its entries: "effective targets, now by the history as this round's exits left it, and their ancestors below the same domain; then, until nothing is
-- missing," what default entry adds
unfoldable pub enters_under : Chart → History → ℕ → ℕ → List ℕ
enters_under c after d t = (entry_set c (initial_targets c after) (paths_below c d (effective_targets c after (c.transition t)))).set

-- exits first: "Before any is removed, each exited owner of a history stores"
unfoldable pub applied : Chart → List ℕ → History → ℕ → ℕ → List ℕ → Snapshot
applied c conf hist d t out =
    record { configuration = union (minus conf out) (enters_under c (stored_in (storing c conf hist out)) d t); history = storing c conf hist out }

-- "their exits and entries applied": of one, where those before it led
unfoldable pub apply_one : Chart → (ℕ → ℕ) → Snapshot → ℕ → Snapshot
apply_one c d p t = applied c p.configuration (stored_in p.history) (d t) t (exits_under c p.configuration (d t) t)

-- "one by one"
unfoldable pub one_by_one : Chart → (ℕ → ℕ) → Snapshot → List ℕ → Snapshot
one_by_one c d p ts = fold (apply_one c d) p ts

-- "in any order": each once, and the same ones
pub record Reordered (us ts : List ℕ) : Type 0 where
  pub once : NoTwice us
  pub same : (t : ℕ) → mem t us ≡ mem t ts

-- "end in the configuration and stored history that the round gives": ts are the transitions taken in a round from s to next
pub record AnyOrder (c : Chart) (s next : Follower) (ts : List ℕ) : Type 0 where
  pub ends : (us : List ℕ) → Reordered us ts → one_by_one c (kept_domain c s) (snapshot_of s) us ≡ snapshot_of next
