-- Matching an event's bytes against a transition's descriptors and its condition.
use Rattle.std.specs.Prelude.{◌≡◌, refl, Bool, true, false, not, ℕ, eqb}
use Rattle.std.proofs.Common.{◌∙◌, arith}
use mathlib.Core.List.{List, [], ◌∷◌}
use Rattle.std.proofs.Math.Option.{Option, none, some}
use Rattle.std.proofs.Math.ListN.{length}
use borrow.Author.Tests.{ne_eqb, not-true, not-false}
use Rattle.definition.specs.Rows.{any, is_empty}
use Rattle.definition.specs.Names.{Name, matches, before_zero}
use Rattle.definition.specs.Chart.{Chart, Names}
use Rattle.definition.specs.Tables.{slot_at, name_at}
use Rattle.follower.specs.Selection.{matches_at, is_triggered, is_true, is_match}

-- the round's event: no bytes say that there is none, as a name is never empty
unfoldable pub event_of : List ℕ → Option Name
event_of [] = none
event_of (b ∷ bs) = some (b ∷ bs)

module _ (names : Names) (event ds : List ℕ) where
  pub triggered_none : length event ≡ 0 → (b : Bool) → b ≡ is_empty ds → b ≡ is_triggered names (event_of event) ds
  unfolding event_of is_triggered
  triggered_none l b h = go event l
    where
      go : (e : List ℕ) → length e ≡ 0 → b ≡ is_triggered names (event_of e) ds
      go [] k = h
      go (x ∷ xs) k = absurd (omega arith)

  pub triggered_by : (length event ≡ 0 → ⊥) → (b : Bool) → b ≡ any (matches_at names event) ds → b ≡ is_triggered names (event_of event) ds
  unfolding event_of is_triggered
  triggered_by n b h = go event n h
    where
      go : (e : List ℕ) → (length e ≡ 0 → ⊥) → b ≡ any (matches_at names e) ds → b ≡ is_triggered names (event_of e) ds
      go [] k h = absurd (k refl)
      go (x ∷ xs) k h = h

-- the descriptor's name is what stands in its slot
pub matched_at : (names event slot name : List ℕ) (d : ℕ) (b : Bool) → slot ≡ slot_at names d → name ≡ before_zero slot → b ≡ matches name event →
    b ≡ matches_at (name_at names) event d
unfolding matches_at name_at
matched_at names event slot name d b e f h = h ∙ rw (f, e)

-- a list of no length is empty
pub empty_length : (ds l : List ℕ) → l ≡ ds → eqb (length l) 0 ≡ is_empty ds
unfolding is_empty
empty_length ds [] e = rw (← e)
empty_length ds (x ∷ xs) e = rw (← e) (ne_eqb (length (x ∷ xs)) 0 (omega arith))

module _ (c : Chart) (names : Names) (conf : List ℕ) (event : Option Name) (t : ℕ) where
  -- premises as the places of the code hold them: what each call answered, and what the test said of the answer
  pub match_untriggered : (b : Bool) → b ≡ is_triggered names event (c.transition t).descriptors → not b ≡ true → false ≡ is_match c names conf event t
  unfolding is_match
  match_untriggered b e h = rw (← e, not-true b h)

  pub match_triggered : (b d : Bool) (o : Option ℕ) → b ≡ is_triggered names event (c.transition t).descriptors → not b ≡ false →
      o ≡ (c.transition t).condition → d ≡ is_true conf o → d ≡ is_match c names conf event t
  unfolding is_match
  match_triggered b d o e h q f = rw (← e, not-false b h, ← q) f
