-- The domain, climbing from the source, and the exit set.
use Rattle.std.specs.Prelude.{◌≡◌, Bool, not, ℕ, ◌≤◌, ◌<◌, length}
use Rattle.std.proofs.Math.Path.{refl, ap}
use Rattle.std.proofs.Common.{sym, ◌∙◌, arith}
use Rattle.std.proofs.Math.Bool.{true, false, cond}
use mathlib.Core.List.{List, [], ◌∷◌}
use Rattle.std.proofs.Math.Option.{some}
use borrow.Author.Tests.{not-true, not-false}
use Rattle.definition.specs.Rows.{is_empty, intersection, subset, first, or_else}
use Rattle.definition.specs.Chart.{Chart, Transition, parent}
use Rattle.definition.specs.Tree.{ancestors, descendants, is_compound, is_domain_kind}
use Rattle.follower.specs.Selection.{History, effective_targets, holds_all, is_own_domain, domain_of, domain, exit_set}
use Rattle.accepted.specs.Tree.{ancestors_on, ancestors_top}

-- premises are what each call answered, and what the test said of the answer

module _ (c : Chart) (targets : List ℕ) (a : ℕ) where
  pub holds_not : (k : Bool) → k ≡ is_domain_kind c a → not k ≡ true → false ≡ holds_all c targets a
  unfolding holds_all
  holds_not k e h = rw (← e, not-true k h)

  pub holds_if : (k b : Bool) (below : List ℕ) → k ≡ is_domain_kind c a → not k ≡ false → below ≡ descendants c a → b ≡ subset targets below → b ≡ holds_all c targets a
  unfolding holds_all
  holds_if k b below e h d q = rw (← e, not-false k h, ← d) q

module _ (c : Chart) (t : Transition) (targets : List ℕ) (s : ℕ) (at : s ≡ t.source) where
  pub own_external : (i : Bool) → i ≡ t.internal → not i ≡ true → false ≡ is_own_domain c t targets
  unfolding is_own_domain
  own_external i e h = rw (← e, not-true i h)

  pub own_simple : (i k : Bool) → i ≡ t.internal → not i ≡ false → k ≡ is_compound c s → not k ≡ true → false ≡ is_own_domain c t targets
  unfolding is_own_domain
  own_simple i k e h f g = rw (← e, not-false i h, ← at, ← f, not-true k g)

  pub own_if : (i k b : Bool) (below : List ℕ) → i ≡ t.internal → not i ≡ false → k ≡ is_compound c s → not k ≡ false → below ≡ descendants c s →
      b ≡ subset targets below → b ≡ is_own_domain c t targets
  unfolding is_own_domain
  own_if i k b below e h f g d q = rw (← e, not-false i h, ← at, ← f, not-false k g, ← d) q

-- the nearest proper ancestor that passes the test, and row 0 where none does
unfoldable pub nearest : Chart → (ℕ → Bool) → ℕ → ℕ
nearest c p i = or_else (first p (ancestors c i)) 0

-- a step of the climb from a to q, its parent
module _ (c : Chart) (p : ℕ → Bool) (a q : ℕ) (e : q ≡ parent c a) where
  nearest_top : a ≤ q → nearest c p a ≡ 0
  unfolding nearest first or_else
  nearest_top l = ap (λ (xs : List ℕ). or_else (first p xs) 0) (ancestors_top c a (rw e at l))

  up : q < a → nearest c p a ≡ cond (p q) q (nearest c p q)
  unfolding nearest first or_else
  up l = ap (λ (xs : List ℕ). or_else (first p xs) 0) (ancestors_on c a (rw e at l)) ∙ rw (← e) (pick (p q))
    where
      pick : (b : Bool) → or_else (cond b (some q) (first p (ancestors c q))) 0 ≡ cond b q (or_else (first p (ancestors c q)) 0)
      pick true = refl
      pick false = refl

  nearest_here : q < a → p q ≡ true → nearest c p a ≡ q
  nearest_here l h = up l ∙ rw h

  pub nearest_on : (s : ℕ) (b : Bool) → q < a → b ≡ p q → b ≡ false → nearest c p s ≡ nearest c p a → nearest c p s ≡ nearest c p q
  nearest_on s b l f h i = i ∙ up l ∙ rw (sym f ∙ h)

module _ (c : Chart) (t : Transition) (targets : List ℕ) (s : ℕ) (at : s ≡ t.source) (own : Bool) (says : own ≡ is_own_domain c t targets) where
  pub domain_own : own ≡ true → s ≡ domain_of c t targets
  unfolding domain_of
  domain_own h = rw (← says, h) at

  climbs : own ≡ false → nearest c (holds_all c targets) s ≡ domain_of c t targets
  unfolding domain_of nearest
  climbs h = rw (← says, h, at)

  module _ (no : own ≡ false) (a q : ℕ) (left : nearest c (holds_all c targets) s ≡ nearest c (holds_all c targets) a) (e : q ≡ parent c a) where
    pub domain_top : a ≤ q → 0 ≡ domain_of c t targets
    domain_top l = sym (left ∙ nearest_top c (holds_all c targets) a q e l) ∙ climbs no

    pub domain_here : (b : Bool) → q < a → b ≡ holds_all c targets q → b ≡ true → q ≡ domain_of c t targets
    domain_here b l f h = sym (left ∙ nearest_here c (holds_all c targets) a q e l (sym f ∙ h)) ∙ climbs no

pub domain_is : (c : Chart) (hist : History) (t : Transition) (targets : List ℕ) (d : ℕ) → targets ≡ effective_targets c hist t → d ≡ domain_of c t targets → d ≡ domain c hist t
unfolding domain
domain_is c hist t targets d e h = h ∙ ap (domain_of c t) e

module _ (c : Chart) (conf : List ℕ) (hist : History) (t : Transition) where
  pub exit_none : (ts : List ℕ) → ts ≡ t.targets → length ts ≡ 0 → [] ≡ exit_set c conf hist t
  unfolding exit_set is_empty
  exit_none [] e l = rw (← e)
  exit_none (x ∷ xs) e l = absurd (omega arith)

  pub exit_some : (ts below set : List ℕ) (d : ℕ) → ts ≡ t.targets → (length ts ≡ 0 → ⊥) → d ≡ domain c hist t → below ≡ descendants c d →
      set ≡ intersection conf below → set ≡ exit_set c conf hist t
  unfolding exit_set is_empty
  exit_some [] below set d e n h q r = absurd (n refl)
  exit_some (x ∷ xs) below set d e n h q r = rw (← h, ← q, ← e) r
