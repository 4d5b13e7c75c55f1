-- The first match, climbing from an atomic state: what is left of the climb is the whole choice.
use Rattle.std.specs.Prelude.{◌≡◌, true, false}
use Rattle.std.proofs.Math.Path.{ap}
use Rattle.std.proofs.Common.{◌∙◌, add-one}
use mathlib.Core.List.{List, ◌∷◌, ◌++◌}
use Rattle.std.proofs.Math.Option.{Option, none, some}
use Prim.Native.Nat.{ℕ, suc, ◌+◌, ◌-◌, ◌≤◌, ◌<◌}
use native.Mathlib.Omega.{arith}
use Rattle.definition.specs.Rows.{from, first, flat}
use Rattle.definition.specs.Names.{Name}
use Rattle.definition.specs.Chart.{Chart, Names, parent}
use Rattle.definition.specs.Tree.{ancestors}
use Rattle.follower.specs.Selection.{is_match, transitions_of, choice}
use Rattle.accepted.specs.Tree.{ancestors_on, ancestors_top}
use Rattle.numbers.specs.declared.Transition.{Transition}
use Rattle.std.specs.declared.option.Option as program
use Rattle.std.specs.declared.option.Option.TheVariants.{None, Some}

abbrev pub choice_of : program.Option Transition → Option ℕ
choice_of None = none
choice_of (Some t) = some t.0

module _ (c : Chart) (names : Names) (conf : List ℕ) (event : Option Name) where
  -- the choice of the transitions from t to before e, and of those of the ancestors of row a
  unfoldable pub choice_from : ℕ → ℕ → ℕ → Option ℕ
  choice_from a t e = first (is_match c names conf event) (from (e - t) t ++ flat (transitions_of c) (ancestors c a))

  -- at row a, whose transitions are those from s to before e
  pub climb_begin : (a s e : ℕ) → transitions_of c a ≡ from (e - s) s → choice c names conf event a ≡ choice_from a s e
  unfolding choice choice_from flat
  climb_begin a s e h = rw h

  next : (t e : ℕ) → t < e → from (e - t) t ≡ t ∷ from (e - (t + 1)) (t + 1)
  unfolding from
  next t e l = let m : e - t ≡ suc (e - (t + 1)) = omega arith in ap (λ (k : ℕ). from k t) m ∙ rw (add-one t)

  pub climb_turn : (a t e : ℕ) → t < e → is_match c names conf event t ≡ false → choice_from a t e ≡ choice_from a (t + 1) e
  unfolding choice_from first
  climb_turn a t e l h = rw (next t e l, h)

  pub climb_here : (a t e : ℕ) → t < e → is_match c names conf event t ≡ true → choice_from a t e ≡ some t
  unfolding choice_from first
  climb_here a t e l h = rw (next t e l, h)

  past : (a t e : ℕ) → e ≤ t → choice_from a t e ≡ first (is_match c names conf event) (flat (transitions_of c) (ancestors c a))
  unfolding choice_from from
  past a t e l = let m : e - t ≡ 0 = omega arith in ap (λ (k : ℕ). first (is_match c names conf event) (from k t ++ flat (transitions_of c) (ancestors c a))) m

  -- no match: on at the parent, which stands before its child, or nothing
  pub climb_on : (a t e p : ℕ) → e ≤ t → p ≡ parent c a → p < a → choice_from a t e ≡ choice c names conf event p
  unfolding choice
  climb_on a t e p l q h =
      past a t e l ∙
      ap (λ (xs : List ℕ). first (is_match c names conf event) (flat (transitions_of c) xs)) (ancestors_on c a (rw q at h) ∙ rw q)

  pub climb_top : (a t e p : ℕ) → e ≤ t → p ≡ parent c a → a ≤ p → choice_from a t e ≡ none
  unfolding flat first
  climb_top a t e p l q h =
      past a t e l ∙
      ap (λ (xs : List ℕ). first (is_match c names conf event) (flat (transitions_of c) xs)) (ancestors_top c a (rw q at h))
