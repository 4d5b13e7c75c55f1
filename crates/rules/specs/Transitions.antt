-- Rule 5: the source, use and condition of a transition, as they were read.
use Rattle.std.specs.Prelude.{◌≡◌, Bool, ◌&&◌, ◌||◌, List, length}
use Rattle.std.proofs.Math.Path.{refl, sym}
use Rattle.std.proofs.Common.{◌∙◌}
use Rattle.std.proofs.Math.Bool.{true, false, not}
use Prim.Native.Nat.{ℕ, zero, suc, ◌-◌}
use native.Mathlib.Omega.{arith}
use Rattle.std.proofs.Math.Dec.{leb}
use Rattle.definition.specs.Rows.{is_empty, mem}
use Rattle.definition.specs.Chart.{is_state, is_parallel, is_final}
use Rattle.definition.specs.Tables.{kind_at, source_at, events_at, targets_at, condition_at, transition_at, chart_of}
use Rattle.definition.specs.Rules.{is_in_order, is_empty_option, has_use, condition_fits, spins}
use Rattle.numbers.specs.declared.Row.{Row}
use Rattle.std.proofs.Math.Option.{some}
use Rattle.std.specs.Option.{is_some}
use Rattle.std.specs.declared.option.Option.{Option}
use Rattle.std.specs.declared.option.Option.TheVariants.{None, Some}
use Rattle.tables.specs.Parts.{ConditionIn}
use Rattle.rules.specs.Lists.{read_none, read_some}

module _ (numbers : List ℕ) (t : ℕ) where
  pub order_first : t ≡ 0 → true ≡ is_in_order (chart_of numbers) t
  unfolding is_in_order
  order_first e = sym (rw e)

  pub order_later : (a b : ℕ) → (t ≡ 0 → ⊥) → a ≡ source_at numbers (t - 1) → b ≡ source_at numbers t → leb a b ≡ is_in_order (chart_of numbers) t
  unfolding is_in_order
  order_later a b d e f = rw (e, f) (go t d)
    where
      go : (t : ℕ) → (t ≡ 0 → ⊥) → leb (source_at numbers (t - 1)) (source_at numbers t) ≡ is_in_order (chart_of numbers) t
      go zero d = absurd (d refl)
      go (suc k) d = let e : suc k - 1 ≡ k = omega arith in rw e

  module _ (l : List ℕ) (e : l ≡ events_at numbers t) where
    pub use_events : (length l ≡ 0 → ⊥) → true ≡ has_use (transition_at numbers t)
    unfolding has_use
    use_events h = sym (rw (read_some (events_at numbers t) l e h))

    module _ (h : length l ≡ 0) (m : List ℕ) (f : m ≡ targets_at numbers t) where
      pub use_targets : (length m ≡ 0 → ⊥) → true ≡ has_use (transition_at numbers t)
      unfolding has_use
      use_targets k = sym (rw (read_some (targets_at numbers t) m f k) (always (is_empty (events_at numbers t) && is_empty_option (condition_at numbers t))))
        where
          always : (x : Bool) → not (x && false) ≡ true
          always true = refl
          always false = refl

      pub use_none : (k : Option Row) → length m ≡ 0 → ConditionIn numbers t k → k ≡ None → false ≡ has_use (transition_at numbers t)
      unfolding has_use is_empty_option
      use_none k n c a = sym (rw (read_none (events_at numbers t) l e h, read_none (targets_at numbers t) m f n, ← c.is, a))

      pub use_condition : (k : Option Row) (r : Row) → length m ≡ 0 → ConditionIn numbers t k → k ≡ Some r → true ≡ has_use (transition_at numbers t)
      unfolding has_use is_empty_option
      use_condition k r n c a = sym (rw (read_none (events_at numbers t) l e h, read_none (targets_at numbers t) m f n, ← c.is, a))

      pub use_asked : (k : Option Row) (b : Bool) → length m ≡ 0 → ConditionIn numbers t k → b ≡ is_some k → b ≡ has_use (transition_at numbers t)
      use_asked None b n c a = a ∙ use_none None n c refl
      use_asked (Some r) b n c a = a ∙ use_condition (Some r) r n c refl

  module _ (l : List ℕ) (e : l ≡ events_at numbers t) where
    pub spins_events : (length l ≡ 0 → ⊥) → false ≡ spins (transition_at numbers t)
    unfolding spins
    spins_events h = sym (rw (read_some (events_at numbers t) l e h))

    module _ (h : length l ≡ 0) (m : List ℕ) (f : m ≡ targets_at numbers t) where
      pub spins_nowhere : length m ≡ 0 → true ≡ spins (transition_at numbers t)
      unfolding spins
      spins_nowhere n = sym (rw (read_none (events_at numbers t) l e h, read_none (targets_at numbers t) m f n))

      module _ (n : length m ≡ 0 → ⊥) (k : Option Row) (c : ConditionIn numbers t k) where
        pub spins_condition : (r : Row) → k ≡ Some r → false ≡ spins (transition_at numbers t)
        unfolding spins is_empty_option
        spins_condition r a = sym (rw (read_none (events_at numbers t) l e h, read_some (targets_at numbers t) m f n, ← c.is, a))

        pub spins_source : (s : ℕ) (b : Bool) → k ≡ None → s ≡ source_at numbers t → b ≡ mem s m → b ≡ spins (transition_at numbers t)
        unfolding spins is_empty_option
        spins_source s b a p q = q ∙ sym (rw (read_none (events_at numbers t) l e h, read_some (targets_at numbers t) m f n, ← c.is, a, ← p, ← f))

  module _ (k : Option Row) (c : ConditionIn numbers t k) where
    pub condition_none : k ≡ None → true ≡ condition_fits (chart_of numbers) (condition_at numbers t)
    unfolding condition_fits
    condition_none a = sym (rw (← c.is, a))

    pub condition_asked : (r : Row) → k ≡ Some r → condition_fits (chart_of numbers) (some r.0) ≡ condition_fits (chart_of numbers) (condition_at numbers t)
    condition_asked r a = sym (rw (← c.is, a))

    pub condition_some : (r : Row) → k ≡ Some r → (is_state (kind_at numbers r.0) || is_parallel (kind_at numbers r.0) || is_final (kind_at numbers r.0)) ≡ condition_fits (chart_of numbers) (condition_at numbers t)
    unfolding condition_fits
    condition_some r a = sym (rw (← c.is, a))
