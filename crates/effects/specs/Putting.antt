-- One number, or the two of a send or cancel, put into the place of notes.
use Rattle.std.specs.Prelude.{◌≡◌, Bool, ℕ, ◌+◌, ◌-◌, ◌*◌, ◌≤◌, ◌<◌, length}
use Rattle.std.proofs.Math.Path.{ap}
use Rattle.std.proofs.Common.{sym, ◌∙◌}
use Rattle.std.proofs.Math.Bool.{true, false, cond}
use mathlib.Core.List.{List}
use native.Mathlib.Omega.{arith}
use Rattle.std.proofs.Math.Dec.{leb}
use Rattle.std.proofs.Math.ListN.{set, get_or-eq_default}
use borrow.Author.Tests.{lt-ltb, le-leb, le-ltb, lt-leb}
use Rattle.effects.specs.Trace.{join_at, skip_in, timer_at}

-- what joins as number k
module _ (place : List ℕ) (k x : ℕ) where
  pub join_put : (after : List ℕ) → k < 32 → after ≡ set place k x → after ≡ join_at place k x
  unfolding join_at
  join_put after l e = e ∙ ap (λ (b : Bool). cond b (set place k x) place) (sym (lt-ltb k 32 l))

  pub join_over : 32 ≤ k → place ≡ join_at place k x
  unfolding join_at
  join_over l = ap (λ (b : Bool). cond b (set place k x) place) (sym (le-ltb k 32 l))

-- send or cancel number k, where the first s are passed over
module _ (place : List ℕ) (k a b s : ℕ) (e : s ≡ skip_in place) where
  pub timer_put : (mid after : List ℕ) → s ≤ k → mid ≡ set place (33 + (k - s) * 2) a → after ≡ set mid (33 + (k - s) * 2 + 1) b → after ≡ timer_at place k a b
  unfolding timer_at
  timer_put mid after l f g =
      let q : leb (skip_in place) k ≡ true = le-leb (skip_in place) k (omega arith) in
      let z : 33 + (k - s) * 2 + 1 ≡ 34 + (k - s) * 2 = omega arith in
      g ∙ ap (λ (xs : List ℕ). set xs (33 + (k - s) * 2 + 1) b) f ∙ ap (λ (j : ℕ). set (set place (33 + (k - s) * 2) a) j b) z ∙
      ap (λ (n : ℕ). set (set place (33 + (k - n) * 2) a) (34 + (k - n) * 2) b) e ∙
      ap (λ (h : Bool). cond h (set (set place (33 + (k - skip_in place) * 2) a) (34 + (k - skip_in place) * 2) b) place) (sym q)

  pub timer_over : k < s → place ≡ timer_at place k a b
  unfolding timer_at
  timer_over l =
      let q : leb (skip_in place) k ≡ false = lt-leb (skip_in place) k (omega arith) in
      ap (λ (h : Bool). cond h (set (set place (33 + (k - skip_in place) * 2) a) (34 + (k - skip_in place) * 2) b) place) (sym q)

pub skip_none : (place : List ℕ) → length place ≤ 32 → 0 ≡ skip_in place
skip_none place l = sym (get_or-eq_default place 0 l)
