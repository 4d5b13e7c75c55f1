-- What is known of the grammar once a walk has found no mark.
use Rattle.std.specs.Prelude.{◌≡◌, refl, true, false, List, ℕ, ◌-◌, ◌≤◌, length}
use Rattle.std.proofs.Common.{sym, subst, ◌∙◌}
use Rattle.std.proofs.Math.Path.{ap}
use Rattle.std.specs.declared.option.Option.{Option}
use Rattle.std.specs.declared.option.Option.TheVariants.{Some, None}
use Rattle.std.specs.declared.result.Result.{Result}
use Rattle.std.specs.declared.result.Result.TheVariants.{Err}
use Rattle.markup.specs.declared.Cursor.{Cursor}
use Rattle.markup.specs.declared.Fault.{Fault}
use Rattle.markup.specs.Stack.{is_live, place_in, top_in}
use Rattle.markup.specs.Passes.{Found, finished}
use Rattle.marks.specs.declared.Walk.{Walk}
use Rattle.marks.specs.Told.{Told, told_whole}

-- a walk that has fallen has read a byte
pub record Stopped (w : Walk) : Type 0 where
  pub behind : is_live w.cursor ≡ false → 1 ≤ w.index

-- a walk without a cursor stands behind the first fault
abbrev pub ended_by : ℕ → ℕ → Option Cursor → Result (Unit {0}) Fault
ended_by n i None = Err (record { at = i - 1 })
ended_by n i (Some c) = finished n c.place c.top i

unfoldable pub ended_at : ℕ → Walk → Result (Unit {0}) Fault
ended_at n w = ended_by n w.index w.cursor

module _ (n : ℕ) (w : Walk) where
  pub ended_dead : w.cursor ≡ None → (f : Fault) → f ≡ record { at = w.index - 1 } → Err f ≡ ended_at n w
  unfolding ended_at
  ended_dead h f e = ap (λ (x : Fault). Err x) e ∙ sym (ap (ended_by n w.index) h)

  pub ended_live : (c : Cursor) → w.cursor ≡ Some c → (z : Result (Unit {0}) Fault) → z ≡ finished n c.place c.top w.index → z ≡ ended_at n w
  unfolding ended_at
  ended_live c h z e = e ∙ sym (ap (ended_by n w.index) h)

  pub ended_index : Stopped w → w.cursor ≡ None → 1 ≤ w.index
  ended_index s h = s.behind (ap is_live h)

pub ended_found : (text xs : List ℕ) (w : Walk) → Told text xs w.cursor w.index → (is_live w.cursor ≡ true → w.index ≡ length text) → length text ≤ 32768 →
    (z : Result (Unit {0}) Fault) → z ≡ ended_at (length text) w → Found text z
unfolding ended_at
ended_found text xs w k over short z f = by w.cursor refl
  where
    by : (o : Option Cursor) → w.cursor ≡ o → Found text z
    by None e = subst (Found text) (sym (f ∙ ap (ended_by (length text) w.index) e)) (k.fault (ap is_live e))
    by (Some c) e =
        told_whole text xs w.cursor w.index k (ap is_live e) (over (ap is_live e)) short z
        (f ∙ ap (ended_by (length text) w.index) e ∙ sym (ap (λ (o : Option Cursor). finished (length text) (place_in o) (top_in o) w.index) e))
