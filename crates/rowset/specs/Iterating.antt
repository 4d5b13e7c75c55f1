-- What one step of a pass over the rows of a set gives: the next row, and where the pass then stands. The set stays.
use Rattle.std.specs.Prelude.{◌≡◌, ℕ, ◌+◌, IfSome, Some}
use Rattle.std.proofs.Common.{sym, ap, subst, ◌∙◌}
use Rattle.std.specs.declared.option.Option.{Option}
use Rattle.numbers.specs.declared.Row.{Row}
use Rattle.rowset.specs.declared.RowSet.{RowSet}
use Rattle.rowset.specs.declared.rows.Rows.{Rows}
use Rattle.rowset.specs.declared.RowSet.{RowSet}
use Rattle.rowset.specs.declared.rows.RowsDown.{RowsDown}
use Rattle.rowset.specs.Member.{rows_of, next_in, prev_in}

pub record Ascends (s : Rows) (r : Option Row) (t : Rows) : Type 0 where
  pub set : t.set ≡ s.set
  pub gives : r ≡ next_in (rows_of s.set) s.at
  pub at : IfSome r (λ x. t.at ≡ x.0 + 1)

pub record Descends (s : RowsDown) (r : Option Row) (t : RowsDown) : Type 0 where
  pub set : t.set ≡ s.set
  pub gives : r ≡ prev_in (rows_of s.set) s.below
  pub below : IfSome r (λ x. t.below ≡ x.0)

-- ---- a loop over the rows of s, upward: P holds of where it stands

pub record Passing (P : ℕ → Type 0) (s : RowSet) (it : Rows) : Type 0 where
  pub set : it.set ≡ s
  pub holds : P it.at

pub passing : (P : ℕ → Type 0) (s : RowSet) (first it : Rows) → it ≡ first → first.set ≡ s → first.at ≡ 0 → P 0 → Passing P s it
passing P s first it e f g p = rw e record { set = f; holds = subst P (sym g) p }

module _ {P : ℕ → Type 0} {s : RowSet} {it t : Rows} {o : Option Row} (p : Passing P s it) (a : Ascends it o t) where
  -- what the step has found
  pub gives : o ≡ next_in (rows_of s) it.at
  gives = a.gives ∙ ap (λ (z : RowSet). next_in (rows_of z) it.at) p.set

  pub on : {Q : ℕ → Type 0} (r : Row) → o ≡ Some r → Q (r.0 + 1) → Passing Q s t
  on {Q = Q} r e q =
      let f = subst (λ (z : Option Row). IfSome z (λ x. t.at ≡ x.0 + 1)) e a.at in
      record { set = a.set ∙ p.set; holds = subst Q (sym f) q }

-- ---- the same, downward

pub record PassingDown (P : ℕ → Type 0) (s : RowSet) (it : RowsDown) : Type 0 where
  pub set : it.set ≡ s
  pub holds : P it.below

pub passing_down : (P : ℕ → Type 0) (s : RowSet) (first it : RowsDown) → it ≡ first → first.set ≡ s → first.below ≡ 256 → P 256 → PassingDown P s it
passing_down P s first it e f g p = rw e record { set = f; holds = subst P (sym g) p }

module _ {P : ℕ → Type 0} {s : RowSet} {it t : RowsDown} {o : Option Row} (p : PassingDown P s it) (a : Descends it o t) where
  pub gives_down : o ≡ prev_in (rows_of s) it.below
  gives_down = a.gives ∙ ap (λ (z : RowSet). prev_in (rows_of z) it.below) p.set

  pub on_down : {Q : ℕ → Type 0} (r : Row) → o ≡ Some r → Q r.0 → PassingDown Q s t
  on_down {Q = Q} r e q =
      let f = subst (λ (z : Option Row). IfSome z (λ x. t.below ≡ x.0)) e a.below in
      record { set = a.set ∙ p.set; holds = subst Q (sym f) q }
