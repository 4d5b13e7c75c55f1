-- Rows in document order: each stands in a row of the path that is open behind the row before it; and the path as the writer keeps it.
use Rattle.std.specs.Prelude.{◌≡◌, refl, Bool, true, false, cond, List, [], ◌∷◌, ℕ, suc, ◌≤◌, eqb}
use Rattle.std.proofs.Common.{sym, ap, ◌∙◌, eqb-true, eq-eqb}
use Rattle.reading.specs.Content.{Row, Transition, of_source}
use Rattle.reading.specs.Print.{has_child}
use Rattle.laws.specs.Bools.{not_so, clash}
use Rattle.written.specs.Written.{Open, closed_to}
use Rattle.written.specs.Sound.{AllOf, no_more, more}

-- a path of rows, the innermost first, from row p on
unfoldable pub closed_rows : ℕ → List ℕ → List ℕ
closed_rows p [] = []
closed_rows p (x ∷ xs) = cond (eqb x p) (x ∷ xs) (closed_rows p xs)

-- the rows from number i on; the path ends in the row before them
pub data Laid : List ℕ → ℕ → List Row → Type 0 where
  laid_out : {path : List ℕ} {i : ℕ} → Laid path i []
  lays : {path : List ℕ} {i : ℕ} {r : Row} {rs : List Row} (up : List ℕ) → 1 ≤ r.kind → closed_rows r.parent path ≡ r.parent ∷ up → Laid (i ∷ r.parent ∷ up) (suc i) rs → Laid path i (r ∷ rs)

abbrev pub rows_of : List Open → List ℕ
rows_of [] = []
rows_of (a ∷ around) = a.row ∷ rows_of around

pub closed_rows_lem : (p : ℕ) (around : List Open) → rows_of (closed_to p around) ≡ closed_rows p (rows_of around)
unfolding closed_to closed_rows
closed_rows_lem p [] = refl
closed_rows_lem p (a ∷ around) = by (eqb a.row p) (closed_rows_lem p around)
  where
    by : (z : Bool) → rows_of (closed_to p around) ≡ closed_rows p (rows_of around) → rows_of (cond z (a ∷ around) (closed_to p around)) ≡ cond z (a.row ∷ rows_of around) (closed_rows p (rows_of around))
    by true h = refl
    by false h = h

-- the open rows are the path; or its last row was written as one tag, and the next is no child of it
pub data Joined : List ℕ → List Open → List Row → Type 0 where
  level : {path : List ℕ} {around : List Open} {rs : List Row} → rows_of around ≡ path → Joined path around rs
  beside : {path : List ℕ} {around : List Open} {rs : List Row} (j : ℕ) → j ∷ rows_of around ≡ path → has_child j rs ≡ false → Joined path around rs

other_way : (a b : ℕ) → eqb a b ≡ false → eqb b a ≡ false
other_way a b h = not_so (eqb b a) (λ e. clash (eqb a b) (ap (λ (k : ℕ). eqb k b) (sym (eqb-true b a e)) ∙ eq-eqb b b refl) h)

past_one : (j p : ℕ) (xs : List ℕ) → eqb j p ≡ false → closed_rows p (j ∷ xs) ≡ closed_rows p xs
unfolding closed_rows
past_one j p xs h = rw h

-- the row that the next one stands in is open
pub parent_open : {path : List ℕ} {around : List Open} {r : Row} {rs : List Row} {up : List ℕ} → Joined path around (r ∷ rs) → closed_rows r.parent path ≡ r.parent ∷ up →
    rows_of (closed_to r.parent around) ≡ r.parent ∷ up
parent_open {around = around} {r = r} (level e) h = closed_rows_lem r.parent around ∙ ap (closed_rows r.parent) e ∙ h
parent_open {around = around} {r = r} (beside j e c) h =
    closed_rows_lem r.parent around ∙ sym (past_one j r.parent (rows_of around) (other_way r.parent j c)) ∙ ap (closed_rows r.parent) e ∙ h

-- a property of all open rows is one of those that stay open
pub all_closed : {P : Open → Type 0} (p : ℕ) (around : List Open) → AllOf P around → AllOf P (closed_to p around)
unfolding closed_to
all_closed p [] no_more = no_more
all_closed {P = P} p (a ∷ around) (more f g) = by (eqb a.row p) (all_closed p around g)
  where
    by : (z : Bool) → AllOf P (closed_to p around) → AllOf P (cond z (a ∷ around) (closed_to p around))
    by true h = more f g
    by false h = h

-- a property of all transitions is one of those of a source
pub all_of_source : {P : Transition → Type 0} (ts : List Transition) (i : ℕ) → AllOf P ts → AllOf P (of_source ts i)
unfolding of_source
all_of_source [] i no_more = no_more
all_of_source {P = P} (t ∷ ts) i (more f g) = by (eqb t.source i) (all_of_source ts i g)
  where
    by : (z : Bool) → AllOf P (of_source ts i) → AllOf P (cond z (t ∷ of_source ts i) (of_source ts i))
    by true h = more f h
    by false h = h
