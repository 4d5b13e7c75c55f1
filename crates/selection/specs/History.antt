-- What a history has stored, as the code hands it on; and what stands in for a target.
use Rattle.std.specs.Prelude.{◌≡◌, Bool, not, cond, ℕ, ◌*◌}
use Rattle.std.proofs.Math.Path.{refl, ap}
use Rattle.std.proofs.Common.{sym, ◌∙◌}
use Rattle.std.proofs.Math.Bool.{true, false}
use mathlib.Core.List.{List, [], ◌∷◌}
use borrow.Author.Tests.{not-true, not-false}
use Rattle.definition.specs.declared.Kind.{Kind}
use Rattle.definition.specs.Rows.{fold, with, is_empty, insert, union}
use Rattle.definition.specs.Chart.{Chart, kind, is_history}
use Rattle.definition.specs.Tree.{listed}
use Rattle.follower.specs.Selection.{History, or_default, stand_ins, add_stand_ins}
use Rattle.laws.specs.Bools.{no}
use Rattle.rowset.specs.declared.RowSet.{RowSet}
use Rattle.rowset.specs.Member.{rows_of}
use Rattle.chart.specs.Ready.{row_set_at}
unfoldable pub use Rattle.paths.specs.History.{stored_at}
use Rattle.selection.specs.declared.Stored.{Stored}
use Rattle.selection.specs.declared.Stored.TheVariants as stored

-- a set that a history may have stored: the empty one says that nothing is
unfoldable pub as_stored : RowSet → Stored
as_stored s = cond (is_empty (rows_of s)) stored.Nothing (stored.Stored s)

unfoldable pub stored_of : List ℕ → ℕ → Stored
stored_of history h = as_stored (row_set_at history (h * 4))

-- the stored rows, none where nothing is stored
abbrev pub rows_in : Stored → List ℕ
rows_in stored.Nothing = []
rows_in (stored.Stored s) = rows_of s

module _ (s : RowSet) where
  stored_case : (P : Stored → Type 0) → (is_empty (rows_of s) ≡ true → P stored.Nothing) → (is_empty (rows_of s) ≡ false → P (stored.Stored s)) → P (as_stored s)
  unfolding as_stored
  stored_case P f g = go (is_empty (rows_of s)) refl
    where
      go : (b : Bool) → is_empty (rows_of s) ≡ b → P (cond b stored.Nothing (stored.Stored s))
      go true e = f e
      go false e = g e

  pub as_nothing : is_empty (rows_of s) ≡ true → stored.Nothing ≡ as_stored s
  unfolding as_stored
  as_nothing e = rw e

  pub as_stored_lem : is_empty (rows_of s) ≡ false → stored.Stored s ≡ as_stored s
  unfolding as_stored
  as_stored_lem e = rw e

  -- what was stored is the set
  pub as_rows : rows_in (as_stored s) ≡ rows_of s
  unfolding is_empty
  as_rows = stored_case (λ k. rows_in k ≡ rows_of s) (λ e. empty (rows_of s) e) (λ e. refl)
    where
      empty : (xs : List ℕ) → is_empty xs ≡ true → [] ≡ xs
      empty [] h = refl
      empty (x ∷ xs) h = absurd (no h)

  -- it is not empty
  pub as_some : (k : RowSet) → stored.Stored k ≡ as_stored s → is_empty (rows_of k) ≡ false
  as_some k = stored_case (λ o. stored.Stored k ≡ o → is_empty (rows_of k) ≡ false) (λ e h. let z : false ≡ true = cc in absurd (no z)) (λ e h. let q : k ≡ s = cc in rw q e)

-- what history h has stored, by the enum
pub stored_rows : (history : List ℕ) (h : ℕ) → rows_in (stored_of history h) ≡ stored_at history h
unfolding stored_of stored_at
stored_rows history h = as_rows (row_set_at history (h * 4))

pub stored_some : (history : List ℕ) (h : ℕ) (s : RowSet) → stored_of history h ≡ stored.Stored s → (rows_of s ≡ stored_at history h) × (is_empty (stored_at history h) ≡ false)
unfolding stored_of stored_at
stored_some history h s e =
    let q : rows_of s ≡ rows_of (row_set_at history (h * 4)) = sym (ap rows_in e) ∙ as_rows (row_set_at history (h * 4)) in
    (q, rw (← q) (as_some (row_set_at history (h * 4)) s (sym e)))

-- ---- "a history with nothing stored falls to its default list; otherwise its stored states stand in for it" (53)

-- the stored rows, or the default list
abbrev pub or_list : Stored → List ℕ → List ℕ
or_list stored.Nothing default = default
or_list (stored.Stored s) default = rows_of s

-- what stands in for target x, where x has this stored if it is a history
unfoldable pub stands_for : Chart → Stored → ℕ → List ℕ
stands_for c kept x = cond (is_history (kind c x)) (or_list kept (listed c x)) (x ∷ [])

or_default_lem : (s : RowSet) (default : List ℕ) → or_list (as_stored s) default ≡ or_default (rows_of s) default
unfolding is_empty or_default
or_default_lem s default =
    stored_case s (λ k. or_list k default ≡ or_default (rows_of s) default) (λ e. empty (rows_of s) e) (λ e. full (rows_of s) e)
  where
    empty : (xs : List ℕ) → is_empty xs ≡ true → default ≡ or_default xs default
    empty [] h = refl
    empty (x ∷ xs) h = absurd (no h)

    full : (xs : List ℕ) → is_empty xs ≡ false → xs ≡ or_default xs default
    full [] h = absurd (no (sym h))
    full (x ∷ xs) h = refl

-- it is the definition's, for any history that has the set stored
pub stands_for_lem : (c : Chart) (hist : History) (x : ℕ) (s : RowSet) → hist x ≡ rows_of s → stands_for c (as_stored s) x ≡ stand_ins c hist x
unfolding stands_for stand_ins
stands_for_lem c hist x s e = rw (or_default_lem s (listed c x), e)

module _ (c : Chart) (set : List ℕ) (x : ℕ) (kept : Stored) where
  -- premises are what each call answered, and what the test said of the answer
  pub add_self : (k : Kind) (b : Bool) → k ≡ kind c x → b ≡ is_history k → not b ≡ true → insert x set ≡ union set (stands_for c kept x)
  unfolding stands_for union fold with
  add_self k b e f h = rw (← e, ← f, not-true b h)

  pub add_default : (k : Kind) (b : Bool) (l : List ℕ) → k ≡ kind c x → b ≡ is_history k → not b ≡ false → kept ≡ stored.Nothing → l ≡ listed c x →
      union set l ≡ union set (stands_for c kept x)
  unfolding stands_for
  add_default k b l e f h n q = rw (← e, ← f, not-false b h, n, q)

  pub add_stored : (k : Kind) (b : Bool) (s : RowSet) → k ≡ kind c x → b ≡ is_history k → not b ≡ false → kept ≡ stored.Stored s →
      union set (rows_of s) ≡ union set (stands_for c kept x)
  unfolding stands_for
  add_stored k b s e f h n = rw (← e, ← f, not-false b h, n)

  -- one target more, by any history that has the set stored
  pub add_stand_ins_lem : (hist : History) (s : RowSet) → kept ≡ as_stored s → hist x ≡ rows_of s → union set (stands_for c kept x) ≡ add_stand_ins c hist set x
  unfolding add_stand_ins
  add_stand_ins_lem hist s e f = ap (λ (k : Stored). union set (stands_for c k x)) e ∙ ap (union set) (stands_for_lem c hist x s f)

  -- and by the stored words
  pub add_at : (history r : List ℕ) (y : ℕ) → r ≡ union set (stands_for c kept x) → kept ≡ stored_of history x → x ≡ y → r ≡ add_stand_ins c (stored_at history) set y
  unfolding stored_of stored_at
  add_at history r y h e q = h ∙ add_stand_ins_lem (stored_at history) (row_set_at history (x * 4)) e refl ∙ ap (add_stand_ins c (stored_at history) set) q
