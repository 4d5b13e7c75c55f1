-- The laws of loops that go from row to row of a set by `next_from` or `prev_below`. Each takes what the search gave, o, with the contract
-- of the search and the arm of the match that was taken.
use Rattle.std.specs.Prelude.{◌≡◌, Bool, List, [], ◌∷◌, ℕ, ◌+◌, ◌-◌, ◌≤◌, ◌<◌}
use Rattle.std.proofs.Math.Path.{sym, ap}
use Rattle.std.proofs.Common.{◌∙◌, subst, arith}
use Rattle.std.proofs.Math.Bool.{true, false}
use Rattle.definition.specs.Rows.{fold, from, mem, any, all, first_of, backwards}
use Rattle.laws.specs.Passes.{Counted, count_skip, count_turn, count_done}
use Rattle.numbers.specs.declared.Row.{Row}
use Rattle.rowset.specs.declared.RowSet.{RowSet}
use Rattle.std.specs.declared.option.Option.{Option}
use Rattle.std.specs.declared.option.Option.TheVariants.{Some, None}
use Rattle.rowset.specs.Member.{rows_of, next_in, prev_in}
use Rattle.rowset.specs.Rows.{ascends_rows, rows_low}
use Rattle.rowset.specs.Search.{NextAt, PrevAt, rest_from, rest_below, next_at_lem, none_next, rest_next, rest_none, rest_all, prev_at, none_prev, rest_prev, rest_start, rest_whole, first_row, first_none}

-- ---- what a search found

module _ (s : RowSet) (k : ℕ) (o : Option Row) (e : o ≡ next_in (rows_of s) k) where
  pub found_next : (r : Row) → o ≡ Some r → NextAt (rows_of s) k r.0
  found_next r h = next_at_lem (rows_of s) (ascends_rows s) k r (sym e ∙ h)

  -- the rows from k on are r and those after it
  pub rest_at : (r : Row) → o ≡ Some r → rest_from (rows_of s) k ≡ r.0 ∷ rest_from (rows_of s) (r.0 + 1)
  rest_at r h = rest_next (rows_of s) (ascends_rows s) k r (sym e ∙ h)

  pub next_small : (r : Row) → o ≡ Some r → r.0 < 256
  next_small r h = rows_low s r.0 (found_next r h).here

  -- fewer are left: the measure of a loop upward
  pub next_less : (r : Row) → o ≡ Some r → 256 - (r.0 + 1) < 256 - k
  next_less r h =
      let l : r.0 < 256 = next_small r h in
      let m : k ≤ r.0 = (found_next r h).low in
      omega arith

  pub no_next : o ≡ None → (m : ℕ) → k ≤ m → mem m (rows_of s) ≡ false
  no_next h = none_next (rows_of s) k (sym e ∙ h)

  pub rest_end : o ≡ None → rest_from (rows_of s) k ≡ []
  rest_end h = rest_none (rows_of s) k (sym e ∙ h)

module _ (s : RowSet) (k : ℕ) (o : Option Row) (e : o ≡ prev_in (rows_of s) k) where
  pub found_prev : (r : Row) → o ≡ Some r → PrevAt (rows_of s) k r.0
  found_prev r h = prev_at (rows_of s) (ascends_rows s) k r (sym e ∙ h)

  -- the rows below k, downward, are r and those below it
  pub rest_before : (r : Row) → o ≡ Some r → rest_below (rows_of s) k ≡ r.0 ∷ rest_below (rows_of s) r.0
  rest_before r h = rest_prev (rows_of s) (ascends_rows s) k r (sym e ∙ h)

  pub prev_less : (r : Row) → o ≡ Some r → r.0 < k
  prev_less r h = (found_prev r h).high

  pub no_prev : o ≡ None → (m : ℕ) → m < k → mem m (rows_of s) ≡ false
  no_prev h = none_prev (rows_of s) k (sym e ∙ h)

  pub rest_bottom : o ≡ None → rest_below (rows_of s) k ≡ []
  rest_bottom h = rest_start (rows_of s) k (sym e ∙ h)

module _ (s : RowSet) (o : Option Row) (e : o ≡ next_in (rows_of s) 0) where
  pub first_of_lem : (r : Row) → o ≡ Some r → first_of (rows_of s) ≡ r.0 ∷ []
  unfolding first_of
  first_of_lem r h = ap first_of (first_row (rows_of s) (ascends_rows s) r (sym e ∙ h))

  pub first_empty : o ≡ None → rows_of s ≡ []
  first_empty h = first_none (rows_of s) (sym e ∙ h)

-- ---- a pass over the rows of a set, upward

-- what the rows from k on give from a is what all give from a₀
pub record Visited {A : Type 0} (f : A → ℕ → A) (a₀ a : A) (s : RowSet) (k : ℕ) : Type 0 where
  pub low : k ≤ 256
  pub left : fold f a₀ (rows_of s) ≡ fold f a (rest_from (rows_of s) k)

module _ {A : Type 0} (f : A → ℕ → A) (a₀ a : A) (s : RowSet) where
  pub visit_begin : a ≡ a₀ → Visited f a₀ a s 0
  visit_begin e = record { low = omega arith; left = rw (rest_all (rows_of s), e) }

  pub visit_turn : (b : A) (k : ℕ) (o : Option Row) (r : Row) → Visited f a₀ a s k → o ≡ next_in (rows_of s) k → o ≡ Some r → b ≡ f a r.0 →
      Visited f a₀ b s (r.0 + 1)
  unfolding fold
  visit_turn b k o r v e h q =
      let l : r.0 < 256 = next_small s k o e r h in
      record { low = omega arith; left = v.left ∙ rw (rest_at s k o e r h, q) }

  pub visit_end : (k : ℕ) (o : Option Row) → Visited f a₀ a s k → o ≡ next_in (rows_of s) k → o ≡ None → a ≡ fold f a₀ (rows_of s)
  unfolding fold
  visit_end k o v e h = sym (v.left ∙ ap (fold f a) (rest_end s k o e h))

-- ---- a loop upward that may stop early: what g says of the rows left is what it says of them all

pub record Remains {B : Type 0} (g : List ℕ → B) (s : RowSet) (k : ℕ) : Type 0 where
  pub low : k ≤ 256
  pub left : g (rows_of s) ≡ g (rest_from (rows_of s) k)

module _ {B : Type 0} (g : List ℕ → B) (s : RowSet) where
  pub remain_begin : Remains g s 0
  remain_begin = record { low = omega arith; left = ap g (sym (rest_all (rows_of s))) }

  pub remain_turn : (k : ℕ) (o : Option Row) (r : Row) → Remains g s k → o ≡ next_in (rows_of s) k → o ≡ Some r → ((ys : List ℕ) → g (r.0 ∷ ys) ≡ g ys) →
      Remains g s (r.0 + 1)
  remain_turn k o r v e h q =
      let l : r.0 < 256 = next_small s k o e r h in
      record { low = omega arith; left = v.left ∙ ap g (rest_at s k o e r h) ∙ q (rest_from (rows_of s) (r.0 + 1)) }

  pub remain_stop : (b : B) (k : ℕ) (o : Option Row) (r : Row) → Remains g s k → o ≡ next_in (rows_of s) k → o ≡ Some r → ((ys : List ℕ) → g (r.0 ∷ ys) ≡ b) →
      b ≡ g (rows_of s)
  remain_stop b k o r v e h q = sym (v.left ∙ ap g (rest_at s k o e r h) ∙ q (rest_from (rows_of s) (r.0 + 1)))

  pub remain_end : (k : ℕ) (o : Option Row) → Remains g s k → o ≡ next_in (rows_of s) k → o ≡ None → g [] ≡ g (rows_of s)
  remain_end k o v e h = sym (v.left ∙ ap g (rest_end s k o e h))

-- a test t of each row: some row passes, or all do
module _ (p : ℕ → Bool) (s : RowSet) (k : ℕ) (o : Option Row) (r : Row) (t : Bool) where
  pub any_on : Remains (any p) s k → o ≡ next_in (rows_of s) k → o ≡ Some r → t ≡ p r.0 → t ≡ false → Remains (any p) s (r.0 + 1)
  unfolding any
  any_on v e h q f = remain_turn (any p) s k o r v e h (λ ys. rw (← q, f))

  pub any_stop : Remains (any p) s k → o ≡ next_in (rows_of s) k → o ≡ Some r → t ≡ p r.0 → t ≡ true → true ≡ any p (rows_of s)
  unfolding any
  any_stop v e h q f = remain_stop (any p) s true k o r v e h (λ ys. rw (← q, f))

  pub all_on : Remains (all p) s k → o ≡ next_in (rows_of s) k → o ≡ Some r → t ≡ p r.0 → t ≡ true → Remains (all p) s (r.0 + 1)
  unfolding all
  all_on v e h q f = remain_turn (all p) s k o r v e h (λ ys. rw (← q, f))

  pub all_stop : Remains (all p) s k → o ≡ next_in (rows_of s) k → o ≡ Some r → t ≡ p r.0 → t ≡ false → false ≡ all p (rows_of s)
  unfolding all
  all_stop v e h q f = remain_stop (all p) s false k o r v e h (λ ys. rw (← q, f))

module _ (p : ℕ → Bool) (s : RowSet) (k : ℕ) (o : Option Row) where
  pub any_end : Remains (any p) s k → o ≡ next_in (rows_of s) k → o ≡ None → false ≡ any p (rows_of s)
  unfolding any
  any_end v e h = remain_end (any p) s k o v e h

  pub all_end : Remains (all p) s k → o ≡ next_in (rows_of s) k → o ≡ None → true ≡ all p (rows_of s)
  unfolding all
  all_end v e h = remain_end (all p) s k o v e h

-- ---- a pass downward

-- what the rows below k, downward, give from a is what all give from a₀
pub record VisitedDown {A : Type 0} (f : A → ℕ → A) (a₀ a : A) (s : RowSet) (k : ℕ) : Type 0 where
  pub left : fold f a₀ (backwards (rows_of s)) ≡ fold f a (rest_below (rows_of s) k)

module _ {A : Type 0} (f : A → ℕ → A) (a₀ a : A) (s : RowSet) where
  pub down_begin : (k : ℕ) → 256 ≤ k → a ≡ a₀ → VisitedDown f a₀ a s k
  down_begin k l e = record { left = rw (rest_whole (rows_of s) k (λ x m. let h : x < 256 = rows_low s x m in omega arith), e) }

  pub down_turn : (b : A) (k : ℕ) (o : Option Row) (r : Row) → VisitedDown f a₀ a s k → o ≡ prev_in (rows_of s) k → o ≡ Some r → b ≡ f a r.0 →
      VisitedDown f a₀ b s r.0
  unfolding fold
  down_turn b k o r v e h q = record { left = v.left ∙ rw (rest_before s k o e r h, q) }

  pub down_end : (k : ℕ) (o : Option Row) → VisitedDown f a₀ a s k → o ≡ prev_in (rows_of s) k → o ≡ None → a ≡ fold f a₀ (backwards (rows_of s))
  unfolding fold
  down_end k o v e h = sym (v.left ∙ ap (fold f a) (rest_bottom s k o e h))

-- ---- a pass over all rows below n that goes from row to row of a set, which may change on the way: other rows change nothing

module _ {A : Type 0} (f : A → ℕ → A) (a₀ a : A) (n : ℕ) (s : RowSet) (idle : (m : ℕ) → mem m (rows_of s) ≡ false → f a m ≡ a) where
  skipped : (k j : ℕ) → Counted f a₀ a n k → k ≤ j → j ≤ n → ((m : ℕ) → k ≤ m → m < j → mem m (rows_of s) ≡ false) → Counted f a₀ a n j
  skipped k j g l u h =
      let e : k + (j - k) ≡ j = omega arith in
      subst (Counted f a₀ a n) e (count_skip f a₀ a n k (j - k) (omega arith) (λ m p q. sym (idle m (h m p (omega arith)))) g)

  pub skip_turn : (b : A) (k : ℕ) (o : Option Row) (r : Row) → Counted f a₀ a n k → o ≡ next_in (rows_of s) k → o ≡ Some r → r.0 < n → b ≡ f a r.0 →
      Counted f a₀ b n (r.0 + 1)
  skip_turn b k o r g e h l q =
      let t = found_next s k o e r h in
      count_turn f a₀ a n b r.0 l (skipped k r.0 g t.low (omega arith) t.none) q

  pub skip_end : (k : ℕ) (o : Option Row) → Counted f a₀ a n k → o ≡ next_in (rows_of s) k → o ≡ None → a ≡ fold f a₀ (from n 0)
  skip_end k o g e h = count_done f a₀ a n n (omega arith) (skipped k n g g.most (omega arith) (λ m p q. no_next s k o e h m p))

pub ruleset visit-laws = (next_less, prev_less, visit_begin, visit_turn, visit_end, down_begin, down_turn, down_end, skip_turn, skip_end)

pub ruleset remain-laws = (next_less, remain_begin, any_on, any_stop, any_end, all_on, all_stop, all_end)
