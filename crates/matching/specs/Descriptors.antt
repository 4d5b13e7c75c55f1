-- A transition's descriptors, lent to the one pass over the event as four places.
use Rattle.std.specs.Prelude.{◌≡◌, refl, Bool, true, false, ◌||◌, cond, List, [], ◌∷◌, ℕ, ◌+◌, ◌*◌, ◌≤◌, ◌<◌, ltb, length, get_or}
use Rattle.std.proofs.Common.{sym, ◌∙◌, arith, lt-ltb, le-ltb}
use Rattle.definition.specs.Rows.{any}
use Rattle.definition.specs.Tables.{name_count, most_descriptors, slot_size, slot_at, name_at}
use Rattle.follower.specs.Selection.{matches_at}
use Rattle.laws.specs.Bools.{or_false}
use Rattle.tables.specs.Ranges.{NamesIn}
use Rattle.chart.specs.Ready.{CompiledWith}
use Rattle.onepass.specs.declared.Four.{Four}
use Rattle.onepass.specs.Pass.{slot_in}
use Rattle.onepass.specs.Four.{Inside, matches_in}

-- descriptor k, the first where there are not so many
unfoldable pub or_first : List ℕ → ℕ → ℕ
or_first ds k = cond (ltb k (length ds)) (get_or ds k 0) (get_or ds 0 0)

-- where its slot begins
pub record PlaceOf (chart ds : List ℕ) (k o : ℕ) : Type 0 where
  pub is : o ≡ or_first ds k * slot_size
  pub below : o < name_count chart * slot_size

-- descriptors of one transition, at least one
pub record SomeDescriptors (chart names ds : List ℕ) : Type 0 where
  pub compiled : CompiledWith chart names
  pub within : NamesIn chart ds
  pub some : 0 < length ds
  pub short : length ds ≤ most_descriptors

place : (chart ds : List ℕ) (k n : ℕ) → n ≡ or_first ds k → n < name_count chart → PlaceOf chart ds k (n * slot_size)
place chart ds k n e l = record { is = rw e; below = omega arith }

module _ (chart ds : List ℕ) (k n : ℕ) where
  pub place_own : k < length ds → n ≡ get_or ds k 0 → n < name_count chart → PlaceOf chart ds k (n * slot_size)
  unfolding or_first
  place_own h e l = place chart ds k n (rw (lt-ltb k (length ds) h) e) l

  pub place_first : length ds ≤ k → n ≡ get_or ds 0 0 → n < name_count chart → PlaceOf chart ds k (n * slot_size)
  unfolding or_first
  place_first h e l = place chart ds k n (rw (le-ltb k (length ds) h) e) l

pub places_inside : (chart names ds : List ℕ) (at : Four ℕ) → CompiledWith chart names →
    PlaceOf chart ds 0 at.first → PlaceOf chart ds 1 at.second → PlaceOf chart ds 2 at.third → PlaceOf chart ds 3 at.fourth → Inside names at
places_inside chart names ds at h a b c d = record { first = fits _ a; second = fits _ b; third = fits _ c; fourth = fits _ d }
  where
    fits : {k : ℕ} (o : ℕ) → PlaceOf chart ds k o → o + 64 ≤ length names
    fits o p = let s = h.names_size in let e = p.is in let l = p.below in omega arith

-- the descriptor of a number stands in the slot of that number
slot_of_number : (names event : List ℕ) (d o : ℕ) → o ≡ d * slot_size → matches_in names event o ≡ matches_at (name_at names) event d
unfolding matches_in matches_at name_at slot_at slot_in
slot_of_number names event d o e = rw e

-- any of one to four, the first standing in for those that are not there
any_or_first : (p : ℕ → Bool) (ds : List ℕ) → 0 < length ds → length ds ≤ 4 → (p (or_first ds 0) || p (or_first ds 1) || p (or_first ds 2) || p (or_first ds 3)) ≡ any p ds
unfolding or_first any
any_or_first p [] h l = absurd (omega arith)
any_or_first p (a ∷ []) h l = go (p a)
  where
    go : (x : Bool) → (x || x || x || x) ≡ (x || false)
    go true = refl
    go false = refl
any_or_first p (a ∷ b ∷ []) h l = go (p a) (p b)
  where
    go : (x y : Bool) → (x || y || x || x) ≡ (x || (y || false))
    go true y = refl
    go false true = refl
    go false false = refl
any_or_first p (a ∷ b ∷ c ∷ []) h l = go (p a) (p b) (p c)
  where
    go : (x y z : Bool) → (x || y || z || x) ≡ (x || (y || (z || false)))
    go true y z = refl
    go false true z = refl
    go false false true = refl
    go false false false = refl
any_or_first p (a ∷ b ∷ c ∷ d ∷ []) h l = go (p a) (p b) (p c) (p d)
  where
    go : (x y z w : Bool) → (x || y || z || w) ≡ (x || (y || (z || (w || false))))
    go true y z w = refl
    go false true z w = refl
    go false false true w = refl
    go false false false true = refl
    go false false false false = refl
any_or_first p (a ∷ b ∷ c ∷ d ∷ e ∷ ds) h l = absurd (omega arith)

pub any_by_places : (chart names event ds : List ℕ) (at : Four ℕ) (b : Bool) → SomeDescriptors chart names ds →
    PlaceOf chart ds 0 at.first → PlaceOf chart ds 1 at.second → PlaceOf chart ds 2 at.third → PlaceOf chart ds 3 at.fourth →
    b ≡ (matches_in names event at.first || matches_in names event at.second || matches_in names event at.third || matches_in names event at.fourth) →
    b ≡ any (matches_at (name_at names) event) ds
any_by_places chart names event ds at b h p q r s e =
    e ∙ rw (slot_of_number names event _ _ p.is, slot_of_number names event _ _ q.is, slot_of_number names event _ _ r.is, slot_of_number names event _ _ s.is)
    (any_or_first (matches_at (name_at names) event) ds h.some h.short)

-- no descriptors, and one
pub any_none : (p : ℕ → Bool) (ds l : List ℕ) → l ≡ ds → length l ≡ 0 → false ≡ any p ds
unfolding any
any_none p ds [] e h = rw (← e)
any_none p ds (x ∷ xs) e h = absurd (omega arith)

pub any_one : (p : ℕ → Bool) (ds l : List ℕ) (n : ℕ) (b : Bool) → l ≡ ds → length l ≡ 1 → n ≡ get_or l 0 0 → b ≡ p n → b ≡ any p ds
unfolding any
any_one p ds [] n b e h g q = absurd (omega arith)
any_one p ds (x ∷ []) n b e h g q = rw (← e) (q ∙ rw g (sym (or_false (p x))))
any_one p ds (x ∷ y ∷ xs) n b e h g q = absurd (omega arith)
