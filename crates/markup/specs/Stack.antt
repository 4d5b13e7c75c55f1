-- The stack of levels as an array, and the state that a cursor and it stand for.
use Rattle.std.specs.Prelude.{◌≡◌, refl, Bool, true, false, List, [], ◌∷◌, ℕ, zero, suc, ◌+◌, ◌-◌, ◌≤◌, ◌<◌, length, get_or, set, not}
use Rattle.std.proofs.Math.Path.{sym, ap}
use Rattle.std.proofs.Common.{◌∙◌, add-one, length-set, get_or-set_same, get_or-set_other}
use native.Mathlib.Omega.{arith}
use Rattle.std.proofs.lemmas.Bool.{not-false}
use Rattle.grammar.specs.declared.Place.{Place}
use Rattle.grammar.specs.declared.Place.TheVariants.{Content}
use Rattle.grammar.specs.declared.Step.{Step}
use Rattle.grammar.specs.declared.Step.TheVariants.{Fault, Go, Open, Shut}
use Rattle.markup.specs.declared.Cursor.{Cursor}
use Rattle.std.specs.declared.option.Option.{Option}
use Rattle.std.specs.declared.option.Option.TheVariants.{Some, None}
use Rattle.grammar.specs.Grammar.{State, dead, live, left, moved, next, step_of, is_char}
use Rattle.markup.specs.Growth.{word_at, Within, grows}

-- the innermost first
unfoldable pub levels : List ℕ → ℕ → List ℕ
levels xs zero = []
levels xs (suc d) = get_or xs d 0 ∷ levels xs d

abbrev pub state_at : Bool → Place → ℕ → List ℕ → State
state_at true p t st = live p t st
state_at false p t st = dead

-- what is known of a cursor that may be none
abbrev pub is_live : Option Cursor → Bool
is_live None = false
is_live (Some c) = true

abbrev pub place_in : Option Cursor → Place
place_in None = Content
place_in (Some c) = c.place

abbrev pub top_in : Option Cursor → ℕ
top_in None = 0
top_in (Some c) = c.top

abbrev pub depth_in : Option Cursor → ℕ
depth_in None = 0
depth_in (Some c) = c.depth

abbrev pub state_of : List ℕ → Option Cursor → State
state_of xs o = state_at (is_live o) (place_in o) (top_in o) (levels xs (depth_in o))

keeps_levels : (xs : List ℕ) (i a d : ℕ) → d ≤ i → levels (set xs i a) d ≡ levels xs d
unfolding levels
keeps_levels xs i a zero h = refl
keeps_levels xs i a (suc d) h = rw (get_or-set_other xs i d a 0 (λ e. differ e), keeps_levels xs i a d (omega arith))
  where
    differ : d ≡ i → ⊥
    differ e = omega arith

-- pushed
pub pushed : (xs : List ℕ) (d a : ℕ) → d < length xs → levels (set xs d a) (d + 1) ≡ a ∷ levels xs d
unfolding levels
pushed xs d a h = rw (add-one d, get_or-set_same xs d a 0 h, keeps_levels xs d a d (omega arith))

-- left: the level around it
pub popped : (xs : List ℕ) (d : ℕ) → 0 < d → left (levels xs d) ≡ live Content (get_or xs (d - 1) 0) (levels xs (d - 1))
unfolding levels
popped xs zero h = absurd (omega arith)
popped xs (suc d) h = ap (λ (n : ℕ). live Content (get_or xs n 0) (levels xs n)) (sym (less d))
  where
    less : (d : ℕ) → suc d - 1 ≡ d
    less d = omega arith

-- what moving to a step's state leaves
pub record Landed (xs ys : List ℕ) (d : ℕ) (s : Step) (r : Option Cursor) : Type 0 where
  pub lands : state_of ys r ≡ moved (levels xs d) s
  pub long : length ys ≡ length xs
  pub deep : depth_in r ≤ d + 1
  pub word : (n : ℕ) → Within n s → word_at (place_in r) ≤ n

-- what one byte leaves
pub record Stepped (xs ys : List ℕ) (p : Place) (t d b : ℕ) (r : Option Cursor) : Type 0 where
  pub steps : state_of ys r ≡ next (live p t (levels xs d)) b
  pub long : length ys ≡ length xs
  pub deep : depth_in r ≤ d + 1
  pub word : word_at (place_in r) ≤ word_at p + 1

none_word : (n : ℕ) (s : Step) → Within n s → 0 ≤ n
none_word n s h = omega arith

module _ (xs : List ℕ) (d : ℕ) (s : Step) where
  pub lands_fault : s ≡ Fault → Landed xs xs d s None
  lands_fault e = record { lands = sym (rw e); long = refl; deep = omega arith; word = λ n h. none_word n s h }

  pub lands_go : (p : Place) (t : ℕ) → s ≡ Go p t → Landed xs xs d s (Some (record { place = p; top = t; depth = d }))
  lands_go p t e = record { lands = sym (rw e); long = refl; deep = omega arith; word = λ n h. rw e at h }

  pub lands_open : (u v : ℕ) → d < length xs → s ≡ Open u v → Landed xs (set xs d u) d s (Some (record { place = Content; top = v; depth = d + 1 }))
  lands_open u v h e = record { lands = ap (live Content v) (pushed xs d u h) ∙ sym (rw e); long = length-set xs d u; deep = omega arith; word = λ n h. none_word n s h }

  pub lands_none : d ≡ 0 → s ≡ Shut → Landed xs xs d s None
  unfolding levels
  lands_none z e = record { lands = sym (rw (z, e)); long = refl; deep = omega arith; word = λ n h. none_word n s h }

  pub lands_shut : 0 < d → s ≡ Shut → Landed xs xs d s (Some (record { place = Content; top = get_or xs (d - 1) 0; depth = d - 1 }))
  lands_shut z e = record { lands = sym (popped xs d z) ∙ sym (rw e); long = refl; deep = omega arith; word = λ n h. none_word n s h }

module _ (xs : List ℕ) (p : Place) (t d b : ℕ) where
  pub no_char : is_char b ≡ false → Stepped xs xs p t d b None
  unfolding next
  no_char f = record { steps = sym (rw f); long = refl; deep = omega arith; word = omega arith }

  pub by_step : (ys : List ℕ) (s : Step) (r : Option Cursor) → is_char b ≡ true → s ≡ step_of p t b → Landed xs ys d s r → Stepped xs ys p t d b r
  unfolding next
  by_step ys s r f e l =
      record { steps = l.lands ∙ ap (moved (levels xs d)) e ∙ sym (rw f); long = l.long; deep = l.deep; word = l.word (word_at p + 1) (rw e (grows p t b (word_at p + 1) (omega arith))) }

  pub by_advance : (ys : List ℕ) (s : Step) (r : Option Cursor) (plain : Bool) → plain ≡ is_char b → not plain ≡ false → s ≡ step_of p t b → Landed xs ys d s r → Stepped xs ys p t d b r
  by_advance ys s r plain f g e l = by_step ys s r (sym f ∙ not-false plain g) e l

pub not_zero : (d : ℕ) → (d ≡ 0 → ⊥) → 0 < d
not_zero d h = omega arith
