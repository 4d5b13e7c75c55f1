-- The cells of a row and of a transition that only its tag knows.
use Rattle.std.specs.Prelude.{◌≡◌, Bool, true, false, not, ◌&&◌, cond, ℕ, ◌-◌, ◌≤◌, ◌<◌, eqb, length, drop}
use Rattle.std.proofs.Math.Path.{refl}
use Rattle.std.proofs.Common.{sym, ap, ◌∙◌, arith, length-drop, length-take-le, eqb-true}
use mathlib.Core.List.{List, [], ◌∷◌}
use Rattle.std.proofs.lemmas.Bool.{not-true, not-false}
use Rattle.definition.specs.Rows.{same, is_empty}
use Rattle.reading.specs.Faults.{plain, deep, internal}
use Rattle.reading.specs.Content.{place_of, row_in}
use Rattle.reading.specs.Layout.{id_cell}
use Rattle.tags.specs.Cells.{stated_in, from_in, to_in}
use Rattle.attribute.specs.declared.Default.{Default}
use Rattle.attribute.specs.declared.Default.TheVariants.{External, Shallow}
use Rattle.attribute.specs.Values.{defaults_text, default_part, default_of, default_is, value_in}
use Rattle.values.specs.Ids.{ids_from}
use Rattle.walks.specs.Told.{value_at, PlaceRoom}

-- ---- the type

-- what a type is that is not its default
abbrev pub other_of : Default → List ℕ
other_of External = internal
other_of Shallow = deep

module _ (text cells : List ℕ) (d : Default) (v : List ℕ) (told : v ≡ value_in text cells 28 (default_part defaults_text d)) where
  type_is : v ≡ value_in text cells 28 (default_of d)
  type_is = told ∙ ap (λ (x : List ℕ). value_in text cells 28 x) (default_is d)

  other_is : (o : List ℕ) (r : Bool) → o ≡ other_of d → r ≡ same (plain v) o → r ≡ same (plain (value_in text cells 28 (default_of d))) (other_of d)
  other_is o r e q = q ∙ ap (λ (x : List ℕ). same (plain x) o) type_is ∙ ap (same (plain (value_in text cells 28 (default_of d)))) e

  pub other_internal : (r : Bool) → d ≡ External → r ≡ same (plain v) internal → r ≡ same (plain (value_in text cells 28 (default_of d))) (other_of d)
  other_internal r e q = other_is internal r (ap other_of (sym e)) q

  pub other_deep : (r : Bool) → d ≡ Shallow → r ≡ same (plain v) deep → r ≡ same (plain (value_in text cells 28 (default_of d))) (other_of d)
  other_deep r e q = other_is deep r (ap other_of (sym e)) q

-- ---- the kind

pub kind_own : (v : List ℕ) (e r : ℕ) → not (eqb e 4) ≡ true → r ≡ e → r ≡ cond (eqb e 4 && same (plain v) deep) 5 e
kind_own v e r q p = p ∙ ap (λ (y : Bool). cond (y && same (plain v) deep) 5 e) (sym (not-true (eqb e 4) q))

module _ (v : List ℕ) (e : ℕ) (history : not (eqb e 4) ≡ false) (z : Bool) (is : z ≡ same (plain v) deep) where
  kind_is : cond z 5 e ≡ cond (eqb e 4 && same (plain v) deep) 5 e
  kind_is = ap (λ (y : Bool). cond y 5 e) is ∙ ap (λ (y : Bool). cond (y && same (plain v) deep) 5 e) (sym (not-false (eqb e 4) history))

  pub kind_deep : z ≡ true → 5 ≡ cond (eqb e 4 && same (plain v) deep) 5 e
  kind_deep q = ap (λ (y : Bool). cond y 5 e) (sym q) ∙ kind_is

  pub kind_shallow : z ≡ false → 4 ≡ cond (eqb e 4 && same (plain v) deep) 5 e
  kind_shallow q = sym (eqb-true e 4 (not-false (eqb e 4) history)) ∙ ap (λ (y : Bool). cond y 5 e) (sym q) ∙ kind_is

-- ---- the id

module _ (text cells slots : List ℕ) (n : ℕ) (h : PlaceRoom text cells slots n 26) (from to : ℕ) (a : from ≡ from_in cells 26) (b : to ≡ to_in cells 26) where
  long : length (value_at text cells 26) ≡ to_in cells 26 - from_in cells 26
  long =
      let i = h.word.inside in
      let d : length (drop (from_in cells 26) text) ≡ length text - from_in cells 26 = length-drop (from_in cells 26) text in
      length-take-le (to_in cells 26 - from_in cells 26) (drop (from_in cells 26) text) (omega arith)

  none_empty : (v : List ℕ) → length v ≡ 0 → is_empty v ≡ true
  unfolding is_empty
  none_empty [] q = refl
  none_empty (x ∷ xs) q = absurd (omega arith)

  some_empty : (v : List ℕ) → 0 < length v → is_empty v ≡ false
  unfolding is_empty
  some_empty [] q = absurd (omega arith)
  some_empty (x ∷ xs) q = refl

  pub id_none : to ≤ from → 65535 ≡ id_cell (ids_from text slots n 0) (value_at text cells 26)
  id_none q =
      let l = long in
      ap (λ (y : Bool). cond y 65535 (place_of (value_at text cells 26) (ids_from text slots n 0))) (sym (none_empty (value_at text cells 26) (omega arith)))

  pub id_some : (r : ℕ) → from < to → r ≡ place_of (value_at text cells 26) (ids_from text slots n 0) → r ≡ id_cell (ids_from text slots n 0) (value_at text cells 26)
  id_some r q p =
      let l = long in
      p ∙ ap (λ (y : Bool). cond y 65535 (place_of (value_at text cells 26) (ids_from text slots n 0))) (sym (some_empty (value_at text cells 26) (omega arith)))

-- ---- the condition

module _ (text cells ids : List ℕ) (n : ℕ) (stated : Bool) (is : stated ≡ stated_in cells 30) where
  pub condition_none : not stated ≡ true → 65535 ≡ cond (stated_in cells 30) (row_in (ids_from text ids n 0) (value_at text cells 30)) 65535
  condition_none q = ap (λ (z : Bool). cond z (row_in (ids_from text ids n 0) (value_at text cells 30)) 65535) (sym (sym is ∙ not-true stated q))

  pub condition_some : (r : ℕ) → not stated ≡ false → r ≡ row_in (ids_from text ids n 0) (value_at text cells 30) →
      r ≡ cond (stated_in cells 30) (row_in (ids_from text ids n 0) (value_at text cells 30)) 65535
  condition_some r q p = p ∙ ap (λ (z : Bool). cond z (row_in (ids_from text ids n 0) (value_at text cells 30)) 65535) (sym (sym is ∙ not-false stated q))

-- ---- internal

module _ (v : List ℕ) (z : Bool) (is : z ≡ same (plain v) internal) where
  pub internal_so : z ≡ true → ◌≡◌ {A = ℕ} 1 (cond (same (plain v) internal) 1 0)
  internal_so q = ap (λ (y : Bool). cond {A = ℕ} y 1 0) (sym q ∙ is)

  pub external_so : z ≡ false → ◌≡◌ {A = ℕ} 0 (cond (same (plain v) internal) 1 0)
  external_so q = ap (λ (y : Bool). cond {A = ℕ} y 1 0) (sym q ∙ is)
