-- The tables of a content mean the content again: actions, rows and transitions.
use Rattle.std.specs.Prelude.{◌≡◌, Bool, true, false, cond, eqb, get_or}
use Rattle.std.proofs.Math.Path.{refl, ap₂}
use Rattle.std.proofs.Common.{sym, ap, ◌∙◌, subst}
use mathlib.Core.List.{List, [], ◌∷◌, ◌++◌, map}
use Rattle.std.proofs.Math.Option.{none, some}
use Prim.Native.Nat.{ℕ, suc, ◌≤◌, ◌<◌, ◌+◌, ◌*◌}
use native.Mathlib.Omega.{arith}
use Rattle.std.proofs.Math.ListN.{length, length-append}
use Rattle.definition.specs.Rows.{flat, from, is_empty}
use Rattle.definition.specs.Tables.{no_number, action_cell, action_base, name_at}
use Rattle.reading.specs.Content.{Act, raises, hosts, if_in, elseif_in, otherwise, end_if, sends, cancels, Row, place_of}
use Rattle.reading.specs.Layout.{act_cells, id_cell, row_acts, names_of, act_of, acts_at}
use Rattle.laws.specs.Lists.{flat_app, empty_list}
use Rattle.written.specs.Sound.{AllOf, no_more, more, Always}
use Rattle.written.specs.Held.{Holds, holds_left, holds_right, holds_at, held_cell}
use Rattle.written.specs.SlotNames.{Slotted, slotted_name, slotted_number}

-- the names of an action have slots
abbrev pub ActNamed : List (List ℕ) → Act → Type 0
ActNamed slots (raises v) = Slotted slots v
ActNamed slots (hosts k) = Always
ActNamed slots (if_in i) = Always
ActNamed slots (elseif_in i) = Always
ActNamed slots otherwise = Always
ActNamed slots end_if = Always
ActNamed slots (sends v d none) = Slotted slots v
ActNamed slots (sends v d (some w)) = (Slotted slots v) × (Slotted slots w)
ActNamed slots (cancels v) = Slotted slots v

pub record RowNamed (slots : List (List ℕ)) (r : Row) : Type 0 where
  pub id_named_lem : is_empty r.id ≡ false → Slotted slots r.id
  pub acts_named : AllOf (ActNamed slots) (row_acts r)

module _ (numbers : List ℕ) (slots : List (List ℕ)) (few : length slots ≤ 65535) where
  abbrev name : ℕ → List ℕ
  name k = name_at (names_of slots) k

  -- ---- actions

  abbrev look : ℕ → Act
  look a = act_of (name_at (names_of slots)) (action_cell numbers a 0) (action_cell numbers a 1) (action_cell numbers a 2) (action_cell numbers a 3)

  cell_of_lem : (a k : ℕ) (ys : List ℕ) → Holds numbers (action_base numbers + a * 4) ys → k < length ys → action_cell numbers a k ≡ get_or ys k 0
  unfolding action_cell
  cell_of_lem a k ys h l = held_cell h k l

  four_cells : (a w x y z : ℕ) → Holds numbers (action_base numbers + a * 4) (w ∷ x ∷ y ∷ z ∷ []) → look a ≡ act_of (name_at (names_of slots)) w x y z
  four_cells a w x y z h =
      ap (λ (c : ℕ). act_of (name_at (names_of slots)) c (action_cell numbers a 1) (action_cell numbers a 2) (action_cell numbers a 3)) (cell_of_lem a 0 cells h (omega arith)) ∙
      ap (λ (c : ℕ). act_of (name_at (names_of slots)) w c (action_cell numbers a 2) (action_cell numbers a 3)) (cell_of_lem a 1 cells h (omega arith)) ∙
      ap (λ (c : ℕ). act_of (name_at (names_of slots)) w x c (action_cell numbers a 3)) (cell_of_lem a 2 cells h (omega arith)) ∙
      ap (λ (c : ℕ). act_of (name_at (names_of slots)) w x y c) (cell_of_lem a 3 cells h (omega arith))
    where
      cells : List ℕ
      cells = w ∷ x ∷ y ∷ z ∷ []

  act_back : (a : ℕ) (x : Act) → Holds numbers (action_base numbers + a * 4) (act_cells slots x) → ActNamed slots x → look a ≡ x
  act_back a (raises v) h f = four_cells a 0 (place_of v slots) 0 0 h ∙ ap raises (slotted_name slots v f)
  act_back a (hosts k) h f = four_cells a 1 k 0 0 h
  act_back a (if_in i) h f = four_cells a 2 i 0 0 h
  act_back a (elseif_in i) h f = four_cells a 3 i 0 0 h
  act_back a otherwise h f = four_cells a 4 0 0 0 h
  act_back a end_if h f = four_cells a 5 0 0 0 h
  act_back a (sends v d none) h f = four_cells a 6 (place_of v slots) d no_number h ∙ ap (λ (w : List ℕ). sends w d none) (slotted_name slots v f)
  act_back a (sends v d (some w)) h (f, g) =
      four_cells a 6 (place_of v slots) d (place_of w slots) h ∙ ap₂ (λ (x : List ℕ) (z : Bool). sends x d (cond z none (some (name (place_of w slots))))) (slotted_name slots v f) (slotted_number slots w g few) ∙
      ap (λ (y : List ℕ). sends v d (some y)) (slotted_name slots w g)
  act_back a (cancels v) h f = four_cells a 7 (place_of v slots) 0 0 h ∙ ap cancels (slotted_name slots v f)

  cells_four : (x : Act) → length (act_cells slots x) ≡ 4
  cells_four (raises v) = refl
  cells_four (hosts k) = refl
  cells_four (if_in i) = refl
  cells_four (elseif_in i) = refl
  cells_four otherwise = refl
  cells_four end_if = refl
  cells_four (sends v d none) = refl
  cells_four (sends v d (some w)) = refl
  cells_four (cancels v) = refl

  flat_cells : (acts : List Act) → length (flat (act_cells slots) acts) ≡ length acts * 4
  unfolding flat
  flat_cells [] = refl
  flat_cells (x ∷ acts) =
      let one = cells_four x in
      let later = flat_cells acts in
      let both = length-append (act_cells slots x) (flat (act_cells slots) acts) in
      omega arith

  acts_from : (acts : List Act) (a : ℕ) → Holds numbers (action_base numbers + a * 4) (flat (act_cells slots) acts) → AllOf (ActNamed slots) acts → map look (from (length acts) a) ≡ acts
  unfolding flat from
  acts_from [] a h no_more = refl
  acts_from (x ∷ acts) a h (more f g) =
      ap₂ (λ (y : Act) (ys : List Act). y ∷ ys) (act_back a x (holds_left (act_cells slots x) (flat (act_cells slots) acts) h) f)
      (acts_from acts (suc a) (holds_at (action_base numbers + a * 4 + length (act_cells slots x)) (action_base numbers + suc a * 4) (let c = cells_four x in omega arith) (holds_right (act_cells slots x) (flat (act_cells slots) acts) h)) g)

  -- a block that the table of actions holds
  pub acts_back : (acts : List Act) (a : ℕ) → Holds numbers (action_base numbers + a * 4) (flat (act_cells slots) acts) → AllOf (ActNamed slots) acts → acts_at numbers (names_of slots) a (length acts) ≡ acts
  unfolding acts_at
  acts_back acts a h f = acts_from acts a h f

  -- the actions behind others
  pub acts_left : (xs ys : List Act) (a : ℕ) → Holds numbers (action_base numbers + a * 4) (flat (act_cells slots) (xs ++ ys)) → Holds numbers (action_base numbers + a * 4) (flat (act_cells slots) xs)
  acts_left xs ys a h = holds_left (flat (act_cells slots) xs) (flat (act_cells slots) ys) (subst (Holds numbers (action_base numbers + a * 4)) (flat_app (act_cells slots) xs ys) h)

  pub acts_right : (xs ys : List Act) (a : ℕ) → Holds numbers (action_base numbers + a * 4) (flat (act_cells slots) (xs ++ ys)) → Holds numbers (action_base numbers + (a + length xs) * 4) (flat (act_cells slots) ys)
  acts_right xs ys a h =
      holds_at (action_base numbers + a * 4 + length (flat (act_cells slots) xs)) (action_base numbers + (a + length xs) * 4) (let c = flat_cells xs in omega arith)
      (holds_right (flat (act_cells slots) xs) (flat (act_cells slots) ys) (subst (Holds numbers (action_base numbers + a * 4)) (flat_app (act_cells slots) xs ys) h))

  -- ---- rows

  pub id_back : (v : List ℕ) → (is_empty v ≡ false → Slotted slots v) → cond (eqb (id_cell slots v) no_number) [] (name (id_cell slots v)) ≡ v
  id_back v f = by (is_empty v) refl
    where
      by : (z : Bool) → is_empty v ≡ z → cond (eqb (cond z no_number (place_of v slots)) no_number) [] (name (cond z no_number (place_of v slots))) ≡ v
      by true e = sym (empty_list v e)
      by false e = ap (λ (z : Bool). cond z [] (name (place_of v slots))) (slotted_number slots v (f e) few) ∙ slotted_name slots v (f e)
