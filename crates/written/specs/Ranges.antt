-- The numbers of tables that are laid out from a content are in range, if those of the content are.
use Rattle.std.specs.Prelude.{◌≡◌, Bool, false, ◌&&◌, cond, eqb, get_or}
use Rattle.std.proofs.Math.Path.{refl, subst}
use Rattle.std.proofs.Common.{sym, ap, ap₂, ◌∙◌}
use Rattle.std.proofs.Math.Bool.{true}
use mathlib.Core.List.{List, [], ◌∷◌, ◌++◌}
use Rattle.std.proofs.Math.Option.{none, some}
use Prim.Native.Nat.{ℕ, zero, suc, ◌≤◌, ◌<◌, ◌+◌, ◌*◌}
use native.Mathlib.Omega.{arith}
use Rattle.std.proofs.Math.Dec.{leb, ltb}
use Rattle.std.proofs.Math.ListN.{length, length-append}
use borrow.Author.Tests.{lt-ltb, le-leb, eqb-true, eqb-false}
use Rattle.definition.specs.Rows.{flat}
use Rattle.definition.specs.Tables.{most_delay, no_number, row_count, transition_count, reference_count, descriptor_count, action_count, name_count, transition_base, reference_base, descriptor_base, action_base, row_cell, transition_cell, reference_cell, descriptor_cell, action_cell, action_of, action_at}
use Rattle.definition.specs.Rules.{inside, optional_below, block_fits, row_in_range, transition_in_range, reference_in_range, descriptor_in_range, arguments_fit, action_in_range}
use Rattle.reading.specs.Content.{Act, raises, hosts, if_in, elseif_in, otherwise, end_if, sends, cancels, Row, Transition, place_of}
use Rattle.reading.specs.Layout.{or_none, act_cells, id_cell, row_acts, row_cells, transition_cells, row_list, target_list, descriptor_list, transition_acts}
use Rattle.laws.specs.Bools.{and_true, or_right, bool_case}
use Rattle.written.specs.Sound.{AllOf, no_more, more, Always}
use Rattle.written.specs.Held.{Holds, holds_left, holds_right, holds_at, held_cell}

all_seven : (a b c d e f g : Bool) → a ≡ true → b ≡ true → c ≡ true → d ≡ true → e ≡ true → f ≡ true → g ≡ true → (a && b && c && d && e && f && g) ≡ true
all_seven a b c d e f g p q r s t u v = rw (p, q, r, s, t, u, v)

all_six : (a b c d e f : Bool) → a ≡ true → b ≡ true → c ≡ true → d ≡ true → e ≡ true → f ≡ true → (a && b && c && d && e && f) ≡ true
all_six a b c d e f p q r s t u = rw (p, q, r, s, t, u)

all_three : (a b c : Bool) → a ≡ true → b ≡ true → c ≡ true → (a && b && c) ≡ true
all_three a b c p q r = rw (p, q, r)

module _ (numbers : List ℕ) (slots : List (List ℕ)) where
  -- ---- references and descriptors

  pub record Below (n x : ℕ) : Type 0 where
    pub below : x < n

  at_below : (n : ℕ) (xs : List ℕ) → AllOf (Below n) xs → (k : ℕ) → k < length xs → get_or xs k 0 < n
  at_below n [] no_more k l = absurd (let z : k < 0 = l in omega arith)
  at_below n (x ∷ xs) (more f g) zero l = f.below
  at_below n (x ∷ xs) (more f g) (suc k) l = at_below n xs g k (let z : suc k < suc (length xs) = l in omega arith)

  pub references_in : (refs : List ℕ) → Holds numbers (reference_base numbers) refs → AllOf (Below (row_count numbers)) refs → (k : ℕ) → k < length refs → reference_in_range numbers k ≡ true
  unfolding reference_in_range reference_cell
  references_in refs h f k l = lt-ltb _ _ (subst (λ (x : ℕ). x < row_count numbers) (sym (held_cell h k l)) (at_below (row_count numbers) refs f k l))

  pub descriptors_in : (places : List ℕ) → Holds numbers (descriptor_base numbers) places → AllOf (Below (name_count numbers)) places → (k : ℕ) → k < length places → descriptor_in_range numbers k ≡ true
  unfolding descriptor_in_range descriptor_cell
  descriptors_in places h f k l = lt-ltb _ _ (subst (λ (x : ℕ). x < name_count numbers) (sym (held_cell h k l)) (at_below (name_count numbers) places f k l))

  -- ---- actions

  abbrev pub ActOK : Act → Type 0
  ActOK (raises v) = place_of v slots < name_count numbers
  ActOK (hosts k) = k ≤ 65535
  ActOK (if_in i) = i < row_count numbers
  ActOK (elseif_in i) = i < row_count numbers
  ActOK otherwise = Always
  ActOK end_if = Always
  ActOK (sends v d none) = (place_of v slots < name_count numbers) × (d ≤ most_delay)
  ActOK (sends v d (some w)) = (place_of v slots < name_count numbers) × (d ≤ most_delay) × (place_of w slots < name_count numbers)
  ActOK (cancels v) = place_of v slots < name_count numbers

  cell_of_lem : (a k : ℕ) (ys : List ℕ) → Holds numbers (action_base numbers + a * 4) ys → k < length ys → action_cell numbers a k ≡ get_or ys k 0
  unfolding action_cell
  cell_of_lem a k ys h l = held_cell h k l

  four_in : (a w x y z : ℕ) → Holds numbers (action_base numbers + a * 4) (w ∷ x ∷ y ∷ z ∷ []) → leb w 7 ≡ true → arguments_fit numbers (action_of w x y z) x y z ≡ true → action_in_range numbers a ≡ true
  unfolding action_in_range action_at
  four_in a w x y z h l f =
      rw (cell_of_lem a 0 cells h (omega arith), cell_of_lem a 1 cells h (omega arith), cell_of_lem a 2 cells h (omega arith), cell_of_lem a 3 cells h (omega arith), l, f) refl
    where
      cells : List ℕ
      cells = w ∷ x ∷ y ∷ z ∷ []

  act_in_lem : (a : ℕ) (x : Act) → Holds numbers (action_base numbers + a * 4) (act_cells slots x) → ActOK x → action_in_range numbers a ≡ true
  unfolding arguments_fit
  act_in_lem a (raises v) h f = four_in a 0 (place_of v slots) 0 0 h refl (all_three (ltb (place_of v slots) (name_count numbers)) true true (lt-ltb (place_of v slots) (name_count numbers) f) refl refl)
  act_in_lem a (hosts k) h f = four_in a 1 k 0 0 h refl (all_three (leb k 65535) true true (le-leb k 65535 f) refl refl)
  act_in_lem a (if_in i) h f = four_in a 2 i 0 0 h refl (all_three (ltb i (row_count numbers)) true true (lt-ltb i (row_count numbers) f) refl refl)
  act_in_lem a (elseif_in i) h f = four_in a 3 i 0 0 h refl (all_three (ltb i (row_count numbers)) true true (lt-ltb i (row_count numbers) f) refl refl)
  act_in_lem a otherwise h f = four_in a 4 0 0 0 h refl refl
  act_in_lem a end_if h f = four_in a 5 0 0 0 h refl refl
  act_in_lem a (sends v d none) h (f, g) =
      four_in a 6 (place_of v slots) d no_number h refl
      (all_three (ltb (place_of v slots) (name_count numbers)) (leb d most_delay) true (lt-ltb (place_of v slots) (name_count numbers) f) (le-leb d most_delay g) refl)
  act_in_lem a (sends v d (some w)) h (f, g, i) =
      four_in a 6 (place_of v slots) d (place_of w slots) h refl
      (all_three (ltb (place_of v slots) (name_count numbers)) (leb d most_delay) (optional_below (name_count numbers) (place_of w slots)) (lt-ltb (place_of v slots) (name_count numbers) f) (le-leb d most_delay g)
      (or_right (eqb (place_of w slots) no_number) (ltb (place_of w slots) (name_count numbers)) (lt-ltb (place_of w slots) (name_count numbers) i)))
  act_in_lem a (cancels v) h f = four_in a 7 (place_of v slots) 0 0 h refl (all_three (ltb (place_of v slots) (name_count numbers)) true true (lt-ltb (place_of v slots) (name_count numbers) f) refl refl)

  cells_four : (x : Act) → length (act_cells slots x) ≡ 4
  cells_four (raises v) = refl
  cells_four (hosts k) = refl
  cells_four (if_in i) = refl
  cells_four (elseif_in i) = refl
  cells_four otherwise = refl
  cells_four end_if = refl
  cells_four (sends v d none) = refl
  cells_four (sends v d (some w)) = refl
  cells_four (cancels v) = refl

  pub actions_in : (acts : List Act) (a : ℕ) → Holds numbers (action_base numbers + a * 4) (flat (act_cells slots) acts) → AllOf ActOK acts → (j : ℕ) → a ≤ j → j < a + length acts → action_in_range numbers j ≡ true
  unfolding flat
  actions_in [] a h no_more j l m = absurd (let z : j < a + 0 = m in omega arith)
  actions_in (x ∷ acts) a h (more f g) j l m =
      bool_case (eqb a j) (λ e. subst (λ (k : ℕ). action_in_range numbers k ≡ true) (eqb-true a j e) (act_in_lem a x (holds_left (act_cells slots x) (flat (act_cells slots) acts) h) f))
      (λ e. let d = eqb-false a j e in
      actions_in acts (suc a) (holds_at (action_base numbers + a * 4 + length (act_cells slots x)) (action_base numbers + suc a * 4) (let c = cells_four x in omega arith) (holds_right (act_cells slots x) (flat (act_cells slots) acts) h)) g j
      (further l d) (let z : j < a + suc (length acts) = m in omega arith))
    where
      further : {p q : ℕ} → p ≤ q → (p ≡ q → ⊥) → suc p ≤ q
      further l d = omega arith

  -- ---- rows

  pub record RowOK (r : Row) : Type 0 where
    pub kinds : r.kind ≤ 5
    pub parents : optional_below (row_count numbers) r.parent ≡ true
    pub ids : optional_below (name_count numbers) (id_cell slots r.id) ≡ true
    pub entries : length r.entry ≤ 32
    pub exits : length r.exit ≤ 32
    pub blocks : length r.block ≤ 32

  row_cell_lem : (i k : ℕ) (ys : List ℕ) → i < row_count numbers → Holds numbers (6 + i * 11) ys → k < length ys → row_cell numbers i k ≡ get_or ys k 0
  unfolding row_cell
  row_cell_lem i k ys l h b = rw (lt-ltb i (row_count numbers) l) (held_cell h k b)

  block_ok : (start count : ℕ) → start + count ≤ action_count numbers → count ≤ 32 → block_fits numbers start count ≡ true
  unfolding block_fits
  block_ok start count l m = and_true (inside (action_count numbers) start count) (leb count 32) (le-leb (start + count) (action_count numbers) l) (le-leb count 32 m)

  module _ (i f a : ℕ) (r : Row) (l : i < row_count numbers) (ok : RowOK r) where
    abbrev cells : List ℕ
    cells = r.kind ∷ r.parent ∷ id_cell slots r.id ∷ a ∷ length r.entry ∷ (a + length r.entry) ∷ length r.exit ∷ f ∷ length r.list ∷ (a + length r.entry + length r.exit) ∷ length r.block ∷ []

    row_in_lem : Holds numbers (6 + i * 11) cells → f + length r.list ≤ reference_count numbers → a + length r.entry + length r.exit + length r.block ≤ action_count numbers → row_in_range numbers i ≡ true
    unfolding row_in_range
    row_in_lem h g k =
        all_seven (leb (row_cell numbers i 0) 5) (optional_below (row_count numbers) (row_cell numbers i 1)) (optional_below (name_count numbers) (row_cell numbers i 2)) (block_fits numbers (row_cell numbers i 3) (row_cell numbers i 4))
        (block_fits numbers (row_cell numbers i 5) (row_cell numbers i 6)) (inside (reference_count numbers) (row_cell numbers i 7) (row_cell numbers i 8)) (block_fits numbers (row_cell numbers i 9) (row_cell numbers i 10))
        (ap (λ (x : ℕ). leb x 5) (row_cell_lem i 0 cells l h (omega arith)) ∙ le-leb r.kind 5 ok.kinds) (ap (optional_below (row_count numbers)) (row_cell_lem i 1 cells l h (omega arith)) ∙ ok.parents)
        (ap (optional_below (name_count numbers)) (row_cell_lem i 2 cells l h (omega arith)) ∙ ok.ids)
        (ap₂ (block_fits numbers) (row_cell_lem i 3 cells l h (omega arith)) (row_cell_lem i 4 cells l h (omega arith)) ∙ block_ok a (length r.entry) (omega arith) ok.entries)
        (ap₂ (block_fits numbers) (row_cell_lem i 5 cells l h (omega arith)) (row_cell_lem i 6 cells l h (omega arith)) ∙ block_ok (a + length r.entry) (length r.exit) (omega arith) ok.exits)
        (ap₂ (inside (reference_count numbers)) (row_cell_lem i 7 cells l h (omega arith)) (row_cell_lem i 8 cells l h (omega arith)) ∙ le-leb (f + length r.list) (reference_count numbers) g)
        (ap₂ (block_fits numbers) (row_cell_lem i 9 cells l h (omega arith)) (row_cell_lem i 10 cells l h (omega arith)) ∙ block_ok (a + length r.entry + length r.exit) (length r.block) k ok.blocks)

  pub rows_in : (rs : List Row) (i f a : ℕ) → i + length rs ≤ row_count numbers → Holds numbers (6 + i * 11) (row_cells slots f a rs) → f + length (flat row_list rs) ≤ reference_count numbers →
      a + length (flat row_acts rs) ≤ action_count numbers → AllOf RowOK rs → (j : ℕ) → i ≤ j → j < i + length rs → row_in_range numbers j ≡ true
  unfolding row_cells flat
  rows_in [] i f a l h g k no_more j b m = absurd (let z : j < i + 0 = m in omega arith)
  rows_in (r ∷ rs) i f a l h g k (more ok oks) j b m =
      bool_case (eqb i j)
      (λ e. subst (λ (x : ℕ). row_in_range numbers x ≡ true) (eqb-true i j e) (row_in_lem i f a r (omega arith) ok (holds_left (cells i f a r low ok) later h) (let p = length-append r.list (flat row_list rs) in omega arith) (let p = sizes in omega arith)))
      (λ e. let d = eqb-false i j e in
      rows_in rs (suc i) (f + length r.list) end (omega arith) (holds_at (6 + i * 11 + 11) (6 + suc i * 11) (omega arith) (holds_right (cells i f a r low ok) later h)) (let p = length-append r.list (flat row_list rs) in omega arith)
      (let p = sizes in omega arith) oks j (further b d) (let z : j < i + suc (length rs) = m in omega arith))
    where
      low : i < row_count numbers
      low = omega arith

      end : ℕ
      end = a + length r.entry + length r.exit + length r.block

      later : List ℕ
      later = row_cells slots (f + length r.list) end rs

      sizes : length (row_acts r ++ flat row_acts rs) ≡ length r.entry + length r.exit + length r.block + length (flat row_acts rs)
      sizes =
          let p = length-append (row_acts r) (flat row_acts rs) in
          let q = length-append (r.entry ++ r.exit) r.block in
          let s = length-append r.entry r.exit in
          omega arith

      further : {p q : ℕ} → p ≤ q → (p ≡ q → ⊥) → suc p ≤ q
      further l d = omega arith

  -- ---- transitions

  pub record TransitionOK (t : Transition) : Type 0 where
    pub sources : t.source < row_count numbers
    pub events : length t.descriptors ≤ 4
    pub conditions : optional_below (row_count numbers) (or_none t.condition) ≡ true
    pub goals : length t.targets ≤ 8
    pub blocks : length t.block ≤ 32

  transition_cell_lem : (i k : ℕ) (ys : List ℕ) → i < transition_count numbers → Holds numbers (transition_base numbers + i * 9) ys → k < length ys → transition_cell numbers i k ≡ get_or ys k 0
  unfolding transition_cell
  transition_cell_lem i k ys l h b = rw (lt-ltb i (transition_count numbers) l) (held_cell h k b)

  one_or_none : (y : Bool) → leb (cond y 1 0) 1 ≡ true
  one_or_none true = refl
  one_or_none false = refl

  module _ (i f d a : ℕ) (t : Transition) (l : i < transition_count numbers) (ok : TransitionOK t) where
    abbrev parts : List ℕ
    parts = t.source ∷ d ∷ length t.descriptors ∷ or_none t.condition ∷ cond t.internal 1 0 ∷ f ∷ length t.targets ∷ a ∷ length t.block ∷ []

    transition_in_lem : Holds numbers (transition_base numbers + i * 9) parts → f + length t.targets ≤ reference_count numbers → d + length t.descriptors ≤ descriptor_count numbers → a + length t.block ≤ action_count numbers →
        transition_in_range numbers i ≡ true
    unfolding transition_in_range
    transition_in_lem h g e k =
        all_six (ltb (transition_cell numbers i 0) (row_count numbers)) (inside (descriptor_count numbers) (transition_cell numbers i 1) (transition_cell numbers i 2) && leb (transition_cell numbers i 2) 4)
        (optional_below (row_count numbers) (transition_cell numbers i 3)) (leb (transition_cell numbers i 4) 1) (inside (reference_count numbers) (transition_cell numbers i 5) (transition_cell numbers i 6) && leb (transition_cell numbers i 6) 8)
        (block_fits numbers (transition_cell numbers i 7) (transition_cell numbers i 8))
        (ap (λ (x : ℕ). ltb x (row_count numbers)) (transition_cell_lem i 0 parts l h (omega arith)) ∙ lt-ltb t.source (row_count numbers) ok.sources)
        (ap₂ (λ (x y : ℕ). inside (descriptor_count numbers) x y && leb y 4) (transition_cell_lem i 1 parts l h (omega arith)) (transition_cell_lem i 2 parts l h (omega arith)) ∙
        and_true (inside (descriptor_count numbers) d (length t.descriptors)) (leb (length t.descriptors) 4) (le-leb (d + length t.descriptors) (descriptor_count numbers) e) (le-leb (length t.descriptors) 4 ok.events))
        (ap (optional_below (row_count numbers)) (transition_cell_lem i 3 parts l h (omega arith)) ∙ ok.conditions) (ap (λ (x : ℕ). leb x 1) (transition_cell_lem i 4 parts l h (omega arith)) ∙ one_or_none t.internal)
        (ap₂ (λ (x y : ℕ). inside (reference_count numbers) x y && leb y 8) (transition_cell_lem i 5 parts l h (omega arith)) (transition_cell_lem i 6 parts l h (omega arith)) ∙
        and_true (inside (reference_count numbers) f (length t.targets)) (leb (length t.targets) 8) (le-leb (f + length t.targets) (reference_count numbers) g) (le-leb (length t.targets) 8 ok.goals))
        (ap₂ (block_fits numbers) (transition_cell_lem i 7 parts l h (omega arith)) (transition_cell_lem i 8 parts l h (omega arith)) ∙ block_ok a (length t.block) k ok.blocks)

  pub transitions_in : (ts : List Transition) (i f d a : ℕ) → i + length ts ≤ transition_count numbers → Holds numbers (transition_base numbers + i * 9) (transition_cells slots f d a ts) → f + length (flat target_list ts) ≤ reference_count numbers →
      d + length (flat descriptor_list ts) ≤ descriptor_count numbers → a + length (flat transition_acts ts) ≤ action_count numbers → AllOf TransitionOK ts → (j : ℕ) → i ≤ j → j < i + length ts → transition_in_range numbers j ≡ true
  unfolding transition_cells flat
  transitions_in [] i f d a l h g e k no_more j b m = absurd (let z : j < i + 0 = m in omega arith)
  transitions_in (t ∷ ts) i f d a l h g e k (more ok oks) j b m =
      bool_case (eqb i j)
      (λ q. subst (λ (x : ℕ). transition_in_range numbers x ≡ true) (eqb-true i j q) (transition_in_lem i f d a t low ok (holds_left (parts i f d a t low ok) later h) (let p = goals in omega arith) (let p = events in omega arith) (let p = acts in omega arith)))
      (λ q. let w = eqb-false i j q in
      transitions_in ts (suc i) (f + length t.targets) (d + length t.descriptors) (a + length t.block) (omega arith)
      (holds_at (transition_base numbers + i * 9 + 9) (transition_base numbers + suc i * 9) (omega arith) (holds_right (parts i f d a t low ok) later h)) (let p = goals in omega arith) (let p = events in omega arith) (let p = acts in omega arith) oks j
      (further b w) (let z : j < i + suc (length ts) = m in omega arith))
    where
      low : i < transition_count numbers
      low = omega arith

      later : List ℕ
      later = transition_cells slots (f + length t.targets) (d + length t.descriptors) (a + length t.block) ts

      goals : length (t.targets ++ flat target_list ts) ≡ length t.targets + length (flat target_list ts)
      goals = length-append t.targets (flat target_list ts)

      events : length (t.descriptors ++ flat descriptor_list ts) ≡ length t.descriptors + length (flat descriptor_list ts)
      events = length-append t.descriptors (flat descriptor_list ts)

      acts : length (t.block ++ flat transition_acts ts) ≡ length t.block + length (flat transition_acts ts)
      acts = length-append t.block (flat transition_acts ts)

      further : {p q : ℕ} → p ≤ q → (p ≡ q → ⊥) → suc p ≤ q
      further l d = omega arith
