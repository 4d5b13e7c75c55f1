-- The tables of a content mean the content again.
use Rattle.std.specs.Prelude.{◌≡◌, Bool, true, false, eqb, get_or, drop}
use Rattle.std.proofs.Math.Path.{refl, ap, ap₂}
use Rattle.std.proofs.Common.{sym, ◌∙◌, subst, arith, ne_eqb, lt-ltb}
use Rattle.std.proofs.Math.Bool.{cond}
use mathlib.Core.List.{List, [], ◌∷◌, ◌++◌, map}
use Rattle.std.proofs.Math.Option.{Option, none, some}
use Prim.Native.Nat.{ℕ, suc, ◌≤◌, ◌<◌, ◌+◌, ◌*◌}
use Rattle.std.proofs.Math.ListN.{length, take}
use Rattle.definition.specs.Rows.{flat, from}
use Rattle.definition.specs.Tables.{no_number, transition_count, transition_cell, transition_base, reference_base, descriptor_base, action_base, part, references_at, descriptors_at, optional, name_at}
use Rattle.reading.specs.Content.{Act, Transition, place_of}
use Rattle.reading.specs.Layout.{or_none, act_cells, transition_cells, target_list, descriptor_list, transition_acts, names_of, acts_at, transition_back}
use Rattle.written.specs.Sound.{AllOf, no_more, more, Always}
use Rattle.written.specs.Held.{Holds, holds_left, holds_right, holds_at, held_cell, held_part}
use Rattle.written.specs.SlotNames.{Slotted, slotted_name}
use Rattle.written.specs.TablesBack.{ActNamed, acts_back, acts_left, acts_right}
use Rattle.written.specs.TableCells.{list_held}

-- the names of a transition have slots; its condition is a row
abbrev pub RowOrNone : Option ℕ → Type 0
RowOrNone none = Always
RowOrNone (some i) = i < 65535

pub record TransitionNamed (slots : List (List ℕ)) (t : Transition) : Type 0 where
  pub events_named : AllOf (Slotted slots) t.descriptors
  pub condition_low : RowOrNone t.condition
  pub acts_named : AllOf (ActNamed slots) t.block

module _ (numbers : List ℕ) (slots : List (List ℕ)) (few : length slots ≤ 65535) where
  abbrev names : List ℕ
  names = names_of slots

  abbrev place : List ℕ → ℕ
  place v = place_of v slots

  transition_cell_lem : (i k : ℕ) (ys : List ℕ) → i < transition_count numbers → Holds numbers (transition_base numbers + i * 9) ys → k < length ys → transition_cell numbers i k ≡ get_or ys k 0
  unfolding transition_cell
  transition_cell_lem i k ys l h b = rw (lt-ltb i (transition_count numbers) l) (held_cell h k b)

  abbrev transition_with : ℕ → ℕ → ℕ → ℕ → ℕ → ℕ → ℕ → ℕ → ℕ → Transition
  transition_with x0 x1 x2 x3 x4 x5 x6 x7 x8 =
      record {
        source = x0;
        descriptors = map (name_at names) (descriptors_at numbers x1 x2);
        condition = optional x3;
        internal = eqb x4 1;
        targets = references_at numbers x5 x6;
        block = acts_at numbers names x7 x8;
      }

  transition_with_lem : (i : ℕ) → transition_back numbers names i ≡ transition_with (transition_cell numbers i 0) (transition_cell numbers i 1) (transition_cell numbers i 2) (transition_cell numbers i 3) (transition_cell numbers i 4) (transition_cell numbers i 5) (transition_cell numbers i 6) (transition_cell numbers i 7) (transition_cell numbers i 8)
  unfolding transition_back
  transition_with_lem i = refl

  module _ (i y0 y1 y2 y3 y4 y5 y6 y7 y8 : ℕ) (l : i < transition_count numbers) (h : Holds numbers (transition_base numbers + i * 9) (y0 ∷ y1 ∷ y2 ∷ y3 ∷ y4 ∷ y5 ∷ y6 ∷ y7 ∷ y8 ∷ [])) where
    transition_held : transition_back numbers names i ≡ transition_with y0 y1 y2 y3 y4 y5 y6 y7 y8
    transition_held =
        transition_with_lem i ∙
        ap (λ (c : ℕ). transition_with c (transition_cell numbers i 1) (transition_cell numbers i 2) (transition_cell numbers i 3) (transition_cell numbers i 4) (transition_cell numbers i 5) (transition_cell numbers i 6) (transition_cell numbers i 7) (transition_cell numbers i 8)) (transition_cell_lem i 0 (y0 ∷ y1 ∷ y2 ∷ y3 ∷ y4 ∷ y5 ∷ y6 ∷ y7 ∷ y8 ∷ []) l h (omega arith)) ∙
        ap (λ (c : ℕ). transition_with y0 c (transition_cell numbers i 2) (transition_cell numbers i 3) (transition_cell numbers i 4) (transition_cell numbers i 5) (transition_cell numbers i 6) (transition_cell numbers i 7) (transition_cell numbers i 8)) (transition_cell_lem i 1 (y0 ∷ y1 ∷ y2 ∷ y3 ∷ y4 ∷ y5 ∷ y6 ∷ y7 ∷ y8 ∷ []) l h (omega arith)) ∙
        ap (λ (c : ℕ). transition_with y0 y1 c (transition_cell numbers i 3) (transition_cell numbers i 4) (transition_cell numbers i 5) (transition_cell numbers i 6) (transition_cell numbers i 7) (transition_cell numbers i 8)) (transition_cell_lem i 2 (y0 ∷ y1 ∷ y2 ∷ y3 ∷ y4 ∷ y5 ∷ y6 ∷ y7 ∷ y8 ∷ []) l h (omega arith)) ∙
        ap (λ (c : ℕ). transition_with y0 y1 y2 c (transition_cell numbers i 4) (transition_cell numbers i 5) (transition_cell numbers i 6) (transition_cell numbers i 7) (transition_cell numbers i 8)) (transition_cell_lem i 3 (y0 ∷ y1 ∷ y2 ∷ y3 ∷ y4 ∷ y5 ∷ y6 ∷ y7 ∷ y8 ∷ []) l h (omega arith)) ∙
        ap (λ (c : ℕ). transition_with y0 y1 y2 y3 c (transition_cell numbers i 5) (transition_cell numbers i 6) (transition_cell numbers i 7) (transition_cell numbers i 8)) (transition_cell_lem i 4 (y0 ∷ y1 ∷ y2 ∷ y3 ∷ y4 ∷ y5 ∷ y6 ∷ y7 ∷ y8 ∷ []) l h (omega arith)) ∙
        ap (λ (c : ℕ). transition_with y0 y1 y2 y3 y4 c (transition_cell numbers i 6) (transition_cell numbers i 7) (transition_cell numbers i 8)) (transition_cell_lem i 5 (y0 ∷ y1 ∷ y2 ∷ y3 ∷ y4 ∷ y5 ∷ y6 ∷ y7 ∷ y8 ∷ []) l h (omega arith)) ∙
        ap (λ (c : ℕ). transition_with y0 y1 y2 y3 y4 y5 c (transition_cell numbers i 7) (transition_cell numbers i 8)) (transition_cell_lem i 6 (y0 ∷ y1 ∷ y2 ∷ y3 ∷ y4 ∷ y5 ∷ y6 ∷ y7 ∷ y8 ∷ []) l h (omega arith)) ∙
        ap (λ (c : ℕ). transition_with y0 y1 y2 y3 y4 y5 y6 c (transition_cell numbers i 8)) (transition_cell_lem i 7 (y0 ∷ y1 ∷ y2 ∷ y3 ∷ y4 ∷ y5 ∷ y6 ∷ y7 ∷ y8 ∷ []) l h (omega arith)) ∙
        ap (λ (c : ℕ). transition_with y0 y1 y2 y3 y4 y5 y6 y7 c) (transition_cell_lem i 8 (y0 ∷ y1 ∷ y2 ∷ y3 ∷ y4 ∷ y5 ∷ y6 ∷ y7 ∷ y8 ∷ []) l h (omega arith))

  map_long : (vs : List (List ℕ)) → length (map place vs) ≡ length vs
  map_long [] = refl
  map_long (v ∷ vs) = ap suc (map_long vs)

  named_again : (vs : List (List ℕ)) → AllOf (Slotted slots) vs → map (name_at names) (map place vs) ≡ vs
  named_again [] no_more = refl
  named_again (v ∷ vs) (more f g) = ap₂ (λ (x : List ℕ) (xs : List (List ℕ)). x ∷ xs) (slotted_name slots v f) (named_again vs g)

  events_held : (d : ℕ) (vs : List (List ℕ)) → Holds numbers (descriptor_base numbers + d) (map place vs) → AllOf (Slotted slots) vs → map (name_at names) (descriptors_at numbers d (length vs)) ≡ vs
  unfolding descriptors_at part
  events_held d vs h f =
      ap (map (name_at names)) (ap (λ (k : ℕ). take k (drop (descriptor_base numbers + d) numbers)) (sym (map_long vs)) ∙ held_part h) ∙ named_again vs f

  condition_again : (o : Option ℕ) → RowOrNone o → optional (or_none o) ≡ o
  condition_again none f = refl
  condition_again (some i) f = ap (λ (z : Bool). cond z none (some i)) (ne_eqb i no_number (λ e. let q : i ≡ 65535 = e in omega arith))

  type_again : (y : Bool) → eqb (cond y 1 0) 1 ≡ y
  type_again true = refl
  type_again false = refl

  transition_same : (t : Transition) {d : List (List ℕ)} {o : Option ℕ} {y : Bool} {g : List ℕ} {b : List Act} → d ≡ t.descriptors → o ≡ t.condition → y ≡ t.internal → g ≡ t.targets → b ≡ t.block →
      record { source = t.source; descriptors = d; condition = o; internal = y; targets = g; block = b } ≡ t
  transition_same t {d = d} {o = o} {y = y} {g = g} {b = b} p q r s u =
      ap (λ (x : List (List ℕ)). record { source = t.source; descriptors = x; condition = o; internal = y; targets = g; block = b }) p ∙
      ap (λ (x : Option ℕ). record { source = t.source; descriptors = t.descriptors; condition = x; internal = y; targets = g; block = b }) q ∙
      ap (λ (x : Bool). record { source = t.source; descriptors = t.descriptors; condition = t.condition; internal = x; targets = g; block = b }) r ∙
      ap (λ (x : List ℕ). record { source = t.source; descriptors = t.descriptors; condition = t.condition; internal = t.internal; targets = x; block = b }) s ∙
      ap (λ (x : List Act). record { source = t.source; descriptors = t.descriptors; condition = t.condition; internal = t.internal; targets = t.targets; block = x }) u

  -- the names of transitions one behind the other
  names_left : (vs ws : List (List ℕ)) (p : ℕ) → Holds numbers p (map place (vs ++ ws)) → Holds numbers p (map place vs)
  names_left vs ws p h = holds_left (map place vs) (map place ws) (subst (Holds numbers p) (map_app vs ws) h)
    where
      map_app : (vs ws : List (List ℕ)) → map place (vs ++ ws) ≡ map place vs ++ map place ws
      map_app [] ws = refl
      map_app (v ∷ vs) ws = ap (λ (l : List ℕ). place v ∷ l) (map_app vs ws)

  names_right : (vs ws : List (List ℕ)) (p : ℕ) → Holds numbers p (map place (vs ++ ws)) → Holds numbers (p + length vs) (map place ws)
  names_right vs ws p h =
      holds_at (p + length (map place vs)) (p + length vs) (ap (λ (k : ℕ). p + k) (map_long vs)) (holds_right (map place vs) (map place ws) (subst (Holds numbers p) (map_app vs ws) h))
    where
      map_app : (vs ws : List (List ℕ)) → map place (vs ++ ws) ≡ map place vs ++ map place ws
      map_app [] ws = refl
      map_app (v ∷ vs) ws = ap (λ (l : List ℕ). place v ∷ l) (map_app vs ws)

  pub transitions_back : (ts : List Transition) (i f d a : ℕ) → i + length ts ≤ transition_count numbers → Holds numbers (transition_base numbers + i * 9) (transition_cells slots f d a ts) →
      Holds numbers (reference_base numbers + f) (flat target_list ts) → Holds numbers (descriptor_base numbers + d) (map place (flat descriptor_list ts)) →
      Holds numbers (action_base numbers + a * 4) (flat (act_cells slots) (flat transition_acts ts)) → AllOf (TransitionNamed slots) ts → map (transition_back numbers names) (from (length ts) i) ≡ ts
  unfolding from transition_cells flat
  transitions_back [] i f d a l h g k j no_more = refl
  transitions_back (t ∷ ts) i f d a l h g k j (more n m) =
      ap₂ (λ (x : Transition) (xs : List Transition). x ∷ xs)
      (transition_held i t.source d (length t.descriptors) (or_none t.condition) (cond t.internal 1 0) f (length t.targets) a (length t.block) (omega arith) (holds_left cells later h) ∙
      transition_same t (events_held d t.descriptors (names_left t.descriptors (flat descriptor_list ts) (descriptor_base numbers + d) k) n.events_named) (condition_again t.condition n.condition_low) (type_again t.internal)
      (list_held numbers slots few f t.targets (holds_left t.targets (flat target_list ts) g)) (acts_back numbers slots few t.block a (acts_left numbers slots few t.block (flat transition_acts ts) a j) n.acts_named))
      (transitions_back ts (suc i) (f + length t.targets) (d + length t.descriptors) (a + length t.block) (omega arith)
      (holds_at (transition_base numbers + i * 9 + 9) (transition_base numbers + suc i * 9) (omega arith) (holds_right cells later h))
      (holds_at (reference_base numbers + f + length t.targets) (reference_base numbers + (f + length t.targets)) (omega arith) (holds_right t.targets (flat target_list ts) g))
      (holds_at (descriptor_base numbers + d + length t.descriptors) (descriptor_base numbers + (d + length t.descriptors)) (omega arith) (names_right t.descriptors (flat descriptor_list ts) (descriptor_base numbers + d) k))
      (acts_right numbers slots few t.block (flat transition_acts ts) a j) m)
    where
      cells : List ℕ
      cells = t.source ∷ d ∷ length t.descriptors ∷ or_none t.condition ∷ cond t.internal 1 0 ∷ f ∷ length t.targets ∷ a ∷ length t.block ∷ []

      later : List ℕ
      later = transition_cells slots (f + length t.targets) (d + length t.descriptors) (a + length t.block) ts
