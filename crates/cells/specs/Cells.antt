-- The cells of rows and transitions as a content has them: where its lists and blocks are in their bins and kind, parent, id, source, condition and type stand.
use Rattle.std.proofs.Math.Path.{◌≡◌, refl, ap, ap₂, subst}
use Rattle.std.proofs.Common.{◌∙◌, drop-drop}
use Rattle.std.specs.Prelude.{cond, get_or}
use mathlib.Core.List.{List, [], ◌∷◌, ◌++◌}
use Prim.Native.Nat.{ℕ, suc, ◌+◌, ◌*◌, ◌≤◌, ◌<◌}
use native.Mathlib.Omega.{arith}
use Rattle.std.proofs.Math.ListN.{length, take, drop}
use Rattle.std.proofs.Math.Seq.{take-add}
use Rattle.definition.specs.Rows.{from}
use Rattle.reading.specs.Content.{Row, Transition, Content}
use Rattle.reading.specs.Layout.{id_cell, or_none, row_cells, transition_cells}
use Rattle.bins.specs.Bins.{start_of}
use Rattle.bins.specs.Binned.{Item}
use Rattle.items.specs.Items.{bin_count}
use Rattle.items.specs.Order.{no_transition}
use Rattle.items.specs.Picked.{no_row}
use Rattle.items.specs.Held.{RowHeld, TransitionHeld}
use Rattle.cells.specs.Starts.{table_base, start_in, entries_in}
use Rattle.cells.specs.Parts.{blocks, row_at, RowIn}
use Rattle.cells.specs.Ends.{transition_at, TransitionIn}
use Rattle.cells.specs.Sums.{start_four, start_one, cells_read}

-- the lists and blocks of n rows and t transitions are in their bins
pub record Held (slots : List (List ℕ)) (n t : ℕ) (items : List Item) (c : Content) : Type 0 where
  pub rows_are : n ≡ length c.rows
  pub transitions_are : t ≡ length c.transitions
  pub row : (i : ℕ) → i < n → RowHeld slots n t items i (get_or c.rows i no_row)
  pub transition : (r : ℕ) → r < t → TransitionHeld slots n t items r (get_or c.transitions r no_transition)

-- the other cells of a row and of a transition
pub record RowSaid (slots : List (List ℕ)) (out : List ℕ) (i : ℕ) (r : Row) : Type 0 where
  pub kind : get_or out (row_at i 0) 0 ≡ r.kind
  pub parent : get_or out (row_at i 1) 0 ≡ r.parent
  pub id : get_or out (row_at i 2) 0 ≡ id_cell slots r.id

pub record TransitionSaid (out : List ℕ) (n r : ℕ) (x : Transition) : Type 0 where
  pub source : get_or out (transition_at n r 0) 0 ≡ x.source
  pub condition : get_or out (transition_at n r 3) 0 ≡ or_none x.condition
  pub type : get_or out (transition_at n r 4) 0 ≡ cond x.internal 1 0

pub record Said (slots : List (List ℕ)) (n t : ℕ) (out : List ℕ) (c : Content) : Type 0 where
  pub row : (i : ℕ) → i < n → RowSaid slots out i (get_or c.rows i no_row)
  pub transition : (r : ℕ) → r < t → TransitionSaid out n r (get_or c.transitions r no_transition)

module _ (slots : List (List ℕ)) (n t : ℕ) (c : ℕ → ℕ) (next : List ℕ) (begins : (k : ℕ) → k ≤ bin_count n t → start_in (table_base n t) next k ≡ table_base n t + start_of c k) where
  abbrev S : ℕ → ℕ
  S k = start_of c k

  four : (first from a : ℕ) → first ≤ bin_count n t → from ≤ bin_count n t → S from ≡ S first + a * 4 → entries_in (table_base n t) next first from 4 ≡ a
  four = start_four (bin_count n t) (table_base n t) c next begins

  one : (first from a : ℕ) → first ≤ bin_count n t → from ≤ bin_count n t → S from ≡ S first + a * 1 → entries_in (table_base n t) next first from 1 ≡ a
  one = start_one (bin_count n t) (table_base n t) c next begins

  -- ---- rows

  -- what is known of row i
  pub record RowKnown (out : List ℕ) (i : ℕ) (r : Row) : Type 0 where
    pub said : RowSaid slots out i r
    pub is : RowIn out next n t i
    pub list : S (i * 2 + 2) ≡ S (i * 2) + length r.list * 1
    pub entry : S (blocks n t + i * 3 + 1) ≡ S (blocks n t + i * 3) + length r.entry * 4
    pub exit : S (blocks n t + i * 3 + 2) ≡ S (blocks n t + i * 3 + 1) + length r.exit * 4
    pub block : S (blocks n t + i * 3 + 3) ≡ S (blocks n t + i * 3 + 2) + length r.block * 4

  abbrev row_part : ℕ → ℕ → Row → List ℕ
  row_part f a r =
      r.kind ∷ r.parent ∷ id_cell slots r.id ∷ a ∷ length r.entry ∷ (a + length r.entry) ∷ length r.exit ∷ f ∷ length r.list ∷ (a + length r.entry + length r.exit) ∷ length r.block ∷ []

  row_part_lem : (out : List ℕ) (i : ℕ) (r : Row) (f a : ℕ) → i < n → table_base n t ≤ length out → RowKnown out i r → S (i * 2) ≡ f → S (blocks n t + i * 3) ≡ S (blocks n t) + a * 4 →
      take 11 (drop (6 + i * 11) out) ≡ row_part f a r
  unfolding from start_of
  row_part_lem out i r f a h l k ef ea =
      cells_read out (6 + i * 11) 11 (omega arith) ∙
      eleven k.said.kind k.said.parent k.said.id
      (k.is.entry ∙ four (blocks n t) (blocks n t + i * 3) a (omega arith) (omega arith) ea)
      (k.is.entries ∙ four (blocks n t + i * 3) (blocks n t + i * 3 + 1) (length r.entry) (omega arith) (omega arith) k.entry)
      (k.is.exit ∙ four (blocks n t) (blocks n t + i * 3 + 1) (a + length r.entry) (omega arith) (omega arith) (let e = k.entry in omega arith))
      (k.is.exits ∙ four (blocks n t + i * 3 + 1) (blocks n t + i * 3 + 2) (length r.exit) (omega arith) (omega arith) k.exit)
      (k.is.list ∙ one 0 (i * 2) f (omega arith) (omega arith) (omega arith))
      (k.is.lists ∙ one (i * 2) (i * 2 + 2) (length r.list) (omega arith) (omega arith) k.list)
      (k.is.block ∙ four (blocks n t) (blocks n t + i * 3 + 2) (a + length r.entry + length r.exit) (omega arith) (omega arith) (let e = k.entry in let g = k.exit in omega arith))
      (k.is.many ∙ four (blocks n t + i * 3 + 2) (blocks n t + i * 3 + 3) (length r.block) (omega arith) (omega arith) k.block)
    where
      eleven : {a0 a1 a2 a3 a4 a5 a6 a7 a8 a9 a10 b0 b1 b2 b3 b4 b5 b6 b7 b8 b9 b10 : ℕ} → a0 ≡ b0 → a1 ≡ b1 → a2 ≡ b2 → a3 ≡ b3 → a4 ≡ b4 → a5 ≡ b5 → a6 ≡ b6 → a7 ≡ b7 → a8 ≡ b8 → a9 ≡ b9 → a10 ≡ b10 →
          ◌≡◌ {A = List ℕ} (a0 ∷ a1 ∷ a2 ∷ a3 ∷ a4 ∷ a5 ∷ a6 ∷ a7 ∷ a8 ∷ a9 ∷ a10 ∷ []) (b0 ∷ b1 ∷ b2 ∷ b3 ∷ b4 ∷ b5 ∷ b6 ∷ b7 ∷ b8 ∷ b9 ∷ b10 ∷ [])
      eleven p0 p1 p2 p3 p4 p5 p6 p7 p8 p9 p10 = cc

  pub rows_laid : (out : List ℕ) → table_base n t ≤ length out → (rs : List Row) (i f a : ℕ) → i + length rs ≡ n → ((j : ℕ) → j < length rs → RowKnown out (i + j) (get_or rs j no_row)) →
      S (i * 2) ≡ f → S (blocks n t + i * 3) ≡ S (blocks n t) + a * 4 → take (length rs * 11) (drop (6 + i * 11) out) ≡ row_cells slots f a rs
  unfolding row_cells
  rows_laid out l [] i f a e h ef ea = refl
  rows_laid out l (r ∷ rs) i f a e h ef ea =
      let k : RowKnown out i r = subst (λ (j : ℕ). RowKnown out j r) (plus i) (h 0 (omega arith)) in
      let x = k.list in let y = k.entry in let z = k.exit in let u = k.block in
      let w : suc (length rs) * 11 ≡ 11 + length rs * 11 = omega arith in
      let on : 6 + i * 11 + 11 ≡ 6 + suc i * 11 = omega arith in
      let p : suc i * 2 ≡ i * 2 + 2 = omega arith in
      let p' = ap (start_of c) p in
      let q : blocks n t + suc i * 3 ≡ blocks n t + i * 3 + 3 = omega arith in
      let q' = ap (start_of c) q in
      ap (λ (m : ℕ). take m (drop (6 + i * 11) out)) w ∙ take-add 11 (length rs * 11) (drop (6 + i * 11) out) ∙
      ap₂ (λ (v v' : List ℕ). v ++ v') (row_part_lem out i r f a (omega arith) l k ef ea)
      (ap (take (length rs * 11)) (drop-drop 11 (6 + i * 11) out ∙ ap (λ (m : ℕ). drop m out) on) ∙
      rows_laid out l rs (suc i) (f + length r.list) (a + length r.entry + length r.exit + length r.block) (omega arith)
      (λ j b. subst (λ (m : ℕ). RowKnown out m (get_or rs j no_row)) (shift i j) (h (suc j) (omega arith))) (omega arith) (omega arith))
    where
      plus : (m : ℕ) → m + 0 ≡ m
      plus m = omega arith

      shift : (m j : ℕ) → m + suc j ≡ suc m + j
      shift m j = omega arith

  -- ---- transitions

  pub record TransitionKnown (out : List ℕ) (r : ℕ) (x : Transition) : Type 0 where
    pub said : TransitionSaid out n r x
    pub is : TransitionIn out next n t r
    pub targets : S (n * 2 + r + 1) ≡ S (n * 2 + r) + length x.targets * 1
    pub descriptors : S (n * 2 + t + r + 1) ≡ S (n * 2 + t + r) + length x.descriptors * 1
    pub block : S (blocks n t + n * 3 + r + 1) ≡ S (blocks n t + n * 3 + r) + length x.block * 4

  abbrev transition_part : ℕ → ℕ → ℕ → Transition → List ℕ
  transition_part f d a x =
      x.source ∷ d ∷ length x.descriptors ∷ or_none x.condition ∷ cond x.internal 1 0 ∷ f ∷ length x.targets ∷ a ∷ length x.block ∷ []

  transition_part_lem : (out : List ℕ) (r : ℕ) (x : Transition) (f d a : ℕ) → r < t → table_base n t ≤ length out → TransitionKnown out r x →
      S (n * 2 + r) ≡ f → S (n * 2 + t + r) ≡ S (n * 2 + t) + d → S (blocks n t + n * 3 + r) ≡ S (blocks n t) + a * 4 →
      take 9 (drop (6 + n * 11 + r * 9) out) ≡ transition_part f d a x
  unfolding from start_of
  transition_part_lem out r x f d a h l k ef ed ea =
      cells_read out (6 + n * 11 + r * 9) 9 (omega arith) ∙
      nine k.said.source
      (k.is.descriptor ∙ one (n * 2 + t) (n * 2 + t + r) d (omega arith) (omega arith) (omega arith))
      (k.is.descriptors ∙ one (n * 2 + t + r) (n * 2 + t + r + 1) (length x.descriptors) (omega arith) (omega arith) k.descriptors)
      k.said.condition
      k.said.type
      (k.is.target ∙ one 0 (n * 2 + r) f (omega arith) (omega arith) (omega arith))
      (k.is.targets ∙ one (n * 2 + r) (n * 2 + r + 1) (length x.targets) (omega arith) (omega arith) k.targets)
      (k.is.block ∙ four (blocks n t) (blocks n t + n * 3 + r) a (omega arith) (omega arith) ea)
      (k.is.many ∙ four (blocks n t + n * 3 + r) (blocks n t + n * 3 + r + 1) (length x.block) (omega arith) (omega arith) k.block)
    where
      nine : {a0 a1 a2 a3 a4 a5 a6 a7 a8 b0 b1 b2 b3 b4 b5 b6 b7 b8 : ℕ} → a0 ≡ b0 → a1 ≡ b1 → a2 ≡ b2 → a3 ≡ b3 → a4 ≡ b4 → a5 ≡ b5 → a6 ≡ b6 → a7 ≡ b7 → a8 ≡ b8 →
          ◌≡◌ {A = List ℕ} (a0 ∷ a1 ∷ a2 ∷ a3 ∷ a4 ∷ a5 ∷ a6 ∷ a7 ∷ a8 ∷ []) (b0 ∷ b1 ∷ b2 ∷ b3 ∷ b4 ∷ b5 ∷ b6 ∷ b7 ∷ b8 ∷ [])
      nine p0 p1 p2 p3 p4 p5 p6 p7 p8 = cc

  pub transitions_laid : (out : List ℕ) → table_base n t ≤ length out → (xs : List Transition) (r f d a : ℕ) → r + length xs ≡ t →
      ((j : ℕ) → j < length xs → TransitionKnown out (r + j) (get_or xs j no_transition)) →
      S (n * 2 + r) ≡ f → S (n * 2 + t + r) ≡ S (n * 2 + t) + d → S (blocks n t + n * 3 + r) ≡ S (blocks n t) + a * 4 →
      take (length xs * 9) (drop (6 + n * 11 + r * 9) out) ≡ transition_cells slots f d a xs
  unfolding transition_cells
  transitions_laid out l [] r f d a e h ef ed ea = refl
  transitions_laid out l (x ∷ xs) r f d a e h ef ed ea =
      let k : TransitionKnown out r x = subst (λ (j : ℕ). TransitionKnown out j x) (plus r) (h 0 (omega arith)) in
      let y = k.targets in let z = k.descriptors in let u = k.block in
      let w : suc (length xs) * 9 ≡ 9 + length xs * 9 = omega arith in
      let on : 6 + n * 11 + r * 9 + 9 ≡ 6 + n * 11 + suc r * 9 = omega arith in
      let p = ap (start_of c) (more (n * 2) r) in
      let p' = ap (start_of c) (more (n * 2 + t) r) in
      let q = ap (start_of c) (more (blocks n t + n * 3) r) in
      ap (λ (m : ℕ). take m (drop (6 + n * 11 + r * 9) out)) w ∙ take-add 9 (length xs * 9) (drop (6 + n * 11 + r * 9) out) ∙
      ap₂ (λ (v v' : List ℕ). v ++ v') (transition_part_lem out r x f d a (omega arith) l k ef ed ea)
      (ap (take (length xs * 9)) (drop-drop 9 (6 + n * 11 + r * 9) out ∙ ap (λ (m : ℕ). drop m out) on) ∙
      transitions_laid out l xs (suc r) (f + length x.targets) (d + length x.descriptors) (a + length x.block) (omega arith)
      (λ j b. subst (λ (m : ℕ). TransitionKnown out m (get_or xs j no_transition)) (shift r j) (h (suc j) (omega arith))) (omega arith) (omega arith) (omega arith))
    where
      plus : (m : ℕ) → m + 0 ≡ m
      plus m = omega arith

      more : (m j : ℕ) → m + suc j ≡ m + j + 1
      more m j = omega arith

      shift : (m j : ℕ) → m + suc j ≡ suc m + j
      shift m j = omega arith
