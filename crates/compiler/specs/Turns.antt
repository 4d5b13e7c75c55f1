-- One turn of each loop that derives a column.
use Rattle.std.specs.Prelude.{◌≡◌, refl, true, false, ℕ, ◌+◌, ◌*◌, ◌≤◌, ◌<◌, drop}
use Rattle.std.proofs.Math.Path.{ap}
use Rattle.std.proofs.Common.{◌∙◌, arith, length-append}
use mathlib.Core.List.{List, [], ◌++◌}
use Rattle.std.proofs.Math.ListN.{length, length-drop}
use Rattle.definition.specs.Rows.{insert, union, nothing_at}
use Rattle.definition.specs.Chart.{Chart, is_history}
use Rattle.definition.specs.Tables.{row_count, parent_at, kind_at, chart_of}
use Rattle.definition.specs.Tree.{descendants, is_child, children, default_targets}
use Rattle.definition.specs.Compiled.{words, column}
use Rattle.laws.specs.Sets.{ascends_those}
use Rattle.laws.specs.Orders.{union_none}
use Rattle.rowset.specs.declared.RowSet.{RowSet}
use Rattle.rowset.specs.Member.{rows_of}
use Rattle.chart.specs.Ready.{row_set_at}
use Rattle.chart.specs.Columns.{length_column}
use Rattle.chart.specs.Inside.{child_inside}
use Rattle.chart.specs.Writing.{put_at, column_over, over_begin, put_next, read_set, words_set, length_over, column_cong, over_read, over_cong, Changing, changing_turn, changing_cong, ready_over, ready_filling, ready_changing}
use Rattle.compiler.specs.Upward.{children_below, children_begin, children_skip, children_end, child_words, other_children, child_low}
use Rattle.compiler.specs.Downward.{gathered, gathered_begin, gathered_end, gathered_skip, gathered_other, gathered_words, gathered_low}
use Rattle.compiler.specs.Compilable.{Compilable, TargetRoom, parent_low}

-- the children of each row, and behind them the default targets of the first i
pub record Following (numbers : List ℕ) (i : ℕ) (sets₀ sets : List ℕ) : Type 0 where
  pub most : i ≤ row_count numbers
  pub room : row_count numbers * 8 ≤ length sets₀
  pub size : length sets ≡ length sets₀
  pub is : sets ≡ column (children (chart_of numbers)) (row_count numbers) ++ column_over (default_targets (chart_of numbers)) i (drop (row_count numbers * 4) sets₀)

module _ (numbers : List ℕ) (k : Compilable numbers) where
  abbrev c : Chart
  c = chart_of numbers

  abbrev n : ℕ
  n = row_count numbers

  few : n ≤ 256
  few = let m = k.tables.sized.counts.rows in omega arith

  some : 1 ≤ n
  some = k.tables.sized.counts.some

  cleared : (m : ℕ) (place ready : List ℕ) → m ≡ n → ready ≡ column_over nothing_at m place → ready ≡ column_over nothing_at n place
  cleared m place ready q e = e ∙ ap (λ (j : ℕ). column_over nothing_at j place) q

  -- ---- children

  pub children_first : (m : ℕ) (place ready : List ℕ) → m ≡ n → n * 4 ≤ length place → ready ≡ column_over nothing_at m place → Changing (children_below c 1) n ready ready
  children_first m place ready q l e =
      ready_changing (children_below c 1) n ready (ready_filling nothing_at n n place ready l (omega arith) (cleared m place ready q e) (children_below c 1) (children_begin c n))

  pub children_next : (i : ℕ) (sets₀ sets : List ℕ) → Changing (children_below c i) n sets₀ sets → is_history (kind_at numbers i) ≡ true → Changing (children_below c (i + 1)) n sets₀ sets
  children_next i sets₀ sets h y = changing_cong (children_below c i) (children_below c (i + 1)) n sets₀ sets (children_skip c n i y) h

  pub children_last : (m i : ℕ) (place ready sets : List ℕ) → m ≡ n → n * 4 ≤ length place → ready ≡ column_over nothing_at m place →
      Changing (children_below c i) n ready sets → i ≡ n → sets ≡ column_over (children c) n place
  children_last m i place ready sets q l e h g =
      h.is ∙ ready_over nothing_at n n place ready l (omega arith) (cleared m place ready q e) (children_below c i) ∙
      ap (λ (f : ℕ → List ℕ). column_over f n place) (ap (children_below c) g ∙ children_end c n)

  pub children_turn : (i p : ℕ) (sets₀ sets next : List ℕ) (siblings s : RowSet) → Changing (children_below c i) n sets₀ sets → 0 < i → i < n → p ≡ parent_at numbers i →
      is_history (kind_at numbers i) ≡ false → siblings ≡ row_set_at sets (p * 4) → rows_of s ≡ insert i (rows_of siblings) → next ≡ put_at sets (p * 4) (rows_of s) →
      Changing (children_below c (i + 1)) n sets₀ next
  children_turn i p sets₀ sets next siblings s h z l e y f g q =
      let b = parent_low numbers k i z in
      let m = few in
      let t = k.sound.tree in
      changing_turn (children_below c i) (children_below c (i + 1)) n p sets₀ sets next (rows_of s) h (omega arith)
      (λ a _ d. other_children c t i p z e y a d)
      (child_words c t i p z e y (rows_of siblings) (rows_of s)
      (over_read (children_below c i) n p sets₀ sets (p * 4) siblings h.is (omega arith) refl (λ x w. omega (arith, child_low c t i p z e y x w)) f) g) q

  -- ---- descendants

  pub descendants_first : (m : ℕ) (place ready : List ℕ) → m ≡ n → n * 4 ≤ length place → ready ≡ column_over nothing_at m place → Changing (gathered c m) n ready ready
  descendants_first m place ready q l e =
      rw q (ready_changing (gathered c n) n ready (ready_filling nothing_at n n place ready l (omega arith) (cleared m place ready q e) (gathered c n) (gathered_begin c)))

  pub descendants_next : (j i : ℕ) (sets₀ sets : List ℕ) → j ≡ i + 1 → Changing (gathered c j) n sets₀ sets → is_history (kind_at numbers i) ≡ true →
      Changing (gathered c i) n sets₀ sets
  descendants_next j i sets₀ sets r h y = changing_cong (gathered c (i + 1)) (gathered c i) n sets₀ sets (gathered_skip c k.sound.tree i y) (rw r at h)

  pub descendants_last : (m i : ℕ) (place ready sets : List ℕ) → m ≡ n → n * 4 ≤ length place → ready ≡ column_over nothing_at m place →
      Changing (gathered c i) n ready sets → i ≡ 1 → sets ≡ column_over (descendants c) n place
  descendants_last m i place ready sets q l e h g =
      h.is ∙ ready_over nothing_at n n place ready l (omega arith) (cleared m place ready q e) (gathered c i) ∙
      over_cong (gathered c i) (descendants c) n place
      (column_cong (gathered c i) (descendants c) n (λ a _. ap words (ap (λ (j : ℕ). gathered c j a) g ∙ gathered_end c k.sound.tree a)))

  pub descendants_turn : (j i p : ℕ) (sets₀ sets next : List ℕ) (own mine others s : RowSet) → j ≡ i + 1 → Changing (gathered c j) n sets₀ sets → 0 < i → i < n → p ≡ parent_at numbers i →
      is_history (kind_at numbers i) ≡ false → own ≡ row_set_at sets (i * 4) → rows_of mine ≡ insert i (rows_of own) → others ≡ row_set_at sets (p * 4) →
      rows_of s ≡ union (rows_of others) (rows_of mine) → next ≡ put_at sets (p * 4) (rows_of s) → Changing (gathered c i) n sets₀ next
  descendants_turn j i p sets₀ sets next own mine others s r h' z l e y f g o u q =
      let h : Changing (gathered c (i + 1)) n sets₀ sets = rw r at h' in
      let b = parent_low numbers k i z in
      let m = few in
      let t = k.sound.tree in
      changing_turn (gathered c (i + 1)) (gathered c i) n p sets₀ sets next (rows_of s) h (omega arith)
      (λ a _ d. gathered_other c t i p z l e y a d)
      (gathered_words c t i p z l e y (rows_of own) (rows_of others) (rows_of mine) (rows_of s)
      (over_read (gathered c (i + 1)) n i sets₀ sets (i * 4) own h.is l refl (λ x w. omega (arith, gathered_low c (i + 1) i x w)) f) g
      (over_read (gathered c (i + 1)) n p sets₀ sets (p * 4) others h.is (omega arith) refl (λ x w. omega (arith, gathered_low c (i + 1) p x w)) o) u) q

  -- ---- default targets

  pub targets_begin : (sets : List ℕ) → TargetRoom numbers sets → Following numbers 0 sets sets
  targets_begin sets h =
      record {
        most = omega arith;
        room = h.room;
        size = refl;
        is = h.kids ∙ unfold column_over in ap (λ (r : List ℕ). column (children c) n ++ r) (over_begin (default_targets c) (drop (n * 4) sets));
      }

  pub targets_kids : (i : ℕ) (sets₀ sets : List ℕ) (kids : RowSet) → Following numbers i sets₀ sets → i < n → kids ≡ row_set_at sets (i * 4) → rows_of kids ≡ children c i
  targets_kids i sets₀ sets kids h l e =
      let m = few in
      read_set (children c) n i (column_over (default_targets c) i (drop (n * 4) sets₀)) sets kids h.is l (λ x w. omega (arith, child_inside c k.sound i x w)) e ∙
      union_none 0 (children c i) (unfold children in ascends_those n (is_child c i))

  -- the default targets of row i, written behind
  targets_put : (i w : ℕ) (sets₀ sets xs : List ℕ) → Following numbers i sets₀ sets → i < n → (n + i) * 4 ≡ w → words xs ≡ words (default_targets c i) →
      put_at sets w xs ≡ column (children c) n ++ column_over (default_targets c) (i + 1) (drop (n * 4) sets₀)
  unfolding column_over
  targets_put i w sets₀ sets xs h l e q =
      let r = h.room in
      let d = length-drop (n * 4) sets₀ in
      let p : length (column (children c) n) + i * 4 ≡ w = rw (length_column (children c) n) (omega arith) in
      put_next (column (children c) n) (default_targets c) i (drop (n * 4) sets₀) sets w xs h.is p (omega arith) q

  following_size : (i : ℕ) (sets₀ : List ℕ) → n * 8 ≤ length sets₀ → i ≤ n → length (column (children c) n ++ column_over (default_targets c) i (drop (n * 4) sets₀)) ≡ length sets₀
  following_size i sets₀ r l =
      let d = length-drop (n * 4) sets₀ in
      length-append (column (children c) n) _ ∙ rw (length_column (children c) n, length_over (default_targets c) i (drop (n * 4) sets₀) (omega arith)) (omega arith)

  pub targets_turn : (m i : ℕ) (sets₀ sets next : List ℕ) (s : RowSet) → m ≡ n → Following numbers i sets₀ sets → i < n → rows_of s ≡ union [] (default_targets c i) →
      next ≡ put_at sets ((m + i) * 4) (rows_of s) → Following numbers (i + 1) sets₀ next
  targets_turn m i sets₀ sets next s q h l e f =
      let is = f ∙ targets_put i ((m + i) * 4) sets₀ sets (rows_of s) h l (omega arith) (ap words e ∙ words_set (default_targets c i)) in
      record { most = omega arith; room = h.room; size = ap length is ∙ following_size (i + 1) sets₀ h.room (omega arith); is = is }

  pub targets_end : (i : ℕ) (sets₀ sets : List ℕ) → Following numbers i sets₀ sets → n ≤ i → sets ≡ column (children c) n ++ column_over (default_targets c) n (drop (n * 4) sets₀)
  targets_end i sets₀ sets h l =
      let m = h.most in
      let e : i ≡ n = omega arith in
      h.is ∙ ap (λ (j : ℕ). column (children c) n ++ column_over (default_targets c) j (drop (n * 4) sets₀)) e
