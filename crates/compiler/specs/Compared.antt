-- The five columns: all that is judged of them holds exactly if the sets are those that the chart gives.
use Rattle.std.specs.Prelude.{◌≡◌, Bool, false, length, get_or}
use Rattle.std.proofs.Math.Path.{refl, sym, ap}
use Rattle.std.proofs.Common.{ap₂, ◌∙◌, add-one, arith, length-drop, take-append-drop, drop_at, drop-cons, get_or-drop}
use Rattle.std.proofs.Math.Bool.{true}
use mathlib.Core.List.{List, [], ◌∷◌, ◌++◌, map, append_assoc, append-nil}
use Prim.Native.Nat.{ℕ, zero, suc, ◌+◌, ◌*◌, ◌^◌, ◌≤◌, ◌<◌}
use Rattle.std.proofs.Math.ListN.{take, drop}
use Rattle.std.proofs.Math.Seq.{drop-drop}
use Rattle.definition.specs.Rows.{from, all, same, union, mem}
use Rattle.definition.specs.Chart.{Chart}
use Rattle.definition.specs.Tables.{row_count, transition_count, chart_of}
use Rattle.definition.specs.Tree.{ancestors, is_descendant, is_child, descendants, children, default_targets, anchor, anchors}
use Rattle.definition.specs.Compiled.{words, column, columns}
use Rattle.laws.specs.Bools.{clash, not_so, bool_case}
use Rattle.laws.specs.Sets.{ascends_those, ascends_union}
use Rattle.laws.specs.Lists.{same_eq, same_self}
use Rattle.laws.specs.Orders.{union_none}
use Rattle.laws.specs.Parts.{part_end}
use Rattle.laws.specs.Passes.{drop_end}
use Rattle.accepted.specs.Tree.{Tree}
use Rattle.rowset.specs.Member.{rows_of}
use Rattle.rowset.specs.Rows.{words_of_rows}
use Rattle.chart.specs.Ready.{row_set_at}
use Rattle.chart.specs.Columns.{length_column}
use Rattle.chart.specs.Inside.{ancestor_inside, descendant_inside, child_inside, default_inside, anchors_inside}
use Rattle.chart.specs.Writing.{put_at, words_set, column_over, over_begin, over_next, read_set}
use Rattle.compiler.specs.Compilable.{Compilable, RowRoom}
use Rattle.compiler.specs.Whole.{lent}
use Rattle.compiler.specs.Judged.{rows_in, is_above, is_joined, is_down, is_aimed, is_anchored, KidsKnown, above_are, are_above, kids_are, are_joined, downs_are, are_downs, aims_are, are_aims, anchors_are, are_anchors, down_rows}

-- ---- a column that holds the sets that f gives is f's

-- every number is one of 64 bits
abbrev pub Fits : List ℕ → Type 0
Fits sets = (k : ℕ) → get_or sets k 0 < 2 ^ 64

four : (sets : List ℕ) (w : ℕ) → w + 4 ≤ length sets → take 4 (drop w sets) ≡ get_or sets w 0 ∷ get_or sets (w + 1) 0 ∷ get_or sets (w + 2) 0 ∷ get_or sets (w + 3) 0 ∷ []
four sets w l =
    let e1 : w + 1 ≡ suc w = omega arith in
    let e2 : w + 2 ≡ suc (suc w) = omega arith in
    let e3 : w + 3 ≡ suc (suc (suc w)) = omega arith in
    rw (e1, e2, e3, drop-cons sets w 0 (omega arith), drop-cons sets (suc w) 0 (omega arith), drop-cons sets (suc (suc w)) 0 (omega arith), drop-cons sets (suc (suc (suc w))) 0 (omega arith))

words_there : (sets : List ℕ) (w : ℕ) → w + 4 ≤ length sets → Fits sets → words (rows_of (row_set_at sets w)) ≡ take 4 (drop w sets)
unfolding row_set_at
words_there sets w l f =
    words_of_rows (row_set_at sets w) (record { fit0 = f w; fit1 = f (w + 1); fit2 = f (w + 2); fit3 = f (w + 3) }) ∙ sym (four sets w l)

put_same : (sets : List ℕ) (w : ℕ) (xs : List ℕ) → words xs ≡ take 4 (drop w sets) → put_at sets w xs ≡ sets
unfolding put_at
put_same sets w xs e =
    ap (λ (ys : List ℕ). take w sets ++ ys) (ap₂ {C = List ℕ} (λ a b. a ++ b) e (sym (drop-drop 4 w sets)) ∙ take-append-drop 4 (drop w sets)) ∙ take-append-drop w sets

module _ (f : ℕ → List ℕ) (n : ℕ) (sets : List ℕ) where
  made : n * 4 ≤ length sets → Fits sets → ((i : ℕ) → i < n → rows_in sets i ≡ union [] (f i)) → sets ≡ column f n ++ drop (n * 4) sets
  unfolding rows_in
  made room fits h = unfold column_over in go n (omega arith)
    where
      go : (k : ℕ) → k ≤ n → sets ≡ column_over f k sets
      go zero l = over_begin f sets
      go (suc k) l =
          let e : words (f k) ≡ take 4 (drop (k * 4) sets) = sym (words_set (f k)) ∙ ap words (sym (h k (omega arith))) ∙ words_there sets (k * 4) (omega arith) fits in
          sym (put_same sets (k * 4) (f k) e) ∙ over_next f k sets sets (k * 4) (f k) (go k (omega arith)) refl (omega arith) refl ∙ ap (λ (j : ℕ). column_over f j sets) (add-one k)

  read : (post : List ℕ) → sets ≡ column f n ++ post → ((i : ℕ) → i < n → (x : ℕ) → mem x (f i) ≡ true → x < 256) → (i : ℕ) → i < n → rows_in sets i ≡ union [] (f i)
  unfolding rows_in
  read post e low i l = read_set f n i post sets (row_set_at sets (i * 4)) e l (low i l) refl

fits_drop : (sets : List ℕ) (a : ℕ) → Fits sets → Fits (drop a sets)
fits_drop sets a f k = rw (get_or-drop a sets k 0) (f (a + k))

-- ---- the five

module _ (numbers : List ℕ) (m : ℕ) (rows : m ≡ row_count numbers) (keep : Compilable numbers) (sets : List ℕ) (size : length sets ≡ row_count numbers * 16 + transition_count numbers * 4) where
  abbrev c : Chart
  c = chart_of numbers

  abbrev n : ℕ
  n = row_count numbers

  abbrev k : ℕ
  k = transition_count numbers

  abbrev A : List ℕ
  A = column (ancestors c) n

  abbrev D : List ℕ
  D = column (descendants c) n

  abbrev K : List ℕ
  K = column (children c) n

  abbrev G : List ℕ
  G = column (default_targets c) n

  abbrev N : List ℕ
  N = column (anchors c) k

  tree : Tree c
  tree = keep.sound.tree

  few : n ≤ 256
  few = let r = keep.tables.sized.counts.rows in omega arith

  part_of : (j : ℕ) → lent (m * j) sets ≡ drop (n * j) sets
  part_of j = part_end (m * j) sets ∙ ap (λ (i : ℕ). drop (i * j) sets) rows

  room_of : (a : ℕ) → a + n * 4 ≤ n * 16 → n * 4 ≤ length (drop a sets)
  room_of a l = rw (length-drop a sets) (omega arith)

  pub room_below : RowRoom numbers (lent (m * 4) sets)
  room_below = record { numbers_keep = keep; room = rw (part_of 4) (room_of (n * 4) (omega arith)) }

  pub room_kids : RowRoom numbers (lent (m * 8) sets)
  room_kids = record { numbers_keep = keep; room = rw (part_of 8) (room_of (n * 8) (omega arith)) }

  pub room_targets : RowRoom numbers (lent (m * 12) sets)
  room_targets = record { numbers_keep = keep; room = rw (part_of 12) (room_of (n * 12) (omega arith)) }

  set_kids : (p : ℕ) → union [] (children c p) ≡ children c p
  set_kids p = union_none 0 (children c p) (unfold children in ascends_those n (is_child c p))

  set_below : (p : ℕ) → union [] (descendants c p) ≡ descendants c p
  set_below p = union_none 0 (descendants c p) (unfold descendants in ascends_those n (is_descendant c p))

  set_anchors : (t : ℕ) → union [] (anchors c t) ≡ anchors c t
  set_anchors t = union_none 0 (anchors c t) (unfold anchors in ascends_union [] (map (anchor c) (c.transition t).targets) tt)

  later : (a b : ℕ) → a + n * 4 ≡ b → drop (n * 4) (drop a sets) ≡ drop b sets
  later a b q = drop-drop (n * 4) a sets ∙ ap (λ (i : ℕ). drop i sets) q

  -- the sets are those of the chart: what is judged holds

  module _ (e : sets ≡ columns c) where
    split : sets ≡ A ++ (D ++ (K ++ (G ++ N)))
    unfolding columns
    split = e ∙ simp append_assoc

    next : (f : ℕ → List ℕ) (post : List ℕ) (a b : ℕ) → drop a sets ≡ column f n ++ post → a + n * 4 ≡ b → drop b sets ≡ post
    next f post a b h q = sym (later a b q) ∙ ap (drop (n * 4)) h ∙ drop_at (column f n) post (n * 4) (length_column f n)

    at_below : drop (n * 4) sets ≡ D ++ (K ++ (G ++ N))
    at_below = next (ancestors c) (D ++ (K ++ (G ++ N))) 0 (n * 4) split (omega arith)

    at_kids : drop (n * 8) sets ≡ K ++ (G ++ N)
    at_kids = next (descendants c) (K ++ (G ++ N)) (n * 4) (n * 8) at_below (omega arith)

    at_targets : drop (n * 12) sets ≡ G ++ N
    at_targets = next (children c) (G ++ N) (n * 8) (n * 12) at_kids (omega arith)

    at_anchors : drop (n * 16) sets ≡ N ++ []
    at_anchors = next (default_targets c) N (n * 12) (n * 16) at_targets (omega arith) ∙ sym (append-nil N)

    kids_right : (p : ℕ) → p < n → rows_in (drop (n * 8) sets) p ≡ children c p
    kids_right p l =
        let s = few in
        read (children c) n (drop (n * 8) sets) (G ++ N) at_kids (λ i q x w. omega (arith, child_inside c keep.sound i x w)) p l ∙ set_kids p

    below_right : (p : ℕ) → p < n → rows_in (drop (n * 4) sets) p ≡ descendants c p
    below_right p l =
        let s = few in
        read (descendants c) n (drop (n * 4) sets) (K ++ (G ++ N)) at_below (λ i q x w. omega (arith, descendant_inside c keep.sound i x w)) p l ∙ set_below p

    above_right : all (is_above c sets) (from n 0) ≡ true
    above_right =
        let s = few in
        are_above c tree sets (read (ancestors c) n sets (D ++ (K ++ (G ++ N))) split (λ i q x w. omega (arith, ancestor_inside c keep.sound i q x w)))

    targets_right : all (is_aimed c (drop (n * 12) sets)) (from n 0) ≡ true
    targets_right =
        let s = few in
        are_aims c tree (drop (n * 12) sets) (read (default_targets c) n (drop (n * 12) sets) N at_targets (λ i q x w. omega (arith, default_inside c keep.sound i q x w)))

    anchors_right : all (is_anchored c (drop (n * 16) sets)) (from k 0) ≡ true
    anchors_right =
        let s = few in
        are_anchors c tree (drop (n * 16) sets)
        (λ t l. read (anchors c) k (drop (n * 16) sets) [] at_anchors (λ i q x w. omega (arith, anchors_inside c keep.sound i q x w)) t l ∙ set_anchors t)

  differ : (b : Bool) → (sets ≡ columns c → b ≡ true) → b ≡ false → false ≡ same sets (columns c)
  differ b f h = sym (not_so (same sets (columns c)) (λ s. clash b (f (same_eq sets (columns c) s)) h))

  pub above_differ : (b : Bool) → b ≡ all (is_above c sets) (from n 0) → b ≡ false → false ≡ same sets (columns c)
  above_differ b e = differ b (λ h. e ∙ above_right h)

  pub kids_differ : (b : Bool) → b ≡ all (is_joined c (lent (m * 8) sets)) (from n 0) → b ≡ false → false ≡ same sets (columns c)
  kids_differ b e = differ b (λ h. e ∙ rw (part_of 8) (are_joined c tree (drop (n * 8) sets) (kids_right h)))

  pub below_differ : (b : Bool) → b ≡ all (is_down c (lent (m * 4) sets) (lent (m * 8) sets)) (from n 0) → b ≡ false → false ≡ same sets (columns c)
  below_differ b e = differ b (λ h. e ∙ rw (part_of 8, part_of 4) (are_downs c tree (drop (n * 4) sets) (drop (n * 8) sets) (kids_right h) (below_right h)))

  pub targets_differ : (b : Bool) → b ≡ all (is_aimed c (lent (m * 12) sets)) (from n 0) → b ≡ false → false ≡ same sets (columns c)
  targets_differ b e = differ b (λ h. e ∙ rw (part_of 12) (targets_right h))

  -- all is judged: the sets are those of the chart

  module _ (b2 b3 : Bool) (e2 : b2 ≡ all (is_joined c (lent (m * 8) sets)) (from n 0)) (g2 : b2 ≡ true)
      (e3 : b3 ≡ all (is_down c (lent (m * 4) sets) (lent (m * 8) sets)) (from n 0)) (g3 : b3 ≡ true) where
    joined : all (is_joined c (drop (n * 8) sets)) (from n 0) ≡ true
    joined = rw (part_of 8) at (sym e2 ∙ g2)

    downs : all (is_down c (drop (n * 4) sets) (drop (n * 8) sets)) (from n 0) ≡ true
    downs = rw (part_of 8, part_of 4) at (sym e3 ∙ g3)

    kids_there : (p : ℕ) → p < n → rows_in (drop (n * 8) sets) p ≡ children c p
    kids_there p l = kids_are c tree (drop (n * 8) sets) joined p (down_rows c tree (drop (n * 4) sets) (drop (n * 8) sets) downs p l)

    -- the children are known when the default targets are judged
    pub kids_known : KidsKnown numbers (lent (m * 8) sets)
    kids_known = record { numbers_keep = keep; room = room_kids.room; are = λ p l. rw (part_of 8) (kids_there p l) }

    pub columns_decide : (b1 b4 b5 : Bool) → Fits sets → b1 ≡ all (is_above c sets) (from n 0) → b1 ≡ true → b4 ≡ all (is_aimed c (lent (m * 12) sets)) (from n 0) → b4 ≡ true →
        b5 ≡ all (is_anchored c (lent (m * 16) sets)) (from k 0) → b5 ≡ same sets (columns c)
    unfolding columns
    columns_decide b1 b4 b5 fits e1 g1 e4 g4 e5 = bool_case b5 yes (λ h. h ∙ differ b5 (λ q. e5 ∙ rw (part_of 16) (anchors_right q)) h)
      where
        yes : b5 ≡ true → b5 ≡ same sets (columns c)
        yes h =
            let q1 : sets ≡ A ++ drop (n * 4) sets = made (ancestors c) n sets (omega arith) fits (above_are c tree sets (sym e1 ∙ g1)) in
            let q2 : drop (n * 4) sets ≡ D ++ drop (n * 4) (drop (n * 4) sets) =
            made (descendants c) n (drop (n * 4) sets) (room_of (n * 4) (omega arith)) (fits_drop sets (n * 4) fits)
            (λ i l. downs_are c tree (drop (n * 4) sets) (drop (n * 8) sets) downs kids_there i l ∙ sym (set_below i)) in
            let q3 : drop (n * 8) sets ≡ K ++ drop (n * 4) (drop (n * 8) sets) =
            made (children c) n (drop (n * 8) sets) (room_of (n * 8) (omega arith)) (fits_drop sets (n * 8) fits) (λ i l. kids_there i l ∙ sym (set_kids i)) in
            let q4 : drop (n * 12) sets ≡ G ++ drop (n * 4) (drop (n * 12) sets) =
            made (default_targets c) n (drop (n * 12) sets) (room_of (n * 12) (omega arith)) (fits_drop sets (n * 12) fits)
            (aims_are c tree (drop (n * 12) sets) (rw (part_of 12) at (sym e4 ∙ g4))) in
            let q5 : drop (n * 16) sets ≡ N ++ drop (k * 4) (drop (n * 16) sets) =
            made (anchors c) k (drop (n * 16) sets) (rw (length-drop (n * 16) sets) (omega arith)) (fits_drop sets (n * 16) fits)
            (λ t l. anchors_are c tree (drop (n * 16) sets) (rw (part_of 16) at (sym e5 ∙ h)) t l ∙ sym (set_anchors t)) in
            let s2 : drop (n * 4) (drop (n * 4) sets) ≡ drop (n * 8) sets = later (n * 4) (n * 8) (omega arith) in
            let s3 : drop (n * 4) (drop (n * 8) sets) ≡ drop (n * 12) sets = later (n * 8) (n * 12) (omega arith) in
            let s4 : drop (n * 4) (drop (n * 12) sets) ≡ drop (n * 16) sets = later (n * 12) (n * 16) (omega arith) in
            let s5 : drop (k * 4) (drop (n * 16) sets) ≡ [] = drop-drop (k * 4) (n * 16) sets ∙ drop_end (n * 16 + k * 4) sets (omega arith) in
            let whole : sets ≡ A ++ (D ++ (K ++ (G ++ (N ++ [])))) =
            q1 ∙ ap (λ (r : List ℕ). A ++ r) (q2 ∙ ap (λ (r : List ℕ). D ++ r) (s2 ∙ q3 ∙ ap (λ (r : List ℕ). K ++ r) (s3 ∙ q4 ∙ ap (λ (r : List ℕ). G ++ r) (s4 ∙ q5 ∙ ap (λ (r : List ℕ). N ++ r) s5)))) in
            h ∙ sym (ap (same sets) (sym (whole ∙ simp (append_assoc, append-nil))) ∙ same_self sets)
