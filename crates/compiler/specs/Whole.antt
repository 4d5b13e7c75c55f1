-- The five columns, one behind the other.
use Rattle.std.specs.Prelude.{◌≡◌, ℕ, ◌+◌, ◌*◌, ◌-◌, take}
use Rattle.std.proofs.Common.{sym, ap, ◌∙◌, take_at}
use mathlib.Core.List.{List, [], ◌++◌, append_assoc, append-nil}
use native.Mathlib.Omega.{arith}
use Rattle.std.proofs.Math.ListN.{length, drop, length-append, length-drop}
use Rattle.std.proofs.Math.Seq.{drop_at, take-length, drop-length}
use Rattle.definition.specs.Chart.{Chart}
use Rattle.definition.specs.Tables.{row_count, transition_count, chart_of}
use Rattle.definition.specs.Tree.{ancestors, descendants, children, default_targets, anchors}
use Rattle.definition.specs.Compiled.{column, columns}
use Rattle.laws.specs.Passes.{drop_end}
use Rattle.chart.specs.Columns.{length_column}
use Rattle.chart.specs.Writing.{column_over, over_over, length_over}
use Rattle.compiler.specs.Compilable.{TargetRoom, PairRoom}

-- the part from a on that is lent, and the whole when it is back
abbrev pub lent : ℕ → List ℕ → List ℕ
lent a s = take (length s - a) (drop a s)

abbrev pub back : ℕ → List ℕ → List ℕ → List ℕ
back a s v = take a s ++ (v ++ drop (length s - a) (drop a s))

module _ (p q s : List ℕ) (a : ℕ) (split : s ≡ p ++ q) (at : length p ≡ a) where
  rest : drop a s ≡ q
  rest = ap (drop a) split ∙ drop_at p q a at

  size : length s - a ≡ length q
  size = rw (← at) (omega (arith, ap length split ∙ length-append p q))

  pub lent_is : lent a s ≡ q
  lent_is = rw (rest, size) (take-length q)

  pub back_is : (v : List ℕ) → back a s v ≡ p ++ v
  back_is v = rw (rest, size, drop-length q, append-nil v, split, take_at p q a at)

module _ (numbers : List ℕ) where
  abbrev c : Chart
  c = chart_of numbers

  abbrev n : ℕ
  n = row_count numbers

  -- the children are there for the default targets
  pub pair_ready : (sets half : List ℕ) → PairRoom numbers sets → half ≡ column_over (children c) n sets → TargetRoom numbers half
  pair_ready sets half h e =
      let r = h.room in
      let s = length_over (children c) n sets (omega arith) in
      record {
        numbers_keep = h.numbers_keep;
        room = rw e (omega arith);
        kids = e ∙ sym (over_over (children c) (children c) n n sets (omega arith)) ∙ ap (column_over (children c) n) (sym e);
      }

  pub pair_end : (sets half whole : List ℕ) → half ≡ column_over (children c) n sets → whole ≡ column (children c) n ++ column_over (default_targets c) n (drop (n * 4) half) →
      whole ≡ column (children c) n ++ column_over (default_targets c) n (drop (n * 4) sets)
  unfolding column_over
  pair_end sets half whole e f =
      f ∙ rw (e, drop_at (column (children c) n) (drop (n * 4) sets) (n * 4) (length_column (children c) n))

  abbrev t : ℕ
  t = transition_count numbers

  pub columns_written : (m : ℕ) (s0 s1 v2 v3 v4 : List ℕ) → m ≡ n → length s0 ≡ n * 16 + t * 4 →
      s1 ≡ column_over (ancestors c) n s0 →
      v2 ≡ column_over (descendants c) n (lent (m * 4) s1) →
      v3 ≡ column (children c) n ++ column_over (default_targets c) n (drop (n * 4) (lent (m * 8) (back (m * 4) s1 v2))) →
      v4 ≡ column_over (anchors c) t (lent (m * 16) (back (m * 8) (back (m * 4) s1 v2) v3)) →
      back (m * 16) (back (m * 8) (back (m * 4) s1 v2) v3) v4 ≡ columns c
  unfolding column_over columns
  columns_written m s0 s1 v2 v3 v4 e l h1 h2 h3 h4 =
      let A = column (ancestors c) n in
      let D = column (descendants c) n in
      let C = column (children c) n in
      let T = column (default_targets c) n in
      let N = column (anchors c) t in
      let a1 : length A ≡ m * 4 = length_column (ancestors c) n ∙ omega arith in
      let a2 : length (A ++ D) ≡ m * 8 = length-append A D ∙ rw (length_column (ancestors c) n, length_column (descendants c) n) (omega arith) in
      let a4 : length ((A ++ D) ++ (C ++ T)) ≡ m * 16 =
      length-append (A ++ D) (C ++ T) ∙ rw (a2, length-append C T, length_column (children c) n, length_column (default_targets c) n) (omega arith) in
      let r2 = drop (n * 4) (drop (n * 4) s0) in
      let r4 = drop (n * 4) (drop (n * 4) r2) in
      let s2 : back (m * 4) s1 v2 ≡ (A ++ D) ++ r2 =
      back_is A (drop (n * 4) s0) s1 (m * 4) h1 a1 v2 ∙ rw (h2, lent_is A (drop (n * 4) s0) s1 (m * 4) h1 a1) (simp append_assoc) in
      let s3 : back (m * 8) (back (m * 4) s1 v2) v3 ≡ ((A ++ D) ++ (C ++ T)) ++ r4 =
      back_is (A ++ D) r2 (back (m * 4) s1 v2) (m * 8) s2 a2 v3 ∙ rw (h3, lent_is (A ++ D) r2 (back (m * 4) s1 v2) (m * 8) s2 a2) (simp append_assoc) in
      let end : drop (t * 4) r4 ≡ [] =
      drop_end (t * 4) r4 (simp length-drop (omega arith)) in
      back_is ((A ++ D) ++ (C ++ T)) r4 (back (m * 8) (back (m * 4) s1 v2) v3) (m * 16) s3 a4 v4 ∙
      rw (h4, lent_is ((A ++ D) ++ (C ++ T)) r4 (back (m * 8) (back (m * 4) s1 v2) v3) (m * 16) s3 a4, end) (simp (append_assoc, append-nil))
