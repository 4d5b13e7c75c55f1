-- Sets of histories at rows, four words each: what stands at a row, and what a put changes.
use Rattle.std.specs.Prelude.{◌≡◌, Bool, ◌&&◌, ◌||◌, List, ◌++◌, ltb, take}
use Rattle.std.proofs.Math.Path.{refl, ap}
use Rattle.std.proofs.Common.{sym, ◌∙◌}
use Rattle.std.proofs.Math.Bool.{true, false}
use Prim.Native.Nat.{ℕ, ◌+◌, ◌*◌, ◌-◌, ◌≤◌, ◌<◌}
use native.Mathlib.Omega.{arith}
use Rattle.std.proofs.Math.Dec.{eqb}
use Rattle.std.proofs.Math.ListN.{length, get_or, drop, get_or-append}
use Rattle.std.proofs.Math.Seq.{get_or-take, get_or-drop, get_or-append-add, length-take-le}
use borrow.Author.Tests.{lt-ltb, le-ltb}
use Rattle.definition.specs.Rows.{mem, insert}
use Rattle.definition.specs.Compiled.{words, column}
use Rattle.laws.specs.Bools.{or_false, and_false, eq_case}
use Rattle.laws.specs.Sets.{mem_insert}
use Rattle.laws.specs.Orders.{union_none, lt_case}
use Rattle.numbers.specs.declared.Row.{Row}
use Rattle.rowset.specs.declared.RowSet.{RowSet}
use Rattle.std.specs.declared.option.Option.{Option}
use Rattle.std.specs.declared.option.Option.TheVariants.{Some, None}
use Rattle.rowset.specs.Member.{rows_of, next_in}
use Rattle.rowset.specs.Rows.{ascends_rows, rows_low}
use Rattle.rowset.specs.Visits.{found_next, next_small, no_next}
use Rattle.chart.specs.Ready.{row_set_at}
use Rattle.chart.specs.Columns.{rows_set_of, column_none, column_more, set_in_column}
use Rattle.chart.specs.Writing.{put_at, length_put}

-- the set at row r has history h
unfoldable pub has_at : List ℕ → ℕ → ℕ → Bool
has_at marks r h = mem h (rows_of (row_set_at marks (r * 4)))

-- ---- one put

length_words : (xs : List ℕ) → length (words xs) ≡ 4
unfolding words
length_words xs = refl

module _ (marks : List ℕ) (k : ℕ) (s : RowSet) (l : k * 4 + 4 ≤ length marks) where
  abbrev same_set : ℕ → List ℕ
  same_set i = rows_of s

  one_set : column same_set 1 ≡ words (rows_of s)
  one_set = column_more same_set 0 ∙ ap (λ (xs : List ℕ). xs ++ words (rows_of s)) (column_none same_set)

  put_form : put_at marks (k * 4) (rows_of s) ≡ take (k * 4) marks ++ (column same_set 1 ++ drop (k * 4 + 4) marks)
  unfolding put_at
  put_form = rw one_set

  put_rows : rows_of (row_set_at (put_at marks (k * 4) (rows_of s)) (k * 4)) ≡ rows_of s
  put_rows =
      let e : k * 4 + 0 * 4 ≡ k * 4 = omega arith in
      ap rows_of (ap (row_set_at (put_at marks (k * 4) (rows_of s))) (sym e) ∙
      set_in_column same_set (put_at marks (k * 4) (rows_of s)) (take (k * 4) marks) (drop (k * 4 + 4) marks) 1 0 (k * 4) put_form (length-take-le (k * 4) marks (omega arith)) (omega arith)) ∙
      rows_set_of (rows_of s) (rows_low s) ∙ union_none 0 (rows_of s) (ascends_rows s)

  pub put_here : (x : ℕ) → has_at (put_at marks (k * 4) (rows_of s)) k x ≡ mem x (rows_of s)
  unfolding has_at
  put_here x = ap (mem x) put_rows

  word_before : (i : ℕ) → i < k * 4 → get_or (put_at marks (k * 4) (rows_of s)) i 0 ≡ get_or marks i 0
  unfolding put_at
  word_before i h =
      let z = length-take-le (k * 4) marks (omega arith) in
      get_or-append (take (k * 4) marks) (words (rows_of s) ++ drop (k * 4 + 4) marks) 0 i (omega arith) ∙ get_or-take (k * 4) marks i 0 h

  word_behind : (i : ℕ) → k * 4 + 4 ≤ i → get_or (put_at marks (k * 4) (rows_of s)) i 0 ≡ get_or marks i 0
  unfolding put_at
  word_behind i h =
      let m : ℕ = i - (k * 4 + 4) in
      let z = length-take-le (k * 4) marks (omega arith) in
      let w = length_words (rows_of s) in
      let e : i ≡ length (take (k * 4) marks) + (length (words (rows_of s)) + m) = omega arith in
      let f : k * 4 + 4 + m ≡ i = omega arith in
      ap (λ (j : ℕ). get_or (take (k * 4) marks ++ (words (rows_of s) ++ drop (k * 4 + 4) marks)) j 0) e ∙
      get_or-append-add (take (k * 4) marks) (words (rows_of s) ++ drop (k * 4 + 4) marks) (length (words (rows_of s)) + m) 0 ∙
      get_or-append-add (words (rows_of s)) (drop (k * 4 + 4) marks) m 0 ∙ get_or-drop (k * 4 + 4) marks m 0 ∙ ap (λ (j : ℕ). get_or marks j 0) f

  word_other : (j i : ℕ) → (j ≡ k → ⊥) → j * 4 ≤ i → i < j * 4 + 4 → get_or (put_at marks (k * 4) (rows_of s)) i 0 ≡ get_or marks i 0
  word_other j i n a b = lt_case j k (λ g. word_before i (omega arith)) (λ g. lt_case k j (λ q. word_behind i (omega arith)) (λ q. absurd (n (omega arith))))

  set_other : (j : ℕ) → (j ≡ k → ⊥) → row_set_at (put_at marks (k * 4) (rows_of s)) (j * 4) ≡ row_set_at marks (j * 4)
  unfolding row_set_at
  set_other j n =
      let e0 = word_other j (j * 4) n (omega arith) (omega arith) in
      let e1 = word_other j (j * 4 + 1) n (omega arith) (omega arith) in
      let e2 = word_other j (j * 4 + 2) n (omega arith) (omega arith) in
      let e3 = word_other j (j * 4 + 3) n (omega arith) (omega arith) in
      λ i. record { w0 = e0 i; w1 = e1 i; w2 = e2 i; w3 = e3 i }

  pub put_other : (j x : ℕ) → (j ≡ k → ⊥) → has_at (put_at marks (k * 4) (rows_of s)) j x ≡ has_at marks j x
  unfolding has_at
  put_other j x n = ap (λ (z : RowSet). mem x (rows_of z)) (set_other j n)

-- ---- one history at many rows

pub record Marked (before after : List ℕ) (h : ℕ) (rows : List ℕ) : Type 0 where
  pub size : length after ≡ 1024
  pub at : (r x : ℕ) → has_at after r x ≡ (has_at before r x || (eqb x h && mem r rows))

-- those below k are done
pub record MarkedTo (before after : List ℕ) (h : ℕ) (rows : RowSet) (k : ℕ) : Type 0 where
  pub size : length after ≡ 1024
  pub at : (r x : ℕ) → has_at after r x ≡ (has_at before r x || (eqb x h && (ltb r k && mem r (rows_of rows))))

module _ (before : List ℕ) (h : ℕ) (rows : RowSet) where
  pub mark_begin : length before ≡ 1024 → MarkedTo before before h rows 0
  mark_begin l = record { size = l; at = λ r x. sym (rw (le-ltb r 0 (omega arith), and_false (eqb x h)) (or_false (has_at before r x))) }

  module _ (now : List ℕ) (k : ℕ) (m : MarkedTo before now h rows k) (o : Option Row) (e : o ≡ next_in (rows_of rows) k) where
    pub mark_room : (r : Row) → o ≡ Some r → r.0 * 4 + 4 ≤ length now
    mark_room r q = let b = next_small rows k o e r q in let z = m.size in omega arith

    pub mark_turn : (r : Row) (s t : RowSet) (next : List ℕ) → o ≡ Some r → s ≡ row_set_at now (r.0 * 4) → rows_of t ≡ insert h (rows_of s) → next ≡ put_at now (r.0 * 4) (rows_of t) →
        MarkedTo before next h rows (r.0 + 1)
    unfolding has_at
    mark_turn r s t next q f g u =
        let l = mark_room r q in
        let n = found_next rows k o e r q in
        record {
          size = ap length u ∙ length_put now (r.0 * 4) (rows_of t) l ∙ m.size;
          at = λ j x. eq_case j r.0
              (λ p. rw (p, u) (put_here now r.0 t l x ∙ ap (mem x) g ∙ mem_insert x h (rows_of s) ∙ ap (λ (b : Bool). eqb x h || b) (ap (λ (z : RowSet). mem x (rows_of z)) f ∙ m.at r.0 x) ∙
              rw (le-ltb r.0 k n.low, lt-ltb r.0 (r.0 + 1) (omega arith), n.here) (here (eqb x h) (has_at before r.0 x))))
              (λ p. rw u (put_other now r.0 t l j x p ∙ m.at j x ∙ ap (λ (b : Bool). has_at before j x || (eqb x h && b)) (there j p)));
        }
      where
        here : (a b : Bool) → (a || (b || (a && (false && true)))) ≡ (b || (a && (true && true)))
        here true true = refl
        here true false = refl
        here false true = refl
        here false false = refl

        there : (j : ℕ) → (j ≡ r.0 → ⊥) → (ltb j k && mem j (rows_of rows)) ≡ (ltb j (r.0 + 1) && mem j (rows_of rows))
        there j p =
            let n = found_next rows k o e r q in
            let a = n.low in
            lt_case j k (λ d. rw (lt-ltb j k d, lt-ltb j (r.0 + 1) (omega arith)))
            (λ d. lt_case j r.0 (λ w. rw (le-ltb j k d, lt-ltb j (r.0 + 1) (omega arith), n.none j d w)) (λ w. rw (le-ltb j k d, le-ltb j (r.0 + 1) (omega (arith, p)))))

    pub mark_end : o ≡ None → Marked before now h (rows_of rows)
    mark_end q =
        record {
          size = m.size;
          at = λ r x. m.at r x ∙ ap (λ (b : Bool). has_at before r x || (eqb x h && b))
              (lt_case r k (λ d. rw (lt-ltb r k d)) (λ d. rw (le-ltb r k d, no_next rows k o e q r d)));
        }
