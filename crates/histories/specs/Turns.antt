-- The pass over the rows, each after its children: what it tells of a row, and of all places once it ends.
use Rattle.std.specs.Prelude.{◌≡◌, refl, Bool, ◌&&◌, ◌||◌, List, ℕ, zero, suc, ◌+◌, ◌*◌, ◌≤◌, ◌<◌, length}
use Rattle.std.proofs.Math.Path.{sym, ap}
use Rattle.std.proofs.Common.{◌∙◌, arith}
use Rattle.std.proofs.Math.Bool.{true, false, not, cond}
use Rattle.std.proofs.Math.Dec.{eqb, ltb}
use borrow.Author.Tests.{lt-ltb, le-ltb, ltb-true, not-true}
use Rattle.definition.specs.Rows.{from, mem, is_in, any, all, is_empty, is_set, minus, subset}
use Rattle.definition.specs.Chart.{Chart, kind, parent, is_root, is_parallel, is_shallow, is_history}
use Rattle.definition.specs.Tables.{row_count, chart_of}
use Rattle.definition.specs.Tree.{children}
use Rattle.follower.specs.Microstep.{paths_below}
use Rattle.follower.specs.Legal.{children_fit, is_atomic_below, deep_fits, is_storable}
use Rattle.laws.specs.Bools.{no, clash, bool_case, not_so, eq_case, or_elim, and3, and_left, and_right, and_true}
use Rattle.laws.specs.Sets.{mem_minus}
use Rattle.laws.specs.Lists.{any_true, all_mem, mem_all, full_mem, empty_list, subset_mem, set_below}
use Rattle.laws.specs.Loops.{each_below, below_each, all_leave}
use Rattle.laws.specs.Orders.{lt_case}
use Rattle.accepted.specs.Tree.{not_root, mem_children}
use Rattle.accepted.specs.Sound.{Sound}
use Rattle.theory.specs.Entry.{child_after, path_after}
use Rattle.rowset.specs.declared.RowSet.{RowSet}
use Rattle.rowset.specs.Member.{rows_of}
use Rattle.rowset.specs.Rows.{rows_low}
use Rattle.paths.specs.History.{stored_at}
use Rattle.chart.specs.Ready.{row_set_at}
use Rattle.chart.specs.Writing.{put_at, length_put}
use Rattle.legality.specs.Rows.{fit_empty}
use Rattle.histories.specs.Marks.{has_at, put_here, put_other}
use Rattle.histories.specs.Shares.{Shared, two, rows_with, local_fits, any_cong, local_cong, local_idle, fits_local}
use Rattle.histories.specs.Paths.{top_child, inner_child, outer, bare_path, inner_path}
use Rattle.histories.specs.Places.{holds_place, is_good, has_deep, is_put, PutTo, good_rest}

-- ---- one row

pub record RowJudged (chart before after : List ℕ) (r : ℕ) (b : Bool) : Type 0 where
  pub size : length after ≡ 1024
  pub other : (j x : ℕ) → (j ≡ r → ⊥) → has_at after j x ≡ has_at before j x
  pub own : (x : ℕ) → has_at after r x ≡ cond (is_empty (children (chart_of chart) r)) (has_at before r x) (any (rows_with before x) (children (chart_of chart) r) && not (has_at before r x))
  pub fits : b ≡ true → (x : ℕ) → x < 256 → local_fits (chart_of chart) (rows_with before x) r ≡ true
  pub fails : b ≡ false → (x : ℕ) × (local_fits (chart_of chart) (rows_with before x) r ≡ false)

module _ (chart before : List ℕ) (r : ℕ) (l : length before ≡ 1024) (kids : List ℕ) (ek : kids ≡ children (chart_of chart) r) (e : Bool) (ee : e ≡ is_empty kids) where
  abbrev c : Chart
  c = chart_of chart

  pub judge_bare : e ≡ true → RowJudged chart before before r true
  unfolding any
  judge_bare t =
      let z : is_empty (children c r) ≡ true = rw (← ek) (sym ee ∙ t) in
      record {
        size = l;
        other = λ j x n. refl;
        own = λ x. sym (rw z);
        fits = λ _ x _. local_idle c r (rows_with before x) (rw (empty_list (children c r) z));
        fails = λ n. absurd (no (sym n));
      }

  module _ (full : e ≡ false) (some twice every own left : RowSet) (after : List ℕ) (low : r < 256) (sh : Shared before kids (rows_of some) (rows_of twice) (rows_of every)) (eo : own ≡ row_set_at before (r * 4))
      (el : rows_of left ≡ minus (rows_of some) (rows_of own)) (ea : after ≡ put_at before (r * 4) (rows_of left)) where
    has : is_empty (children c r) ≡ false
    has = rw (← ek) (sym ee ∙ full)

    room : r * 4 + 4 ≤ length before
    room = omega arith

    in_some_lem : (x : ℕ) → mem x (rows_of some) ≡ any (rows_with before x) (children c r)
    in_some_lem x = rw (← ek) (sh.in_some x)

    in_twice : (x : ℕ) → mem x (rows_of twice) ≡ two (rows_with before x) (children c r)
    in_twice x = rw (← ek) (sh.in_twice_rows x)

    in_every_lem : (x : ℕ) → x < 256 → mem x (rows_of every) ≡ all (rows_with before x) (children c r)
    in_every_lem x b = rw (← ek) (sh.in_every x b)

    after_own : (x : ℕ) → has_at after r x ≡ (any (rows_with before x) (children c r) && not (has_at before r x))
    unfolding has_at
    after_own x = rw ea (put_here before r left room x ∙ ap (mem x) el ∙ mem_minus x (rows_of some) (rows_of own) ∙ rw (in_some_lem x, eo))

    judged : (b : Bool) → (b ≡ true → (x : ℕ) → x < 256 → local_fits c (rows_with before x) r ≡ true) → (b ≡ false → (x : ℕ) × (local_fits c (rows_with before x) r ≡ false)) →
        RowJudged chart before after r b
    judged b f g =
        record {
          size = ap length ea ∙ length_put before (r * 4) (rows_of left) room ∙ l;
          other = λ j x n. rw ea (put_other before r left room j x n);
          own = λ x. after_own x ∙ sym (rw has);
          fits = f;
          fails = g;
        }

    pub judge_parallel : (b : Bool) → is_parallel (kind c r) ≡ true → b ≡ subset (rows_of some) (rows_of every) → RowJudged chart before after r b
    unfolding local_fits subset
    judge_parallel b p f =
        judged b
        (λ t x m. rw p (bool_case (any (rows_with before x) (children c r)) (λ a. rw a (sym (in_every_lem x m) ∙ subset_mem (rows_of some) (rows_of every) (sym f ∙ t) x (in_some_lem x ∙ a))) (λ a. rw a)))
        (λ t. let w = full_mem (minus (rows_of some) (rows_of every)) (sym f ∙ t) in
        let k : (mem w.0 (rows_of some) && not (mem w.0 (rows_of every))) ≡ true = sym (mem_minus w.0 (rows_of some) (rows_of every)) ∙ w.1 in
        let m = and_left (mem w.0 (rows_of some)) _ k in
        (w.0, rw (p, sym (in_some_lem w.0) ∙ m, sym (in_every_lem w.0 (rows_low some w.0 m)) ∙ not-true _ (and_right (mem w.0 (rows_of some)) _ k))))

    pub judge_plain : (b : Bool) → is_parallel (kind c r) ≡ false → b ≡ is_empty (rows_of twice) → RowJudged chart before after r b
    unfolding local_fits mem
    judge_plain b p f =
        judged b
        (λ t x m. rw (p, sym (in_twice x) ∙ ap (mem x) (empty_list (rows_of twice) (sym f ∙ t))))
        (λ t. let w = full_mem (rows_of twice) (sym f ∙ t) in (w.0, rw (p, sym (in_twice w.0) ∙ w.1)))

-- ---- the rows from i on are done

unfoldable pub is_on : Chart → List ℕ → ℕ → ℕ → ℕ → Bool
is_on c history i x j = cond (ltb j i) (mem j (stored_at history x) || eqb j (parent c x)) (mem j (paths_below c (parent c x) (stored_at history x)))

pub record Judging (chart history marks : List ℕ) (i : ℕ) : Type 0 where
  pub size : length marks ≡ 1024
  pub most : i ≤ row_count chart
  pub at : (j x : ℕ) → j < row_count chart → has_at marks j x ≡ ((ltb x (row_count chart) && has_deep (chart_of chart) history x) && is_on (chart_of chart) history i x j)
  pub fits : (x r : ℕ) → x < row_count chart → has_deep (chart_of chart) history x ≡ true → i ≤ r → r < row_count chart →
      local_fits (chart_of chart) (is_in (paths_below (chart_of chart) (parent (chart_of chart) x) (stored_at history x))) r ≡ true

and_group : (a b d : Bool) → (a && (b && d)) ≡ ((a && b) && d)
and_group true b d = refl
and_group false b d = refl

module _ (chart history : List ℕ) (g : Sound (chart_of chart)) (few : row_count chart ≤ 256) where
  abbrev own : Chart
  own = chart_of chart

  abbrev n : ℕ
  n = row_count chart

  pub judge_begin : (marks : List ℕ) → PutTo own history marks n → Judging chart history marks n
  unfolding is_put is_on
  judge_begin marks p =
      record {
        size = p.size;
        most = omega arith;
        at = λ j x l. p.at j x ∙ and_group (ltb x n) (has_deep own history x) _ ∙ sym (rw (lt-ltb j n l));
        fits = λ x r a b d e. absurd (omega arith);
      }

  module _ (good : all (is_good own history) (from n 0) ≡ true) where
    -- a deep history that is good
    module _ (x : ℕ) (l : x < n) (deep : has_deep own history x ≡ true) where
      abbrev stored : List ℕ
      stored = stored_at history x

      abbrev paths : List ℕ
      paths = paths_below own (parent own x) stored

      full : is_empty stored ≡ false
      unfolding has_deep
      full = not-true _ (and_left (not (is_empty stored)) _ deep)

      is_history_lem : is_history (kind own x) ≡ true
      unfolding has_deep
      is_history_lem = and_left (is_history (kind own x)) _ (and_right (not (is_empty stored)) _ deep)

      not_shallow : is_shallow (kind own x) ≡ false
      unfolding has_deep
      not_shallow = not-true _ (and_right (is_history (kind own x)) _ (and_right (not (is_empty stored)) _ deep))

      told : (is_set n stored ≡ true) × (all (is_atomic_below own (parent own x)) stored ≡ true)
      unfolding is_good
      told =
          let h : (is_set n stored && all (is_atomic_below own (parent own x)) stored) ≡ true = rw (full, is_history_lem, not_shallow) at (each_below (is_good own history) n good x l) in
          (and_left (is_set n stored) _ h, and_right (is_set n stored) _ h)

      inside : (y : ℕ) → mem y stored ≡ true → y < n
      inside y m = set_below n stored told.0 y m

      each : (y : ℕ) → mem y stored ≡ true → is_atomic_below own (parent own x) y ≡ true
      each y m = all_mem (is_atomic_below own (parent own x)) stored told.1 y m

      some_row : (y : ℕ) × (mem y stored ≡ true)
      some_row = full_mem stored full

      -- what fails at a row
      pub deep_fails : (r : ℕ) → local_fits own (is_in paths) r ≡ false → holds_place own history x ≡ false
      unfolding holds_place is_storable deep_fits
      deep_fails r f =
          let a : any (is_in paths) (children own r) ≡ true = bool_case (any (is_in paths) (children own r)) (λ e. e) (λ e. absurd (clash _ (local_idle own r (is_in paths) e) f)) in
          let k : children_fit own paths r ≡ false = fits_local own r g.tree paths a ∙ f in
          not_so (holds_place own history x)
          (or_elim (is_empty stored) (is_history (kind own x) && is_storable own x stored) (λ e. clash _ e full)
          (λ e. let d = and3 (all (is_atomic_below own (parent own x)) stored) (children_fit own paths (parent own x)) (all (children_fit own paths) paths)
          (rw not_shallow at (and_right (is_set n stored) _ (and_right (is_history (kind own x)) _ e))) in
          outer own g (parent own x) stored inside each r a (λ q. clash _ d.1 (rw q at k)) (λ m. clash _ (all_mem (children_fit own paths) paths d.2 r m) k)))

      -- where all rows fit
      pub deep_holds : ((r : ℕ) → r < n → local_fits own (is_in paths) r ≡ true) → holds_place own history x ≡ true
      unfolding holds_place is_storable deep_fits
      deep_holds f =
          rw (full, is_history_lem, not_shallow, told.0, told.1)
          (and_true (children_fit own paths (parent own x)) _ (fit (parent own x) (top_child own g (parent own x) stored inside each some_row.0 some_row.1))
          (mem_all (children_fit own paths) paths on))
        where
          fit : (r : ℕ) → any (is_in paths) (children own r) ≡ true → children_fit own paths r ≡ true
          fit r a =
              let w = any_true (is_in paths) (children own r) a in
              fits_local own r g.tree paths a ∙ f r (omega (arith, child_after own g.tree r w.0 w.1, (mem_children own g.tree r w.0 w.1).0))

          plain : (r : ℕ) → mem r paths ≡ true → is_root (kind own r) ≡ false
          plain zero m = absurd (omega (arith, path_after own g.tree (parent own x) stored 0 m))
          plain (suc r) m = not_root own g.tree r

          on : (r : ℕ) → mem r paths ≡ true → children_fit own paths r ≡ true
          on r m =
              bool_case (is_empty (children own r)) (λ e. sym (fit_empty own paths r (children own r) true (plain r m) refl (sym e) refl))
              (λ e. fit r (inner_child own g (parent own x) stored inside each r e m))

    module _ (before after : List ℕ) (i k : ℕ) (b : Bool) (s : i ≡ suc k) (j : Judging chart history before i) (t : RowJudged chart before after k b) where
      inner : k < n
      inner = let m = j.most in omega arith

      -- a child is done
      kid_at : (x y : ℕ) → mem y (children own k) ≡ true → rows_with before x y ≡ ((ltb x n && has_deep own history x) && mem y (paths_below own (parent own x) (stored_at history x)))
      unfolding rows_with is_on
      kid_at x y m =
          let a = child_after own g.tree k y m in
          j.at y x (mem_children own g.tree k y m).0 ∙ rw (le-ltb y i (omega arith))

      same_kids : (x : ℕ) → (ltb x n && has_deep own history x) ≡ true → local_fits own (rows_with before x) k ≡ local_fits own (is_in (paths_below own (parent own x) (stored_at history x))) k
      same_kids x d = local_cong own k (rows_with before x) (is_in (paths_below own (parent own x) (stored_at history x))) (λ y m. kid_at x y m ∙ rw d)

      pub judge_stop : b ≡ false → false ≡ all (holds_place own history) (from n 0)
      judge_stop f =
          let w = t.fails f in
          bool_case (ltb w.0 n && has_deep own history w.0)
          (λ d. let l : w.0 < n = ltb-true _ _ (and_left (ltb w.0 n) _ d) in
          all_leave (holds_place own history) w.0 n n l refl (deep_fails w.0 l (and_right (ltb w.0 n) _ d) k (sym (same_kids w.0 d) ∙ w.1)))
          (λ d. absurd (clash _ (local_idle own k (rows_with before w.0) (not_so _ (λ a.
          let y = any_true (rows_with before w.0) (children own k) a in clash _ y.2 (kid_at w.0 y.0 y.1 ∙ rw d)))) w.1))

      -- the row itself
      here_at : (x : ℕ) (d : Bool) → (ltb x n && has_deep own history x) ≡ d → has_at after k x ≡ (d && mem k (paths_below own (parent own x) (stored_at history x)))
      unfolding is_on
      here_at x false d =
          t.own x ∙ bool_case (is_empty (children own k)) (λ e. rw e (j.at k x inner ∙ rw d))
          (λ e. rw (e, not_so (any (rows_with before x) (children own k)) (λ a. let y = any_true (rows_with before x) (children own k) a in clash _ y.2 (kid_at x y.0 y.1 ∙ rw d))))
      here_at x true d =
          let l : x < n = ltb-true _ _ (and_left (ltb x n) _ d) in
          let h = and_right (ltb x n) _ d in
          let q : has_at before k x ≡ (mem k (stored_at history x) || eqb k (parent own x)) = j.at k x inner ∙ rw (d, lt-ltb k i (omega arith)) in
          t.own x ∙
          bool_case (is_empty (children own k))
          (λ e. rw e (q ∙ bare_path own g (parent own x) (stored_at history x) (inside x l h) (each x l h) (some_row x l h).0 k (some_row x l h).1 inner e))
          (λ e. rw (e, q, any_same x d) (inner_path own g (parent own x) (stored_at history x) (inside x l h) (each x l h) k e))
        where
          any_same : (x : ℕ) → (ltb x n && has_deep own history x) ≡ true →
              any (rows_with before x) (children own k) ≡ any (is_in (paths_below own (parent own x) (stored_at history x))) (children own k)
          any_same x d = any_cong (rows_with before x) (is_in (paths_below own (parent own x) (stored_at history x))) (children own k) (λ y m. kid_at x y m ∙ rw d)

      pub judge_turn : b ≡ true → Judging chart history after k
      unfolding is_on
      judge_turn f =
          record {
            size = t.size;
            most = let m = j.most in omega arith;
            at = λ y x l. eq_case y k (λ e. rw (e, le-ltb k k (omega arith)) (here_at x (ltb x n && has_deep own history x) refl))
                (λ e. t.other y x e ∙ j.at y x l ∙ ap (λ (z : Bool). (ltb x n && has_deep own history x) && cond z (mem y (stored_at history x) || eqb y (parent own x))
                (mem y (paths_below own (parent own x) (stored_at history x)))) (same y e));
            fits = λ x r l d a m. eq_case r k (λ e. rw e (sym (same_kids x (and_true (ltb x n) _ (lt-ltb x n l) d)) ∙ t.fits f x (omega arith)))
                (λ e. j.fits x r l d (omega (arith, e)) m);
          }
        where
          same : (y : ℕ) → (y ≡ k → ⊥) → ltb y i ≡ ltb y k
          same y e = lt_case y k (λ l. rw (lt-ltb y k l, lt-ltb y i (omega arith))) (λ l. rw (le-ltb y k l, le-ltb y i (omega (arith, e))))

    pub judge_end : (marks : List ℕ) (i : ℕ) → Judging chart history marks i → i ≤ 0 → true ≡ all (holds_place own history) (from n 0)
    judge_end marks i j z =
        sym (below_each (holds_place own history) n
        (λ x l. bool_case (has_deep own history x) (λ d. deep_holds x l d (λ r m. j.fits x r l d (omega arith) m)) (λ d. good_rest own history x (each_below (is_good own history) n good x l) d)))
