-- A place of stored history: when it holds, what can be told of it by itself, and the rows at which its history is put.
use Rattle.std.specs.Prelude.{◌≡◌, Bool, not, ◌&&◌, ◌||◌, cond, List, ℕ, ◌+◌, ◌*◌, ◌≤◌, ◌<◌, eqb, ltb, length, get_or, replicate}
use Rattle.std.proofs.Math.Path.{refl, sym, ap}
use Rattle.std.proofs.Common.{◌∙◌, arith, eq-eqb, ne_eqb, lt-ltb, le-ltb}
use Rattle.std.proofs.Math.Bool.{true, false}
use Rattle.std.proofs.lemmas.List.{length-replicate, get_or-replicate}
use Rattle.std.proofs.Math.ListN.{get_or-eq_default}
use Rattle.std.proofs.lemmas.Bool.{not-true, not-false}
use Rattle.definition.specs.Rows.{from, mem, all, is_empty, is_set, insert, intersection, subset}
use Rattle.definition.specs.Chart.{Chart, kind, parent, is_shallow, is_history}
use Rattle.definition.specs.Tables.{row_count, chart_of}
use Rattle.definition.specs.Tree.{is_descendant, descendants, is_atomic}
use Rattle.follower.specs.Legal.{is_atomic_below, deep_fits, is_storable}
use Rattle.laws.specs.Bools.{no, or_false, clash, not_so, both_ways, eq_case, and_left, and_right, and_true}
use Rattle.laws.specs.Sets.{mem_those, mem_insert, mem_intersection}
use Rattle.laws.specs.Lists.{all_mem, mem_all, subset_mem, mem_subset, ascends_set, set_below}
use Rattle.laws.specs.Loops.{all_begin, all_turn, all_leave, each_below, below_each}
use Rattle.laws.specs.Orders.{lt_case}
use Rattle.accepted.specs.Sound.{mem_descendants, descendants_mem}
use Rattle.rowset.specs.declared.RowSet.{RowSet}
use Rattle.rowset.specs.Member.{rows_of}
use Rattle.rowset.specs.Rows.{ascends_rows, rows_empty}
use Rattle.paths.specs.History.{stored_at}
use Rattle.chart.specs.Ready.{row_set_at}
use Rattle.matching.specs.Chosen.{atomic_rows}
use Rattle.histories.specs.Marks.{has_at, Marked}

-- the set stored at a place is none, or one that the history of that row may have stored
unfoldable pub holds_place : Chart → List ℕ → ℕ → Bool
holds_place c history h = is_empty (stored_at history h) || (is_history (kind c h) && is_storable c h (stored_at history h))

-- what can be told of it by itself: of a deep history that it stores atomic rows below its parent
unfoldable pub is_good : Chart → List ℕ → ℕ → Bool
is_good c history h =
    is_empty (stored_at history h) ||
    (is_history (kind c h) &&
    cond (is_shallow (kind c h)) (is_storable c h (stored_at history h)) (is_set c.rows (stored_at history h) && all (is_atomic_below c (parent c h)) (stored_at history h)))

-- a deep history that has stored
unfoldable pub has_deep : Chart → List ℕ → ℕ → Bool
has_deep c history h = not (is_empty (stored_at history h)) && (is_history (kind c h) && not (is_shallow (kind c h)))

-- it is put at the rows that it stores and at its parent
unfoldable pub is_put : Chart → List ℕ → ℕ → ℕ → Bool
is_put c history h r = has_deep c history h && (mem r (stored_at history h) || eqb r (parent c h))

-- what is no deep history that has stored holds if it is good
pub good_rest : (c : Chart) (history : List ℕ) (h : ℕ) → is_good c history h ≡ true → has_deep c history h ≡ false → holds_place c history h ≡ true
unfolding is_good has_deep holds_place
good_rest c history h = go (is_empty (stored_at history h)) (is_history (kind c h)) (is_shallow (kind c h)) (is_storable c h (stored_at history h)) _
  where
    go : (e k w u v : Bool) → (e || (k && cond w u v)) ≡ true → (not e && (k && not w)) ≡ false → (e || (k && u)) ≡ true
    go true k w u v g d = refl
    go false true true u v g d = g
    go false true false u v g d = absurd (no (sym d))
    go false false w u v g d = g

-- what holds is good
hold_good : (c : Chart) (history : List ℕ) (h : ℕ) → holds_place c history h ≡ true → is_good c history h ≡ true
unfolding holds_place is_good is_storable deep_fits
hold_good c history h = go (is_empty (stored_at history h)) (is_history (kind c h)) (is_shallow (kind c h)) (is_set c.rows (stored_at history h)) _ (all (is_atomic_below c (parent c h)) (stored_at history h)) _ _
  where
    go : (e k w o u a v z : Bool) → (e || (k && (o && cond w u (a && v && z)))) ≡ true → (e || (k && cond w (o && cond w u (a && v && z)) (o && a))) ≡ true
    go true k w o u a v z g = refl
    go false false w o u a v z g = g
    go false true true o u a v z g = g
    go false true false false u a v z g = g
    go false true false true u true v z g = refl
    go false true false true u false v z g = absurd (no g)

-- ---- one place

pub record Marking (chart history before after : List ℕ) (h : ℕ) (b : Bool) : Type 0 where
  pub size : length after ≡ 1024
  pub told : b ≡ is_good (chart_of chart) history h
  pub at : b ≡ true → (r x : ℕ) → has_at after r x ≡ (has_at before r x || (eqb x h && is_put (chart_of chart) history h r))

module _ (chart history before : List ℕ) (h : ℕ) (l : length before ≡ 1024) (s : RowSet) (at : s ≡ row_set_at history (h * 4)) (b : Bool) (e : b ≡ is_empty (rows_of s)) where
  abbrev c : Chart
  c = chart_of chart

  stored_is : rows_of s ≡ stored_at history h
  unfolding stored_at
  stored_is = ap rows_of at

  -- nothing is put
  idle : has_deep c history h ≡ false → (r x : ℕ) → has_at before r x ≡ (has_at before r x || (eqb x h && is_put c history h r))
  unfolding is_put
  idle n r x = sym (rw n (none (eqb x h) (has_at before r x)))
    where
      none : (p q : Bool) → (q || (p && false)) ≡ q
      none true q = or_false q
      none false q = or_false q

  pub mark_none : b ≡ true → Marking chart history before before h true
  unfolding is_good has_deep
  mark_none t =
      let z : is_empty (stored_at history h) ≡ true = rw (← stored_is) (sym e ∙ t) in
      record { size = l; told = sym (rw z); at = λ _. idle (rw z) }

  module _ (full : b ≡ false) where
    some : is_empty (stored_at history h) ≡ false
    some = rw (← stored_is) (sym e ∙ full)

    pub mark_plain : is_history (kind c h) ≡ false → Marking chart history before before h false
    unfolding is_good
    mark_plain k = record { size = l; told = sym (rw (some, k)); at = λ n. absurd (no n) }

    pub mark_shallow : (d : Bool) → is_history (kind c h) ≡ true → is_shallow (kind c h) ≡ true → d ≡ is_storable c h (rows_of s) → Marking chart history before before h d
    unfolding is_good has_deep
    mark_shallow d k w f = record { size = l; told = f ∙ ap (is_storable c h) stored_is ∙ sym (rw (some, k, w)); at = λ _. idle (rw (some, k, w)) }

    module _ (k : is_history (kind c h) ≡ true) (w : is_shallow (kind c h) ≡ false) (p : ℕ) (q : p ≡ parent c h) (leaves below : List ℕ) (both : List ℕ) (d : Bool)
        (el : leaves ≡ atomic_rows c) (eb : below ≡ descendants c p) (ei : both ≡ intersection leaves below) (f : d ≡ subset (rows_of s) both) where
      in_both : (x : ℕ) → mem x both ≡ true → (x < row_count chart) × (is_atomic_below c p x ≡ true)
      unfolding is_atomic_below atomic_rows
      in_both x m =
          let n : (mem x leaves && mem x below) ≡ true = sym (mem_intersection x leaves below) ∙ ap (mem x) (sym ei) ∙ m in
          let a : (ltb x (row_count chart) && is_atomic c x) ≡ true = sym (mem_those (row_count chart) (is_atomic c) x) ∙ ap (mem x) (sym el) ∙ and_left (mem x leaves) _ n in
          let u = mem_descendants c p x (ap (mem x) (sym eb) ∙ and_right (mem x leaves) _ n) in
          (u.0, and_true (is_descendant c p x) _ u.1 (and_right (ltb x (row_count chart)) _ a))

      both_in_lem : (x : ℕ) → x < row_count chart → is_atomic_below c p x ≡ true → mem x both ≡ true
      unfolding is_atomic_below atomic_rows
      both_in_lem x r a =
          ap (mem x) ei ∙ mem_intersection x leaves below ∙
          and_true (mem x leaves) _ (ap (mem x) el ∙ mem_those (row_count chart) (is_atomic c) x ∙ and_true (ltb x (row_count chart)) _ (lt-ltb x (row_count chart) r) (and_right (is_descendant c p x) _ a))
          (ap (mem x) eb ∙ descendants_mem c p x r (and_left (is_descendant c p x) _ a))

      told_both : d ≡ (is_set (row_count chart) (rows_of s) && all (is_atomic_below c p) (rows_of s))
      told_both =
          f ∙
          both_ways (subset (rows_of s) both) (is_set (row_count chart) (rows_of s) && all (is_atomic_below c p) (rows_of s))
          (λ g. and_true (is_set (row_count chart) (rows_of s)) _ (ascends_set (row_count chart) (rows_of s) (ascends_rows s) (λ x m. (in_both x (subset_mem (rows_of s) both g x m)).0))
          (mem_all (is_atomic_below c p) (rows_of s) (λ x m. (in_both x (subset_mem (rows_of s) both g x m)).1)))
          (λ g. mem_subset (rows_of s) both (λ x m. both_in_lem x (set_below (row_count chart) (rows_of s) (and_left (is_set (row_count chart) (rows_of s)) _ g) x m)
          (all_mem (is_atomic_below c p) (rows_of s) (and_right (is_set (row_count chart) (rows_of s)) _ g) x m)))

      good_both : d ≡ is_good c history h
      unfolding is_good
      good_both = told_both ∙ rw (stored_is, q) (sym (rw (some, k, w)))

      pub mark_apart : not d ≡ true → Marking chart history before before h false
      mark_apart n = record { size = l; told = sym (not-true d n) ∙ good_both; at = λ m. absurd (no m) }

      pub mark_deep : (after : List ℕ) (rows : RowSet) → not d ≡ false → rows_of rows ≡ insert p (rows_of s) → Marked before after h (rows_of rows) → Marking chart history before after h true
      unfolding is_put has_deep
      mark_deep after rows n g m =
          record {
            size = m.size;
            told = sym (not-false d n) ∙ good_both;
            at = λ _ r x. m.at r x ∙ ap (λ (z : Bool). has_at before r x || (eqb x h && z))
                (ap (mem r) g ∙ mem_insert r p (rows_of s) ∙ rw (some, k, w, stored_is, q) (swap (eqb r (parent c h)) (mem r (stored_at history h))));
          }
        where
          swap : (a b : Bool) → (a || b) ≡ (b || a)
          swap true true = refl
          swap true false = refl
          swap false true = refl
          swap false false = refl

-- ---- all places

-- a place with nothing in it
pub record Blank (marks : List ℕ) : Type 0 where
  pub size : length marks ≡ 1024
  pub none : (r x : ℕ) → has_at marks r x ≡ false

pub blank_zeros : Blank (replicate 1024 0)
unfolding has_at row_set_at mem
blank_zeros =
    record {
      size = length-replicate {A = ℕ} 1024 0;
      none = λ r x. rw (zero_at (r * 4), zero_at (r * 4 + 1), zero_at (r * 4 + 2), zero_at (r * 4 + 3), rows_empty);
    }
  where
    zero_at : (k : ℕ) → get_or {A = ℕ} (replicate 1024 0) k 0 ≡ 0
    zero_at k = lt_case k 1024 (λ l. get_or-replicate {A = ℕ} 1024 k 0 0 l) (λ l. get_or-eq_default {A = ℕ} (replicate 1024 0) 0 {n = k} (let z = length-replicate {A = ℕ} 1024 0 in omega arith))

-- those of the first n rows are put
pub record PutTo (c : Chart) (history marks : List ℕ) (n : ℕ) : Type 0 where
  pub size : length marks ≡ 1024
  pub good : all (is_good c history) (from n 0) ≡ true
  pub at : (r x : ℕ) → has_at marks r x ≡ (ltb x n && is_put c history x r)

-- all good, and put; or not all good
pub record Put (chart history marks : List ℕ) (b : Bool) : Type 0 where
  pub size : length marks ≡ 1024
  pub told : b ≡ all (is_good (chart_of chart) history) (from (row_count chart) 0)
  pub done : b ≡ true → PutTo (chart_of chart) history marks (row_count chart)

module _ (chart history : List ℕ) where
  pub put_begin : (marks : List ℕ) → Blank marks → PutTo (chart_of chart) history marks 0
  put_begin marks b = record { size = b.size; good = all_begin _; at = λ r x. b.none r x ∙ sym (rw (le-ltb x 0 (omega arith))) }

  pub put_turn : (before after : List ℕ) (i : ℕ) (b : Bool) → PutTo (chart_of chart) history before i → Marking chart history before after i b → b ≡ true → PutTo (chart_of chart) history after (i + 1)
  put_turn before after i b p m e =
      record {
        size = m.size;
        good = all_turn _ i p.good (sym m.told ∙ e);
        at = λ r x. m.at e r x ∙ ap (λ (z : Bool). z || (eqb x i && is_put (chart_of chart) history i r)) (p.at r x) ∙
            eq_case x i (λ q. rw (q, le-ltb i i (omega arith), lt-ltb i (i + 1) (omega arith), eq-eqb i i refl))
            (λ q. rw (ne_eqb x i q) (or_false (ltb x i && is_put (chart_of chart) history x r) ∙ ap (λ (z : Bool). z && is_put (chart_of chart) history x r) (same x q)));
      }
    where
      same : (x : ℕ) → (x ≡ i → ⊥) → ltb x i ≡ ltb x (i + 1)
      same x q = lt_case x i (λ l. rw (lt-ltb x i l, lt-ltb x (i + 1) (omega arith))) (λ l. rw (le-ltb x i l, le-ltb x (i + 1) (omega (arith, q))))

  pub put_stop : (before after : List ℕ) (i : ℕ) (b : Bool) → Marking chart history before after i b → not b ≡ true → i < row_count chart → Put chart history after false
  put_stop before after i b m e l =
      record {
        size = m.size;
        told = all_leave (is_good (chart_of chart) history) i (row_count chart) (row_count chart) l refl (sym m.told ∙ not-true b e);
        done = λ n. absurd (no n);
      }

  pub put_end : (marks : List ℕ) (i : ℕ) → PutTo (chart_of chart) history marks i → i ≤ row_count chart → row_count chart ≤ i → Put chart history marks true
  put_end marks i p l g =
      let e : i ≡ row_count chart = omega arith in
      let q : PutTo (chart_of chart) history marks (row_count chart) = rw e at p in
      record { size = p.size; told = sym q.good; done = λ _. q }

  -- what is not good does not hold
  pub bad_places : false ≡ all (is_good (chart_of chart) history) (from (row_count chart) 0) → false ≡ all (holds_place (chart_of chart) history) (from (row_count chart) 0)
  bad_places e =
      sym (not_so _ (λ w. clash _
      (below_each (is_good (chart_of chart) history) (row_count chart) (λ h l. hold_good (chart_of chart) history h (each_below (holds_place (chart_of chart) history) (row_count chart) w h l))) (sym e)))
