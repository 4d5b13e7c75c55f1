-- Storing history in its words: four for each row.
use Rattle.std.specs.Prelude.{◌≡◌, refl, Bool, true, false, ◌&&◌, List, ◌⊎◌, ℕ, suc, ◌+◌, ◌*◌, ◌/◌, ◌<◌, ◌≤◌, ltb, length, get_or, set, take, drop}
use Rattle.std.proofs.Math.Path.{ap, sym}
use Rattle.std.proofs.Common.{◌∙◌, subst, append_assoc, inl, inr, ⊎_elim, arith, length-set, get_or-set_same, get_or-set_other}
use Rattle.std.proofs.lemmas.List.Edits.{sets-eq}
use borrow.Author.Tests.{lt-ltb, ltb-true, ltb-false}
use Rattle.definition.specs.Rows.{mem}
use Rattle.definition.specs.Chart.{Chart, is_history}
use Rattle.definition.specs.Tables.{row_count, kind_at, parent_at, chart_of}
use Rattle.definition.specs.Compiled.{words}
use Rattle.follower.specs.Selection.{History}
use Rattle.follower.specs.Microstep.{would_store, stored, exits, history_after, stored_in}
use Rattle.laws.specs.Bools.{clash, bool_case, eq_case, and_true, and_left, and_right, not_so}
use Rattle.laws.specs.Orders.{union_none}
use Rattle.laws.specs.Sets.{mem_those}
use Rattle.numbers.specs.declared.Row.{Row}
use Rattle.rowset.specs.declared.RowSet.{RowSet}
use Rattle.std.specs.declared.option.Option.{Option}
use Rattle.std.specs.declared.option.Option.TheVariants.{Some, None}
use Rattle.rowset.specs.Member.{rows_of, next_in}
use Rattle.rowset.specs.Rows.{ascends_rows, rows_low}
use Rattle.rowset.specs.Search.{NextAt}
use Rattle.rowset.specs.Visits.{found_next, no_next}
use Rattle.tables.specs.Sets.{put_at}
use Rattle.chart.specs.Ready.{Ready, row_set_at}
use Rattle.chart.specs.Columns.{set_of, rows_set_of}
use Rattle.paths.specs.History.{stored_at}
use Rattle.matching.specs.Histories.{is_history_row, history_rows}
use Rattle.effects.specs.Entering.{HistoryRow}
use Rattle.chart.specs.Within.{Within}
use Rattle.microstep.specs.Stored.{RoundReady, after_stored, stored_within, stored_new, stored_old, stored_plain}

-- row h stores where the rows out are left
unfoldable pub is_storing : List ℕ → List ℕ → ℕ → Bool
is_storing chart out h = ltb h (row_count chart) && (is_history (kind_at chart h) && mem (parent_at chart h) out)

-- ---- four words

-- the set s was put at the four words from w on
pub record Put (old new : List ℕ) (w : ℕ) (s : RowSet) : Type 0 where
  pub room : length new ≡ length old
  pub at : row_set_at new w ≡ s
  pub rest : (v : ℕ) → (v < w) ⊎ (w + 4 ≤ v) → get_or new v 0 ≡ get_or old v 0

module _ (old : List ℕ) (w a b c d : ℕ) where
  abbrev one : List ℕ
  one = set old w a

  abbrev two : List ℕ
  two = set one (w + 1) b

  abbrev three : List ℕ
  three = set two (w + 2) c

  abbrev four : List ℕ
  four = set three (w + 3) d

  two_other : (v : ℕ) → (v ≡ w + 1 → ⊥) → get_or two v 0 ≡ get_or one v 0
  two_other v n = get_or-set_other one (w + 1) v b 0 n

  three_other : (v : ℕ) → (v ≡ w + 2 → ⊥) → get_or three v 0 ≡ get_or two v 0
  three_other v n = get_or-set_other two (w + 2) v c 0 n

  four_other : (v : ℕ) → (v ≡ w + 3 → ⊥) → get_or four v 0 ≡ get_or three v 0
  four_other v n = get_or-set_other three (w + 3) v d 0 n

  four_length : length four ≡ length old
  four_length = length-set three (w + 3) d ∙ length-set two (w + 2) c ∙ length-set one (w + 1) b ∙ length-set old w a

  apart : (v : ℕ) → (v ≡ w → ⊥) → (v ≡ w + 1 → ⊥) → (v ≡ w + 2 → ⊥) → (v ≡ w + 3 → ⊥) → get_or four v 0 ≡ get_or old v 0
  apart v n0 n1 n2 n3 = four_other v n3 ∙ three_other v n2 ∙ two_other v n1 ∙ get_or-set_other old w v a 0 n0

  module _ (l : w + 4 ≤ length old) where
    at0 : get_or four w 0 ≡ a
    at0 = four_other w (λ e. omega arith) ∙ three_other w (λ e. omega arith) ∙ two_other w (λ e. omega arith) ∙ get_or-set_same old w a 0 (omega arith)

    at1 : get_or four (w + 1) 0 ≡ b
    at1 = four_other (w + 1) (λ e. omega arith) ∙ three_other (w + 1) (λ e. omega arith) ∙ get_or-set_same one (w + 1) b 0 (omega (arith, length-set old w a))

    at2 : get_or four (w + 2) 0 ≡ c
    at2 = four_other (w + 2) (λ e. omega arith) ∙ get_or-set_same two (w + 2) c 0 (omega (arith, length-set one (w + 1) b, length-set old w a))

    at3 : get_or four (w + 3) 0 ≡ d
    at3 = get_or-set_same three (w + 3) d 0 (omega (arith, length-set two (w + 2) c, length-set one (w + 1) b, length-set old w a))

set_is : (words : List ℕ) (w : ℕ) (s : RowSet) → get_or words w 0 ≡ s.w0 → get_or words (w + 1) 0 ≡ s.w1 → get_or words (w + 2) 0 ≡ s.w2 → get_or words (w + 3) 0 ≡ s.w3 → row_set_at words w ≡ s
unfolding row_set_at
set_is words w s e0 e1 e2 e3 i = record { w0 = e0 i; w1 = e1 i; w2 = e2 i; w3 = e3 i }

put_words : (old : List ℕ) (w : ℕ) (s : RowSet) → w + 4 ≤ length old → Put old (set (set (set (set old w s.w0) (w + 1) s.w1) (w + 2) s.w2) (w + 3) s.w3) w s
put_words old w s l = record {
  room = four_length old w s.w0 s.w1 s.w2 s.w3;
  at = set_is (four old w s.w0 s.w1 s.w2 s.w3) w s (at0 old w s.w0 s.w1 s.w2 s.w3 l) (at1 old w s.w0 s.w1 s.w2 s.w3 l) (at2 old w s.w0 s.w1 s.w2 s.w3 l) (at3 old w s.w0 s.w1 s.w2 s.w3 l);
  rest = λ v a. ⊎_elim
      (λ m. apart old w s.w0 s.w1 s.w2 s.w3 v (λ e. omega arith) (λ e. omega arith) (λ e. omega arith) (λ e. omega arith))
      (λ m. apart old w s.w0 s.w1 s.w2 s.w3 v (λ e. omega arith) (λ e. omega arith) (λ e. omega arith) (λ e. omega arith)) a;
}

-- the set that the four words hold, of a set's rows, has these rows
pub rows_of_set : (s : RowSet) → rows_of (set_of (rows_of s)) ≡ rows_of s
rows_of_set s = rows_set_of (rows_of s) (rows_low s) ∙ union_none 0 (rows_of s) (ascends_rows s)

-- as put_set puts it
pub put_at_lem : (old new : List ℕ) (w : ℕ) (s : RowSet) → w + 4 ≤ length old → new ≡ put_at old w (rows_of s) → Put old new w (set_of (rows_of s))
unfolding put_at set_of words
put_at_lem old new w s l e =
    let e1 : w + 1 ≡ suc w = omega arith in
    let e2 : w + 2 ≡ suc (suc w) = omega arith in
    let e3 : w + 3 ≡ suc (suc (suc w)) = omega arith in
    let t : RowSet = set_of (rows_of s) in
    let is : set (set (set (set old w t.w0) (w + 1) t.w1) (w + 2) t.w2) (w + 3) t.w3 ≡ put_at old w (rows_of s) =
    rw (e1, e2, e3) (sets-eq (words (rows_of s)) old w l ∙ append_assoc (take w old) (words (rows_of s)) (drop (w + 4) old)) in
    subst (λ (ws : List ℕ). Put old ws w t) (is ∙ sym e) (put_words old w t l)

-- the words of a row that did not change
stored_same : (old new : List ℕ) (h : ℕ) → ((v : ℕ) → h * 4 ≤ v → v < h * 4 + 4 → get_or new v 0 ≡ get_or old v 0) → stored_at new h ≡ stored_at old h
unfolding stored_at row_set_at
stored_same old new h f =
    rw (f (h * 4) (omega arith) (omega arith), f (h * 4 + 1) (omega arith) (omega arith), f (h * 4 + 2) (omega arith) (omega arith), f (h * 4 + 3) (omega arith) (omega arith))

-- what a row stores hangs on what it had stored alone
had_same : (c : Chart) (conf : List ℕ) (before after : History) (out : List ℕ) (h : ℕ) → before h ≡ after h → stored c conf before out h ≡ stored c conf after out h
unfolding stored
had_same c conf before after out h e = rw e

-- ---- one row

pub record RowStored (chart conf out old new : List ℕ) (h : ℕ) : Type 0 where
  pub room : length new ≡ length old
  pub at : stored_at new h ≡ stored (chart_of chart) conf (stored_at old) out h
  pub rest : (v : ℕ) → (v < h * 4) ⊎ (h * 4 + 4 ≤ v) → get_or new v 0 ≡ get_or old v 0
  pub same : is_storing chart out h ≡ false → (v : ℕ) → get_or new v 0 ≡ get_or old v 0

module _ (chart conf out old : List ℕ) (h p : ℕ) (w : HistoryRow chart h) (e : p ≡ parent_at chart h) where
  pub row_kept : mem p out ≡ false → RowStored chart conf out old old h
  row_kept m = record {
    room = refl;
    at = stored_old (chart_of chart) conf (stored_at old) out h p w.history e m;
    rest = λ v a. refl;
    same = λ q v. refl;
  }

  pub row_stored : (new : List ℕ) (s : RowSet) (i : ℕ) → mem p out ≡ true → rows_of s ≡ would_store (chart_of chart) conf h → i ≡ h → Put old new (i * 4) s → RowStored chart conf out old new h
  unfolding stored_at is_storing
  row_stored new s i m q f put = let t : Put old new (h * 4) s = rw f at put in record {
    room = t.room;
    at = ap rows_of t.at ∙ q ∙ stored_new (chart_of chart) conf (stored_at old) out h p w.history e m;
    rest = t.rest;
    same = λ n v. absurd (clash _ (and_true (ltb h (row_count chart)) _ (lt-ltb h (row_count chart) w.row.inside)
        (and_true (is_history (kind_at chart h)) _ w.history (ap (λ (x : ℕ). mem x out) (sym e) ∙ m))) n);
  }

-- ---- all rows

-- the words after the round: what each row has stored, and no other word changed
pub record HistoryStored (chart conf out old new : List ℕ) : Type 0 where
  pub room : length new ≡ length old
  pub stored : (h : ℕ) → h < row_count chart → stored_at new h ≡ stored (chart_of chart) conf (stored_at old) out h
  pub rest : (v : ℕ) → is_storing chart out (v / 4) ≡ false → get_or new v 0 ≡ get_or old v 0

-- the rows below k are done
pub record Storing (chart conf out old new : List ℕ) (k : ℕ) : Type 0 where
  pub room : length new ≡ length old
  pub done : (h : ℕ) → h < k → h < row_count chart → stored_at new h ≡ stored (chart_of chart) conf (stored_at old) out h
  pub later : (v : ℕ) → k * 4 ≤ v → get_or new v 0 ≡ get_or old v 0
  pub rest : (v : ℕ) → is_storing chart out (v / 4) ≡ false → get_or new v 0 ≡ get_or old v 0

pub storing_begin : (chart conf out old : List ℕ) → Storing chart conf out old old 0
storing_begin chart conf out old = record { room = refl; done = λ h l m. absurd (omega arith); later = λ v l. refl; rest = λ v e. refl }

module _ (chart conf out old new : List ℕ) (histories : RowSet) (all : rows_of histories ≡ history_rows (chart_of chart)) (k : ℕ) (o : Option Row) (e : o ≡ next_in (rows_of histories) k) (g : Storing chart conf out old new k) where
  -- a row that is no history keeps its words
  plain : (h : ℕ) → k ≤ h → h < row_count chart → mem h (rows_of histories) ≡ false → stored_at new h ≡ stored (chart_of chart) conf (stored_at old) out h
  unfolding history_rows is_history_row
  plain h l u n =
      stored_same old new h (λ v a b. g.later v (omega arith)) ∙
      stored_plain (chart_of chart) conf (stored_at old) out h (not_so _ (λ q. clash (mem h (rows_of histories))
      (ap (mem h) all ∙ mem_those (row_count chart) (is_history_row (chart_of chart)) h ∙ and_true (ltb h (row_count chart)) _ (lt-ltb h (row_count chart) u) q) n))

  pub storing_row : Ready chart → (r : Row) → o ≡ Some r → HistoryRow chart r.0
  unfolding history_rows is_history_row
  storing_row w r h =
      let q = sym (ap (mem r.0) all ∙ mem_those (row_count chart) (is_history_row (chart_of chart)) r.0) ∙ (found_next histories k o e r h).here in
      record { row = record { ready = w; inside = ltb-true r.0 (row_count chart) (and_left (ltb r.0 (row_count chart)) _ q) }; history = and_right (ltb r.0 (row_count chart)) _ q }

  pub storing_turn : (newer : List ℕ) (r : Row) → o ≡ Some r → RowStored chart conf out new newer r.0 → Storing chart conf out old newer (r.0 + 1)
  storing_turn newer r h t = record {
    room = t.room ∙ g.room;
    done = λ i l u. bool_case (ltb i r.0)
        (λ a. let b : i < r.0 = ltb-true i r.0 a in stored_same new newer i (λ v x y. t.rest v (inl (omega arith))) ∙ before i b u)
        (λ a. let b : r.0 ≤ i = ltb-false i r.0 a in let q : r.0 ≡ i = omega arith in rw (← q) here);
    later = λ v l. t.rest v (inr (omega arith)) ∙ g.later v (omega (arith, found.low));
    rest = λ v n. (eq_case (v / 4) r.0 (λ q. t.same (rw (← q) n) v)
        (λ d. t.rest v (bool_case (ltb v (r.0 * 4)) (λ a. inl (ltb-true _ _ a)) (λ a. let b : r.0 * 4 ≤ v = ltb-false _ _ a in inr (omega arith))))) ∙ g.rest v n;
  }
    where
      found : NextAt (rows_of histories) k r.0
      found = found_next histories k o e r h

      before : (i : ℕ) → i < r.0 → i < row_count chart → stored_at new i ≡ stored (chart_of chart) conf (stored_at old) out i
      before i b u = bool_case (ltb i k) (λ a. g.done i (ltb-true i k a) u) (λ a. plain i (ltb-false i k a) u (found.none i (ltb-false i k a) b))

      here : stored_at newer r.0 ≡ stored (chart_of chart) conf (stored_at old) out r.0
      here = t.at ∙ had_same (chart_of chart) conf (stored_at new) (stored_at old) out r.0 (stored_same old new r.0 (λ v x y. g.later v (omega (arith, found.low))))

  pub storing_end : o ≡ None → HistoryStored chart conf out old new
  storing_end h = record {
    room = g.room;
    stored = λ i u. bool_case (ltb i k) (λ q. g.done i (ltb-true i k q) u) (λ q. plain i (ltb-false i k q) u (no_next histories k o e h i (ltb-false i k q)));
    rest = g.rest;
  }

-- ---- after the round

-- the words are the definition's stored history, row by row, and its rows are the chart's
module _ (chart : List ℕ) (atoms conf out : RowSet) (old new : List ℕ) (w : RoundReady chart old atoms conf) (s : HistoryStored chart (rows_of conf) (rows_of out) old new) where
  pub words_after : (ts : List ℕ) → rows_of out ≡ exits (chart_of chart) (rows_of conf) (stored_at old) ts → (h : ℕ) → h < row_count chart →
      stored_at new h ≡ stored_in (history_after (chart_of chart) (rows_of conf) (stored_at old) ts) h
  words_after ts e h l =
      s.stored h l ∙ ap (λ (xs : List ℕ). stored (chart_of chart) (rows_of conf) (stored_at old) xs h) e ∙ sym (after_stored (chart_of chart) (rows_of conf) (stored_at old) ts h l)

  pub kept_after_lem : (h : ℕ) → h < row_count chart → Within (row_count chart) (stored_at new h)
  kept_after_lem h l = subst (Within (row_count chart)) (sym (s.stored h l)) (stored_within chart old atoms conf out w h l)
