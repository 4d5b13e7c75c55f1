-- What histories store in a round, and that a function of the row stands for the definition's list.
use Rattle.std.specs.Prelude.{◌≡◌, Bool, true, false, ◌&&◌, cond, List, ℕ, ◌*◌, ◌<◌, length}
use Rattle.std.proofs.Math.Path.{ap}
use Rattle.std.proofs.Common.{sym, ◌∙◌, arith}
use Rattle.definition.specs.Rows.{mem, intersection, is_empty, union}
use Rattle.definition.specs.Chart.{Chart, kind, parent, is_shallow, is_history}
use Rattle.definition.specs.Tables.{row_count, transition_count, kind_at, chart_of}
use Rattle.definition.specs.Tree.{children, descendants}
use Rattle.follower.specs.Selection.{History, add_stand_ins}
use Rattle.follower.specs.Microstep.{would_store, stored, storing, exits, history_after, stored_in}
use Rattle.theory.specs.Round.{get_d_map_from}
use Rattle.theory.specs.Storing.{stored_mem}
use Rattle.rowset.specs.declared.RowSet.{RowSet}
use Rattle.rowset.specs.Member.{rows_of}
use Rattle.chart.specs.Ready.{Ready, row_set_at}
use Rattle.chart.specs.Within.{Within}
use Rattle.matching.specs.Chosen.{atomic_rows, atomic_states_lem}
use Rattle.selection.specs.declared.Stored.{Stored}
use Rattle.selection.specs.declared.Stored.TheVariants as kept
use Rattle.paths.specs.History.{stored_at}
use Rattle.selection.specs.History.{stored_of, as_stored, rows_in, as_rows, as_some, stands_for, add_stand_ins_lem}

-- ---- what is given: the atomic rows of the chart, the configuration before the round, and stored history whose rows are the chart's

pub record StoreReady (chart : List ℕ) (atoms conf : RowSet) : Type 0 where
  pub ready : Ready chart
  pub atomic : rows_of atoms ≡ atomic_rows (chart_of chart)
  pub inside : Within (row_count chart) (rows_of conf)

pub record RoundReady (chart history : List ℕ) (atoms conf : RowSet) : Type 0 where
  pub store : StoreReady chart atoms conf
  pub room : length history ≡ 1024
  pub kept : (h : ℕ) → h < row_count chart → Within (row_count chart) (stored_at history h)

-- and a transition of the chart
pub record TakenReady (chart history : List ℕ) (atoms conf : RowSet) (t : ℕ) : Type 0 where
  pub round : RoundReady chart history atoms conf
  pub inside : t < transition_count chart

-- ---- "shallow, its active children; deep, its active atomic descendants"

module _ (c : Chart) (conf : List ℕ) (h p : ℕ) (e : p ≡ parent c h) where
  pub store_shallow : is_shallow (kind c h) ≡ true → intersection conf (children c p) ≡ would_store c conf h
  unfolding would_store
  store_shallow q = rw (e, q)

  pub store_deep : (atoms : List ℕ) → is_shallow (kind c h) ≡ false → Within c.rows conf → atoms ≡ atomic_rows c → intersection (intersection conf atoms) (descendants c p) ≡ would_store c conf h
  unfolding would_store
  store_deep atoms q w f = rw (e, q, f, atomic_states_lem c conf w)

module _ (c : Chart) (conf : List ℕ) (hist : History) (out : List ℕ) (h : ℕ) where
  pub stored_new : (p : ℕ) → is_history (kind c h) ≡ true → p ≡ parent c h → mem p out ≡ true → would_store c conf h ≡ stored c conf hist out h
  unfolding stored
  stored_new p e q m = rw (e, ← q, m)

  pub stored_old : (p : ℕ) → is_history (kind c h) ≡ true → p ≡ parent c h → mem p out ≡ false → hist h ≡ stored c conf hist out h
  unfolding stored
  stored_old p e q m = rw (e, ← q, m)

  pub stored_plain : is_history (kind c h) ≡ false → hist h ≡ stored c conf hist out h
  unfolding stored
  stored_plain e = rw e

-- the definition keeps a list, one set for each row; below the row count it is the function
pub after_stored : (c : Chart) (conf : List ℕ) (hist : History) (ts : List ℕ) (h : ℕ) → h < c.rows →
    stored_in (history_after c conf hist ts) h ≡ stored c conf hist (exits c conf hist ts) h
unfolding history_after storing
after_stored c conf hist ts h l =
    get_d_map_from (stored c conf hist (exits c conf hist ts)) c.rows 0 h l ∙ ap (stored c conf hist (exits c conf hist ts)) (omega arith)

-- ---- a set that is stored, as the enum says it

-- the enum says that the rows xs are stored
pub record StoredIs (xs : List ℕ) (r : Stored) : Type 0 where
  pub set : RowSet
  pub is : r ≡ as_stored set
  pub rows : rows_of set ≡ xs

pub stored_words : (history : List ℕ) (h : ℕ) (xs : List ℕ) (r : Stored) → r ≡ stored_of history h → stored_at history h ≡ xs → StoredIs xs r
unfolding stored_of stored_at
stored_words history h xs r e q = record { set = row_set_at history (h * 4); is = e; rows = q }

module _ (xs : List ℕ) (r : Stored) (s : StoredIs xs r) where
  is_rows : rows_in r ≡ xs
  is_rows = ap rows_in s.is ∙ as_rows s.set ∙ s.rows

  pub stored_nothing : r ≡ kept.Nothing → is_empty xs ≡ true
  unfolding is_empty
  stored_nothing e = ap is_empty (sym is_rows ∙ ap rows_in e)

  pub stored_something : (set : RowSet) → r ≡ kept.Stored set → is_empty xs ≡ false
  stored_something set e = ap is_empty (sym (sym (ap rows_in e) ∙ is_rows)) ∙ as_some s.set set (sym e ∙ s.is)

  pub stand_in : (c : Chart) (hist : History) (all set : List ℕ) (x y : ℕ) → hist x ≡ xs → all ≡ union set (stands_for c r x) → x ≡ y → all ≡ add_stand_ins c hist set y
  stand_in c hist all set x y e f q = f ∙ add_stand_ins_lem c set x r hist s.set s.is (e ∙ sym s.rows) ∙ ap (add_stand_ins c hist set) q

-- ---- every stored row is a row of the chart

pub stored_within : (chart history : List ℕ) (atoms conf out : RowSet) → RoundReady chart history atoms conf → (h : ℕ) → h < row_count chart →
    Within (row_count chart) (stored (chart_of chart) (rows_of conf) (stored_at history) (rows_of out) h)
unfolding stored
stored_within chart history atoms conf out w h l = go (is_history (kind_at chart h) && mem (parent (chart_of chart) h) (rows_of out))
  where
    go : (b : Bool) → Within (row_count chart) (cond b (would_store (chart_of chart) (rows_of conf) h) (stored_at history h))
    go true = record { at = λ i m. w.store.inside.at i (stored_mem (chart_of chart) w.store.ready.sound.tree h (rows_of conf) i m).0 }
    go false = w.kept h l
