-- Passes that write the effects of each element: over the rows of a set, upward and downward, and over the items of a list.
use Rattle.std.specs.Prelude.{◌≡◌, List, [], ◌∷◌, ◌++◌, ℕ, suc, ◌+◌, ◌<◌, length, get_or, drop}
use Rattle.std.proofs.Common.{ap, sym, subst, add-one, drop-cons}
use Rattle.definition.specs.Rows.{flat, backwards}
use Rattle.follower.specs.Blocks.{Effect}
use Rattle.rowset.specs.declared.RowSet.{RowSet}
use Rattle.rowset.specs.Member.{rows_of}
use Rattle.chart.specs.Within.{Within}
use Rattle.rowset.specs.Search.{rest_from, rest_below, rest_all, rest_whole}
use Rattle.effects.specs.declared.Tally.{Tally}
use Rattle.effects.specs.Trace.{Places, Wrote, Room}
use Rattle.effects.specs.Writing.{Writing, writing_begin, writing_turn, writing_end, writing_length, writing_joins, room_left, room_first}

-- the effects f of each element of all are written, but for those of rest

pub record Emitting (f : ℕ → List Effect) (old new : Places) (t r : Tally) (all rest : List ℕ) : Type 0 where
  pub room : Room t (flat f all)
  pub writes : Writing old new t r (flat f all) (flat f rest)

module _ (f : ℕ → List Effect) (old new : Places) (t r : Tally) (all : List ℕ) where
  flat_next : (rest : List ℕ) (x : ℕ) (left : List ℕ) → rest ≡ x ∷ left → flat f rest ≡ f x ++ flat f left
  unfolding flat
  flat_next rest x left e = rw e

  pub emitting_room : (rest : List ℕ) (x : ℕ) (left : List ℕ) → rest ≡ x ∷ left → Emitting f old new t r all rest → Room r (f x)
  emitting_room rest x left e p = room_first r (f x) (flat f left) (subst (Room r) (flat_next rest x left e) (room_left old new t r _ _ p.room p.writes))

  pub emitting_turn : (rest : List ℕ) (x : ℕ) (left : List ℕ) (newer : Places) (s : Tally) → rest ≡ x ∷ left → Emitting f old new t r all rest → Wrote new newer r s (f x) → Emitting f old newer t s all left
  emitting_turn rest x left newer s e p w = record { room = p.room; writes = writing_turn old new t r _ (f x) (flat f left) _ newer s (flat_next rest x left e) p.writes w }

  pub emitting_end : (rest : List ℕ) → rest ≡ [] → Emitting f old new t r all rest → Wrote old new t r (flat f all)
  unfolding flat
  emitting_end rest e p = writing_end old new t r (flat f all) (flat f rest) (rw e) p.writes

  pub emitting_length : (rest : List ℕ) → Emitting f old new t r all rest → length new.trace ≡ length old.trace
  emitting_length rest p = writing_length old new t r _ _ p.writes

  pub emitting_joins : (rest : List ℕ) → Emitting f old new t r all rest → length new.joins ≡ length old.joins
  emitting_joins rest p = writing_joins old new t r _ _ p.writes

pub emitting_begin : (f : ℕ → List Effect) (old : Places) (t : Tally) (all rest : List ℕ) → Room t (flat f all) → all ≡ rest → Emitting f old old t t all rest
emitting_begin f old t all rest m e = record { room = m; writes = writing_begin old t _ _ (ap (flat f) e) }

-- upward over the rows of a set, from row k on
module _ (f : ℕ → List Effect) (old : Places) (t : Tally) (s : RowSet) where
  pub emitting_up : Room t (flat f (rows_of s)) → Emitting f old old t t (rows_of s) (rest_from (rows_of s) 0)
  emitting_up m = emitting_begin f old t (rows_of s) (rest_from (rows_of s) 0) m (sym (rest_all (rows_of s)))

  -- downward, below k
  pub emitting_down : (n k : ℕ) → Within n (rows_of s) → k ≡ n → Room t (flat f (backwards (rows_of s))) → Emitting f old old t t (backwards (rows_of s)) (rest_below (rows_of s) k)
  emitting_down n k w e m = emitting_begin f old t (backwards (rows_of s)) (rest_below (rows_of s) k) m (sym (rest_whole (rows_of s) k (λ x q. rw e (w.at x q))))

-- over the items of a list of n, from the i-th on
module _ (f : ℕ → List Effect) (old new : Places) (t r : Tally) (xs : List ℕ) (i x : ℕ) where
  pub emitting_item_room : i < length xs → x ≡ get_or xs i 0 → Emitting f old new t r xs (drop i xs) → Room r (f x)
  emitting_item_room l e p = emitting_room f old new t r xs (drop i xs) x (drop (suc i) xs) (rw e (drop-cons xs i 0 l)) p

  pub emitting_item_turn : (newer : Places) (s : Tally) → i < length xs → x ≡ get_or xs i 0 → Emitting f old new t r xs (drop i xs) → Wrote new newer r s (f x) → Emitting f old newer t s xs (drop (i + 1) xs)
  emitting_item_turn newer s l e p w = rw (add-one i) (emitting_turn f old new t r xs (drop i xs) x (drop (suc i) xs) newer s (rw e (drop-cons xs i 0 l)) p w)
