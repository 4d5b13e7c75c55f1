-- What entering a row does, piece by piece, and which rows are in a final state.
use Rattle.std.specs.Prelude.{◌≡◌, Bool, not, ◌&&◌, ◌||◌, cond, ℕ, zero, suc, ◌+◌, ◌≤◌, ◌<◌, min, leb, ltb}
use Rattle.std.proofs.Math.Path.{refl, ap, sym}
use Rattle.std.proofs.Common.{◌∙◌, subst, arith, ne_eqb, lt-ltb, ltb-true, leb-true, leb-false, le-leb}
use Rattle.std.proofs.Math.Bool.{true, false}
use mathlib.Core.List.{List, [], ◌∷◌, ◌++◌, append_assoc}
use Rattle.std.proofs.Math.Dec.{eqb}
use Rattle.definition.specs.declared.Kind.{Kind}
use Rattle.definition.specs.declared.Kind.TheVariants.{Root, State, Parallel, Final, Shallow, Deep}
use Rattle.definition.specs.Rows.{fold, from, keep, mem, is_in, not_in, is_empty, any, flat, insert, union, intersection, minus, subset, those, backwards}
use Rattle.definition.specs.Chart.{Chart, kind, parent, is_root, is_parallel, is_final, is_history}
use Rattle.definition.specs.Tables.{row_count, kind_at, chart_of}
use Rattle.definition.specs.Tree.{is_descendant, descendants, children, is_compound}
use Rattle.follower.specs.Blocks.{Effect, exited, entered, done, performed_from, performed}
use Rattle.follower.specs.Microstep.{exit_effects, Entry, initial_block, default_block, is_active_final, is_in_final, add_in_final, in_final, is_done_above, done_effects, is_past, is_up_to, active_leaving, active_at, default_effects, entry_effects}
use Rattle.laws.specs.Bools.{no, both_ways, and_left, and_right, and_true, or_false, not_so, clash}
use Rattle.laws.specs.Sets.{mem_intersection, mem_insert, mem_from}
use Rattle.laws.specs.Lists.{mem_subset, subset_mem, keep_cong, empty_list}
use Rattle.laws.specs.Folds.{keep_backwards}
use Rattle.laws.specs.Ways.{Way, here, below_way}
use Rattle.accepted.specs.Tree.{Tree, mem_children, child_facts, root_kind, under_below, below_under}
use Rattle.accepted.specs.Tree.{compound_kind}
use Rattle.rowset.specs.declared.RowSet.{RowSet}
use Rattle.rowset.specs.Member.{rows_of}
use Rattle.rowset.specs.Search.{rest_from, rest_all}
use Rattle.chart.specs.Ready.{Ready, RowReady}
use Rattle.chart.specs.Inside.{child_inside}
use Rattle.accepted.specs.Sound.{Sound}
use Rattle.rowset.specs.Rows.{rows_low}
use Rattle.effects.specs.declared.Tally.{Tally}
use Rattle.effects.specs.Trace.{Places, Wrote, Room}
use Rattle.effects.specs.Writing.{wrote_both, room_first, room_next}
use Rattle.chart.specs.Within.{Within}

-- ---- the active rows at hand

up_to_test : (i x : ℕ) → x < 256 → (leb 0 x && ltb x (0 + min (i + 1) 256)) ≡ is_up_to i x
up_to_test i x l =
    both_ways (leb 0 x && ltb x (0 + min (i + 1) 256)) (leb x i)
    (λ e. let m : x < 0 + min (i + 1) 256 = ltb-true _ _ (and_right (leb 0 x) _ e) in le-leb x i (omega arith))
    (λ e. let m : x ≤ i = leb-true _ _ e in and_true (leb 0 x) _ (le-leb 0 x (omega arith)) (lt-ltb x (0 + min (i + 1) 256) (omega arith)))

pub active_up : (stay : List ℕ) (set : RowSet) (i n : ℕ) → n ≡ i + 1 → union stay (intersection (rows_of set) (from (min n 256) 0)) ≡ active_at stay (rows_of set) i
unfolding active_at intersection
active_up stay set i n e =
    ap (union stay) (keep_cong (is_in (from (min n 256) 0)) (is_up_to i) (rows_of set) (λ x m. rw e (mem_from x (min (i + 1) 256) 0 ∙ up_to_test i x (rows_low set x m))))

behind_test : (i x : ℕ) → x < 256 → not (leb 0 x && ltb x (0 + min (i + 1) 256)) ≡ is_past i x
behind_test i x l = ap not (up_to_test i x l) ∙ go (leb x i) refl
  where
    go : (b : Bool) → leb x i ≡ b → not b ≡ ltb i x
    go true e = let m : x ≤ i = leb-true _ _ e in sym (not_so (ltb i x) (λ f. let n : i < x = ltb-true _ _ f in omega arith))
    go false e = sym (lt-ltb i x (leb-false x i e))

pub active_behind : (conf : List ℕ) (out : RowSet) (i n : ℕ) → n ≡ i + 1 → minus conf (minus (rows_of out) (from (min n 256) 0)) ≡ active_leaving conf (rows_of out) i
unfolding active_leaving minus
active_behind conf out i n e =
    ap (minus conf) (keep_cong (not_in (from (min n 256) 0)) (is_past i) (rows_of out) (λ x m. rw e (ap not (mem_from x (min (i + 1) 256) 0) ∙ behind_test i x (rows_low out x m))))

-- exiting row i of out: its exit, then its exit block
module _ (c : Chart) (conf out : List ℕ) (i : ℕ) (old new : Places) (t r : Tally) (w : Wrote old new t r (exited i ∷ [])) where
  pub exit_room : Room t (exit_effects c conf out i) → Room r (performed (active_leaving conf out i) (c.row i).exit)
  unfolding exit_effects
  exit_room m = room_next old new t r (exited i ∷ []) (performed (active_leaving conf out i) (c.row i).exit) m w

  pub exit_wrote : (newer : Places) (s : Tally) → Wrote new newer r s (performed (active_leaving conf out i) (c.row i).exit) → Wrote old newer t s (exit_effects c conf out i)
  unfolding exit_effects
  exit_wrote newer s v = wrote_both old new newer t r s (exited i ∷ []) (performed (active_leaving conf out i) (c.row i).exit) w v

pub exit_first : (c : Chart) (conf out : List ℕ) (i : ℕ) (t : Tally) → Room t (exit_effects c conf out i) → Room t (exited i ∷ [])
unfolding exit_effects
exit_first c conf out i t m = room_first t (exited i ∷ []) _ m

-- entering row i while these rows are active, piece by piece: its entry, its entry block, its initial block, the default blocks of its
-- histories; the done events come behind them
unfoldable pub row_entered : Chart → List ℕ → List ℕ → List ℕ → ℕ → List Effect
row_entered c active entered_by_default fell i =
    (entered i ∷ []) ++ (performed active (c.row i).entry ++ (performed active (initial_block c entered_by_default i) ++ flat (default_effects c active i) fell))

pub entry_pieces : (c : Chart) (stay : List ℕ) (e : Entry) (fell : List ℕ) (i : ℕ) →
    entry_effects c stay e fell i ≡ row_entered c (active_at stay e.set i) e.entered_by_default fell i ++ done_effects c (active_at stay e.set i) i
unfolding entry_effects row_entered
entry_pieces c stay e fell i = simp append_assoc

-- each piece has room after those before it, and all of them together are what entering the row does
module _ (c : Chart) (active entered_by_default fell : List ℕ) (i : ℕ) (old : Places) (t : Tally) (m : Room t (row_entered c active entered_by_default fell i)) where
  whole : Room t ((entered i ∷ []) ++ (performed active (c.row i).entry ++ (performed active (initial_block c entered_by_default i) ++ flat (default_effects c active i) fell)))
  unfolding row_entered
  whole = m

  pub entered_room : Room t (entered i ∷ [])
  entered_room = room_first t (entered i ∷ []) _ whole

  module _ (old1 : Places) (t1 : Tally) (w1 : Wrote old old1 t t1 (entered i ∷ [])) where
    after_entered : Room t1 (performed active (c.row i).entry ++ (performed active (initial_block c entered_by_default i) ++ flat (default_effects c active i) fell))
    after_entered = room_next old old1 t t1 (entered i ∷ []) _ whole w1

    pub block_room : Room t1 (performed active (c.row i).entry)
    block_room = room_first t1 (performed active (c.row i).entry) (performed active (initial_block c entered_by_default i) ++ flat (default_effects c active i) fell) after_entered

    module _ (old2 : Places) (t2 : Tally) (w2 : Wrote old1 old2 t1 t2 (performed active (c.row i).entry)) where
      after_block : Room t2 (performed active (initial_block c entered_by_default i) ++ flat (default_effects c active i) fell)
      after_block = room_next old1 old2 t1 t2 (performed active (c.row i).entry) (performed active (initial_block c entered_by_default i) ++ flat (default_effects c active i) fell) after_entered w2

      pub initial_room : Room t2 (performed active (initial_block c entered_by_default i))
      initial_room = room_first t2 (performed active (initial_block c entered_by_default i)) (flat (default_effects c active i) fell) after_block

      module _ (old3 : Places) (t3 : Tally) (w3 : Wrote old2 old3 t2 t3 (performed active (initial_block c entered_by_default i))) where
        pub defaults_room : Room t3 (flat (default_effects c active i) fell)
        defaults_room = room_next old2 old3 t2 t3 (performed active (initial_block c entered_by_default i)) (flat (default_effects c active i) fell) after_block w3

        pub entry_wrote : (old4 : Places) (t4 : Tally) → Wrote old3 old4 t3 t4 (flat (default_effects c active i) fell) → Wrote old old4 t t4 (row_entered c active entered_by_default fell i)
        unfolding row_entered
        entry_wrote old4 t4 w4 =
            wrote_both old old1 old4 t t1 t4 (entered i ∷ []) _ w1
            (wrote_both old1 old2 old4 t1 t2 t4 (performed active (c.row i).entry) _ w2
            (wrote_both old2 old3 old4 t2 t3 t4 (performed active (initial_block c entered_by_default i)) _ w3 w4))

-- what is entered at a row of the set, and then its done events
module _ (c : Chart) (stay : List ℕ) (e : Entry) (fell : List ℕ) (i : ℕ) (t : Tally) (m : Room t (entry_effects c stay e fell i)) where
  abbrev both : List Effect
  both = row_entered c (active_at stay e.set i) e.entered_by_default fell i ++ done_effects c (active_at stay e.set i) i

  both_room : Room t both
  both_room = subst (Room t) (entry_pieces c stay e fell i) m

  pub row_room : Room t (row_entered c (active_at stay e.set i) e.entered_by_default fell i)
  row_room = room_first t (row_entered c (active_at stay e.set i) e.entered_by_default fell i) (done_effects c (active_at stay e.set i) i) both_room

  module _ (old new : Places) (r : Tally) (w : Wrote old new t r (row_entered c (active_at stay e.set i) e.entered_by_default fell i)) where
    pub done_room : Room r (done_effects c (active_at stay e.set i) i)
    done_room = room_next old new t r (row_entered c (active_at stay e.set i) e.entered_by_default fell i) (done_effects c (active_at stay e.set i) i) both_room w

    pub row_wrote : (newer : Places) (u : Tally) → Wrote new newer r u (done_effects c (active_at stay e.set i) i) → Wrote old newer t u (entry_effects c stay e fell i)
    row_wrote newer u v =
        subst (Wrote old newer t u) (sym (entry_pieces c stay e fell i))
        (wrote_both old new newer t r u (row_entered c (active_at stay e.set i) e.entered_by_default fell i) (done_effects c (active_at stay e.set i) i) w v)

-- the entry set and its rows whose child came by default
abbrev pub entry_is : RowSet → RowSet → Entry
entry_is set entered_by_default = record { set = rows_of set; entered_by_default = rows_of entered_by_default }

-- a history of the chart
pub record HistoryRow (chart : List ℕ) (h : ℕ) : Type 0 where
  pub row : RowReady chart h
  pub history : is_history (kind_at chart h) ≡ true

pub record HistoryRows (chart hs : List ℕ) : Type 0 where
  pub ready : Ready chart
  pub at : (h : ℕ) → mem h hs ≡ true → (h < row_count chart) × (is_history (kind_at chart h) ≡ true)

pub history_row : (chart hs : List ℕ) (h : ℕ) → HistoryRows chart hs → mem h hs ≡ true → HistoryRow chart h
history_row chart hs h w m = let f = w.at h m in record { row = record { ready = w.ready; inside = f.0 }; history = f.1 }

-- the root is no history and no final, so these have a parent

pub not_root_later : (chart : List ℕ) (i : ℕ) → Ready chart → is_root (kind_at chart i) ≡ false → 0 < i
not_root_later chart zero w e = absurd (clash _ (root_kind (chart_of chart) w.sound.tree) e)
not_root_later chart (suc i) w e = omega arith

history_plain : (k : Kind) → is_history k ≡ true → is_root k ≡ false
history_plain Root h = absurd (no h)
history_plain State h = refl
history_plain Parallel h = refl
history_plain Final h = refl
history_plain Shallow h = refl
history_plain Deep h = refl

final_plain : (k : Kind) → is_final k ≡ true → is_root k ≡ false
final_plain Root h = absurd (no h)
final_plain State h = refl
final_plain Parallel h = refl
final_plain Final h = refl
final_plain Shallow h = refl
final_plain Deep h = refl

pub history_later : (chart : List ℕ) (h : ℕ) → HistoryRow chart h → 0 < h
history_later chart h w = not_root_later chart h w.row.ready (history_plain (kind_at chart h) w.history)

pub final_later : (chart : List ℕ) (i : ℕ) → Ready chart → is_final (kind_at chart i) ≡ true → 0 < i
final_later chart i w e = not_root_later chart i w (final_plain (kind_at chart i) e)

module _ (c : Chart) (active entered_by_default : List ℕ) (i : ℕ) where
  -- "initial block, if its child came by default"
  pub initial_runs : mem i entered_by_default ≡ true → performed active (initial_block c entered_by_default i) ≡ performed active (c.row i).block
  unfolding initial_block
  initial_runs h = rw h

  pub initial_not : mem i entered_by_default ≡ false → performed active (initial_block c entered_by_default i) ≡ []
  unfolding initial_block performed performed_from
  initial_not h = rw h

module _ (c : Chart) (active : List ℕ) (i h : ℕ) where
  -- "default block, if a history of this row fell to its default list"
  pub default_runs : eqb i (parent c h) ≡ true → default_effects c active i h ≡ performed active (c.row h).block
  unfolding default_effects default_block
  default_runs e = rw e

  pub default_not : eqb i (parent c h) ≡ false → default_effects c active i h ≡ []
  unfolding default_effects default_block performed performed_from
  default_not e = rw e

-- no history fell
pub defaults_none : (c : Chart) (active : List ℕ) (i : ℕ) (hs : List ℕ) → is_empty hs ≡ true → flat (default_effects c active i) hs ≡ []
unfolding flat
defaults_none c active i hs e = rw (empty_list hs e)

-- ---- done events

-- the done event of the grandparent g
unfoldable pub done_above : Chart → List ℕ → ℕ → List Effect
done_above c conf g = cond (is_done_above c conf g) (done g ∷ []) []

module _ (c : Chart) (conf : List ℕ) (i : ℕ) where
  pub done_plain : is_final (kind c i) ≡ false → done_effects c conf i ≡ []
  unfolding done_effects
  done_plain h = rw h

  pub done_closing : (p : ℕ) → is_final (kind c i) ≡ true → p ≡ parent c i → is_root (kind c p) ≡ true → done_effects c conf i ≡ []
  unfolding done_effects
  done_closing p h e q = rw (h, rw e at q)

  -- its parent's, and then its grandparent's
  pub done_pieces : (p g : ℕ) → is_final (kind c i) ≡ true → p ≡ parent c i → is_root (kind c p) ≡ false → g ≡ parent c p → done_effects c conf i ≡ (done p ∷ []) ++ done_above c conf g
  unfolding done_effects done_above
  done_pieces p g h e q f = rw (f, e, h, rw e at q)

module _ (c : Chart) (conf active : List ℕ) (g : ℕ) (b : Bool) (e : active ≡ conf) (h : b ≡ is_done_above c active g) where
  pub above_yes : b ≡ true → done_above c conf g ≡ done g ∷ []
  unfolding done_above
  above_yes q = rw (← e, ← h, q)

  pub above_no : b ≡ false → done_above c conf g ≡ []
  unfolding done_above
  above_no q = rw (← e, ← h, q)

-- ---- rows in a final state

abbrev pub is_final_row : Chart → ℕ → Bool
is_final_row c j = is_final (kind c j)

-- a search for a row that passes: none below k does
pub record Seeking (p : ℕ → Bool) (xs : List ℕ) (k : ℕ) : Type 0 where
  pub left : any p xs ≡ any p (rest_from xs k)

module _ (p : ℕ → Bool) (xs : List ℕ) where
  pub seek_begin : Seeking p xs 0
  seek_begin = record { left = ap (any p) (sym (rest_all xs)) }

  pub seek_turn : (k x : ℕ) → rest_from xs k ≡ x ∷ rest_from xs (x + 1) → p x ≡ false → Seeking p xs k → Seeking p xs (x + 1)
  unfolding any
  seek_turn k x e q h = record { left = h.left ∙ rw (e, q) }

  pub seek_found : (k x : ℕ) → rest_from xs k ≡ x ∷ rest_from xs (x + 1) → p x ≡ true → Seeking p xs k → true ≡ any p xs
  unfolding any
  seek_found k x e q h = sym (h.left ∙ rw (e, q))

  pub seek_none : (k : ℕ) → rest_from xs k ≡ [] → Seeking p xs k → false ≡ any p xs
  unfolding any
  seek_none k e h = sym (h.left ∙ rw e)

-- of the rows of a list those that are active
pub any_active : (c : Chart) (conf xs : List ℕ) → any (is_active_final c conf) xs ≡ any (is_final_row c) (intersection xs conf)
unfolding any intersection is_active_final
any_active c conf [] = refl
any_active c conf (x ∷ xs) = go (is_final (kind c x)) (mem x conf) refl (any_active c conf xs)
  where
    go : (f b : Bool) → is_final (kind c x) ≡ f → any (is_active_final c conf) xs ≡ any (is_final_row c) (keep (is_in conf) xs) →
        ((f && b) || any (is_active_final c conf) xs) ≡ any (is_final_row c) (cond b (x ∷ keep (is_in conf) xs) (keep (is_in conf) xs))
    go true true q ih = rw q
    go true false q ih = ih
    go false true q ih = rw q ih
    go false false q ih = ih

module _ (c : Chart) (conf set : List ℕ) (i : ℕ) where
  pub in_final_parallel : is_parallel (kind c i) ≡ true → subset (children c i) set ≡ is_in_final c conf set i
  unfolding is_in_final
  in_final_parallel h = let q : is_compound c i ≡ false = not_so _ (λ e. clash _ h (compound_kind c i e)) in rw (h, q)

  pub in_final_compound : is_parallel (kind c i) ≡ false → is_compound c i ≡ true → any (is_final_row c) (intersection (children c i) conf) ≡ is_in_final c conf set i
  unfolding is_in_final
  in_final_compound h q = rw (h, q) (sym (or_false _ ∙ any_active c conf (children c i)))

  pub in_final_none : is_parallel (kind c i) ≡ false → is_compound c i ≡ false → false ≡ is_in_final c conf set i
  unfolding is_in_final
  in_final_none h q = rw (h, q)

  pub final_added : is_in_final c conf set i ≡ true → insert i set ≡ add_in_final c conf set i
  unfolding add_in_final
  final_added h = rw h

  pub final_kept : is_in_final c conf set i ≡ false → set ≡ add_in_final c conf set i
  unfolding add_in_final
  final_kept h = rw h

-- some of a row's children are rows of the chart
pub kids_within : (c : Chart) → Sound c → (i : ℕ) (xs kids ys : List ℕ) → xs ≡ intersection kids ys → kids ≡ children c i → Within c.rows xs
kids_within c g i xs kids ys e f = record {
  at = λ k m. child_inside c g i k (sym (ap (mem k) f) ∙ and_left (mem k kids) (mem k ys) (sym (ap (mem k) e ∙ mem_intersection k kids ys) ∙ m));
}

-- whether a row is in a final state hangs on the rows below it alone: a pass over those that pass p, of which every child passes too,
-- finds the same of them as one over all
module _ (c : Chart) (conf : List ℕ) (p : ℕ → Bool) (closed : (i j : ℕ) → p i ≡ true → mem j (children c i) ≡ true → p j ≡ true) where
  subset_same : (a b : List ℕ) → ((j : ℕ) → p j ≡ true → mem j a ≡ mem j b) → (xs : List ℕ) → ((j : ℕ) → mem j xs ≡ true → p j ≡ true) → subset xs a ≡ subset xs b
  subset_same a b h xs f =
      both_ways (subset xs a) (subset xs b)
      (λ s. mem_subset xs b (λ j m. sym (h j (f j m)) ∙ subset_mem xs a s j m))
      (λ s. mem_subset xs a (λ j m. h j (f j m) ∙ subset_mem xs b s j m))

  final_same : (a b : List ℕ) → ((j : ℕ) → p j ≡ true → mem j a ≡ mem j b) → (i : ℕ) → p i ≡ true → is_in_final c conf a i ≡ is_in_final c conf b i
  unfolding is_in_final
  final_same a b h i q = rw (subset_same a b h (children c i) (λ j m. closed i j q m))

  add_same : (a b : List ℕ) → ((j : ℕ) → p j ≡ true → mem j a ≡ mem j b) → (i : ℕ) → p i ≡ true → (j : ℕ) → p j ≡ true → mem j (add_in_final c conf a i) ≡ mem j (add_in_final c conf b i)
  unfolding add_in_final
  add_same a b h i q j r = rw (final_same a b h i q) (go (is_in_final c conf b i))
    where
      go : (f : Bool) → mem j (cond f (insert i a) a) ≡ mem j (cond f (insert i b) b)
      go true = mem_insert j i a ∙ ap (λ (x : Bool). eqb j i || x) (h j r) ∙ sym (mem_insert j i b)
      go false = h j r

  add_other : (a b : List ℕ) → ((j : ℕ) → p j ≡ true → mem j a ≡ mem j b) → (i : ℕ) → p i ≡ false → (j : ℕ) → p j ≡ true → mem j (add_in_final c conf a i) ≡ mem j b
  unfolding add_in_final
  add_other a b h i q j r = go (is_in_final c conf a i)
    where
      go : (f : Bool) → mem j (cond f (insert i a) a) ≡ mem j b
      go true = mem_insert j i a ∙ ap (λ (x : Bool). x || mem j a) (ne_eqb j i (λ e. clash (p j) r (ap p e ∙ q))) ∙ h j r
      go false = h j r

  pub pass_same : (xs a b : List ℕ) → ((j : ℕ) → p j ≡ true → mem j a ≡ mem j b) → (j : ℕ) → p j ≡ true → mem j (fold (add_in_final c conf) a xs) ≡ mem j (fold (add_in_final c conf) b (keep p xs))
  unfolding fold
  pass_same [] a b h = h
  pass_same (x ∷ xs) a b h = go (p x) refl (pass_same xs (add_in_final c conf a x))
    where
      go : (q : Bool) → p x ≡ q →
          ((b : List ℕ) → ((j : ℕ) → p j ≡ true → mem j (add_in_final c conf a x) ≡ mem j b) → (j : ℕ) → p j ≡ true →
          mem j (fold (add_in_final c conf) (add_in_final c conf a x) xs) ≡ mem j (fold (add_in_final c conf) b (keep p xs))) →
          (j : ℕ) → p j ≡ true → mem j (fold (add_in_final c conf) (add_in_final c conf a x) xs) ≡ mem j (fold (add_in_final c conf) b (cond q (x ∷ keep p xs) (keep p xs)))
      go true e ih = ih (add_in_final c conf b x) (add_same a b h x e)
      go false e ih = ih b (add_other a b h x e)

-- the rows below g in a final state, by a pass over them alone
unfoldable pub final_below : Chart → List ℕ → ℕ → List ℕ
final_below c conf g = fold (add_in_final c conf) [] (backwards (descendants c g))

module _ (c : Chart) (t : Tree c) (conf : List ℕ) (g : ℕ) where
  child_down : (i j : ℕ) → Way (parent c) g i → mem j (children c i) ≡ true → is_descendant c g j ≡ true
  child_down i j w m =
      let f = child_facts c t i j (mem_children c t i j m).1 in
      rw f.1 (below_under c t g (suc f.0) f.3 (rw f.2 w))

  pub done_below : subset (children c g) (in_final c conf) ≡ subset (children c g) (final_below c conf g)
  unfolding in_final final_below descendants those
  done_below =
      subset_same c conf (is_descendant c g) closed (in_final c conf) (final_below c conf g) same (children c g) (λ j m. child_down g j here m)
    where
      closed : (i j : ℕ) → is_descendant c g i ≡ true → mem j (children c i) ≡ true → is_descendant c g j ≡ true
      closed i j u m = child_down i j (below_way (parent c) g i (under_below c t g i u)) m

      same : (j : ℕ) → is_descendant c g j ≡ true → mem j (in_final c conf) ≡ mem j (final_below c conf g)
      same j u =
          pass_same c conf (is_descendant c g) closed (backwards (from c.rows 0)) [] [] (λ k v. refl) j u ∙
          ap (λ (xs : List ℕ). mem j (fold (add_in_final c conf) [] xs)) (keep_backwards (is_descendant c g) (from c.rows 0))

  pub above_done : is_parallel (kind c g) ≡ true → subset (children c g) (final_below c conf g) ≡ is_done_above c conf g
  unfolding is_done_above
  above_done h = rw h (sym done_below)

  pub above_not : is_parallel (kind c g) ≡ false → false ≡ is_done_above c conf g
  unfolding is_done_above
  above_not h = rw h
