-- The joins of a round or start: the effects are found again in them, and the names that they queue stand in the tables.
use Rattle.std.specs.Prelude.{◌≡◌, Bool, ◌&&◌, cond, eqb, leb, ltb}
use Rattle.std.proofs.Math.Path.{refl, ap, ap₂}
use Rattle.std.proofs.Common.{sym, ◌∙◌, arith}
use Rattle.std.proofs.Math.Bool.{true, false, not}
use mathlib.Core.List.{List, [], ◌∷◌, ◌++◌, map, map-append, append-nil}
use Prim.Native.Nat.{ℕ, zero, suc, ◌+◌, ◌*◌, ◌/◌, ◌%◌, ◌≤◌, ◌<◌}
use borrow.Author.Tests.{eqb-true, eq-eqb, leb-true, le-leb, ltb-true, lt-ltb, not-true}
use Rattle.definition.specs.declared.Action.{Action}
use Rattle.definition.specs.declared.Action.TheVariants.{Raise, Host, If, ElseIf, Else, End, Send, Cancel}
use Rattle.definition.specs.declared.Reach.{Reach}
use Rattle.definition.specs.declared.Reach.TheVariants.{Live, Waiting, Past}
use Rattle.definition.specs.declared.Kind.{Kind}
use Rattle.definition.specs.Rows.{nothing_at, from, mem, all, flat, backwards}
use Rattle.definition.specs.Names.{Name, is_id}
use Rattle.definition.specs.Chart.{Chart, Names, kind_no, kind, parent, is_root, is_parallel, is_final}
use Rattle.definition.specs.Tables.{no_number, row_count, transition_count, action_count, name_count, row_cell, transition_cell, action_at, block_at, entry_at, exit_at, id_at, list_block_at, transition_block_at, name_at, chart_of}
use Rattle.definition.specs.Rules.{each, slot_fits, id_differs, id_fits, action_named, rule2}
use Rattle.follower.specs.Selection.{History, initial_targets}
use Rattle.follower.specs.Blocks.{Effect, exited, taken, entered, acted, raised, done, chosen, sent, cancelled, trace_no, queued, after, perform, perform_if, performed_from, performed}
use Rattle.follower.specs.Microstep.{exits, exit_effects, exiting, transition_effects, targeted, Entry, initial_block, default_block, is_done_above, done_effects, active_leaving, active_at, default_effects, entry_effects, entering, stored_in, staying, history_after, entry_of, fallen, fallen_of, effects}
use Rattle.follower.specs.Follower.{first_entry, first_fallen, first_effects}
use Rattle.definition.specs.Compiled.{own_numbers}
use Rattle.laws.specs.Bools.{clash, not_so, and3, and_left, and_right, and_true}
use Rattle.laws.specs.Lists.{all_both, all_flat, flat_app}
use Rattle.laws.specs.Loops.{each_below}
use Rattle.laws.specs.Orders.{mem_backwards}
use Rattle.accepted.specs.Tree.{low}
use Rattle.tables.specs.Ranges.{RowIn, row_fits, transition_fits_lem, optional_below_lem}
use Rattle.tables.specs.Actions.{fits_number, number_fits}
use Rattle.chart.specs.Ready.{Ready, CompiledWith}
use Rattle.chart.specs.Own.{own_chart}
use Rattle.matching.specs.Chosen.{Within}
use Rattle.effects.specs.Entering.{row_entered, entry_pieces, final_later, not_root_later, HistoryRows}
use Rattle.effects.specs.Trace.{joining, joins_of}
use Rattle.microstep.specs.Initial.{initial_histories}
use Rattle.microstep.specs.Plan.{exits_within, targeted_within, entry_within, fallen_histories, paths_within, no_histories}
use Rattle.events.specs.Rounds.{effect_at, queued_names, is_known, JoinsIn}

-- ---- a number read back

-- "kind × 65,536 + index": of what joins, the index leaves the kind alone
unfoldable pub index_fits : Effect → Bool
index_fits (exited i) = true
index_fits (taken t) = true
index_fits (entered i) = true
index_fits (acted n) = true
index_fits (raised n) = leb n 65535
index_fits (done i) = leb i 65535
index_fits (chosen i) = true
index_fits (sent n delay id) = true
index_fits (cancelled n) = true

module _ (k i : ℕ) (l : i ≤ 65535) where
  kind_back : (k * 65536 + i) / 65536 ≡ k
  kind_back = omega arith

  index_back : (k * 65536 + i) % 65536 ≡ i
  index_back = omega arith

raised_back : (n : ℕ) → index_fits (raised n) ≡ true → effect_at (trace_no (raised n)) ≡ raised n
unfolding effect_at trace_no index_fits
raised_back n h = let l : n ≤ 65535 = leb-true _ _ h in rw (kind_back 5 n l, index_back 5 n l)

done_back : (i : ℕ) → index_fits (done i) ≡ true → effect_at (trace_no (done i)) ≡ done i
unfolding effect_at trace_no index_fits
done_back i h = let l : i ≤ 65535 = leb-true _ _ h in rw (kind_back 6 i l, index_back 6 i l)

-- what joins is known, and stands for the names that the effects queue
module _ (chart : List ℕ) (names : Names) where
  joining_known : (e : Effect) → index_fits e ≡ true → is_known chart e ≡ true → all (is_known chart) (map effect_at (joining e)) ≡ true
  unfolding joining all
  joining_known (exited i) h k = refl
  joining_known (taken i) h k = refl
  joining_known (entered i) h k = refl
  joining_known (acted i) h k = refl
  joining_known (chosen i) h k = refl
  joining_known (sent n delay id) h k = refl
  joining_known (cancelled n) h k = refl
  joining_known (raised i) h k = rw (raised_back i h, k)
  joining_known (done i) h k = rw (done_back i h, k)

  joining_queues : (e : Effect) → index_fits e ≡ true → flat (queued (chart_of chart) names) (map effect_at (joining e)) ≡ queued (chart_of chart) names e
  unfolding joining flat
  joining_queues (exited i) h = unfold queued in refl
  joining_queues (taken i) h = unfold queued in refl
  joining_queues (entered i) h = unfold queued in refl
  joining_queues (acted i) h = unfold queued in refl
  joining_queues (chosen i) h = unfold queued in refl
  joining_queues (sent n delay id) h = unfold queued in refl
  joining_queues (cancelled n) h = unfold queued in refl
  joining_queues (raised i) h = rw (raised_back i h) (append-nil (queued (chart_of chart) names (raised i)))
  joining_queues (done i) h = rw (done_back i h) (append-nil (queued (chart_of chart) names (done i)))

  pub joins_known : (es : List Effect) → all index_fits es ≡ true → all (is_known chart) es ≡ true → all (is_known chart) (map effect_at (joins_of es)) ≡ true
  unfolding joins_of flat all
  joins_known [] h k = refl
  joins_known (e ∷ es) h k =
      ap (all (is_known chart)) (map-append effect_at (joining e) (joins_of es)) ∙
      all_both (is_known chart) (map effect_at (joining e)) _ (joining_known e (and_left (index_fits e) _ h) (and_left (is_known chart e) _ k))
      (joins_known es (and_right (index_fits e) _ h) (and_right (is_known chart e) _ k))

  pub joins_queue : (es : List Effect) → all index_fits es ≡ true → flat (queued (chart_of chart) names) (map effect_at (joins_of es)) ≡ flat (queued (chart_of chart) names) es
  unfolding joins_of flat all
  joins_queue [] h = refl
  joins_queue (e ∷ es) h =
      ap (flat (queued (chart_of chart) names)) (map-append effect_at (joining e) (joins_of es)) ∙ flat_app (queued (chart_of chart) names) (map effect_at (joining e)) (map effect_at (joins_of es)) ∙
      ap₂ {C = List Name} (λ a b. a ++ b) (joining_queues e (and_left (index_fits e) _ h)) (joins_queue es (and_right (index_fits e) _ h))

-- ---- every effect passes a test, if those of each row, transition and action do

pub record Passes (chart : List ℕ) (p : Effect → Bool) : Type 0 where
  pub exit : (i : ℕ) → i < row_count chart → p (exited i) ≡ true
  pub take : (t : ℕ) → t < transition_count chart → p (taken t) ≡ true
  pub enter : (i : ℕ) → i < row_count chart → p (entered i) ≡ true
  pub chose : (i : ℕ) → p (chosen i) ≡ true
  pub act : (a : ℕ) → a < action_count chart → all p (perform (action_at chart a)) ≡ true
  -- the root is never done
  pub finish : (i : ℕ) → suc i < row_count chart → p (done (suc i)) ≡ true

parallel_plain : (k : Kind) → is_parallel k ≡ true → is_root k ≡ false
parallel_plain k h = not_so (is_root k) (λ r. let a : kind_no k ≡ 2 = eqb-true _ _ h in let b : kind_no k ≡ 0 = eqb-true _ _ r in omega arith)

module _ (chart : List ℕ) (g : Ready chart) (p : Effect → Bool) (h : Passes chart p) where
  -- only the branches taken show, and what they show passes
  if_passes : (r : Reach) (a : Action) → all p (perform a) ≡ true → all p (perform_if r a) ≡ true
  unfolding perform_if all
  if_passes Live a k = k
  if_passes (Waiting n) a k = refl
  if_passes (Past n) a k = refl

  block_passes_from : (active : List ℕ) (r : Reach) (count start : ℕ) → start + count ≤ action_count chart → all p (performed_from active r (block_at chart start count)) ≡ true
  unfolding performed_from block_at from
  block_passes_from active r zero start l = unfold all in refl
  block_passes_from active r (suc n) start l =
      all_both p (perform_if r (action_at chart start)) _ (if_passes r (action_at chart start) (h.act start (omega arith)))
      (block_passes_from active (after active (action_at chart start) r) n (suc start) (omega arith))

  block_passes : (active : List ℕ) (count start : ℕ) → start + count ≤ action_count chart → all p (performed active (block_at chart start count)) ≡ true
  unfolding performed
  block_passes active count start l = block_passes_from active Live count start l

  row_in_lem : (i : ℕ) → i < row_count chart → RowIn chart i
  row_in_lem i l = record { tables = g.tables; below = l }

  exit_passes : (conf out : List ℕ) (i : ℕ) → i < row_count chart → all p (exit_effects (chart_of chart) conf out i) ≡ true
  unfolding exit_effects exit_at all
  exit_passes conf out i l =
      and_true (p (exited i)) _ (h.exit i l) (block_passes (active_leaving conf out i) (row_cell chart i 6) (row_cell chart i 5) (row_fits chart i (row_in_lem i l)).exit.inside)

  transition_passes : (stay : List ℕ) (by : ℕ → ℕ) (t : ℕ) → t < transition_count chart → all p (transition_effects (chart_of chart) stay by t) ≡ true
  unfolding transition_effects transition_block_at all
  transition_passes stay by t l =
      and_true (p (taken t)) _ (h.take t l)
      (and_true (p (chosen (by t))) _ (h.chose (by t))
      (block_passes stay (transition_cell chart t 8) (transition_cell chart t 7) (transition_fits_lem chart t (record { tables = g.tables; below = l })).block.inside))

  entry_block : (active : List ℕ) (i : ℕ) → i < row_count chart → all p (performed active (entry_at chart i)) ≡ true
  unfolding entry_at
  entry_block active i l = block_passes active (row_cell chart i 4) (row_cell chart i 3) (row_fits chart i (row_in_lem i l)).entry.inside

  list_block : (active : List ℕ) (b : Bool) (i : ℕ) → i < row_count chart → all p (performed active (cond b (list_block_at chart i) [])) ≡ true
  unfolding list_block_at
  list_block active true i l = block_passes active (row_cell chart i 10) (row_cell chart i 9) (row_fits chart i (row_in_lem i l)).block.inside
  list_block active false i l = unfold performed performed_from all in refl

  done_passes : (i : ℕ) → i < row_count chart → is_root (kind (chart_of chart) i) ≡ false → p (done i) ≡ true
  done_passes zero l r = let z = not_root_later chart 0 g r in absurd (omega arith)
  done_passes (suc i) l r = h.finish i l

  -- the parent of a row that has one
  parent_inside : (i : ℕ) → 0 < i → i < row_count chart → parent (chart_of chart) i < row_count chart
  parent_inside zero z l = absurd (omega arith)
  parent_inside (suc i) z l = omega (arith, low (chart_of chart) g.sound.tree i)

  done_effects_lem : (conf : List ℕ) (i : ℕ) → i < row_count chart → all p (done_effects (chart_of chart) conf i) ≡ true
  unfolding done_effects is_done_above all
  done_effects_lem conf i l = outer (is_final (kind c i) && not (is_root (kind c (parent c i)))) refl
    where
      c : Chart
      c = chart_of chart

      inner : (b : Bool) → is_done_above c conf (parent c (parent c i)) ≡ b → parent c (parent c i) < row_count chart → all p (cond b (done (parent c (parent c i)) ∷ []) []) ≡ true
      inner true e m =
          and_true (p (done (parent c (parent c i)))) true
          (done_passes (parent c (parent c i)) m (parallel_plain (kind c (parent c (parent c i))) (and_left (is_parallel (kind c (parent c (parent c i)))) _ e))) refl
      inner false e m = refl

      outer : (b : Bool) → (is_final (kind c i) && not (is_root (kind c (parent c i)))) ≡ b →
          all p (cond b (done (parent c i) ∷ cond (is_done_above c conf (parent c (parent c i))) (done (parent c (parent c i)) ∷ []) []) []) ≡ true
      outer true e =
          let r = not-true _ (and_right (is_final (kind c i)) _ e) in
          let m = parent_inside i (final_later chart i g (and_left (is_final (kind c i)) _ e)) l in
          and_true (p (done (parent c i))) _ (done_passes (parent c i) m r)
          (inner (is_done_above c conf (parent c (parent c i))) refl (parent_inside (parent c i) (not_root_later chart (parent c i) g r) m))
      outer false e = refl

  entered_passes : (active entered_by_default fell : List ℕ) → HistoryRows chart fell → (i : ℕ) → i < row_count chart → all p (row_entered (chart_of chart) active entered_by_default fell i) ≡ true
  unfolding row_entered initial_block default_effects default_block
  entered_passes active entered_by_default fell w i l =
      all_both p (entered i ∷ []) _ (unfold all in and_true (p (entered i)) true (h.enter i l) refl)
      (all_both p (performed active (entry_at chart i)) _ (entry_block active i l)
      (all_both p (performed active (initial_block (chart_of chart) entered_by_default i)) _ (list_block active (mem i entered_by_default) i l)
      (all_flat p (default_effects (chart_of chart) active i) fell (λ k m. list_block active (eqb i (parent (chart_of chart) k)) k (w.at k m).0))))

  entry_passes : (stay : List ℕ) (e : Entry) (fell : List ℕ) → HistoryRows chart fell → (i : ℕ) → i < row_count chart → all p (entry_effects (chart_of chart) stay e fell i) ≡ true
  entry_passes stay e fell w i l = ap (all p) (entry_pieces (chart_of chart) stay e fell i) ∙
      all_both p (row_entered (chart_of chart) (active_at stay e.set i) e.entered_by_default fell i) _ (entered_passes (active_at stay e.set i) e.entered_by_default fell w i l)
      (done_effects_lem (active_at stay e.set i) i l)

  entering_passes : (stay : List ℕ) (e : Entry) (fell : List ℕ) → Within (row_count chart) e.set → HistoryRows chart fell → all p (entering (chart_of chart) stay e fell) ≡ true
  unfolding entering
  entering_passes stay e fell w v = all_flat p (entry_effects (chart_of chart) stay e fell) e.set (λ i m. entry_passes stay e fell v i (w.at i m))

  pub exiting_passes : (conf out : List ℕ) → Within (row_count chart) out → all p (exiting (chart_of chart) conf out) ≡ true
  unfolding exiting
  exiting_passes conf out w = all_flat p (exit_effects (chart_of chart) conf out) (backwards out) (λ i m. exit_passes conf out i (w.at i (sym (mem_backwards i out) ∙ m)))

  -- of a round from this configuration
  pub round_passes : (conf : List ℕ) (hist : History) (by : ℕ → ℕ) (ts : List ℕ) → Within (row_count chart) conf → Within (transition_count chart) ts → all p (effects (chart_of chart) conf hist by ts) ≡ true
  unfolding effects entry_of fallen_of
  round_passes conf hist by ts w v =
      let c = chart_of chart in
      let later = stored_in (history_after c conf hist ts) in
      all_both p (exiting c conf (exits c conf hist ts) ++ flat (transition_effects c (staying c conf hist ts) by) ts) _
      (all_both p (exiting c conf (exits c conf hist ts)) _ (exiting_passes conf (exits c conf hist ts) (exits_within c (row_count chart) conf hist ts _ w refl))
      (all_flat p (transition_effects c (staying c conf hist ts) by) ts (λ t m. transition_passes (staying c conf hist ts) by t (v.at t m))))
      (entering_passes (staying c conf hist ts) (entry_of c conf hist ts) (fallen_of c conf hist ts)
      (entry_within c (initial_targets c later) (targeted c hist later ts) _ refl (targeted_within c hist later ts _ refl))
      (initial_histories chart g later (fallen c later ts) (entry_of c conf hist ts).entered_by_default _ (fallen_histories chart g later ts _ v refl) refl))

  -- and of a start
  pub start_passes : all p (first_effects (chart_of chart)) ≡ true
  unfolding first_effects first_entry first_fallen
  start_passes =
      let c = chart_of chart in
      entering_passes [] (first_entry c) (first_fallen c) (entry_within c (initial_targets c nothing_at) _ _ refl (paths_within c 0 (initial_targets c nothing_at 0) _ refl))
      (initial_histories chart g nothing_at [] (0 ∷ (first_entry c).entered_by_default) _ (no_histories chart [] g refl) refl)

-- ---- what the tables give

action_known : (chart : List ℕ) (a : Action) → fits_number chart a ≡ true → all (is_known chart) (perform a) ≡ true
unfolding fits_number is_known perform all
action_known chart (Raise n) h = and_true (ltb n (name_count chart)) true h refl
action_known chart (Host n) h = refl
action_known chart (If i) h = refl
action_known chart (ElseIf i) h = refl
action_known chart Else h = refl
action_known chart End h = refl
action_known chart (Send n delay id) h = refl
action_known chart (Cancel n) h = refl

action_index : (chart : List ℕ) (a : Action) → name_count chart ≤ 65535 → fits_number chart a ≡ true → all index_fits (perform a) ≡ true
unfolding fits_number index_fits perform all
action_index chart (Raise n) l h = let m : n < name_count chart = ltb-true _ _ h in and_true (leb n 65535) true (le-leb n 65535 (omega arith)) refl
action_index chart (Host n) l h = refl
action_index chart (If i) l h = refl
action_index chart (ElseIf i) l h = refl
action_index chart Else l h = refl
action_index chart End l h = refl
action_index chart (Send n delay id) l h = refl
action_index chart (Cancel n) l h = refl

module _ (chart names : List ℕ) (k : CompiledWith chart names) where
  own_is : chart_of (own_numbers chart) ≡ chart_of chart
  own_is = own_chart chart k.ready.tables

  -- every row but the root has an id
  id_known_lem : (i : ℕ) → suc i < row_count chart → id_at chart (suc i) < name_count chart
  unfolding rule2 id_fits id_at
  id_known_lem i l =
      let own = own_numbers chart in
      let r : row_count own ≡ row_count chart = ap (λ (c : Chart). c.rows) own_is in
      let e : id_at own (suc i) ≡ id_at chart (suc i) = ap (λ (c : Chart). (c.row (suc i)).id) own_is in
      let q = and3 (each (name_count own) (slot_fits names)) (each (row_count own) (id_fits own names)) (each (action_count own) (action_named own names)) k.rule2 in
      let f = and3 (not (eqb (id_at own (suc i)) no_number)) (is_id (name_at names (id_at own (suc i)))) (each (row_count own) (id_differs own names (suc i)))
      (each_below (id_fits own names) (row_count own) q.1 (suc i) (omega arith)) in
      optional_below_lem (name_count chart) (id_at chart (suc i)) (row_fits chart (suc i) (record { tables = k.ready.tables; below = l })).id
      (λ z. clash (eqb (id_at own (suc i)) no_number) (eq-eqb _ _ (e ∙ z)) (not-true _ f.0))

  indices_pass : Passes chart index_fits
  unfolding index_fits
  indices_pass =
      let n = k.ready.tables.sized.counts.names in
      let r = k.ready.tables.sized.counts.rows in
      record {
        exit = λ i l. refl;
        take = λ i l. refl;
        enter = λ i l. refl;
        chose = λ i. refl;
        act = λ a l. action_index chart (action_at chart a) (omega arith) (number_fits chart a (record { tables = k.ready.tables; below = l }));
        finish = λ i l. le-leb (suc i) 65535 (omega arith);
      }

  known_pass : Passes chart (is_known chart)
  unfolding is_known
  known_pass = record {
    exit = λ i l. refl;
    take = λ i l. refl;
    enter = λ i l. refl;
    chose = λ i. refl;
    act = λ a l. action_known chart (action_at chart a) (number_fits chart a (record { tables = k.ready.tables; below = l }));
    finish = λ i l. and_true (ltb (suc i) (row_count chart)) _ (lt-ltb _ _ l) (lt-ltb _ _ (id_known_lem i l));
  }

-- ---- the joins of a round and of a start

pub record JoinsStand (chart names : List ℕ) (es : List Effect) : Type 0 where
  pub inside : JoinsIn chart (joins_of es)
  pub queues : queued_names (chart_of chart) (name_at names) (joins_of es) ≡ flat (queued (chart_of chart) (name_at names)) es

module _ (chart names : List ℕ) (k : CompiledWith chart names) where
  joins_stand : (es : List Effect) → all index_fits es ≡ true → all (is_known chart) es ≡ true → JoinsStand chart names es
  unfolding queued_names
  joins_stand es a b = record { inside = record { known = joins_known chart (name_at names) es a b }; queues = joins_queue chart (name_at names) es a }

  pub round_joins : (conf : List ℕ) (hist : History) (by : ℕ → ℕ) (ts : List ℕ) → Within (row_count chart) conf → Within (transition_count chart) ts → JoinsStand chart names (effects (chart_of chart) conf hist by ts)
  round_joins conf hist by ts w v =
      joins_stand (effects (chart_of chart) conf hist by ts) (round_passes chart k.ready index_fits (indices_pass chart names k) conf hist by ts w v)
      (round_passes chart k.ready (is_known chart) (known_pass chart names k) conf hist by ts w v)

  pub start_joins : JoinsStand chart names (first_effects (chart_of chart))
  start_joins =
      joins_stand (first_effects (chart_of chart)) (start_passes chart k.ready index_fits (indices_pass chart names k))
      (start_passes chart k.ready (is_known chart) (known_pass chart names k))
