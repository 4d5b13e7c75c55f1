-- Every name that a start or a round of accepted tables queues or sends is a name, and the queues stay so through the calls.
use Rattle.std.specs.Prelude.{◌≡◌, Bool, ◌&&◌, ◌||◌, cond, eqb}
use Rattle.std.proofs.Math.Path.{refl, subst}
use Rattle.std.proofs.Math.Bool.{true, false, not}
use mathlib.Core.List.{List, [], ◌∷◌, ◌++◌}
use Rattle.std.proofs.Math.Option.{Option, none}
use Prim.Native.Nat.{ℕ, zero, suc, ◌+◌, ◌<◌, ◌≤◌}
use native.Mathlib.Omega.{arith}
use Rattle.std.proofs.Math.Dec.{leb, ltb}
use Rattle.std.proofs.Math.ListN.{length}
use Rattle.std.proofs.Common.{length-append}
use borrow.Author.Tests.{ltb-true, ltb-false, leb-true, leb-false, not-true}
use Rattle.definition.specs.declared.Kind.{Kind}
use Rattle.definition.specs.declared.Kind.TheVariants.{Root, State, Parallel, Final, Shallow, Deep}
use Rattle.definition.specs.declared.Action.{Action}
use Rattle.definition.specs.declared.Action.TheVariants.{Raise, Host, If, ElseIf, Else, End, Send, Cancel}
use Rattle.definition.specs.declared.Reach.{Reach}
use Rattle.definition.specs.declared.Reach.TheVariants.{Live, Waiting, Past}
use Rattle.definition.specs.declared.Answer.TheVariants.{Done, NotAName, Full, SessionEnded}
use Rattle.definition.specs.Rows.{from, mem, is_empty, all, flat, backwards}
use Rattle.definition.specs.Names.{Name, is_name, is_id, done_name}
use Rattle.definition.specs.Chart.{Chart, Names, kind, parent, is_root, is_parallel, is_final}
use Rattle.definition.specs.Tables.{row_count, transition_count, reference_count, descriptor_count, action_count, row_cell, transition_cell, action_cell, action_at, block_at, entry_at, exit_at, id_at, list_block_at, transition_block_at, name_at, chart_of, no_number, most_delay, most_descriptors, most_targets, name_count}
use Rattle.definition.specs.Rules.{each, inside, optional_below, counts_fit, sizes_fit, block_fits, row_in_range, transition_in_range, reference_in_range, descriptor_in_range, arguments_fit, action_in_range, compiled_size, rule1, slot_fits, id_differs, id_fits, raise_fits, action_named, rule2}
use Rattle.follower.specs.Blocks.{Effect, exited, taken, entered, acted, raised, done, chosen, sent, cancelled, queued, perform, perform_if, performed_from, performed, after}
use Rattle.follower.specs.Microstep.{active_leaving, active_at, default_effects, staying, exit_effects, exiting, transition_effects, Entry, initial_block, default_block, is_done_above, done_effects, entry_effects, entering, exits, stored_in, effects}
use Rattle.follower.specs.Selection.{History, chooser}
use Rattle.definition.specs.Answers.{answer_no}
use Rattle.follower.specs.Clock.{id_of}
use Rattle.follower.specs.Follower.{Follower, most_queued, Round, idle, over, did, taking, selected_by, closing_round, round, refusal, first_entry, first_fallen, first_effects, first_follower, ended_follower, is_ended, post_answer, with_external, post}
use Rattle.laws.specs.Bools.{no, and3, and4, clash, bool_case, or_right, and_left, and_right, and_true}
use Rattle.laws.specs.Loops.{each_below}
use Rattle.laws.specs.Lists.{all_both, all_flat}
use Rattle.accepted.specs.Tree.{Tree, low, root_kind}
use Rattle.accepted.specs.NameFacts.{done_name_fits}
use Rattle.theory.specs.Disjoint.{candidate_of, selected_candidate}
use Rattle.theory.specs.Runs.{not_refused, ChosenEvent, eventless, oldest_internal, oldest_external, round_cases}

-- ---- effects

-- every name that the effect queues is a name
unfoldable pub queues_names : Chart → Names → Effect → Bool
queues_names c names e = all is_name (queued c names e)

-- what the effect sends is an event's name, a delay that is allowed and, if any, a send id's name (R-9)
unfoldable pub sends_well : Names → Effect → Bool
sends_well names (exited i) = true
sends_well names (taken t) = true
sends_well names (entered i) = true
sends_well names (acted n) = true
sends_well names (raised n) = true
sends_well names (done i) = true
sends_well names (chosen i) = true
sends_well names (sent n delay id) = is_name (names n) && leb delay most_delay && (is_empty (id_of names id) || is_name (id_of names id))
sends_well names (cancelled n) = true

unfoldable pub acts_well : Chart → Names → Effect → Bool
acts_well c names e = queues_names c names e && sends_well names e

pub acts_sends : (c : Chart) (names : Names) (es : List Effect) → all (acts_well c names) es ≡ true → all (sends_well names) es ≡ true
unfolding all acts_well
acts_sends c names [] h = refl
acts_sends c names (e ∷ es) h =
    and_true (sends_well names e) _ (and_right (queues_names c names e) (sends_well names e) (and_left (queues_names c names e && sends_well names e) _ h))
    (acts_sends c names es (and_right (queues_names c names e && sends_well names e) _ h))

pub queued_names_lem : (c : Chart) (names : Names) (es : List Effect) → all (acts_well c names) es ≡ true → all is_name (flat (queued c names) es) ≡ true
unfolding all flat acts_well queues_names
queued_names_lem c names [] h = refl
queued_names_lem c names (e ∷ es) h =
    all_both is_name (queued c names e) (flat (queued c names) es) (and_left (queues_names c names e) (sends_well names e) (and_left (queues_names c names e && sends_well names e) _ h))
    (queued_names_lem c names es (and_right (queues_names c names e && sends_well names e) _ h))

-- ---- actions: their names are names (rule 2), their delays are allowed (rule 1)

unfoldable pub delay_fits : Action → Bool
delay_fits (Raise n) = true
delay_fits (Host n) = true
delay_fits (If i) = true
delay_fits (ElseIf i) = true
delay_fits Else = true
delay_fits End = true
delay_fits (Send n delay id) = leb delay most_delay
delay_fits (Cancel n) = true

unfoldable pub act_fits : List ℕ → Action → Bool
act_fits names a = raise_fits names a && delay_fits a

delay_fits_lem : (numbers : List ℕ) (a : Action) (x y z : ℕ) → arguments_fit numbers a x y z ≡ true → delay_fits a ≡ true
unfolding arguments_fit delay_fits
delay_fits_lem numbers (Raise n) x y z h = refl
delay_fits_lem numbers (Host n) x y z h = refl
delay_fits_lem numbers (If i) x y z h = refl
delay_fits_lem numbers (ElseIf i) x y z h = refl
delay_fits_lem numbers Else x y z h = refl
delay_fits_lem numbers End x y z h = refl
delay_fits_lem numbers (Send n delay id) x y z h = (and3 (ltb n (name_count numbers)) (leb delay most_delay) (optional_below (name_count numbers) id) h).1
delay_fits_lem numbers (Cancel n) x y z h = refl

id_fits_lem : (names : Names) (id : ℕ) → (eqb id no_number || is_name (names id)) ≡ true → (is_empty (id_of names id) || is_name (id_of names id)) ≡ true
unfolding id_of is_empty
id_fits_lem names id h = go (eqb id no_number) h
  where
    go : (b : Bool) → (b || is_name (names id)) ≡ true → (is_empty (cond {A = Name} b [] (names id)) || is_name (cond {A = Name} b [] (names id))) ≡ true
    go true h = refl
    go false h = or_right (is_empty (names id)) _ h

-- an action that is performed, or passed over
perform_names : (c : Chart) (names : List ℕ) (r : Reach) (a : Action) → act_fits names a ≡ true → all (acts_well c (name_at names)) (perform_if r a) ≡ true
unfolding all perform perform_if act_fits raise_fits delay_fits acts_well sends_well queues_names queued
perform_names c names Live (Raise n) h =
    let k = and_left (is_name (name_at names n)) true h in
    rw k
perform_names c names Live (Host n) h = refl
perform_names c names Live (If i) h = refl
perform_names c names Live (ElseIf i) h = refl
perform_names c names Live Else h = refl
perform_names c names Live End h = refl
perform_names c names Live (Send n delay id) h =
    let k = and3 (is_name (name_at names n)) (eqb id no_number || is_name (name_at names id)) (leb delay most_delay) h in
    rw (k.0, k.2, id_fits_lem (name_at names) id k.1)
perform_names c names Live (Cancel n) h = refl
perform_names c names (Waiting k) a h = refl
perform_names c names (Past k) a h = refl

performed_from_names : (c : Chart) (names conf : List ℕ) (r : Reach) (block : List Action) → all (act_fits names) block ≡ true → all (acts_well c (name_at names)) (performed_from conf r block) ≡ true
unfolding all performed_from
performed_from_names c names conf r [] h = refl
performed_from_names c names conf r (a ∷ block) h =
    all_both (acts_well c (name_at names)) (perform_if r a) (performed_from conf (after conf a r) block) (perform_names c names r a (and_left (act_fits names a) _ h))
    (performed_from_names c names conf (after conf a r) block (and_right (act_fits names a) _ h))

performed_names : (c : Chart) (names conf : List ℕ) (block : List Action) → all (act_fits names) block ≡ true → all (acts_well c (name_at names)) (performed conf block) ≡ true
unfolding performed
performed_names c names conf block h = performed_from_names c names conf Live block h

-- ---- queues

-- names in both queues, the external one not too long
pub record Named (s : Follower) : Type 0 where
  pub internal : all is_name s.internal ≡ true
  pub external : all is_name s.external ≡ true
  pub short : length s.external ≤ most_queued

abbrev pub NamedAfter : Round → Type 0
NamedAfter idle = Unit {0}
NamedAfter over = Unit {0}
NamedAfter (did s es) = Named s

-- and the internal one not too long
pub record Queued (s : Follower) : Type 0 where
  pub named : Named s
  pub short : length s.internal ≤ most_queued

pub ended_queued : (c : Chart) → Queued (ended_follower c)
unfolding ended_follower all
ended_queued c = record { named = record { internal = refl; external = refl; short = omega arith }; short = omega arith }

-- ---- posts

-- a post that is taken brings a name, and there is room for it
pub post_free : (s : Follower) (name : Name) → eqb (answer_no (post_answer s name)) 0 ≡ true → (is_name name ≡ true) × (is_ended s.mode ≡ false) × (length s.external < most_queued)
unfolding post_answer answer_no
post_free s name h = go (is_name name) (is_ended s.mode) (leb most_queued (length s.external)) refl refl refl h
  where
    go : (a b d : Bool) → is_name name ≡ a → is_ended s.mode ≡ b → leb most_queued (length s.external) ≡ d →
        eqb (answer_no (cond (not a) NotAName (cond b SessionEnded (cond d Full Done)))) 0 ≡ true → (is_name name ≡ true) × (is_ended s.mode ≡ false) × (length s.external < most_queued)
    go true true d e f q h = absurd (no h)
    go true false true e f q h = absurd (no h)
    go true false false e f q h = (e, f, leb-false _ _ q)
    go false b d e f q h = absurd (no h)

pub post_queued : (s : Follower) (name : Name) → Queued s → Queued (post s name)
unfolding post with_external all
post_queued s name f = go (eqb (answer_no (post_answer s name)) 0) refl
  where
    go : (b : Bool) → eqb (answer_no (post_answer s name)) 0 ≡ b → Queued (cond b (with_external s name) s)
    go true e =
        let k = post_free s name e in
        let l = k.2 in
        record {
          named = record {
            internal = f.named.internal;
            external = all_both is_name s.external (name ∷ []) f.named.external (and_true (is_name name) true k.0 refl);
            short = simp length-append (omega arith);
          };
          short = f.short;
        }
    go false e = f

-- ---- tables that keep rules 1 to 3

module _ (numbers names : List ℕ) (r1 : rule1 numbers names (compiled_size numbers) (length names) ≡ true) (r2 : rule2 numbers names ≡ true) (t : Tree (chart_of numbers)) where
  in_range : (each (row_count numbers) (row_in_range numbers) ≡ true) × (each (transition_count numbers) (transition_in_range numbers) ≡ true) × (each (action_count numbers) (action_in_range numbers) ≡ true)
  unfolding rule1
  in_range =
      let k = and4 (counts_fit numbers && sizes_fit numbers names (compiled_size numbers) (length names) && each (row_count numbers) (row_in_range numbers) && each (transition_count numbers) (transition_in_range numbers))
      (each (reference_count numbers) (reference_in_range numbers)) (each (descriptor_count numbers) (descriptor_in_range numbers)) (each (action_count numbers) (action_in_range numbers)) r1 in
      let m = and4 (counts_fit numbers) (sizes_fit numbers names (compiled_size numbers) (length names)) (each (row_count numbers) (row_in_range numbers)) (each (transition_count numbers) (transition_in_range numbers)) k.0 in
      (m.2, m.3, k.3)

  named : (each (row_count numbers) (id_fits numbers names) ≡ true) × (each (action_count numbers) (action_named numbers names) ≡ true)
  unfolding rule2
  named =
      let k = and3 (each (name_count numbers) (slot_fits names)) (each (row_count numbers) (id_fits numbers names)) (each (action_count numbers) (action_named numbers names)) r2 in
      (k.1, k.2)

  action_fits : (a : ℕ) → a < action_count numbers → act_fits names (action_at numbers a) ≡ true
  unfolding act_fits action_named action_in_range
  action_fits a l =
      and_true (raise_fits names (action_at numbers a)) _ (each_below (action_named numbers names) (action_count numbers) named.1 a l)
      (delay_fits_lem numbers (action_at numbers a) (action_cell numbers a 1) (action_cell numbers a 2) (action_cell numbers a 3)
      (and_right (leb (action_cell numbers a 0) 7) _ (each_below (action_in_range numbers) (action_count numbers) in_range.2 a l)))

  -- the raises and sends of a block inside the table of actions name names
  pub block_names : (count start : ℕ) → start + count ≤ action_count numbers → all (act_fits names) (block_at numbers start count) ≡ true
  unfolding block_at all from
  block_names zero start l = refl
  block_names (suc count) start l =
      and_true (act_fits names (action_at numbers start)) _ (action_fits start (omega arith))
      (block_names count (suc start) (omega arith))

  block_inside : (start count : ℕ) → block_fits numbers start count ≡ true → start + count ≤ action_count numbers
  unfolding block_fits
  block_inside start count h = leb-true _ _ (and_left (inside (action_count numbers) start count) _ h)

  -- a row past the count has no blocks
  row_blocks_lem : (i : ℕ) → (all (act_fits names) (entry_at numbers i) ≡ true) × (all (act_fits names) (exit_at numbers i) ≡ true) × (all (act_fits names) (list_block_at numbers i) ≡ true)
  unfolding entry_at exit_at list_block_at row_in_range row_cell
  row_blocks_lem i =
      bool_case (ltb i (row_count numbers))
      (λ e. let k = and4 (leb (row_cell numbers i 0) 5 && optional_below (row_count numbers) (row_cell numbers i 1) && optional_below (name_count numbers) (row_cell numbers i 2) && block_fits numbers (row_cell numbers i 3) (row_cell numbers i 4))
      (block_fits numbers (row_cell numbers i 5) (row_cell numbers i 6)) (inside (reference_count numbers) (row_cell numbers i 7) (row_cell numbers i 8)) (block_fits numbers (row_cell numbers i 9) (row_cell numbers i 10))
      (each_below (row_in_range numbers) (row_count numbers) in_range.0 i (ltb-true _ _ e)) in (
        block_names (row_cell numbers i 4) (row_cell numbers i 3) (block_inside (row_cell numbers i 3) (row_cell numbers i 4) (and_right (leb (row_cell numbers i 0) 5 && optional_below (row_count numbers) (row_cell numbers i 1) && optional_below (name_count numbers) (row_cell numbers i 2)) _ k.0)),
        block_names (row_cell numbers i 6) (row_cell numbers i 5) (block_inside (row_cell numbers i 5) (row_cell numbers i 6) k.1),
        block_names (row_cell numbers i 10) (row_cell numbers i 9) (block_inside (row_cell numbers i 9) (row_cell numbers i 10) k.3),
      ))
      (λ e. let q : ltb i (row_count numbers) ≡ false = e in
      (rw q (block_names 0 0 (omega arith)), rw q (block_names 0 0 (omega arith)), rw q (block_names 0 0 (omega arith))))

  transition_block : (u : ℕ) → u < transition_count numbers → all (act_fits names) (transition_block_at numbers u) ≡ true
  unfolding transition_block_at transition_in_range
  transition_block u l =
      block_names (transition_cell numbers u 8) (transition_cell numbers u 7) (block_inside (transition_cell numbers u 7) (transition_cell numbers u 8)
      (and_right (ltb (transition_cell numbers u 0) (row_count numbers) &&
      (inside (descriptor_count numbers) (transition_cell numbers u 1) (transition_cell numbers u 2) && leb (transition_cell numbers u 2) most_descriptors) &&
      optional_below (row_count numbers) (transition_cell numbers u 3) && leb (transition_cell numbers u 4) 1 &&
      (inside (reference_count numbers) (transition_cell numbers u 5) (transition_cell numbers u 6) && leb (transition_cell numbers u 6) most_targets)) _
      (each_below (transition_in_range numbers) (transition_count numbers) in_range.1 u l)))

  -- every row but the root has an id, so its done name is a name
  pub row_done_name : (i : ℕ) → suc i < row_count numbers → is_name (done_name (name_at names (id_at numbers (suc i)))) ≡ true
  unfolding id_fits
  row_done_name i l =
      done_name_fits (name_at names (id_at numbers (suc i)))
      (and3 (not (eqb (id_at numbers (suc i)) no_number)) (is_id (name_at names (id_at numbers (suc i)))) (each (row_count numbers) (id_differs numbers names (suc i)))
      (each_below (id_fits numbers names) (row_count numbers) named.0 (suc i) l)).1

  done_named : (i : ℕ) → i < row_count numbers → is_root (kind (chart_of numbers) i) ≡ false → acts_well (chart_of numbers) (name_at names) (done i) ≡ true
  unfolding acts_well sends_well queues_names queued all
  done_named zero l r = absurd (clash _ (root_kind (chart_of numbers) t) r)
  done_named (suc i) l r = rw (row_done_name i l)

  -- a parallel row, and the parent of a final that is not under the root, are rows with an id
  parallel_row : (i : ℕ) → is_parallel (kind (chart_of numbers) i) ≡ true → (i < row_count numbers) × (is_root (kind (chart_of numbers) i) ≡ false)
  parallel_row i p = (
    bool_case (ltb i (row_count numbers)) (λ e. ltb-true _ _ e) (λ e. absurd (no (rw (t.beyond_kind i (ltb-false _ _ e)) at p))),
    go (kind (chart_of numbers) i) p,
  )
    where
      go : (k : Kind) → is_parallel k ≡ true → is_root k ≡ false
      go Root h = absurd (no h)
      go State h = refl
      go Parallel h = refl
      go Final h = refl
      go Shallow h = refl
      go Deep h = refl

  final_parent : (i : ℕ) → is_final (kind (chart_of numbers) i) ≡ true → is_root (kind (chart_of numbers) (parent (chart_of numbers) i)) ≡ false → parent (chart_of numbers) i < row_count numbers
  final_parent zero f r = absurd (go (kind (chart_of numbers) 0) (root_kind (chart_of numbers) t) f)
    where
      go : (k : Kind) → is_root k ≡ true → is_final k ≡ true → ⊥
      go Root e h = no h
      go State e h = no e
      go Parallel e h = no e
      go Final e h = no e
      go Shallow e h = no e
      go Deep e h = no e
  final_parent (suc i) f r =
      bool_case (ltb (suc i) (row_count numbers)) (λ e. omega (arith, low (chart_of numbers) t i, ltb-true (suc i) (row_count numbers) e))
      (λ e. absurd (clash _ (root_kind (chart_of numbers) t) (rw (t.beyond_parent (suc i) (ltb-false _ _ e)) at r)))

  done_effects_named : (conf : List ℕ) (i : ℕ) → all (acts_well (chart_of numbers) (name_at names)) (done_effects (chart_of numbers) conf i) ≡ true
  unfolding done_effects is_done_above all
  done_effects_named conf i = outer (is_final (kind c i) && not (is_root (kind c (parent c i)))) refl
    where
      c : Chart
      c = chart_of numbers

      inner : (b : Bool) → is_done_above c conf (parent c (parent c i)) ≡ b → all (acts_well c (name_at names)) (cond b (done (parent c (parent c i)) ∷ []) []) ≡ true
      inner true e =
          let k = parallel_row (parent c (parent c i)) (and_left (is_parallel (kind c (parent c (parent c i)))) _ e) in
          and_true (acts_well c (name_at names) (done (parent c (parent c i)))) true (done_named (parent c (parent c i)) k.0 k.1) refl
      inner false e = refl

      outer : (b : Bool) → (is_final (kind c i) && not (is_root (kind c (parent c i)))) ≡ b →
          all (acts_well c (name_at names)) (cond b (done (parent c i) ∷ cond (is_done_above c conf (parent c (parent c i))) (done (parent c (parent c i)) ∷ []) []) []) ≡ true
      outer true e =
          let r = not-true _ (and_right (is_final (kind c i)) _ e) in
          and_true (acts_well c (name_at names) (done (parent c i))) _ (done_named (parent c i) (final_parent i (and_left (is_final (kind c i)) _ e) r) r)
          (inner (is_done_above c conf (parent c (parent c i))) refl)
      outer false e = refl

  -- ---- what a row or a transition does

  exit_named : (conf out : List ℕ) (i : ℕ) → all (acts_well (chart_of numbers) (name_at names)) (exit_effects (chart_of numbers) conf out i) ≡ true
  unfolding exit_effects all acts_well sends_well queues_names queued
  exit_named conf out i = performed_names (chart_of numbers) names (active_leaving conf out i) (exit_at numbers i) (row_blocks_lem i).1

  transition_named : (stay : List ℕ) (by : ℕ → ℕ) (u : ℕ) → u < transition_count numbers → all (acts_well (chart_of numbers) (name_at names)) (transition_effects (chart_of numbers) stay by u) ≡ true
  unfolding transition_effects all acts_well sends_well queues_names queued
  transition_named stay by u l = performed_names (chart_of numbers) names stay (transition_block_at numbers u) (transition_block u l)

  entry_named : (stay : List ℕ) (e : Entry) (fell : List ℕ) (i : ℕ) → all (acts_well (chart_of numbers) (name_at names)) (entry_effects (chart_of numbers) stay e fell i) ≡ true
  unfolding entry_effects initial_block default_block default_effects all acts_well sends_well queues_names queued
  entry_named stay e fell i =
      all_both (acts_well (chart_of numbers) (name_at names))
      (performed (active_at stay e.set i) (entry_at numbers i) ++ performed (active_at stay e.set i) (initial_block (chart_of numbers) e.entered_by_default i) ++
      flat (default_effects (chart_of numbers) (active_at stay e.set i) i) fell) _
      (all_both (acts_well (chart_of numbers) (name_at names))
      (performed (active_at stay e.set i) (entry_at numbers i) ++ performed (active_at stay e.set i) (initial_block (chart_of numbers) e.entered_by_default i)) _
      (all_both (acts_well (chart_of numbers) (name_at names)) (performed (active_at stay e.set i) (entry_at numbers i)) _
      (performed_names (chart_of numbers) names (active_at stay e.set i) (entry_at numbers i) (row_blocks_lem i).0)
      (performed_names (chart_of numbers) names (active_at stay e.set i) (initial_block (chart_of numbers) e.entered_by_default i) (maybe (mem i e.entered_by_default) i)))
      (all_flat (acts_well (chart_of numbers) (name_at names)) (default_effects (chart_of numbers) (active_at stay e.set i) i) fell
      (λ h m. performed_names (chart_of numbers) names (active_at stay e.set i) (default_block (chart_of numbers) i h) (maybe (eqb i (parent (chart_of numbers) h)) h))))
      (done_effects_named (active_at stay e.set i) i)
    where
      maybe : (b : Bool) (h : ℕ) → all (act_fits names) (cond b (list_block_at numbers h) []) ≡ true
      maybe true h = (row_blocks_lem h).2
      maybe false h = refl

  entering_named : (stay : List ℕ) (e : Entry) (fell : List ℕ) → all (acts_well (chart_of numbers) (name_at names)) (entering (chart_of numbers) stay e fell) ≡ true
  unfolding entering
  entering_named stay e fell = all_flat (acts_well (chart_of numbers) (name_at names)) (entry_effects (chart_of numbers) stay e fell) e.set (λ i m. entry_named stay e fell i)

  exiting_named : (conf out : List ℕ) → all (acts_well (chart_of numbers) (name_at names)) (exiting (chart_of numbers) conf out) ≡ true
  unfolding exiting
  exiting_named conf out = all_flat (acts_well (chart_of numbers) (name_at names)) (exit_effects (chart_of numbers) conf out) (backwards out) (λ i m. exit_named conf out i)

  -- the effects of transitions of the table queue and send names
  pub effects_act : (conf : List ℕ) (hist : History) (by : ℕ → ℕ) (ts : List ℕ) → ((u : ℕ) → mem u ts ≡ true → u < transition_count numbers) →
      all (acts_well (chart_of numbers) (name_at names)) (effects (chart_of numbers) conf hist by ts) ≡ true
  unfolding effects
  effects_act conf hist by ts f =
      all_both (acts_well (chart_of numbers) (name_at names)) (exiting (chart_of numbers) conf (exits (chart_of numbers) conf hist ts) ++ flat (transition_effects (chart_of numbers) (staying (chart_of numbers) conf hist ts) by) ts) _
      (all_both (acts_well (chart_of numbers) (name_at names)) (exiting (chart_of numbers) conf (exits (chart_of numbers) conf hist ts)) _ (exiting_named conf (exits (chart_of numbers) conf hist ts))
      (all_flat (acts_well (chart_of numbers) (name_at names)) (transition_effects (chart_of numbers) (staying (chart_of numbers) conf hist ts) by) ts (λ u m. transition_named (staying (chart_of numbers) conf hist ts) by u (f u m))))
      (entering_named _ _ _)

  pub effects_named : (conf : List ℕ) (hist : History) (by : ℕ → ℕ) (ts : List ℕ) → ((u : ℕ) → mem u ts ≡ true → u < transition_count numbers) →
      all is_name (flat (queued (chart_of numbers) (name_at names)) (effects (chart_of numbers) conf hist by ts)) ≡ true
  effects_named conf hist by ts f = queued_names_lem (chart_of numbers) (name_at names) (effects (chart_of numbers) conf hist by ts) (effects_act conf hist by ts f)

  -- those of a start too
  pub first_act : all (acts_well (chart_of numbers) (name_at names)) (first_effects (chart_of numbers)) ≡ true
  unfolding first_effects
  first_act = entering_named [] (first_entry (chart_of numbers)) (first_fallen (chart_of numbers))

  pub first_named : all is_name (flat (queued (chart_of numbers) (name_at names)) (first_effects (chart_of numbers))) ≡ true
  first_named = queued_names_lem (chart_of numbers) (name_at names) (first_effects (chart_of numbers)) first_act

  -- ---- rounds

  taking_named : (s : Follower) (event : Option Name) (internal external : List Name) (ts : List ℕ) → ((u : ℕ) → mem u ts ≡ true → u < transition_count numbers) →
      all is_name internal ≡ true → all is_name external ≡ true → length external ≤ most_queued → NamedAfter (taking (chart_of numbers) (name_at names) s event internal external ts)
  unfolding taking
  taking_named s event internal external ts f h k l =
      record { internal = all_both is_name internal _ h (effects_named s.configuration (stored_in s.history) (chooser (chart_of numbers) (name_at names) s.configuration event) ts f); external = k; short = l }

  -- what a round selects are transitions of the table
  selected_below : (s : Follower) (event : Option Name) (u : ℕ) → mem u (selected_by (chart_of numbers) (name_at names) s event) ≡ true → u < transition_count numbers
  unfolding selected_by
  selected_below s event u m =
      (candidate_of (chart_of numbers) (name_at names) s.configuration event t u
      (selected_candidate (chart_of numbers) (name_at names) s.configuration (stored_in s.history) event u m)).0

  -- the queues without the event are those of before, less one name
  chosen_named : (s : Follower) → Named s → {internal external : List Name} {event : Option Name} → ChosenEvent s internal external event →
      (all is_name internal ≡ true) × (all is_name external ≡ true) × (length external ≤ most_queued)
  unfolding all
  chosen_named s f eventless = (f.internal, f.external, f.short)
  chosen_named s f (oldest_internal e es q) = (and_right (is_name e) _ (rw q at f.internal), f.external, f.short)
  chosen_named s f (oldest_external e es q r) =
      let l : length (e ∷ es) ≤ most_queued = rw r at f.short in
      (refl, and_right (is_name e) _ (rw r at f.external), omega arith)

  pub round_named : (s : Follower) → Named s → NamedAfter (round (chart_of numbers) (name_at names) s)
  unfolding closing_round all
  round_named s f =
      round_cases (chart_of numbers) (name_at names) s NamedAfter (λ m. tt) (λ m. tt) (λ m. record { internal = refl; external = refl; short = omega arith })
      (λ m internal external event h. let k = chosen_named s f h in
      taking_named s event internal external (selected_by (chart_of numbers) (name_at names) s event) (selected_below s event) k.0 k.1 k.2)

  -- what a round sends
  abbrev SendsAfter : Round → Type 0
  SendsAfter idle = Unit {0}
  SendsAfter over = Unit {0}
  SendsAfter (did s es) = all (sends_well (name_at names)) es ≡ true

  taking_sends : (s : Follower) (event : Option Name) (internal external : List Name) (ts : List ℕ) → ((u : ℕ) → mem u ts ≡ true → u < transition_count numbers) →
      SendsAfter (taking (chart_of numbers) (name_at names) s event internal external ts)
  unfolding taking
  taking_sends s event internal external ts f =
      acts_sends (chart_of numbers) (name_at names) _ (effects_act s.configuration (stored_in s.history) (chooser (chart_of numbers) (name_at names) s.configuration event) ts f)

  pub round_sends : (s next : Follower) (es : List Effect) → round (chart_of numbers) (name_at names) s ≡ did next es → all (sends_well (name_at names)) es ≡ true
  unfolding closing_round
  round_sends s next es e =
      subst SendsAfter e (round_cases (chart_of numbers) (name_at names) s SendsAfter (λ m. tt) (λ m. tt)
      (λ m. acts_sends (chart_of numbers) (name_at names) _ (exiting_named s.configuration s.configuration))
      (λ m internal external event h. taking_sends s event internal external (selected_by (chart_of numbers) (name_at names) s event) (selected_below s event)))

  pub first_sends : all (sends_well (name_at names)) (first_effects (chart_of numbers)) ≡ true
  first_sends = acts_sends (chart_of numbers) (name_at names) (first_effects (chart_of numbers)) first_act

  -- ---- calls

  pub round_queued : (s next : Follower) (full : Bool) (es : List Effect) (room : ℕ) → Queued s → round (chart_of numbers) (name_at names) s ≡ did next es → refusal room next full es ≡ none → Queued next
  round_queued s next full es room f e q =
      record { named = subst NamedAfter e (round_named s f.named); short = (not_refused room next full es q).short }

  pub first_queued : (full : Bool) (room : ℕ) → refusal room (first_follower (chart_of numbers) (name_at names)) full (first_effects (chart_of numbers)) ≡ none → Queued (first_follower (chart_of numbers) (name_at names))
  unfolding first_follower all
  first_queued full room q =
      record {
        named = record { internal = first_named; external = refl; short = omega arith };
        short = (not_refused room (first_follower (chart_of numbers) (name_at names)) full (first_effects (chart_of numbers)) q).short;
      }
