-- The entries of a round, of a start and of a closing round are no more than room_for says.
use Rattle.std.specs.Prelude.{◌≡◌, refl, Bool, cond, List, [], ◌∷◌, ◌++◌, ℕ, ◌+◌, ◌≤◌, ◌<◌, eqb, ltb, length}
use Rattle.std.proofs.Common.{ap, sym, ◌∙◌, length-append, ltb-true, ltb-false}
use Rattle.std.proofs.Math.Path.{subst}
use Rattle.std.proofs.Math.Bool.{true, false}
use Rattle.std.proofs.Math.Option.{Option}
use native.Mathlib.Omega.{arith}
use Rattle.definition.specs.declared.Kind.{Kind}
use Rattle.definition.specs.declared.Kind.TheVariants.{Root, State, Parallel, Final, Shallow, Deep}
use Rattle.definition.specs.declared.Mode.TheVariants.{Closing}
use Rattle.definition.specs.declared.Action.{Action}
use Rattle.definition.specs.Rows.{nothing_at, from, keep, mem, any, is_in, is_empty, is_set, flat, backwards, intersection}
use Rattle.definition.specs.Names.{Name}
use Rattle.definition.specs.Chart.{Chart, Names, kind, parent, is_state, is_history}
use Rattle.definition.specs.Tree.{descendants, is_compound, default_targets}
use Rattle.follower.specs.Selection.{History, domain, effective_targets, initial_targets, exit_set, selected, chooser}
use Rattle.follower.specs.Blocks.{Effect, performed}
use Rattle.follower.specs.Microstep.{add_exits, exits, exit_effects, exiting, transition_effects, paths_below, add_targets, targeted, Entry, entry_set, fell_to_default, add_fallen, fallen, add_fallen_initial, with_initial, initial_block, default_block, active_leaving, active_at, default_effects, entry_effects, entering, stored_in, staying, history_after, entry_of, fallen_of, effects}
use Rattle.follower.specs.Follower.{Follower, Round, idle, over, did, taking, selected_by, closing_round, round, first_entry, first_fallen, first_effects}
use Rattle.laws.specs.Bools.{no, or_elim, bool_case, and_left, and_right}
use Rattle.laws.specs.Sets.{Ascends, NoTwice, no_twice, mem_one, mem_insert_one, mem_intersection}
use Rattle.laws.specs.Lists.{keep_mem, mem_app, any_true, set_ascends, set_below}
use Rattle.accepted.specs.Unions.{mem_fold_union, union_mem, ascends_fold_union}
use Rattle.accepted.specs.Tree.{Tree}
use Rattle.theory.specs.Entry.{path_inside, ascends_paths, bare_facts, Step, child, initial, steps-keep, entry_steps, entry_ascends, entry_inside}
use Rattle.accepted.specs.Sound.{mem_descendants}
use Rattle.theory.specs.Disjoint.{candidate_of, selected_once, selected_candidate, no_twice_subsequence, subsequence_keep}
use Rattle.theory.specs.Round.{exits_ascends}
use Rattle.theory.specs.Runs.{round_cases}
use Rattle.paths.specs.Lengths.{performed_few}
use Rattle.paths.specs.Lengths.{done_few}
use Rattle.room.specs.Sums.{total, fold_total, total_zero, total_more, total_add, total_app, length_flat, total_keep, total_below, no_twice_both, total_backwards, total_one}
use Rattle.room.specs.Room.{room_in_row, transition_room, add_row, add_transition, rows_room, transitions_room, room_for}

-- ---- the parts of a row

abbrev exit_part : Chart → ℕ → ℕ
exit_part c i = 1 + length (c.row i).exit

abbrev entry_part : Chart → ℕ → ℕ
entry_part c i = 3 + length (c.row i).entry

abbrev block_part : Chart → ℕ → ℕ
block_part c i = length (c.row i).block

rows_parts : (c : Chart) → rows_room c ≡ total (exit_part c) (from c.rows 0) + (total (entry_part c) (from c.rows 0) + total (block_part c) (from c.rows 0))
unfolding rows_room add_row room_in_row
rows_parts c =
    let a = fold_total (add_row c) (room_in_row c) (λ s i. refl) 0 (from c.rows 0) in
    let b = total_add (exit_part c) (λ i. entry_part c i + block_part c i) (room_in_row c) (from c.rows 0) (λ i. omega arith) in
    let d = total_add (entry_part c) (block_part c) (λ i. entry_part c i + block_part c i) (from c.rows 0) (λ i. refl) in
    omega arith

transitions_parts : (c : Chart) → transitions_room c ≡ total (transition_room c) (from c.transitions 0)
unfolding transitions_room add_transition
transitions_parts c = let a = fold_total (add_transition c) (transition_room c) (λ s t. refl) 0 (from c.transitions 0) in omega arith

-- ---- exits and transitions

exiting_few : (c : Chart) (conf out : List ℕ) → NoTwice out → ((i : ℕ) → mem i out ≡ true → i < c.rows) → length (exiting c conf out) ≤ total (exit_part c) (from c.rows 0)
unfolding exiting exit_effects
exiting_few c conf out t h =
    let a = length_flat (exit_effects c conf out) (backwards out) in
    let b = total_backwards (λ i. length (exit_effects c conf out i)) out in
    let d = total_more (λ i. length (exit_effects c conf out i)) (exit_part c) out (λ i m. let p = performed_few (active_leaving conf out i) (c.row i).exit in omega arith) in
    let e = total_below (exit_part c) c.rows out t h in
    omega arith

taken_few : (c : Chart) (stay : List ℕ) (by : ℕ → ℕ) (ts : List ℕ) → NoTwice ts → ((t : ℕ) → mem t ts ≡ true → t < c.transitions) → length (flat (transition_effects c stay by) ts) ≤ transitions_room c
unfolding transition_effects transition_room
taken_few c stay by ts t h =
    let a = length_flat (transition_effects c stay by) ts in
    let d = total_more (λ u. length (transition_effects c stay by u)) (transition_room c) ts (λ u m. let p = performed_few stay (c.transition u).block in omega arith) in
    let e = total_below (transition_room c) c.transitions ts t h in
    let f = transitions_parts c in
    omega arith

-- ---- entries

cond_length : (b : Bool) (block : List Action) → length (cond b block []) ≡ cond b (length block) 0
cond_length true block = refl
cond_length false block = refl

-- the initial block of a row that has a child by default, and the default blocks of the histories of a row
abbrev initial_part : Chart → List ℕ → ℕ → ℕ
initial_part c entered_by_default i = cond (is_in entered_by_default i) (block_part c i) 0

abbrev default_part : Chart → List ℕ → ℕ → ℕ
default_part c fell i = length (flat (default_block c i) fell)

-- the default blocks have at most an effect an action
defaults_length : (c : Chart) (conf : List ℕ) (i : ℕ) (hs : List ℕ) → length (flat (default_effects c conf i) hs) ≤ length (flat (default_block c i) hs)
unfolding flat default_effects
defaults_length c conf i [] = omega arith
defaults_length c conf i (h ∷ hs) =
    let a = length-append (performed conf (default_block c i h)) (flat (default_effects c conf i) hs) in
    let b = length-append (default_block c i h) (flat (default_block c i) hs) in
    let p = performed_few conf (default_block c i h) in
    let d = defaults_length c conf i hs in
    omega arith

entry_few : (c : Chart) (stay : List ℕ) (e : Entry) (fell : List ℕ) (i : ℕ) →
    length (entry_effects c stay e fell i) ≤ entry_part c i + (initial_part c e.entered_by_default i + default_part c fell i)
unfolding entry_effects initial_block
entry_few c stay e fell i =
    let d = done_few c (active_at stay e.set i) i in
    let q = cond_length (mem i e.entered_by_default) (c.row i).block in
    let p = performed_few (active_at stay e.set i) (c.row i).entry in
    let x = performed_few (active_at stay e.set i) (initial_block c e.entered_by_default i) in
    let y = defaults_length c (active_at stay e.set i) i fell in
    simp length-append (omega arith)

-- a history is of one row
defaults_few : (c : Chart) (set fell : List ℕ) → NoTwice set → total (default_part c fell) set ≤ total (block_part c) fell
unfolding flat total default_block
defaults_few c set [] t = let z = total_zero (default_part c []) set (λ i. refl) in omega arith
defaults_few c set (h ∷ fell) t =
    let a = total_add (λ i. cond (eqb i (parent c h)) (block_part c h) 0) (default_part c fell) (default_part c (h ∷ fell)) set
    (λ i. length-append (default_block c i h) (flat (default_block c i) fell) ∙ ap (λ (n : ℕ). n + default_part c fell i) (cond_length (eqb i (parent c h)) (c.row h).block)) in
    let b = total_one (parent c h) (block_part c h) set t in
    let d = defaults_few c set fell t in
    omega arith

-- what a set of rows to enter is to keep: its rows are of the chart, none twice, and so are the histories that fell to their default lists; no row is
-- both one with a child by default and such a history
record Enters (c : Chart) (e : Entry) (fell : List ℕ) : Type 0 where
  once : NoTwice e.set
  inside : (i : ℕ) → mem i e.set ≡ true → i < c.rows
  fell_once : NoTwice fell
  fell_inside : (h : ℕ) → mem h fell ≡ true → h < c.rows
  apart : (i : ℕ) → mem i e.entered_by_default ≡ true → mem i fell ≡ true → ⊥

entering_few : (c : Chart) (stay : List ℕ) (e : Entry) (fell : List ℕ) → Enters c e fell →
    length (entering c stay e fell) ≤ total (entry_part c) (from c.rows 0) + total (block_part c) (from c.rows 0)
unfolding entering
entering_few c stay e fell w =
    let a = length_flat (entry_effects c stay e fell) e.set in
    let b = total_more (λ i. length (entry_effects c stay e fell i)) (λ i. entry_part c i + (initial_part c e.entered_by_default i + default_part c fell i)) e.set (λ i m. entry_few c stay e fell i) in
    let d = total_add (entry_part c) (λ i. initial_part c e.entered_by_default i + default_part c fell i) (λ i. entry_part c i + (initial_part c e.entered_by_default i + default_part c fell i)) e.set (λ i. refl) in
    let f = total_add (initial_part c e.entered_by_default) (default_part c fell) (λ i. initial_part c e.entered_by_default i + default_part c fell i) e.set (λ i. refl) in
    let g = total_keep (block_part c) (is_in e.entered_by_default) e.set in
    let h = defaults_few c e.set fell w.once in
    let j = total_app (block_part c) (keep (is_in e.entered_by_default) e.set) fell in
    let k = total_below (block_part c) c.rows (keep (is_in e.entered_by_default) e.set ++ fell)
    (no_twice_both (keep (is_in e.entered_by_default) e.set) fell (no_twice_subsequence (subsequence_keep (is_in e.entered_by_default) e.set) w.once) w.fell_once
    (λ i m n. w.apart i (keep_mem (is_in e.entered_by_default) e.set i m).1 n))
    (λ i m. or_elim (mem i (keep (is_in e.entered_by_default) e.set)) (mem i fell) (λ n. w.inside i (keep_mem (is_in e.entered_by_default) e.set i n).0) (w.fell_inside i)
    (sym (mem_app i (keep (is_in e.entered_by_default) e.set) fell) ∙ m)) in
    let l = total_below (entry_part c) c.rows e.set w.once w.inside in
    omega arith

-- ---- what a round exits, takes and enters

exit_inside : (c : Chart) (conf : List ℕ) (hist : History) (ts : List ℕ) (i : ℕ) → mem i (exits c conf hist ts) ≡ true → i < c.rows
unfolding exits exit_set add_exits
exit_inside c conf hist ts i h =
    let r = union_mem (add_exits c conf hist) (λ t. exit_set c conf hist (c.transition t)) (λ set t. refl) ts i h in
    go (is_empty (c.transition r.0).targets) (domain c hist (c.transition r.0)) r.2
  where
    go : (b : Bool) (d : ℕ) → mem i (cond b [] (intersection conf (descendants c d))) ≡ true → i < c.rows
    go true d m = absurd (no (unfold mem in m))
    go false d m = (mem_descendants c d i (and_right (mem i conf) _ (sym (mem_intersection i conf (descendants c d)) ∙ m))).0

-- a row that has its child by default is a compound
default_compound : (c : Chart) (targets : ℕ → List ℕ) (aim : List ℕ) (i : ℕ) → mem i (entry_set c targets aim).entered_by_default ≡ true → is_compound c i ≡ true
default_compound c targets aim =
    steps-keep c targets (λ e. (i : ℕ) → mem i e.entered_by_default ≡ true → is_compound c i ≡ true) step (entry_steps c targets aim) (λ i m. absurd (no (unfold mem in m)))
  where
    step : (e f : Entry) → Step c targets e f → ((i : ℕ) → mem i e.entered_by_default ≡ true → is_compound c i ≡ true) → (i : ℕ) → mem i f.entered_by_default ≡ true → is_compound c i ≡ true
    step e _ (child j k m p n) h = h
    step e _ (initial j m b) h = λ i n. or_elim (mem i e.entered_by_default) (mem i (j ∷ [])) (h i) (λ q. rw (mem_one i j q) (bare_facts c e.set j b).0) (sym (mem_insert_one i j e.entered_by_default) ∙ n)

no_compound : (c : Chart) (i : ℕ) → is_compound c i ≡ true → is_history (kind c i) ≡ true → ⊥
unfolding is_compound
no_compound c i h = go (kind c i) (and_left (is_state (kind c i)) _ h)
  where
    go : (k : Kind) → is_state k ≡ true → is_history k ≡ true → ⊥
    go Root s h = no s
    go State s h = no h
    go Parallel s h = no s
    go Final s h = no s
    go Shallow s h = no s
    go Deep s h = no s

history_inside : (c : Chart) → Tree c → (h : ℕ) → is_history (kind c h) ≡ true → h < c.rows
history_inside c t h p = bool_case (ltb h c.rows) (λ e. ltb-true _ _ e) (λ e. absurd (no (rw (t.beyond_kind h (ltb-false _ _ e)) at p)))

-- the histories that fell among some targets are histories
fell_history : (c : Chart) (after : History) (xs : List ℕ) (h : ℕ) → mem h (keep (fell_to_default c after) xs) ≡ true → is_history (kind c h) ≡ true
unfolding fell_to_default
fell_history c after xs h m = and_left (is_history (kind c h)) _ (keep_mem (fell_to_default c after) xs h m).1

fallen_history : (c : Chart) (after : History) (ts : List ℕ) (h : ℕ) → mem h (fallen c after ts) ≡ true → is_history (kind c h) ≡ true
unfolding fallen add_fallen
fallen_history c after ts h m =
    let r = union_mem (add_fallen c after) (λ t. keep (fell_to_default c after) (c.transition t).targets) (λ set t. refl) ts h m in
    fell_history c after (c.transition r.0).targets h r.2

fallen_ascends : (c : Chart) (after : History) (ts : List ℕ) → Ascends 0 (fallen c after ts)
unfolding fallen add_fallen
fallen_ascends c after ts = ascends_fold_union (add_fallen c after) (λ t. keep (fell_to_default c after) (c.transition t).targets) (λ set t. refl) [] ts tt

-- and those that fell in initial lists too
initial_history : (c : Chart) (after : History) (set rows : List ℕ) → ((h : ℕ) → mem h set ≡ true → is_history (kind c h) ≡ true) →
    (h : ℕ) → mem h (with_initial c after set rows) ≡ true → is_history (kind c h) ≡ true
unfolding with_initial add_fallen_initial
initial_history c after set rows w h m =
    or_elim (mem h set) (any (λ i. mem h (keep (fell_to_default c after) (default_targets c i))) rows) (w h)
    (λ q. let r = any_true (λ i. mem h (keep (fell_to_default c after) (default_targets c i))) rows q in fell_history c after (default_targets c r.0) h r.2)
    (sym (mem_fold_union (add_fallen_initial c after) (λ i. keep (fell_to_default c after) (default_targets c i)) (λ s i. refl) h set rows) ∙ m)

initial_ascends : (c : Chart) (after : History) (set rows : List ℕ) → Ascends 0 set → Ascends 0 (with_initial c after set rows)
unfolding with_initial add_fallen_initial
initial_ascends c after set rows a = ascends_fold_union (add_fallen_initial c after) (λ i. keep (fell_to_default c after) (default_targets c i)) (λ s i. refl) set rows a

targeted_ascends : (c : Chart) (before after : History) (ts : List ℕ) → Ascends 0 (targeted c before after ts)
unfolding targeted add_targets
targeted_ascends c before after ts =
    ascends_fold_union (add_targets c before after) (λ t. paths_below c (domain c before (c.transition t)) (effective_targets c after (c.transition t))) (λ set t. refl) [] ts tt

targeted_inside : (c : Chart) (before after : History) (ts : List ℕ) (i : ℕ) → mem i (targeted c before after ts) ≡ true → i < c.rows
unfolding targeted add_targets
targeted_inside c before after ts i h =
    let r = union_mem (add_targets c before after) (λ t. paths_below c (domain c before (c.transition t)) (effective_targets c after (c.transition t))) (λ set t. refl) ts i h in
    path_inside c (domain c before (c.transition r.0)) (effective_targets c after (c.transition r.0)) i r.2

entry_enters : (c : Chart) → Tree c → (targets : ℕ → List ℕ) (aim fell : List ℕ) → Ascends 0 aim → ((i : ℕ) → mem i aim ≡ true → i < c.rows) →
    Ascends 0 fell → ((h : ℕ) → mem h fell ≡ true → is_history (kind c h) ≡ true) → Enters c (entry_set c targets aim) fell
entry_enters c t targets aim fell a h f p = record {
  once = no_twice 0 (entry_set c targets aim).set (entry_ascends c targets aim a);
  inside = entry_inside c targets aim h;
  fell_once = no_twice 0 fell f;
  fell_inside = λ k m. history_inside c t k (p k m);
  apart = λ i m n. no_compound c i (default_compound c targets aim i m) (p i n);
}

-- ---- rounds, closing rounds and starts

effects_few : (c : Chart) → Tree c → (conf : List ℕ) (hist : History) (by : ℕ → ℕ) (ts : List ℕ) → NoTwice ts → ((t : ℕ) → mem t ts ≡ true → t < c.transitions) → length (effects c conf hist by ts) ≤ room_for c
unfolding effects entry_of fallen_of room_for
effects_few c t conf hist by ts n h =
    let after = stored_in (history_after c conf hist ts) in
    let aim = targeted c hist after ts in
    let rows = (entry_set c (initial_targets c after) aim).entered_by_default in
    let a = exiting_few c conf (exits c conf hist ts) (no_twice 0 (exits c conf hist ts) (exits_ascends c conf hist ts)) (exit_inside c conf hist ts) in
    let b = taken_few c (staying c conf hist ts) by ts n h in
    let d = entering_few c (staying c conf hist ts) (entry_set c (initial_targets c after) aim) (with_initial c after (fallen c after ts) rows)
    (entry_enters c t (initial_targets c after) aim (with_initial c after (fallen c after ts) rows) (targeted_ascends c hist after ts) (targeted_inside c hist after ts)
    (initial_ascends c after (fallen c after ts) rows (fallen_ascends c after ts)) (initial_history c after (fallen c after ts) rows (fallen_history c after ts))) in
    let r = rows_parts c in
    simp length-append (omega arith)

pub first_few : (c : Chart) → Tree c → length (first_effects c) ≤ room_for c
unfolding first_effects first_entry first_fallen room_for
first_few c t =
    let aim = paths_below c 0 (initial_targets c nothing_at 0) in
    let rows = (entry_set c (initial_targets c nothing_at) aim).entered_by_default in
    let d = entering_few c [] (entry_set c (initial_targets c nothing_at) aim) (with_initial c nothing_at [] (0 ∷ rows))
    (entry_enters c t (initial_targets c nothing_at) aim (with_initial c nothing_at [] (0 ∷ rows)) (ascends_paths c 0 (initial_targets c nothing_at 0)) (path_inside c 0 (initial_targets c nothing_at 0))
    (initial_ascends c nothing_at [] (0 ∷ rows) tt) (initial_history c nothing_at [] (0 ∷ rows) (λ h m. absurd (no (unfold mem in m))))) in
    let r = rows_parts c in
    omega arith

closing_few : (c : Chart) (conf : List ℕ) → is_set c.rows conf ≡ true → length (exiting c conf conf) ≤ room_for c
unfolding room_for
closing_few c conf h =
    let a = exiting_few c conf conf (no_twice 0 conf (set_ascends c.rows conf h)) (set_below c.rows conf h) in
    let r = rows_parts c in
    omega arith

module _ (c : Chart) (tree : Tree c) (names : Names) (s : Follower) where
  abbrev Few : Round → Type 0
  Few idle = Unit {0}
  Few over = Unit {0}
  Few (did next es) = length es ≤ room_for c

  selected_few : (internal external : List Name) (event : Option Name) → Few (taking c names s event internal external (selected_by c names s event))
  unfolding taking selected_by
  selected_few internal external event =
      effects_few c tree s.configuration (stored_in s.history) (chooser c names s.configuration event) (selected c names s.configuration (stored_in s.history) event)
      (selected_once c names s.configuration (stored_in s.history) event)
      (λ t m. (candidate_of c names s.configuration event tree t (selected_candidate c names s.configuration (stored_in s.history) event t m)).0)

  -- of any session whose configuration, where it is closing, is a set of rows of the chart
  pub round_few : (s.mode ≡ Closing → is_set c.rows s.configuration ≡ true) → (next : Follower) (es : List Effect) → round c names s ≡ did next es → length es ≤ room_for c
  unfolding closing_round
  round_few h next es e =
      subst Few e (round_cases c names s Few (λ m. tt) (λ m. tt) (λ m. closing_few c s.configuration (h m)) (λ m internal external event k. selected_few internal external event))
