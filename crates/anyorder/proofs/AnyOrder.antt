-- R-13, second half: transitions that can be taken together, applied one by one in any order, lead where the round leads.
use Rattle.std.specs.Prelude.{◌≡◌, Bool, not, ◌&&◌, ◌||◌, ℕ, suc, ◌+◌, ◌<◌, length, get_or}
use Rattle.std.proofs.Math.Path.{refl, ap}
use Rattle.std.proofs.Common.{sym, ◌∙◌, subst}
use Rattle.std.proofs.Math.Bool.{true, false}
use mathlib.Core.List.{List, [], ◌∷◌, ◌++◌, map, append-nil, append_assoc}
use native.Mathlib.Omega.{arith}
use Rattle.definition.specs.declared.Mode.TheVariants.{Running, Closing, Ended}
use Rattle.definition.specs.declared.Answer.TheVariants.{Done}
use Rattle.definition.specs.Rows.{fold, from, those, mem, is_in, union, minus, append}
use Rattle.definition.specs.Chart.{Chart, Names, kind, is_history}
use Rattle.definition.specs.Tables.{chart_of, name_at}
use Rattle.definition.specs.Rules.{keeps_rules}
use Rattle.follower.specs.Selection.{History, chooser, effective_targets, initial_targets, domain, exit_set, selected}
use Rattle.follower.specs.Blocks.{Effect}
use Rattle.follower.specs.Microstep.{add_exits, exits, stored, storing, paths_below, add_targets, targeted, entry_set, stored_in, staying, history_after, entry_of, configuration_after}
use Rattle.follower.specs.Follower.{Follower, Round, idle, over, did, taking, selected_by, closing_round, round}
use Rattle.follower.specs.Legal.{WellFormed}
use Rattle.laws.specs.Bools.{no, clash, or_elim, or_left, or_right, and_false, both_ways, not_so}
use Rattle.laws.specs.Sets.{Ascends, NoTwice, ascends_ext, ascends_union, ascends_minus, ascends_those, mem_head, mem_one, mem_union, mem_minus, empty_none}
use Rattle.laws.specs.Lists.{mem_app, mem_tail, empty_list, set_eq, full_list}
use Rattle.accepted.specs.Fork.{Legal}
use Rattle.accepted.specs.Unions.{union_mem, mem_in_union, ascends_fold_union}
use Rattle.accepted.specs.Sound.{Sound, accepted_sound}
use Rattle.theory.specs.Accepted.{HistOk}
use Rattle.theory.specs.LegalTest.{legal_facts}
use Rattle.theory.specs.Storing.{stored_kept}
use Rattle.theory.specs.Shown.{taken_in, taken_effects}
use Rattle.theory.specs.Runs.{round_cases}
use Rattle.theory.specs.Round.{selected_taken, Taken}
use Rattle.anyorder.specs.EntryUnion.{Part, Joins, entry_union}
use Rattle.anyorder.specs.OneByOne.{Snapshot, apply_one, one_by_one, Reordered, AnyOrder}
use Rattle.anyorder.proofs.OneMore.{together, mem_append, apply_more}

-- ---- passes and whole lists

-- passes that join sets do not hang on the order
fold_order : (step : List ℕ → ℕ → List ℕ) (f : ℕ → List ℕ) → ((set : List ℕ) (x : ℕ) → step set x ≡ union set (f x)) →
    (us ts : List ℕ) → ((t : ℕ) → mem t us ≡ mem t ts) → fold step [] us ≡ fold step [] ts
fold_order step f joins us ts h =
    ascends_ext 0 0 (fold step [] us) (fold step [] ts) (ascends_fold_union step f joins [] us tt) (ascends_fold_union step f joins [] ts tt)
    (λ a. both_ways (mem a (fold step [] us)) (mem a (fold step [] ts))
    (λ m. let r = union_mem step f joins us a m in mem_in_union step f joins ts r.0 a (sym (h r.0) ∙ r.1) r.2)
    (λ m. let r = union_mem step f joins ts a m in mem_in_union step f joins us r.0 a (h r.0 ∙ r.1) r.2))

same_together : (c : Chart) (conf : List ℕ) (hist : History) (us ts : List ℕ) → ((t : ℕ) → mem t us ≡ mem t ts) → together c conf hist us ≡ together c conf hist ts
unfolding together configuration_after staying entry_of history_after exits add_exits targeted add_targets
same_together c conf hist us ts h =
    rw (
      fold_order (add_exits c conf hist) (λ t. exit_set c conf hist (c.transition t)) (λ set t. refl) us ts h,
      fold_order (add_targets c hist (stored_in (storing c conf hist (fold (add_exits c conf hist) [] ts))))
          (λ t. paths_below c (domain c hist (c.transition t)) (effective_targets c (stored_in (storing c conf hist (fold (add_exits c conf hist) [] ts))) (c.transition t))) (λ set t. refl) us ts h,
    )

map_get_d : (xs : List (List ℕ)) (i : ℕ) (f : ℕ → List ℕ) → ((h : ℕ) → h < length xs → f (i + h) ≡ get_or xs h []) → map f (from (length xs) i) ≡ xs
unfolding from
map_get_d [] i f e = refl
map_get_d (x ∷ xs) i f e =
    let a : i + 0 ≡ i = omega arith in
    let b : f i ≡ x = rw a at (e 0 (omega arith)) in
    let k : map f (from (length xs) (suc i)) ≡ xs = map_get_d xs (suc i) f (λ h l. let q : suc i + h ≡ i + suc h = omega arith in ap f q ∙ e (suc h) (omega arith)) in
    rw (b, k)

abbrev nowhere : ℕ → Type 0
nowhere i = ⊥

-- nothing is entered where nothing is aimed at
enters_none : (c : Chart) (targets : ℕ → List ℕ) → (entry_set c targets []).set ≡ []
unfolding mem
enters_none c targets =
    empty_list (entry_set c targets []).set
    (empty_none (entry_set c targets []).set (λ a. not_so _ (λ m. j.left a m)))
  where
    none_part : Part c nowhere
    none_part = record { child = λ i j p m. p; path = λ i j xs p m. p }

    j : Joins nowhere nowhere (entry_set c targets []) (entry_set c targets []) (entry_set c targets [])
    j = entry_union c targets targets targets nowhere nowhere none_part none_part (λ i p q. p) (λ i p. refl) (λ i p. refl) [] [] [] (λ k. refl) (λ k n. absurd (no n)) (λ k n. absurd (no n))

module _ (c : Chart) (g : Sound c) (conf : List ℕ) (ord : conf ≡ those c.rows (is_in conf)) (lc : Legal c (is_in conf)) (history : List (List ℕ)) (places : length history ≡ c.rows) (ok : HistOk c (stored_in history)) where
  abbrev kept : ℕ → ℕ
  kept t = domain c (stored_in history) (c.transition t)

  same_conf : configuration_after c conf (stored_in history) [] ≡ conf
  unfolding configuration_after staying entry_of exits targeted fold
  same_conf =
      rw (enters_none c (initial_targets c (stored_in (history_after c conf (stored_in history) [])))) (ascends_ext 0 0 (union (minus conf []) []) conf
      (ascends_union (minus conf []) [] (ascends_minus conf [] up)) up
      (λ a. mem_union a (minus conf []) [] ∙ ap (λ (b : Bool). b || mem a []) (mem_minus a conf []) ∙ plain a))
    where
      up : Ascends 0 conf
      up = rw ord (ascends_those c.rows (is_in conf))

      plain : (a : ℕ) → ((mem a conf && not (mem a [])) || mem a []) ≡ mem a conf
      plain a = unfold mem in two (mem a conf)
        where
          two : (b : Bool) → ((b && true) || false) ≡ b
          two true = refl
          two false = refl

  same_places : history_after c conf (stored_in history) [] ≡ history
  unfolding history_after exits fold storing stored mem
  same_places =
      ap (λ (n : ℕ). map (stored c conf (stored_in history) []) (from n 0)) (sym places) ∙
      map_get_d history 0 (stored c conf (stored_in history) []) (λ h l. let z : 0 + h ≡ h = omega arith in rw (z, and_false (is_history (kind c h))))

  begin : together c conf (stored_in history) [] ≡ record { configuration = conf; history = history }
  unfolding together
  begin = rw (same_conf, same_places)

  go : (done rest : List ℕ) → Taken c conf (stored_in history) (done ++ rest) → NoTwice rest → ((x : ℕ) → mem x rest ≡ true → mem x done ≡ false) →
      fold (apply_one c kept) (together c conf (stored_in history) done) rest ≡ together c conf (stored_in history) (done ++ rest)
  unfolding fold append
  go done [] tk n f = rw (append-nil done)
  go done (x ∷ xs) tk n f =
      ap (λ (p : Snapshot). fold (apply_one c kept) p xs) (apply_more c g conf ord lc (stored_in history) ok done x (f x (mem_head x xs)) first) ∙
      go (append done x) xs (rw (append_assoc done (x ∷ []) xs) tk) n.1 later ∙ ap (together c conf (stored_in history)) (append_assoc done (x ∷ []) xs)
    where
      into : (u : ℕ) → mem u (append done x) ≡ true → mem u (done ++ (x ∷ xs)) ≡ true
      into u m =
          mem_app u done (x ∷ xs) ∙
          or_elim (mem u done) (mem u (x ∷ [])) (λ h. or_left (mem u done) _ h)
          (λ h. or_right (mem u done) _ (rw (mem_one u x h) (mem_head x xs))) (sym (mem_append u done x) ∙ m)

      first : Taken c conf (stored_in history) (append done x)
      first = record { inside = λ u m. tk.inside u (into u m); active = λ u m. tk.active u (into u m); disjoint = λ u v m k. tk.disjoint u v (into u m) (into v k) }

      later : (y : ℕ) → mem y xs ≡ true → mem y (append done x) ≡ false
      later y m =
          not_so _ (λ h. or_elim (mem y done) (mem y (x ∷ [])) (λ k. clash _ k (f y (mem_tail x y xs m)))
          (λ k. clash _ (rw (mem_one y x k) at m) n.0) (sym (mem_append y done x) ∙ h))

  -- one by one in any order: where the round leads
  pub order : (us ts : List ℕ) → Taken c conf (stored_in history) ts → Reordered us ts →
      one_by_one c (λ t. domain c (stored_in history) (c.transition t)) (record { configuration = conf; history = history }) us ≡ together c conf (stored_in history) ts
  unfolding one_by_one mem
  order us ts tk r =
      ap (λ (p : Snapshot). fold (apply_one c kept) p us) (sym begin) ∙ go [] us mine r.once (λ x m. refl) ∙ same_together c conf (stored_in history) us ts r.same
    where
      mine : Taken c conf (stored_in history) us
      mine = record { inside = λ u m. tk.inside u (sym (r.same u) ∙ m); active = λ u m. tk.active u (sym (r.same u) ∙ m); disjoint = λ u v m k. tk.disjoint u v (sym (r.same u) ∙ m) (sym (r.same v) ∙ k) }

-- ---- of a session

module _ (c : Chart) (g : Sound c) (names : Names) (s : Follower) (w : WellFormed c s) (running : s.mode ≡ Running) where
  not_ended : s.mode ≡ Ended → ⊥
  not_ended e = let z : ◌≡◌ {A = ℕ} 0 1 = cc in omega arith

  not_closing : s.mode ≡ Closing → ⊥
  not_closing e = let z : ◌≡◌ {A = ℕ} 0 1 = cc in omega arith

  history_ok : HistOk c (stored_in s.history)
  unfolding HistOk
  history_ok h q n = stored_kept c g h (stored_in s.history h) (w.stored_sets h (full_list (stored_in s.history h) n))

  abbrev Ordered : Round → Type 0
  Ordered idle = Unit {0}
  Ordered over = Unit {0}
  Ordered (did next es) = AnyOrder c s next (taken_in es)

  round_ordered : Ordered (round c names s)
  unfolding closing_round taking selected_by together
  round_ordered =
      round_cases c names s Ordered (λ m. tt) (λ m. tt) (λ m. absurd (not_closing m))
      (λ m internal external event h.
      let f = legal_facts c g.tree s.configuration (w.legal not_ended) in
      record {
        ends = λ us r.
            order c g s.configuration (set_eq c.rows s.configuration f.0) f.1 s.history w.places history_ok us (selected c names s.configuration (stored_in s.history) event)
            (selected_taken c g.tree names s.configuration f.1.part (stored_in s.history) event)
            (rw (taken_effects c s.configuration (stored_in s.history) (chooser c names s.configuration event) (selected c names s.configuration (stored_in s.history) event)) at r);
      })

-- R-13: "the transitions taken in a completed round of a running session, each kept with the domain it was selected with, their exits and
-- entries applied one by one in any order, end in the configuration and stored history that the round gives (..) Both speak of well-formed sessions."
pub any_order : (numbers names : List ℕ) → keeps_rules numbers names ≡ Done → (s : Follower) → WellFormed (chart_of numbers) s → s.mode ≡ Running →
    (next : Follower) (es : List Effect) → round (chart_of numbers) (name_at names) s ≡ did next es → AnyOrder (chart_of numbers) s next (taken_in es)
any_order numbers names accepted s w running next es e =
    let c = chart_of numbers in
    let g = accepted_sound numbers names accepted in
    subst (Ordered c g (name_at names) s w running) e (round_ordered c g (name_at names) s w running)
