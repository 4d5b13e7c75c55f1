-- Where an eventless transition can be chosen: at and below the sources of all of them.
use Rattle.std.specs.Prelude.{◌≡◌, false, ◌&&◌, cond, ℕ, ◌+◌, ◌≤◌, ◌<◌, eqb, leb, ltb}
use Rattle.std.proofs.Math.Path.{refl, ap}
use Rattle.std.proofs.Common.{◌∙◌, ⊎_elim, arith, eqb-true, le-leb, lt-ltb}
use Rattle.std.proofs.Math.Bool.{true, not}
use mathlib.Core.List.{List, [], ◌∷◌}
use Rattle.std.proofs.Math.Option.{none}
use Rattle.std.proofs.Math.ListN.{length}
use Rattle.definition.specs.Rows.{from, fold, with, mem, meets, is_empty, insert, union}
use Rattle.definition.specs.declared.Kind.{Kind}
use Rattle.definition.specs.Chart.{Chart, Names, kind_no, kind, parent, is_final, is_state, is_history}
use Rattle.definition.specs.Tree.{children, descendants, is_descendant, is_atomic}
use Rattle.follower.specs.Selection.{History, is_triggered, is_match, atomic_states, candidates, without_conflicts, selected}
use Rattle.laws.specs.Bools.{and_left, and_true, not_so, or_elim}
use Rattle.laws.specs.Sets.{mem_head, mem_from}
use Rattle.laws.specs.Lists.{keep_mem, mem_tail, meets_none}
use Rattle.laws.specs.Ways.{way_cases}
use Rattle.accepted.specs.Sound.{Sound, descendants_mem}
use Rattle.accepted.specs.Tree.{below_anc}
use Rattle.accepted.specs.Unions.{mem_in_union}
use Rattle.theory.specs.Disjoint.{candidate_choice, choice_facts}
use Rattle.chart.specs.Within.{Within}

unfoldable pub eventless_at : Chart → ℕ → List ℕ
eventless_at c t = cond (is_empty (c.transition t).descriptors) ((c.transition t).source ∷ descendants c (c.transition t).source) []

unfoldable pub add_eventless : Chart → List ℕ → ℕ → List ℕ
add_eventless c set t = union set (eventless_at c t)

unfoldable pub eventless_rows : Chart → List ℕ
eventless_rows c = fold (add_eventless c) [] (from c.transitions 0)

-- ---- what the code adds for one transition, whose descriptors are ds

module _ (c : Chart) (set : List ℕ) (t : ℕ) (ds : List ℕ) (e : ds ≡ (c.transition t).descriptors) where
  pub eventless_skip : 0 < length ds → set ≡ add_eventless c set t
  unfolding add_eventless eventless_at is_empty union fold
  eventless_skip l = rw (← e) (go ds l)
    where
      go : (xs : List ℕ) → 0 < length xs → set ≡ fold with set (cond (is_empty xs) ((c.transition t).source ∷ descendants c (c.transition t).source) [])
      go [] m = absurd (omega arith)
      go (x ∷ xs) m = refl

  pub eventless_add : (s : ℕ) (one below all : List ℕ) → length ds ≤ 0 → s ≡ (c.transition t).source → one ≡ insert s set → below ≡ descendants c s → all ≡ union one below → all ≡ add_eventless c set t
  unfolding add_eventless eventless_at is_empty union fold with
  eventless_add s one below all l q f g h = h ∙ rw (f, g, q, ← e) (go ds l)
    where
      go : (xs : List ℕ) → length xs ≤ 0 → fold with (insert (c.transition t).source set) (descendants c (c.transition t).source) ≡ fold with set (cond (is_empty xs) ((c.transition t).source ∷ descendants c (c.transition t).source) [])
      go [] m = refl
      go (x ∷ xs) m = absurd (omega arith)

-- ---- where none of these rows is active an eventless round selects nothing

plain_kind : (k : Kind) (n : ℕ) → n < 4 → eqb (kind_no k) n ≡ true → is_history k ≡ false
plain_kind k n l h =
    not_so (is_history k)
    (λ r. let a : kind_no k ≡ n = eqb-true _ _ h in
    or_elim (eqb (kind_no k) 4) (eqb (kind_no k) 5) (λ q. let b : kind_no k ≡ 4 = eqb-true _ _ q in omega arith) (λ q. let b : kind_no k ≡ 5 = eqb-true _ _ q in omega arith) r)

atomic_real : (c : Chart) (i : ℕ) → is_atomic c i ≡ true → is_history (kind c i) ≡ false
unfolding is_atomic
atomic_real c i h =
    or_elim (is_final (kind c i)) (is_state (kind c i) && is_empty (children c i)) (λ f. plain_kind (kind c i) 3 (omega arith) f)
    (λ f. plain_kind (kind c i) 1 (omega arith) (and_left (is_state (kind c i)) _ f)) h

none_there : (xs : List ℕ) → ((t : ℕ) → mem t xs ≡ true → ⊥) → xs ≡ []
none_there [] h = refl
none_there (x ∷ xs) h = absurd (h x (mem_head x xs))

module _ (c : Chart) (g : Sound c) (names : Names) (conf : List ℕ) (w : Within c.rows conf) (apart : meets conf (eventless_rows c) ≡ false) where
  source_above : (t i : ℕ) → t < c.transitions → is_empty (c.transition t).descriptors ≡ true → mem i (eventless_at c t) ≡ true → mem i (eventless_rows c) ≡ true
  unfolding eventless_rows add_eventless
  source_above t i l e m =
      mem_in_union (add_eventless c) (eventless_at c) (λ set u. refl) (from c.transitions 0) t i
      (mem_from t c.transitions 0 ∙ and_true (leb 0 t) (ltb t (0 + c.transitions)) (le-leb 0 t (omega arith)) (lt-ltb t (0 + c.transitions) (omega arith))) m

  no_candidate : (t : ℕ) → mem t (candidates c names conf none) ≡ true → ⊥
  unfolding is_match is_triggered eventless_at is_descendant atomic_states
  no_candidate t h =
      let r = candidate_choice c names conf none t h in
      let f = choice_facts c names conf none g.tree r.0 t r.2 in
      let k = keep_mem (is_atomic c) conf r.0 r.1 in
      let e : is_empty (c.transition t).descriptors ≡ true = and_left (is_empty (c.transition t).descriptors) _ f.1 in
      let m : mem r.0 (eventless_at c t) ≡ true =
      rw e (⊎_elim (λ q. rw q (mem_head r.0 _))
      (λ b. mem_tail _ r.0 _ (descendants_mem c _ r.0 (w.at r.0 k.0) (and_true (not (is_history (kind c r.0))) _ (ap not (atomic_real c r.0 k.1)) (below_anc c g.tree _ r.0 b))))
      (way_cases (parent c) f.2)) in
      meets_none conf (eventless_rows c) apart r.0 k.0 (source_above t r.0 f.0 e m)

  pub nothing_eventless : (hist : History) → selected c names conf hist none ≡ []
  unfolding selected without_conflicts fold
  nothing_eventless hist = ap (without_conflicts c conf hist) (none_there (candidates c names conf none) no_candidate)
