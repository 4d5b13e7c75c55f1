-- The entry set, from member to member; the paths that lead to it.
use Rattle.std.specs.Prelude.{◌≡◌, refl, true, false, ◌&&◌, List, [], ℕ, suc, ◌+◌, ◌<◌, eqb, ltb}
use Rattle.std.proofs.Common.{ap, sym, ◌∙◌, subst, ⊎_elim, arith, eqb-true}
use Rattle.std.proofs.Math.Bool.{not}
use Rattle.std.proofs.lemmas.Bool.{not-true}
use Rattle.definition.specs.declared.Kind.{Kind}
use Rattle.definition.specs.Rows.{from, mem, is_empty, insert, union, subset, meets}
use Rattle.definition.specs.Chart.{Chart, kind_no, kind, parent, is_state, is_parallel, is_final}
use Rattle.definition.specs.Tree.{is_child, children, is_compound, is_atomic, default_targets}
use Rattle.follower.specs.Selection.{History, initial_targets}
use Rattle.follower.specs.Microstep.{paths_below, Entry, has_no_child_in, complete, entry_set}
use Rattle.laws.specs.Bools.{no, clash, not_so, and_left, and_right, or_elim, both_ways, bool_case}
use Rattle.laws.specs.Sets.{Ascends, ascends_ext, ascends_union, mem_those}
use Rattle.laws.specs.Lists.{subset_mem}
use Rattle.laws.specs.Passes.{Counted, count_begin, fold_keeps}
use Rattle.laws.specs.Ways.{Way, here, Below, eq_way, way_cases, way_below_no}
use Rattle.accepted.specs.Tree.{low, under_below, below_under, child_facts, mem_children}
use Rattle.accepted.specs.Sound.{Sound}
use Rattle.theory.specs.Entry.{down_facts, down_intro, ascends_paths, asks_for, mem_complete, asked_inside, aimed_at}
use Rattle.numbers.specs.declared.Row.{Row}
use Rattle.std.specs.declared.option.Option.{Option}
use Rattle.std.specs.declared.option.Option.TheVariants.{Some, None}
use Rattle.rowset.specs.Member.{rows_of, next_in}
use Rattle.rowset.specs.Visits.{found_next, skip_turn, skip_end}
use Rattle.chart.specs.Within.{Within}
use Rattle.matching.specs.Chosen.{atomic_rows}
use Rattle.effects.specs.Entering.{entry_is}
use Rattle.microstep.specs.declared.Entered.{Entered}
use Rattle.microstep.specs.Initial.{plain_initial}

-- the definition's record
abbrev pub entered_as : Entered → Entry
entered_as e = entry_is e.set e.by_default

-- ---- what row i adds, case by case

module _ (c : Chart) (targets : ℕ → List ℕ) (set entered_by_default : List ℕ) (i : ℕ) where
  pub complete_out : mem i set ≡ false → complete c targets (record { set = set; entered_by_default = entered_by_default }) i ≡ record { set = set; entered_by_default = entered_by_default }
  unfolding complete
  complete_out m = rw m

  -- what was there, what a call made of it, and the tests on the way
  module _ (kids : List ℕ) (e : kids ≡ children c i) (m : mem i set ≡ true) where
    pub complete_parallel : (all : List ℕ) → all ≡ union set kids → is_parallel (kind c i) ≡ true → record { set = all; entered_by_default = entered_by_default } ≡ complete c targets (record { set = set; entered_by_default = entered_by_default }) i
    unfolding complete
    complete_parallel all f p = rw (m, p, f, e)

    pub complete_atomic : is_parallel (kind c i) ≡ false → is_compound c i ≡ false → record { set = set; entered_by_default = entered_by_default } ≡ complete c targets (record { set = set; entered_by_default = entered_by_default }) i
    unfolding complete has_no_child_in
    complete_atomic p q = rw (m, p, q)

    pub complete_met : is_parallel (kind c i) ≡ false → is_compound c i ≡ true → meets kids set ≡ true → record { set = set; entered_by_default = entered_by_default } ≡ complete c targets (record { set = set; entered_by_default = entered_by_default }) i
    unfolding complete has_no_child_in
    complete_met p q r = rw (m, p, q, rw e at r)

    pub complete_bare : (paths all more : List ℕ) → is_parallel (kind c i) ≡ false → is_compound c i ≡ true → meets kids set ≡ false → all ≡ union set paths → paths ≡ paths_below c i (targets i) → more ≡ insert i entered_by_default →
        record { set = all; entered_by_default = more } ≡ complete c targets (record { set = set; entered_by_default = entered_by_default }) i
    unfolding complete has_no_child_in
    complete_bare paths all more p q r f g h = rw (m, p, q, rw e at r, f, g, h)

-- ---- an atomic row adds nothing

-- rows that are all atomic
pub record AllAtomic (c : Chart) (xs : List ℕ) : Type 0 where
  pub at : (i : ℕ) → mem i xs ≡ true → is_atomic c i ≡ true

pub all_atomic : (c : Chart) (xs : List ℕ) → xs ≡ atomic_rows c → AllAtomic c xs
unfolding atomic_rows
all_atomic c xs e = record {
  at = λ i m. and_right (ltb i c.rows) (is_atomic c i) (sym (ap (mem i) e ∙ mem_those c.rows (is_atomic c) i) ∙ m);
}

-- its kind is neither parallel nor that of a compound
two_kinds : (k : Kind) (n m : ℕ) → (n ≡ m → ⊥) → eqb (kind_no k) m ≡ true → eqb (kind_no k) n ≡ false
two_kinds k n m d f = not_so (eqb (kind_no k) n) (λ e. d (sym (eqb-true _ _ e) ∙ eqb-true _ _ f))

module _ (c : Chart) (i : ℕ) (h : is_atomic c i ≡ true) where
  atomic_apart : is_parallel (kind c i) ≡ false
  unfolding is_atomic
  atomic_apart =
      or_elim (is_final (kind c i)) (is_state (kind c i) && is_empty (children c i)) (λ f. two_kinds (kind c i) 2 3 (λ e. omega arith) f)
      (λ f. two_kinds (kind c i) 2 1 (λ e. omega arith) (and_left (is_state (kind c i)) (is_empty (children c i)) f)) h

  atomic_simple : is_compound c i ≡ false
  unfolding is_atomic is_compound
  atomic_simple =
      not_so (is_state (kind c i) && not (is_empty (children c i)))
      (λ e. or_elim (is_final (kind c i)) (is_state (kind c i) && is_empty (children c i))
      (λ f. no (sym (two_kinds (kind c i) 1 3 (λ q. omega arith) f) ∙ and_left (is_state (kind c i)) (not (is_empty (children c i))) e))
      (λ f. clash (is_empty (children c i)) (and_right (is_state (kind c i)) (is_empty (children c i)) f) (not-true _ (and_right (is_state (kind c i)) (not (is_empty (children c i))) e))) h)

pub complete_leaf : (c : Chart) (targets : ℕ → List ℕ) (set entered_by_default atoms : List ℕ) (i : ℕ) → AllAtomic c atoms → mem i atoms ≡ true → mem i set ≡ true →
    record { set = set; entered_by_default = entered_by_default } ≡ complete c targets (record { set = set; entered_by_default = entered_by_default }) i
complete_leaf c targets set entered_by_default atoms i h a m =
    complete_atomic c targets set entered_by_default i (children c i) refl m (atomic_apart c i (h.at i a)) (atomic_simple c i (h.at i a))

-- rows that are all atomic ask for nothing more
pub atomic_aim : (c : Chart) (targets : ℕ → List ℕ) (aim none atoms : List ℕ) → AllAtomic c atoms → subset aim atoms ≡ true → none ≡ [] → record { set = aim; entered_by_default = none } ≡ entry_set c targets aim
unfolding entry_set
atomic_aim c targets aim none atoms h s e =
    rw e (sym (fold_keeps (complete c targets) (λ (x : Entry). x ≡ aimed_at aim) (from c.rows 0) (aimed_at aim) step refl))
  where
    step : (i : ℕ) (b : Entry) → mem i (from c.rows 0) ≡ true → b ≡ aimed_at aim → complete c targets b i ≡ aimed_at aim
    step i b m q =
        ap (λ (x : Entry). complete c targets x i) q ∙
        bool_case (mem i aim) (λ y. sym (complete_leaf c targets aim [] atoms i h (subset_mem aim atoms s i y) y)) (complete_out c targets aim [] i)

-- ---- default entry targets that are children

module _ (c : Chart) (g : Sound c) (i : ℕ) (to kids : List ℕ) (e : to ≡ union [] (default_targets c i)) (k : kids ≡ children c i) (s : subset to kids ≡ true) where
  to_child : (x : ℕ) → mem x to ≡ true → (x < c.rows) × (is_child c i x ≡ true)
  to_child x m = mem_children c g.tree i x (sym (ap (mem x) k) ∙ subset_mem to kids s x m)

  -- each is its own path
  own_path : (j : ℕ) → mem j to ≡ true → mem j (paths_below c i to) ≡ true
  own_path j m =
      let f = child_facts c g.tree i j (to_child j m).1 in
      down_intro c g.tree i to j j (to_child j m).0
      (rw f.1 (below_under c g.tree i (suc f.0) f.3 (eq_way (parent c) (sym f.2)))) m here

  -- and no other row is on one
  only_path : (j : ℕ) → mem j (paths_below c i to) ≡ true → mem j to ≡ true
  only_path j m =
      let f = down_facts c g.tree i to j m in
      let x = child_facts c g.tree i f.1.0 (to_child f.1.0 f.1.1).1 in
      ⊎_elim (λ (q : j ≡ f.1.0). ap (λ (y : ℕ). mem y to) q ∙ f.1.1)
      (λ (q : Below (parent c) j f.1.0).
      absurd (way_below_no (parent c) (low c g.tree) j i (subst (Way (parent c) j) x.2 (subst (Below (parent c) j) x.1 q)) (under_below c g.tree i j f.0)))
      (way_cases (parent c) f.1.2)

  child_paths : to ≡ paths_below c i to
  child_paths =
      ascends_ext 0 0 to (paths_below c i to) (subst (Ascends 0) (sym e) (ascends_union [] (default_targets c i) tt)) (ascends_paths c i to)
      (λ j. both_ways (mem j to) (mem j (paths_below c i to)) (own_path j) (only_path j))

  -- no history is among them, so nothing stands in
  pub initial_children : (hist : History) → to ≡ paths_below c i (initial_targets c hist i)
  initial_children hist =
      child_paths ∙
      ap (paths_below c i)
      (plain_initial c g i hist to e (λ x m. let f = child_facts c g.tree i x (to_child x m).1 in rw f.1 f.3))

-- ---- the pass

-- the rows below k are done
pub record Completing (c : Chart) (targets : ℕ → List ℕ) (aim : List ℕ) (e : Entered) (k : ℕ) : Type 0 where
  pub within : Within c.rows (rows_of e.set)
  pub done : Counted (complete c targets) (aimed_at aim) (entered_as e) c.rows k

module _ (c : Chart) (targets : ℕ → List ℕ) (aim : List ℕ) where
  pub completing_begin : (e : Entered) → rows_of e.set ≡ aim → rows_of e.by_default ≡ [] → Within c.rows aim → Completing c targets aim e 0
  completing_begin e q n w = record {
    within = subst (Within c.rows) (sym q) w;
    done = count_begin (complete c targets) (aimed_at aim) (entered_as e) c.rows (rw (q, n));
  }

  pub completing_row : (e : Entered) (k : ℕ) (o : Option Row) (r : Row) → Completing c targets aim e k → o ≡ next_in (rows_of e.set) k → o ≡ Some r → r.0 < c.rows
  completing_row e k o r g q h = g.within.at r.0 (found_next e.set k o q r h).here

  pub completing_turn : (e f : Entered) (k : ℕ) (o : Option Row) (r : Row) → Completing c targets aim e k → o ≡ next_in (rows_of e.set) k → o ≡ Some r →
      entered_as f ≡ complete c targets (entered_as e) r.0 → Completing c targets aim f (r.0 + 1)
  completing_turn e f k o r g q h n = record {
    within = record {
      at = λ j m. or_elim (mem j (rows_of e.set)) (asks_for c targets (rows_of e.set) r.0 j) (g.within.at j) (asked_inside c targets (rows_of e.set) r.0 j)
          (sym (ap (λ (x : Entry). mem j x.set) n ∙ mem_complete c targets (entered_as e) r.0 j) ∙ m);
    };
    done = skip_turn (complete c targets) (aimed_at aim) (entered_as e) c.rows e.set (complete_out c targets (rows_of e.set) (rows_of e.by_default))
        (entered_as f) k o r g.done q h (completing_row e k o r g q h) n;
  }

  pub completing_end : (e : Entered) (k : ℕ) (o : Option Row) → Completing c targets aim e k → o ≡ next_in (rows_of e.set) k → o ≡ None → entered_as e ≡ entry_set c targets aim
  unfolding entry_set
  completing_end e k o g q h =
      skip_end (complete c targets) (aimed_at aim) (entered_as e) c.rows e.set (complete_out c targets (rows_of e.set) (rows_of e.by_default)) k o g.done q h
