-- Who chose a transition: "the first active atomic state that chose it, through conflict removal" (R-6).
use Rattle.std.specs.Prelude.{◌≡◌, Bool, true, List, [], ◌∷◌, ℕ, suc, ◌<◌}
use Rattle.std.proofs.Math.Option.{Option, some}
use Rattle.std.proofs.Common.{arith}
use Rattle.definition.specs.Rows.{mem, any, first, or_else}
use Rattle.definition.specs.Names.{Name}
use Rattle.definition.specs.Chart.{Chart, Names}
use Rattle.definition.specs.Tree.{is_atomic}
use Rattle.follower.specs.Selection.{History, choice, atomic_states, chooses, chooser, selected}
use Rattle.laws.specs.Bools.{no, clash, bool_case}
use Rattle.laws.specs.Sets.{Ascends, mem_head, mem_low, ascends_keep}
use Rattle.laws.specs.Lists.{mem_tail, mem_cases, any_mem}
use Rattle.theory.specs.Disjoint.{is_that_lem, that_is, candidate_choice, selected_candidate}

-- of the rows of a list that pass, the least
record Least (p : ℕ → Bool) (xs : List ℕ) (i : ℕ) : Type 0 where
  there : mem i xs ≡ true
  passes : p i ≡ true
  before : (k : ℕ) → k < i → mem k xs ≡ true → p k ≡ true → ⊥

least_passing : (p : ℕ → Bool) (lo : ℕ) (xs : List ℕ) → Ascends lo xs → any p xs ≡ true → Least p xs (or_else (first p xs) 0)
unfolding any first or_else
least_passing p lo [] a h = absurd (no h)
least_passing p lo (x ∷ xs) a h =
    bool_case (p x)
    (λ e. rw e (record {
      there = mem_head x xs;
      passes = e;
      before = λ k l m q. mem_cases k x xs (λ s. omega arith) (λ n. clash _ n (mem_low k (suc x) xs a.1 (omega arith))) m;
    }))
    (λ e. let r : Least p xs (or_else (first p xs) 0) = least_passing p (suc x) xs a.1 (rw e at h) in
    rw e (record {
      there = mem_tail x _ xs r.there;
      passes = r.passes;
      before = λ k l m q. mem_cases k x xs (λ s. clash _ q (rw s e)) (λ n. r.before k l n q) m;
    }))

-- row i is active and atomic and chose transition t, and no such row before it did
pub record FirstChooser (c : Chart) (names : Names) (conf : List ℕ) (event : Option Name) (t i : ℕ) : Type 0 where
  pub active : mem i (atomic_states c conf) ≡ true
  pub chose : choice c names conf event i ≡ some t
  pub first : (k : ℕ) → k < i → mem k (atomic_states c conf) ≡ true → choice c names conf event k ≡ some t → ⊥

module _ (c : Chart) (names : Names) (conf : List ℕ) (hist : History) (event : Option Name) where
  pub chooser_first : Ascends 0 conf → (t : ℕ) → mem t (selected c names conf hist event) ≡ true → FirstChooser c names conf event t (chooser c names conf event t)
  unfolding chooser chooses atomic_states
  chooser_first a t m =
      let r = candidate_choice c names conf event t (selected_candidate c names conf hist event t m) in
      let l = least_passing (chooses c names conf event t) 0 (atomic_states c conf) (ascends_keep (is_atomic c) 0 conf a)
      (any_mem (chooses c names conf event t) (atomic_states c conf) r.0 r.1 (that_is t (choice c names conf event r.0) r.2)) in
      record {
        active = l.there;
        chose = is_that_lem t (choice c names conf event (chooser c names conf event t)) l.passes;
        first = λ k u n q. l.before k u n (that_is t (choice c names conf event k) q);
      }
