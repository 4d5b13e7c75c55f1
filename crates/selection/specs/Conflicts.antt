-- Conflicts: a candidate joins the kept transitions, is dropped, or takes the place of those whose sources stand above its own.
use Rattle.std.specs.Prelude.{◌≡◌, Bool, true, false, not, ℕ}
use Rattle.std.proofs.Math.Path.{refl}
use Rattle.std.proofs.Common.{sym, ◌∙◌}
use mathlib.Core.List.{List, [], ◌∷◌, ◌++◌}
use borrow.Author.Tests.{not-true, not-false}
use Rattle.definition.specs.Rows.{fold, mem, any, append, union, meets}
use Rattle.definition.specs.Chart.{Chart}
use Rattle.definition.specs.Tree.{descendants}
use Rattle.follower.specs.Selection.{History, exit_set, is_conflict, is_in_the_way, keep_beside, admit}
use Rattle.follower.specs.Microstep.{add_exits, exits}
use Rattle.laws.specs.Bools.{no, not_so}
use Rattle.laws.specs.Lists.{any_true, meets_none, none_meets}
use Rattle.laws.specs.Orders.{keep_all}
use Rattle.accepted.specs.Unions.{mem_in_union}
use Rattle.theory.specs.Disjoint.{is_beside, keep_beside_lem}

module _ (c : Chart) (conf : List ℕ) (hist : History) where
  abbrev exits_of : ℕ → List ℕ
  exits_of t = exit_set c conf hist (c.transition t)

  -- ---- one kept transition k against the candidate t, whose exit set is own

  module _ (t k : ℕ) (own : List ℕ) (mine : own ≡ exits_of t) where
    pub conflict_is : (b : Bool) (its : List ℕ) → its ≡ exits_of k → b ≡ meets own its → b ≡ is_conflict c conf hist t k
    unfolding is_conflict
    conflict_is b its e h = rw (← mine, ← e) h

    pub clear_of : (b : Bool) (its : List ℕ) → its ≡ exits_of k → b ≡ meets own its → not b ≡ true → false ≡ is_in_the_way c conf hist t k
    unfolding is_in_the_way
    clear_of b its e h n = rw (← conflict_is b its e h, not-true b n)

    pub in_the_way : (b d : Bool) (its below : List ℕ) (s u : ℕ) → its ≡ exits_of k → b ≡ meets own its → not b ≡ false →
        s ≡ (c.transition t).source → u ≡ (c.transition k).source → below ≡ descendants c u → d ≡ mem s below → not d ≡ is_in_the_way c conf hist t k
    unfolding is_in_the_way
    in_the_way b d its below s u e h n p q r f = rw (← conflict_is b its e h, not-false b n, ← p, ← q, ← r, ← f)

    pub beside_drop : (kept : List ℕ) → is_conflict c conf hist t k ≡ true → kept ≡ keep_beside c conf hist t kept k
    unfolding keep_beside
    beside_drop kept e = rw e

    pub beside_keep : (kept : List ℕ) → is_conflict c conf hist t k ≡ false → append kept k ≡ keep_beside c conf hist t kept k
    unfolding keep_beside
    beside_keep kept e = rw e

  -- ---- the candidate t against all that are kept

  fold_append : (xs : List ℕ) (t : ℕ) (set : List ℕ) → fold (add_exits c conf hist) set (xs ++ (t ∷ [])) ≡ add_exits c conf hist (fold (add_exits c conf hist) set xs) t
  unfolding fold
  fold_append [] t set = refl
  fold_append (x ∷ xs) t set = fold_append xs t (add_exits c conf hist set x)

  -- one more transition exits its own set more
  pub exits_append : (kept out own : List ℕ) (t : ℕ) → out ≡ exits c conf hist kept → own ≡ exits_of t → union out own ≡ exits c conf hist (append kept t)
  unfolding exits append add_exits
  exits_append kept out own t e f = rw (e, f) (sym (fold_append kept t []))

  pub exits_none : [] ≡ exits c conf hist []
  unfolding exits fold
  exits_none = refl

  -- a candidate whose exit set meets none of the rows that the kept ones exit conflicts with none of them
  module _ (kept : List ℕ) (t : ℕ) (apart : meets (exits_of t) (exits c conf hist kept) ≡ false) where
    no_conflict : (k : ℕ) → mem k kept ≡ true → is_conflict c conf hist t k ≡ false
    unfolding is_conflict exits add_exits
    no_conflict k m =
        none_meets (exits_of t) (exits_of k)
        (λ a x y. meets_none (exits_of t) (exits c conf hist kept) apart a x (mem_in_union (add_exits c conf hist) exits_of (λ set u. refl) kept k a m y))

    none_in_the_way : any (is_in_the_way c conf hist t) kept ≡ false
    unfolding is_in_the_way
    none_in_the_way =
        not_so (any (is_in_the_way c conf hist t) kept)
        (λ h. let r = any_true (is_in_the_way c conf hist t) kept h in no (sym (rw (no_conflict r.0 r.1)) ∙ r.2))

    all_beside : fold (keep_beside c conf hist t) [] kept ≡ kept
    all_beside = keep_beside_lem c conf hist t kept ∙ keep_all (is_beside c conf hist t) kept (λ k m. rw (no_conflict k m))

    -- it joins last
    admit_apart : append kept t ≡ admit c conf hist kept t
    unfolding admit
    admit_apart = rw (none_in_the_way, all_beside)

  pub admit_last : (kept out own : List ℕ) (t : ℕ) (b : Bool) → out ≡ exits c conf hist kept → own ≡ exits_of t → b ≡ meets own out → b ≡ false →
      append kept t ≡ admit c conf hist kept t
  admit_last kept out own t b e f h n = admit_apart kept t (rw (← f, ← e) (sym h ∙ n))

  module _ (kept : List ℕ) (t : ℕ) where
    pub admit_out : (b : Bool) → b ≡ any (is_in_the_way c conf hist t) kept → b ≡ true → kept ≡ admit c conf hist kept t
    unfolding admit
    admit_out b e h = rw (← e, h)

    pub admit_in : (b : Bool) (rest : List ℕ) → b ≡ any (is_in_the_way c conf hist t) kept → b ≡ false → rest ≡ fold (keep_beside c conf hist t) [] kept →
        append rest t ≡ admit c conf hist kept t
    unfolding admit
    admit_in b rest e h f = rw (← e, h, ← f)
