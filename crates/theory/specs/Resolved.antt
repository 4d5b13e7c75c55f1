-- A list of rows with what stands in for its histories: of a transition's targets and of an initial list.
use Rattle.std.specs.Prelude.{◌≡◌, ltb}
use Rattle.std.proofs.Math.Path.{refl}
use Rattle.std.proofs.Common.{sym, ⊎_elim}
use Rattle.std.proofs.Math.Bool.{true, false}
use mathlib.Core.List.{List, [], ◌∷◌}
use Prim.Native.Nat.{ℕ, zero, suc, ◌<◌}
use borrow.Author.Tests.{ltb-true, ltb-false}
use Rattle.definition.specs.Rows.{mem, all, is_empty, first_of, union}
use Rattle.definition.specs.Chart.{Chart, kind, parent, is_root, is_parallel, is_history}
use Rattle.definition.specs.Tree.{is_descendant, children, is_compound, is_domain_kind, listed, default_targets, anchor}
use Rattle.definition.specs.Rules.{are_apart}
use Rattle.follower.specs.Selection.{History, stand_ins, add_stand_ins, resolved, initial_targets}
use Rattle.laws.specs.Bools.{no, bool_case, eq_case}
use Rattle.laws.specs.Sets.{Ascends, mem_head}
use Rattle.laws.specs.Lists.{full_mem}
use Rattle.laws.specs.Ways.{Way, here, up, eq_way, Below, way_cases, way_trans, way_compare, below_trans}
use Rattle.accepted.specs.Tree.{not_root, anc_below, below_under, under_plain, mem_children, child_facts}
use Rattle.accepted.specs.Fork.{Split, Forks, list_split}
use Rattle.accepted.specs.Unions.{union_mem, mem_in_union, ascends_fold_union}
use Rattle.theory.specs.Entry.{Initial}
use Rattle.accepted.specs.Sound.{Sound}
use Rattle.theory.specs.Accepted.{HistOk, Stand, stand, only, list_apart, initial_list, domain_child}

module _ (c : Chart) (hist : History) (xs : List ℕ) where
  joins : (set : List ℕ) (x : ℕ) → add_stand_ins c hist set x ≡ union set (stand_ins c hist x)
  unfolding add_stand_ins
  joins set x = refl

  pub resolved_of : (e : ℕ) → mem e (resolved c hist xs) ≡ true → (x : ℕ) × (mem x xs ≡ true) × (mem e (stand_ins c hist x) ≡ true)
  unfolding resolved
  resolved_of e m = union_mem (add_stand_ins c hist) (stand_ins c hist) joins xs e m

  pub resolved_in : (x e : ℕ) → mem x xs ≡ true → mem e (stand_ins c hist x) ≡ true → mem e (resolved c hist xs) ≡ true
  unfolding resolved
  resolved_in x e m n = mem_in_union (add_stand_ins c hist) (stand_ins c hist) joins xs x e m n

  pub resolved_ascends : Ascends 0 (resolved c hist xs)
  unfolding resolved
  resolved_ascends = ascends_fold_union (add_stand_ins c hist) (stand_ins c hist) joins [] xs tt

module _ (c : Chart) (g : Sound c) (hist : History) (ok : HistOk c hist) (xs : List ℕ) (apart : are_apart c xs ≡ true)
    (within : (x : ℕ) → mem x xs ≡ true → x < c.rows) (rootless : (x : ℕ) → mem x xs ≡ true → is_root (kind c x) ≡ false) where
  pub resolved_stand : (x : ℕ) → mem x xs ≡ true → Stand c x (stand_ins c hist x)
  resolved_stand x m = stand c g hist ok x (within x m) (rootless x m)

  pub resolved_full : is_empty xs ≡ false → (e : ℕ) × (mem e (resolved c hist xs) ≡ true)
  resolved_full n =
      let x = full_mem xs n in
      let f = (resolved_stand x.0 x.1).full in
      (f.0, resolved_in c hist xs x.0 f.0 x.1 f.1)

  -- two rows' stand-ins part where their anchors do
  cross : (x y a b : ℕ) → Split c x y → Way (parent c) x a → Way (parent c) y b → (i j : ℕ) → Way (parent c) (suc i) a → Way (parent c) (suc j) b →
      parent c (suc i) ≡ parent c (suc j) → is_parallel (kind c (parent c (suc i))) ≡ false → suc i ≡ suc j
  cross x y a b s v w i j p q e k =
      above_or x i a v p (λ u. above_or y j b w q (λ u'. s.fork i j u u' e k) (λ u'. absurd (meets_y u'))) (λ u. absurd (meets_x u))
    where
      -- the row is on the way to the anchor, or the anchor is on the way to the row's parent
      above_or : {A : Type 0} (x i a : ℕ) → Way (parent c) x a → Way (parent c) (suc i) a → (Way (parent c) (suc i) x → A) → (Way (parent c) x (parent c (suc i)) → A) → A
      above_or x i a v p f h =
          ⊎_elim (λ (u : Way (parent c) x (suc i)). ⊎_elim (λ (e : x ≡ suc i). f (eq_way (parent c) (sym e))) (λ (u' : Way (parent c) x (parent c (suc i))). h u') (way_cases (parent c) u))
          (λ (u : Way (parent c) (suc i) x). f u) (way_compare (parent c) v p)

      -- both anchors on the way to one row
      both : (z : ℕ) → Way (parent c) x z → Way (parent c) y z → ⊥
      both z f h = ⊎_elim (λ (u : Way (parent c) x y). s.left u) (λ (u : Way (parent c) y x). s.right u) (way_compare (parent c) f h)

      meets_x : Way (parent c) x (parent c (suc i)) → ⊥
      meets_x u = both b (way_trans (parent c) (rw e at u) (way_trans (parent c) (up j here) q)) w

      meets_y : Way (parent c) y (parent c (suc j)) → ⊥
      meets_y u = both a v (way_trans (parent c) (rw (← e) at u) (way_trans (parent c) (up i here) p))

  pub resolved_forks : Forks c (resolved c hist xs)
  resolved_forks a b m n i j v w e q =
      let x = resolved_of c hist xs a m in
      let y = resolved_of c hist xs b n in
      eq_case x.0 y.0
      (λ same. (resolved_stand x.0 x.1).forks a b x.2 (rw (← same) at y.2) i j v w e q)
      (λ other. cross (anchor c x.0) (anchor c y.0) a b
      (list_split c g.tree xs apart x.0 y.0 x.1 y.1 other)
      ((resolved_stand x.0 x.1).anchored a x.2) ((resolved_stand y.0 y.1).anchored b y.2) i j v w e q)

  pub resolved_inside : (e : ℕ) → mem e (resolved c hist xs) ≡ true → e < c.rows
  resolved_inside e m = let x = resolved_of c hist xs e m in (resolved_stand x.0 x.1).inside e x.2

-- ---- default entry

module _ (c : Chart) (g : Sound c) where
  -- a row with an ancestor is not the root
  under_rootless : (k x : ℕ) → Below (parent c) k x → is_root (kind c x) ≡ false
  under_rootless k zero b = absurd b
  under_rootless k (suc x) b = not_root c g.tree x

  -- what stands in for a row below k is below k
  stand_beneath : (hist : History) (k x : ℕ) → Below (parent c) k x → Stand c x (stand_ins c hist x) → (e : ℕ) → mem e (stand_ins c hist x) ≡ true → is_descendant c k e ≡ true
  unfolding stand_ins
  stand_beneath hist k zero b s e m = absurd b
  stand_beneath hist k (suc x) b s e m =
      below_under c g.tree k e (under_plain c g.tree 0 e (s.rooted e m))
      (bool_case (is_history (kind c (suc x)))
      (λ q. below_trans (parent c) k (parent c (suc x)) e b (s.strict q e m))
      (λ q. let o : e ≡ suc x = only e (suc x) (rw q at m) in rw o b))

  default_facts : (k : ℕ) → k < c.rows → is_domain_kind c k ≡ true →
      (are_apart c (default_targets c k) ≡ true) × (is_empty (default_targets c k) ≡ false) × ((x : ℕ) → mem x (default_targets c k) ≡ true → (x < c.rows) × Below (parent c) k x)
  unfolding default_targets first_of is_empty are_apart all
  default_facts k l q =
      bool_case (is_empty (listed c k))
      (λ e. rw (q, e) (go (children c k) refl (domain_child c g k l q)))
      (λ e. rw (q, e) (list_apart c g k l, e, λ x m. (g.is_list_inside k x m, anc_below c g.tree k x (initial_list c g k l q x m))))
    where
      go : (ys : List ℕ) → children c k ≡ ys → is_empty ys ≡ false →
          (are_apart c (first_of ys) ≡ true) × (is_empty (first_of ys) ≡ false) × ((x : ℕ) → mem x (first_of ys) ≡ true → (x < c.rows) × Below (parent c) k x)
      go [] e n = absurd (no (sym n))
      go (y ∷ ys) e n =
          let m : mem y (children c k) ≡ true = rw e (mem_head y ys) in
          let f = mem_children c g.tree k y m in
          let h = child_facts c g.tree k y f.1 in
          (refl, refl, λ x o. rw (only x y o) (f.0, rw (h.1, h.2) here))

  -- a row past the count has no default entry targets
  domain_inside : (k : ℕ) → is_domain_kind c k ≡ true → k < c.rows
  unfolding is_domain_kind is_compound
  domain_inside k q = bool_case (ltb k c.rows) (λ e. ltb-true _ _ e) (λ e. absurd (no (rw (g.tree.beyond_kind k (ltb-false _ _ e)) at q)))

  -- a default entry target is a row below its owner, a history has its parent there
  pub default_below : (k x : ℕ) → mem x (default_targets c k) ≡ true → (x < c.rows) × Below (parent c) k x
  unfolding default_targets mem
  default_below k x m = bool_case (is_domain_kind c k) (λ q. (default_facts k (domain_inside k q) q).2 x m) (λ q. absurd (no (rw q at m)))

  pub default_apart : (k : ℕ) → are_apart c (default_targets c k) ≡ true
  unfolding default_targets are_apart
  default_apart k = bool_case (is_domain_kind c k) (λ q. (default_facts k (domain_inside k q) q).0) (λ q. rw q)

  pub default_stand : (hist : History) → HistOk c hist → (k x : ℕ) → mem x (default_targets c k) ≡ true → Stand c x (stand_ins c hist x)
  default_stand hist ok k x m = let f = default_below k x m in stand c g hist ok x f.0 (under_rootless k x f.1)

  -- what rule 4 gives of default entry, whatever is stored
  pub ini : (hist : History) → HistOk c hist → (k : ℕ) → k < c.rows → is_domain_kind c k ≡ true → Initial c k (initial_targets c hist k)
  unfolding initial_targets
  ini hist ok k l q =
      let d = default_facts k l q in
      let within : (x : ℕ) → mem x (default_targets c k) ≡ true → x < c.rows = λ x m. (d.2 x m).0 in
      let rootless : (x : ℕ) → mem x (default_targets c k) ≡ true → is_root (kind c x) ≡ false = λ x m. under_rootless k x (d.2 x m).1 in
      record {
        inside = resolved_inside c g hist ok (default_targets c k) d.0 within rootless;
        beneath = λ e m. let x = resolved_of c hist (default_targets c k) e m in
            stand_beneath hist k x.0 (d.2 x.0 x.1).1 (resolved_stand c g hist ok (default_targets c k) d.0 within rootless x.0 x.1) e x.2;
        forks = resolved_forks c g hist ok (default_targets c k) d.0 within rootless;
        full = resolved_full c g hist ok (default_targets c k) d.0 within rootless d.1;
      }
