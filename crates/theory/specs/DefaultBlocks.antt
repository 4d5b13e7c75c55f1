-- Default blocks in the entry of a row (R-3): that of a history which fell in an initial list runs, since the history's parent is entered;
-- a row has at most one, and beside its initial block only that of the history which its own initial list names, and names alone.
use Rattle.std.specs.Prelude.{◌≡◌, refl, true, false, List, [], ◌∷◌, ◌⊎◌, ℕ, zero, suc, ◌<◌}
use Rattle.std.proofs.Common.{sym, ◌∙◌, append-nil, inl, inr, ⊎_elim, arith, eq-eqb, ne_eqb}
use Rattle.definition.specs.Rows.{flat, mem}
use Rattle.definition.specs.Chart.{Chart, kind, parent, is_history}
use Rattle.definition.specs.Tree.{is_descendant, children, default_targets, anchor}
use Rattle.follower.specs.Selection.{History, stand_ins, initial_targets}
use Rattle.follower.specs.Blocks.{Effect, performed_from, performed}
use Rattle.follower.specs.Microstep.{default_block, default_effects, paths_below, Entry}
use Rattle.laws.specs.Bools.{no, clash, bool_case, eq_case}
use Rattle.laws.specs.Sets.{Ascends, mem_head, mem_low}
use Rattle.laws.specs.Lists.{mem_tail, mem_cases, meets_none}
use Rattle.laws.specs.Ways.{Way, eq_way, Below, way_cases, way_compare, below_way, below_trans, way_le, child_way}
use Rattle.accepted.specs.Tree.{low, under_plain, below_under, child_of, children_mem}
use Rattle.accepted.specs.Fork.{list_split}
use Rattle.theory.specs.Entry.{way_plain, down_intro, bare_facts}
use Rattle.theory.specs.EntryOrder.{from_default, Default, IsEntry}
use Rattle.accepted.specs.Sound.{Sound}
use Rattle.theory.specs.Accepted.{HistOk}
use Rattle.theory.specs.Resolved.{resolved_in, default_below, default_apart, default_stand}
use Rattle.theory.specs.Storing.{owner}

-- of the histories that fell to their default lists, whose default blocks run in the entries of their parents; owners are the rows whose
-- initial lists were entered
pub record DefaultBlocks (c : Chart) (e : Entry) (owners fell : List ℕ) : Type 0 where
  -- each is there once
  pub ascends : Ascends 0 fell
  -- the parent of one in such a list is entered, so its default block runs; of those among the targets of transitions nothing is said
  pub entered : (k h : ℕ) → mem k owners ≡ true → mem h (default_targets c k) ≡ true → mem h fell ≡ true → mem (parent c h) e.set ≡ true
  -- an entered row has at most one default block
  pub one : (i g h : ℕ) → mem i e.set ≡ true → mem g fell ≡ true → mem h fell ≡ true → parent c g ≡ i → parent c h ≡ i → g ≡ h
  -- "If the owner itself is the history's parent": both blocks only where the row's initial list is its own history
  pub own : (i h : ℕ) → mem i e.entered_by_default ≡ true → mem h fell ≡ true → parent c h ≡ i → (mem h (default_targets c i) ≡ true) × ((y : ℕ) → mem y (default_targets c i) ≡ true → y ≡ h)

module _ (c : Chart) (g : Sound c) where
  -- where d is row i or above it, and a row of the list below i: a child of i is on the paths below d
  pub path_child : (d : ℕ) (xs : List ℕ) (i e : ℕ) → mem e xs ≡ true → e < c.rows → is_history (kind c e) ≡ false → Way (parent c) d i → Below (parent c) i e →
      (w : ℕ) × (mem w (children c i) ≡ true) × (mem w (paths_below c d xs) ≡ true)
  path_child d xs i e m l p v b =
      let z = child_way (parent c) (low c g.tree) i e b in
      let f : is_history (kind c (suc z.0)) ≡ false = way_plain c g.tree (suc z.0) z.2 p in
      let u : suc z.0 < c.rows = omega (arith, way_le (parent c) (low c g.tree) z.2, l) in (
        suc z.0,
        children_mem c g.tree i (suc z.0) u (rw z.1 at (child_of c g.tree z.0 f)),
        down_intro c g.tree d xs (suc z.0) e u (below_under c g.tree d (suc z.0) f (rw z.1 v)) m z.2,
      )

  -- the owner of an initial list is at or above the parent of a row in it
  owner_above : (k h : ℕ) → mem h (default_targets c k) ≡ true → Way (parent c) k (parent c h)
  owner_above k h m = go h (default_below c g k h m).1
    where
      go : (h : ℕ) → Below (parent c) k h → Way (parent c) k (parent c h)
      go zero b = absurd b
      go (suc h) b = b

  -- a row's own history is the only row of its list
  alone : (i h y : ℕ) → is_history (kind c h) ≡ true → parent c h ≡ i → mem h (default_targets c i) ≡ true → mem y (default_targets c i) ≡ true → y ≡ h
  unfolding anchor
  alone i h y q e m n =
      eq_case y h (λ same. same)
      (λ other. absurd ((list_split c g.tree (default_targets c i) (default_apart c g i) y h n m other).right
      (rw (q, e) (bool_case (is_history (kind c y)) (λ r. rw r (owner_above i y n)) (λ r. rw r (below_way (parent c) i y (default_below c g i y n).1))))))

  -- two histories of one row in one list are one, since different rows of it have anchors apart
  pub same_anchor : (x y : ℕ) → ((x ≡ y → ⊥) → Way (parent c) (anchor c x) (anchor c y) → ⊥) → is_history (kind c x) ≡ true → is_history (kind c y) ≡ true → parent c x ≡ parent c y → x ≡ y
  unfolding anchor
  same_anchor x y apart q r e = eq_case x y (λ same. same) (λ other. absurd (apart other (rw (q, r, e) (eq_way (parent c) refl))))

module _ (c : Chart) (g : Sound c) (after : History) (ok : HistOk c after) where
  -- the parent of a history in row k's initial list is on the way to what stands in for the history
  pub parent_on_path : (k h : ℕ) → is_history (kind c h) ≡ true → mem h (default_targets c k) ≡ true → is_descendant c k (parent c h) ≡ true → mem (parent c h) (paths_below c k (initial_targets c after k)) ≡ true
  unfolding initial_targets
  parent_on_path k h q m u =
      let s = default_stand c g after ok k h m in
      let f = s.full in
      down_intro c g.tree k (initial_targets c after k) (parent c h) f.0 (owner c g h q).inside u (resolved_in c after (default_targets c k) h f.0 m f.1)
      (below_way (parent c) (parent c h) f.0 (s.strict q f.0 f.1))

  -- where row k's child comes by default, that parent is row k or entered on that way
  pub parent_entered : (aim : List ℕ) (e : Entry) → IsEntry c (initial_targets c after) aim e → (k h : ℕ) → is_history (kind c h) ≡ true → mem k e.entered_by_default ≡ true → mem h (default_targets c k) ≡ true →
      mem (parent c h) e.set ≡ true
  parent_entered aim e means k h q m n =
      let s = ((means.defaults k).0 m).entered in
      ⊎_elim (λ (same : k ≡ parent c h). rw same at s)
      (λ (b : Below (parent c) k (parent c h)). (means.rows (parent c h)).1 (from_default k ((means.rows k).0 s) m
      (parent_on_path k h q n (below_under c g.tree k (parent c h) (under_plain c g.tree 0 (parent c h) (owner c g h q).rooted) b))))
      (way_cases (parent c) (owner_above c g k h n))

-- Early: the history fell among what is aimed at. Then each entered row at or above its parent has a child aimed at.
module _ (c : Chart) (g : Sound c) (after : History) (ok : HistOk c after) (aim : List ℕ) (e : Entry) (means : IsEntry c (initial_targets c after) aim e) (Early : ℕ → Type 0)
    (reaches : (h k : ℕ) → Early h → mem (parent c h) e.set ≡ true → mem k e.set ≡ true → Way (parent c) k (parent c h) → (w : ℕ) × (mem w (children c k) ≡ true) × (mem w aim ≡ true))
    (once : (x y : ℕ) → Early x → Early y → parent c x ≡ parent c y → mem (parent c x) e.set ≡ true → x ≡ y) where
  -- or it stands in the initial list of a row whose child came by default
  abbrev Late : ℕ → Type 0
  Late h = (is_history (kind c h) ≡ true) × ((k : ℕ) × (mem k e.entered_by_default ≡ true) × (mem h (default_targets c k) ≡ true))

  default_of_lem : (k : ℕ) → mem k e.entered_by_default ≡ true → Default c (initial_targets c after) aim e k
  default_of_lem k m = (means.defaults k).0 m

  not_aimed : (k w : ℕ) → mem k e.entered_by_default ≡ true → mem w (children c k) ≡ true → mem w aim ≡ true → ⊥
  not_aimed k w m n a = meets_none (children c k) aim (bare_facts c aim k (default_of_lem k m).bare).1 w n a

  initial_in : (k h x : ℕ) → mem h (default_targets c k) ≡ true → mem x (stand_ins c after h) ≡ true → mem x (initial_targets c after k) ≡ true
  unfolding initial_targets
  initial_in k h x m n = resolved_in c after (default_targets c k) h x m n

  -- of two such rows, the lower one has no child on the paths of the other
  one_owner : (i k h : ℕ) → mem i e.entered_by_default ≡ true → mem k e.entered_by_default ≡ true → is_history (kind c h) ≡ true → mem h (default_targets c k) ≡ true →
      Way (parent c) k i → Way (parent c) i (parent c h) → k ≡ i
  one_owner i k h mi mk q m v w =
      let s = default_stand c g after ok k h m in
      let f = s.full in
      let p = path_child c g k (initial_targets c after k) i f.0 (initial_in k h f.0 m f.1) (s.inside f.0 f.1)
      (under_plain c g.tree 0 f.0 (s.rooted f.0 f.1)) v (below_trans (parent c) i (parent c h) f.0 w (s.strict q f.0 f.1)) in
      eq_case k i (λ same. same) (λ other. absurd ((default_of_lem i mi).sole k p.0 mk other p.1 p.2))

  late_not_early : (x y : ℕ) → Early x → Late y → parent c x ≡ parent c y → mem (parent c x) e.set ≡ true → ⊥
  late_not_early x y a (q, (k, m, n)) p s =
      let r = reaches x k a s (default_of_lem k m).entered (rw p (owner_above c g k y n)) in not_aimed k r.0 m r.1 r.2

  late_late : (x y : ℕ) → Late x → Late y → parent c x ≡ parent c y → x ≡ y
  late_late x y (q, (k, mk, n)) (r, (l, ml, o)) p =
      same_anchor c g x y (λ other. (list_split c g.tree (default_targets c k) (default_apart c g k) x y n (rw (← same) at o) other).left) q r p
    where
      same : k ≡ l
      same =
          ⊎_elim (λ (v : Way (parent c) k l). one_owner l k x ml mk q n v (rw p (owner_above c g l y o)))
          (λ (v : Way (parent c) l k). sym (one_owner k l y mk ml r o v (rw (← p) (owner_above c g k x n))))
          (way_compare (parent c) (owner_above c g k x n) (rw p (owner_above c g l y o)))

  pub blocks : (owners fell : List ℕ) → Ascends 0 fell → ((h : ℕ) → mem h fell ≡ true → Early h ⊎ Late h) → ((h : ℕ) → mem h fell ≡ true → is_history (kind c h) ≡ true) →
      ((k h : ℕ) → is_history (kind c h) ≡ true → mem k owners ≡ true → mem h (default_targets c k) ≡ true → mem (parent c h) e.set ≡ true) → DefaultBlocks c e owners fell
  blocks owners fell up cause history there =
      record {
        ascends = up;
        entered = λ k h o m n. there k h (history h n) o m;
        one = λ i x y s m n p q. pair x y (cause x m) (cause y n) (p ∙ sym q) (rw p s);
        own = λ i h m n p. let k = named i h m n p (cause h n) in (k, λ y o. alone c g i h y (history h n) p k o);
      }
    where
      pair : (x y : ℕ) → Early x ⊎ Late x → Early y ⊎ Late y → parent c x ≡ parent c y → mem (parent c x) e.set ≡ true → x ≡ y
      pair x y (inl a) (inl b) p s = once x y a b p s
      pair x y (inl a) (inr b) p s = absurd (late_not_early x y a b p s)
      pair x y (inr a) (inl b) p s = absurd (late_not_early y x b a (sym p) (rw (← p) s))
      pair x y (inr a) (inr b) p s = late_late x y a b p

      named : (i h : ℕ) → mem i e.entered_by_default ≡ true → mem h fell ≡ true → parent c h ≡ i → Early h ⊎ Late h → mem h (default_targets c i) ≡ true
      named i h m n p (inl a) =
          let s = (default_of_lem i m).entered in
          let r = reaches h i a (rw p s) s (eq_way (parent c) (sym p)) in absurd (not_aimed i r.0 m r.1 r.2)
      named i h m n p (inr (q, (k, mk, o))) = rw (← one_owner i k h m mk q o (rw (← p) (owner_above c g k h o)) (eq_way (parent c) (sym p))) o

-- ---- such a history's default block is all that its parent's entry has of default blocks

flat_none : (f : ℕ → List Effect) (xs : List ℕ) → ((x : ℕ) → mem x xs ≡ true → f x ≡ []) → flat f xs ≡ []
unfolding flat
flat_none f [] q = refl
flat_none f (x ∷ xs) q = rw (q x (mem_head x xs), flat_none f xs (λ y m. q y (mem_tail x y xs m)))

flat_one : (f : ℕ → List Effect) (h lo : ℕ) (xs : List ℕ) → Ascends lo xs → mem h xs ≡ true → ((x : ℕ) → mem x xs ≡ true → (x ≡ h → ⊥) → f x ≡ []) → flat f xs ≡ f h
unfolding flat mem
flat_one f h lo [] a m q = absurd (no m)
flat_one f h lo (x ∷ xs) a m q =
    mem_cases h x xs
    (λ e. rw (flat_none f xs (λ y n. q y (mem_tail x y xs n) (λ same. clash _ n (mem_low y (suc x) xs a.1 (omega arith)))), append-nil, ← e) refl)
    (λ n. rw (q x (mem_head x xs) (λ same. clash _ n (mem_low h (suc x) xs a.1 (omega arith)))) (flat_one f h (suc x) xs a.1 n (λ y o. q y (mem_tail x y xs o)))) m

pub default_runs : (c : Chart) (e : Entry) (owners fell : List ℕ) → DefaultBlocks c e owners fell → (conf : List ℕ) (k h : ℕ) → mem k owners ≡ true → mem h (default_targets c k) ≡ true → mem h fell ≡ true →
    flat (default_effects c conf (parent c h)) fell ≡ performed conf (c.row h).block
unfolding default_effects default_block performed performed_from
default_runs c e owners fell d conf k h o m n =
    flat_one (default_effects c conf (parent c h)) h 0 fell d.ascends n
    (λ x l other. rw (ne_eqb (parent c h) (parent c x) (λ same. other (d.one (parent c h) x h (d.entered k h o m n) l n (sym same) refl))) refl) ∙
    rw (eq-eqb (parent c h) (parent c h) refl)
