-- The histories that fall to their default lists in a start and in a round, and their default blocks (R-3).
use Rattle.std.specs.Prelude.{◌≡◌, true, false}
use Rattle.std.proofs.Math.Path.{refl}
use Rattle.std.proofs.Common.{sym, ◌∙◌, ⊎_elim}
use mathlib.Core.List.{List, [], ◌∷◌}
use Rattle.std.proofs.Math.Logic.{inl, inr}
use Prim.Native.Nat.{ℕ, zero, suc, ◌<◌}
use Rattle.definition.specs.Rows.{keep, those, mem, is_in, union, nothing_at}
use Rattle.definition.specs.Chart.{Chart, kind, parent, is_history}
use Rattle.definition.specs.Tree.{children, default_targets}
use Rattle.follower.specs.Selection.{History, effective_targets, initial_targets, domain}
use Rattle.follower.specs.Microstep.{paths_below, add_targets, targeted, Entry, fell_to_default, add_fallen, fallen, add_fallen_initial, with_initial, stored_in, staying, history_after, entry_of, configuration_after, fallen_of}
use Rattle.follower.specs.Follower.{first_entry, first_fallen}
use Rattle.laws.specs.Bools.{no, clash, or_elim, or_right, eq_case, and_left}
use Rattle.laws.specs.Sets.{Ascends, mem_union, empty_some}
use Rattle.laws.specs.Lists.{mem_cases, any_true, keep_mem}
use Rattle.laws.specs.Ways.{Way, Below, way_cases, way_compare, below_way, below_trans}
use Rattle.accepted.specs.Tree.{way_zero, under_below, under_plain}
use Rattle.accepted.specs.Fork.{live, Legal, live_up, list_split}
use Rattle.accepted.specs.Unions.{mem_fold_union, union_mem, mem_in_union, ascends_fold_union}
use Rattle.theory.specs.EntryOrder.{from_aim}
use Rattle.accepted.specs.Sound.{Sound}
use Rattle.theory.specs.Accepted.{targets_apart, HistOk}
use Rattle.theory.specs.Resolved.{resolved_in, default_apart, default_stand}
use Rattle.theory.specs.Domain.{target_stand, effective_in}
use Rattle.theory.specs.Round.{Taken, Moves, domains_apart, domain_stays, stay_part, after_ok, over_after, entered_new, entered_means, next_legal}
use Rattle.theory.specs.Seed.{nothing_ok, first_means}
use Rattle.theory.specs.Storing.{owner}
use Rattle.theory.specs.DefaultBlocks.{DefaultBlocks, path_child, same_anchor, parent_on_path, parent_entered, blocks}

-- ---- the histories that fell

module _ (c : Chart) (after : History) where
  joins_initial : (set : List ℕ) (i : ℕ) → add_fallen_initial c after set i ≡ union set (keep (fell_to_default c after) (default_targets c i))
  unfolding add_fallen_initial
  joins_initial set i = refl

  joins_fallen : (set : List ℕ) (t : ℕ) → add_fallen c after set t ≡ union set (keep (fell_to_default c after) (c.transition t).targets)
  unfolding add_fallen
  joins_fallen set t = refl

  fell_history : (h : ℕ) → fell_to_default c after h ≡ true → is_history (kind c h) ≡ true
  unfolding fell_to_default
  fell_history h q = and_left (is_history (kind c h)) _ q

  initial-of {ℓ} : {A : Type ℓ} (set rows : List ℕ) (h : ℕ) → (mem h set ≡ true → A) →
      (is_history (kind c h) ≡ true → (k : ℕ) → mem k rows ≡ true → mem h (default_targets c k) ≡ true → A) → mem h (with_initial c after set rows) ≡ true → A
  unfolding with_initial
  initial-of set rows h f d m =
      or_elim (mem h set) _ f
      (λ q. let r = any_true _ rows q in
      let k = keep_mem (fell_to_default c after) (default_targets c r.0) h r.2 in
      d (fell_history h k.1) r.0 r.1 k.0)
      (sym (mem_fold_union (add_fallen_initial c after) (λ i. keep (fell_to_default c after) (default_targets c i)) joins_initial h set rows) ∙ m)

  initial_ascends : (set rows : List ℕ) → Ascends 0 set → Ascends 0 (with_initial c after set rows)
  unfolding with_initial
  initial_ascends set rows a = ascends_fold_union (add_fallen_initial c after) (λ i. keep (fell_to_default c after) (default_targets c i)) joins_initial set rows a

  fallen_of_lem : (ts : List ℕ) (h : ℕ) → mem h (fallen c after ts) ≡ true → (is_history (kind c h) ≡ true) × ((t : ℕ) × (mem t ts ≡ true) × (mem h (c.transition t).targets ≡ true))
  unfolding fallen
  fallen_of_lem ts h m =
      let r = union_mem (add_fallen c after) (λ t. keep (fell_to_default c after) (c.transition t).targets) joins_fallen ts h m in
      let k = keep_mem (fell_to_default c after) (c.transition r.0).targets h r.2 in
      (fell_history h k.1, (r.0, r.1, k.0))

  fallen_ascends : (ts : List ℕ) → Ascends 0 (fallen c after ts)
  unfolding fallen
  fallen_ascends ts = ascends_fold_union (add_fallen c after) (λ t. keep (fell_to_default c after) (c.transition t).targets) joins_fallen [] ts tt

-- ---- of a start

module _ (c : Chart) (g : Sound c) where
  abbrev AtStart : ℕ → Type 0
  AtStart h = (is_history (kind c h) ≡ true) × (mem h (default_targets c 0) ≡ true)

  start_reaches : (h k : ℕ) → AtStart h → Way (parent c) k (parent c h) → (w : ℕ) × (mem w (children c k) ≡ true) × (mem w (paths_below c 0 (initial_targets c nothing_at 0)) ≡ true)
  unfolding initial_targets
  start_reaches h k (q, m) v =
      let s = default_stand c g nothing_at (nothing_ok c) 0 h m in
      let f = s.full in
      path_child c g 0 (initial_targets c nothing_at 0) k f.0 (resolved_in c nothing_at (default_targets c 0) h f.0 m f.1) (s.inside f.0 f.1)
      (under_plain c g.tree 0 f.0 (s.rooted f.0 f.1)) (way_zero c g.tree k) (below_trans (parent c) k (parent c h) f.0 v (s.strict q f.0 f.1))

  -- the root has no history of its own
  start_entered : (h : ℕ) → AtStart h → mem (parent c h) (first_entry c).set ≡ true
  start_entered h (q, m) = ((first_means c g).means.rows (parent c h)).1 (from_aim (parent_on_path c g nothing_at (nothing_ok c) 0 h q m (owner c g h q).rooted))

  pub start_default_blocks : DefaultBlocks c (first_entry c) (0 ∷ (first_entry c).entered_by_default) (first_fallen c)
  unfolding first_fallen mem
  start_default_blocks =
      blocks c g nothing_at (nothing_ok c) (paths_below c 0 (initial_targets c nothing_at 0)) (first_entry c) (first_means c g).means AtStart (λ h k a p m v. start_reaches h k a v)
      (λ x y (q, m) (r, n) e p. same_anchor c g x y (λ other. (list_split c g.tree (default_targets c 0) (default_apart c g 0) x y m n other).left) q r e)
      (0 ∷ (first_entry c).entered_by_default) (with_initial c nothing_at [] (0 ∷ (first_entry c).entered_by_default)) (initial_ascends c nothing_at [] (0 ∷ (first_entry c).entered_by_default) tt)
      (λ h m. initial-of c nothing_at [] (0 ∷ (first_entry c).entered_by_default) h (λ n. absurd (no n))
      (λ q k n o. mem_cases k 0 (first_entry c).entered_by_default (λ e. inl (q, rw e at o)) (λ l. inr (q, (k, l, o))) n) m)
      (λ h m. initial-of c nothing_at [] (0 ∷ (first_entry c).entered_by_default) h (λ n. absurd (no n)) (λ q k n o. q) m)
      (λ k h q m n. mem_cases k 0 (first_entry c).entered_by_default (λ e. start_entered h (q, rw e at n))
      (λ o. parent_entered c g nothing_at (nothing_ok c) (paths_below c 0 (initial_targets c nothing_at 0)) (first_entry c) (first_means c g).means k h q o n) m)

-- ---- of a round

module _ (c : Chart) (g : Sound c) (conf : List ℕ) (ord : conf ≡ those c.rows (is_in conf)) (lc : Legal c (is_in conf)) (hist : History) (ok : HistOk c hist) (ts : List ℕ) (tk : Taken c conf hist ts) where
  abbrev d : ℕ → ℕ
  d t = domain c hist (c.transition t)

  abbrev left : History
  left = stored_in (history_after c conf hist ts)

  abbrev entry : Entry
  entry = entry_of c conf hist ts

  abbrev Targeted : ℕ → Type 0
  Targeted h = (is_history (kind c h) ≡ true) × ((t : ℕ) × Moves c ts t × (mem h (c.transition t).targets ≡ true))

  -- an entered row does not stay, and is not the root
  not_staying : (k : ℕ) → mem k entry.set ≡ true → live (is_in (staying c conf hist ts)) k ≡ true → ⊥
  unfolding configuration_after
  not_staying zero m l =
      clash _ (mem_union 0 (staying c conf hist ts) entry.set ∙ or_right (mem 0 (staying c conf hist ts)) _ m) (next_legal c g conf ord lc hist ok ts tk).part.no_root
  not_staying (suc k) m l = clash _ l (entered_new c g conf ord lc hist ok ts tk (suc k) m)

  -- an entered row that is above or below a domain is below it
  below_domain : (t k x : ℕ) → Moves c ts t → mem k entry.set ≡ true → Way (parent c) (d t) x → Way (parent c) k x → Below (parent c) (d t) k
  below_domain t k x gt m v w =
      ⊎_elim (λ (u : Way (parent c) (d t) k). ⊎_elim (λ (e : d t ≡ k). absurd (not_staying k m (rw e at stays))) (λ (b : Below (parent c) (d t) k). b) (way_cases (parent c) u))
      (λ (u : Way (parent c) k (d t)). absurd (not_staying k m (live_up c (is_in (staying c conf hist ts)) (stay_part c g conf ord lc hist ok ts tk) k u stays)))
      (way_compare (parent c) v w)
    where
      stays : live (is_in (staying c conf hist ts)) (d t) ≡ true
      stays = domain_stays c g conf ord lc hist ok ts tk t gt

  -- what stands in for a history among the targets
  record StandIn (t h : ℕ) : Type 0 where
    row : ℕ
    effective : mem row (effective_targets c left (c.transition t)) ≡ true
    inside : row < c.rows
    plain : is_history (kind c row) ≡ false
    beneath : Below (parent c) (parent c h) row
    under : Way (parent c) (d t) row

  stand_in : (t h : ℕ) → Moves c ts t → is_history (kind c h) ≡ true → mem h (c.transition t).targets ≡ true → StandIn t h
  stand_in t h gt q m =
      let s = target_stand c g left (after_ok c g conf ord lc hist ok ts tk) t (tk.inside t gt.0) h m in
      let f = s.full in
      let n = effective_in c left t h f.0 m f.1 in
      let u = over_after c g conf ord lc hist ok ts tk t gt f.0 n in
      record {
        row = f.0;
        effective = n;
        inside = s.inside f.0 f.1;
        plain = under_plain c g.tree (d t) f.0 u;
        beneath = s.strict q f.0 f.1;
        under = below_way (parent c) (d t) f.0 (under_below c g.tree (d t) f.0 u);
      }

  joins_targets : (set : List ℕ) (t : ℕ) → add_targets c hist left set t ≡ union set (paths_below c (d t) (effective_targets c left (c.transition t)))
  unfolding add_targets
  joins_targets set t = refl

  round_reaches : (h k : ℕ) → Targeted h → mem k entry.set ≡ true → Way (parent c) k (parent c h) → (w : ℕ) × (mem w (children c k) ≡ true) × (mem w (targeted c hist left ts) ≡ true)
  unfolding targeted
  round_reaches h k (q, (t, gt, m)) n v =
      let s = stand_in t h gt q m in
      let b = below_trans (parent c) k (parent c h) s.row v s.beneath in
      let u = below_domain t k s.row gt n s.under (below_way (parent c) k s.row b) in
      let p = path_child c g (d t) (effective_targets c left (c.transition t)) k s.row s.effective s.inside s.plain (below_way (parent c) (d t) k u) b in
      (p.0, p.1, mem_in_union (add_targets c hist left) (λ t. paths_below c (d t) (effective_targets c left (c.transition t))) joins_targets ts t p.0 gt.0 p.2)

  round_once : (x y : ℕ) → Targeted x → Targeted y → parent c x ≡ parent c y → mem (parent c x) entry.set ≡ true → x ≡ y
  round_once x y (q, (t, gt, m)) (r, (u, gu, n)) e p =
      eq_case t u
      (λ same. same_anchor c g x y
      (λ other. (list_split c g.tree (c.transition t).targets (targets_apart c g t (tk.inside t gt.0)) x y m (rw (← same) at n) other).left) q r e)
      (λ other. absurd (⊎_elim (λ (w : Way (parent c) (d t) (d u)). domains_apart c g conf ord lc hist ok ts tk t u gt gu other w)
      (λ (w : Way (parent c) (d u) (d t)). domains_apart c g conf ord lc hist ok ts tk u t gu gt (λ z. other (sym z)) w)
      (way_compare (parent c) (above x t gt q m p) (rw e (above y u gu r n (rw (← e) p))))))
    where
      above : (x t : ℕ) → Moves c ts t → is_history (kind c x) ≡ true → mem x (c.transition t).targets ≡ true → mem (parent c x) entry.set ≡ true → Way (parent c) (d t) (parent c x)
      above x t gt q m p =
          let s = stand_in t x gt q m in
          below_way (parent c) (d t) (parent c x) (below_domain t (parent c x) s.row gt p s.under (below_way (parent c) (parent c x) s.row s.beneath))

  pub round_default_blocks : DefaultBlocks c (entry_of c conf hist ts) (entry_of c conf hist ts).entered_by_default (fallen_of c conf hist ts)
  unfolding fallen_of
  round_default_blocks =
      blocks c g left (after_ok c g conf ord lc hist ok ts tk) (targeted c hist left ts) entry (entered_means c g conf ord lc hist ok ts tk).means Targeted
      (λ h k a p n v. round_reaches h k a n v) round_once
      entry.entered_by_default (with_initial c left (fallen c left ts) entry.entered_by_default) (initial_ascends c left (fallen c left ts) entry.entered_by_default (fallen_ascends c left ts))
      (λ h m. initial-of c left (fallen c left ts) entry.entered_by_default h (λ n. let f = fallen_of_lem c left ts h n in inl (f.0, (f.1.0, (f.1.1, empty_some (c.transition f.1.0).targets h f.1.2), f.1.2)))
      (λ q k n o. inr (q, (k, n, o))) m)
      (λ h m. initial-of c left (fallen c left ts) entry.entered_by_default h (λ n. (fallen_of_lem c left ts h n).0) (λ q k n o. q) m)
      (parent_entered c g left (after_ok c g conf ord lc hist ok ts tk) (targeted c hist left ts) entry (entered_means c g conf ord lc hist ok ts tk).means)
