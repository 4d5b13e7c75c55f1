-- One round: transitions of active sources with disjoint exit sets lead from a legal configuration to a legal one.
use Rattle.std.specs.Prelude.{◌≡◌, Bool, ◌&&◌, ◌||◌, cond, ℕ, zero, suc, ◌+◌, ◌<◌, ltb, length, get_or}
use Rattle.std.proofs.Math.Path.{refl, ap, sym, subst, fun_ext}
use Rattle.std.proofs.Common.{◌∙◌, ⊎_elim, not-suc-le-zero, arith, lt-ltb, ltb-true, ltb-false}
use Rattle.std.proofs.Math.Bool.{true, false, not}
use mathlib.Core.List.{List, [], map}
use Rattle.std.proofs.Math.Option.{Option}
use Rattle.std.proofs.Math.ListN.{length-map, get_or-eq_default}
use Rattle.std.proofs.lemmas.Bool.{not-true}
use Rattle.definition.specs.declared.Kind.{Kind}
use Rattle.definition.specs.declared.Kind.TheVariants.{Root, State, Parallel, Final, Shallow, Deep}
use Rattle.definition.specs.Rows.{from, those, mem, is_in, is_empty, union, intersection}
use Rattle.definition.specs.Names.{Name}
use Rattle.definition.specs.Chart.{Chart, Names, kind, parent, is_root, is_state, is_parallel, is_history}
use Rattle.definition.specs.Tree.{is_descendant, descendants, children, is_compound, is_domain_kind}
use Rattle.follower.specs.Selection.{History, stand_ins, effective_targets, initial_targets, domain, exit_set, selected}
use Rattle.follower.specs.Microstep.{add_exits, exits, would_store, stored, storing, paths_below, add_targets, targeted, stored_in, staying, history_after, entry_of, configuration_after}
use Rattle.laws.specs.Bools.{no, clash, or_elim, or_left, or_right, bool_case, not_so, eq_case, and_left, and_right, and_true, and_false}
use Rattle.laws.specs.Sets.{Ascends, mem_those, ascends_those, ascends_ext, mem_union, mem_intersection, mem_minus, ascends_minus, ascends_union, empty_some}
use Rattle.laws.specs.Lists.{meets_none, length_from}
use Rattle.laws.specs.Ways.{Way, here, up, eq_way, Below, way_cases, way_trans, way_compare, below_way, below_trans, way_le, below_lt, child_way}
use Rattle.accepted.specs.Tree.{Tree, low, under_below, under_plain, below_under, parent_plain}
use Rattle.accepted.specs.Fork.{live, Partial, Legal, live_up}
use Rattle.theory.specs.Entry.{live_of, live_more, way_plain, path_inside, down_facts, down_intro, entry_ascends, Ready, entering_inv, filled_legal}
use Rattle.theory.specs.EntryOrder.{EntrySet, entry_set_lem}
use Rattle.accepted.specs.Unions.{union_mem, mem_in_union, ascends_fold_union}
use Rattle.accepted.specs.Sound.{Sound, mem_descendants, descendants_mem}
use Rattle.theory.specs.Accepted.{HistOk, Kept, Stand}
use Rattle.theory.specs.Resolved.{ini}
use Rattle.theory.specs.Disjoint.{Disjoint, candidate_of, candidate_live, selected_apart, selected_candidate}
use Rattle.theory.specs.Domain.{Dom, dom, target_stand, effective_of, effective_in, effective_full, effective_forks, effective_inside}

pub live_map : (on more : ℕ → Bool) (k : ℕ) → (on k ≡ true → more k ≡ true) → live on k ≡ true → live more k ≡ true
live_map on more zero f h = refl
live_map on more (suc k) f h = f h

-- no row is both parallel and the root or a compound
pub not_both : (c : Chart) (k : ℕ) → is_domain_kind c k ≡ true → is_parallel (kind c k) ≡ true → ⊥
unfolding is_domain_kind is_compound
not_both c k h p = go (kind c k) h p
  where
    go : (q : Kind) → (is_root q || (is_state q && not (is_empty (children c k)))) ≡ true → is_parallel q ≡ true → ⊥
    go Root h p = no p
    go State h p = no p
    go Parallel h p = no h
    go Final h p = no p
    go Shallow h p = no p
    go Deep h p = no p

pub get_d_map_from : (f : ℕ → List ℕ) (n i h : ℕ) → h < n → get_or (map f (from n i)) h [] ≡ f (i + h)
unfolding from
get_d_map_from f zero i h l = absurd (not-suc-le-zero l)
get_d_map_from f (suc n) i zero l = ap f (omega arith)
get_d_map_from f (suc n) i (suc h) l = get_d_map_from f n (suc i) h (omega arith) ∙ ap f (omega arith)

-- an ascending list of rows is the set of its members
pub ascends_those_of : (n : ℕ) (xs : List ℕ) → Ascends 0 xs → ((a : ℕ) → mem a xs ≡ true → a < n) → xs ≡ those n (is_in xs)
ascends_those_of n xs h f =
    ascends_ext 0 0 xs (those n (is_in xs)) h (ascends_those n (is_in xs))
    (λ a. bool_case (mem a xs)
    (λ e. e ∙ sym (mem_those n (is_in xs) a ∙ and_true (ltb a n) (mem a xs) (lt-ltb a n (f a e)) e))
    (λ e. e ∙ sym (mem_those n (is_in xs) a ∙ rw e (and_false (ltb a n)))))

-- ---- transitions that can be taken together

pub record Taken (c : Chart) (conf : List ℕ) (hist : History) (ts : List ℕ) : Type 0 where
  pub inside : (t : ℕ) → mem t ts ≡ true → t < c.transitions
  pub active : (t : ℕ) → mem t ts ≡ true → live (is_in conf) (c.transition t).source ≡ true
  pub disjoint : (t u : ℕ) → mem t ts ≡ true → mem u ts ≡ true → (t ≡ u → ⊥) → Disjoint c conf hist t u

-- those that a round selects
pub selected_taken : (c : Chart) → Tree c → (names : Names) (conf : List ℕ) → Partial c (is_in conf) → (hist : History) (event : Option Name) →
    Taken c conf hist (selected c names conf hist event)
selected_taken c tree names conf part hist event =
    record {
      inside = λ t m. (candidate_of c names conf event tree t (selected_candidate c names conf hist event t m)).0;
      active = λ t m. candidate_live c names conf event tree part t (selected_candidate c names conf hist event t m);
      disjoint = selected_apart c names conf hist event;
    }

-- each transition joins its exit set to the rows exited
joins_exits : (c : Chart) (conf : List ℕ) (hist : History) (set : List ℕ) (t : ℕ) → add_exits c conf hist set t ≡ union set (exit_set c conf hist (c.transition t))
unfolding add_exits
joins_exits c conf hist set t = refl

pub exits_ascends : (c : Chart) (conf : List ℕ) (hist : History) (ts : List ℕ) → Ascends 0 (exits c conf hist ts)
unfolding exits
exits_ascends c conf hist ts = ascends_fold_union (add_exits c conf hist) (λ t. exit_set c conf hist (c.transition t)) (joins_exits c conf hist) [] ts tt

-- a transition of the list that has targets
abbrev pub Moves : Chart → List ℕ → ℕ → Type 0
Moves c ts t = (mem t ts ≡ true) × (is_empty (c.transition t).targets ≡ false)

module _ (c : Chart) (g : Sound c) (conf : List ℕ) (ord : conf ≡ those c.rows (is_in conf)) (lc : Legal c (is_in conf)) (hist : History) (ok : HistOk c hist) (ts : List ℕ) (tk : Taken c conf hist ts) where
  -- the domain, by the history before the round
  abbrev d : ℕ → ℕ
  d t = domain c hist (c.transition t)

  the_dom : (t : ℕ) → mem t ts ≡ true → Dom c hist t (d t)
  the_dom t m = dom c g hist ok t (tk.inside t m)

  -- the domain of a transition is active
  pub domain_live : (t : ℕ) → mem t ts ≡ true → live (is_in conf) (domain c hist (c.transition t)) ≡ true
  domain_live t m = live_up c (is_in conf) lc.part (d t) (the_dom t m).above (tk.active t m)

  exit_in : (t i : ℕ) → is_empty (c.transition t).targets ≡ false → is_descendant c (d t) i ≡ true → mem i conf ≡ true → mem i (exit_set c conf hist (c.transition t)) ≡ true
  unfolding exit_set
  exit_in t i n u m =
      rw n (mem_intersection i conf (descendants c (d t)) ∙ and_true (mem i conf) _ m (descendants_mem c (d t) i (lc.part.inside i m) u))

  exit_of : (t i : ℕ) → mem i (exit_set c conf hist (c.transition t)) ≡ true → (is_empty (c.transition t).targets ≡ false) × (mem i conf ≡ true) × (is_descendant c (d t) i ≡ true)
  unfolding exit_set mem
  exit_of t i h = go (is_empty (c.transition t).targets) refl h
    where
      go : (b : Bool) → is_empty (c.transition t).targets ≡ b → mem i (cond b [] (intersection conf (descendants c (d t)))) ≡ true →
          (is_empty (c.transition t).targets ≡ false) × (mem i conf ≡ true) × (is_descendant c (d t) i ≡ true)
      go true e h = absurd (no h)
      go false e h =
          let k : (mem i conf && mem i (descendants c (d t))) ≡ true = sym (mem_intersection i conf (descendants c (d t))) ∙ h in
          (e, and_left (mem i conf) _ k, (mem_descendants c (d t) i (and_right (mem i conf) _ k)).1)

  -- the child of a domain that is active
  domain_exits : (t : ℕ) → Moves c ts t → (j : ℕ) × (mem (suc j) (exit_set c conf hist (c.transition t)) ≡ true) × (parent c (suc j) ≡ d t)
  domain_exits t gt =
      let k = lc.some_child (d t) (domain_live t gt.0) (the_dom t gt.0).fit in
      (k.0, exit_in t (suc k.0) gt.1 (below_under c g.tree (d t) (suc k.0) (lc.part.plain (suc k.0) k.1) (eq_way (parent c) (sym k.2))) k.1, k.2)

  -- a transition with targets exits some row
  pub exits_some : (t : ℕ) → Moves c ts t → is_empty (exit_set c conf hist (c.transition t)) ≡ false
  exits_some t gt = let k = domain_exits t gt in empty_some (exit_set c conf hist (c.transition t)) (suc k.0) k.1

  -- no domain is above or equal to the domain of another transition
  pub domains_apart : (t u : ℕ) → Moves c ts t → Moves c ts u → (t ≡ u → ⊥) →
      Way (parent c) (domain c hist (c.transition t)) (domain c hist (c.transition u)) → ⊥
  domains_apart t u gt gu ne w =
      let k = domain_exits u gu in
      let x = exit_of u (suc k.0) k.1 in
      meets_none (exit_set c conf hist (c.transition t)) (exit_set c conf hist (c.transition u)) (tk.disjoint t u gt.0 gu.0 ne) (suc k.0)
      (exit_in t (suc k.0) gt.1 (below_under c g.tree (d t) (suc k.0) (under_plain c g.tree (d u) (suc k.0) x.2)
      (below_trans (parent c) (d t) (d u) (suc k.0) w (under_below c g.tree (d u) (suc k.0) x.2))) x.1)
      k.1

  -- a domain is below no domain
  domain_kept : (t u : ℕ) → Moves c ts t → Moves c ts u → Below (parent c) (d u) (d t) → ⊥
  domain_kept t u gt gu b =
      eq_case u t (λ e. let l : d u < d t = below_lt (parent c) (low c g.tree) (d u) (d t) b in let q : d u ≡ d t = ap d e in omega arith)
      (λ ne. domains_apart u t gu gt ne (below_way (parent c) (d u) (d t) b))

  -- ---- exits

  abbrev out : List ℕ
  out = exits c conf hist ts

  abbrev stay : ℕ → Bool
  stay = is_in (staying c conf hist ts)

  pub exits_of : (i : ℕ) → mem i (exits c conf hist ts) ≡ true → (mem i conf ≡ true) × ((t : ℕ) × Moves c ts t × (is_descendant c (domain c hist (c.transition t)) i ≡ true))
  unfolding exits
  exits_of i h =
      let r = union_mem (add_exits c conf hist) (λ t. exit_set c conf hist (c.transition t)) (joins_exits c conf hist) ts i h in
      let x = exit_of r.0 i r.2 in
      (x.1, (r.0, (r.1, x.0), x.2))

  pub in_exits : (i t : ℕ) → Moves c ts t → is_descendant c (domain c hist (c.transition t)) i ≡ true → mem i conf ≡ true → mem i (exits c conf hist ts) ≡ true
  unfolding exits
  in_exits i t gt u m =
      mem_in_union (add_exits c conf hist) (λ t. exit_set c conf hist (c.transition t)) (joins_exits c conf hist) ts t i gt.0 (exit_in t i gt.1 u m)

  stay_of : (i : ℕ) → stay i ≡ true → (mem i conf ≡ true) × ((t : ℕ) → Moves c ts t → is_descendant c (d t) i ≡ true → ⊥)
  unfolding staying
  stay_of i h =
      let k : (mem i conf && not (mem i out)) ≡ true = sym (mem_minus i conf out) ∙ h in
      let m = and_left (mem i conf) _ k in
      (m, (λ t gt u. clash (mem i out) (in_exits i t gt u m) (not-true _ (and_right (mem i conf) _ k))))

  stay_in : (i : ℕ) → mem i conf ≡ true → ((t : ℕ) → Moves c ts t → is_descendant c (d t) i ≡ true → ⊥) → stay i ≡ true
  unfolding staying
  stay_in i m f =
      mem_minus i conf out ∙ and_true (mem i conf) _ m (rw (not_so (mem i out) (λ h. let r = (exits_of i h).1 in f r.0 r.1 r.2)))

  -- an active row stays or is below a domain
  stay_or {ℓ} : {A : Type ℓ} (i : ℕ) → mem i conf ≡ true → (stay i ≡ true → A) → ((t : ℕ) → Moves c ts t → is_descendant c (d t) i ≡ true → A) → A
  unfolding staying
  stay_or i m f h =
      bool_case (mem i out) (λ e. let r = (exits_of i e).1 in h r.0 r.1 r.2)
      (λ e. f (mem_minus i conf out ∙ and_true (mem i conf) _ m (rw e)))

  -- below a domain everything active goes
  below_gone : (t i : ℕ) → Moves c ts t → Below (parent c) (d t) i → stay i ≡ true → ⊥
  below_gone t i gt b h = let k = stay_of i h in k.1 t gt (below_under c g.tree (d t) i (lc.part.plain i k.0) b)

  -- a domain is not exited
  pub domain_stays : (t : ℕ) → Moves c ts t → live (is_in (staying c conf hist ts)) (domain c hist (c.transition t)) ≡ true
  domain_stays t gt =
      live_map (is_in conf) stay (d t) (λ m. stay_in (d t) m (λ u gu b. domain_kept t u gt gu (under_below c g.tree (d u) (d t) b))) (domain_live t gt.0)

  pub stay_part : Partial c (is_in (staying c conf hist ts))
  stay_part =
      record {
        inside = λ i h. lc.part.inside i (stay_of i h).0;
        plain = λ i h. lc.part.plain i (stay_of i h).0;
        no_root = not_so (stay 0) (λ h. clash _ (stay_of 0 h).0 lc.part.no_root);
        upward = λ i h. live_map (is_in conf) stay (parent c (suc i))
            (λ m. stay_in (parent c (suc i)) m (λ t gt u. below_gone t (suc i) gt (below_way (parent c) (d t) (parent c (suc i)) (under_below c g.tree (d t) (parent c (suc i)) u)) h))
            (lc.part.upward i (stay_of (suc i) h).0);
        alone = λ i j h k e q. lc.part.alone i j (stay_of (suc i) h).0 (stay_of (suc j) k).0 e q;
      }

  -- ---- history after the exits

  abbrev after : History
  after = stored_in (history_after c conf hist ts)

  pub after_size : length (history_after c conf hist ts) ≡ c.rows
  unfolding history_after storing
  after_size = length-map (from c.rows 0) _ ∙ length_from c.rows 0

  pub after_at : (h : ℕ) → h < c.rows → stored_in (history_after c conf hist ts) h ≡ stored c conf hist (exits c conf hist ts) h
  unfolding history_after storing
  after_at h l = get_d_map_from (stored c conf hist out) c.rows 0 h l ∙ ap (stored c conf hist out) (omega arith)

  history_inside : (h : ℕ) → is_history (kind c h) ≡ true → h < c.rows
  history_inside h q =
      bool_case (ltb h c.rows) (λ e. ltb-true _ _ e)
      (λ e. absurd (no (rw (g.tree.beyond_kind h (ltb-false _ _ e)) at q)))

  -- a row that is no history stores nothing
  pub after_plain : ((h : ℕ) → is_history (kind c h) ≡ false → hist h ≡ []) → (h : ℕ) → is_history (kind c h) ≡ false → stored_in (history_after c conf hist ts) h ≡ []
  unfolding stored
  after_plain f h q =
      bool_case (ltb h c.rows) (λ e. after_at h (ltb-true _ _ e) ∙ rw q (f h q))
      (λ e. get_or-eq_default (history_after c conf hist ts) [] (rw (after_size) (ltb-false _ _ e)))

  -- each stored history is what its parent would store of some legal configuration that holds it
  pub after_ok : HistOk c (stored_in (history_after c conf hist ts))
  unfolding HistOk stored
  after_ok h q n = rw (after_at h (history_inside h q)) (go (is_history (kind c h) && mem (parent c h) out) refl (rw (after_at h (history_inside h q)) at n))
    where
      go : (b : Bool) → (is_history (kind c h) && mem (parent c h) out) ≡ b → is_empty (cond b (would_store c conf h) (hist h)) ≡ false →
          Kept c h (cond b (would_store c conf h) (hist h))
      go true e n = record { configuration = conf; in_order = ord; legal = lc; holds = (exits_of (parent c h) (and_right (is_history (kind c h)) _ e)).0; stores = refl }
      go false e n = ok h q n

  same_plain : (y : ℕ) → is_history (kind c y) ≡ false → stand_ins c after y ≡ stand_ins c hist y
  unfolding stand_ins
  same_plain y q = rw q

  same_kept : (y : ℕ) → y < c.rows → mem (parent c y) out ≡ false → stand_ins c after y ≡ stand_ins c hist y
  unfolding stand_ins stored
  same_kept y l q = rw (after_at y l, q, and_false (is_history (kind c y)))

  -- the domain by the history before the round is above the effective targets by the history after its exits
  pub over_after : (t : ℕ) → Moves c ts t → (e : ℕ) → mem e (effective_targets c (stored_in (history_after c conf hist ts)) (c.transition t)) ≡ true →
      is_descendant c (domain c hist (c.transition t)) e ≡ true
  over_after t gt e m =
      bool_case (is_history (kind c y.0))
      (λ q. ⊎_elim (λ (w : Way (parent c) (d t) (parent c y.0)). above q w)
      (λ (w : Way (parent c) (parent c y.0) (d t)). ⊎_elim (λ (e : parent c y.0 ≡ d t). above q (eq_way (parent c) (sym e)))
      (λ (b : Below (parent c) (parent c y.0) (d t)). same (same_kept y.0 yin (not_out b))) (way_cases (parent c) w))
      (way_compare (parent c) (below_way (parent c) (d t) f.0 (under_below c g.tree (d t) f.0
      ((the_dom t gt.0).over f.0 (effective_in c hist t y.0 f.0 y.1 f.1))))
      (below_way (parent c) (parent c y.0) f.0 (sb.strict q f.0 f.1))))
      (λ q. same (same_plain y.0 q))
    where
      y : (x : ℕ) × (mem x (c.transition t).targets ≡ true) × (mem e (stand_ins c after x) ≡ true)
      y = effective_of c after t e m

      sb : Stand c y.0 (stand_ins c hist y.0)
      sb = target_stand c g hist ok t (tk.inside t gt.0) y.0 y.1

      sa : Stand c y.0 (stand_ins c after y.0)
      sa = target_stand c g after after_ok t (tk.inside t gt.0) y.0 y.1

      yin : y.0 < c.rows
      yin = g.target_inside t (tk.inside t gt.0) y.0 y.1

      f : (e : ℕ) × (mem e (stand_ins c hist y.0) ≡ true)
      f = sb.full

      above : is_history (kind c y.0) ≡ true → Way (parent c) (d t) (parent c y.0) → is_descendant c (d t) e ≡ true
      above q w =
          below_under c g.tree (d t) e (under_plain c g.tree 0 e (sa.rooted e y.2))
          (below_trans (parent c) (d t) (parent c y.0) e w (sa.strict q e y.2))

      same : stand_ins c after y.0 ≡ stand_ins c hist y.0 → is_descendant c (d t) e ≡ true
      same k = (the_dom t gt.0).over e (effective_in c hist t y.0 e y.1 (rw k at y.2))

      not_out : Below (parent c) (parent c y.0) (d t) → mem (parent c y.0) out ≡ false
      not_out b =
          not_so _ (λ h. let r = (exits_of (parent c y.0) h).1 in
          domain_kept t r.0 gt r.1 (below_trans (parent c) (d r.0) (parent c y.0) (d t)
          (below_way (parent c) (d r.0) (parent c y.0) (under_below c g.tree (d r.0) (parent c y.0) r.2)) b))

  -- ---- what is aimed at: the effective targets and their ancestors below the domains

  abbrev aim : List ℕ
  aim = targeted c hist after ts

  -- the rows that transition t aims at
  abbrev aims : ℕ → List ℕ
  aims t = paths_below c (d t) (effective_targets c after (c.transition t))

  joins_targets : (set : List ℕ) (t : ℕ) → add_targets c hist after set t ≡ union set (aims t)
  unfolding add_targets
  joins_targets set t = refl

  -- a row aimed at lies below a domain, on the way to an effective target
  record Aimed (j : ℕ) : Type 0 where
    inside : j < c.rows
    by : ℕ
    moves : Moves c ts by
    under : is_descendant c (d by) j ≡ true
    target : ℕ
    effective : mem target (effective_targets c after (c.transition by)) ≡ true
    way : Way (parent c) j target

  aim_of : (j : ℕ) → mem j aim ≡ true → Aimed j
  unfolding targeted
  aim_of j h =
      let r = union_mem (add_targets c hist after) aims joins_targets ts j h in
      let f = down_facts c g.tree (d r.0) (effective_targets c after (c.transition r.0)) j r.2 in
      let y = effective_of c after r.0 f.1.0 f.1.1 in
      record {
        inside = path_inside c (d r.0) (effective_targets c after (c.transition r.0)) j r.2;
        by = r.0;
        moves = (r.1, empty_some (c.transition r.0).targets y.0 y.1);
        under = f.0;
        target = f.1.0;
        effective = f.1.1;
        way = f.1.2;
      }

  aim_in : (j t : ℕ) → j < c.rows → Moves c ts t → is_descendant c (d t) j ≡ true → (x : ℕ) → mem x (effective_targets c after (c.transition t)) ≡ true → Way (parent c) j x → mem j aim ≡ true
  unfolding targeted
  aim_in j t l gt u x m w =
      mem_in_union (add_targets c hist after) aims joins_targets ts t j gt.0 (down_intro c g.tree (d t) (effective_targets c after (c.transition t)) j x l u m w)

  aim_ascends : Ascends 0 aim
  unfolding targeted
  aim_ascends = ascends_fold_union (add_targets c hist after) aims joins_targets [] ts tt

  abbrev all_on : ℕ → Bool
  all_on j = stay j || mem j aim

  stay_on : (j : ℕ) → stay j ≡ true → all_on j ≡ true
  stay_on j e = or_left (stay j) _ e

  aim_up : (j : ℕ) → mem (suc j) aim ≡ true → live all_on (parent c (suc j)) ≡ true
  aim_up j h =
      let k = aim_of (suc j) h in
      ⊎_elim (λ (e : d k.by ≡ parent c (suc j)). rw e at (live_more stay all_on stay_on (d k.by) (domain_stays k.by k.moves)))
      (λ (b : Below (parent c) (d k.by) (parent c (suc j))). live_of all_on (parent c (suc j)) (or_right (stay (parent c (suc j))) _
      (aim_in (parent c (suc j)) k.by (omega (arith, low c g.tree j, k.inside)) k.moves
      (below_under c g.tree (d k.by) (parent c (suc j)) (parent_plain c g.tree j) b)
      k.target k.effective (way_trans (parent c) (up j here) k.way))))
      (way_cases (parent c) (under_below c g.tree (d k.by) (suc j) k.under))

  aim_stay_no : (a b : ℕ) → mem (suc a) aim ≡ true → stay (suc b) ≡ true → parent c (suc a) ≡ parent c (suc b) → ⊥
  aim_stay_no a b h s e =
      let k = aim_of (suc a) h in
      let w : Way (parent c) (d k.by) (parent c (suc a)) = under_below c g.tree (d k.by) (suc a) k.under in
      below_gone k.by (suc b) k.moves (rw e at w) s

  aim_aim : (a b : ℕ) → mem (suc a) aim ≡ true → mem (suc b) aim ≡ true → parent c (suc a) ≡ parent c (suc b) → is_parallel (kind c (parent c (suc a))) ≡ false → suc a ≡ suc b
  aim_aim a b h h' e q =
      eq_case k.by l.by
      (λ same. effective_forks c g after after_ok k.by (tk.inside k.by k.moves.0) k.target l.target k.effective (rw (← same) at l.effective) a b k.way l.way e q)
      (λ other. absurd (⊎_elim (λ (u : Way (parent c) (d k.by) (d l.by)). domains_apart k.by l.by k.moves l.moves other u)
      (λ (u : Way (parent c) (d l.by) (d k.by)). domains_apart l.by k.by l.moves k.moves (λ z. other (sym z)) u)
      (way_compare (parent c) (rw e at w) w')))
    where
      k : Aimed (suc a)
      k = aim_of (suc a) h

      l : Aimed (suc b)
      l = aim_of (suc b) h'

      w : Way (parent c) (d k.by) (parent c (suc a))
      w = under_below c g.tree (d k.by) (suc a) k.under

      w' : Way (parent c) (d l.by) (parent c (suc b))
      w' = under_below c g.tree (d l.by) (suc b) l.under

  aim_part : Partial c all_on
  aim_part =
      record {
        inside = λ j h. or_elim (stay j) (mem j aim) (λ s. stay_part.inside j s) (λ m. (aim_of j m).inside) h;
        plain = λ j h. or_elim (stay j) (mem j aim) (λ s. stay_part.plain j s)
            (λ m. let k = aim_of j m in under_plain c g.tree (d k.by) j k.under) h;
        no_root = not_so (all_on 0) (λ h. or_elim (stay 0) (mem 0 aim) (λ s. clash _ s stay_part.no_root)
            (λ m. let k = aim_of 0 m in under_below c g.tree (d k.by) 0 k.under) h);
        upward = λ j h. or_elim (stay (suc j)) (mem (suc j) aim)
            (λ s. live_more stay all_on stay_on (parent c (suc j)) (stay_part.upward j s)) (λ m. aim_up j m) h;
        alone = λ a b h k e q. or_elim (stay (suc a)) (mem (suc a) aim)
            (λ s. or_elim (stay (suc b)) (mem (suc b) aim) (λ s'. stay_part.alone a b s s' e q) (λ m'. absurd (aim_stay_no b a m' s (sym e))) k)
            (λ m. or_elim (stay (suc b)) (mem (suc b) aim) (λ s'. absurd (aim_stay_no a b m s' e)) (λ m'. aim_aim a b m m' e q) k) h;
      }

  -- each domain has a child aimed at
  domain_child : (t : ℕ) → Moves c ts t → (j : ℕ) × (mem (suc j) aim ≡ true) × (parent c (suc j) ≡ d t)
  domain_child t gt =
      let in_t = tk.inside t gt.0 in
      let x = effective_full c g after after_ok t in_t gt.1 in
      let u = over_after t gt x.0 x.1 in
      let z = child_way (parent c) (low c g.tree) (d t) x.0 (under_below c g.tree (d t) x.0 u) in
      let l = effective_inside c g after after_ok t in_t x.0 x.1 in (
        z.0,
        aim_in (suc z.0) t (omega (arith, way_le (parent c) (low c g.tree) z.2)) gt
            (below_under c g.tree (d t) (suc z.0)
            (way_plain c g.tree (suc z.0) z.2 (under_plain c g.tree (d t) x.0 u)) (eq_way (parent c) (sym z.1)))
            x.0 x.1 z.2,
        z.1,
      )

  gone_no : (t k : ℕ) → Moves c ts t → Below (parent c) (d t) k → live stay k ≡ true → ⊥
  gone_no t zero gt b h = b
  gone_no t (suc k) gt b h = below_gone t (suc k) gt b h

  ready : Ready c g.tree (ini c g after after_ok) stay stay_part aim
  ready =
      record {
        inv = record { part = aim_part; new = λ i m. not_so (stay i) (λ s. let k = aim_of i m in (stay_of i s).1 k.by k.moves k.under) };
        any_stay = λ k l q.
            let z = lc.some_child k (live_more stay (is_in conf) (λ i e. (stay_of i e).0) k l) q in
            stay_or (suc z.0) z.1 (λ s. (z.0, stay_on (suc z.0) s, z.2))
            (λ t gt u. ⊎_elim (λ (e : d t ≡ parent c (suc z.0)). let y = domain_child t gt in (y.0, or_right (stay (suc y.0)) _ y.1, y.2 ∙ e ∙ z.2))
            (λ (b : Below (parent c) (d t) (parent c (suc z.0))). absurd (gone_no t k gt (rw z.2 at b) l))
            (way_cases (parent c) (under_below c g.tree (d t) (suc z.0) u)));
        every_stay = λ j l p s q.
            stay_in (suc j) (lc.every_child j l p (stay_of (parent c (suc j)) s).0 q)
            (λ t gt u. ⊎_elim (λ (e : d t ≡ parent c (suc j)). not_both c (d t) (the_dom t gt.0).fit (rw e q))
            (λ (b : Below (parent c) (d t) (parent c (suc j))). below_gone t (parent c (suc j)) gt b s)
            (way_cases (parent c) (under_below c g.tree (d t) (suc j) u)));
      }

  -- ---- the configuration after the round

  -- the entry set is a set, and no row that stays is entered
  pub entered_ascends : Ascends 0 (entry_of c conf hist ts).set
  unfolding entry_of
  entered_ascends = entry_ascends c (initial_targets c after) aim aim_ascends

  pub entered_new : (i : ℕ) → mem i (entry_of c conf hist ts).set ≡ true → mem i (staying c conf hist ts) ≡ false
  unfolding entry_of
  entered_new i m = (entering_inv c g.tree (ini c g after after_ok) stay stay_part aim ready.inv).new i m

  -- the entry set of a round, in the document's words
  pub entered_means : EntrySet c (initial_targets c (stored_in (history_after c conf hist ts))) (targeted c hist (stored_in (history_after c conf hist ts)) ts) (entry_of c conf hist ts)
  unfolding entry_of
  entered_means = entry_set_lem c g.tree (ini c g after after_ok) stay stay_part aim ready.inv aim_ascends

  pub next_legal : Legal c (is_in (configuration_after c conf hist ts))
  unfolding entry_of configuration_after
  next_legal =
      subst (Legal c) (fun_ext (λ i. sym (mem_union i (staying c conf hist ts) (entry_of c conf hist ts).set)))
      (filled_legal c g.tree (ini c g after after_ok) stay stay_part aim ready)

  pub next_ascends : Ascends 0 (configuration_after c conf hist ts)
  unfolding staying configuration_after
  next_ascends =
      ascends_union (staying c conf hist ts) (entry_of c conf hist ts).set
      (ascends_minus conf (exits c conf hist ts) (rw ord (ascends_those c.rows (is_in conf))))

  pub next_order : configuration_after c conf hist ts ≡ those c.rows (is_in (configuration_after c conf hist ts))
  next_order = ascends_those_of c.rows (configuration_after c conf hist ts) next_ascends next_legal.part.inside
