-- One transition more: what a list of transitions gives together, and then the exits and entries of one that can be taken with them, is what all of them give together.
use Rattle.std.specs.Prelude.{◌≡◌, Bool, not, ◌&&◌, ◌||◌, ℕ, zero, suc, ◌+◌, ◌<◌}
use Rattle.std.proofs.Math.Path.{refl, ap, sym}
use Rattle.std.proofs.Common.{◌∙◌, ⊎_elim, arith}
use Rattle.std.proofs.Math.Bool.{true, false, cond}
use mathlib.Core.List.{List, [], ◌∷◌, map}
use Rattle.definition.specs.Rows.{fold, from, keep, those, mem, is_in, is_empty, union, intersection, minus, append}
use Rattle.definition.specs.Chart.{Chart, kind, parent, is_history, is_shallow}
use Rattle.definition.specs.Tree.{is_descendant, is_child, descendants, children, is_atomic, default_targets}
use Rattle.follower.specs.Selection.{History, atomic_states, stand_ins, add_stand_ins, resolved, effective_targets, initial_targets, domain, exit_set}
use Rattle.follower.specs.Microstep.{add_exits, exits, would_store, stored, storing, paths_below, add_targets, targeted, entry_set, stored_in, staying, history_after, entry_of, configuration_after}
use Rattle.follower.specs.Legal.{is_atomic_below}
use Rattle.laws.specs.Bools.{no, clash, or_left, or_right, or_false, and_false, both_ways, bool_case, not_so, and_left, and_right}
use Rattle.laws.specs.Sets.{Ascends, ascends_ext, ascends_keep, ascends_intersection, ascends_union, ascends_minus, ascends_those, mem_head, mem_union, mem_intersection, mem_minus, empty_some}
use Rattle.laws.specs.Folds.{fold_same}
use Rattle.laws.specs.Lists.{mem_app}
use Rattle.laws.specs.Ways.{Way, Below, way_compare, below_way, below_trans, below_trans2}
use Rattle.accepted.specs.Tree.{under_below, under_plain, below_under, mem_children}
use Rattle.accepted.specs.Fork.{Legal}
use Rattle.theory.specs.Entry.{path_descends, down_facts}
use Rattle.accepted.specs.Unions.{union_mem}
use Rattle.accepted.specs.Sound.{Sound, mem_descendants}
use Rattle.theory.specs.Accepted.{HistOk, child_under}
use Rattle.theory.specs.Resolved.{default_below}
use Rattle.theory.specs.Domain.{dom, target_stand, effective_of, effective_in}
use Rattle.theory.specs.Round.{Taken, Moves, exits_of, domains_apart, after_at, next_ascends}
use Rattle.theory.specs.Storing.{is_stored_by, stored_mem, mem_stored}
use Rattle.anyorder.specs.EntryUnion.{Part, Joins, entry_union}
use Rattle.anyorder.specs.OneByOne.{Snapshot, exits_under, enters_under, applied, apply_one}

-- what the transitions give together, in one round
unfoldable pub together : Chart → List ℕ → History → List ℕ → Snapshot
together c conf hist ts = record { configuration = configuration_after c conf hist ts; history = history_after c conf hist ts }

-- ---- lists

fold_last : {A : Type 0} (f : A → ℕ → A) (a : A) (xs : List ℕ) (x : ℕ) → fold f a (append xs x) ≡ f (fold f a xs) x
unfolding fold append
fold_last f a [] x = refl
fold_last f a (y ∷ ys) x = fold_last f (f a y) ys x

map_same : (f g : ℕ → List ℕ) (n i : ℕ) → ((h : ℕ) → h < i + n → f h ≡ g h) → map f (from n i) ≡ map g (from n i)
unfolding from
map_same f g zero i h = refl
map_same f g (suc n) i h = rw (h i (omega arith), map_same f g n (suc i) (λ k l. h k (omega arith)))

pub mem_append : (a : ℕ) (xs : List ℕ) (x : ℕ) → mem a (append xs x) ≡ (mem a xs || mem a (x ∷ []))
unfolding append
mem_append a xs x = mem_app a xs (x ∷ [])

-- ---- one transition more

module _ (c : Chart) (g : Sound c) (conf : List ℕ) (ord : conf ≡ those c.rows (is_in conf)) (lc : Legal c (is_in conf)) (hist : History) (ok : HistOk c hist)
    (us : List ℕ) (t : ℕ) (fresh : mem t us ≡ false) (tk : Taken c conf hist (append us t)) where
  abbrev d : ℕ → ℕ
  d u = domain c hist (c.transition u)

  abbrev all : List ℕ
  all = append us t

  in_all : (u : ℕ) → mem u us ≡ true → mem u all ≡ true
  in_all u m = mem_append u us t ∙ or_left (mem u us) _ m

  t_in : mem t all ≡ true
  t_in = mem_append t us t ∙ or_right (mem t us) _ (mem_head t [])

  before : Taken c conf hist us
  before = record { inside = λ u m. tk.inside u (in_all u m); active = λ u m. tk.active u (in_all u m); disjoint = λ u v m n. tk.disjoint u v (in_all u m) (in_all v n) }

  -- rows below the domain of a transition of us, and below that of t
  abbrev P : ℕ → Type 0
  P i = (u : ℕ) × Moves c us u × (is_descendant c (d u) i ≡ true)

  abbrev Q : ℕ → Type 0
  Q i = (is_empty (c.transition t).targets ≡ false) × (is_descendant c (d t) i ≡ true)

  apart : (i : ℕ) → P i → Q i → ⊥
  apart i p q =
      ⊎_elim (λ (w : Way (parent c) (d p.0) (d t)). domains_apart c g conf ord lc hist ok all tk p.0 t (in_all p.0 p.1.0, p.1.1) (t_in, q.0) other w)
      (λ (w : Way (parent c) (d t) (d p.0)). domains_apart c g conf ord lc hist ok all tk t p.0 (t_in, q.0) (in_all p.0 p.1.0, p.1.1) (λ e. other (sym e)) w)
      (way_compare (parent c) (below_way (parent c) (d p.0) i (under_below c g.tree (d p.0) i p.2)) (below_way (parent c) (d t) i (under_below c g.tree (d t) i q.1)))
    where
      other : p.0 ≡ t → ⊥
      other e = clash (mem t us) (rw e at p.1.0) fresh

  -- both are parts of the tree
  below_both : (a i j : ℕ) → is_descendant c a i ≡ true → is_descendant c i j ≡ true → is_descendant c a j ≡ true
  below_both a i j h k =
      below_under c g.tree a j (under_plain c g.tree i j k)
      (below_trans (parent c) a i j (below_way (parent c) a i (under_below c g.tree a i h)) (under_below c g.tree i j k))

  child_below : (i j : ℕ) → mem j (children c i) ≡ true → is_descendant c i j ≡ true
  child_below i j m = child_under c g i j (mem_children c g.tree i j m).1

  p_part : Part c P
  p_part = record { child = λ i j p m. (p.0, p.1, below_both (d p.0) i j p.2 (child_below i j m)); path = λ i j xs p m. (p.0, p.1, below_both (d p.0) i j p.2 (path_descends c i xs j m)) }

  q_part : Part c Q
  q_part = record { child = λ i j q m. (q.0, below_both (d t) i j q.1 (child_below i j m)); path = λ i j xs q m. (q.0, below_both (d t) i j q.1 (path_descends c i xs j m)) }

  -- ---- exits

  exit_facts : (i : ℕ) → mem i (exit_set c conf hist (c.transition t)) ≡ true → (mem i conf ≡ true) × Q i
  unfolding exit_set mem
  exit_facts i h = go (is_empty (c.transition t).targets) refl h
    where
      go : (b : Bool) → is_empty (c.transition t).targets ≡ b → mem i (cond b [] (intersection conf (descendants c (d t)))) ≡ true → (mem i conf ≡ true) × Q i
      go true e h = absurd (no h)
      go false e h =
          let k : (mem i conf && mem i (descendants c (d t))) ≡ true = sym (mem_intersection i conf (descendants c (d t))) ∙ h in
          (and_left (mem i conf) _ k, (e, (mem_descendants c (d t) i (and_right (mem i conf) _ k)).1))

  -- the rows that us exits are in its part
  exited-P : (i : ℕ) → mem i (exits c conf hist us) ≡ true → P i
  exited-P i h = (exits_of c g conf ord lc hist ok us before i h).1

  exits_all : (i : ℕ) → mem i (exits c conf hist all) ≡ (mem i (exits c conf hist us) || mem i (exit_set c conf hist (c.transition t)))
  unfolding exits add_exits
  exits_all i = ap (mem i) (fold_last (add_exits c conf hist) [] us t) ∙ mem_union i (exits c conf hist us) (exit_set c conf hist (c.transition t))

  -- ---- what us enters is in its part

  aim_of : (h : History) (j : ℕ) → mem j (targeted c hist h us) ≡ true → P j
  unfolding targeted add_targets
  aim_of h j m =
      let r = union_mem (add_targets c hist h) (λ u. paths_below c (d u) (effective_targets c h (c.transition u))) (λ set u. refl) us j m in
      let f = down_facts c g.tree (d r.0) (effective_targets c h (c.transition r.0)) j r.2 in
      let y = effective_of c h r.0 f.1.0 f.1.1 in
      (r.0, (r.1, empty_some (c.transition r.0).targets y.0 y.1), f.0)

  abbrev h₁ : History
  h₁ = stored_in (history_after c conf hist us)

  abbrev h₂ : History
  h₂ = stored_in (history_after c conf hist all)

  entered-P : (j : ℕ) → mem j (entry_of c conf hist us).set ≡ true → P j
  unfolding entry_of mem
  entered-P j m =
      (entry_union c (initial_targets c h₁) (initial_targets c h₁) (initial_targets c h₁) P Q p_part q_part apart (λ i p. refl) (λ i q. refl) (targeted c hist h₁ us) (targeted c hist h₁ us) []
      (λ k. sym (or_false (mem k (targeted c hist h₁ us)))) (aim_of h₁) (λ k n. absurd (no n))).left j m

  -- below t's domain, us changes nothing
  unchanged : (i : ℕ) → Q i → mem i (configuration_after c conf hist us) ≡ mem i conf
  unfolding configuration_after staying
  unchanged i q =
      let x : mem i (exits c conf hist us) ≡ false = not_so _ (λ h. apart i (exited-P i h) q) in
      let y : mem i (entry_of c conf hist us).set ≡ false = not_so _ (λ h. apart i (entered-P i h) q) in
      rw (mem_union i (minus conf (exits c conf hist us)) (entry_of c conf hist us).set, mem_minus i conf (exits c conf hist us), x, y) (go (mem i conf))
    where
      go : (b : Bool) → ((b && true) || false) ≡ b
      go true = refl
      go false = refl

  conf_ascends : Ascends 0 conf
  conf_ascends = rw ord (ascends_those c.rows (is_in conf))

  next_up : Ascends 0 (configuration_after c conf hist us)
  next_up = next_ascends c g conf ord lc hist ok us before

  -- t's exit set is what it was
  same_exits : exits_under c (configuration_after c conf hist us) (d t) t ≡ exit_set c conf hist (c.transition t)
  unfolding exits_under exit_set
  same_exits = go (is_empty (c.transition t).targets) refl
    where
      pick : is_empty (c.transition t).targets ≡ false → (i : ℕ) (b : Bool) → mem i (descendants c (d t)) ≡ b → (mem i (configuration_after c conf hist us) && b) ≡ (mem i conf && b)
      pick e i true q = rw (unchanged i (e, (mem_descendants c (d t) i q).1))
      pick e i false q = and_false (mem i (configuration_after c conf hist us)) ∙ sym (and_false (mem i conf))

      go : (b : Bool) → is_empty (c.transition t).targets ≡ b →
          cond b [] (intersection (configuration_after c conf hist us) (descendants c (d t))) ≡ cond b [] (intersection conf (descendants c (d t)))
      go true e = refl
      go false e =
          ascends_ext 0 0 (intersection (configuration_after c conf hist us) (descendants c (d t))) (intersection conf (descendants c (d t)))
          (ascends_intersection (configuration_after c conf hist us) (descendants c (d t)) next_up) (ascends_intersection conf (descendants c (d t)) conf_ascends)
          (λ i. mem_intersection i (configuration_after c conf hist us) (descendants c (d t)) ∙ pick e i (mem i (descendants c (d t))) refl ∙ sym (mem_intersection i conf (descendants c (d t))))

  -- ---- stored history

  stored_below : (h i : ℕ) → is_stored_by c h i ≡ true → is_descendant c (parent c h) i ≡ true
  unfolding is_stored_by is_atomic_below
  stored_below h i s = go (is_shallow (kind c h)) s
    where
      go : (b : Bool) → cond b (is_child c (parent c h) i) (is_descendant c (parent c h) i && is_atomic c i) ≡ true → is_descendant c (parent c h) i ≡ true
      go true s = child_under c g (parent c h) i s
      go false s = and_left (is_descendant c (parent c h) i) _ s

  stores_ascends : (xs : List ℕ) (h : ℕ) → Ascends 0 xs → Ascends 0 (would_store c xs h)
  unfolding would_store atomic_states
  stores_ascends xs h a = go (is_shallow (kind c h))
    where
      go : (b : Bool) → Ascends 0 (cond b (intersection xs (children c (parent c h))) (intersection (keep (is_atomic c) xs) (descendants c (parent c h))))
      go true = ascends_intersection xs (children c (parent c h)) a
      go false = ascends_intersection (keep (is_atomic c) xs) (descendants c (parent c h)) (ascends_keep (is_atomic c) 0 xs a)

  -- a row that t exits stores what it would have stored before
  same_stores : (h : ℕ) → Q (parent c h) → would_store c (configuration_after c conf hist us) h ≡ would_store c conf h
  same_stores h q =
      ascends_ext 0 0 (would_store c (configuration_after c conf hist us) h) (would_store c conf h)
      (stores_ascends (configuration_after c conf hist us) h next_up) (stores_ascends conf h conf_ascends)
      (λ i. both_ways (mem i (would_store c (configuration_after c conf hist us) h)) (mem i (would_store c conf h))
      (λ m. let k = stored_mem c g.tree h (configuration_after c conf hist us) i m in
      let n : mem i conf ≡ true = sym (unchanged i (under i k.1)) ∙ k.0 in
      mem_stored c g.tree h conf i (lc.part.inside i n) n k.1)
      (λ m. let k = stored_mem c g.tree h conf i m in
      mem_stored c g.tree h (configuration_after c conf hist us) i (lc.part.inside i k.0) (unchanged i (under i k.1) ∙ k.0) k.1))
    where
      under : (i : ℕ) → is_stored_by c h i ≡ true → Q i
      under i s = (q.0, below_both (d t) (parent c h) i q.1 (stored_below h i s))

  same_history : storing c (configuration_after c conf hist us) h₁ (exit_set c conf hist (c.transition t)) ≡ history_after c conf hist all
  unfolding history_after storing stored
  same_history = map_same (stored c (configuration_after c conf hist us) h₁ (exit_set c conf hist (c.transition t))) (stored c conf hist (exits c conf hist all)) c.rows 0 (λ h l. one h (omega arith))
    where
      one : (h : ℕ) → h < c.rows → stored c (configuration_after c conf hist us) h₁ (exit_set c conf hist (c.transition t)) h ≡ stored c conf hist (exits c conf hist all) h
      one h l =
          rw (after_at c g conf ord lc hist ok us before h l, exits_all (parent c h))
          (go (is_history (kind c h)) (mem (parent c h) (exits c conf hist us)) (mem (parent c h) (exit_set c conf hist (c.transition t))) refl)
        where
          go : (b x y : Bool) → mem (parent c h) (exit_set c conf hist (c.transition t)) ≡ y →
              cond (b && y) (would_store c (configuration_after c conf hist us) h) (cond (b && x) (would_store c conf h) (hist h)) ≡ cond (b && (x || y)) (would_store c conf h) (hist h)
          go false x y e = refl
          go true true true e = same_stores h (exit_facts (parent c h) e).1
          go true false true e = same_stores h (exit_facts (parent c h) e).1
          go true true false e = refl
          go true false false e = refl

  -- ---- what us aims at does not hang on t's exits

  same_stand : (u : ℕ) → Moves c us u → (y : ℕ) → mem y (c.transition u).targets ≡ true → stand_ins c h₂ y ≡ stand_ins c h₁ y
  unfolding stand_ins stored
  same_stand u mu y m = bool_case (is_history (kind c y)) (λ q. rw (q, values q)) (λ q. rw q)
    where
      yin : y < c.rows
      yin = g.target_inside u (before.inside u mu.0) y m

      values : is_history (kind c y) ≡ true → h₂ y ≡ h₁ y
      values q =
          let sb = target_stand c g hist ok u (before.inside u mu.0) y m in
          let e = sb.full in
          let kept : mem (parent c y) (exit_set c conf hist (c.transition t)) ≡ false =
          not_so _ (λ k. let f = (exit_facts (parent c y) k).1 in
          let over = (dom c g hist ok u (before.inside u mu.0)).over e.0 (effective_in c hist u y e.0 m e.1) in
          apart e.0 (u, mu, over) (
            f.0,
            below_under c g.tree (d t) e.0 (under_plain c g.tree (d u) e.0 over)
                (below_trans (parent c) (d t) (parent c y) e.0 (below_way (parent c) (d t) (parent c y) (under_below c g.tree (d t) (parent c y) f.1)) (sb.strict q e.0 e.1)),
          )) in
          rw (after_at c g conf ord lc hist ok all tk y yin, after_at c g conf ord lc hist ok us before y yin, exits_all (parent c y), kept, or_false (mem (parent c y) (exits c conf hist us)))

  -- nor do the default entry targets below a domain of us: a history in an initial list has its parent below the owner or is the owner's (R-3)
  same_listed : (i : ℕ) → P i → (y : ℕ) → mem y (default_targets c i) ≡ true → stand_ins c h₂ y ≡ stand_ins c h₁ y
  unfolding stand_ins stored
  same_listed i p y m = bool_case (is_history (kind c y)) (λ q. rw (q, values)) (λ q. rw q)
    where
      yin : y < c.rows
      yin = (default_below c g i y m).0

      over : (y : ℕ) → Below (parent c) i y → Q (parent c y) → P (parent c y)
      over zero b f = absurd b
      over (suc y) b f = (
        p.0,
        p.1,
        below_under c g.tree (d p.0) (parent c (suc y)) (under_plain c g.tree (d t) (parent c (suc y)) f.1)
            (below_trans2 (parent c) (d p.0) (under_below c g.tree (d p.0) i p.2) b),
      )

      values : h₂ y ≡ h₁ y
      values =
          let kept : mem (parent c y) (exit_set c conf hist (c.transition t)) ≡ false =
          not_so _ (λ k. let f = (exit_facts (parent c y) k).1 in apart (parent c y) (over y (default_below c g i y m).1 f) f) in
          rw (after_at c g conf ord lc hist ok all tk y yin, after_at c g conf ord lc hist ok us before y yin, exits_all (parent c y), kept, or_false (mem (parent c y) (exits c conf hist us)))

  same_initial : (i : ℕ) → P i → initial_targets c h₂ i ≡ initial_targets c h₁ i
  unfolding initial_targets resolved add_stand_ins
  same_initial i p = fold_same (add_stand_ins c h₂) (add_stand_ins c h₁) (default_targets c i) [] (λ y set n. ap (union set) (same_listed i p y n))

  same_effective : (u : ℕ) → mem u us ≡ true → effective_targets c h₂ (c.transition u) ≡ effective_targets c h₁ (c.transition u)
  unfolding effective_targets resolved add_stand_ins
  same_effective u m =
      fold_same (add_stand_ins c h₂) (add_stand_ins c h₁) (c.transition u).targets []
      (λ y set n. ap (union set) (same_stand u (m, empty_some (c.transition u).targets y n) y n))

  same_aim : targeted c hist h₂ us ≡ targeted c hist h₁ us
  unfolding targeted add_targets
  same_aim = fold_same (add_targets c hist h₂) (add_targets c hist h₁) us [] (λ u set m. ap (λ (xs : List ℕ). union set (paths_below c (d u) xs)) (same_effective u m))

  abbrev aim_t : List ℕ
  aim_t = paths_below c (d t) (effective_targets c h₂ (c.transition t))

  aim_all : (j : ℕ) → mem j (targeted c hist h₂ all) ≡ (mem j (targeted c hist h₁ us) || mem j aim_t)
  unfolding targeted add_targets
  aim_all j =
      ap (mem j) (fold_last (add_targets c hist h₂) [] us t) ∙ mem_union j (targeted c hist h₂ us) aim_t ∙ ap (λ (xs : List ℕ). mem j xs || mem j aim_t) same_aim

  aim-Q : (j : ℕ) → mem j aim_t ≡ true → Q j
  aim-Q j m =
      let f = down_facts c g.tree (d t) (effective_targets c h₂ (c.transition t)) j m in
      let y = effective_of c h₂ t f.1.0 f.1.1 in
      (empty_some (c.transition t).targets y.0 y.1, f.0)

  -- ---- the entry sets join

  joins : Joins P Q (entry_of c conf hist all) (entry_of c conf hist us) (entry_set c (initial_targets c h₂) aim_t)
  unfolding entry_of
  joins =
      entry_union c (initial_targets c h₂) (initial_targets c h₁) (initial_targets c h₂) P Q p_part q_part apart same_initial (λ i q. refl)
      (targeted c hist h₂ all) (targeted c hist h₁ us) aim_t aim_all (aim_of h₁) aim-Q

  algebra : (a x y e f : Bool) → (e ≡ true → y ≡ true → ⊥) → ((((a && not x) || e) && not y) || f) ≡ ((a && not (x || y)) || (e || f))
  algebra a x true true f n = absurd (n refl refl)
  algebra true true true false f n = refl
  algebra true false true false f n = refl
  algebra false x true false f n = refl
  algebra true true false true f n = refl
  algebra true true false false f n = refl
  algebra true false false e f n = refl
  algebra false x false true f n = refl
  algebra false x false false f n = refl

  member : (i : ℕ) → mem i (union (minus (configuration_after c conf hist us) (exit_set c conf hist (c.transition t))) (enters_under c h₂ (d t) t)) ≡ mem i (configuration_after c conf hist all)
  unfolding configuration_after staying enters_under
  member i =
      rw (
        mem_union i (minus (union (minus conf (exits c conf hist us)) (entry_of c conf hist us).set) (exit_set c conf hist (c.transition t))) (entry_set c (initial_targets c h₂) aim_t).set,
        mem_minus i (union (minus conf (exits c conf hist us)) (entry_of c conf hist us).set) (exit_set c conf hist (c.transition t)),
        mem_union i (minus conf (exits c conf hist us)) (entry_of c conf hist us).set,
        mem_minus i conf (exits c conf hist us),
        mem_union i (minus conf (exits c conf hist all)) (entry_of c conf hist all).set,
        mem_minus i conf (exits c conf hist all),
        exits_all i,
        joins.rows i,
      )
      (algebra (mem i conf) (mem i (exits c conf hist us)) (mem i (exit_set c conf hist (c.transition t))) (mem i (entry_of c conf hist us).set) (mem i (entry_set c (initial_targets c h₂) aim_t).set)
      (λ e y. apart i (entered-P i e) (exit_facts i y).1))

  same_configuration : union (minus (configuration_after c conf hist us) (exit_set c conf hist (c.transition t))) (enters_under c h₂ (d t) t) ≡ configuration_after c conf hist all
  same_configuration =
      ascends_ext 0 0 (union (minus (configuration_after c conf hist us) (exit_set c conf hist (c.transition t))) (enters_under c h₂ (d t) t)) (configuration_after c conf hist all)
      (ascends_union (minus (configuration_after c conf hist us) (exit_set c conf hist (c.transition t))) (enters_under c h₂ (d t) t)
      (ascends_minus (configuration_after c conf hist us) (exit_set c conf hist (c.transition t)) next_up))
      (next_ascends c g conf ord lc hist ok all tk) member

  pub one_more : applied c (configuration_after c conf hist us) h₁ (d t) t (exit_set c conf hist (c.transition t)) ≡ together c conf hist all
  unfolding applied together
  one_more = rw (same_history, same_configuration)

  pub apply_more : apply_one c (λ u. domain c hist (c.transition u)) (together c conf hist us) t ≡ together c conf hist (append us t)
  unfolding apply_one together
  apply_more = rw same_exits one_more
