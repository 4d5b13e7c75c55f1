-- Effective targets and domains of a transition.
use Rattle.std.specs.Prelude.{◌≡◌, Bool, cond, ℕ, ◌<◌}
use Rattle.std.proofs.Math.Path.{refl}
use Rattle.std.proofs.Math.Bool.{true, false}
use Rattle.std.proofs.Math.Option.{Option, none, some}
use Rattle.definition.specs.Rows.{mem, is_empty, subset, first, or_else}
use Rattle.definition.specs.Chart.{Chart, kind, parent, is_root}
use Rattle.definition.specs.Tree.{ancestors, is_descendant, descendants, is_compound, is_domain_kind}
use Rattle.follower.specs.Selection.{History, stand_ins, effective_targets, holds_all, is_own_domain, domain_of, domain}
use Rattle.laws.specs.Bools.{or_left, or_right, and_left, and_right}
use Rattle.laws.specs.Sets.{Ascends}
use Rattle.laws.specs.Lists.{first_some, subset_mem}
use Rattle.laws.specs.Ways.{Way, here, below_way}
use Rattle.accepted.specs.Tree.{root_kind, way_zero, anc_below}
use Rattle.accepted.specs.Fork.{Forks}
use Rattle.theory.specs.Resolved.{resolved_of, resolved_in, resolved_ascends, resolved_full, resolved_forks}
use Rattle.accepted.specs.Sound.{Sound, mem_descendants}
use Rattle.theory.specs.Accepted.{target_not_root, targets_apart, HistOk, Stand, stand}

-- what makes d the domain of transition t
pub record Dom (c : Chart) (hist : History) (t : ℕ) (d : ℕ) : Type 0 where
  pub fit : is_domain_kind c d ≡ true
  pub above : Way (parent c) d (c.transition t).source
  pub over : (e : ℕ) → mem e (effective_targets c hist (c.transition t)) ≡ true → is_descendant c d e ≡ true

-- an effective target stands in for a target
module _ (c : Chart) (hist : History) (t : ℕ) where
  pub effective_of : (e : ℕ) → mem e (effective_targets c hist (c.transition t)) ≡ true →
      (x : ℕ) × (mem x (c.transition t).targets ≡ true) × (mem e (stand_ins c hist x) ≡ true)
  unfolding effective_targets
  effective_of e m = resolved_of c hist (c.transition t).targets e m

  pub effective_in : (x e : ℕ) → mem x (c.transition t).targets ≡ true → mem e (stand_ins c hist x) ≡ true → mem e (effective_targets c hist (c.transition t)) ≡ true
  unfolding effective_targets
  effective_in x e m n = resolved_in c hist (c.transition t).targets x e m n

  pub effective_ascends : Ascends 0 (effective_targets c hist (c.transition t))
  unfolding effective_targets
  effective_ascends = resolved_ascends c hist (c.transition t).targets

module _ (c : Chart) (g : Sound c) (hist : History) (ok : HistOk c hist) (t : ℕ) (in_t : t < c.transitions) where
  pub target_stand : (x : ℕ) → mem x (c.transition t).targets ≡ true → Stand c x (stand_ins c hist x)
  target_stand x m = stand c g hist ok x (g.target_inside t in_t x m) (target_not_root c g t in_t x m)

  pub effective_full : is_empty (c.transition t).targets ≡ false → (e : ℕ) × (mem e (effective_targets c hist (c.transition t)) ≡ true)
  unfolding effective_targets
  effective_full n = resolved_full c g hist ok (c.transition t).targets (targets_apart c g t in_t) (g.target_inside t in_t) (target_not_root c g t in_t) n

  pub effective_forks : Forks c (effective_targets c hist (c.transition t))
  unfolding effective_targets
  effective_forks = resolved_forks c g hist ok (c.transition t).targets (targets_apart c g t in_t) (g.target_inside t in_t) (target_not_root c g t in_t)

  pub effective_inside : (e : ℕ) → mem e (effective_targets c hist (c.transition t)) ≡ true → e < c.rows
  effective_inside e m = let x = effective_of c hist t e m in (target_stand x.0 x.1).inside e x.2

  root_dom : Dom c hist t 0
  unfolding is_domain_kind
  root_dom =
      record {
        fit = or_left _ _ (root_kind c g.tree);
        above = way_zero c g.tree (c.transition t).source;
        over = λ e m. let x = effective_of c hist t e m in (target_stand x.0 x.1).rooted e x.2;
      }

  -- all effective targets are descendants of a
  holds_over : (a : ℕ) → subset (effective_targets c hist (c.transition t)) (descendants c a) ≡ true →
      (e : ℕ) → mem e (effective_targets c hist (c.transition t)) ≡ true → is_descendant c a e ≡ true
  holds_over a h e m = (mem_descendants c a e (subset_mem (effective_targets c hist (c.transition t)) (descendants c a) h e m)).1

  first_dom : (o : Option ℕ) → first (holds_all c (effective_targets c hist (c.transition t))) (ancestors c (c.transition t).source) ≡ o → Dom c hist t (or_else o 0)
  unfolding holds_all or_else
  first_dom none e = root_dom
  first_dom (some a) e =
      let f = first_some (holds_all c (effective_targets c hist (c.transition t))) (ancestors c (c.transition t).source) a e in
      record {
        fit = and_left (is_domain_kind c a) _ f.1;
        above = below_way (parent c) a _ (anc_below c g.tree a (c.transition t).source f.0);
        over = holds_over a (and_right (is_domain_kind c a) _ f.1);
      }

  own_dom : is_own_domain c (c.transition t) (effective_targets c hist (c.transition t)) ≡ true → Dom c hist t (c.transition t).source
  unfolding is_own_domain is_domain_kind
  own_dom h =
      let k = and_right (c.transition t).internal _ h in
      record {
        fit = or_right (is_root (kind c (c.transition t).source)) _ (and_left (is_compound c (c.transition t).source) _ k);
        above = here;
        over = holds_over (c.transition t).source (and_right (is_compound c (c.transition t).source) _ k);
      }

  pub dom : Dom c hist t (domain c hist (c.transition t))
  unfolding domain domain_of
  dom = go (is_own_domain c (c.transition t) (effective_targets c hist (c.transition t))) refl
    where
      go : (b : Bool) → is_own_domain c (c.transition t) (effective_targets c hist (c.transition t)) ≡ b →
          Dom c hist t (cond b (c.transition t).source (or_else (first (holds_all c (effective_targets c hist (c.transition t))) (ancestors c (c.transition t).source)) 0))
      go true e = own_dom e
      go false e = first_dom (first (holds_all c (effective_targets c hist (c.transition t))) (ancestors c (c.transition t).source)) refl
