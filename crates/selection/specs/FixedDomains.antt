-- Transitions whose targets name no history: their effective targets are their anchors, so that no round moves their domain.
use Rattle.std.specs.Prelude.{◌≡◌, Bool, true, ◌&&◌, cond, ℕ, ◌+◌, ◌≤◌, ◌<◌, length, get_or}
use Rattle.std.proofs.Math.Path.{refl, ap}
use Rattle.std.proofs.Common.{sym, ◌∙◌, arith, length-set, get_or-set_same, get_or-set_other}
use Rattle.std.proofs.Math.Bool.{false, not}
use mathlib.Core.List.{List, [], ◌∷◌, map}
use Rattle.std.proofs.Math.Dec.{ltb}
use Rattle.std.proofs.Math.ListN.{set}
use borrow.Author.Tests.{not-true, lt-ltb}
use Rattle.definition.specs.Rows.{fold, any, with, is_empty, union, insert, intersection}
use Rattle.definition.specs.declared.Kind.{Kind}
use Rattle.definition.specs.Chart.{Chart, kind, is_history}
use Rattle.definition.specs.Tree.{descendants, anchor, anchors}
use Rattle.follower.specs.Selection.{History, stand_ins, add_stand_ins, resolved, effective_targets, domain_of, domain, exit_set}
use Rattle.matching.specs.Histories.{is_history_row}
use Rattle.laws.specs.Bools.{no, and_left, and_right, bool_case, eq_case, not_so, or_left, or_right}

-- there are targets, and no history among them
unfoldable pub has_fixed_targets : Chart → ℕ → Bool
has_fixed_targets c t = not (any (is_history_row c) (c.transition t).targets) && not (is_empty (c.transition t).targets)

-- the domain by the anchors, and 256 where a history may move it or there is none
unfoldable pub fixed_domain : Chart → ℕ → ℕ
fixed_domain c t = cond (has_fixed_targets c t) (domain_of c (c.transition t) (anchors c t)) 256

pub record FixedDomain (c : Chart) (t d : ℕ) : Type 0 where
  pub is : d ≡ fixed_domain c t
  pub row : d < 256 → d < c.rows

pub record DomainsFixed (c : Chart) (domains : List ℕ) : Type 0 where
  pub size : length domains ≡ 512
  pub at : (t : ℕ) → t < c.transitions → FixedDomain c t (get_or domains t 0)

-- ---- the test

module _ (c : Chart) (t : ℕ) (ts : List ℕ) (e : ts ≡ (c.transition t).targets) where
  pub targets_not : true ≡ any (is_history_row c) ts → false ≡ has_fixed_targets c t
  unfolding has_fixed_targets
  targets_not h = rw (← e, ← h)

  pub targets_if : (n : ℕ) → n ≡ length ts → false ≡ any (is_history_row c) ts → ltb 0 n ≡ has_fixed_targets c t
  unfolding has_fixed_targets is_empty
  targets_if n q h = rw (← e, ← h, q) (go ts)
    where
      go : (xs : List ℕ) → ltb 0 (length xs) ≡ not (is_empty xs)
      go [] = refl
      go (x ∷ xs) = lt-ltb 0 (length (x ∷ xs)) (omega arith)

-- ---- the effective targets, by any history

module _ (c : Chart) (hist : History) where
  stand_ins_plain : (set xs : List ℕ) → any (is_history_row c) xs ≡ false → fold (add_stand_ins c hist) set xs ≡ fold with set (map (anchor c) xs)
  unfolding fold any is_history_row add_stand_ins stand_ins union with anchor
  stand_ins_plain set [] h = refl
  stand_ins_plain set (x ∷ xs) h =
      let p : is_history (kind c x) ≡ false = not_so (is_history (kind c x)) (λ e. no (sym h ∙ or_left (is_history (kind c x)) (any (is_history_row c) xs) e)) in
      let q : any (is_history_row c) xs ≡ false = not_so (any (is_history_row c) xs) (λ e. no (sym h ∙ or_right (is_history (kind c x)) (any (is_history_row c) xs) e)) in
      rw p (stand_ins_plain (insert x set) xs q)

  module _ (t : ℕ) (p : has_fixed_targets c t ≡ true) where
    pub none_history : any (is_history_row c) (c.transition t).targets ≡ false
    unfolding has_fixed_targets
    none_history = not-true _ (and_left (not (any (is_history_row c) (c.transition t).targets)) _ p)

    pub anchors_stand : effective_targets c hist (c.transition t) ≡ anchors c t
    unfolding effective_targets resolved anchors union
    anchors_stand = stand_ins_plain [] (c.transition t).targets none_history

    anchors_domain : domain_of c (c.transition t) (anchors c t) ≡ domain c hist (c.transition t)
    unfolding domain
    anchors_domain = ap (domain_of c (c.transition t)) (sym anchors_stand)

    some_target : is_empty (c.transition t).targets ≡ false
    unfolding has_fixed_targets
    some_target = not-true _ (and_right (not (any (is_history_row c) (c.transition t).targets)) _ p)

  -- a domain is known: no history is among the targets, and this is the domain
  module _ (t d : ℕ) (r : FixedDomain c t d) (known : d < 256) where
    pub fixed_targets : has_fixed_targets c t ≡ true
    unfolding fixed_domain
    fixed_targets =
        let e = r.is in
        bool_case (has_fixed_targets c t) (λ h. h) (λ h. let z : d ≡ 256 = e ∙ rw h in absurd (omega arith))

    pub fixed_is_domain : d ≡ domain c hist (c.transition t)
    unfolding fixed_domain
    fixed_is_domain = r.is ∙ rw fixed_targets (anchors_domain t fixed_targets)

    pub fixed_exits : (conf below set : List ℕ) → below ≡ descendants c d → set ≡ intersection conf below → set ≡ exit_set c conf hist (c.transition t)
    unfolding exit_set
    fixed_exits conf below set e f = f ∙ rw (some_target t fixed_targets, ← fixed_is_domain, e)

-- ---- the fixed of all transitions

pub record Fixing (c : Chart) (domains : List ℕ) (n : ℕ) : Type 0 where
  pub size : length domains ≡ 512
  pub done : (t : ℕ) → t < n → FixedDomain c t (get_or domains t 0)

module _ (c : Chart) (domains : List ℕ) where
  pub fixing_begin : length domains ≡ 512 → Fixing c domains 0
  fixing_begin e = record { size = e; done = λ t l. absurd (omega arith) }

  pub fixing_turn : (n d : ℕ) → n < 512 → Fixing c domains n → FixedDomain c n d → Fixing c (set domains n d) (n + 1)
  fixing_turn n d l h r = record {
    size = length-set domains n d ∙ h.size;
    done = λ t m. eq_case t n
        (λ q. rw (q, get_or-set_same domains n d 0 (let s = h.size in omega arith)) r)
        (λ q. rw (get_or-set_other domains n t d 0 q) (h.done t (omega arith)));
  }

  pub fixing_done : (n m : ℕ) → m ≡ c.transitions → m ≤ n → Fixing c domains n → DomainsFixed c domains
  fixing_done n m e l h = record { size = h.size; at = λ t k. h.done t (omega arith) }

-- what the code reads of a target
pub history_row : (c : Chart) (x : ℕ) (k : Kind) (b : Bool) → k ≡ kind c x → b ≡ is_history k → b ≡ is_history_row c x
unfolding is_history_row
history_row c x k b e h = h ∙ ap is_history e

-- ---- the domain of one transition

module _ (c : Chart) (t : ℕ) (b : Bool) (e : b ≡ has_fixed_targets c t) where
  pub fixed_none : b ≡ false → FixedDomain c t 256
  unfolding fixed_domain
  fixed_none h = record { is = rw (← e, h); row = λ l. absurd (omega arith) }

  pub fixed_some : (targets : List ℕ) (d : ℕ) → b ≡ true → targets ≡ anchors c t → d ≡ domain_of c (c.transition t) targets → d < c.rows → FixedDomain c t d
  unfolding fixed_domain
  fixed_some targets d h q f l = record { is = f ∙ rw (q, ← e, h); row = λ m. l }
