-- The entry set of two aims that lie in parts of the tree that no row is in both of is the union of their entry sets.
use Rattle.std.specs.Prelude.{◌≡◌, refl, Bool, true, false, ◌||◌, ℕ}
use Rattle.std.proofs.Common.{sym, ◌∙◌}
use mathlib.Core.List.{List, [], ◌∷◌}
use Rattle.definition.specs.Rows.{fold, from, mem}
use Rattle.definition.specs.Chart.{Chart}
use Rattle.definition.specs.Tree.{children}
use Rattle.follower.specs.Microstep.{paths_below, Entry, has_no_child_in, complete, entry_set}
use Rattle.laws.specs.Bools.{or_elim, or_left, or_right, both_ways}
use Rattle.laws.specs.Lists.{meets_none, none_meets}
use Rattle.theory.specs.Entry.{bare_facts, bare_intro, bare_less, asks_for, asks-elim, asks_child, asks_initial, mem_complete}

-- a part of the tree: what is below a row of it is in it
pub record Part (c : Chart) (P : ℕ → Type 0) : Type 0 where
  pub child : (i j : ℕ) → P i → mem j (children c i) ≡ true → P j
  pub path : (i j : ℕ) (xs : List ℕ) → P i → mem j (paths_below c i xs) ≡ true → P j

-- e is what e₁ and e₂ are together, each in its part
pub record Joins (P Q : ℕ → Type 0) (e e₁ e₂ : Entry) : Type 0 where
  pub rows : (j : ℕ) → mem j e.set ≡ (mem j e₁.set || mem j e₂.set)
  pub left : (j : ℕ) → mem j e₁.set ≡ true → P j
  pub right : (j : ℕ) → mem j e₂.set ≡ true → Q j

-- default entry targets may differ outside a part: request R-3 resolves histories in them
module _ (c : Chart) (targets : ℕ → List ℕ) (P : ℕ → Type 0) (p : Part c P) where
  grows : (e : Entry) (i j : ℕ) → ((j : ℕ) → mem j e.set ≡ true → P j) → mem j (complete c targets e i).set ≡ true → P j
  grows e i j h m =
      or_elim (mem j e.set) (asks_for c targets e.set i j) (h j)
      (asks-elim c targets e.set i j (λ n k w. p.child i j (h i n) w) (λ n k w. p.path i j (targets i) (h i n) w))
      (sym (mem_complete c targets e i j) ∙ m)

four : (a b x y : Bool) → ((a || b) || (x || y)) ≡ ((a || x) || (b || y))
four true b x y = refl
four false true true y = refl
four false true false y = refl
four false false x y = refl

module _ (c : Chart) (targets t₁ t₂ : ℕ → List ℕ) (P Q : ℕ → Type 0) (p : Part c P) (q : Part c Q) (apart : (i : ℕ) → P i → Q i → ⊥)
    (same₁ : (i : ℕ) → P i → targets i ≡ t₁ i) (same₂ : (i : ℕ) → Q i → targets i ≡ t₂ i) where
  asks : (e e₁ e₂ : Entry) (i j : ℕ) → Joins P Q e e₁ e₂ → asks_for c targets e.set i j ≡ (asks_for c t₁ e₁.set i j || asks_for c t₂ e₂.set i j)
  asks e e₁ e₂ i j h =
      both_ways (asks_for c targets e.set i j) (asks_for c t₁ e₁.set i j || asks_for c t₂ e₂.set i j)
      (asks-elim c targets e.set i j
      (λ m k n. or_elim (mem i e₁.set) (mem i e₂.set)
      (λ m₁. or_left (asks_for c t₁ e₁.set i j) _ (asks_child c t₁ e₁.set i j m₁ k n))
      (λ m₂. or_right (asks_for c t₁ e₁.set i j) _ (asks_child c t₂ e₂.set i j m₂ k n))
      (sym (h.rows i) ∙ m))
      (λ m b n. or_elim (mem i e₁.set) (mem i e₂.set)
      (λ m₁. or_left (asks_for c t₁ e₁.set i j) _
      (asks_initial c t₁ e₁.set i j m₁ (bare_less c e.set e₁.set i (λ a k. h.rows a ∙ or_left (mem a e₁.set) _ k) b) (rw (same₁ i (h.left i m₁)) at n)))
      (λ m₂. or_right (asks_for c t₁ e₁.set i j) _
      (asks_initial c t₂ e₂.set i j m₂ (bare_less c e.set e₂.set i (λ a k. h.rows a ∙ or_right (mem a e₁.set) _ k) b) (rw (same₂ i (h.right i m₂)) at n)))
      (sym (h.rows i) ∙ m)))
      (or_elim (asks_for c t₁ e₁.set i j) (asks_for c t₂ e₂.set i j)
      (asks-elim c t₁ e₁.set i j
      (λ m k n. asks_child c targets e.set i j (in₁ i m) k n)
      (λ m b n. asks_initial c targets e.set i j (in₁ i m) (bare₁ m b) (rw (same₁ i (h.left i m)) n)))
      (asks-elim c t₂ e₂.set i j
      (λ m k n. asks_child c targets e.set i j (in₂ i m) k n)
      (λ m b n. asks_initial c targets e.set i j (in₂ i m) (bare₂ m b) (rw (same₂ i (h.right i m)) n))))
    where
      in₁ : (a : ℕ) → mem a e₁.set ≡ true → mem a e.set ≡ true
      in₁ a k = h.rows a ∙ or_left (mem a e₁.set) _ k

      in₂ : (a : ℕ) → mem a e₂.set ≡ true → mem a e.set ≡ true
      in₂ a k = h.rows a ∙ or_right (mem a e₁.set) _ k

      bare₁ : mem i e₁.set ≡ true → has_no_child_in c e₁.set i ≡ true → has_no_child_in c e.set i ≡ true
      bare₁ m b =
          let k = bare_facts c e₁.set i b in
          bare_intro c e.set i k.0 (none_meets (children c i) e.set (λ a n w.
          or_elim (mem a e₁.set) (mem a e₂.set) (λ w₁. meets_none (children c i) e₁.set k.1 a n w₁)
          (λ w₂. apart a (p.child i a (h.left i m) n) (h.right a w₂)) (sym (h.rows a) ∙ w)))

      bare₂ : mem i e₂.set ≡ true → has_no_child_in c e₂.set i ≡ true → has_no_child_in c e.set i ≡ true
      bare₂ m b =
          let k = bare_facts c e₂.set i b in
          bare_intro c e.set i k.0 (none_meets (children c i) e.set (λ a n w.
          or_elim (mem a e₁.set) (mem a e₂.set) (λ w₁. apart a (h.left a w₁) (q.child i a (h.right i m) n))
          (λ w₂. meets_none (children c i) e₂.set k.1 a n w₂) (sym (h.rows a) ∙ w)))

  step : (e e₁ e₂ : Entry) (i : ℕ) → Joins P Q e e₁ e₂ → Joins P Q (complete c targets e i) (complete c t₁ e₁ i) (complete c t₂ e₂ i)
  step e e₁ e₂ i h =
      record {
        rows = λ j. rw (mem_complete c targets e i j, h.rows j, asks e e₁ e₂ i j h, mem_complete c t₁ e₁ i j, mem_complete c t₂ e₂ i j)
            (four (mem j e₁.set) (mem j e₂.set) (asks_for c t₁ e₁.set i j) (asks_for c t₂ e₂.set i j));
        left = λ j. grows c t₁ P p e₁ i j h.left;
        right = λ j. grows c t₂ Q q e₂ i j h.right;
      }

  pass : (xs : List ℕ) (e e₁ e₂ : Entry) → Joins P Q e e₁ e₂ → Joins P Q (fold (complete c targets) e xs) (fold (complete c t₁) e₁ xs) (fold (complete c t₂) e₂ xs)
  unfolding fold
  pass [] e e₁ e₂ h = h
  pass (x ∷ xs) e e₁ e₂ h = pass xs (complete c targets e x) (complete c t₁ e₁ x) (complete c t₂ e₂ x) (step e e₁ e₂ x h)

  pub entry_union : (aim a b : List ℕ) → ((j : ℕ) → mem j aim ≡ (mem j a || mem j b)) → ((j : ℕ) → mem j a ≡ true → P j) → ((j : ℕ) → mem j b ≡ true → Q j) →
      Joins P Q (entry_set c targets aim) (entry_set c t₁ a) (entry_set c t₂ b)
  unfolding entry_set
  entry_union aim a b e f g = pass (from c.rows 0) (record { set = aim; entered_by_default = [] }) (record { set = a; entered_by_default = [] }) (record { set = b; entered_by_default = [] }) (record { rows = e; left = f; right = g })
