-- A climb that ends where an earlier one has been: what it would choose from there on is nothing, or chosen already.
use Rattle.std.specs.Prelude.{◌≡◌, refl, true, false, List, [], ◌∷◌, ◌⊎◌, ℕ, ◌<◌}
use Rattle.std.proofs.Common.{sym, ap, ◌∙◌, inl, inr, ⊎_elim, arith}
use Rattle.std.proofs.Math.Option.{Option, none, some}
use Rattle.definition.specs.Rows.{mem, append, insert}
use Rattle.definition.specs.Names.{Name}
use Rattle.definition.specs.Chart.{Chart, Names}
use Rattle.follower.specs.Selection.{choice, add_once}
use Rattle.laws.specs.Bools.{no, clash, or_elim, or_left, or_right, bool_case, not_so}
use Rattle.laws.specs.Sets.{mem_head, mem_one, mem_insert_one}
use Rattle.laws.specs.Lists.{mem_app}
use Rattle.matching.specs.Sources.{source}

-- ---- the list with a choice

none_some : {A : Type 0} (t : ℕ) → ◌≡◌ {A = Option ℕ} none (some t) → A
none_some t e = let z : ◌≡◌ {A = ℕ} 0 1 = cc in absurd (omega arith)

some_same : (t u : ℕ) → ◌≡◌ {A = Option ℕ} (some t) (some u) → t ≡ u
some_same t u e = cc

added_kept : (ts : List ℕ) (o : Option ℕ) (t : ℕ) → mem t ts ≡ true → mem t (add_once ts o) ≡ true
unfolding add_once append
added_kept ts none t m = m
added_kept ts (some u) t m =
    bool_case (mem u ts) (λ h. rw h m) (λ h. rw h (mem_app t ts (u ∷ []) ∙ or_left (mem t ts) (mem t (u ∷ [])) m))

added_there : (ts : List ℕ) (t : ℕ) → mem t (add_once ts (some t)) ≡ true
unfolding add_once append
added_there ts t =
    bool_case (mem t ts) (λ h. rw h h) (λ h. rw h (mem_app t ts (t ∷ []) ∙ or_right (mem t ts) (mem t (t ∷ [])) (mem_head t [])))

-- what is in the list was there before, or is the choice
added_from : (ts : List ℕ) (o : Option ℕ) (t : ℕ) → mem t (add_once ts o) ≡ true → (mem t ts ≡ true) ⊎ (o ≡ some t)
unfolding add_once append
added_from ts none t m = inl m
added_from ts (some u) t m =
    bool_case (mem u ts)
    (λ h. inl (rw h at m))
    (λ h. or_elim (mem t ts) (mem t (u ∷ [])) (λ k. inl k) (λ k. inr (ap some (sym (mem_one t u k)))) (sym (mem_app t ts (u ∷ [])) ∙ (rw h at m)))

added_none : (ts : List ℕ) → ts ≡ add_once ts none
unfolding add_once
added_none ts = refl

added_same : (ts : List ℕ) (t : ℕ) → mem t ts ≡ true → ts ≡ add_once ts (some t)
unfolding add_once
added_same ts t m = rw m refl

mem_with : (x a : ℕ) (rows : List ℕ) → mem x rows ≡ true → mem x (insert a rows) ≡ true
mem_with x a rows m = mem_insert_one x a rows ∙ or_left (mem x rows) (mem x (a ∷ [])) m

mem_new : (a : ℕ) (rows : List ℕ) → mem a (insert a rows) ≡ true
mem_new a rows = mem_insert_one a a rows ∙ or_right (mem a rows) (mem a (a ∷ [])) (mem_head a [])

module _ (c : Chart) (names : Names) (conf : List ℕ) (event : Option Name) where
  -- ---- one climb

  -- a climb from row i, with choice o, when earlier ones have been at the rows before: either o is what row i chooses, or the climb met a row
  -- that chooses the same. Of every row at which it has been, the choice is that of row i. The source of what it chose is new.
  pub record Climbs (before : List ℕ) (i : ℕ) (o : Option ℕ) (after : List ℕ) : Type 0 where
    pub is : (choice c names conf event i ≡ o) ⊎ ((o ≡ none) × ((r : ℕ) × (mem r before ≡ true) × (choice c names conf event i ≡ choice c names conf event r)))
    pub rows : (x : ℕ) → mem x after ≡ true → (mem x before ≡ true) ⊎ (choice c names conf event x ≡ choice c names conf event i)
    pub kept : (x : ℕ) → mem x before ≡ true → mem x after ≡ true
    pub fresh : (t : ℕ) → o ≡ some t → (mem (source c t) before ≡ false) × (mem (source c t) after ≡ true)

  -- on its way at row a: the rows at which it has been itself stand above a
  pub record Climbing (before : List ℕ) (i a : ℕ) (rows : List ℕ) : Type 0 where
    pub same : choice c names conf event i ≡ choice c names conf event a
    pub own : (x : ℕ) → mem x rows ≡ true → (mem x before ≡ true) ⊎ ((a < x) × (choice c names conf event x ≡ choice c names conf event i))
    pub kept : (x : ℕ) → mem x before ≡ true → mem x rows ≡ true

  pub climbing_begin : (before : List ℕ) (i : ℕ) → Climbing before i i before
  climbing_begin before i = record { same = refl; own = λ x m. inl m; kept = λ x m. m }

  module _ (before : List ℕ) (i a : ℕ) (rows : List ℕ) (v : Climbing before i a rows) where
    pub climbing_met : (o : Option ℕ) → o ≡ none → mem a rows ≡ true → Climbs before i o rows
    climbing_met o z m = record {
      is = inr (z, (a, ⊎_elim (λ k. k) (λ k. let l = k.0 in absurd (omega arith)) (v.own a m), v.same));
      rows = λ x k. ⊎_elim (λ g. inl g) (λ g. inr g.1) (v.own x k);
      kept = v.kept;
      fresh = λ t e. none_some t (sym z ∙ e);
    }

    -- the rows with row a
    module _ (after : List ℕ) (e : after ≡ insert a rows) where
      further : (x : ℕ) → mem x after ≡ true → (mem x before ≡ true) ⊎ ((a < x) × (choice c names conf event x ≡ choice c names conf event i)) ⊎ (x ≡ a)
      further x m =
          or_elim (mem x rows) (mem x (a ∷ []))
          (λ k. ⊎_elim (λ g. inl g) (λ g. inr (inl g)) (v.own x k))
          (λ k. inr (inr (mem_one x a k)))
          (sym (mem_insert_one x a rows) ∙ ap (mem x) (sym e) ∙ m)

      stays : (x : ℕ) → mem x before ≡ true → mem x after ≡ true
      stays x m = ap (mem x) e ∙ mem_with x a rows (v.kept x m)

      been : (x : ℕ) → mem x after ≡ true → (mem x before ≡ true) ⊎ (choice c names conf event x ≡ choice c names conf event i)
      been x m = ⊎_elim (λ g. inl g) (⊎_elim (λ g. inr g.1) (λ g. inr (ap (choice c names conf event) g ∙ sym v.same))) (further x m)

      pub climbing_on : (p : ℕ) → p < a → choice c names conf event a ≡ choice c names conf event p → Climbing before i p after
      climbing_on p l q = record {
        same = v.same ∙ q;
        own = λ x m. ⊎_elim (λ g. inl g) (⊎_elim (λ g. inr (let k = g.0 in omega arith, g.1)) (λ g. inr (omega arith, ap (choice c names conf event) g ∙ sym v.same))) (further x m);
        kept = stays;
      }

      pub climbing_top : (o : Option ℕ) → o ≡ none → choice c names conf event a ≡ none → Climbs before i o after
      climbing_top o z q = record { is = inl (v.same ∙ q ∙ sym z); rows = been; kept = stays; fresh = λ t y. none_some t (sym z ∙ y) }

      pub climbing_here : (t : ℕ) → mem a rows ≡ false → choice c names conf event a ≡ some t → source c t ≡ a → Climbs before i (some t) after
      climbing_here t m q s = record {
        is = inl (v.same ∙ q);
        rows = been;
        kept = stays;
        fresh = λ u z. let d : source c u ≡ a = ap (source c) (sym (some_same t u z)) ∙ s in
            rw d (not_so (mem a before) (λ g. clash (mem a rows) (v.kept a g) m), ap (mem a) e ∙ mem_new a rows);
      }

  -- ---- all climbs so far

  -- what a row chooses at which a climb has been is nothing or in the list, and the sources of the list are such rows
  pub record Covers (rows ts : List ℕ) : Type 0 where
    pub at : (r t : ℕ) → mem r rows ≡ true → choice c names conf event r ≡ some t → mem t ts ≡ true
    pub back : (t : ℕ) → mem t ts ≡ true → mem (source c t) rows ≡ true

  pub covers_begin : (rows ts : List ℕ) → rows ≡ [] → ts ≡ [] → Covers rows ts
  unfolding mem
  covers_begin rows ts e f = record { at = λ r t m h. absurd (no (rw e at m)); back = λ t m. absurd (no (rw f at m)) }

  module _ (before ts : List ℕ) (i : ℕ) (o : Option ℕ) (after : List ℕ) (v : Covers before ts) (k : Climbs before i o after) where
    -- what a climb chooses, no climb before it chose
    pub climb_fresh : (t : ℕ) → o ≡ some t → mem t ts ≡ false
    climb_fresh t e = not_so (mem t ts) (λ m. clash (mem (source c t) before) (v.back t m) (k.fresh t e).0)

    pub climb_choice : (t : ℕ) → o ≡ some t → choice c names conf event i ≡ some t
    climb_choice t e = ⊎_elim (λ g. g ∙ e) (λ g. none_some t (sym g.0 ∙ e)) k.is

    -- one that chooses nothing adds nothing
    pub climb_nothing : o ≡ none → ts ≡ add_once ts (choice c names conf event i)
    climb_nothing e = ⊎_elim (λ g. by (choice c names conf event i) refl (λ t z. none_some t (sym (g ∙ e) ∙ z))) (λ g. by (choice c names conf event i) refl (λ t z. v.at g.1.0 t g.1.1 (sym g.1.2 ∙ z))) k.is
      where
        by : (w : Option ℕ) → choice c names conf event i ≡ w → ((t : ℕ) → choice c names conf event i ≡ some t → mem t ts ≡ true) → ts ≡ add_once ts w
        by none z f = added_none ts
        by (some t) z f = added_same ts t (f t z)

    pub covers_on : (us : List ℕ) → us ≡ add_once ts (choice c names conf event i) → Covers after us
    covers_on us e = rw e (record {
      at = λ r t m h. ⊎_elim (λ g. added_kept ts (choice c names conf event i) t (v.at r t g h)) (λ g. let q : choice c names conf event i ≡ some t = sym g ∙ h in rw q (added_there ts t)) (k.rows r m);
      back = λ t m. ⊎_elim (λ g. k.kept (source c t) (v.back t g)) (chosen t) (added_from ts (choice c names conf event i) t m);
    })
      where
        chosen : (t : ℕ) → choice c names conf event i ≡ some t → mem (source c t) after ≡ true
        chosen t z = ⊎_elim (λ g. (k.fresh t (sym g ∙ z)).1) (λ g. k.kept (source c t) (v.back t (v.at g.1.0 t g.1.1 (sym g.1.2 ∙ z)))) k.is
