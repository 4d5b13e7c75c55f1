-- One pass over the rows against document order gives each row's descendants: a row adds itself and its own to its parent's.
use Rattle.std.specs.Prelude.{◌≡◌, Bool, not, ◌&&◌, ◌||◌, ℕ, zero, suc, ◌+◌, ◌≤◌, ◌<◌, ltb}
use Rattle.std.proofs.Math.Path.{refl, sym, ap}
use Rattle.std.proofs.Common.{◌∙◌, arith}
use Rattle.std.proofs.Math.Bool.{true, false}
use mathlib.Core.List.{List, [], ◌∷◌}
use Rattle.std.proofs.Math.Dec.{eqb, leb}
use borrow.Author.Tests.{le-ltb, lt-ltb, le-leb, lt-leb, leb-true, leb-false, ltb-true, eqb-true, eqb-false, eq-eqb, ne_eqb}
use Rattle.definition.specs.Rows.{from, mem, any, those, insert, union, nothing_at}
use Rattle.definition.specs.Chart.{Chart, kind, parent, is_history}
use Rattle.definition.specs.Tree.{ancestors, is_descendant, descendants}
use Rattle.definition.specs.Compiled.{words, column}
use Rattle.laws.specs.Bools.{not_so, clash, and_false, or_false, no, bool_case, and_left, and_right, and_true, both_ways}
use Rattle.laws.specs.Sets.{Ascends, ascends_ext, ascends_union, ascends_those, those_ext, those_low, mem_those, mem_insert, mem_union}
use Rattle.laws.specs.Lists.{mem_cases, any_true}
use Rattle.laws.specs.Orders.{keep_none}
use Rattle.laws.specs.Ways.{from_parent, child_way}
use Rattle.accepted.specs.Tree.{Tree, low, climb_one, ancestor_low, anc_below, parent_plain}
use Rattle.chart.specs.Writing.{from_bounds, column_cong}

-- from b, which is i or a later row, one step up leads to a
unfoldable pub is_step : Chart → ℕ → ℕ → ℕ → Bool
is_step c i a b = leb i b && (ltb (parent c b) b && eqb a (parent c b))

-- x is below a by such a step, and no history
unfoldable pub is_gathered : Chart → ℕ → ℕ → ℕ → Bool
is_gathered c i a x = not (is_history (kind c x)) && any (is_step c i a) (x ∷ ancestors c x)

-- what a has when the rows from i on have added theirs
unfoldable pub gathered : Chart → ℕ → ℕ → List ℕ
gathered c i a = those c.rows (is_gathered c i a)

-- ---- tests over a list

any_none : (p : ℕ → Bool) (xs : List ℕ) → ((x : ℕ) → mem x xs ≡ true → p x ≡ false) → any p xs ≡ false
any_none p xs h = not_so (any p xs) (λ e. let r = any_true p xs e in no (sym (h r.0 r.1) ∙ r.2))

any_cong : (p q : ℕ → Bool) (xs : List ℕ) → ((x : ℕ) → p x ≡ q x) → any p xs ≡ any q xs
unfolding any
any_cong p q [] h = refl
any_cong p q (x ∷ xs) h = rw (h x, any_cong p q xs h)

-- a test that passes besides only i, if r
any_or_one : (p q : ℕ → Bool) (i : ℕ) (r : Bool) (xs : List ℕ) → ((x : ℕ) → p x ≡ (q x || (eqb i x && r))) → any p xs ≡ (any q xs || (mem i xs && r))
unfolding any mem
any_or_one p q i r [] h = refl
any_or_one p q i r (x ∷ xs) h = rw (h x, any_or_one p q i r xs h) (turn (q x) (eqb i x) (any q xs) (mem i xs) r)
  where
    turn : (a b d e r : Bool) → ((a || (b && r)) || (d || (e && r))) ≡ ((a || d) || ((b || e) && r))
    turn true b d e r = refl
    turn false true true e true = refl
    turn false true true e false = refl
    turn false true false true true = refl
    turn false true false true false = refl
    turn false true false false true = refl
    turn false true false false false = refl
    turn false false d e r = refl

and_yes : (p : Bool) → (p && true) ≡ p
and_yes true = refl
and_yes false = refl

and_or : (p q r : Bool) → (p && (q || r)) ≡ ((p && q) || (p && r))
and_or true q r = refl
and_or false q r = refl

mem_made : (a : ℕ) (xs : List ℕ) → mem a (union [] xs) ≡ mem a xs
unfolding mem
mem_made a xs = mem_union a [] xs

module _ (c : Chart) where
  -- steps from rows below i lead elsewhere
  steps_from : (i a b : ℕ) → (b < i → (ltb (parent c b) b && eqb a (parent c b)) ≡ false) → is_step c i a b ≡ is_step c 0 a b
  unfolding is_step
  steps_from i a b h =
      bool_case (leb i b) (λ e. rw (e, le-leb 0 b (omega arith)))
      (λ e. rw (e, le-leb 0 b (omega arith)) (sym (h (leb-false i b e))))

  step_more : (i a b : ℕ) → is_step c i a b ≡ (is_step c (i + 1) a b || (eqb i b && (ltb (parent c i) i && eqb a (parent c i))))
  unfolding is_step
  step_more i a b =
      bool_case (eqb i b)
      (λ e. let q : i ≡ b = eqb-true i b e in rw (← q, le-leb i i (omega arith), lt-leb (i + 1) i (omega arith), eq-eqb i i refl))
      (λ e. rw (e, or_false, later e))
    where
      later : eqb i b ≡ false → leb i b ≡ leb (i + 1) b
      later e =
          let d : (i ≡ b → ⊥) = eqb-false i b e in
          both_ways (leb i b) (leb (i + 1) b) (λ h. let l : i ≤ b = leb-true i b h in le-leb (i + 1) b (omega arith))
          (λ h. let l : i + 1 ≤ b = leb-true (i + 1) b h in le-leb i b (omega arith))

  pub gathered_low : (i a x : ℕ) → mem x (gathered c i a) ≡ true → x < c.rows
  unfolding gathered
  gathered_low i a x m = those_low c.rows (is_gathered c i a) x m

  -- row i adds what is below it, and itself, to its parent
  gathered_more : (i a x : ℕ) →
      is_gathered c i a x ≡ (is_gathered c (i + 1) a x || (not (is_history (kind c x)) && (mem i (x ∷ ancestors c x) && (ltb (parent c i) i && eqb a (parent c i)))))
  unfolding is_gathered
  gathered_more i a x =
      rw (any_or_one (is_step c i a) (is_step c (i + 1) a) i (ltb (parent c i) i && eqb a (parent c i)) (x ∷ ancestors c x) (step_more i a))
      (and_or (not (is_history (kind c x))) _ _)

  -- no row from the last on
  nothing_yet : (a x : ℕ) → x < c.rows → is_gathered c c.rows a x ≡ false
  unfolding is_gathered is_step
  nothing_yet a x l =
      rw (any_none (is_step c c.rows a) (x ∷ ancestors c x) (λ b m. rw (lt-leb c.rows b (late b m))), and_false)
    where
      late : (b : ℕ) → mem b (x ∷ ancestors c x) ≡ true → b < c.rows
      late b m = mem_cases b x (ancestors c x) (λ e. omega arith) (λ k. omega (arith, ancestor_low c x b k)) m

  pub gathered_begin : column nothing_at c.rows ≡ column (gathered c c.rows) c.rows
  unfolding gathered those
  gathered_begin = column_cong nothing_at (gathered c c.rows) c.rows
      (λ a l. ap words (sym (keep_none (is_gathered c c.rows a) (from c.rows 0) (λ x m. nothing_yet a x (omega (arith, (from_bounds c.rows 0 x m).1))))))

module _ (c : Chart) (t : Tree c) where
  first_steps : (a : ℕ) → any (is_step c 0 a) (0 ∷ ancestors c 0) ≡ mem a (ancestors c 0)
  unfolding any mem ancestors is_step
  first_steps a = rw (le-ltb (parent c 0) 0 (omega arith))

  next_steps : (a i : ℕ) → any (is_step c 0 a) (parent c (suc i) ∷ ancestors c (parent c (suc i))) ≡ mem a (ancestors c (parent c (suc i))) →
      any (is_step c 0 a) (suc i ∷ ancestors c (suc i)) ≡ mem a (ancestors c (suc i))
  unfolding any mem is_step
  next_steps a i h =
      let l = low c t i in
      rw (climb_one c t i, le-leb 0 (suc i) (omega arith), lt-ltb (parent c (suc i)) (suc i) (omega arith)) (ap (λ (b : Bool). eqb a (parent c (suc i)) || b) h)

  -- all steps lead to the ancestors
  all_steps : (a x : ℕ) → any (is_step c 0 a) (x ∷ ancestors c x) ≡ mem a (ancestors c x)
  all_steps a = from_parent (parent c) (low c t) (λ x. any (is_step c 0 a) (x ∷ ancestors c x) ≡ mem a (ancestors c x)) (first_steps a) (next_steps a)

  -- and where none comes from a row below i, what is gathered from i on is whole
  gathered_whole : (i a : ℕ) → ((b : ℕ) → b < i → (ltb (parent c b) b && eqb a (parent c b)) ≡ false) → gathered c i a ≡ descendants c a
  unfolding gathered descendants is_gathered is_descendant
  gathered_whole i a h =
      those_ext c.rows (is_gathered c i a) (is_descendant c a)
      (λ x l. rw (any_cong (is_step c i a) (is_step c 0 a) (x ∷ ancestors c x) (λ b. steps_from c i a b (h b)), all_steps a x))

  -- the steps to i itself come from later rows
  pub gathered_own : (i : ℕ) → gathered c (i + 1) i ≡ descendants c i
  gathered_own i =
      gathered_whole (i + 1) i (λ b l. not_so _ (λ e.
      let p : parent c b < b = ltb-true _ _ (and_left (ltb (parent c b) b) _ e) in
      let q : i ≡ parent c b = eqb-true _ _ (and_right (ltb (parent c b) b) _ e) in
      omega arith))

  -- row 0 steps nowhere
  pub gathered_end : (a : ℕ) → gathered c 1 a ≡ descendants c a
  gathered_end a =
      gathered_whole 1 a (λ b l. not_so _ (λ e. let p : parent c b < b = ltb-true _ _ (and_left (ltb (parent c b) b) _ e) in omega arith))

  -- a history has no descendants
  pub ancestor_plain : (a x : ℕ) → mem a (ancestors c x) ≡ true → is_history (kind c a) ≡ false
  ancestor_plain a x m =
      let f = child_way (parent c) (low c t) a x (anc_below c t a x m) in rw f.1 at (parent_plain c t f.0)

  -- so it adds nothing
  adds_none : (i x : ℕ) (r : Bool) → is_history (kind c i) ≡ true → (not (is_history (kind c x)) && (mem i (x ∷ ancestors c x) && r)) ≡ false
  adds_none i x r h =
      bool_case (mem i (x ∷ ancestors c x))
      (λ m. mem_cases i x (ancestors c x) (λ e. rw (← e, h)) (λ k. absurd (clash _ h (ancestor_plain i x k))) m)
      (λ m. rw (m, and_false))

  pub gathered_skip : (i : ℕ) → is_history (kind c i) ≡ true → column (gathered c (i + 1)) c.rows ≡ column (gathered c i) c.rows
  unfolding gathered
  gathered_skip i h =
      column_cong (gathered c (i + 1)) (gathered c i) c.rows
      (λ a l. ap words (those_ext c.rows (is_gathered c (i + 1) a) (is_gathered c i a) (λ x m. sym (gathered_more c i a x ∙ rw (adds_none i x _ h, or_false)))))

  module _ (i p : ℕ) (some : 0 < i) (inside : i < c.rows) (is : p ≡ parent c i) (plain : is_history (kind c i) ≡ false) where
    -- no other row gets any
    pub gathered_other : (a : ℕ) → (a ≡ p → ⊥) → words (gathered c (i + 1) a) ≡ words (gathered c i a)
    unfolding gathered
    gathered_other a d =
        ap words (those_ext c.rows (is_gathered c (i + 1) a) (is_gathered c i a)
        (λ x l. sym (gathered_more c i a x ∙ rw (ne_eqb a (parent c i) (λ q. d (q ∙ sym is)), and_false, and_false, and_false, or_false))))

    step_up : (ltb (parent c i) i && eqb p (parent c i)) ≡ true
    step_up = go i some is
      where
        go : (i : ℕ) → 0 < i → p ≡ parent c i → (ltb (parent c i) i && eqb p (parent c i)) ≡ true
        go zero l e = absurd (omega arith)
        go (suc j) l e = let k = low c t j in and_true (ltb (parent c (suc j)) (suc j)) _ (lt-ltb (parent c (suc j)) (suc j) (omega arith)) (eq-eqb p (parent c (suc j)) e)

    gathered_parent : (a : ℕ) →
        mem a (gathered c i p) ≡ (ltb a c.rows && (is_gathered c (i + 1) p a || (not (is_history (kind c a)) && (eqb i a || mem i (ancestors c a)))))
    unfolding gathered mem
    gathered_parent a = mem_those c.rows (is_gathered c i p) a ∙ rw (gathered_more c i p a, step_up, and_yes)

    joined : (a : ℕ) → (mem a (gathered c (i + 1) p) || (eqb a i || mem a (descendants c i))) ≡
        (ltb a c.rows && (is_gathered c (i + 1) p a || (not (is_history (kind c a)) && (eqb i a || mem i (ancestors c a)))))
    unfolding gathered descendants is_descendant
    joined a =
        rw (mem_those c.rows (is_gathered c (i + 1) p) a, mem_those c.rows (is_descendant c i) a)
        (bool_case (eqb a i)
        (λ q. let k : a ≡ i = eqb-true a i q in rw (k, eq-eqb i i refl, plain, lt-ltb i c.rows inside))
        (λ q. let k : (a ≡ i → ⊥) = eqb-false a i q in rw (q, ne_eqb i a (λ z. k (sym z))) (sym (and_or (ltb a c.rows) _ _))))

    -- the parent's, the row's and the row
    pub gathered_words : (xs ys own zs : List ℕ) → xs ≡ union [] (gathered c (i + 1) i) → own ≡ insert i xs → ys ≡ union [] (gathered c (i + 1) p) →
        zs ≡ union ys own → words zs ≡ words (gathered c i p)
    gathered_words xs ys own zs e f g h =
        ap words (ascends_ext 0 0 zs (gathered c i p) up (unfold gathered in ascends_those c.rows (is_gathered c i p)) members)
      where
        up : Ascends 0 zs
        up = rw (h, g) (ascends_union (union [] (gathered c (i + 1) p)) own (ascends_union [] (gathered c (i + 1) p) tt))

        members : (a : ℕ) → mem a zs ≡ mem a (gathered c i p)
        members a =
            ap (mem a) h ∙ mem_union a ys own ∙
            rw (g, f, e, mem_insert a i (union [] (gathered c (i + 1) i)), mem_made a (gathered c (i + 1) p), mem_made a (gathered c (i + 1) i), gathered_own i)
            (joined a ∙ sym (gathered_parent a))
