-- Sums over lists of numbers: of a list with no number twice, inside another, and of two in turn.
use Rattle.std.specs.Prelude.{◌≡◌, refl, Bool, true, false, ◌||◌, cond, List, [], ◌∷◌, ◌++◌, ℕ, ◌+◌, ◌≤◌, ◌<◌, eqb, length}
use Rattle.std.proofs.Common.{ap, sym, ◌∙◌, arith, length-append, eqb-true}
use Rattle.definition.specs.Rows.{fold, from, keep, mem, flat, backwards, onto}
use Rattle.laws.specs.Bools.{no, clash, or_elim, not_so}
use Rattle.laws.specs.Sets.{NoTwice, mem_head, mem_below}
use Rattle.laws.specs.Lists.{mem_tail, mem_cases, mem_app}

-- the sum of f over the list
unfoldable pub total : (ℕ → ℕ) → List ℕ → ℕ
total f [] = 0
total f (x ∷ xs) = f x + total f xs

-- a pass that adds f of each number
pub fold_total : (step : ℕ → ℕ → ℕ) (f : ℕ → ℕ) → ((a x : ℕ) → step a x ≡ a + f x) → (a : ℕ) (xs : List ℕ) → fold step a xs ≡ a + total f xs
unfolding fold total
fold_total step f e a [] = omega arith
fold_total step f e a (x ∷ xs) = let h = fold_total step f e (step a x) xs in let q = e a x in omega arith

pub total_zero : (f : ℕ → ℕ) (xs : List ℕ) → ((x : ℕ) → f x ≡ 0) → total f xs ≡ 0
unfolding total
total_zero f [] h = refl
total_zero f (x ∷ xs) h = let a = h x in let b = total_zero f xs h in omega arith

pub total_more : (f g : ℕ → ℕ) (xs : List ℕ) → ((x : ℕ) → mem x xs ≡ true → f x ≤ g x) → total f xs ≤ total g xs
unfolding total
total_more f g [] h = omega arith
total_more f g (x ∷ xs) h = let a = h x (mem_head x xs) in let b = total_more f g xs (λ y m. h y (mem_tail x y xs m)) in omega arith

pub total_add : (f g h : ℕ → ℕ) (xs : List ℕ) → ((x : ℕ) → h x ≡ f x + g x) → total h xs ≡ total f xs + total g xs
unfolding total
total_add f g h [] e = omega arith
total_add f g h (x ∷ xs) e = let a = e x in let b = total_add f g h xs e in omega arith

pub total_app : (f : ℕ → ℕ) (xs ys : List ℕ) → total f (xs ++ ys) ≡ total f xs + total f ys
unfolding total
total_app f [] ys = omega arith
total_app f (x ∷ xs) ys = let h = total_app f xs ys in omega arith

pub length_flat : {B : Type 0} (f : ℕ → List B) (xs : List ℕ) → length (flat f xs) ≡ total (λ x. length (f x)) xs
unfolding flat total
length_flat f [] = refl
length_flat f (x ∷ xs) = let h = length_flat f xs in let e = length-append (f x) (flat f xs) in omega arith

-- what is counted only where a test holds
pub total_keep : (f : ℕ → ℕ) (p : ℕ → Bool) (xs : List ℕ) → total (λ x. cond (p x) (f x) 0) xs ≡ total f (keep p xs)
unfolding total
total_keep f p [] = refl
total_keep f p (x ∷ xs) = let h = total_keep f p xs in go (p x) h
  where
    go : (b : Bool) → total (λ y. cond (p y) (f y) 0) xs ≡ total f (keep p xs) → cond b (f x) 0 + total (λ y. cond (p y) (f y) 0) xs ≡ total f (cond b (x ∷ keep p xs) (keep p xs))
    go true h = ap {B = ℕ} (λ n. f x + n) h
    go false h = let k = h in omega arith

-- ---- a list with no number twice, all of whose numbers another list has, has no greater sum

without : ℕ → List ℕ → List ℕ
without a [] = []
without a (x ∷ xs) = cond (eqb a x) xs (x ∷ without a xs)

total_without : (f : ℕ → ℕ) (a : ℕ) (xs : List ℕ) → mem a xs ≡ true → total f xs ≡ f a + total f (without a xs)
unfolding total mem without
total_without f a [] m = absurd (no m)
total_without f a (x ∷ xs) m = go (eqb a x) refl m (total_without f a xs)
  where
    go : (b : Bool) → eqb a x ≡ b → (b || mem a xs) ≡ true → (mem a xs ≡ true → total f xs ≡ f a + total f (without a xs)) → f x + total f xs ≡ f a + total f (cond b xs (x ∷ without a xs))
    go true e m h = let q = ap f (eqb-true a x e) in omega arith
    go false e m h = let q = h m in omega arith

mem_without : (a b : ℕ) (xs : List ℕ) → mem b xs ≡ true → (b ≡ a → ⊥) → mem b (without a xs) ≡ true
unfolding mem without
mem_without a b [] m n = absurd (no m)
mem_without a b (x ∷ xs) m n = go (eqb a x) refl (mem_without a b xs)
  where
    go : (t : Bool) → eqb a x ≡ t → (mem b xs ≡ true → (b ≡ a → ⊥) → mem b (without a xs) ≡ true) → mem b (cond t xs (x ∷ without a xs)) ≡ true
    go true e h = mem_cases b x xs (λ q. absurd (n (q ∙ sym (eqb-true a x e)))) (λ k. k) m
    go false e h = mem_cases b x xs (λ q. ap (λ (z : ℕ). mem z (x ∷ without a xs)) q ∙ mem_head x (without a xs)) (λ k. mem_tail x b (without a xs) (h k n)) m

pub total_inside : (f : ℕ → ℕ) (xs ys : List ℕ) → NoTwice xs → ((x : ℕ) → mem x xs ≡ true → mem x ys ≡ true) → total f xs ≤ total f ys
unfolding total
total_inside f [] ys t h = omega arith
total_inside f (x ∷ xs) ys t h =
    let a = total_without f x ys (h x (mem_head x xs)) in
    let b = total_inside f xs (without x ys) t.1 (λ y m. mem_without x y ys (h y (mem_tail x y xs m)) (λ e. clash (mem x xs) (rw e at m) t.0)) in
    omega arith

-- of numbers below n
pub total_below : (f : ℕ → ℕ) (n : ℕ) (xs : List ℕ) → NoTwice xs → ((x : ℕ) → mem x xs ≡ true → x < n) → total f xs ≤ total f (from n 0)
total_below f n xs t h = total_inside f xs (from n 0) t (λ x m. mem_below n x (h x m))

pub no_twice_both : (xs ys : List ℕ) → NoTwice xs → NoTwice ys → ((x : ℕ) → mem x xs ≡ true → mem x ys ≡ true → ⊥) → NoTwice (xs ++ ys)
no_twice_both [] ys s t h = t
no_twice_both (x ∷ xs) ys s t h = (
  not_so (mem x (xs ++ ys)) (λ m. or_elim (mem x xs) (mem x ys) (λ k. clash (mem x xs) k s.0) (λ k. h x (mem_head x xs) k) (sym (mem_app x xs ys) ∙ m)),
  no_twice_both xs ys s.1 t (λ y m k. h y (mem_tail x y xs m) k),
)

total_onto : (f : ℕ → ℕ) (xs ys : List ℕ) → total f (onto xs ys) ≡ total f xs + total f ys
unfolding total onto
total_onto f [] ys = omega arith
total_onto f (x ∷ xs) ys = let h = total_onto f xs (x ∷ ys) in omega arith

pub total_backwards : (f : ℕ → ℕ) (xs : List ℕ) → total f (backwards xs) ≡ total f xs
unfolding backwards total
total_backwards f xs = let h = total_onto f xs [] in omega arith

-- ---- one number alone counts, in a list with no number twice

total_none : (p v : ℕ) (xs : List ℕ) → mem p xs ≡ false → total (λ x. cond (eqb x p) v 0) xs ≡ 0
unfolding total
total_none p v [] m = refl
total_none p v (x ∷ xs) m = go (eqb x p) refl (total_none p v xs (not_so (mem p xs) (λ k. clash (mem p (x ∷ xs)) (mem_tail x p xs k) m)))
  where
    go : (b : Bool) → eqb x p ≡ b → total (λ y. cond (eqb y p) v 0) xs ≡ 0 → cond b v 0 + total (λ y. cond (eqb y p) v 0) xs ≡ 0
    go true e h = absurd (clash (mem p (x ∷ xs)) (rw (eqb-true x p e) (mem_head p xs)) m)
    go false e h = omega arith

pub total_one : (p v : ℕ) (xs : List ℕ) → NoTwice xs → total (λ x. cond (eqb x p) v 0) xs ≤ v
unfolding total
total_one p v [] t = omega arith
total_one p v (x ∷ xs) t = go (eqb x p) refl (total_one p v xs t.1)
  where
    go : (b : Bool) → eqb x p ≡ b → total (λ y. cond (eqb y p) v 0) xs ≤ v → cond b v 0 + total (λ y. cond (eqb y p) v 0) xs ≤ v
    go true e h = let z = total_none p v xs (rw (eqb-true x p e) at t.0) in omega arith
    go false e h = omega arith
