-- The slots of a text: each name that is used has one, all differ, and there are no more of them than of the names that they come from.
use Rattle.std.specs.Prelude.{◌≡◌, Bool, true, false, ◌||◌, cond, List, [], ◌∷◌, ◌++◌, map, ℕ, zero, suc, ◌≤◌, ◌<◌, ◌+◌, length}
use Rattle.std.proofs.Math.Path.{refl}
use Rattle.std.proofs.Common.{sym, ap, ◌∙◌, subst, arith}
use Rattle.definition.specs.Rows.{same, from}
use Rattle.reading.specs.Faults.{is_among}
use Rattle.reading.specs.Content.{fresh}
use Rattle.laws.specs.Bools.{no, clash, not_so}
use Rattle.laws.specs.Lists.{same_eq, same_self}
use Rattle.written.specs.Sound.{AllOf, no_more, more}
use Rattle.written.specs.Values.{all_both}

pub record In (ys : List (List ℕ)) (v : List ℕ) : Type 0 where
  pub among : is_among v ys ≡ true

-- ---- among

same_other : (a b : List ℕ) → same a b ≡ false → same b a ≡ false
same_other a b h = not_so (same b a) (λ e. clash (same a b) (ap (λ (x : List ℕ). same a x) (same_eq b a e) ∙ same_self a) h)

among_left : (v : List ℕ) (xs ys : List (List ℕ)) → is_among v xs ≡ true → is_among v (xs ++ ys) ≡ true
unfolding is_among
among_left v [] ys h = absurd (no h)
among_left v (x ∷ xs) ys h = by (same v x) h (among_left v xs ys)
  where
    by : (z : Bool) → (z || is_among v xs) ≡ true → (is_among v xs ≡ true → is_among v (xs ++ ys) ≡ true) → (z || is_among v (xs ++ ys)) ≡ true
    by true e f = refl
    by false e f = f e

among_last : (v : List ℕ) (xs : List (List ℕ)) → is_among v (xs ++ v ∷ []) ≡ true
unfolding is_among
among_last v [] = rw (same_self v)
among_last v (x ∷ xs) = by (same v x) (among_last v xs)
  where
    by : (z : Bool) → is_among v (xs ++ v ∷ []) ≡ true → (z || is_among v (xs ++ v ∷ [])) ≡ true
    by true e = refl
    by false e = e

-- ---- each once

fresh_keeps : (us seen : List (List ℕ)) (v : List ℕ) → is_among v seen ≡ true → is_among v (fresh seen us) ≡ true
unfolding fresh
fresh_keeps [] seen v h = h
fresh_keeps (u ∷ us) seen v h = by (is_among u seen) (fresh_keeps us seen v h) (fresh_keeps us (seen ++ u ∷ []) v (among_left v seen (u ∷ []) h))
  where
    by : (z : Bool) → is_among v (fresh seen us) ≡ true → is_among v (fresh (seen ++ u ∷ []) us) ≡ true → is_among v (cond z (fresh seen us) (fresh (seen ++ u ∷ []) us)) ≡ true
    by true a b = a
    by false a b = b

-- each name that is used has a slot
pub fresh_has : (us seen : List (List ℕ)) → AllOf (In (fresh seen us)) us
fresh_has [] seen = no_more
fresh_has (u ∷ us) seen = by (is_among u seen) refl (fresh_has us seen) (fresh_has us (seen ++ u ∷ []))
  where
    shown : (z : Bool) → is_among u seen ≡ z → fresh seen (u ∷ us) ≡ cond z (fresh seen us) (fresh (seen ++ u ∷ []) us)
    shown z e = one ∙ ap (λ (y : Bool). cond y (fresh seen us) (fresh (seen ++ u ∷ []) us)) e
      where
        one : fresh seen (u ∷ us) ≡ cond (is_among u seen) (fresh seen us) (fresh (seen ++ u ∷ []) us)
        one = unfold fresh in refl

    by : (z : Bool) → is_among u seen ≡ z → AllOf (In (fresh seen us)) us → AllOf (In (fresh (seen ++ u ∷ []) us)) us → AllOf (In (fresh seen (u ∷ us))) (u ∷ us)
    by true e a b = subst (λ (l : List (List ℕ)). AllOf (In l) (u ∷ us)) (sym (shown true e)) (more (record { among = fresh_keeps us seen u e }) a)
    by false e a b = subst (λ (l : List (List ℕ)). AllOf (In l) (u ∷ us)) (sym (shown false e)) (more (record { among = fresh_keeps us (seen ++ u ∷ []) u (among_last u seen) }) b)

-- a property of all names is one of all slots
pub fresh_all : {P : List ℕ → Type 0} (us seen : List (List ℕ)) → AllOf P seen → AllOf P us → AllOf P (fresh seen us)
unfolding fresh
fresh_all [] seen s no_more = s
fresh_all {P = P} (u ∷ us) seen s (more f g) = by (is_among u seen) (fresh_all us seen s g) (fresh_all us (seen ++ u ∷ []) (all_both s (more f no_more)) g)
  where
    by : (z : Bool) → AllOf P (fresh seen us) → AllOf P (fresh (seen ++ u ∷ []) us) → AllOf P (cond z (fresh seen us) (fresh (seen ++ u ∷ []) us))
    by true a b = a
    by false a b = b

-- no two are the same
pub data Apart : List (List ℕ) → Type 0 where
  alone : Apart []
  apart : {x : List ℕ} {xs : List (List ℕ)} → is_among x xs ≡ false → Apart xs → Apart (x ∷ xs)

not_head : (u x : List ℕ) (xs : List (List ℕ)) → is_among u (x ∷ xs) ≡ false → (same u x ≡ false) × (is_among u xs ≡ false)
unfolding is_among
not_head u x xs h = by (same u x) h
  where
    by : (z : Bool) → (z || is_among u xs) ≡ false → (z ≡ false) × (is_among u xs ≡ false)
    by true e = absurd (no (sym e))
    by false e = (refl, e)

not_last : (x u : List ℕ) (xs : List (List ℕ)) → is_among x xs ≡ false → same x u ≡ false → is_among x (xs ++ u ∷ []) ≡ false
unfolding is_among
not_last x u [] h s = rw s
not_last x u (y ∷ ys) h s = let k = not_head x y ys h in rw k.0 (not_last x u ys k.1 s)

none_among : (u : List ℕ) → is_among u [] ≡ false
unfolding is_among
none_among u = refl

apart_last : (xs : List (List ℕ)) (u : List ℕ) → Apart xs → is_among u xs ≡ false → Apart (xs ++ u ∷ [])
apart_last [] u alone h = apart (none_among u) alone
apart_last (x ∷ xs) u (apart f g) h = let k = not_head u x xs h in apart (not_last x u xs f (same_other u x k.0)) (apart_last xs u g k.1)

pub fresh_apart : (us seen : List (List ℕ)) → Apart seen → Apart (fresh seen us)
unfolding fresh
fresh_apart [] seen s = s
fresh_apart (u ∷ us) seen s = by (is_among u seen) refl (fresh_apart us seen s) (λ e. fresh_apart us (seen ++ u ∷ []) (apart_last seen u s e))
  where
    by : (z : Bool) → is_among u seen ≡ z → Apart (fresh seen us) → (is_among u seen ≡ false → Apart (fresh (seen ++ u ∷ []) us)) → Apart (cond z (fresh seen us) (fresh (seen ++ u ∷ []) us))
    by true e a b = a
    by false e a b = b e

-- ---- no more than there are

without : List ℕ → List (List ℕ) → List (List ℕ)
without v [] = []
without v (y ∷ ys) = cond (same v y) ys (y ∷ without v ys)

without_long : (v : List ℕ) (ys : List (List ℕ)) → is_among v ys ≡ true → length ys ≡ suc (length (without v ys))
unfolding is_among without
without_long v [] h = absurd (no h)
without_long v (y ∷ ys) h = by (same v y) h (without_long v ys)
  where
    by : (z : Bool) → (z || is_among v ys) ≡ true → (is_among v ys ≡ true → length ys ≡ suc (length (without v ys))) → suc (length ys) ≡ suc (length (cond z ys (y ∷ without v ys)))
    by true e f = refl
    by false e f = ap suc (f e)

without_keeps : (v w : List ℕ) (ys : List (List ℕ)) → same w v ≡ false → is_among w ys ≡ true → is_among w (without v ys) ≡ true
unfolding is_among without
without_keeps v w [] s h = absurd (no h)
without_keeps v w (y ∷ ys) s h = by (same v y) refl (same w y) refl h (without_keeps v w ys s)
  where
    by : (z : Bool) → same v y ≡ z → (x : Bool) → same w y ≡ x → (x || is_among w ys) ≡ true → (is_among w ys ≡ true → is_among w (without v ys) ≡ true) → is_among w (cond z ys (y ∷ without v ys)) ≡ true
    by true p true q e f = absurd (clash (same w v) (ap (same w) (same_eq v y p) ∙ q) s)
    by true p false q e f = e
    by false p true q e f = rw q
    by false p false q e f = rw q (f e)

in_without : (x : List ℕ) (ys xs : List (List ℕ)) → is_among x xs ≡ false → AllOf (In ys) xs → AllOf (In (without x ys)) xs
in_without x ys [] h no_more = no_more
in_without x ys (w ∷ xs) h (more f g) =
    let k = not_head x w xs h in
    more (record { among = without_keeps x w ys (same_other x w k.0) f.among }) (in_without x ys xs k.1 g)

-- different names among ys are no more than ys
pub no_more_than : (xs ys : List (List ℕ)) → Apart xs → AllOf (In ys) xs → length xs ≤ length ys
no_more_than [] ys alone no_more = omega arith
no_more_than (x ∷ xs) ys (apart f g) (more h k) =
    let l = without_long x ys h.among in
    let m = no_more_than xs (without x ys) g (in_without x ys xs f k) in
    omega arith

pub among_mapped : (f : ℕ → List ℕ) (n i k : ℕ) → k < n → is_among (f (i + k)) (map f (from n i)) ≡ true
unfolding from is_among
among_mapped f zero i k l = absurd (omega arith)
among_mapped f (suc n) i zero l = ap (λ (x : ℕ). same (f x) (f i) || is_among (f x) (map f (from n (suc i)))) (plus i) ∙ rw (same_self (f i))
  where
    plus : (a : ℕ) → a + 0 ≡ a
    plus a = omega arith
among_mapped f (suc n) i (suc k) l = by (same (f (i + suc k)) (f i)) (ap (λ (x : ℕ). is_among (f x) (map f (from n (suc i)))) (shift i k) ∙ among_mapped f n (suc i) k (omega arith))
  where
    shift : (a b : ℕ) → a + suc b ≡ suc a + b
    shift a b = omega arith

    by : (z : Bool) → is_among (f (i + suc k)) (map f (from n (suc i))) ≡ true → (z || is_among (f (i + suc k)) (map f (from n (suc i)))) ≡ true
    by true e = refl
    by false e = e
