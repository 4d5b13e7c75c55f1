-- Matching, byte by byte: the first tokens of a name are those of a descriptor exactly if the name is the descriptor, or begins with the
-- descriptor and a dot. No assumption that either is a name: tokens may be empty.
use Rattle.std.specs.Prelude.{◌≡◌, refl, Bool, true, false, not, ◌&&◌, ◌||◌, cond, List, [], ◌∷◌, ◌++◌, ◌⊎◌, ℕ, zero, suc, ◌+◌, ◌-◌, ◌≤◌, ◌<◌, eqb, ltb, length, get_or, take, drop}
use Rattle.std.specs.Cmp.Lexicographic.{pointwise}
use Rattle.std.proofs.Common.{ap, sym, ◌∙◌, append-nil, inl, inr, ⊎_elim, arith, eqb-true, eq-eqb, ne_eqb, ltb-true, ltb-false}
use Rattle.std.proofs.Math.Bool.{and_assoc}
use Rattle.std.proofs.lemmas.Bool.{not-true, eqb-false}
use Rattle.definition.specs.Rows.{same}
use Rattle.definition.specs.Names.{Name, grow, tokens, begins, bare, matches, star, dot_star, before_zero}
use Rattle.laws.specs.Bools.{no, bool_case, and_false, and_left, and_right, and3}
use Rattle.laws.specs.Parts.{part_end}

-- the name's bytes begin with the descriptor's, and there the name ends or has a dot
unfoldable pub stops : Name → Name → Bool
stops [] [] = true
stops [] (y ∷ ys) = eqb y 46
stops (x ∷ xs) [] = false
stops (x ∷ xs) (y ∷ ys) = eqb x y && stops xs ys

-- there is always a first token
abbrev IsCons : List Name → Type 0
IsCons [] = ⊥
IsCons (t ∷ ts) = Unit {0}

tokens_cons : (n : Name) → IsCons (tokens n)
unfolding tokens grow
tokens_cons [] = tt
tokens_cons (b ∷ bs) = step (eqb b 46) (tokens bs)
  where
    step : (dot : Bool) (ts : List Name) → IsCons (cond dot ([] ∷ ts) (grow b ts))
    step true ts = tt
    step false [] = tt
    step false (t ∷ ts) = tt

begins_grow : (x y : ℕ) (ts us : List Name) → IsCons ts → IsCons us → begins (grow x ts) (grow y us) ≡ (eqb x y && begins ts us)
unfolding begins grow same
begins_grow x y [] us h k = absurd h
begins_grow x y (t ∷ ts) [] h k = absurd k
begins_grow x y (t ∷ ts) (u ∷ us) h k = and_assoc (eqb x y) (same t u) (begins ts us)

nil_grow : (y : ℕ) (ds us : List Name) → begins ([] ∷ ds) (grow y us) ≡ false
unfolding begins grow same
nil_grow y ds [] = refl
nil_grow y ds (u ∷ us) = refl

grow_nil : (x : ℕ) (ts us : List Name) → begins (grow x ts) ([] ∷ us) ≡ false
unfolding begins grow same
grow_nil x [] us = refl
grow_nil x (t ∷ ts) us = refl

begins_none : (ts : List Name) → IsCons ts → begins ts [] ≡ false
unfolding begins
begins_none [] h = absurd h
begins_none (t ∷ ts) h = refl

pub tokens_stops : (d n : Name) → begins (tokens d) (tokens n) ≡ stops d n
unfolding tokens stops begins same
tokens_stops [] [] = refl
tokens_stops [] (y ∷ ys) = step (eqb y 46)
  where
    step : (dot : Bool) → begins ([] ∷ []) (cond dot ([] ∷ tokens ys) (grow y (tokens ys))) ≡ dot
    step true = refl
    step false = nil_grow y [] (tokens ys)
tokens_stops (x ∷ xs) [] = step (eqb x 46)
  where
    step : (dot : Bool) → begins (cond dot ([] ∷ tokens xs) (grow x (tokens xs))) ([] ∷ []) ≡ false
    step true = begins_none (tokens xs) (tokens_cons xs)
    step false = grow_nil x (tokens xs) []
tokens_stops (x ∷ xs) (y ∷ ys) = step (eqb x 46) (eqb y 46) refl refl (tokens_stops xs ys)
  where
    step : (dx dy : Bool) → eqb x 46 ≡ dx → eqb y 46 ≡ dy → begins (tokens xs) (tokens ys) ≡ stops xs ys →
        begins (cond dx ([] ∷ tokens xs) (grow x (tokens xs))) (cond dy ([] ∷ tokens ys) (grow y (tokens ys))) ≡ (eqb x y && stops xs ys)
    step true true p q ih = rw (eq-eqb x y (eqb-true x 46 p ∙ sym (eqb-true y 46 q))) ih
    step true false p q ih = rw (ne_eqb x y (λ e. eqb-false y 46 q (sym e ∙ eqb-true x 46 p))) (nil_grow y (tokens xs) (tokens ys))
    step false true p q ih = rw (ne_eqb x y (λ e. eqb-false x 46 p (e ∙ eqb-true y 46 q))) (grow_nil x (tokens xs) (tokens ys))
    step false false p q ih = begins_grow x y (tokens xs) (tokens ys) (tokens_cons xs) (tokens_cons ys) ∙ rw ih refl

-- in words: the name is the descriptor, or the descriptor, a dot and more
pub stops_parts : (d n : Name) → stops d n ≡ true → (n ≡ d) ⊎ ((r : Name) × (n ≡ d ++ (46 ∷ r)))
unfolding stops
stops_parts [] [] h = inl refl
stops_parts [] (y ∷ ys) h = inr (ys, ap {B = Name} (λ b. b ∷ ys) (eqb-true y 46 h))
stops_parts (x ∷ xs) [] h = absurd (no h)
stops_parts (x ∷ xs) (y ∷ ys) h =
    let e : x ≡ y = eqb-true x y (and_left (eqb x y) (stops xs ys) h) in
    ⊎_elim (λ (q : ys ≡ xs). inl (cc)) (λ q. inr (q.0, rw (e, q.1)))
    (stops_parts xs ys (and_right (eqb x y) (stops xs ys) h))

pub stops_after : (d r : Name) → stops d (d ++ r) ≡ stops [] r
unfolding stops
stops_after [] r = refl
stops_after (x ∷ xs) r = rw (eq-eqb x x refl) (stops_after xs r)

pub stops_self : (d : Name) → stops d d ≡ true
unfolding stops
stops_self d = ap (stops d) (sym (append-nil d)) ∙ stops_after d []

pub stops_dot : (d r : Name) → stops d (d ++ (46 ∷ r)) ≡ true
unfolding stops
stops_dot d r = stops_after d (46 ∷ r)

-- the rule of matching, over bytes
pub matches_stops : (d n : Name) → matches d n ≡ (same d star || stops (bare d) n)
unfolding matches
matches_stops d n = ap (λ (b : Bool). same d star || b) (tokens_stops (bare d) n)

-- ---- `==` on slices

pub same_pointwise : (xs ys : List ℕ) → pointwise eqb xs ys ≡ same xs ys
unfolding same
same_pointwise [] [] = refl
same_pointwise [] (y ∷ ys) = refl
same_pointwise (x ∷ xs) [] = refl
same_pointwise (x ∷ xs) (y ∷ ys) = ap (λ (b : Bool). eqb x y && b) (same_pointwise xs ys)

-- ---- the descriptor in a slot, and the first byte

-- the first byte is one of a token
unfoldable pub starts_token : List ℕ → Bool
starts_token [] = false
starts_token (x ∷ xs) = not (eqb x 0) && not (eqb x 42) && not (eqb x 46)

pub token_none : (s : List ℕ) → length s ≡ 0 → false ≡ starts_token s
unfolding starts_token
token_none [] h = refl
token_none (x ∷ xs) h = absurd (omega arith)

pub token_some : (s : List ℕ) → starts_token s ≡ true → 0 < length s
unfolding starts_token
token_some [] h = absurd (no h)
token_some (x ∷ xs) h = omega arith

pub token_at : (s : List ℕ) → 0 < length s → starts_token s ≡ (not (eqb (get_or s 0 0) 0) && not (eqb (get_or s 0 0) 42) && not (eqb (get_or s 0 0) 46))
unfolding starts_token
token_at [] h = absurd (omega arith)
token_at (x ∷ xs) h = refl

-- then the first bytes of descriptor and event agree, and the rest of both decides
slot_first : (s e : List ℕ) → starts_token s ≡ true → 0 < length e →
    matches (before_zero s) e ≡ (eqb (get_or s 0 0) (get_or e 0 0) && begins (tokens (bare (before_zero (drop 1 s)))) (tokens (drop 1 e)))
unfolding starts_token before_zero bare same stops
slot_first [] e h l = absurd (no h)
slot_first (x ∷ xs) [] h l = absurd (omega arith)
slot_first (x ∷ xs) (y ∷ ys) h l =
    let k = and3 (not (eqb x 0)) (not (eqb x 42)) (not (eqb x 46)) h in
    matches_stops (before_zero (x ∷ xs)) (y ∷ ys) ∙
    rw (not-true (eqb x 0) k.0, not-true (eqb x 42) k.1, not-true (eqb x 46) k.2, tokens_stops (bare (before_zero xs)) ys)

module _ (s e : List ℕ) (h : starts_token s ≡ true) (l : 0 < length e) where
  pub slot_differs : (get_or s 0 0 ≡ get_or e 0 0 → ⊥) → false ≡ matches (before_zero s) e
  slot_differs d = sym (slot_first s e h l ∙ rw (ne_eqb (get_or s 0 0) (get_or e 0 0) d))

  pub slot_rest : (n r : List ℕ) (b : Bool) → get_or s 0 0 ≡ get_or e 0 0 → n ≡ before_zero (take (length s - 1) (drop 1 s)) → r ≡ bare n →
      b ≡ begins (tokens r) (tokens (take (length e - 1) (drop 1 e))) → b ≡ matches (before_zero s) e
  slot_rest n r b q p f g =
      g ∙ ap (begins (tokens r)) (ap tokens (part_end 1 e)) ∙
      ap (λ (x : List ℕ). begins (tokens x) (tokens (drop 1 e))) (f ∙ ap bare (p ∙ ap before_zero (part_end 1 s))) ∙
      sym (slot_first s e h l ∙ rw (eq-eqb (get_or s 0 0) (get_or e 0 0) q))

-- ---- the descriptor without a ".*" at its end

pub bare_short : (d : Name) → length d < 2 → bare d ≡ d
unfolding bare same
bare_short [] h = refl
bare_short (x ∷ []) h = rw (and_false (eqb x 46))
bare_short (x ∷ y ∷ r) h = absurd (omega arith)

pub bare_at : (k : ℕ) (d : Name) → length d ≡ k + 2 → bare d ≡ cond (same (drop k d) dot_star) (take k d) d
unfolding bare same
bare_at zero [] h = absurd (omega arith)
bare_at zero (x ∷ []) h = absurd (omega arith)
bare_at zero (x ∷ y ∷ []) h = rw (and_false (eqb y 46))
bare_at zero (x ∷ y ∷ z ∷ r) h = absurd (omega arith)
bare_at (suc k) [] h = absurd (omega arith)
bare_at (suc k) (x ∷ []) h = absurd (omega arith)
bare_at (suc k) (x ∷ y ∷ []) h = absurd (omega arith)
bare_at (suc k) (x ∷ y ∷ z ∷ r) h =
    rw (and_false (eqb y 42), and_false (eqb x 46))
    (ap {B = Name} (λ t. x ∷ t) (bare_at k (y ∷ z ∷ r) (omega arith)) ∙ push (same (drop k (y ∷ z ∷ r)) dot_star))
  where
    push : (b : Bool) → x ∷ cond b (take k (y ∷ z ∷ r)) (y ∷ z ∷ r) ≡ cond b (x ∷ take k (y ∷ z ∷ r)) (x ∷ y ∷ z ∷ r)
    push true = refl
    push false = refl

-- what is left with the ".*" taken off, and where there is none to take off
pub bare_cut : (d n : Name) → pointwise eqb (drop (length d - 2) d) dot_star ≡ true → n ≡ take (length d - 2) d → length n + 2 ≡ length d → n ≡ bare d
bare_cut d n h q l = q ∙ sym (bare_at (length d - 2) d (omega arith) ∙ rw (sym (same_pointwise (drop (length d - 2) d) dot_star) ∙ h))

pub bare_whole : (d : Name) → pointwise eqb (drop (length d - 2) d) dot_star ≡ false → d ≡ bare d
bare_whole d h =
    bool_case (ltb (length d) 2)
    (λ l. sym (bare_short d (ltb-true (length d) 2 l)))
    (λ l. let k : 2 ≤ length d = ltb-false (length d) 2 l in
    sym (bare_at (length d - 2) d (omega arith) ∙ rw (sym (same_pointwise (drop (length d - 2) d) dot_star) ∙ h)))
