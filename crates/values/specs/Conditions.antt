-- The value of cond, byte by byte.
use Rattle.std.specs.Prelude.{◌≡◌, Bool, not, ◌&&◌, ◌||◌, eqb, leb, length, get_or, take, drop}
use Rattle.std.proofs.Math.Path.{refl, sym, ap}
use Rattle.std.proofs.Common.{◌∙◌, add-one, drop_of_length-le, length-drop, take_all, drop-cons}
use Rattle.std.proofs.Math.Bool.{true, false, cond}
use mathlib.Core.List.{List, [], ◌∷◌}
use Prim.Native.Nat.{ℕ, zero, suc, ◌+◌, ◌-◌, ◌^◌, ◌≤◌, ◌<◌}
use native.Mathlib.Omega.{arith}
use borrow.Author.Tests.{not-true, not-false, lt-leb, le-leb}
use Rattle.definition.specs.Rows.{same}
use Rattle.grammar.specs.Grammar.{is_token}
use Rattle.reading.specs.Faults.{apostrophe, name_bytes, spelt, condition_at, inner, behind_name, is_condition}
use Rattle.std.specs.declared.option.Option.{Option}
use Rattle.std.specs.declared.option.Option.TheVariants.{Some, None}
use Rattle.values.specs.declared.conditions.Span.{Span}

-- ---- an apostrophe

both_false : (a b : Bool) → b ≡ false → (a && b) ≡ false
both_false true b e = e
both_false false b e = refl

same_short : (a b : List ℕ) → length a < length b → same a b ≡ false
unfolding same
same_short [] [] h = absurd (omega arith)
same_short [] (y ∷ ys) h = refl
same_short (x ∷ xs) [] h = absurd (omega arith)
same_short (x ∷ xs) (y ∷ ys) h = both_false (eqb x y) (same xs ys) (same_short xs ys (omega arith))

take_short : (n : ℕ) (v : List ℕ) → length (take n v) ≤ length v
take_short zero v = omega arith
take_short (suc n) [] = omega arith
take_short (suc n) (x ∷ xs) = let h = take_short n xs in omega arith

abbrev entity : List ℕ
entity = 38 ∷ 97 ∷ 112 ∷ 111 ∷ 115 ∷ 59 ∷ []

pub quote_none : (v : List ℕ) → length v < 1 → 0 ≡ apostrophe v
unfolding apostrophe same
quote_none [] h = refl
quote_none (x ∷ xs) h = absurd (omega arith)

pub quote_plain : (v : List ℕ) (plain : Bool) → plain ≡ same (take 1 v) (39 ∷ []) → plain ≡ true → 1 ≡ apostrophe v
unfolding apostrophe
quote_plain v plain e q = rw (sym e ∙ q) refl

pub quote_short : (v : List ℕ) (plain : Bool) → plain ≡ same (take 1 v) (39 ∷ []) → plain ≡ false → length v < 6 → 0 ≡ apostrophe v
unfolding apostrophe
quote_short v plain e q h =
    let l = take_short 6 v in
    rw (sym e ∙ q, same_short (take 6 v) entity (omega arith)) refl

pub quote_entity : (v : List ℕ) (plain named : Bool) → plain ≡ same (take 1 v) (39 ∷ []) → plain ≡ false → named ≡ same (take 6 v) entity → named ≡ true → 6 ≡ apostrophe v
unfolding apostrophe
quote_entity v plain named e q f r = rw (sym e ∙ q, sym f ∙ r) refl

pub quote_other : (v : List ℕ) (plain named : Bool) → plain ≡ same (take 1 v) (39 ∷ []) → plain ≡ false → named ≡ same (take 6 v) entity → named ≡ false → 0 ≡ apostrophe v
unfolding apostrophe
quote_other v plain named e q f r = rw (sym e ∙ q, sym f ∙ r) refl

-- ---- the bytes of names

at_i : (v : List ℕ) (i : ℕ) → i < length v → drop i v ≡ get_or v i 0 ∷ drop (i + 1) v
at_i v i h = drop-cons v i 0 h ∙ ap (λ (j : ℕ). get_or v i 0 ∷ drop j v) (sym (add-one i))

pub record Spanning (v : List ℕ) (j : ℕ) : Type 0 where
  pub inside : j ≤ length v
  pub so : name_bytes v ≡ j + name_bytes (drop j v)

pub span_start : (v : List ℕ) → Spanning v 0
span_start v = record { inside = omega arith; so = omega arith }

module _ (v : List ℕ) (j : ℕ) (k : Spanning v j) where
  pub span_stop : (word : Bool) → j < length v → word ≡ (is_token (get_or v j 0) || eqb (get_or v j 0) 46) → not word ≡ true → j ≡ name_bytes v
  unfolding name_bytes
  span_stop word h e q =
      let none : name_bytes (drop j v) ≡ 0 = ap name_bytes (at_i v j h) ∙ rw (sym e ∙ not-true word q) refl in
      let so = k.so in
      omega arith

  pub span_more : (word : Bool) → j < length v → word ≡ (is_token (get_or v j 0) || eqb (get_or v j 0) 46) → not word ≡ false → Spanning v (j + 1)
  unfolding name_bytes
  span_more word h e q =
      let one : name_bytes (drop j v) ≡ suc (name_bytes (drop (j + 1) v)) = ap name_bytes (at_i v j h) ∙ rw (sym e ∙ not-false word q) refl in
      let so = k.so in
      record { inside = omega arith; so = omega arith }

  pub span_end : length v ≤ j → length v ≡ name_bytes v
  unfolding name_bytes
  span_end h =
      let none : name_bytes (drop j v) ≡ 0 = ap name_bytes (drop_of_length-le v h) in
      let so = k.so in let inside = k.inside in
      omega arith

-- ---- tokens and dots

pub record Spelling (v : List ℕ) (fresh : Bool) (i : ℕ) : Type 0 where
  pub inside : i ≤ length v
  pub left : spelt true v ≡ spelt fresh (drop i v)

pub spell_start : (v : List ℕ) → Spelling v true 0
spell_start v = record { inside = omega arith; left = refl }

module _ (v : List ℕ) (fresh : Bool) (i : ℕ) (k : Spelling v fresh i) where
  one : i < length v → spelt true v ≡ cond (is_token (get_or v i 0)) (spelt false (drop (i + 1) v)) (cond (eqb (get_or v i 0) 46 && not fresh) (spelt true (drop (i + 1) v)) false)
  unfolding spelt
  one h = k.left ∙ ap (λ (l : List ℕ). spelt fresh l) (at_i v i h)

  module _ (token joins : Bool) (h : i < length v) (e : token ≡ is_token (get_or v i 0)) (f : joins ≡ (eqb (get_or v i 0) 46 && not fresh)) where
    pub spell_bad : (not token && not joins) ≡ true → false ≡ spelt true v
    spell_bad q = sym (one h ∙ rw (← e, ← f) (by token joins q))
      where
        by : (a b : Bool) → (not a && not b) ≡ true → cond a (spelt false (drop (i + 1) v)) (cond b (spelt true (drop (i + 1) v)) false) ≡ false
        by true b q = absurd (let z : ◌≡◌ {A = ℕ} 0 1 = cc in omega arith)
        by false true q = absurd (let z : ◌≡◌ {A = ℕ} 0 1 = cc in omega arith)
        by false false q = refl

    pub spell_more : (not token && not joins) ≡ false → Spelling v (not token) (i + 1)
    spell_more q = record { inside = omega arith; left = one h ∙ rw (← e, ← f) (by token joins q) }
      where
        by : (a b : Bool) → (not a && not b) ≡ false → cond a (spelt false (drop (i + 1) v)) (cond b (spelt true (drop (i + 1) v)) false) ≡ spelt (not a) (drop (i + 1) v)
        by true b q = refl
        by false true q = refl
        by false false q = absurd (let z : ◌≡◌ {A = ℕ} 0 1 = cc in omega arith)

  pub spell_end : length v ≤ i → not fresh ≡ spelt true v
  unfolding spelt
  spell_end h = sym (k.left ∙ ap (λ (l : List ℕ). spelt fresh l) (drop_of_length-le v h))

-- ---- what stands before the name, and behind it

-- a part of a value that goes to its end
tail : (n : ℕ) (v : List ℕ) → take (length v - n) (drop n v) ≡ drop n v
tail n v = take_all (length v - n) (drop n v) (let d : length (drop n v) ≡ length v - n = length-drop n v in omega arith)

abbrev opening : List ℕ
opening = 73 ∷ 110 ∷ 40 ∷ []

abbrev is_opened : List ℕ → Bool
is_opened v = same (take 3 v) opening && leb 1 (apostrophe (drop 3 v))

unfoldable pub opened_at : List ℕ → ℕ
opened_at v = cond (is_opened v) (3 + apostrophe (drop 3 v)) 0

unfoldable pub is_closed : List ℕ → Bool
is_closed v = leb 1 (apostrophe v) && same (drop (apostrophe v) v) (41 ∷ [])

pub open_short : (v : List ℕ) → length v < 3 → 0 ≡ opened_at v
unfolding opened_at
open_short v h = let l = take_short 3 v in rw (same_short (take 3 v) opening (omega arith)) refl

module _ (v : List ℕ) (begins : Bool) (b : begins ≡ same (take 3 v) (73 ∷ 110 ∷ 40 ∷ [])) where
  pub open_other : not begins ≡ true → 0 ≡ opened_at v
  unfolding opened_at
  open_other q = rw (sym b ∙ not-true begins q) refl

  pub open_bare : (quote : ℕ) → not begins ≡ false → quote ≡ apostrophe (take (length v - 3) (drop 3 v)) → quote < 1 → 0 ≡ opened_at v
  unfolding opened_at
  open_bare quote q e' h = let e = e' ∙ ap apostrophe (tail 3 v) in rw (sym b ∙ not-false begins q, lt-leb 1 (apostrophe (drop 3 v)) (omega arith)) refl

  pub open_quoted : (quote : ℕ) → not begins ≡ false → quote ≡ apostrophe (take (length v - 3) (drop 3 v)) → 1 ≤ quote → 3 + quote ≡ opened_at v
  unfolding opened_at
  open_quoted quote q e' h = let e = e' ∙ ap apostrophe (tail 3 v) in rw (sym b ∙ not-false begins q, le-leb 1 (apostrophe (drop 3 v)) (omega arith)) (ap (λ (n : ℕ). 3 + n) e)

pub close_bare : (v : List ℕ) (quote : ℕ) → quote ≡ apostrophe v → quote < 1 → false ≡ is_closed v
unfolding is_closed
close_bare v quote e h = rw (lt-leb 1 (apostrophe v) (omega arith)) refl

pub close_quoted : (v : List ℕ) (quote : ℕ) (closed : Bool) → quote ≡ apostrophe v → 1 ≤ quote → closed ≡ same (take (length v - quote) (drop quote v)) (41 ∷ []) → closed ≡ is_closed v
unfolding is_closed
close_quoted v quote closed e h c = rw (le-leb 1 (apostrophe v) (omega arith)) (c ∙ ap (λ (l : List ℕ). same l (41 ∷ [])) (tail quote v) ∙ ap (λ (n : ℕ). same (drop n v) (41 ∷ [])) e)

-- ---- lengths

same_length : (a b : List ℕ) → same a b ≡ true → length a ≡ length b
unfolding same
same_length [] [] e = refl
same_length [] (y ∷ ys) e = absurd (let z : ◌≡◌ {A = ℕ} 0 1 = cc in omega arith)
same_length (x ∷ xs) [] e = absurd (let z : ◌≡◌ {A = ℕ} 0 1 = cc in omega arith)
same_length (x ∷ xs) (y ∷ ys) e = ap suc (same_length xs ys (right (eqb x y) (same xs ys) e))
  where
    right : (a b : Bool) → (a && b) ≡ true → b ≡ true
    right true b q = q
    right false b q = absurd (let z : ◌≡◌ {A = ℕ} 0 1 = cc in omega arith)

pub apostrophe_inside : (v : List ℕ) → apostrophe v ≤ length v
unfolding apostrophe
apostrophe_inside v = by (same (take 1 v) (39 ∷ [])) (same (take 6 v) entity) refl refl
  where
    by : (a b : Bool) → same (take 1 v) (39 ∷ []) ≡ a → same (take 6 v) entity ≡ b → cond a 1 (cond b 6 0) ≤ length v
    by true b p q = let l = take_short 1 v in let s = same_length (take 1 v) (39 ∷ []) p in omega arith
    by false true p q = let l = take_short 6 v in let s = same_length (take 6 v) entity q in omega arith
    by false false p q = omega arith

name_inside : (v : List ℕ) → name_bytes v ≤ length v
unfolding name_bytes
name_inside [] = omega arith
name_inside (b ∷ bs) = by (is_token b || eqb b 46) (name_inside bs)
  where
    by : (z : Bool) → name_bytes bs ≤ length bs → cond z (suc (name_bytes bs)) 0 ≤ suc (length bs)
    by true h = omega arith
    by false h = omega arith

pub quote_fits : (v : List ℕ) (quote : ℕ) → quote ≡ apostrophe v → quote ≤ length v
quote_fits v quote e = let i = apostrophe_inside v in omega arith

-- 3 + 6 at most
pub opened_fits : (v : List ℕ) (quote : ℕ) → quote ≡ apostrophe (take (length v - 3) (drop 3 v)) → 3 + quote < 2 ^ 64
unfolding apostrophe
opened_fits v quote e =
    let l = take (length v - 3) (drop 3 v) in
    let i = by (same (take 1 l) (39 ∷ [])) (same (take 6 l) entity) in
    let f : quote ≤ 6 = rw e i in
    omega arith
  where
    by : (a b : Bool) → cond a 1 (cond b 6 0) ≤ 6
    by true b = omega arith
    by false true = omega arith
    by false false = omega arith

-- ---- the whole value

-- the name begins behind the first apostrophe and ends before the second
-- between two offsets
abbrev pub span : ℕ → ℕ → Span
span from to = record { from = from; to = to }

abbrev pub condition_of : List ℕ → Option Span
condition_of v = cond (is_condition v) (Some (span (condition_at v) (condition_at v + name_bytes (drop (condition_at v) v)))) None

no_name : (v : List ℕ) → is_opened v ≡ false → None ≡ condition_of v
unfolding is_condition
no_name v e = rw e refl

module _ (v : List ℕ) (from : ℕ) (f : from ≡ opened_at v) where
  opened_by : (z : Bool) → is_opened v ≡ z → from ≡ cond z (condition_at v) 0
  unfolding opened_at
  opened_by z e = f ∙ ap (λ (y : Bool). cond y (condition_at v) 0) e

  pub cond_unopened : from < 1 → None ≡ condition_of v
  cond_unopened h = by (is_opened v) refl
    where
      by : (z : Bool) → is_opened v ≡ z → None ≡ condition_of v
      by true e = let o = opened_by true e in absurd (omega arith)
      by false e = no_name v e

  pub from_inside : from ≤ length v
  from_inside = by (same (take 3 v) opening) (leb 1 (apostrophe (drop 3 v))) refl refl
    where
      by : (a b : Bool) → same (take 3 v) opening ≡ a → leb 1 (apostrophe (drop 3 v)) ≡ b → from ≤ length v
      by false b p q = let o = opened_by false (rw p refl) in omega arith
      by true false p q = let o = opened_by false (rw (p, q) refl) in omega arith
      by true true p q =
          let o = opened_by true (rw (p, q) refl) in
          let l = take_short 3 v in
          let s = same_length (take 3 v) opening p in
          let i = apostrophe_inside (drop 3 v) in
          let d : length (drop 3 v) ≡ length v - 3 = length-drop 3 v in
          omega arith

  module _ (long : ℕ) (gave : long ≡ name_bytes (take (length v - from) (drop from v))) where
    g : long ≡ name_bytes (drop from v)
    g = gave ∙ ap name_bytes (tail from v)

    pub to_inside : from + long ≤ length v
    to_inside =
        let a = from_inside in
        let e = g in
        let i = name_inside (drop from v) in
        let d : length (drop from v) ≡ length v - from = length-drop from v in
        omega arith

    pub to_fits : length v ≤ 32768 → from + long < 2 ^ 64
    to_fits s = let a = to_inside in omega arith

    module _ (some : 1 ≤ from) (named closed : Bool) (n : named ≡ spelt true (take (from + long - from) (drop from v))) (c : closed ≡ is_closed (take (length v - (from + long)) (drop (from + long) v))) where
      opened_so : is_opened v ≡ true
      opened_so = by (is_opened v) refl
        where
          by : (z : Bool) → is_opened v ≡ z → is_opened v ≡ true
          by true e = e
          by false e = let o = opened_by false e in absurd (omega arith)

      at_is : from ≡ condition_at v
      at_is = opened_by true opened_so

      to_is : from + long ≡ condition_at v + name_bytes (drop (condition_at v) v)
      to_is = ap (λ (k : ℕ). from + k) g ∙ ap (λ (k : ℕ). k + name_bytes (drop k v)) at_is

      whole : is_condition v ≡ (named && closed)
      unfolding is_condition is_closed
      whole =
          let m : from + long - from ≡ name_bytes (drop from v) = let e = g in omega arith in
          let ns : named ≡ spelt true (inner v) = n ∙ ap (λ (k : ℕ). spelt true (take k (drop from v))) m ∙ ap (λ (k : ℕ). spelt true (take (name_bytes (drop k v)) (drop k v))) at_is in
          let cs : closed ≡ is_closed (behind_name v) = c ∙ ap is_closed (tail (from + long) v) ∙ ap (λ (k : ℕ). is_closed (drop k v)) to_is in
          rw (opened_so, ← ns) (by named (leb 1 (apostrophe (behind_name v))) (same (drop (apostrophe (behind_name v)) (behind_name v)) (41 ∷ [])) ∙ ap (λ (z : Bool). named && z) (sym cs))
        where
          by : (a b d : Bool) → (a && b && d) ≡ (a && (b && d))
          by true b d = refl
          by false b d = refl

      pub cond_whole : (named && closed) ≡ true → Some (span from (from + long)) ≡ condition_of v
      cond_whole q = rw (whole ∙ q) (ap (λ (k : ℕ). Some (span from k)) to_is ∙ ap (λ (k : ℕ). Some (span k (condition_at v + name_bytes (drop (condition_at v) v)))) at_is)

      pub cond_other : (named && closed) ≡ false → None ≡ condition_of v
      cond_other q = rw (whole ∙ q) refl

-- In's name stands in the value
and_left : (a b : Bool) → (a && b) ≡ true → a ≡ true
and_left true b e = refl
and_left false b e = e

opened_in : (v : List ℕ) → is_condition v ≡ true → condition_at v ≡ opened_at v
unfolding is_condition opened_at
opened_in v e =
    let closed = same (drop (apostrophe (behind_name v)) (behind_name v)) (41 ∷ []) in
    let quoted = leb 1 (apostrophe (behind_name v)) in
    let opened = and_left (is_opened v) (spelt true (inner v)) (and_left (is_opened v && spelt true (inner v)) quoted (and_left (is_opened v && spelt true (inner v) && quoted) closed e)) in
    sym (rw opened refl)

pub condition_inside : (v : List ℕ) → is_condition v ≡ true → condition_at v + name_bytes (drop (condition_at v) v) ≤ length v
condition_inside v e =
    let a = from_inside v (condition_at v) (opened_in v e) in
    let i = name_inside (drop (condition_at v) v) in
    let d : length (drop (condition_at v) v) ≡ length v - condition_at v = length-drop (condition_at v) v in
    omega arith
