-- The place of a name among those noted: its way through a tree is followed.
use Rattle.std.proofs.Math.Nat.{min-eq_left, min-eq_right}
use Rattle.std.specs.Prelude.{◌≡◌, Bool, ◌||◌, min, List, [], ◌∷◌, ltb, length, take, drop}
use Rattle.std.proofs.Math.Path.{refl, sym, ap}
use Rattle.std.proofs.Common.{◌∙◌, lt-ltb, le-ltb}
use Rattle.std.proofs.Math.Bool.{true, false, cond}
use Prim.Native.Nat.{ℕ, zero, suc, ◌+◌, ◌*◌, ◌-◌, ◌/◌, ◌%◌, ◌^◌, ◌≤◌, ◌<◌}
use native.Mathlib.Omega.{arith}
use Rattle.std.proofs.Math.ListN.{get_or}
use Rattle.definition.specs.Rows.{same}
use Rattle.reading.specs.Faults.{is_among}
use Rattle.reading.specs.Content.{place_of}
use Rattle.laws.specs.Bools.{bool_case, not_so}
use Rattle.laws.specs.Lists.{same_eq}
use Rattle.laws.specs.Orders.{lt_case}
use Rattle.values.specs.Trees.{hash_from, key_of, tag_of, key_low, side_of, side_at, Asked, asked_begin, asked_turn, asked_none, asked_first}
use Rattle.values.specs.Ids.{id_at, ids_from, ids_length, head_at, next_at, tag_at, Noted}

-- ---- the first of those that are the same

module _ (text ids v : List ℕ) where
  abbrev same_at : ℕ → Bool
  same_at k = same v (id_at text ids k)

  first_at : (s : ℕ) (b : Bool) → same_at (s + 0) ≡ b → same_at s ≡ b
  first_at s b h = let e : s ≡ s + 0 = omega arith in ap same_at e ∙ h

  next_at_lem : (s j : ℕ) (b : Bool) → same_at (s + suc j) ≡ b → same_at (suc s + j) ≡ b
  next_at_lem s j b h = let e : suc s + j ≡ s + suc j = omega arith in ap same_at e ∙ h

  pub place_none : (n s : ℕ) → ((j : ℕ) → j < n → same_at (s + j) ≡ false) → place_of v (ids_from text ids n s) ≡ n
  unfolding ids_from place_of
  place_none zero s h = refl
  place_none (suc n) s h = rw (first_at s false (h 0 (omega arith))) (ap suc (place_none n (suc s) (λ j l. next_at_lem s j false (h (suc j) (omega arith)))))

  pub place_first : (n s k : ℕ) → k < n → same_at (s + k) ≡ true → ((j : ℕ) → j < k → same_at (s + j) ≡ false) → place_of v (ids_from text ids n s) ≡ k
  unfolding ids_from place_of
  place_first zero s k l e h = absurd (omega arith)
  place_first (suc n) s zero l e h = rw (first_at s true e) refl
  place_first (suc n) s (suc k) l e h =
      rw (first_at s false (h 0 (omega arith))) (ap suc (place_first n (suc s) k (omega arith) (next_at_lem s k true e) (λ j m. next_at_lem s j false (h (suc j) (omega arith)))))

  pub place_hit : (n s : ℕ) → place_of v (ids_from text ids n s) < n → same_at (s + place_of v (ids_from text ids n s)) ≡ true
  unfolding ids_from place_of
  place_hit zero s l = absurd (omega arith)
  place_hit (suc n) s l = bool_case (same_at s) here (there (place_hit n (suc s)))
    where
      p : ℕ
      p = place_of v (ids_from text ids n (suc s))

      at_first : (b : Bool) → same_at s ≡ b → cond (same_at s) 0 (suc p) ≡ cond b 0 (suc p)
      at_first b e = ap (λ (z : Bool). cond z 0 (suc p)) e

      here : same_at s ≡ true → same_at (s + cond (same_at s) 0 (suc p)) ≡ true
      here e = let q : s + 0 ≡ s = omega arith in ap (λ (k : ℕ). same_at (s + k)) (at_first true e) ∙ ap same_at q ∙ e

      there : (p < n → same_at (suc s + p) ≡ true) → same_at s ≡ false → same_at (s + cond (same_at s) 0 (suc p)) ≡ true
      there on e =
          let f = at_first false e in
          let q : s + suc p ≡ suc s + p = omega arith in
          ap (λ (k : ℕ). same_at (s + k)) f ∙ ap same_at q ∙ on (omega (arith, f, l))

  later : (n s j : ℕ) → j < n → same_at (s + j) ≡ true → n ≤ place_of v (ids_from text ids n s) → ⊥
  unfolding ids_from place_of
  later zero s j m e l = omega arith
  later (suc n) s zero m e l = let f = ap (λ (z : Bool). cond z 0 (suc (place_of v (ids_from text ids n (suc s))))) (first_at s true e) in omega (arith, f, l)
  later (suc n) s (suc j) m e l =
      bool_case (same_at s) (λ h. let f = ap (λ (z : Bool). cond z 0 (suc (place_of v (ids_from text ids n (suc s))))) h in omega (arith, f, l))
      (λ h. let f = ap (λ (z : Bool). cond z 0 (suc (place_of v (ids_from text ids n (suc s))))) h in later n (suc s) j (omega arith) (next_at_lem s j true e) (omega (arith, f, l)))

  pub place_miss : (n s : ℕ) → n ≤ place_of v (ids_from text ids n s) → (j : ℕ) → j < n → same_at (s + j) ≡ false
  place_miss n s l j m = not_so (same_at (s + j)) (λ e. later n s j m e l)

ltb_suc : (a b : ℕ) → ltb a b ≡ ltb (suc a) (suc b)
ltb_suc a b = lt_case a b (λ l. lt-ltb a b l ∙ sym (lt-ltb (suc a) (suc b) (omega arith))) (λ l. le-ltb a b l ∙ sym (le-ltb (suc a) (suc b) (omega arith)))

among_place : (v : List ℕ) (l : List (List ℕ)) → is_among v l ≡ ltb (place_of v l) (length l)
unfolding is_among place_of
among_place v [] = refl
among_place v (m ∷ ms) = by (same v m) (among_place v ms)
  where
    by : (z : Bool) → is_among v ms ≡ ltb (place_of v ms) (length ms) → (z || is_among v ms) ≡ ltb (cond z 0 (suc (place_of v ms))) (suc (length ms))
    by true h = sym (lt-ltb 0 (suc (length ms)) (omega arith))
    by false h = h ∙ ltb_suc (place_of v ms) (length ms)

pub id_among : (text ids v : List ℕ) (n k : ℕ) → k ≡ place_of v (ids_from text ids n 0) → ltb k n ≡ is_among v (ids_from text ids n 0)
id_among text ids v n k e =
    sym (among_place v (ids_from text ids n 0) ∙ ap (ltb (place_of v (ids_from text ids n 0))) (ids_length text ids n 0) ∙ ap (λ (p : ℕ). ltb p n) (sym e))

-- ---- one name

pub record IdRoom (text ids : List ℕ) (k : ℕ) : Type 0 where
  pub few : k < 32768
  pub low : k * 2 < length ids
  pub high : k * 2 + 1 < length ids
  pub short : length text ≤ 32768
  pub inside : get_or ids (k * 2) 0 + get_or ids (k * 2 + 1) 0 ≤ length text

module _ (text ids v : List ℕ) (k : ℕ) (r : IdRoom text ids k) (at long : ℕ) (a : at ≡ get_or ids (k * 2) 0) (b : long ≡ get_or ids (k * 2 + 1) 0) where
  pub id_fits_lem : at + long < 2 ^ 64
  id_fits_lem = let i = r.inside in let s = r.short in omega arith

  pub id_inside : at + long ≤ length text
  id_inside = let i = r.inside in omega arith

  pub id_is : (here : Bool) → here ≡ same v (take (at + long - at) (drop at text)) → here ≡ same v (id_at text ids k)
  unfolding id_at
  id_is here e =
      let all : at + long - at ≡ get_or ids (k * 2 + 1) 0 = omega arith in
      e ∙ ap (λ (m : ℕ). same v (take m (drop at text))) all ∙ ap (λ (m : ℕ). same v (take (get_or ids (k * 2 + 1) 0) (drop m text))) a

-- ---- the way of a name

-- name x - 1 has its numbers, and among them the tag of its bytes
pub record NodeRoom (text ids name : List ℕ) (x tag : ℕ) : Type 0 where
  pub some : 0 < x
  pub room : IdRoom text ids (x - 1)
  pub keys : 1024 ≤ length ids
  pub within : x * 3 ≤ length ids - 1024
  pub there : length ids - 1024 - x * 3 + 2 < length ids
  pub tag_is : tag ≡ tag_of name
  pub tagged : get_or ids (length ids - 1024 - x * 3 + 2) 0 ≡ tag_of (id_at text ids (x - 1))

-- names that are the same have one tag
pub node_other : (text ids name : List ℕ) (x tag there : ℕ) → NodeRoom text ids name x tag → there ≡ get_or ids (length ids - 1024 - x * 3 + 2) 0 → (there ≡ tag → ⊥) → false ≡ same name (id_at text ids (x - 1))
node_other text ids name x tag there w e d =
    sym (not_so (same name (id_at text ids (x - 1))) (λ s. d (e ∙ w.tagged ∙ ap tag_of (sym (same_eq name (id_at text ids (x - 1)) s)) ∙ sym w.tag_is)))

pub record Looking (text ids name : List ℕ) (n end hash tag x depth : ℕ) : Type 0 where
  pub noted : Noted text ids n
  pub end_is : end ≡ length ids - 1024
  pub hash_is : hash ≡ hash_from 0 name
  pub tag_is : tag ≡ tag_of name
  pub asked : Asked (id_at text ids) (head_at ids) (next_at ids) noted.all name x depth

module _ (text ids name : List ℕ) (n : ℕ) (w : Noted text ids n) where
  pub look_keys : 1024 ≤ length ids
  look_keys = let r = w.index.room in omega arith

  module _ (end : ℕ) (e : end ≡ length ids - 1024) (hash : ℕ) (k : (hash ≡ hash_from 0 name) × (hash < 281474976710656)) where
    key_is : hash % 1024 ≡ key_of name
    unfolding key_of
    key_is = ap (λ (h : ℕ). h % 1024) k.0

    pub look_head : end + hash % 1024 < length ids
    look_head = let r = look_keys in let q = key_is in let l = key_low name in omega (arith, q, l)

    pub look_start : (x : ℕ) → x ≡ get_or ids (end + hash % 1024) 0 → Looking text ids name n end hash (hash / 4294967296) x 0
    unfolding head_at tag_of
    look_start x q =
        record {
          noted = w;
          end_is = e;
          hash_is = k.0;
          tag_is = ap (λ (h : ℕ). h / 4294967296) k.0;
          asked =
              asked_begin (id_at text ids) (head_at ids) (next_at ids) w.all w.index.grown name x
              (q ∙ ap (λ (i : ℕ). get_or ids (i + hash % 1024) 0) e ∙ ap (λ (i : ℕ). get_or ids (length ids - 1024 + i) 0) key_is);
        }

module _ (text ids name : List ℕ) (n end hash tag x depth : ℕ) (w : Looking text ids name n end hash tag x depth) where
  look_room : 0 < x → IdRoom text ids (x - 1)
  look_room p =
      let i = w.noted.index in
      let l = w.asked.link.low in let f = i.few in let r = i.room in
      record { few = omega arith; low = omega arith; high = omega arith; short = i.short; inside = i.inside (x - 1) (omega arith) }

  tag_there : 0 < x → get_or ids (length ids - 1024 - x * 3 + 2) 0 ≡ tag_of (id_at text ids (x - 1))
  unfolding tag_at
  tag_there p =
      let l = w.asked.link.low in let q : x ≡ suc (x - 1) = omega arith in
      ap (λ (y : ℕ). get_or ids (length ids - 1024 - y * 3 + 2) 0) q ∙ w.noted.index.tags (x - 1) (omega (arith, l, p))

  pub look_node : 0 < x → NodeRoom text ids name x tag
  look_node p =
      let l = w.asked.link.low in let r = w.noted.index.room in
      record { some = p; room = look_room p; keys = omega arith; within = omega arith; there = omega arith; tag_is = w.tag_is; tagged = tag_there p }

  pub look_threes : 0 < x → x * 3 ≤ end
  look_threes p = let e = w.end_is in let l = w.asked.link.low in let r = w.noted.index.room in omega arith

  pub look_deep : depth ≤ 32768
  look_deep = let d = w.asked.deep in let f = w.noted.index.few in omega arith

  module _ (p : 0 < x) (side : ℕ) (k : (side ≡ side_of name hash depth) × (side < 2)) where
    pub look_link : end - x * 3 + side < length ids
    look_link = let m = k.1 in let e = w.end_is in let l = w.asked.link.low in let r = w.noted.index.room in omega arith

    next_is : (x' : ℕ) → x' ≡ get_or ids (end - x * 3 + side) 0 → x' ≡ next_at ids x (side_at name depth)
    unfolding next_at side_at
    next_is x' q =
        q ∙ ap (λ (e : ℕ). get_or ids (e - x * 3 + side) 0) w.end_is ∙
        ap (λ (s : ℕ). get_or ids (length ids - 1024 - x * 3 + s) 0) (k.0 ∙ ap (λ (h : ℕ). side_of name h depth) w.hash_is) ∙ sym (at_next x p)
      where
        at_next : (y : ℕ) → 0 < y → next_at ids y (side_of name (hash_from 0 name) depth) ≡ get_or ids (length ids - 1024 - y * 3 + side_of name (hash_from 0 name) depth) 0
        at_next zero l = absurd (omega arith)
        at_next (suc k) l = refl

    pub look_more : (here : Bool) → here ≡ same name (id_at text ids (x - 1)) → here ≡ false → (x' : ℕ) → x' ≡ get_or ids (end - x * 3 + side) 0 → Looking text ids name n end hash tag x' (depth + 1)
    look_more here e h x' q =
        record {
          noted = w.noted;
          end_is = w.end_is;
          hash_is = w.hash_is;
          tag_is = w.tag_is;
          asked = asked_turn (id_at text ids) (head_at ids) (next_at ids) w.noted.all w.noted.index.grown name x depth w.asked x' p (sym e ∙ h) (next_is x' q);
        }

  module _ (p : 0 < x) (here : Bool) (e : here ≡ same name (id_at text ids (x - 1))) where
    pub look_found : here ≡ true → (r : ℕ) → r ≡ min (x - 1) n → r ≡ place_of name (ids_from text ids n 0)
    look_found h r q = q ∙ lt_case (x - 1) n (λ l. min-eq_left {n = x - 1} {m = n} (omega arith) ∙ sym (first l)) (λ l. min-eq_right {n = n} {m = x - 1} l ∙ sym (none l))
      where
        earlier : (j : ℕ) → suc j < x → same name (id_at text ids j) ≡ false
        earlier = asked_first (id_at text ids) (head_at ids) (next_at ids) w.noted.all w.noted.index.grown name x depth w.asked (sym e ∙ h)

        from_zero : (j : ℕ) (b : Bool) → same name (id_at text ids j) ≡ b → same name (id_at text ids (0 + j)) ≡ b
        from_zero j b h = let z : 0 + j ≡ j = omega arith in ap (λ (k : ℕ). same name (id_at text ids k)) z ∙ h

        first : x - 1 < n → place_of name (ids_from text ids n 0) ≡ x - 1
        first l = place_first text ids name n 0 (x - 1) l (from_zero (x - 1) true (sym e ∙ h)) (λ j m. from_zero j false (earlier j (omega arith)))

        none : n ≤ x - 1 → place_of name (ids_from text ids n 0) ≡ n
        none l = place_none text ids name n 0 (λ j m. from_zero j false (earlier j (omega arith)))

  pub look_end : x ≤ 0 → n ≡ place_of name (ids_from text ids n 0)
  look_end h = sym (place_none text ids name n 0 missing)
    where
      missing : (j : ℕ) → j < n → same name (id_at text ids (0 + j)) ≡ false
      missing j l =
          let z : 0 + j ≡ j = omega arith in let b = w.noted.past in
          ap (λ (k : ℕ). same name (id_at text ids k)) z ∙
          asked_none (id_at text ids) (head_at ids) (next_at ids) w.noted.all w.noted.index.grown name x depth w.asked (omega arith) j (omega arith)
