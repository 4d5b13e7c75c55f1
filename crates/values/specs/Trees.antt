-- Names in trees, over any names, roots and links, so that a name is found among many without asking each. Ten bits of a hash of its bytes are a name's key, and each key has a
-- tree; from one name in it the way goes on by the other bits of the hash, and past these by the bits of the name itself. A root is a name's number and one, and 0 an empty tree.
-- A tree has the new names of its key: a name that is the same as one before it stands in none. That a name is found asks nothing of key and sides; that it is found soon, that
-- different names part by them.
use Rattle.std.specs.Prelude.{◌≡◌, refl, true, false, cond, List, [], ◌∷◌, ltb, length, get_or, drop}
use Rattle.std.proofs.Common.{sym, ◌∙◌, mod-lt, zero-lt-suc, drop_of_length-le, drop-cons, lt-ltb, le-ltb}
use Rattle.std.proofs.Math.Path.{ap}
use Prim.Native.Nat.{ℕ, zero, suc, ◌+◌, ◌*◌, ◌-◌, ◌/◌, ◌%◌, ◌^◌, ◌≤◌, ◌<◌}
use native.Mathlib.Omega.{arith}
use Rattle.std.proofs.Math.ListN.{get_or-eq_default}
use Rattle.definition.specs.Rows.{same}
use Rattle.laws.specs.Bools.{clash, not_so, eq_case}
use Rattle.laws.specs.Lists.{same_eq, same_self}
use Rattle.laws.specs.Orders.{lt_case}

-- ---- the hash, the key and the tag of a name

abbrev pub keys : ℕ
keys = 1024

-- the hash, of 48 bits, of the bytes behind those that gave h
unfoldable pub hash_from : ℕ → List ℕ → ℕ
hash_from h [] = h
hash_from h (b ∷ bs) = hash_from ((h * 40503 + b) % 281474976710656) bs

unfoldable pub key_of : List ℕ → ℕ
key_of v = hash_from 0 v % keys

unfoldable pub tag_of : List ℕ → ℕ
tag_of v = hash_from 0 v / 4294967296

pub hash_begin : (bs : List ℕ) → hash_from 0 (drop 0 bs) ≡ hash_from 0 bs
hash_begin bs = refl

pub hash_turn : (bs : List ℕ) (h i : ℕ) → i < length bs → hash_from h (drop i bs) ≡ hash_from 0 bs → hash_from ((h * 40503 + get_or bs i 0) % 281474976710656) (drop (i + 1) bs) ≡ hash_from 0 bs
unfolding hash_from
hash_turn bs h i l q = let e : i + 1 ≡ suc i = omega arith in rw e (sym (ap (hash_from h) (drop-cons bs i 0 l)) ∙ q)

pub hash_done : (bs : List ℕ) (h i : ℕ) → length bs ≤ i → hash_from h (drop i bs) ≡ hash_from 0 bs → h ≡ hash_from 0 bs
unfolding hash_from
hash_done bs h i l q = ap (hash_from h) (sym (drop_of_length-le bs {i = i} l)) ∙ q

pub hash_step : (h b : ℕ) → (h * 40503 + b) % 281474976710656 < 281474976710656
hash_step h b = mod-lt (h * 40503 + b) (zero-lt-suc 281474976710655)

pub key_low : (v : List ℕ) → key_of v < keys
unfolding key_of
key_low v = mod-lt (hash_from 0 v) (zero-lt-suc 1023)

-- ---- the way through a tree

-- the bits of the hash that are no key, then those of the bytes; past the end of a name they are 0
unfoldable pub side_of : List ℕ → ℕ → ℕ → ℕ
side_of v hash d = cond (ltb d 38) (hash / 2 ^ (d + 10) % 2) (get_or v ((d - 38) / 8) 0 / 2 ^ ((d - 38) % 8) % 2)

unfoldable pub side_at : List ℕ → ℕ → ℕ
side_at v d = side_of v (hash_from 0 v) d

pub byte_past : (v : List ℕ) (i : ℕ) → length v ≤ i → 0 ≡ get_or v i 0
byte_past v i l = sym (get_or-eq_default v 0 l)

two : (a : ℕ) → a % 2 < 2
two a = mod-lt a (zero-lt-suc 1)

pub side_hash : (v : List ℕ) (hash d : ℕ) → d < 38 → (hash / 2 ^ (d + 10) % 2 ≡ side_of v hash d) × (hash / 2 ^ (d + 10) % 2 < 2)
unfolding side_of
side_hash v hash d l = (rw (lt-ltb d 38 l) refl, two (hash / 2 ^ (d + 10)))

pub side_byte : (v : List ℕ) (hash d b : ℕ) → 38 ≤ d → b ≡ get_or v ((d - 38) / 8) 0 → (b / 2 ^ ((d - 38) % 8) % 2 ≡ side_of v hash d) × (b / 2 ^ ((d - 38) % 8) % 2 < 2)
unfolding side_of
side_byte v hash d b l e = (rw (le-ltb d 38 l) (ap (λ (x : ℕ). x / 2 ^ ((d - 38) % 8) % 2) e), two (b / 2 ^ ((d - 38) % 8)))

pub side_low : (v : List ℕ) (d : ℕ) → side_at v d < 2
unfolding side_at side_of
side_low v d = lt_case d 38 (λ l. rw (lt-ltb d 38 l) (two _)) (λ l. rw (le-ltb d 38 l) (two _))

-- what stands on the name's way so deep
unfoldable pub path_at : (ℕ → ℕ) → (ℕ → ℕ → ℕ) → List ℕ → ℕ → ℕ
path_at head next v zero = head (key_of v)
path_at head next v (suc d) = next (path_at head next v d) (side_at v d)

path_first : (head : ℕ → ℕ) (next : ℕ → ℕ → ℕ) (v : List ℕ) → path_at head next v 0 ≡ head (key_of v)
unfolding path_at
path_first head next v = refl

pub path_next : (head : ℕ → ℕ) (next : ℕ → ℕ → ℕ) (v : List ℕ) (d : ℕ) → path_at head next v (d + 1) ≡ next (path_at head next v d) (side_at v d)
unfolding path_at
path_next head next v d = let e : d + 1 ≡ suc d = omega arith in ap (path_at head next v) e

-- ---- trees

-- x is an empty tree, or one whose root is a name below n that is none of those before it
pub record Link (name : ℕ → List ℕ) (n x : ℕ) : Type 0 where
  pub low : x ≤ n
  pub new : (j : ℕ) → suc j < x → same (name (x - 1)) (name j) ≡ false

-- on its own way stands a name that is the same as name j
pub record Found (name : ℕ → List ℕ) (head : ℕ → ℕ) (next : ℕ → ℕ → ℕ) (j : ℕ) : Type 0 where
  pub place : ℕ
  pub steps : ℕ
  pub is : path_at head next (name j) steps ≡ suc place
  pub alike : name place ≡ name j

pub record Grown (name : ℕ → List ℕ) (head : ℕ → ℕ) (next : ℕ → ℕ → ℕ) (n : ℕ) : Type 0 where
  pub heads : (h : ℕ) → h < keys → Link name n (head h)
  pub links : (x s : ℕ) → 0 < x → x ≤ n → s < 2 → Link name n (next x s)
  pub later : (x s : ℕ) → 0 < x → x ≤ n → s < 2 → 0 < next x s → x < next x s
  pub ends : (s : ℕ) → next 0 s ≡ 0
  pub held : (j : ℕ) → j < n → Found name head next j

empty : (name : ℕ → List ℕ) (n x : ℕ) → x ≡ 0 → Link name n x
empty name n x e = record { low = omega arith; new = λ j m. absurd (omega arith) }

pub grown_none : (name : ℕ → List ℕ) (head : ℕ → ℕ) (next : ℕ → ℕ → ℕ) → ((h : ℕ) → h < keys → head h ≡ 0) → ((s : ℕ) → next 0 s ≡ 0) → Grown name head next 0
grown_none name head next z e =
    record {
      heads = λ h l. empty name 0 (head h) (z h l);
      links = λ x s p l m. absurd (omega arith);
      later = λ x s p l m q. absurd (omega arith);
      ends = e;
      held = λ j l. absurd (omega arith);
    }

module _ (name : ℕ → List ℕ) (head : ℕ → ℕ) (next : ℕ → ℕ → ℕ) (n : ℕ) (c : Grown name head next n) (v : List ℕ) where
  pub path_low : (d : ℕ) → path_at head next v d ≤ n
  unfolding path_at
  path_low zero = (c.heads (key_of v) (key_low v)).low
  path_low (suc d) =
      lt_case 0 (path_at head next v d) (λ p. (c.links (path_at head next v d) (side_at v d) p (path_low d) (side_low v d)).low)
      (λ l. let z : path_at head next v d ≡ 0 = omega arith in let e = ap (λ (x : ℕ). next x (side_at v d)) z ∙ c.ends (side_at v d) in omega (arith, e))

  -- behind an empty tree there is nothing
  pub path_before : (d : ℕ) → 0 < path_at head next v (suc d) → 0 < path_at head next v d
  unfolding path_at
  path_before d p =
      lt_case 0 (path_at head next v d) (λ q. q)
      (λ l. let z : path_at head next v d ≡ 0 = omega arith in let e = ap (λ (x : ℕ). next x (side_at v d)) z ∙ c.ends (side_at v d) in absurd (omega (arith, e, p)))

  stays : (e d : ℕ) → path_at head next v e ≡ 0 → path_at head next v (e + d) ≡ 0
  unfolding path_at
  stays e zero z = let q : e + 0 ≡ e = omega arith in ap (path_at head next v) q ∙ z
  stays e (suc d) z = let q : e + suc d ≡ suc (e + d) = omega arith in ap (path_at head next v) q ∙ ap (λ (x : ℕ). next x (side_at v (e + d))) (stays e d z) ∙ c.ends (side_at v (e + d))

-- ---- a name is looked for

-- the first e on its way have been asked, and x comes next
pub record Asked (name : ℕ → List ℕ) (head : ℕ → ℕ) (next : ℕ → ℕ → ℕ) (n : ℕ) (v : List ℕ) (x e : ℕ) : Type 0 where
  pub link : Link name n x
  pub is : x ≡ path_at head next v e
  pub deep : e ≤ n
  pub above : 0 < x → e < x
  pub each : (y p : ℕ) → y < e → path_at head next v y ≡ suc p → same v (name p) ≡ false

module _ (name : ℕ → List ℕ) (head : ℕ → ℕ) (next : ℕ → ℕ → ℕ) (n : ℕ) (c : Grown name head next n) (v : List ℕ) where
  pub asked_begin : (x : ℕ) → x ≡ head (key_of v) → Asked name head next n v x 0
  asked_begin x e =
      record {
        link = rw e (c.heads (key_of v) (key_low v));
        is = e ∙ sym (path_first head next v);
        deep = omega arith;
        above = λ p. p;
        each = λ y p l. absurd (omega arith);
      }

  module _ (x e : ℕ) (a : Asked name head next n v x e) where
    pub asked_turn : (x' : ℕ) → 0 < x → same v (name (x - 1)) ≡ false → x' ≡ next x (side_at v e) → Asked name head next n v x' (e + 1)
    asked_turn x' p d q =
        let l = a.link.low in
        let b = a.above p in
        record {
          link = rw q (c.links x (side_at v e) p l (side_low v e));
          is = q ∙ ap (λ (y : ℕ). next y (side_at v e)) a.is ∙ sym (path_next head next v e);
          deep = omega arith;
          above = λ r. let m = c.later x (side_at v e) p l (side_low v e) (omega (arith, q, r)) in omega (arith, m, q, b);
          each = λ y j m f. eq_case y e
              (λ w. let g : x ≡ suc j = a.is ∙ ap (path_at head next v) (sym w) ∙ f in
              let h : x - 1 ≡ j = omega arith in
              ap (λ (z : ℕ). same v (name z)) (sym h) ∙ d)
              (λ w. a.each y j (omega (arith, w, m)) f);
        }

    -- the tree is empty here: every name that could be the same has been asked
    pub asked_none : x ≡ 0 → (j : ℕ) → j < n → same v (name j) ≡ false
    asked_none z j l = not_so (same v (name j)) (λ s. missed (same_eq v (name j) s) (c.held j l))
      where
        missed : v ≡ name j → Found name head next j → ⊥
        missed s f =
            let is : path_at head next v f.steps ≡ suc f.place = ap (λ (w : List ℕ). path_at head next w f.steps) s ∙ f.is in
            lt_case f.steps e
            (λ b. clash (same v (name f.place)) (ap (same v) (f.alike ∙ sym s) ∙ same_self v) (a.each f.steps f.place b is))
            (λ g. let q : f.steps ≡ e + (f.steps - e) = omega arith in
            let u : path_at head next v f.steps ≡ 0 = ap (path_at head next v) q ∙ stays name head next n c v e (f.steps - e) (sym a.is ∙ z) in
            omega (arith, u, is))

    -- the name is here, and no name before it is the same
    pub asked_first : same v (name (x - 1)) ≡ true → (j : ℕ) → suc j < x → same v (name j) ≡ false
    asked_first s j l = ap (λ (w : List ℕ). same w (name j)) (same_eq v (name (x - 1)) s) ∙ a.link.new j l

-- ---- one name more: only what was an empty tree may be another then, and is a tree of the new name

module _ (name name' : ℕ → List ℕ) (head head' : ℕ → ℕ) (next next' : ℕ → ℕ → ℕ) (n : ℕ) (c : Grown name head next n)
    (names : (j : ℕ) → j < n → name' j ≡ name j)
    (head_kept : (h : ℕ) → h < keys → 0 < head h → head' h ≡ head h)
    (next_kept : (x s : ℕ) → 0 < x → x ≤ n → s < 2 → 0 < next x s → next' x s ≡ next x s) where
  link_kept : (x : ℕ) → Link name n x → Link name' (n + 1) x
  link_kept x k =
      let l = k.low in
      record { low = omega arith; new = λ j h. rw (names (x - 1) (omega arith), names j (omega arith)) (k.new j h) }

  -- a way to a name is as it was
  pub path_kept : (w : List ℕ) (d : ℕ) → 0 < path_at head next w d → path_at head' next' w d ≡ path_at head next w d
  unfolding path_at
  path_kept w zero p = head_kept (key_of w) (key_low w) p
  path_kept w (suc d) p =
      let q = path_before name head next n c w d p in
      ap (λ (x : ℕ). next' x (side_at w d)) (path_kept w d q) ∙ next_kept (path_at head next w d) (side_at w d) q (path_low name head next n c w d) (side_low w d) p

  kept : (j : ℕ) → j < n → Found name' head' next' j
  kept j l =
      let f = c.held j l in
      let e = f.is in
      let b = path_low name head next n c (name j) f.steps in
      record {
        place = f.place;
        steps = f.steps;
        is = ap (λ (v : List ℕ). path_at head' next' v f.steps) (names j l) ∙ path_kept (name j) f.steps (omega (arith, e)) ∙ f.is;
        alike = names f.place (omega (arith, e, b)) ∙ f.alike ∙ sym (names j l);
      }

  module _ (head_new : (h : ℕ) → h < keys → (head' h ≡ head h → ⊥) → Link name' (n + 1) (head' h))
      (next_new : (x s : ℕ) → 0 < x → x ≤ n → s < 2 → (next' x s ≡ next x s → ⊥) → Link name' (n + 1) (next' x s) × (x < next' x s))
      (none : (s : ℕ) → next' 0 s ≡ 0) (leaf : (s : ℕ) → s < 2 → next' (suc n) s ≡ 0) where
    links_more : (x s : ℕ) → 0 < x → x ≤ n → s < 2 → Link name' (n + 1) (next' x s)
    links_more x s p l m = eq_case (next' x s) (next x s) (λ q. rw q (link_kept (next x s) (c.links x s p l m))) (λ q. (next_new x s p l m q).0)

    later_more : (x s : ℕ) → 0 < x → x ≤ n → s < 2 → 0 < next' x s → x < next' x s
    later_more x s p l m z = eq_case (next' x s) (next x s) (λ q. let u = c.later x s p l m (omega (arith, q, z)) in omega (arith, u, q)) (λ q. (next_new x s p l m q).1)

    grown_more : Found name' head' next' n → Grown name' head' next' (n + 1)
    grown_more f =
        record {
          heads = λ h b. eq_case (head' h) (head h) (λ q. rw q (link_kept (head h) (c.heads h b))) (λ q. head_new h b q);
          links = λ x s p b m. eq_case x (suc n) (λ q. rw q (empty name' (n + 1) (next' (suc n) s) (leaf s m))) (λ q. links_more x s p (omega (arith, q, b)) m);
          later = λ x s p b m z. eq_case x (suc n) (λ q. let u = ap (λ (y : ℕ). next' y s) q ∙ leaf s m in absurd (omega (arith, u, z))) (λ q. later_more x s p (omega (arith, q, b)) m z);
          ends = none;
          held = λ j b. eq_case j n (λ q. rw q f) (λ q. kept j (omega (arith, q, b)));
        }

    -- it is the same as one before it, and is left out
    pub grown_known : (k : ℕ) → k < n → name' n ≡ name k → Grown name' head' next' (n + 1)
    grown_known k l e =
        let f = kept k l in
        let g : name' k ≡ name' n = names k l ∙ sym e in
        grown_more (record { place = f.place; steps = f.steps; is = ap (λ (v : List ℕ). path_at head' next' v f.steps) (sym g) ∙ f.is; alike = f.alike ∙ g })

    -- it is new, and stands where its way ended
    pub grown_new : (d : ℕ) → path_at head' next' (name' n) d ≡ suc n → Grown name' head' next' (n + 1)
    grown_new d e = grown_more (record { place = n; steps = d; is = e; alike = refl })

  pub root_new : ((j : ℕ) → j < n → same (name' n) (name j) ≡ false) → (x : ℕ) → x ≡ suc n → Link name' (n + 1) x
  root_new new x e =
      record { low = omega arith; new = λ j m. let b : j < n = omega arith in let q : x - 1 ≡ n = omega arith in rw (names j b, q) (new j b) }
