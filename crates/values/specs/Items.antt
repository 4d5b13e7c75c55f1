-- The names of a value, one behind the other.
use Rattle.std.specs.Prelude.{◌≡◌, Bool, true, false, not, ◌&&◌, ◌||◌, cond, leb, ltb, length, take}
use Rattle.std.proofs.Math.Path.{refl, sym, ap, subst}
use Rattle.std.proofs.Common.{◌∙◌, add-one, drop_of_length-le, length-drop, drop-cons, drop-drop, le-leb, leb-true, lt-ltb, le-ltb}
use mathlib.Core.List.{List, [], ◌∷◌, ◌++◌}
use Rattle.std.proofs.Math.Option.{Option, none, some}
use Prim.Native.Nat.{ℕ, suc, ◌+◌, ◌-◌, ◌≤◌, ◌<◌}
use native.Mathlib.Omega.{arith}
use Rattle.std.proofs.Math.ListN.{get_or, drop}
use Rattle.grammar.specs.Grammar.{is_space}
use Rattle.definition.specs.Rows.{flat}
use Rattle.reading.specs.Faults.{Item, goes_on, grown, items_at, fault_if, is_among, long_fault, reference_fault, smaller, least}
use Rattle.std.specs.declared.option.Option.{Option as program}
use Rattle.std.specs.declared.option.Option.TheVariants.{Some, None}

-- where the fault stands, as the program says it
abbrev pub found_of : Option ℕ → program ℕ
found_of none = None
found_of (some i) = Some i

-- ---- how many bytes stand before the first white space

unfoldable pub spread : List ℕ → ℕ
spread [] = 0
spread (b ∷ bs) = cond (is_space b) 0 (suc (spread bs))

at_i : (v : List ℕ) (i : ℕ) → i < length v → drop i v ≡ get_or v i 0 ∷ drop (i + 1) v
at_i v i h = drop-cons v i 0 h ∙ ap (λ (j : ℕ). get_or v i 0 ∷ drop j v) (sym (add-one i))

pub record Spreading (v : List ℕ) (i j : ℕ) : Type 0 where
  pub past : i ≤ j
  pub inside : j ≤ length v
  pub so : i + spread (drop i v) ≡ j + spread (drop j v)

pub spread_start : (v : List ℕ) (i : ℕ) → i ≤ length v → Spreading v i i
spread_start v i h = record { past = omega arith; inside = h; so = refl }

module _ (v : List ℕ) (i j : ℕ) (k : Spreading v i j) where
  pub spread_stop : (space : Bool) → j < length v → space ≡ is_space (get_or v j 0) → space ≡ true → j ≡ i + spread (drop i v)
  unfolding spread
  spread_stop space h e q =
      let none : spread (drop j v) ≡ 0 = ap spread (at_i v j h) ∙ rw (sym e ∙ q) refl in
      let so = k.so in
      omega arith

  pub spread_more : (space : Bool) → j < length v → space ≡ is_space (get_or v j 0) → space ≡ false → Spreading v i (j + 1)
  unfolding spread
  spread_more space h e q =
      let one : spread (drop j v) ≡ suc (spread (drop (j + 1) v)) = ap spread (at_i v j h) ∙ rw (sym e ∙ q) refl in
      let so = k.so in let past = k.past in
      record { past = omega arith; inside = omega arith; so = omega arith }

  pub spread_end : length v ≤ j → length v ≡ i + spread (drop i v)
  unfolding spread
  spread_end h =
      let none : spread (drop j v) ≡ 0 = ap spread (drop_of_length-le v h) in
      let so = k.so in let inside = k.inside in
      omega arith

-- ---- the first name of a value, and the others

pub spread_inside : (v : List ℕ) → spread v ≤ length v
unfolding spread
spread_inside [] = omega arith
spread_inside (b ∷ bs) = by (is_space b) (spread_inside bs)
  where
    by : (z : Bool) → spread bs ≤ length bs → cond z 0 (suc (spread bs)) ≤ suc (length bs)
    by true h = omega arith
    by false h = omega arith

-- the name that a value begins with, at the offset k
abbrev pub first_item : ℕ → List ℕ → Item
first_item k v = record { from = k; bytes = take (spread v) v }

abbrev pub other_items : ℕ → List ℕ → List Item
other_items k v = items_at (k + spread v) (drop (spread v) v)

second : (z w : Bool) (x y u : List Item) → z ≡ false → w ≡ true → cond z x (cond w y u) ≡ y
second z w x y u e q = rw (e, q) refl

third : (z w : Bool) (x y u : List Item) → z ≡ false → w ≡ false → cond z x (cond w y u) ≡ u
third z w x y u e q = rw (e, q) refl

pub first_item_lem : (bs : List ℕ) (k b : ℕ) → is_space b ≡ false → items_at k (b ∷ bs) ≡ first_item k (b ∷ bs) ∷ other_items k (b ∷ bs)
unfolding items_at spread
first_item_lem [] k b e = rw e refl
first_item_lem (c ∷ cs) k b e = by (is_space c) refl (first_item_lem cs (suc k) c)
  where
    by : (z : Bool) → is_space c ≡ z → (is_space c ≡ false → items_at (suc k) (c ∷ cs) ≡ first_item (suc k) (c ∷ cs) ∷ other_items (suc k) (c ∷ cs)) →
        items_at k (b ∷ c ∷ cs) ≡ first_item k (b ∷ c ∷ cs) ∷ other_items k (b ∷ c ∷ cs)
    by true q h =
        let one : suc k ≡ k + 1 = sym (add-one k) in
        let only : spread (b ∷ c ∷ cs) ≡ 1 = ap (λ (z : Bool). cond z 0 (suc (spread (c ∷ cs)))) e ∙ ap (λ (z : Bool). suc (cond z 0 (suc (spread cs)))) q in
        third (is_space b) (not (is_space c)) _ _ ((record { from = k; bytes = b ∷ [] }) ∷ items_at (suc k) (c ∷ cs)) e (ap not q) ∙
        ap (λ (n : ℕ). (record { from = k; bytes = b ∷ [] }) ∷ items_at n (c ∷ cs)) one ∙
        ap (λ (n : ℕ). (record { from = k; bytes = take n (b ∷ c ∷ cs) }) ∷ items_at (k + n) (drop n (b ∷ c ∷ cs))) (sym only)
    by false q h =
        let s = spread (c ∷ cs) in
        let more : spread (b ∷ c ∷ cs) ≡ suc s = ap (λ (z : Bool). cond z 0 (suc s)) e in
        let one : suc k + s ≡ k + suc s = omega arith in
        second (is_space b) (not (is_space c)) _ (grown k b (items_at (suc k) (c ∷ cs))) _ e (ap not q) ∙ ap (λ (l : List Item). grown k b l) (h q) ∙
        ap (λ (n : ℕ). (record { from = k; bytes = b ∷ take s (c ∷ cs) }) ∷ items_at n (drop s (c ∷ cs))) one ∙
        ap (λ (n : ℕ). (record { from = k; bytes = take n (b ∷ c ∷ cs) }) ∷ items_at (k + n) (drop n (b ∷ c ∷ cs))) (sym more)

-- ---- the least of ascending offsets is the first

-- none of the names stands before x
unfoldable all_from : ℕ → List Item → Bool
all_from x [] = true
all_from x (y ∷ ys) = leb x y.from && all_from x ys

and_right : (a b : Bool) → (a && b) ≡ true → b ≡ true
and_right true b e = e
and_right false b e = absurd (let z : ◌≡◌ {A = ℕ} 0 1 = cc in omega arith)

and_left : (a b : Bool) → (a && b) ≡ true → a ≡ true
and_left true b e = refl
and_left false b e = e

grown_from : (x k b : ℕ) (l : List Item) → x ≤ k → all_from x l ≡ true → all_from x (grown k b l) ≡ true
unfolding all_from
grown_from x k b [] h a = rw (le-leb x k h) refl
grown_from x k b (y ∷ ys) h a = rw (le-leb x k h) (and_right (leb x y.from) (all_from x ys) a)

items_from_lem : (v : List ℕ) (x k : ℕ) → x ≤ k → all_from x (items_at k v) ≡ true
unfolding items_at all_from
items_from_lem [] x k h = refl
items_from_lem (b ∷ bs) x k h = by (is_space b) (goes_on bs) (items_from_lem bs x (suc k) (omega arith))
  where
    by : (z w : Bool) → all_from x (items_at (suc k) bs) ≡ true →
        all_from x (cond z (items_at (suc k) bs) (cond w (grown k b (items_at (suc k) bs)) ((record { from = k; bytes = b ∷ [] }) ∷ items_at (suc k) bs))) ≡ true
    by true w a = a
    by false true a = grown_from x k b (items_at (suc k) bs) h a
    by false false a = rw (le-leb x k h) a

-- the offsets are at x or behind it
unfoldable all_above : ℕ → List ℕ → Bool
all_above x [] = true
all_above x (y ∷ ys) = leb x y && all_above x ys

-- the names that fail a test, by their offsets
abbrev fault_by : (Item → Bool) → Item → List ℕ
fault_by bad x = fault_if (bad x) x.from

faults_above : (bad : Item → Bool) (x : ℕ) (l : List Item) → all_from x l ≡ true → all_above x (flat (fault_by bad) l) ≡ true
unfolding all_from all_above flat
faults_above bad x [] a = refl
faults_above bad x (y ∷ ys) a = by (bad y) (faults_above bad x ys (and_right (leb x y.from) (all_from x ys) a)) (and_left (leb x y.from) (all_from x ys) a)
  where
    by : (z : Bool) → all_above x (flat (fault_by bad) ys) ≡ true → leb x y.from ≡ true → all_above x (fault_if z y.from ++ flat (fault_by bad) ys) ≡ true
    by true h l = rw l h
    by false h l = h

above : (ys : List ℕ) (x y : ℕ) → x ≤ y → all_above x ys ≡ true → x ≤ smaller y (least ys)
unfolding all_above least
above [] x y h a = h
above (w ∷ ws) x y h a =
    by (leb y (smaller w (least ws))) (above ws x w (leb-true x w (and_left (leb x w) (all_above x ws) a)) (and_right (leb x w) (all_above x ws) a))
  where
    by : (z : Bool) → x ≤ smaller w (least ws) → x ≤ cond z y (smaller w (least ws))
    by true l = h
    by false l = l

least_first : (x : ℕ) (ys : List ℕ) → all_above x ys ≡ true → least (x ∷ ys) ≡ some x
unfolding least all_above
least_first x [] a = refl
least_first x (y ∷ ys) a =
    let l : x ≤ smaller y (least ys) = above ys x y (leb-true x y (and_left (leb x y) (all_above x ys) a)) (and_right (leb x y) (all_above x ys) a) in
    rw (le-leb x (smaller y (least ys)) l) refl

-- ---- the search

-- a name is too long, or it should refer to a row and does not
abbrev pub is_bad : Bool → List (List ℕ) → List ℕ → Bool
is_bad refers ids name = ltb 63 (length name) || (refers && not (is_among name ids))

pub bad_long : (refers : Bool) (ids : List (List ℕ)) (name : List ℕ) → 63 < length name → true ≡ is_bad refers ids name
bad_long refers ids name l = rw (lt-ltb 63 (length name) l) refl

pub bad_unknown : (refers known : Bool) (ids : List (List ℕ)) (name : List ℕ) → length name ≤ 63 → refers ≡ true → known ≡ is_among name ids → not known ≡ is_bad refers ids name
bad_unknown refers known ids name l r k = rw (le-ltb 63 (length name) l, r, ← k) refl

pub bad_none : (refers : Bool) (ids : List (List ℕ)) (name : List ℕ) → length name ≤ 63 → refers ≡ false → false ≡ is_bad refers ids name
bad_none refers ids name l r = rw (le-ltb 63 (length name) l, r) refl

abbrev is_bad_item : Bool → List (List ℕ) → Item → Bool
is_bad_item refers ids x = is_bad refers ids x.bytes

-- "a name or descriptor over 63 bytes", "A reference to an id .. that does not exist" (1.10)
abbrev pub item_fault : Bool → List (List ℕ) → Item → List ℕ
item_fault true ids x = reference_fault ids x
item_fault false ids x = long_fault x

abbrev pub item_faults : Bool → List (List ℕ) → ℕ → List ℕ → Option ℕ
item_faults refers ids from v = least (flat (item_fault refers ids) (items_at from v))

or_false : (a : Bool) → a ≡ (a || false)
or_false true = refl
or_false false = refl

same_fault : (refers : Bool) (ids : List (List ℕ)) (x : Item) → item_fault refers ids x ≡ fault_by (is_bad_item refers ids) x
same_fault true ids x = refl
same_fault false ids x = ap (λ (z : Bool). fault_if z x.from) (or_false (ltb 63 (length x.bytes)))

same_faults : (refers : Bool) (ids : List (List ℕ)) (l : List Item) → flat (item_fault refers ids) l ≡ flat (fault_by (is_bad_item refers ids)) l
unfolding flat
same_faults refers ids [] = refl
same_faults refers ids (x ∷ xs) =
    ap (λ (l : List ℕ). l ++ flat (item_fault refers ids) xs) (same_fault refers ids x) ∙ ap (λ (l : List ℕ). fault_by (is_bad_item refers ids) x ++ l) (same_faults refers ids xs)

module _ (refers : Bool) (ids : List (List ℕ)) where
  abbrev bad : Item → Bool
  bad = is_bad_item refers ids

  -- the least fault of the value is that of what is left
  pub record Searching (v : List ℕ) (from i : ℕ) : Type 0 where
    pub inside : i ≤ length v
    pub left : item_faults refers ids from v ≡ least (flat (fault_by (is_bad_item refers ids)) (items_at (from + i) (drop i v)))

  pub search_start : (v : List ℕ) (from : ℕ) → Searching v from 0
  search_start v from =
      record { inside = omega arith; left = ap least (same_faults refers ids (items_at from v)) ∙ ap (λ (n : ℕ). least (flat (fault_by bad) (items_at n v))) (zero_right from) }
    where
      zero_right : (n : ℕ) → n ≡ n + 0
      zero_right n = omega arith

  module _ (v : List ℕ) (from i : ℕ) (k : Searching v from i) where
    pub search_space : (space : Bool) → i < length v → space ≡ is_space (get_or v i 0) → space ≡ true → Searching v from (i + 1)
    unfolding items_at
    search_space space h e q =
        let on : suc (from + i) ≡ from + (i + 1) = omega arith in
        record {
          inside = omega arith;
          left =
              k.left ∙ ap (λ (l : List ℕ). least (flat (fault_by bad) (items_at (from + i) l))) (at_i v i h) ∙
              rw (sym e ∙ q) (ap (λ (n : ℕ). least (flat (fault_by bad) (items_at n (drop (i + 1) v)))) on);
        }

    module _ (space : Bool) (j : ℕ) (h : i < length v) (e : space ≡ is_space (get_or v i 0)) (q : space ≡ false) (to : j ≡ i + spread (drop i v)) where
      -- the name at i and those behind it
      split : item_faults refers ids from v ≡ least (fault_by bad (first_item (from + i) (drop i v)) ++ flat (fault_by bad) (other_items (from + i) (drop i v)))
      unfolding flat
      split =
          let b = get_or v i 0 in
          let bs = drop (i + 1) v in
          k.left ∙
          subst
          (λ (l : List ℕ). least (flat (fault_by bad) (items_at (from + i) l)) ≡ least (fault_by bad (first_item (from + i) l) ++ flat (fault_by bad) (other_items (from + i) l)))
          (sym (at_i v i h)) (ap (λ (l : List Item). least (flat (fault_by bad) l)) (first_item_lem bs (from + i) b (sym e ∙ q)))

      -- the test of the name at i
      test : (b : Bool) → b ≡ is_bad refers ids (take (j - i) (drop i v)) → bad (first_item (from + i) (drop i v)) ≡ b
      test b e = let one : spread (drop i v) ≡ j - i = omega arith in ap (λ (n : ℕ). is_bad refers ids (take n (drop i v))) one ∙ sym e

      found : bad (first_item (from + i) (drop i v)) ≡ true → Some (from + i) ≡ found_of (item_faults refers ids from v)
      found is-bad =
          let xs = other_items (from + i) (drop i v) in
          let later : all_above (from + i) (flat (fault_by bad) xs) ≡ true =
          faults_above bad (from + i) xs (items_from_lem (drop (spread (drop i v)) (drop i v)) (from + i) (from + i + spread (drop i v)) (omega arith)) in
          let is : item_faults refers ids from v ≡ some (from + i) =
          split ∙ ap (λ (z : Bool). least (fault_if z (from + i) ++ flat (fault_by bad) xs)) is-bad ∙ least_first (from + i) (flat (fault_by bad) xs) later in
          sym (ap found_of is)

      pub search_found : (b : Bool) → b ≡ is_bad refers ids (take (j - i) (drop i v)) → b ≡ true → Some (from + i) ≡ found_of (item_faults refers ids from v)
      search_found b e t = found (test b e ∙ t)

      on_from_lem : bad (first_item (from + i) (drop i v)) ≡ false → Searching v from j
      on_from_lem good =
          let s = spread (drop i v) in
          let on : from + i + s ≡ from + j = omega arith in
          let in_rest : s ≤ length (drop i v) = spread_inside (drop i v) in
          let rest : length (drop i v) ≡ length v - i = length-drop i v in
          record {
            inside = omega arith;
            left =
                split ∙ ap (λ (z : Bool). least (fault_if z (from + i) ++ flat (fault_by bad) (other_items (from + i) (drop i v)))) good ∙
                ap (λ (l : List ℕ). least (flat (fault_by bad) (items_at (from + i + s) l))) (drop-drop s i v ∙ ap (λ (n : ℕ). drop n v) (sym to)) ∙
                ap (λ (n : ℕ). least (flat (fault_by bad) (items_at n (drop j v)))) on;
          }

      pub search_on : (b : Bool) → b ≡ is_bad refers ids (take (j - i) (drop i v)) → b ≡ false → Searching v from j
      search_on b e t = on_from_lem (test b e ∙ t)

      pub search_further : i < j
      unfolding spread
      search_further =
          let some_byte : spread (drop i v) ≡ suc (spread (drop (i + 1) v)) = ap spread (at_i v i h) ∙ rw (sym e ∙ q) refl in
          omega arith

      pub search_within : j ≤ length v
      search_within =
          let in_rest : spread (drop i v) ≤ length (drop i v) = spread_inside (drop i v) in
          let rest : length (drop i v) ≡ length v - i = length-drop i v in
          omega arith

      pub search_less : length v - j < length v - i
      search_less = let l = search_further in omega arith

    pub search_end : length v ≤ i → None ≡ found_of (item_faults refers ids from v)
    unfolding items_at flat least
    search_end h = sym (ap found_of (k.left ∙ ap (λ (l : List ℕ). least (flat (fault_by bad) (items_at (from + i) l))) (drop_of_length-le v h)))
