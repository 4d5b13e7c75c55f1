-- The names of a value, one behind the other, each as an item by its place among the ids or the slots.
use Rattle.std.specs.Prelude.{◌≡◌, Bool, true, false, cond, length, get_or, take}
use Rattle.std.proofs.Math.Path.{refl, ap, subst}
use Rattle.std.proofs.Common.{sym, ◌∙◌, add-one, length-drop, drop-cons, drop-drop}
use mathlib.Core.List.{List, [], ◌∷◌, ◌++◌, map, append-nil}
use Prim.Native.Nat.{ℕ, zero, suc, ◌+◌, ◌-◌, ◌^◌, ◌≤◌, ◌<◌}
use native.Mathlib.Omega.{arith}
use Rattle.std.proofs.Math.ListN.{drop, drop_of_length-le}
use Rattle.std.proofs.Math.Seq.{append_snoc}
use Rattle.definition.specs.Rows.{same}
use Rattle.grammar.specs.Grammar.{is_space}
use Rattle.reading.specs.Faults.{Item as Name, item_bytes, goes_on, grown, items_at, names_in}
use Rattle.reading.specs.Content.{place_of}
use Rattle.values.specs.Ids.{id_at, ids_from, Noted}
use Rattle.values.specs.Items.{spread, spread_inside, first_item_lem}
use Rattle.bins.specs.Binned.{Item}
use Rattle.walks.specs.declared.name_items.Filing.{Filing}
use Rattle.walks.specs.Filed.{one, Fileable, FiledBy, filed_none, fileable_first, fileable_rest, filed_both}

-- ---- the names from a byte on

abbrev names_at : ℕ → List ℕ → List (List ℕ)
names_at k v = map item_bytes (items_at k v)

module _ (v : List ℕ) (i : ℕ) (h : i < length v) where
  at_i : drop i v ≡ get_or v i 0 ∷ drop (i + 1) v
  at_i = drop-cons v i 0 h ∙ ap (λ (j : ℕ). get_or v i 0 ∷ drop j v) (sym (add-one i))

  names_space : is_space (get_or v i 0) ≡ true → names_at i (drop i v) ≡ names_at (i + 1) (drop (i + 1) v)
  unfolding items_at
  names_space q = ap (names_at i) at_i ∙ rw q (ap (λ (j : ℕ). names_at j (drop (i + 1) v)) (sym (add-one i)))

  module _ (q : is_space (get_or v i 0) ≡ false) (j : ℕ) (to : j ≡ i + spread (drop i v)) where
    name_ends : j ≤ length v
    name_ends = let s = spread_inside (drop i v) in let d : length (drop i v) ≡ length v - i = length-drop i v in omega arith

    name_further : i < j
    unfolding spread
    name_further = let some_byte : spread (drop i v) ≡ suc (spread (drop (i + 1) v)) = ap spread at_i ∙ rw q refl in omega arith

    names_name : names_at i (drop i v) ≡ take (j - i) (drop i v) ∷ names_at j (drop j v)
    names_name =
        let s = spread (drop i v) in
        let step : names_at i (drop i v) ≡ take s (drop i v) ∷ names_at (i + s) (drop s (drop i v)) =
        subst (λ (l : List ℕ). names_at i l ≡ take (spread l) l ∷ names_at (i + spread l) (drop (spread l) l)) (sym at_i)
        (ap (λ (l : List Name). map item_bytes l) (first_item_lem (drop (i + 1) v) i (get_or v i 0) q)) in
        let to_j : i + s ≡ j = sym to in
        let long : s ≡ j - i = omega arith in
        step ∙ ap (λ (l : List ℕ). take s (drop i v) ∷ names_at (i + s) l) (drop-drop s i v) ∙ ap (λ (m : ℕ). take s (drop i v) ∷ names_at m (drop m v)) to_j ∙
        ap (λ (m : ℕ). take m (drop i v) ∷ names_at j (drop j v)) long

-- no more names than bytes
pub names_few : (v : List ℕ) → length (names_in v) ≤ length v
unfolding items_at
names_few v = by v 0
  where
    grown_few : (i b : ℕ) (xs : List Name) (n : ℕ) → length (map item_bytes xs) ≤ n → length (map item_bytes (grown i b xs)) ≤ suc n
    grown_few i b [] n h = omega arith
    grown_few i b (x ∷ xs) n h = omega arith

    by : (v : List ℕ) (k : ℕ) → length (names_at k v) ≤ length v
    by [] k = omega arith
    by (b ∷ bs) k = cases (is_space b) (goes_on bs) (by bs (suc k))
      where
        cases : (z w : Bool) → length (names_at (suc k) bs) ≤ length bs →
            length (map item_bytes (cond z (items_at (suc k) bs) (cond w (grown k b (items_at (suc k) bs)) ((record { from = k; bytes = b ∷ [] }) ∷ items_at (suc k) bs)))) ≤ suc (length bs)
        cases true w h = omega arith
        cases false true h = grown_few k b (items_at (suc k) bs) (length bs) h
        cases false false h = omega arith

-- ---- a name as a number

abbrev pub numbered : List (List ℕ) → ℕ → List ℕ → ℕ
numbered names shift d = place_of d names + shift

pub place_few : (name text ids : List ℕ) (n k : ℕ) → place_of name (ids_from text ids n k) ≤ n
unfolding place_of ids_from
place_few name text ids zero k = omega arith
place_few name text ids (suc n) k = by (same name (id_at text ids k)) (place_few name text ids n (suc k))
  where
    by : (z : Bool) → place_of name (ids_from text ids n (suc k)) ≤ n → cond z 0 (suc (place_of name (ids_from text ids n (suc k)))) ≤ suc n
    by true h = omega arith
    by false h = omega arith

pub record NameRoom (text names : List ℕ) (n : ℕ) (name out next : List ℕ) (f : Filing) : Type 0 where
  pub noted : Noted text names n
  pub small : f.shift ≤ 1
  pub able : Fileable f.bins f.pass out next (one f.key (numbered (ids_from text names n 0) f.shift name))

module _ (text names : List ℕ) (n : ℕ) (name out next : List ℕ) (f : Filing) (h : NameRoom text names n name out next f) (place : ℕ) (is : place ≡ place_of name (ids_from text names n 0)) where
  pub name_fits : place + f.shift < 2 ^ 64
  name_fits = let p = place_few name text names n 0 in let few = h.noted.few in let s = h.small in omega arith

  module _ (number : ℕ) (so : number ≡ place + f.shift) where
    number_is : numbered (ids_from text names n 0) f.shift name ≡ number
    number_is = ap (λ (p : ℕ). p + f.shift) (sym is) ∙ sym so

    pub name_able : Fileable f.bins f.pass out next (one f.key number)
    name_able = subst (λ (m : ℕ). Fileable f.bins f.pass out next (one f.key m)) number_is h.able

    pub name_filed : (out' next' : List ℕ) → FiledBy f.bins f.pass out out' next next' (one f.key number) →
        FiledBy f.bins f.pass out out' next next' (one f.key (numbered (ids_from text names n 0) f.shift name))
    name_filed out' next' b = subst (λ (m : ℕ). FiledBy f.bins f.pass out out' next next' (one f.key m)) (sym number_is) b

-- ---- the names of a value

unfoldable pub items_by : ℕ → ℕ → List (List ℕ) → List (List ℕ) → List Item
items_by key shift names [] = []
items_by key shift names (d ∷ ds) = record { key = key; value = numbered names shift d } ∷ items_by key shift names ds

by_snoc : (key shift : ℕ) (names ds : List (List ℕ)) (d : List ℕ) → items_by key shift names (ds ++ d ∷ []) ≡ items_by key shift names ds ++ one key (numbered names shift d)
unfolding items_by
by_snoc key shift names [] d = refl
by_snoc key shift names (e ∷ ds) d = ap (λ (l : List Item). record { key = key; value = numbered names shift e } ∷ l) (by_snoc key shift names ds d)

abbrev pub names_items : ℕ → ℕ → List (List ℕ) → List ℕ → List Item
names_items key shift names v = items_by key shift names (names_in v)

pub record NamesRoom (text names : List ℕ) (n : ℕ) (v out next : List ℕ) (f : Filing) : Type 0 where
  pub noted : Noted text names n
  pub small : f.shift ≤ 1
  pub able : Fileable f.bins f.pass out next (names_items f.key f.shift (ids_from text names n 0) v)

pub record Naming (text names : List ℕ) (n : ℕ) (v out₀ next₀ : List ℕ) (f : Filing) (out next : List ℕ) (i : ℕ) : Type 0 where
  pub noted : Noted text names n
  pub small : f.shift ≤ 1
  pub inside : i ≤ length v
  pub before : List (List ℕ)
  pub left : names_in v ≡ before ++ names_at i (drop i v)
  pub filed : FiledBy f.bins f.pass out₀ out next₀ next (items_by f.key f.shift (ids_from text names n 0) before)
  pub able : Fileable f.bins f.pass out next (items_by f.key f.shift (ids_from text names n 0) (names_at i (drop i v)))

pub naming_start : (text names : List ℕ) (n : ℕ) (v out next : List ℕ) (f : Filing) → NamesRoom text names n v out next f → Naming text names n v out next f out next 0
unfolding items_by
naming_start text names n v out next f h =
    record { noted = h.noted; small = h.small; inside = omega arith; before = []; left = refl; filed = filed_none f.bins f.pass out next; able = h.able }

module _ (text names : List ℕ) (n : ℕ) (v out₀ next₀ : List ℕ) (f : Filing) (out next : List ℕ) (i : ℕ) (k : Naming text names n v out₀ next₀ f out next i) where
  abbrev items_of : List (List ℕ) → List Item
  items_of ds = items_by f.key f.shift (ids_from text names n 0) ds

  pub naming_end : length v ≤ i → FiledBy f.bins f.pass out₀ out next₀ next (names_items f.key f.shift (ids_from text names n 0) v)
  unfolding items_at
  naming_end h =
      let none : drop i v ≡ [] = drop_of_length-le v {i = i} h in
      subst (λ (ds : List (List ℕ)). FiledBy f.bins f.pass out₀ out next₀ next (items_of ds)) (sym (k.left ∙ ap (λ (l : List ℕ). k.before ++ names_at i l) none ∙ append-nil k.before)) k.filed

  module _ (h : i < length v) (space : Bool) (is : space ≡ is_space (get_or v i 0)) where
    pub naming_space : space ≡ true → Naming text names n v out₀ next₀ f out next (i + 1)
    naming_space q =
        let e = names_space v i h (sym is ∙ q) in
        record {
          noted = k.noted;
          small = k.small;
          inside = omega arith;
          before = k.before;
          left = k.left ∙ ap (λ (ds : List (List ℕ)). k.before ++ ds) e;
          filed = k.filed;
          able = subst (λ (ds : List (List ℕ)). Fileable f.bins f.pass out next (items_of ds)) e k.able;
        }

    module _ (q : space ≡ false) (j : ℕ) (to : j ≡ i + spread (drop i v)) where
      pub naming_ends : j ≤ length v
      naming_ends = name_ends v i h (sym is ∙ q) j to

      pub naming_less : length v - j < length v - i
      naming_less = let a = name_further v i h (sym is ∙ q) j to in let b = naming_ends in omega arith

      parted : items_of (names_at i (drop i v)) ≡ one f.key (numbered (ids_from text names n 0) f.shift (take (j - i) (drop i v))) ++ items_of (names_at j (drop j v))
      unfolding items_by
      parted = ap items_of (names_name v i h (sym is ∙ q) j to)

      able : Fileable f.bins f.pass out next (one f.key (numbered (ids_from text names n 0) f.shift (take (j - i) (drop i v))) ++ items_of (names_at j (drop j v)))
      able = subst (λ (xs : List Item). Fileable f.bins f.pass out next xs) parted k.able

      pub naming_room : NameRoom text names n (take (j - i) (drop i v)) out next f
      naming_room =
          record {
            noted = k.noted;
            small = k.small;
            able = fileable_first f.bins f.pass out next (one f.key (numbered (ids_from text names n 0) f.shift (take (j - i) (drop i v)))) (items_of (names_at j (drop j v))) able;
          }

      pub naming_more : (out' next' : List ℕ) →
          FiledBy f.bins f.pass out out' next next' (one f.key (numbered (ids_from text names n 0) f.shift (take (j - i) (drop i v)))) →
          Naming text names n v out₀ next₀ f out' next' j
      naming_more out' next' b =
          record {
            noted = k.noted;
            small = k.small;
            inside = naming_ends;
            before = k.before ++ name ∷ [];
            left = k.left ∙ ap (λ (ds : List (List ℕ)). k.before ++ ds) (names_name v i h (sym is ∙ q) j to) ∙ sym (append_snoc k.before name (names_at j (drop j v)));
            filed =
                subst (λ (xs : List Item). FiledBy f.bins f.pass out₀ out' next₀ next' xs) (sym (by_snoc f.key f.shift (ids_from text names n 0) k.before name))
                (filed_both f.bins f.pass out₀ next₀ out next out' next' (items_of k.before) (one f.key (numbered (ids_from text names n 0) f.shift name)) k.filed b);
            able = fileable_rest f.bins f.pass out next (one f.key (numbered (ids_from text names n 0) f.shift name)) (items_of (names_at j (drop j v))) able out' next' b;
          }
        where
          name : List ℕ
          name = take (j - i) (drop i v)
