-- The slots with the names of one value more.
use Rattle.std.specs.Prelude.{◌≡◌, Bool, true, false, ◌||◌, cond, eqb, ltb, length, get_or, take}
use Rattle.std.proofs.Math.Path.{refl, sym, ap, subst}
use Rattle.std.proofs.Common.{◌∙◌, add-one, length-append, length-drop, drop-cons, drop-drop, get_or-take, get_or-drop, take-take, length-take-le, lt-ltb, le-ltb}
use mathlib.Core.List.{List, [], ◌∷◌, ◌++◌, map, append-nil}
use Prim.Native.Nat.{ℕ, zero, suc, ◌+◌, ◌*◌, ◌-◌, ◌^◌, ◌≤◌, ◌<◌}
use native.Mathlib.Omega.{arith}
use Rattle.std.proofs.Math.ListN.{drop, drop_of_length-le}
use Rattle.std.proofs.Math.Seq.{append_snoc}
use Rattle.grammar.specs.Grammar.{is_space}
use Rattle.marks.specs.Grouped.{bytes_from}
use Rattle.reading.specs.Faults.{Item, items_at, item_bytes, names_in, is_among, id_word, event_word, sendid_word}
use Rattle.reading.specs.Content.{place_of, fresh}
use Rattle.values.specs.Ids.{ids_from, ids_length, Index, Noted, noted_all}
use Rattle.values.specs.Places.{id_among}
use Rattle.values.specs.Notes.{NoteRoom, NotedMore}
use Rattle.values.specs.Items.{spread, spread_inside, first_item_lem}
use Rattle.slots.specs.First.{fresh_append, fresh_grows, fresh_known, fresh_new}

-- at most 768 slots; 769 stands for too many, of which 768 are noted
pub record Fits (text slots : List ℕ) (n : ℕ) : Type 0 where
  pub room : length slots ≡ 4864
  pub most : n ≤ 769
  pub short : length text ≤ 32768
  pub noted : ℕ
  pub index : Index text slots noted
  pub all_noted : n ≤ 768 → noted ≡ n
  pub full : 768 < n → noted ≡ 768

-- they are the names of a list, or the list has more
pub record Held (text slots : List ℕ) (n : ℕ) (names : List (List ℕ)) : Type 0 where
  pub are : n ≤ 768 → ids_from text slots n 0 ≡ names
  pub many : 768 < n → 768 < length names

pub record NameIn (text : List ℕ) (from to : ℕ) : Type 0 where
  pub first : from ≤ to
  pub quote : to ≤ length text

pub record AddRoom (text slots : List ℕ) (n from to : ℕ) : Type 0 where
  pub fits : Fits text slots n
  pub name : NameIn text from to

-- names are added behind those that are there
pub record Grows (text slots slots' : List ℕ) (n r : ℕ) (more : List (List ℕ)) : Type 0 where
  pub fits : Fits text slots' r
  pub past : n ≤ r
  pub kept : (c : ℕ) → c < n * 2 → get_or slots' c 0 ≡ get_or slots c 0
  pub held : (names : List (List ℕ)) → Held text slots n names → Held text slots' r (fresh names more)

abbrev pub Added : List ℕ → List ℕ → List ℕ → ℕ → ℕ → ℕ → ℕ → Type 0
Added text slots slots' n from to r = Grows text slots slots' n r (bytes_from text from to ∷ [])

abbrev pub AddedAll : List ℕ → List ℕ → List ℕ → ℕ → ℕ → ℕ → ℕ → Type 0
AddedAll text slots slots' n from to r = Grows text slots slots' n r (names_in (bytes_from text from to))

-- none added
pub grows_none : (text slots : List ℕ) (n : ℕ) → Fits text slots n → Grows text slots slots n n []
unfolding fresh
grows_none text slots n f = record { fits = f; past = omega arith; kept = λ c h. refl; held = λ names h. h }

pub grows_on : (text slots slots' slots'' : List ℕ) (n r s : ℕ) (xs ys : List (List ℕ)) → Grows text slots slots' n r xs → Grows text slots' slots'' r s ys → Grows text slots slots'' n s (xs ++ ys)
grows_on text slots slots' slots'' n r s xs ys a b =
    record {
      fits = b.fits;
      past = let p = a.past in let q = b.past in omega arith;
      kept = λ c h. b.kept c (let p = a.past in omega arith) ∙ a.kept c h;
      held = λ names h. subst (λ (l : List (List ℕ)). Held text slots'' s l) (sym (fresh_append xs names ys)) (b.held (fresh names xs) (a.held names h));
    }

-- ---- one name

module _ (text slots : List ℕ) (n from to : ℕ) (f : Fits text slots n) (i : NameIn text from to) where
  pub add_over : 768 < n → Added text slots slots n from to n
  add_over h =
      record {
        fits = f;
        past = omega arith;
        kept = λ c l. refl;
        held = λ names k. record { are = λ l. absurd (omega arith); many = λ l. let g = fresh_grows (bytes_from text from to ∷ []) names in let m = k.many h in omega arith };
      }

  module _ (few : n ≤ 768) where
    index : Index text slots n
    index = subst (Index text slots) (f.all_noted few) f.index

    pub add_noted : Noted text slots n
    add_noted = noted_all text slots n index

    module _ (place : ℕ) (is : place ≡ place_of (take (to - from) (drop from text)) (ids_from text slots n 0)) where
      among : (names : List (List ℕ)) → Held text slots n names → is_among (bytes_from text from to) names ≡ ltb place n
      among names k = ap (is_among (bytes_from text from to)) (sym (k.are few)) ∙ sym (id_among text slots (bytes_from text from to) n place is)

      pub add_known : place < n → Added text slots slots n from to n
      add_known q =
          record {
            fits = f;
            past = omega arith;
            kept = λ c l. refl;
            held = λ names k. subst (λ (l : List (List ℕ)). Held text slots n l) (sym (fresh_known names (bytes_from text from to) (among names k ∙ lt-ltb place n q))) k;
          }

      new : (names : List (List ℕ)) → Held text slots n names → n ≤ place → fresh names (bytes_from text from to ∷ []) ≡ names ++ bytes_from text from to ∷ []
      new names k q = fresh_new names (bytes_from text from to) (among names k ∙ le-ltb place n q)

      longer : (names : List (List ℕ)) → Held text slots n names → n ≤ place → length (fresh names (bytes_from text from to ∷ [])) ≡ n + 1
      longer names k q =
          ap length (new names k q) ∙ length-append names (bytes_from text from to ∷ []) ∙
          ap (λ (m : ℕ). m + 1) (ap length (sym (k.are few)) ∙ ids_length text slots n 0)

      pub add_full : n ≤ place → n ≡ 768 → Added text slots slots n from to (n + 1)
      add_full q full =
          let e = f.all_noted few in
          record {
            fits =
                record { room = f.room; most = omega arith; short = f.short; noted = f.noted; index = f.index; all_noted = λ l. absurd (omega arith); full = λ l. omega (arith, e, full) };
            past = omega arith;
            kept = λ c l. refl;
            held = λ names k. record { are = λ l. absurd (omega arith); many = λ l. let g = longer names k q in omega arith };
          }

      pub add_room : (n ≡ 768 → ⊥) → NoteRoom text slots n from to place
      add_room ne =
          let r = f.room in
          record { index = index; few = omega arith; room = omega arith; first = i.first; quote = i.quote; short = f.short; place_is = is }

      pub add_new : (slots' : List ℕ) (r : ℕ) → n ≤ place → (n ≡ 768 → ⊥) → NotedMore text slots slots' n from to r → Added text slots slots' n from to r
      add_new slots' r q ne p =
          let one = p.count_is in
          record {
            fits =
                record {
                  room = p.size ∙ f.room;
                  most = omega arith;
                  short = f.short;
                  noted = n + 1;
                  index = p.index;
                  all_noted = λ l. sym one;
                  full = λ l. absurd (omega (arith, l, one, ne, few));
                };
            past = omega arith;
            kept = p.kept;
            held = λ names k.
                record {
                  are = λ l.
                      ap (λ (m : ℕ). ids_from text slots' m 0) one ∙ p.ids_are ∙ ap (λ (s : List (List ℕ)). s ++ bytes_from text from to ∷ []) (k.are few) ∙ sym (new names k q);
                  many = λ l. absurd (omega (arith, l, one, ne, few));
                };
          }

-- ---- the names of a value

at_i : (v : List ℕ) (i : ℕ) → i < length v → drop i v ≡ get_or v i 0 ∷ drop (i + 1) v
at_i v i h = drop-cons v i 0 h ∙ ap (λ (j : ℕ). get_or v i 0 ∷ drop j v) (sym (add-one i))

abbrev names_at : ℕ → List ℕ → List (List ℕ)
names_at k v = map item_bytes (items_at k v)

abbrev pub value_in : List ℕ → ℕ → ℕ → List ℕ
value_in text from to = take (to - from) (drop from text)

value_long : (text : List ℕ) (from to : ℕ) → NameIn text from to → length (value_in text from to) ≡ to - from
value_long text from to h = let a = h.first in let b = h.quote in length-take-le (to - from) (drop from text) (let d = length-drop from text in omega arith)

value_at_lem : (text : List ℕ) (from to i : ℕ) → i < to - from → get_or (value_in text from to) i 0 ≡ get_or text (from + i) 0
value_at_lem text from to i h = get_or-take (to - from) (drop from text) i 0 h ∙ get_or-drop from text i 0

-- a name of the value is one of the text
name_at_lem : (text : List ℕ) (from to i j : ℕ) → i ≤ j → j ≤ to - from → take (j - i) (drop i (value_in text from to)) ≡ bytes_from text (from + i) (from + j)
name_at_lem text from to i j h k =
    let long : from + j - (from + i) ≡ j - i = omega arith in
    take_of_part i (to - from) (j - i) (drop from text) (omega arith) ∙ ap (take (j - i)) (drop-drop i from text) ∙ ap (λ (m : ℕ). take m (drop (from + i) text)) (sym long)
  where
    take_of_part : (i n m : ℕ) (l : List ℕ) → i + m ≤ n → take m (drop i (take n l)) ≡ take m (drop i l)
    take_of_part zero n m l h = take-take m n l (omega arith)
    take_of_part (suc i) zero m l h = absurd (omega arith)
    take_of_part (suc i) (suc n) m [] h = refl
    take_of_part (suc i) (suc n) m (x ∷ xs) h = take_of_part i n m xs (omega arith)

pub record Adding (text slots₀ : List ℕ) (n from to : ℕ) (slots : List ℕ) (r i long : ℕ) : Type 0 where
  pub in_text_lem : NameIn text from to
  pub long_is : long ≡ to - from
  pub within : i ≤ to - from
  pub fits : Fits text slots r
  pub before : List (List ℕ)
  pub grows : Grows text slots₀ slots n r before
  pub left : names_in (bytes_from text from to) ≡ before ++ names_at i (drop i (value_in text from to))

pub adding_start : (text slots : List ℕ) (n from to : ℕ) → Fits text slots n → NameIn text from to → Adding text slots n from to slots n 0 (to - from)
adding_start text slots n from to f h =
    record { in_text_lem = h; long_is = refl; within = let a = h.first in omega arith; fits = f; before = []; grows = grows_none text slots n f; left = refl }

module _ (text slots₀ : List ℕ) (n from to : ℕ) (slots : List ℕ) (r i long : ℕ) (k : Adding text slots₀ n from to slots r i long) where
  pub adding_end : long ≤ i → AddedAll text slots₀ slots n from to r
  unfolding items_at
  adding_end h =
      let l = value_long text from to k.in_text_lem in let e = k.long_is in
      let none : drop i (value_in text from to) ≡ [] = drop_of_length-le (value_in text from to) {i = i} (omega arith) in
      subst (λ (xs : List (List ℕ)). Grows text slots₀ slots n r xs) (sym (k.left ∙ ap (λ (v : List ℕ). k.before ++ names_at i v) none ∙ append-nil k.before)) k.grows

  module _ (h : i < long) where
    inside : i < to - from
    inside = let e = k.long_is in omega arith

    in_value : i < length (value_in text from to)
    in_value = let l = value_long text from to k.in_text_lem in let e = inside in omega arith

    pub adding_inside : i ≤ length (value_in text from to)
    adding_inside = let l = in_value in omega arith

    pub adding_at : from + i < length text
    adding_at = let a = k.in_text_lem.first in let b = k.in_text_lem.quote in let e = inside in omega arith

    pub adding_sum : from + i < 2 ^ 64
    adding_sum = let a = adding_at in let b = k.fits.short in omega arith

    module _ (space : Bool) (is : space ≡ is_space (get_or text (from + i) 0)) where
      same_space : is_space (get_or (value_in text from to) i 0) ≡ space
      same_space = ap is_space (value_at_lem text from to i inside) ∙ sym is

      pub adding_space : space ≡ true → Adding text slots₀ n from to slots r (i + 1) long
      unfolding items_at
      adding_space q =
          let one : suc i ≡ i + 1 = sym (add-one i) in
          let v = value_in text from to in
          record {
            in_text_lem = k.in_text_lem;
            long_is = k.long_is;
            within = let e = inside in omega arith;
            fits = k.fits;
            before = k.before;
            grows = k.grows;
            left =
                k.left ∙ ap (λ (l : List ℕ). k.before ++ names_at i l) (at_i v i in_value) ∙
                rw (same_space ∙ q) (ap (λ (m : ℕ). k.before ++ names_at m (drop (i + 1) v)) one);
          }

      module _ (q : space ≡ false) (j : ℕ) (to_j : j ≡ i + spread (drop i (value_in text from to))) where
        pub adding_within : i ≤ j
        adding_within = omega arith

        pub adding_further : i < j
        unfolding spread
        adding_further =
            let some_byte : spread (drop i (value_in text from to)) ≡ suc (spread (drop (i + 1) (value_in text from to))) = ap spread (at_i (value_in text from to) i in_value) ∙ rw (same_space ∙ q) refl in
            omega arith

        ends : j ≤ to - from
        ends =
            let s = spread_inside (drop i (value_in text from to)) in
            let d : length (drop i (value_in text from to)) ≡ length (value_in text from to) - i = length-drop i (value_in text from to) in
            let l = value_long text from to k.in_text_lem in let e = inside in
            omega arith

        pub adding_name : NameIn text (from + i) (from + j)
        adding_name = let a = k.in_text_lem.first in let b = k.in_text_lem.quote in let e = ends in let f = adding_within in record { first = omega arith; quote = omega arith }

        pub adding_both : AddRoom text slots r (from + i) (from + j)
        adding_both = record { fits = k.fits; name = adding_name }

        pub adding_to : from + j < 2 ^ 64
        adding_to = let a = adding_name.quote in let b = k.fits.short in omega arith

        pub adding_less : to - from - j < to - from - i
        adding_less = let e = ends in let f = adding_further in omega arith

        split : names_at i (drop i (value_in text from to)) ≡ bytes_from text (from + i) (from + j) ∷ names_at j (drop j (value_in text from to))
        split =
            let v = value_in text from to in
            let s = spread (drop i v) in
            let to-j' : i + s ≡ j = sym to_j in
            let step : names_at i (drop i v) ≡ take s (drop i v) ∷ names_at (i + s) (drop s (drop i v)) =
            subst (λ (l : List ℕ). names_at i l ≡ take (spread l) l ∷ names_at (i + spread l) (drop (spread l) l)) (sym (at_i v i in_value))
            (ap (λ (l : List Item). map item_bytes l) (first_item_lem (drop (i + 1) v) i (get_or v i 0) (same_space ∙ q))) in
            let long-s : s ≡ j - i = omega arith in
            step ∙ ap (λ (l : List ℕ). take s (drop i v) ∷ names_at (i + s) l) (drop-drop s i v) ∙ ap (λ (m : ℕ). take s (drop i v) ∷ names_at m (drop m v)) to-j' ∙
            ap (λ (m : ℕ). take m (drop i v) ∷ names_at j (drop j v)) long-s ∙
            ap (λ (x : List ℕ). x ∷ names_at j (drop j v)) (name_at_lem text from to i j adding_within ends)

        pub adding_more : (slots' : List ℕ) (r' : ℕ) → Added text slots slots' r (from + i) (from + j) r' → Adding text slots₀ n from to slots' r' j long
        adding_more slots' r' a =
            record {
              in_text_lem = k.in_text_lem;
              long_is = k.long_is;
              within = ends;
              fits = a.fits;
              before = k.before ++ bytes_from text (from + i) (from + j) ∷ [];
              grows = grows_on text slots₀ slots slots' n r r' k.before (bytes_from text (from + i) (from + j) ∷ []) k.grows a;
              left = k.left ∙ ap (λ (l : List (List ℕ)). k.before ++ l) split ∙ sym (append_snoc k.before (bytes_from text (from + i) (from + j)) (names_at j (drop j (value_in text from to))));
            }

-- ---- a value by its attribute's word

abbrev pub is_use : ℕ → Bool
is_use w = eqb w id_word || eqb w event_word || eqb w sendid_word

abbrev pub ValueIn : List ℕ → List ℕ → List ℕ → ℕ → ℕ → ℕ → ℕ → ℕ → Type 0
ValueIn text slots slots' n w from to r = Grows text slots slots' n r (cond (is_use w) (names_in (bytes_from text from to)) [])

module _ (text slots : List ℕ) (n w from to : ℕ) (z : Bool) (is : z ≡ is_use w) where
  pub value_use : (slots' : List ℕ) (r : ℕ) → z ≡ true → AddedAll text slots slots' n from to r → ValueIn text slots slots' n w from to r
  value_use slots' r q a = subst (λ (y : Bool). Grows text slots slots' n r (cond y (names_in (bytes_from text from to)) [])) (sym q ∙ is) a

  pub value_other : z ≡ false → Fits text slots n → ValueIn text slots slots n w from to n
  value_other q f = subst (λ (y : Bool). Grows text slots slots n n (cond y (names_in (bytes_from text from to)) [])) (sym q ∙ is) (grows_none text slots n f)
