-- What the values as written read as: the items of a list, and the name in a condition.
use Rattle.std.specs.Prelude.{◌≡◌, Bool, false, not, ◌&&◌, ◌||◌, cond, ℕ, suc, ◌+◌, eqb, length, take, drop}
use Rattle.std.proofs.Math.Path.{refl, ap}
use Rattle.std.proofs.Common.{sym, ◌∙◌, subst, arith, eqb-true}
use Rattle.std.proofs.Math.Bool.{true}
use mathlib.Core.List.{List, [], ◌∷◌, ◌++◌, append-nil, map}
use Rattle.std.proofs.Math.Dec.{leb}
use Rattle.definition.specs.Rows.{same, is_empty}
use Rattle.definition.specs.Names.{is_name, star, dot_star, bare, is_descriptor}
use Rattle.grammar.specs.Grammar.{is_space, is_token}
use Rattle.reading.specs.Faults.{Item, goes_on, grown, items_at, item_bytes, spelt, apostrophe, name_bytes, condition_at, inner, behind_name, is_condition}
use Rattle.reading.specs.Print.{spaced}
use Rattle.laws.specs.Bools.{no, not_so, clash, and_right, or_elim}
use Rattle.laws.specs.Lists.{same_eq}
use Rattle.written.specs.Sound.{AllOf, no_more, more, DescriptorFits}
use Rattle.written.specs.Spelt.{name_is_spelt}
use Rattle.written.specs.Values.{all_both, Bared, whole, starred, bared}

-- ---- items

-- the byte is not white space
pub record Dark (b : ℕ) : Type 0 where
  pub dark : is_space b ≡ false

pub token_dark : (b : ℕ) → is_token b ≡ true → Dark b
token_dark b h = record { dark = not_so (is_space b) (λ e. by e) }
  where
    no_token : (k : ℕ) → is_token k ≡ false → b ≡ k → ⊥
    no_token k f e = clash (is_token b) h (ap is_token e ∙ f)

    by : is_space b ≡ true → ⊥
    by e =
        or_elim (eqb b 32 || eqb b 10 || eqb b 9) (eqb b 13)
        (or_elim (eqb b 32 || eqb b 10) (eqb b 9)
        (or_elim (eqb b 32) (eqb b 10) (λ q. no_token 32 (unfold is_token in refl) (eqb-true b 32 q)) (λ q. no_token 10 (unfold is_token in refl) (eqb-true b 10 q)))
        (λ q. no_token 9 (unfold is_token in refl) (eqb-true b 9 q)))
        (λ q. no_token 13 (unfold is_token in refl) (eqb-true b 13 q)) (unfold is_space in e)

dot_dark : Dark 46
dot_dark = record { dark = unfold is_space in refl }

star_dark : Dark 42
star_dark = record { dark = unfold is_space in refl }

spelt_dark : (n : List ℕ) (fresh : Bool) → spelt fresh n ≡ true → AllOf Dark n
unfolding spelt
spelt_dark [] fresh h = no_more
spelt_dark (b ∷ bs) fresh h = by (is_token b) refl (eqb b 46) refl (not fresh) h (spelt_dark bs false) (spelt_dark bs true)
  where
    by : (t : Bool) → is_token b ≡ t → (d : Bool) → eqb b 46 ≡ d → (f : Bool) → cond t (spelt false bs) (cond (d && f) (spelt true bs) false) ≡ true →
        (spelt false bs ≡ true → AllOf Dark bs) → (spelt true bs ≡ true → AllOf Dark bs) → AllOf Dark (b ∷ bs)
    by true e d g f h i j = more (token_dark b e) (i h)
    by false e true g true h i j = more (subst Dark (sym (eqb-true b 46 g)) dot_dark) (j h)
    by false e true g false h i j = absurd (no h)
    by false e false g f h i j = absurd (no h)

-- an item: bytes, none of them white space
pub record Solid (w : List ℕ) : Type 0 where
  pub full : is_empty w ≡ false
  pub dark : AllOf Dark w

name_full : (v : List ℕ) → is_name v ≡ true → is_empty v ≡ false
unfolding is_name is_empty
name_full [] h = cc
name_full (b ∷ bs) h = refl

pub name_solid : (n : List ℕ) → is_name n ≡ true → Solid n
name_solid n h = record { full = name_full n h; dark = spelt_dark n true (name_is_spelt n h) }

full_both : (xs ys : List ℕ) → is_empty xs ≡ false → is_empty (xs ++ ys) ≡ false
unfolding is_empty
full_both [] ys h = cc
full_both (x ∷ xs) ys h = refl

pub descriptor_solid : (d : List ℕ) → DescriptorFits d → Solid d
descriptor_solid d h =
    or_elim (same d star) (is_name (bare d)) (λ e. subst Solid (sym (same_eq d star e)) star_solid) (λ n. by (bared d) n) (and_right (leb (length d) 63) (same d star || is_name (bare d)) (unfold is_descriptor in h))
  where
    star_solid : Solid star
    star_solid = record { full = unfold is_empty in refl; dark = more star_dark no_more }

    by : Bared d → is_name (bare d) ≡ true → Solid d
    by (whole e) n = subst Solid (sym e) (name_solid (bare d) n)
    by (starred e) n =
        let s = name_solid (bare d) n in
        subst Solid (sym e) (record { full = full_both (bare d) dot_star s.full; dark = all_both s.dark (more dot_dark (more star_dark no_more)) })

-- ---- lists of items

head_of : List (List ℕ) → List ℕ
head_of [] = []
head_of (x ∷ xs) = x

tail_of : List (List ℕ) → List (List ℕ)
tail_of [] = []
tail_of (x ∷ xs) = xs

grown_bytes : (i b : ℕ) (l : List Item) (w : List ℕ) (ws : List (List ℕ)) → map item_bytes l ≡ w ∷ ws → map item_bytes (grown i b l) ≡ (b ∷ w) ∷ ws
unfolding head_of tail_of
grown_bytes i b [] w ws h = absurd (no (sym (ap is_none h)))
  where
    is_none : List (List ℕ) → Bool
    is_none [] = true
    is_none (x ∷ xs) = false
grown_bytes i b (x ∷ xs) w ws h = ap (λ (l : List (List ℕ)). (b ∷ head_of l) ∷ tail_of l) h

shifted : ℕ → List ℕ → ℕ
shifted i [] = i
shifted i (b ∷ bs) = shifted (suc i) bs

-- a byte behind which the item ends, and one behind which it goes on
last_byte : (i b : ℕ) (rest : List ℕ) → is_space b ≡ false → goes_on rest ≡ false → items_at i (b ∷ rest) ≡ record { from = i; bytes = b ∷ [] } ∷ items_at (suc i) rest
unfolding items_at
last_byte i b rest s g = rw (s, g)

next_byte : (i b c : ℕ) (rest : List ℕ) → is_space b ≡ false → is_space c ≡ false → items_at i (b ∷ c ∷ rest) ≡ grown i b (items_at (suc i) (c ∷ rest))
next_byte i b c rest s t = one_step ∙ ap (λ (z : Bool). cond z (items_at (suc i) (c ∷ rest)) (cond (not (is_space c)) (grown i b (items_at (suc i) (c ∷ rest))) (record { from = i; bytes = b ∷ [] } ∷ items_at (suc i) (c ∷ rest)))) s ∙
    ap (λ (z : Bool). cond (not z) (grown i b (items_at (suc i) (c ∷ rest))) (record { from = i; bytes = b ∷ [] } ∷ items_at (suc i) (c ∷ rest))) t
  where
    one_step : items_at i (b ∷ c ∷ rest) ≡ cond (is_space b) (items_at (suc i) (c ∷ rest)) (cond (not (is_space c)) (grown i b (items_at (suc i) (c ∷ rest))) (record { from = i; bytes = b ∷ [] } ∷ items_at (suc i) (c ∷ rest)))
    one_step = unfold items_at in refl

item_onto : (i b : ℕ) (bs rest : List ℕ) → AllOf Dark (b ∷ bs) → goes_on rest ≡ false → map item_bytes (items_at i (b ∷ (bs ++ rest))) ≡ (b ∷ bs) ∷ map item_bytes (items_at (shifted i (b ∷ bs)) rest)
unfolding shifted
item_onto i b [] rest (more d no_more) g = ap (map item_bytes) (last_byte i b rest d.dark g)
item_onto i b (c ∷ bs) rest (more d (more e f)) g =
    ap (map item_bytes) (next_byte i b c (bs ++ rest) d.dark e.dark) ∙
    grown_bytes i b (items_at (suc i) (c ∷ (bs ++ rest))) (c ∷ bs) (map item_bytes (items_at (shifted (suc i) (c ∷ bs)) rest)) (item_onto (suc i) c bs rest (more e f) g)

space_item : (i : ℕ) (rest : List ℕ) → items_at i (32 ∷ rest) ≡ items_at (suc i) rest
unfolding items_at is_space
space_item i rest = refl

solid_onto : (i : ℕ) (w rest : List ℕ) → Solid w → goes_on rest ≡ false → map item_bytes (items_at i (w ++ rest)) ≡ w ∷ map item_bytes (items_at (shifted i w) rest)
solid_onto i [] rest s g = absurd (clash (is_empty {A = ℕ} []) (unfold is_empty in refl) s.full)
solid_onto i (b ∷ bs) rest s g = item_onto i b bs rest s.dark g

no_items : (i : ℕ) → items_at i [] ≡ []
unfolding items_at
no_items i = refl

-- the items of names with one space between are the names
pub items_spaced : (i : ℕ) (ns : List (List ℕ)) → AllOf Solid ns → map item_bytes (items_at i (spaced ns)) ≡ ns
unfolding spaced
items_spaced i [] no_more = ap (map item_bytes) (no_items i)
items_spaced i (n ∷ []) (more s no_more) =
    ap (λ (l : List ℕ). map item_bytes (items_at i l)) (sym (append-nil n)) ∙ solid_onto i n [] s refl ∙ ap (λ (l : List Item). n ∷ map item_bytes l) (no_items (shifted i n))
items_spaced i (n ∷ m ∷ ns) (more s f) =
    solid_onto i n (32 ∷ spaced (m ∷ ns)) s (unfold is_space in refl) ∙
    ap (λ (l : List (List ℕ)). n ∷ l) (ap (map item_bytes) (space_item (shifted i n) (spaced (m ∷ ns))) ∙ items_spaced (suc (shifted i n)) (m ∷ ns) f)

-- ---- the name in a condition

name_byte_end : (v rest : List ℕ) (fresh : Bool) → spelt fresh v ≡ true → name_bytes (v ++ 39 ∷ rest) ≡ length v
unfolding spelt name_bytes
name_byte_end [] rest fresh h = unfold is_token in refl
name_byte_end (b ∷ bs) rest fresh h = by (is_token b) (eqb b 46) (not fresh) h (name_byte_end bs rest false) (name_byte_end bs rest true)
  where
    by : (t d f : Bool) → cond t (spelt false bs) (cond (d && f) (spelt true bs) false) ≡ true → (spelt false bs ≡ true → name_bytes (bs ++ 39 ∷ rest) ≡ length bs) →
        (spelt true bs ≡ true → name_bytes (bs ++ 39 ∷ rest) ≡ length bs) → cond (t || d) (suc (name_bytes (bs ++ 39 ∷ rest))) 0 ≡ suc (length bs)
    by true d f h i j = ap suc (i h)
    by false true true h i j = ap suc (j h)
    by false true false h i j = absurd (no h)
    by false false f h i j = absurd (no h)

take_all : (v rest : List ℕ) → take (length v) (v ++ rest) ≡ v
take_all [] rest = refl
take_all (b ∷ bs) rest = ap (λ (l : List ℕ). b ∷ l) (take_all bs rest)

drop_all : (v rest : List ℕ) → drop (length v) (v ++ rest) ≡ rest
drop_all [] rest = refl
drop_all (b ∷ bs) rest = drop_all bs rest

module _ (v : List ℕ) (h : is_name v ≡ true) where
  abbrev written : List ℕ
  written = 73 ∷ 110 ∷ 40 ∷ 39 ∷ (v ++ 39 ∷ 41 ∷ [])

  counted : name_bytes (v ++ 39 ∷ 41 ∷ []) ≡ length v
  counted = name_byte_end v (41 ∷ []) true (name_is_spelt v h)

  pub in_begins : condition_at written ≡ 4
  unfolding apostrophe same
  in_begins = refl

  pub in_name : inner written ≡ v
  in_name = ap (λ (k : ℕ). take (name_bytes (drop k written)) (drop k written)) in_begins ∙ ap (λ (k : ℕ). take k (v ++ 39 ∷ 41 ∷ [])) counted ∙ take_all v (39 ∷ 41 ∷ [])

  in_behind : behind_name written ≡ 39 ∷ 41 ∷ []
  in_behind =
      ap (λ (k : ℕ). drop (k + name_bytes (drop k written)) written) in_begins ∙ ap (λ (k : ℕ). drop (4 + k) written) counted ∙
      ap (λ (k : ℕ). drop k written) (four_more (length v)) ∙ drop_all v (39 ∷ 41 ∷ [])
    where
      four_more : (k : ℕ) → 4 + k ≡ suc (suc (suc (suc k)))
      four_more k = omega arith

  pub in_condition : is_condition written ≡ true
  unfolding is_condition
  in_condition = rw (in_name, in_behind, name_is_spelt v h) begun
    where
      begun : (same (73 ∷ 110 ∷ 40 ∷ []) (73 ∷ 110 ∷ 40 ∷ []) && leb 1 (apostrophe (39 ∷ (v ++ 39 ∷ 41 ∷ []))) && true && leb 1 (apostrophe (39 ∷ 41 ∷ [])) && same (drop (apostrophe (39 ∷ 41 ∷ [])) (39 ∷ 41 ∷ [])) (41 ∷ [])) ≡ true
      begun = unfold same apostrophe in refl
