-- Names, lists of names, descriptors and free values as they are written pass as values of their kinds.
use Rattle.std.specs.Prelude.{◌≡◌, Bool, false, not, ◌&&◌, ◌||◌, cond, ℕ, eqb, leb, length}
use Rattle.std.proofs.Math.Path.{refl, ap}
use Rattle.std.proofs.Common.{sym, ◌∙◌, arith, eqb-true}
use Rattle.std.proofs.Math.Bool.{true}
use mathlib.Core.List.{List, [], ◌∷◌, ◌++◌, append_assoc, append-nil}
use Rattle.definition.specs.Rows.{same, is_empty}
use Rattle.definition.specs.Names.{is_name, star, dot_star, bare, is_descriptor}
use Rattle.grammar.specs.Grammar.{is_space, is_char, is_token, name_step, value_step, value_ends}
use Rattle.reading.specs.Faults.{spelt}
use Rattle.reading.specs.Print.{spaced}
use Rattle.laws.specs.Bools.{and_right, or_elim, no}
use Rattle.laws.specs.Lists.{same_eq}
use Rattle.written.specs.Walks.{reads}
use Rattle.written.specs.Sound.{AllOf, no_more, more, DescriptorFits}
use Rattle.written.specs.Spelt.{Plain, token_plain, plain_byte, name_is_spelt}

-- one byte more
reads_more : (kind v b : ℕ) (bs : List ℕ) (w : ℕ) → is_char b ≡ true → eqb b 34 ≡ false → eqb b 38 ≡ false → value_step kind v b ≡ w → eqb w 5 ≡ false → reads kind w bs ≡ true → reads kind v (b ∷ bs) ≡ true
unfolding reads
reads_more kind v b bs w c q e s g r = rw (c, q, e, s, g) r

-- ---- free values

free_step : (b : ℕ) → eqb b 60 ≡ false → value_step 0 0 b ≡ 0
unfolding value_step
free_step b h = rw h

pub reads_free : (bs : List ℕ) → AllOf Plain bs → reads 0 0 bs ≡ true
reads_free [] no_more = unfold reads value_ends in refl
reads_free (b ∷ bs) (more p m) = reads_more 0 0 b bs 0 p.char p.quote p.entity (free_step b p.less) refl (reads_free bs m)

pub all_both : {A : Type 0} {P : A → Type 0} {xs ys : List A} → AllOf P xs → AllOf P ys → AllOf P (xs ++ ys)
all_both no_more g = g
all_both (more p f) g = more p (all_both f g)

-- ---- names

-- the kinds of values that are names
pub data Names : ℕ → Type 0 where
  one_name : Names 1
  some_names : Names 2
  descriptors : Names 3

token_step : (kind v b : ℕ) → Names kind → is_token b ≡ true → leb v 3 ≡ true → value_step kind v b ≡ 1
unfolding value_step name_step
token_step kind v b one_name t l = rw (t, l)
token_step kind v b some_names t l = rw (t, l)
token_step kind v b descriptors t l = rw (t, l)

dot_step : (kind : ℕ) → Names kind → value_step kind 1 46 ≡ 2
unfolding value_step name_step is_token
dot_step kind one_name = refl
dot_step kind some_names = refl
dot_step kind descriptors = refl

dot_plain : Plain 46
dot_plain = plain_byte 46 (omega arith) (omega arith) (λ e. omega arith)

-- a token begins in the states 0, 2 and 3, and goes on in 1
abbrev Fresh : Bool → ℕ → Type 0
Fresh true v = leb v 3 ≡ true
Fresh false v = v ≡ 1

fresh_low : (fresh : Bool) (v : ℕ) → Fresh fresh v → leb v 3 ≡ true
fresh_low true v h = h
fresh_low false v h = ap (λ (k : ℕ). leb k 3) h

spelt_reads : (kind : ℕ) → Names kind → (n rest : List ℕ) (fresh : Bool) (v : ℕ) → spelt fresh n ≡ true → Fresh fresh v → reads kind 1 rest ≡ true → reads kind v (n ++ rest) ≡ true
unfolding spelt
spelt_reads kind k [] rest true v s f r = absurd (no s)
spelt_reads kind k [] rest false v s f r = ap (λ (w : ℕ). reads kind w rest) f ∙ r
spelt_reads kind k (b ∷ bs) rest fresh v s f r =
    by (is_token b) refl (eqb b 46) refl fresh s f (λ h. spelt_reads kind k bs rest false 1 h refl r) (λ h. spelt_reads kind k bs rest true 2 h refl r)
  where
    by : (t : Bool) → is_token b ≡ t → (d : Bool) → eqb b 46 ≡ d → (z : Bool) → cond t (spelt false bs) (cond (d && not z) (spelt true bs) false) ≡ true → Fresh z v →
        (spelt false bs ≡ true → reads kind 1 (bs ++ rest) ≡ true) → (spelt true bs ≡ true → reads kind 2 (bs ++ rest) ≡ true) → reads kind v (b ∷ (bs ++ rest)) ≡ true
    by true e d g z h f i j =
        let p = token_plain b e in
        reads_more kind v b (bs ++ rest) 1 p.char p.quote p.entity (token_step kind v b k e (fresh_low z v f)) refl (i h)
    by false e true g true h f i j = absurd (no h)
    by false e true g false h f i j =
        let dot = eqb-true b 46 g in
        ap (λ (w : ℕ). reads kind w (b ∷ (bs ++ rest))) f ∙ ap (λ (y : ℕ). reads kind 1 (y ∷ (bs ++ rest))) dot ∙
        reads_more kind 1 46 (bs ++ rest) 2 dot_plain.char dot_plain.quote dot_plain.entity (dot_step kind k) refl (j h)
    by false e false g z h f i j = absurd (no h)

name_onto : (kind : ℕ) → Names kind → (n rest : List ℕ) (v : ℕ) → is_name n ≡ true → leb v 3 ≡ true → reads kind 1 rest ≡ true → reads kind v (n ++ rest) ≡ true
name_onto kind k n rest v h l r = spelt_reads kind k n rest true v (name_is_spelt n h) l r

-- a name
pub reads_name : (n : List ℕ) → is_name n ≡ true → reads 1 0 n ≡ true
reads_name n h = ap (λ (l : List ℕ). reads 1 0 l) (sym (append-nil n)) ∙ name_onto 1 one_name n [] 0 h refl (unfold reads value_ends in refl)

-- ---- lists

abbrev pub NameFits : List ℕ → Type 0
NameFits n = is_name n ≡ true

-- behind an item, in state w, a space leads to state 3
space_reads : (kind w : ℕ) (bs : List ℕ) → value_step kind w 32 ≡ 3 → reads kind 3 bs ≡ true → reads kind w (32 ∷ bs) ≡ true
space_reads kind w bs s r = reads_more kind w 32 bs 3 (unfold is_char in refl) refl refl s refl r

names_from : (n : List ℕ) (ns : List (List ℕ)) (v : ℕ) → leb v 3 ≡ true → AllOf NameFits (n ∷ ns) → reads 2 v (spaced (n ∷ ns)) ≡ true
unfolding spaced
names_from n [] v l (more h no_more) = ap (λ (k : List ℕ). reads 2 v k) (sym (append-nil n)) ∙ name_onto 2 some_names n [] v h l (unfold reads value_ends in refl)
names_from n (m ∷ ns) v l (more h t) =
    name_onto 2 some_names n (32 ∷ spaced (m ∷ ns)) v h l (space_reads 2 1 (spaced (m ∷ ns)) (unfold value_step name_step is_token is_space in refl) (names_from m ns 3 refl t))

pub reads_names : (ns : List (List ℕ)) → is_empty ns ≡ false → AllOf NameFits ns → reads 2 0 (spaced ns) ≡ true
unfolding is_empty
reads_names [] e f = cc
reads_names (n ∷ ns) e f = names_from n ns 0 refl f

-- ---- descriptors

-- a descriptor without its ".*" has it behind, or is whole
pub data Bared (d : List ℕ) : Type 0 where
  whole : d ≡ bare d → Bared d
  starred : d ≡ bare d ++ dot_star → Bared d

pub bared : (d : List ℕ) → Bared d
bared [] = whole (unfold bare in refl)
bared (b ∷ bs) = by (same (b ∷ bs) dot_star) refl (bared bs)
  where
    there : (z : Bool) → same (b ∷ bs) dot_star ≡ z → bare (b ∷ bs) ≡ cond z [] (b ∷ bare bs)
    there z e = shown ∙ ap (λ (y : Bool). cond y [] (b ∷ bare bs)) e
      where
        shown : bare (b ∷ bs) ≡ cond (same (b ∷ bs) dot_star) [] (b ∷ bare bs)
        shown = unfold bare in refl

    by : (z : Bool) → same (b ∷ bs) dot_star ≡ z → Bared bs → Bared (b ∷ bs)
    by true e m = starred (same_eq (b ∷ bs) dot_star e ∙ ap (λ (l : List ℕ). l ++ dot_star) (sym (there true e)))
    by false e (whole q) = whole (ap (λ (l : List ℕ). b ∷ l) q ∙ sym (there false e))
    by false e (starred q) = starred (ap (λ (l : List ℕ). b ∷ l) q ∙ ap (λ (l : List ℕ). l ++ dot_star) (sym (there false e)))

star_plain : Plain 42
star_plain = plain_byte 42 (omega arith) (omega arith) (λ e. omega arith)

star_reads : (v : ℕ) (rest : List ℕ) → value_step 3 v 42 ≡ 4 → reads 3 4 rest ≡ true → reads 3 v (42 ∷ rest) ≡ true
star_reads v rest s r = reads_more 3 v 42 rest 4 star_plain.char star_plain.quote star_plain.entity s refl r

descriptor_onto : (d rest : List ℕ) (v : ℕ) → DescriptorFits d → leb v 3 ≡ true → value_step 3 v 42 ≡ 4 → reads 3 1 rest ≡ true → reads 3 4 rest ≡ true → reads 3 v (d ++ rest) ≡ true
descriptor_onto d rest v h l s r q =
    or_elim (same d star) (is_name (bare d)) (λ e. ap (λ (k : List ℕ). reads 3 v (k ++ rest)) (same_eq d star e) ∙ star_reads v rest s q) (λ n. by (bared d) n)
    (and_right (leb (length d) 63) (same d star || is_name (bare d)) (unfold is_descriptor in h))
  where
    by : Bared d → is_name (bare d) ≡ true → reads 3 v (d ++ rest) ≡ true
    by (whole e) n = ap (λ (k : List ℕ). reads 3 v (k ++ rest)) e ∙ name_onto 3 descriptors (bare d) rest v n l r
    by (starred e) n =
        ap (λ (k : List ℕ). reads 3 v (k ++ rest)) e ∙ ap (λ (k : List ℕ). reads 3 v k) (append_assoc (bare d) dot_star rest) ∙
        name_onto 3 descriptors (bare d) (46 ∷ 42 ∷ rest) v n l
        (reads_more 3 1 46 (42 ∷ rest) 2 dot_plain.char dot_plain.quote dot_plain.entity (dot_step 3 descriptors) refl
        (star_reads 2 rest (unfold value_step name_step is_token is_space in refl) q))

descriptors_from : (d : List ℕ) (ds : List (List ℕ)) (v : ℕ) → leb v 3 ≡ true → value_step 3 v 42 ≡ 4 → AllOf DescriptorFits (d ∷ ds) → reads 3 v (spaced (d ∷ ds)) ≡ true
unfolding spaced
descriptors_from d [] v l s (more h no_more) =
    ap (λ (k : List ℕ). reads 3 v k) (sym (append-nil d)) ∙ descriptor_onto d [] v h l s (unfold reads value_ends in refl) (unfold reads value_ends in refl)
descriptors_from d (e ∷ ds) v l s (more h t) =
    let m : reads 3 3 (spaced (e ∷ ds)) ≡ true = descriptors_from e ds 3 refl (unfold value_step name_step is_token is_space in refl) t in
    descriptor_onto d (32 ∷ spaced (e ∷ ds)) v h l s (space_reads 3 1 (spaced (e ∷ ds)) (unfold value_step name_step is_token is_space in refl) m)
    (space_reads 3 4 (spaced (e ∷ ds)) (unfold value_step name_step is_token is_space in refl) m)

pub reads_descriptors : (ds : List (List ℕ)) → is_empty ds ≡ false → AllOf DescriptorFits ds → reads 3 0 (spaced ds) ≡ true
unfolding is_empty
reads_descriptors [] e f = cc
reads_descriptors (d ∷ ds) e f = descriptors_from d ds 0 refl (unfold value_step name_step is_token is_space in refl) f
