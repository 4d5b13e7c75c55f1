-- Names, lists of names, descriptors, numbers and conditions as they are written are values of their kinds.
use Rattle.std.specs.Prelude.{◌≡◌, Bool, true, false, not, ◌&&◌, ◌||◌, cond, List, [], ◌∷◌, ℕ, ◌≤◌, eqb, leb, length}
use Rattle.std.proofs.Math.Path.{refl}
use Rattle.std.proofs.Common.{sym, ap, ◌∙◌, arith, eqb-true, leb-true, le-leb}
use Rattle.definition.specs.Names.{between, is_letter, is_name_byte, is_name}
use Rattle.grammar.specs.Grammar.{is_char, is_token}
use Rattle.reading.specs.Faults.{spelt}
use Rattle.names.specs.Spelling.{name_spelt}
use Rattle.names.specs.Spelling.{spelt as spelt_bytes}
use Rattle.laws.specs.Bools.{and_left, and_right, and_false, or_elim, no, not_so, clash}
use Rattle.written.specs.Sound.{AllOf, no_more, more}

-- ---- bytes

-- a byte of a name is a byte of a token or a dot
pub token_or_dot : (b : ℕ) → is_name_byte b ≡ true → eqb b 46 ≡ false → is_token b ≡ true
unfolding is_name_byte is_token is_letter
token_or_dot b h d = by (between 97 122 b) (between 65 90 b) (between 48 57 b) (eqb b 45) (eqb b 95) (eqb b 46) d h
  where
    by : (a c e f g i : Bool) → i ≡ false → (c || a || e || f || g || i) ≡ true → (a || c || e || f || g) ≡ true
    by true c e f g i d h = refl
    by false true e f g i d h = refl
    by false false true f g i d h = refl
    by false false false true g i d h = refl
    by false false false false true i d h = refl
    by false false false false false i d h = sym d ∙ h

pub dot_no_token : (b : ℕ) → eqb b 46 ≡ true → is_token b ≡ false
dot_no_token b h = ap is_token (eqb-true b 46 h) ∙ dot
  where
    dot : is_token 46 ≡ false
    dot = unfold is_token in refl

to_spelt : (n : List ℕ) (fresh : Bool) → spelt_bytes fresh n ≡ true → spelt fresh n ≡ true
unfolding spelt spelt_bytes
to_spelt [] fresh h = h
to_spelt (b ∷ bs) fresh h = by (eqb b 46) refl fresh h (to_spelt bs true) (to_spelt bs false)
  where
    by : (d : Bool) → eqb b 46 ≡ d → (f : Bool) → (is_name_byte b && not (d && f) && spelt_bytes d bs) ≡ true → (spelt_bytes true bs ≡ true → spelt true bs ≡ true) → (spelt_bytes false bs ≡ true → spelt false bs ≡ true) →
        cond (is_token b) (spelt false bs) (cond (d && not f) (spelt true bs) false) ≡ true
    by true e true h t g = absurd (no (sym (and_false (is_name_byte b)) ∙ and_left (is_name_byte b && false) (spelt_bytes true bs) h))
    by true e false h t g = rw (dot_no_token b e) (t (and_right (is_name_byte b && true) (spelt_bytes true bs) h))
    by false e f h t g = rw (token_or_dot b (and_left (is_name_byte b) true (and_left (is_name_byte b && true) (spelt_bytes false bs) h)) e) (g (and_right (is_name_byte b && true) (spelt_bytes false bs) h))

pub name_is_spelt : (n : List ℕ) → is_name n ≡ true → spelt true n ≡ true
name_is_spelt n h = to_spelt n true (and_right (leb (length n) 63) (spelt_bytes true n) (sym (name_spelt n) ∙ h))

token_range : (b : ℕ) → is_token b ≡ true → (45 ≤ b) × (b ≤ 122)
unfolding is_token
token_range b e =
    or_elim (leb 97 b && leb b 122 || leb 65 b && leb b 90 || leb 48 b && leb b 57 || eqb b 45) (eqb b 95)
    (or_elim (leb 97 b && leb b 122 || leb 65 b && leb b 90 || leb 48 b && leb b 57) (eqb b 45)
    (or_elim (leb 97 b && leb b 122 || leb 65 b && leb b 90) (leb 48 b && leb b 57)
    (or_elim (leb 97 b && leb b 122) (leb 65 b && leb b 90) (λ h. let r = between_is 97 122 b h in (omega arith, omega arith)) (λ h. let r = between_is 65 90 b h in (omega arith, omega arith)))
    (λ h. let r = between_is 48 57 b h in (omega arith, omega arith)))
    (λ h. let r = eqb-true b 45 h in (omega arith, omega arith)))
    (λ h. let r = eqb-true b 95 h in (omega arith, omega arith)) e
  where
    between_is : (lo hi b : ℕ) → (leb lo b && leb b hi) ≡ true → (lo ≤ b) × (b ≤ hi)
    between_is lo hi b e = (leb-true lo b (and_left (leb lo b) (leb b hi) e), leb-true b hi (and_right (leb lo b) (leb b hi) e))

-- a byte in this range is no quote, no "&" and no "<"
pub record Plain (b : ℕ) : Type 0 where
  pub char : is_char b ≡ true
  pub quote : eqb b 34 ≡ false
  pub entity : eqb b 38 ≡ false
  pub less : eqb b 60 ≡ false

pub other : (b k : ℕ) → (b ≡ k → ⊥) → eqb b k ≡ false
other b k h = not_so (eqb b k) (λ e. h (eqb-true b k e))

pub char_in : (b : ℕ) → 32 ≤ b → b ≤ 127 → is_char b ≡ true
unfolding is_char
char_in b l h = rw (le-leb 32 b l, le-leb b 127 h)

pub plain_byte : (b : ℕ) → 39 ≤ b → b ≤ 127 → (b ≡ 60 → ⊥) → Plain b
plain_byte b l h s = record { char = char_in b (omega arith) h; quote = other b 34 (λ e. omega arith); entity = other b 38 (λ e. omega arith); less = other b 60 s }

-- "<" is no byte of a token
pub token_plain : (b : ℕ) → is_token b ≡ true → Plain b
token_plain b h = let r = token_range b h in plain_byte b (let l : 45 ≤ b = r.0 in omega arith) (let l : b ≤ 122 = r.1 in omega arith) (λ e. clash (is_token b) h (ap is_token e ∙ less))
  where
    less : is_token 60 ≡ false
    less = unfold is_token in refl

-- a name has no quote, no "&" and no "<"
pub spelt_plain : (n : List ℕ) (fresh : Bool) → spelt fresh n ≡ true → AllOf Plain n
unfolding spelt
spelt_plain [] fresh h = no_more
spelt_plain (b ∷ bs) fresh h = by (is_token b) refl (eqb b 46) refl (not fresh) h (spelt_plain bs false) (spelt_plain bs true)
  where
    by : (t : Bool) → is_token b ≡ t → (d : Bool) → eqb b 46 ≡ d → (f : Bool) → cond t (spelt false bs) (cond (d && f) (spelt true bs) false) ≡ true →
        (spelt false bs ≡ true → AllOf Plain bs) → (spelt true bs ≡ true → AllOf Plain bs) → AllOf Plain (b ∷ bs)
    by true e d g f h i j = more (token_plain b e) (i h)
    by false e true g true h i j = let dot = eqb-true b 46 g in more (plain_byte b (omega arith) (omega arith) (λ e. omega arith)) (j h)
    by false e true g false h i j = absurd (no h)
    by false e false g f h i j = absurd (no h)
