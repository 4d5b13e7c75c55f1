-- A name judged in one pass over its bytes, and what a name's bytes are not.
use Rattle.std.specs.Prelude.{◌≡◌, Bool, true, false, not, ◌&&◌, cond, List, [], ◌∷◌, ℕ, ◌+◌, ◌≤◌, ◌<◌, eqb, leb, length, get_or, drop}
use Rattle.std.proofs.Math.Path.{refl}
use Rattle.std.proofs.Common.{sym, ◌∙◌, add-one, arith, drop-cons, le-leb, leb-true}
use Rattle.std.proofs.Math.Bool.{and_assoc}
use Rattle.definition.specs.Rows.{all, is_empty, mem}
use Rattle.definition.specs.Names.{Name, between, is_letter, is_name_byte, grow, tokens, is_full, is_name, done_name, starts_well, is_id}
use Rattle.laws.specs.Bools.{and_false, and_left, and3, no, not_so}
use Rattle.laws.specs.Lists.{all_mem}

-- the bytes are the rest of a name; `fresh`: a token has to begin here
unfoldable pub spelt : Bool → Name → Bool
spelt fresh [] = not fresh
spelt fresh (b ∷ bs) = is_name_byte b && not (eqb b 46 && fresh) && spelt (eqb b 46) bs

-- no token is empty; the first one may be where a byte stands before it
abbrev full_from : Bool → List Name → Bool
full_from true ts = all is_full ts
full_from false [] = true
full_from false (t ∷ ts) = all is_full ts

full_grow : (fresh : Bool) (b : ℕ) (ts : List Name) → full_from fresh (grow b ts) ≡ full_from false ts
unfolding grow all is_empty
full_grow true b [] = refl
full_grow false b [] = refl
full_grow true b (t ∷ ts) = refl
full_grow false b (t ∷ ts) = refl

spelt_full : (fresh : Bool) (n : Name) → spelt fresh n ≡ (all is_name_byte n && full_from fresh (tokens n))
unfolding spelt tokens all is_empty
spelt_full true [] = refl
spelt_full false [] = refl
spelt_full fresh (b ∷ bs) = step fresh (is_name_byte b) (eqb b 46) (spelt_full (eqb b 46) bs)
  where
    step : (fresh byte dot : Bool) → spelt dot bs ≡ (all is_name_byte bs && full_from dot (tokens bs)) →
        (byte && not (dot && fresh) && spelt dot bs) ≡ (byte && all is_name_byte bs && full_from fresh (cond dot ([] ∷ tokens bs) (grow b (tokens bs))))
    step fresh false dot ih = refl
    step true true true ih = sym (and_false (all is_name_byte bs))
    step false true true ih = ih
    step true true false ih = ih ∙ rw (full_grow true b (tokens bs))
    step false true false ih = ih ∙ rw (full_grow false b (tokens bs))

-- a name has at most 63 bytes and passes
pub name_spelt : (n : Name) → is_name n ≡ (leb (length n) 63 && spelt true n)
unfolding is_name
name_spelt [] = unfold spelt in refl
name_spelt (b ∷ bs) =
    rw (spelt_full true (b ∷ bs), le-leb 1 (length (b ∷ bs)) (omega arith))
    (and_assoc (leb (length (b ∷ bs)) 63) (all is_name_byte (b ∷ bs)) (all is_full (tokens (b ∷ bs))))

pub name_short : (n : Name) → is_name n ≡ true → length n ≤ 63
name_short n h = leb-true _ _ (and_left (leb (length n) 63) (spelt true n) (sym (name_spelt n) ∙ h))

-- a name has a first byte
pub name_some : (n : Name) → is_name n ≡ true → 0 < length n
unfolding is_name
name_some [] h = absurd (no h)
name_some (b ∷ bs) h = omega arith

-- a name has no zero byte, so it ends in its slot where the zeros begin
pub name_no_zero : (n : Name) → is_name n ≡ true → mem 0 n ≡ false
unfolding is_name is_name_byte is_letter
name_no_zero n h =
    let k = and3 (between 1 63 (length n)) (all is_name_byte n) (all is_full (tokens n)) h in
    not_so (mem 0 n) (λ m. no (all_mem is_name_byte n k.1 0 m))

pub id_name : (n : Name) → is_id n ≡ true → is_name n ≡ true
unfolding is_id
id_name n h = (and3 (is_name n) (starts_well n) (leb (length (done_name n)) 63) h).0

pub done_length : (n : Name) → length (done_name n) ≡ 11 + length n
unfolding done_name
done_length n = omega arith

-- an id leaves room for "done.state." before it
pub id_short : (n : Name) → is_id n ≡ true → length (done_name n) ≤ 63
unfolding is_id
id_short n h = leb-true _ _ (and3 (is_name n) (starts_well n) (leb (length (done_name n)) 63) h).2

-- the pass at the byte i
pub spelt_at : (s : Name) (i : ℕ) (fresh : Bool) → i < length s →
    spelt fresh (drop i s) ≡ (is_name_byte (get_or s i 0) && not (eqb (get_or s i 0) 46 && fresh) && spelt (eqb (get_or s i 0) 46) (drop (i + 1) s))
unfolding spelt
spelt_at s i fresh h = rw (add-one i, drop-cons s i 0 h)
