-- What entities stand for is in no value that exists but cond: such a value is itself with its entities read.
use Rattle.std.specs.Prelude.{◌≡◌, refl, Bool, true, false, not, ◌&&◌, ◌||◌, cond, List, [], ◌∷◌, ◌++◌, ℕ, eqb}
use Rattle.std.proofs.Common.{sym, ap, ◌∙◌, arith, eqb-true}
use Rattle.std.proofs.Math.Option.{none, some}
use Rattle.definition.specs.Rows.{same}
use Rattle.reading.specs.Faults.{entity_byte, decoded, plain, namespace, version_text, types_of, is_among, external, internal, shallow, deep}

-- the bytes that entities stand for: & < > " '
abbrev pub is_markup_byte : ℕ → Bool
is_markup_byte b = eqb b 38 || eqb b 60 || eqb b 62 || eqb b 34 || eqb b 39

-- none of them is in the list
unfoldable pub is_clear : List ℕ → Bool
is_clear [] = true
is_clear (b ∷ bs) = not (is_markup_byte b) && is_clear bs

stands_for_lem : (a b c d : Bool) → is_markup_byte (cond a 38 (cond b 60 (cond c 62 (cond d 34 39)))) ≡ true
stands_for_lem true b c d = refl
stands_for_lem false true c d = refl
stands_for_lem false false true d = refl
stands_for_lem false false false true = refl
stands_for_lem false false false false = refl

entity_byte_lem : (w : List ℕ) → is_markup_byte (entity_byte w) ≡ true
entity_byte_lem w =
    stands_for_lem (same w (97 ∷ 109 ∷ 112 ∷ [])) (same w (108 ∷ 116 ∷ [])) (same w (103 ∷ 116 ∷ [])) (same w (113 ∷ 117 ∷ 111 ∷ 116 ∷ []))

clear_head : (a b : Bool) → (not a && b) ≡ true → a ≡ false
clear_head true b e = sym e
clear_head false b e = refl

clear_tail : (a b : Bool) → (not a && b) ≡ true → b ≡ true
clear_tail true b e = absurd (let z : ◌≡◌ {A = ℕ} 0 1 = cc in omega arith)
clear_tail false b e = e

-- a list that begins with such a byte is no clear one
other : (x : ℕ) (xs c : List ℕ) → is_markup_byte x ≡ true → is_clear c ≡ true → same (x ∷ xs) c ≡ false
unfolding same is_clear
other x xs [] m ok = refl
other x xs (d ∷ ds) m ok = by (eqb x d) refl
  where
    by : (z : Bool) → eqb x d ≡ z → (z && same xs ds) ≡ false
    by true e =
        let there : is_markup_byte d ≡ true = ap is_markup_byte (sym (eqb-true x d e)) ∙ m in
        let not_there : is_markup_byte d ≡ false = clear_head (is_markup_byte d) (is_clear ds) ok in
        absurd (let z : true ≡ false = sym there ∙ not_there in let z2 : ◌≡◌ {A = ℕ} 0 1 = cc in omega arith)
    by false e = refl

-- what is read of an entity on begins with such a byte
entity_other : (bs w c : List ℕ) → is_clear c ≡ true → same (decoded (some w) bs) c ≡ false
unfolding decoded
entity_other [] w c ok = other (entity_byte w) [] c (entity_byte_lem w) ok
entity_other (b ∷ bs) w c ok = by (eqb b 59) (entity_other bs (w ++ b ∷ []) c ok)
  where
    by : (z : Bool) → same (decoded (some (w ++ b ∷ [])) bs) c ≡ false → same (cond z (entity_byte w ∷ decoded none bs) (decoded (some (w ++ b ∷ [])) bs)) c ≡ false
    by true h = other (entity_byte w) (decoded none bs) c (entity_byte_lem w) ok
    by false h = h

pub plain_same : (v c : List ℕ) → is_clear c ≡ true → same (plain v) c ≡ same v c
unfolding decoded same is_clear
plain_same [] c ok = refl
plain_same (b ∷ bs) [] ok = by (eqb b 38) refl
  where
    by : (z : Bool) → eqb b 38 ≡ z → same (cond z (decoded (some []) bs) (b ∷ decoded none bs)) [] ≡ false
    by true e = entity_other bs [] [] refl
    by false e = refl
plain_same (b ∷ bs) (d ∷ ds) ok = by (eqb b 38) refl (plain_same bs ds (clear_tail (is_markup_byte d) (is_clear ds) ok))
  where
    by : (z : Bool) → eqb b 38 ≡ z → same (plain bs) ds ≡ same bs ds → same (cond z (decoded (some []) bs) (b ∷ decoded none bs)) (d ∷ ds) ≡ (eqb b d && same bs ds)
    by true e h = entity_other bs [] (d ∷ ds) ok ∙ sym (other b bs (d ∷ ds) (rw e refl) ok)
    by false e h = ap (λ (z : Bool). eqb b d && z) h

pub namespace_so : (v : List ℕ) (r : Bool) → r ≡ same v namespace → r ≡ same (plain v) namespace
unfolding is_clear
namespace_so v r e = e ∙ sym (plain_same v namespace refl)

pub version_so : (v : List ℕ) (r : Bool) → r ≡ same v version_text → r ≡ same (plain v) version_text
unfolding is_clear
version_so v r e = e ∙ sym (plain_same v version_text refl)

or_false : (a b : Bool) → (a || b) ≡ (a || (b || false))
or_false true b = refl
or_false false true = refl
or_false false false = refl

pub history_so : (v : List ℕ) (e : ℕ) (h a b : Bool) → h ≡ eqb e 4 → h ≡ true → a ≡ same v shallow → b ≡ same v deep → (a || b) ≡ is_among (plain v) (types_of e)
unfolding is_among is_clear
history_so v e h a b t th ea eb =
    rw (sym t ∙ th, plain_same v shallow refl, plain_same v deep refl, ea, eb) (or_false (same v shallow) (same v deep))

pub transition_so : (v : List ℕ) (e : ℕ) (h a b : Bool) → h ≡ eqb e 4 → h ≡ false → a ≡ same v external → b ≡ same v internal → (a || b) ≡ is_among (plain v) (types_of e)
unfolding is_among is_clear
transition_so v e h a b t th ea eb =
    rw (sym t ∙ th, plain_same v external refl, plain_same v internal refl, ea, eb) (or_false (same v external) (same v internal))
