-- A key of an id: any function of its slot's bytes serves, since slots of different keys differ.
use Rattle.std.specs.Prelude.{◌≡◌, refl, true, false, List, ℕ, zero, suc, ◌+◌, ◌*◌, ◌/◌, ◌%◌, ◌^◌, ◌<◌, ◌≤◌, get_or, Option, Some, None}
use Rattle.std.proofs.Common.{ap, ◌∙◌, add-one, arith}
use Rattle.std.specs.Int.Bits.{bit_or, bit_xor}
use Rattle.definition.specs.Tables.{id_at, slot_at}
use Rattle.tables.specs.Parts.{IdOf, SlotOf}
use Rattle.rules1.specs.Ids.{is_id_of}

abbrev pub keys : ℕ
keys = 1024

-- byte i of a slot, moved up by so many bits of a word
abbrev pub moved_at : List ℕ → ℕ → ℕ → ℕ
moved_at s i n = get_or s i 0 * 2 ^ n % 2 ^ 64

-- eight bytes as a word, the first one lowest
unfoldable pub word_at : List ℕ → ℕ → ℕ
word_at s i =
    bit_or (bit_or (bit_or (bit_or (bit_or (bit_or (bit_or (get_or s i 0) (moved_at s (i + 1) 8)) (moved_at s (i + 2) 16)) (moved_at s (i + 3) 24)) (moved_at s (i + 4) 32)) (moved_at s (i + 5) 40)) (moved_at s (i + 6) 48)) (moved_at s (i + 7) 56)

-- the words before, turned, and the next one
unfoldable pub mix_of : ℕ → ℕ → ℕ
mix_of k w = bit_xor (bit_or (k * 2 ^ 23 % 2 ^ 64) (k / 2 ^ 41)) w

unfoldable pub squeeze_of : ℕ → ℕ
squeeze_of k = bit_xor k (k / 2 ^ 32) % 4294967296 * 2654435769 / 2 ^ 22 % 1024

-- the first j words of a slot
unfoldable pub mixed_to : List ℕ → ℕ → ℕ
mixed_to s zero = 0
mixed_to s (suc j) = mix_of (mixed_to s j) (word_at s (j * 8))

unfoldable pub slot_key : List ℕ → ℕ
slot_key s = squeeze_of (mixed_to s 8)

unfoldable pub key_at : List ℕ → List ℕ → ℕ → ℕ
key_at numbers names i = slot_key (slot_at names (id_at numbers i))

pub mixed_begin : (s : List ℕ) → 0 ≡ mixed_to s 0
unfolding mixed_to
mixed_begin s = refl

pub mixed_turn : (s : List ℕ) (j k w r : ℕ) → k ≡ mixed_to s j → w ≡ word_at s (j * 8) → r ≡ mix_of k w → r ≡ mixed_to s (j + 1)
unfolding mixed_to
mixed_turn s j k w r e f g = g ∙ rw (add-one j, e, f)

pub mixed_done : (s : List ℕ) (j k r : ℕ) → j ≤ 8 → 8 ≤ j → k ≡ mixed_to s j → r ≡ squeeze_of k → r ≡ slot_key s
unfolding slot_key
mixed_done s j k r l m e f = let q : j ≡ 8 = omega arith in f ∙ ap squeeze_of (e ∙ ap (mixed_to s) q)

-- the key of a row's id, as it was read
pub key_of_row : (numbers names : List ℕ) (i n k : ℕ) (xs : List ℕ) → IdOf numbers i n → SlotOf names n xs → k ≡ slot_key xs → k ≡ key_at numbers names i
unfolding key_at
key_of_row numbers names i n k xs o a e = e ∙ rw (a.is, o.is)

-- what was found is the key of row i's id, or it has none
pub record KeyOf (numbers names : List ℕ) (i : ℕ) (k : Option ℕ) : Type 0 where
  pub none : k ≡ None → is_id_of numbers names i ≡ false
  pub some : (n : ℕ) → k ≡ Some n → (n < keys) × (is_id_of numbers names i ≡ true) × (n ≡ key_at numbers names i)

module _ (numbers names : List ℕ) (i : ℕ) where
  pub key_none : is_id_of numbers names i ≡ false → KeyOf numbers names i None
  key_none h = record { none = λ e. h; some = λ n e. absurd (let z : ⊥ = cc in z) }

  pub key_some : (k : ℕ) → is_id_of numbers names i ≡ true → k ≡ key_at numbers names i → k < keys → KeyOf numbers names i (Some k)
  key_some k h e l = record { none = λ q. absurd (let z : ⊥ = cc in z); some = λ n q. let w : k ≡ n = cc in rw (← w) (l, h, e) }
