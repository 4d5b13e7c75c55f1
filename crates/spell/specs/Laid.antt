-- A text laid over a place, byte by byte, as far as the place and the reader's 32,768 bytes go. Of a text that goes further the end alone is known: one place behind
-- the longest text's.
use Rattle.std.specs.Prelude.{◌≡◌, Bool, List, [], ◌∷◌, ◌++◌, ℕ, ◌+◌, ◌≤◌, ◌<◌, ltb, leb, length, get_or, drop, set}
use Rattle.std.proofs.Math.Path.{refl, sym}
use Rattle.std.proofs.Common.{ap, ap₂, ◌∙◌, add-one, arith, drop_of_length-le, drop-cons, lt-ltb, le-ltb, le-leb}
use Rattle.std.proofs.Math.Bool.{true, false, cond}
use Rattle.std.proofs.Math.ListN.{length-set}
use Rattle.std.proofs.Math.Seq.{set_out}
use Rattle.std.proofs.lemmas.Bool.{lt-leb}

abbrev pub longest : ℕ
longest = 32768

-- a byte at a place; `set` writes none behind the list's end
unfoldable pub put : List ℕ → ℕ → ℕ → List ℕ
put out at b = cond (ltb at longest) (set out at b) out

unfoldable pub step : ℕ → ℕ
step at = cond (leb at longest) (at + 1) at

unfoldable pub laid : List ℕ → List ℕ → ℕ → List ℕ
laid [] out at = out
laid (b ∷ bs) out at = laid bs (put out at b) (step at)

unfoldable pub after : List ℕ → ℕ → ℕ
after [] at = at
after (b ∷ bs) at = after bs (step at)

-- the place and the end, with the text laid over the place from there on
pub record Laid (text place : List ℕ) (from : ℕ) (out : List ℕ) (at : ℕ) : Type 0 where
  pub is : out ≡ laid text place from
  pub next : at ≡ after text from
  pub size : length out ≡ length place

-- ---- one text behind the other

laid_both : (x y place : List ℕ) (from : ℕ) → laid (x ++ y) place from ≡ laid y (laid x place from) (after x from)
unfolding laid after
laid_both [] y place from = refl
laid_both (b ∷ x) y place from = laid_both x y (put place from b) (step from)

after_both : (x y : List ℕ) (from : ℕ) → after (x ++ y) from ≡ after y (after x from)
unfolding after
after_both [] y from = refl
after_both (b ∷ x) y from = after_both x y (step from)

pub laid_none : {out : List ℕ} {at : ℕ} → Laid [] out at out at
laid_none = record { is = unfold laid in refl; next = unfold after in refl; size = refl }

pub laid_as : {text other place out : List ℕ} {from at : ℕ} → text ≡ other → Laid other place from out at → Laid text place from out at
laid_as {place = place} {from = from} e l = record { is = l.is ∙ ap (λ (t : List ℕ). laid t place from) (sym e); next = l.next ∙ ap (λ (t : List ℕ). after t from) (sym e); size = l.size }

pub laid_then : {x y place between out : List ℕ} {from middle at : ℕ} → Laid x place from between middle → Laid y between middle out at → Laid (x ++ y) place from out at
laid_then {x = x} {y = y} {place = place} {from = from} p q =
    record {
      is = q.is ∙ ap₂ (laid y) p.is p.next ∙ sym (laid_both x y place from);
      next = q.next ∙ ap (after y) p.next ∙ sym (after_both x y from);
      size = q.size ∙ p.size;
    }

-- three parts, and five
module _ {x y z place o1 o2 o3 : List ℕ} {from a1 a2 a3 : ℕ} (p : Laid x place from o1 a1) (q : Laid y o1 a1 o2 a2) (r : Laid z o2 a2 o3 a3) where
  pub laid_three : (text : List ℕ) → text ≡ x ++ y ++ z → Laid text place from o3 a3
  laid_three text e = laid_as e (laid_then (laid_then p q) r)

  pub laid_five : {u v o4 o5 : List ℕ} {a4 a5 : ℕ} → Laid u o3 a3 o4 a4 → Laid v o4 a4 o5 a5 → (text : List ℕ) → text ≡ x ++ y ++ z ++ u ++ v → Laid text place from o5 a5
  laid_five s t text e = laid_as e (laid_then (laid_then (laid_then (laid_then p q) r) s) t)

-- ---- a loop: what is left of the text lies over the place as the whole over the place before it

pub record Left (whole place : List ℕ) (from : ℕ) (rest out : List ℕ) (at : ℕ) : Type 0 where
  pub is : laid rest out at ≡ laid whole place from
  pub next : after rest at ≡ after whole from
  pub size : length out ≡ length place

pub left_begin : {whole place : List ℕ} {from : ℕ} → Left whole place from whole place from
left_begin = record { is = refl; next = refl; size = refl }

pub left_turn : {whole place rest piece rest' out out' : List ℕ} {from at at' : ℕ} → Left whole place from rest out at → rest ≡ piece ++ rest' → Laid piece out at out' at' → Left whole place from rest' out' at'
left_turn {piece = piece} {rest' = rest'} {out = out} {at = at} l e p =
    record {
      is = ap₂ (laid rest') p.is p.next ∙ sym (laid_both piece rest' out at) ∙ ap (λ (t : List ℕ). laid t out at) (sym e) ∙ l.is;
      next = ap (after rest') p.next ∙ sym (after_both piece rest' at) ∙ ap (λ (t : List ℕ). after t at) (sym e) ∙ l.next;
      size = p.size ∙ l.size;
    }

pub left_tail : {whole place rest out out' : List ℕ} {from at at' : ℕ} → Left whole place from rest out at → Laid rest out at out' at' → Laid whole place from out' at'
left_tail l p = record { is = p.is ∙ l.is; next = p.next ∙ l.next; size = p.size ∙ l.size }

pub left_end : {whole place rest out : List ℕ} {from at : ℕ} → Left whole place from rest out at → rest ≡ [] → Laid whole place from out at
left_end l e = left_tail l (laid_as e laid_none)

-- ---- one byte

module _ (b : ℕ) (out : List ℕ) (at : ℕ) where
  pub byte_past : longest < at → Laid (b ∷ []) out at out at
  unfolding laid after put step
  byte_past l = record { is = rw (le-ltb at longest (omega arith)); next = rw (lt-leb at longest l); size = refl }

  pub byte_last : at ≡ longest → Laid (b ∷ []) out at out (at + 1)
  unfolding laid after put step
  byte_last e = record { is = rw (le-ltb at longest (omega arith)); next = rw (le-leb at longest (omega arith)); size = refl }

  pub byte_out : at ≤ longest → length out ≤ at → Laid (b ∷ []) out at out (at + 1)
  unfolding laid after put step
  byte_out n l = record { is = same (ltb at longest); next = rw (le-leb at longest (omega arith)); size = refl }
    where
      same : (z : Bool) → out ≡ cond z (set out at b) out
      same true = sym (set_out out at b l)
      same false = refl

  pub byte_in : at ≤ longest → (at ≡ longest → ⊥) → Laid (b ∷ []) out at (set out at b) (at + 1)
  unfolding laid after put step
  byte_in l d = record { is = rw (lt-ltb at longest (omega arith)); next = rw (le-leb at longest (omega arith)); size = length-set out at b }

-- ---- a part

module _ (part place : List ℕ) (from : ℕ) where
  pub part_turn : (out : List ℕ) (at i : ℕ) → Left part place from (drop i part) out at → i < length part → (out' : List ℕ) (at' : ℕ) → Laid (get_or part i 0 ∷ []) out at out' at' →
      Left part place from (drop (i + 1) part) out' at'
  part_turn out at i h l out' at' p = left_turn h (rw (add-one i) (drop-cons part i 0 l)) p

  pub part_end : (out : List ℕ) (at i : ℕ) → Left part place from (drop i part) out at → length part ≤ i → Laid part place from out at
  part_end out at i h l = left_end h (drop_of_length-le part l)
