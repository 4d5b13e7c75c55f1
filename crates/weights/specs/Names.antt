-- A value has at most one name for two of its bytes.
use Rattle.std.specs.Prelude.{◌≡◌, refl, Bool, true, false, not, cond, List, [], ◌∷◌, map, ℕ, zero, suc, ◌+◌, ◌*◌, ◌≤◌, eqb, length}
use Rattle.std.proofs.Common.{sym, ap, ◌∙◌, arith}
use Rattle.std.proofs.lemmas.List.{length-map}
use Rattle.grammar.specs.Grammar.{is_space}
use Rattle.reading.specs.Tags.{Part}
use Rattle.reading.specs.Faults.{Item, goes_on, grown, items_at, item_bytes, names_in, value_of}
use Rattle.weights.specs.Tags.{value_bytes}

abbrev begun : List ℕ → ℕ
begun v = cond (goes_on v) 1 0

begun_most : (v : List ℕ) → begun v ≤ 1
begun_most v = by (goes_on v)
  where
    by : (z : Bool) → cond z 1 0 ≤ 1
    by true = omega arith
    by false = omega arith

grown_few : (i b : ℕ) (xs : List Item) (n : ℕ) → length xs * 2 ≤ n + 1 → length (grown i b xs) * 2 ≤ n + 2
grown_few i b [] n h = omega arith
grown_few i b (x ∷ xs) n h = omega arith

items_few : (v : List ℕ) (k : ℕ) → length (items_at k v) * 2 ≤ length v + begun v
unfolding items_at
items_few [] k = omega arith
items_few (b ∷ bs) k = by (is_space b) (goes_on bs) refl (items_few bs (suc k)) (begun_most bs)
  where
    by : (z w : Bool) → goes_on bs ≡ w → length (items_at (suc k) bs) * 2 ≤ length bs + begun bs → begun bs ≤ 1 →
        length (cond z (items_at (suc k) bs) (cond w (grown k b (items_at (suc k) bs)) ((record { from = k; bytes = b ∷ [] }) ∷ items_at (suc k) bs))) * 2 ≤ suc (length bs) + cond (not z) 1 0
    by true w q h l = omega arith
    by false true q h l = let g = grown_few k b (items_at (suc k) bs) (length bs) (omega arith) in omega arith
    by false false q h l = let e : begun bs ≡ 0 = ap (λ (z : Bool). cond z 1 0) q in omega arith

pub names_half : (v : List ℕ) → length (names_in v) * 2 ≤ length v + 1
names_half v = let l = length-map (items_at 0 v) item_bytes in let h = items_few v 0 in let b = begun_most v in omega arith

-- ---- of the attributes of a tag

pub value_names : (w : ℕ) (ps : List Part) → length (names_in (value_of w ps)) * 2 ≤ value_bytes 1 ps
unfolding value_of value_bytes items_at
value_names w [] = omega arith
value_names w (p ∷ ps) = by (eqb p.word w) (value_names w ps)
  where
    by : (z : Bool) → length (names_in (value_of w ps)) * 2 ≤ value_bytes 1 ps → length (names_in (cond z p.bytes (value_of w ps))) * 2 ≤ length p.bytes + 1 + value_bytes 1 ps
    by true h = let n = names_half p.bytes in omega arith
    by false h = omega arith

-- of two attributes
pub both_names : (w v : ℕ) (ps : List Part) → ((x : ℕ) → eqb x w ≡ true → eqb x v ≡ false) →
    (length (names_in (value_of w ps)) + length (names_in (value_of v ps))) * 2 ≤ value_bytes 1 ps
unfolding value_of value_bytes items_at
both_names w v [] other = omega arith
both_names w v (p ∷ ps) other = by (eqb p.word w) refl (eqb p.word v) refl (both_names w v ps other)
  where
    by : (y : Bool) → eqb p.word w ≡ y → (z : Bool) → eqb p.word v ≡ z →
        (length (names_in (value_of w ps)) + length (names_in (value_of v ps))) * 2 ≤ value_bytes 1 ps →
        (length (names_in (cond y p.bytes (value_of w ps))) + length (names_in (cond z p.bytes (value_of v ps)))) * 2 ≤ length p.bytes + 1 + value_bytes 1 ps
    by true q true r h = absurd (let n : true ≡ false = sym r ∙ other p.word q in let z2 : ◌≡◌ {A = ℕ} 0 1 = cc in omega arith)
    by true q false r h = let n = names_half p.bytes in let o = value_names v ps in omega arith
    by false q true r h = let n = names_half p.bytes in let o = value_names w ps in omega arith
    by false q false r h = omega arith
