-- The parts of a tag that is not ended yet, with one more.
use Rattle.std.specs.Prelude.{◌≡◌, refl, Bool, true, false, ◌||◌, cond, List, [], ◌∷◌, ◌++◌, ℕ, eqb}
use Rattle.std.proofs.Common.{ap, ◌∙◌, arith}
use Rattle.marks.specs.Grouped.{bytes_from}
use Rattle.reading.specs.Tags.{Part}
use Rattle.reading.specs.Faults.{states, value_of}

-- a value as it is marked
abbrev pub part_at : List ℕ → ℕ → ℕ → ℕ → ℕ → Part
part_at text e w a b = record { element = e; word = w; from = a; bytes = bytes_from text a b }

pub states_snoc : (w : ℕ) (ps : List Part) (p : Part) → states w (ps ++ p ∷ []) ≡ (states w ps || eqb p.word w)
unfolding states
states_snoc w [] p = or_false (eqb p.word w)
  where
    or_false : (a : Bool) → (a || false) ≡ a
    or_false true = refl
    or_false false = refl
states_snoc w (q ∷ ps) p = ap (λ (z : Bool). eqb q.word w || z) (states_snoc w ps p) ∙ or_assoc (eqb q.word w) (states w ps) (eqb p.word w)
  where
    or_assoc : (a b c : Bool) → (a || (b || c)) ≡ ((a || b) || c)
    or_assoc true b c = refl
    or_assoc false b c = refl

-- the first value counts
pub value_snoc : (w : ℕ) (ps : List Part) (p : Part) → value_of w (ps ++ p ∷ []) ≡ cond (states w ps) (value_of w ps) (cond (eqb p.word w) p.bytes [])
unfolding states value_of
value_snoc w [] p = refl
value_snoc w (q ∷ ps) p = by (eqb q.word w) (value_snoc w ps p)
  where
    by : (z : Bool) → value_of w (ps ++ p ∷ []) ≡ cond (states w ps) (value_of w ps) (cond (eqb p.word w) p.bytes []) →
        cond z q.bytes (value_of w (ps ++ p ∷ [])) ≡ cond (z || states w ps) (cond z q.bytes (value_of w ps)) (cond (eqb p.word w) p.bytes [])
    by true h = refl
    by false h = h

-- a part that is absent has no value
pub absent : (w : ℕ) (ps : List Part) → states w ps ≡ false → value_of w ps ≡ []
unfolding states value_of
absent w [] e = refl
absent w (q ∷ ps) e = by (eqb q.word w) e (absent w ps)
  where
    by : (z : Bool) → (z || states w ps) ≡ false → (states w ps ≡ false → value_of w ps ≡ []) → cond z q.bytes (value_of w ps) ≡ []
    by true e h = absurd (let z : ◌≡◌ {A = ℕ} 0 1 = cc in omega arith)
    by false e h = h e
