-- The kind of a number, and which kind may stand under which, as a table of six by six.
use Rattle.std.specs.Prelude.{◌≡◌, refl, Bool, true, false, List, [], ◌∷◌, ℕ, zero, suc, ◌≤◌, ltb, get_or}
use Rattle.std.proofs.Common.{arith}
use Rattle.definition.specs.declared.Kind.{Kind}
use Rattle.definition.specs.declared.Kind.TheVariants.{Root, State, Parallel, Final, Shallow, Deep}
use Rattle.definition.specs.Chart.{kind_no, is_root, is_history}
use Rattle.definition.specs.Tables.{kind_of}
use Rattle.definition.specs.Rules.{may_stand}
use Rattle.laws.specs.Bools.{no}

-- what holds of each of the six holds of every kind
each_kind : (P : Kind → Type 0) → P Root → P State → P Parallel → P Final → P Shallow → P Deep → (k : Kind) → P k
each_kind P a b c d e f Root = a
each_kind P a b c d e f State = b
each_kind P a b c d e f Parallel = c
each_kind P a b c d e f Final = d
each_kind P a b c d e f Shallow = e
each_kind P a b c d e f Deep = f

-- the root is no history
pub root_no_history : (k : Kind) → is_root k ≡ true → is_history k ≡ false
root_no_history Root h = refl
root_no_history State h = absurd (no h)
root_no_history Parallel h = absurd (no h)
root_no_history Final h = absurd (no h)
root_no_history Shallow h = absurd (no h)
root_no_history Deep h = absurd (no h)

-- the kinds of histories are the last two
pub history_last : (k : Kind) → ltb 3 (kind_no k) ≡ is_history k
history_last Root = refl
history_last State = refl
history_last Parallel = refl
history_last Final = refl
history_last Shallow = refl
history_last Deep = refl

-- every kind number past the last is read as the last
pub kind_past : (x : ℕ) → 5 ≤ x → kind_of x ≡ Deep
kind_past zero h = absurd (omega arith)
kind_past (suc zero) h = absurd (omega arith)
kind_past (suc (suc zero)) h = absurd (omega arith)
kind_past (suc (suc (suc zero))) h = absurd (omega arith)
kind_past (suc (suc (suc (suc zero)))) h = absurd (omega arith)
kind_past (suc (suc (suc (suc (suc n))))) h = refl

-- a row for each parent, a column for each child
abbrev table : List (List Bool)
table =
    (false ∷ true ∷ true ∷ true ∷ false ∷ false ∷ []) ∷
    (false ∷ true ∷ true ∷ true ∷ true ∷ true ∷ []) ∷
    (false ∷ true ∷ true ∷ false ∷ true ∷ true ∷ []) ∷
    (false ∷ false ∷ false ∷ false ∷ false ∷ false ∷ []) ∷
    (false ∷ false ∷ false ∷ false ∷ false ∷ false ∷ []) ∷
    (false ∷ false ∷ false ∷ false ∷ false ∷ false ∷ []) ∷
    []

-- the table, read by the numbers of the two kinds, says it
pub table_says : (p k : Kind) → get_or (get_or table (kind_no p) []) (kind_no k) false ≡ may_stand p k
unfolding may_stand
table_says p k =
    each_kind (λ q. (j : Kind) → get_or (get_or table (kind_no q) []) (kind_no j) false ≡ may_stand q j)
    (each_kind (λ j. get_or (get_or table (kind_no Root) []) (kind_no j) false ≡ may_stand Root j) refl refl refl refl refl refl)
    (each_kind (λ j. get_or (get_or table (kind_no State) []) (kind_no j) false ≡ may_stand State j) refl refl refl refl refl refl)
    (each_kind (λ j. get_or (get_or table (kind_no Parallel) []) (kind_no j) false ≡ may_stand Parallel j) refl refl refl refl refl refl)
    (λ j. each_kind (λ j. get_or (get_or table (kind_no Final) []) (kind_no j) false ≡ may_stand Final j) refl refl refl refl refl refl j)
    (λ j. each_kind (λ j. get_or (get_or table (kind_no Shallow) []) (kind_no j) false ≡ may_stand Shallow j) refl refl refl refl refl refl j)
    (λ j. each_kind (λ j. get_or (get_or table (kind_no Deep) []) (kind_no j) false ≡ may_stand Deep j) refl refl refl refl refl refl j)
    p k
