-- The numbers of a session: what is read of them where they are made of their parts, and what is left in them where a part is written.
use Rattle.std.specs.Prelude.{◌≡◌, refl, ℕ, ◌+◌, length, take, drop}
use Rattle.std.proofs.Common.{sym, ◌∙◌, length-take, length-drop, take-append-drop, drop_at, drop-drop, get_or-take, get_or-drop, length-take-le}
use Rattle.std.proofs.Math.Path.{ap}
use mathlib.Core.List.{List, [], ◌∷◌, ◌++◌, append_assoc, append-nil}
use native.Mathlib.Omega.{arith}
use Rattle.std.proofs.Math.ListN.{get_or, length-append}
use Rattle.std.proofs.Math.Seq.{take_at, get_or-append-add, take-append-add}
use Rattle.definition.specs.declared.Mode.{Mode}
use Rattle.definition.specs.Compiled.{words}
use Rattle.tables.specs.Sets.{put_at}
use Rattle.laws.specs.Passes.{drop_end}
use Rattle.rowset.specs.declared.RowSet.{RowSet}
use Rattle.chart.specs.Ready.{row_set_at}
use Rattle.tables.specs.Ranges.{SetIn}
use Rattle.state.specs.State.{mode_from, numbers_of, configuration_in, history_in, internal_in, external_in, state_in}
use Rattle.state.specs.Words.{words_length}

-- ---- read

pub set_inside : (numbers : List ℕ) → length numbers ≡ 1031 → SetIn numbers 0
set_inside numbers l = record { inside = omega arith }

pub state_is : (numbers : List ℕ) (s : RowSet) (m : Mode) → s ≡ configuration_in numbers → m ≡ mode_from (get_or numbers 1030 0) →
    record { configuration = s; internal = internal_in numbers; external = external_in numbers; mode = m } ≡ state_in numbers
state_is numbers s m a b = λ j. record { configuration = a j; internal = internal_in numbers; external = external_in numbers; mode = b j }

pub history_part : (numbers : List ℕ) → length numbers ≡ 1031 → length (history_in numbers) ≡ 1024
history_part numbers l = rw (length-take, length-drop) (omega arith)

-- the configuration is read in its four words
pub first_set : (numbers : List ℕ) → row_set_at (take 4 numbers) 0 ≡ row_set_at numbers 0
unfolding row_set_at
first_set numbers = rw (get_or-take 4 numbers 0 0 (omega arith), get_or-take 4 numbers 1 0 (omega arith), get_or-take 4 numbers 2 0 (omega arith), get_or-take 4 numbers 3 0 (omega arith))

-- ---- of the parts that they are made of

module _ (conf history : List ℕ) (internal external mode : ℕ) (a : length conf ≡ 4) (b : length history ≡ 1024) where
  pub numbers_length : length (numbers_of conf history internal external mode) ≡ 1031
  unfolding numbers_of
  numbers_length = rw (length-append, length-append, a, b)

  behind : (n : ℕ) → get_or (numbers_of conf history internal external mode) (1028 + n) 0 ≡ get_or (internal ∷ external ∷ mode ∷ []) n 0
  unfolding numbers_of
  behind n =
      let e : 1028 + n ≡ 4 + (1024 + n) = omega arith in
      rw e (ap (λ (k : ℕ). get_or (conf ++ (history ++ (internal ∷ external ∷ mode ∷ []))) (k + (1024 + n)) 0) (sym a) ∙ get_or-append-add conf (history ++ (internal ∷ external ∷ mode ∷ [])) (1024 + n) 0 ∙
      ap (λ (k : ℕ). get_or (history ++ (internal ∷ external ∷ mode ∷ [])) (k + n) 0) (sym b) ∙ get_or-append-add history (internal ∷ external ∷ mode ∷ []) n 0)

  pub numbers_words : take 4 (numbers_of conf history internal external mode) ≡ conf
  unfolding numbers_of
  numbers_words = take_at conf (history ++ (internal ∷ external ∷ mode ∷ [])) 4 a

  pub numbers_history : history_in (numbers_of conf history internal external mode) ≡ history
  unfolding numbers_of
  numbers_history = rw (drop_at conf (history ++ (internal ∷ external ∷ mode ∷ [])) 4 a) (take_at history (internal ∷ external ∷ mode ∷ []) 1024 b)

  pub numbers_internal : internal_in (numbers_of conf history internal external mode) ≡ internal
  numbers_internal = behind 0

  pub numbers_external : external_in (numbers_of conf history internal external mode) ≡ external
  numbers_external = behind 1

  pub numbers_mode : get_or (numbers_of conf history internal external mode) 1030 0 ≡ mode
  numbers_mode = behind 2

-- the last three numbers
three_of : (xs : List ℕ) → length xs ≡ 3 → xs ≡ get_or xs 0 0 ∷ get_or xs 1 0 ∷ get_or xs 2 0 ∷ []
three_of [] l = absurd (omega arith)
three_of (a ∷ []) l = absurd (omega arith)
three_of (a ∷ b ∷ []) l = absurd (omega arith)
three_of (a ∷ b ∷ c ∷ []) l = refl
three_of (a ∷ b ∷ c ∷ d ∷ xs) l = absurd (omega arith)

-- numbers are made of the parts that are read of them
pub numbers_parts : (numbers : List ℕ) → length numbers ≡ 1031 → numbers ≡ numbers_of (take 4 numbers) (history_in numbers) (internal_in numbers) (external_in numbers) (get_or numbers 1030 0)
unfolding numbers_of
numbers_parts numbers l =
    let tail : drop 1024 (drop 4 numbers) ≡ internal_in numbers ∷ external_in numbers ∷ get_or numbers 1030 0 ∷ [] =
    three_of (drop 1024 (drop 4 numbers)) (rw (length-drop, length-drop) (omega arith)) ∙
    rw (get_or-drop 1024 (drop 4 numbers) 0 0, get_or-drop 1024 (drop 4 numbers) 1 0, get_or-drop 1024 (drop 4 numbers) 2 0, get_or-drop 4 numbers 1024 0, get_or-drop 4 numbers 1025 0, get_or-drop 4 numbers 1026 0) in
    sym (take-append-drop 4 numbers) ∙ ap (λ (xs : List ℕ). take 4 numbers ++ xs) (sym (take-append-drop 1024 (drop 4 numbers)) ∙ ap (λ (xs : List ℕ). history_in numbers ++ xs) tail)

-- ---- written

-- the configuration first, then the three numbers behind the history
module _ (numbers conf : List ℕ) (internal external mode : ℕ) (size : length numbers ≡ 1031) (four : length conf ≡ 4) where
  head : take 1028 (conf ++ drop 4 numbers) ≡ conf ++ history_in numbers
  head = ap (λ (n : ℕ). take (n + 1024) (conf ++ drop 4 numbers)) (sym four) ∙ take-append-add conf (drop 4 numbers) 1024

  front_length : length (conf ++ drop 4 numbers) ≡ 1031
  front_length = rw (length-append, length-drop) (omega arith)

  rest : drop 3 (drop 1028 (conf ++ drop 4 numbers)) ≡ []
  rest = drop-drop 3 1028 (conf ++ drop 4 numbers) ∙ drop_end 1031 (conf ++ drop 4 numbers) (let l = front_length in omega arith)

  written : (tail : List ℕ) → tail ≡ internal ∷ external ∷ mode ∷ [] →
      take 1028 (conf ++ drop 4 numbers) ++ (tail ++ drop 3 (drop 1028 (conf ++ drop 4 numbers))) ≡ numbers_of conf (history_in numbers) internal external mode
  unfolding numbers_of
  written tail e = rw (rest, append-nil {A = ℕ} tail, head, e) (append_assoc conf (history_in numbers) (internal ∷ external ∷ mode ∷ []))

pub state_written : (numbers next tail xs : List ℕ) (internal external m n : ℕ) → length numbers ≡ 1031 → next ≡ put_at numbers 0 xs → tail ≡ internal ∷ external ∷ m ∷ [] → m ≡ n →
    take 1028 next ++ (tail ++ drop 3 (drop 1028 next)) ≡ numbers_of (words xs) (history_in numbers) internal external n
unfolding put_at
state_written numbers next tail xs internal external m n size p t e =
    ap (λ (ws : List ℕ). take 1028 ws ++ (tail ++ drop 3 (drop 1028 ws))) p ∙ written numbers (words xs) internal external m size (words_length xs) tail t ∙
    ap (numbers_of (words xs) (history_in numbers) internal external) e

-- the history lent and put back
module _ (numbers history : List ℕ) (size : length numbers ≡ 1031) (same : length history ≡ 1024) where
  abbrev back : List ℕ
  back = take 4 numbers ++ (history ++ drop 1024 (drop 4 numbers))

  pub back_length : length back ≡ 1031
  back_length = rw (length-append, length-append, length-take-le 4 numbers (omega arith), length-drop, length-drop) (omega arith)

  pub back_history : history_in back ≡ history
  back_history = rw (drop_at (take 4 numbers) (history ++ drop 1024 (drop 4 numbers)) 4 (length-take-le 4 numbers (omega arith))) (take_at history (drop 1024 (drop 4 numbers)) 1024 same)
