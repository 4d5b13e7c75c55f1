-- A session that is read from lent places tells every cell of them: two places of the same length that mean the same session hold the same numbers and bytes. So a contract that says
-- which session the places mean after a call fixes each number and each byte that it leaves.
use Rattle.std.specs.Prelude.{◌≡◌, Bool, List, [], ◌∷◌, ℕ, suc, ◌+◌, ◌-◌, ◌≤◌, ◌<◌, drop}
use Rattle.std.proofs.Math.Path.{refl, sym, ap}
use Rattle.std.proofs.Common.{◌∙◌, arith}
use Rattle.std.proofs.Math.Bool.{true, false}
use Rattle.std.proofs.Math.Dec.{ltb}
use Rattle.std.proofs.Math.ListN.{length, get_or}
use Rattle.std.proofs.Math.Seq.{get_or-take, get_or-drop}
use borrow.Author.Tests.{ltb-true, ltb-false}
use Rattle.session.specs.declared.Session.{Session}
use Rattle.session.specs.declared.Clock.{Clock}
use Rattle.lent.specs.Places.{session_in, record_in}

same_cells : (xs ys : List ℕ) → length xs ≡ length ys → ((k : ℕ) → k < length xs → get_or xs k 0 ≡ get_or ys k 0) → xs ≡ ys
same_cells [] [] e h = refl
same_cells [] (y ∷ ys) e h = absurd (omega arith)
same_cells (x ∷ xs) [] e h = absurd (omega arith)
same_cells (x ∷ xs) (y ∷ ys) e h =
    let p = h 0 (omega arith) in let q = same_cells xs ys (omega arith) (λ k l. h (suc k) (omega arith)) in λ j. p j ∷ q j

module _ (numbers internal external numbers₁ internal₁ external₁ : List ℕ) (size : length numbers ≡ length numbers₁)
    (e : session_in numbers internal external ≡ session_in numbers₁ internal₁ external₁) where
  in_first : (k : ℕ) → k < 4 → get_or numbers k 0 ≡ get_or numbers₁ k 0
  unfolding session_in
  in_first k l = sym (get_or-take 4 numbers k 0 l) ∙ ap (λ (s : Session). get_or s.configuration k 0) e ∙ get_or-take 4 numbers₁ k 0 l

  in_history : (k : ℕ) → k < length numbers - 7 → get_or numbers (4 + k) 0 ≡ get_or numbers₁ (4 + k) 0
  unfolding session_in
  in_history k l =
      sym (get_or-drop 4 numbers k 0) ∙ sym (get_or-take (length numbers - 7) (drop 4 numbers) k 0 l) ∙ ap (λ (s : Session). get_or s.history k 0) e ∙
      get_or-take (length numbers₁ - 7) (drop 4 numbers₁) k 0 (omega arith) ∙ get_or-drop 4 numbers₁ k 0

  -- the cell that stands so far before the end
  before_end : (d k : ℕ) → k ≡ length numbers - d → get_or numbers (length numbers - d) 0 ≡ get_or numbers₁ (length numbers₁ - d) 0 → get_or numbers k 0 ≡ get_or numbers₁ k 0
  before_end d k q h = ap (λ i. get_or numbers i 0) q ∙ h ∙ ap (λ i. get_or numbers₁ i 0) (ap (λ n. n - d) (sym size) ∙ sym q)

  in_last : (k : ℕ) → k < length numbers → length numbers ≤ k + 3 → 4 ≤ k → get_or numbers k 0 ≡ get_or numbers₁ k 0
  unfolding session_in
  in_last k l m n = third (ltb (k + 2) (length numbers)) refl
    where
      second : (b : Bool) → ltb (k + 1) (length numbers) ≡ b → length numbers ≤ k + 2 → get_or numbers k 0 ≡ get_or numbers₁ k 0
      second true t u = let v : k + 1 < length numbers = ltb-true _ _ t in before_end 2 k (omega arith) (ap (λ (s : Session). s.external_count) e)
      second false t u = let v : length numbers ≤ k + 1 = ltb-false _ _ t in before_end 1 k (omega arith) (ap (λ (s : Session). s.mode) e)

      third : (b : Bool) → ltb (k + 2) (length numbers) ≡ b → get_or numbers k 0 ≡ get_or numbers₁ k 0
      third true t = let v : k + 2 < length numbers = ltb-true _ _ t in before_end 3 k (omega arith) (ap (λ (s : Session). s.internal_count) e)
      third false t = second (ltb (k + 1) (length numbers)) refl (ltb-false _ _ t)

  cell : (k : ℕ) → k < length numbers → get_or numbers k 0 ≡ get_or numbers₁ k 0
  cell k l = first (ltb k 4) refl
    where
      behind : (b : Bool) → ltb (k + 3) (length numbers) ≡ b → 4 ≤ k → get_or numbers k 0 ≡ get_or numbers₁ k 0
      behind true t m =
          let v : k + 3 < length numbers = ltb-true _ _ t in
          let q : 4 + (k - 4) ≡ k = omega arith in
          rw q at (in_history (k - 4) (omega arith))
      behind false t m = in_last k l (ltb-false _ _ t) m

      first : (b : Bool) → ltb k 4 ≡ b → get_or numbers k 0 ≡ get_or numbers₁ k 0
      first true t = in_first k (ltb-true _ _ t)
      first false t = behind (ltb (k + 3) (length numbers)) refl (ltb-false _ _ t)

  pub numbers_told : numbers ≡ numbers₁
  numbers_told = same_cells numbers numbers₁ size cell

  pub internal_told : internal ≡ internal₁
  unfolding session_in
  internal_told = ap (λ (s : Session). s.internal) e

  pub external_told : external ≡ external₁
  unfolding session_in
  external_told = ap (λ (s : Session). s.external) e

-- and the place of a clock record its bytes
pub clock_told : (clock clock₁ : List ℕ) → record_in clock ≡ record_in clock₁ → clock ≡ clock₁
clock_told clock clock₁ e = ap (λ (k : Clock). k.bytes) e
