-- The cells of an action of kind k, by what the kind has them number.
use Rattle.std.specs.Prelude.{◌≡◌, refl, Bool, true, false, ◌&&◌, List, ℕ, zero, suc, ◌<◌, ◌≤◌, eqb, leb, ltb}
use Rattle.std.proofs.Common.{◌∙◌, arith}
use Rattle.definition.specs.Tables.{most_delay, row_count, name_count, action_cell, action_at, action_of}
use Rattle.definition.specs.Rules.{optional_below, arguments_fit, action_in_range}

-- b tells whether x is in range; but for a send the other two cells hold 0
pub record ArgumentIs (numbers : List ℕ) (k x : ℕ) (b : Bool) : Type 0 where
  pub is : (y z : ℕ) → (k ≡ 6 → ⊥) → (b && eqb y 0 && eqb z 0) ≡ arguments_fit numbers (action_of k x y z) x y z

-- an action by its four cells
pub cells_in_range : (numbers : List ℕ) (a k x y z : ℕ) (b : Bool) → k ≡ action_cell numbers a 0 → x ≡ action_cell numbers a 1 → y ≡ action_cell numbers a 2 → z ≡ action_cell numbers a 3 →
    (k ≡ 6 → ⊥) → ArgumentIs numbers k x b → (leb k 7 && b && eqb y 0 && eqb z 0) ≡ action_in_range numbers a
unfolding action_in_range action_at
cells_in_range numbers a k x y z b e0 e1 e2 e3 d i = shut (leb k 7) b (eqb y 0) (eqb z 0) ∙ rw (i.is y z d, e0, e1, e2, e3)
  where
    shut : (l b p q : Bool) → (l && b && p && q) ≡ (l && (b && p && q))
    shut true b p q = refl
    shut false b p q = refl

-- a send
pub send_in_range : (numbers : List ℕ) (a k x y z n : ℕ) (b : Bool) → k ≡ action_cell numbers a 0 → x ≡ action_cell numbers a 1 → y ≡ action_cell numbers a 2 → z ≡ action_cell numbers a 3 →
    k ≡ 6 → n ≡ name_count numbers → b ≡ optional_below n z → (ltb x n && leb y most_delay && b) ≡ action_in_range numbers a
unfolding action_in_range action_at arguments_fit
send_in_range numbers a k x y z n b e0 e1 e2 e3 s e q = rw (q, e, ← e1, ← e2, ← e3, ← e0, s)

module _ (numbers : List ℕ) (k x n y z : ℕ) where
  -- a raise and a cancel have a name
  pub argument_name : k ≡ 0 → n ≡ name_count numbers → (ltb x n && eqb y 0 && eqb z 0) ≡ arguments_fit numbers (action_of k x y z) x y z
  unfolding arguments_fit
  argument_name e q = rw (e, q)

  pub argument_host : k ≡ 1 → (leb x 65535 && eqb y 0 && eqb z 0) ≡ arguments_fit numbers (action_of k x y z) x y z
  unfolding arguments_fit
  argument_host e = rw e

pub argument_cancel : (numbers : List ℕ) (k x n y z : ℕ) → 6 ≤ k → (k ≡ 6 → ⊥) → n ≡ name_count numbers → (ltb x n && eqb y 0 && eqb z 0) ≡ arguments_fit numbers (action_of k x y z) x y z
unfolding arguments_fit
argument_cancel numbers zero x n y z l d q = absurd (omega arith)
argument_cancel numbers (suc zero) x n y z l d q = absurd (omega arith)
argument_cancel numbers (suc (suc zero)) x n y z l d q = absurd (omega arith)
argument_cancel numbers (suc (suc (suc zero))) x n y z l d q = absurd (omega arith)
argument_cancel numbers (suc (suc (suc (suc zero)))) x n y z l d q = absurd (omega arith)
argument_cancel numbers (suc (suc (suc (suc (suc zero))))) x n y z l d q = absurd (omega arith)
argument_cancel numbers (suc (suc (suc (suc (suc (suc zero)))))) x n y z l d q = absurd (d refl)
argument_cancel numbers (suc (suc (suc (suc (suc (suc (suc k))))))) x n y z l d q = rw q

-- an if and an elseif have a row
pub argument_row : (numbers : List ℕ) (k x n y z : ℕ) → (k ≡ 0 → ⊥) → (k ≡ 1 → ⊥) → k ≤ 3 → n ≡ row_count numbers → (ltb x n && eqb y 0 && eqb z 0) ≡ arguments_fit numbers (action_of k x y z) x y z
unfolding arguments_fit
argument_row numbers zero x n y z d e l q = absurd (d refl)
argument_row numbers (suc zero) x n y z d e l q = absurd (e refl)
argument_row numbers (suc (suc zero)) x n y z d e l q = rw q
argument_row numbers (suc (suc (suc zero))) x n y z d e l q = rw q
argument_row numbers (suc (suc (suc (suc k)))) x n y z d e l q = absurd (omega arith)

-- an else and the end of an if have nothing
pub argument_nothing : (numbers : List ℕ) (k x y z : ℕ) → 3 < k → k < 6 → (eqb x 0 && eqb y 0 && eqb z 0) ≡ arguments_fit numbers (action_of k x y z) x y z
unfolding arguments_fit
argument_nothing numbers zero x y z l u = absurd (omega arith)
argument_nothing numbers (suc zero) x y z l u = absurd (omega arith)
argument_nothing numbers (suc (suc zero)) x y z l u = absurd (omega arith)
argument_nothing numbers (suc (suc (suc zero))) x y z l u = absurd (omega arith)
argument_nothing numbers (suc (suc (suc (suc zero)))) x y z l u = refl
argument_nothing numbers (suc (suc (suc (suc (suc zero))))) x y z l u = refl
argument_nothing numbers (suc (suc (suc (suc (suc (suc k)))))) x y z l u = absurd (omega arith)
