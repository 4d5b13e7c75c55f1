-- What each number of an action's first column means, and what rule 1 gives of the number that the action holds.
use Rattle.std.specs.Prelude.{◌≡◌, refl, Bool, true, ◌&&◌, List, ℕ, zero, suc, ◌<◌, ◌≤◌, eqb, ltb, leb}
use Rattle.std.proofs.Common.{arith}
use Rattle.definition.specs.declared.Action.{Action}
use Rattle.definition.specs.declared.Action.TheVariants.{Raise, Host, If, ElseIf, Else, End, Send, Cancel}
use Rattle.definition.specs.Tables.{most_delay, row_count, name_count, action_cell, action_at, action_of}
use Rattle.definition.specs.Rules.{optional_below, arguments_fit}
use Rattle.laws.specs.Bools.{and3}
use Rattle.tables.specs.Ranges.{ActionIn, arguments_fit_lem}

-- what an action of kind k with x in its second cell does, whatever the other two hold, if it is no send
pub record IsAction (k x : ℕ) (a : Action) : Type 0 where
  pub is : (y z : ℕ) → (k ≡ 6 → ⊥) → a ≡ action_of k x y z

-- a kind past the end of an if that is no send
pub past_send : (k : ℕ) → 6 ≤ k → (k ≡ 6 → ⊥) → 7 ≤ k
past_send k l d = omega (arith, d)

-- the kind between else and send is the end of an if
pub end_kind : (k x y z : ℕ) → 5 ≤ k → k < 6 → action_of k x y z ≡ End
end_kind k x y z l u = let e : k ≡ 5 = omega arith in rw e

-- every number past the last is read as the last
pub action_past : (k x y z : ℕ) → 7 ≤ k → action_of k x y z ≡ Cancel x
action_past zero x y z h = absurd (omega arith)
action_past (suc zero) x y z h = absurd (omega arith)
action_past (suc (suc zero)) x y z h = absurd (omega arith)
action_past (suc (suc (suc zero))) x y z h = absurd (omega arith)
action_past (suc (suc (suc (suc zero)))) x y z h = absurd (omega arith)
action_past (suc (suc (suc (suc (suc zero))))) x y z h = absurd (omega arith)
action_past (suc (suc (suc (suc (suc (suc zero)))))) x y z h = absurd (omega arith)
action_past (suc (suc (suc (suc (suc (suc (suc k))))))) x y z h = refl

-- the name of a raise, the host action, the row of an In, event, delay and send id are each of their table or range
unfoldable pub fits_number : List ℕ → Action → Bool
fits_number numbers (Raise n) = ltb n (name_count numbers)
fits_number numbers (Host n) = leb n 65535
fits_number numbers (If i) = ltb i (row_count numbers)
fits_number numbers (ElseIf i) = ltb i (row_count numbers)
fits_number numbers Else = true
fits_number numbers End = true
fits_number numbers (Send n delay id) = ltb n (name_count numbers) && leb delay most_delay && optional_below (name_count numbers) id
fits_number numbers (Cancel n) = ltb n (name_count numbers)

-- the numbers of the columns are those that the action holds
argument_number : (numbers : List ℕ) (a : Action) (x y z : ℕ) → arguments_fit numbers a x y z ≡ true → fits_number numbers a ≡ true
unfolding arguments_fit fits_number
argument_number numbers (Raise n) x y z h = (and3 (ltb n (name_count numbers)) (eqb y 0) (eqb z 0) h).0
argument_number numbers (Host n) x y z h = (and3 (leb n 65535) (eqb y 0) (eqb z 0) h).0
argument_number numbers (If i) x y z h = (and3 (ltb i (row_count numbers)) (eqb y 0) (eqb z 0) h).0
argument_number numbers (ElseIf i) x y z h = (and3 (ltb i (row_count numbers)) (eqb y 0) (eqb z 0) h).0
argument_number numbers Else x y z h = refl
argument_number numbers End x y z h = refl
argument_number numbers (Send n delay id) x y z h = h
argument_number numbers (Cancel n) x y z h = (and3 (ltb n (name_count numbers)) (eqb y 0) (eqb z 0) h).0

pub number_fits : (numbers : List ℕ) (a : ℕ) → ActionIn numbers a → fits_number numbers (action_at numbers a) ≡ true
number_fits numbers a h = argument_number numbers (action_at numbers a) (action_cell numbers a 1) (action_cell numbers a 2) (action_cell numbers a 3) (arguments_fit_lem numbers a h)
