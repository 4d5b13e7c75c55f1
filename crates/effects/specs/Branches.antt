-- The ifs of a block: the actions ahead of the first one, and how far a block is in them.
use Rattle.std.specs.Prelude.{◌≡◌, refl, Bool, true, false, cond, List, [], ◌∷◌, ◌++◌, drop}
use Rattle.std.proofs.Math.Path.{sym}
use Rattle.std.proofs.Common.{ap, ◌∙◌}
use Prim.Native.Nat.{ℕ, zero, suc, ◌+◌, ◌-◌, ◌≤◌}
use native.Mathlib.Omega.{arith}
use Rattle.definition.specs.declared.Action.{Action}
use Rattle.definition.specs.declared.Action.TheVariants.{Raise, Host, If, ElseIf, Else, End, Send, Cancel}
use Rattle.definition.specs.declared.Reach.{Reach}
use Rattle.definition.specs.declared.Reach.TheVariants.{Live, Waiting, Past}
use Rattle.definition.specs.Rows.{mem}
use Rattle.follower.specs.Blocks.{Effect, raised, acted, sent, cancelled, at_if, at_else, at_end, after, perform, perform_if, performed_from, performed}
use Rattle.laws.specs.Bools.{no}

abbrev pub is_branch : Action → Bool
is_branch (Raise n) = false
is_branch (Host n) = false
is_branch (If i) = true
is_branch (ElseIf i) = true
is_branch Else = true
is_branch End = true
is_branch (Send n delay id) = false
is_branch (Cancel n) = false

-- ---- the actions ahead of the first if: how many, and what they do

unfoldable pub plain_count : List Action → ℕ
plain_count [] = 0
plain_count (Raise n ∷ rest) = suc (plain_count rest)
plain_count (Host n ∷ rest) = suc (plain_count rest)
plain_count (If i ∷ rest) = 0
plain_count (ElseIf i ∷ rest) = 0
plain_count (Else ∷ rest) = 0
plain_count (End ∷ rest) = 0
plain_count (Send n delay id ∷ rest) = suc (plain_count rest)
plain_count (Cancel n ∷ rest) = suc (plain_count rest)

unfoldable pub plain_effects : List Action → List Effect
plain_effects [] = []
plain_effects (Raise n ∷ rest) = raised n ∷ plain_effects rest
plain_effects (Host n ∷ rest) = acted n ∷ plain_effects rest
plain_effects (If i ∷ rest) = []
plain_effects (ElseIf i ∷ rest) = []
plain_effects (Else ∷ rest) = []
plain_effects (End ∷ rest) = []
plain_effects (Send n delay id ∷ rest) = sent n delay id ∷ plain_effects rest
plain_effects (Cancel n ∷ rest) = cancelled n ∷ plain_effects rest

pub plain_next : (a : Action) (rest : List Action) → is_branch a ≡ false → (plain_effects (a ∷ rest) ≡ perform a ++ plain_effects rest) × (plain_count (a ∷ rest) ≡ suc (plain_count rest))
unfolding plain_effects plain_count perform
plain_next (Raise n) rest h = (refl, refl)
plain_next (Host n) rest h = (refl, refl)
plain_next (If i) rest h = absurd (no (sym h))
plain_next (ElseIf i) rest h = absurd (no (sym h))
plain_next Else rest h = absurd (no (sym h))
plain_next End rest h = absurd (no (sym h))
plain_next (Send n delay id) rest h = (refl, refl)
plain_next (Cancel n) rest h = (refl, refl)

pub plain_stop : (a : Action) (rest : List Action) → is_branch a ≡ true → (plain_effects (a ∷ rest) ≡ []) × (plain_count (a ∷ rest) ≡ 0)
unfolding plain_effects plain_count
plain_stop (Raise n) rest h = absurd (no h)
plain_stop (Host n) rest h = absurd (no h)
plain_stop (If i) rest h = (refl, refl)
plain_stop (ElseIf i) rest h = (refl, refl)
plain_stop Else rest h = (refl, refl)
plain_stop End rest h = (refl, refl)
plain_stop (Send n delay id) rest h = absurd (no h)
plain_stop (Cancel n) rest h = absurd (no h)

-- they ask for no row; those from the first if on do
pub performed_split : (active : List ℕ) (xs : List Action) → performed active xs ≡ plain_effects xs ++ performed_from active Live (drop (plain_count xs) xs)
unfolding performed performed_from perform_if perform after plain_effects plain_count
performed_split active [] = refl
performed_split active (Raise n ∷ rest) = ap {B = List Effect} (λ es. raised n ∷ es) (performed_split active rest)
performed_split active (Host n ∷ rest) = ap {B = List Effect} (λ es. acted n ∷ es) (performed_split active rest)
performed_split active (If i ∷ rest) = refl
performed_split active (ElseIf i ∷ rest) = refl
performed_split active (Else ∷ rest) = refl
performed_split active (End ∷ rest) = refl
performed_split active (Send n delay id ∷ rest) = ap {B = List Effect} (λ es. sent n delay id ∷ es) (performed_split active rest)
performed_split active (Cancel n ∷ rest) = ap {B = List Effect} (λ es. cancelled n ∷ es) (performed_split active rest)

-- ---- how far a block is in its ifs

-- the ifs inside the one that is passed over
abbrev pub depth_of : Reach → ℕ
depth_of Live = 0
depth_of (Waiting n) = n
depth_of (Past n) = n

module _ (b : Bool) (r : Reach) where
  pub if_live : (v : Bool) → r ≡ Live → b ≡ v → cond v Live (Waiting 0) ≡ at_if b r
  unfolding at_if
  if_live v e q = sym (rw (e, q))

  pub if_waiting : (n : ℕ) → r ≡ Waiting n → Waiting (n + 1) ≡ at_if b r
  unfolding at_if
  if_waiting n e = let z : n + 1 ≡ suc n = omega arith in rw z (sym (rw e))

  pub if_past : (n : ℕ) → r ≡ Past n → Past (n + 1) ≡ at_if b r
  unfolding at_if
  if_past n e = let z : n + 1 ≡ suc n = omega arith in rw z (sym (rw e))

  pub else_live : r ≡ Live → Past 0 ≡ at_else b r
  unfolding at_else
  else_live e = sym (rw e)

  pub else_first : (n : ℕ) (v : Bool) → r ≡ Waiting n → n ≡ 0 → b ≡ v → cond v Live (Waiting 0) ≡ at_else b r
  unfolding at_else
  else_first n v e z q = sym (rw (e, z, q))

  pub else_inner : (n : ℕ) → r ≡ Waiting n → (n ≡ 0 → ⊥) → Waiting n ≡ at_else b r
  unfolding at_else
  else_inner zero e d = absurd (d refl)
  else_inner (suc n) e d = sym (rw e)

  pub else_past : (n : ℕ) → r ≡ Past n → Past n ≡ at_else b r
  unfolding at_else
  else_past n e = sym (rw e)

module _ (r : Reach) where
  pub end_live : r ≡ Live → Live ≡ at_end r
  unfolding at_end
  end_live e = sym (rw e)

  pub end_waiting : (n : ℕ) → r ≡ Waiting n → n ≡ 0 → Live ≡ at_end r
  unfolding at_end
  end_waiting n e z = sym (rw (e, z))

  pub end_inner : (n : ℕ) → r ≡ Waiting n → (n ≡ 0 → ⊥) → Waiting (n - 1) ≡ at_end r
  unfolding at_end
  end_inner zero e d = absurd (d refl)
  end_inner (suc n) e d = let z : suc n - 1 ≡ n = omega arith in rw z (sym (rw e))

  pub end_past : (n : ℕ) → r ≡ Past n → n ≡ 0 → Live ≡ at_end r
  unfolding at_end
  end_past n e z = sym (rw (e, z))

  pub end_deep : (n : ℕ) → r ≡ Past n → (n ≡ 0 → ⊥) → Past (n - 1) ≡ at_end r
  unfolding at_end
  end_deep zero e d = absurd (d refl)
  end_deep (suc n) e d = let z : suc n - 1 ≡ n = omega arith in rw z (sym (rw e))

-- an action that was matched
module _ (conf : List ℕ) (a : Action) (r s : Reach) where
  pub after_raise : (n : ℕ) → a ≡ Raise n → r ≡ after conf a r
  unfolding after
  after_raise n e = sym (rw e)

  pub after_host : (n : ℕ) → a ≡ Host n → r ≡ after conf a r
  unfolding after
  after_host n e = sym (rw e)

  pub after_send : (n delay id : ℕ) → a ≡ Send n delay id → r ≡ after conf a r
  unfolding after
  after_send n delay id e = sym (rw e)

  pub after_cancel : (n : ℕ) → a ≡ Cancel n → r ≡ after conf a r
  unfolding after
  after_cancel n e = sym (rw e)

  pub after_if : (i k : ℕ) (b : Bool) → a ≡ If i → k ≡ i → b ≡ mem k conf → s ≡ at_if b r → s ≡ after conf a r
  unfolding after
  after_if i k b e q f g = g ∙ sym (rw (e, f, q))

  pub after_elseif : (i k : ℕ) (b : Bool) → a ≡ ElseIf i → k ≡ i → b ≡ mem k conf → s ≡ at_else b r → s ≡ after conf a r
  unfolding after
  after_elseif i k b e q f g = g ∙ sym (rw (e, f, q))

  pub after_else : a ≡ Else → s ≡ at_else true r → s ≡ after conf a r
  unfolding after
  after_else e g = g ∙ sym (rw e)

  pub after_end : a ≡ End → s ≡ at_end r → s ≡ after conf a r
  unfolding after
  after_end e g = g ∙ sym (rw e)

-- an action leads at most one if deeper
taken_flat : (b : Bool) → depth_of (cond b Live (Waiting 0)) ≡ 0
taken_flat true = refl
taken_flat false = refl

if_deeper : (b : Bool) (r : Reach) → depth_of (at_if b r) ≤ depth_of r + 1
unfolding at_if
if_deeper b Live = let e = taken_flat b in omega arith
if_deeper b (Waiting n) = omega arith
if_deeper b (Past n) = omega arith

else_deeper : (b : Bool) (r : Reach) → depth_of (at_else b r) ≤ depth_of r + 1
unfolding at_else
else_deeper b Live = omega arith
else_deeper b (Waiting zero) = let e = taken_flat b in omega arith
else_deeper b (Waiting (suc n)) = omega arith
else_deeper b (Past n) = omega arith

end_deeper : (r : Reach) → depth_of (at_end r) ≤ depth_of r + 1
unfolding at_end
end_deeper Live = omega arith
end_deeper (Waiting zero) = omega arith
end_deeper (Waiting (suc n)) = omega arith
end_deeper (Past zero) = omega arith
end_deeper (Past (suc n)) = omega arith

pub one_deeper : (conf : List ℕ) (a : Action) (r : Reach) → depth_of (after conf a r) ≤ depth_of r + 1
unfolding after
one_deeper conf (Raise n) r = omega arith
one_deeper conf (Host n) r = omega arith
one_deeper conf (If i) r = if_deeper (mem i conf) r
one_deeper conf (ElseIf i) r = else_deeper (mem i conf) r
one_deeper conf Else r = else_deeper true r
one_deeper conf End r = end_deeper r
one_deeper conf (Send n delay id) r = omega arith
one_deeper conf (Cancel n) r = omega arith
