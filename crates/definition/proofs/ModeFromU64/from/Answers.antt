use Rattle.std.specs.Prelude.{◌≡◌, ◌≤◌, refl, ℕ, zero, suc}
use Rattle.std.proofs.Common.{arith}
use Rattle.definition.specs.declared.Mode.TheVariants.{Closing}
use Rattle.definition.specs.Answers.{mode_from}
use Rattle.definition.proofs.ModeFromU64.from.Goals as goal

past : (n : ℕ) → 2 ≤ n → Closing ≡ mode_from n
unfolding mode_from
past zero h = absurd (omega arith)
past (suc zero) h = absurd (omega arith)
past (suc (suc n)) h = refl

pub returns-in-0 : goal.returns-in-0
unfolding mode_from
returns-in-0 c = rw c.in-0.is refl

pub returns-in-1 : goal.returns-in-1
unfolding mode_from
returns-in-1 c = rw c.in-1.is refl

pub returns-in_default : goal.returns-in_default
returns-in_default c = past _ (omega arith)
