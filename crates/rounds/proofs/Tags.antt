-- What is known of an enum where a match has left it: it is none of the variants before.
use mathlib.Core.Path.{◌≡◌, refl}
use mathlib.Core.Logic.{◌⊎◌, inl, inr}
use mathlib.Core.List.{[], ◌∷◌}
use Prim.Native.Nat.{ℕ}
use native.Mathlib.Omega.{arith}
use types.Run.{OneOf, miss}
use denote.Enum.Declared.{tag_of}
use Rattle.definition.specs.declared.Answer.{Answer}
use Rattle.events.specs.contracts.Source
use Rattle.events.specs.declared.Source as source
use Rattle.events.specs.declared.Source.TheVariants.{Nothing, Eventless, Internal, External}
use Rattle.events.specs.Left.{internal_left, external_left}
use Rattle.rounds.specs.contracts.Outcome
use Rattle.rounds.specs.declared.Outcome as outcome
use Rattle.rounds.specs.declared.Outcome.TheVariants.{Idle, Over, Refused, Did}

pub not_did : (o : outcome.Outcome) → OneOf (0 ∷ 1 ∷ 2 ∷ []) (tag_of Outcome.the_type o) → o ≡ Did → ⊥
not_did Idle h e = let z : ◌≡◌ {A = ℕ} 0 1 = cc in omega arith
not_did Over h e = let z : ◌≡◌ {A = ℕ} 0 1 = cc in omega arith
not_did (Refused a) h e = let z : ◌≡◌ {A = ℕ} 0 1 = cc in omega arith
not_did Did h e = miss (0 ∷ 1 ∷ 2 ∷ []) 3 tt h

pub not_refused : (o : outcome.Outcome) → OneOf (0 ∷ 1 ∷ 3 ∷ []) (tag_of Outcome.the_type o) → (a : Answer) → o ≡ Refused a → ⊥
not_refused Idle h a e = let z : ◌≡◌ {A = ℕ} 0 1 = cc in omega arith
not_refused Over h a e = let z : ◌≡◌ {A = ℕ} 0 1 = cc in omega arith
not_refused (Refused b) h a e = miss (0 ∷ 1 ∷ 3 ∷ []) 2 tt h
not_refused Did h a e = let z : ◌≡◌ {A = ℕ} 0 1 = cc in omega arith

pub not_nothing : (s : source.Source) → OneOf (1 ∷ 2 ∷ 3 ∷ []) (tag_of Source.the_type s) → s ≡ Nothing → ⊥
not_nothing Nothing h e = miss (1 ∷ 2 ∷ 3 ∷ []) 0 tt h
not_nothing Eventless h e = let z : ◌≡◌ {A = ℕ} 0 1 = cc in omega arith
not_nothing Internal h e = let z : ◌≡◌ {A = ℕ} 0 1 = cc in omega arith
not_nothing External h e = let z : ◌≡◌ {A = ℕ} 0 1 = cc in omega arith

pub all_left : (s : source.Source) (n : ℕ) → (s ≡ Nothing) ⊎ (s ≡ Eventless) ⊎ (s ≡ External) → n ≡ internal_left s n
unfolding internal_left
all_left s n (inl e) = rw e refl
all_left s n (inr (inl e)) = rw e refl
all_left s n (inr (inr e)) = rw e refl

pub all_out : (s : source.Source) (n : ℕ) → (s ≡ Nothing) ⊎ (s ≡ Eventless) ⊎ (s ≡ Internal) → n ≡ external_left s n
unfolding external_left
all_out s n (inl e) = rw e refl
all_out s n (inr (inl e)) = rw e refl
all_out s n (inr (inr e)) = rw e refl
