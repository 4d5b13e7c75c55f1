-- R-13, first half, of the program: "a run of a rounds and then one of b", b at least 1, is the run of a + b rounds in session, clock record, trace, status and rounds, where none of the three
-- runs out of trace room. For every chart, session and clock record, whatever they hold.
use Rattle.std.specs.Prelude.{◌≡◌, true, false}
use Rattle.std.proofs.Math.Path.{sym, ap, ap₂}
use Rattle.std.proofs.Common.{◌∙◌}
use mathlib.Core.List.{List, ◌++◌}
use Prim.Native.Nat.{ℕ, suc, ◌+◌}
use Rattle.definition.specs.declared.Answer.TheVariants.{Done, NoRoom}
use Rattle.definition.specs.declared.Status.TheVariants.{Refused}
use Rattle.definition.specs.Chart.{Chart}
use Rattle.definition.specs.Tables.{row_count, chart_of, name_at}
use Rattle.definition.specs.Rules.{keeps_rules}
use Rattle.definition.specs.Compiled.{own_numbers, is_compiled}
use Rattle.follower.specs.Blocks.{Effect}
use Rattle.follower.specs.Follower.{Timed, Ran, run}
use Rattle.follower.specs.Legal.{WellTimed}
use Rattle.laws.specs.Bools.{bool_case}
use Rattle.theory.specs.Runs.{joined, cuts}
use Rattle.session.specs.declared.Session.{Session}
use Rattle.session.specs.declared.Clock.{Clock}
use Rattle.session.specs.declared.Ran as handed
use Rattle.session.specs.Sessions.{view_timed, is_timed, refused_run, ran_as, run_of, run_effects}
use Rattle.faithful.specs.Program.{joined_runs}
use Rattle.faithful.proofs.Faithful.{Means, run_by, run_effects_lem}
use Rattle.faithful.proofs.Completed.{joined_as, runs_as, effects_as, kept}
use Rattle.faithful.proofs.Demand3.{own_accepted, own_means}

-- the second run, from what the first hands back
abbrev pub second_of : handed.Ran → List ℕ → List ℕ → ℕ → ℕ → handed.Ran
second_of r chart names rounds room = run_of r.session r.clock chart names rounds room

pub record CutRun (s : Session) (y : Clock) (chart names : List ℕ) (a b room room₁ room₂ : ℕ) : Type 0 where
  pub ran : run_of s y chart names (a + suc b) room ≡ joined_runs (run_of s y chart names a room₁) (second_of (run_of s y chart names a room₁) chart names (suc b) room₂)
  pub shown : run_effects s y chart names (a + suc b) room ≡
      run_effects s y chart names a room₁ ++ run_effects (run_of s y chart names a room₁).session (run_of s y chart names a room₁).clock chart names (suc b) room₂

module _ (numbers names chart slots : List ℕ) (accepted : keeps_rules numbers names ≡ Done) (m : Means numbers names chart slots) (s : Session) (y : Clock)
    (h : is_timed (chart_of numbers) s y ≡ true) (a b room room₁ room₂ : ℕ) where
  abbrev c : Chart
  c = chart_of numbers

  abbrev f : Timed
  f = view_timed (row_count numbers) s y

  abbrev first : Ran
  first = run c (name_at names) a f room₁

  abbrev second : Ran
  second = run c (name_at names) (suc b) first.state room₂

  abbrev whole : Ran
  whole = run c (name_at names) (a + suc b) f room

  first_as : run_of s y chart slots a room₁ ≡ ran_as first
  first_as = runs_as numbers names chart slots accepted m s y h a room₁ a

  whole_as : run_of s y chart slots (a + suc b) room ≡ ran_as whole
  whole_as = runs_as numbers names chart slots accepted m s y h (a + suc b) room (a + suc b)

  well : WellTimed c first.state
  well = kept numbers names chart slots accepted m s y h a room₁ a

  second_as : second_of (run_of s y chart slots a room₁) chart slots (suc b) room₂ ≡ ran_as second
  unfolding ran_as
  second_as = rw first_as (run_by numbers names chart slots accepted m first.state well (suc b) room₂)

  second_effects : run_effects (run_of s y chart slots a room₁).session (run_of s y chart slots a room₁).clock chart slots (suc b) room₂ ≡ second.effects
  unfolding ran_as
  second_effects = rw first_as (run_effects_lem numbers names chart slots accepted m first.state well (suc b) room₂)

  module _ (h₀ : (run_of s y chart slots (a + suc b) room).status ≡ Refused NoRoom → ⊥) (h₁ : (run_of s y chart slots a room₁).status ≡ Refused NoRoom → ⊥)
      (h₂ : (second_of (run_of s y chart slots a room₁) chart slots (suc b) room₂).status ≡ Refused NoRoom → ⊥) where
    is_cut : whole ≡ joined c (name_at names) first second
    unfolding ran_as
    is_cut =
        cuts c (name_at names) a b f room room₁ room₂ (λ z. h₀ (ap (λ (r : handed.Ran). r.status) whole_as ∙ z)) (λ z. h₁ (ap (λ (r : handed.Ran). r.status) first_as ∙ z))
        (λ z. h₂ (ap (λ (r : handed.Ran). r.status) second_as ∙ z))

    passing_cut : CutRun s y chart slots a b room room₁ room₂
    passing_cut =
        let e : whole.effects ≡ first.effects ++ second.effects = unfold joined in ap (λ (r : Ran). r.effects) is_cut in
        let p = sym (effects_as numbers names chart slots accepted m s y h a room₁) in
        let q = sym second_effects in
        record {
          ran = whole_as ∙ ap ran_as is_cut ∙ joined_as first second c (name_at names) ∙ ap₂ {C = handed.Ran} (λ r q. joined_runs r q) (sym first_as) (sym second_as);
          shown = effects_as numbers names chart slots accepted m s y h (a + suc b) room ∙ e ∙ ap₂ {C = List Effect} (λ v w. v ++ w) p q;
        }

-- refused with 8 or 9 is refused with it again
refused_cut : (s : Session) (y : Clock) (chart names : List ℕ) (a b room room₁ room₂ : ℕ) → is_compiled chart names ≡ false → CutRun s y chart names a b room room₁ room₂
unfolding run_of run_effects refused_run joined_runs
refused_cut s y chart names a b room room₁ room₂ z = record { ran = rw z; shown = rw z }

unfit_cut : (s : Session) (y : Clock) (chart names : List ℕ) (a b room room₁ room₂ : ℕ) → is_compiled chart names ≡ true → is_timed (chart_of (own_numbers chart)) s y ≡ false →
    CutRun s y chart names a b room room₁ room₂
unfolding run_of run_effects refused_run joined_runs
unfit_cut s y chart names a b room room₁ room₂ z h = record { ran = rw (z, h) (rw h); shown = rw (z, h) (rw h) }

pub cut_runs : (s : Session) (y : Clock) (chart names : List ℕ) (a b room room₁ room₂ : ℕ) → ((run_of s y chart names (a + suc b) room).status ≡ Refused NoRoom → ⊥) →
    ((run_of s y chart names a room₁).status ≡ Refused NoRoom → ⊥) → ((second_of (run_of s y chart names a room₁) chart names (suc b) room₂).status ≡ Refused NoRoom → ⊥) →
    CutRun s y chart names a b room room₁ room₂
cut_runs s y chart names a b room room₁ room₂ h₀ h₁ h₂ =
    bool_case (is_compiled chart names)
    (λ z. bool_case (is_timed (chart_of (own_numbers chart)) s y)
    (λ h. passing_cut (own_numbers chart) names chart names (own_accepted chart names z) (own_means chart names z) s y h a b room room₁ room₂ h₀ h₁ h₂)
    (λ h. unfit_cut s y chart names a b room room₁ room₂ z h))
    (λ z. refused_cut s y chart names a b room room₁ room₂ z)
