-- Demand 3 as one theorem, from what compile left in the lent places.
use Rattle.std.specs.Prelude.{◌≡◌, Bool, true, List, ◌∷◌, ℕ, ◌<◌, length}
use Rattle.std.proofs.Math.Path.{refl, sym}
use Rattle.std.proofs.Common.{ap, ◌∙◌, arith}
use Rattle.std.proofs.Math.Option.{none}
use Rattle.definition.specs.declared.Answer.{Answer}
use Rattle.definition.specs.declared.Answer.TheVariants.{Done}
use Rattle.definition.specs.Tables.{row_count, chart_of, name_at}
use Rattle.definition.specs.Chart.{Chart}
use Rattle.definition.specs.Rules.{keeps_rules, verdict}
use Rattle.follower.specs.Blocks.{Effect}
use Rattle.definition.specs.Answers.{answer_no}
use Rattle.follower.specs.Follower.{Follower, Timed, did, round, refusal}
use Rattle.follower.specs.Calls.{Call, starts, Outcome, started_outcome, follow, follow_all, at_rest}
use Rattle.follower.specs.Legal.{WellFormed, WellTimed}
use Rattle.definition.specs.Compiled.{own_numbers, is_compiled}
use Rattle.laws.specs.Simulation.{Every, every_first}
use Rattle.laws.specs.Answers.{answer_done}
use Rattle.theory.specs.Shown.{taken_in, DisjointExits}
use Rattle.theory.specs.Theorems.{EveryAfter, start_keeps, calls_keep, all_calls_keep, round_keeps, round_disjoint}
use Rattle.chart.specs.Own.{compiled_ready}
use Rattle.compiler.specs.Results.{Compiles, verdict_sizes}
use Rattle.compiler.specs.Theorems.{names_written, place_written, check_compiled}
use Rattle.session.specs.declared.Session.{Session}
use Rattle.session.specs.declared.Clock.{Clock}
use Rattle.session.specs.Sessions.{run_of}
use Rattle.faithful.specs.Program.{Both, zeros, Step, call_all}
use Rattle.faithful.specs.Alike.{AllAlike}
use Rattle.faithful.proofs.Faithful.{Means, AlikeFormed, formed_from_start, formed_from_zeros, faithful, faithful_ended}
use Rattle.faithful.proofs.Completed.{LegalStep, step_legal, CompletedRound, completed}

-- every step of the program
abbrev pub EveryStep : (Step → Type 0) → List Step → Type 0
EveryStep P xs = Every P xs

-- what is promised of the numbers and names that were lent, and the chart and slots that compile left
pub record Demand3 (numbers names chart slots : List ℕ) : Type 0 where
  -- "for every whole list of calls": the program on the compiled chart, the plain follower on the chart's own rows
  pub alike : (b : Both) (t : Timed) (room : ℕ) (calls : List Call) →
      AllAlike (row_count numbers) (call_all chart slots b (starts room ∷ calls)) (follow_all (chart_of numbers) (name_at names) t (starts room ∷ calls))
  -- before any start too
  pub alike_ended : (calls : List Call) → AllAlike (row_count numbers) (call_all chart slots zeros calls) (follow_all (chart_of numbers) (name_at names) (at_rest (chart_of numbers)) calls)
  -- "configurations stay legal": after every call session and clock record are well formed, so its configuration is legal unless the session has ended
  pub formed : (t : Timed) (room : ℕ) (calls : List Call) → EveryAfter (WellTimed (chart_of numbers)) (follow_all (chart_of numbers) (name_at names) t (starts room ∷ calls))
  pub formed_ended : (calls : List Call) → EveryAfter (WellTimed (chart_of numbers)) (follow_all (chart_of numbers) (name_at names) (at_rest (chart_of numbers)) calls)
  -- so the configuration that each step hands back is legal unless it has ended
  pub legal : (b : Both) (room : ℕ) (calls : List Call) → EveryStep (LegalStep (chart_of numbers)) (call_all chart slots b (starts room ∷ calls))
  pub legal_ended : (calls : List Call) → EveryStep (LegalStep (chart_of numbers)) (call_all chart slots zeros calls)
  -- and after every completed round of every run, whatever session and record it is given, so of every run in a list of calls; the transitions taken in it
  -- have disjoint exit sets
  pub completed : (s : Session) (y : Clock) (rounds room k : ℕ) → k < (run_of s y chart slots rounds room).rounds → CompletedRound (chart_of numbers) chart slots s y rounds room k
  -- the same of one round of the follower: "configurations stay legal"
  pub rounds : (f : Follower) → WellFormed (chart_of numbers) f → (room : ℕ) (next : Follower) (full : Bool) (es : List Effect) →
      round (chart_of numbers) (name_at names) f ≡ did next es → refusal room next full es ≡ none → WellFormed (chart_of numbers) next
  -- "transitions taken together have disjoint exit sets"
  pub disjoint : (f next : Follower) (es : List Effect) → round (chart_of numbers) (name_at names) f ≡ did next es → DisjointExits (chart_of numbers) f (taken_in es)

module _ (numbers names place name_place_is chart slots : List ℕ) (a : Answer) (made : Compiles numbers names place name_place_is a chart slots) (z : answer_no a ≡ 0) where
  done : verdict numbers names (length place) (length name_place_is) ≡ Done
  done = sym made.is ∙ answer_done a z

  pub accepted : keeps_rules numbers names ≡ Done
  unfolding keeps_rules
  accepted = let s = verdict_sizes numbers names (length place) (length name_place_is) done in rw (← s.place, ← s.name_place_is) done

  -- the compiled chart means the chart that was lent
  pub means : Means numbers names chart slots
  means =
      let h = place_written numbers names place name_place_is chart slots a made z in
      let r = (compiled_ready chart slots h.checks).ready.tables.sized.counts.rows in
      let e = ap (λ (c : Chart). c.rows) h.read in
      record { checks = h.checks; chart_is = h.chart; slots_are = names_written numbers names place name_place_is chart slots a made z; few = omega arith }

  -- a step that is alike to a well-formed outcome is legal
  steps_legal : (x : Step) (o : Outcome) → AlikeFormed numbers names chart slots accepted means x o → LegalStep (chart_of numbers) x
  steps_legal x o h = step_legal (chart_of numbers) (row_count numbers) x o.after.follower h.0.state h.1.session

  pub demand_3 : Demand3 numbers names chart slots
  unfolding follow_all
  demand_3 = record {
    alike = faithful numbers names chart slots accepted means;
    alike_ended = faithful_ended numbers names chart slots accepted means;
    formed = λ t room calls. (unfold follow started_outcome in start_keeps numbers names accepted room, unfold follow started_outcome in calls_keep numbers names accepted calls _ (start_keeps numbers names accepted room));
    formed_ended = all_calls_keep numbers names accepted;
    legal = λ b room calls. every_first (LegalStep (chart_of numbers)) steps_legal (call_all chart slots b (starts room ∷ calls)) (follow_all (chart_of numbers) (name_at names) (at_rest (chart_of numbers)) (starts room ∷ calls)) (formed_from_start numbers names chart slots accepted means b (at_rest (chart_of numbers)) room calls);
    legal_ended = λ calls. every_first (LegalStep (chart_of numbers)) steps_legal (call_all chart slots zeros calls) (follow_all (chart_of numbers) (name_at names) (at_rest (chart_of numbers)) calls) (formed_from_zeros numbers names chart slots accepted means calls);
    completed = completed numbers names chart slots accepted means;
    rounds = round_keeps numbers names accepted;
    disjoint = round_disjoint numbers names accepted;
  }

-- of any places that pass the check behind refusal 8, over their own numbers
module _ (chart names : List ℕ) (h : is_compiled chart names ≡ true) where
  checked : Compiles (own_numbers chart) names chart names Done chart names
  unfolding answer_no
  checked = let k = check_compiled chart names h in record { is = sym (answer_done _ k.answer); chart = k.is; slots = refl }

  pub own_accepted : keeps_rules (own_numbers chart) names ≡ Done
  unfolding answer_no
  own_accepted = accepted (own_numbers chart) names chart names chart names Done checked refl

  pub own_means : Means (own_numbers chart) names chart names
  unfolding answer_no
  own_means = means (own_numbers chart) names chart names chart names Done checked refl

  pub demand_3_checked : Demand3 (own_numbers chart) names chart names
  unfolding answer_no
  demand_3_checked = demand_3 (own_numbers chart) names chart names chart names Done checked refl
