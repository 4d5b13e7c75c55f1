-- What the exports answer, in the numbers of document 01.
use Rattle.std.specs.Prelude.{◌≡◌, cond, List, ℕ, eqb, length}
use Rattle.std.proofs.Common.{ap, ◌∙◌}
use Rattle.definition.specs.declared.Answer.{Answer}
use Rattle.definition.specs.declared.Answer.TheVariants.{Done, BadChart}
use Rattle.definition.specs.Rules.{verdict}
use Rattle.definition.specs.Answers.{answer_no, status_no}
use Rattle.definition.specs.Compiled.{compiled, is_compiled}
use Rattle.compiler.specs.Results.{Compiles}
use Rattle.definition.specs.Names.{Name}
use Rattle.follower.specs.Blocks.{Effect}
use Rattle.state.specs.State.{trace_with}
use Rattle.session.specs.declared.Session.{Session}
use Rattle.session.specs.declared.Started.{Started}
use Rattle.session.specs.declared.Posted.{Posted}
use Rattle.session.specs.declared.Ran.{Ran}
use Rattle.session.specs.declared.Clock.{Clock}
use Rattle.session.specs.declared.Clocked.{Clocked}
use Rattle.session.specs.Sessions.{posted, post_of, run_of, run_effects, clocked_as}
use Rattle.lent.specs.declared.StartedIn.{StartedIn}
use Rattle.lent.specs.declared.RanIn.{RanIn}
use Rattle.lent.specs.declared.Stepped.{Stepped}
use Rattle.lent.specs.Places.{started_in, ran_in, stepped_in, Steps}
use Rattle.reading.specs.Calls.{Outcome}
use Rattle.writing.specs.Calls.{Outcome as Writing}
use Rattle.auttervil.specs.declared.ReadResult.{ReadResult}
use Rattle.auttervil.specs.declared.WriteResult.{WriteResult}
use Rattle.auttervil.specs.declared.StartResult.{StartResult}
use Rattle.auttervil.specs.declared.RunResult.{RunResult}
use Rattle.auttervil.specs.declared.StepResult.{StepResult}

-- compiling: the answer's number; and the two places afterwards, the compiled chart and its names, or what was there
pub record CompilesTo (numbers names place name_place_is : List ℕ) (answer : ℕ) (after names_after : List ℕ) : Type 0 where
  pub is : answer ≡ answer_no (verdict numbers names (length place) (length name_place_is))
  pub chart : after ≡ cond (eqb answer 0) (compiled numbers) place
  pub slots : names_after ≡ cond (eqb answer 0) names name_place_is

-- refusal 8, or none
abbrev pub chart_answer : List ℕ → List ℕ → Answer
chart_answer place names = cond (is_compiled place names) Done BadChart

pub compiles_to : (numbers names place name_place_is : List ℕ) (a : Answer) (n : ℕ) (after names_after : List ℕ) →
    Compiles numbers names place name_place_is a after names_after → n ≡ answer_no a → CompilesTo numbers names place name_place_is n after names_after
compiles_to numbers names place name_place_is a n after names_after h e =
    record { is = e ∙ ap answer_no h.is; chart = rw e h.chart; slots = rw e h.slots }

-- ---- calls of a session: the session that is left in the places, answers and statuses as numbers

pub record StartsTo (x : Started) (effects : List Effect) (old : List ℕ) (s : Session) (k : Clock) (r : StartResult) (trace : List ℕ) : Type 0 where
  pub session : s ≡ x.session
  pub clock : k ≡ x.clock
  pub answer : r.answer ≡ answer_no x.answer
  pub count : r.count ≡ x.count
  pub written : trace ≡ trace_with old effects

pub record PostsTo (x : Posted) (s : Session) (n : ℕ) : Type 0 where
  pub session : s ≡ x.session
  pub answer : n ≡ answer_no x.answer

-- a clock call (R-9)
pub record ClocksTo (x : Clocked) (s : Session) (k : Clock) (n : ℕ) : Type 0 where
  pub session : s ≡ x.session
  pub clock : k ≡ x.clock
  pub answer : n ≡ answer_no x.answer

pub record RunsTo (x : Ran) (effects : List Effect) (old : List ℕ) (s : Session) (k : Clock) (r : RunResult) (trace : List ℕ) : Type 0 where
  pub session : s ≡ x.session
  pub clock : k ≡ x.clock
  pub status : r.status ≡ status_no x.status
  pub rounds : r.rounds ≡ x.rounds
  pub count : r.count ≡ x.count
  pub written : trace ≡ trace_with old effects

-- a post and then a run
pub record StepsTo (first : Session) (record₀ : Clock) (chart names : List ℕ) (name : Name) (rounds : ℕ) (old : List ℕ) (s : Session) (k : Clock) (r : StepResult) (trace : List ℕ) : Type 0 where
  pub answered : r.answer ≡ answer_no (post_of first chart names name).answer
  pub ran : RunsTo (run_of (post_of first chart names name).session record₀ chart names rounds (length old)) (run_effects (post_of first chart names name).session record₀ chart names rounds (length old))
      old s k (record { status = r.status; rounds = r.rounds; count = r.count }) trace

pub starts_to : (x : Started) (effects : List Effect) (old : List ℕ) (s : Session) (k : Clock) (q : StartedIn) (n : ℕ) (trace : List ℕ) → (started_in s k q ≡ x) × (trace ≡ trace_with old effects) →
    n ≡ answer_no q.answer → StartsTo x effects old s k (record { answer = n; count = q.count }) trace
starts_to x effects old s k q n trace e g = record {
  session = ap (λ (y : Started). y.session) e.0;
  clock = ap (λ (y : Started). y.clock) e.0;
  answer = g ∙ ap (λ (y : Started). answer_no y.answer) e.0;
  count = ap (λ (y : Started). y.count) e.0;
  written = e.1;
}

pub posts_to : (x : Posted) (s : Session) (a : Answer) (n : ℕ) → posted s a ≡ x → n ≡ answer_no a → PostsTo x s n
posts_to x s a n e g = record { session = ap (λ (y : Posted). y.session) e; answer = g ∙ ap (λ (y : Posted). answer_no y.answer) e }

pub clocks_to : (x : Clocked) (s : Session) (k : Clock) (a : Answer) (n : ℕ) → clocked_as s k a ≡ x → n ≡ answer_no a → ClocksTo x s k n
clocks_to x s k a n e g =
    record { session = ap (λ (y : Clocked). y.session) e; clock = ap (λ (y : Clocked). y.clock) e; answer = g ∙ ap (λ (y : Clocked). answer_no y.answer) e }

pub runs_to : (x : Ran) (effects : List Effect) (old : List ℕ) (s : Session) (k : Clock) (q : RanIn) (n : ℕ) (trace : List ℕ) → (ran_in s k q ≡ x) × (trace ≡ trace_with old effects) →
    n ≡ status_no q.status → RunsTo x effects old s k (record { status = n; rounds = q.rounds; count = q.count }) trace
runs_to x effects old s k q n trace e g = record {
  session = ap (λ (y : Ran). y.session) e.0;
  clock = ap (λ (y : Ran). y.clock) e.0;
  status = g ∙ ap (λ (y : Ran). status_no y.status) e.0;
  rounds = ap (λ (y : Ran). y.rounds) e.0;
  count = ap (λ (y : Ran). y.count) e.0;
  written = e.1;
}

pub steps_to : (first : Session) (record₀ : Clock) (chart names : List ℕ) (name : Name) (rounds : ℕ) (old : List ℕ) (s : Session) (k : Clock) (q : Stepped) (n m : ℕ) (trace : List ℕ) →
    Steps first record₀ chart names name rounds old q.answer (stepped_in s k q) trace → n ≡ answer_no q.answer → m ≡ status_no q.status →
    StepsTo first record₀ chart names name rounds old s k (record { answer = n; status = m; rounds = q.rounds; count = q.count }) trace
steps_to first record₀ chart names name rounds old s k q n m trace h e g = record {
  answered = e ∙ ap answer_no h.answered;
  ran = runs_to _ _ old s k (record { status = q.status; rounds = q.rounds; count = q.count }) m trace (h.ran, h.written) g;
}

-- ---- reading a text: the result with both places behind the call

abbrev pub read_outcome : ReadResult → List ℕ → List ℕ → Outcome
read_outcome r place name_place_is = record { answer = r.answer; offset = r.offset; cells = r.cells; bytes = r.bytes; numbers = place; names = name_place_is }

-- ---- writing a chart back: the result with the buffer behind the call

abbrev pub write_outcome : WriteResult → List ℕ → Writing
write_outcome r buffer = record { answer = r.answer; length = r.length; buffer = buffer }
