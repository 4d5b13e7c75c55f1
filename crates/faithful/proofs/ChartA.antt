-- The premise of demand 3 is met: chart A is compiled with answer 0.
use Rattle.std.specs.Prelude.{◌≡◌, refl, ℕ, length}
use Rattle.std.proofs.Common.{sym, ap, ◌∙◌}
use Rattle.definition.specs.declared.Answer.TheVariants.{Done}
use Rattle.definition.specs.ChartA.{numbers_a, names_a}
use Rattle.definition.specs.Rules.{compiled_size, verdict, keeps_rules}
use Rattle.definition.specs.Answers.{answer_no}
use Rattle.definition.specs.Compiled.{compiled}
use Rattle.theory.specs.MarkedRuns.{chart_a_accepted}
use Rattle.compiler.specs.Results.{Compiles}
use Rattle.compiler.specs.Theorems.{compiled_length}
use Rattle.faithful.proofs.Demand3.{Demand3, demand_3}

accepted : verdict numbers_a names_a (compiled_size numbers_a) (length names_a) ≡ Done
unfolding keeps_rules
accepted = chart_a_accepted

chart_a_compiles : Compiles numbers_a names_a (compiled numbers_a) names_a Done (compiled numbers_a) names_a
unfolding answer_no
chart_a_compiles = record {
  is = sym (ap (λ (n : ℕ). verdict numbers_a names_a n (length names_a)) (compiled_length numbers_a names_a (compiled_size numbers_a) (length names_a) (ap answer_no accepted)) ∙ accepted);
  chart = refl;
  slots = refl;
}

pub chart_a : Demand3 numbers_a names_a (compiled numbers_a) names_a
unfolding answer_no
chart_a = demand_3 numbers_a names_a (compiled numbers_a) names_a (compiled numbers_a) names_a Done chart_a_compiles refl
