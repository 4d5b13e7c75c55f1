use mathlib.Core.Path.{ap, ◌∙◌}
use Rattle.std.proofs.Common.{ℕ}
use Rattle.definition.specs.Rows.{mem}
use Rattle.rules.proofs.Chains.{contains_mem}
use Rattle.rules.proofs.transitions.has_row.Goals as goal

pub returns : goal.returns
returns c = c.contains.ensures.value ∙ contains_mem c.from.result _ ∙ ap (λ (a : ℕ). mem a c.args.list.now) c.from.ensures
