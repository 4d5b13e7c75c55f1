use Rattle.definition.specs.Tables.{chart_of}
use Rattle.tables.specs.Parts.{actions_of}
use Rattle.rules.specs.Branches.{Judging}
use Rattle.rules.proofs.branches.branches_fit.Given as goal

abbrev pub invariant-loop-k : goal.invariant-loop-k
invariant-loop-k l = Judging (chart_of l.numbers) (actions_of l.block) l.n l.ifs l.k
