use Rattle.definition.specs.Rules.{condition_fits}
use Rattle.rules.proofs.branches.may_be_asked.Goals as goal

pub returns : goal.returns
unfolding condition_fits
returns c = rw (c.is_final.ensures, c.is_parallel.ensures, c.is_state.ensures, c.kind_of-kind.ensures)
