use Rattle.definition.specs.Rules.{is_no_root}
use Rattle.rules.proofs.lists.is_no_root.Goals as goal

pub returns : goal.returns
unfolding is_no_root
returns c = rw (c.is_root.ensures, c.kind_of.ensures)
