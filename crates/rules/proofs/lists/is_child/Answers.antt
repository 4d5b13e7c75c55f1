use Rattle.definition.specs.Tree.{is_child}
use Rattle.rules.proofs.lists.is_child.Goals as goal

pub returns : goal.returns
unfolding is_child
returns c = rw (c.is_history.ensures, c.kind_of.ensures, c.parent_of-p.ensures)
