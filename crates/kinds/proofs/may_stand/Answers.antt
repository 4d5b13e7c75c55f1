use Rattle.kinds.specs.Stands.{table_says}
use Rattle.kinds.proofs.may_stand.Goals as goal

pub returns : goal.returns
returns c = rw (c.from-p.ensures, c.from-c.ensures) (table_says _ _)
