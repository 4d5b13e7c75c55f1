use Rattle.gather.specs.Ids.{row_so}
use Rattle.gather.proofs.ids.is_row.Goals as goal

pub returns : goal.returns
returns c = row_so c.args.shape c.args.element
