use Rattle.tables.specs.Parts.{actions_count}
use Rattle.tables.proofs.blocks.actions_in.Goals as goal

pub returns : goal.returns
returns c = actions_count _
