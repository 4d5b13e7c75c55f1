use Rattle.auttervil.specs.Exports.{starts_to}
use Rattle.auttervil.proofs.auttervil_raw3_start.Goals as goal

pub returns : goal.returns
returns c = starts_to _ _ _ _ _ c.start-started.result _ _ c.start-started.ensures c.answer_number.ensures
