use Rattle.auttervil.specs.Exports.{clocks_to}
use Rattle.auttervil.proofs.auttervil_raw3_advance.Goals as goal

pub returns : goal.returns
returns c = clocks_to _ _ _ _ _ c.clock-answer.ensures c.answer_number.ensures
