use Rattle.auttervil.specs.Exports.{steps_to}
use Rattle.auttervil.proofs.auttervil_raw3_step.Goals as goal

pub returns : goal.returns
returns c = steps_to _ _ _ _ _ _ _ _ _ c.step-stepped.result _ _ _ c.step-stepped.ensures c.answer_number.ensures c.status_number.ensures
