use Rattle.auttervil.specs.Exports.{runs_to}
use Rattle.auttervil.proofs.auttervil_raw3_run.Goals as goal

pub returns : goal.returns
returns c = runs_to _ _ _ _ _ c.run-ran.result _ _ c.run-ran.ensures c.status_number.ensures
