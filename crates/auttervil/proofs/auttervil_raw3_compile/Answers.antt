-- `auttervil_raw3_compile`: what `compile` says, in numbers.
use Rattle.auttervil.specs.Exports.{compiles_to}
use Rattle.auttervil.proofs.auttervil_raw3_compile.Goals as goal

pub returns : goal.returns
returns c = compiles_to _ _ _ _ _ _ _ _ c.compile-answer.ensures c.answer_number.ensures
