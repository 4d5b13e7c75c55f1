use Rattle.std.proofs.Common.{rules}
use Rattle.fingerprint.specs.Fingerprint.{fingerprint_of_folds}
use Rattle.fingerprint.proofs.fingerprint.Goals as goal

pub returns : goal.returns
returns c = fingerprint_of_folds _ _ _ (search rules)
