use Rattle.std.proofs.Common.{refl}
use Rattle.fingerprint.specs.Fingerprint.{mixed}
use Rattle.fingerprint.proofs.mix.Goals as goal

pub returns : goal.returns
returns c = mixed _ _ _ _ _ refl refl refl
