use mathlib.Core.Path.{refl}
use Rattle.session.specs.Sessions.{refused_run}
use Rattle.session.proofs.Session.refused.Goals as goal

pub returns : goal.returns
unfolding refused_run
returns c = refl
