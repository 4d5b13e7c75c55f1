use Rattle.definition.specs.Answers.{mode_no}
use Rattle.session.specs.Sessions.{ended_session}
use Rattle.session.proofs.Session.ended.Goals as goal

pub returns : goal.returns
unfolding ended_session mode_no
returns c = rw c.from.ensures
